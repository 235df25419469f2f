-- Which lists of token kinds are documents, and where the first breach is.
use Rattle.std.specs.Prelude.{◌≡◌, ℕ, zero, suc, ◌<◌, ◌≤◌, List, [], ◌∷◌, ◌++◌, take, Some, slice_get}
use Rattle.mast_source.specs.Grammar.{UnexpectedAt}
use Rattle.mast_tree.specs.declared.item.TheConstants.{MOST_OPEN}
use Rattle.mast_tree.specs.declared.token.TokenKind.{TokenKind}
use Rattle.mast_tree.specs.declared.token.TokenKind.TheVariants.{Open, Close, Equals, Carets, Lang, Iri, Name, Str}

-- items: each constructor but the first is one item, and the items after it
pub data Items : Type 0 where
  done : Items
  name : Items → Items
  iri : Items → Items
  str : Items → Items
  str_lang : Items → Items
  str_name : Items → Items
  str_iri : Items → Items
  bind : Items → Items
  node : Items → Items → Items

-- the kinds of their tokens
abbrev pub kinds_of : Items → List TokenKind
kinds_of done = []
kinds_of (name more) = Name ∷ kinds_of more
kinds_of (iri more) = Iri ∷ kinds_of more
kinds_of (str more) = Str ∷ kinds_of more
kinds_of (str_lang more) = Str ∷ Lang ∷ kinds_of more
kinds_of (str_name more) = Str ∷ Carets ∷ Name ∷ kinds_of more
kinds_of (str_iri more) = Str ∷ Carets ∷ Iri ∷ kinds_of more
kinds_of (bind more) = Name ∷ Equals ∷ Iri ∷ kinds_of more
kinds_of (node inside more) = Name ∷ Open ∷ kinds_of inside ++ Close ∷ kinds_of more

-- the grammar: kinds, and the items that they are the tokens of
abbrev pub Spells : List TokenKind → Items → Type 0
Spells ks items = ks ≡ kinds_of items

-- these kinds are a document
abbrev pub IsDocument : List TokenKind → Type 0
IsDocument ks = (items : Items) × Spells ks items

-- how many parentheses are open after these, from some on
abbrev pub open_after : ℕ → List TokenKind → ℕ
open_after n [] = n
open_after n (Open ∷ ks) = open_after (suc n) ks
open_after zero (Close ∷ ks) = open_after zero ks
open_after (suc n) (Close ∷ ks) = open_after n ks
open_after n (k ∷ ks) = open_after n ks

-- token i is an opening parenthesis before which as many are open as may be
abbrev pub DeepAt : List TokenKind → ℕ → Type 0
DeepAt ks i = (slice_get ks i ≡ Some Open) × (open_after 0 (take i ks) ≡ MOST_OPEN)

-- whether a list of kinds is a document, and if not, where its first breach is
pub data Found : Type 0 where
  fine : Found
  unexpected : ℕ → Found
  deep : ℕ → Found

-- what is told of a list of kinds: the first breach, where the 65th parenthesis comes first at one token
abbrev pub Tells : List TokenKind → Found → Type 0
Tells ks fine = IsDocument ks × ((i : ℕ) → DeepAt ks i → ⊥)
Tells ks (unexpected i) = UnexpectedAt Spells ks i × ((j : ℕ) → j ≤ i → DeepAt ks j → ⊥)
Tells ks (deep i) = DeepAt ks i × ((j : ℕ) → j < i → DeepAt ks j → ⊥) × ((j : ℕ) → j < i → UnexpectedAt Spells ks j → ⊥)
