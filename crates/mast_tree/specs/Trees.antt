-- Which items stand for tokens.
use Rattle.std.specs.Prelude.{◌≡◌, ℕ, ◌+◌, List, [], ◌∷◌, length, map, Some, None}
use Rattle.mast_tree.specs.declared.token.TokenKind.{TokenKind}
use Rattle.mast_tree.specs.declared.token.Token.{Token}
use Rattle.mast_tree.specs.declared.item.Item.{Item}
use Rattle.mast_tree.specs.declared.item.Item.TheVariants.{Leaf, Iri, Str, Bind, Node}
use Rattle.mast_tree.specs.declared.item.TreeKind.{TreeKind}
use Rattle.mast_tree.specs.declared.item.TreeKind.TheVariants.{Unexpected, Deep}
use Rattle.mast_tree.specs.declared.item.TreeBreach.{TreeBreach}
use Rattle.mast_tree.specs.Grammar.{Items, done, name, iri, str, str_lang, str_name, str_iri, bind, node, kinds_of, DeepAt, Found, unexpected, deep, Tells}

-- the items of a tree, the first token of which has that number
abbrev pub items_from : ℕ → Items → List Item
items_from n done = []
items_from n (name more) = Leaf n ∷ items_from (n + 1) more
items_from n (iri more) = Iri n ∷ items_from (n + 1) more
items_from n (str more) = Str n None ∷ items_from (n + 1) more
items_from n (str_lang more) = Str n (Some (n + 1)) ∷ items_from (n + 2) more
items_from n (str_name more) = Str n (Some (n + 2)) ∷ items_from (n + 3) more
items_from n (str_iri more) = Str n (Some (n + 2)) ∷ items_from (n + 3) more
items_from n (bind more) = Bind n (n + 2) ∷ items_from (n + 3) more
items_from n (node inside more) = Node n (items_from (n + 2) inside) ∷ items_from (n + 2 + length (kinds_of inside) + 1) more

-- items stand for tokens of these kinds
abbrev pub Stand : List TokenKind → List Item → Type 0
Stand ks items = (tree : Items) × (ks ≡ kinds_of tree) × (items ≡ items_from 0 tree)

-- the kinds of tokens
abbrev pub kinds : List Token → List TokenKind
kinds tokens = map (λ (t : Token). t.kind) tokens

-- a document: items stand for the tokens, and no parenthesis is the 65th open one
abbrev pub IsTree : List Token → List Item → Type 0
IsTree tokens items = Stand (kinds tokens) items × ((i : ℕ) → DeepAt (kinds tokens) i → ⊥)

-- what a breach tells
abbrev pub found_of : TreeKind → ℕ → Found
found_of Unexpected i = unexpected i
found_of Deep i = deep i

-- the first breach of the grammar
abbrev pub IsTreeBreach : List Token → TreeBreach → Type 0
IsTreeBreach tokens breach = Tells (kinds tokens) (found_of breach.kind breach.token)
