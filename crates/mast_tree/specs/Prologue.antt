-- The prologue of a document: its `Prefix` nodes and its main node, or the first item that is neither.
use Rattle.std.specs.Prelude.{◌≡◌, ℕ, true, List, [], ◌∷◌, ◌++◌, Some, None, Result, is_some, codes, ◌⊎◌}
use Rattle.mast_terms.specs.Answers.{Answers}
use Rattle.mast_terms.specs.declared.memory.Stop.{Stop}
use Rattle.mast_tree.specs.declared.token.Token.{Token}
use Rattle.mast_tree.specs.declared.item.Item.{Item, out-Item}
use Rattle.mast_tree.specs.declared.item.Item.TheOpen.{Item-F}
use Rattle.mast_tree.specs.declared.shape.ShapeBreach.{ShapeBreach}
use Rattle.mast_tree.specs.declared.shape.ShapeKind.TheVariants.{Shape}
use Rattle.mast_tree.specs.Prefixes.{first_of, colon_split, namespace_of}
use Rattle.mast_tree.specs.Words.{word_of, line_of}

-- a node with this word, and the items inside it
abbrev pub IsNode : List ℕ → List Token → List ℕ → Item → List Item → Type 0
IsNode source tokens word item inside = (t : ℕ) × (out-Item item ≡ Item-F.Node t inside) × (word_of source tokens t ≡ word)

-- a binding of an IRI to a prefix: the one colon of its name stands at the end
abbrev pub Binds : List ℕ → List Token → Item → List ℕ → List ℕ → Type 0
Binds source tokens item prefix iri =
    (t v : ℕ) × (out-Item item ≡ Item-F.Bind t v)
    × (colon_split (word_of source tokens t) ≡ Some (prefix, [])) × (word_of source tokens v ≡ iri)

-- a `Prefix` node, in which one binding stands
abbrev pub IsPrefixNode : List ℕ → List Token → Item → List ℕ → List ℕ → Type 0
IsPrefixNode source tokens item prefix iri =
    (only : Item) × IsNode source tokens (codes "Prefix") item (only ∷ []) × Binds source tokens only prefix iri

-- not the main node, whose word is given
abbrev pub IsOther : List ℕ → List Token → List ℕ → Item → Type 0
IsOther source tokens word item = (inside : List Item) → IsNode source tokens word item inside → ⊥

-- these items before the main node are `Prefix` nodes of these prefixes, in order
abbrev pub ArePrefixNodes : List ℕ → List Token → List ℕ → List Item → List (List ℕ × List ℕ) → Type 0
ArePrefixNodes source tokens word [] [] = Unit {0}
ArePrefixNodes source tokens word [] (e ∷ es) = ⊥
ArePrefixNodes source tokens word (item ∷ items) [] = ⊥
ArePrefixNodes source tokens word (item ∷ items) (e ∷ es) =
    IsOther source tokens word item × IsPrefixNode source tokens item e.0 e.1
    × ArePrefixNodes source tokens word items es

-- no prefix twice
abbrev pub EachOnce : List (List ℕ × List ℕ) → Type 0
EachOnce [] = Unit {0}
EachOnce (e ∷ es) = (namespace_of e.0 es ≡ None) × EachOnce es

-- the prologue: the prefixes up to the main node, which is the first node with the word
pub record IsPrologue (source : List ℕ) (tokens : List Token) (word : List ℕ) (items : List Item) (table : List (List ℕ × List ℕ)) : Type 0 where
  pub before : List Item
  pub main : Item
  pub inside : List Item
  pub after : List Item
  pub parts : items ≡ before ++ main ∷ after
  pub prefixes : ArePrefixNodes source tokens word before table
  pub once : EachOnce table
  pub node : IsNode source tokens word main inside

-- no `Prefix` node with one item, or one that binds a prefix of those before
abbrev pub IsWrongNode : List ℕ → List Token → List (List ℕ × List ℕ) → Item → Type 0
IsWrongNode source tokens table item =
    ((only : Item) → IsNode source tokens (codes "Prefix") item (only ∷ []) → ⊥)
    ⊎ ((prefix iri : List ℕ) × IsPrefixNode source tokens item prefix iri × (is_some (namespace_of prefix table) ≡ true))

-- the one item of a `Prefix` node, which binds no prefix
abbrev pub IsWrongBinding : List ℕ → List Token → Item → Item → Type 0
IsWrongBinding source tokens item only =
    IsNode source tokens (codes "Prefix") item (only ∷ []) × ((prefix iri : List ℕ) → Binds source tokens only prefix iri → ⊥)

-- what stands behind the prefixes is no main node and no further prefix, and the line of that; line 1 at the end
abbrev pub IsWrongFrom : List ℕ → List Token → List ℕ → List (List ℕ × List ℕ) → List Item → ℕ → Type 0
IsWrongFrom source tokens word table [] line = line ≡ 1
IsWrongFrom source tokens word table (item ∷ items) line =
    IsOther source tokens word item
    × ((IsWrongNode source tokens table item × (line ≡ line_of tokens (first_of item)))
    ⊎ ((only : Item) × IsWrongBinding source tokens item only × (line ≡ line_of tokens (first_of only))))

-- the first breach of the prologue: behind prefixes, each once
pub record IsPrologueBreach (source : List ℕ) (tokens : List Token) (word : List ℕ) (items : List Item) (breach : ShapeBreach) : Type 0 where
  pub before : List Item
  pub rest : List Item
  pub table : List (List ℕ × List ℕ)
  pub parts : items ≡ before ++ rest
  pub prefixes : ArePrefixNodes source tokens word before table
  pub once : EachOnce table
  pub wrong : IsWrongFrom source tokens word table rest breach.line
  pub kind : breach.kind ≡ Shape

-- the answer is the prefixes of the prologue, or its first breach
abbrev pub AnswersPrologue : List ℕ → List Token → List ℕ → List Item → Result (List (List ℕ × List ℕ)) (Stop ShapeBreach) → Type 0
AnswersPrologue source tokens word items answer = Answers answer (IsPrologue source tokens word items) (IsPrologueBreach source tokens word items)
