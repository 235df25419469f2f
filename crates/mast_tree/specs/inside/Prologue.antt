-- The prologue of a document, read item by item.
use Rattle.std.specs.Prelude.{◌≡◌, ℕ, Bool, true, false, if◌then◌else◌, List, [], ◌∷◌, ◌++◌, Option, Some, None, Result, Ok, Err, is_some, codes}
use Rattle.std.specs.Borrow.{Bor}
use Rattle.std.specs.Str.{bytes_eq}
use Rattle.mast_tree.specs.declared.token.Token.{Token}
use Rattle.mast_tree.specs.declared.item.Item.{Item, out-Item}
use Rattle.mast_tree.specs.declared.item.Item.TheOpen.{Item-F}
use Rattle.mast_tree.specs.declared.shape.ShapeBreach.{ShapeBreach}
use Rattle.mast_tree.specs.Empty.{is_empty}
use Rattle.mast_tree.specs.Prefixes.{colon_split, namespace_of, first_in, first_of, shape_at}
use Rattle.mast_tree.specs.Words.{word_of, line_of}

-- what an item of a document's prologue is: the main node, a prefix and what it stands for, or a breach at a line
pub data Part : Type 0 where
  main : Part
  prefix : List ℕ → List ℕ → Part
  wrong : ℕ → Part

-- a name with one colon, at its end, and an IRI
abbrev pub bound : Option (List ℕ × List ℕ) → List ℕ → ℕ → Part
bound None iri line = wrong line
bound (Some p) iri line = if is_empty p.1 then prefix p.0 iri else wrong line

-- a binding of an IRI
abbrev pub binding_in : List ℕ → List Token → Item-F Item → Part
binding_in source tokens (Item-F.Bind t iri) = bound (colon_split (word_of source tokens t)) (word_of source tokens iri) (line_of tokens t)
binding_in source tokens layer = wrong (line_of tokens (first_in layer))

-- a `Prefix` node has one binding
abbrev pub one_binding : List ℕ → List Token → ℕ → List Item → Part
one_binding source tokens line (only ∷ []) = binding_in source tokens (out-Item only)
one_binding source tokens line _ = wrong line

-- what an item is, by its layer
abbrev pub part_in : List ℕ → List Token → List ℕ → Item-F Item → Part
part_in source tokens word (Item-F.Node t items) =
    if bytes_eq (word_of source tokens t) word then main
    else if bytes_eq (word_of source tokens t) (codes "Prefix") then one_binding source tokens (line_of tokens t) items
    else wrong (line_of tokens t)
part_in source tokens word layer = wrong (line_of tokens (first_in layer))

-- what is told behind the prefixes of a table, where an item is this part of a prologue
abbrev pub on_part :
    Part → ℕ → List (List ℕ × List ℕ) → (List (List ℕ × List ℕ) → Result (List (List ℕ × List ℕ)) ShapeBreach)
    → Result (List (List ℕ × List ℕ)) ShapeBreach
on_part main line table more = Ok table
on_part (wrong at) line table more = Err (shape_at at)
on_part (prefix name iri) line table more =
    if is_some (namespace_of name table) then Err (shape_at line) else more (table ++ (name, iri) ∷ [])

-- the prefixes up to the main node, after those of a table, or the first breach
abbrev pub prologue_of : List ℕ → List Token → List ℕ → List (List ℕ × List ℕ) → List Item → Result (List (List ℕ × List ℕ)) ShapeBreach
prologue_of source tokens word table [] = Err (shape_at 1)
prologue_of source tokens word table (item ∷ items) =
    on_part (part_in source tokens word (out-Item item)) (line_of tokens (first_of item)) table
    (λ more. prologue_of source tokens word more items)

-- a new prefix is put at the end, and one that is there stays as it is
abbrev pub IsAdded : Bool → List ℕ → List ℕ → List (List ℕ × List ℕ) → List (List ℕ × List ℕ) → Type 0
IsAdded true name iri old new = (namespace_of name old ≡ None) × (new ≡ old ++ (name, iri) ∷ [])
IsAdded false name iri old new = is_some (namespace_of name old) ≡ true

-- two parts of a text, lent
abbrev pub parts_of : Option (Bor (List ℕ) × Bor (List ℕ)) → Option (List ℕ × List ℕ)
parts_of None = None
parts_of (Some p) = Some (p.0.now, p.1.now)
