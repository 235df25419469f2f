-- Statements as they are sorted into the three lists of a TBox.
use Rattle.std.specs.Prelude.{◌≡◌, ◌+◌, ◌≤◌, ℕ, List, ◌++◌, length}
use Rattle.mast_tbox.specs.declared.axiom.Inclusion.{Inclusion}
use Rattle.mast_tbox.specs.declared.axiom.Lined.{Lined}
use Rattle.mast_tbox.specs.declared.axiom.Negative.{Negative}
use Rattle.mast_tbox.specs.declared.expression.Prop.{Prop}
use Rattle.mast_tbox.specs.declared.tbox.TBox.{TBox}
use Rattle.mast_onto.specs.Numbered.{put, if_inclusion, if_negative, if_functional, inclusions_in, negatives_in, functional_in, numbered}
use Rattle.mast_onto.specs.declared.numbering.Draft.{Draft}
use Rattle.mast_onto.specs.declared.statement.Statement.{Statement}

-- how many lines are sorted
abbrev pub sorted : Draft → ℕ
sorted draft = length draft.inclusions + length draft.negatives + length draft.functional

-- an inclusion is added with the next number: whatever inclusions follow, it stands before them
abbrev pub Includes : ℕ → Inclusion → Draft → Draft → Type 0
Includes line i old new =
    ((is : List (Lined Inclusion)) → new.inclusions ++ numbered new.next is ≡ old.inclusions ++ numbered old.next (put line i is))
    × (new.negatives ≡ old.negatives)
    × (new.functional ≡ old.functional)
    × (new.next ≤ old.next + 1)
    × (length new.inclusions ≡ length old.inclusions + 1)

-- a statement is added to its list: whatever follows in each of the lists, it stands before that
abbrev pub Sorts : ℕ → Statement → Draft → Draft → Type 0
Sorts line s old new =
    ((is : List (Lined Inclusion)) → new.inclusions ++ numbered new.next is ≡ old.inclusions ++ numbered old.next (if_inclusion line s is))
    × ((ns : List (Lined Negative)) → new.negatives ++ ns ≡ old.negatives ++ if_negative line s ns)
    × ((ps : List (Lined Prop)) → new.functional ++ ps ≡ old.functional ++ if_functional line s ps)
    × (new.next ≤ old.next + 1)
    × (sorted new ≡ sorted old + 1)

-- the lists are those of the statements
abbrev pub IsSorted : List (Lined Statement) → Draft → Type 0
IsSorted statements draft =
    (draft.inclusions ≡ numbered 0 (inclusions_in statements))
    × (draft.negatives ≡ negatives_in statements) × (draft.functional ≡ functional_in statements)

-- the TBox is that of the statements
pub record IsOf (statements : List (Lined Statement)) (tbox : TBox) : Type 0 where
  pub inclusions : tbox.inclusions ≡ numbered 0 (inclusions_in statements)
  pub negatives : tbox.negatives ≡ negatives_in statements
  pub functional : tbox.functional ≡ functional_in statements
