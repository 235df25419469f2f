use Rattle.std.proofs.Common.{◌≡◌, ℕ, List, [], drop}
use Rattle.std.specs.Prelude.{Option}
use Rattle.mast_terms.specs.declared.date.Date.{Date}
use Rattle.mast_tree.specs.Constants.{AreDates}
use Rattle.mast_mapping.specs.Heads.{slots_of}
use Rattle.mast_mapping.specs.inside.Readers.{scope}
use Rattle.mast_mapping.proofs.heads.HeadReader.slots.Given as goal

-- the slots that are left make the whole with those that are read
abbrev pub invariant-loop-item : goal.invariant-loop-item
invariant-loop-item l =
    (dates : List ℕ → Option Date) → AreDates dates → slots_of (scope dates l.self) l.slots (drop l.item-index l.items) ≡ slots_of (scope dates l.self) [] l.items
