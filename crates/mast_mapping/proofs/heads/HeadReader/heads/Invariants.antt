use Rattle.std.proofs.Common.{ℕ, List, drop}
use Rattle.std.specs.Prelude.{Option}
use Rattle.mast_terms.specs.declared.date.Date.{Date}
use Rattle.mast_tree.specs.Constants.{AreDates}
use Rattle.mast_mapping.specs.inside.ReadHeads.{AreFar}
use Rattle.mast_mapping.specs.inside.Readers.{scope}
use Rattle.mast_mapping.proofs.heads.HeadReader.heads.Given as goal

-- so far are the heads read
abbrev pub invariant-loop-item : goal.invariant-loop-item
invariant-loop-item l =
    (dates : List ℕ → Option Date) → AreDates dates → AreFar (scope dates l.self) l.fn.vocab l.items (drop l.item-index l.items) l.heads l.vocab
