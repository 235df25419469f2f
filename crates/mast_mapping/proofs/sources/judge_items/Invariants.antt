use Rattle.std.proofs.Common.{◌≡◌, [], ◌++◌, drop}
use Rattle.mast_mapping.specs.Queries.{items_breach}
use Rattle.mast_mapping.specs.inside.Sources.{outputs_of}
use Rattle.mast_mapping.proofs.sources.judge_items.Given as goal

-- what is wrong with the items that are left is wrong with all, and their outputs are those that are missing
abbrev pub invariant-loop-item : goal.invariant-loop-item
invariant-loop-item l =
    (items_breach l.tables l.entries l.outputs (drop l.item-index l.items) ≡ items_breach l.tables l.entries [] l.items)
    × (l.outputs ++ outputs_of (drop l.item-index l.items) ≡ outputs_of l.items)
