use Rattle.std.proofs.Common.{◌≡◌, ◌++◌, drop}
use Rattle.mast_mapping.proofs.copies.copy_items.Given as goal

-- what is copied and what is left make the whole
abbrev pub invariant-loop-item : goal.invariant-loop-item
invariant-loop-item l = l.copy ++ drop l.item-index l.items ≡ l.items
