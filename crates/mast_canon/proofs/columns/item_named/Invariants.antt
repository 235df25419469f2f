use Rattle.std.proofs.Common.{◌≡◌, drop}
use Rattle.mast_mapping.specs.Columns.{item_named}
use Rattle.mast_canon.proofs.columns.item_named.Given as goal

-- the item is among those that are left
abbrev pub invariant-loop-item : goal.invariant-loop-item
invariant-loop-item l = item_named l.name (drop l.item-index l.items) ≡ item_named l.name l.items
