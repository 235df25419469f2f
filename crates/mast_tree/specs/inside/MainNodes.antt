-- A main node as it is found.
use Rattle.std.specs.Prelude.{Option, Some, None, List}
use Rattle.std.specs.Borrow.{Bor}
use Rattle.mast_tree.specs.declared.item.Item.{Item}

-- two lists of items, lent
abbrev pub shown_main : Option (Bor (List Item) × Bor (List Item)) → Option (List Item × List Item)
shown_main None = None
shown_main (Some p) = Some (p.0.now, p.1.now)
