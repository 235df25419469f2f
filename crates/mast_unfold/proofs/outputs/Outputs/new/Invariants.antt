use Rattle.std.proofs.Common.{◌≡◌, ◌≤◌, ℕ, List, length, drop}
use Rattle.std.specs.Option.{option_map}
use Rattle.mast_mapping.specs.Columns.{item_named, meaning_of_item}
use Rattle.mast_unfold.specs.inside.Lookups.{named, noted_place, place_of}
use Rattle.mast_unfold.proofs.outputs.Outputs.new.Given as goal

-- the outputs from one on are there
abbrev pub invariant-loop-left : goal.invariant-loop-left
invariant-loop-left l = record {
  within : l.left ≤ length l.items;
  are : (name : List ℕ) → noted_place (named l.by_name name) ≡ option_map place_of (meaning_of_item l.tables l.query.from (item_named name (drop l.left l.items)));
}

abbrev pub decreases-loop-left : goal.decreases-loop-left
decreases-loop-left l = l.left
