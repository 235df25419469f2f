use Rattle.std.proofs.Common.{◌≡◌, ◌+◌, ◌*◌, length}
use Rattle.mast_relations.specs.Lookups.{CanLookUp}
use Rattle.mast_relations.specs.Stores.{contents}
use Rattle.mast_conditions.proofs.CollectLemmas.{IsCollected}
use Rattle.mast_conditions.proofs.collecting.+collect.Given as goal

-- only what is given was put, and all of it over the rows that were passed
abbrev pub invariant-collects_rows-loop-place : goal.invariant-collects_rows-loop-place
invariant-collects_rows-loop-place l = record {
  numbers : l.numbers.items ≡ l.fn.numbers.items;
  can : CanLookUp (contents l.relations) l.entry.relation l.entry.columns l.fn.numbers.items l.entry.places;
  collected : IsCollected (contents l.relations) l.select l.entry l.rest l.fn.numbers.items l.fn.found l.found l.place;
}

abbrev pub decreases-collects_rows-loop-place : goal.decreases-collects_rows-loop-place
decreases-collects_rows-loop-place l = l.place

abbrev pub decreases-collects : goal.decreases-collects
decreases-collects l = 3 * length l.entries.now

abbrev pub decreases-collects_rows : goal.decreases-collects_rows
decreases-collects_rows l = 3 * length l.rest.now + 2

abbrev pub decreases-collects_row : goal.decreases-collects_row
decreases-collects_row l = 3 * length l.rest.now + 1
