use Rattle.std.proofs.Common.{◌≡◌, drop}
use Rattle.std.specs.List.{list_all, list_any}
use Rattle.mast_relations.specs.Lookups.{CanLookUp}
use Rattle.mast_relations.specs.Stores.{contents}
use Rattle.mast_conditions.specs.Truth.{truth, truths}
use Rattle.mast_conditions.proofs.TruthLemmas.{Walks}
use Rattle.mast_conditions.proofs.asking.+holds.Given as goal

-- what is left is true as all are
abbrev pub invariant-all_hold-loop-condition : goal.invariant-all_hold-loop-condition
invariant-all_hold-loop-condition l = record {
  numbers : l.numbers.items ≡ l.fn.numbers.items;
  left : list_all (λ part. part l.fn.numbers.items) (truths (contents l.relations) (drop l.condition-index l.conditions))
      ≡ list_all (λ part. part l.fn.numbers.items) (truths (contents l.relations) l.conditions);
}

abbrev pub invariant-one_holds-loop-condition : goal.invariant-one_holds-loop-condition
invariant-one_holds-loop-condition l = record {
  numbers : l.numbers.items ≡ l.fn.numbers.items;
  left : list_any (λ part. part l.fn.numbers.items) (truths (contents l.relations) (drop l.condition-index l.conditions))
      ≡ list_any (λ part. part l.fn.numbers.items) (truths (contents l.relations) l.conditions);
}

-- no row that was passed makes the rest true
abbrev pub invariant-row_holds-loop-place : goal.invariant-row_holds-loop-place
invariant-row_holds-loop-place l = record {
  numbers : l.numbers.items ≡ l.fn.numbers.items;
  can : CanLookUp (contents l.relations) l.entry.relation l.entry.columns l.fn.numbers.items l.entry.places;
  walked : Walks (contents l.relations) l.entry (truth (contents l.relations) l.rest) l.fn.numbers.items l.place;
}

abbrev pub decreases-row_holds-loop-place : goal.decreases-row_holds-loop-place
decreases-row_holds-loop-place l = l.place
