use Rattle.std.proofs.Common.{take}
use Rattle.std.specs.List.{AllZip}
use Rattle.mast_join.specs.inside.Gathers.{IsGathered}
use Rattle.mast_join.specs.inside.Keeping.{IsKept, IsStoreMore}
use Rattle.mast_join.proofs.making.gather.Given as goal

-- what is gathered of the sources so far
abbrev pub invariant-loop-source : goal.invariant-loop-source
invariant-loop-source l = record {
  kept : IsKept l.base l.store;
  more : IsStoreMore l.fn.store l.store;
  gathered : AllZip (IsGathered l.base l.store.pool l.store.facts.items) (take l.source-index l.sources) l.all.items;
}
