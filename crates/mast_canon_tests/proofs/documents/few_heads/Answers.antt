-- No map is left, so the heads of all are 2,000 at most.
use Rattle.std.proofs.Common.{ap, arith}
use Rattle.std.proofs.lemmas.List.{drop_all}
use Rattle.mast_canon_tests.proofs.HeadLemmas.{heads_of, split_length}
use Rattle.mast_canon_tests.proofs.documents.few_heads.Goals as goal

pub returns : goal.returns
returns c =
    let none = drop_all c.loop-map.map-index c.args.maps.now c.loop-map-test.false in
    λ few. omega (split_length c.args.maps.now, c.loop-map.invariant, ap heads_of none, arith)
