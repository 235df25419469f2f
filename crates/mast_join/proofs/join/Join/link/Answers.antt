use Rattle.std.proofs.Common.{List, subst}
use Rattle.mast_cq.specs.Queries.{In}
use Rattle.mast_join.specs.declared.comparisons.Test.{Test}
use Rattle.std.proofs.lemmas.Option.{IfSome_then}
use Rattle.mast_join.proofs.OnceLemmas.{in_read}
use Rattle.mast_join.proofs.join.Join.link.Goals as goal

pub returns-then-is_some : goal.returns-then-is_some
returns-then-is_some c =
    IfSome_then c.link_of-link.result c.link_of-link.ensures (λ x p. record {
      test = c.test-item.result;
      among = subst (λ (k : List Test). In c.test-item.result k) c.deref-test-items.ensures.value (in_read c.deref-test-items.result.now c.loop-test.test-index c.test-item.result c.loop-test-test.true c.test-item.is);
      of = p;
    })
