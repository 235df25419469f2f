use Rattle.std.proofs.Common.{subst, sym}
use Rattle.mast_join.specs.Answers.{Extended, IsReady}
use Rattle.mast_join.proofs.ReadyLemmas.{ready_on}
use Rattle.mast_join.proofs.extensions.Extensions.ready.Goals as goal

pub returns-clause-kept : goal.returns-clause-kept
returns-clause-kept c = λ ready h.
    ready_on c.self.inside.base c.self.inside.store c.made_ready.new.store c.made_ready.ensures.more ready (subst (λ (e : Extended). IsReady e ready) (sym c.self.view_is) h)
