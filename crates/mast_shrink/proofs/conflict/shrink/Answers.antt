-- What is made once is that of the specification.
use Rattle.std.proofs.Common.{sym, subst}
use Rattle.mast_check.specs.Checks.{IsBrokenBy}
use Rattle.mast_shrink.proofs.conflict.shrink.Goals as goal

pub shrink_by-requires-clause-broken : goal.shrink_by-requires-clause-broken
shrink_by-requires-clause-broken g c κs within =
    subst (λ s. IsBrokenBy s c.args.tables.now.list c.args.breach.hit.rows c.args.breach.origin) (sym c.in_ok-checking.ensures) c.requires.broken
