use Rattle.std.proofs.Common.{is_some, sym, subst, ◌∙◌}
use Rattle.mast_check.specs.inside.Possible.{TellsPossible}
use Rattle.mast_check.proofs.PossibleLemmas.{first_possible}
use Rattle.mast_check.proofs.possible.has_match.Goals as goal

pub returns-clause-told : goal.returns-clause-told
returns-clause-told c =
    let e = c.ready.new.self in
    let told = first_possible e c.args.atom c.in_ok-ready.ready c.in_ok-found.found (c.ready.ensures.over.wanted ∙ c.requires.wanted) c.in_ok-ready.ensures.ready c.in_ok-ready.ensures.query c.in_ok-found.ensures in
    subst (TellsPossible c.args.extensions.now.over c.args.atom) (sym c.is_some.ensures) (subst (λ o. TellsPossible o c.args.atom (is_some c.in_ok-found.found)) c.ready.ensures.over.over told)
