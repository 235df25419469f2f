use Rattle.std.proofs.Common.{sym, subst}
use Rattle.mast_relations.specs.Matches.{IsFirst}
use Rattle.mast_join.specs.Answers.{HasInSlice, IsNumberRow}
use Rattle.mast_check.specs.inside.Judging.{passes_by}
use Rattle.mast_check.specs.inside.Pieces.{terms_of}
use Rattle.mast_check.proofs.ReadyLemmas.{some_number}
use Rattle.mast_check.proofs.violated.first_in.Goals as goal

pub hit_of-requires : goal.hit_of-requires
hit_of-requires c =
    let e = c.args.extensions.now in
    let r = c.args.ready.now in
    let found = subst (IsFirst (HasInSlice e r c.args.slice.from c.args.slice.to) (passes_by e.numbered.terms c.args.violation.now.test)) c.in-Some.is c.in_ok-row.ensures in
    subst (λ row. IsNumberRow e row (terms_of r)) (sym c.as_slice.ensures) (some_number e r c.args.slice c.in-Some.row c.requires.wanted c.requires.ready found.0)
