use Rattle.std.proofs.Common.{subst, sym, ◌∙◌, MatchOption}
use Rattle.mast_cq.specs.Sorts.{EachHasOneSort, IsSortBreach}
use Rattle.mast_cq.proofs.SortLemmas.{first_clash_is}
use Rattle.mast_cq.proofs.sorts.sort_breach.Goals as goal

pub returns-in-None : goal.returns-in-None
returns-in-None c =
    let atoms = c.args.query.atoms.now in
    subst (λ o. MatchOption o (EachHasOneSort atoms) (IsSortBreach atoms)) (sym c.first_clash.ensures ∙ c.in-None.is) (first_clash_is atoms)

pub returns-in-Some : goal.returns-in-Some
returns-in-Some c =
    let atoms = c.args.query.atoms.now in
    subst (λ o. MatchOption o (EachHasOneSort atoms) (IsSortBreach atoms)) (sym c.first_clash.ensures ∙ c.in-Some.is) (first_clash_is atoms)
