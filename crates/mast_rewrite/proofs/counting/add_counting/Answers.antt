use Rattle.std.proofs.Common.{◌↔◌, ◌⊎◌, Contains, List, subst}
use Rattle.mast_cq.specs.declared.atom.Atom.{Atom}
use Rattle.mast_cq.specs.declared.unifier.Met.{Met}
use Rattle.mast_rewrite.specs.inside.Leaders.{LeaderOf, WithWay}
use Rattle.mast_rewrite.proofs.WayLemmas.{pushed_lead}
use Rattle.mast_rewrite.proofs.counting.add_counting.Goals as goal

pub returns : goal.returns
returns c =
    pushed_lead c.args.normal.now c.args.g c.args.h c.args.all.now c.args.way c.in_ok-atoms.atoms.keys c.in_ok-leaders.leaders.items c.args.counting.now.items c.push_all.new.counting.items c.in_ok-atoms.ensures.exact
    (subst (λ (v : List Atom). (a : Atom) → Contains c.in_ok-leaders.leaders.items a ↔ LeaderOf c.args.normal.now (Contains v) a) c.as_slice.ensures.keys c.in_ok-leaders.ensures)
    (subst (λ (v : List Atom). (met : Met) → Contains c.push_all.new.counting.items met ↔ (Contains c.args.counting.now.items met ⊎ WithWay c.args.way v met)) c.deref.ensures.value c.in_ok-push_all.ensures)
