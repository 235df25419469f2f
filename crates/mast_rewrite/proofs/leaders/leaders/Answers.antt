use Rattle.std.proofs.Common.{◌↔◌, [], Contains, subst}
use Rattle.std.proofs.lemmas.Result.{IfOk-weaker}
use Rattle.mast_cq.specs.declared.atom.Atom.{Atom}
use Rattle.mast_rewrite.specs.inside.Leaders.{LeaderOf, Sweeps}
use Rattle.mast_rewrite.proofs.LeaderLemmas.{both_sweeps}
use Rattle.mast_rewrite.proofs.leaders.leaders.Goals as goal

pub returns : goal.returns
returns c = IfOk-weaker c.unled-2.result (λ v. Sweeps c.args.normal.now [] c.deref.result.now v.items) (λ v. (g : Atom) → Contains v.items g ↔ LeaderOf c.args.normal.now (Contains c.args.atoms.now) g)
    (λ v s. both_sweeps c.args.normal.now c.args.atoms.now c.in_ok-first.first.items c.reverse.new.self.items v.items c.requires c.in_ok-first.ensures c.reverse.ensures.items
    (subst (λ w. Sweeps c.args.normal.now [] w v.items) c.deref.ensures.value s)) c.unled-2.ensures
