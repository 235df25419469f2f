use Rattle.std.proofs.Common.{◌≡◌, sym, subst, arith, slice_get, Some}
use Rattle.mast_cq.specs.contracts.atom.AtomPartialEq.TheImpl as atom
use Rattle.mast_tbox.specs.Closure.{AtomStep}
use Rattle.mast_tbox.specs.inside.StepLists.{steps_of}
use Rattle.mast_tbox.proofs.StepLemmas.{steps_are}
use Rattle.mast_tbox.proofs.WorkLemmas.{Widened, widened_first, widened_more, widened_by, widened_closed, past_end, before_end}
use Rattle.mast_tbox.proofs.normal_inclusions.NormalTBox.add_down.Goals as goal

pub loop-done-init : goal.loop-done-init
loop-done-init c =
    subst (Widened (steps_of c.args.self.now) c.args.set.now.keys c.args.atom c.insert.new.self.keys) (sym c.len-start.ensures.len)
    (widened_first atom.eq-value.it (λ x y. (c.atom_laws.ensures.equal x y).0) (steps_of c.args.self.now) c.args.atom c.args.set.now.keys c.insert.new.self.keys
    (λ g h i s. c.requires g h i ((steps_are c.args.self.now g h).0 s)) c.in_ok-insert.ensures.keys)

pub loop-done-preserved : goal.loop-done-preserved
loop-done-preserved c =
    let at : Some c.in-Some.next.now ≡ slice_get c.loop-done.set.keys c.loop-done.done = c.in-Some.ensures.key in
    widened_more atom.eq-value.it (λ x y. (c.atom_laws.ensures.equal x y).0) (steps_of c.args.self.now) c.args.atom c.args.set.now.keys c.loop-done.set.keys c.add_steps.new.set.keys c.loop-done.done c.in-Some.next.now c.loop-done.invariant at
    c.in_ok-add_steps.ensures (before_end c.loop-done.set.keys c.loop-done.done c.in-Some.next.now (sym at))
    (λ m i s. c.requires c.in-Some.next.now m i ((steps_are c.args.self.now c.in-Some.next.now m).0 s))

pub returns-in-None-clause-exact : goal.returns-in-None-clause-exact
returns-in-None-clause-exact c =
    widened_by atom.eq-value.it (λ x y. (c.atom_laws.ensures.equal x y).0) (steps_of c.args.self.now) (AtomStep c.args.self.now) (steps_are c.args.self.now) c.args.atom c.args.set.now.keys c.loop-done.set.keys c.loop-done.done c.loop-done.invariant
    (past_end c.loop-done.set.keys c.loop-done.done (sym c.in-None.ensures.key))

pub returns-in-None-clause-closed : goal.returns-in-None-clause-closed
returns-in-None-clause-closed c =
    widened_closed c.args.atom c.args.set.now.keys c.loop-done.set.keys c.requires
    (widened_by atom.eq-value.it (λ x y. (c.atom_laws.ensures.equal x y).0) (steps_of c.args.self.now) (AtomStep c.args.self.now) (steps_are c.args.self.now) c.args.atom c.args.set.now.keys c.loop-done.set.keys c.loop-done.done c.loop-done.invariant
    (past_end c.loop-done.set.keys c.loop-done.done (sym c.in-None.ensures.key)))

pub returns-clause-exact : goal.returns-clause-exact
returns-clause-exact c =
    widened_by atom.eq-value.it (λ x y. (c.atom_laws.ensures.equal x y).0) (steps_of c.args.self.now) (AtomStep c.args.self.now) (steps_are c.args.self.now) c.args.atom c.args.set.now.keys c.loop-done.set.keys c.loop-done.done c.loop-done.invariant
    (omega (arith, c.len-count.ensures.len))

pub returns-clause-closed : goal.returns-clause-closed
returns-clause-closed c =
    widened_closed c.args.atom c.args.set.now.keys c.loop-done.set.keys c.requires
    (widened_by atom.eq-value.it (λ x y. (c.atom_laws.ensures.equal x y).0) (steps_of c.args.self.now) (AtomStep c.args.self.now) (steps_are c.args.self.now) c.args.atom c.args.set.now.keys c.loop-done.set.keys c.loop-done.done c.loop-done.invariant
    (omega (arith, c.len-count.ensures.len)))
