use Rattle.std.proofs.Common.{rules, ◌≡◌, List, Bool, true, false, get_or, replicate, subst, arith}
use Rattle.mast_join.specs.inside.Partial.{open_count}
use Rattle.mast_join.proofs.EntryLemmas.{way_first, way_next, way_none, way_out}
use Rattle.mast_join.proofs.join.Join.choices.Goals as goal

pub loop-init : goal.loop-init
loop-init c =
    let made : c.in_ok-bound.bound.items ≡ replicate c.width.result false = search rules in
    way_first c.args.self.now c.in_ok-bound.bound.items c.width.result c.in_ok-choices.choices made c.width.ensures c.in_ok-choices.ensures

pub loop-preserved : goal.loop-preserved
loop-preserved c =
    way_next c.args.self.now c.loop.bound.items c.loop.counter c.loop.choices _ c.in-Some.entry c.loop.invariant
    (subst (λ (k : List Bool). get_or k c.in-Some.entry true ≡ false) c.deref.ensures.value c.in-Some.ensures.next)
    (rw c.deref-in-Some.ensures.value at c.in_ok-choices-in-Some.ensures)

pub returns-in-None : goal.returns-in-None
returns-in-None c = way_none c.args.self.now c.loop.bound.items c.loop.counter c.loop.choices c.loop.invariant (subst (λ (k : List Bool). open_count k ≡ 0) c.deref.ensures.value c.in-None.ensures.none)

pub returns : goal.returns
returns c = way_out c.args.self.now c.loop.bound.items c.loop.counter c.loop.choices c.loop.invariant (omega arith)
