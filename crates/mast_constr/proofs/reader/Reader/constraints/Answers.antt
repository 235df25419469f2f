-- The constraints so far, and those of the items to come.
use Rattle.std.proofs.Common.{◌≡◌, [], drop, subst, sym, arith}
use Rattle.std.proofs.lemmas.List.{drop_all}
use Rattle.mast_constr.specs.inside.Rules.{page_in, SoFar}
use Rattle.mast_constr.proofs.LoopLemmas.{so_far_none, so_far_more, so_far_stops, so_far_all}
use Rattle.mast_constr.proofs.reader.Reader.constraints.Goals as goal

pub loop-item-init : goal.loop-item-init
loop-item-init c =
    subst (λ list. SoFar (page_in c.args.self.now) c.args.items.now c.args.items.now c.args.vocab.now c.args.vocab.now list) (sym c.new-list.ensures) (so_far_none (page_in c.args.self.now) c.args.items.now c.args.vocab.now)

pub loop-item-preserved : goal.loop-item-preserved
loop-item-preserved c =
    so_far_more (page_in c.args.self.now) c.args.items.now c.loop-item.item-index c.item-item.result c.args.vocab.now c.loop-item.vocab c.put_constraint.new.vocab c.loop-item.list c.put_constraint.new.list (omega arith) c.item-item.is
    c.loop-item.invariant c.in_ok-put_constraint.ensures

pub returns-in_err-put_constraint : goal.returns-in_err-put_constraint
returns-in_err-put_constraint c = λ dates are.
    so_far_stops (page_in c.args.self.now) c.args.items.now c.loop-item.item-index c.item-item.result c.args.vocab.now c.loop-item.vocab c.put_constraint.new.vocab c.put_constraint.new.vocab c.loop-item.list c.put_constraint.new.list _
    c.from_residual.result c.in_err-put_constraint.field-0.0 dates (omega arith) c.item-item.is c.from_residual.ensures.1 are c.loop-item.invariant c.in_err-put_constraint.ensures

pub returns : goal.returns
returns c = λ dates are.
    let none : drop c.loop-item.item-index c.args.items.now ≡ [] = drop_all c.loop-item.item-index c.args.items.now (omega arith) in
    so_far_all (page_in c.args.self.now) c.args.items.now (drop c.loop-item.item-index c.args.items.now) c.args.vocab.now c.loop-item.vocab c.loop-item.list dates are none c.loop-item.invariant
