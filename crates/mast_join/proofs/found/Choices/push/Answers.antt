use Rattle.std.proofs.Common.{arith}
use Rattle.mast_join.proofs.PartsLemmas.{view_few, view_push}
use Rattle.mast_join.proofs.found.Choices.push.Goals as goal

pub overflow_add-self : goal.overflow_add-self
overflow_add-self c =
    let t = c.self.inside in
    omega (arith, view_few t.width t.count t.numbers.items c.args.self.now c.self.invariant c.self.view_is c.requires.some, t.numbers.ok, t.numbers.small)

pub returns-clause-list : goal.returns-clause-list
returns-clause-list c =
    let t = c.self.inside in
    view_push t.width t.count t.numbers.items c.args.self.now c.self.invariant c.self.view_is c.args.choice.now c.extend_from_slice.new.self.items c.requires.long c.in_ok-extend_from_slice.ensures.items
