use Rattle.std.proofs.Common.{◌*◌, take, drop, ap, length, ◌∙◌, arith}
use Rattle.mast_join.proofs.PartsLemmas.{view_within, view_part}
use Rattle.mast_join.proofs.found.Choices.choice.Goals as goal

pub overflow_mul-number : goal.overflow_mul-number
overflow_mul-number c =
    let t = c.self.inside in
    omega (arith, view_within t.width t.count t.numbers.items c.args.self.now c.self.invariant c.self.view_is c.args.number c.requires, t.numbers.ok, t.numbers.small)

pub split_at-requires : goal.split_at-requires
split_at-requires c =
    let t = c.self.inside in
    omega (arith, view_within t.width t.count t.numbers.items c.args.self.now c.self.invariant c.self.view_is c.args.number c.requires, ap length c.as_slice.ensures.value)

pub split_at-requires-2 : goal.split_at-requires-2
split_at-requires-2 c =
    let t = c.self.inside in
    omega (arith, view_within t.width t.count t.numbers.items c.args.self.now c.self.invariant c.self.view_is c.args.number c.requires, ap length c.as_slice.ensures.value, c.split_at.ensures.back_len)

pub returns : goal.returns
returns c =
    let t = c.self.inside in
    c.split_at-2.ensures.front ∙ ap (take t.width) (c.split_at.ensures.back ∙ ap (drop (c.args.number * t.width)) c.as_slice.ensures.value)
    ∙ view_part t.width t.count t.numbers.items c.args.self.now c.self.invariant c.self.view_is c.args.number c.requires
