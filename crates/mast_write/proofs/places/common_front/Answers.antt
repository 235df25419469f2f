-- What both begin with.
use Rattle.std.proofs.Common.{◌≡◌, ◌∙◌, sym, subst, length, take, arith}
use Rattle.std.specs.Cmp.Lexicographic.{bytes_decides}
use Rattle.mast_write.proofs.PlaceLemmas.{begins_take}
use Rattle.mast_write.proofs.places.common_front.Goals as goal

pub returns-then-starts_with-clause-line : goal.returns-then-starts_with-clause-line
returns-then-starts_with-clause-line c =
    let front = c.args.front.now in
    let line = c.args.line.now in
    begins_take (length front) front line ((bytes_decides front (take (length front) line)).0 (sym c.starts_with.ensures.value ∙ c.if-starts_with.true))

pub returns-then-front-at-clause-line : goal.returns-then-front-at-clause-line
returns-then-front-at-clause-line c = begins_take c.loop-at.at _ c.args.line.now (c.split_at.ensures.front ∙ c.loop-at.invariant)

pub returns-clause-line : goal.returns-clause-line
returns-clause-line c =
    let e : c.loop-at.at ≡ c.min-most.result = omega (arith, c.loop-at.auto.at-end, c.loop-at-test.false) in
    begins_take c.min-most.result _ c.args.line.now (c.split_at-2.ensures.front ∙ subst (λ n. take n c.args.front.now ≡ take n c.args.line.now) e c.loop-at.invariant)
