use Rattle.std.proofs.Common.{◌≡◌, ◌-◌, ◌<◌, ℕ, length, get_or, refl, ap, ◌∙◌, arith}
use Rattle.std.proofs.lemmas.List.{get_or_read}
use Rattle.mast_join.specs.inside.Lookups.{scattered}
use Rattle.mast_join.proofs.IndexLemmas.{walked_first, walked_next, walked_smaller}
use Rattle.mast_join.proofs.index.Index.find.Goals as goal

pub loop-place-init : goal.loop-place-init
loop-place-init c =
    let i = c.args.self.now in
    let size : c.len.result ≡ length i.heads.items = omega (arith, c.len.ensures, i.heads.ok) in
    let lt : c.scatter.result < length i.heads.items = omega (arith, c.scatter.ensures.below, size) in
    walked_first i c.requires c.args.number c.args.found.now.items c.index.result.now c.scatter.result (c.scatter.ensures.value ∙ ap (λ (k : ℕ). scattered k c.args.number) size) lt
    (get_or_read i.heads.items c.scatter.result c.index.result.now lt c.index.ensures 0)

pub loop-place-smaller : goal.loop-place-smaller
loop-place-smaller c =
    let i = c.args.self.now in
    let w = c.loop-place.invariant in
    walked_smaller i c.requires c.args.number c.args.found.now.items c.loop-place.found.items c.loop-place.place c.index-in-loop-place.result.now w c.loop-place-test.true
    (get_or_read i.nexts.items (c.loop-place.place - 1) c.index-in-loop-place.result.now (omega (arith, w.within, c.requires.indexed.long, c.loop-place-test.true)) c.index-in-loop-place.ensures 0)

pub loop-place-preserved : goal.loop-place-preserved
loop-place-preserved c =
    let i = c.args.self.now in
    let w = c.loop-place.invariant in
    walked_next i c.requires c.args.number c.args.found.now.items c.loop-place.found.items c.push.new.self.items c.loop-place.place c.index-in-loop-place.result.now (get_or i.rows.now (c.loop-place.place - 1) 0) w c.loop-place-test.true refl c.in_ok-push.ensures.items
    (get_or_read i.nexts.items (c.loop-place.place - 1) c.index-in-loop-place.result.now (omega (arith, w.within, c.requires.indexed.long, c.loop-place-test.true)) c.index-in-loop-place.ensures 0)
