use Rattle.std.proofs.Common.{refl, subst, sym, ◌+◌, drop}
use Rattle.mast_terms.proofs.PlaceLemmas.{drop-next}
use Rattle.mast_mapping.specs.inside.ReadHeads.{AreFar}
use Rattle.mast_mapping.specs.inside.Readers.{scope}
use Rattle.mast_mapping.proofs.PartLemmas.{far_next, far_end, far_wrong}
use Rattle.mast_mapping.proofs.SliceLemmas.{nothing_left}
use Rattle.mast_mapping.proofs.StopLemmas.{stopped}
use Rattle.mast_mapping.proofs.heads.HeadReader.heads.Goals as goal

pub returns-in_err-head : goal.returns-in_err-head
returns-in_err-head c = λ dates are.
    let s = scope dates c.args.self.now in
    let l = c.loop-item in
    let items = c.args.items.now in
    let rest = drop (l.item-index + 1) items in
    let next = drop-next items items l.item-index c.item-item.result refl c.loop-item-test.true c.item-item.is in
    let far = subst (λ x. AreFar s c.args.vocab.now items x l.heads l.vocab) next (l.invariant dates are) in
    stopped _ _ _ _ c.from_residual.result c.in_err-head.field-0.0 c.from_residual.ensures.1
    (λ b e. far_wrong s c.args.vocab.now l.vocab items rest c.item-item.result l.heads b far e)
    (c.in_err-head.ensures dates are)

pub loop-item-preserved : goal.loop-item-preserved
loop-item-preserved c = λ dates are.
    let s = scope dates c.args.self.now in
    let l = c.loop-item in
    let items = c.args.items.now in
    let rest = drop (l.item-index + 1) items in
    let next = drop-next items items l.item-index c.item-item.result refl c.loop-item-test.true c.item-item.is in
    let far = subst (λ x. AreFar s c.args.vocab.now items x l.heads l.vocab) next (l.invariant dates are) in
    let read = c.in_ok-head.ensures dates are in
    subst (λ x. AreFar s c.args.vocab.now items rest x c.head.new.vocab) (sym c.in_ok-push.ensures.ok)
    (far_next s c.args.vocab.now l.vocab c.head.new.vocab items rest c.item-item.result l.heads c.in_ok-head.head far read.0 read.1)

pub returns : goal.returns
returns c = λ dates are.
    let s = scope dates c.args.self.now in
    let l = c.loop-item in
    let items = c.args.items.now in
    far_end s c.args.vocab.now l.vocab items l.heads
    (subst (λ x. AreFar s c.args.vocab.now items x l.heads l.vocab) (nothing_left items l.item-index c.loop-item-test.false) (l.invariant dates are))
