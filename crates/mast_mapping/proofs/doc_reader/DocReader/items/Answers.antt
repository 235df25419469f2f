use Rattle.std.proofs.Common.{refl, subst, ◌+◌, drop}
use Rattle.mast_terms.proofs.PlaceLemmas.{drop-next}
use Rattle.mast_tree.specs.Said.{said}
use Rattle.mast_mapping.specs.Documents.{entry_of}
use Rattle.mast_mapping.specs.inside.Progress.{page, IsFar}
use Rattle.mast_mapping.specs.inside.Readers.{doc_of}
use Rattle.mast_mapping.proofs.ProgressLemmas.{far_next, far_end, far_wrong}
use Rattle.mast_mapping.proofs.SliceLemmas.{nothing_left}
use Rattle.mast_mapping.proofs.StopLemmas.{stopped}
use Rattle.mast_mapping.proofs.doc_reader.DocReader.items.Goals as goal

pub returns-in_err-read : goal.returns-in_err-read
returns-in_err-read c = λ texts are.
    let p = page c.args.self.now in
    let l = c.loop-item in
    let items = c.args.items.now in
    let rest = drop (l.item-index + 1) items in
    let next = drop-next items items l.item-index c.item-item.result refl c.loop-item-test.true c.item-item.is in
    let far = subst (λ x. IsFar texts p c.args.vocab items x l.read) next (l.invariant texts are) in
    stopped _ _ _ _ c.from_residual.result c.in_err-read.field-0.0 c.from_residual.ensures.1
    (λ b e. far_wrong texts p c.args.vocab items rest c.item-item.result l.read l.read far b e)
    (c.in_err-read.ensures texts are)

pub loop-item-preserved : goal.loop-item-preserved
loop-item-preserved c = λ texts are.
    let p = page c.args.self.now in
    let l = c.loop-item in
    let items = c.args.items.now in
    let rest = drop (l.item-index + 1) items in
    let next = drop-next items items l.item-index c.item-item.result refl c.loop-item-test.true c.item-item.is in
    let far = subst (λ x. IsFar texts p c.args.vocab items x l.read) next (l.invariant texts are) in
    far_next texts p c.args.vocab items rest c.item-item.result l.read c.in_ok-read.read far (entry_of (said (doc_of c.args.self.now) c.item-item.result)) refl (c.in_ok-read.ensures texts are)

pub returns : goal.returns
returns c = λ texts are.
    let p = page c.args.self.now in
    let l = c.loop-item in
    let items = c.args.items.now in
    far_end texts p c.args.vocab items l.read
    (subst (λ x. IsFar texts p c.args.vocab items x l.read) (nothing_left items l.item-index c.loop-item-test.false) (l.invariant texts are))
