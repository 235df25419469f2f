-- Each axiom that is read leads on, and what stops the reading of one is the first breach.
use Rattle.std.proofs.Common.{◌+◌, drop, refl, subst}
use Rattle.std.proofs.lemmas.List.{drop_all}
use Rattle.mast_terms.proofs.PlaceLemmas.{drop-next}
use Rattle.mast_expressions.specs.Reads.{page}
use Rattle.mast_onto.specs.inside.Stating.{LeadsOn}
use Rattle.mast_onto.proofs.StatingLemmas.{on_next, on_stop, on_end}
use Rattle.mast_onto.proofs.reader.Reader.axioms.Goals as goal

pub loop-item-preserved : goal.loop-item-preserved
loop-item-preserved c =
    let page = page c.args.self.now.places in
    let l = c.loop-item in
    let next = drop-next c.args.items.now c.args.items.now l.item-index c.item-item.result refl c.loop-item-test.true c.item-item.is in
    on_next page c.args.vocab.now l.vocab c.state.new.vocab c.args.items.now (drop (l.item-index + 1) c.args.items.now) c.item-item.result l.statements.list c.state.new.statements.list
    (subst (λ xs. LeadsOn page c.args.vocab.now c.args.items.now l.vocab l.statements.list xs) next l.invariant) c.in_ok-state.ensures c.state.new.statements.bounded

pub returns-in_err-state : goal.returns-in_err-state
returns-in_err-state c =
    let page = page c.args.self.now.places in
    let l = c.loop-item in
    let next = drop-next c.args.items.now c.args.items.now l.item-index c.item-item.result refl c.loop-item-test.true c.item-item.is in
    on_stop _ page c.args.vocab.now l.vocab c.state.new.vocab c.args.items.now (drop (l.item-index + 1) c.args.items.now) c.item-item.result l.statements.list c.state.new.statements.list
    c.from_residual.result c.in_err-state.field-0.0 (subst (λ xs. LeadsOn page c.args.vocab.now c.args.items.now l.vocab l.statements.list xs) next l.invariant) c.from_residual.ensures.1 c.in_err-state.ensures

pub returns : goal.returns
returns c =
    let page = page c.args.self.now.places in
    let l = c.loop-item in
    on_end page c.args.vocab.now l.vocab c.args.items.now l.statements.list
    (subst (λ xs. LeadsOn page c.args.vocab.now c.args.items.now l.vocab l.statements.list xs) (drop_all l.item-index c.args.items.now c.loop-item-test.false) l.invariant)
