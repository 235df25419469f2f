use Rattle.std.proofs.Common.{sym, ap, ◌∙◌, subst}
use Rattle.std.specs.Prelude.{Ok}
use Rattle.mast_tree.specs.Judgements.{first_breach, AreRight}
use Rattle.mast_mapping.specs.Heads.{heads_judged, AreHeads}
use Rattle.mast_mapping.specs.inside.Progress.{page, ReadsMap}
use Rattle.mast_mapping.proofs.MapLemmas.{source_breaks, scope_by, heads_break, map_right}
use Rattle.mast_mapping.proofs.SliceLemmas.{first_is}
use Rattle.mast_mapping.proofs.StopLemmas.{stopped}
use Rattle.mast_mapping.proofs.doc_reader.DocReader.map.Goals as goal

pub returns-in_err-query-in-len2-up : goal.returns-in_err-query-in-len2-up
returns-in_err-query-in-len2-up c = λ texts are.
    let p = page c.args.self.now in
    let source = c.source-item.result in
    let parts = first_is c.args.items.now source c.in-len2-up.len_at_least c.source-item.is in
    subst (λ x. ReadsMap texts p c.args.tables.now c.args.line x c.args.vocab.now c.args.vocab.now c.from_residual.result) (sym parts.2)
    (stopped _ _ _ _ c.from_residual.result c.in_err-query-in-len2-up.field-0.0 c.from_residual.ensures.1
    (λ b e. source_breaks texts p c.args.tables.now c.args.line source parts.0 parts.1 c.args.vocab.now b e) (c.in_err-query-in-len2-up.ensures texts are))

pub returns-in_err-heads-in-len2-up : goal.returns-in_err-heads-in-len2-up
returns-in_err-heads-in-len2-up c = λ texts are.
    let p = page c.args.self.now in
    let source = c.source-item.result in
    let read = c.in_ok-query-in-len2-up in
    let parts = first_is c.args.items.now source c.in-len2-up.len_at_least c.source-item.is in
    let heads = c.split_at.ensures.back ∙ parts.3 in
    let by = scope_by texts p c.args.tables.now c.args.line source parts.0 parts.1 read.outputs in
    subst (λ x. ReadsMap texts p c.args.tables.now c.args.line x c.args.vocab.now c.heads.new.vocab c.from_residual-in_err-heads-in-len2-up.result) (sym parts.2)
    (stopped _ _ _ _ c.from_residual-in_err-heads-in-len2-up.result c.in_err-heads-in-len2-up.field-0.0 c.from_residual-in_err-heads-in-len2-up.ensures.1
    (λ b e. heads_break texts p c.args.tables.now c.args.line source parts.0 parts.1 read.query (read.ensures texts are).0 read.outputs (read.ensures texts are).1 c.args.vocab.now b
    (ap (λ x. first_breach c.args.vocab.now (heads_judged by x)) (sym heads) ∙ e))
    (c.in_err-heads-in-len2-up.ensures texts.dates are.dates))

pub returns-in_ok-heads-in-len2-up : goal.returns-in_ok-heads-in-len2-up
returns-in_ok-heads-in-len2-up c = λ texts are.
    let p = page c.args.self.now in
    let source = c.source-item.result in
    let read = c.in_ok-query-in-len2-up in
    let parts = first_is c.args.items.now source c.in-len2-up.len_at_least c.source-item.is in
    let heads = c.split_at.ensures.back ∙ parts.3 in
    let by = scope_by texts p c.args.tables.now c.args.line source parts.0 parts.1 read.outputs in
    let given = c.in_ok-heads-in-len2-up.ensures texts.dates are.dates in
    subst (λ x. ReadsMap texts p c.args.tables.now c.args.line x c.args.vocab.now c.heads.new.vocab
    (Ok (record { line = c.line.result; query = read.query; heads = c.in_ok-heads-in-len2-up.heads }))) (sym parts.2)
    (map_right texts p c.args.tables.now c.args.line source parts.0 parts.1 read.query (read.ensures texts are).0 read.outputs (read.ensures texts are).1
    c.args.vocab.now c.heads.new.vocab c.line.result c.in_ok-heads-in-len2-up.heads c.line.ensures
    (subst (λ x. AreRight c.args.vocab.now (heads_judged by x) c.heads.new.vocab) heads given.0)
    (subst (λ x. AreHeads c.heads.new.vocab by x c.in_ok-heads-in-len2-up.heads) heads given.1))
