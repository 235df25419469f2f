use Rattle.std.proofs.Common.{◌≤◌, ◌-◌, length, sym, ap, ◌∙◌, subst}
use Rattle.std.specs.Prelude.{Err, slice_get}
use Rattle.mast_terms.specs.declared.memory.Stop.TheVariants.{Named}
use Rattle.mast_tree.specs.Layers.{shown}
use Rattle.mast_tree.specs.Said.{said}
use Rattle.mast_tree.specs.Words.{text_of}
use Rattle.mast_mapping.specs.inside.Readers.{doc_of}
use Rattle.mast_mapping.specs.inside.Sources.{ReadsSource}
use Rattle.mast_mapping.proofs.MapLemmas.{text_wrong, query_wrong, query_fine}
use Rattle.mast_mapping.proofs.QueryLemmas.{text_short}
use Rattle.mast_mapping.proofs.doc_reader.DocReader.source.Goals as goal

pub reading-requires : goal.reading-requires
reading-requires c =
    let d = doc_of c.args.self.now in
    let token = slice_get d.tokens c.in-Text.token in
    let chars = text_of d.source d.tokens c.in-Text.token in
    let same = c.as_str.ensures ∙ c.in_ok-text-in-Text.ensures.value in
    record {
      short = subst (λ x. length x ≤ c.end-end.result - 1) (sym same)
          (subst (λ n. length chars ≤ n - 1) (sym c.end-end.ensures) (text_short d.source token));
    }

pub returns-in-Err-Named : goal.returns-in-Err-Named
returns-in-Err-Named c = λ texts are.
    let d = doc_of c.args.self.now in
    let s = said d c.args.item.now in
    let chars = text_of d.source d.tokens c.in-Text.token in
    let same = c.as_str.ensures ∙ c.in_ok-text-in-Text.ensures.value in
    let says = sym c.layer.ensures ∙ ap (λ x. shown d x) c.in-Text.is in
    let h = rw c.in-Err-Named.field-0-is at c.in-Err-Named.ensures in
    let breach = c.wrong.ensures ∙ ap (λ k. Named (record { line = c.in-Text.line; kind = k })) c.in-Err-Named.kind-is in
    subst (λ x. ReadsSource texts c.args.tables.now s (Err x)) (sym breach)
    (text_wrong texts are c.args.tables.now s chars c.as_str.result.now c.in-Text.line says same c.in-Err-Named.kind h)

pub returns-in-Ok-judge_query : goal.returns-in-Ok-judge_query
returns-in-Ok-judge_query c = λ texts are.
    let d = doc_of c.args.self.now in
    let s = said d c.args.item.now in
    let chars = text_of d.source d.tokens c.in-Text.token in
    let same = c.as_str.ensures ∙ c.in_ok-text-in-Text.ensures.value in
    let says = sym c.layer.ensures ∙ ap (λ x. shown d x) c.in-Text.is in (
      query_fine texts are c.args.tables.now s chars c.as_str.result.now c.in-Text.line says same c.in-Ok.query c.in-Ok.ensures c.in-Ok-judge_query.ensures.refused,
      c.in-Ok-judge_query.ensures.outputs,
    )

pub returns-in-Err-Named-judge_query : goal.returns-in-Err-Named-judge_query
returns-in-Err-Named-judge_query c = λ texts are.
    let d = doc_of c.args.self.now in
    let s = said d c.args.item.now in
    let chars = text_of d.source d.tokens c.in-Text.token in
    let same = c.as_str.ensures ∙ c.in_ok-text-in-Text.ensures.value in
    let says = sym c.layer.ensures ∙ ap (λ x. shown d x) c.in-Text.is in
    let h = rw c.in-Err-Named-judge_query.field-0-is at c.in-Err-Named-judge_query.ensures.refused in
    let breach = c.wrong-in-Err-Named-judge_query.ensures ∙ ap (λ k. Named (record { line = c.in-Text.line; kind = k })) c.in-Err-Named-judge_query.kind-is in
    subst (λ x. ReadsSource texts c.args.tables.now s (Err x)) (sym breach)
    (query_wrong texts are c.args.tables.now s chars c.as_str.result.now c.in-Text.line says same c.in-Ok.query c.in-Err-Named-judge_query.kind c.in-Ok.ensures h)
