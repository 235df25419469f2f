use Rattle.std.proofs.Common.{refl, sym, ap, ◌∙◌, ◌+◌, ◌∷◌, ◌++◌, [], drop}
use Rattle.std.proofs.lemmas.List.{map-append}
use Rattle.mast_terms.proofs.PlaceLemmas.{drop-next}
use Rattle.mast_tables.specs.declared.declaration.Column.{Column}
use Rattle.mast_tree.specs.Said.{said}
use Rattle.mast_mapping.specs.Declarations.{column_of, with_column, columns_of}
use Rattle.mast_mapping.specs.inside.Declared.{names_of}
use Rattle.mast_mapping.specs.inside.Indices.{column_kinds}
use Rattle.mast_mapping.specs.inside.Readers.{doc_of}
use Rattle.mast_mapping.proofs.IndexLemmas.{names_of_kinds}
use Rattle.mast_mapping.proofs.StopLemmas.{stopped}
use Rattle.mast_mapping.proofs.doc_reader.DocReader.columns.Goals as goal

pub returns-in_err-column : goal.returns-in_err-column
returns-in_err-column c =
    let d = doc_of c.args.self.now in
    let l = c.loop-item in
    let rest = drop (l.item-index + 1) c.args.items.now in
    let next = drop-next c.args.items.now c.args.items.now l.item-index c.item-item.result refl c.loop-item-test.true c.item-item.is in
    let names = ap (λ k. names_of k) l.invariant.1 ∙ names_of_kinds l.columns in
    stopped _ _ _ _ c.from_residual.result c.in_err-column.field-0.0 c.from_residual.ensures.1
    (λ b e. sym l.invariant.0 ∙ (ap (λ x. columns_of d l.columns x) next
    ∙ ap (λ r. with_column l.columns r (λ more. columns_of d more rest)) (ap (λ n. column_of d n (said d c.item-item.result)) (sym names) ∙ e)))
    c.in_err-column.ensures

pub loop-item-preserved : goal.loop-item-preserved
loop-item-preserved c =
    let d = doc_of c.args.self.now in
    let l = c.loop-item in
    let rest = drop (l.item-index + 1) c.args.items.now in
    let next = drop-next c.args.items.now c.args.items.now l.item-index c.item-item.result refl c.loop-item-test.true c.item-item.is in
    let names = ap (λ k. names_of k) l.invariant.1 ∙ names_of_kinds l.columns in
    let column = c.in_ok-column.column in (
      ap (λ x. columns_of d x rest) c.in_ok-push-2.ensures.ok
          ∙ (sym (ap (λ x. columns_of d l.columns x) next
          ∙ ap (λ r. with_column l.columns r (λ more. columns_of d more rest)) (ap (λ n. column_of d n (said d c.item-item.result)) (sym names) ∙ c.in_ok-column.ensures))
          ∙ l.invariant.0),
      c.in_ok-push.ensures ∙ (ap (λ n. l.kinds ++ (n, column.kind) ∷ []) c.as_str.ensures
          ∙ (ap (λ k. k ++ (column.name, column.kind) ∷ []) l.invariant.1
          ∙ (sym (map-append (λ (x : Column). (x.name, x.kind)) l.columns (column ∷ [])) ∙ ap column_kinds (sym c.in_ok-push-2.ensures.ok)))),
    )
