use Rattle.std.proofs.Common.{refl, sym, ap, ◌∙◌, ◌+◌, ◌∷◌, ◌++◌, [], drop, append_assoc}
use Rattle.std.specs.Prelude.{is_some, not}
use Rattle.mast_terms.specs.Vocabularies.{stands}
use Rattle.mast_terms.proofs.PlaceLemmas.{drop-next}
use Rattle.mast_mapping.specs.Queries.{items_breach}
use Rattle.mast_mapping.specs.inside.Sources.{outputs_of}
use Rattle.mast_mapping.proofs.QueryLemmas.{item_right}
use Rattle.mast_mapping.proofs.sources.judge_items.Goals as goal

pub loop-item-preserved : goal.loop-item-preserved
loop-item-preserved c =
    let l = c.loop-item in
    let tables = c.args.tables.now in
    let entries = c.args.entries.now in
    let items = c.args.items.now in
    let item = c.item-item.result in
    let rest = drop (l.item-index + 1) items in
    let next = drop-next items items l.item-index item refl c.loop-item-test.true c.item-item.is in
    let column = ap is_some (sym c.column_kind.ensures) ∙ (c.is_none.ensures ∙ ap not c.if-is_none.false) in
    let output = ap (λ x. stands x l.outputs) (sym c.as_str.ensures) ∙ (sym c.has.ensures ∙ c.if-has.false) in
    let pushed = c.in_ok-push.ensures ∙ ap (λ a. l.outputs ++ a ∷ []) c.as_str-in-loop-item.ensures in (
      ap (λ x. items_breach tables entries x rest) pushed
          ∙ (sym (ap (λ x. items_breach tables entries l.outputs x) next ∙ item_right tables entries l.outputs item rest column output) ∙ l.invariant.0),
      ap (λ x. x ++ outputs_of rest) pushed
          ∙ (append_assoc l.outputs (item.output ∷ []) (outputs_of rest) ∙ (ap (λ x. l.outputs ++ outputs_of x) (sym next) ∙ l.invariant.1)),
    )
