use Rattle.std.proofs.Common.{◌≡◌, ◌+◌, ◌∷◌, ◌++◌, [], List, ℕ, map, take, ap, sym, subst, ◌∙◌}
use Rattle.std.proofs.lemmas.List.{map-append, take_more}
use Rattle.mast_relations.specs.Stores.{contents}
use Rattle.mast_conditions.specs.Spans.{AreSpans, IsSpan}
use Rattle.mast_conditions.specs.declared.span.Span.{Span}
use Rattle.mast_conditions.proofs.LinkLemmas.{end_after, end_more, spans_more}
use Rattle.mast_conditions.proofs.span.spans.Goals as goal

pub loop-relation-preserved : goal.loop-relation-preserved
loop-relation-preserved c =
    let l = c.loop-relation in
    let relations = contents c.args.relations.now in
    let next = c.in_ok-next.next in
    let items : c.push.new.self.items ≡ l.spans.items ++ next ∷ [] = c.in_ok-push.ensures.items in
    record {
      tables = ap (map (λ (span : Span). span.relation)) items ∙ map-append (λ (span : Span). span.relation) l.spans.items (next ∷ [])
          ∙ ap (λ (k : List ℕ). k ++ next.relation ∷ []) l.invariant.tables
          ∙ ap (λ (k : ℕ). take l.relation-index c.args.tables.now ++ k ∷ []) c.in_ok-next.ensures.relation
          ∙ sym (take_more c.args.tables.now l.relation-index 0 c.loop-relation-test.true);
      are = subst (λ (k : List Span). AreSpans relations c.args.top k) (sym items)
          (spans_more relations c.args.top l.spans.items next l.invariant.are (subst (λ (k : ℕ). IsSpan relations k next) l.invariant.at c.in_ok-next.ensures.there));
      at = ap (λ (k : ℕ). k + next.width) (c.in_ok-next.ensures.at ∙ l.invariant.at) ∙ sym (end_more c.args.top l.spans.items next) ∙ ap (end_after c.args.top) (sym items);
    }
