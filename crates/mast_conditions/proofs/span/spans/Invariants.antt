use Rattle.std.proofs.Common.{◌≡◌, map, take}
use Rattle.mast_relations.specs.Stores.{contents}
use Rattle.mast_conditions.specs.Spans.{AreSpans}
use Rattle.mast_conditions.specs.declared.span.Span.{Span}
use Rattle.mast_conditions.proofs.LinkLemmas.{end_after}
use Rattle.mast_conditions.proofs.span.spans.Given as goal

-- the spans so far, and the place behind them
abbrev pub invariant-loop-relation : goal.invariant-loop-relation
invariant-loop-relation l = record {
  tables : map (λ (span : Span). span.relation) l.spans.items ≡ take l.relation-index l.tables;
  are : AreSpans (contents l.relations) l.fn.top l.spans.items;
  at : l.at ≡ end_after l.fn.top l.spans.items;
}
