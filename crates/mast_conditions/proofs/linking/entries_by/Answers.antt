use Rattle.std.proofs.Common.{◌≡◌, ◌<◌, ◌∷◌, ◌++◌, [], List, length, get_or, take, ap, sym, subst, ◌∙◌, arith}
use Rattle.std.proofs.lemmas.List.{length-map, take_more}
use Rattle.mast_relations.specs.Matches.{Rows, nothing}
use Rattle.mast_relations.specs.Stores.{Stored, contents}
use Rattle.mast_conditions.specs.declared.condition.Entry.{Entry}
use Rattle.mast_conditions.specs.declared.span.Span.{Span}
use Rattle.mast_conditions.specs.inside.Links.{AreLinkedEntries}
use Rattle.mast_conditions.proofs.LinkLemmas.{entries_more, span_there}
use Rattle.mast_conditions.proofs.linking.entries_by.Goals as goal

pub entry_of-requires-clause-there : goal.entry_of-requires-clause-there
entry_of-requires-clause-there c =
    let l = c.loop-span in
    let d : Span = record { relation = 0; at = 0; width = 0 } in
    let is = span_there (contents c.args.relations.now) c.args.top c.args.spans.now l.span-index d c.requires c.loop-span-test.true in
    let same : length (contents l.relations) ≡ length (contents c.args.relations.now) = ap length l.invariant.contents_are in
    let lt : (get_or c.args.spans.now l.span-index d).relation < length (contents c.args.relations.now) = is.there in
    omega (arith, lt, same, length-map l.relations (λ (r : Stored). r.rows))

pub entry_of-requires-clause-wide : goal.entry_of-requires-clause-wide
entry_of-requires-clause-wide c =
    let l = c.loop-span in
    let d : Span = record { relation = 0; at = 0; width = 0 } in
    let is = span_there (contents c.args.relations.now) c.args.top c.args.spans.now l.span-index d c.requires c.loop-span-test.true in
    is.wide ∙ ap (λ (k : List Rows). (get_or k (get_or c.args.spans.now l.span-index d).relation nothing).width) (sym l.invariant.contents_are)

pub loop-span-preserved : goal.loop-span-preserved
loop-span-preserved c =
    let l = c.loop-span in
    let d : Span = record { relation = 0; at = 0; width = 0 } in
    record {
      contents_are = c.in_ok-entry_of.ensures.contents ∙ l.invariant.contents_are;
      linked = subst (λ (k : List Span). AreLinkedEntries c.args.equalities.now k c.push.new.self.items) (sym (take_more c.args.spans.now l.span-index d c.loop-span-test.true))
          (subst (λ (k : List Entry). AreLinkedEntries c.args.equalities.now (take l.span-index c.args.spans.now ++ get_or c.args.spans.now l.span-index d ∷ []) k) (sym c.in_ok-push.ensures.items)
          (entries_more c.args.equalities.now (take l.span-index c.args.spans.now) l.entries.items (get_or c.args.spans.now l.span-index d) c.in_ok-entry_of.field-0 l.invariant.linked c.in_ok-entry_of.ensures.linked));
    }
