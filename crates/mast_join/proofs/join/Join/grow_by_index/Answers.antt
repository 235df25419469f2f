use Rattle.std.proofs.Common.{◌≡◌, ◌<◌, ◌++◌, List, ℕ, [], length, get_or, drop, ap, subst, ◌∙◌, arith}
use Rattle.std.proofs.lemmas.List.{length-take, length-append, length-drop, get_or_read}
use Rattle.mast_tables.specs.Rows.{cell_at}
use Rattle.mast_join.specs.inside.Grows.{NeedsLink}
use Rattle.mast_join.specs.inside.Joins.{sources}
use Rattle.mast_join.specs.inside.Lookups.{IsFound}
use Rattle.mast_join.specs.inside.Partial.{kept}
use Rattle.mast_join.proofs.EntryLemmas.{choice_at, choice_long}
use Rattle.mast_join.proofs.GrowLemmas.{grown_next, offered_found}
use Rattle.mast_join.proofs.JoinLemmas.{length-sources}
use Rattle.mast_join.proofs.LookupLemmas.{found_rows}
use Rattle.mast_join.proofs.join.Join.grow_by_index.Goals as goal

pub put-requires-clause-rows : goal.put-requires-clause-rows
put-requires-clause-rows c =
    rw c.deref.ensures.value (found_rows c.args.index.now _ c.find_rows.new.found.items (sources c.args.self.now) c.args.entry c.in_ok-find_rows.ensures.found c.requires.can.are_rows)

pub loop-number-preserved : goal.loop-number-preserved
loop-number-preserved c =
    let j = c.args.self.now in
    let i = c.loop-number.number in
    let copy = c.copy_from_slice.new.self in
    let own = get_or c.args.choices.now.list i [] in
    let found = c.find_rows.new.found.items in
    let l = c.loop-number.invariant.lookup in
    let f = c.in_ok-find_rows.ensures in
    let lt : i < length c.args.choices.now.list = omega (arith, c.loop-number-test.true, c.len-number-end.ensures) in
    let same : copy.items ≡ own = c.copy_from_slice.ensures.items ∙ c.choice.ensures in
    let there : c.args.link.other < length copy.items = omega (arith, c.requires.linked.other_there, ap length same, choice_long j c.args.entry c.args.index.now.rows.now c.args.choices.now i c.requires.can lt) in
    let row : c.index.result.now ≡ get_or own c.args.link.other 0 = get_or_read copy.items c.args.link.other c.index.result.now there c.index.ensures 0 ∙ ap (λ (k : List ℕ). get_or k c.args.link.other 0) same in
    record {
      lookup = record { index_is = l.index_is; numbers_are = f.numbers; to = f.same ∙ l.to; own = l.own; column = l.column; from = f.from ∙ l.from; other_column = f.column ∙ l.other_column };
      long = omega (arith, length-take copy.len (c.put.new.choice ++ drop (length c.put.new.choice) copy.items), length-append c.put.new.choice (drop (length c.put.new.choice) copy.items), length-drop (length c.put.new.choice) copy.items, copy.ok, c.copy_from_slice.ensures.len, c.loop-number.choice.ok, c.loop-number.invariant.long, c.put.auto.choice, c.deref_mut.ensures.len);
      width = c.in_ok-put.ensures.width;
      grown = grown_next (sources j) j.tests.items c.args.entry c.args.index.now.rows.now c.args.choices.now.list i found c.loop-number.grown.list c.put.new.grown.list
          c.requires.can.ready (omega (arith, c.requires.can.there, length-sources j)) lt c.loop-number.invariant.grown
          (offered_found j c.args.entry c.args.link c.args.index.now c.loop-number.numbers own found l c.requires.can.are_rows.once
          (choice_at (NeedsLink j c.args.entry c.args.link c.args.index.now.rows.now) c.args.choices.now.list i c.requires.linked.needs lt)
          (subst (λ (k : ℕ). IsFound c.args.index.now (cell_at c.loop-number.numbers.from.now k c.loop-number.numbers.column) found) row f.found))
          (c.in_ok-put.ensures.list
          ∙ ap (λ (k : List ℕ). c.loop-number.grown.list ++ kept (sources j) j.tests.items k c.args.entry c.deref.result.now) (c.deref_mut.ensures.value ∙ same)
          ∙ ap (λ (k : List ℕ). c.loop-number.grown.list ++ kept (sources j) j.tests.items own c.args.entry k) c.deref.ensures.value);
    }
