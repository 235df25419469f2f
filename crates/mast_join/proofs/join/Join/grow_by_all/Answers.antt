use Rattle.std.proofs.Common.{◌++◌, List, ℕ, [], length, get_or, drop, ap, ◌∙◌, arith}
use Rattle.std.proofs.lemmas.List.{length-take, length-append, length-drop}
use Rattle.mast_join.specs.inside.Joins.{sources}
use Rattle.mast_join.specs.inside.Partial.{kept}
use Rattle.mast_join.proofs.GrowLemmas.{grown_next, offered_all}
use Rattle.mast_join.proofs.JoinLemmas.{length-sources}
use Rattle.mast_join.proofs.join.Join.grow_by_all.Goals as goal

pub loop-number-preserved : goal.loop-number-preserved
loop-number-preserved c =
    let j = c.args.self.now in
    let i = c.loop-number.number in
    let copy = c.copy_from_slice.new.self in
    let own = get_or c.args.choices.now.list i [] in
    record {
      long = omega (arith, length-take copy.len (c.put.new.choice ++ drop (length c.put.new.choice) copy.items), length-append c.put.new.choice (drop (length c.put.new.choice) copy.items), length-drop (length c.put.new.choice) copy.items, copy.ok, c.copy_from_slice.ensures.len, c.loop-number.choice.ok, c.loop-number.invariant.long, c.put.auto.choice, c.deref_mut.ensures.len);
      width = c.in_ok-put.ensures.width;
      grown = grown_next (sources j) j.tests.items c.args.entry c.args.rows.now c.args.choices.now.list i c.args.rows.now c.loop-number.grown.list c.put.new.grown.list
          c.requires.ready (omega (arith, c.requires.there, length-sources j)) (omega (arith, c.loop-number-test.true, c.len-number-end.ensures)) c.loop-number.invariant.grown
          (offered_all (sources j) j.tests.items c.args.entry c.args.rows.now own c.requires.are_rows.once)
          (c.in_ok-put.ensures.list ∙ ap (λ (k : List ℕ). c.loop-number.grown.list ++ kept (sources j) j.tests.items k c.args.entry c.args.rows.now) (c.deref_mut.ensures.value ∙ c.copy_from_slice.ensures.items ∙ c.choice.ensures));
    }
