use Rattle.std.proofs.Common.{arith, subst}
use Rattle.mast_join.specs.Answers.{AreNumbersOf}
use Rattle.mast_certain.proofs.GainedLemmas.{gains_one, gains_same, tuple_all, tuple_more}
use Rattle.mast_certain.proofs.SetLemmas.{row_in}
use Rattle.mast_certain.proofs.tuples.add_tuples.Goals as goal

pub tuple-requires : goal.tuple-requires
tuple-requires c =
    c.requires c.row.result.now (row_in c.args.rows.now.list c.loop-number.number c.len-number-end.result c.row.result.now c.row.ensures.row c.len-number-end.ensures.len (omega (arith, c.loop-number-test.true)))

pub loop-number-preserved : goal.loop-number-preserved
loop-number-preserved c = record {
  gained = gains_one _ _ c.args.tuples.now.items c.loop-number.tuples.items c.push.new.self.items c.in_ok-tuple.tuple c.loop-number.invariant.gained c.in_ok-push.ensures.items
      (tuple_more c.args.extensions.now c.args.rows.now.list c.loop-number.number c.in_ok-tuple.tuple (omega (arith, c.loop-number-test.true, c.len-number-end.ensures.len))
      (subst (λ row. AreNumbersOf c.args.extensions.now.numbered.terms row c.in_ok-tuple.tuple) c.row.ensures.row c.in_ok-tuple.ensures));
}

pub returns : goal.returns
returns c =
    gains_same _ _ c.args.tuples.now.items c.loop-number.tuples.items c.loop-number.invariant.gained
    (tuple_all c.args.extensions.now c.args.rows.now.list c.loop-number.number (omega (arith, c.loop-number-test.false, c.len-number-end.ensures.len)))
