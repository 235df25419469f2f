use Rattle.std.proofs.Common.{arith, sym, subst, ◌∙◌}
use Rattle.mast_terms.specs.declared.memory.NoMemory.{NoMemory}
use Rattle.mast_relations.specs.Matches.{In}
use Rattle.mast_relations.specs.Stores.{HasOnlyGained}
use Rattle.mast_certain.proofs.SetLemmas.{gained_row, row_in, there_all, there_more}
use Rattle.mast_certain.proofs.tuples.add_rows.Goals as goal

pub insert-requires : goal.insert-requires
insert-requires c =
    c.requires c.row.result.now (row_in c.args.rows.now.list c.loop-number.number c.len-number-end.result c.row.result.now c.row.ensures.row c.len-number-end.ensures.len (omega (arith, c.loop-number-test.true)))
    ∙ sym c.loop-number.invariant.gained.width

pub returns-in_err-insert-clause-gained : goal.returns-in_err-insert-clause-gained
returns-in_err-insert-clause-gained c = subst (HasOnlyGained (λ row. In row c.args.rows.now.list) c.args.union.now) (sym c.in_err-insert.ensures) c.loop-number.invariant.gained

pub loop-number-preserved : goal.loop-number-preserved
loop-number-preserved c = record {
  gained = gained_row (λ row. In row c.args.rows.now.list) c.args.union.now c.loop-number.union c.insert.new.self c.row.result.now _ c.loop-number.invariant.gained
      (row_in c.args.rows.now.list c.loop-number.number c.len-number-end.result c.row.result.now c.row.ensures.row c.len-number-end.ensures.len (omega (arith, c.loop-number-test.true))) c.insert.ensures;
  there = there_more NoMemory c.args.rows.now.list c.loop-number.number c.loop-number.union c.insert.new.self c.row.result.now c.in_ok-insert.field-0 c.loop-number.invariant.there c.row.ensures.row c.in_ok-insert.ensures;
}

pub returns-clause-all : goal.returns-clause-all
returns-clause-all c = there_all c.args.rows.now.list c.loop-number.number c.loop-number.union (omega (arith, c.loop-number-test.false, c.len-number-end.ensures.len)) c.loop-number.invariant.there
