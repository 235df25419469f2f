-- The parts of the document were read one after the other, by the dates of all texts.
use Rattle.mast_tree.specs.Seen.{seen}
use Rattle.mast_expressions.proofs.DateLemmas.{the_dates, are_dates}
use Rattle.mast_constr.proofs.KeptLemmas.{has_kept, has_begins}
use Rattle.mast_constr.proofs.WholeLemmas.{has_answer, front_stops, inner_stops, after_stops, has_all}
use Rattle.mast_constr.proofs.reader.read_constraints.Goals as goal

pub returns-in_err-parts-clause-exact : goal.returns-in_err-parts-clause-exact
returns-in_err-parts-clause-exact c = has_answer (seen c.args.doc.now) c.args.vocab c.from_residual.result (λ dates are.
    front_stops dates (seen c.args.doc.now) c.args.vocab _ c.from_residual.result c.in_err-parts.field-0.0 c.from_residual.ensures.1 c.in_err-parts.ensures)

pub returns-in_err-list-clause-exact : goal.returns-in_err-list-clause-exact
returns-in_err-list-clause-exact c = has_answer (seen c.args.doc.now) c.args.vocab c.from_residual-in_err-list.result (λ dates are.
    let parts = c.in_ok-parts.parts in
    inner_stops dates (seen c.args.doc.now) c.args.vocab c.constraints.new.vocab parts.prefixes parts.inside.now parts.after.now _ c.from_residual-in_err-list.result c.in_err-list.field-0.0
    c.from_residual-in_err-list.ensures.1 c.in_ok-parts.ensures (c.in_err-list.ensures dates are))

pub returns-in_err-nothing_after-clause-exact : goal.returns-in_err-nothing_after-clause-exact
returns-in_err-nothing_after-clause-exact c = has_answer (seen c.args.doc.now) c.args.vocab c.from_residual-in_err-nothing_after.result (λ dates are.
    let parts = c.in_ok-parts.parts in
    after_stops dates (seen c.args.doc.now) c.args.vocab c.constraints.new.vocab parts.prefixes parts.inside.now parts.after.now _ c.from_residual-in_err-nothing_after.result c.in_err-nothing_after.field-0.0
    c.from_residual-in_err-nothing_after.ensures.1 c.in_ok-parts.ensures (c.in_ok-list.ensures dates are).0 (c.in_err-nothing_after.ensures c.constraints.new.vocab))

pub returns-clause-exact : goal.returns-clause-exact
returns-clause-exact c =
    let parts = c.in_ok-parts.parts in (
      the_dates,
      are_dates,
      has_all the_dates (seen c.args.doc.now) c.args.vocab c.constraints.new.vocab parts.prefixes parts.inside.now parts.after.now c.in_ok-list.list
          c.in_ok-parts.ensures (c.in_ok-list.ensures the_dates are_dates) (c.in_ok-nothing_after.ensures c.constraints.new.vocab).0,
    )

pub returns-clause-begins : goal.returns-clause-begins
returns-clause-begins c =
    let parts = c.in_ok-parts.parts in
    has_begins the_dates (seen c.args.doc.now) c.args.vocab c.constraints.new.vocab c.in_ok-list.list
    (has_all the_dates (seen c.args.doc.now) c.args.vocab c.constraints.new.vocab parts.prefixes parts.inside.now parts.after.now c.in_ok-list.list
    c.in_ok-parts.ensures (c.in_ok-list.ensures the_dates are_dates) (c.in_ok-nothing_after.ensures c.constraints.new.vocab).0)

pub returns-clause-kept : goal.returns-clause-kept
returns-clause-kept c =
    let parts = c.in_ok-parts.parts in
    has_kept the_dates (seen c.args.doc.now) c.args.vocab (record { vocab = c.constraints.new.vocab; list = c.in_ok-list.list })
    (has_all the_dates (seen c.args.doc.now) c.args.vocab c.constraints.new.vocab parts.prefixes parts.inside.now parts.after.now c.in_ok-list.list
    c.in_ok-parts.ensures (c.in_ok-list.ensures the_dates are_dates) (c.in_ok-nothing_after.ensures c.constraints.new.vocab).0)
