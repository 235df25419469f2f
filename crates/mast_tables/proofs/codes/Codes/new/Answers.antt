use Rattle.mast_tables.proofs.CodesLemmas.{none_view, none_columns}
use Rattle.mast_tables.proofs.codes.Codes.new.Goals as goal

pub invariant_of-result : goal.invariant_of-result
invariant_of-result c = none_columns (λ v. v.items) c.in_ok-empty_columns.field-0.items c.in_ok-empty_columns.ensures.empty

pub returns-clause-none : goal.returns-clause-none
returns-clause-none c = none_view (λ v. v.items) c.in_ok-empty_columns.field-0.items c.in_ok-empty_columns.ensures.empty
