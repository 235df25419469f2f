use Rattle.std.proofs.Common.{sym, subst, List, ℕ}
use Rattle.std.specs.List.{each_same}
use Rattle.mast_tables.specs.inside.Codes.{AreColumns}
use Rattle.mast_tables.proofs.CodesLemmas.{copied_columns, copied_view}
use Rattle.mast_tables.proofs.codes.Codes.copy.Goals as goal

pub invariant_of-result : goal.invariant_of-result
invariant_of-result c =
    subst (λ (columns : List (List ℕ)). AreColumns columns c.self.inside.next)
    (sym (copied_columns (λ v. v.items) _ (λ v w h. each_same v.items w.items h.0) c.self.inside.columns.items c.in_ok-clone.field-0.items c.in_ok-clone.ensures.cases.0))
    c.self.invariant

pub returns : goal.returns
returns c =
    copied_view (λ v. v.items) c.self.inside.columns.items c.in_ok-clone.field-0.items c.self.inside.next c.args.self.now
    (copied_columns (λ v. v.items) _ (λ v w h. each_same v.items w.items h.0) c.self.inside.columns.items c.in_ok-clone.field-0.items c.in_ok-clone.ensures.cases.0)
    c.self.view_is
