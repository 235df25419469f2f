use Rattle.std.proofs.Common.{refl, sym, subst, List, ℕ}
use Rattle.mast_conditions.specs.inside.Links.{AreLinked}
use Rattle.mast_conditions.proofs.linking.entry_of.Goals as goal

pub returns-clause-linked : goal.returns-clause-linked
returns-clause-linked c = record {
  relation = refl;
  linked = subst (λ (k : List ℕ). AreLinked c.args.equalities.now c.args.span k c.from_vec-2.result) (sym c.from_vec.ensures)
      (subst (λ (k : List ℕ). AreLinked c.args.equalities.now c.args.span c.links.new.columns.items k) (sym c.from_vec-2.ensures) c.in_ok-links.ensures.linked);
}
