use Rattle.std.proofs.Common.{inl, inr, ℕ, get_or, sym, subst, arith}
use Rattle.std.proofs.lemmas.Bool.{cases_eq}
use Rattle.mast_relations.specs.Matches.{In}
use Rattle.mast_relations.proofs.ListLemmas.{each_by_place, in_get}
use Rattle.mast_relations.proofs.planning.are_among.Goals as goal

pub loop-variable-preserved : goal.loop-variable-preserved
loop-variable-preserved c = λ k lt.
    let bound = c.args.bound.now in
    let here : In (get_or c.args.variables.now c.loop-variable.variable-index 0) bound = subst (λ (n : ℕ). In n bound) c.in-Some.ensures.1 (in_get bound c.in-Some.field-0 0 c.in-Some.ensures.0) in
    elim (cases_eq k c.loop-variable.variable-index) [
      | inl e ↦ subst (λ (n : ℕ). In (get_or c.args.variables.now n 0) bound) (sym e) here
      | inr ne ↦ c.loop-variable.invariant k (omega (arith, lt, ne))
    ]

pub returns : goal.returns
returns c = λ yes. each_by_place (λ (v : ℕ). In v c.args.bound.now) 0 c.args.variables.now (λ i lt. c.loop-variable.invariant i (omega (arith, lt, c.loop-variable-test.false)))
