-- Everything is a world of each specification that says nothing.
use Rattle.std.proofs.Common.{◌≡◌, inl, inr, List, [], Contains, refl, subst}
use Rattle.std.specs.Prelude.{⊤}
use Rattle.mast_terms.specs.declared.term.Term.{Term}
use Rattle.mast_tables.specs.Rows.{Row}
use Rattle.mast_cq.specs.Meanings.{Fact, InClass, InRole, InAttr}
use Rattle.mast_tbox.specs.declared.axiom.Lined.{Lined}
use Rattle.mast_tbox.specs.declared.constraint.Constraint.TheVariants.{Functional, Identify, Deny}
use Rattle.mast_tbox.specs.Lists.{items}
use Rattle.mast_tbox.proofs.MemberLemmas.{none}
use Rattle.mast_canon.specs.declared.spec.Spec.{Spec}
use Rattle.mast_canon.specs.Elements.{Element, Named, map_fact}
use Rattle.mast_canon.specs.Interpretations.{Interpretation, IsTrue}
use Rattle.mast_canon.specs.KeptChoices.{kind_of}
use Rattle.mast_canon.specs.SpecLaws.{IsWorldOf}

abbrev everything : Interpretation Element
everything = record {
  class = λ a e. ⊤;
  role = λ p e f. ⊤;
  attr = λ u e v. ⊤;
  kind = kind_of [] [];
  named = Named;
  fill = λ k e. e;
}

same_term : (t u : Term) → ◌≡◌ {A = Element} (Named t) (Named u) → t ≡ u
same_term t u e = cc

true_fact : (f : Fact Term) → IsTrue everything (map_fact Named f)
true_fact (InClass a t) = tt
true_fact (InRole p t u) = tt
true_fact (InAttr u t v) = tt

nothing : {X : Type 0} (ls : List (Lined X)) (x : X) → ls ≡ [] → Contains (items ls) x → ⊥
nothing ls x e c = none x (subst (λ z. Contains (items z) x) e c)

-- everything is a world of a specification with no axiom and no constraint
pub everything_is_world : (spec : Spec) (tables : List (List Row)) → spec.tbox.inclusions ≡ [] → spec.tbox.negatives ≡ [] → spec.tbox.functional ≡ [] → spec.constraints ≡ [] → IsWorldOf everything spec tables
everything_is_world spec tables inclusions negatives functional constraints = record {
  names_differ = same_term;
  values_have_kinds = λ v. refl;
  facts_are_true = λ f h. true_fact f;
  obeys = λ i c. absurd (nothing spec.tbox.inclusions i inclusions c);
  keeps_apart = λ n c. absurd (nothing spec.tbox.negatives n negatives c);
  functional = λ p h. absurd (elim h [ inl c ↦ nothing spec.tbox.functional p functional c | inr c ↦ nothing spec.constraints (Functional p) constraints c ]);
  identified = λ b paths c. absurd (nothing spec.constraints (Identify b paths) constraints c);
  denied = λ atoms c h. nothing spec.constraints (Deny atoms) constraints c;
}
