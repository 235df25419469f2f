-- A list of facts has a kept interpretation, whose relations are decided.
use Rattle.std.proofs.Common.{◌≡◌, inl, inr, ◌↔◌, Bool, true, false, refl}
use Rattle.std.proofs.lemmas.Bool.{false≢true}
use Rattle.mast_terms.specs.declared.name.Name.{Name}
use Rattle.mast_terms.specs.declared.term.Term.{Term}
use Rattle.mast_cq.specs.Meanings.{Fact, InClass, InRole, InAttr}
use Rattle.mast_tbox.specs.declared.expression.Basic.TheVariants.{Class as BClass}
use Rattle.mast_tbox.specs.declared.expression.Prop.TheVariants.{Role as PRole, Attr as PAttr}
use Rattle.mast_tbox.specs.declared.expression.RoleExpr.TheVariants.{Direct}
use Rattle.mast_tbox.specs.Laws.{Decided}
use Rattle.mast_tbox.proofs.ThroughLemmas.{dec_and, dec_as}
use Rattle.mast_canon.specs.CertainAnswers.{HoldsBy}
use Rattle.mast_canon.specs.Elements.{Element, Named}
use Rattle.mast_canon.specs.Interpretations.{DecidedInterpretation, IsTrue, decided}
use Rattle.mast_canon.specs.KeptTerms.{IsKept}
use Rattle.mast_canon.specs.KeptWorlds.{OfElements}
use Rattle.mast_canon.specs.Theories.{Theory, stated}
use Rattle.mast_canon.specs.WorldLaws.{IsListed, HasKeptWorld}
use Rattle.mast_canon.proofs.DecisionLemmas.{in_decided, pair_decided, kept_decided}
use Rattle.mast_canon.proofs.KeptChoiceLemmas.{has_fill, has_kind}

-- the answer of a decided statement
abbrev test : {A : Type 0} → Decided A → Bool
test (inl a) = true
test (inr n) = false

test_is : {A : Type 0} (d : Decided A) → (test d ≡ true) ↔ A
test_is (inl a) = ((λ e. a), λ x. refl)
test_is (inr n) = ((λ e. absurd (false≢true e)), λ x. absurd (n x))

module _ (theory : Theory) (F : Fact Term → Type 0) (l : IsListed F) where
  abbrev P : Fact Element → Type 0
  P = HoldsBy theory F

  abbrev Kp : Element → Type 0
  Kp = IsKept (stated theory) P

  kept : (e : Element) → Decided (Kp e)
  kept e = kept_decided (stated theory) F l e

  class_decided : (a : Name) (e : Element) → Decided (P (InClass a e) × Kp e)
  class_decided a e = dec_and (dec_as ((λ w. w.1), λ h. (e, h)) (in_decided (stated theory) F l e (BClass a))) (kept e)

  role_decided : (p : Name) (e f : Element) → Decided (P (InRole p e f) × (Kp e × Kp f))
  role_decided p e f = dec_and (pair_decided (stated theory) F l (PRole (Direct p)) e f) (dec_and (kept e) (kept f))

  attr_decided : (v : Name) (e f : Element) → Decided (P (InAttr v e f) × (Kp e × Kp f))
  attr_decided v e f = dec_and (pair_decided (stated theory) F l (PAttr v) e f) (dec_and (kept e) (kept f))

  abbrev interpretation : DecidedInterpretation Element
  interpretation = record {
    class = λ a e. test (class_decided a e);
    role = λ p e f. test (role_decided p e f);
    attr = λ v e f. test (attr_decided v e f);
    kind = λ e. (has_kind theory.inclusions F l e).0;
    named = Named;
    fill = λ k e. (has_fill theory.inclusions F l k e).0;
  }

  kept_facts : (f : Fact Element) → IsTrue (decided interpretation) f ↔ (P f × OfElements Kp f)
  kept_facts (InClass a e) = test_is (class_decided a e)
  kept_facts (InRole p e f) = test_is (role_decided p e f)
  kept_facts (InAttr v e f) = test_is (attr_decided v e f)

  pub has_kept_world : HasKeptWorld theory F
  has_kept_world = record {
    interpretation = interpretation;
    kept = record {
      facts = kept_facts;
      names = λ t. refl;
      kinds = λ e. (has_kind theory.inclusions F l e).1;
      fillers = λ k e. (has_fill theory.inclusions F l k e).1;
    };
  }
