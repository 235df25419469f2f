-- Rewriting is sound: each tuple that a member of the closure of a query has through Down, the query has over the facts that hold.
use Rattle.std.proofs.Common.{◌≡◌, ℕ, List, [], ◌∷◌, map, sym, refl, ap, subst}
use Rattle.mast_terms.specs.declared.term.Term.{Term}
use Rattle.mast_cq.specs.declared.query.Cq.{Cq}
use Rattle.mast_cq.specs.Meanings.{Fact, Gives, MetBy, HasTuple}
use Rattle.mast_cq.proofs.StepLemmas.{step_sound}
use Rattle.mast_tbox.specs.declared.axiom.Inclusion.{Inclusion}
use Rattle.mast_tbox.specs.Lists.{Reaches, itself, onward}
use Rattle.mast_canon.specs.CertainAnswers.{MetThrough, HasThrough}
use Rattle.mast_canon.specs.Derivations.{Holds}
use Rattle.mast_canon.specs.Elements.{Element, Named}
use Rattle.mast_canon.proofs.ImageLemmas.{gives_map}
use Rattle.mast_canon.proofs.SupportLemmas.{each_weaker}
use Rattle.mast_canon.proofs.ThroughLemmas.{down_up, through_up}
use Rattle.mast_rewrite.specs.Closures.{ClosureStep}

map_same : {X : Type 0} (xs : List X) → map (λ x. x) xs ≡ xs
map_same [] = refl
map_same (x ∷ xs) = ap (λ ys. x ∷ ys) (map_same xs)

module _ (tbox : List Inclusion) (F : Fact Term → Type 0) where
  -- a step of the closure adds no tuple, over elements of any kind of constants
  pub step_adds_none : (constant : ℕ → Element) (q r : Cq) (tuple : List Element) → ClosureStep tbox q r → HasTuple constant (Holds tbox F) r tuple → HasTuple constant (Holds tbox F) q tuple
  step_adds_none constant q r tuple step h =
      let m = step.counts.is_meeting in
      step_sound constant (Holds tbox F) q step.g step.h m.left m.right step.others step.by tuple step.two m.meets
      (λ s w. down_up tbox constant s F step.g m.left m.left_below w) (λ s w. down_up tbox constant s F step.h m.right m.right_below w)
      (subst (λ k. HasTuple constant (Holds tbox F) k tuple) step.gives h)

  -- so steps add none
  pub steps_add_none : (constant : ℕ → Element) (q r : Cq) (tuple : List Element) → Reaches (ClosureStep tbox) q r → HasTuple constant (Holds tbox F) r tuple → HasTuple constant (Holds tbox F) q tuple
  steps_add_none constant q r tuple itself h = h
  steps_add_none constant q r tuple (onward {y = k} step more) h = step_adds_none constant q k tuple step (steps_add_none constant k r tuple more h)

  module _ (constant : ℕ → Term) where
    abbrev by_name : ℕ → Element
    by_name c = Named (constant c)

    -- a tuple through Down is one over the facts that hold
    pub through_has : (q : Cq) (tuple : List Term) → HasThrough tbox constant F q tuple → HasTuple by_name (Holds tbox F) q (map Named tuple)
    through_has q tuple h = record {
      under = λ x. Named (h.under x);
      each = each_weaker (MetThrough tbox constant F h.under) (MetBy by_name (Holds tbox F) (λ x. Named (h.under x))) (through_up constant h.under tbox F) q.atoms h.each;
      answers = gives_map Named constant h.under (λ t. t) Named (λ t. refl) q.answer tuple (subst (Gives constant h.under q.answer) (sym (map_same tuple)) h.answers);
    }
