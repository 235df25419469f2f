-- Tuples through Down are certain answers, and certain answers by an assignment of named terms are tuples through Down.
use Rattle.std.proofs.Common.{◌≡◌, ℕ, List, [], ◌∷◌, map, refl, sym, ap, subst}
use Rattle.std.specs.List.{AllByRecursion}
use Rattle.mast_terms.specs.declared.term.Term.{Term}
use Rattle.mast_cq.specs.declared.atom.Atom.{Atom}
use Rattle.mast_cq.specs.declared.atom.Atom.TheVariants.{Class, Role, Attr}
use Rattle.mast_cq.specs.declared.query.Cq.{Cq}
use Rattle.mast_cq.specs.Meanings.{Fact, InClass, InRole, InAttr, Gives, Match, MetBy}
use Rattle.mast_cq.specs.Origins.{Named as AtomNamed}
use Rattle.mast_tbox.specs.Inclusions.{normal}
use Rattle.mast_tbox.specs.Names.{IsStatable, InRange}
use Rattle.mast_tbox.proofs.NumberLemmas.{no_end}
use Rattle.mast_canon.specs.CertainAnswers.{HoldsBy, Certain, MetThrough, ThroughDown, constant_in}
use Rattle.mast_canon.specs.DerivationLaws.{HasNamed}
use Rattle.mast_canon.specs.Derivations.{Holds}
use Rattle.mast_canon.specs.Elements.{Named}
use Rattle.mast_canon.specs.Theories.{Theory, stated, constant_of}
use Rattle.mast_canon.specs.TheoryPremises.{FactInRange, FactsInRange, QueryInRange, IsStated}
use Rattle.mast_canon.proofs.HoldsLemmas.{met_grows}
use Rattle.mast_canon.proofs.ImageLemmas.{gives_map}
use Rattle.mast_canon.proofs.NormalFactLemmas.{normal_holds, normal_same}
use Rattle.mast_canon.proofs.SupportLemmas.{each_weaker}
use Rattle.mast_canon.proofs.ThroughLemmas.{through_up, through_down, named_gives}

-- a fact that an atom is has the atom's name
fact_range : {X : Type 0} (constant s : ℕ → X) (g : Atom) (f : Fact X) → AtomNamed IsStatable g → Match constant s g f → FactInRange f
fact_range constant s (Class a x) (InClass b t) i m = subst InRange m.0 i
fact_range constant s (Class a x) (InRole b t u) i m = absurd m
fact_range constant s (Class a x) (InAttr b t u) i m = absurd m
fact_range constant s (Role a x y) (InClass b t) i m = absurd m
fact_range constant s (Role a x y) (InRole b t u) i m = subst InRange m.0 i
fact_range constant s (Role a x y) (InAttr b t u) i m = absurd m
fact_range constant s (Attr a x y) (InClass b t) i m = absurd m
fact_range constant s (Attr a x y) (InRole b t u) i m = absurd m
fact_range constant s (Attr a x y) (InAttr b t u) i m = subst InRange m.0 i

both_each : {X : Type 0} (P Q R : X → Type 0) → ((x : X) → P x → Q x → R x) → (xs : List X) → AllByRecursion P xs → AllByRecursion Q xs → AllByRecursion R xs
both_each P Q R k [] p q = tt
both_each P Q R k (x ∷ xs) p q = (k x p.0 q.0, both_each P Q R k xs p.1 q.1)

module _ (theory : Theory) (F : Fact Term → Type 0) where
  abbrev constant : ℕ → Term
  constant = constant_of theory.constants

  module _ (is_stated : IsStated theory) (range : FactsInRange F) where
    atom_holds : (s : ℕ → Term) (g : Atom) → AtomNamed IsStatable g → MetThrough (normal (stated theory)) constant F s g → MetBy (constant_in theory) (HoldsBy theory F) (λ x. Named (s x)) g
    atom_holds s g i m =
        let w = through_up constant s (normal (stated theory)) F g m in
        record {
          fact = w.fact;
          matches = w.matches;
          holds = (normal_same theory.inclusions F is_stated.numbered is_stated.inclusions range w.fact (fact_range (constant_in theory) (λ x. Named (s x)) g w.fact i w.matches)).1 w.holds;
        }

    pub through_certain : (q : Cq) (tuple : List Term) → QueryInRange q → ThroughDown theory F q tuple → Certain theory F q tuple
    through_certain q tuple known h = record {
      under = λ x. Named (h.under x);
      each = both_each (AtomNamed IsStatable) (MetThrough (normal (stated theory)) constant F h.under) (MetBy (constant_in theory) (HoldsBy theory F) (λ x. Named (h.under x))) (atom_holds h.under) q.atoms known h.each;
      answers = gives_map Named constant h.under (λ t. t) Named (λ t. refl) q.answer tuple (subst (Gives constant h.under q.answer) (sym (map_same tuple)) h.answers);
    }
      where
        map_same : (ts : List Term) → map (λ t. t) ts ≡ ts
        map_same [] = refl
        map_same (t ∷ ts) = ap (λ us. t ∷ us) (map_same ts)

  atom_through : (s : ℕ → Term) (g : Atom) → MetBy (constant_in theory) (HoldsBy theory F) (λ x. Named (s x)) g → MetThrough (normal (stated theory)) constant F s g
  atom_through s g m =
      (through_down constant s (normal (stated theory)) F (no_end (stated theory)) g).0
      (met_grows (HoldsBy theory F) (Holds (normal (stated theory)) F) (normal_holds (stated theory) F) (constant_in theory) (λ x. Named (s x)) g m)

  pub named_through : (q : Cq) (tuple : List Term) → HasNamed theory F q tuple → ThroughDown theory F q tuple
  named_through q tuple h = record {
    under = h.under;
    each = each_weaker (MetBy (constant_in theory) (HoldsBy theory F) (λ x. Named (h.under x))) (MetThrough (normal (stated theory)) constant F h.under) (atom_through h.under) q.atoms h.each;
    answers = named_gives constant h.under q.answer tuple h.answers;
  }
