-- The named terms of a list of facts.
use Rattle.std.proofs.Common.{inl, inr, List, [], ◌∷◌, refl, subst}
use Rattle.mast_terms.specs.declared.term.Term.{Term}
use Rattle.mast_cq.specs.Meanings.{Fact, InClass, InRole, InAttr}
use Rattle.mast_cq.specs.Queries.{In}
use Rattle.mast_cq.proofs.ListLemmas.{append_left, append_right}
pub use Rattle.mast_canon.specs.FactLists.{terms_of}
use Rattle.mast_canon.specs.FactLists.{terms_in}
use Rattle.mast_canon.specs.KeptWorlds.{OfElements}
use Rattle.mast_canon.specs.WorldLaws.{IsListed}

of_each : (P Q : Term → Type 0) → ((t : Term) → P t → Q t) → (f : Fact Term) → OfElements P f → OfElements Q f
of_each P Q k (InClass a t) h = k t h
of_each P Q k (InRole p t u) h = (k t h.0, k u h.1)
of_each P Q k (InAttr v t u) h = (k t h.0, k u h.1)

own_terms : (f : Fact Term) → OfElements (λ t. In t (terms_in f)) f
own_terms (InClass a t) = inl refl
own_terms (InRole p t u) = (inl refl, inr (inl refl))
own_terms (InAttr v t u) = (inl refl, inr (inl refl))

-- each term of one of the facts is among them
pub terms_listed : (facts : List (Fact Term)) (f : Fact Term) → In f facts → OfElements (λ t. In t (terms_of facts)) f
terms_listed [] f i = absurd i
terms_listed (g ∷ facts) f (inl e) =
    of_each (λ t. In t (terms_in f)) (λ t. In t (terms_of (g ∷ facts)))
    (λ t i. append_left t (terms_in g) (terms_of facts) (subst (λ h. In t (terms_in h)) e i)) f (own_terms f)
terms_listed (g ∷ facts) f (inr i) =
    of_each (λ t. In t (terms_of facts)) (λ t. In t (terms_of (g ∷ facts))) (λ t j. append_right t (terms_in g) (terms_of facts) j) f (terms_listed facts f i)

-- so is each term of the facts of a list
pub terms_of_listed : (F : Fact Term → Type 0) (l : IsListed F) (f : Fact Term) → F f → OfElements (λ t. In t (terms_of l.list)) f
terms_of_listed F l f h = terms_listed l.list f ((l.are f).0 h)
