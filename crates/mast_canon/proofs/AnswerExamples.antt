-- Worked answers, as theorems: each person works for something (the inclusion Person ⊑ ∃worksFor, number 0), and Ann is a person.
use Rattle.std.proofs.Common.{◌≡◌, ◌≢◌, ℕ, zero, suc, inl, inr, List, [], ◌∷◌, length, None, Contains, refl, sym, ap, ◌∙◌, subst, arith}
use Rattle.std.specs.Prelude.{codes}
use Rattle.std.specs.declared.cmp.Ordering.TheVariants.{Less}
use Rattle.mast_terms.specs.declared.name.Name.{Name}
use Rattle.mast_terms.specs.declared.term.Term.{Term}
use Rattle.mast_terms.specs.declared.term.Term.TheVariants as term
use Rattle.mast_terms.specs.Orders.{term_order}
use Rattle.mast_terms.proofs.OrderLemmas.{term_orders}
use Rattle.mast_tree.specs.declared.document.DocName.TheVariants as doc
use Rattle.mast_cq.specs.declared.atom.Arg.TheVariants.{Var}
use Rattle.mast_cq.specs.declared.atom.Atom.TheVariants.{Role}
use Rattle.mast_cq.specs.declared.query.Cq.{Cq}
use Rattle.mast_cq.specs.Meanings.{Fact, InClass, InRole, InAttr, Match}
use Rattle.mast_cq.specs.Queries.{In}
use Rattle.mast_tbox.specs.declared.axiom.Inclusion.{Inclusion}
use Rattle.mast_tbox.specs.declared.axiom.Inclusion.TheVariants.{Exists, HasValue}
use Rattle.mast_tbox.specs.declared.axiom.Lined.{Lined}
use Rattle.mast_tbox.specs.declared.expression.Basic.TheVariants.{Class as BClass}
use Rattle.mast_tbox.specs.declared.expression.Prop.{Prop}
use Rattle.mast_tbox.specs.declared.expression.Prop.TheVariants.{Role as PRole, Attr as PAttr}
use Rattle.mast_tbox.specs.declared.expression.RoleExpr.TheVariants.{Direct}
use Rattle.mast_tbox.specs.Restrictions.{Specialises, IsSpecialised}
use Rattle.mast_tbox.proofs.MemberLemmas.{front, none, first_or}
use Rattle.mast_canon.specs.declared.origin.Ground.TheVariants as grounds
use Rattle.mast_canon.specs.CertainAnswers.{Certain, HoldsBy, constant_in}
use Rattle.mast_canon.specs.Derivations.{adds, IsSource, source, follows}
use Rattle.mast_canon.specs.Elements.{Element, Named, Successor, map_fact}
use Rattle.mast_canon.specs.KeptTerms.{Needs, IsKept, IsOwn, IsFill}
use Rattle.mast_canon.specs.Memberships.{pair_fact}
use Rattle.mast_canon.specs.NoModels.{By, origin_of, functional}
use Rattle.mast_canon.specs.Theories.{Theory, stated}
use Rattle.mast_canon.proofs.FactLemmas.{Readings, same, turned, readings, no_class}
use Rattle.mast_canon.proofs.FillerLemmas.{named_no_successor}
use Rattle.mast_canon.proofs.FoundLemmas.{no_less}
use Rattle.mast_canon.proofs.OriginLemmas.{PairOrigin, given, made, back, pair_origin}

-- the class and the role
abbrev person : Name
person = record { 0 = 0 }

abbrev works_for : Name
works_for = record { 0 = 0 }

abbrev works : Prop
works = PRole (Direct works_for)

-- Person ⊑ ∃worksFor, on line 2; the role is functional, on line 3
abbrev inclusion : Lined Inclusion
inclusion = record { item = Exists (BClass person) (Direct works_for) None 0; line = 2 }

abbrev functionality : Lined Prop
functionality = record { item = works; line = 3 }

abbrev theory : Theory
theory = record {
  inclusions = inclusion ∷ [];
  negatives = [];
  functional = functionality ∷ [];
  constraints = [];
  constants = [];
}

-- three objects, and their different successors
abbrev object : List ℕ → Term
object symbol = term.Object (record { symbol = symbol; args = [] })

abbrev ann : Term
ann = object (codes "ann")

abbrev acme : Term
acme = object (codes "acme")

abbrev bolts : Term
bolts = object (codes "bolts")

abbrev long : Term → ℕ
long (term.Value v) = 0
long (term.Object o) = length o.symbol

ann_acme : ann ≢ acme
ann_acme e = let n : 3 ≡ 4 = ap long e in omega (arith, n)

acme_bolts : acme ≢ bolts
acme_bolts e = let n : 4 ≡ 5 = ap long e in omega (arith, n)

abbrev the_successor : Element
the_successor = Successor (Named ann) 0

-- the facts of a list
abbrev Given : List (Fact Term) → Fact Term → Type 0
Given facts f = In f facts

abbrev is_person : Fact Term
is_person = InClass person ann

abbrev for_acme : Fact Term
for_acme = InRole works_for ann acme

abbrev for_bolts : Fact Term
for_bolts = InRole works_for ann bolts

-- a given fact holds
holds_given : (facts : List (Fact Term)) (f : Fact Term) → In f facts → HoldsBy theory (Given facts) (map_fact Named f)
holds_given facts f i = source (record { fact = f; given = i; is = refl })

-- Ann works for her successor
edge : (facts : List (Fact Term)) → In is_person facts → HoldsBy theory (Given facts) (InRole works_for (Named ann) the_successor)
edge facts i = follows (holds_given facts is_person i) (adds (BClass person) works 0 (Named ann) (Named ann) (None, front _ []) refl refl)

-- q(x) :- worksFor(x, y) and q(x, y) :- worksFor(x, y)
abbrev who : Cq
who = record { answer = Var 0 ∷ []; atoms = Role works_for (Var 0) (Var 1) ∷ [] }

abbrev who_for_whom : Cq
who_for_whom = record { answer = Var 0 ∷ Var 1 ∷ []; atoms = Role works_for (Var 0) (Var 1) ∷ [] }

-- Ann is a certain answer of the first, though what she works for has no name
abbrev ends : ℕ → Element
ends zero = Named ann
ends (suc n) = the_successor

ann_works : Certain theory (Given (is_person ∷ [])) who (ann ∷ [])
ann_works = record {
  under = ends;
  each = (record { fact = InRole works_for (Named ann) the_successor; matches = (refl, refl, refl); holds = edge (is_person ∷ []) (inl refl) }, tt);
  answers = (refl, tt);
}

-- a named filler of Ann comes from a given pair
named_end : (facts : List (Fact Term)) (t u : Term) → ((q : Prop) → IsSource (Given facts) (pair_fact q (Named t) (Named u)) → ⊥)
    → HoldsBy theory (Given facts) (InRole works_for (Named t) (Named u)) → ⊥
named_end facts t u no_source h = at (pair_origin (stated theory) (Given facts) (InRole works_for (Named t) (Named u)) h works (Named t) (Named u) refl)
  where
    at : PairOrigin (stated theory) (Given facts) works (Named t) (Named u) → ⊥
    at (given q s b) = no_source q s
    at (made k q n e b) = named_no_successor (Named u) (Named t) k (u, refl) e
    at (back k q r n e b) = named_no_successor (Named t) (Named u) k (t, refl) e

-- so no named term is an answer beside Ann of the second: a successor is in no answer
no_pair : (q : Prop) (t u : Term) → IsSource (Given (is_person ∷ [])) (pair_fact q (Named t) (Named u)) → ⊥
no_pair q t u s = elim s.given [
  | inl e ↦ no_class q (Named t) (Named u) (Named ann) person (subst (λ f. pair_fact q (Named t) (Named u) ≡ map_fact Named f) e s.is)
  | inr i ↦ absurd i
]

no_named_end : (t u : Term) → HoldsBy theory (Given (is_person ∷ [])) (InRole works_for (Named t) (Named u)) → ⊥
no_named_end t u h = named_end (is_person ∷ []) t u (λ q s. no_pair q t u s) h

not_certain : (t u : Term) → Certain theory (Given (is_person ∷ [])) who_for_whom (t ∷ u ∷ []) → ⊥
not_certain t u c = at c.each.0.fact c.each.0.matches c.each.0.holds
  where
    at : (f : Fact Element) → Match (constant_in theory) c.under (Role works_for (Var 0) (Var 1)) f → HoldsBy theory (Given (is_person ∷ [])) f → ⊥
    at (InClass b x) m h = absurd m
    at (InRole b x y) m h =
        let first : x ≡ Named t = m.1 ∙ sym c.answers.0 in
        let second : y ≡ Named u = m.2 ∙ sym c.answers.1.0 in
        let Q = HoldsBy theory (Given (is_person ∷ [])) in
        let named : Q (InRole works_for x y) = subst (λ n. Q (InRole n x y)) (sym m.0) h in
        no_named_end t u (subst (λ z. Q (InRole works_for z (Named u))) first (subst (λ z. Q (InRole works_for x z)) second named))
    at (InAttr b x y) m h = absurd m

-- two named fillers of Ann break the functionality, by the line of its axiom
two_break : By theory (Given (for_acme ∷ for_bolts ∷ [])) (origin_of grounds.Functional doc.Ontology 3)
two_break =
    let facts = for_acme ∷ for_bolts ∷ [] in
    functional functionality (front functionality []) (record {
      subject = ann;
      one = acme;
      other = bolts;
      first = holds_given facts for_acme (inl refl);
      second = holds_given facts for_bolts (inr (inl refl));
      differ = acme_bolts;
    }) refl

-- where Ann works for Acme, this is the filler that stands in for her successor, which is not kept
abbrev both : List (Fact Term)
both = is_person ∷ for_acme ∷ []

abbrev P : Fact Element → Type 0
P = HoldsBy theory (Given both)

only : (i : Inclusion) → Contains (stated theory) i → i ≡ inclusion.item
only i c = elim (first_or inclusion.item [] i c) [ inl e ↦ e | inr d ↦ absurd (none i d) ]

unspecialised : (p : Prop) → IsSpecialised (stated theory) p → ⊥
unspecialised p (i, (c, s)) = subst (λ z. Specialises (stated theory) z p) (only i c) s

of_number : (p : Prop) (t : Element) → Needs (stated theory) P 0 p t → p ≡ works
of_number (PRole r) t n =
    let e : Exists n.left r n.stated.0 0 ≡ Exists (BClass person) (Direct works_for) None 0 = only _ n.stated.1 in
    let r_is : r ≡ Direct works_for = cc in ap PRole r_is
of_number (PAttr v) t n = let e : HasValue n.left v 0 ≡ Exists (BClass person) (Direct works_for) None 0 = only _ n.stated in absurd (cc e)

acme_fills : P (pair_fact works (Named ann) (Named acme))
acme_fills = holds_given both for_acme (inr (inl refl))

not_kept : IsKept (stated theory) P the_successor → ⊥
not_kept (h, g) = (g.free (unspecialised g.prop)).no_named acme (subst (λ p. P (pair_fact p (Named ann) (Named acme))) (sym (of_number g.prop (Named ann) g.needs)) acme_fills)

given_acme : (q : Prop) (u : Term) → IsSource (Given both) (pair_fact q (Named ann) (Named u)) → u ≡ acme
given_acme q u s = elim s.given [
  | inl e ↦ absurd (no_class q (Named ann) (Named u) (Named ann) person (subst (λ f. pair_fact q (Named ann) (Named u) ≡ map_fact Named f) e s.is))
  | inr i ↦ elim i [
    | inl e ↦ at (readings q works (Named ann) (Named u) (Named ann) (Named acme) (subst (λ f. pair_fact q (Named ann) (Named u) ≡ map_fact Named f) e s.is))
    | inr d ↦ absurd d
  ]
]
  where
    at : Readings q works (Named ann) (Named u) (Named ann) (Named acme) → u ≡ acme
    at (same p t e) = let w : u ≡ acme = cc in w
    at (turned r p q' t e) = let w : ann ≡ acme = cc in absurd (ann_acme w)

only_acme : (u : Term) → P (pair_fact works (Named ann) (Named u)) → u ≡ acme
only_acme u h = at (pair_origin (stated theory) (Given both) (pair_fact works (Named ann) (Named u)) h works (Named ann) (Named u) refl)
  where
    at : PairOrigin (stated theory) (Given both) works (Named ann) (Named u) → u ≡ acme
    at (given q s b) = given_acme q u s
    at (made k q n e b) = absurd (named_no_successor (Named u) (Named ann) k (u, refl) e)
    at (back k q r n e b) = absurd (named_no_successor (Named ann) (Named u) k (ann, refl) e)

not_own : (y : Element) → IsOwn (stated theory) P 0 (Named ann) y → ⊥
not_own y o = not_kept (subst (IsKept (stated theory) P) o.0 o.1)

acme_is_filler : IsFill (stated theory) P 0 (Named ann) (Named acme)
acme_is_filler = inl (record {
  kept = tt;
  prop = works;
  needs = record { left = BClass person; stated = (None, front _ []); is_in = (Named ann, holds_given both is_person (inl refl)) };
  fills = inr (
    not_own,
    inl (record {
      term = acme;
      is = refl;
      fills = acme_fills;
      least = λ other h less. no_less term_order term_orders.total (λ (t : Term). Unit {0}) acme (subst (λ z. term_order z acme ≡ Less) (only_acme other h) less);
    }),
  );
})
