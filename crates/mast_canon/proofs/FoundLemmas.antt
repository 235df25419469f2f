-- Each kept element in the left side of a number has a filler among the kept ones.
use Rattle.std.proofs.Common.{◌≡◌, ℕ, zero, suc, ◌<◌, inl, inr, List, [], ◌∷◌, refl, sym, ap, ◌∙◌, subst, arith}
use Rattle.std.specs.Cmp.{IsTotalOrder}
use Rattle.std.specs.Ordering.{ordering_reverse}
use Rattle.std.specs.declared.cmp.Ordering.{Ordering}
use Rattle.std.specs.declared.cmp.Ordering.TheVariants.{Less, Equal, Greater}
use Rattle.mast_terms.specs.declared.term.Term.{Term}
use Rattle.mast_terms.specs.Orders.{term_order}
use Rattle.mast_terms.proofs.OrderLemmas.{term_orders}
use Rattle.mast_cq.specs.Meanings.{Fact, InClass, InRole, InAttr}
use Rattle.mast_cq.specs.Queries.{In}
use Rattle.mast_tbox.specs.declared.axiom.Inclusion.{Inclusion}
use Rattle.mast_tbox.specs.declared.axiom.Lined.{Lined}
use Rattle.mast_tbox.specs.declared.expression.Basic.{Basic}
use Rattle.mast_tbox.specs.declared.expression.Basic.TheVariants.{Class as BClass, Some as BSome, Subjects}
use Rattle.mast_tbox.specs.declared.expression.Prop.{Prop}
use Rattle.mast_tbox.specs.declared.expression.Prop.TheVariants.{Role as PRole, Attr as PAttr}
use Rattle.mast_tbox.specs.declared.expression.RoleExpr.TheVariants.{Direct, Inverse}
use Rattle.mast_tbox.specs.Lists.{items}
use Rattle.mast_tbox.specs.Numbers.{IsNumbered}
use Rattle.mast_tbox.specs.Properties.{AreEquivalent}
use Rattle.mast_tbox.specs.Restrictions.{IsSpecialised}
use Rattle.mast_tbox.proofs.ComponentLemmas.{equivalent_join}
use Rattle.mast_canon.specs.Derivations.{FactStep, adds, Holds, source, follows}
use Rattle.mast_canon.specs.Elements.{Element, Named, Successor, map_fact}
use Rattle.mast_canon.specs.KeptTerms.{Needs, Gets, IsKept, IsOwn, IsLeastNamed, IsParentFiller, IsLeastOwn, Fills, IsFound, IsFill}
use Rattle.mast_canon.specs.KeptWorlds.{OfElements}
use Rattle.mast_canon.specs.Memberships.{pair_fact, shows}
use Rattle.mast_canon.proofs.UnspecialisedLemmas.{equivalent_itself, below_holds, one_adding}

module _ {X : Type 0} (order : X → X → Ordering) (total : IsTotalOrder order) (Q : X → Type 0) where
  pub no_less : (x : X) → order x x ≡ Less → ⊥
  no_less x e = let f : Less ≡ ordering_reverse Less = sym e ∙ total.antisymm x x ∙ ap ordering_reverse e in cc

  -- of a list there can't fail to be a least, where there is one with Q
  pub no_least : (ts : List X) (x : X) → Q x → ((z : X) → Q z → ((y : X) → In y ts → Q y → order y z ≡ Less → ⊥) → ⊥) → ⊥
  no_least [] x q k = k x q (λ y i. absurd i)
  no_least (t ∷ ts) x q k = no_least ts x q (λ z qz least. k z qz (λ y i qy less. elim i [
    | inl e ↦ at z qz least (subst Q e qy) (order t z) refl
    | inr j ↦ least y j qy less
  ]))
    where
      at : (z : X) → Q z → ((y : X) → In y ts → Q y → order y z ≡ Less → ⊥) → Q t → (o : Ordering) → order t z ≡ o → ⊥
      at z qz least qt Less e = k t qt (λ y i qy less. elim i [
        | inl f ↦ no_less t (subst (λ w. order w t ≡ Less) f less)
        | inr j ↦ least y j qy (total.trans y t z less e)
      ])
      at z qz least qt Equal e = k z qz (λ y i qy less. elim i [
        | inl f ↦ let g : Equal ≡ Less = sym e ∙ subst (λ w. order w z ≡ Less) f less in cc
        | inr j ↦ least y j qy less
      ])
      at z qz least qt Greater e = k z qz (λ y i qy less. elim i [
        | inl f ↦ let g : Greater ≡ Less = sym e ∙ subst (λ w. order w z ≡ Less) f less in cc
        | inr j ↦ least y j qy less
      ])

-- the elements of a pair, and the one that is shown in a basic concept
module _ {X : Type 0} (Q : X → Type 0) where
  pub of_pair : (p : Prop) (t u : X) → OfElements Q (pair_fact p t u) → Q t × Q u
  of_pair (PRole (Direct p)) t u h = h
  of_pair (PRole (Inverse p)) t u h = (h.1, h.0)
  of_pair (PAttr v) t u h = h

  pub to_pair : (p : Prop) (t u : X) → Q t → Q u → OfElements Q (pair_fact p t u)
  to_pair (PRole (Direct p)) t u h k = (h, k)
  to_pair (PRole (Inverse p)) t u h k = (k, h)
  to_pair (PAttr v) t u h k = (h, k)

  pub of_shown : (b : Basic) (t u : X) → OfElements Q (shows b t u) → Q t
  of_shown (BClass a) t u h = h
  of_shown (BSome r) t u h = (of_pair (PRole r) t u h).0
  of_shown (Subjects v) t u h = h.0

-- the named terms of what holds are those of the facts
module _ (tbox : List Inclusion) (F : Fact Term → Type 0) (ts : List Term) (all : (f : Fact Term) → F f → OfElements (λ t. In t ts) f) where
  abbrev Listed : Element → Type 0
  Listed (Named t) = In t ts
  Listed (Successor t k) = Unit {0}

  named_listed : (f : Fact Term) → OfElements (λ t. In t ts) f → OfElements Listed (map_fact Named f)
  named_listed (InClass a t) h = h
  named_listed (InRole p t u) h = h
  named_listed (InAttr v t u) h = h

  holds_listed : (f : Fact Element) → Holds tbox F f → OfElements Listed f
  holds_listed f (source s) = subst (OfElements Listed) (sym s.is) (named_listed s.fact (all s.fact s.given))
  holds_listed f (follows {f = g} h (FactStep.into_class b a x y c eg ef)) = subst (OfElements Listed) (sym ef) (of_shown Listed b x y (subst (OfElements Listed) eg (holds_listed g h)))
  holds_listed f (follows {f = g} h (FactStep.adds b q k x y c eg ef)) =
      subst (OfElements Listed) (sym ef) (to_pair Listed q x (Successor x k) (of_shown Listed b x y (subst (OfElements Listed) eg (holds_listed g h))) tt)
  holds_listed f (follows {f = g} h (FactStep.ends b r a k x y c eg ef)) = subst (OfElements Listed) (sym ef) tt
  holds_listed f (follows {f = g} h (FactStep.widens q' q x y c eg ef)) =
      let w = of_pair Listed q' x y (subst (OfElements Listed) eg (holds_listed g h)) in subst (OfElements Listed) (sym ef) (to_pair Listed q x y w.0 w.1)

  pub filler_listed : (p : Prop) (t : Element) (u : Term) → Holds tbox F (pair_fact p t (Named u)) → In u ts
  filler_listed p t u h = (of_pair Listed p t (Named u) (holds_listed (pair_fact p t (Named u)) h)).1

module _ (ls : List (Lined Inclusion)) (numbered : IsNumbered ls) (F : Fact Term → Type 0) (ts : List Term) (all : (f : Fact Term) → F f → OfElements (λ t. In t ts) f) where
  abbrev tbox : List Inclusion
  tbox = items ls

  abbrev P : Fact Element → Type 0
  P f = Holds tbox F f

  -- where there is a named filler, there can't fail to be a least
  least_named : (p : Prop) (t : Element) (u : Term) → P (pair_fact p t (Named u)) → ((v : Element) → IsLeastNamed tbox P p t v → ⊥) → ⊥
  least_named p t u h none = no_least term_order term_orders.total (λ v. P (pair_fact p t (Named v))) ts u h (λ z hz least. none (Named z) (record {
    term = z;
    is = refl;
    fills = hz;
    least = λ other ho less. least other (filler_listed tbox F ts all p t other ho) ho less;
  }))

  -- where the property is specialised, the successor is kept
  gets_specialised : (k : ℕ) (p : Prop) (t : Element) → Needs tbox P k p t → IsSpecialised tbox p → Gets tbox P k t
  gets_specialised k p t n s = record { prop = p; needs = n; free = λ un. absurd (un s) }

  module _ (k : ℕ) (p : Prop) (t : Element) (kept : IsKept tbox P t) (needs : Needs tbox P k p t) where
    module _ (none : (u : Element) → IsFound tbox P k t u → ⊥) where
      no_fill : (u : Element) → Fills tbox P k p t u → ⊥
      no_fill u f = none u (record { kept = kept; prop = p; needs = needs; fills = f })

      no_own : (u : Element) → IsOwn tbox P k t u → ⊥
      no_own u o = no_fill u (inl o)

      no_least_named : (u : Element) → IsLeastNamed tbox P p t u → ⊥
      no_least_named u l = no_fill u (inr (no_own, inl l))

      no_named : (u : Term) → P (pair_fact p t (Named u)) → ⊥
      no_named u h = least_named p t u h no_least_named

      no_parent : (u : Element) → IsParentFiller tbox P p t u → ⊥
      no_parent u h = no_fill u (inr (no_own, inr (no_least_named, inl h)))

      no_least_own : (u : Element) → IsLeastOwn tbox P p t u → ⊥
      no_least_own u h = no_fill u (inr (no_own, inr (no_least_named, inr (no_parent, h))))

      no_number : (n j : ℕ) (q : Prop) → j < n → AreEquivalent tbox q p → Needs tbox P j q t → ⊥
      no_number zero j q l e m = absurd (omega (arith, l))
      no_number (suc n) j q l e m = no_least_own (Successor t j) (record {
        number = j;
        prop = q;
        alike = e;
        needs = m;
        own = (
          refl,
          (
            kept,
            record {
              prop = q;
              needs = m;
              free = λ un. record {
                no_named = λ u h. no_named u (below_holds tbox F q p t (Named u) e.0 h);
                no_parent = λ u i h. no_parent u (i, below_holds tbox F q p t u e.0 h);
                no_smaller = λ i r less f m'. no_number n i r (omega (arith, less, l)) (equivalent_join tbox r q p f e) m';
              };
            },
          ),
        );
        least = λ i r v less f m' o. no_number n i r (omega (arith, less, l)) f m';
      })

    -- a kept element in the left side of k can't fail to have a filler
    pub unfound : ((u : Element) → IsFound tbox P k t u → ⊥) → ⊥
    unfound none = no_number none (suc k) k p (omega arith) (equivalent_itself tbox p) needs

    made : (j : ℕ) (q : Prop) → Needs tbox P j q t → P (pair_fact q t (Successor t j))
    made j q n = follows n.is_in.1 (adds n.left q j t n.is_in.0 n.stated refl refl)

    parent_kept : (u : Element) (j : ℕ) → t ≡ Successor u j → IsKept tbox P u
    parent_kept u j e = (subst (IsKept tbox P) e kept).0

    fills_kept : (u : Element) → Fills tbox P k p t u → P (pair_fact p t u) × IsKept tbox P u
    fills_kept u (inl o) = (subst (λ z. P (pair_fact p t z)) (sym o.0) (made k p needs), o.1)
    fills_kept u (inr (not_own, inl l)) = (l.fills, subst (IsKept tbox P) (sym l.is) tt)
    fills_kept u (inr (not_own, inr (not_named, inl h))) = (h.1, parent_kept u h.0.0 h.0.1)
    fills_kept u (inr (not_own, inr (not_named, inr (not_parent, l)))) =
        (subst (λ z. P (pair_fact p t z)) (sym l.own.0) (below_holds tbox F l.prop p t (Successor t l.number) l.alike.0 (made l.number l.prop l.needs)), l.own.1)

    same_prop : (q : Prop) → Needs tbox P k q t → q ≡ p
    same_prop q n = (one_adding ls numbered n.left needs.left q p k n.stated needs.stated).prop

    -- the filler of the number is a kept filler of its property
    pub fill_kept : (u : Element) → IsFill tbox P k t u → P (pair_fact p t u) × IsKept tbox P u
    fill_kept u (inl f) = fills_kept u (subst (λ z. Fills tbox P k z t u) (same_prop f.prop f.needs) f.fills)
    fill_kept u (inr (none, e)) = absurd (unfound none)

    -- and where the property is specialised it is the successor
    pub fill_own : (u : Element) → IsSpecialised tbox p → IsFill tbox P k t u → u ≡ Successor t k
    fill_own u s (inl f) = at f.fills
      where
        at : Fills tbox P k f.prop t u → u ≡ Successor t k
        at (inl o) = o.0
        at (inr (not_own, more)) = absurd (not_own (Successor t k) (refl, (kept, gets_specialised k p t needs s)))
    fill_own u s (inr (none, e)) = absurd (unfound none)
