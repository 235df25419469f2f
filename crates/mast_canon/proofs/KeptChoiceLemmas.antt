-- Over a list of facts the fillers and kinds that tests find are those of the kept interpretation.
use Rattle.std.proofs.Common.{◌≡◌, ℕ, inl, inr, ◌↔◌, Bool, true, false, ◌&&◌, nat_eq, List, [], ◌∷◌, Option, Some, None, Contains, refl, sym, ◌∙◌, subst}
use Rattle.std.specs.Prelude.{if◌then◌else◌, option_map, unwrap_or}
use Rattle.std.proofs.lemmas.Bool.{false≢true}
use Rattle.std.proofs.lemmas.Cmp.{nat_cmp_total}
use Rattle.std.specs.Bool.{then_some}
use Rattle.std.specs.Cmp.{IsTotalOrder, nat_cmp_is}
use Rattle.std.specs.Option.{option_or}
use Rattle.std.specs.Ordering.{is_lt, nat_cmp}
use Rattle.std.specs.declared.cmp.Ordering.{Ordering}
use Rattle.std.specs.declared.cmp.Ordering.TheVariants.{Less, Equal, Greater}
use Rattle.mast_terms.specs.declared.name.Name.{Name}
use Rattle.mast_terms.specs.declared.term.Term.{Term}
use Rattle.mast_terms.specs.declared.term.Term.TheVariants as term
use Rattle.mast_terms.specs.declared.value.Kind.{Kind}
use Rattle.mast_terms.specs.Orders.{term_order}
use Rattle.mast_terms.proofs.OrderLemmas.{term_orders}
use Rattle.mast_cq.specs.Meanings.{Fact, InAttr}
use Rattle.mast_cq.specs.Queries.{In}
use Rattle.mast_tbox.specs.declared.axiom.Inclusion.{Inclusion}
use Rattle.mast_tbox.specs.declared.axiom.Inclusion.TheVariants.{Class as IClass, Exists, HasValue, Role as IRole, Attr as IAttr, Range}
use Rattle.mast_tbox.specs.declared.axiom.Lined.{Lined}
use Rattle.mast_tbox.specs.declared.expression.Basic.{Basic}
use Rattle.mast_tbox.specs.declared.expression.Prop.{Prop}
use Rattle.mast_tbox.specs.declared.expression.Prop.TheVariants.{Role as PRole, Attr as PAttr}
use Rattle.mast_tbox.specs.Expressions.{inverse}
use Rattle.mast_tbox.specs.Inclusions.{Adds}
use Rattle.mast_tbox.specs.Lists.{items}
use Rattle.mast_tbox.specs.Properties.{AreEquivalent}
use Rattle.mast_tbox.proofs.MemberLemmas.{front, later, none, first_or}
use Rattle.mast_canon.specs.Decisions.{is_in, is_filler, is_kept}
use Rattle.mast_canon.specs.Derivations.{IsSource, Holds}
use Rattle.mast_canon.specs.Elements.{Element, Named, Successor, map_fact}
use Rattle.mast_canon.specs.FactLists.{terms_of}
use Rattle.mast_canon.specs.KeptChoices.{lesser, least, first_given, numbers, parent_filler, owns, filler_of, filler_by, fill, range_kind, kind_of}
use Rattle.mast_canon.specs.KeptTerms.{FirstOf, Needs, IsKept, IsOwn, IsLeastNamed, IsParentFiller, IsLeastOwn, Fills, IsFill}
use Rattle.mast_canon.specs.KeptWorlds.{IsValueOf, IsRangeKind, IsKindOf}
use Rattle.mast_canon.specs.Memberships.{pair_fact, IsIn}
use Rattle.mast_canon.specs.WorldLaws.{IsListed}
use Rattle.mast_canon.proofs.DecisionLemmas.{AddsWith, from_adding, named_orphan, NeedWith, SomeAdding, successor_parts, tells_filler, tells_in, tells_kept, tells_need, to_adding}
use Rattle.mast_canon.proofs.FillerLemmas.{named_terms, named_no_successor}
use Rattle.mast_canon.proofs.FoundLemmas.{no_less, filler_listed}
use Rattle.mast_canon.proofs.ListedLemmas.{terms_of_listed}
use Rattle.mast_canon.proofs.OriginLemmas.{PairOrigin, given, made, back, pair_origin}
use Rattle.mast_canon.proofs.PathLemmas.{tells_equivalent}
use Rattle.mast_canon.proofs.TestLemmas.{Tells, tells_and, tells_as, tells_number}
use Rattle.mast_canon.proofs.UnspecialisedLemmas.{IsRole, below_role}

-- some element has Q
abbrev Some_has : {X : Type 0} → (X → Type 0) → Type 0
Some_has {X} Q = (x : X) × Q x

-- what is found has Q, and where nothing is found, nothing has
abbrev Finds : {X : Type 0} → (X → Type 0) → Option X → Type 0
Finds {X} Q None = (x : X) → Q x → ⊥
Finds Q (Some x) = Q x

-- the first of two relations that says something
finds_first : {X : Type 0} (Q R : X → Type 0) (a b : Option X) → Finds Q a → Finds R b → Finds (FirstOf Q R) (option_or a b)
finds_first Q R (Some x) b q r = inl q
finds_first Q R None (Some y) n r = inr (n, r)
finds_first Q R None None n m = λ x w. elim w [ inl q ↦ n x q | inr r ↦ m x r.1 ]

-- where a test is passed
finds_if : {X : Type 0} {A : Type 0} (Q : X → Type 0) (test : Bool) (a : Option X) → Tells test A → Finds Q a → Finds (λ x. A × Q x) (if test then a else None)
finds_if Q true (Some x) t q = (t.yes refl, q)
finds_if Q true None t n = λ x w. n x w.1
finds_if Q false a t q = λ x w. false≢true (t.holds w.0)

finds_some : {X : Type 0} {Q : X → Type 0} (test : Bool) (x : X) → Tells test (Q x) → ((y : X) → Q y → y ≡ x) → Finds Q (then_some test x)
finds_some true x t only = t.yes refl
finds_some {X} {Q} false x t only = λ y q. false≢true (t.holds (subst Q (only y q) q))

-- what is as good is found too
finds_as : {X : Type 0} (Q R : X → Type 0) (a : Option X) → ((x : X) → Q x ↔ R x) → Finds Q a → Finds R a
finds_as Q R (Some x) e q = (e x).0 q
finds_as Q R None e n = λ x r. n x ((e x).1 r)

-- what something is found for, of a list
finds_given : {X Y : Type 0} (f : X → Option Y) (R : X → Y → Type 0) → ((x : X) → Finds (R x) (f x)) → (xs : List X) → Finds (λ y. (x : X) × (Contains xs x × R x y)) (first_given f xs)
finds_given f R h [] = λ y w. none w.0 w.1.0
finds_given {X} {Y} f R h (x ∷ xs) = go (f x) (h x) (first_given f xs) (finds_given f R h xs)
  where
    go : (a : Option Y) → Finds (R x) a → (b : Option Y) → Finds (λ y. (z : X) × (Contains xs z × R z y)) b → Finds (λ y. (z : X) × (Contains (x ∷ xs) z × R z y)) (option_or a b)
    go (Some y) r b d = (x, (front x xs, r))
    go None n (Some y) w = (w.0, (later w.0 x xs w.1.0, w.1.1))
    go None n None m = λ y w. elim (first_or x xs w.0 w.1.0) [ inl e ↦ n y (subst (λ z. R z y) e w.1.1) | inr i ↦ m y (w.0, (i, w.1.1)) ]

-- the least of a list that has Q
module _ {X : Type 0} (order : X → X → Ordering) (total : IsTotalOrder order) {test : X → Bool} {Q : X → Type 0} (tells : (x : X) → Tells (test x) (Q x)) where
  record IsLeastIn (ts : List X) (element : X) : Type 0 where
    among : In element ts
    is : Q element
    least : (y : X) → In y ts → Q y → order y element ≡ Less → ⊥

  -- the element is the least one, and where there is none, none has Q
  abbrev LeastOf : List X → Option X → Type 0
  LeastOf ts None = (y : X) → In y ts → Q y → ⊥
  LeastOf ts (Some z) = IsLeastIn ts z

  finds_least : (ts : List X) → LeastOf ts (least order test ts)
  finds_least [] = λ y i q. i
  finds_least (t ∷ ts) = go (test t) (tells t) (least order test ts) (finds_least ts)
    where
      after : (z : X) → IsLeastIn ts z → (Q t → order t z ≡ Less → ⊥) → IsLeastIn (t ∷ ts) z
      after z w n = record {
        among = inr w.among;
        is = w.is;
        least = λ y i q less. elim i [ inl e ↦ n (subst Q e q) (subst (λ v. order v z ≡ Less) e less) | inr j ↦ w.least y j q less ];
      }

      both : Q t → (z : X) → IsLeastIn ts z → (o : Ordering) → order t z ≡ o → IsLeastIn (t ∷ ts) (if is_lt o then t else z)
      both q z w Less e = record {
        among = inl refl;
        is = q;
        least = λ y i r less. elim i [
          | inl f ↦ no_less order total Q t (subst (λ v. order v t ≡ Less) f less)
          | inr j ↦ w.least y j r (total.trans y t z less e)
        ];
      }
      both q z w Equal e = after z w (λ r less. let g : Equal ≡ Less = sym e ∙ less in cc)
      both q z w Greater e = after z w (λ r less. let g : Greater ≡ Less = sym e ∙ less in cc)

      go : (b : Bool) → Tells b (Q t) → (a : Option X) → LeastOf ts a → LeastOf (t ∷ ts) (if b then Some (lesser order t a) else a)
      go true q (Some z) w = both (q.yes refl) z w (order t z) refl
      go true q None n = record {
        among = inl refl;
        is = q.yes refl;
        least = λ y i r less. elim i [ inl f ↦ no_less order total Q t (subst (λ v. order v t ≡ Less) f less) | inr j ↦ n y j r ];
      }
      go false q (Some z) w = after z w (λ r less. false≢true (q.holds r))
      go false q None n = λ y i r. elim i [ inl e ↦ false≢true (q.holds (subst Q e r)) | inr j ↦ n y j r ]

-- the number of a stated existential inclusion is one of the numbers
abbrev HasNumber : ℕ → Inclusion → Type 0
HasNumber k = AddsWith (λ b p j. k ≡ j)

number_here : (k : ℕ) (i : Inclusion) (is : List Inclusion) → HasNumber k i → In k (numbers (i ∷ is))
number_here k (IClass b a) is h = absurd h
number_here k (Exists b r end j) is h = inl h
number_here k (HasValue b u j) is h = inl h
number_here k (IRole r s) is h = absurd h
number_here k (IAttr u v) is h = absurd h
number_here k (Range u kind) is h = absurd h

number_later : (k : ℕ) (i : Inclusion) (is : List Inclusion) → In k (numbers is) → In k (numbers (i ∷ is))
number_later k (IClass b a) is h = h
number_later k (Exists b r end j) is h = inr h
number_later k (HasValue b u j) is h = inr h
number_later k (IRole r s) is h = h
number_later k (IAttr u v) is h = h
number_later k (Range u kind) is h = h

number_in : (k : ℕ) (is : List Inclusion) (i : Inclusion) → Contains is i → HasNumber k i → In k (numbers is)
number_in k [] i c h = absurd (none i c)
number_in k (x ∷ is) i c h = elim (first_or x is i c) [
  | inl e ↦ number_here k x is (subst (HasNumber k) e h)
  | inr d ↦ number_later k x is (number_in k is i d h)
]

added_number : (tbox : List Inclusion) (b : Basic) (p : Prop) (k : ℕ) → Adds tbox b p k → In k (numbers tbox)
added_number tbox b p k a = let w = from_adding (λ c q j. k ≡ j) tbox b p k a refl in number_in k tbox w.0 w.1.0 w.1.1

module _ (ls : List (Lined Inclusion)) (F : Fact Term → Type 0) (l : IsListed F) where
  abbrev tbox : List Inclusion
  tbox = items ls

  abbrev facts : List (Fact Term)
  facts = l.list

  abbrev P : Fact Element → Type 0
  P f = Holds tbox F f

  finds_own : (k : ℕ) (t : Element) → Finds (IsOwn tbox P k t) (then_some (is_kept tbox facts (Successor t k)) (Successor t k))
  finds_own k t = finds_some (is_kept tbox facts (Successor t k)) (Successor t k) (tells_as ((λ h. (refl, h)), λ w. w.1) (tells_kept tbox F l (Successor t k))) (λ y q. q.0)

  filler_among : (p : Prop) (t : Element) (u : Term) → P (pair_fact p t (Named u)) → In u (terms_of facts)
  filler_among p t u h = filler_listed tbox F (terms_of facts) (terms_of_listed F l) p t u h

  named_from : (p : Prop) (t : Element) (a : Option Term) → LeastOf term_order term_orders.total (λ u. tells_filler tbox F l p t (Named u)) (terms_of facts) a → Finds (IsLeastNamed tbox P p t) (option_map Named a)
  named_from p t (Some u) w = record { term = u; is = refl; fills = w.is; least = λ other h less. w.least other (filler_among p t other h) h less }
  named_from p t None n = λ u w. let h : P (pair_fact p t (Named w.term)) = subst (λ z. P (pair_fact p t z)) w.is w.fills in n w.term (filler_among p t w.term h) h

  finds_named : (p : Prop) (t : Element) → Finds (IsLeastNamed tbox P p t) (option_map Named (least term_order (λ u. is_filler tbox facts p t (Named u)) (terms_of facts)))
  finds_named p t = named_from p t (least term_order (λ u. is_filler tbox facts p t (Named u)) (terms_of facts))
      (finds_least term_order term_orders.total (λ u. tells_filler tbox F l p t (Named u)) (terms_of facts))

  finds_parent : (p : Prop) (t : Element) → Finds (IsParentFiller tbox P p t) (parent_filler tbox facts p t)
  finds_parent p (Named x) = λ u w. named_orphan tbox F l p x (u, w)
  finds_parent p (Successor s k) =
      finds_some (is_filler tbox facts p (Successor s k) s) s (tells_as ((λ h. ((k, refl), h)), λ w. w.1) (tells_filler tbox F l p (Successor s k) s))
      (λ u w. sym (successor_parts s u k w.0.0 w.0.1).0)

  -- the number has the element in its left side, an equivalent property, and a kept successor
  abbrev Owns : Prop → Element → ℕ → Type 0
  Owns p t j = (q : Prop) × (Needs tbox P j q t × (AreEquivalent tbox q p × IsKept tbox P (Successor t j)))

  abbrev OwnsAt : Prop → Element → ℕ → ℕ → Prop → Type 0
  OwnsAt p t j i q = (i ≡ j) × (AreEquivalent tbox q p × IsKept tbox P (Successor t j))

  to_owns : (p : Prop) (t : Element) (j : ℕ) → NeedWith tbox F l (OwnsAt p t j) t → Owns p t j
  to_owns p t j (i, (q, (n, (e, (a, k))))) = (q, (subst (λ z. Needs tbox P z q t) e n, (a, k)))

  from_owns : (p : Prop) (t : Element) (j : ℕ) → Owns p t j → NeedWith tbox F l (OwnsAt p t j) t
  from_owns p t j (q, (n, (a, k))) = (j, (q, (n, (refl, (a, k)))))

  tells_owns : (p : Prop) (t : Element) (j : ℕ) → Tells (owns tbox facts p t j) (Owns p t j)
  tells_owns p t j = tells_as (to_owns p t j, from_owns p t j)
      (tells_need tbox F l (OwnsAt p t j) (λ i q. tells_and (tells_number i j) (tells_and (tells_equivalent tbox q p) (tells_kept tbox F l (Successor t j)))) t)

  own_from : (p : Prop) (t : Element) (a : Option ℕ) → LeastOf nat_cmp nat_cmp_total (tells_owns p t) (numbers tbox) a → Finds (IsLeastOwn tbox P p t) (option_map (Successor t) a)
  own_from p t (Some j) w = record {
    number = j;
    prop = w.is.0;
    alike = w.is.1.1.0;
    needs = w.is.1.0;
    own = (refl, w.is.1.1.1);
    least = λ i q v less e n o. w.least i (added_number tbox n.left q i n.stated) (q, (n, (e, subst (IsKept tbox P) o.0 o.1))) (sym (nat_cmp_is i j Less less));
  }
  own_from p t None n = λ u w. n w.number (added_number tbox w.needs.left w.prop w.number w.needs.stated) (w.prop, (w.needs, (w.alike, subst (IsKept tbox P) w.own.0 w.own.1)))

  finds_least_own : (p : Prop) (t : Element) → Finds (IsLeastOwn tbox P p t) (option_map (Successor t) (least nat_cmp (owns tbox facts p t) (numbers tbox)))
  finds_least_own p t = own_from p t (least nat_cmp (owns tbox facts p t) (numbers tbox)) (finds_least nat_cmp nat_cmp_total (tells_owns p t) (numbers tbox))

  finds_filler : (k : ℕ) (p : Prop) (t : Element) → Finds (Fills tbox P k p t) (filler_of tbox facts k p t)
  finds_filler k p t =
      finds_first (IsOwn tbox P k t) (FirstOf (IsLeastNamed tbox P p t) (FirstOf (IsParentFiller tbox P p t) (IsLeastOwn tbox P p t))) _ _ (finds_own k t)
      (finds_first (IsLeastNamed tbox P p t) (FirstOf (IsParentFiller tbox P p t) (IsLeastOwn tbox P p t)) _ _ (finds_named p t)
      (finds_first (IsParentFiller tbox P p t) (IsLeastOwn tbox P p t) _ _ (finds_parent p t) (finds_least_own p t)))

  -- what an existential inclusion of the number says of the filler
  abbrev FillsBy : ℕ → Element → Element → Basic → Prop → ℕ → Type 0
  FillsBy k t u b p j = ((j ≡ k) × IsIn P b t) × Fills tbox P k p t u

  finds_by : (k : ℕ) (t : Element) (i : Inclusion) → Finds (λ u. AddsWith (FillsBy k t u) i) (filler_by tbox facts k t i)
  finds_by k t (IClass b a) = λ u h. h
  finds_by k t (Exists b r end j) = finds_if (Fills tbox P k (PRole r) t) (nat_eq j k && is_in tbox facts t b) (filler_of tbox facts k (PRole r) t) (tells_and (tells_number j k) (tells_in tbox F l t b)) (finds_filler k (PRole r) t)
  finds_by k t (HasValue b v j) = finds_if (Fills tbox P k (PAttr v) t) (nat_eq j k && is_in tbox facts t b) (filler_of tbox facts k (PAttr v) t) (tells_and (tells_number j k) (tells_in tbox F l t b)) (finds_filler k (PAttr v) t)
  finds_by k t (IRole r s) = λ u h. h
  finds_by k t (IAttr u v) = λ w h. h
  finds_by k t (Range u kind) = λ w h. h

  abbrev FoundBy : ℕ → Element → Element → Type 0
  FoundBy k t u = (p : Prop) × (Needs tbox P k p t × Fills tbox P k p t u)

  to_found : (k : ℕ) (t u : Element) → (i : Inclusion) × (Contains tbox i × AddsWith (FillsBy k t u) i) → FoundBy k t u
  to_found k t u w = go (to_adding (FillsBy k t u) tbox w.0 w.1.0 w.1.1)
    where
      go : SomeAdding (FillsBy k t u) tbox → FoundBy k t u
      go (b, (p, (j, (a, ((e, i), f))))) = (p, (record { left = b; stated = subst (Adds tbox b p) e a; is_in = i }, f))

  from_found : (k : ℕ) (t u : Element) → FoundBy k t u → (i : Inclusion) × (Contains tbox i × AddsWith (FillsBy k t u) i)
  from_found k t u (p, (n, f)) = from_adding (FillsBy k t u) tbox n.left p k n.stated ((refl, n.is_in), f)

  finds_found : (k : ℕ) (t : Element) → Finds (FoundBy k t) (first_given (filler_by tbox facts k t) tbox)
  finds_found k t = finds_as (λ u. (i : Inclusion) × (Contains tbox i × AddsWith (FillsBy k t u) i)) (FoundBy k t) (first_given (filler_by tbox facts k t) tbox) (λ u. (to_found k t u, from_found k t u)) (finds_given (filler_by tbox facts k t) (λ i u. AddsWith (FillsBy k t u) i) (finds_by k t) tbox)

  filled : (k : ℕ) (t : Element) (kept : Bool) → Tells kept (IsKept tbox P t) → (a : Option Element) → Finds (FoundBy k t) a → IsFill tbox P k t (if kept then unwrap_or a t else t)
  filled k t true h (Some u) w = inl (record { kept = h.yes refl; prop = w.0; needs = w.1.0; fills = w.1.1 })
  filled k t true h None n = inr ((λ u f. n u (f.prop, (f.needs, f.fills))), refl)
  filled k t false h a w = inr ((λ u f. false≢true (h.holds f.kept)), refl)

  -- the filler of a number
  pub fill_is : (k : ℕ) (t : Element) → IsFill tbox P k t (fill tbox facts k t)
  fill_is k t = filled k t (is_kept tbox facts t) (tells_kept tbox F l t) (first_given (filler_by tbox facts k t) tbox) (finds_found k t)

  -- there is one
  pub has_fill : (k : ℕ) (t : Element) → Some_has (IsFill tbox P k t)
  has_fill k t = (fill tbox facts k t, fill_is k t)

  not_source : (q : Prop) (t s : Element) (k : ℕ) → IsSource F (pair_fact q t (Successor s k)) → ⊥
  not_source q t s k h = absurd (no_fact q h.fact h.is)
    where
      no_fact : (q : Prop) (f : Fact Term) → pair_fact q t (Successor s k) ≡ map_fact Named f → ⊥
      no_fact q f e = named_no_successor (Successor s k) s k (named_terms q t (Successor s k) f e).1 refl

  -- a subject of an unnamed value is its parent
  value_parent : (u : Name) (s : Element) (k : ℕ) → IsValueOf P u (Successor s k) → P (InAttr u s (Successor s k))
  value_parent u s k (t, h) = at (pair_origin tbox F (InAttr u t (Successor s k)) h (PAttr u) t (Successor s k) refl)
    where
      role_inverse : (q : Prop) → IsRole q → IsRole (inverse q)
      role_inverse (PRole r) i = tt
      role_inverse (PAttr v) i = absurd i

      at : PairOrigin tbox F (PAttr u) t (Successor s k) → P (InAttr u s (Successor s k))
      at (given q w b) = absurd (not_source q t s k w)
      at (made j q n e b) = let i : s ≡ t = cc in subst (λ z. P (InAttr u z (Successor s k))) (sym i) h
      at (back j q r n e b) = absurd (below_role tbox (inverse q) (PAttr u) b (role_inverse q r))

  tells_value : (u : Name) (s : Element) (k : ℕ) → Tells (is_filler tbox facts (PAttr u) s (Successor s k)) (IsValueOf P u (Successor s k))
  tells_value u s k = tells_as ((λ h. (s, h)), value_parent u s k) (tells_filler tbox F l (PAttr u) s (Successor s k))

  range_is : (s : Element) (k : ℕ) (is : List Inclusion) → IsRangeKind P (Successor s k) is (range_kind tbox facts s k is)
  range_is s k [] = refl
  range_is s k (IClass b a ∷ is) = range_is s k is
  range_is s k (Exists b r end j ∷ is) = range_is s k is
  range_is s k (HasValue b u j ∷ is) = range_is s k is
  range_is s k (IRole r t ∷ is) = range_is s k is
  range_is s k (IAttr t u ∷ is) = range_is s k is
  range_is s k (Range u kind ∷ is) = go (is_filler tbox facts (PAttr u) s (Successor s k)) (tells_value u s k) (range_kind tbox facts s k is) (range_is s k is)
    where
      go : (b : Bool) → Tells b (IsValueOf P u (Successor s k)) → (a : Option Kind) → IsRangeKind P (Successor s k) is a → IsRangeKind P (Successor s k) (Range u kind ∷ is) (if b then Some kind else a)
      go true v a w = inl (v.yes refl, refl)
      go false v a w = inr ((λ h. false≢true (v.holds h)), w)

  -- the kind of an element
  pub kind_is : (e : Element) → IsKindOf tbox P e (kind_of tbox facts e)
  kind_is (Named (term.Value v)) = refl
  kind_is (Named (term.Object o)) = refl
  kind_is (Successor s k) = range_is s k tbox

  -- there is one
  pub has_kind : (e : Element) → Some_has (IsKindOf tbox P e)
  has_kind e = (kind_of tbox facts e, kind_is e)
