-- The normal inclusions keep the facts that hold, over names that documents may use.
use Rattle.std.proofs.Common.{◌≡◌, ℕ, ◌+◌, ◌⊎◌, inl, inr, ◌↔◌, List, [], ◌∷◌, Option, Some, None, Contains, refl, sym, ap, ◌∙◌, subst, arith}
use Rattle.mast_terms.specs.declared.name.Name.{Name}
use Rattle.mast_terms.specs.declared.term.Term.{Term}
use Rattle.mast_cq.specs.Meanings.{Fact, InClass, InRole, InAttr}
use Rattle.mast_tbox.specs.declared.axiom.Inclusion.{Inclusion}
use Rattle.mast_tbox.specs.declared.axiom.Inclusion.TheVariants.{Class as IClass, Exists, HasValue, Role as IRole, Attr as IAttr, Range}
use Rattle.mast_tbox.specs.declared.axiom.Lined.{Lined}
use Rattle.mast_tbox.specs.declared.expression.Basic.{Basic}
use Rattle.mast_tbox.specs.declared.expression.Basic.TheVariants.{Class as BClass, Some as BSome, Subjects}
use Rattle.mast_tbox.specs.declared.expression.Prop.{Prop}
use Rattle.mast_tbox.specs.declared.expression.Prop.TheVariants.{Role as PRole, Attr as PAttr}
use Rattle.mast_tbox.specs.declared.expression.RoleExpr.{RoleExpr}
use Rattle.mast_tbox.specs.declared.expression.RoleExpr.TheVariants.{Direct, Inverse}
use Rattle.mast_tbox.specs.Inclusions.{first_auxiliary, auxiliary, normal_of, normal, Adds, States}
use Rattle.mast_tbox.specs.Lists.{items}
use Rattle.mast_tbox.specs.Names.{BasicNamed, PropNamed, IsStatable, AreInRange, InRange}
use Rattle.mast_tbox.specs.Numbers.{IsNumbered}
use Rattle.mast_tbox.proofs.MemberLemmas.{front, later, none, first_or, only_one}
use Rattle.mast_tbox.proofs.NumberLemmas.{source_of, normal_has, one_inclusion, no_end}
use Rattle.mast_canon.specs.Derivations.{FactStep, into_class, adds, ends, widens, IsSource, Holds, source, follows}
use Rattle.mast_canon.specs.Elements.{Element, Named, Successor, map_fact}
use Rattle.mast_canon.specs.Memberships.{pair_fact, shows}
use Rattle.mast_canon.specs.TheoryPremises.{FactInRange, FactsInRange}

-- the three inclusions that stand for a qualified one
abbrev edge : RoleExpr → ℕ → Inclusion
edge r k = IRole (Direct (auxiliary k)) r

abbrev end : Name → ℕ → Inclusion
end a k = IClass (BSome (Inverse (auxiliary k))) a

abbrev start : Basic → ℕ → Inclusion
start b k = Exists b (Direct (auxiliary k)) None k

module _ (tbox : List Inclusion) (F : Fact Term → Type 0) where
  abbrev H : Fact Element → Type 0
  H f = Holds (normal tbox) F f

  plain : (i : Inclusion) → Contains tbox i → normal_of i ≡ i ∷ [] → Contains (normal tbox) i
  plain i c e = normal_has tbox i i c (subst (λ w. Contains w i) (sym e) (front i []))

  has_edge : (b : Basic) (r : RoleExpr) (a : Name) (k : ℕ) → Contains tbox (Exists b r (Some a) k) → Contains (normal tbox) (edge r k)
  has_edge b r a k c = normal_has tbox (Exists b r (Some a) k) (edge r k) c (front (edge r k) (end a k ∷ start b k ∷ []))

  has_end : (b : Basic) (r : RoleExpr) (a : Name) (k : ℕ) → Contains tbox (Exists b r (Some a) k) → Contains (normal tbox) (end a k)
  has_end b r a k c = normal_has tbox (Exists b r (Some a) k) (end a k) c (later (end a k) (edge r k) (end a k ∷ start b k ∷ []) (front (end a k) (start b k ∷ [])))

  has_start : (b : Basic) (r : RoleExpr) (a : Name) (k : ℕ) → Contains tbox (Exists b r (Some a) k) → Contains (normal tbox) (start b k)
  has_start b r a k c =
      normal_has tbox (Exists b r (Some a) k) (start b k) c
      (later (start b k) (edge r k) (end a k ∷ start b k ∷ []) (later (start b k) (end a k) (start b k ∷ []) (front (start b k) [])))

  -- a qualified inclusion makes the edge of its auxiliary role
  made : (b : Basic) (r : RoleExpr) (a : Name) (k : ℕ) (t u : Element) → Contains tbox (Exists b r (Some a) k) → H (shows b t u) → H (pair_fact (PRole (Direct (auxiliary k))) t (Successor t k))
  made b r a k t u c h = follows h (adds b (PRole (Direct (auxiliary k))) k t u (None, has_start b r a k c) refl refl)

  add_normal : (b : Basic) (p : Prop) (k : ℕ) (t u : Element) → Adds tbox b p k → H (shows b t u) → H (pair_fact p t (Successor t k))
  add_normal b (PRole r) k t u (None, c) h = follows h (adds b (PRole r) k t u (None, plain (Exists b r None k) c refl) refl refl)
  add_normal b (PRole r) k t u (Some a, c) h =
      follows (made b r a k t u c h) (widens (PRole (Direct (auxiliary k))) (PRole r) t (Successor t k) (has_edge b r a k c) refl refl)
  add_normal b (PAttr v) k t u c h = follows h (adds b (PAttr v) k t u (plain (HasValue b v k) c refl) refl refl)

  states_normal : (p q : Prop) → States tbox p q → States (normal tbox) p q
  states_normal (PRole r) (PRole s) c = plain (IRole r s) c refl
  states_normal (PRole r) (PAttr v) c = absurd c
  states_normal (PAttr u) (PRole s) c = absurd c
  states_normal (PAttr u) (PAttr v) c = plain (IAttr u v) c refl

  step_normal : (f g : Fact Element) → FactStep tbox f g → H f → H g
  step_normal f g (FactStep.into_class b a t u c ef eg) h = follows h (into_class b a t u (plain (IClass b a) c refl) ef eg)
  step_normal f g (FactStep.adds b p k t u c ef eg) h = subst H (sym eg) (add_normal b p k t u c (subst H ef h))
  step_normal f g (FactStep.ends b r a k t u c ef eg) h =
      follows (made b r a k t u c (subst H ef h)) (into_class (BSome (Inverse (auxiliary k))) a (Successor t k) t (has_end b r a k c) refl eg)
  step_normal f g (FactStep.widens p q t u c ef eg) h = follows h (widens p q t u (states_normal p q c) ef eg)

  -- what holds holds by the normal inclusions
  pub normal_holds : (f : Fact Element) → Holds tbox F f → H f
  normal_holds f (source s) = source s
  normal_holds f (follows {f = e} h step) = step_normal e f step (normal_holds e h)

-- a normal inclusion is stated, or one of the three of a qualified one
pub data FromStated (tbox : List Inclusion) (i : Inclusion) : Type 0 where
  itself : Contains tbox i → FromStated tbox i
  edge_of : (b : Basic) (r : RoleExpr) (a : Name) (k : ℕ) → Contains tbox (Exists b r (Some a) k) → i ≡ edge r k → FromStated tbox i
  end_of : (b : Basic) (r : RoleExpr) (a : Name) (k : ℕ) → Contains tbox (Exists b r (Some a) k) → i ≡ end a k → FromStated tbox i
  start_of : (b : Basic) (r : RoleExpr) (a : Name) (k : ℕ) → Contains tbox (Exists b r (Some a) k) → i ≡ start b k → FromStated tbox i

module _ (tbox : List Inclusion) where
  alone : (s i : Inclusion) → Contains tbox s → Contains (s ∷ []) i → FromStated tbox i
  alone s i c g = FromStated.itself (subst (Contains tbox) (sym (only_one s i g)) c)

  of_three : (b : Basic) (r : RoleExpr) (a : Name) (k : ℕ) (i : Inclusion) → Contains tbox (Exists b r (Some a) k) → Contains (edge r k ∷ end a k ∷ start b k ∷ []) i → FromStated tbox i
  of_three b r a k i c g = elim (first_or (edge r k) (end a k ∷ start b k ∷ []) i g) [
    | inl e ↦ edge_of b r a k c e
    | inr d ↦ elim (first_or (end a k) (start b k ∷ []) i d) [
      | inl e ↦ end_of b r a k c e
      | inr f ↦ start_of b r a k c (only_one (start b k) i f)
    ]
  ]

  of_stated : (s i : Inclusion) → Contains tbox s → Contains (normal_of s) i → FromStated tbox i
  of_stated (IClass b a) i c g = alone (IClass b a) i c g
  of_stated (Exists b r None k) i c g = alone (Exists b r None k) i c g
  of_stated (Exists b r (Some a) k) i c g = of_three b r a k i c g
  of_stated (HasValue b u k) i c g = alone (HasValue b u k) i c g
  of_stated (IRole r s) i c g = alone (IRole r s) i c g
  of_stated (IAttr u v) i c g = alone (IAttr u v) i c g
  of_stated (Range u kind) i c g = absurd (none i g)

  pub from_stated : (i : Inclusion) → Contains (normal tbox) i → FromStated tbox i
  from_stated i c = let w = source_of tbox i c in of_stated w.stated i w.stands w.gives

-- names in range, and auxiliary roles, which are not
aux_out : (k : ℕ) → InRange (auxiliary k) → ⊥
aux_out k l = omega (arith, l)

aux_one : (j k : ℕ) → auxiliary j ≡ auxiliary k → j ≡ k
aux_one j k e = let w : first_auxiliary + j ≡ first_auxiliary + k = ap (λ n. n.0) e in omega (arith, w)

module _ {X : Type 0} where
  pub pair_range : (p : Prop) (t u : X) → PropNamed IsStatable p → FactInRange (pair_fact p t u)
  pair_range (PRole (Direct p)) t u i = i
  pair_range (PRole (Inverse p)) t u i = i
  pair_range (PAttr v) t u i = i

  pub shows_range : (b : Basic) (t u : X) → BasicNamed IsStatable b → FactInRange (shows b t u)
  shows_range (BClass a) t u i = i
  shows_range (BSome r) t u i = pair_range (PRole r) t u i
  shows_range (Subjects v) t u i = i

pub named_range : (f : Fact Term) → FactInRange f → FactInRange (map_fact Named f)
named_range (InClass a t) i = i
named_range (InRole p t u) i = i
named_range (InAttr v t u) i = i

module _ (ls : List (Lined Inclusion)) (F : Fact Term → Type 0) (numbered : IsNumbered ls) (range : AreInRange (items ls)) (facts : FactsInRange F) where
  abbrev tbox : List Inclusion
  tbox = items ls

  -- the fact is an edge of an auxiliary role, whose inclusion has its left side held
  record IsEdge (f : Fact Element) : Type 0 where
    sub : Basic
    role : RoleExpr
    end_class : Name
    number : ℕ
    subject : Element
    other : Element
    stands : Contains tbox (Exists sub role (Some end_class) number)
    is : f ≡ InRole (auxiliary number) subject (Successor subject number)
    holds : Holds tbox F (shows sub subject other)

  abbrev Good : Fact Element → Type 0
  Good f = (FactInRange f × Holds tbox F f) ⊎ IsEdge f

  low_holds : (f : Fact Element) → FactInRange f → Good f → Holds tbox F f
  low_holds f l (inl g) = g.1
  low_holds f l (inr e) = absurd (aux_out e.number (subst FactInRange e.is l))

  -- the edge of an auxiliary role that is good
  edge_at : (f : Fact Element) (k : ℕ) (t u : Element) → f ≡ InRole (auxiliary k) t u → Good f → IsEdge f
  edge_at f k t u e (inl g) = absurd (aux_out k (subst FactInRange e g.0))
  edge_at f k t u e (inr g) = g

  -- what a good edge of the auxiliary role of a qualified inclusion says
  record Says (b : Basic) (k : ℕ) (t u : Element) : Type 0 where
    other : Element
    is : u ≡ Successor t k
    holds : Holds tbox F (shows b t other)

  says : (b : Basic) (r : RoleExpr) (a : Name) (k : ℕ) (t u : Element) (f : Fact Element) → Contains tbox (Exists b r (Some a) k) → f ≡ InRole (auxiliary k) t u → IsEdge f → Says b k t u
  says b r a k t u f c e g =
      let same : InRole (auxiliary k) t u ≡ InRole (auxiliary g.number) g.subject (Successor g.subject g.number) = sym e ∙ g.is in
      let names : auxiliary k ≡ auxiliary g.number = cc in
      let number : k ≡ g.number = aux_one k g.number names in
      let subject : t ≡ g.subject = cc in
      let filler : u ≡ Successor g.subject g.number = cc in
      let stands : Contains tbox (Exists g.sub g.role (Some g.end_class) k) = subst (λ n. Contains tbox (Exists g.sub g.role (Some g.end_class) n)) (sym number) g.stands in
      let one = one_inclusion ls (Exists b r (Some a) k) (Exists g.sub g.role (Some g.end_class) k) k numbered c stands refl refl in
      let sub : b ≡ g.sub = cc in
      record {
        other = g.other;
        is = filler ∙ ap (λ x. Successor x g.number) (sym subject) ∙ ap (Successor t) (sym number);
        holds = subst (λ x. Holds tbox F (shows x t g.other)) (sym sub) (subst (λ x. Holds tbox F (shows g.sub x g.other)) (sym subject) g.holds);
      }

  -- the left side is in range, so what shows it holds
  left_holds : (b : Basic) (t u : Element) (f : Fact Element) → BasicNamed IsStatable b → f ≡ shows b t u → Good f → Holds tbox F (shows b t u)
  left_holds b t u f i e g = let l = shows_range b t u i in subst (Holds tbox F) e (low_holds f (subst FactInRange (sym e) l) g)

  class_good : (b : Basic) (a : Name) (t u : Element) (f : Fact Element) → FromStated tbox (IClass b a) → f ≡ shows b t u → Good f → Good (InClass a t)
  class_good b a t u f (FromStated.itself c) e g =
      let i = range (IClass b a) c in inl (i.1, follows (left_holds b t u f i.0 e g) (into_class b a t u c refl refl))
  class_good b a t u f (edge_of b' r a' k c w) e g = absurd (cc w)
  class_good b a t u f (end_of b' r a' k c w) e g =
      let is_left : b ≡ BSome (Inverse (auxiliary k)) = cc in
      let is_class : a ≡ a' = cc in
      let at : f ≡ InRole (auxiliary k) u t = e ∙ ap (λ x. shows x t u) is_left in
      let said = says b' r a' k u t f c at (edge_at f k u t at g) in
      let i = range (Exists b' r (Some a') k) c in
      let h : Holds tbox F (InClass a' (Successor u k)) = follows said.holds (ends b' r a' k u said.other c refl refl) in
      inl (subst InRange (sym is_class) i.1.1, subst (λ x. Holds tbox F (InClass x t)) (sym is_class) (subst (λ x. Holds tbox F (InClass a' x)) (sym said.is) h))
  class_good b a t u f (start_of b' r a' k c w) e g = absurd (cc w)

  exists_good : (b : Basic) (r : RoleExpr) (x : Option Name) (k : ℕ) (t u : Element) (f : Fact Element) → FromStated tbox (Exists b r x k) → f ≡ shows b t u → Good f → Good (pair_fact (PRole r) t (Successor t k))
  exists_good b r x k t u f (FromStated.itself c) e g =
      let i = range (Exists b r x k) c in
      inl (pair_range (PRole r) t (Successor t k) i.1.0, follows (left_holds b t u f i.0 e g) (adds b (PRole r) k t u (x, c) refl refl))
  exists_good b r x k t u f (edge_of b' r' a j c w) e g = absurd (cc w)
  exists_good b r x k t u f (end_of b' r' a j c w) e g = absurd (cc w)
  exists_good b r x k t u f (start_of b' r' a j c w) e g =
      let is_left : b ≡ b' = cc in
      let is_role : r ≡ Direct (auxiliary j) = cc in
      let number : k ≡ j = cc in
      let i = range (Exists b' r' (Some a) j) c in
      inr (record {
        sub = b';
        role = r';
        end_class = a;
        number = j;
        subject = t;
        other = u;
        stands = c;
        is = ap (λ y. pair_fact (PRole y) t (Successor t k)) is_role ∙ ap (λ n. InRole (auxiliary j) t (Successor t n)) number;
        holds = left_holds b' t u f i.0 (e ∙ ap (λ y. shows y t u) is_left) g;
      })

  value_good : (b : Basic) (v : Name) (k : ℕ) (t u : Element) (f : Fact Element) → FromStated tbox (HasValue b v k) → f ≡ shows b t u → Good f → Good (InAttr v t (Successor t k))
  value_good b v k t u f (FromStated.itself c) e g =
      let i = range (HasValue b v k) c in inl (i.1, follows (left_holds b t u f i.0 e g) (adds b (PAttr v) k t u c refl refl))
  value_good b v k t u f (edge_of b' r' a j c w) e g = absurd (cc w)
  value_good b v k t u f (end_of b' r' a j c w) e g = absurd (cc w)
  value_good b v k t u f (start_of b' r' a j c w) e g = absurd (cc w)

  adds_good : (b : Basic) (p : Prop) (k : ℕ) (t u : Element) (f : Fact Element) → Adds (normal tbox) b p k → f ≡ shows b t u → Good f → Good (pair_fact p t (Successor t k))
  adds_good b (PRole r) k t u f (x, c) e g = exists_good b r x k t u f (from_stated tbox (Exists b r x k) c) e g
  adds_good b (PAttr v) k t u f c e g = value_good b v k t u f (from_stated tbox (HasValue b v k) c) e g

  role_good : (r s : RoleExpr) (t u : Element) (f : Fact Element) → FromStated tbox (IRole r s) → f ≡ pair_fact (PRole r) t u → Good f → Good (pair_fact (PRole s) t u)
  role_good r s t u f (FromStated.itself c) e g =
      let i = range (IRole r s) c in
      let l = pair_range (PRole r) t u i.0 in
      inl (pair_range (PRole s) t u i.1, follows (subst (Holds tbox F) e (low_holds f (subst FactInRange (sym e) l) g)) (widens (PRole r) (PRole s) t u c refl refl))
  role_good r s t u f (edge_of b r' a k c w) e g =
      let is_role : r ≡ Direct (auxiliary k) = cc in
      let is_wider : s ≡ r' = cc in
      let at : f ≡ InRole (auxiliary k) t u = e ∙ ap (λ x. pair_fact (PRole x) t u) is_role in
      let said = says b r' a k t u f c at (edge_at f k t u at g) in
      let i = range (Exists b r' (Some a) k) c in
      let h : Holds tbox F (pair_fact (PRole r') t (Successor t k)) = follows said.holds (adds b (PRole r') k t said.other (Some a, c) refl refl) in
      inl (
        subst (λ x. FactInRange (pair_fact (PRole x) t u)) (sym is_wider) (pair_range (PRole r') t u i.1.0),
        subst (λ x. Holds tbox F (pair_fact (PRole x) t u)) (sym is_wider) (subst (λ x. Holds tbox F (pair_fact (PRole r') t x)) (sym said.is) h),
      )
  role_good r s t u f (end_of b r' a k c w) e g = absurd (cc w)
  role_good r s t u f (start_of b r' a k c w) e g = absurd (cc w)

  attr_good : (v w : Name) (t u : Element) (f : Fact Element) → FromStated tbox (IAttr v w) → f ≡ InAttr v t u → Good f → Good (InAttr w t u)
  attr_good v w t u f (FromStated.itself c) e g =
      let i = range (IAttr v w) c in
      inl (i.1, follows (subst (Holds tbox F) e (low_holds f (subst FactInRange (sym e) i.0) g)) (widens (PAttr v) (PAttr w) t u c refl refl))
  attr_good v w t u f (edge_of b r a k c q) e g = absurd (cc q)
  attr_good v w t u f (end_of b r a k c q) e g = absurd (cc q)
  attr_good v w t u f (start_of b r a k c q) e g = absurd (cc q)

  widens_good : (p q : Prop) (t u : Element) (f : Fact Element) → States (normal tbox) p q → f ≡ pair_fact p t u → Good f → Good (pair_fact q t u)
  widens_good (PRole r) (PRole s) t u f c e g = role_good r s t u f (from_stated tbox (IRole r s) c) e g
  widens_good (PRole r) (PAttr v) t u f c e g = absurd c
  widens_good (PAttr v) (PRole s) t u f c e g = absurd c
  widens_good (PAttr v) (PAttr w) t u f c e g = attr_good v w t u f (from_stated tbox (IAttr v w) c) e g

  step_good : (f g : Fact Element) → FactStep (normal tbox) f g → Good f → Good g
  step_good f g (FactStep.into_class b a t u c ef eg) h = subst Good (sym eg) (class_good b a t u f (from_stated tbox (IClass b a) c) ef h)
  step_good f g (FactStep.adds b p k t u c ef eg) h = subst Good (sym eg) (adds_good b p k t u f c ef h)
  step_good f g (FactStep.ends b r a k t u c ef eg) h = let w : Some a ≡ None = no_end tbox b r (Some a) k c in cc
  step_good f g (FactStep.widens p q t u c ef eg) h = subst Good (sym eg) (widens_good p q t u f c ef h)

  source_good : (f : Fact Element) → IsSource F f → Good f
  source_good f s = inl (subst FactInRange (sym s.is) (named_range s.fact (facts s.fact s.given)), source s)

  good : (f : Fact Element) → Holds (normal tbox) F f → Good f
  good f (source s) = source_good f s
  good f (follows {f = e} h step) = step_good e f step (good e h)

  -- over names in range the same facts hold by both
  pub normal_same : (f : Fact Element) → FactInRange f → Holds tbox F f ↔ Holds (normal tbox) F f
  normal_same f i = (normal_holds tbox F f, λ h. low_holds f i (good f h))
