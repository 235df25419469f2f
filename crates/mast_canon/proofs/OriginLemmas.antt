-- Where what holds comes from: a pair, and the membership of an element in a basic concept.
use Rattle.std.proofs.Common.{◌≡◌, ℕ, inl, inr, List, Option, Some, Contains, refl, sym, ap, ◌∙◌, subst}
use Rattle.mast_terms.specs.declared.name.Name.{Name}
use Rattle.mast_terms.specs.declared.term.Term.{Term}
use Rattle.mast_cq.specs.Meanings.{Fact, InClass}
use Rattle.mast_tbox.specs.declared.axiom.Inclusion.{Inclusion}
use Rattle.mast_tbox.specs.declared.axiom.Inclusion.TheVariants.{Exists}
use Rattle.mast_tbox.specs.declared.expression.Basic.{Basic}
use Rattle.mast_tbox.specs.declared.expression.Basic.TheVariants.{Class as BClass, Some as BSome, Subjects}
use Rattle.mast_tbox.specs.declared.expression.Prop.{Prop}
use Rattle.mast_tbox.specs.declared.expression.Prop.TheVariants.{Role as PRole, Attr as PAttr}
use Rattle.mast_tbox.specs.declared.expression.RoleExpr.{RoleExpr}
use Rattle.mast_tbox.specs.Expressions.{inverse, inverse_role, subjects}
use Rattle.mast_tbox.specs.Inclusions.{Adds, States, IsDirectlyBelow, by_class, by_filler, by_property}
use Rattle.mast_tbox.specs.Lists.{Reaches, itself, onward}
use Rattle.mast_tbox.specs.Properties.{IsBelow}
use Rattle.mast_tbox.proofs.EqualityLemmas.{inverse_twice}
use Rattle.mast_tbox.proofs.JudgeLemmas.{below_inverse}
use Rattle.mast_tbox.proofs.WorkLemmas.{reaches_join}
use Rattle.mast_canon.specs.Derivations.{FactStep, into_class, adds, ends, IsSource, Holds, source, follows}
use Rattle.mast_canon.specs.Elements.{Element, Successor}
use Rattle.mast_canon.specs.KeptTerms.{Needs}
use Rattle.mast_canon.specs.Memberships.{pair_fact, shows, IsIn}
use Rattle.mast_canon.proofs.FactLemmas.{pair_turned, same, turned, readings, no_class}
use Rattle.mast_canon.proofs.UnspecialisedLemmas.{IsRole, leads_holds, below_holds}

-- what shows an element in the subjects of a property is a pair of it
pub shows_subjects : {X : Type 0} (p : Prop) (t u : X) → shows (subjects p) t u ≡ pair_fact p t u
shows_subjects (PRole r) t u = refl
shows_subjects (PAttr v) t u = refl

-- a pair of the inverse of a role
pub pair_inverse : {X : Type 0} (p : Prop) (t u : X) → IsRole p → pair_fact (inverse p) t u ≡ pair_fact p u t
pair_inverse (PRole r) t u i = pair_turned r t u
pair_inverse (PAttr v) t u i = absurd i

class_shown : {X : Type 0} (c : Basic) (t u x : X) (a : Name) → shows c t u ≡ InClass a x → (c ≡ BClass a) × (t ≡ x)
class_shown (BClass b) t u x a e = let i : b ≡ a = cc in let j : t ≡ x = cc in (ap BClass i, j)
class_shown (BSome r) t u x a e = absurd (no_class (PRole r) t u x a e)
class_shown (Subjects v) t u x a e = absurd (no_class (PAttr v) t u x a e)

record IsSubjects {X : Type 0} (c : Basic) (t u : X) : Type 0 where
  prop : Prop
  is : c ≡ subjects prop
  shown : shows c t u ≡ pair_fact prop t u

pair_shown : {X : Type 0} (c : Basic) (t u x y : X) (q : Prop) → shows c t u ≡ pair_fact q x y → IsSubjects c t u
pair_shown (BClass a) t u x y q e = absurd (no_class q x y t a (sym e))
pair_shown (BSome r) t u x y q e = record { prop = PRole r; is = refl; shown = refl }
pair_shown (Subjects v) t u x y q e = record { prop = PAttr v; is = refl; shown = refl }

module _ (tbox : List Inclusion) (F : Fact Term → Type 0) where
  abbrev P : Fact Element → Type 0
  P f = Holds tbox F f

  -- a pair comes from a given one, from the successor that the first has by a number, or from that which the second has
  pub data PairOrigin (p : Prop) (t u : Element) : Type 0 where
    given : (q : Prop) → IsSource F (pair_fact q t u) → IsBelow tbox q p → PairOrigin p t u
    made : (k : ℕ) (q : Prop) → Needs tbox P k q t → u ≡ Successor t k → IsBelow tbox q p → PairOrigin p t u
    back : (k : ℕ) (q : Prop) → IsRole q → Needs tbox P k q u → t ≡ Successor u k → IsBelow tbox (inverse q) p → PairOrigin p t u

  more_pair : (p q : Prop) (t u : Element) → IsBelow tbox p q → PairOrigin p t u → PairOrigin q t u
  more_pair p q t u b (given r s c) = given r s (reaches_join r p q c b)
  more_pair p q t u b (made k r n i c) = made k r n i (reaches_join r p q c b)
  more_pair p q t u b (back k r i n j c) = back k r i n j (reaches_join (inverse r) p q c b)

  one_step : (p q : Prop) → States tbox p q → IsBelow tbox p q
  one_step p q c = onward (inl c) itself

  added : (p q : Prop) (b : Basic) (k : ℕ) (t u x y : Element) → Adds tbox b q k → P (shows b x y) → pair_fact p t u ≡ pair_fact q x (Successor x k) → PairOrigin p t u
  added p q b k t u x y c h e = elim (readings p q t u x (Successor x k) e) [
    | same i j m ↦ made k q (subst (Needs tbox P k q) (sym j) (record { left = b; stated = c; is_in = (y, h) })) (m ∙ ap (λ z. Successor z k) (sym j)) (subst (IsBelow tbox q) (sym i) itself)
    | turned r i j l m ↦ back k q (subst IsRole (sym j) tt) (subst (Needs tbox P k q) (sym m) (record { left = b; stated = c; is_in = (y, h) })) (l ∙ ap (λ z. Successor z k) (sym m))
        (subst (IsBelow tbox (inverse q)) (ap inverse j ∙ sym i) itself)
  ]

  widened : (p q q' : Prop) (t u x y : Element) (g : Fact Element) → States tbox q' q → g ≡ pair_fact q' x y → pair_fact p t u ≡ pair_fact q x y
      → ((r : Prop) → g ≡ pair_fact r t u → PairOrigin r t u) → PairOrigin p t u
  widened p q q' t u x y g c eg e again = elim (readings p q t u x y e) [
    | same i j m ↦ more_pair q' p t u (subst (IsBelow tbox q') (sym i) (one_step q' q c)) (again q' (eg ∙ ap (λ z. pair_fact q' z y) (sym j) ∙ ap (pair_fact q' t) (sym m)))
    | turned r i j l m ↦ over r i j l m q' c eg
  ]
    where
      over : (r : RoleExpr) → p ≡ PRole (inverse_role r) → q ≡ PRole r → t ≡ y → u ≡ x → (q' : Prop) → States tbox q' q → g ≡ pair_fact q' x y → PairOrigin p t u
      over r i j l m (PAttr v) c eg = absurd (let d : States tbox (PAttr v) (PRole r) = subst (States tbox (PAttr v)) j c in d)
      over r i j l m (PRole s) c eg =
          let b : IsBelow tbox (PRole (inverse_role s)) p = subst (IsBelow tbox (PRole (inverse_role s))) (ap inverse j ∙ sym i) (below_inverse tbox (PRole s) q (one_step (PRole s) q c)) in
          more_pair (PRole (inverse_role s)) p t u b
          (again (PRole (inverse_role s)) (eg ∙ sym (pair_turned s y x) ∙ ap (λ z. pair_fact (PRole (inverse_role s)) z x) (sym l) ∙ ap (pair_fact (PRole (inverse_role s)) t) (sym m)))

  pub pair_origin : (f : Fact Element) → P f → (p : Prop) (t u : Element) → f ≡ pair_fact p t u → PairOrigin p t u
  pair_origin f (source s) p t u e = given p (subst (IsSource F) e s) itself
  pair_origin f (follows {f = g} h (FactStep.into_class b a x y c eg ef)) p t u e = absurd (no_class p t u x a (sym e ∙ ef))
  pair_origin f (follows {f = g} h (FactStep.adds b q k x y c eg ef)) p t u e = added p q b k t u x y c (subst P eg h) (sym e ∙ ef)
  pair_origin f (follows {f = g} h (FactStep.ends b r a k x y c eg ef)) p t u e = absurd (no_class p t u (Successor x k) a (sym e ∙ ef))
  pair_origin f (follows {f = g} h (FactStep.widens q' q x y c eg ef)) p t u e = widened p q q' t u x y g c eg (sym e ∙ ef) (λ r er. pair_origin g h r t u er)

  pub edge_holds : (k : ℕ) (q : Prop) (t : Element) → Needs tbox P k q t → P (pair_fact q t (Successor t k))
  edge_holds k q t n = follows n.is_in.1 (adds n.left q k t n.is_in.0 n.stated refl refl)

  pub origin_pair : (p : Prop) (t u : Element) → PairOrigin p t u → P (pair_fact p t u)
  origin_pair p t u (given q s b) = below_holds tbox F q p t u b (source s)
  origin_pair p t u (made k q n i b) = below_holds tbox F q p t u b (subst (λ z. P (pair_fact q t z)) (sym i) (edge_holds k q t n))
  origin_pair p t u (back k q r n i b) =
      below_holds tbox F (inverse q) p t u b (subst P (sym (pair_inverse q t u r)) (subst (λ z. P (pair_fact q u z)) (sym i) (edge_holds k q u n)))

  -- an element begins to be in a basic concept by a given fact, or as the successor by an inclusion: at the edge's end, or in the class
  pub data Starts (c : Basic) (t : Element) : Type 0 where
    given_in : (u : Element) → IsSource F (shows c t u) → Starts c t
    at_end : (b : Basic) (r : RoleExpr) (end : Option Name) (k : ℕ) (s : Element) → Contains tbox (Exists b r end k) → IsIn P b s → t ≡ Successor s k → c ≡ BSome (inverse_role r) → Starts c t
    in_end : (b : Basic) (r : RoleExpr) (a : Name) (k : ℕ) (s : Element) → Contains tbox (Exists b r (Some a) k) → IsIn P b s → t ≡ Successor s k → c ≡ BClass a → Starts c t

  -- and what is directly below leads from there
  pub record InOrigin (c : Basic) (t : Element) : Type 0 where
    pub start : Basic
    pub starts : Starts start t
    pub leads : Reaches (IsDirectlyBelow tbox) start c

  more_in : (c d : Basic) (t : Element) → IsDirectlyBelow tbox c d → InOrigin c t → InOrigin d t
  more_in c d t b o = record { start = o.start; starts = o.starts; leads = reaches_join o.start c d o.leads (onward b itself) }

  in_at : (c d : Basic) (t x : Element) → c ≡ d → t ≡ x → InOrigin d x → InOrigin c t
  in_at c d t x e f o = subst (λ z. InOrigin z t) (sym e) (subst (InOrigin d) (sym f) o)

  begins : (c : Basic) (t : Element) → Starts c t → InOrigin c t
  begins c t s = record { start = c; starts = s; leads = itself }

  added_in : (c : Basic) (q : Prop) (b : Basic) (k : ℕ) (t u x y : Element) → Adds tbox b q k → P (shows b x y) → shows c t u ≡ pair_fact q x (Successor x k) → InOrigin b x → InOrigin c t
  added_in c q b k t u x y a h e o =
      let s = pair_shown c t u x (Successor x k) q e in
      elim (readings s.prop q t u x (Successor x k) (sym s.shown ∙ e)) [
        | same i j m ↦ in_at c (subjects q) t x (s.is ∙ ap subjects i) j (more_in b (subjects q) x (by_filler q k a refl) o)
        | turned r i j l m ↦ (let d : Adds tbox b (PRole r) k = subst (λ z. Adds tbox b z k) j a in begins c t (at_end b r d.0 k x d.1 (y, h) l (s.is ∙ ap subjects i)))
      ]

  widened_in : (c : Basic) (q q' : Prop) (t u x y : Element) (g : Fact Element) → States tbox q' q → g ≡ pair_fact q' x y → shows c t u ≡ pair_fact q x y
      → ((d : Basic) (z v : Element) → g ≡ shows d z v → InOrigin d z) → InOrigin c t
  widened_in c q q' t u x y g a eg e again =
      let s = pair_shown c t u x y q e in
      elim (readings s.prop q t u x y (sym s.shown ∙ e)) [
        | same i j m ↦ in_at c (subjects q) t x (s.is ∙ ap subjects i) j (more_in (subjects q') (subjects q) x (by_property q' q (inl a) refl refl) (again (subjects q') x y (eg ∙ sym (shows_subjects q' x y))))
        | turned r i j l m ↦ over s.prop s.is r i j l q' a eg
      ]
    where
      over : (p : Prop) → c ≡ subjects p → (r : RoleExpr) → p ≡ PRole (inverse_role r) → q ≡ PRole r → t ≡ y → (q' : Prop) → States tbox q' q → g ≡ pair_fact q' x y → InOrigin c t
      over p is r i j l (PAttr v) a eg = absurd (let d : States tbox (PAttr v) (PRole r) = subst (States tbox (PAttr v)) j a in d)
      over p is r i j l (PRole w) a eg =
          let d : States tbox (PRole w) (PRole r) = subst (States tbox (PRole w)) j a in
          let twice : States tbox (inverse (inverse (PRole w))) (inverse (inverse (PRole r))) = subst (λ z. States tbox z (inverse (inverse (PRole r)))) (sym (inverse_twice (PRole w))) (subst (States tbox (PRole w)) (sym (inverse_twice (PRole r))) d) in
          in_at c (BSome (inverse_role r)) t y (is ∙ ap subjects i) l
          (more_in (BSome (inverse_role w)) (BSome (inverse_role r)) y (by_property (PRole (inverse_role w)) (PRole (inverse_role r)) (inr twice) refl refl)
          (again (BSome (inverse_role w)) y x (eg ∙ sym (pair_turned w y x))))

  pub in_origin : (f : Fact Element) → P f → (c : Basic) (t u : Element) → f ≡ shows c t u → InOrigin c t
  in_origin f (source s) c t u e = begins c t (given_in u (subst (IsSource F) e s))
  in_origin f (follows {f = g} h (FactStep.into_class b a x y i eg ef)) c t u e =
      let w = class_shown c t u x a (sym e ∙ ef) in in_at c (BClass a) t x w.0 w.1 (more_in b (BClass a) x (by_class a i refl) (in_origin g h b x y eg))
  in_origin f (follows {f = g} h (FactStep.adds b q k x y i eg ef)) c t u e = added_in c q b k t u x y i (subst P eg h) (sym e ∙ ef) (in_origin g h b x y eg)
  in_origin f (follows {f = g} h (FactStep.ends b r a k x y i eg ef)) c t u e =
      let w = class_shown c t u (Successor x k) a (sym e ∙ ef) in begins c t (in_end b r a k x i (y, subst P eg h) w.1 w.0)
  in_origin f (follows {f = g} h (FactStep.widens q' q x y i eg ef)) c t u e = widened_in c q q' t u x y g i eg (sym e ∙ ef) (λ d z v ed. in_origin g h d z v ed)

  start_in : (c : Basic) (t : Element) → Starts c t → IsIn P c t
  start_in c t (given_in u s) = (u, source s)
  start_in c t (at_end b r end k s i (y, h) et ec) =
      let edge : P (pair_fact (PRole r) s (Successor s k)) = follows h (adds b (PRole r) k s y (end, i) refl refl) in
      subst (λ z. IsIn P z t) (sym ec) (subst (IsIn P (BSome (inverse_role r))) (sym et) (s, subst P (sym (pair_turned r (Successor s k) s)) edge))
  start_in c t (in_end b r a k s i (y, h) et ec) =
      let in_class : P (InClass a (Successor s k)) = follows h (ends b r a k s y i refl refl) in
      subst (λ z. IsIn P z t) (sym ec) (subst (IsIn P (BClass a)) (sym et) (s, in_class))

  below_in : (c d : Basic) (t : Element) → IsDirectlyBelow tbox c d → IsIn P c t → IsIn P d t
  below_in c d t (IsDirectlyBelow.by_class a i e) (u, h) = subst (λ z. IsIn P z t) (sym e) (u, follows h (into_class c a t u i refl refl))
  below_in c d t (IsDirectlyBelow.by_filler p k i e) (u, h) =
      subst (λ z. IsIn P z t) (sym e) (Successor t k, subst P (sym (shows_subjects p t (Successor t k))) (follows h (adds c p k t u i refl refl)))
  below_in c d t (IsDirectlyBelow.by_property p q l ec ed) (u, h) =
      let pair : P (pair_fact p t u) = subst P (ap (λ z. shows z t u) ec ∙ shows_subjects p t u) h in
      subst (λ z. IsIn P z t) (sym ed) (u, subst P (sym (shows_subjects q t u)) (leads_holds tbox F p q t u l pair))

  reaches_in : (c d : Basic) (t : Element) → Reaches (IsDirectlyBelow tbox) c d → IsIn P c t → IsIn P d t
  reaches_in c d t itself i = i
  reaches_in c d t (onward {y = e} b r) i = reaches_in e d t r (below_in c e t b i)

  pub origin_in : (c : Basic) (t : Element) → InOrigin c t → IsIn P c t
  origin_in c t o = reaches_in o.start c t o.leads (start_in o.start t o.starts)

  pub is_in_origin : (c : Basic) (t : Element) → IsIn P c t → InOrigin c t
  is_in_origin c t (u, h) = in_origin (shows c t u) h c t u refl
