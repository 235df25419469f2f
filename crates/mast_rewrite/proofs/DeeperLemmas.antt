-- Where some variable stands for a successor, two atoms meet at the edge that made a deepest one, and a step has the tuple.
use Rattle.std.proofs.Common.{◌≡◌, ℕ, suc, ◌<◌, ◌≤◌, List, map, ◌⊎◌, inl, inr, sym, refl, ap, subst, ◌∙◌, arith}
use Rattle.std.specs.List.{AllByRecursion}
use Rattle.mast_terms.specs.declared.term.Term.{Term}
use Rattle.mast_cq.specs.declared.atom.Arg.{Arg}
use Rattle.mast_cq.specs.declared.atom.Arg.TheVariants.{Blank, Var, Constant}
use Rattle.mast_cq.specs.declared.atom.Atom.{Atom}
use Rattle.mast_cq.specs.declared.query.Cq.{Cq}
use Rattle.mast_cq.specs.Meanings.{Fact, Fits, Gives, MetBy, HasTuple}
use Rattle.mast_cq.specs.NormalForms.{normal_form, Occurs, Twice, Elsewhere, InAnswer, Spread}
use Rattle.mast_cq.specs.Queries.{In, TakesTwo}
use Rattle.mast_cq.specs.Sorts.{objects_of, EachHasOneSort}
use Rattle.mast_cq.specs.Steps.{merged, stepped}
use Rattle.mast_cq.specs.Unification.{Meeting}
use Rattle.mast_cq.specs.UnifierMeanings.{Respects, KnownArg, KnownAtom, Stands}
use Rattle.mast_cq.proofs.JoinLemmas.{join}
use Rattle.mast_cq.proofs.OriginLemmas.{of_all_in, clash_argument}
use Rattle.mast_cq.proofs.PropertyLemmas.{pair_in}
use Rattle.mast_cq.proofs.StepLemmas.{step_follows}
use Rattle.mast_cq.proofs.TakesLemmas.{each_takes, either_order, places_of}
use Rattle.mast_tbox.specs.declared.axiom.Inclusion.{Inclusion}
use Rattle.mast_tbox.specs.declared.axiom.Inclusion.TheVariants.{Exists, HasValue}
use Rattle.mast_tbox.specs.declared.expression.Basic.{Basic}
use Rattle.mast_tbox.specs.declared.expression.Prop.{Prop}
use Rattle.mast_tbox.specs.declared.expression.Prop.TheVariants.{Role as PRole, Attr as PAttr}
use Rattle.mast_tbox.specs.declared.expression.RoleExpr.TheVariants.{Direct, Inverse}
use Rattle.mast_tbox.specs.Closure.{Down}
use Rattle.mast_tbox.specs.Expressions.{property, pair}
use Rattle.mast_tbox.specs.Inclusions.{Adds}
use Rattle.mast_tbox.specs.Laws.{HasNoEnd, NumbersDiffer}
use Rattle.mast_tbox.proofs.ArgumentLemmas.{down_same, down_occurs, down_twice}
use Rattle.mast_canon.specs.Derivations.{Holds}
use Rattle.mast_canon.specs.Elements.{Element, Named, Successor}
use Rattle.mast_canon.specs.Memberships.{pair_fact}
use Rattle.mast_canon.proofs.ThroughLemmas.{down_up}
use Rattle.mast_rewrite.specs.Closures.{ClosureStep}
use Rattle.mast_rewrite.specs.CountingMeetings.{IsMeeting}
use Rattle.mast_rewrite.proofs.AlikeLemmas.{alike_all}
use Rattle.mast_rewrite.proofs.DepthLemmas.{depth, list_depth, list_bound, deepest, source_flat}
use Rattle.mast_rewrite.proofs.EdgeLemmas.{Made, GoesBack, goes_back}
use Rattle.mast_rewrite.proofs.FlatLemmas.{answer_flat}
use Rattle.mast_rewrite.proofs.LedLemmas.{is_led}
use Rattle.mast_rewrite.proofs.MemberLemmas.{takes_in, rest_taken, two_in}

-- variables of a pair
occurs_to : (n : ℕ) (p : Prop) (x : Arg) → Occurs n (pair p x (Var n))
occurs_to n (PRole (Direct a)) x = inr refl
occurs_to n (PRole (Inverse a)) x = inl refl
occurs_to n (PAttr u) x = inr refl

occurs_pair : (n : ℕ) (p : Prop) (x y : Arg) → Occurs n (pair p x y) → (x ≡ Var n) ⊎ (y ≡ Var n)
occurs_pair n (PRole (Direct a)) x y o = o
occurs_pair n (PRole (Inverse a)) x y (inl e) = inr e
occurs_pair n (PRole (Inverse a)) x y (inr e) = inl e
occurs_pair n (PAttr u) x y o = o

twice_first : (n : ℕ) (p : Prop) (x y : Arg) → Twice n (pair p x y) → x ≡ Var n
twice_first n (PRole (Direct a)) x y t = t.0
twice_first n (PRole (Inverse a)) x y t = t.1
twice_first n (PAttr u) x y t = t.0

-- the first argument of a pair stands in an object place
first_object : (p : Prop) (x y : Arg) → In x (objects_of (pair p x y))
first_object (PRole (Direct a)) x y = inl refl
first_object (PRole (Inverse a)) x y = inr (inl refl)
first_object (PAttr u) x y = inl refl

-- no constant is known
abbrev Unknown : ℕ → Type 0
Unknown c = ⊥

unknown_arg : (x : Arg) → ((c : ℕ) → x ≡ Constant c → ⊥) → KnownArg Unknown x
unknown_arg Blank none = tt
unknown_arg (Var n) none = tt
unknown_arg (Constant c) none = none c refl

unknown_pair : (p : Prop) (x : Arg) (n : ℕ) → ((c : ℕ) → x ≡ Constant c → ⊥) → KnownAtom Unknown (pair p x (Var n))
unknown_pair (PRole (Direct a)) x n none = (unknown_arg x none, tt)
unknown_pair (PRole (Inverse a)) x n none = (tt, unknown_arg x none)
unknown_pair (PAttr u) x n none = (unknown_arg x none, tt)

-- where each argument has one sort no constant stands in an object place
pub no_constant : (q : Cq) → EachHasOneSort q.atoms → (g : Atom) → In g q.atoms → (c : ℕ) → In (Constant c) (objects_of g) → ⊥
no_constant q one g i c o =
    let w = of_all_in objects_of (Constant c) g q.atoms i o in one (Constant c) (clash_argument q.atoms (Constant c) w) w

var_one : (m n : ℕ) → Var m ≡ Var n → m ≡ n
var_one m n e = cc

successor_one : (t u : Element) (j k : ℕ) → Successor t j ≡ Successor u k → (t ≡ u) × (j ≡ k)
successor_one t u j k e = (cc, cc)

depth_of : (t e : Element) (k : ℕ) → Successor t k ≡ e → depth e ≡ suc (depth t)
depth_of t e k is = sym (ap depth is)

-- by different numbers, one number adds one property
module _ (tbox : List Inclusion) (differ : NumbersDiffer tbox) where
  one_role : (b c : Basic) (p q : Prop) (k : ℕ) → Adds tbox b p k → Adds tbox c q k → p ≡ q
  one_role b c (PRole r) (PRole s) k (x, i) (y, j) = let e = differ (Exists b r x k) (Exists c s y k) k i j refl refl in (let f : r ≡ s = cc in ap PRole f)
  one_role b c (PRole r) (PAttr v) k (x, i) j = let e = differ (Exists b r x k) (HasValue c v k) k i j refl refl in cc
  one_role b c (PAttr u) (PRole s) k i (y, j) = let e = differ (HasValue b u k) (Exists c s y k) k i j refl refl in cc
  one_role b c (PAttr u) (PAttr v) k i j = let e = differ (HasValue b u k) (HasValue c v k) k i j refl refl in (let f : u ≡ v = cc in ap PAttr f)

module _ (tbox : List Inclusion) (F : Fact Term → Type 0) (constant : ℕ → Term) (s : ℕ → Element) where
  abbrev by_name : ℕ → Element
  by_name c = Named (constant c)

  abbrev H : Fact Element → Type 0
  H f = Holds tbox F f

  -- the edge that made what the variable n stands for, for which the atom asks within Down
  record Edge (n : ℕ) (g : Atom) : Type 0 where
    sub : Basic
    prop : Prop
    number : ℕ
    subject : Element
    arg : Arg
    adds : Adds tbox sub prop number
    below : Down tbox g (pair prop arg (Var n))
    fits : Fits by_name s arg subject
    is : Successor subject number ≡ s n
    holds : H (pair_fact prop subject (Successor subject number))

  -- an atom that goes back to an edge does so at its variable that is as deep as any
  same_var : (n : ℕ) (g : Atom) (w : Made tbox F constant s g) → depth (s w.var) ≤ depth (s n) → (w.arg ≡ Var n) ⊎ (Var w.var ≡ Var n) → w.var ≡ n
  same_var n g w most (inl e) =
      let f : w.subject ≡ s n = subst (λ y. Fits by_name s y w.subject) e w.fits in
      let d = depth_of w.subject (s w.var) w.number w.is in
      let h : depth w.subject ≡ depth (s n) = ap depth f in
      absurd (omega arith)
  same_var n g w most (inr e) = var_one w.var n e

  var_below : (g : Atom) (w : Made tbox F constant s g) → Occurs w.var g
  var_below g w = (down_occurs tbox w.var g (pair w.prop w.arg (Var w.var)) w.below).1 (occurs_to w.var w.prop w.arg)

  to_edge : (n : ℕ) (g : Atom) → 0 < depth (s n) → ((m : ℕ) → Occurs m g → depth (s m) ≤ depth (s n)) → Occurs n g → GoesBack tbox F constant s g → Edge n g
  to_edge n g deep most o (inl w) =
      let z = source_flat constant s F n w.member w.met.fact w.met.holds w.met.matches ((down_occurs tbox n g w.member w.below).0 o) in absurd (omega arith)
  to_edge n g deep most o (inr w) =
      let z = same_var n g w (most w.var (var_below g w))
      (occurs_pair n w.prop w.arg (Var w.var) ((down_occurs tbox n g (pair w.prop w.arg (Var w.var)) w.below).0 o)) in
      record {
        sub = w.sub;
        prop = w.prop;
        number = w.number;
        subject = w.subject;
        arg = w.arg;
        adds = w.adds;
        below = subst (λ m. Down tbox g (pair w.prop w.arg (Var m))) z w.below;
        fits = w.fits;
        is = w.is ∙ ap s z;
        holds = w.holds;
      }

  -- the two ends of an edge differ in depth, so its variable stands once
  not_twice : (n : ℕ) (g : Atom) → Edge n g → Twice n g → ⊥
  not_twice n g w t =
      let e = twice_first n w.prop w.arg (Var n) ((down_twice tbox n g (pair w.prop w.arg (Var n)) w.below).0 t) in
      let f : w.subject ≡ s n = subst (λ y. Fits by_name s y w.subject) e w.fits in
      let d = depth_of w.subject (s n) w.number w.is in
      let h : depth w.subject ≡ depth (s n) = ap depth f in
      omega arith

  -- the argument of an edge is no constant, where the atom has none in an object place
  not_constant : (n : ℕ) (g : Atom) (w : Edge n g) → ((c : ℕ) → In (Constant c) (objects_of g) → ⊥) → (c : ℕ) → w.arg ≡ Constant c → ⊥
  not_constant n g w none c e =
      let i : In (Constant c) (objects_of (pair w.prop w.arg (Var n))) = subst (λ x. In x (objects_of (pair w.prop w.arg (Var n)))) e (first_object w.prop w.arg (Var n)) in
      none c (((down_same tbox g (pair w.prop w.arg (Var n)) w.below).objects (Constant c) (λ f. cc)).1 i)

  -- two atoms that ask for one edge have a meeting, which the assignment respects and whose atom holds
  record Common (q : Cq) (g h : Atom) : Type 0 where
    by : Meeting
    is_meeting : IsMeeting tbox q g h by
    respects : Respects by_name s by.replacement
    met : MetBy by_name H s by.atom

  at_edge : (q : Cq) (n : ℕ) (g h : Atom) → NumbersDiffer tbox → ((c : ℕ) → In (Constant c) (objects_of g) → ⊥) → ((c : ℕ) → In (Constant c) (objects_of h) → ⊥) → Edge n g → Edge n h → Common q g h
  at_edge q n g h differ no_g no_h v w =
      let i = successor_one v.subject w.subject v.number w.number (v.is ∙ sym w.is) in
      let p = one_role tbox differ v.sub w.sub v.prop w.prop v.number v.adds (subst (Adds tbox w.sub w.prop) (sym i.1) w.adds) in
      let fits = subst (Fits by_name s w.arg) (sym i.0) w.fits in
      let edge = pair_fact v.prop v.subject (Successor v.subject v.number) in
      let m = pair_in by_name s (property v.prop) v.arg (Var n) v.subject (Successor v.subject v.number) v.fits v.is in
      let m2 = pair_in by_name s (property v.prop) w.arg (Var n) v.subject (Successor v.subject v.number) fits v.is in
      let j = join by_name Unknown (λ c d k l e. absurd k) q.answer s (pair v.prop v.arg (Var n)) (pair v.prop w.arg (Var n)) edge
      (unknown_pair v.prop v.arg n (not_constant n g v no_g)) (unknown_pair v.prop w.arg n (not_constant n h w no_h)) m m2 in
      record {
        by = j.by;
        is_meeting = record {
          left = pair v.prop v.arg (Var n);
          right = pair v.prop w.arg (Var n);
          left_below = v.below;
          right_below = subst (λ k. Down tbox h (pair k w.arg (Var n))) (sym p) w.below;
          meets = j.is;
        };
        respects = j.respects;
        met = record { fact = edge; matches = j.matches; holds = v.holds };
      }

  -- the other atom in which the variable stands
  elsewhere : (q : Cq) (tuple : List Term) → Gives by_name s q.answer (map Named tuple) → (n : ℕ) (g : Atom) (rest : List Atom) → 0 < depth (s n) → Edge n g
      → InAnswer n q.answer ⊎ (Twice n g ⊎ Elsewhere n rest) → Elsewhere n rest
  elsewhere q tuple gives n g rest deep w (inl a) = let z = answer_flat constant s n tuple a.takes gives in absurd (omega arith)
  elsewhere q tuple gives n g rest deep w (inr (inl t)) = absurd (not_twice n g w t)
  elsewhere q tuple gives n g rest deep w (inr (inr a)) = a

  -- a step of the closure after which the query has the tuple
  pub record Onward (q : Cq) (tuple : List Term) : Type 0 where
    pub next : Cq
    pub step : ClosureStep tbox q next
    pub before : Cq
    pub is_normal : next ≡ normal_form before
    pub has : HasTuple by_name H next (map Named tuple)

  onward_at : (q : Cq) (tuple : List Term) → Gives by_name s q.answer (map Named tuple) → (g h : Atom) (rest : List Atom) → TakesTwo q.atoms g h rest
      → AllByRecursion (MetBy by_name H s) rest → Common q g h → Onward q tuple
  onward_at q tuple gives g h rest two each c =
      let l = is_led tbox q g h c.by c.is_meeting in
      let among = two_in two in
      let alike = alike_all tbox q g h l.by c.by l.counts.is_meeting c.is_meeting among.one among.other l.leads.alike in
      let respects : Respects by_name s l.by.replacement = λ n. subst (λ x. Stands by_name s x (s n)) (sym (alike n)) (c.respects n) in
      record {
        next = stepped q l.by rest;
        step = record { g = g; h = h; others = rest; two = places_of two; by = l.by; counts = l.counts; gives = refl };
        before = merged q l.by rest;
        is_normal = refl;
        has = step_follows by_name H s q l.by rest (map Named tuple) respects (down_up tbox by_name s F l.by.atom c.by.atom l.leads.below c.met)
            (record { each = each; answers = gives });
      }

  -- where some variable stands for a successor there is such a step
  pub deeper : HasNoEnd tbox → NumbersDiffer tbox → (q : Cq) (tuple : List Term) → Spread q → EachHasOneSort q.atoms
      → AllByRecursion (MetBy by_name H s) q.atoms → Gives by_name s q.answer (map Named tuple) → 0 < list_depth s q.atoms → Onward q tuple
  deeper none differ q tuple spread one each gives deep =
      let w = deepest s q.atoms deep in
      let dw = w.is in
      let pos : 0 < depth (s w.var) = omega arith in
      let eg = each_takes (MetBy by_name H s) w.takes each in
      let most : (m : ℕ) → Occurs m w.atom → depth (s m) ≤ depth (s w.var) = λ m o. (let b = list_bound s m w.takes o in omega arith) in
      let edge = to_edge w.var w.atom pos most w.occurs (goes_back tbox F constant s none eg.0.fact w.atom eg.0.holds eg.0.matches) in
      let o = elsewhere q tuple gives w.var w.atom w.rest pos edge (spread w.var w.atom w.rest w.takes w.occurs) in
      let eh = each_takes (MetBy by_name H s) o.takes eg.1 in
      let back = rest_taken w.takes o.takes in
      let most2 : (m : ℕ) → Occurs m o.atom → depth (s m) ≤ depth (s w.var) = λ m i. (let b = list_bound s m back.takes i in omega arith) in
      let edge2 = to_edge w.var o.atom pos most2 o.occurs (goes_back tbox F constant s none eh.0.fact o.atom eh.0.holds eh.0.matches) in
      let no_g = no_constant q one w.atom (takes_in w.takes) in
      let no_h = no_constant q one o.atom (takes_in back.takes) in
      elim (either_order w.takes o.takes) [
        | inl two ↦ onward_at q tuple gives w.atom o.atom o.rest two eh.1 (at_edge q w.var w.atom o.atom differ no_g no_h edge edge2)
        | inr two ↦ onward_at q tuple gives o.atom w.atom o.rest two eh.1 (at_edge q w.var o.atom w.atom differ no_h no_g edge2 edge)
      ]
