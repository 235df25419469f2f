-- The closure of a query is finite: each query has finitely many steps, and each step has fewer atoms.
use Rattle.std.proofs.Common.{◌≡◌, ◌≢◌, ℕ, zero, suc, ◌<◌, ◌≤◌, List, [], ◌∷◌, ◌++◌, length, map, inl, inr, ◌↔◌, Contains, refl, sym, subst, arith}
use Rattle.std.proofs.lemmas.List.Elements.{Contains-append_left, Contains-append_right}
use Rattle.std.specs.declared.cmp.Ordering.{Ordering}
use Rattle.std.specs.declared.cmp.Ordering.TheVariants.{Less, Equal, Greater}
use Rattle.mast_cq.specs.declared.atom.Atom.{Atom}
use Rattle.mast_cq.specs.declared.query.Cq.{Cq}
use Rattle.mast_cq.specs.NormalForms.{normal_form}
use Rattle.mast_cq.specs.Queries.{atom_order, Takes, first, later, TakesTwo, here, beyond}
use Rattle.mast_cq.specs.Steps.{stepped}
use Rattle.mast_cq.specs.Unification.{Meeting}
use Rattle.mast_cq.proofs.TakesLemmas.{places_of, at_places}
use Rattle.mast_tbox.specs.declared.axiom.Inclusion.{Inclusion}
use Rattle.mast_tbox.specs.Laws.{Decided, IsFinite}
use Rattle.mast_tbox.specs.Lists.{Reaches, itself, onward}
use Rattle.mast_tbox.proofs.MemberLemmas.{front, later as later_in, none, first_or, only_one, map_in, map_out}
use Rattle.mast_tbox.proofs.ThroughLemmas.{dec_and, dec_each, dec_not}
use Rattle.mast_rewrite.specs.Closures.{ClosureStep, Closure}
use Rattle.mast_rewrite.specs.CountingMeetings.{IsMeeting, Leads, Counts}
use Rattle.mast_rewrite.proofs.CountLemmas.{leads_decided, counts_simply, counts_only}
use Rattle.mast_rewrite.proofs.GatherLemmas.{gather, gathers, gathered, append_or}
use Rattle.mast_rewrite.proofs.LedLemmas.{meetings_finite}
use Rattle.mast_rewrite.proofs.MemberLemmas.{closure_step_fewer}

-- one element that is taken out, and the rest
record Out (X : Type 0) : Type 0 where
  one : X
  rest : List X

-- two elements that are taken out, and the rest
record TwoOut (X : Type 0) : Type 0 where
  one : X
  other : X
  rest : List X

module _ {X : Type 0} where
  abbrev behind : X → Out X → Out X
  behind x o = record { one = o.one; rest = x ∷ o.rest }

  abbrev outs : List X → List (Out X)
  outs [] = []
  outs (x ∷ xs) = record { one = x; rest = xs } ∷ map (behind x) (outs xs)

  outs_has : {xs : List X} {x : X} {rest : List X} → Takes xs x rest → Contains (outs xs) (record { one = x; rest = rest })
  outs_has (first {x = x} {xs = xs}) = front (record { one = x; rest = xs }) (map (behind x) (outs xs))
  outs_has (later {x = x} {y = y} {xs = xs} {rest = rest} t) =
      later_in (record { one = x; rest = y ∷ rest }) (record { one = y; rest = xs }) (map (behind y) (outs xs)) (map_in (behind y) (outs xs) (record { one = x; rest = rest }) (outs_has t))

  outs_are : (xs : List X) (o : Out X) → Contains (outs xs) o → Takes xs o.one o.rest
  outs_are [] o c = absurd (none o c)
  outs_are (x ∷ xs) o c = elim (first_or (record { one = x; rest = xs }) (map (behind x) (outs xs)) o c) [
    | inl e ↦ subst (λ p. Takes (x ∷ xs) p.one p.rest) (sym e) first
    | inr d ↦ (let w = map_out (behind x) (outs xs) o d in subst (λ p. Takes (x ∷ xs) p.one p.rest) (sym w.is) (later (outs_are xs w.element w.stands)))
  ]

  abbrev with_one : X → Out X → TwoOut X
  with_one x o = record { one = x; other = o.one; rest = o.rest }

  abbrev both_behind : X → TwoOut X → TwoOut X
  both_behind x t = record { one = t.one; other = t.other; rest = x ∷ t.rest }

  abbrev twos : List X → List (TwoOut X)
  twos [] = []
  twos (x ∷ xs) = map (with_one x) (outs xs) ++ map (both_behind x) (twos xs)

  twos_has : {xs : List X} {x y : X} {rest : List X} → TakesTwo xs x y rest → Contains (twos xs) (record { one = x; other = y; rest = rest })
  twos_has (here {x = x} {y = y} {xs = xs} {rest = rest} t) =
      Contains-append_left (map (with_one x) (outs xs)) (map (both_behind x) (twos xs)) (record { one = x; other = y; rest = rest })
      (map_in (with_one x) (outs xs) (record { one = y; rest = rest }) (outs_has t))
  twos_has (beyond {x = x} {y = y} {z = z} {xs = xs} {rest = rest} t) =
      Contains-append_right (map (with_one z) (outs xs)) (map (both_behind z) (twos xs)) (record { one = x; other = y; rest = z ∷ rest })
      (map_in (both_behind z) (twos xs) (record { one = x; other = y; rest = rest }) (twos_has t))

  twos_are : (xs : List X) (t : TwoOut X) → Contains (twos xs) t → TakesTwo xs t.one t.other t.rest
  twos_are [] t c = absurd (none t c)
  twos_are (x ∷ xs) t c = elim (append_or (map (with_one x) (outs xs)) (map (both_behind x) (twos xs)) t c) [
    | inl d ↦ (let w = map_out (with_one x) (outs xs) t d in subst (λ p. TakesTwo (x ∷ xs) p.one p.other p.rest) (sym w.is) (here (outs_are xs w.element w.stands)))
    | inr d ↦ (let w = map_out (both_behind x) (twos xs) t d in subst (λ p. TakesTwo (x ∷ xs) p.one p.other p.rest) (sym w.is) (beyond (twos_are xs w.element w.stands)))
  ]

less_case : (o : Ordering) → Decided (o ≡ Less)
less_case Less = inl refl
less_case Equal = inr (λ e. cc)
less_case Greater = inr (λ e. cc)

module _ (tbox : List Inclusion) (q : Cq) where
  module _ (g h : Atom) (m : Meeting) where
    abbrev Passes : Meeting → Type 0
    Passes other = Leads tbox q other m → Leads tbox q m other × (atom_order other.atom m.atom ≢ Less)

    passes_case : (other : Meeting) → Decided (Leads tbox q other m) → Decided (Leads tbox q m other × (atom_order other.atom m.atom ≢ Less)) → Decided (Passes other)
    passes_case other (inr a) d = inl (λ l. absurd (a l))
    passes_case other (inl a) (inl b) = inl (λ l. b)
    passes_case other (inl a) (inr b) = inr (λ k. b (k a))

    passes_decided : (other : Meeting) → Decided (Passes other)
    passes_decided other = passes_case other (leads_decided tbox q other m) (dec_and (leads_decided tbox q m other) (dec_not (less_case (atom_order other.atom m.atom))))

    counts_case : IsMeeting tbox q g h m → Decided ((other : Meeting) → Contains (meetings_finite tbox q g h).members other → Passes other) → Decided (Counts tbox q g h m)
    counts_case is (inl k) = inl (counts_simply tbox q g h m is (λ other o. k other (((meetings_finite tbox q g h).are other).1 o)))
    counts_case is (inr n) = inr (λ c. n (λ other i. counts_only tbox q g h m c other (((meetings_finite tbox q g h).are other).0 i)))

    -- whether a meeting counts is decided
    pub counts_decided : IsMeeting tbox q g h m → Decided (Counts tbox q g h m)
    counts_decided is = counts_case is (dec_each passes_decided (meetings_finite tbox q g h).members)

-- exactly those of a list that have the property
record Picked {X : Type 0} (P : X → Type 0) (xs : List X) : Type 0 where
  members : List X
  are : (x : X) → Contains members x ↔ (Contains xs x × P x)

module _ {X : Type 0} (P : X → Type 0) where
  pick_with : (x : X) (xs : List X) → P x → Picked P xs → Picked P (x ∷ xs)
  pick_with x xs p w = record {
    members = x ∷ w.members;
    are = λ y. (
      λ c. elim (first_or x w.members y c) [
        | inl e ↦ (subst (Contains (x ∷ xs)) (sym e) (front x xs), subst P (sym e) p)
        | inr i ↦ (later_in y x xs ((w.are y).0 i).0, ((w.are y).0 i).1)
      ],
      λ d. elim (first_or x xs y d.0) [ inl e ↦ subst (Contains (x ∷ w.members)) (sym e) (front x w.members) | inr i ↦ later_in y x w.members ((w.are y).1 (i, d.1)) ],
    );
  }

  pick_without : (x : X) (xs : List X) → (P x → ⊥) → Picked P xs → Picked P (x ∷ xs)
  pick_without x xs n w = record {
    members = w.members;
    are = λ y. (
      λ c. (later_in y x xs ((w.are y).0 c).0, ((w.are y).0 c).1),
      λ d. elim (first_or x xs y d.0) [ inl e ↦ absurd (n (subst P e d.1)) | inr i ↦ (w.are y).1 (i, d.1) ],
    );
  }

  pick_case : (x : X) (xs : List X) → Decided (P x) → Picked P xs → Picked P (x ∷ xs)
  pick_case x xs (inl p) w = pick_with x xs p w
  pick_case x xs (inr n) w = pick_without x xs n w

  pick : (xs : List X) → ((x : X) → Contains xs x → Decided (P x)) → Picked P xs
  pick [] d = record { members = []; are = λ y. (λ c. absurd (none y c), λ k. absurd (none y k.0)) }
  pick (x ∷ xs) d = pick_case x xs (d x (front x xs)) (pick xs (λ y i. d y (later_in y x xs i)))

  -- what has the property and stands in a list, where it is decided for each of the list, is finite
  pub finite_within : (xs : List X) → ((x : X) → Contains xs x → Decided (P x)) → ((x : X) → P x → Contains xs x) → IsFinite P
  finite_within xs d all = let w = pick xs d in record { members = w.members; are = λ x. (λ c. ((w.are x).0 c).1, λ p. (w.are x).1 (all x p, p)) }

module _ (tbox : List Inclusion) (q : Cq) where
  -- there is a list of exactly the meetings of two atoms that count
  pub counting_finite : (g h : Atom) → IsFinite (Counts tbox q g h)
  counting_finite g h =
      finite_within (Counts tbox q g h) (meetings_finite tbox q g h).members
      (λ m i. counts_decided tbox q g h m (((meetings_finite tbox q g h).are m).0 i))
      (λ m c. ((meetings_finite tbox q g h).are m).1 c.is_meeting)

  abbrev next_of : TwoOut Atom → List Cq
  next_of t = map (λ m. stepped q m t.rest) (counting_finite t.one t.other).members

  next_is : (r : Cq) → Contains (gather next_of (twos q.atoms)) r → ClosureStep tbox q r
  next_is r c =
      let v = gathered next_of (twos q.atoms) r c in
      let w = map_out (λ m. stepped q m v.element.rest) (counting_finite v.element.one v.element.other).members r v.gives in
      record {
        g = v.element.one;
        h = v.element.other;
        others = v.element.rest;
        two = places_of (twos_are q.atoms v.element v.stands);
        by = w.element;
        counts = ((counting_finite v.element.one v.element.other).are w.element).0 w.stands;
        gives = w.is;
      }

  is_next : (r : Cq) → ClosureStep tbox q r → Contains (gather next_of (twos q.atoms)) r
  is_next r step =
      let t : TwoOut Atom = record { one = step.g; other = step.h; rest = step.others } in
      gathers next_of (twos q.atoms) t r (twos_has (at_places q.atoms step.g step.h step.others step.two))
      (subst (Contains (next_of t)) (sym step.gives)
      (map_in (λ m. stepped q m step.others) (counting_finite step.g step.h).members step.by (((counting_finite step.g step.h).are step.by).1 step.counts)))

  -- there is a list of exactly the queries to which a step leads
  pub steps_finite : IsFinite (ClosureStep tbox q)
  steps_finite = record { members = gather next_of (twos q.atoms); are = λ r. (next_is r, is_next r) }

module _ {X : Type 0} (Step : X → X → Type 0) (next : (x : X) → IsFinite (Step x)) (size : X → ℕ) (falls : (x y : X) → Step x y → size y < size x) where
  abbrev all_within : ℕ → X → List X
  all_within zero x = x ∷ []
  all_within (suc n) x = x ∷ gather (all_within n) (next x).members

  all_reached : (n : ℕ) (x y : X) → Contains (all_within n x) y → Reaches Step x y
  all_reached zero x y c = subst (Reaches Step x) (sym (only_one x y c)) itself
  all_reached (suc n) x y c = elim (first_or x (gather (all_within n) (next x).members) y c) [
    | inl e ↦ subst (Reaches Step x) (sym e) itself
    | inr d ↦ (let w = gathered (all_within n) (next x).members y d in onward (((next x).are w.element).0 w.stands) (all_reached n w.element y w.gives))
  ]

  reached_all : (n : ℕ) (x y : X) → size x ≤ n → Reaches Step x y → Contains (all_within n x) y
  reached_all zero x y l itself = front x []
  reached_all zero x y l (onward {y = z} s r) = let f = falls x z s in absurd (omega arith)
  reached_all (suc n) x y l itself = front x (gather (all_within n) (next x).members)
  reached_all (suc n) x y l (onward {y = z} s r) =
      later_in y x (gather (all_within n) (next x).members)
      (gathers (all_within n) (next x).members z y (((next x).are z).1 s) (reached_all n z y (let f = falls x z s in omega arith) r))

  -- where each has finitely many steps, and a number falls at each, what is reached is finite
  pub falling_finite : (x : X) → IsFinite (Reaches Step x)
  falling_finite x = record { members = all_within (size x) x; are = λ y. (all_reached (size x) x y, reached_all (size x) x y (omega arith)) }

-- the closure of a query is finite
pub closure_finite : (tbox : List Inclusion) (q : Cq) → IsFinite (Closure tbox q)
closure_finite tbox q = falling_finite (ClosureStep tbox) (steps_finite tbox) (λ r. length r.atoms) (closure_step_fewer tbox) (normal_form q)
