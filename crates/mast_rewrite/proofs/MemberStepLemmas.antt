-- The steps from a member, pair by pair, add exactly the queries that steps of the closure lead to.
use Rattle.std.proofs.Common.{◌≡◌, ℕ, zero, suc, ◌+◌, ◌<◌, ◌≤◌, ◌⊎◌, inl, inr, ◌↔◌, List, [], ◌∷◌, map, take, drop, length, slice_get, slice_index_or, Some, Contains, sym, refl, ap, ap₂, subst, ◌∙◌, arith}
use Rattle.std.proofs.lemmas.List.{take-append-drop}
use Rattle.std.proofs.lemmas.List.Elements.{Contains-append_left}
use native.Mathlib.Decide.{dec_lt}
use Rattle.mast_cq.specs.declared.atom.Arg.{Arg}
use Rattle.mast_cq.specs.declared.atom.Atom.{Atom}
use Rattle.mast_cq.specs.declared.query.Cq.{Cq}
use Rattle.mast_cq.specs.declared.unifier.Met.{Met}
use Rattle.mast_cq.specs.ListPlaces.{leave_out}
use Rattle.mast_cq.specs.Queries.{In}
use Rattle.mast_cq.specs.Steps.{stepped}
use Rattle.mast_tbox.specs.declared.axiom.Inclusion.{Inclusion}
use Rattle.mast_tbox.proofs.MemberLemmas.{none, map_in, map_out}
use Rattle.mast_tbox.proofs.WorkLemmas.{before_end}
use Rattle.mast_rewrite.specs.declared.pair.Marked.{Marked}
use Rattle.mast_rewrite.specs.declared.pair.Pair.{Pair}
use Rattle.mast_rewrite.specs.Closures.{ClosureStep}
use Rattle.mast_rewrite.specs.CountingMeetings.{Counts}
use Rattle.mast_rewrite.specs.inside.Growing.{Within, Grown, IsAfter, StepsAt, StepsBefore, StepsBelow}
use Rattle.mast_rewrite.specs.inside.Leaders.{CountsExactly}
use Rattle.mast_rewrite.specs.inside.Marks.{marked_of, pair_of, query_of}
use Rattle.mast_rewrite.specs.inside.MeetingLists.{met_value}
use Rattle.mast_rewrite.proofs.GrowLemmas.{grown_none, grown_join, within_join, grown_as, take_or, take_before, take_last}
use Rattle.mast_rewrite.proofs.MarkLemmas.{counts_marked}
use Rattle.mast_rewrite.proofs.WayLemmas.{take_full}

module _ (q : Cq) (first second : ℕ) (meetings : List Met) where
  -- nothing is added before the first meeting
  pub after_begin : (xs : List Cq) → Grown (IsAfter q first second (take 0 meetings)) xs xs
  after_begin xs = grown_none (IsAfter q first second (take 0 meetings)) xs (λ m w. none w.0 w.1)

  more : (i : ℕ) (d : Met) → i < length meetings → (m : Cq) → IsAfter q first second (take i meetings) m → IsAfter q first second (take (i + 1) meetings) m
  more i d l m w = (w.0, take_before meetings i d w.0 l w.1, w.2)

  -- the query after one meeting more
  pub after_next : (i : ℕ) (d : Met) (v : Cq) (old mid new : List Cq) → i < length meetings → v ≡ stepped q (met_value (slice_index_or meetings i d)) (leave_out first (leave_out second q.atoms))
      → Grown (IsAfter q first second (take i meetings)) old mid → Grown (λ m. m ≡ v) mid new → Grown (IsAfter q first second (take (i + 1) meetings)) old new
  after_next i d v old mid new l e a b = grown_join (IsAfter q first second (take i meetings)) (λ m. m ≡ v) (IsAfter q first second (take (i + 1) meetings)) old mid new a b
      (more i d l)
      (λ m f. (slice_index_or meetings i d, take_last meetings i d l, f ∙ e))
      (λ m w. elim (take_or meetings i d w.0 l w.1) [
        | inl j ↦ inl (w.0, j, w.2)
        | inr f ↦ inr (w.2 ∙ (ap (λ x. stepped q (met_value x) (leave_out first (leave_out second q.atoms))) f ∙ sym e))
      ])

  all_of : (i : ℕ) (m : Cq) → IsAfter q first second (take i meetings) m → IsAfter q first second meetings m
  all_of i m w = (w.0, taken i meetings w.0 w.1, w.2)
    where
      taken : (i : ℕ) (xs : List Met) (x : Met) → Contains (take i xs) x → Contains xs x
      taken i xs x c = subst (λ v. Contains v x) (take-append-drop i xs) (Contains-append_left (take i xs) (drop i xs) x c)

  -- what was added so far is after some meeting
  pub after_within : (i : ℕ) (old now : List Cq) → Grown (IsAfter q first second (take i meetings)) old now → Within (IsAfter q first second meetings) old now
  after_within i old now g m c = elim (g.within m c) [ inl j ↦ inl j | inr w ↦ inr (all_of i m w) ]

  -- and so is one more query
  pub after_over : (i : ℕ) (d : Met) (v : Cq) (old mid new : List Cq) → i < length meetings → v ≡ stepped q (met_value (slice_index_or meetings i d)) (leave_out first (leave_out second q.atoms))
      → Grown (IsAfter q first second (take i meetings)) old mid → Within (λ m. m ≡ v) mid new → Within (IsAfter q first second meetings) old new
  after_over i d v old mid new l e a b = within_join (IsAfter q first second (take i meetings)) (λ m. m ≡ v) (IsAfter q first second meetings) old mid new a b
      (all_of i)
      (λ m f. all_of (i + 1) m (slice_index_or meetings i d, take_last meetings i d l, f ∙ e))

  -- after the last meeting
  pub after_end : (i : ℕ) (old new : List Cq) → length meetings ≤ i → Grown (IsAfter q first second (take i meetings)) old new → Grown (IsAfter q first second meetings) old new
  after_end i old new l g = subst (λ v. Grown (IsAfter q first second v) old new) (take_full meetings i l) g

get_in : (xs : List Atom) (i : ℕ) (x : Atom) → slice_get xs i ≡ Some x → In x xs
get_in [] i x e = cc
get_in (y ∷ xs) zero x e = inl (let f : y ≡ x = cc in sym f)
get_in (y ∷ xs) (suc i) x e = inr (get_in xs i x e)

same_some : (x y : Atom) → Some x ≡ Some y → x ≡ y
same_some x y e = cc

module _ (tbox : List Inclusion) (q : Cq) where
  -- what is after a meeting of two atoms that counts is after a step that takes them
  pub after_steps : (first second : ℕ) (g h : Atom) (list : List Met) → slice_get q.atoms first ≡ Some g → slice_get q.atoms second ≡ Some h → CountsExactly tbox (pair_of q.answer g h) list
      → (r : Cq) → IsAfter q first second list r ↔ StepsAt tbox q first second r
  after_steps first second g h list a b exact r = (to, from)
    where
      marked : (m : _) → Counts tbox (query_of (pair_of q.answer g h)) (pair_of q.answer g h).left.atom (pair_of q.answer g h).right.atom m ↔ Counts tbox q g h m
      marked m = counts_marked tbox q g h m (get_in q.atoms first g a) (get_in q.atoms second h b)

      to : IsAfter q first second list r → StepsAt tbox q first second r
      to w = record {
        g = g;
        h = h;
        first_is = a;
        second_is = b;
        by = met_value w.0;
        counts = (marked (met_value w.0)).0 ((exact (met_value w.0)).0 (map_in met_value list w.0 w.1));
        gives = w.2;
      }

      from : StepsAt tbox q first second r → IsAfter q first second list r
      from s =
          let e : s.g ≡ g = same_some s.g g (sym s.first_is ∙ a) in
          let f : s.h ≡ h = same_some s.h h (sym s.second_is ∙ b) in
          let c : Counts tbox q g h s.by = subst (λ x. Counts tbox q g x s.by) f (subst (λ x. Counts tbox q x s.h s.by) e s.counts) in
          let k = map_out met_value list s.by ((exact s.by).1 ((marked s.by).1 c)) in
          (k.element, k.stands, s.gives ∙ ap (λ m. stepped q m (leave_out first (leave_out second q.atoms))) k.is)

  -- no step takes an atom before the first
  pub before_begin : (second : ℕ) (xs : List Cq) → Grown (StepsBefore tbox q second 0) xs xs
  before_begin second xs = grown_none (StepsBefore tbox q second 0) xs (λ m w. let l = w.1 in omega arith)

  -- steps that take one atom more
  pub before_next : (second first : ℕ) (old mid new : List Cq) (P : Cq → Type 0) → ((r : Cq) → P r ↔ StepsAt tbox q first second r)
      → Grown (StepsBefore tbox q second first) old mid → Grown P mid new → Grown (StepsBefore tbox q second (first + 1)) old new
  before_next second first old mid new P e a b = grown_join (StepsBefore tbox q second first) P (StepsBefore tbox q second (first + 1)) old mid new a b
      (λ m w. (w.0, (let l = w.1 in omega arith), w.2))
      (λ m p. (first, omega arith, (e m).0 p))
      (λ m w. split m w (dec_lt w.0 first))
    where
      split : (m : Cq) (w : StepsBefore tbox q second (first + 1) m) → Dec (w.0 < first) → StepsBefore tbox q second first m ⊎ P m
      split m w (yes l) = inl (w.0, l, w.2)
      split m w (no l) = inr ((e m).1 (subst (λ k. StepsAt tbox q k second m) (let k = w.1 in omega arith) w.2))

  -- what was added so far, and some of one more
  pub before_within : (second first bound : ℕ) (old now : List Cq) → first ≤ bound → Grown (StepsBefore tbox q second first) old now → Within (StepsBefore tbox q second bound) old now
  before_within second first bound old now l g m c = elim (g.within m c) [ inl j ↦ inl j | inr w ↦ inr (w.0, (let k = w.1 in omega arith), w.2) ]

  pub before_over : (second first bound : ℕ) (old mid new : List Cq) (P : Cq → Type 0) → first < bound → ((r : Cq) → P r ↔ StepsAt tbox q first second r)
      → Grown (StepsBefore tbox q second first) old mid → Within P mid new → Within (StepsBefore tbox q second bound) old new
  before_over second first bound old mid new P l e a b = within_join (StepsBefore tbox q second first) P (StepsBefore tbox q second bound) old mid new a b
      (λ m w. (w.0, (let k = w.1 in omega arith), w.2))
      (λ m p. (first, l, (e m).0 p))

  -- no step takes two atoms before the first
  pub below_begin : (xs : List Cq) → Grown (StepsBelow tbox q 0) xs xs
  below_begin xs = grown_none (StepsBelow tbox q 0) xs (λ m w. let l = w.1 in omega arith)

  -- steps whose second atom is one more
  pub below_next : (second : ℕ) (old mid new : List Cq) → Grown (StepsBelow tbox q second) old mid → Grown (StepsBefore tbox q second second) mid new → Grown (StepsBelow tbox q (second + 1)) old new
  below_next second old mid new a b = grown_join (StepsBelow tbox q second) (StepsBefore tbox q second second) (StepsBelow tbox q (second + 1)) old mid new a b
      (λ m w. (w.0, (let l = w.1 in omega arith), w.2))
      (λ m p. (second, omega arith, p))
      (λ m w. split m w (dec_lt w.0 second))
    where
      split : (m : Cq) (w : StepsBelow tbox q (second + 1) m) → Dec (w.0 < second) → StepsBelow tbox q second m ⊎ StepsBefore tbox q second second m
      split m w (yes l) = inl (w.0, l, w.2)
      split m w (no l) = inr (subst (λ k. StepsBefore tbox q k k m) (let k = w.1 in omega arith) w.2)

  below_is : (bound : ℕ) → length q.atoms ≤ bound → (m : Cq) → StepsBelow tbox q bound m ↔ ClosureStep tbox q m
  below_is bound l m = (
    λ w. let s = w.2.2 in record {
      g = s.g;
      h = s.h;
      others = leave_out w.2.0 (leave_out w.0 q.atoms);
      two = record { one = w.2.0; other = w.0; before = w.2.1; one_is = s.first_is; other_is = s.second_is; others = refl };
      by = s.by;
      counts = s.counts;
      gives = s.gives;
    },
    λ c. (
      c.two.other,
      (let k = before_end q.atoms c.two.other c.h c.two.other_is in omega arith),
      (
        c.two.one,
        c.two.before,
        record {
          g = c.g;
          h = c.h;
          first_is = c.two.one_is;
          second_is = c.two.other_is;
          by = c.by;
          counts = c.counts;
          gives = c.gives ∙ ap (stepped q c.by) c.two.others;
        },
      ),
    ),
  )

  closure_of : (bound : ℕ) (m : Cq) → StepsBelow tbox q bound m → ClosureStep tbox q m
  closure_of bound m w = let s = w.2.2 in record {
    g = s.g;
    h = s.h;
    others = leave_out w.2.0 (leave_out w.0 q.atoms);
    two = record { one = w.2.0; other = w.0; before = w.2.1; one_is = s.first_is; other_is = s.second_is; others = refl };
    by = s.by;
    counts = s.counts;
    gives = s.gives;
  }

  -- after the last atom these are the steps of the closure
  pub below_end : (bound : ℕ) (old new : List Cq) → length q.atoms ≤ bound → Grown (StepsBelow tbox q bound) old new → Grown (ClosureStep tbox q) old new
  below_end bound old new l g = grown_as (StepsBelow tbox q bound) (ClosureStep tbox q) old new g (below_is bound l)

  -- what was added so far is after a step
  pub below_within : (second : ℕ) (old now : List Cq) → Grown (StepsBelow tbox q second) old now → Within (ClosureStep tbox q) old now
  below_within second old now g m c = elim (g.within m c) [ inl j ↦ inl j | inr w ↦ inr (closure_of second m w) ]

  -- and so are some of one more
  pub below_over : (second : ℕ) (old mid new : List Cq) → Grown (StepsBelow tbox q second) old mid → Within (StepsBefore tbox q second second) mid new → Within (ClosureStep tbox q) old new
  below_over second old mid new a b = within_join (StepsBelow tbox q second) (StepsBefore tbox q second second) (ClosureStep tbox q) old mid new a b
      (closure_of second)
      (λ m p. closure_of (second + 1) m (second, omega arith, p))

-- an atom of the query and how it is marked
marked_at : (A : List Arg) (atoms : List Atom) (marked : List Marked) (i : ℕ) (d : Marked) → marked ≡ map (marked_of A) atoms → i < length marked
    → (g : Atom) × (slice_get atoms i ≡ Some g) × (slice_index_or marked i d ≡ marked_of A g)
marked_at A atoms marked i d e l = subst (λ v. i < length v → (g : Atom) × (slice_get atoms i ≡ Some g) × (slice_index_or v i d ≡ marked_of A g)) (sym e) (go atoms i) l
  where
    go : (gs : List Atom) (k : ℕ) → k < length (map (marked_of A) gs) → (g : Atom) × (slice_get gs k ≡ Some g) × (slice_index_or (map (marked_of A) gs) k d ≡ marked_of A g)
    go [] k l = absurd (omega arith)
    go (g ∷ gs) zero l = (g, refl, refl)
    go (g ∷ gs) (suc k) l = go gs k (omega arith)

-- the meetings of two marked atoms of a query that count lead where steps that take these atoms do
pub marked_steps : (tbox : List Inclusion) (q : Cq) (marked : List Marked) (first second : ℕ) (d e : Marked) (p : Pair) (list : List Met) → marked ≡ map (marked_of q.answer) q.atoms
    → first < length marked → second < length marked → p.left ≡ slice_index_or marked first d → p.right ≡ slice_index_or marked second e → CountsExactly tbox p list
    → (r : Cq) → IsAfter q first second list r ↔ StepsAt tbox q first second r
marked_steps tbox q marked first second d e p list m l k a b exact r =
    let g = marked_at q.answer q.atoms marked first d m l in
    let h = marked_at q.answer q.atoms marked second e m k in
    after_steps tbox q first second g.0 h.0 list g.1 h.1 (subst (λ v. CountsExactly tbox v list) (ap₂ (λ x y. record { left = x; right = y }) (a ∙ g.2) (b ∙ h.2)) exact) r
