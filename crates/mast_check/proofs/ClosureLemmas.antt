-- What the slices of the members of a violation's closure tell, from what the calls on the way give.
use Rattle.std.proofs.Common.{◌≡◌, ◌↔◌, ℕ, zero, suc, ◌<◌, ◌≤◌, ◌+◌, List, [], ◌∷◌, length, drop, get_or, slice_get, Contains, Option, Some, None, inl, inr, refl, sym, ap, ◌∙◌, subst, add-one, arith}
use Rattle.std.specs.List.{AllByRecursion, AllZip}
use Rattle.mast_terms.specs.Vocabularies.{IsVocabulary}
use Rattle.mast_cq.specs.declared.query.Cq.{Cq}
use Rattle.mast_cq.specs.Queries.{In}
use Rattle.mast_cq.proofs.ListLemmas.{in_each}
use Rattle.mast_canon.specs.declared.spec.Spec.{Spec}
use Rattle.mast_canon.specs.Theories.{theory_of}
use Rattle.mast_numbers.specs.Numbered.{HasOneEach}
use Rattle.mast_relations.specs.Matches.{In as Among}
use Rattle.mast_join.specs.declared.extensions.Wanted.TheVariants.{SomeHits, AllHits}
use Rattle.mast_join.specs.declared.ready.Ready.{Ready}
use Rattle.mast_join.specs.declared.slices.Slice.{Slice}
use Rattle.mast_join.specs.Answers.{Extended, IsReady}
use Rattle.mast_join.specs.Extensions.{Over}
use Rattle.mast_join.specs.Slices.{AreSlices}
use Rattle.mast_join.proofs.CutLemmas.{slices_are_of}
use Rattle.mast_rewrite.specs.Closures.{Closure}
use Rattle.mast_violate.specs.declared.violation.Violation.{Violation}
use Rattle.mast_violate.specs.Breaches.{violations_of}
use Rattle.mast_violate.proofs.ListLemmas.{in_place}
use Rattle.mast_check.specs.declared.breach.Breach.{Breach}
use Rattle.mast_check.specs.inside.Pieces.{AreOfSpec, AreReady, IsAskedOver, TellsAllIn, TellsBreach, TellsBreaches, TellsFirstIn, first_there, flat}
use Rattle.mast_check.proofs.CheckLemmas.{breach_told, breaches_told, members_asked}
use Rattle.mast_check.proofs.ReadyLemmas.{each_ready}

-- what stands at a place of a list is one of it
pub stands_at : {X : Type 0} (list xs : List X) (i : ℕ) (d : X) → xs ≡ list → i < length xs → In (get_or xs i d) list
stands_at {X = X} list xs i d e l = subst (In (get_or xs i d)) e (here xs i l)
  where
    here : (ys : List X) (j : ℕ) → j < length ys → In (get_or ys j d) ys
    here [] j k = absurd (omega (arith, k))
    here (y ∷ ys) zero k = inl refl
    here (y ∷ ys) (suc j) k = inr (here ys j (omega (arith, k)))

drop_next : {X : Type 0} (xs : List X) (i : ℕ) (d : X) → i < length xs → drop i xs ≡ get_or xs i d ∷ drop (suc i) xs
drop_next [] i d l = absurd (omega (arith, l))
drop_next (x ∷ xs) zero d l = refl
drop_next (x ∷ xs) (suc i) d l = drop_next xs i d (omega (arith, l))

-- what is left at a place: what stands there, and what is left behind it
pub drop_at : {X : Type 0} (xs : List X) (i : ℕ) (d : X) → i < length xs → drop i xs ≡ get_or xs i d ∷ drop (i + 1) xs
drop_at xs i d l = rw add-one (drop_next xs i d l)

-- so it is where something stands there
pub item_cut : {X : Type 0} (xs : List X) (i : ℕ) (x : X) → x ≡ get_or xs i x → i < length xs → drop i xs ≡ x ∷ drop (i + 1) xs
item_cut {X = X} xs i x is l = drop_at xs i x l ∙ ap (λ (y : X). y ∷ drop (i + 1) xs) (sym is)

drop_none : {X : Type 0} (i : ℕ) → ◌≡◌ {A = List X} (drop i []) []
drop_none zero = refl
drop_none (suc i) = refl

-- nothing is left at the end
pub drop_end : {X : Type 0} (xs : List X) (i : ℕ) → length xs ≤ i → drop i xs ≡ []
drop_end [] i l = drop_none i
drop_end (x ∷ xs) zero l = absurd (omega (arith, l))
drop_end (x ∷ xs) (suc i) l = drop_end xs i (omega (arith, l))

-- what all of a list have the one at a place has
pub each_place : {X : Type 0} (P : X → Type 0) (xs : List X) (i : ℕ) (d : X) → i < length xs → AllByRecursion P xs → P (get_or xs i d)
each_place P [] i d l h = absurd (omega (arith, l))
each_place P (x ∷ xs) zero d l h = h.0
each_place P (x ∷ xs) (suc i) d l h = each_place P xs i d (omega (arith, l)) h.1

-- each of the queries that are made ready is
pub ready_place : (e : Extended) (queries : List Cq) (items readies : List Ready) → readies ≡ items → AreReady e queries items → (k : ℕ) (d : Ready) → k < length readies → IsReady e (get_or readies k d)
ready_place e queries items readies same ready k d l = at readies k l (subst (AllByRecursion (IsReady e)) (sym same) (each_ready e queries items ready))
  where
    at : (rs : List Ready) (j : ℕ) → j < length rs → AllByRecursion (IsReady e) rs → IsReady e (get_or rs j d)
    at [] j m h = absurd (omega (arith, m))
    at (r ∷ rs) zero m h = h.0
    at (r ∷ rs) (suc j) m h = at rs j (omega (arith, m)) h.1

-- each slice is of one of them
pub slice_place : (items first readies : List Ready) (slices given : List Slice) → first ≡ items → readies ≡ items → given ≡ slices → AreSlices 0 first slices → (k : ℕ) (d : Slice) → k < length given
    → (get_or given k d).query < length readies
slice_place items first readies slices given one other same are k d l =
    let of = slices_are_of first slices (get_or given k d) are (at slices given same k l) in
    subst (λ (rs : List Ready). (get_or given k d).query < length rs) (one ∙ sym other) (below first (get_or given k d).query of.query of.stands)
  where
    here : (ys : List Slice) (j : ℕ) → j < length ys → Among (get_or ys j d) ys
    here [] j m = absurd (omega (arith, m))
    here (y ∷ ys) zero m = inl refl
    here (y ∷ ys) (suc j) m = inr (here ys j (omega (arith, m)))

    at : (all ys : List Slice) → ys ≡ all → (j : ℕ) → j < length ys → Among (get_or ys j d) all
    at all ys e j m = subst (Among (get_or ys j d)) e (here ys j m)

    below : (rs : List Ready) (n : ℕ) (r : Ready) → slice_get rs n ≡ Some r → n < length rs
    below [] n r e = absurd (cc)
    below (q ∷ rs) zero r e = omega arith
    below (q ∷ rs) (suc n) r e = let m = below rs n r e in omega (arith, m)

module _ (spec : Spec) (vocab : IsVocabulary spec.vocab) (v : Violation) (stands : In v (violations_of (theory_of spec))) (over : Over) (of_spec : AreOfSpec spec over)
    (query : Cq) (same : query ≡ v.query) (members : List Cq) (exact : (m : Cq) → Contains members m ↔ Closure spec.normal query m) (queries : List Cq) (are : queries ≡ members) where
  closed : (m : Cq) → Contains queries m → Closure spec.normal v.query m
  closed m i = subst (λ q. Closure spec.normal q m) same ((exact m).0 (subst (λ ms. Contains ms m) are i))

  reached : (m : Cq) → Closure spec.normal v.query m → Contains queries m
  reached m c = subst (λ ms. Contains ms m) (sym are) ((exact m).1 (subst (λ q. Closure spec.normal q m) (sym same) c))

  -- the members of the closure may be asked
  pub members_over : AllByRecursion (IsAskedOver over) queries
  members_over = in_each (IsAskedOver over) queries (λ m i. subst (λ o. IsAskedOver o m) (sym of_spec) (members_asked spec vocab v stands m (closed m (in_place queries m i))))

  module _ (e : Extended) (kept : e.over ≡ over) (once : HasOneEach e.numbered) (items first readies : List Ready) (one : first ≡ items) (other : readies ≡ items) (ready : AreReady e queries items)
      (slices given : List Slice) (lent : given ≡ slices) (cut : AreSlices 0 first slices) where
    cut_same : AreSlices 0 readies given
    cut_same = subst (λ rs. AreSlices 0 rs given) (one ∙ sym other) (subst (AreSlices 0 first) (sym lent) cut)

    ready_same : AreReady e queries readies
    ready_same = subst (AreReady e queries) (sym other) ready

    -- what the slices tell, where some hits are wanted
    pub closure_told : e.wanted ≡ SomeHits → (found : List (Option Breach)) (result : Option Breach) → AllZip (TellsFirstIn e readies v) given found → result ≡ first_there found → TellsBreach spec over v result
    closure_told wanted found result told first =
        subst (λ o. TellsBreach spec o v result) (sym of_spec)
        (breach_told spec vocab over.rows over.only v stands e (kept ∙ of_spec) once queries closed readies ready_same reached given found result wanted cut_same told first)

    -- and where all are
    pub closures_told : over.only ≡ None → e.wanted ≡ AllHits → (found : List (List Breach)) → AllZip (TellsAllIn e readies v) given found → TellsBreaches spec over (v ∷ []) (flat found)
    closures_told whole wanted found told =
        subst (λ o. TellsBreaches spec o (v ∷ []) (flat found)) (sym of_spec)
        (breaches_told spec vocab over.rows over.only v stands e (kept ∙ of_spec) once queries closed readies ready_same reached whole given found wanted cut_same told)
