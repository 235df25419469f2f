-- What the slices of queries tell, told of the queries.
use Rattle.std.proofs.Common.{◌≡◌, ℕ, zero, suc, true, false, List, [], ◌∷◌, Option, Some, None, slice_get, inl, inr, refl, sym, subst}
use Rattle.std.specs.List.{AllByRecursion, AllZip}
use Rattle.mast_cq.specs.declared.query.Cq.{Cq}
use Rattle.mast_cq.specs.Queries.{In}
use Rattle.mast_cq.proofs.ListLemmas.{each_in, in_append, append_left, append_right}
use Rattle.mast_relations.specs.Matches.{IsAnswer}
use Rattle.mast_relations.specs.Matches.{In as Among}
use Rattle.mast_relations.specs.Stores.{contents}
use Rattle.mast_join.specs.declared.ready.Ready.{Ready}
use Rattle.mast_join.specs.declared.slices.Slice.{Slice}
use Rattle.mast_join.specs.Answers.{Extended, HasInSlice}
use Rattle.mast_join.specs.Slices.{AreSlices}
use Rattle.mast_join.proofs.CutLemmas.{slices_are_of, slice_answer, answer_in_slice}
use Rattle.mast_violate.specs.declared.violation.Violation.{Violation}
use Rattle.mast_check.specs.declared.breach.Breach.{Breach}
use Rattle.mast_check.specs.inside.Judging.{passes_by}
use Rattle.mast_check.specs.inside.Pieces.{AreReady, HasBreachOfRow, IsBreachOfSome, IsReadyAs, TellsAllIn, TellsFirst, TellsFirstIn, flat, terms_of}

-- the partner of an element in lists that go place by place
pub record Partner {X Y : Type 0} (R : X → Y → Type 0) (ys : List Y) (x : X) : Type 0 where
  pub it : Y
  pub among : In it ys
  pub are : R x it

pub partner : {X Y : Type 0} (R : X → Y → Type 0) (xs : List X) (ys : List Y) → AllZip R xs ys → (x : X) → Among x xs → Partner R ys x
partner R [] ys z x i = absurd i
partner R (x' ∷ xs) [] z x i = absurd z
partner R (x' ∷ xs) (y ∷ ys) z x (inl e) = record { it = y; among = inl refl; are = subst (λ w. R w y) (sym e) z.0 }
partner R (x' ∷ xs) (y ∷ ys) z x (inr i) = let w = partner R xs ys z.1 x i in record { it = w.it; among = inr w.among; are = w.are }

-- and back
pub record Origin {X Y : Type 0} (R : X → Y → Type 0) (xs : List X) (y : Y) : Type 0 where
  pub it : X
  pub among : Among it xs
  pub are : R it y

pub origin : {X Y : Type 0} (R : X → Y → Type 0) (xs : List X) (ys : List Y) → AllZip R xs ys → (y : Y) → In y ys → Origin R xs y
origin R [] [] z y i = absurd i
origin R [] (y' ∷ ys) z y i = absurd z
origin R (x ∷ xs) [] z y i = absurd i
origin R (x ∷ xs) (y' ∷ ys) z y (inl e) = record { it = x; among = inl refl; are = subst (R x) (sym e) z.0 }
origin R (x ∷ xs) (y' ∷ ys) z y (inr i) = let w = origin R xs ys z.1 y i in record { it = w.it; among = inr w.among; are = w.are }

-- the query at a place of what is ready
pub record ReadyAt (e : Extended) (queries : List Cq) (ready : Ready) : Type 0 where
  pub query : Cq
  pub among : In query queries
  pub are : IsReadyAs e query ready

pub ready_at : (e : Extended) (queries : List Cq) (readies : List Ready) → AreReady e queries readies → (place : ℕ) (ready : Ready) → slice_get readies place ≡ Some ready → ReadyAt e queries ready
ready_at e [] [] z place ready s = absurd (cc)
ready_at e [] (r ∷ readies) z place ready s = absurd z
ready_at e (q ∷ queries) [] z place ready s = absurd z
ready_at e (q ∷ queries) (r ∷ readies) z zero ready s = let k : r ≡ ready = cc in record { query = q; among = inl refl; are = subst (IsReadyAs e q) k z.0 }
ready_at e (q ∷ queries) (r ∷ readies) z (suc place) ready s =
    let w = ready_at e queries readies z.1 place ready s in record { query = w.query; among = inr w.among; are = w.are }

-- what is ready of a query
pub record ReadyOf (e : Extended) (readies : List Ready) (q : Cq) : Type 0 where
  pub place : ℕ
  pub ready : Ready
  pub stands : slice_get readies place ≡ Some ready
  pub are : IsReadyAs e q ready

-- each query has what is ready of it
pub ready_of : (e : Extended) (queries : List Cq) (readies : List Ready) → AreReady e queries readies → (q : Cq) → In q queries → ReadyOf e readies q
ready_of e [] readies z q i = absurd i
ready_of e (q' ∷ queries) [] z q i = absurd z
ready_of e (q' ∷ queries) (r ∷ readies) z q (inl k) = record { place = 0; ready = r; stands = refl; are = subst (λ p. IsReadyAs e p r) (sym k) z.0 }
ready_of e (q' ∷ queries) (r ∷ readies) z q (inr i) =
    let w = ready_of e queries readies z.1 q i in record { place = suc w.place; ready = w.ready; stands = w.stands; are = w.are }

-- the rows of a query that is ready
abbrev pub HasRow : Extended → Ready → List ℕ → Type 0
HasRow e ready = IsAnswer (contents e.relations) ready.plan.query

-- a breach of a row of one of the queries
pub record IsBreachOfOne (e : Extended) (queries : List Cq) (v : Violation) (breach : Breach) : Type 0 where
  pub ready : Ready
  pub query : Cq
  pub among : In query queries
  pub are : IsReadyAs e query ready
  pub breach_of : IsBreachOfSome e (terms_of ready) v (HasRow e ready) breach

-- what stands in one of the lists stands in all of them, one after another
flat_in : (breach : Breach) (list : List Breach) (lists : List (List Breach)) → In list lists → In breach list → In breach (flat lists)
flat_in breach list [] i j = absurd i
flat_in breach list (l ∷ lists) (inl e) j = append_left breach l (flat lists) (subst (In breach) e j)
flat_in breach list (l ∷ lists) (inr i) j = append_right breach l (flat lists) (flat_in breach list lists i j)

record Holding (breach : Breach) (lists : List (List Breach)) : Type 0 where
  it : List Breach
  among : In it lists
  stands : In breach it

flat_out : (breach : Breach) (lists : List (List Breach)) → In breach (flat lists) → Holding breach lists
flat_out breach [] i = absurd i
flat_out breach (l ∷ lists) i = elim (in_append breach l (flat lists) i) [
  | inl a ↦ record { it = l; among = inl refl; stands = a }
  | inr b ↦ (let w = flat_out breach lists b in record { it = w.it; among = inr w.among; stands = w.stands })
]

module _ (e : Extended) (queries : List Cq) (readies : List Ready) (v : Violation) (slices : List Slice) (ready : AreReady e queries readies) (cut : AreSlices 0 readies slices) where
  module _ (found : List (Option Breach)) (told : AllZip (TellsFirstIn e readies v) slices found) where
    -- where no slice has a breach, no row of a query passes
    pub none_told : AllByRecursion (λ one. one ≡ None) found → (place : ℕ) (r : Ready) → slice_get readies place ≡ Some r → (row : List ℕ) → HasRow e r row → passes_by e.numbered.terms v.test row ≡ false
    none_told none place r stands row a =
        let at = ready_at e queries readies ready place r stands in
        let s = answer_in_slice e.relations readies slices place r row cut stands at.are.1.plan a in
        let p = partner (TellsFirstIn e readies v) slices found told s.slice s.among in
        let is : p.it ≡ None = each_in (λ (one : Option Breach). one ≡ None) p.it found none p.among in
        let tells : TellsFirst e (terms_of r) v (HasInSlice e r s.slice.from s.slice.to) None =
        subst (TellsFirst e (terms_of r) v (HasInSlice e r s.slice.from s.slice.to)) is (p.are r (subst (λ n. slice_get readies n ≡ Some r) (sym s.of_query) stands)) in
        tells row s.answer

    -- a breach of a slice is one of a row of a query
    pub some_told : (breach : Breach) → In (Some breach) found → IsBreachOfOne e queries v breach
    some_told breach i =
        let o = origin (TellsFirstIn e readies v) slices found told (Some breach) i in
        let q = slices_are_of readies slices o.it cut o.among in
        let at = ready_at e queries readies ready o.it.query q.query q.stands in
        let b = o.are q.query q.stands in
        record {
          ready = q.query;
          query = at.query;
          among = at.among;
          are = at.are;
          breach_of = record { row = b.row; found = slice_answer (contents e.relations) q.query o.it b.row b.found; is = b.is };
        }

  module _ (found : List (List Breach)) (told : AllZip (TellsAllIn e readies v) slices found) where
    -- each row of a query that passes has its breach in the list of a slice
    pub all_told : (place : ℕ) (r : Ready) → slice_get readies place ≡ Some r → (row : List ℕ) → HasRow e r row → passes_by e.numbered.terms v.test row ≡ true → HasBreachOfRow e (terms_of r) v (flat found) row
    all_told place r stands row a passes =
        let at = ready_at e queries readies ready place r stands in
        let s = answer_in_slice e.relations readies slices place r row cut stands at.are.1.plan a in
        let p = partner (TellsAllIn e readies v) slices found told s.slice s.among in
        let w = (p.are r (subst (λ n. slice_get readies n ≡ Some r) (sym s.of_query) stands)).all row s.answer passes in
        record { breach = w.breach; stands = flat_in w.breach p.it found p.among w.stands; is = w.is }

    -- and each breach of such a list is one of a row of a query
    pub each_told : (breach : Breach) → In breach (flat found) → IsBreachOfOne e queries v breach
    each_told breach k =
        let f = flat_out breach found k in
        let o = origin (TellsAllIn e readies v) slices found told f.it f.among in
        let q = slices_are_of readies slices o.it cut o.among in
        let at = ready_at e queries readies ready o.it.query q.query q.stands in
        let t = o.are q.query q.stands in
        let b = each_in (IsBreachOfSome e (terms_of q.query) v (HasInSlice e q.query o.it.from o.it.to)) breach f.it t.right f.stands in
        record {
          ready = q.query;
          query = at.query;
          among = at.among;
          are = at.are;
          breach_of = record { row = b.row; found = slice_answer (contents e.relations) q.query o.it b.row b.found; is = b.is };
        }
