-- Queries that are made ready, one after another, and the rows of their slices.
use Rattle.std.proofs.Common.{◌≡◌, ℕ, suc, zero, ◌<◌, ◌+◌, List, [], ◌∷◌, ◌++◌, length, map, take, drop, get_or, add-one, inl, inr, refl, sym, ap, ◌∙◌, subst, arith}
use Rattle.std.specs.List.{AllByRecursion}
use Rattle.mast_cq.specs.declared.query.Cq.{Cq}
use Rattle.mast_cq.specs.Queries.{viewed}
use Rattle.mast_relations.specs.Matches.{In as Among}
use Rattle.mast_relations.specs.Matches.{IsAnswer, Rows}
use Rattle.mast_relations.specs.Stores.{HasOnlyGained, contents}
use Rattle.mast_join.specs.declared.extensions.Wanted.TheVariants.{SomeHits, AllHits}
use Rattle.mast_join.specs.declared.ready.Ready.{Ready}
use Rattle.mast_join.specs.declared.slices.Slice.{Slice}
use Rattle.mast_join.specs.Answers.{Extended, HasInSlice, IsNumberRow, IsReady, KeepsReady, Tell, TellAllHits, TellSomeHits, row_width}
use Rattle.mast_join.proofs.CutLemmas.{slice_answer}
use Rattle.mast_join.proofs.HitLemmas.{hit_numbers}
use Rattle.mast_check.specs.inside.Pieces.{AreReady, IsReadyAs, terms_of}

-- what was ready still is
pub ready_kept : (old new : Extended) → KeepsReady old new → (queries : List Cq) (readies : List Ready) → AreReady old queries readies → AreReady new queries readies
ready_kept old new k [] [] z = tt
ready_kept old new k [] (r ∷ readies) z = absurd z
ready_kept old new k (q ∷ queries) [] z = absurd z
ready_kept old new k (q ∷ queries) (r ∷ readies) z = ((z.0.0, k r z.0.1), ready_kept old new k queries readies z.1)

-- one more
ready_pushed : (e : Extended) (queries : List Cq) (readies : List Ready) (q : Cq) (r : Ready) → AreReady e queries readies → IsReadyAs e q r → AreReady e (queries ++ q ∷ []) (readies ++ r ∷ [])
ready_pushed e [] [] q r z i = (i, tt)
ready_pushed e [] (s ∷ readies) q r z i = absurd z
ready_pushed e (p ∷ queries) [] q r z i = absurd z
ready_pushed e (p ∷ queries) (s ∷ readies) q r z i = (z.0, ready_pushed e queries readies q r z.1 i)

-- queries that are ready stay so with one more
pub ready_more : (old new : Extended) (done more : List Cq) (readies all : List Ready) (q : Cq) (r : Ready) → KeepsReady old new → AreReady old done readies → IsReadyAs new q r
    → more ≡ done ++ q ∷ [] → all ≡ readies ++ r ∷ [] → AreReady new more all
ready_more old new done more readies all q r k z i e f =
    subst (λ qs. AreReady new qs all) (sym e) (subst (AreReady new (done ++ q ∷ [])) (sym f) (ready_pushed new done readies q r (ready_kept old new k done readies z) i))

-- each of them is
pub each_ready : (e : Extended) (queries : List Cq) (readies : List Ready) → AreReady e queries readies → AllByRecursion (IsReady e) readies
each_ready e [] [] z = tt
each_ready e [] (r ∷ readies) z = absurd z
each_ready e (q ∷ queries) [] z = absurd z
each_ready e (q ∷ queries) (r ∷ readies) z = (z.0.1, each_ready e queries readies z.1)

-- a row of a slice of a query that is ready is a hit, and so one of numbers
pub some_number : (e : Extended) (ready : Ready) (slice : Slice) (row : List ℕ) → e.wanted ≡ SomeHits → IsReady e ready → HasInSlice e ready slice.from slice.to row → IsNumberRow e row (terms_of ready)
some_number e ready slice row w i h =
    let told : TellSomeHits e (viewed ready.query) (IsAnswer (contents e.relations) ready.plan.query) = subst (λ z. Tell z e (viewed ready.query) (IsAnswer (contents e.relations) ready.plan.query)) w i.tell in
    hit_numbers e (viewed ready.query) row (told.right row (slice_answer (contents e.relations) ready slice row h))

pub all_number : (e : Extended) (ready : Ready) (slice : Slice) (row : List ℕ) → e.wanted ≡ AllHits → IsReady e ready → HasInSlice e ready slice.from slice.to row → IsNumberRow e row (terms_of ready)
all_number e ready slice row w i h =
    let told : TellAllHits e (viewed ready.query) (IsAnswer (contents e.relations) ready.plan.query) = subst (λ z. Tell z e (viewed ready.query) (IsAnswer (contents e.relations) ready.plan.query)) w i.tell in
    hit_numbers e (viewed ready.query) row (told.right row (slice_answer (contents e.relations) ready slice row h))

-- the rows that are put into an empty set are those of the slice
pub gained_in : (e : Extended) (ready : Ready) (slice : Slice) (old new : Rows) → old.list ≡ [] → HasOnlyGained (HasInSlice e ready slice.from slice.to) old new → (row : List ℕ) → Among row new.list
    → HasInSlice e ready slice.from slice.to row
gained_in e ready slice old new none g row i = elim (g.within row i) [ inl k ↦ absurd (subst (Among row) none k) | inr h ↦ h ]

each_among : {X : Type 0} (P : X → Type 0) (xs : List X) → ((x : X) → Among x xs → P x) → AllByRecursion P xs
each_among P [] h = tt
each_among P (x ∷ xs) h = (h x (inl refl), each_among P xs (λ y i. h y (inr i)))

-- and each is one of numbers
pub gained_numbers : (e : Extended) (ready : Ready) (slice : Slice) (old new : Rows) → e.wanted ≡ AllHits → IsReady e ready → old.list ≡ [] → HasOnlyGained (HasInSlice e ready slice.from slice.to) old new
    → AllByRecursion (λ row. IsNumberRow e row (terms_of ready)) new.list
gained_numbers e ready slice old new w i none g =
    each_among (λ row. IsNumberRow e row (terms_of ready)) new.list (λ row k. all_number e ready slice row w i (gained_in e ready slice old new none g row k))

-- how wide the rows of a query that is ready are
pub ready_wide : (e : Extended) (ready : Ready) → e.wanted ≡ AllHits → IsReady e ready → length ready.plan.query.answer ≡ length (viewed ready.query).answer + length (viewed ready.query).atoms
ready_wide e ready w i = i.wide ∙ ap (λ z. row_width z (viewed ready.query)) w

-- of queries that may be asked the one at a place may be, and those behind it
pub asked_at : {X : Type 0} (P : Cq → Type 0) (f : X → Cq) (xs : List X) (i : ℕ) (d : X) → i < length xs → AllByRecursion P (map f (drop i xs)) → P (f (get_or xs i d))
asked_at P f [] i d l h = absurd (omega (arith, l))
asked_at P f (x ∷ xs) zero d l h = h.0
asked_at P f (x ∷ xs) (suc i) d l h = asked_at P f xs i d (omega (arith, l)) h

asked_next : {X : Type 0} (P : Cq → Type 0) (f : X → Cq) (xs : List X) (i : ℕ) → AllByRecursion P (map f (drop i xs)) → AllByRecursion P (map f (drop (suc i) xs))
asked_next P f [] i h = tt
asked_next P f (x ∷ xs) zero h = h.1
asked_next P f (x ∷ xs) (suc i) h = asked_next P f xs i h

-- and so may those behind it, one place further
pub asked_rest : {X : Type 0} (P : Cq → Type 0) (f : X → Cq) (xs : List X) (i : ℕ) → AllByRecursion P (map f (drop i xs)) → AllByRecursion P (map f (drop (i + 1) xs))
asked_rest P f xs i h = rw add-one (asked_next P f xs i h)

map_next : {X Y : Type 0} (f : X → Y) (xs : List X) (i : ℕ) (d : X) → i < length xs → map f (take (suc i) xs) ≡ map f (take i xs) ++ f (get_or xs i d) ∷ []
map_next f [] i d l = absurd (omega (arith, l))
map_next f (x ∷ xs) zero d l = refl
map_next f (x ∷ xs) (suc i) d l = ap (λ zs. f x ∷ zs) (map_next f xs i d (omega (arith, l)))

-- one more of a front
pub map_front : {X Y : Type 0} (f : X → Y) (xs : List X) (i : ℕ) (d : X) → i < length xs → map f (take (i + 1) xs) ≡ map f (take i xs) ++ f (get_or xs i d) ∷ []
map_front f xs i d l = rw add-one (map_next f xs i d l)
