-- How a relation is filled step by step: from one fact, from the facts of a source, and from several sources.
use Rattle.std.proofs.Common.{◌≡◌, ℕ, zero, suc, ◌+◌, ◌<◌, ◌⊎◌, inl, inr, Bool, true, List, [], ◌∷◌, ◌++◌, length, take, get_or, refl, sym, ap, subst, ◌∙◌, arith}
use Rattle.std.proofs.lemmas.Bool.{cases_eq}
use Rattle.std.proofs.lemmas.List.{get_or_append_left, length-append, take_more}
use Rattle.mast_relations.specs.Matches.{In, Rows, nothing}
use Rattle.mast_relations.specs.Plans.{KeepsPlans}
use Rattle.mast_relations.specs.Stores.{HasOnlyGained, Stored, contents, no_rows}
use Rattle.mast_relations.proofs.ListLemmas.{in_append, in_get}
use Rattle.mast_join.specs.declared.extensions.Wanted.{Wanted}
use Rattle.mast_join.specs.declared.facts.MadeFact.{MadeFact}
use Rattle.mast_join.specs.declared.fill.Gathered.{Gathered}
use Rattle.mast_join.specs.inside.Filling.{AreRelationsMore, Has, HasAllGiven, HasGiven, HasGivenBy, IsGiven, IsGivenBy, IsGivenByOne, IsRefilled, IsRelationNext, IsRowOf, rows_at, with_set}
use Rattle.mast_join.specs.inside.Relates.{set_columns}
use Rattle.mast_join.proofs.FillLemmas.{apart_of, gained_twice, has_more}

-- what is read at a place that is there doesn't depend on what stands in for it elsewhere
pub same_read : {X : Type 0} (xs : List X) (i : ℕ) (x d : X) → i < length xs → x ≡ get_or xs i x → x ≡ get_or xs i d
same_read [] i x d lt e = absurd (omega (arith, lt))
same_read (y ∷ ys) zero x d lt e = e
same_read (y ∷ ys) (suc i) x d lt e = same_read ys i x d (omega (arith, lt)) e

-- an element of a front that is one longer is the last one, or one of the front
in_longer : {X : Type 0} (x : X) (xs : List X) (i : ℕ) (d : X) → i < length xs → In x (take (i + 1) xs) → In x (take i xs) ⊎ (x ≡ get_or xs i d)
in_longer {X} x xs i d lt h = elim (in_append x (take i xs) (get_or xs i d ∷ []) (subst (λ (l : List X). In x l) (take_more xs i d lt) h)) [
  | inl a ↦ inl a
  | inr b ↦ inr (elim b [ inl e ↦ e | inr n ↦ absurd n ])
]

-- what was gained from one fact, where its row was put, was given by it
pub gained_given : (wanted : Wanted) (width : ℕ) (source : Gathered) (fact : MadeFact) (row : List ℕ) (old new : Rows) → IsRowOf width source fact row → HasOnlyGained (λ r. r ≡ with_set wanted row fact.set) old new
    → HasOnlyGained (IsGivenBy wanted width source fact) old new
gained_given wanted width source fact row old new is h = record {
  width = h.width;
  kept = h.kept;
  within = λ tuple i. elim (h.within tuple i) [ inl j ↦ inl j | inr e ↦ inr (record { front = row; is = is; whole = e }) ];
}

-- and what it gives is there
pub has_given : (wanted : Wanted) (width : ℕ) (source : Gathered) (fact : MadeFact) (row : List ℕ) (b : Bool) (rows : List (List ℕ)) → ((front : List ℕ) → IsRowOf width source fact front → (b ≡ true) × (front ≡ row))
    → Has wanted rows row fact.set → HasGivenBy wanted width source fact rows
has_given wanted width source fact row b rows same has front is = subst (λ (k : List ℕ). Has wanted rows k fact.set) (sym (same front is).1) has

module _ (wanted : Wanted) (width : ℕ) (source : Gathered) (facts : List MadeFact) (i : ℕ) (d : MadeFact) (lt : i < length facts) where
  abbrev fact : MadeFact
  fact = get_or facts i d

  -- one fact more
  pub gained_more : (a b c : Rows) → HasOnlyGained (IsGiven wanted width source facts) a b → HasOnlyGained (IsGivenBy wanted width source fact) b c → HasOnlyGained (IsGiven wanted width source facts) a c
  gained_more a b c = gained_twice (IsGiven wanted width source facts) (IsGivenBy wanted width source fact) a b c (λ row g. record { fact = fact; there = in_get facts i d lt; front = g.front; is = g.is; whole = g.whole })

  pub given_more : (old new : Rows) → HasGiven wanted width source (take i facts) old.list → HasOnlyGained (IsGivenBy wanted width source fact) old new → HasGivenBy wanted width source fact new.list → HasGiven wanted width source (take (i + 1) facts) new.list
  given_more old new h g b other front there r = elim (in_longer other facts i d lt there) [
    | inl j ↦ has_more wanted old.list new.list front other.set g.kept (h other front j r)
    | inr e ↦ subst (λ (f : MadeFact). Has wanted new.list front f.set) (sym e) (b front (subst (λ (f : MadeFact). IsRowOf width source f front) e r))
  ]

-- no fact yet
pub given_first : (wanted : Wanted) (width : ℕ) (source : Gathered) (facts : List MadeFact) (rows : List (List ℕ)) → HasGiven wanted width source (take 0 facts) rows
given_first wanted width source facts rows fact front i r = absurd (none facts i)
  where
    none : (xs : List MadeFact) → In fact (take 0 xs) → ⊥
    none [] i = i
    none (x ∷ xs) i = i

-- each fact
pub given_all : (wanted : Wanted) (width : ℕ) (source : Gathered) (facts front : List MadeFact) (rows : List (List ℕ)) → front ≡ facts → HasGiven wanted width source front rows → HasGiven wanted width source facts rows
given_all wanted width source facts front rows e h = subst (λ (l : List MadeFact). HasGiven wanted width source l rows) e h

module _ (wanted : Wanted) (width : ℕ) (facts : List (List MadeFact)) (sources : List Gathered) where
  -- no row yet
  pub right_first : (rows : Rows) → rows ≡ no_rows (width + set_columns wanted) → (row : List ℕ) → In row rows.list → IsGivenByOne wanted width facts sources row
  right_first rows e row i = absurd (subst (λ (r : Rows). In row r.list) e i)

  pub all_first : (rows : List (List ℕ)) → HasAllGiven wanted width facts (take 0 sources) rows
  all_first rows source i = absurd (none sources i)
    where
      none : (xs : List Gathered) → In source (take 0 xs) → ⊥
      none [] i = i
      none (x ∷ xs) i = i

  -- one source more
  module _ (i : ℕ) (d : Gathered) (given : List MadeFact) (lt : i < length sources) (of : given ≡ get_or facts (get_or sources i d).place []) where
    abbrev source : Gathered
    source = get_or sources i d

    pub right_more : (old new : Rows) → ((row : List ℕ) → In row old.list → IsGivenByOne wanted width facts sources row) → HasOnlyGained (IsGiven wanted width source given) old new
        → (row : List ℕ) → In row new.list → IsGivenByOne wanted width facts sources row
    right_more old new h g row j = elim (g.within row j) [
      | inl k ↦ h row k
      | inr k ↦ record { source = source; there = in_get sources i d lt; given = subst (λ (l : List MadeFact). IsGiven wanted width source l row) of k }
    ]

    pub all_more : (old new : Rows) → HasAllGiven wanted width facts (take i sources) old.list → HasOnlyGained (IsGiven wanted width source given) old new → HasGiven wanted width source given new.list
        → HasAllGiven wanted width facts (take (i + 1) sources) new.list
    all_more old new h g b other there = elim (in_longer other sources i d lt there) [
      | inl j ↦ λ fact front k r. has_more wanted old.list new.list front fact.set g.kept (h other j fact front k r)
      | inr e ↦ subst (λ (s : Gathered). HasGiven wanted width s (get_or facts s.place []) new.list) (sym e) (subst (λ (l : List MadeFact). HasGiven wanted width source l new.list) of b)
    ]

-- lists of relations that are the same at each place are one
same_relations : (xs ys : List Rows) → length xs ≡ length ys → ((k : ℕ) → k < length xs → get_or xs k nothing ≡ get_or ys k nothing) → xs ≡ ys
same_relations [] [] l h = refl
same_relations [] (y ∷ ys) l h = absurd (omega (arith, l))
same_relations (x ∷ xs) [] l h = absurd (omega (arith, l))
same_relations (x ∷ xs) (y ∷ ys) l h =
    let a : x ≡ y = h 0 (omega arith) in
    let b : xs ≡ ys = same_relations xs ys (omega (arith, l)) (λ k lt. h (suc k) (omega (arith, lt))) in
    rw (a, b) refl

last_at : (xs : List Rows) (r : Rows) → get_or (xs ++ r ∷ []) (length xs) nothing ≡ r
last_at [] r = refl
last_at (x ∷ xs) r = last_at xs r

-- relations behind which one was begun, and then filled
module _ (old mid new : List Stored) (begun : Rows) (number : ℕ) (at : number ≡ length (contents old)) (is : contents mid ≡ contents old ++ begun ∷ []) (plans : KeepsPlans old mid) (filled : IsRefilled number mid new) where
  mid_long : length (contents mid) ≡ length (contents old) + 1
  mid_long = ap length is ∙ length-append (contents old) (begun ∷ [])

  next_is : contents new ≡ contents old ++ rows_at new number ∷ []
  next_is = same_relations (contents new) (contents old ++ rows_at new number ∷ [])
      (filled.long ∙ mid_long ∙ sym (length-append (contents old) (rows_at new number ∷ [])))
      (λ k lt. elim (cases_eq k number) [
        | inl e ↦ ap (rows_at new) e ∙ sym (ap (λ i. get_or (contents old ++ rows_at new number ∷ []) i nothing) (e ∙ at) ∙ last_at (contents old) (rows_at new number))
        | inr n ↦ let l = filled.long in let m = mid_long in let below : k < length (contents old) = omega (arith, lt, l, m, at, n) in
            filled.others k n ∙ ap (λ (c : List Rows). get_or c k nothing) is ∙ get_or_append_left (contents old) (begun ∷ []) nothing k below
            ∙ sym (get_or_append_left (contents old) (rows_at new number ∷ []) nothing k below)
      ])

  pub next_more : AreRelationsMore old new
  next_more = record {
    front = (rows_at new number ∷ [], next_is);
    plans = λ plan q p. filled.plans plan (apart_of (contents old) number plan.query.patterns (omega (arith, at)) q.patterns) (plans plan p);
  }

  pub next_filled : (P : Rows → Type 0) → P (rows_at new number) → IsRelationNext P old new number
  next_filled P h = record { next = at; rows = rows_at new number; is = next_is; tells = h }

  pub begun_there : number < length (contents mid)
  begun_there = let m = mid_long in omega (arith, at, m)

  pub begun_rows : rows_at mid number ≡ begun
  begun_rows = ap (λ (c : List Rows). get_or c number nothing) is ∙ ap (λ i. get_or (contents old ++ begun ∷ []) i nothing) at ∙ last_at (contents old) begun
