-- What a row of numbers tells: that its terms are a certain answer over the facts of its rows.
use Rattle.std.proofs.Common.{◌≡◌, ℕ, zero, suc, ◌<◌, List, [], ◌∷◌, ◌++◌, length, map, take, drop, get_or, slice_get, Some, Option, inl, inr, refl, sym, ap, ◌∙◌, subst, arith}
use Rattle.std.specs.List.{AllByRecursion, AllZip}
use Rattle.std.specs.List.Sorted.{IsStrictlySortedBy}
use Rattle.mast_terms.specs.declared.term.Term.{Term}
use Rattle.mast_cq.specs.declared.atom.Arg.{Arg}
use Rattle.mast_cq.specs.declared.atom.Atom.{Atom}
use Rattle.mast_cq.specs.declared.query.Cq.{Cq}
use Rattle.mast_cq.specs.Meanings.{Gives}
use Rattle.mast_cq.specs.Queries.{In}
use Rattle.mast_cq.proofs.ListLemmas.{each_in, in_each, in_append, append_left, append_right}
use Rattle.mast_canon.specs.declared.rows.RowId.{RowId}
use Rattle.mast_canon.specs.declared.spec.Spec.{Spec}
use Rattle.mast_canon.specs.CertainAnswers.{MetThrough, HasThrough}
use Rattle.mast_canon.specs.ConflictLaws.{IsAmong}
use Rattle.mast_canon.specs.Facts.{HaveSameRows}
use Rattle.mast_canon.specs.RowOrder.{row_order}
use Rattle.mast_canon.specs.SpecFacts.{FactsOf}
use Rattle.mast_tables.specs.Rows.{Row}
use Rattle.mast_join.specs.declared.hit.Hit.{Hit}
use Rattle.mast_join.specs.Answers.{Extended, AreNumbersOf, IsHitRow, IsNumberRow, IsTupleRow}
use Rattle.mast_join.specs.Extensions.{Over, TakesPart, over_of, constant_over, IsPairOf, HasBy, union}
use Rattle.mast_join.specs.Hits.{IsHitOfRow}
use Rattle.mast_join.proofs.RightLemmas.{append_none}

some_same : {X : Type 0} (x y : X) → Some x ≡ Some y → x ≡ y
some_same x y e = cc

-- numbers of some things are those of no others
pub numbers_same : {X : Type 0} (things others : List X) → map Some things ≡ map Some others → things ≡ others
numbers_same [] [] e = refl
numbers_same [] (y ∷ ys) e = absurd (cc)
numbers_same (x ∷ xs) [] e = absurd (cc)
numbers_same {X} (x ∷ xs) (y ∷ ys) e =
    let h : Some x ≡ Some y = cc in
    let t : map Some xs ≡ map Some ys = cc in
    ap (λ (z : X). z ∷ xs) (some_same x y h) ∙ ap (λ zs. y ∷ zs) (numbers_same xs ys t)

-- there are as many numbers as things
pub numbers_long : {X : Type 0} (all : List X) (numbers : List ℕ) (things : List X) → AreNumbersOf all numbers things → length numbers ≡ length things
numbers_long all [] [] e = refl
numbers_long all [] (x ∷ xs) e = absurd (cc)
numbers_long all (n ∷ ns) [] e = absurd (cc)
numbers_long all (n ∷ ns) (x ∷ xs) e = ap suc (numbers_long all ns xs cc)

-- the number at a place is that of the thing at this place
pub number_at : {X : Type 0} (all : List X) (numbers : List ℕ) (things : List X) → AreNumbersOf all numbers things → (place : ℕ) (number : ℕ) → slice_get numbers place ≡ Some number
    → slice_get all number ≡ slice_get things place
number_at all [] [] e place number i = absurd (cc)
number_at all [] (x ∷ xs) e place number i = absurd (cc)
number_at all (n ∷ ns) [] e place number i = absurd (cc)
number_at all (n ∷ ns) (x ∷ xs) e zero number i = let k : n ≡ number = cc in subst (λ z. slice_get all z ≡ Some x) k cc
number_at all (n ∷ ns) (x ∷ xs) e (suc place) number i = number_at all ns xs (cc) place number i

there_below : {X : Type 0} (all : List X) (n : ℕ) (x : X) → slice_get all n ≡ Some x → n < length all
there_below [] n x e = absurd (cc)
there_below (y ∷ all) zero x e = omega arith
there_below (y ∷ all) (suc n) x e = let k = there_below all n x e in omega (arith, k)

-- numbers of things are below their count
pub numbers_below : {X : Type 0} (all : List X) (numbers : List ℕ) (things : List X) → AreNumbersOf all numbers things → AllByRecursion (λ number. number < length all) numbers
numbers_below all [] things e = tt
numbers_below all (n ∷ ns) [] e = absurd (cc)
numbers_below all (n ∷ ns) (x ∷ xs) e = (there_below all n x cc, numbers_below all ns xs cc)

-- the things of numbers
get_there : {X : Type 0} (all : List X) (n : ℕ) (d x : X) → slice_get all n ≡ Some x → get_or all n d ≡ x
get_there [] n d x e = absurd (cc)
get_there (y ∷ all) zero d x e = some_same y x e
get_there (y ∷ all) (suc n) d x e = get_there all n d x e

pub things_of : {X : Type 0} (all : List X) (d : X) (numbers : List ℕ) (things : List X) → AreNumbersOf all numbers things → map (λ number. get_or all number d) numbers ≡ things
things_of all d [] [] e = refl
things_of all d [] (x ∷ xs) e = absurd (cc)
things_of all d (n ∷ ns) [] e = absurd (cc)
things_of {X} all d (n ∷ ns) (x ∷ xs) e =
    let h : slice_get all n ≡ Some x = cc in
    ap (λ (z : X). z ∷ map (λ number. get_or all number d) ns) (get_there all n d x h) ∙ ap (λ zs. x ∷ zs) (things_of all d ns xs cc)

-- a tuple is as long as the answer list
pub gives_long : {X : Type 0} (constant s : ℕ → X) (answer : List Arg) (tuple : List X) → Gives constant s answer tuple → length answer ≡ length tuple
gives_long constant s [] [] g = refl
gives_long constant s [] (t ∷ ts) g = absurd g
gives_long constant s (x ∷ xs) [] g = absurd g
gives_long constant s (x ∷ xs) (t ∷ ts) g = ap suc (gives_long constant s xs ts g.1)

take_front : {X : Type 0} (xs ys : List X) (n : ℕ) → n ≡ length xs → take n (xs ++ ys) ≡ xs
take_front [] ys zero e = refl
take_front [] ys (suc n) e = absurd (omega (arith, e))
take_front (x ∷ xs) ys zero e = absurd (omega (arith, e))
take_front (x ∷ xs) ys (suc n) e = ap (λ zs. x ∷ zs) (take_front xs ys n (omega (arith, e)))

drop_front : {X : Type 0} (xs ys : List X) (n : ℕ) → n ≡ length xs → drop n (xs ++ ys) ≡ ys
drop_front [] ys zero e = refl
drop_front [] ys (suc n) e = absurd (omega (arith, e))
drop_front (x ∷ xs) ys zero e = absurd (omega (arith, e))
drop_front (x ∷ xs) ys (suc n) e = drop_front xs ys n (omega (arith, e))

-- a hit's row is one of numbers of terms, and then of numbers of sets
pub hit_numbers : (e : Extended) (q : Cq) (row : List ℕ) → IsHitRow e q row → IsNumberRow e row (length q.answer)
hit_numbers e q row h = record {
  first = h.first;
  second = h.second;
  is = h.is;
  long = numbers_long e.numbered.terms h.first h.tuple h.numbers ∙ sym (gives_long (constant_over e.over) h.has.under q.answer h.tuple h.has.answers);
  of_terms = numbers_below e.numbered.terms h.first h.tuple h.numbers;
  of_sets = numbers_below e.sets h.second h.sets h.set_numbers;
}

-- a tuple's row is one of numbers of terms
pub tuple_numbers : (e : Extended) (q : Cq) (row : List ℕ) → IsTupleRow e q row → IsNumberRow e row (length q.answer)
tuple_numbers e q row h = record {
  first = row;
  second = [];
  is = sym (append_none row);
  long = numbers_long e.numbered.terms row h.tuple h.numbers ∙ sym (gives_long (constant_over e.over) h.has.under q.answer h.tuple h.has.answers);
  of_terms = numbers_below e.numbered.terms row h.tuple h.numbers;
  of_sets = tt;
}

-- a set among others lies within their union
union_in : (set : List RowId) (sets : List (List RowId)) (row : RowId) → In set sets → In row set → In row (union sets)
union_in set [] row i j = absurd i
union_in set (other ∷ sets) row (inl e) j = append_left row other (union sets) (subst (In row) e j)
union_in set (other ∷ sets) row (inr i) j = append_right row other (union sets) (union_in set sets row i j)

module _ (spec : Spec) (tables : List (List Row)) (only : Option (List RowId)) where
  abbrev over : Over
  over = over_of spec tables only

  -- the atoms are met over the facts of rows that hold all sets
  met_by : (under : ℕ → Term) (X : RowId → Type 0) (atoms : List Atom) (sets : List (List RowId)) → AllZip (IsPairOf over under) atoms sets
      → ((set : List RowId) → In set sets → AllByRecursion X set) → AllByRecursion (MetThrough spec.normal (constant_over over) (FactsOf spec tables X) under) atoms
  met_by under X [] sets z h = tt
  met_by under X (g ∷ atoms) [] z h = absurd z
  met_by under X (g ∷ atoms) (set ∷ sets) z h = (
    record {
      member = z.0.member;
      below = z.0.below;
      met = record { fact = z.0.fact; matches = z.0.matches; holds = record { rows = set; support = z.0.supports.support; within = h set (inl refl) } };
    },
    met_by under X atoms sets z.1 (λ other i. h other (inr i)),
  )

  -- a query that has a tuple by sets of rows has it over the facts of any rows that hold them
  pub has_over : (q : Cq) (tuple : List Term) (sets : List (List RowId)) (rows : List RowId) → HasBy over q tuple sets → ((row : RowId) → In row (union sets) → In row rows)
      → HasThrough spec.normal (constant_over over) (FactsOf spec tables (IsAmong rows)) q tuple
  has_over q tuple sets rows h among = record {
    under = h.under;
    each = met_by h.under (IsAmong rows) q.atoms sets h.each (λ set i. in_each (IsAmong rows) set (λ row j. among row (union_in set sets row i j)));
    answers = h.answers;
  }

  each_within : (under : ℕ → Term) (atoms : List Atom) (sets : List (List RowId)) → AllZip (IsPairOf over under) atoms sets → (row : RowId) → In row (union sets) → TakesPart tables only row
  each_within under [] [] z row i = absurd i
  each_within under [] (set ∷ sets) z row i = absurd z
  each_within under (g ∷ atoms) [] z row i = absurd i
  each_within under (g ∷ atoms) (set ∷ sets) z row i = elim (in_append row set (union sets) i) [
    | inl a ↦ each_in (TakesPart tables only) row set z.0.supports.within a
    | inr b ↦ each_within under atoms sets z.1 row b
  ]

  -- and its rows take part
  pub rows_within : (q : Cq) (tuple : List Term) (sets : List (List RowId)) (rows : List RowId) → HasBy over q tuple sets → ((row : RowId) → In row rows → In row (union sets))
      → AllByRecursion (TakesPart tables only) rows
  rows_within q tuple sets rows h among = in_each (TakesPart tables only) rows (λ row i. each_within h.under q.atoms sets h.each row (among row i))

-- the rows of the hit of a row of numbers are those of its sets
pub hit_sets : (e : Extended) (width : ℕ) (first second : List ℕ) (sets : List (List RowId)) (hit : Hit) → width ≡ length first → AreNumbersOf e.sets second sets
    → IsHitOfRow e width (first ++ second) hit → HaveSameRows hit.rows (union sets)
hit_sets e width first second sets hit long numbers i =
    let same : map (λ number. get_or e.sets number []) (drop width (first ++ second)) ≡ sets =
    ap (map (λ number. get_or e.sets number [])) (drop_front first second width long) ∙ things_of e.sets [] second sets numbers in
    subst (λ ss. HaveSameRows hit.rows (union ss)) same i.rows

-- and its terms are those of the first numbers
pub hit_terms : (e : Extended) (width : ℕ) (first second : List ℕ) (tuple : List Term) (hit : Hit) → width ≡ length first → AreNumbersOf e.numbered.terms first tuple
    → IsHitOfRow e width (first ++ second) hit → tuple ≡ hit.terms
hit_terms e width first second tuple hit long numbers i =
    let terms : AreNumbersOf e.numbered.terms first hit.terms = subst (λ ns. AreNumbersOf e.numbered.terms ns hit.terms) (take_front first second width long) i.terms in
    numbers_same tuple hit.terms (sym numbers ∙ terms)

-- what the hit of a row of a query is: its terms and sets are those of the row
pub record IsOfSets (e : Extended) (q : Cq) (hit : Hit) (tuple : List Term) (sets : List (List RowId)) : Type 0 where
  pub same : tuple ≡ hit.terms
  pub has : HasBy e.over q hit.terms sets
  pub rows : HaveSameRows hit.rows (union sets)

-- the hit of a row has the terms and the rows that the row stands for
pub hit_of : (e : Extended) (q : Cq) (row : List ℕ) (h : IsHitRow e q row) (hit : Hit) → IsHitOfRow e (length q.answer) row hit → IsOfSets e q hit h.tuple h.sets
unfolding hit_numbers
hit_of e q row h hit i =
    let n = hit_numbers e q row h in
    let j : IsHitOfRow e (length q.answer) (h.first ++ h.second) hit = subst (λ r. IsHitOfRow e (length q.answer) r hit) h.is i in
    let same = hit_terms e (length q.answer) h.first h.second h.tuple hit (sym n.long) h.numbers j in
    record {
      same = same;
      has = subst (λ ts. HasBy e.over q ts h.sets) same h.has;
      rows = hit_sets e (length q.answer) h.first h.second h.sets hit (sym n.long) h.set_numbers j;
    }

-- the hit that is made of a row: the terms of its front, and the rows of the sets behind, put in order
pub made_hit : (e : Extended) (width : ℕ) (row front back : List ℕ) (terms : List Term) (all ordered rows : List RowId) → front ≡ take width row → back ≡ drop width row → AreNumbersOf e.numbered.terms front terms
    → all ≡ union (map (λ number. get_or e.sets number []) back) → IsStrictlySortedBy row_order ordered → HaveSameRows ordered all → rows ≡ ordered → IsHitOfRow e width row (record { terms = terms; rows = rows })
made_hit e width row front back terms all ordered rows f b numbers union_is sorted same is = record {
  terms = subst (λ (ns : List ℕ). AreNumbersOf e.numbered.terms ns terms) f numbers;
  ordered = subst (IsStrictlySortedBy row_order) (sym is) sorted;
  rows = subst (λ (rs : List RowId). HaveSameRows rs (union (map (λ number. get_or e.sets number []) (drop width row)))) (sym is)
      (subst (HaveSameRows ordered) (union_is ∙ ap (λ (ns : List ℕ). union (map (λ number. get_or e.sets number []) ns)) b) same);
}
