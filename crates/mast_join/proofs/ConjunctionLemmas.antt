-- What a query is made into is a conjunction over the relations, with an answer as wide as is wanted.
use Rattle.std.proofs.Common.{◌≡◌, ℕ, suc, ◌+◌, ◌<◌, ◌≤◌, ◌⊎◌, List, [], ◌∷◌, ◌++◌, length, inl, inr, refl, sym, ap, subst, ◌∙◌, arith}
use Rattle.std.specs.Prelude.{Some, slice_get}
use Rattle.std.specs.List.{AllByRecursion}
use Rattle.std.proofs.lemmas.List.{length-append}
use Rattle.std.proofs.lemmas.Option.{same_Some, slice_get_within}
use Rattle.mast_terms.specs.Vocabularies.{EachOnce}
use Rattle.mast_cq.specs.declared.atom.Arg.{Arg}
use Rattle.mast_cq.specs.declared.atom.Arg.TheVariants.{Blank, Var, Constant}
use Rattle.mast_cq.specs.declared.atom.Atom.{Atom}
use Rattle.mast_cq.specs.declared.query.Cq.{Cq}
use Rattle.mast_relations.specs.declared.query.Pattern.{Pattern}
use Rattle.mast_relations.specs.declared.query.Conjunction.{Conjunction}
use Rattle.mast_relations.specs.Matches.{In, IsConjunction, IsPattern, Rows, StandsIn, relation_of}
use Rattle.mast_relations.specs.Plans.{Once}
use Rattle.mast_relations.specs.Stores.{contents}
use Rattle.mast_relations.proofs.ListLemmas.{append_left, append_right, each_append, each_as, each_once, once_push}
use Rattle.mast_join.specs.declared.extensions.Wanted.{Wanted}
use Rattle.mast_join.specs.declared.extensions.Wanted.TheVariants.{Tuples, SomeHits, AllHits}
use Rattle.mast_join.specs.Answers.{AreNumbersOf, Extended, IsAnswerArg, IsAsked, OccursIn, row_width}
use Rattle.mast_join.specs.inside.Relates.{AreAnswerPlaces, AreAtomPatterns, AreConstantPatterns, IsAtomPattern, IsConjunctionOf, IsConstantPattern, IsUnitPattern, counted, counted_sets, one_row, set_column, set_columns}
use Rattle.mast_join.specs.inside.Shapes.{variables}
use Rattle.mast_join.proofs.NumberedLemmas.{each_numbers, numbers_each, numbers_long}
use Rattle.mast_join.proofs.PlacesLemmas.{counted_long}
use Rattle.mast_join.proofs.ShapeLemmas.{occurs_in, variables_once}

-- Numbers of things in a list.
module _ {X : Type 0} (all : List X) where
  -- the thing of a number
  record HasThing (number : ℕ) (things : List X) : Type 0 where
    thing : X
    stands : In thing things
    is : slice_get all number ≡ Some thing

  has_thing : (number : ℕ) (numbers : List ℕ) (things : List X) → AreNumbersOf all numbers things → In number numbers → HasThing number things
  has_thing number [] things h i = absurd i
  has_thing number (n ∷ ns) [] h i = cc
  has_thing number (n ∷ ns) (x ∷ xs) h (inl e) = record { thing = x; stands = inl refl; is = subst (λ (k : ℕ). slice_get all k ≡ Some x) (sym e) (numbers_each all (n ∷ ns) (x ∷ xs) h).0 }
  has_thing number (n ∷ ns) (x ∷ xs) h (inr i) =
      let t = has_thing number ns xs (each_numbers all ns xs (numbers_each all (n ∷ ns) (x ∷ xs) h).1) i in
      record { thing = t.thing; stands = inr t.stands; is = t.is }

  -- the number of a thing
  record HasNumber (thing : X) (numbers : List ℕ) : Type 0 where
    number : ℕ
    stands : In number numbers
    is : slice_get all number ≡ Some thing

  has_number : (thing : X) (numbers : List ℕ) (things : List X) → AreNumbersOf all numbers things → In thing things → HasNumber thing numbers
  has_number thing numbers [] h i = absurd i
  has_number thing [] (x ∷ xs) h i = cc
  has_number thing (n ∷ ns) (x ∷ xs) h (inl e) = record { number = n; stands = inl refl; is = subst (λ (k : X). slice_get all n ≡ Some k) (sym e) (numbers_each all (n ∷ ns) (x ∷ xs) h).0 }
  has_number thing (n ∷ ns) (x ∷ xs) h (inr i) =
      let t = has_number thing ns xs (each_numbers all ns xs (numbers_each all (n ∷ ns) (x ∷ xs) h).1) i in
      record { number = t.number; stands = inr t.stands; is = t.is }

  -- numbers of different things are different
  numbers_once : (numbers : List ℕ) (things : List X) → AreNumbersOf all numbers things → Once things → Once numbers
  numbers_once [] things h o = tt
  numbers_once (n ∷ ns) [] h o = cc
  numbers_once (n ∷ ns) (x ∷ xs) h o =
      let z = numbers_each all (n ∷ ns) (x ∷ xs) h in
      let rest : AreNumbersOf all ns xs = each_numbers all ns xs z.1 in (
        λ i. let t = has_thing n ns xs rest i in o.0 (subst (λ (k : X). In k xs) (same_Some t.thing x (sym t.is ∙ z.0)) t.stands),
        numbers_once ns xs rest o.1,
      )

column_long : (w : Wanted) (set : ℕ) → length (set_column w set) ≡ set_columns w
column_long Tuples set = refl
column_long SomeHits set = refl
column_long AllHits set = refl

with_column : (w : Wanted) (set : ℕ) (front : List ℕ) → Once front → (In set front → ⊥) → Once (front ++ set_column w set)
with_column Tuples set front o new = subst (λ (k : List ℕ). Once k) (sym (append_nil front)) o
  where
    append_nil : (xs : List ℕ) → xs ++ [] ≡ xs
    append_nil [] = refl
    append_nil (x ∷ xs) = ap (λ (k : List ℕ). x ∷ k) (append_nil xs)
with_column SomeHits set front o new = once_push front set o new
with_column AllHits set front o new = once_push front set o new

stands_left : (xs ys : List Pattern) (v : ℕ) → StandsIn xs v → StandsIn (xs ++ ys) v
stands_left [] ys v s = absurd s
stands_left (x ∷ xs) ys v (inl i) = inl i
stands_left (x ∷ xs) ys v (inr s) = inr (stands_left xs ys v s)

stands_right : (xs ys : List Pattern) (v : ℕ) → StandsIn ys v → StandsIn (xs ++ ys) v
stands_right [] ys v s = s
stands_right (x ∷ xs) ys v s = inr (stands_right xs ys v s)

module _ (e : Extended) (vars : List ℕ) (once : EachOnce vars) where
  -- the pattern of an atom is one
  atom_pattern : (set : ℕ) (g : Atom) (pattern : Pattern) → length vars ≤ set → IsAtomPattern e vars set g pattern → IsPattern (contents e.relations) pattern
  atom_pattern set g pattern le h = record {
    there = h.there;
    wide = ap length h.columns ∙ length-append h.front (set_column e.wanted set) ∙ ap (λ (n : ℕ). n + length (set_column e.wanted set)) (numbers_long vars h.front (variables g) h.places)
        ∙ ap (λ (n : ℕ). length (variables g) + n) (column_long e.wanted set) ∙ sym h.tells.wide;
    different = subst (λ (k : List ℕ). EachOnce k) (sym h.columns)
        (each_once (h.front ++ set_column e.wanted set) (with_column e.wanted set h.front (numbers_once vars h.front (variables g) h.places (variables_once g)) new));
  }
    where
      new : In set h.front → ⊥
      new i =
          let t = has_thing vars set h.front (variables g) h.places i in
          let lt : set < length vars = slice_get_within vars set t.thing t.is in
          omega (arith, lt, le)

  atom_patterns : (set : ℕ) (gs : List Atom) (patterns : List Pattern) → length vars ≤ set → AreAtomPatterns e vars set gs patterns → AllByRecursion (IsPattern (contents e.relations)) patterns
  atom_patterns set [] [] le h = tt
  atom_patterns set [] (p ∷ patterns) le h = absurd h
  atom_patterns set (g ∷ gs) [] le h = absurd h
  atom_patterns set (g ∷ gs) (p ∷ patterns) le h = (atom_pattern set g p le h.0, atom_patterns (suc set) gs patterns (omega (arith, le)) h.1)

  row_pattern : (pattern : Pattern) (row : List ℕ) → pattern.relation < length (contents e.relations) → relation_of (contents e.relations) pattern ≡ one_row row → length pattern.variables ≡ length row → EachOnce pattern.variables
      → IsPattern (contents e.relations) pattern
  row_pattern pattern row there is long different = record { there = there; wide = long ∙ sym (ap (λ (r : Rows). r.width) is); different = different }

  constant_pattern : (variable c : ℕ) (pattern : Pattern) → IsConstantPattern e variable c pattern → IsPattern (contents e.relations) pattern
  constant_pattern variable c pattern h =
      row_pattern pattern (h.number ∷ []) h.there h.is (ap length h.columns) (subst (λ (k : List ℕ). EachOnce k) (sym h.columns) (each_once (variable ∷ []) ((λ i. i), tt)))

  constant_patterns : (variable : ℕ) (args : List Arg) (patterns : List Pattern) → AreConstantPatterns e variable args patterns → AllByRecursion (IsPattern (contents e.relations)) patterns
  constant_patterns variable [] [] h = tt
  constant_patterns variable [] (p ∷ patterns) h = absurd h
  constant_patterns variable (Blank ∷ args) patterns h = constant_patterns (suc variable) args patterns h
  constant_patterns variable (Var x ∷ args) patterns h = constant_patterns (suc variable) args patterns h
  constant_patterns variable (Constant c ∷ args) [] h = absurd h
  constant_patterns variable (Constant c ∷ args) (p ∷ patterns) h = (constant_pattern variable c p h.0, constant_patterns (suc variable) args patterns h.1)

  unit_pattern : (pattern : Pattern) → IsUnitPattern e pattern → IsPattern (contents e.relations) pattern
  unit_pattern pattern h = row_pattern pattern [] h.there h.is (ap length h.columns) (subst (λ (k : List ℕ). EachOnce k) (sym h.columns) (each_once {X = ℕ} [] tt))

  -- the place of a variable of an atom stands in its pattern
  place_stands : (set : ℕ) (gs : List Atom) (patterns : List Pattern) (x place : ℕ) → AreAtomPatterns e vars set gs patterns → OccursIn x gs → slice_get vars place ≡ Some x → StandsIn patterns place
  place_stands set [] patterns x place h o r = absurd o
  place_stands set (g ∷ gs) [] x place h o r = absurd h
  place_stands set (g ∷ gs) (p ∷ patterns) x place h (inl o) r =
      let a = h.0 in
      let n = has_number vars x a.front (variables g) a.places (occurs_in g x o) in
      let same : n.number ≡ place = once n.number place x n.is r in
      inl (subst (λ (k : List ℕ). In place k) (sym a.columns) (append_left place a.front (set_column e.wanted set) (subst (λ (k : ℕ). In k a.front) same n.stands)))
  place_stands set (g ∷ gs) (p ∷ patterns) x place h (inr o) r = inr (place_stands (suc set) gs patterns x place h.1 o r)

  -- the variable of a set stands in the pattern of its atom
  set_stands : (set : ℕ) (gs : List Atom) (patterns : List Pattern) → ((n : ℕ) → In n (set_column e.wanted n)) → AreAtomPatterns e vars set gs patterns → AllByRecursion (StandsIn patterns) (counted set (length gs))
  set_stands set [] patterns wants h = tt
  set_stands set (g ∷ gs) [] wants h = absurd h
  set_stands set (g ∷ gs) (p ∷ patterns) wants h = (
    inl (subst (λ (k : List ℕ). In set k) (sym h.0.columns) (append_right set h.0.front (set_column e.wanted set) (wants set))),
    each_as (StandsIn patterns) (StandsIn (p ∷ patterns)) (counted (suc set) (length gs)) (λ n s. inr s) (set_stands (suc set) gs patterns wants h.1),
  )

  sets_stand : (w : Wanted) → e.wanted ≡ w → (set : ℕ) (gs : List Atom) (patterns : List Pattern) → AreAtomPatterns e vars set gs patterns → AllByRecursion (StandsIn patterns) (counted_sets w set (length gs))
  sets_stand Tuples is set gs patterns h = tt
  sets_stand SomeHits is set gs patterns h = set_stands set gs patterns (λ n. subst (λ (w : Wanted). In n (set_column w n)) (sym is) (inl refl)) h
  sets_stand AllHits is set gs patterns h = set_stands set gs patterns (λ n. subst (λ (w : Wanted). In n (set_column w n)) (sym is) (inl refl)) h

  -- the places of the answer list stand in patterns
  module _ (constants : ℕ) (set : ℕ) (gs : List Atom) (for_atoms others : List Pattern) (atoms : AreAtomPatterns e vars set gs for_atoms) where
    answer_stands : (variable : ℕ) (args : List Arg) (places : List ℕ) (patterns : List Pattern) → AllByRecursion (IsAnswerArg constants gs) args → AreConstantPatterns e variable args patterns
        → AreAnswerPlaces vars variable args places → AllByRecursion (λ place. StandsIn for_atoms place ⊎ StandsIn patterns place) places
    answer_stands variable [] [] patterns i c a = tt
    answer_stands variable [] (place ∷ places) patterns i c a = absurd a
    answer_stands variable (arg ∷ args) [] patterns i c a = absurd a
    answer_stands variable (Blank ∷ args) (place ∷ places) patterns i c a = absurd i.0
    answer_stands variable (Var x ∷ args) (place ∷ places) patterns i c a = (inl (place_stands set gs for_atoms x place atoms i.0 a.0), answer_stands (suc variable) args places patterns i.1 c a.1)
    answer_stands variable (Constant d ∷ args) (place ∷ places) [] i c a = absurd c
    answer_stands variable (Constant d ∷ args) (place ∷ places) (p ∷ patterns) i c a = (
      inr (inl (subst (λ (k : List ℕ). In place k) (sym c.0.columns) (inl a.0))),
      each_as (λ n. StandsIn for_atoms n ⊎ StandsIn patterns n) (λ n. StandsIn for_atoms n ⊎ StandsIn (p ∷ patterns) n) places
          (λ n s. elim s [ inl l ↦ inl l | inr r ↦ inr (inr r) ]) (answer_stands (suc variable) args places patterns i.1 c.1 a.1),
    )

places_long : (vars : List ℕ) (variable : ℕ) (args : List Arg) (places : List ℕ) → AreAnswerPlaces vars variable args places → length places ≡ length args
places_long vars variable [] [] a = refl
places_long vars variable [] (place ∷ places) a = absurd a
places_long vars variable (arg ∷ args) [] a = absurd a
places_long vars variable (arg ∷ args) (place ∷ places) a = let l : length places ≡ length args = places_long vars (suc variable) args places a.1 in omega (arith, l)

sets_long : (w : Wanted) (q : Cq) (from places : ℕ) → places ≡ length q.answer → places + length (counted_sets w from (length q.atoms)) ≡ row_width w q
sets_long Tuples q from places l = omega (arith, l)
sets_long SomeHits q from places l = let c = counted_long from (length q.atoms) in omega (arith, l, c)
sets_long AllHits q from places l = let c = counted_long from (length q.atoms) in omega (arith, l, c)

module _ (e : Extended) (q : Cq) (conjunction : Conjunction) (is : IsConjunctionOf e q conjunction) where
  -- the answer is as wide as is wanted
  pub answer_wide : length conjunction.answer ≡ row_width e.wanted q
  answer_wide =
      ap length is.answer ∙ length-append is.places (counted_sets e.wanted (length is.vars) (length q.atoms))
      ∙ sets_long e.wanted q (length is.vars) (length is.places) (places_long is.vars (length is.vars + length q.atoms) q.answer is.places is.are)

  -- the patterns of the conjunction
  abbrev made : List Pattern
  made = is.for_atoms ++ is.for_constants ++ is.others

  of_place : (place : ℕ) → StandsIn is.for_atoms place ⊎ StandsIn is.for_constants place → StandsIn made place
  of_place place (inl s) = stands_left (is.for_atoms ++ is.for_constants) is.others place (stands_left is.for_atoms is.for_constants place s)
  of_place place (inr s) = stands_left (is.for_atoms ++ is.for_constants) is.others place (stands_right is.for_atoms is.for_constants place s)

  of_sets : AllByRecursion (StandsIn made) (counted_sets e.wanted (length is.vars) (length q.atoms))
  of_sets =
      each_as (StandsIn is.for_atoms) (StandsIn made) (counted_sets e.wanted (length is.vars) (length q.atoms)) (λ n s. of_place n (inl s))
      (sets_stand e is.vars is.once e.wanted refl (length is.vars) q.atoms is.for_atoms is.atoms)

  -- a query that is in range is made into a conjunction
  pub is_conjunction : (constants : ℕ) → IsAsked constants q → IsConjunction (contents e.relations) conjunction
  is_conjunction constants asked = record {
    some = is.some;
    patterns = subst (λ (k : List Pattern). AllByRecursion (IsPattern (contents e.relations)) k) (sym is.patterns)
        (each_append (IsPattern (contents e.relations)) (is.for_atoms ++ is.for_constants) is.others
        (each_append (IsPattern (contents e.relations)) is.for_atoms is.for_constants
        (atom_patterns e is.vars is.once (length is.vars) q.atoms is.for_atoms (omega arith) is.atoms)
        (constant_patterns e is.vars is.once (length is.vars + length q.atoms) q.answer is.for_constants is.constants))
        (each_as (IsUnitPattern e) (IsPattern (contents e.relations)) is.others (unit_pattern e is.vars is.once) is.units));
    answered = subst (λ (k : List ℕ). AllByRecursion (StandsIn conjunction.patterns) k) (sym is.answer)
        (subst (λ (k : List Pattern). AllByRecursion (StandsIn k) (is.places ++ counted_sets e.wanted (length is.vars) (length q.atoms))) (sym is.patterns)
        (each_append (StandsIn made) is.places (counted_sets e.wanted (length is.vars) (length q.atoms)) of_tuple of_sets));
  }
    where
      of_tuple : AllByRecursion (StandsIn made) is.places
      of_tuple =
          each_as (λ n. StandsIn is.for_atoms n ⊎ StandsIn is.for_constants n) (StandsIn made) is.places of_place
          (answer_stands e is.vars is.once constants (length is.vars) q.atoms is.for_atoms is.others is.atoms (length is.vars + length q.atoms) q.answer is.places is.for_constants asked.answer is.constants is.are)
