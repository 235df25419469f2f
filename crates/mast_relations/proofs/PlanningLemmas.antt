-- Steps that are made for the patterns that are left.
use Rattle.std.proofs.Common.{◌≡◌, ℕ, suc, ◌+◌, ◌<◌, ◌≤◌, List, [], ◌∷◌, ◌++◌, length, get_or, set, take, drop, map, ◌⊎◌, inl, inr, refl, sym, ap, subst, ◌∙◌, add-one, arith}
use Rattle.std.specs.Prelude.{Some}
use Rattle.std.specs.List.{AllByRecursion, remove}
use Rattle.std.proofs.lemmas.Bool.{cases_lt}
use Rattle.std.proofs.lemmas.List.{drop_more, get_or-set_same, length-append, length-map, map-append, take-append-drop}
use Rattle.mast_terms.specs.Vocabularies.{EachOnce}
use Rattle.mast_relations.specs.declared.plan.Step.{Step}
use Rattle.mast_relations.specs.declared.planning.Split.{Split}
use Rattle.mast_relations.specs.declared.query.Conjunction.{Conjunction}
use Rattle.mast_relations.specs.declared.query.Pattern.{Pattern}
use Rattle.mast_relations.specs.Matches.{In, IsPattern, Rows, StandsIn}
use Rattle.mast_relations.specs.Plans.{AreBelow, AreSteps, IsStep, Once, bound_by, columns_of, none, picked, variables_of}
use Rattle.mast_relations.specs.Slices.{nowhere, pattern_at}
use Rattle.mast_relations.specs.Stores.{Stored, contents}
use Rattle.mast_relations.specs.inside.Indices.{IsGrown, IsIndexAt}
use Rattle.mast_relations.specs.inside.Planning.{AreGrown, AreNumbersTo, AreTaken, AreWithin, IsNextStep, IsSplit, IsTaken}
use Rattle.mast_relations.proofs.ListLemmas.{append_left, append_right, each_append, each_as, each_at_place, each_in, in_append, in_each, in_get, in_map, map_in, once_append, once_push, read_of_get, stands_at}
use Rattle.mast_relations.proofs.StoreLemmas.{grown_contents, grown_set}

-- numbers below a bound are below a higher one
pub below_more : (n m : ℕ) (numbers : List ℕ) → n ≤ m → AreBelow n numbers → AreBelow m numbers
below_more n m numbers le b = each_as (λ (k : ℕ). k < n) (λ (k : ℕ). k < m) numbers (λ k lt. omega (arith, lt, le)) b

-- with one more
pub below_push : (n : ℕ) (numbers : List ℕ) (k : ℕ) → AreBelow n numbers → k < n → AreBelow n (numbers ++ k ∷ [])
below_push n numbers k b lt = each_append (λ (i : ℕ). i < n) numbers (k ∷ []) b (lt, tt)

-- one more is picked
pub picked_push : (elements places : List ℕ) (place : ℕ) → picked elements (places ++ place ∷ []) ≡ picked elements places ++ get_or elements place 0 ∷ []
picked_push elements places place = map-append (λ (p : ℕ). get_or elements p 0) places (place ∷ [])

-- the first columns, split
pub record IsSplitTo (variables bound : List ℕ) (count : ℕ) (columns places fresh : List ℕ) : Type 0 where
  pub columns_below : AreBelow count columns
  pub places_below : AreBelow (length bound) places
  pub keys : picked variables columns ≡ picked bound places
  pub fresh_below : AreBelow count fresh
  pub all : (column : ℕ) → column < count → In column columns ⊎ In column fresh
  pub fresh_once : Once fresh
  pub unbound : AllByRecursion (λ column. In (get_or variables column 0) bound → ⊥) fresh

-- no column
pub split_first : (variables bound : List ℕ) → IsSplitTo variables bound 0 [] [] []
split_first variables bound = record {
  columns_below = tt;
  places_below = tt;
  keys = refl;
  fresh_below = tt;
  all = λ c lt. absurd (omega (arith, lt));
  fresh_once = tt;
  unbound = tt;
}

-- a column whose variable is bound
pub split_key : (variables bound : List ℕ) (count : ℕ) (columns places fresh : List ℕ) (place : ℕ) → IsSplitTo variables bound count columns places fresh → place < length bound → get_or bound place 0 ≡ get_or variables count 0
    → IsSplitTo variables bound (count + 1) (columns ++ count ∷ []) (places ++ place ∷ []) fresh
split_key variables bound count columns places fresh place s lt e = record {
  columns_below = below_push (count + 1) columns count (below_more count (count + 1) columns (omega arith) s.columns_below) (omega arith);
  places_below = below_push (length bound) places place s.places_below lt;
  keys = picked_push variables columns count ∙ ap (λ (k : List ℕ). k ++ get_or variables count 0 ∷ []) s.keys ∙ ap (λ (k : ℕ). picked bound places ++ k ∷ []) (sym e) ∙ sym (picked_push bound places place);
  fresh_below = below_more count (count + 1) fresh (omega arith) s.fresh_below;
  all = λ c less. elim (cases_lt c count) [
    | inl l ↦ elim (s.all c l) [ inl i ↦ inl (append_left c columns (count ∷ []) i) | inr i ↦ inr i ]
    | inr ge ↦ let is : c ≡ count = omega (arith, less, ge) in inl (append_right c columns (count ∷ []) (inl is))
  ];
  fresh_once = s.fresh_once;
  unbound = s.unbound;
}

-- a column whose variable is not
pub split_new : (variables bound : List ℕ) (count : ℕ) (columns places fresh : List ℕ) → IsSplitTo variables bound count columns places fresh → (In (get_or variables count 0) bound → ⊥)
    → IsSplitTo variables bound (count + 1) columns places (fresh ++ count ∷ [])
split_new variables bound count columns places fresh s out = record {
  columns_below = below_more count (count + 1) columns (omega arith) s.columns_below;
  places_below = s.places_below;
  keys = s.keys;
  fresh_below = below_push (count + 1) fresh count (below_more count (count + 1) fresh (omega arith) s.fresh_below) (omega arith);
  all = λ c less. elim (cases_lt c count) [
    | inl l ↦ elim (s.all c l) [ inl i ↦ inl i | inr i ↦ inr (append_left c fresh (count ∷ []) i) ]
    | inr ge ↦ let is : c ≡ count = omega (arith, less, ge) in inr (append_right c fresh (count ∷ []) (inl is))
  ];
  fresh_once = once_push fresh count s.fresh_once (λ i. let lt : count < count = each_in (λ (k : ℕ). k < count) count fresh s.fresh_below i in absurd (omega (arith, lt)));
  unbound = each_append (λ column. In (get_or variables column 0) bound → ⊥) fresh (count ∷ []) s.unbound (out, tt);
}

-- as they are put
pub split_put_key : (variables bound : List ℕ) (count : ℕ) (columns places fresh newcolumns newplaces : List ℕ) (place : ℕ) → IsSplitTo variables bound count columns places fresh → place < length bound → get_or bound place 0 ≡ get_or variables count 0
    → newcolumns ≡ columns ++ count ∷ [] → newplaces ≡ places ++ place ∷ [] → IsSplitTo variables bound (count + 1) newcolumns newplaces fresh
split_put_key variables bound count columns places fresh newcolumns newplaces place s lt e c p =
    subst (λ (k : List ℕ). IsSplitTo variables bound (count + 1) k newplaces fresh) (sym c)
    (subst (λ (k : List ℕ). IsSplitTo variables bound (count + 1) (columns ++ count ∷ []) k fresh) (sym p) (split_key variables bound count columns places fresh place s lt e))

-- a column whose variable is not bound yet binds it: it is the next that is new
pub split_put_new : (variables bound : List ℕ) (count : ℕ) (columns places fresh newfresh : List ℕ) → IsSplitTo variables bound count columns places fresh → (In (get_or variables count 0) bound → ⊥)
    → newfresh ≡ fresh ++ count ∷ [] → IsSplitTo variables bound (count + 1) columns places newfresh
split_put_new variables bound count columns places fresh newfresh s out f =
    subst (λ (k : List ℕ). IsSplitTo variables bound (count + 1) columns places k) (sym f) (split_new variables bound count columns places fresh s out)

-- all columns
pub split_whole : (variables bound : List ℕ) (split : Split) → IsSplitTo variables bound (length variables) split.columns.items split.places.items split.fresh.items → IsSplit variables bound split
split_whole variables bound split s = record {
  columns = s.columns_below;
  places = s.places_below;
  keys = s.keys;
  fresh = s.fresh_below;
  all = s.all;
  fresh_once = s.fresh_once;
  unbound = s.unbound;
}

picked_once : (variables fresh : List ℕ) → EachOnce variables → AreBelow (length variables) fresh → Once fresh → Once (picked variables fresh)
picked_once variables [] e b o = tt
picked_once variables (c ∷ fresh) e b o = (new, picked_once variables fresh e b.1 o.1)
  where
    new : In (get_or variables c 0) (picked variables fresh) → ⊥
    new i =
        let at = map_in (λ (p : ℕ). get_or variables p 0) (get_or variables c 0) fresh i in
        let lt : at.from < length variables = each_in (λ (k : ℕ). k < length variables) at.from fresh b.1 at.stands in
        let same : c ≡ at.from = e c at.from (get_or variables c 0) (read_of_get variables c 0 b.0) (read_of_get variables at.from 0 lt ∙ ap Some (sym at.is)) in
        o.0 (subst (λ (k : ℕ). In k fresh) (sym same) at.stands)

-- what is bound once stays so with the fresh variables
pub binds_once : (variables bound : List ℕ) (split : Split) → EachOnce variables → IsSplit variables bound split → Once bound → Once (bound ++ picked variables split.fresh.items)
binds_once variables bound split e s o =
    once_append bound (picked variables split.fresh.items) o (picked_once variables split.fresh.items e s.fresh s.fresh_once) (λ x i j.
    let at = map_in (λ (p : ℕ). get_or variables p 0) x split.fresh.items j in
    each_in (λ column. In (get_or variables column 0) bound → ⊥) at.from split.fresh.items s.unbound at.stands (subst (λ (k : ℕ). In k bound) at.is i))

-- one more step
pub steps_push : (stored : List Stored) (query : Conjunction) (first : List ℕ) (steps : List Step) (bound new : List ℕ) (step : Step) → AreSteps stored query first steps bound → step.bound.items ≡ bound → IsStep stored query step → new ≡ bound ++ bound_by query step
    → AreSteps stored query first (steps ++ step ∷ []) new
steps_push stored query first [] bound new step h e t n = (e ∙ sym h, t, ap (λ (k : List ℕ). k ++ bound_by query step) h ∙ sym n)
steps_push stored query first (other ∷ steps) bound new step h e t n =
    (h.0, h.1, steps_push stored query (first ++ bound_by query other) steps bound new step h.2 e t n)

-- all variables of a step's pattern are bound after it
variable_bound : (stored : List Stored) (query : Conjunction) (step : Step) (variable : ℕ) → IsStep stored query step → In variable (variables_of query step) → In variable (step.bound.items ++ bound_by query step)
variable_bound stored query step variable t i =
    let at = stands_at variable (variables_of query step) i in
    let is : get_or (variables_of query step) at.place 0 ≡ variable = at.is 0 in
    elim (t.all at.place at.within) [
      | inl j ↦
          let key : In (get_or (variables_of query step) at.place 0) (picked step.bound.items step.places.items) =
          subst (λ (k : List ℕ). In (get_or (variables_of query step) at.place 0) k) t.keys (in_map (λ (p : ℕ). get_or (variables_of query step) p 0) at.place (columns_of stored step) j) in
          let place = map_in (λ (p : ℕ). get_or step.bound.items p 0) (get_or (variables_of query step) at.place 0) step.places.items key in
          let lt : place.from < length step.bound.items = each_in (λ (k : ℕ). k < length step.bound.items) place.from step.places.items t.places place.stands in
          append_left variable step.bound.items (bound_by query step) (subst (λ (k : ℕ). In k step.bound.items) (sym place.is ∙ is) (in_get step.bound.items place.from 0 lt))
      | inr j ↦ append_right variable step.bound.items (bound_by query step)
          (subst (λ (k : ℕ). In k (bound_by query step)) is (in_map (λ (p : ℕ). get_or (variables_of query step) p 0) at.place step.fresh.items j))
    ]

-- what is bound stays bound
pub bound_stays : (stored : List Stored) (query : Conjunction) (bound : List ℕ) (steps : List Step) (end : List ℕ) (variable : ℕ) → AreSteps stored query bound steps end → In variable bound → In variable end
bound_stays stored query bound [] end variable h i = subst (λ (k : List ℕ). In variable k) h i
bound_stays stored query bound (step ∷ steps) end variable h i =
    bound_stays stored query (bound ++ bound_by query step) steps end variable h.2 (append_left variable bound (bound_by query step) i)

-- and the variables of the patterns of steps are
pub steps_bind : (stored : List Stored) (query : Conjunction) (bound : List ℕ) (steps : List Step) (end : List ℕ) (number variable : ℕ) → AreSteps stored query bound steps end → In number (map (λ step. step.pattern) steps)
    → In variable (pattern_at query number).variables → In variable end
steps_bind stored query bound [] end number variable h i v = absurd i
steps_bind stored query bound (step ∷ steps) end number variable h (inl e) v =
    bound_stays stored query (bound ++ bound_by query step) steps end variable h.2
    (subst (λ (k : List ℕ). In variable (k ++ bound_by query step)) h.0 (variable_bound stored query step variable h.1 (subst (λ (k : ℕ). In variable (pattern_at query k).variables) e v)))
steps_bind stored query bound (step ∷ steps) end number variable h (inr i) v =
    steps_bind stored query (bound ++ bound_by query step) steps end number variable h.2 i v

-- the number of a pattern in which a variable stands
pub record StandsAtNumber (query : Conjunction) (variable : ℕ) (patterns : List Pattern) : Type 0 where
  pub number : ℕ
  pub within : number < length patterns
  pub stands : In variable (get_or patterns number nowhere).variables

-- there is one
pub stands_number : (query : Conjunction) (variable : ℕ) (patterns : List Pattern) → StandsIn patterns variable → StandsAtNumber query variable patterns
stands_number query variable [] i = absurd i
stands_number query variable (p ∷ patterns) (inl i) = record { number = 0; within = omega arith; stands = i }
stands_number query variable (p ∷ patterns) (inr i) =
    let r = stands_number query variable patterns i in
    let lt : r.number < length patterns = r.within in
    record { number = suc r.number; within = omega arith; stands = r.stands }

-- what was there is removed, or still there
pub removed : (xs : List ℕ) (at x : ℕ) → at < length xs → In x xs → (x ≡ get_or xs at 0) ⊎ In x (remove xs at)
removed xs at x lt i =
    let more : drop at xs ≡ get_or xs at 0 ∷ drop (suc at) xs = drop_more xs at 0 lt ∙ ap (λ (k : ℕ). get_or xs at 0 ∷ drop k xs) (add-one at) in
    let split : take at xs ++ get_or xs at 0 ∷ drop (suc at) xs ≡ xs = ap (λ (k : List ℕ). take at xs ++ k) (sym more) ∙ take-append-drop at xs in
    elim (in_append x (take at xs) (get_or xs at 0 ∷ drop (suc at) xs) (subst (λ (k : List ℕ). In x k) (sym split) i)) [
      | inl j ↦ inr (append_left x (take at xs) (drop (suc at) xs) j)
      | inr j ↦ elim j [ inl e ↦ inl e | inr k ↦ inr (append_right x (take at xs) (drop (suc at) xs) k) ]
    ]

-- what is left was there
pub removed_was : (xs : List ℕ) (at x : ℕ) → In x (remove xs at) → In x xs
removed_was xs at x i = elim (in_append x (take at xs) (drop (suc at) xs) i) [
  | inl j ↦ subst (λ (k : List ℕ). In x k) (take-append-drop at xs) (append_left x (take at xs) (drop at xs) j)
  | inr j ↦ subst (λ (k : List ℕ). In x k) (take-append-drop (suc at) xs) (append_right x (take (suc at) xs) (drop (suc at) xs) j)
]

-- so it is below what all were below
pub removed_below : (n : ℕ) (xs : List ℕ) (at : ℕ) → AreBelow n xs → AreBelow n (remove xs at)
removed_below n xs at b = in_each (λ (k : ℕ). k < n) (remove xs at) (λ x i. each_in (λ (k : ℕ). k < n) x xs b (removed_was xs at x i))

-- each number below a bound, with one more
pub numbers_more : (count : ℕ) (numbers : List ℕ) → AreNumbersTo count numbers → AreNumbersTo (count + 1) (numbers ++ count ∷ [])
numbers_more count numbers a = record {
  below = below_push (count + 1) numbers count (below_more count (count + 1) numbers (omega arith) a.below) (omega arith);
  all = λ n lt. elim (cases_lt n count) [
    | inl l ↦ append_left n numbers (count ∷ []) (a.all n l)
    | inr ge ↦ append_right n numbers (count ∷ []) (inl (omega (arith, lt, ge)))
  ];
  some = λ s. omega (arith, length-append numbers (count ∷ []));
}

-- one more step takes one more pattern
pub taken_more : (old mid new : List ℕ) (steps : List Step) (step : Step) → AreTaken old steps mid → IsTaken mid step.pattern new → AreTaken old (steps ++ step ∷ []) new
taken_more old mid new steps step a b number i =
    let all : map (λ (s : Step). s.pattern) (steps ++ step ∷ []) ≡ map (λ (s : Step). s.pattern) steps ++ step.pattern ∷ [] = map-append (λ (s : Step). s.pattern) steps (step ∷ []) in
    elim (a number i) [
      | inl j ↦ inl (subst (λ (k : List ℕ). In number k) (sym all) (append_left number (map (λ (s : Step). s.pattern) steps) (step.pattern ∷ []) j))
      | inr j ↦ elim (b number j) [
        | inl e ↦ inl (subst (λ (k : List ℕ). In number k) (sym all) (append_right number (map (λ (s : Step). s.pattern) steps) (step.pattern ∷ []) (inl e)))
        | inr k ↦ inr k
      ]
    ]

-- where the steps are done, all answer variables are bound
pub done_within : (stored : List Stored) (query : Conjunction) (start : ℕ) (first left rest bound answer : List ℕ) (steps : List Step) → first ≡ (pattern_at query start).variables
    → ((number : ℕ) → number < length query.patterns → (number ≡ start) ⊎ In number left) → AreTaken left steps rest → AreSteps stored query first steps bound
    → AllByRecursion (StandsIn query.patterns) answer → (rest ≡ []) ⊎ AreWithin answer bound → AreWithin answer bound
done_within stored query start first left rest bound answer steps f numbers taken h a (inr within) = within
done_within stored query start first left rest bound answer steps f numbers taken h a (inl e) =
    in_each (λ variable. In variable bound) answer (λ variable i.
    let at = stands_number query variable query.patterns (each_in (StandsIn query.patterns) variable answer a i) in
    elim (numbers at.number at.within) [
      | inl s ↦ bound_stays stored query first steps bound variable h
          (subst (λ (k : List ℕ). In variable k) (sym f) (subst (λ (k : ℕ). In variable (pattern_at query k).variables) s at.stands))
      | inr j ↦ elim (taken at.number j) [
        | inl k ↦ steps_bind stored query first steps bound at.number variable h k at.stands
        | inr k ↦ absurd (subst (λ (xs : List ℕ). In at.number xs) e k)
      ]
    ])

-- and where nothing is left, each pattern is the first, or that of a step
pub all_taken : (start : ℕ) (count : ℕ) (left rest end : List ℕ) (joined asked : List Step) → ((number : ℕ) → number < count → (number ≡ start) ⊎ In number left) → AreTaken left joined rest → AreTaken rest asked end → end ≡ []
    → (number : ℕ) → number < count → (number ≡ start) ⊎ In number (map (λ (step : Step). step.pattern) (joined ++ asked))
all_taken start count left rest end joined asked numbers one two e number lt =
    let all : map (λ (step : Step). step.pattern) (joined ++ asked) ≡ map (λ (step : Step). step.pattern) joined ++ map (λ (step : Step). step.pattern) asked = map-append (λ (step : Step). step.pattern) joined asked in
    elim (numbers number lt) [
      | inl s ↦ inl s
      | inr i ↦ elim (one number i) [
        | inl j ↦ inr (subst (λ (k : List ℕ). In number k) (sym all) (append_left number (map (λ (step : Step). step.pattern) joined) (map (λ (step : Step). step.pattern) asked) j))
        | inr j ↦ elim (two number j) [
          | inl k ↦ inr (subst (λ (xs : List ℕ). In number xs) (sym all) (append_right number (map (λ (step : Step). step.pattern) joined) (map (λ (step : Step). step.pattern) asked) k))
          | inr k ↦ absurd (subst (λ (xs : List ℕ). In number xs) e k)
        ]
      ]
    ]

-- a step that is made of a split and the index by its columns
pub made_step : (stored : List Stored) (query : Conjunction) (step : Step) (split : Split) → step.pattern < length query.patterns → IsPattern (contents stored) (pattern_at query step.pattern)
    → step.relation ≡ (pattern_at query step.pattern).relation → IsSplit (variables_of query step) step.bound.items split → IsIndexAt (get_or stored step.relation none) split.columns.items step.index
    → step.places.items ≡ split.places.items → step.fresh.items ≡ split.fresh.items → IsStep stored query step
made_step stored query step split lt pattern relation s index p f = record {
  there = lt;
  pattern = pattern;
  relation = relation;
  index = index.there;
  columns = subst (λ (k : List ℕ). AreBelow (length (variables_of query step)) k) (sym index.is) s.columns;
  places = subst (λ (k : List ℕ). AreBelow (length step.bound.items) k) (sym p) s.places;
  keys = ap (picked (variables_of query step)) index.is ∙ s.keys ∙ ap (picked step.bound.items) (sym p);
  fresh = subst (λ (k : List ℕ). AreBelow (length (variables_of query step)) k) (sym f) s.fresh;
  all = λ column less. elim (s.all column less) [
    | inl i ↦ inl (subst (λ (k : List ℕ). In column k) (sym index.is) i)
    | inr i ↦ inr (subst (λ (k : List ℕ). In column k) (sym f) i)
  ];
}

-- A pattern of a conjunction, as it was read.
module _ (old : List Stored) (query : Conjunction) (number : ℕ) (joined : Pattern) (lt : number < length query.patterns) (is : joined ≡ pattern_at query number) (all : AllByRecursion (IsPattern (contents old)) query.patterns) where
  -- it is one
  pub joined_pattern : IsPattern (contents old) joined
  joined_pattern = subst (IsPattern (contents old)) (sym is) (each_at_place (IsPattern (contents old)) nowhere query.patterns number all lt)

  -- its relation is there
  pub joined_there : joined.relation < length old
  joined_there = let p = joined_pattern in omega (arith, p.there, length-map old (λ (r : Stored). r.rows))

  module _ (new : Stored) (grown : IsGrown (get_or old joined.relation none) new) where
    -- the relations with an index more
    pub joined_grown : AreGrown old (set old joined.relation new)
    joined_grown = grown_set old joined.relation new joined_there grown

    -- and the step by it
    pub joined_step : (step : Step) (split : Split) (variables bound after : List ℕ) → variables ≡ joined.variables → step.pattern ≡ number → step.relation ≡ joined.relation → step.bound.items ≡ bound → IsSplit variables bound split
        → IsIndexAt new split.columns.items step.index → step.places.items ≡ split.places.items → step.fresh.items ≡ split.fresh.items → after ≡ bound ++ picked variables split.fresh.items
        → IsNextStep (set old joined.relation new) query number bound after step
    joined_step step split variables bound after v n r b s index p f a =
        let own : variables ≡ (pattern_at query number).variables = v ∙ ap (λ (k : Pattern). k.variables) is in
        let here : (pattern_at query number).variables ≡ variables_of query step = ap (λ (k : ℕ). (pattern_at query k).variables) (sym n) in
        let at : get_or (set old joined.relation new) step.relation none ≡ new =
        ap (λ (k : ℕ). get_or (set old joined.relation new) k none) r ∙ get_or-set_same old joined.relation new none joined_there in
        record {
          pattern_is = n;
          bound = b;
          is_step = made_step (set old joined.relation new) query step split (subst (λ (k : ℕ). k < length query.patterns) (sym n) lt)
              (subst (λ (k : List Rows). IsPattern k (pattern_at query step.pattern)) (sym (grown_contents old (set old joined.relation new) joined_grown))
              (subst (λ (k : ℕ). IsPattern (contents old) (pattern_at query k)) (sym n) (subst (IsPattern (contents old)) is joined_pattern)))
              (r ∙ ap (λ (k : Pattern). k.relation) (is ∙ ap (pattern_at query) (sym n)))
              (subst (λ (k : List ℕ). IsSplit k step.bound.items split) (own ∙ here) (subst (λ (k : List ℕ). IsSplit variables k split) (sym b) s))
              (subst (λ (k : Stored). IsIndexAt k split.columns.items step.index) (sym at) index) p f;
          binds = a ∙ ap (λ (k : List ℕ). bound ++ picked k split.fresh.items) (own ∙ here) ∙ ap (λ (k : List ℕ). bound ++ picked (variables_of query step) k) (sym f);
          once = λ o. subst Once (sym a) (binds_once variables bound split (subst (λ (k : List ℕ). EachOnce k) (sym v) different) s o);
        }
      where
        different : EachOnce joined.variables
        different = let p = joined_pattern in p.different

-- a number that was taken
pub taken_at : (left new : List ℕ) (at number : ℕ) → at < length left → number ≡ get_or left at 0 → new ≡ remove left at → IsTaken left number new
taken_at left new at number lt e r other i = elim (removed left at other lt i) [
  | inl h ↦ inl (h ∙ sym e)
  | inr j ↦ inr (subst (λ (k : List ℕ). In other k) (sym r) j)
]
