-- Each tuple of a query has a row that the join of its conjunction gives, and each of its hits one with its tuple and rows among its own.
use Rattle.std.proofs.Common.{◌≡◌, ℕ, suc, ◌+◌, List, [], ◌∷◌, ◌++◌, length, map, inl, inr, refl, sym, ap, subst, ◌∙◌, arith}
use Rattle.std.specs.Prelude.{Some, slice_get}
use Rattle.std.specs.List.{AllByRecursion, AllZip}
use Rattle.std.proofs.lemmas.List.{length-map, map-append}
use Rattle.mast_terms.specs.Vocabularies.{EachOnce}
use Rattle.mast_terms.specs.declared.term.Term.{Term}
use Rattle.mast_cq.specs.declared.atom.Arg.{Arg}
use Rattle.mast_cq.specs.declared.atom.Arg.TheVariants.{Blank, Var, Constant}
use Rattle.mast_cq.specs.declared.atom.Atom.{Atom}
use Rattle.mast_cq.specs.declared.query.Cq.{Cq}
use Rattle.mast_cq.specs.Meanings.{Gives}
use Rattle.mast_cq.specs.Queries.{In as Among}
use Rattle.mast_canon.specs.declared.rows.RowId.{RowId}
use Rattle.mast_relations.specs.declared.query.Pattern.{Pattern}
use Rattle.mast_relations.specs.declared.query.Conjunction.{Conjunction}
use Rattle.mast_relations.specs.Matches.{In, IsAnswer, IsMatch, Rows, relation_of}
use Rattle.mast_relations.specs.Stores.{contents}
use Rattle.mast_relations.proofs.ListLemmas.{each_append, each_as, each_in}
use Rattle.mast_join.specs.declared.extensions.Wanted.{Wanted}
use Rattle.mast_join.specs.declared.extensions.Wanted.TheVariants.{Tuples, SomeHits, AllHits}
use Rattle.mast_join.specs.Answers.{AreNumbersOf, AreWithin, Extended, IsAnswerArg, IsAsked, IsFound, IsHitFound, OccursIn}
use Rattle.mast_join.specs.Extensions.{HasBy, HasOver, IsMatchOf, IsPairOf, constant_over, union}
use Rattle.mast_join.specs.inside.Relates.{AreAnswerPlaces, AreAtomPatterns, AreConstantPatterns, IsAtomPattern, IsConjunctionOf, IsConstantPattern, IsMatchFound, IsPairFound, IsUnitPattern, TellsAllPairs, TellsMatches, TellsPairs, TellsSomePairs, counted, counted_sets, set_column}
use Rattle.mast_join.specs.inside.Shapes.{variables}
use Rattle.mast_join.proofs.NumberedLemmas.{IsNumberOf, each_numbers, numbers_one}
use Rattle.mast_join.proofs.PlacesLemmas.{Reads, reads_counted}
use Rattle.mast_join.proofs.RightLemmas.{HasSets, append_none, column_is, counted_is}
use Rattle.mast_join.proofs.SaidLemmas.{AreSaid, HaveNumbers, IsSaid, chosen, chosen_front, chosen_of, chosen_seconds, chosen_thirds, said_numbers, saying}
use Rattle.mast_join.proofs.ShapeLemmas.{occurs_in}

-- rows are among themselves, and more
among_left : (row : RowId) (xs ys : List RowId) → Among row xs → Among row (xs ++ ys)
among_left row [] ys i = absurd i
among_left row (x ∷ xs) ys (inl e) = inl e
among_left row (x ∷ xs) ys (inr i) = inr (among_left row xs ys i)

among_right : (row : RowId) (xs ys : List RowId) → Among row ys → Among row (xs ++ ys)
among_right row [] ys i = i
among_right row (x ∷ xs) ys i = inr (among_right row xs ys i)

within_itself : (rows : List RowId) → AreWithin rows rows
within_itself [] = tt
within_itself (x ∷ xs) = (inl refl, each_as (λ row. Among row xs) (λ row. Among row (x ∷ xs)) xs (λ row i. inr i) (within_itself xs))

within_both : (xs ys zs ws : List RowId) → AreWithin xs zs → AreWithin ys ws → AreWithin (xs ++ ys) (zs ++ ws)
within_both xs ys zs ws h k =
    each_append (λ row. Among row (zs ++ ws)) xs ys
    (each_as (λ row. Among row zs) (λ row. Among row (zs ++ ws)) xs (λ row i. among_left row zs ws i) h)
    (each_as (λ row. Among row ws) (λ row. Among row (zs ++ ws)) ys (λ row i. among_right row zs ws i) k)

-- By the query's assignment.
module _ (e : Extended) (vars : List ℕ) (under : ℕ → Term) where
  -- the rows of the relation of a pattern
  abbrev pub rows_of : Pattern → List (List ℕ)
  rows_of p = (relation_of (contents e.relations) p).list

  -- each atom's match is found in its relation
  abbrev pub MatchesFound : List Atom → List Pattern → Type 0
  MatchesFound [] [] = Unit {0}
  MatchesFound [] (p ∷ ps) = ⊥
  MatchesFound (g ∷ gs) [] = ⊥
  MatchesFound (g ∷ gs) (p ∷ ps) = IsMatchFound e g under (λ row. In row (rows_of p)) × MatchesFound gs ps

  -- each atom has a pair in its relation, whose rows are among these
  abbrev pub PairsFound : List Atom → List Pattern → List (List RowId) → Type 0
  PairsFound [] [] [] = Unit {0}
  PairsFound [] [] (bound ∷ bounds) = ⊥
  PairsFound [] (p ∷ ps) bounds = ⊥
  PairsFound (g ∷ gs) [] bounds = ⊥
  PairsFound (g ∷ gs) (p ∷ ps) [] = ⊥
  PairsFound (g ∷ gs) (p ∷ ps) (bound ∷ bounds) = IsPairFound e g under (λ row. In row (rows_of p)) (λ least. AreWithin least bound) × PairsFound gs ps bounds

  matches_found : e.wanted ≡ Tuples → (set : ℕ) (gs : List Atom) (ps : List Pattern) → AreAtomPatterns e vars set gs ps → AllByRecursion (IsMatchOf e.over under) gs → MatchesFound gs ps
  matches_found is set [] [] h m = tt
  matches_found is set [] (p ∷ ps) h m = absurd h
  matches_found is set (g ∷ gs) [] h m = absurd h
  matches_found is set (g ∷ gs) (p ∷ ps) h m =
      let t : TellsMatches e g (λ row. In row (rows_of p)) = subst (λ (w : Wanted). TellsPairs w e g (λ row. In row (rows_of p))) is h.0.tells.tells in
      (t.all under m.0, matches_found is (suc set) gs ps h.1 m.1)

  record SomeFound (gs : List Atom) (ps : List Pattern) : Type 0 where
    bounds : List (List RowId)
    found : PairsFound gs ps bounds

  some_found : e.wanted ≡ SomeHits → (set : ℕ) (gs : List Atom) (ps : List Pattern) → AreAtomPatterns e vars set gs ps → AllByRecursion (IsMatchOf e.over under) gs → SomeFound gs ps
  some_found is set [] [] h m = record { bounds = []; found = tt }
  some_found is set [] (p ∷ ps) h m = absurd h
  some_found is set (g ∷ gs) [] h m = absurd h
  some_found is set (g ∷ gs) (p ∷ ps) h m =
      let t : TellsSomePairs e g (λ row. In row (rows_of p)) = subst (λ (w : Wanted). TellsPairs w e g (λ row. In row (rows_of p))) is h.0.tells.tells in
      let f = t.all under m.0 in
      let r = some_found is (suc set) gs ps h.1 m.1 in
      record {
        bounds = f.rows ∷ r.bounds;
        found = (record { front = f.front; set = f.set; numbers = f.numbers; rows = f.rows; stands = f.stands; found = f.found; has = within_itself f.rows }, r.found);
      }

  all_found : e.wanted ≡ AllHits → (set : ℕ) (gs : List Atom) (ps : List Pattern) (sets : List (List RowId)) → AreAtomPatterns e vars set gs ps → AllZip (IsPairOf e.over under) gs sets → PairsFound gs ps sets
  all_found is set [] [] [] h m = tt
  all_found is set [] [] (x ∷ sets) h m = absurd m
  all_found is set [] (p ∷ ps) sets h m = absurd h
  all_found is set (g ∷ gs) [] sets h m = absurd h
  all_found is set (g ∷ gs) (p ∷ ps) [] h m = absurd m
  all_found is set (g ∷ gs) (p ∷ ps) (rows ∷ sets) h m =
      let t : TellsAllPairs e g (λ row. In row (rows_of p)) = subst (λ (w : Wanted). TellsPairs w e g (λ row. In row (rows_of p))) is h.0.tells.tells in
      (t.all under rows m.0, all_found is (suc set) gs ps sets h.1 m.1)

  -- the terms of the variables have numbers there
  matches_numbers : (gs : List Atom) (ps : List Pattern) → MatchesFound gs ps → AllByRecursion (HaveNumbers e.numbered.terms under) gs
  matches_numbers [] ps m = tt
  matches_numbers (g ∷ gs) [] m = absurd m
  matches_numbers (g ∷ gs) (p ∷ ps) m = (record { row = m.0.row; numbers = m.0.numbers }, matches_numbers gs ps m.1)

  pairs_numbers : (gs : List Atom) (ps : List Pattern) (bounds : List (List RowId)) → PairsFound gs ps bounds → AllByRecursion (HaveNumbers e.numbered.terms under) gs
  pairs_numbers [] ps bounds m = tt
  pairs_numbers (g ∷ gs) [] bounds m = absurd m
  pairs_numbers (g ∷ gs) (p ∷ ps) [] m = absurd m
  pairs_numbers (g ∷ gs) (p ∷ ps) (bound ∷ bounds) m = (record { row = m.0.front; numbers = m.0.numbers }, pairs_numbers gs ps bounds m.1)

  -- the sets of the pairs that are found, by number
  record Sets (gs : List Atom) (ps : List Pattern) (bounds : List (List RowId)) : Type 0 where
    seconds : List ℕ
    sets : List (List RowId)
    long : length seconds ≡ length gs
    numbers : AllZip (IsNumberOf e.sets) seconds sets
    within : AreWithin (union sets) (union bounds)

  abbrev sets_of : (gs : List Atom) (ps : List Pattern) (bounds : List (List RowId)) → PairsFound gs ps bounds → Sets gs ps bounds
  sets_of [] [] [] m = record { seconds = []; sets = []; long = refl; numbers = tt; within = tt }
  sets_of [] [] (bound ∷ bounds) m = absurd m
  sets_of [] (p ∷ ps) bounds m = absurd m
  sets_of (g ∷ gs) [] bounds m = absurd m
  sets_of (g ∷ gs) (p ∷ ps) [] m = absurd m
  sets_of (g ∷ gs) (p ∷ ps) (bound ∷ bounds) m =
      let r = sets_of gs ps bounds m.1 in
      let l : length r.seconds ≡ length gs = r.long in
      record {
        seconds = m.0.set ∷ r.seconds;
        sets = m.0.rows ∷ r.sets;
        long = omega (arith, l);
        numbers = (m.0.stands, r.numbers);
        within = within_both m.0.rows (union r.sets) bound (union bounds) m.0.has r.within;
      }

  -- the numbers of the constants
  abbrev thirds_of : (variable : ℕ) (args : List Arg) (ps : List Pattern) → AreConstantPatterns e variable args ps → List ℕ
  thirds_of variable [] ps h = []
  thirds_of variable (Blank ∷ args) ps h = 0 ∷ thirds_of (suc variable) args ps h
  thirds_of variable (Var x ∷ args) ps h = 0 ∷ thirds_of (suc variable) args ps h
  thirds_of variable (Constant c ∷ args) [] h = absurd h
  thirds_of variable (Constant c ∷ args) (p ∷ ps) h = h.0.number ∷ thirds_of (suc variable) args ps h.1

  -- By the numbers that the variables of the conjunction are given.
  module _ (one : EachOnce e.numbered.terms) (f : ℕ → ℕ) (seconds thirds : List ℕ) where
    abbrev a : ℕ → ℕ
    a = chosen vars f seconds thirds

    atom_in : e.wanted ≡ Tuples → (set : ℕ) (g : Atom) (p : Pattern) → IsAtomPattern e vars set g p → AllByRecursion (IsSaid e.numbered.terms under f) (variables g)
        → IsMatchFound e g under (λ row. In row (rows_of p)) → In (map a p.variables) (rows_of p)
    atom_in is set g p h s m =
        let c : p.variables ≡ h.front = h.columns ∙ ap (λ (w : Wanted). h.front ++ set_column w set) is ∙ append_none h.front in
        let r : m.row ≡ map f (variables g) = numbers_one e.numbered.terms one m.row (map f (variables g)) (map under (variables g)) m.numbers (said_numbers e.numbered.terms under f (variables g) s) in
        subst (λ (k : List ℕ). In k (rows_of p)) (r ∙ sym (chosen_front vars f seconds thirds h.front (variables g) h.places) ∙ ap (map a) (sym c)) m.found

    atoms_in : e.wanted ≡ Tuples → (set : ℕ) (gs : List Atom) (ps : List Pattern) → AreAtomPatterns e vars set gs ps → AreSaid e.numbered.terms under f gs → MatchesFound gs ps → IsMatch (contents e.relations) ps a
    atoms_in is set [] [] h s m = tt
    atoms_in is set [] (p ∷ ps) h s m = absurd h
    atoms_in is set (g ∷ gs) [] h s m = absurd h
    atoms_in is set (g ∷ gs) (p ∷ ps) h s m = (atom_in is set g p h.0 s.0 m.0, atoms_in is (suc set) gs ps h.1 s.1 m.1)

    pair_in : HasSets e.wanted → (set : ℕ) (g : Atom) (p : Pattern) (bound : List RowId) → IsAtomPattern e vars set g p → AllByRecursion (IsSaid e.numbered.terms under f) (variables g)
        → (m : IsPairFound e g under (λ row. In row (rows_of p)) (λ least. AreWithin least bound)) → a set ≡ m.set → In (map a p.variables) (rows_of p)
    pair_in has set g p bound h s m is =
        let c : map a p.variables ≡ map a h.front ++ a set ∷ [] =
        ap (map a) (h.columns ∙ ap (λ (k : List ℕ). h.front ++ k) (column_is e.wanted has set)) ∙ map-append a h.front (set ∷ []) in
        let r : m.front ≡ map f (variables g) = numbers_one e.numbered.terms one m.front (map f (variables g)) (map under (variables g)) m.numbers (said_numbers e.numbered.terms under f (variables g) s) in
        let w : m.front ++ m.set ∷ [] ≡ map a h.front ++ a set ∷ [] =
        ap (λ (k : List ℕ). k ++ m.set ∷ []) (r ∙ sym (chosen_front vars f seconds thirds h.front (variables g) h.places)) ∙ ap (λ (n : ℕ). map a h.front ++ n ∷ []) (sym is) in
        subst (λ (k : List ℕ). In k (rows_of p)) (w ∙ sym c) m.found

    pairs_in : HasSets e.wanted → (set : ℕ) (gs : List Atom) (ps : List Pattern) (bounds : List (List RowId)) → AreAtomPatterns e vars set gs ps → AreSaid e.numbered.terms under f gs → (m : PairsFound gs ps bounds)
        → Reads a set (Sets.seconds (sets_of gs ps bounds m)) → IsMatch (contents e.relations) ps a
    pairs_in has set [] [] [] h s m r = tt
    pairs_in has set [] [] (bound ∷ bounds) h s m r = absurd m
    pairs_in has set [] (p ∷ ps) bounds h s m r = absurd h
    pairs_in has set (g ∷ gs) [] bounds h s m r = absurd h
    pairs_in has set (g ∷ gs) (p ∷ ps) [] h s m r = absurd m
    pairs_in has set (g ∷ gs) (p ∷ ps) (bound ∷ bounds) h s m r = (pair_in has set g p bound h.0 s.0 m.0 r.0, pairs_in has (suc set) gs ps bounds h.1 s.1 m.1 r.1)

    constant_in : (variable c : ℕ) (p : Pattern) → (h : IsConstantPattern e variable c p) → a variable ≡ h.number → In (map a p.variables) (rows_of p)
    constant_in variable c p h is =
        let i : In (map a (variable ∷ [])) ((h.number ∷ []) ∷ []) = inl (ap (λ (n : ℕ). n ∷ []) is) in
        subst (λ (r : Rows). In (map a p.variables) r.list) (sym h.is) (subst (λ (k : List ℕ). In (map a k) ((h.number ∷ []) ∷ [])) (sym h.columns) i)

    constants_in : (variable : ℕ) (args : List Arg) (ps : List Pattern) → (h : AreConstantPatterns e variable args ps) → Reads a variable (thirds_of variable args ps h) → IsMatch (contents e.relations) ps a
    constants_in variable [] [] h r = tt
    constants_in variable [] (p ∷ ps) h r = absurd h
    constants_in variable (Blank ∷ args) ps h r = constants_in (suc variable) args ps h r.1
    constants_in variable (Var x ∷ args) ps h r = constants_in (suc variable) args ps h r.1
    constants_in variable (Constant c ∷ args) [] h r = absurd h
    constants_in variable (Constant c ∷ args) (p ∷ ps) h r = (constant_in variable c p h.0 r.0, constants_in (suc variable) args ps h.1 r.1)

    unit_in : (p : Pattern) → IsUnitPattern e p → In (map a p.variables) (rows_of p)
    unit_in p h =
        let i : In (map a []) ([] ∷ []) = inl refl in
        subst (λ (r : Rows). In (map a p.variables) r.list) (sym h.is) (subst (λ (k : List ℕ). In (map a k) ([] ∷ [])) (sym h.columns) i)

    said_in : (gs : List Atom) (x : ℕ) → OccursIn x gs → AreSaid e.numbered.terms under f gs → IsSaid e.numbered.terms under f x
    said_in [] x o s = absurd o
    said_in (g ∷ gs) x (inl o) s = each_in (IsSaid e.numbered.terms under f) x (variables g) s.0 (occurs_in g x o)
    said_in (g ∷ gs) x (inr o) s = said_in gs x o s.1

    -- the answer list takes the tuple's numbers
    answer_said : (constants : ℕ) (gs : List Atom) → AreSaid e.numbered.terms under f gs → (variable : ℕ) (args : List Arg) (places : List ℕ) (ps : List Pattern) (tuple : List Term)
        → AllByRecursion (IsAnswerArg constants gs) args → AreAnswerPlaces vars variable args places → (h : AreConstantPatterns e variable args ps) → Reads a variable (thirds_of variable args ps h)
        → Gives (constant_over e.over) under args tuple → AllZip (IsNumberOf e.numbered.terms) (map a places) tuple
    answer_said constants gs s variable [] [] ps [] i are h r t = tt
    answer_said constants gs s variable [] [] ps (x ∷ tuple) i are h r t = absurd t
    answer_said constants gs s variable [] (place ∷ places) ps tuple i are h r t = absurd are
    answer_said constants gs s variable (arg ∷ args) [] ps tuple i are h r t = absurd are
    answer_said constants gs s variable (arg ∷ args) (place ∷ places) ps [] i are h r t = absurd t
    answer_said constants gs s variable (Blank ∷ args) (place ∷ places) ps (u ∷ tuple) i are h r t = absurd i.0
    answer_said constants gs s variable (Var x ∷ args) (place ∷ places) ps (u ∷ tuple) i are h r t = (
      ap (slice_get e.numbered.terms) (chosen_of vars f seconds thirds place x are.0) ∙ said_in gs x i.0 s ∙ ap Some (sym t.0),
      answer_said constants gs s (suc variable) args places ps tuple i.1 are.1 h r.1 t.1,
    )
    answer_said constants gs s variable (Constant c ∷ args) (place ∷ places) [] (u ∷ tuple) i are h r t = absurd h
    answer_said constants gs s variable (Constant c ∷ args) (place ∷ places) (p ∷ ps) (u ∷ tuple) i are h r t = (
      ap (slice_get e.numbered.terms) (ap a are.0 ∙ r.0) ∙ h.0.stands ∙ ap Some (sym t.0),
      answer_said constants gs s (suc variable) args places ps tuple i.1 are.1 h.1 r.1 t.1,
    )

module _ (e : Extended) (q : Cq) (conjunction : Conjunction) (is : IsConjunctionOf e q conjunction) (constants : ℕ) (asked : IsAsked constants q) (one : EachOnce e.numbered.terms) (tuple : List Term) where
  -- By an assignment of the query that makes its answer list the tuple.
  module _ (under : ℕ → Term) (gives : Gives (constant_over e.over) under q.answer tuple) (f : ℕ → ℕ) (said : AreSaid e.numbered.terms under f q.atoms) (seconds : List ℕ) (long : length seconds ≡ length q.atoms) where
    abbrev thirds : List ℕ
    thirds = thirds_of e is.vars under (length is.vars + length q.atoms) q.answer is.for_constants is.constants

    abbrev b : ℕ → ℕ
    b = chosen is.vars f seconds thirds

    reads_thirds : Reads b (length is.vars + length q.atoms) thirds
    reads_thirds = subst (λ (n : ℕ). Reads b (length is.vars + n) thirds) long (chosen_thirds is.vars f seconds thirds)

    abbrev IsMet : Pattern → Type 0
    IsMet p = In (map b p.variables) (relation_of (contents e.relations) p).list

    answer_of : IsMatch (contents e.relations) is.for_atoms b → (row : List ℕ) → map b conjunction.answer ≡ row → IsAnswer (contents e.relations) conjunction row
    answer_of m row g = record {
      assignment = b;
      is_match = subst (λ (k : List Pattern). IsMatch (contents e.relations) k b) (sym is.patterns)
          (each_append IsMet (is.for_atoms ++ is.for_constants) is.others
          (each_append IsMet is.for_atoms is.for_constants m
          (constants_in e is.vars under one f seconds thirds (length is.vars + length q.atoms) q.answer is.for_constants is.constants reads_thirds))
          (each_as (IsUnitPattern e) IsMet is.others (unit_in e is.vars under one f seconds thirds) is.units));
      gives = g;
    }

    first_numbers : AreNumbersOf e.numbered.terms (map b is.places) tuple
    first_numbers =
        each_numbers e.numbered.terms (map b is.places) tuple
        (answer_said e is.vars under one f seconds thirds constants q.atoms said (length is.vars + length q.atoms) q.answer is.places is.for_constants tuple asked.answer is.are is.constants reads_thirds gives)

    row_is : map b conjunction.answer ≡ map b is.places ++ map b (counted_sets e.wanted (length is.vars) (length q.atoms))
    row_is = ap (map b) is.answer ∙ map-append b is.places (counted_sets e.wanted (length is.vars) (length q.atoms))

    sets_row : HasSets e.wanted → map b conjunction.answer ≡ map b is.places ++ seconds
    sets_row has =
        let c : map b (counted (length is.vars) (length q.atoms)) ≡ seconds =
        ap (λ (n : ℕ). map b (counted (length is.vars) n)) (sym long) ∙ reads_counted b (length is.vars) seconds (chosen_seconds is.vars f seconds thirds) in
        row_is ∙ ap (λ (k : List ℕ). map b is.places ++ map b k) (counted_is e.wanted has (length is.vars) (length q.atoms)) ∙ ap (λ (k : List ℕ). map b is.places ++ k) c

    tuple_row : e.wanted ≡ Tuples → map b conjunction.answer ≡ map b is.places
    tuple_row w = row_is ∙ ap (λ (v : Wanted). map b is.places ++ map b (counted_sets v (length is.vars) (length q.atoms))) w ∙ append_none (map b is.places)

  -- where no set is wanted, any number stands for one
  abbrev zeros : List ℕ
  zeros = map (λ (g : Atom). 0) q.atoms

  -- each tuple has a row
  pub tuple_found : e.wanted ≡ Tuples → HasOver e.over q tuple → IsFound e (IsAnswer (contents e.relations) conjunction) tuple
  tuple_found w x =
      let m = matches_found e is.vars x.under w (length is.vars) q.atoms is.for_atoms is.atoms x.each in
      let s = saying e.numbered.terms x.under q.atoms (matches_numbers e is.vars x.under q.atoms is.for_atoms m) in
      let long : length zeros ≡ length q.atoms = length-map q.atoms (λ (g : Atom). 0) in
      let here = thirds x.under x.answers s.f s.said zeros long in
      let row = map (chosen is.vars s.f zeros here) conjunction.answer in
      record {
        row = row;
        numbers = subst (λ (k : List ℕ). AreNumbersOf e.numbered.terms k tuple) (sym (tuple_row x.under x.answers s.f s.said zeros long w)) (first_numbers x.under x.answers s.f s.said zeros long);
        found = answer_of x.under x.answers s.f s.said zeros long
            (atoms_in e is.vars x.under one s.f zeros here w (length is.vars) q.atoms is.for_atoms is.atoms s.said m) row refl;
      }

  hit_found : HasSets e.wanted → (under : ℕ → Term) → Gives (constant_over e.over) under q.answer tuple → (bounds : List (List RowId)) → PairsFound e is.vars under q.atoms is.for_atoms bounds
      → IsHitFound e (IsAnswer (contents e.relations) conjunction) tuple (λ least. AreWithin (union least) (union bounds))
  hit_found has under gives bounds m =
      let s = saying e.numbered.terms under q.atoms (pairs_numbers e is.vars under q.atoms is.for_atoms bounds m) in
      let k = sets_of e is.vars under q.atoms is.for_atoms bounds m in
      let here = thirds under gives s.f s.said k.seconds k.long in
      let c = chosen is.vars s.f k.seconds here in
      record {
        first = map c is.places;
        second = k.seconds;
        numbers = first_numbers under gives s.f s.said k.seconds k.long;
        sets = k.sets;
        set_numbers = each_numbers e.sets k.seconds k.sets k.numbers;
        found = answer_of under gives s.f s.said k.seconds k.long
            (pairs_in e is.vars under one s.f k.seconds here has (length is.vars) q.atoms is.for_atoms bounds is.atoms s.said m (chosen_seconds is.vars s.f k.seconds here))
            (map c is.places ++ k.seconds) (sets_row under gives s.f s.said k.seconds k.long has);
        has = k.within;
      }

  -- each tuple has a row with a hit
  pub some_hit_found : e.wanted ≡ SomeHits → HasOver e.over q tuple → IsHitFound e (IsAnswer (contents e.relations) conjunction) tuple (λ sets. Unit {0})
  some_hit_found w x =
      let m = some_found e is.vars x.under w (length is.vars) q.atoms is.for_atoms is.atoms x.each in
      let h = hit_found (subst HasSets (sym w) tt) x.under x.answers m.bounds m.found in
      record { first = h.first; second = h.second; numbers = h.numbers; sets = h.sets; set_numbers = h.set_numbers; found = h.found; has = tt }

  -- and each hit one whose rows are among its own
  pub all_hits_found : e.wanted ≡ AllHits → (sets : List (List RowId)) → HasBy e.over q tuple sets → IsHitFound e (IsAnswer (contents e.relations) conjunction) tuple (λ least. AreWithin (union least) (union sets))
  all_hits_found w sets x =
      hit_found (subst HasSets (sym w) tt) x.under x.answers sets (all_found e is.vars x.under w (length is.vars) q.atoms is.for_atoms sets is.atoms x.each)
