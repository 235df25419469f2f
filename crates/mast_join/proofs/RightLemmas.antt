-- Each row that the join of a query's conjunction gives has the numbers of a tuple of the query, or of a hit.
use Rattle.std.proofs.Common.{◌≡◌, ℕ, suc, ◌+◌, List, [], ◌∷◌, ◌++◌, length, get_or, map, inl, inr, refl, sym, ap, subst, ◌∙◌}
use Rattle.std.specs.Prelude.{Some, slice_get}
use Rattle.std.specs.List.{AllByRecursion, AllZip}
use Rattle.std.proofs.lemmas.List.{length-map, map-append}
use Rattle.std.proofs.lemmas.Option.{get_or_from_slice_get}
use Rattle.mast_terms.specs.Vocabularies.{EachOnce}
use Rattle.mast_terms.specs.declared.term.Term.{Term}
use Rattle.mast_terms.specs.declared.term.Term.TheVariants as term
use Rattle.mast_terms.specs.declared.value.Value.TheVariants as value
use Rattle.mast_cq.specs.declared.atom.Arg.{Arg}
use Rattle.mast_cq.specs.declared.atom.Arg.TheVariants.{Blank, Var, Constant}
use Rattle.mast_cq.specs.declared.atom.Atom.{Atom}
use Rattle.mast_cq.specs.declared.query.Cq.{Cq}
use Rattle.mast_cq.specs.Meanings.{Gives}
use Rattle.mast_canon.specs.declared.rows.RowId.{RowId}
use Rattle.mast_relations.specs.declared.query.Pattern.{Pattern}
use Rattle.mast_relations.specs.declared.query.Conjunction.{Conjunction}
use Rattle.mast_relations.specs.Matches.{In, IsAnswer, IsMatch, Rows, relation_of}
use Rattle.mast_relations.specs.Stores.{contents}
use Rattle.mast_relations.proofs.ListLemmas.{append_split, each_in}
use Rattle.mast_join.specs.declared.extensions.Wanted.{Wanted}
use Rattle.mast_join.specs.declared.extensions.Wanted.TheVariants.{Tuples, SomeHits, AllHits}
use Rattle.mast_join.specs.Answers.{AreNumbersOf, Extended, IsAnswerArg, IsAsked, IsHitRow, IsTupleRow, OccursIn}
use Rattle.mast_join.specs.Extensions.{IsMatchOf, IsPairOf, constant_over}
use Rattle.mast_join.specs.inside.Relates.{AreAnswerPlaces, AreAtomPatterns, AreConstantPatterns, IsAtomPattern, IsConjunctionOf, IsConstantPattern, IsPairRow, TellsMatches, TellsPairs, counted, counted_sets, set_column}
use Rattle.mast_join.specs.inside.Shapes.{variables}
use Rattle.mast_join.proofs.AlikeLemmas.{is_match_alike, is_pair_alike}
use Rattle.mast_join.proofs.NumberedLemmas.{each_numbers, numbers_each, numbers_long}
use Rattle.mast_join.proofs.PlacesLemmas.{only_place, place_in}
use Rattle.mast_join.proofs.ShapeLemmas.{alike_same, occurs_in}

-- what holds of each of two lists one after the other holds of each of the first, and of the second
pub each_split : {X : Type 0} (P : X → Type 0) (xs ys : List X) → AllByRecursion P (xs ++ ys) → AllByRecursion P xs × AllByRecursion P ys
each_split P [] ys h = (tt, h)
each_split P (x ∷ xs) ys h = let r = each_split P xs ys h.1 in ((h.0, r.0), r.1)

-- nothing behind a list
pub append_none : {X : Type 0} (xs : List X) → xs ++ [] ≡ xs
append_none [] = refl
append_none {X} (x ∷ xs) = ap (λ (k : List X). x ∷ k) (append_none xs)

-- sets of rows are wanted
abbrev pub HasSets : Wanted → Type 0
HasSets Tuples = ⊥
HasSets SomeHits = Unit {0}
HasSets AllHits = Unit {0}

-- then they have columns
pub column_is : (w : Wanted) → HasSets w → (set : ℕ) → set_column w set ≡ set ∷ []
column_is Tuples h set = absurd h
column_is SomeHits h set = refl
column_is AllHits h set = refl

-- and places behind the tuple
pub counted_is : (w : Wanted) → HasSets w → (from count : ℕ) → counted_sets w from count ≡ counted from count
counted_is Tuples h from count = absurd h
counted_is SomeHits h from count = refl
counted_is AllHits h from count = refl

pair_right : (w : Wanted) → HasSets w → (e : Extended) (g : Atom) (P : List ℕ → Type 0) → TellsPairs w e g P → (row : List ℕ) → P row → IsPairRow e g row
pair_right Tuples h e g P t row p = absurd h
pair_right SomeHits h e g P t row p = t.right row p
pair_right AllHits h e g P t row p = t.right row p

head_same : (n m : ℕ) → n ∷ [] ≡ m ∷ [] → n ≡ m
head_same n m e = cc

module _ (e : Extended) (vars : List ℕ) (once : EachOnce vars) (a : ℕ → ℕ) where
  -- the term that a variable of the query stands for
  abbrev pub under : ℕ → Term
  under x = get_or e.numbered.terms (a (place_in vars x)) (term.Value (value.Text []))

  -- the number of its place is the term's
  abbrev pub IsTold : ℕ → Type 0
  IsTold x = slice_get e.numbered.terms (a (place_in vars x)) ≡ Some (under x)

  -- so are those of the variables of these atoms
  abbrev pub AreTold : List Atom → Type 0
  AreTold = AllByRecursion (λ (g : Atom). AllByRecursion IsTold (variables g))

  told_one : (n x : ℕ) (y : Term) → slice_get vars n ≡ Some x → slice_get e.numbered.terms (a n) ≡ Some y → (under x ≡ y) × IsTold x
  told_one n x y h k =
      let r : slice_get e.numbered.terms (a (place_in vars x)) ≡ Some y = subst (λ (m : ℕ). slice_get e.numbered.terms (a m) ≡ Some y) (sym (only_place vars x n once h)) k in
      let u : under x ≡ y = get_or_from_slice_get e.numbered.terms (a (place_in vars x)) y (term.Value (value.Text [])) r in
      (u, r ∙ ap Some (sym u))

  told : (front xs : List ℕ) (ys : List Term) → AreNumbersOf vars front xs → AreNumbersOf e.numbered.terms (map a front) ys → (map under xs ≡ ys) × AllByRecursion IsTold xs
  told [] [] [] h k = (refl, tt)
  told [] [] (y ∷ ys) h k = cc
  told [] (x ∷ xs) ys h k = cc
  told (n ∷ ns) [] ys h k = cc
  told (n ∷ ns) (x ∷ xs) [] h k = cc
  told (n ∷ ns) (x ∷ xs) (y ∷ ys) h k =
      let p = numbers_each vars (n ∷ ns) (x ∷ xs) h in
      let q = numbers_each e.numbered.terms (a n ∷ map a ns) (y ∷ ys) k in
      let o = told_one n x y p.0 q.0 in
      let r = told ns xs ys (each_numbers vars ns xs p.1) (each_numbers e.numbered.terms (map a ns) ys q.1) in
      (ap (λ (t : Term). t ∷ map under xs) o.0 ∙ ap (λ (ts : List Term). y ∷ ts) r.0, (o.1, r.1))

  -- the rows of the relation of a pattern
  abbrev rows_of : Pattern → List (List ℕ)
  rows_of p = (relation_of (contents e.relations) p).list

  -- a row of an atom's relation is a match of the atom
  atom_match : e.wanted ≡ Tuples → (set : ℕ) (g : Atom) (p : Pattern) → IsAtomPattern e vars set g p → In (map a p.variables) (rows_of p) → IsMatchOf e.over under g × AllByRecursion IsTold (variables g)
  atom_match is set g p h i =
      let t : TellsMatches e g (λ row. In row (rows_of p)) = subst (λ (w : Wanted). TellsPairs w e g (λ row. In row (rows_of p))) is h.tells.tells in
      let m = t.right (map a p.variables) i in
      let c : p.variables ≡ h.front = h.columns ∙ ap (λ (w : Wanted). h.front ++ set_column w set) is ∙ append_none h.front in
      let o = told h.front (variables g) (map m.under (variables g)) h.places (subst (λ (k : List ℕ). AreNumbersOf e.numbered.terms (map a k) (map m.under (variables g))) c m.numbers) in
      (is_match_alike m.under under e.over g g (alike_same m.under under g (sym o.0)) m.is, o.1)

  atom_matches : e.wanted ≡ Tuples → (set : ℕ) (gs : List Atom) (ps : List Pattern) → AreAtomPatterns e vars set gs ps → IsMatch (contents e.relations) ps a → AllByRecursion (IsMatchOf e.over under) gs × AreTold gs
  atom_matches is set [] [] h m = (tt, tt)
  atom_matches is set [] (p ∷ ps) h m = absurd h
  atom_matches is set (g ∷ gs) [] h m = absurd h
  atom_matches is set (g ∷ gs) (p ∷ ps) h m =
      let o = atom_match is set g p h.0 m.0 in
      let r = atom_matches is (suc set) gs ps h.1 m.1 in
      ((o.0, r.0), (o.1, r.1))

  -- a row of an atom's relation is a pair of the atom
  record AtomPair (set : ℕ) (g : Atom) : Type 0 where
    rows : List RowId
    stands : slice_get e.sets (a set) ≡ Some rows
    pair : IsPairOf e.over under g rows
    are_told : AllByRecursion IsTold (variables g)

  atom_pair : HasSets e.wanted → (set : ℕ) (g : Atom) (p : Pattern) → IsAtomPattern e vars set g p → In (map a p.variables) (rows_of p) → AtomPair set g
  atom_pair has set g p h i =
      let r = pair_right e.wanted has e g (λ row. In row (rows_of p)) h.tells.tells (map a p.variables) i in
      let c : map a p.variables ≡ map a h.front ++ a set ∷ [] = ap (map a) (h.columns ∙ ap (λ (k : List ℕ). h.front ++ k) (column_is e.wanted has set)) ∙ map-append a h.front (set ∷ []) in
      let l : length (map a h.front) ≡ length r.front =
      length-map h.front a ∙ numbers_long vars h.front (variables g) h.places ∙ sym (length-map (variables g) r.under) ∙ sym (numbers_long e.numbered.terms r.front (map r.under (variables g)) r.numbers) in
      let s = append_split (map a h.front) (a set ∷ []) r.front (r.set ∷ []) l (sym c ∙ r.made) in
      let o = told h.front (variables g) (map r.under (variables g)) h.places (subst (λ (k : List ℕ). AreNumbersOf e.numbered.terms k (map r.under (variables g))) (sym s.0) r.numbers) in
      record {
        rows = r.rows;
        stands = subst (λ (n : ℕ). slice_get e.sets n ≡ Some r.rows) (sym (head_same (a set) r.set s.1)) r.stands;
        pair = is_pair_alike r.under under e.over g g r.rows (alike_same r.under under g (sym o.0)) r.is;
        are_told = o.1;
      }

  record AtomPairs (set : ℕ) (gs : List Atom) : Type 0 where
    sets : List (List RowId)
    each : AllZip (IsPairOf e.over under) gs sets
    numbers : AreNumbersOf e.sets (map a (counted set (length gs))) sets
    are_told : AreTold gs

  atom_pairs : HasSets e.wanted → (set : ℕ) (gs : List Atom) (ps : List Pattern) → AreAtomPatterns e vars set gs ps → IsMatch (contents e.relations) ps a → AtomPairs set gs
  atom_pairs has set [] [] h m = record { sets = []; each = tt; numbers = refl; are_told = tt }
  atom_pairs has set [] (p ∷ ps) h m = absurd h
  atom_pairs has set (g ∷ gs) [] h m = absurd h
  atom_pairs has set (g ∷ gs) (p ∷ ps) h m =
      let o = atom_pair has set g p h.0 m.0 in
      let r = atom_pairs has (suc set) gs ps h.1 m.1 in
      record {
        sets = o.rows ∷ r.sets;
        each = (o.pair, r.each);
        numbers = each_numbers e.sets (a set ∷ map a (counted (suc set) (length gs))) (o.rows ∷ r.sets) (o.stands, numbers_each e.sets (map a (counted (suc set) (length gs))) r.sets r.numbers);
        are_told = (o.are_told, r.are_told);
      }

  told_in : (gs : List Atom) (x : ℕ) → OccursIn x gs → AreTold gs → IsTold x
  told_in [] x o t = absurd o
  told_in (g ∷ gs) x (inl o) t = each_in IsTold x (variables g) t.0 (occurs_in g x o)
  told_in (g ∷ gs) x (inr o) t = told_in gs x o t.1

  -- the answer list has a tuple, whose numbers stand at its places
  record Tupled (args : List Arg) (places : List ℕ) : Type 0 where
    tuple : List Term
    numbers : AllZip (λ n t. slice_get e.numbered.terms n ≡ Some t) (map a places) tuple
    gives : Gives (constant_over e.over) under args tuple

  constant_number : (variable c : ℕ) (p : Pattern) → IsConstantPattern e variable c p → In (map a p.variables) (rows_of p) → slice_get e.numbered.terms (a variable) ≡ Some (constant_over e.over c)
  constant_number variable c p h i =
      let j : In (map a (variable ∷ [])) ((h.number ∷ []) ∷ []) =
      subst (λ (k : List ℕ). In (map a k) ((h.number ∷ []) ∷ [])) h.columns (subst (λ (r : Rows). In (map a p.variables) r.list) h.is i) in
      elim j [
        | inl s ↦ subst (λ (n : ℕ). slice_get e.numbered.terms n ≡ Some (constant_over e.over c)) (sym (head_same (a variable) h.number s)) h.stands
        | inr n ↦ absurd n
      ]

  tupled : (constants : ℕ) (gs : List Atom) → AreTold gs → (variable : ℕ) (args : List Arg) (places : List ℕ) (ps : List Pattern) → AllByRecursion (IsAnswerArg constants gs) args → AreConstantPatterns e variable args ps
      → IsMatch (contents e.relations) ps a → AreAnswerPlaces vars variable args places → Tupled args places
  tupled constants gs t variable [] [] ps i c m are = record { tuple = []; numbers = tt; gives = tt }
  tupled constants gs t variable [] (place ∷ places) ps i c m are = absurd are
  tupled constants gs t variable (arg ∷ args) [] ps i c m are = absurd are
  tupled constants gs t variable (Blank ∷ args) (place ∷ places) ps i c m are = absurd i.0
  tupled constants gs t variable (Var x ∷ args) (place ∷ places) ps i c m are =
      let r = tupled constants gs t (suc variable) args places ps i.1 c m are.1 in
      let s : slice_get e.numbered.terms (a place) ≡ Some (under x) =
      subst (λ (n : ℕ). slice_get e.numbered.terms (a n) ≡ Some (under x)) (only_place vars x place once are.0) (told_in gs x i.0 t) in
      record { tuple = under x ∷ r.tuple; numbers = (s, r.numbers); gives = (refl, r.gives) }
  tupled constants gs t variable (Constant d ∷ args) (place ∷ places) [] i c m are = absurd c
  tupled constants gs t variable (Constant d ∷ args) (place ∷ places) (p ∷ ps) i c m are =
      let r = tupled constants gs t (suc variable) args places ps i.1 c.1 m.1 are.1 in
      let s : slice_get e.numbered.terms (a place) ≡ Some (constant_over e.over d) =
      subst (λ (n : ℕ). slice_get e.numbered.terms (a n) ≡ Some (constant_over e.over d)) (sym are.0) (constant_number variable d p c.0 m.0) in
      record { tuple = constant_over e.over d ∷ r.tuple; numbers = (s, r.numbers); gives = (refl, r.gives) }

module _ (e : Extended) (q : Cq) (conjunction : Conjunction) (is : IsConjunctionOf e q conjunction) (constants : ℕ) (asked : IsAsked constants q) (row : List ℕ) (x : IsAnswer (contents e.relations) conjunction row) where
  abbrev a : ℕ → ℕ
  a = x.assignment

  abbrev named : ℕ → Term
  named = under e is.vars is.once a

  matched : IsMatch (contents e.relations) (is.for_atoms ++ is.for_constants ++ is.others) a
  matched = subst (λ (k : List Pattern). IsMatch (contents e.relations) k a) is.patterns x.is_match

  abbrev IsMet : Pattern → Type 0
  IsMet p = In (map a p.variables) (relation_of (contents e.relations) p).list

  both : IsMatch (contents e.relations) is.for_atoms a × IsMatch (contents e.relations) is.for_constants a
  both = each_split IsMet is.for_atoms is.for_constants (each_split IsMet (is.for_atoms ++ is.for_constants) is.others matched).0

  given_row : row ≡ map a is.places ++ map a (counted_sets e.wanted (length is.vars) (length q.atoms))
  given_row = sym x.gives ∙ ap (map a) is.answer ∙ map-append a is.places (counted_sets e.wanted (length is.vars) (length q.atoms))

  -- an answer has the numbers of a tuple of the query
  pub tuple_right : e.wanted ≡ Tuples → IsTupleRow e q row
  tuple_right w =
      let m = atom_matches e is.vars is.once a w (length is.vars) q.atoms is.for_atoms is.atoms both.0 in
      let t = tupled e is.vars is.once a constants q.atoms m.1 (length is.vars + length q.atoms) q.answer is.places is.for_constants asked.answer is.constants both.1 is.are in
      let r : row ≡ map a is.places =
      given_row ∙ ap (λ (v : Wanted). map a is.places ++ map a (counted_sets v (length is.vars) (length q.atoms))) w ∙ append_none (map a is.places) in
      record {
        tuple = t.tuple;
        numbers = subst (λ (k : List ℕ). AreNumbersOf e.numbered.terms k t.tuple) (sym r) (each_numbers e.numbered.terms (map a is.places) t.tuple t.numbers);
        has = record { under = named; each = m.0; answers = t.gives };
      }

  -- or of a hit
  pub hit_right : HasSets e.wanted → IsHitRow e q row
  hit_right w =
      let m = atom_pairs e is.vars is.once a w (length is.vars) q.atoms is.for_atoms is.atoms both.0 in
      let t = tupled e is.vars is.once a constants q.atoms m.are_told (length is.vars + length q.atoms) q.answer is.places is.for_constants asked.answer is.constants both.1 is.are in
      record {
        first = map a is.places;
        second = map a (counted (length is.vars) (length q.atoms));
        is = given_row ∙ ap (λ (k : List ℕ). map a is.places ++ map a k) (counted_is e.wanted w (length is.vars) (length q.atoms));
        tuple = t.tuple;
        numbers = each_numbers e.numbered.terms (map a is.places) t.tuple t.numbers;
        sets = m.sets;
        set_numbers = m.numbers;
        has = record { under = named; each = m.each; answers = t.gives };
      }
