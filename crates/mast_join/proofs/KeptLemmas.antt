-- What relations tell stays told as terms and sets get numbers and relations are put behind the others.
use Rattle.std.proofs.Common.{◌≡◌, ℕ, suc, ◌<◌, List, [], ◌∷◌, ◌++◌, length, get_or, map, sym, ap, subst, ◌∙◌, arith}
use Rattle.std.specs.Prelude.{Some, slice_get}
use Rattle.std.proofs.lemmas.List.{get_or_append_left, length-append}
use Rattle.mast_terms.specs.declared.term.Term.{Term}
use Rattle.mast_cq.specs.declared.atom.Arg.{Arg}
use Rattle.mast_cq.specs.declared.atom.Arg.TheVariants.{Blank, Var, Constant}
use Rattle.mast_cq.specs.declared.atom.Atom.{Atom}
use Rattle.mast_canon.specs.declared.rows.RowId.{RowId}
use Rattle.mast_numbers.specs.Numbered.{Numbered}
use Rattle.mast_relations.specs.declared.query.Pattern.{Pattern}
use Rattle.mast_relations.specs.Matches.{In, Rows, nothing, relation_of}
use Rattle.mast_relations.specs.Stores.{Stored, contents}
use Rattle.mast_join.specs.declared.extensions.Wanted.{Wanted}
use Rattle.mast_join.specs.declared.extensions.Wanted.TheVariants.{Tuples, SomeHits, AllHits}
use Rattle.mast_join.specs.Answers.{AreNumbersOf, AreWithin, Extended}
use Rattle.mast_join.specs.Extensions.{Over}
use Rattle.mast_join.specs.inside.Relates.{AreAtomPatterns, AreConstantPatterns, IsAtomPattern, IsConstantPattern, IsMatchFound, IsMatchRow, IsPairFound, IsPairRow, IsUnitPattern, TellsAtom, TellsPairs}
use Rattle.mast_join.specs.inside.Shapes.{variables}
use Rattle.mast_join.specs.inside.Values.{IsFront}
use Rattle.mast_join.proofs.NumberedLemmas.{numbers_kept, read_kept}

module _ (over : Over) (wanted : Wanted) (old_numbers new_numbers : Numbered) (old_sets new_sets : List (List RowId)) (old_stored new_stored : List Stored)
    (terms : IsFront old_numbers.terms new_numbers.terms) (sets : IsFront old_sets new_sets) where
  abbrev old : Extended
  old = record { over = over; wanted = wanted; numbered = old_numbers; sets = old_sets; relations = old_stored }

  abbrev new : Extended
  new = record { over = over; wanted = wanted; numbered = new_numbers; sets = new_sets; relations = new_stored }

  terms_kept : (numbers : List ℕ) (things : List Term) → AreNumbersOf old_numbers.terms numbers things → AreNumbersOf new_numbers.terms numbers things
  terms_kept numbers things h = subst (λ (all : List Term). AreNumbersOf all numbers things) (sym terms.1) (numbers_kept old_numbers.terms terms.0 numbers things h)

  -- the number of a term stays
  pub term_kept : (number : ℕ) (t : Term) → slice_get old_numbers.terms number ≡ Some t → slice_get new_numbers.terms number ≡ Some t
  term_kept number t h = subst (λ (all : List Term). slice_get all number ≡ Some t) (sym terms.1) (read_kept old_numbers.terms terms.0 number t h)

  set_kept : (number : ℕ) (rows : List RowId) → slice_get old_sets number ≡ Some rows → slice_get new_sets number ≡ Some rows
  set_kept number rows h = subst (λ (all : List (List RowId)). slice_get all number ≡ Some rows) (sym sets.1) (read_kept old_sets sets.0 number rows h)

  match_row_kept : (g : Atom) (row : List ℕ) → IsMatchRow old g row → IsMatchRow new g row
  match_row_kept g row h = record { under = h.under; numbers = terms_kept row (map h.under (variables g)) h.numbers; is = h.is }

  match_found_kept : (g : Atom) (under : ℕ → Term) (P : List ℕ → Type 0) → IsMatchFound old g under P → IsMatchFound new g under P
  match_found_kept g under P h = record { row = h.row; numbers = terms_kept h.row (map under (variables g)) h.numbers; found = h.found }

  pair_row_kept : (g : Atom) (row : List ℕ) → IsPairRow old g row → IsPairRow new g row
  pair_row_kept g row h = record {
    front = h.front;
    set = h.set;
    made = h.made;
    under = h.under;
    numbers = terms_kept h.front (map h.under (variables g)) h.numbers;
    rows = h.rows;
    stands = set_kept h.set h.rows h.stands;
    is = h.is;
  }

  pair_found_kept : (g : Atom) (under : ℕ → Term) (P : List ℕ → Type 0) (Q : List RowId → Type 0) → IsPairFound old g under P Q → IsPairFound new g under P Q
  pair_found_kept g under P Q h = record {
    front = h.front;
    set = h.set;
    numbers = terms_kept h.front (map under (variables g)) h.numbers;
    rows = h.rows;
    stands = set_kept h.set h.rows h.stands;
    found = h.found;
    has = h.has;
  }

  pairs_kept : (w : Wanted) (g : Atom) (P : List ℕ → Type 0) → TellsPairs w old g P → TellsPairs w new g P
  pairs_kept Tuples g P h = record { right = λ row p. match_row_kept g row (h.right row p); all = λ under m. match_found_kept g under P (h.all under m) }
  pairs_kept SomeHits g P h = record { right = λ row p. pair_row_kept g row (h.right row p); all = λ under m. pair_found_kept g under P (λ rows. Unit {0}) (h.all under m) }
  pairs_kept AllHits g P h = record {
    right = λ row p. pair_row_kept g row (h.right row p);
    all = λ under rows m. pair_found_kept g under P (λ least. AreWithin least rows) (h.all under rows m);
  }

  -- what a relation tells of an atom it still tells
  pub tells_kept : (g : Atom) (relation : Rows) → TellsAtom old g relation → TellsAtom new g relation
  tells_kept g relation h = record { wide = h.wide; tells = pairs_kept wanted g (λ row. In row relation.list) h.tells }

  -- Where the relations that were there are as they were.
  module _ (front : IsFront (contents old_stored) (contents new_stored)) where
    -- a relation that was there is there
    pub there_kept : (number : ℕ) → number < length (contents old_stored) → number < length (contents new_stored)
    there_kept number lt =
        let l : length (contents new_stored) ≡ length (contents old_stored ++ front.0) = ap length front.1 in
        let a = length-append (contents old_stored) front.0 in
        omega (arith, lt, l, a)

    -- and is the same
    pub relation_kept : (number : ℕ) → number < length (contents old_stored) → get_or (contents new_stored) number nothing ≡ get_or (contents old_stored) number nothing
    relation_kept number lt = ap (λ (k : List Rows). get_or k number nothing) front.1 ∙ get_or_append_left (contents old_stored) front.0 nothing number lt

    -- so a pattern of an atom is still one
    pub atom_pattern_kept : (vars : List ℕ) (set : ℕ) (g : Atom) (pattern : Pattern) → IsAtomPattern old vars set g pattern → IsAtomPattern new vars set g pattern
    atom_pattern_kept vars set g pattern h = record {
      there = there_kept pattern.relation h.there;
      tells = subst (λ (r : Rows). TellsAtom new g r) (sym (relation_kept pattern.relation h.there)) (tells_kept g (relation_of (contents old_stored) pattern) h.tells);
      front = h.front;
      columns = h.columns;
      places = h.places;
    }

    -- each of several is
    pub atom_patterns_kept : (vars : List ℕ) (set : ℕ) (gs : List Atom) (patterns : List Pattern) → AreAtomPatterns old vars set gs patterns → AreAtomPatterns new vars set gs patterns
    atom_patterns_kept vars set [] [] h = tt
    atom_patterns_kept vars set [] (p ∷ patterns) h = absurd h
    atom_patterns_kept vars set (g ∷ gs) [] h = absurd h
    atom_patterns_kept vars set (g ∷ gs) (p ∷ patterns) h = (atom_pattern_kept vars set g p h.0, atom_patterns_kept vars (suc set) gs patterns h.1)

    -- and a pattern of a constant
    pub constant_pattern_kept : (variable c : ℕ) (pattern : Pattern) → IsConstantPattern old variable c pattern → IsConstantPattern new variable c pattern
    constant_pattern_kept variable c pattern h = record {
      there = there_kept pattern.relation h.there;
      number = h.number;
      stands = term_kept h.number _ h.stands;
      is = relation_kept pattern.relation h.there ∙ h.is;
      columns = h.columns;
    }

    -- each of several is
    pub constant_patterns_kept : (variable : ℕ) (args : List Arg) (patterns : List Pattern) → AreConstantPatterns old variable args patterns → AreConstantPatterns new variable args patterns
    constant_patterns_kept variable [] [] h = tt
    constant_patterns_kept variable [] (p ∷ patterns) h = absurd h
    constant_patterns_kept variable (Blank ∷ args) patterns h = constant_patterns_kept (suc variable) args patterns h
    constant_patterns_kept variable (Var x ∷ args) patterns h = constant_patterns_kept (suc variable) args patterns h
    constant_patterns_kept variable (Constant c ∷ args) [] h = absurd h
    constant_patterns_kept variable (Constant c ∷ args) (p ∷ patterns) h = (constant_pattern_kept variable c p h.0, constant_patterns_kept (suc variable) args patterns h.1)

    -- and the pattern of the empty row
    pub unit_pattern_kept : (pattern : Pattern) → IsUnitPattern old pattern → IsUnitPattern new pattern
    unit_pattern_kept pattern h = record { there = there_kept pattern.relation h.there; is = relation_kept pattern.relation h.there ∙ h.is; columns = h.columns }
