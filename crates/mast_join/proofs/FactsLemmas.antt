-- The facts of a map: what is made of the fact of a choice, and that it stays so while terms and sets get numbers.
use Rattle.std.proofs.Common.{◌≡◌, ℕ, suc, ◌+◌, ◌<◌, ◌≤◌, inl, inr, Bool, true, false, if◌then◌else◌, List, [], ◌∷◌, ◌++◌, length, take, get_or, refl, sym, ap, subst, ◌∙◌, arith}
use Rattle.std.proofs.Math.Logic.{∥∥₁_elim}
use Rattle.std.specs.Coded.{le_prop}
use Rattle.std.specs.Prelude.{Option, Some, None, bytes_eq, slice_get}
use Rattle.std.specs.List.{AllByRecursion, AllByRecursion-prop}
use Rattle.std.proofs.lemmas.Bool.{cases_eq}
use Rattle.std.proofs.lemmas.List.{length-take-le, take_more}
use Rattle.std.proofs.lemmas.Option.{none-some, same_Some}
use Rattle.mast_terms.specs.declared.term.Term.{Term}
use Rattle.mast_cq.specs.Meanings.{Fact, InClass, InRole, InAttr}
use Rattle.mast_cq.proofs.ListLemmas.{append_left, append_right}
use Rattle.mast_sql.specs.declared.query.FromEntry.{FromEntry}
use Rattle.mast_tables.specs.declared.declaration.TableDecl.{TableDecl}
use Rattle.mast_mapping.specs.declared.split_map.SplitMap.{SplitMap}
use Rattle.mast_canon.specs.declared.rows.RowId.{RowId}
use Rattle.mast_canon.specs.declared.spec.Spec.{Spec}
use Rattle.mast_canon.specs.Choices.{IsChoice, table_number}
use Rattle.mast_canon.specs.Fitting.{Fits}
use Rattle.mast_numbers.specs.Numbered.{Numbered}
use Rattle.mast_canon.specs.Facts.{chosen_rows}
use Rattle.mast_join.specs.declared.base.Base.{Base}
use Rattle.mast_join.specs.declared.extensions.Wanted.{Wanted}
use Rattle.mast_join.specs.declared.extensions.Wanted.TheVariants.{Tuples, SomeHits, AllHits}
use Rattle.mast_join.specs.declared.facts.MadeFact.{MadeFact}
use Rattle.mast_join.specs.declared.facts.Pool.{Pool}
use Rattle.mast_join.specs.declared.values.HeadPlaces.{HeadPlaces}
use Rattle.mast_join.specs.Chosen.{AreChoices, AreFew, IsMet}
use Rattle.mast_join.specs.inside.MadeFacts.{AddsFact, AreFactsOf, AreFactsTo, HasSet, IsFactOfMap, IsMade, IsMadeIn, IsPoolMore, asked_over, fact_by, rows_by}
use Rattle.mast_join.specs.inside.Places.{AreHeadPlaces, BothRead, CanReadBoth, HasNumbers, TellsBoth, TellsFact}
use Rattle.mast_join.specs.inside.Values.{IsFront}
use Rattle.mast_join.proofs.HeadLemmas.{HeadRead, head_read}
use Rattle.mast_join.proofs.OnceLemmas.{in_get, stands_at}
use Rattle.mast_join.proofs.ValueLemmas.{front_refl, front_twice, get_front, keeps_refl, keeps_twice}

-- the tables of a specification have numbers of 32 bits
pub tables_few : (spec : Spec) → length spec.tables < 4294967295
tables_few spec = ∥∥₁_elim spec.tables_numbered le_prop (λ h. h.of_tables)

-- and their columns
pub columns_few : (spec : Spec) → AreFew spec.tables
columns_few spec = ∥∥₁_elim spec.tables_numbered (AllByRecursion-prop (λ (decl : TableDecl). length decl.columns < 4294967295) (λ decl. le_prop) spec.tables) (λ h. h.of_columns)

step_few : (b : Bool) (n most : ℕ) → n ≤ most → (if b then 0 else suc n) ≤ suc most
step_few true n most le = omega arith
step_few false n most le = omega (arith, le)

-- a number of a table is at most that of the declared ones
pub number_few : (name : List ℕ) (decls : List TableDecl) → table_number name decls ≤ length decls
number_few name [] = omega arith
number_few name (d ∷ decls) = step_few (bytes_eq d.name name) (table_number name decls) (length decls) (number_few name decls)

rows_push : (decls : List TableDecl) (entries : List FromEntry) (choice : List ℕ) (x : FromEntry) (n : ℕ) → length entries ≡ length choice
    → chosen_rows decls (entries ++ x ∷ []) (choice ++ n ∷ []) ≡ chosen_rows decls entries choice ++ record { table = table_number x.table decls; number = n } ∷ []
rows_push decls [] [] x n e = refl
rows_push decls [] (m ∷ ms) x n e = absurd (omega (arith, e))
rows_push decls (y ∷ ys) [] x n e = absurd (omega (arith, e))
rows_push decls (y ∷ ys) (m ∷ ms) x n e = ap (λ (rows : List RowId). record { table = table_number y.table decls; number = m } ∷ rows) (rows_push decls ys ms x n (omega (arith, e)))

-- the row of one entry more
pub rows_more : (decls : List TableDecl) (entries : List FromEntry) (choice : List ℕ) (i : ℕ) (d : FromEntry) (e : ℕ) → i < length entries → length choice ≡ length entries
    → chosen_rows decls (take (i + 1) entries) (take (i + 1) choice) ≡ chosen_rows decls (take i entries) (take i choice) ++ record { table = table_number (get_or entries i d).table decls; number = get_or choice i e } ∷ []
rows_more decls entries choice i d e lt long =
    let a = take_more entries i d lt in
    let b = take_more choice i e (omega (arith, lt, long)) in
    let p = length-take-le i entries (omega (arith, lt)) in
    let q = length-take-le i choice (omega (arith, lt, long)) in
    ap (λ (xs : List FromEntry). chosen_rows decls xs (take (i + 1) choice)) a ∙ ap (λ (ns : List ℕ). chosen_rows decls (take i entries ++ get_or entries i d ∷ []) ns) b
    ∙ rows_push decls (take i entries) (take i choice) (get_or entries i d) (get_or choice i e) (omega (arith, p, q))

-- a pool that grows in no way, and in two steps
pub pool_refl : (pool : Pool) → IsPoolMore pool pool
pool_refl pool = record { terms = keeps_refl pool.terms; sets = front_refl pool.sets.items }

-- a pool that grows, and again
pub pool_twice : (a b c : Pool) → IsPoolMore a b → IsPoolMore b c → IsPoolMore a c
pool_twice a b c f g = record { terms = keeps_twice a.terms b.terms c.terms f.terms g.terms; sets = front_twice a.sets.items b.sets.items c.sets.items f.sets g.sets }

-- where sets are not wanted any number will do
pub no_set : (wanted : Wanted) (sets : List (List RowId)) (number : ℕ) (rows : List RowId) → wanted ≡ Tuples → HasSet wanted sets number rows
no_set wanted sets number rows e = subst (λ (w : Wanted). HasSet w sets number rows) (sym e) tt

-- else that of the set
pub some_set : (wanted : Wanted) (sets : List (List RowId)) (number : ℕ) (rows : List RowId) → slice_get sets number ≡ Some rows → HasSet wanted sets number rows
some_set Tuples sets number rows h = tt
some_set SomeHits sets number rows h = h
some_set AllHits sets number rows h = h

-- where a choice gives no fact nothing is added
pub adds_none : (wanted : Wanted) (pool : Pool) (o : Option (Fact Term)) (rows : List RowId) (facts : List MadeFact) (numbers : Option (ℕ × ℕ)) → numbers ≡ None → TellsFact pool.terms.terms o numbers → AddsFact wanted pool o rows facts facts
adds_none wanted pool None rows facts numbers e t = refl
adds_none wanted pool (Some f) rows facts numbers e t = absurd (subst (λ (n : Option (ℕ × ℕ)). TellsFact pool.terms.terms (Some f) n) e t)

-- where it gives one its numbers and its set are
pub adds_one : (wanted : Wanted) (pool : Pool) (o : Option (Fact Term)) (rows : List RowId) (old new : List MadeFact) (numbers : Option (ℕ × ℕ)) (first second number : ℕ) → numbers ≡ Some (first, second) → TellsFact pool.terms.terms o numbers
    → HasSet wanted pool.sets.items number rows → new ≡ old ++ record { first = first; second = second; set = number } ∷ [] → AddsFact wanted pool o rows old new
adds_one wanted pool None rows old new numbers first second number e t h a = absurd (subst (λ (n : Option (ℕ × ℕ)). TellsFact pool.terms.terms None n) e t)
adds_one wanted pool (Some f) rows old new numbers first second number e t h a =
    (record { first = first; second = second; set = number }, record { numbers = subst (λ (n : Option (ℕ × ℕ)). TellsFact pool.terms.terms (Some f) n) e t; set = h }, a)

-- numbers of facts and of sets stay
numbers_more : (old new : List Term) (fact : Fact Term) (first second : ℕ) → IsFront old new → HasNumbers old fact first second → HasNumbers new fact first second
numbers_more old new (InClass a t) first second f h = get_front old new first t f h
numbers_more old new (InRole a t u) first second f h = (get_front old new first t f h.0, get_front old new second u f h.1)
numbers_more old new (InAttr a t u) first second f h = (get_front old new first t f h.0, get_front old new second u f h.1)

set_more : (wanted : Wanted) (old new : List (List RowId)) (number : ℕ) (rows : List RowId) → IsFront old new → HasSet wanted old number rows → HasSet wanted new number rows
set_more Tuples old new number rows f h = tt
set_more SomeHits old new number rows f h = get_front old new number rows f h
set_more AllHits old new number rows f h = get_front old new number rows f h

made_more : (wanted : Wanted) (old new : Pool) (fact : Fact Term) (rows : List RowId) (made : MadeFact) → IsPoolMore old new → IsMade wanted old fact rows made → IsMade wanted new fact rows made
made_more wanted old new fact rows made k h = record {
  numbers = numbers_more old.terms.terms new.terms.terms fact made.first made.second k.terms.terms h.numbers;
  set = set_more wanted old.sets.items new.sets.items made.set rows k.sets h.set;
}

module _ (base : Base) (map : SplitMap) where
  right_more : (old new : Pool) (facts : List MadeFact) → IsPoolMore old new → AllByRecursion (IsFactOfMap base old map) facts → AllByRecursion (IsFactOfMap base new map) facts
  right_more old new [] k h = tt
  right_more old new (m ∷ ms) k h = (
    record { choice = h.0.choice; met = h.0.met; fact = h.0.fact; gives = h.0.gives; is = made_more base.wanted old new h.0.fact (rows_by (asked_over base) map h.0.choice) m k h.0.is },
    right_more old new ms k h.1,
  )

  in_more : (old new : Pool) (fact : Fact Term) (rows : List RowId) (facts : List MadeFact) → IsPoolMore old new → IsMadeIn base.wanted old fact rows facts → IsMadeIn base.wanted new fact rows facts
  in_more old new fact rows facts k h = record { made = h.made; there = h.there; is = made_more base.wanted old new fact rows h.made k h.is }

  -- the facts of a map stay so
  pub facts_of_more : (old new : Pool) (facts : List MadeFact) → IsPoolMore old new → AreFactsOf base old map facts → AreFactsOf base new map facts
  facts_of_more old new facts k h = record {
    right = right_more old new facts k h.right;
    all = λ choice fact met gives. in_more old new fact (rows_by (asked_over base) map choice) facts k (h.all choice fact met gives);
  }

  -- no choice yet
  pub facts_first : (pool : Pool) (choices : List (List ℕ)) (facts : List MadeFact) → facts ≡ [] → AreFactsTo base pool map choices 0 facts
  facts_first pool choices facts e = record {
    right = subst (λ (l : List MadeFact). AllByRecursion (IsFactOfMap base pool map) l) (sym e) tt;
    all = λ place fact lt gives. absurd (omega (arith, lt));
  }

  each_push : (pool : Pool) (facts : List MadeFact) (m : MadeFact) → AllByRecursion (IsFactOfMap base pool map) facts → IsFactOfMap base pool map m → AllByRecursion (IsFactOfMap base pool map) (facts ++ m ∷ [])
  each_push pool [] m h k = (k, tt)
  each_push pool (x ∷ xs) m h k = (h.0, each_push pool xs m h.1 k)

  -- one choice more
  module _ (old new : Pool) (choices : List (List ℕ)) (count : ℕ) (facts after : List MadeFact) (k : IsPoolMore old new) (so_far : AreFactsTo base old map choices count facts)
      (met : IsMet (asked_over base).sources.tables (asked_over base).rows map.query (asked_over base).only (get_or choices count [])) where
    abbrev choice : List ℕ
    choice = get_or choices count []

    abbrev rows : List RowId
    rows = rows_by (asked_over base) map choice

    next : (o : Option (Fact Term)) → fact_by (asked_over base) map choice ≡ o → AddsFact base.wanted new o rows facts after → AreFactsTo base new map choices (count + 1) after
    next None e a = subst (λ (l : List MadeFact). AreFactsTo base new map choices (count + 1) l) (sym a) (record {
      right = right_more old new facts k so_far.right;
      all = λ place fact lt gives. elim (cases_eq place count) [
        | inl q ↦ absurd (none-some fact (sym e ∙ ap (λ (i : ℕ). fact_by (asked_over base) map (get_or choices i [])) (sym q) ∙ gives))
        | inr n ↦ in_more old new fact (rows_by (asked_over base) map (get_or choices place [])) facts k (so_far.all place fact (omega (arith, lt, n)) gives)
      ];
    })
    next (Some f) e a = subst (λ (l : List MadeFact). AreFactsTo base new map choices (count + 1) l) (sym a.2) (record {
      right = each_push new facts a.0 (right_more old new facts k so_far.right) (record { choice = choice; met = met; fact = f; gives = e; is = a.1 });
      all = λ place fact lt gives. elim (cases_eq place count) [
        | inl q ↦
            let same : f ≡ fact = same_Some f fact (sym e ∙ ap (λ (i : ℕ). fact_by (asked_over base) map (get_or choices i [])) (sym q) ∙ gives) in
            record {
              made = a.0;
              there = append_right a.0 facts (a.0 ∷ []) (inl refl);
              is = subst (λ (i : ℕ). IsMade base.wanted new fact (rows_by (asked_over base) map (get_or choices i [])) a.0) (sym q) (subst (λ (g : Fact Term). IsMade base.wanted new g rows a.0) same a.1);
            }
        | inr n ↦
            let h = in_more old new fact (rows_by (asked_over base) map (get_or choices place [])) facts k (so_far.all place fact (omega (arith, lt, n)) gives) in
            record { made = h.made; there = append_left h.made facts (a.0 ∷ []) h.there; is = h.is }
      ];
    })

    pub facts_more : AddsFact base.wanted new (fact_by (asked_over base) map choice) rows facts after → AreFactsTo base new map choices (count + 1) after
    facts_more a = next (fact_by (asked_over base) map choice) refl a

  -- all choices
  pub facts_end : (pool : Pool) (choices : List (List ℕ)) (count : ℕ) (facts : List MadeFact) → length choices ≤ count
      → AreChoices (asked_over base).sources.tables (asked_over base).rows map.query (asked_over base).only choices → AreFactsTo base pool map choices count facts → AreFactsOf base pool map facts
  facts_end pool choices count facts le are h = record {
    right = h.right;
    all = λ choice fact met gives.
        let s = stands_at choice choices ((are.exact choice).1 met) in
        let within = s.within in
        subst (λ (c : List ℕ). IsMadeIn base.wanted pool fact (rows_by (asked_over base) map c) facts) (s.is [])
        (h.all s.place fact (omega (arith, within, le)) (ap (fact_by (asked_over base) map) (s.is []) ∙ gives));
  }

  -- a choice that is found meets the query
  pub found_meets : (choices : List (List ℕ)) (number : ℕ) → number < length choices → AreChoices (asked_over base).sources.tables (asked_over base).rows map.query (asked_over base).only choices
      → IsMet (asked_over base).sources.tables (asked_over base).rows map.query (asked_over base).only (get_or choices number [])
  found_meets choices number lt are = (are.exact (get_or choices number [])).0 (in_get choices number [] lt)

module _ (base : Base) (map : SplitMap) (places : HeadPlaces) (choice : List ℕ) (old : Numbered) (is : IsChoice base.spec.now.tables base.tables.now.list map.query choice) (fits : Fits base.spec.now.tables base.tables.now.list)
    (of_head : AreHeadPlaces old base.spec.now.tables map.query map.head places) where
  few : length base.spec.now.tables < 4294967296
  few = let f = tables_few base.spec.now in omega (arith, f)

  read_here : HeadRead base.spec.now.tables base.tables.now.list map.query choice is fits few old map.head places
  read_here = head_read base.spec.now.tables base.tables.now.list map.query choice is fits few old map.head places of_head

  -- the places can be read in a choice
  pub can_read : CanReadBoth old base.tables.now.list choice places
  can_read = (read_here.first, read_here.second, read_here.reads)

  -- and what their numbers tell is the fact of the choice
  pub tells_fact : (terms : List Term) (numbers : Option (ℕ × ℕ)) → ((first second : Option Term) → BothRead old base.tables.now.list choice places first second → TellsBoth terms first second numbers)
      → TellsFact terms (fact_by (asked_over base) map choice) numbers
  tells_fact terms numbers h = read_here.tells terms numbers (h read_here.first read_here.second read_here.reads)
