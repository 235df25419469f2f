-- What is ready stays ready as more is kept, and a query whose conjunction has a plan is ready.
use Rattle.std.proofs.Common.{◌≡◌, ℕ, ◌<◌, List, [], ◌∷◌, ◌++◌, length, get_or, map, refl, sym, subst}
use Rattle.std.specs.List.{AllByRecursion}
use Rattle.mast_terms.specs.Vocabularies.{EachOnce}
use Rattle.mast_terms.specs.declared.term.Term.{Term}
use Rattle.mast_cq.specs.declared.atom.Atom.{Atom}
use Rattle.mast_cq.specs.declared.query.Cq.{Cq}
use Rattle.mast_cq.specs.declared.query.CqRef.{CqRef}
use Rattle.mast_cq.specs.Queries.{viewed}
use Rattle.mast_canon.specs.declared.rows.RowId.{RowId}
use Rattle.mast_relations.specs.declared.plan.Plan.{Plan}
use Rattle.mast_relations.specs.declared.query.Conjunction.{Conjunction}
use Rattle.mast_relations.specs.declared.query.Pattern.{Pattern}
use Rattle.mast_relations.specs.Matches.{In, IsAnswer, IsConjunction, IsMatch, IsPattern, Rows, nothing}
use Rattle.mast_relations.specs.Plans.{IsPlan, KeepsPlans}
use Rattle.mast_relations.specs.Stores.{Stored, contents}
use Rattle.mast_join.specs.declared.base.Base.{Base}
use Rattle.mast_join.specs.declared.extensions.Wanted.{Wanted}
use Rattle.mast_join.specs.declared.extensions.Wanted.TheVariants.{Tuples, SomeHits, AllHits}
use Rattle.mast_join.specs.declared.store.Store.{Store}
use Rattle.mast_join.specs.Answers.{AreNumbersOf, AreWithin, IsAsked, IsFound, IsHitFound, IsHitRow, IsOverSame, IsReady, IsTupleRow, KeepsReady, Tell, row_width}
use Rattle.mast_join.specs.Extensions.{union}
use Rattle.mast_join.specs.inside.Keeping.{IsExtensionAt, IsKept, IsStoreMore, extended}
use Rattle.mast_join.specs.inside.MadeFacts.{asked_over}
use Rattle.mast_join.specs.inside.Relates.{IsConjunctionOf, TellsAtom}
use Rattle.mast_join.specs.inside.Values.{IsFront}
use Rattle.mast_join.proofs.ConjunctionLemmas.{answer_wide, is_conjunction}
use Rattle.mast_join.proofs.FactsLemmas.{pool_refl}
use Rattle.mast_join.proofs.FillLemmas.{conjunction_front}
use Rattle.mast_join.proofs.KeepingLemmas.{front_read, front_same}
use Rattle.mast_join.proofs.KeptLemmas.{tells_kept}
use Rattle.mast_join.proofs.NamingLemmas.{numbers_on}
use Rattle.mast_join.proofs.TellLemmas.{tells_query}
use Rattle.mast_join.proofs.ValueLemmas.{front_refl}

-- a match of patterns of what was there is one where more is, both ways
match_on : (a b : List Rows) (f : ℕ → ℕ) (ps : List Pattern) → IsFront a b → AllByRecursion (IsPattern a) ps → IsMatch a ps f → IsMatch b ps f
match_on a b f [] p h m = tt
match_on a b f (x ∷ ps) p h m = (subst (λ (r : Rows). In (map f x.variables) r.list) (sym (front_read a b x.relation nothing p h.0.there)) m.0, match_on a b f ps p h.1 m.1)

match_back : (a b : List Rows) (f : ℕ → ℕ) (ps : List Pattern) → IsFront a b → AllByRecursion (IsPattern a) ps → IsMatch b ps f → IsMatch a ps f
match_back a b f [] p h m = tt
match_back a b f (x ∷ ps) p h m = (subst (λ (r : Rows). In (map f x.variables) r.list) (front_read a b x.relation nothing p h.0.there) m.0, match_back a b f ps p h.1 m.1)

answer_on : (a b : List Rows) (q : Conjunction) → IsFront a b → IsConjunction a q → (row : List ℕ) → IsAnswer a q row → IsAnswer b q row
answer_on a b q p h row x = record { assignment = x.assignment; is_match = match_on a b x.assignment q.patterns p h.patterns x.is_match; gives = x.gives }

answer_back : (a b : List Rows) (q : Conjunction) → IsFront a b → IsConjunction a q → (row : List ℕ) → IsAnswer b q row → IsAnswer a q row
answer_back a b q p h row x = record { assignment = x.assignment; is_match = match_back a b x.assignment q.patterns p h.patterns x.is_match; gives = x.gives }

module _ (base : Base) (old new : Store) (more : IsStoreMore old new) where
  terms_on : (numbers : List ℕ) (things : List Term) → AreNumbersOf old.pool.terms.terms numbers things → AreNumbersOf new.pool.terms.terms numbers things
  terms_on numbers things h = numbers_on old.pool.terms.terms new.pool.terms.terms numbers things more.pool.terms.terms h

  sets_on : (numbers : List ℕ) (things : List (List RowId)) → AreNumbersOf old.pool.sets.items numbers things → AreNumbersOf new.pool.sets.items numbers things
  sets_on numbers things h = numbers_on old.pool.sets.items new.pool.sets.items numbers things more.pool.sets h

  tuple_row_on : (q : Cq) (row : List ℕ) → IsTupleRow (extended base old) q row → IsTupleRow (extended base new) q row
  tuple_row_on q row h = record { tuple = h.tuple; numbers = terms_on row h.tuple h.numbers; has = h.has }

  hit_row_on : (q : Cq) (row : List ℕ) → IsHitRow (extended base old) q row → IsHitRow (extended base new) q row
  hit_row_on q row h = record {
    first = h.first;
    second = h.second;
    is = h.is;
    tuple = h.tuple;
    numbers = terms_on h.first h.tuple h.numbers;
    sets = h.sets;
    set_numbers = sets_on h.second h.sets h.set_numbers;
    has = h.has;
  }

  module _ (P Q : List ℕ → Type 0) (to : (row : List ℕ) → P row → Q row) where
    found_on : (tuple : List Term) → IsFound (extended base old) P tuple → IsFound (extended base new) Q tuple
    found_on tuple h = record { row = h.row; numbers = terms_on h.row tuple h.numbers; found = to h.row h.found }

    hit_found_on : (tuple : List Term) (R : List (List RowId) → Type 0) → IsHitFound (extended base old) P tuple R → IsHitFound (extended base new) Q tuple R
    hit_found_on tuple R h = record {
      first = h.first;
      second = h.second;
      numbers = terms_on h.first tuple h.numbers;
      sets = h.sets;
      set_numbers = sets_on h.second h.sets h.set_numbers;
      found = to (h.first ++ h.second) h.found;
      has = h.has;
    }

    -- what rows tell they still tell
    tell_on : ((row : List ℕ) → Q row → P row) → (w : Wanted) (q : Cq) → Tell w (extended base old) q P → Tell w (extended base new) q Q
    tell_on back Tuples q h = record { right = λ row x. tuple_row_on q row (h.right row (back row x)); all = λ tuple t. found_on tuple (h.all tuple t) }
    tell_on back SomeHits q h = record {
      right = λ row x. hit_row_on q row (h.right row (back row x));
      all = λ tuple t. hit_found_on tuple (λ sets. Unit {0}) (h.all tuple t);
    }
    tell_on back AllHits q h = record {
      right = λ row x. hit_row_on q row (h.right row (back row x));
      all = λ tuple sets t. hit_found_on tuple (λ least. AreWithin (union least) (union sets)) (h.all tuple sets t);
    }

  -- what was ready still is
  pub ready_on : KeepsReady (extended base old) (extended base new)
  ready_on ready h =
      let front = more.relations.front in
      record {
        plan = more.relations.plans ready.plan h.query h.plan;
        query = conjunction_front (contents old.relations) (contents new.relations) ready.plan.query front h.query;
        wide = h.wide;
        tell = tell_on (IsAnswer (contents old.relations) ready.plan.query) (IsAnswer (contents new.relations) ready.plan.query)
            (answer_on (contents old.relations) (contents new.relations) ready.plan.query front h.query)
            (answer_back (contents old.relations) (contents new.relations) ready.plan.query front h.query) base.wanted (viewed ready.query) h.tell;
      }

-- the same is asked over
pub over_on : (base : Base) (old new : Store) → IsOverSame (extended base old) (extended base new)
over_on base old new = record { over = refl; wanted = refl }

-- the store with other relations
abbrev pub with_relations : Store → List Stored → Store
with_relations store relations = record { pool = store.pool; facts = store.facts; fact_places = store.fact_places; relations = relations; made = store.made }

-- where relations are the same, and their plans stay, nothing is lost
replanned_more : (store : Store) (relations : List Stored) → contents relations ≡ contents store.relations → KeepsPlans store.relations relations → IsStoreMore store (with_relations store relations)
replanned_more store relations same keeps =
    record { pool = pool_refl store.pool; relations = record { front = front_same (contents store.relations) (contents relations) same; plans = λ plan q p. keeps plan p } }

module _ (base : Base) (store : Store) (relations : List Stored) (same : contents relations ≡ contents store.relations) where
  made_on : (g : Atom) (number : ℕ) → IsExtensionAt (extended base store) g number → IsExtensionAt (extended base (with_relations store relations)) g number
  made_on g number h = record {
    there = subst (λ (k : List Rows). number < length k) (sym same) h.there;
    tells = subst (λ (k : List Rows). TellsAtom (extended base (with_relations store relations)) g (get_or k number nothing)) (sym same)
        (tells_kept (asked_over base) base.wanted store.pool.terms store.pool.terms store.pool.sets.items store.pool.sets.items store.relations relations
        (front_refl store.pool.terms.terms) (front_refl store.pool.sets.items) g (get_or (contents store.relations) number nothing) h.tells);
  }

  -- what is kept is kept where relations get indices
  pub replanned_kept : IsKept base store → IsKept base (with_relations store relations)
  replanned_kept h = record { based = h.based; noted = h.noted; facts = h.facts; made = λ g number e. made_on g number (h.made g number e) }

  -- a query whose conjunction has a plan is ready
  pub planned_ready : KeepsPlans store.relations relations → (query : CqRef) (conjunction : Conjunction) (plan : Plan) (constants : ℕ) → IsConjunctionOf (extended base store) (viewed query) conjunction
      → IsAsked constants (viewed query) → EachOnce store.pool.terms.terms → plan.query ≡ conjunction → IsPlan relations plan
      → IsReady (extended base (with_relations store relations)) (record { query = query; plan = plan })
  planned_ready keeps query conjunction plan constants is asked one e planned =
      let after = extended base (with_relations store relations) in
      let there = is_conjunction (extended base store) (viewed query) conjunction is constants asked in
      record {
        plan = planned;
        query = subst (IsConjunction (contents relations)) (sym e) (subst (λ (k : List Rows). IsConjunction k conjunction) (sym same) there);
        wide = subst (λ (k : Conjunction). length k.answer ≡ row_width base.wanted (viewed query)) (sym e) (answer_wide (extended base store) (viewed query) conjunction is);
        tell = subst (λ (k : Conjunction). Tell base.wanted after (viewed query) (IsAnswer (contents relations) k)) (sym e)
            (tell_on base store (with_relations store relations) (replanned_more store relations same keeps) (IsAnswer (contents store.relations) conjunction) (IsAnswer (contents relations) conjunction)
            (λ row x. subst (λ (k : List Rows). IsAnswer k conjunction row) (sym same) x) (λ row x. subst (λ (k : List Rows). IsAnswer k conjunction row) same x) base.wanted (viewed query)
            (tells_query (extended base store) (viewed query) conjunction is constants asked one));
      }
