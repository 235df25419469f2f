-- The rows of numbers with supports of the members of a closure stand for hits, and each certain answer over the facts of a set of rows has one within them.
use Rattle.std.proofs.Common.{◌≡◌, ℕ, zero, suc, List, [], ◌∷◌, ◌++◌, None, length, get_or, map, take, drop, inl, inr, refl, sym, ap, subst, ◌∙◌}
use Rattle.std.specs.Prelude.{Some, slice_get}
use Rattle.std.specs.List.{AllByRecursion, AllZip}
use Rattle.std.proofs.lemmas.Option.{none-some, same_Some}
use Rattle.mast_terms.specs.declared.term.Term.{Term}
use Rattle.mast_terms.specs.Vocabularies.{IsVocabulary}
use Rattle.mast_cq.specs.declared.atom.Atom.{Atom}
use Rattle.mast_cq.specs.declared.query.Cq.{Cq}
use Rattle.mast_cq.specs.Queries.{In, viewed}
use Rattle.mast_cq.proofs.ListLemmas.{append_left, append_right, each_in, in_append, in_each}
use Rattle.mast_tables.specs.Rows.{Row}
use Rattle.mast_canon.specs.declared.rows.RowId.{RowId}
use Rattle.mast_canon.specs.declared.spec.Spec.{Spec}
use Rattle.mast_canon.specs.CertainAnswers.{HasThrough, MetThrough, ThroughDown}
use Rattle.mast_canon.specs.ConflictLaws.{IsAmong}
use Rattle.mast_canon.specs.Facts.{IsOfTables}
use Rattle.mast_canon.specs.SpecFacts.{FactsOf}
use Rattle.mast_canon.specs.Theories.{constant_of, theory_of}
use Rattle.mast_canon.proofs.SupportLemmas.{support_lies}
use Rattle.mast_relations.specs.Matches.{IsAnswer}
use Rattle.mast_relations.specs.Stores.{contents}
use Rattle.mast_rewrite.specs.Closures.{Closure}
use Rattle.mast_rewrite.proofs.ClosureLemmas.{member_smaller}
use Rattle.mast_rewrite.proofs.RewritingLemmas.{spec_rewriting}
use Rattle.mast_join.specs.declared.extensions.Wanted.{Wanted}
use Rattle.mast_join.specs.declared.extensions.Wanted.TheVariants.{AllHits}
use Rattle.mast_join.specs.declared.hit.Hit.{Hit}
use Rattle.mast_join.specs.declared.ready.Ready.{Ready}
use Rattle.mast_join.specs.Answers.{AreNumbersOf, Extended, IsHitRow, IsNumberRow, IsReady, Tell, TellAllHits}
use Rattle.mast_join.specs.Extensions.{HasBy, IsPairOf, Over, over_of, union}
use Rattle.mast_join.specs.Hits.{IsHitOfRow}
use Rattle.mast_join.proofs.HitLemmas.{numbers_below, numbers_long}
use Rattle.mast_certain.specs.Answered.{IsBlock, IsCertainOf, project_of}
use Rattle.mast_certain.specs.inside.Found.{AreRowsOf}
use Rattle.mast_certain.specs.inside.Supported.{AreBlockHits, HasHitsOf, IsHitOfBlock}
use Rattle.mast_certain.proofs.CertainLemmas.{kept_member, member_kept}
use Rattle.mast_certain.proofs.NumberLemmas.{gives_long, things_same}

-- ---- the front and the rest of a row

take_front : {X : Type 0} (xs ys : List X) → take (length xs) (xs ++ ys) ≡ xs
take_front [] ys = refl
take_front (x ∷ xs) ys = ap (λ zs. x ∷ zs) (take_front xs ys)

drop_front : {X : Type 0} (xs ys : List X) → drop (length xs) (xs ++ ys) ≡ ys
drop_front [] ys = refl
drop_front (x ∷ xs) ys = drop_front xs ys

front_is : {X : Type 0} (row xs ys : List X) (width : ℕ) → row ≡ xs ++ ys → length xs ≡ width → take width row ≡ xs
front_is row xs ys width e long = subst (λ (n : ℕ). take n row ≡ xs) long (ap (take (length xs)) e ∙ take_front xs ys)

rest_is : {X : Type 0} (row xs ys : List X) (width : ℕ) → row ≡ xs ++ ys → length xs ≡ width → drop width row ≡ ys
rest_is row xs ys width e long = subst (λ (n : ℕ). drop n row ≡ ys) long (ap (drop (length xs)) e ∙ drop_front xs ys)

-- ---- the rows of sets

got_is : (sets : List (List RowId)) (number : ℕ) (set : List RowId) → slice_get sets number ≡ Some set → get_or sets number [] ≡ set
got_is [] number set e = absurd (none-some set e)
got_is (s ∷ sets) zero set e = same_Some s set e
got_is (s ∷ sets) (suc number) set e = got_is sets number set e

-- the sets of these numbers
abbrev sets_at : Extended → List ℕ → List (List RowId)
sets_at e numbers = map (λ number. get_or e.sets number []) numbers

sets_are : (e : Extended) (numbers : List ℕ) (sets : List (List RowId)) → AreNumbersOf e.sets numbers sets → sets_at e numbers ≡ sets
sets_are e [] [] h = refl
sets_are e [] (set ∷ sets) h = absurd (absent h)
  where
    absent : [] ≡ (Some set ∷ map Some sets) → ⊥
    absent k = cc
sets_are e (number ∷ numbers) [] h = absurd (absent h)
  where
    absent : (slice_get e.sets number ∷ map (slice_get e.sets) numbers) ≡ [] → ⊥
    absent k = cc
sets_are e (number ∷ numbers) (set ∷ sets) h =
    ap (λ (s : List RowId). s ∷ sets_at e numbers) (got_is e.sets number set (first h)) ∙ ap (λ (rs : List (List RowId)). set ∷ rs) (sets_are e numbers sets (rest h))
  where
    first : (slice_get e.sets number ∷ map (slice_get e.sets) numbers) ≡ (Some set ∷ map Some sets) → slice_get e.sets number ≡ Some set
    first k = cc

    rest : (slice_get e.sets number ∷ map (slice_get e.sets) numbers) ≡ (Some set ∷ map Some sets) → map (slice_get e.sets) numbers ≡ map Some sets
    rest k = cc

-- the rows of the sets of the rest of a row
rows_rest : (e : Extended) (row xs numbers : List ℕ) (sets : List (List RowId)) (width : ℕ) → row ≡ xs ++ numbers → length xs ≡ width → AreNumbersOf e.sets numbers sets → union (sets_at e (drop width row)) ≡ union sets
rows_rest e row xs numbers sets width is long are = ap (λ (ns : List ℕ). union (sets_at e ns)) (rest_is row xs numbers width is long) ∙ ap union (sets_are e numbers sets are)

-- ---- pairs of extensions, and facts of rows

module _ (spec : Spec) (rows : List (List Row)) (under : ℕ → Term) where
  abbrev over : Over
  over = over_of spec rows None

  abbrev IsMetBy : (RowId → Type 0) → Atom → Type 0
  IsMetBy X = MetThrough spec.normal (constant_of spec.vocab.constants) (FactsOf spec rows X) under

  -- the pairs of the extensions make each atom a fact of their rows
  pairs_met : (X : RowId → Type 0) (atoms : List Atom) (sets : List (List RowId)) → AllZip (IsPairOf over under) atoms sets → ((row : RowId) → In row (union sets) → X row) → AllByRecursion (IsMetBy X) atoms
  pairs_met X [] sets z within = tt
  pairs_met X (g ∷ atoms) [] z within = absurd z
  pairs_met X (g ∷ atoms) (set ∷ sets) z within = (
    (let p = z.0 in record {
      member = p.member;
      below = p.below;
      met = record {
        fact = p.fact;
        matches = p.matches;
        holds = record { rows = set; support = p.supports.support; within = in_each X set (λ row i. within row (append_left row set (union sets) i)) };
      };
    }),
    pairs_met X atoms sets z.1 (λ row i. within row (append_right row set (union sets) i)),
  )

  -- and the rows are rows of the tables
  pairs_lie : (atoms : List Atom) (sets : List (List RowId)) → AllZip (IsPairOf over under) atoms sets → (row : RowId) → In row (union sets) → IsOfTables rows row
  pairs_lie [] [] z row i = absurd i
  pairs_lie [] (set ∷ sets) z row i = absurd z
  pairs_lie (g ∷ atoms) [] z row i = absurd i
  pairs_lie (g ∷ atoms) (set ∷ sets) z row i = elim (in_append row set (union sets) i) [
    | inl j ↦ each_in (IsOfTables rows) row set z.0.supports.within j
    | inr j ↦ pairs_lie atoms sets z.1 row j
  ]

  -- atoms that are facts of some rows have pairs with these rows
  record HasPairs (X : RowId → Type 0) (atoms : List Atom) : Type 0 where
    pub sets : List (List RowId)
    pub pairs : AllZip (IsPairOf over under) atoms sets
    pub within : (row : RowId) → In row (union sets) → X row

  met_pairs : (X : RowId → Type 0) (atoms : List Atom) → AllByRecursion (IsMetBy X) atoms → HasPairs X atoms
  met_pairs X [] m = record { sets = []; pairs = tt; within = λ row i. absurd i }
  met_pairs X (g ∷ atoms) m =
      let first = m.0 in
      let fact = first.met.holds in
      let rest = met_pairs X atoms m.1 in
      record {
        sets = fact.rows ∷ rest.sets;
        pairs = (
          record {
            member = first.member;
            below = first.below;
            fact = first.met.fact;
            matches = first.met.matches;
            supports = record { support = fact.support; within = support_lies spec.tables rows spec.maps first.met.fact fact.rows fact.support };
          },
          rest.pairs,
        );
        within = λ row i. elim (in_append row fact.rows (union rest.sets) i) [ inl j ↦ each_in X row fact.rows fact.within j | inr j ↦ rest.within row j ];
      }

-- ---- rows of numbers

module _ (spec : Spec) (rows : List (List Row)) (e : Extended) (is : e.over ≡ over_of spec rows None) (wanted : e.wanted ≡ AllHits) (v : IsVocabulary spec.vocab) (q : Cq) (block : IsBlock spec q)
    (P : List ℕ → Type 0) (are : AreRowsOf e (Closure spec.normal q) P) where
  tells : (ready : Ready) → IsReady e ready → TellAllHits e (viewed ready.query) (IsAnswer (contents e.relations) ready.plan.query)
  tells ready r = subst (λ (w : Wanted). Tell w e (viewed ready.query) (IsAnswer (contents e.relations) ready.plan.query)) wanted r.tell

  of_row : (row : List ℕ) (p : P row) → IsHitRow e (viewed (are.right row p).ready.query) row
  of_row row p = let r = are.right row p in (tells r.ready r.is_ready).right row r.answer

  abbrev width : ℕ
  width = length q.answer

  wide : (m : Cq) (numbers : List ℕ) (tuple : List Term) (sets : List (List RowId)) → Closure spec.normal q m → HasBy e.over m tuple sets → AreNumbersOf e.numbered.terms numbers tuple → length numbers ≡ width
  wide m numbers tuple sets member has are_numbers =
      numbers_long e.numbered.terms numbers tuple are_numbers ∙ (sym (gives_long _ has.under m.answer tuple has.answers) ∙ (member_smaller spec.normal q m member).answer)

  -- a row has the numbers of as many terms as the answer list has arguments, and then those of sets of rows
  pub row_numbers : (row : List ℕ) → P row → IsNumberRow e row width
  row_numbers row p =
      let h = of_row row p in
      let r = are.right row p in
      record {
        first = h.first;
        second = h.second;
        is = h.is;
        long = wide (viewed r.ready.query) h.first h.tuple h.sets r.member h.has h.numbers;
        of_terms = numbers_below e.numbered.terms h.first h.tuple h.numbers;
        of_sets = numbers_below e.sets h.second h.sets h.set_numbers;
      }

  -- the hit of a row is one of the block
  pub row_hit : (row : List ℕ) → P row → (hit : Hit) → IsHitOfRow e width row hit → IsHitOfBlock (project_of spec rows) q hit
  row_hit row p hit k =
      let h = of_row row p in
      let r = are.right row p in
      let m = viewed r.ready.query in
      let long = wide m h.first h.tuple h.sets r.member h.has h.numbers in
      let terms : h.tuple ≡ hit.terms =
      things_same e.numbered.terms h.first h.tuple hit.terms h.numbers (subst (λ (ns : List ℕ). AreNumbersOf e.numbered.terms ns hit.terms) (front_is row h.first h.second width h.is long) k.terms) in
      let same = rows_rest e row h.first h.second h.sets width h.is long h.set_numbers in
      let has : HasBy (over_of spec rows None) m h.tuple h.sets = subst (λ (o : Over). HasBy o m h.tuple h.sets) is h.has in
      let into : (x : RowId) → In x (union h.sets) → In x hit.rows = λ x i. (k.rows x).1 (subst (In x) (sym same) i) in
      let out : (x : RowId) → In x hit.rows → In x (union h.sets) = λ x i. subst (In x) same ((k.rows x).0 i) in
      let through : ThroughDown (theory_of spec) (FactsOf spec rows (IsAmong hit.rows)) m hit.terms =
      subst (ThroughDown (theory_of spec) (FactsOf spec rows (IsAmong hit.rows)) m) terms
      (subst (λ t. HasThrough t (constant_of spec.vocab.constants) (FactsOf spec rows (IsAmong hit.rows)) m h.tuple) spec.is_normal
      (record { under = has.under; each = pairs_met spec rows has.under (IsAmong hit.rows) m.atoms h.sets has.each into; answers = has.answers })) in
      record {
        certain = (spec_rewriting spec rows (IsAmong hit.rows) v q hit.terms block.named block.sorted).1 (record { query = m; has = kept_member spec q m r.member; through = through });
        of_tables = in_each (IsOfTables rows) hit.rows (λ x i. pairs_lie spec rows has.under m.atoms h.sets has.each x (out x i));
        ascending = k.ordered;
      }

  -- a row whose hits have these terms and rows within X
  record HasRowWithin (X : List RowId) (tuple : List Term) : Type 0 where
    pub row : List ℕ
    pub has : P row
    pub hits : (hit : Hit) → IsHitOfRow e width row hit → (hit.terms ≡ tuple) × AllByRecursion (IsAmong X) hit.rows

  certain_hit : (X : List RowId) (tuple : List Term) → IsCertainOf (project_of spec rows) (IsAmong X) q tuple → HasRowWithin X tuple
  certain_hit X tuple c =
      let w = (spec_rewriting spec rows (IsAmong X) v q tuple block.named block.sorted).0 c in
      let member = member_kept spec q w.query w.has in
      let m = are.all w.query member in
      let through = subst (λ t. HasThrough t (constant_of spec.vocab.constants) (FactsOf spec rows (IsAmong X)) w.query tuple) (sym spec.is_normal) w.through in
      let pairs = met_pairs spec rows through.under (IsAmong X) w.query.atoms through.each in
      let by : HasBy (over_of spec rows None) w.query tuple pairs.sets = record { under = through.under; each = pairs.pairs; answers = through.answers } in
      let has : HasBy e.over w.query tuple pairs.sets = subst (λ (o : Over). HasBy o w.query tuple pairs.sets) (sym is) by in
      let found = (tells m.ready m.is_ready).all tuple pairs.sets (subst (λ (k : Cq). HasBy e.over k tuple pairs.sets) (sym m.is) has) in
      let long = wide w.query found.first tuple pairs.sets member has found.numbers in
      record {
        row = found.first ++ found.second;
        has = m.all (found.first ++ found.second) found.found;
        hits = λ hit k.
            let front = front_is (found.first ++ found.second) found.first found.second width refl long in
            let same = rows_rest e (found.first ++ found.second) found.first found.second found.sets width refl long found.set_numbers in (
              things_same e.numbered.terms found.first hit.terms tuple (subst (λ (ns : List ℕ). AreNumbersOf e.numbered.terms ns hit.terms) front k.terms) found.numbers,
              in_each (IsAmong X) hit.rows (λ x i. pairs.within x (each_in (λ r. In r (union pairs.sets)) x (union found.sets) found.has (subst (In x) same ((k.rows x).0 i)))),
            );
      }

  -- hits of all rows are the hits of the block
  pub block_hits : (old new : List Hit) → HasHitsOf e width P old new → AreBlockHits (project_of spec rows) q old new
  block_hits old new h = record {
    kept = h.kept;
    right = λ hit i. elim (h.right hit i) [ inl j ↦ inl j | inr r ↦ inr (row_hit r.row r.has hit r.is) ];
    all = λ X tuple c.
        let r = certain_hit X tuple c in
        let k = h.all r.row r.has in
        let said = r.hits k.hit k.is in
        record { hit = k.hit; among = k.among; terms = said.0; within = said.1 };
  }
