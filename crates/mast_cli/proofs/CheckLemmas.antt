-- What the parts of `check` tell together.
use Rattle.std.proofs.Common.{◌≡◌, ◌⊎◌, inl, inr, ◌∙◌, ◌<◌, ◌≤◌, ℕ, zero, suc, List, [], ◌∷◌, length, get_or, arith, Option, Some, None, Result, Ok, Err, IfOk, IfSome, subst, sym, refl}
use Rattle.std.proofs.lemmas.Bool.{cases_lt}
use Rattle.std.proofs.Math.Logic.{∥∥₁_elim}
use Rattle.std.specs.List.{AllByRecursion}
use Rattle.mast_canon.specs.declared.rows.Tables.{Tables}
use Rattle.mast_canon.specs.declared.spec.Spec.{Spec}
use Rattle.mast_canon.specs.declared.origin.Origin.{Origin}
use Rattle.mast_canon.specs.declared.rows.RowId.{RowId}
use Rattle.mast_canon.specs.CertainAnswers.{HoldsBy}
use Rattle.mast_canon.specs.Conditions.{HasNumbers, TablesHaveNumbers}
use Rattle.mast_canon.specs.ConflictLaws.{IsAmong, IsConflict}
use Rattle.mast_canon.specs.Facts.{IsOfTables}
use Rattle.mast_canon.specs.Fitting.{Fits}
use Rattle.mast_canon.specs.SpecFacts.{FactsOf}
use Rattle.mast_canon.specs.Theories.{Theory, stated, theory_of}
use Rattle.mast_canon.proofs.ChoiceLemmas.{zip_length}
use Rattle.mast_canon.proofs.HoldsLemmas.{breaks_grow, holds_grows}
use Rattle.mast_canon.proofs.SupportLemmas.{facts_grow}
use Rattle.mast_check.specs.declared.breach.Breach.{Breach}
use Rattle.mast_check.specs.Checks.{IsBreachOf, IsBrokenBy, TellsModel}
use Rattle.mast_cq.specs.Meanings.{Fact}
use Rattle.mast_cq.specs.Queries.{In}
use Rattle.mast_cq.proofs.ListLemmas.{each_in, in_each}
use Rattle.mast_files.specs.Outside.{Contents, Reading}
use Rattle.mast_mapping.specs.declared.split_map.SplitMap.{SplitMap}
use Rattle.mast_mapping.specs.Split.{split_maps}
use Rattle.mast_shrink.specs.declared.conflict.Conflict.{Conflict as Conflicting}
use Rattle.mast_tables.specs.declared.declaration.TableDecl.{TableDecl}
use Rattle.mast_tables.specs.Rows.{Row}
use Rattle.mast_terms.specs.declared.memory.NoMemory.{NoMemory}
use Rattle.mast_terms.specs.declared.term.Term.{Term}
use Rattle.mast_write.specs.ConflictLines.{IsConflictText, IsOfTables as IsDeclared}
use Rattle.mast_cli.specs.declared.judged.Judged.{Judged}
use Rattle.mast_cli.specs.declared.judged.Part.{Part}
use Rattle.mast_cli.specs.declared.judged.Part.TheVariants as part
use Rattle.mast_cli.specs.declared.limits.TheConstants.{TABLE_BYTES, ROWS}
use Rattle.mast_cli.specs.declared.status.Status.{Status}
use Rattle.mast_cli.specs.declared.status.Status.TheVariants as st
use Rattle.mast_cli.specs.command.Check.{CheckStages, HaveNoModel, PrintsChecked, PrintsConflict, TellsWhether}
use Rattle.mast_cli.specs.FirstEvent.{Trail}
use Rattle.mast_cli.specs.Outcome.{CheckOutcome, EndsIn}
use Rattle.mast_cli.specs.Run.{IsAnswer}
use Rattle.mast_cli.specs.stage.Closures.{LimitedStages}
use Rattle.mast_cli.specs.stage.Restrictions.{Documents, Files}
use Rattle.mast_cli.specs.stage.Tables.{TablesStages}
use Rattle.mast_cli.specs.inside.Causes.{HasCause, JudgedHasCause}
use Rattle.mast_cli.specs.inside.Loading.{IsNumbered, TellsTables}
use Rattle.mast_cli.specs.inside.Specifying.{IsConflictOf, IsSpecOf, TellsLimited, TellsWhetherOf}
use Rattle.mast_cli.specs.inside.Telling.{Ends, JudgesIn, TellsAs, TellsCheck, TellsPart}
use Rattle.mast_cli.proofs.FirstEventLemmas.{HasOneEnd, one_then}
use Rattle.mast_cli.proofs.PartsLemmas.{Itself, ReadsBoth, as_itself, both_read, first_ends, next_ends}
use Rattle.mast_cli.proofs.SpecificationLemmas.{if_told, one_limited, same_theory}
use Rattle.mast_cli.proofs.TablesLemmas.{FilesHaveAnswers, one_from}
use Rattle.mast_cli.proofs.TellingLemmas.{ends_event, ends_more}

-- the status of a conflict, or of `consistent`, is an answer
whether_answers : (theory : Theory) (decls : List TableDecl) (maps : List SplitMap) (tables : List (List Row)) (status : Status) (text : List ℕ)
    → TellsWhether theory decls maps tables status text → IsAnswer status
whether_answers theory decls maps tables status text (inl h) = subst IsAnswer (sym h.1.conflicts) tt
whether_answers theory decls maps tables status text (inr h) = subst IsAnswer (sym h.1) tt

-- and no read fault
pub whether_cause : (theory : Theory) (decls : List TableDecl) (maps : List SplitMap) (tables : List (List Row)) (before now : ℕ) (reading : Reading) (status : Status) (text : List ℕ)
    → TellsWhether theory decls maps tables status text → now ≡ before → HasCause before now reading status text
whether_cause theory decls maps tables before now reading status text (inl h) e = subst (λ s. HasCause before now reading s text) (sym h.1.conflicts) e
whether_cause theory decls maps tables before now reading status text (inr h) e = subst (λ s. HasCause before now reading s text) (sym h.1) e

-- what is told of the tables of a specification is told of those of its documents
whether_in : (documents : Documents) (spec : Spec) (tables : List (List Row)) (status : Status) (text : List ℕ) → IsSpecOf documents spec
    → TellsWhether (theory_of spec) spec.tables spec.maps tables status text → PrintsChecked (documents, tables) status text
whether_in documents spec tables status text is h =
    subst (λ t. TellsWhether t documents.mappings.tables (split_maps documents.mappings.maps) tables status text) (same_theory documents spec is)
    (subst (λ ds. TellsWhether (theory_of spec) ds (split_maps documents.mappings.maps) tables status text) is.tables
    (subst (λ ms. TellsWhether (theory_of spec) spec.tables ms tables status text) is.maps h))

-- the answer has its cause
pub check_cause : (spec : Spec) (tables : Tables) (before now : ℕ) (reading : Reading) (r : Result Judged NoMemory) → now ≡ before
    → IfOk r (TellsWhetherOf spec tables) → IfOk r (JudgedHasCause before now reading)
check_cause spec tables before now reading (Err none) e h = tt
check_cause spec tables before now reading (Ok judged) e h = whether_cause (theory_of spec) spec.tables spec.maps tables.list before now reading judged.status judged.text.items h e

module _ (any : FilesHaveAnswers) (files : Files) where
  abbrev First : Contents → Trail → Option Documents → Type 0
  First c = LimitedStages c files

  abbrev Next : Contents → Documents → Trail → Option (List (List Row)) → Type 0
  Next c documents = TablesStages c documents.mappings.tables

  next : (c : Contents) (s : Trail) (x : Documents) → First c s (Some x) → HasOneEnd (Next c x)
  next c s x h = one_from any c TABLE_BYTES ROWS x.mappings.tables

  -- the stages of `check` have one end
  pub one_check : (c : Contents) → HasOneEnd (CheckStages c files)
  one_check c = one_then (First c) (Next c) (one_limited files c) (next c)

  as_check : (reading : Reading) (judged : Judged) (c : Contents) → Ends (EndsIn (CheckStages c files)) (JudgesIn (CheckStages c files)) reading judged → TellsCheck files reading c judged
  as_check reading judged c h =
      ends_more (EndsIn (CheckStages c files)) (CheckOutcome c files) (JudgesIn (CheckStages c files)) (JudgesIn (CheckStages c files)) reading judged.status judged.text.items
      (λ status text k. inl k) (λ name k. k) h

  tables_as : (spec : Spec) (decls : List TableDecl) (reading : Reading) (more : Part (List (List Row))) → decls ≡ spec.tables → (c : Contents) (documents : Documents) → IsSpecOf documents spec
      → TellsTables decls reading c more → TellsAs Itself (Next c documents) reading more
  tables_as spec decls reading more declared c documents is h =
      as_itself (Next c documents) reading more (subst (λ ds. TellsPart (TablesStages c ds) reading more) (declared ∙ is.tables) h)

  -- the specification or a limit ends the run
  pub limited_end : (told : Option Contents) (reading : Reading) (what : Part Spec) (judged : Judged) → what ≡ part.Ended judged
      → IfSome told (λ c. TellsLimited files reading c what) → IfSome told (λ c. TellsCheck files reading c judged)
  limited_end told reading what judged e h =
      if_told told _ _ (as_check reading judged)
      (first_ends First Next (one_limited files) next IsSpecOf (Itself {T = List (List Row)}) told reading what judged e h)

  -- a table ends it
  pub tables_end : (told later : Option Contents) (before reading : Reading) (what : Part Spec) (spec : Spec) (decls : List TableDecl) (more : Part (List (List Row))) (judged : Judged)
      → later ≡ told → decls ≡ spec.tables → what ≡ part.Read spec → more ≡ part.Ended judged
      → IfSome told (λ c. TellsLimited files before c what) → IfSome later (λ c. TellsTables decls reading c more) → IfSome told (λ c. TellsCheck files reading c judged)
  tables_end told later before reading what spec decls more judged kept declared e f h g =
      if_told told _ _ (as_check reading judged)
      (next_ends First Next (one_limited files) next IsSpecOf Itself told later before reading what spec more judged (λ c. TellsTables decls reading c more)
      kept e f (tables_as spec decls reading more declared) h g)

  checked_at : (spec : Spec) (tables : List (List Row)) (reading : Reading) (judged : Judged) (c : Contents)
      → TellsWhether (theory_of spec) spec.tables spec.maps tables judged.status judged.text.items
      → ReadsBoth First Next (one_limited files) next IsSpecOf Itself spec tables c → TellsCheck files reading c judged
  checked_at spec tables reading judged c h r =
      ends_event (CheckOutcome c files) (JudgesIn (CheckStages c files)) reading judged.status judged.text.items
      (whether_answers (theory_of spec) spec.tables spec.maps tables judged.status judged.text.items h)
      (inr (
        r.stages,
        (r.read, tables),
        subst (λ (k : List (List Row)). CheckStages c files r.stages (Some (r.read, k))) r.gives r.both,
        whether_in r.read spec tables judged.status judged.text.items r.is h,
      ))

  check_at : (told later : Option Contents) (before reading : Reading) (what : Part Spec) (spec : Spec) (decls : List TableDecl) (more : Part (List (List Row))) (tables : List (List Row)) (judged : Judged)
      → later ≡ told → decls ≡ spec.tables → what ≡ part.Read spec → more ≡ part.Read tables
      → IfSome told (λ c. TellsLimited files before c what) → IfSome later (λ c. TellsTables decls reading c more)
      → TellsWhether (theory_of spec) spec.tables spec.maps tables judged.status judged.text.items
      → IfSome told (λ c. TellsCheck files reading c judged)
  check_at told later before reading what spec decls more tables judged kept declared e f h g model =
      if_told told _ _ (λ c r. checked_at spec tables reading judged c model r)
      (both_read First Next (one_limited files) next IsSpecOf Itself told later before reading what spec more tables (λ c. TellsTables decls reading c more)
      kept e f (tables_as spec decls reading more declared) h g)

  -- nothing ends it before the check
  pub check_told : (told later : Option Contents) (before reading : Reading) (what : Part Spec) (spec : Spec) (decls : List TableDecl) (more : Part (List (List Row))) (tables : Tables) (r : Result Judged NoMemory)
      → later ≡ told → decls ≡ spec.tables → what ≡ part.Read spec → more ≡ part.Read tables.list
      → IfSome told (λ c. TellsLimited files before c what) → IfSome later (λ c. TellsTables decls reading c more)
      → IfOk r (TellsWhetherOf spec tables) → IfOk r (λ judged. IfSome told (λ c. TellsCheck files reading c judged))
  check_told told later before reading what spec decls more tables (Err none) kept declared e f h g model = tt
  check_told told later before reading what spec decls more tables (Ok judged) kept declared e f h g model =
      check_at told later before reading what spec decls more tables.list judged kept declared e f h g model

-- breaches and conflicts

module _ (spec : Spec) (tables : List (List Row)) where
  -- what some rows of the tables break, all rows break
  pub whole_broken : (rows : List RowId) (origin : Origin) → IsBrokenBy spec tables rows origin → AllByRecursion (IsOfTables tables) rows → HaveNoModel (theory_of spec) spec.tables spec.maps tables
  whole_broken rows origin b of =
      let theory = theory_of spec in
      let F = FactsOf spec tables (IsAmong rows) in
      let G = FactsOf spec tables (IsOfTables tables) in
      let more : (row : RowId) → IsAmong rows row → IsOfTables tables row = λ row i. each_in (IsOfTables tables) row rows of i in
      let grow : (f : Fact Term) → F f → G f = λ f h. facts_grow spec.tables tables spec.maps (IsAmong rows) (IsOfTables tables) f more h in
      (origin, breaks_grow (HoldsBy theory F) (HoldsBy theory G) (holds_grows F G grow (stated theory)) theory origin b)

  -- rows among rows of the tables are such
  pub of_tables : (rows found : List RowId) → AllByRecursion (IsOfTables tables) rows → AllByRecursion (IsAmong rows) found → AllByRecursion (IsOfTables tables) found
  of_tables rows found of within =
      in_each (IsOfTables tables) found (λ row i. each_in (IsOfTables tables) row rows of (each_in (IsAmong rows) row found within i))

none_here : (k n : ℕ) → 1 ≤ n → n ≤ length (get_or {A = List Row} [] k []) → ⊥
none_here k n low high = omega (low, high, arith)

row_in : (tables : List (List Row)) (k n : ℕ) → 1 ≤ n → n ≤ length (get_or tables k []) → k < length tables
row_in [] k n low high = absurd (none_here k n low high)
row_in (rows ∷ tables) zero n low high = omega arith
row_in (rows ∷ tables) (suc k) n low high = let h = row_in tables k n low high in omega (h, arith)

-- rows of the tables have declared tables
pub have_tables : (decls : List TableDecl) (tables : List (List Row)) (rows : List RowId) → Fits decls tables → AllByRecursion (IsOfTables tables) rows → AllByRecursion (IsDeclared decls) rows
have_tables decls tables rows fits of =
    in_each (IsDeclared decls) rows (λ row i.
    let is = each_in (IsOfTables tables) row rows of i in
    let less = row_in tables row.table row.number is.0 is.1 in
    let same = zip_length _ decls tables fits in
    omega (less, same, arith))

-- the breach that was found over all rows
pub found_breach : (spec asked : Spec) (tables : List (List Row)) (only : Option (List RowId)) (found : Option Breach) (breach : Breach) → asked ≡ spec → only ≡ None → found ≡ Some breach
    → TellsModel asked tables only found → IsBreachOf spec tables None breach
found_breach spec asked tables only found breach same all some h =
    subst (λ s. IsBreachOf s tables None breach) same (subst (λ o. IsBreachOf asked tables o breach) all (subst (TellsModel asked tables only) some h))

-- none was found over all rows
pub found_none : (spec asked : Spec) (tables : List (List Row)) (only : Option (List RowId)) (found : Option Breach) → asked ≡ spec → only ≡ None → found ≡ None
    → TellsModel asked tables only found → HaveNoModel (theory_of spec) spec.tables spec.maps tables → ⊥
found_none spec asked tables only found same all none h =
    subst (λ s. TellsModel s tables None None) same (subst (λ o. TellsModel asked tables o None) all (subst (TellsModel asked tables only) none h))

-- a conflict is told where a breach was found
pub conflict_told : (spec : Spec) (tables : Tables) (breach : Breach) (r : Result Judged NoMemory) → IsBreachOf spec tables.list None breach → IfOk r (IsConflictOf spec tables) → IfOk r (TellsWhetherOf spec tables)
conflict_told spec tables breach (Err none) b h = tt
conflict_told spec tables breach (Ok judged) b h = inl (whole_broken spec tables.list breach.hit.rows breach.origin b.broken b.within, h)

-- the text of a conflict among the rows of a breach is printed
pub conflict_printed : (spec asked : Spec) (tables : List (List Row)) (breach : Breach) (found : Conflicting) (decls : List TableDecl) (rows : List RowId) (text : List ℕ)
    → asked ≡ spec → decls ≡ spec.tables → rows ≡ found.rows → AllByRecursion (IsOfTables tables) breach.hit.rows
    → IsConflict asked tables found.rows → IsBrokenBy asked tables found.rows found.origin → AllByRecursion (IsAmong breach.hit.rows) found.rows
    → IsConflictText found.origin decls rows text → PrintsConflict (theory_of spec) spec.tables spec.maps tables st.Conflict text
conflict_printed spec asked tables breach found decls rows text same declared listed of conflict broken within is = record {
  conflicts = refl;
  origin = found.origin;
  rows = found.rows;
  among = of_tables spec tables breach.hit.rows found.rows of within;
  conflict = subst (λ s. IsConflict s tables found.rows) same conflict;
  by = subst (λ s. IsBrokenBy s tables found.rows found.origin) same broken;
  is = subst (λ ds. IsConflictText found.origin ds found.rows text) declared (subst (λ rs. IsConflictText found.origin decls rs text) listed is);
}

-- the columns of a specification's tables have numbers

columns_few : (decls : List TableDecl) (table : TableDecl) → In table decls → ∥ TablesHaveNumbers decls ∥₁ → (length table.columns < 4294967295) ⊎ (4294967295 ≤ length table.columns) → IsNumbered table
columns_few decls table i told (inl less) = less
columns_few decls table i told (inr more) =
    absurd (∥∥₁_elim told (λ a b. absurd a) (λ numbers. let less = each_in (λ (t : TableDecl). HasNumbers t.columns) table decls numbers.of_columns i in omega (less, more, arith)))

-- each table of a specification has columns that have numbers
pub tables_counted : (spec : Spec) (slice : List TableDecl) → slice ≡ spec.tables → AllByRecursion IsNumbered slice
tables_counted spec slice same =
    subst (AllByRecursion IsNumbered) (sym same)
    (in_each IsNumbered spec.tables (λ table i. columns_few spec.tables table i spec.tables_numbered (cases_lt (length table.columns) 4294967295)))
