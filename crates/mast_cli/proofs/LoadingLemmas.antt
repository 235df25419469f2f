-- Tables that are loaded one after the other.
use Rattle.std.proofs.Common.{◌≡◌, ◌+◌, ◌-◌, ◌<◌, ◌≤◌, inl, inr, ℕ, List, [], ◌∷◌, ◌++◌, Option, Some, None, IfSome, length, drop, get_or, subst, sym, ap, ◌∙◌, refl, append_assoc, append-nil}
use Rattle.std.proofs.lemmas.List.{drop_all}
use Rattle.std.specs.Prelude.{option_map}
use Rattle.std.specs.List.{AllByRecursion}
use Rattle.mast_canon.specs.Fitting.{Fits, IsRowOf}
use Rattle.mast_files.specs.Outside.{Contents, Reading}
use Rattle.mast_terms.proofs.PlaceLemmas.{drop-next}
use Rattle.mast_tables.specs.declared.declaration.TableDecl.{TableDecl}
use Rattle.mast_tables.specs.Rows.{Row}
use Rattle.mast_write.specs.declared.refusals.Refusal.{Refusal}
use Rattle.mast_cli.specs.declared.judged.Judged.{Judged}
use Rattle.mast_cli.specs.declared.judged.Part.{Part}
use Rattle.mast_cli.specs.declared.judged.Part.TheVariants as part
use Rattle.mast_cli.specs.declared.tables.Left.{Left}
use Rattle.mast_cli.specs.declared.status.Status.{Status}
use Rattle.mast_cli.specs.FirstEvent.{Trail, ended, first_event, IsJudgedIn, passed, Then}
use Rattle.mast_cli.specs.Outcome.{EndsIn}
use Rattle.mast_cli.specs.inside.Loading.{TellsTable}
use Rattle.mast_cli.specs.inside.Telling.{AtEvent, Ends, JudgesIn}
use Rattle.mast_cli.specs.stage.Tables.{TableEvent, IsTable, TableStage, StagesFrom, TablesStages}
use Rattle.mast_cli.specs.declared.limits.TheConstants.{TABLE_BYTES, ROWS}
use Rattle.mast_cli.proofs.FirstEventLemmas.{first-append, judged-later, judged-before}
use Rattle.mast_cli.proofs.TablesLemmas.{FilesHaveAnswers, one_from}
use Rattle.mast_cli.proofs.TellingLemmas.{ends_more, reads_judged}

-- Tables that were loaded: their stages have no event, and those of the tables that are left complete the stages of all.
pub record Gone (contents : Contents) (tables left : List TableDecl) (bytes rows : ℕ) (loaded : List (List Row)) : Type 0 where
  pub stages : Trail
  pub quiet : first_event stages ≡ None
  pub rest : (more : Trail) (end : Option (List (List Row))) → StagesFrom contents bytes rows left more end
      → TablesStages contents tables (stages ++ more) (option_map (λ later. loaded ++ later) end)

no_more : (end : Option (List (List Row))) → option_map (λ later. [] ++ later) end ≡ end
no_more None = refl
no_more (Some later) = refl

-- none was loaded yet
pub gone_none : (contents : Contents) (tables : List TableDecl) → Gone contents tables tables TABLE_BYTES ROWS []
gone_none contents tables = record {
  stages = [];
  quiet = refl;
  rest = λ more end h. subst (λ e. TablesStages contents tables more e) (sym (no_more end)) h;
}

module _ (contents : Contents) (table : TableDecl) (left : List TableDecl) (bytes rows : ℕ) where
  abbrev fewer_bytes : ℕ
  fewer_bytes = bytes - length (contents table.file)

  -- the stages behind a table that was loaded
  more_stages : (loaded : List Row) → IsTable bytes rows table (contents table.file) loaded → (more : Trail) (end : Option (List (List Row)))
      → StagesFrom contents fewer_bytes (rows - length loaded) left more end
      → StagesFrom contents bytes rows (table ∷ left) (passed table.file ∷ more) (option_map (λ later. loaded ∷ later) end)
  more_stages loaded is more None h = (None, inr (loaded, passed table.file ∷ [], more, (is, refl), h, refl), refl)
  more_stages loaded is more (Some later) h = (Some (loaded, later), (passed table.file ∷ [], more, (is, refl), h, refl), refl)

  -- the stage of a table at its event
  event_stage : (event : Refusal) → TableEvent bytes rows table (contents table.file) event → StagesFrom contents bytes rows (table ∷ left) (ended table.file event ∷ []) None
  event_stage event h = (None, inl (event, h, refl), refl)

  here_judged : (stages : Trail) (loaded : Option (List Row)) → TableStage contents bytes rows table stages loaded → IsJudgedIn stages table.file
  here_judged stages loaded h = reads_judged table.file (TableEvent bytes rows table (contents table.file)) (IsTable bytes rows table (contents table.file)) stages loaded h

  front_judged : (stages : Trail) (both : Option (List Row × List (List Row)))
      → Then (TableStage contents bytes rows table) (λ loaded. StagesFrom contents fewer_bytes (rows - length loaded) left) stages both → IsJudgedIn stages table.file
  front_judged stages None (inl h) = here_judged stages None h
  front_judged stages None (inr h) = subst (λ s. IsJudgedIn s table.file) (sym h.5) (judged-before h.1 h.2 table.file (here_judged h.1 (Some h.0) h.3))
  front_judged stages (Some both) h = subst (λ s. IsJudgedIn s table.file) (sym h.4) (judged-before h.0 h.1 table.file (here_judged h.0 (Some both.0) h.2))

  module _ (tables : List TableDecl) (before : List (List Row)) (gone : Gone contents tables (table ∷ left) bytes rows before) where
    behind : (loaded : List Row) → IsTable bytes rows table (contents table.file) loaded → (more : Trail) (end : Option (List (List Row)))
        → StagesFrom contents fewer_bytes (rows - length loaded) left more end
        → TablesStages contents tables ((gone.stages ++ passed table.file ∷ []) ++ more) (option_map (λ later. (before ++ loaded ∷ []) ++ later) end)
    behind loaded is more None h =
        subst (λ s. TablesStages contents tables s None) (sym (append_assoc gone.stages (passed table.file ∷ []) more))
        (gone.rest (passed table.file ∷ more) None (more_stages loaded is more None h))
    behind loaded is more (Some later) h =
        subst (λ s. TablesStages contents tables s (Some ((before ++ loaded ∷ []) ++ later))) (sym (append_assoc gone.stages (passed table.file ∷ []) more))
        (subst (λ l. TablesStages contents tables (gone.stages ++ (passed table.file ∷ more)) (Some l)) (sym (append_assoc before (loaded ∷ []) later))
        (gone.rest (passed table.file ∷ more) (Some (loaded ∷ later)) (more_stages loaded is more (Some later) h)))

    -- one more was loaded
    pub gone_more : (loaded : List Row) (bytes_left rows_left : ℕ) (after : List (List Row)) → IsTable bytes rows table (contents table.file) loaded
        → bytes_left ≡ fewer_bytes → rows_left ≡ rows - length loaded → after ≡ before ++ loaded ∷ []
        → Gone contents tables left bytes_left rows_left after
    gone_more loaded bytes_left rows_left after is same_bytes same_rows same =
        subst (λ b. Gone contents tables left b rows_left after) (sym same_bytes)
        (subst (λ r. Gone contents tables left fewer_bytes r after) (sym same_rows)
        (subst (λ l. Gone contents tables left fewer_bytes (rows - length loaded) l) (sym same)
        (record {
          stages = gone.stages ++ passed table.file ∷ [];
          quiet = first-append gone.stages (passed table.file ∷ []) gone.quiet;
          rest = behind loaded is;
        })))

    event_ends : (status : Status) (text : List ℕ) → AtEvent (TableEvent bytes rows table (contents table.file)) status text → EndsIn (TablesStages contents tables) status text
    event_ends status text h =
        (gone.stages ++ ended table.file h.0 ∷ [], h.0, gone.rest (ended table.file h.0 ∷ []) None (event_stage h.0 h.1), first-append gone.stages (ended table.file h.0 ∷ []) gone.quiet, h.2)

    file_judged : FilesHaveAnswers → (name : List ℕ) → name ≡ table.file → JudgesIn (TablesStages contents tables) name
    file_judged any name same =
        let some = (one_from any contents bytes rows (table ∷ left)).some in
        let h = some.2 in (
          gone.stages ++ some.0,
          option_map (λ later. before ++ later) some.1,
          gone.rest some.0 some.1 h,
          judged-later gone.stages some.0 name gone.quiet (subst (λ n. IsJudgedIn some.0 n) (sym same) (front_judged some.0 h.0 h.1)),
        )

    -- the next one ends the run
    pub gone_ended : FilesHaveAnswers → (reading : Reading) (judged : Judged) → Ends (AtEvent (TableEvent bytes rows table (contents table.file))) (λ current. current ≡ table.file) reading judged
        → Ends (EndsIn (TablesStages contents tables)) (JudgesIn (TablesStages contents tables)) reading judged
    gone_ended any reading judged h =
        ends_more (AtEvent (TableEvent bytes rows table (contents table.file))) (EndsIn (TablesStages contents tables)) (λ current. current ≡ table.file) (JudgesIn (TablesStages contents tables)) reading judged.status judged.text.items
        event_ends (file_judged any) h

-- all were loaded
pub gone_all : (contents : Contents) (tables : List TableDecl) (bytes rows : ℕ) (loaded : List (List Row)) → Gone contents tables [] bytes rows loaded
    → (stages : Trail) × TablesStages contents tables stages (Some loaded)
gone_all contents tables bytes rows loaded gone =
    (gone.stages ++ [], subst (λ l. TablesStages contents tables (gone.stages ++ []) (Some l)) (append-nil loaded) (gone.rest [] (Some []) (refl, refl)))

-- with contents that may be told

-- none was loaded yet
pub gone_start : (told : Option Contents) (tables : List TableDecl) → IfSome told (λ c. Gone c tables tables TABLE_BYTES ROWS [])
gone_start None tables = tt
gone_start (Some contents) tables = gone_none contents tables

module _ (told now : Option Contents) (tables : List TableDecl) (i : ℕ) (table : TableDecl) (left after : Left) (loaded : List (List Row)) (reading : Reading) (what : Part (List Row))
    (less : i < length tables) (here : table ≡ get_or tables i table) (kept : now ≡ told) where
  -- one more was loaded
  pub gone_step : (rows : List Row) (more : List (List Row)) → what ≡ part.Read rows → more ≡ loaded ++ rows ∷ []
      → IfSome told (λ c. Gone c tables (drop i tables) left.bytes left.rows loaded) → IfSome now (λ c. TellsTable left after table reading c what)
      → IfSome told (λ c. Gone c tables (drop (i + 1) tables) after.bytes after.rows more)
  gone_step rows more read grown gone tells = step told (subst (λ o. IfSome o (λ c. TellsTable left after table reading c what)) kept tells) gone
    where
      step : (o : Option Contents) → IfSome o (λ c. TellsTable left after table reading c what) → IfSome o (λ c. Gone c tables (drop i tables) left.bytes left.rows loaded)
          → IfSome o (λ c. Gone c tables (drop (i + 1) tables) after.bytes after.rows more)
      step None h g = tt
      step (Some contents) h g =
          let is = subst (λ p. TellsTable left after table reading contents p) read h in
          let before = subst (λ ts. Gone contents tables ts left.bytes left.rows loaded) (drop-next tables tables i table refl less here) g in
          gone_more contents table (drop (i + 1) tables) left.bytes left.rows tables loaded before rows after.bytes after.rows more is.0 is.1.0 is.1.1 grown

  -- the next one ends the run
  pub gone_stop : FilesHaveAnswers → (judged : Judged) → what ≡ part.Ended judged
      → IfSome told (λ c. Gone c tables (drop i tables) left.bytes left.rows loaded) → IfSome now (λ c. TellsTable left after table reading c what)
      → IfSome told (λ c. Ends (EndsIn (TablesStages c tables)) (JudgesIn (TablesStages c tables)) reading judged)
  gone_stop any judged ended gone tells = stop told (subst (λ o. IfSome o (λ c. TellsTable left after table reading c what)) kept tells) gone
    where
      stop : (o : Option Contents) → IfSome o (λ c. TellsTable left after table reading c what) → IfSome o (λ c. Gone c tables (drop i tables) left.bytes left.rows loaded)
          → IfSome o (λ c. Ends (EndsIn (TablesStages c tables)) (JudgesIn (TablesStages c tables)) reading judged)
      stop None h g = tt
      stop (Some contents) h g =
          let is = subst (λ p. TellsTable left after table reading contents p) ended h in
          let before = subst (λ ts. Gone contents tables ts left.bytes left.rows loaded) (drop-next tables tables i table refl less here) g in
          gone_ended contents table (drop (i + 1) tables) left.bytes left.rows tables loaded before any reading judged is

-- all were loaded
pub gone_end : (told : Option Contents) (tables : List TableDecl) (i bytes rows : ℕ) (loaded : List (List Row)) → length tables ≤ i
    → IfSome told (λ c. Gone c tables (drop i tables) bytes rows loaded) → IfSome told (λ c. (stages : Trail) × TablesStages c tables stages (Some loaded))
gone_end None tables i bytes rows loaded over gone = tt
gone_end (Some contents) tables i bytes rows loaded over gone =
    gone_all contents tables bytes rows loaded (subst (λ ts. Gone contents tables ts bytes rows loaded) (drop_all i tables over) gone)

-- tables that fit, with one more
pub fits_more : (tables : List TableDecl) (i : ℕ) (table : TableDecl) (rows : List Row) (before after : List (List Row)) → i < length tables → table ≡ get_or tables i table
    → ((more : List (List Row)) → Fits (drop i tables) more → Fits tables (before ++ more)) → AllByRecursion (IsRowOf table) rows → after ≡ before ++ rows ∷ []
    → (more : List (List Row)) → Fits (drop (i + 1) tables) more → Fits tables (after ++ more)
fits_more tables i table rows before after less here fits row grown more h =
    let behind : Fits (drop i tables) (rows ∷ more) = subst (λ ts. Fits ts (rows ∷ more)) (sym (drop-next tables tables i table refl less here)) (row, h) in
    let same : after ++ more ≡ before ++ (rows ∷ more) = ap (λ l. l ++ more) grown ∙ append_assoc before (rows ∷ []) more in
    subst (λ l. Fits tables l) (sym same) (fits (rows ∷ more) behind)

-- all of them fit
pub fits_all : (tables : List TableDecl) (i : ℕ) (loaded : List (List Row)) → length tables ≤ i
    → ((more : List (List Row)) → Fits (drop i tables) more → Fits tables (loaded ++ more)) → Fits tables loaded
fits_all tables i loaded over fits =
    subst (λ l. Fits tables l) (append-nil loaded) (fits [] (subst (λ ts. Fits ts []) (sym (drop_all i tables over)) tt))
