-- What the parts of `facts` tell together.
use Rattle.std.proofs.Common.{◌≡◌, inl, inr, ℕ, List, ◌++◌, Option, Some, None, IfSome, subst, refl, sym, ◌∙◌}
use Rattle.std.specs.List.{AllByRecursion}
use Rattle.mast_canon.specs.Premises.{AreMappings}
use Rattle.mast_canon.proofs.OverLemmas.{split_in_range, split_over_tables}
use Rattle.mast_files.specs.Outside.{Contents, Reading}
use Rattle.mast_mapping.specs.declared.map.Mappings.{Mappings}
use Rattle.mast_mapping.specs.declared.split_map.SplitMap.{SplitMap}
use Rattle.mast_mapping.specs.Split.{split_maps}
use Rattle.mast_tables.specs.declared.declaration.TableDecl.{TableDecl}
use Rattle.mast_tables.specs.Rows.{Row}
use Rattle.mast_terms.specs.Vocabularies.{Lists}
use Rattle.mast_write.specs.LineText.{IsTextOf}
use Rattle.mast_cli.specs.declared.judged.Judged.{Judged}
use Rattle.mast_cli.specs.declared.judged.Part.{Part}
use Rattle.mast_cli.specs.declared.judged.Part.TheVariants as part
use Rattle.mast_cli.specs.declared.limits.TheConstants.{TABLE_BYTES, ROWS}
use Rattle.mast_cli.specs.declared.status.Status.TheVariants as st
use Rattle.mast_cli.specs.command.Facts.{FactsStages, IsLineOfFact}
use Rattle.mast_cli.specs.FirstEvent.{Trail}
use Rattle.mast_cli.specs.Outcome.{EndsIn, FactsOutcome}
use Rattle.mast_cli.specs.stage.Document.{MappingsStage, nothing_named}
use Rattle.mast_cli.specs.stage.Tables.{TablesStages}
use Rattle.mast_cli.specs.inside.Causes.{PartHasCause}
use Rattle.mast_cli.specs.inside.FactLines.{AreMaps, IsLineOf}
use Rattle.mast_cli.specs.inside.Loading.{IsNumbered}
use Rattle.mast_cli.specs.inside.Telling.{Ends, IfRead, JudgesIn, TellsFacts, TellsPart}
use Rattle.mast_cli.proofs.FactsTextLemmas.{text_of_facts}
use Rattle.mast_cli.proofs.MappingsLemmas.{nothing_is_lawful, one_mappings}
use Rattle.mast_cli.proofs.TablesLemmas.{FilesHaveAnswers, one_from}
use Rattle.mast_cli.proofs.TellingLemmas.{ends_more, first_ended, next_ended}

module _ (any : FilesHaveAnswers) (contents : Contents) (file : List ℕ) where
  abbrev Next : Mappings → Trail → Option (List (List Row)) → Type 0
  Next mappings = TablesStages contents mappings.tables

  as_facts : (reading : Reading) (judged : Judged) → Ends (EndsIn (FactsStages contents file)) (JudgesIn (FactsStages contents file)) reading judged → TellsFacts file reading contents judged
  as_facts reading judged h =
      ends_more (EndsIn (FactsStages contents file)) (FactsOutcome contents file) (JudgesIn (FactsStages contents file)) (JudgesIn (FactsStages contents file)) reading judged.status judged.text.items
      (λ status text k. inl k) (λ name k. k) h

  mappings_end : (reading : Reading) (judged : Judged) → Ends (EndsIn (MappingsStage nothing_named contents file)) (JudgesIn (MappingsStage nothing_named contents file)) reading judged → TellsFacts file reading contents judged
  mappings_end reading judged h =
      as_facts reading judged
      (first_ended (MappingsStage nothing_named contents file) Next (one_mappings nothing_named nothing_is_lawful contents file) (λ s m k. one_from any contents TABLE_BYTES ROWS m.tables) reading judged h)

  tables_end : (mappings : Mappings) (before : Trail) → MappingsStage nothing_named contents file before (Some mappings) → (reading : Reading) (judged : Judged)
      → Ends (EndsIn (TablesStages contents mappings.tables)) (JudgesIn (TablesStages contents mappings.tables)) reading judged → TellsFacts file reading contents judged
  tables_end mappings before h reading judged g =
      as_facts reading judged
      (next_ended (MappingsStage nothing_named contents file) Next (one_mappings nothing_named nothing_is_lawful contents file) (λ s m k. one_from any contents TABLE_BYTES ROWS m.tables) mappings before h reading judged g)

-- the mapping document ends the run
pub mappings_ended : FilesHaveAnswers → (told : Option Contents) (file : List ℕ) (reading : Reading) (first : Part Mappings) (judged : Judged) → first ≡ part.Ended judged
    → IfSome told (λ c. TellsPart (MappingsStage nothing_named c file) reading first) → IfSome told (λ c. TellsFacts file reading c judged)
mappings_ended any None file reading first judged e h = tt
mappings_ended any (Some contents) file reading first judged e h =
    mappings_end any contents file reading judged (subst (λ p. TellsPart (MappingsStage nothing_named contents file) reading p) e h)

-- what is told of the tables of declarations is told of those of the mappings
of_mappings : (told later : Option Contents) (mappings : Mappings) (decls : List TableDecl) (reading : Reading) (second : Part (List (List Row))) → later ≡ told → decls ≡ mappings.tables
    → IfSome later (λ c. TellsPart (TablesStages c decls) reading second) → IfSome told (λ c. TellsPart (TablesStages c mappings.tables) reading second)
of_mappings told later mappings decls reading second kept declared h =
    subst (λ ds. IfSome told (λ c. TellsPart (TablesStages c ds) reading second)) declared (subst (λ o. IfSome o (λ c. TellsPart (TablesStages c decls) reading second)) kept h)

-- a table ends it
pub tables_ended : FilesHaveAnswers → (told later : Option Contents) (file : List ℕ) (before reading : Reading) (first : Part Mappings) (mappings : Mappings) (decls : List TableDecl) (second : Part (List (List Row))) (judged : Judged)
    → later ≡ told → decls ≡ mappings.tables → first ≡ part.Read mappings → second ≡ part.Ended judged
    → IfSome told (λ c. TellsPart (MappingsStage nothing_named c file) before first) → IfSome later (λ c. TellsPart (TablesStages c decls) reading second)
    → IfSome told (λ c. TellsFacts file reading c judged)
tables_ended any None later file before reading first mappings decls second judged kept declared read ended h g = tt
tables_ended any (Some contents) later file before reading first mappings decls second judged kept declared read ended h g =
    let front = subst (λ p. TellsPart (MappingsStage nothing_named contents file) before p) read h in
    let rest = of_mappings (Some contents) later mappings decls reading second kept declared g in
    tables_end any contents file mappings front.0 front.1 reading judged (subst (λ p. TellsPart (TablesStages contents mappings.tables) reading p) ended rest)

-- what a specification has of mappings

module _ (mappings : Mappings) (vocab : Lists) (decls : List TableDecl) (maps : List SplitMap) (named : vocab ≡ mappings.vocab) (declared : decls ≡ mappings.tables) (split : maps ≡ split_maps mappings.maps) where
  -- the split mappings are over its tables
  pub are_maps : (first : Part Mappings) → first ≡ part.Read mappings → IfRead AreMappings first → AreMaps vocab decls maps
  are_maps first read h =
      let are = subst (IfRead AreMappings) read h in
      let of : AreMaps mappings.vocab mappings.tables (split_maps mappings.maps) = record {
        named = split_in_range mappings.vocab mappings.maps are.names;
        over = split_over_tables mappings.tables mappings.maps are.over;
        numbered = are.tables;
      } in
      subst (λ v. AreMaps v decls maps) (sym named) (subst (λ ds. AreMaps mappings.vocab ds maps) (sym declared) (subst (λ ms. AreMaps mappings.vocab mappings.tables ms) (sym split) of))

  -- their lines are those of the facts
  pub same_facts : (tables : List (List Row)) (text : List ℕ) → IsTextOf (IsLineOf vocab decls tables maps) text → IsTextOf (IsLineOfFact (mappings, tables)) text
  same_facts tables text h =
      text_of_facts (mappings, tables) text
      (subst (λ ms. IsTextOf (IsLineOf mappings.vocab mappings.tables tables ms) text) split
      (subst (λ ds. IsTextOf (IsLineOf mappings.vocab ds tables maps) text) declared (subst (λ v. IsTextOf (IsLineOf v decls tables maps) text) named h)))

-- the columns of the tables have numbers
pub tables_numbered : (mappings : Mappings) (decls slice : List TableDecl) → decls ≡ mappings.tables → slice ≡ decls → (first : Part Mappings) → first ≡ part.Read mappings → IfRead AreMappings first → AllByRecursion IsNumbered slice
tables_numbered mappings decls slice declared same first read h =
    let are = subst (IfRead AreMappings) read h in
    subst (λ ds. AllByRecursion IsNumbered ds) (sym (same ∙ declared)) are.tables.of_columns

-- nothing ends it before the text of the facts
pub facts_done : (told later : Option Contents) (file : List ℕ) (before after : Reading) (first : Part Mappings) (mappings : Mappings) (decls : List TableDecl) (second : Part (List (List Row))) (tables : List (List Row)) (text : List ℕ)
    → later ≡ told → decls ≡ mappings.tables → first ≡ part.Read mappings → second ≡ part.Read tables
    → IfSome told (λ c. TellsPart (MappingsStage nothing_named c file) before first) → IfSome later (λ c. TellsPart (TablesStages c decls) after second)
    → IsTextOf (IsLineOfFact (mappings, tables)) text
    → IfSome told (λ c. FactsOutcome c file st.Done text)
facts_done None later file before after first mappings decls second tables text kept declared read done h g facts = tt
facts_done (Some contents) later file before after first mappings decls second tables text kept declared read done h g facts =
    let front = subst (λ p. TellsPart (MappingsStage nothing_named contents file) before p) read h in
    let rest = subst (λ p. TellsPart (TablesStages contents mappings.tables) after p) done (of_mappings (Some contents) later mappings decls after second kept declared g) in
    inr (front.0 ++ rest.0, (mappings, tables), (front.0, rest.0, front.1, rest.1, refl), (refl, facts))

-- a part that read what it is to read has left the count of faults
pub no_fault : {T : Type 0} (before now : ℕ) (reading : Reading) (what : Part T) (x : T) → what ≡ part.Read x → PartHasCause before now reading what → now ≡ before
no_fault before now reading what x read h = subst (PartHasCause before now reading) read h
