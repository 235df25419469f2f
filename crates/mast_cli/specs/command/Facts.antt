-- The command `facts`: the mapping document, then each declared table, and the facts of the mappings over the tables.
use Rattle.std.specs.Prelude.{◌≡◌, ℕ, List, Option}
use Rattle.mast_canon.specs.Facts.{IsFactOf, IsOfTables}
use Rattle.mast_cq.specs.Meanings.{Fact}
use Rattle.mast_files.specs.Outside.{Contents}
use Rattle.mast_mapping.specs.declared.map.Mappings.{Mappings}
use Rattle.mast_mapping.specs.Split.{split_maps}
use Rattle.mast_tables.specs.Rows.{Row}
use Rattle.mast_terms.specs.declared.term.Term.{Term}
use Rattle.mast_write.specs.FactLines.{fact_line, printed}
use Rattle.mast_write.specs.LineText.{IsTextOf}
use Rattle.mast_cli.specs.declared.status.Status.{Status}
use Rattle.mast_cli.specs.declared.status.Status.TheVariants as st
use Rattle.mast_cli.specs.FirstEvent.{Trail, Then}
use Rattle.mast_cli.specs.stage.Document.{MappingsStage, nothing_named}
use Rattle.mast_cli.specs.stage.Tables.{TablesStages}

-- what the stages read: mappings, and the rows of their tables
abbrev pub Read : Type 0
Read = Mappings × List (List Row)

-- the stages: the mapping document, and then each table that it declares, in order
abbrev pub FactsStages : Contents → List ℕ → Trail → Option Read → Type 0
FactsStages contents file stages end =
    Then (MappingsStage nothing_named contents file) (λ mappings. TablesStages contents mappings.tables) stages end

-- Facts(All): the facts that have a support within all rows
abbrev pub IsFact : Read → Fact Term → Type 0
IsFact read fact = IsFactOf read.0.tables read.1 (split_maps read.0.maps) (IsOfTables read.1) fact

-- the line of a fact
pub record IsLineOfFact (read : Read) (line : List ℕ) : Type 0 where
  pub fact : Fact Term
  pub given : IsFact read fact
  pub is : line ≡ fact_line read.0.vocab (printed fact)

-- Done, and the text of Facts(All)
abbrev pub PrintsFacts : Read → Status → List ℕ → Type 0
PrintsFacts read status text = (status ≡ st.Done) × IsTextOf (IsLineOfFact read) text
