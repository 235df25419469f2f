-- The lines of the facts that split mappings give of chosen rows.
use Rattle.std.specs.Prelude.{ℕ, List, Option, option_map}
use Rattle.std.specs.Option.{option_to_list}
use Rattle.mast_canon.specs.Choices.{chosen}
use Rattle.mast_canon.specs.Facts.{fact_of}
use Rattle.mast_mapping.specs.declared.split_map.SplitMap.{SplitMap}
use Rattle.mast_tables.specs.declared.declaration.TableDecl.{TableDecl}
use Rattle.mast_tables.specs.Rows.{Row}
use Rattle.mast_terms.specs.Vocabularies.{Lists}
use Rattle.mast_write.specs.FactLines.{fact_line, printed}

-- the line of the fact that a split mapping gives of chosen rows, if no cell that it uses is missing
abbrev pub line_of : Lists → List TableDecl → SplitMap → List Row → Option (List ℕ)
line_of vocab tables mapping rows =
    option_map (λ fact. fact_line vocab (printed fact)) (fact_of tables mapping.query rows mapping.head)

-- what a plan prints the facts of: a split mapping over declared tables, with the vocabulary of its names
pub record Planned : Type 0 where
  pub vocab : Lists
  pub tables : List TableDecl
  pub mapping : SplitMap

-- the line of the fact that it gives of the rows of a choice, if no cell that it uses is missing
abbrev pub chosen_line : Planned → List (List Row) → List ℕ → Option (List ℕ)
chosen_line planned tables choice =
    line_of planned.vocab planned.tables planned.mapping (chosen planned.tables tables planned.mapping.query.from choice)

-- that line alone, or none
abbrev pub chosen_lines : Planned → List (List Row) → List ℕ → List (List ℕ)
chosen_lines planned tables choice = option_to_list (chosen_line planned tables choice)
