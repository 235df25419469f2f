-- The records of a table file.
use Rattle.std.specs.Prelude.{ℕ, ◌+◌, List, length}
use Rattle.csv.specs.Reading.{default_config, records_from, strip_bom}
use Rattle.csv.specs.declared.parser.State.TheVariants as st

-- a record: its cells, each a text of bytes
abbrev pub Record : Type 0
Record = List (List ℕ)

-- the records of a file, as the `csv` crate reads them after one leading byte order mark: the law `records_are_all`
-- says that they are all
abbrev pub records_of : List ℕ → List Record
records_of bytes = records_from default_config (length bytes + 1) st.StartRecord (strip_bom bytes)
