-- Rows by the value of a column, and the numbers that a column's values have in another table.
use Rattle.std.specs.Prelude.{◌≡◌, ℕ, ◌*◌, ◌%◌, ◌<◌, true, List, map, length, get_or, Option, Some, None, option_and_then}
use Rattle.std.specs.List.{All}
use Rattle.mast_terms.specs.declared.value.Value.{Value}
use Rattle.mast_cq.specs.Queries.{In}
use Rattle.mast_tables.specs.Rows.{Row, IsPlace, cell_at, number_at, number_of}
use Rattle.mast_join.specs.declared.index.TheConstants.{SCATTER}
use Rattle.mast_join.specs.declared.index.Index.{Index}
use Rattle.mast_join.specs.declared.numbers.Known.{Known}
use Rattle.mast_join.specs.declared.numbers.Numbers.{Numbers}
use Rattle.mast_join.specs.inside.Chains.{IsIndexed, chain}
use Rattle.mast_join.specs.inside.Partial.{Once}

-- the key of a number, among so many
abbrev pub scattered : ℕ → ℕ → ℕ
scattered count number = (number * SCATTER % 0x1_0000_0000) % count

-- the key of a cell's number; a missing cell has none
abbrev pub key_of : ℕ → Option ℕ → Option ℕ
key_of count None = None
key_of count (Some number) = Some (scattered count number)

-- the keys of rows by a column
abbrev pub keys_of : List Row → ℕ → ℕ → List ℕ → List (Option ℕ)
keys_of table column count rows = map (λ row. key_of count (number_at table row column)) rows

-- the keys of an index
abbrev pub keys : Index → List (Option ℕ)
keys i = keys_of i.table.now i.column (length i.heads.items) i.rows.now

-- the rows are the table's, and are found by their keys
pub record IsIndex (i : Index) : Type 0 where
  pub places : All (λ row. IsPlace i.table.now row i.column) i.rows.now
  pub some : 0 < length i.heads.items
  pub indexed : IsIndexed (keys i) (length i.rows.now) i.heads.items i.nexts.items

-- the rows with the key of a number
abbrev pub numbered : Index → ℕ → List ℕ
numbered i number = map (λ place. get_or i.rows.now place 0) (chain (keys i) (scattered (length i.heads.items) number) (length i.rows.now))

-- where something is noted of a number, each cell with that number has that number in the other table
abbrev pub IsNoted : List Row → ℕ → List Row → Option Known → Type 0
IsNoted from column to None = Unit {0}
IsNoted from column to (Some known) = (row : ℕ) → IsPlace from row column → number_at from row column ≡ Some known.number
    → option_and_then (number_of to) (cell_at from row column) ≡ known.other

-- the note is of this number, and right
pub record IsNoteOf (from : List Row) (column : ℕ) (to : List Row) (number : ℕ) (known : Known) : Type 0 where
  pub its : known.number ≡ number
  pub is_right : IsNoted from column to (Some known)

-- what is noted is right; one table has its own numbers
pub record AreNumbers (n : Numbers) : Type 0 where
  pub one : n.same ≡ true → n.from.now ≡ n.to.now
  pub some : 0 < length n.known.items
  pub noted : All (IsNoted n.from.now n.column n.to.now) n.known.items

-- rows of the index, among them each whose value is the one that the other cell has
pub record IsFound (i : Index) (other : Option Value) (found : List ℕ) : Type 0 where
  pub once : Once i.rows.now → Once found
  pub within : (row : ℕ) → In row found → In row i.rows.now
  pub all : (row : ℕ) (value : Value) → In row i.rows.now → cell_at i.table.now row i.column ≡ Some value → other ≡ Some value → In row found
