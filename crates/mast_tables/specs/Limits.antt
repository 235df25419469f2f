-- How large a table may be.
use Rattle.std.specs.Prelude.{ℕ}

-- the most cells of any table, so that a value's number and one stand in 32 bits
abbrev pub most_cells : ℕ
most_cells = 4294967295

-- the most cells of a table that is made of values
abbrev pub most_given : ℕ
most_given = 4000000000
