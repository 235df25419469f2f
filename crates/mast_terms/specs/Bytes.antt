-- The bytes of cells and of printed terms, by name.
use Rattle.std.specs.Prelude.{ℕ}
use Rattle.std.specs.Str.{byte}

-- the first digit
abbrev pub digit_zero : ℕ
digit_zero = byte "0"

-- the last digit
abbrev pub digit_nine : ℕ
digit_nine = byte "9"

-- a minus, and what stands between the parts of a date
abbrev pub hyphen : ℕ
hyphen = byte "-"

-- a plus
abbrev pub plus : ℕ
plus = byte "+"

-- what stands around a text
abbrev pub double_quote : ℕ
double_quote = byte "\""

-- what escapes a byte
abbrev pub backslash : ℕ
backslash = byte "\\"

-- the end of a line
abbrev pub line_feed : ℕ
line_feed = byte "\n"

-- the start of a line
abbrev pub carriage_return : ℕ
carriage_return = byte "\r"

-- a tab
abbrev pub tab : ℕ
tab = byte "\t"

-- what stands between the arguments of an object
abbrev pub comma : ℕ
comma = byte ","

-- what stands before the arguments of an object
abbrev pub open_paren : ℕ
open_paren = byte "("

-- what stands behind the arguments of an object
abbrev pub close_paren : ℕ
close_paren = byte ")"
