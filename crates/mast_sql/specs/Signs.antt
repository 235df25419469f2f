-- Bytes of signs by name, beside those of mast_source.
use Rattle.std.specs.Prelude.{ℕ}

-- `+`
abbrev pub plus : ℕ
plus = 0x2B

-- `;`
abbrev pub semicolon : ℕ
semicolon = 0x3B

-- `{`
abbrev pub open_brace : ℕ
open_brace = 0x7B

-- `}`
abbrev pub close_brace : ℕ
close_brace = 0x7D
