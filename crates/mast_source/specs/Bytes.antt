-- Bytes by name.
use Rattle.std.specs.Prelude.{ℕ, ◌&&◌, nat_le, Bool}

-- `"`
abbrev pub quote : ℕ
quote = 0x22

-- `'`
abbrev pub single_quote : ℕ
single_quote = 0x27

-- `\`
abbrev pub backslash : ℕ
backslash = 0x5C

-- `#`
abbrev pub hash : ℕ
hash = 0x23

-- `:`
abbrev pub colon : ℕ
colon = 0x3A

-- `<`
abbrev pub less : ℕ
less = 0x3C

-- `>`
abbrev pub greater : ℕ
greater = 0x3E

-- `=`
abbrev pub equals : ℕ
equals = 0x3D

-- `^`
abbrev pub caret : ℕ
caret = 0x5E

-- `.`
abbrev pub dot : ℕ
dot = 0x2E

-- `,`
abbrev pub comma : ℕ
comma = 0x2C

-- `-`
abbrev pub dash : ℕ
dash = 0x2D

-- `_`
abbrev pub underscore : ℕ
underscore = 0x5F

-- `?`
abbrev pub question : ℕ
question = 0x3F

-- space
abbrev pub space : ℕ
space = 0x20

-- tab
abbrev pub tab : ℕ
tab = 0x09

-- line feed
abbrev pub line_feed : ℕ
line_feed = 0x0A

-- carriage return
abbrev pub carriage_return : ℕ
carriage_return = 0x0D

-- `(`
abbrev pub open_parenthesis : ℕ
open_parenthesis = 0x28

-- `)`
abbrev pub close_parenthesis : ℕ
close_parenthesis = 0x29

-- `@`
abbrev pub at_sign : ℕ
at_sign = 0x40

-- `%`
abbrev pub percent : ℕ
percent = 0x25

-- `$`
abbrev pub dollar : ℕ
dollar = 0x24

-- `!`
abbrev pub exclamation : ℕ
exclamation = 0x21

-- the letters `a` to `z`
abbrev pub is_lower : ℕ → Bool
is_lower b = nat_le 0x61 b && nat_le b 0x7A

-- the letters `A` to `Z`
abbrev pub is_upper : ℕ → Bool
is_upper b = nat_le 0x41 b && nat_le b 0x5A

-- the digits `0` to `9`
abbrev pub is_digit : ℕ → Bool
is_digit b = nat_le 0x30 b && nat_le b 0x39

-- the bytes of each character from U+0080 on
abbrev pub is_beyond_ascii : ℕ → Bool
is_beyond_ascii b = nat_le 0x80 b
