-- Identifiers and constants, as constraints and mappings write them.
use Rattle.std.specs.Prelude.{◌≡◌, ℕ, ℤ, ◌==◌, ◌&&◌, ◌||◌, not, Bool, true, false, if◌then◌else◌, List, [], ◌∷◌, Option, Some, None, Result, Ok, Err, codes, map}
use Rattle.std.specs.Char.{is_ascii_digit, is_ascii_alphanumeric}
use Rattle.std.specs.Str.{bytes_eq}
use Rattle.mast_source.specs.Bytes.{underscore}
use Rattle.mast_terms.specs.DateCell.{IsDateText}
use Rattle.mast_terms.specs.IntegerCell.{integer_of}
use Rattle.mast_terms.specs.Printed.{date_text}
use Rattle.mast_terms.specs.declared.date.Date.{Date}
use Rattle.mast_terms.specs.declared.value.Value.{Value}
use Rattle.mast_terms.specs.declared.value.Value.TheVariants as v
use Rattle.mast_tree.specs.declared.shape.ShapeBreach.{ShapeBreach}
use Rattle.mast_tree.specs.declared.shape.ShapeKind.TheVariants.{BadConstant}
use Rattle.mast_tree.specs.Prefixes.{shape_at}
use Rattle.mast_tree.specs.Said.{Said, name, text, node, line, said}
use Rattle.mast_tree.specs.Seen.{Document}

-- an ASCII letter, a digit or `_`
abbrev pub is_word_byte : ℕ → Bool
is_word_byte b = b == underscore || is_ascii_alphanumeric b

-- these alone
abbrev pub are_word : List ℕ → Bool
are_word [] = true
are_word (b ∷ bs) = is_word_byte b && are_word bs

-- one of these or more, of which the first is no digit
abbrev pub is_identifier : List ℕ → Bool
is_identifier [] = false
is_identifier (b ∷ bs) = not (is_ascii_digit b) && are_word (b ∷ bs)

-- a name that is an identifier, or a breach of the form
abbrev pub identifier_of : Said → Result (List ℕ) ShapeBreach
identifier_of (name word at) = if is_identifier word then Ok word else Err (shape_at at)
identifier_of other = Err (shape_at (line other))

-- the date that a text is, if it is one
abbrev pub IsDateOf : List ℕ → Option Date → Type 0
IsDateOf chars None = IsDateText chars → ⊥
IsDateOf chars (Some date) = chars ≡ date_text date

-- the dates of all texts, which each have one or none
abbrev pub AreDates : (List ℕ → Option Date) → Type 0
AreDates dates = (chars : List ℕ) → IsDateOf chars (dates chars)

-- a constant that is none of its kind, at a line
abbrev pub bad_at : ℕ → ShapeBreach
bad_at at = record { line = at; kind = BadConstant }

-- an integer, if it is one
abbrev pub integer_in : Option ℤ → ℕ → Result Value ShapeBreach
integer_in None at = Err (bad_at at)
integer_in (Some number) at = Ok (v.Int number)

-- a date, if it is one
abbrev pub date_in : Option Date → ℕ → Result Value ShapeBreach
date_in None at = Err (bad_at at)
date_in (Some date) at = Ok (v.Date date)

-- what stands in `Int(..)`: a name
abbrev pub integer_said : Said → Result Value ShapeBreach
integer_said (name word at) = integer_in (integer_of word) at
integer_said other = Err (shape_at (line other))

-- what stands in `Text(..)`: a string
abbrev pub text_said : Said → Result Value ShapeBreach
text_said (text chars at) = Ok (v.Text chars)
text_said other = Err (shape_at (line other))

-- what stands in `Date(..)`: a string
abbrev pub date_said : (List ℕ → Option Date) → Said → Result Value ShapeBreach
date_said dates (text chars at) = date_in (dates chars) at
date_said dates other = Err (shape_at (line other))

-- one item in a node of one of these words
abbrev pub constant_in : (List ℕ → Option Date) → List ℕ → ℕ → List Said → Result Value ShapeBreach
constant_in dates word at (only ∷ []) =
    if bytes_eq word (codes "Int") then integer_said only
    else if bytes_eq word (codes "Text") then text_said only
    else if bytes_eq word (codes "Date") then date_said dates only
    else Err (shape_at at)
constant_in dates word at _ = Err (shape_at at)

-- the constant that an item of a document says, or its breach: `Int(NUMBER)`, `Text("TEXT")` or `Date("YYYY-MM-DD")`
abbrev pub constant_of : (List ℕ → Option Date) → Document → Said → Result Value ShapeBreach
constant_of dates doc (node word at items) = constant_in dates word at (map (said doc) items)
constant_of dates doc other = Err (shape_at (line other))
