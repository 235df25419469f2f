-- The cells that a date column accepts: yyyy-mm-dd, for a day of the Gregorian calendar from 0001 to 9999.
use Rattle.std.specs.Prelude.{◌≡◌, ℕ, List}
use Rattle.mast_terms.specs.Printed.{date_text}
use Rattle.mast_terms.specs.declared.date.Date.{Date}

-- an accepted cell: the text of a date
abbrev pub IsDateText : List ℕ → Type 0
IsDateText bytes = (date : Date) × (bytes ≡ date_text date)
