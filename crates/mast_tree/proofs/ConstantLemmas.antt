-- A text has one date at most.
use Rattle.std.proofs.Common.{◌≡◌, refl, sym, ap, ◌∙◌, ℕ, List}
use Rattle.std.specs.Prelude.{Option, Some, None}
use Rattle.mast_terms.specs.DateCell.{IsDateText}
use Rattle.mast_terms.specs.Printed.{date_text}
use Rattle.mast_terms.specs.declared.date.Date.{Date}
use Rattle.mast_terms.specs.declared.term.Term.TheVariants as t
use Rattle.mast_terms.specs.declared.value.Value.TheVariants as v
use Rattle.mast_terms.proofs.TermTextLemmas.{term_text_injective}
use Rattle.mast_tree.specs.Constants.{IsDateOf, AreDates}

one_date : (a b : Date) → date_text a ≡ date_text b → a ≡ b
one_date a b e = let same = term_text_injective (t.Value (v.Date a)) (t.Value (v.Date b)) e in cc

-- the date of a text is no other
date_found : (chars : List ℕ) (found : Option Date) (date : Date) → IsDateOf chars found → chars ≡ date_text date → found ≡ Some date
date_found chars None date none e = absurd (none (date, e))
date_found chars (Some other) date is e = ap (λ d. Some d) (one_date other date (sym is ∙ e))

-- the text of a date has this date
pub date_is : (dates : List ℕ → Option Date) (chars : List ℕ) (date : Date) → AreDates dates → chars ≡ date_text date → dates chars ≡ Some date
date_is dates chars date are e = date_found chars (dates chars) date (are chars) e

date_missed : (chars : List ℕ) (found : Option Date) → IsDateOf chars found → (IsDateText chars → ⊥) → found ≡ None
date_missed chars None is none = refl
date_missed chars (Some date) is none = absurd (none (date, is))

-- a text that is no date has none
pub date_none : (dates : List ℕ → Option Date) (chars : List ℕ) → AreDates dates → (IsDateText chars → ⊥) → dates chars ≡ None
date_none dates chars are none = date_missed chars (dates chars) (are chars) none
