-- Each text is one date or none, and reads as one thing.
use Rattle.std.proofs.Common.{◌≡◌, ℕ, List}
use Rattle.std.specs.Prelude.{Option, Some, None}
use Rattle.std.proofs.Math.Path.{fun_ext}
use Rattle.mast_terms.specs.declared.date.Date.{Date}
use Rattle.mast_sql.specs.Symbols as sql
use Rattle.mast_sql.proofs.DateLemmas.{the_date, only_date}
use Rattle.mast_tree.specs.Constants.{IsDateOf}
use Rattle.mast_mapping.specs.Readings.{Texts, AreTexts}
use Rattle.mast_mapping.proofs.ReadingLemmas.{is_read_once}

from_sql : (text : List ℕ) (date : Option Date) → sql.IsDateOf text date → IsDateOf text date
from_sql text None is = is
from_sql text (Some date) is = is

to_sql : (text : List ℕ) (date : Option Date) → IsDateOf text date → sql.IsDateOf text date
to_sql text None is = is
to_sql text (Some date) is = is

-- what texts are
pub the_texts : Texts
the_texts = record { dates = λ text. (the_date text).0; readings = λ text. (is_read_once text).some.0 }

-- and they are so
pub are_texts : AreTexts the_texts
unfolding the_texts
are_texts = record { dates = λ text. from_sql text (the_date text).0 (the_date text).1; readings = λ text. (is_read_once text).some.1 }

-- texts are one thing
pub one_texts : (a b : Texts) → AreTexts a → AreTexts b → a ≡ b
one_texts a b h k =
    let dates : a.dates ≡ b.dates = fun_ext (λ text. only_date text (a.dates text) (b.dates text) (to_sql text (a.dates text) (h.dates text)) (to_sql text (b.dates text) (k.dates text))) in
    let readings : a.readings ≡ b.readings = fun_ext (λ text. (is_read_once text).one (a.readings text) (b.readings text) (h.readings text) (k.readings text)) in
    λ i. record { dates = dates i; readings = readings i }
