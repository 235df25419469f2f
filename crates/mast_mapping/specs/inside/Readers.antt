-- What readers of documents hold.
use Rattle.std.specs.Prelude.{ℕ, List, Option, Some, None}
use Rattle.mast_terms.specs.declared.date.Date.{Date}
use Rattle.mast_tree.specs.declared.token.Token.{Token}
use Rattle.mast_tree.specs.Constants.{AreDates}
use Rattle.mast_tree.specs.Seen.{Document, seen}
use Rattle.mast_mapping.specs.declared.doc_reader.DocReader.{DocReader}
use Rattle.mast_mapping.specs.declared.heads.HeadReader.{HeadReader}
use Rattle.mast_mapping.specs.Heads.{Scope}
use Rattle.mast_mapping.specs.Readings.{Texts, AreTexts}

-- the document of a reader
abbrev pub doc_of : DocReader → Document
doc_of reader = seen reader.doc.now

-- what a reader of heads reads them by
abbrev pub scope : (List ℕ → Option Date) → HeadReader → Scope
scope dates reader =
    record { doc = doc_of reader.place; prefixes = reader.place.prefixes.now; outputs = reader.outputs.now; dates = dates }

-- where a token ends, if there is one
abbrev pub end_at : Option Token → ℕ
end_at None = 0
end_at (Some t) = t.to

-- P holds of what a reader reads heads by, with the dates that texts are
abbrev pub ByDates : HeadReader → (Scope → Type 0) → Type 0
ByDates reader P = (dates : List ℕ → Option Date) → AreDates dates → P (scope dates reader)

-- P holds of what texts read as
abbrev pub ByTexts : (Texts → Type 0) → Type 0
ByTexts P = (texts : Texts) → AreTexts texts → P texts
