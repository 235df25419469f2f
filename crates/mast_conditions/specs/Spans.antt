-- Rows of relations that are put one behind the other.
use Rattle.std.specs.Prelude.{◌≡◌, ◌↔◌, ℕ, ◌+◌, ◌<◌, List, [], ◌∷◌, ◌++◌, length, get_or}
use Rattle.mast_relations.specs.Lookups.{rows_in}
use Rattle.mast_relations.specs.Matches.{In, Rows, nothing}
use Rattle.mast_conditions.specs.Choices.{GivesAt, Leads}
use Rattle.mast_conditions.specs.declared.condition.Condition.{Condition}
use Rattle.mast_conditions.specs.declared.condition.Entry.{Entry}
use Rattle.mast_conditions.specs.declared.span.Span.{Span}

-- the span is of a relation that is there, and its columns stand from this place on
pub record IsSpan (relations : List Rows) (place : ℕ) (span : Span) : Type 0 where
  pub there : span.relation < length relations
  pub begins : span.at ≡ place
  pub wide : span.width ≡ (get_or relations span.relation nothing).width

-- the spans stand one behind the other, from this place on
abbrev pub AreSpans : List Rows → ℕ → List Span → Type 0
AreSpans relations place [] = Unit {0}
AreSpans relations place (span ∷ spans) = IsSpan relations place span × AreSpans relations (place + span.width) spans

-- the row is one of the span's relation
pub record IsRowOf (relations : List Rows) (span : Span) (row : List ℕ) : Type 0 where
  pub there : In row (rows_in relations span.relation)
  pub long : length row ≡ span.width

-- some rows of the spans, each put behind the numbers before it, lead to numbers of which it holds
abbrev pub Chosen : List Rows → List Span → List ℕ → (List ℕ → Type 0) → Type 0
Chosen relations [] numbers P = P numbers
Chosen relations (span ∷ spans) numbers P =
    (row : List ℕ) × IsRowOf relations span row × Chosen relations spans (numbers ++ row) P

-- rows that the entries find lead to what gives a tuple where rows of the spans do
abbrev pub IsFoundBy : List Rows → ℕ → List Span → Condition → List Entry → Type 0
IsFoundBy relations top spans condition entries = (numbers items tuple : List ℕ) → length numbers ≡ top
    → Leads relations entries numbers (GivesAt relations condition items tuple)
    ↔ Chosen relations spans numbers (GivesAt relations condition items tuple)
