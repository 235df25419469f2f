-- Equalities of numbers at places, and entries that are tied by them.
use Rattle.std.specs.Prelude.{◌≡◌, ℕ, ◌+◌, ◌<◌, ◌⊎◌, List, [], ◌∷◌, ◌++◌, length, get_or}
use Rattle.std.specs.List.{AllByRecursion}
use Rattle.mast_relations.specs.Plans.{picked}
use Rattle.mast_conditions.specs.declared.condition.Entry.{Entry}
use Rattle.mast_conditions.specs.declared.linking.Equality.{Equality}
use Rattle.mast_conditions.specs.declared.linking.Link.{Link}
use Rattle.mast_conditions.specs.declared.span.Span.{Span}

-- the numbers at the two places of each are equal
abbrev pub AreEqual : List Equality → List ℕ → Type 0
AreEqual equalities numbers = AllByRecursion (λ equality. get_or numbers equality.left 0 ≡ get_or numbers equality.right 0) equalities

-- the places of an equality are those of a column of the span and a place before it
pub record IsLink (span : Span) (equality : Equality) (link : Link) : Type 0 where
  pub column : link.column < span.width
  pub place : link.place < span.at
  pub is : ((equality.left ≡ span.at + link.column) × (equality.right ≡ link.place))
      ⊎ ((equality.left ≡ link.place) × (equality.right ≡ span.at + link.column))

-- where all equalities hold of what is chosen, a row of the span has in these columns what stands at these places before it
abbrev pub AreLinked : List Equality → Span → List ℕ → List ℕ → Type 0
AreLinked equalities span columns places = (numbers row more : List ℕ) → length numbers ≡ span.at → length row ≡ span.width
    → AreEqual equalities ((numbers ++ row) ++ more) → picked row columns ≡ picked numbers places

-- the entry is of the span's relation, and so linked
pub record IsLinkedEntry (equalities : List Equality) (span : Span) (entry : Entry) : Type 0 where
  pub relation : entry.relation ≡ span.relation
  pub linked : AreLinked equalities span entry.columns entry.places

-- one entry for each span
abbrev pub AreLinkedEntries : List Equality → List Span → List Entry → Type 0
AreLinkedEntries equalities [] [] = Unit {0}
AreLinkedEntries equalities [] (entry ∷ entries) = ⊥
AreLinkedEntries equalities (span ∷ spans) [] = ⊥
AreLinkedEntries equalities (span ∷ spans) (entry ∷ entries) =
    IsLinkedEntry equalities span entry × AreLinkedEntries equalities spans entries

-- what an equality ties is put behind the columns and the places, if it ties anything
abbrev pub IsAdded : Span → Equality → List ℕ → List ℕ → List ℕ → List ℕ → Type 0
IsAdded span equality columns places more_columns more_places =
    ((more_columns ≡ columns) × (more_places ≡ places))
    ⊎ ((link : Link) × IsLink span equality link × (more_columns ≡ columns ++ link.column ∷ []) × (more_places ≡ places ++ link.place ∷ []))
