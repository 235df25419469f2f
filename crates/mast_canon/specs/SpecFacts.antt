-- The facts of all rows of the tables of a specification.
use Rattle.std.specs.Prelude.{List}
use Rattle.mast_terms.specs.declared.term.Term.{Term}
use Rattle.mast_cq.specs.Meanings.{Fact}
use Rattle.mast_tables.specs.Rows.{Row}
use Rattle.mast_canon.specs.declared.rows.RowId.{RowId}
use Rattle.mast_canon.specs.declared.spec.Spec.{Spec}
use Rattle.mast_canon.specs.Facts.{IsFactOf, IsOfTables}

-- Facts(X), by the mappings of the specification
abbrev pub FactsOf : Spec → List (List Row) → (RowId → Type 0) → Fact Term → Type 0
FactsOf spec tables X = IsFactOf spec.tables tables spec.maps X

-- Facts(All)
abbrev pub AllFacts : Spec → List (List Row) → Fact Term → Type 0
AllFacts spec tables = FactsOf spec tables (IsOfTables tables)
