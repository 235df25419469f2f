-- Worked choices and facts, as theorems: two rows of a table, the second of which has a missing cell.
use Rattle.std.proofs.Common.{◌≡◌, pos, true, false, List, [], ◌∷◌, refl, arith}
use Rattle.std.specs.Prelude.{codes, Some, None}
use Rattle.mast_terms.specs.declared.term.Term.{Term}
use Rattle.mast_terms.specs.declared.term.Term.TheVariants as term
use Rattle.mast_terms.specs.declared.value.Kind.TheVariants as kind
use Rattle.mast_terms.specs.declared.value.Value.TheVariants as value
use Rattle.mast_cq.specs.Meanings.{InAttr}
use Rattle.mast_sql.specs.declared.query.Compare.{Compare}
use Rattle.mast_sql.specs.declared.query.Compare.TheVariants as sign
use Rattle.mast_sql.specs.declared.query.Comparison.{Comparison}
use Rattle.mast_sql.specs.declared.query.Operand.TheVariants as operand
use Rattle.mast_sql.specs.declared.query.SourceQuery.{SourceQuery}
use Rattle.mast_tables.specs.declared.declaration.TableDecl.{TableDecl}
use Rattle.mast_tables.specs.Rows.{Row}
use Rattle.mast_mapping.specs.declared.map.Head.{Head}
use Rattle.mast_mapping.specs.declared.map.Head.TheVariants as head
use Rattle.mast_mapping.specs.declared.map.Slot.TheVariants as slot
use Rattle.mast_mapping.specs.declared.map.Template.{Template}
use Rattle.mast_canon.specs.Choices.{Meets, chosen, compare, operand_value}
use Rattle.mast_canon.specs.Facts.{chosen_rows, fact_of}
use Rattle.mast_canon.specs.Fitting.{Fits}

-- people(id integer, name text, which may be missing)
abbrev decls : List TableDecl
decls = record {
  name = codes "people";
  file = codes "people.csv";
  columns =
      record { name = codes "id"; kind = kind.Integer; null = false } ∷
      record { name = codes "name"; kind = kind.Text; null = true } ∷ [];
} ∷ []

-- 1,Ann and 2,
abbrev tables : List (List Row)
tables = ((Some (value.Int (pos 1)) ∷ Some (value.Text (codes "Ann")) ∷ []) ∷ (Some (value.Int (pos 2)) ∷ None ∷ []) ∷ []) ∷ []

-- SELECT id, name FROM people AS p WHERE these
abbrev query : List Comparison → SourceQuery
query conditions = record {
  items =
      record { alias = None; column = codes "id"; output = codes "id" } ∷
      record { alias = Some (codes "p"); column = codes "name"; output = codes "name" } ∷ [];
  from = record { table = codes "people"; alias = codes "p" } ∷ [];
  conditions = conditions;
}

-- id < 2
abbrev small : Comparison
small = record { left = operand.Column None (codes "id"); op = sign.Less; right = operand.Constant (value.Int (pos 2)) }

-- name <> 'Bob'
abbrev other : Comparison
other = record { left = operand.Column None (codes "name"); op = sign.Differ; right = operand.Constant (value.Text (codes "Bob")) }

-- p(id)
abbrev person : Template
person = record { symbol = codes "p"; args = slot.Output (codes "id") ∷ [] }

-- the name of p(id), by the attribute of number 0
abbrev named : Head
named = head.Attr (record { 0 = 0 }) person (slot.Output (codes "name"))

-- p(1)
abbrev first : Term
first = term.Object (record { symbol = codes "p"; args = value.Int (pos 1) ∷ [] })

tables_fit : Fits decls tables
tables_fit = (((refl, (refl, tt)), ((refl, (refl, tt)), tt)), tt)

first_meets : Meets decls tables (query (small ∷ other ∷ [])) (1 ∷ [])
first_meets = record { is_choice = ((omega arith, omega arith), tt); conditions = (refl, (refl, tt)) }

-- a missing cell makes each comparison false, `<>` too
missing_meets_nothing : (s : Compare) → compare s (operand_value decls (query []).from (chosen decls tables (query []).from (2 ∷ [])) other.left) (Some (value.Text (codes "Bob"))) ≡ false
missing_meets_nothing s = refl

first_gives : fact_of decls (query []) (chosen decls tables (query []).from (1 ∷ [])) named ≡ Some (InAttr (record { 0 = 0 }) first (term.Value (value.Text (codes "Ann"))))
first_gives = refl

-- a missing cell that the head uses gives no fact
second_gives_none : fact_of decls (query []) (chosen decls tables (query []).from (2 ∷ [])) named ≡ None
second_gives_none = refl

first_support : chosen_rows decls (query []).from (1 ∷ []) ≡ record { table = 0; number = 1 } ∷ []
first_support = refl
