-- What a source query is made into: tables by number, and comparisons whose sides are places.
use Rattle.std.specs.Prelude.{◌≡◌, ℕ, Bool, true, ◌&&◌, nat_lt, List, [], ◌∷◌, map, get_or, Option, Some, None}
use Rattle.std.specs.List.{AllZip}
use Rattle.mast_terms.specs.declared.value.Value.{Value}
use Rattle.mast_sql.specs.declared.query.Comparison.{Comparison}
use Rattle.mast_sql.specs.declared.query.FromEntry.{FromEntry}
use Rattle.mast_sql.specs.declared.query.Operand.{Operand}
use Rattle.mast_sql.specs.declared.query.Operand.TheVariants as operand
use Rattle.mast_tables.specs.declared.declaration.TableDecl.{TableDecl}
use Rattle.mast_tables.specs.Rows.{Row}
use Rattle.mast_mapping.specs.Columns.{Meaning, meaning_of}
use Rattle.mast_join.specs.declared.comparisons.Side.{Side}
use Rattle.mast_join.specs.declared.comparisons.Side.TheVariants as side
use Rattle.mast_join.specs.declared.comparisons.Test.{Test}

-- the side is the place of what its column means, or nothing where it means none
abbrev pub IsPlaced : Option Meaning → Side → Type 0
IsPlaced None s = s ≡ side.Nothing
IsPlaced (Some m) s = s ≡ side.Cell m.entry m.column

-- the side is this constant
abbrev pub IsConstant : Value → Side → Type 0
IsConstant value (side.Cell entry column) = ⊥
IsConstant value (side.Constant held) = held.now ≡ value
IsConstant value side.Nothing = ⊥

-- the side of a comparison over these entries
abbrev pub IsSide : List TableDecl → List FromEntry → Operand → Side → Type 0
IsSide decls entries (operand.Column alias name) s = IsPlaced (meaning_of decls entries alias name) s
IsSide decls entries (operand.Constant value) s = IsConstant value s

-- the comparison, with places for columns
pub record IsTest (decls : List TableDecl) (entries : List FromEntry) (c : Comparison) (t : Test) : Type 0 where
  pub left : IsSide decls entries c.left t.left
  pub op : t.op ≡ c.op
  pub right : IsSide decls entries c.right t.right

-- the comparisons in order, with places for columns
abbrev pub AreTests : List TableDecl → List FromEntry → List Comparison → List Test → Type 0
AreTests decls entries cs ts = AllZip (IsTest decls entries) cs ts

-- the tables of these numbers
abbrev pub sources_of : List (List Row) → List ℕ → List (List Row)
sources_of tables places = map (λ place. get_or tables place []) places

-- whether each of these numbers is below
abbrev pub are_below : ℕ → List ℕ → Bool
are_below count [] = true
are_below count (place ∷ places) = nat_lt place count && are_below count places
