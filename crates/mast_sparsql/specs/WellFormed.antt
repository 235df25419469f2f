-- Queries in which each number names something that is there.
use Rattle.std.specs.Prelude.{◌≡◌, ℕ, ◌==◌, ◌&&◌, nat_lt, Bool, true, false, List, [], ◌∷◌, length, map, get_or, Option, Some, None, is_some}
use Rattle.std.specs.List.{list_all}
use Rattle.mast_cq.specs.declared.query.Cq.{Cq}
use Rattle.mast_sparsql.specs.declared.query.ColumnRef.{ColumnRef}
use Rattle.mast_sparsql.specs.declared.query.Side.{Side}
use Rattle.mast_sparsql.specs.declared.query.Side.TheVariants as side
use Rattle.mast_sparsql.specs.declared.query.Body.{Body}
use Rattle.mast_sparsql.specs.declared.query.Body.TheOpen.{Body-F, Condition-F}
use Rattle.mast_sparsql.specs.declared.query.Body.TheFolds.{fold-Body, fold-Condition}
use Rattle.mast_sparsql.specs.declared.query.Condition.{Condition}
use Rattle.mast_sparsql.specs.declared.query.Query.{Query}

-- how many columns a table has: those of its first block
abbrev pub table_width : List Cq → ℕ
table_width [] = 0
table_width (q ∷ qs) = length q.answer

-- one or more blocks, all of one width
abbrev pub is_table : List Cq → Bool
is_table [] = false
is_table (q ∷ qs) = list_all (λ r. length r.answer == length q.answer) qs

-- a column that is there: `froms` has for each FROM, the innermost first, the widths of its entries
abbrev pub column_stands : List (List ℕ) → ColumnRef → Bool
column_stands froms c = nat_lt c.column (get_or (get_or froms c.scope []) c.entry 0)

-- a side whose column is there
abbrev pub side_stands : List (List ℕ) → Side → Bool
side_stands froms (side.Column c) = column_stands froms c
side_stands froms (side.Term t) = true

-- the widths of the entries of a FROM over tables of these widths
abbrev pub entry_widths : List ℕ → List ℕ → List ℕ
entry_widths tables entries = map (λ e. get_or tables e 0) entries

-- the entries are tables that are there
abbrev pub entries_stand : List ℕ → List ℕ → Bool
entries_stand tables entries = list_all (λ e. nat_lt e (length tables)) entries

-- the value, where the test holds
abbrev pub when : Bool → ℕ → Option ℕ
when true width = Some width
when false width = None

-- the one width of both sides
abbrev pub one_width : Option ℕ → Option ℕ → Option ℕ
one_width None b = None
one_width (Some m) None = None
one_width (Some m) (Some n) = when (m == n) m

-- the width of a level of a body, under the FROMs around it, where its numbers name what is there
abbrev pub body_step : List ℕ → Body-F (List (List ℕ) → Option ℕ) (List (List ℕ) → Bool) → List (List ℕ) → Option ℕ
body_step tables (Body-F.Select items entries condition) froms =
    let inner = entry_widths tables entries ∷ froms in
    when (entries_stand tables entries && list_all (column_stands inner) items && condition inner) (length items)
body_step tables (Body-F.Union a b) froms = one_width (a froms) (b froms)
body_step tables (Body-F.Except a b) froms = one_width (a froms) (b froms)
body_step tables (Body-F.Intersect a b) froms = one_width (a froms) (b froms)

-- whether the numbers of a level of a condition name what is there
abbrev pub condition_step : Condition-F (List (List ℕ) → Option ℕ) (List (List ℕ) → Bool) → List (List ℕ) → Bool
condition_step Condition-F.Always froms = true
condition_step (Condition-F.Equal left right) froms = side_stands froms left && side_stands froms right
condition_step (Condition-F.Differ left right) froms = side_stands froms left && side_stands froms right
condition_step (Condition-F.Not a) froms = a froms
condition_step (Condition-F.And a b) froms = a froms && b froms
condition_step (Condition-F.Or a b) froms = a froms && b froms
condition_step (Condition-F.Exists body) froms = is_some (body froms)

-- the width of a body over tables of these widths, under the FROMs around it; None where some number names nothing
-- or the sides of a set operator have two widths
abbrev pub width_in : List ℕ → Body → List (List ℕ) → Option ℕ
width_in tables =
    fold-Body (List (List ℕ) → Option ℕ) (List (List ℕ) → Bool) (body_step tables) condition_step

-- the numbers of a condition name what is there
abbrev pub condition_stands : List ℕ → Condition → List (List ℕ) → Bool
condition_stands tables =
    fold-Condition (List (List ℕ) → Option ℕ) (List (List ℕ) → Bool) (body_step tables) condition_step

-- each table has blocks of one width, each number of the body names what is there, and the sides of each set operator
-- have one width
pub record IsWellFormed (q : Query) : Type 0 where
  pub tables : list_all is_table q.tables ≡ true
  pub width : ℕ
  pub body : width_in (map table_width q.tables) q.body [] ≡ Some width
