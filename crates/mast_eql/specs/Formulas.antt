-- EQL-Lite formulas, and the formula of a body.
use Rattle.std.specs.Prelude.{ℕ, List}
use Rattle.mast_sparsql.specs.declared.query.Body.{Body}
use Rattle.mast_sparsql.specs.declared.query.Body.TheFolds.{fold-Body, fold-Condition}
use Rattle.mast_sparsql.specs.declared.query.Body.TheOpen.{Body-F, Condition-F}
use Rattle.mast_sparsql.specs.declared.query.ColumnRef.{ColumnRef}
use Rattle.mast_sparsql.specs.declared.query.Condition.{Condition}
use Rattle.mast_sparsql.specs.declared.query.Side.{Side}

-- a formula: its bound variables are the columns of the FROMs around a place, its free variables the columns that go out
pub data Formula : Type 0 where
  Always : Formula
  -- K e1 and .. and K em: the columns of each entry of the innermost FROM are a row of its table
  Known : (tables : List ℕ) → Formula
  -- the two sides are one term
  Equals : (left right : Side) → Formula
  -- each free variable is its item
  Items : (items : List ColumnRef) → Formula
  Not : (a : Formula) → Formula
  And : (a b : Formula) → Formula
  Or : (a b : Formula) → Formula
  -- some values of all columns of the entries of one more FROM
  SomeColumns : (a : Formula) → Formula
  -- some values of the free variables
  SomeAnswer : (a : Formula) → Formula

-- the formula of a level of a body, from those of its parts
abbrev pub body_formula : Body-F Formula Formula → Formula
body_formula (Body-F.Select items entries condition) = SomeColumns (And (Known entries) (And condition (Items items)))
body_formula (Body-F.Union a b) = Or a b
body_formula (Body-F.Except a b) = And a (Not b)
body_formula (Body-F.Intersect a b) = And a b

-- the formula of a level of a condition
abbrev pub condition_formula : Condition-F Formula Formula → Formula
condition_formula Condition-F.Always = Always
condition_formula (Condition-F.Equal left right) = Equals left right
condition_formula (Condition-F.Differ left right) = Not (Equals left right)
condition_formula (Condition-F.Not a) = Not a
condition_formula (Condition-F.And a b) = And a b
condition_formula (Condition-F.Or a b) = Or a b
condition_formula (Condition-F.Exists body) = SomeAnswer body

-- the formula of a body
abbrev pub formula_of : Body → Formula
formula_of = fold-Body Formula Formula body_formula condition_formula

-- the formula of a condition
abbrev pub condition_of : Condition → Formula
condition_of = fold-Condition Formula Formula body_formula condition_formula
