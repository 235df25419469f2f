-- The tree of a query as Rust holds it.
use Rattle.std.specs.Prelude.{ℕ, List}
use Rattle.mast_sql.specs.declared.token.SqlToken.{SqlToken}
use Rattle.mast_sparsql.specs.declared.tree.Part.{Part as Held}
use Rattle.mast_sparsql.specs.declared.tree.Part.TheOpen.{Part-F}
use Rattle.mast_sparsql.specs.declared.tree.Part.TheFolds.{fold-Part}
use Rattle.mast_sparsql.specs.declared.tree.Tree.{Tree as HeldTree}
use Rattle.mast_sparsql.specs.Passes.{AreQueryTokens}
use Rattle.mast_sparsql.specs.Terminals.{terminals}
use Rattle.mast_sparsql.specs.Trees.{Part, Tree, IsTree, select, set, inner, always, compare, exists, negation, both, either}

-- a level of a part
abbrev pub part_step : Part-F Part → Part
part_step (Part-F.Select distinct items entries w c) = select distinct items entries w c
part_step (Part-F.Set k n a b) = set k n a b
part_step (Part-F.Inner a) = inner a
part_step Part-F.Always = always
part_step (Part-F.Compare l k n r) = compare l k n r
part_step (Part-F.Exists a) = exists a
part_step (Part-F.Not a) = negation a
part_step (Part-F.And a b) = both a b
part_step (Part-F.Or a b) = either a b

-- the part that is held
abbrev pub part_of : Held → Part
part_of = fold-Part Part part_step

-- the tree that is held
abbrev pub tree_of : HeldTree → Tree
tree_of held = record { lines = held.lines; body = part_of held.body; semicolon = held.semicolon }

-- the tokens of the source, which are a query of the grammar within its limits, and their tree
pub record IsRead (source : List ℕ) (tokens : List SqlToken) (held : HeldTree) : Type 0 where
  pub early : AreQueryTokens source tokens
  pub written : IsTree (terminals source tokens) (tree_of held)
