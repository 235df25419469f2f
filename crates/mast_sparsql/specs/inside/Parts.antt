-- Bodies and conditions as the reader holds them.
use Rattle.std.specs.Prelude.{◌≡◌, ℕ, zero, suc, Bool, true, List, [], ◌∷◌, ◌++◌}
use Rattle.mast_grammar.specs.declared.terminal.Terminal.TheVariants as terminal
use Rattle.mast_sparsql.specs.declared.tree.Part.{Part as Held}
use Rattle.mast_sparsql.specs.Trees.{Part, negation, Shape, word, optional, is_body, is_condition, is_where, part_written, rank_of}
use Rattle.mast_sparsql.specs.Held.{part_of}
use Rattle.mast_sparsql.specs.inside.Cursors.{Left, Reads}

-- a body of at most this rank was read
pub record ReadsBody (most : ℕ) (old new : Left) (held : Held) : Type 0 where
  pub ranks : is_body most (rank_of (part_of held)) ≡ true
  pub reads : Reads old new (part_written (part_of held))

-- a condition of at most this rank was read
pub record ReadsCondition (most : ℕ) (old new : Left) (held : Held) : Type 0 where
  pub ranks : is_condition most (rank_of (part_of held)) ≡ true
  pub reads : Reads old new (part_written (part_of held))

-- so many NOTs before a condition
abbrev pub nots : ℕ → Part → Part
nots zero p = p
nots (suc n) p = negation (nots n p)

-- WHERE and a condition were read, or nothing
pub record ReadsWhere (word : Bool) (old new : Left) (held : Held) : Type 0 where
  pub ranks : is_where word (rank_of (part_of held)) ≡ true
  pub reads : Reads old new (optional word terminal.Where ++ part_written (part_of held))

-- so many NOTs were read
abbrev pub nots_written : ℕ → List Shape
nots_written zero = []
nots_written (suc n) = word terminal.Not ∷ nots_written n
