-- How many heads maps have together.
use Rattle.std.proofs.Common.{◌≡◌, ◌+◌, ◌++◌, ℕ, List, [], ◌∷◌, length, refl, arith}
use Rattle.mast_sql.specs.declared.query.SourceQuery.{SourceQuery}
use Rattle.mast_mapping.specs.declared.map.Head.{Head}
use Rattle.mast_mapping.specs.declared.map.Map.{Map}
use Rattle.mast_mapping.specs.declared.split_map.SplitMap.{SplitMap}
use Rattle.mast_mapping.specs.Split.{split_heads, split_maps}

-- the heads of all maps
abbrev pub heads_of : List Map → ℕ
heads_of [] = 0
heads_of (map ∷ maps) = length map.heads + heads_of maps

behind_heads : (query : SourceQuery) (heads : List Head) (behind : List SplitMap) → length (split_heads query heads ++ behind) ≡ length heads + length behind
behind_heads query [] behind = omega arith
behind_heads query (head ∷ heads) behind = omega (behind_heads query heads behind, arith)

-- there is a split mapping for each of them
pub split_length : (maps : List Map) → length (split_maps maps) ≡ heads_of maps
split_length [] = refl
split_length (map ∷ maps) = omega (behind_heads map.query map.heads (split_maps maps), split_length maps, arith)
