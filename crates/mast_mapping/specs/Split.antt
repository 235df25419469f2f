-- The split mappings of maps.
use Rattle.std.specs.Prelude.{List, [], ◌∷◌, ◌++◌}
use Rattle.mast_sql.specs.declared.query.SourceQuery.{SourceQuery}
use Rattle.mast_mapping.specs.declared.map.Head.{Head}
use Rattle.mast_mapping.specs.declared.map.Map.{Map}
use Rattle.mast_mapping.specs.declared.split_map.SplitMap.{SplitMap}

-- one for each head of a source query, in order
abbrev pub split_heads : SourceQuery → List Head → List SplitMap
split_heads query [] = []
split_heads query (head ∷ heads) = record { query = query; head = head } ∷ split_heads query heads

-- one for each head of each map, in order
abbrev pub split_maps : List Map → List SplitMap
split_maps [] = []
split_maps (map ∷ maps) = split_heads map.query map.heads ++ split_maps maps
