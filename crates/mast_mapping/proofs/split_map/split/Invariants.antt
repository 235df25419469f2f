use Rattle.std.proofs.Common.{◌≡◌, ◌++◌, drop}
use Rattle.mast_mapping.specs.Split.{split_maps}
use Rattle.mast_mapping.proofs.split_map.split.Given as goal

-- what is put and what the maps that are left give make the whole
abbrev pub invariant-loop-map : goal.invariant-loop-map
invariant-loop-map l = l.split ++ split_maps (drop l.map-index l.mappings.maps) ≡ split_maps l.mappings.maps
