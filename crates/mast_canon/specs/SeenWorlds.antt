-- Worlds of the trait `World` as interpretations.
use Rattle.mast_canon.specs.declared.world.World.{Ghosts}
use Rattle.mast_canon.specs.Elements.{Element}
use Rattle.mast_canon.specs.Interpretations.{Interpretation}

-- what the members say of one
abbrev pub seen : {W : Type 0} → Ghosts W → W → Interpretation Element
seen members world = record {
  class = members.class world;
  role = members.role world;
  attr = members.attr world;
  kind = members.kind world;
  named = members.named world;
  fill = members.fill world;
}
