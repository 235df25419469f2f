-- Maps whose names stand in a vocabulary.
use Rattle.std.specs.Prelude.{List}
use Rattle.std.specs.List.{AllByRecursion}
use Rattle.mast_terms.specs.declared.name.NameKind.TheVariants as kind
use Rattle.mast_terms.specs.Vocabularies.{Lists}
use Rattle.mast_tree.specs.Names.{StandsIn}
use Rattle.mast_mapping.specs.declared.map.Head.{Head}
use Rattle.mast_mapping.specs.declared.map.Head.TheVariants as head
use Rattle.mast_mapping.specs.declared.map.Map.{Map}

-- the number of the name of a head is that of an IRI of its kind
abbrev pub IsHeadIn : Lists → Head → Type 0
IsHeadIn lists (head.Class name subject) = StandsIn lists kind.Class name.0
IsHeadIn lists (head.Role name from to) = StandsIn lists kind.Role name.0
IsHeadIn lists (head.Attr name from value) = StandsIn lists kind.Attr name.0

-- so are those of all heads of all maps
abbrev pub AreInRange : Lists → List Map → Type 0
AreInRange lists maps = AllByRecursion (λ m. AllByRecursion (IsHeadIn lists) m.heads) maps
