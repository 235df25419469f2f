-- What a part of a document's prologue shows.
use Rattle.mast_tree.specs.declared.prologue.Part.{Part as Lent}
use Rattle.mast_tree.specs.declared.prologue.Part.TheVariants as lent
use Rattle.mast_tree.specs.inside.Prologue.{Part, main, prefix, wrong}

-- a part, with the texts that it lends
abbrev pub shown_part : Lent → Part
shown_part lent.Main = main
shown_part (lent.Prefix name iri) = prefix name.now iri.now
shown_part (lent.Wrong line) = wrong line
