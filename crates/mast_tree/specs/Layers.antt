-- How contracts see a layer of an item.
use Rattle.mast_tree.specs.declared.layer.Layer.{Layer}
use Rattle.mast_tree.specs.declared.layer.Layer.TheVariants as layer
use Rattle.mast_tree.specs.Said.{Said, name, iri, text, tagged, binding, node}
use Rattle.mast_tree.specs.Words.{text_of}
use Rattle.mast_tree.specs.Seen.{Document}

-- what a layer of an item of a document says
abbrev pub shown : Document → Layer → Said
shown doc (layer.Name word at) = name word.now at
shown doc (layer.Iri word at) = iri word.now at
shown doc (layer.Text token at) = text (text_of doc.source doc.tokens token) at
shown doc (layer.Tagged at) = tagged at
shown doc (layer.Binding at) = binding at
shown doc (layer.Node word at items) = node word.now at items.now
