-- IRIs in the places of documents: the standards' own, and the IRI of an item where IRIs alone stand.
use Rattle.std.specs.Prelude.{ℕ, List, Option, Some, None, Result, Err, codes}
use Rattle.mast_tree.specs.declared.item.Item.{Item}
use Rattle.mast_tree.specs.declared.shape.ShapeBreach.{ShapeBreach}
use Rattle.mast_tree.specs.declared.shape.ShapeKind.{ShapeKind}
use Rattle.mast_tree.specs.Pages.{Page, says, names}
use Rattle.mast_tree.specs.Said.{Said, name, iri, text, tagged, binding, node}

-- owl:Thing
abbrev pub owl_thing : List ℕ
owl_thing = codes "http://www.w3.org/2002/07/owl#Thing"

-- rdfs:Literal
abbrev pub rdfs_literal : List ℕ
rdfs_literal = codes "http://www.w3.org/2000/01/rdf-schema#Literal"

-- the line of a node, if it is one
abbrev pub node_line : Said → Option ℕ
node_line (name word at) = None
node_line (iri word at) = None
node_line (text chars at) = None
node_line (tagged at) = None
node_line (binding at) = None
node_line (node word at items) = Some at

-- an IRI where no node stands; a node is a breach of this kind
abbrev pub unless_node : ShapeKind → Option ℕ → Result (List ℕ) ShapeBreach → Result (List ℕ) ShapeBreach
unless_node other None named = named
unless_node other (Some at) named = Err (record { line = at; kind = other })

-- the IRI of an item in the place of one, or its breach. A node there is a breach of the kind that the place has for nodes
abbrev pub expanded : ShapeKind → Page → Item → Result (List ℕ) ShapeBreach
expanded other page item = unless_node other (node_line (says page item)) (names page item)
