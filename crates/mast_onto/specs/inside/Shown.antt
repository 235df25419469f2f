-- Forms as they are read, which lend their items.
use Rattle.std.specs.Prelude.{◌≡◌, List, ◌++◌, map}
use Rattle.mast_onto.specs.Rights.{PartForm, thing, left, filled, complement, wrong}
use Rattle.mast_onto.specs.Nodes as node
use Rattle.mast_onto.specs.declared.node.AxiomForm.{AxiomForm as LentAxiom}
use Rattle.mast_onto.specs.declared.node.AxiomForm.TheVariants as lent_axiom
use Rattle.mast_onto.specs.declared.right.PartForm.{PartForm as LentPart}
use Rattle.mast_onto.specs.declared.right.PartForm.TheVariants as part

-- the form of a part, with the items that it lends
abbrev pub shown_part : LentPart → PartForm
shown_part part.Thing = thing
shown_part (part.Left item) = left item.now
shown_part (part.Filled role filler) = filled role.now filler.now
shown_part (part.Complement item) = complement item.now
shown_part (part.Wrong line) = wrong line

-- the form of an axiom, with the items that it lends
abbrev pub shown_axiom : LentAxiom → node.AxiomForm
shown_axiom lent_axiom.Nothing = node.nothing
shown_axiom (lent_axiom.Declared kind item) = node.declared kind item.now
shown_axiom (lent_axiom.Listed place relation items) = node.listed place relation items.now
shown_axiom (lent_axiom.Below place turned sub sup) = node.below place turned sub.now sup.now
shown_axiom (lent_axiom.Range attr of_type) = node.range attr.now of_type.now
shown_axiom (lent_axiom.Wrong kind line) = node.wrong kind line

-- a list of forms with more behind it
abbrev pub Extends : List LentPart → List PartForm → List LentPart → Type 0
Extends old more new = map shown_part new ≡ map shown_part old ++ more
