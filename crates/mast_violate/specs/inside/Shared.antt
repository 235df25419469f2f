-- What the violations of several negatives share.
use Rattle.std.specs.Prelude.{ℕ, List, []}
use Rattle.mast_tree.specs.declared.document.DocName.TheVariants as doc
use Rattle.mast_cq.specs.declared.atom.Atom.{Atom}
use Rattle.mast_canon.specs.declared.origin.Ground.TheVariants as grounds
use Rattle.mast_canon.specs.NoModels.{origin_of}
use Rattle.mast_violate.specs.declared.violation.Test.TheVariants.{Plain}
use Rattle.mast_violate.specs.declared.violation.Violation.{Violation}
use Rattle.mast_violate.specs.ViolationLists.{violation}

-- of what is disjoint, by a line of the ontology: the atoms hold
abbrev pub of_disjoint : (line : ℕ) → List Atom → Violation
of_disjoint line atoms = violation (origin_of grounds.Disjoint doc.Ontology line) [] atoms Plain
