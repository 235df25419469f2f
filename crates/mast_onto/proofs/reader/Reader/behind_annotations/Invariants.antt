use Rattle.std.proofs.Common.{◌≡◌, drop}
use Rattle.mast_expressions.specs.Reads.{page}
use Rattle.mast_onto.specs.Nodes.{behind_annotations}
use Rattle.mast_onto.proofs.reader.Reader.behind_annotations.Given as goal

-- the annotations that were passed make no difference
abbrev pub invariant-loop-at : goal.invariant-loop-at
invariant-loop-at l = behind_annotations (page l.self.places) (drop l.at l.items) ≡ behind_annotations (page l.self.places) l.items
