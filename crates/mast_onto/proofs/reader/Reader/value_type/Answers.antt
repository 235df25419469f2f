use Rattle.mast_expressions.specs.Reads.{page}
use Rattle.mast_onto.specs.Axioms.{type_said}
use Rattle.mast_onto.proofs.ReadingLemmas.{gives_judges}
use Rattle.mast_onto.proofs.reader.Reader.value_type.Goals as goal

pub returns : goal.returns
returns c = λ lists. gives_judges lists (type_said (page c.args.self.now.places) c.args.item.now) c.type_said.result c.type_said.ensures
