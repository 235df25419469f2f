-- What an ontology keeps, of the one that is read.
use Rattle.mast_tree.specs.Seen.{seen}
use Rattle.mast_onto.proofs.OutcomeLemmas.{outcome_begins, outcome_constants, outcome_names}
use Rattle.mast_onto.proofs.ontology.read_ontology.Goals as goal

pub returns-clause-begins : goal.returns-clause-begins
returns-clause-begins c = outcome_begins (seen c.args.doc.now) c.args.vocab c.read_whole.result c.read_whole.ensures

pub returns-clause-constants : goal.returns-clause-constants
returns-clause-constants c = outcome_constants (seen c.args.doc.now) c.args.vocab c.read_whole.result c.read_whole.ensures

pub returns-clause-names : goal.returns-clause-names
returns-clause-names c = outcome_names (seen c.args.doc.now) c.args.vocab c.read_whole.result c.read_whole.ensures
