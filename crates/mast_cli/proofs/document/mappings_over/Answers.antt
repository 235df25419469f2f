-- The reader's answer is that of the document, and what it read is fit for a specification.
use Rattle.mast_mapping.proofs.LawLemmas.{has_answer}
use Rattle.mast_tree.specs.Seen.{seen}
use Rattle.mast_cli.proofs.MappingsLemmas.{are_mappings}
use Rattle.mast_cli.proofs.document.mappings_over.Goals as goal

pub returns-clause-exact : goal.returns-clause-exact
returns-clause-exact c = has_answer (seen c.args.doc.now) c.args.vocab c.read_mappings.result c.read_mappings.ensures.exact

pub returns-clause-fit : goal.returns-clause-fit
returns-clause-fit c =
    are_mappings (seen c.args.doc.now) c.args.vocab c.read_mappings.result c.requires.tree c.requires.few (returns-clause-exact c)
    c.read_mappings.ensures.begins c.read_mappings.ensures.over c.read_mappings.ensures.names
