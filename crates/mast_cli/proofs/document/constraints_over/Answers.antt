-- What the reader read is fit for a specification.
use Rattle.mast_tree.specs.Seen.{seen}
use Rattle.mast_cli.proofs.MappingsLemmas.{are_constraints}
use Rattle.mast_cli.proofs.document.constraints_over.Goals as goal

pub returns-clause-fit : goal.returns-clause-fit
returns-clause-fit c =
    are_constraints (seen c.args.doc.now) c.args.vocab c.read_constraints.result c.requires.tree c.requires.few c.read_constraints.ensures.exact
    c.read_constraints.ensures.begins c.read_constraints.ensures.kept
