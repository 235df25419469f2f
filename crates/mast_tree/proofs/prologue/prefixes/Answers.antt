use Rattle.mast_tree.proofs.PrologueLemmas.{answers_prologue}
use Rattle.mast_tree.proofs.prologue.prefixes.Goals as goal

pub returns : goal.returns
returns c =
    let d = c.args.doc.now in
    record { prologue = answers_prologue d.source.now d.tokens.now c.args.word.now d.items c.read_prefixes.result c.read_prefixes.ensures }
