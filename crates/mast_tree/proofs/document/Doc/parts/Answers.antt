use Rattle.std.proofs.Common.{ap, sym, ◌∙◌}
use Rattle.mast_tree.specs.MainNode.{main_node}
use Rattle.mast_tree.specs.Seen.{seen}
use Rattle.mast_tree.specs.inside.MainNodes.{shown_main}
use Rattle.mast_tree.proofs.MainNodeLemmas.{main_is_there}
use Rattle.mast_tree.proofs.document.Doc.parts.Goals as goal

pub returns-in-None : goal.returns-in-None
returns-in-None c =
    let doc = seen c.args.self.now in
    let items = ap (λ items. main_node doc c.args.word.now items) c.as_slice.ensures in
    absurd (main_is_there doc c.args.word.now c.in_ok-prefixes.prefixes c.in_ok-prefixes.ensures.prologue (sym items ∙ (sym c.main_node.ensures ∙ ap shown_main c.in-None.is)))
