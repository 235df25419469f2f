use Rattle.std.proofs.Common.{sym, subst, ◌∙◌}
use Rattle.std.specs.Prelude.{Err}
use Rattle.mast_terms.specs.Answers.{Answers}
use Rattle.mast_tree.specs.Trees.{IsTree, IsTreeBreach}
use Rattle.mast_tree.proofs.ReaderLemmas.{begun, grows_same, read_on, deeper_told, stuck_told, whole_read, end_told}
use Rattle.mast_tree.proofs.document.read_items.Goals as goal

pub loop-token-init : goal.loop-token-init
loop-token-init c = begun c.args.tokens.now c.new-trees.result c.new-trees.ensures.frames c.new-trees.ensures.items

pub returns-in-Deeper : goal.returns-in-Deeper
returns-in-Deeper c =
    let l = c.loop-token in
    subst (λ s. Answers (Err s) (IsTree c.args.tokens.now) (IsTreeBreach c.args.tokens.now)) (sym c.breach.ensures) (deeper_told c.args.tokens.now l.token-index l.at l.state l.depth _ c.advance.result l.invariant.left c.loop-token-test.true c.advance.ensures.moves c.in-Deeper.is)

pub returns-in-Stuck : goal.returns-in-Stuck
returns-in-Stuck c =
    let l = c.loop-token in
    subst (λ s. Answers (Err s) (IsTree c.args.tokens.now) (IsTreeBreach c.args.tokens.now)) (sym c.breach-in-Stuck.ensures) (stuck_told c.args.tokens.now l.token-index l.at l.state l.depth _ c.advance.result l.invariant.left c.loop-token-test.true c.advance.ensures.moves c.in-Stuck.is)

pub loop-token-preserved : goal.loop-token-preserved
loop-token-preserved c =
    let l = c.loop-token in
    let grows = grows_same l.state _ l.trees c.make_room.new.self c.read.new.self l.at c.make_room.ensures.same c.in_ok-read-in-To.ensures in
    read_on c.args.tokens.now l.trees c.read.new.self l.state c.in-To.next l.depth c.in-To.open l.at l.token-index _ c.advance.result l.invariant c.loop-token-test.true c.advance.ensures.moves c.in-To.is c.advance.ensures.within grows

pub returns-in_ok-finish : goal.returns-in_ok-finish
returns-in_ok-finish c =
    let l = c.loop-token in
    whole_read c.args.tokens.now l.trees c.in_ok-finish.field-0 l.state l.depth l.at l.token-index l.invariant c.loop-token-test.false (sym c.ends.ensures ∙ c.if-ends.true) c.in_ok-finish.ensures

pub returns-else-ends : goal.returns-else-ends
returns-else-ends c =
    let l = c.loop-token in
    subst (λ s. Answers (Err s) (IsTree c.args.tokens.now) (IsTreeBreach c.args.tokens.now)) (sym c.breach-else-ends.ensures) (end_told c.args.tokens.now l.trees l.state l.depth l.at l.token-index l.invariant c.loop-token-test.false (sym c.ends.ensures ∙ c.if-ends.false))
