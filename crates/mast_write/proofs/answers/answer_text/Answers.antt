-- The summary, the header, and the text of the lines of all rows.
use Rattle.mast_write.proofs.AnswerLemmas.{answer_is}
use Rattle.mast_write.proofs.answers.answer_text.Goals as goal

pub returns : goal.returns
returns c =
    let body = c.in_ok-body.body.text.items in
    let count = c.in_ok-body.body.count in
    let text = c.extend_from_slice.new.self.items in
    answer_is c.args.file.now c.args.header.now c.args.rows.now c.loop-row.lines.lines c.loop-row.row-index _ _ _ _ body text count c.loop-row-test.false
    c.loop-row.invariant.lines c.in_ok-body.ensures c.in_ok-text.ensures c.in_ok-push_names.ensures c.in_ok-push.ensures.items c.deref.ensures.value
    c.in_ok-extend_from_slice.ensures.items
