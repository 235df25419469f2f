use Rattle.std.proofs.Common.{◌≡◌, subst, map}
use Rattle.std.proofs.lemmas.Result.{IfOk-weaker}
use Rattle.mast_rewrite.specs.inside.Leaders.{AreLeaders, CountsExactly}
use Rattle.mast_rewrite.specs.inside.MeetingLists.{met_value, all_meetings}
use Rattle.mast_rewrite.proofs.ExactLemmas.{counts_exactly}
use Rattle.mast_rewrite.proofs.memo.counted.Goals as goal

pub returns : goal.returns
returns c = IfOk-weaker c.counting.result (AreLeaders c.args.normal.now c.args.pair.left.atom c.args.pair.right.atom c.deref.result.now) (CountsExactly c.args.normal.now c.args.pair)
    (λ list w. counts_exactly c.args.normal.now c.args.pair c.args.lefts.now c.args.rights.now c.in_ok-all.all.items list c.requires.left c.requires.right
    (subst (λ v. map met_value c.in_ok-all.all.items ≡ all_meetings v c.args.lefts.now c.args.rights.now) c.answer.ensures c.in_ok-all.ensures)
    (subst (λ v. AreLeaders c.args.normal.now c.args.pair.left.atom c.args.pair.right.atom v list) c.deref.ensures.value w))
    c.counting.ensures
