use Rattle.mast_rewrite.proofs.CountLemmas.{counts_simply, counts_only}
use Rattle.mast_rewrite.proofs.ItselfLemmas.{meets_itself}
use Rattle.mast_rewrite.proofs.LedLemmas.{is_led, meetings_finite}
use Rattle.mast_rewrite.proofs.laws.meeting_law.Goals as goal

pub returns-clause-itself : goal.returns-clause-itself
returns-clause-itself c = λ answer h. meets_itself answer h

pub returns-clause-finite : goal.returns-clause-finite
returns-clause-finite c = λ tbox q left right. meetings_finite tbox q left right

pub returns-clause-led : goal.returns-clause-led
returns-clause-led c = λ tbox q left right. is_led tbox q left right

pub returns-clause-counts : goal.returns-clause-counts
returns-clause-counts c = λ tbox q left right m. (
  λ w. record {
    is_meeting = w.is_meeting;
    leads_back = λ other o l. (counts_only tbox q left right m w other o l).0;
    none_earlier = λ other o l. (counts_only tbox q left right m w other o l).1;
  },
  λ w. counts_simply tbox q left right m w.is_meeting (λ other o l. (w.leads_back other o l, w.none_earlier other o l)),
)
