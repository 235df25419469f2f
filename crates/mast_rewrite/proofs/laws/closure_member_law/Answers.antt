use Rattle.mast_rewrite.proofs.ClosureLemmas.{member_normal, member_smaller, member_known, member_sorts, member_passing}
use Rattle.mast_rewrite.proofs.laws.closure_member_law.Goals as goal

pub returns-clause-normal : goal.returns-clause-normal
returns-clause-normal c = λ tbox q m member. member_normal tbox q m member

pub returns-clause-smaller : goal.returns-clause-smaller
returns-clause-smaller c = λ tbox q m member. member_smaller tbox q m member

pub returns-clause-known : goal.returns-clause-known
returns-clause-known c = λ tbox q m member. member_known tbox q m member

pub returns-clause-sorts : goal.returns-clause-sorts
returns-clause-sorts c = λ tbox q m member. member_sorts tbox q m member

pub returns-clause-named : goal.returns-clause-named
returns-clause-named c = λ tbox q m member. member_passing tbox q m member
