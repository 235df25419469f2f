use Rattle.std.proofs.Common.{ℕ, List, [], ◌∷◌, ◌++◌, ap, ◌∙◌}
use Rattle.mast_join.proofs.ConjoinLemmas.{constant_made}
use Rattle.mast_join.proofs.KeepingLemmas.{grown_twice}
use Rattle.mast_join.proofs.conjunction.constant_pattern.Goals as goal

pub returns-in_err-relation-clause-more : goal.returns-in_err-relation-clause-more
returns-in_err-relation-clause-more c = grown_twice c.args.store.now c.constant.new.store c.one_row.new.store c.in_ok-number.ensures.more c.in_err-relation.ensures.more

pub returns-clause-pattern : goal.returns-clause-pattern
returns-clause-pattern c =
    constant_made c.args.base.now c.constant.new.store c.one_row.new.store c.args.variable c.args.of c.in_ok-number.number c.in_ok-relation.relation c.push.new.self
    c.in_ok-relation.ensures.more c.in_ok-number.ensures.number c.in_ok-relation.ensures.number
    (c.in_ok-push.ensures.ok ∙ ap (λ (xs : List ℕ). xs ++ c.args.variable ∷ []) c.new-variables.ensures)

pub returns-clause-more : goal.returns-clause-more
returns-clause-more c = grown_twice c.args.store.now c.constant.new.store c.one_row.new.store c.in_ok-number.ensures.more c.in_ok-relation.ensures.more
