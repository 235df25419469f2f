use Rattle.std.proofs.Common.{sym, refl, ◌∙◌}
use Rattle.mast_cq.specs.contracts.query.CqRefPartialEq.TheImpl as view
use Rattle.mast_cq.specs.Queries.{viewed}
use Rattle.mast_rewrite.proofs.ViewLemmas.{grown_insert, grown_there}
use Rattle.mast_rewrite.proofs.growth.add.Goals as goal

pub returns-then-contains-clause-grown : goal.returns-then-contains-clause-grown
returns-then-contains-clause-grown c =
    grown_there viewed view.eq-value.it c.view_laws.ensures.equal c.args.set.now.keys c.args.query (viewed c.args.query) refl (sym c.contains.ensures ∙ c.if-contains.true)

pub returns-then-len-gt-MOST_MEMBERS-clause-within : goal.returns-then-len-gt-MOST_MEMBERS-clause-within
returns-then-len-gt-MOST_MEMBERS-clause-within c =
    (grown_insert viewed view.eq-value.it c.view_laws.ensures.equal c.args.set.now.keys c.insert.new.self.keys c.in_ok-placed.placed (viewed c.args.query) c.in_ok-placed.ensures c.in_ok-insert.ensures.keys).within

pub returns-clause-within : goal.returns-clause-within
returns-clause-within c =
    (grown_insert viewed view.eq-value.it c.view_laws.ensures.equal c.args.set.now.keys c.insert.new.self.keys c.in_ok-placed.placed (viewed c.args.query) c.in_ok-placed.ensures c.in_ok-insert.ensures.keys).within

pub returns-clause-grown : goal.returns-clause-grown
returns-clause-grown c =
    grown_insert viewed view.eq-value.it c.view_laws.ensures.equal c.args.set.now.keys c.insert.new.self.keys c.in_ok-placed.placed (viewed c.args.query) c.in_ok-placed.ensures c.in_ok-insert.ensures.keys
