use Rattle.mast_cq.specs.Queries.{viewed}
use Rattle.mast_join.proofs.NamingLemmas.{are_names}
use Rattle.mast_join.proofs.naming.names_of.Goals as goal

pub returns-clause-names : goal.returns-clause-names
returns-clause-names c =
    are_names (viewed c.args.query) (record { count = c.len-count.result; fronts = c.in_ok-fronts.fronts; answer = c.in_ok-answer.answer }) c.fronts.new.vars.keys c.answer_names.new.vars.keys
    c.len-count.ensures.unique c.len-count.ensures.len c.in_ok-answer.ensures.front c.in_ok-fronts.ensures.places c.in_ok-answer.ensures.places
