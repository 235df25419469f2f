use Rattle.mast_numbers.proofs.TermLemmas.{view_one}
use Rattle.mast_numbers.proofs.terms.Terms.len.Goals as goal

pub returns-clause-once : goal.returns-clause-once
returns-clause-once c = view_one c.self.inside.symbols.keys c.self.inside.keys.keys c.args.self.now c.self.view_is c.self.invariant
