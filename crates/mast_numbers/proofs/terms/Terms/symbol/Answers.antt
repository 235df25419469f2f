use Rattle.std.proofs.Common.{ap, ◌∙◌}
use Rattle.mast_numbers.specs.Numbered.{Numbered}
use Rattle.mast_numbers.proofs.JoinLemmas.{at_ok}
use Rattle.mast_numbers.proofs.TermLemmas.{joined_symbols, same_terms, one_each}
use Rattle.mast_numbers.proofs.terms.Terms.symbol.Goals as goal

pub invariant_of-self : goal.invariant_of-self
invariant_of-self c =
    joined_symbols c.self.inside.symbols.keys c.join.new.set.keys c.self.inside.keys.keys c.in_ok-symbol.symbol c.self.invariant c.join.ensures.joined c.join.ensures.once c.join.ensures.few

pub returns-clause-terms : goal.returns-clause-terms
returns-clause-terms c =
    same_terms c.self.inside.symbols.keys c.join.new.set.keys c.self.inside.keys.keys c.in_ok-symbol.symbol c.self.invariant c.join.ensures.joined ∙ ap (λ (n : Numbered). n.terms) c.self.view_is

pub returns-clause-once : goal.returns-clause-once
returns-clause-once c =
    at_ok c.join.result (one_each c.join.new.set.keys c.self.inside.keys.keys (joined_symbols c.self.inside.symbols.keys c.join.new.set.keys c.self.inside.keys.keys c.in_ok-symbol.symbol c.self.invariant c.join.ensures.joined c.join.ensures.once c.join.ensures.few))
