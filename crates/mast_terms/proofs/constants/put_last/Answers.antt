use Rattle.mast_terms.specs.Vocabularies.{same_value}
use Rattle.mast_terms.specs.contracts.value.ValueEq.TheImpl.Laws as laws
use Rattle.mast_terms.proofs.OrderLemmas.{value_equality_test}
use Rattle.mast_terms.proofs.PlaceLemmas.{once, place-insert_value, shown-insert_value}
use Rattle.mast_terms.proofs.constants.put_last.Goals as goal

pub returns-clause-place : goal.returns-clause-place
returns-clause-place c = place-insert_value same_value c.args.set.now.keys c.in_ok-copy.field-0 c.args.value.now c.in_ok-copy.ensures.equal c.requires (laws.laws-law.refl c.args.value.now) c.insert.new.self.keys c.in_ok-insert.ensures.keys

pub returns-clause-shown : goal.returns-clause-shown
returns-clause-shown c = shown-insert_value same_value c.args.set.now.keys c.in_ok-copy.field-0 c.args.value.now c.in_ok-copy.ensures.equal c.requires (laws.laws-law.refl c.args.value.now) c.insert.new.self.keys c.in_ok-insert.ensures.keys

pub returns-clause-once : goal.returns-clause-once
returns-clause-once c = once same_value (λ a b e. (value_equality_test a b).1 e) c.insert.new.self.keys c.in_ok-insert.ensures.unique
