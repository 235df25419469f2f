use Rattle.std.proofs.Common.{◌∷◌, sym, subst}
use Rattle.mast_grammar.specs.declared.rules.Part.{Part}
use Rattle.mast_grammar.specs.inside.Machine.{step, Steps, Tries}
use Rattle.mast_grammar.proofs.StackLemmas.{tries_the, tries_maybe, tries_many}
use Rattle.mast_grammar.proofs.stack.Stack.try_part.Goals as goal

pub returns-in_ok-enter-in-The : goal.returns-in_ok-enter-in-The
returns-in_ok-enter-in-The c =
    let k = c.args.terminal in
    let old = c.args.self.now in
    let new = c.enter.new.self in
    let begun = c.in_ok-enter-in-The.field-0 in
    subst (λ (p : Part). Steps (step (p ∷ old) k) begun new) (sym c.in-The.is)
    (tries_the c.in-The.rule k old new begun c.in_ok-enter-in-The.ensures)

pub returns-in_ok-enter-in-Maybe : goal.returns-in_ok-enter-in-Maybe
returns-in_ok-enter-in-Maybe c =
    let k = c.args.terminal in
    let old = c.args.self.now in
    let new = c.enter-in-Maybe.new.self in
    let begun = c.in_ok-enter-in-Maybe.field-0 in
    subst (λ (p : Part). Tries p old k c.found.result new) (sym c.in-Maybe.is)
    (tries_maybe c.in-Maybe.rule k old new begun c.found.result c.found.ensures c.in_ok-enter-in-Maybe.ensures)

pub returns-in_ok-repeat-in-Many : goal.returns-in_ok-repeat-in-Many
returns-in_ok-repeat-in-Many c =
    let k = c.args.terminal in
    let old = c.args.self.now in
    let new = c.repeat.new.self in
    let begun = c.in_ok-repeat-in-Many.field-0 in
    subst (λ (p : Part). Tries p old k c.found-in-Many.result new) (sym c.in-Many.is)
    (tries_many c.in-Many.rule k old new begun c.found-in-Many.result c.found-in-Many.ensures c.in_ok-repeat-in-Many.ensures)
