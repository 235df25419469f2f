use Rattle.std.proofs.Common.{List, ℕ, refl, sym, ap, subst}
use Rattle.std.specs.Prelude.{Option}
use Rattle.mast_join.specs.inside.Values.{ReadAll, TellsValues, listed}
use Rattle.mast_join.proofs.ValueLemmas.{front_joined, noted_front, object_told}
use Rattle.mast_join.proofs.values.of_part.Goals as goal

pub returns-in_ok-object-in-Some-clause-number : goal.returns-in_ok-object-in-Some-clause-number
returns-in_ok-object-in-Some-clause-number c =
    object_told c.args.terms.now c.of_sides.new.terms c.object.new.self.terms c.args.tables.now.list c.args.choice.now c.args.part.now c.in-Object.symbol c.in-Object.args c.in-Some.numbers.items
    c.deref-in-Some.result.now c.in_ok-object-in-Some.field-0 c.of_sides.ensures.kept c.in-Object.is
    (λ vs r. subst (λ (o : Option (List ℕ)). TellsValues c.of_sides.new.terms.terms vs o) (ap listed c.in-Some.is)
    (c.in_ok-of_sides-in-Object.ensures.numbers vs (subst (λ (ps : List _). ReadAll c.args.terms.now.terms c.args.tables.now.list c.args.choice.now ps vs) (sym c.deref.ensures.value) r)))
    c.deref-in-Some.ensures.value c.in_ok-object-in-Some.ensures.place

pub returns-in_ok-object-in-Some-clause-noted : goal.returns-in_ok-object-in-Some-clause-noted
returns-in_ok-object-in-Some-clause-noted c =
    noted_front c.args.tables.now.list c.of_sides.new.terms.terms c.object.new.self.terms c.of_sides.new.known c.of_sides.new.known c.of_sides.ensures.noted
    (front_joined c.of_sides.new.terms.terms c.object.new.self.terms _ c.in_ok-object-in-Some.ensures.joined) (λ k. refl)
