use Rattle.std.proofs.Common.{◌≡◌, ℕ, sym, ap, ◌∙◌}
use Rattle.std.specs.Prelude.{Some, slice_get}
use Rattle.std.proofs.lemmas.Result.{IfOk-weaker}
use Rattle.mast_terms.specs.declared.term.Term.{Term}
use Rattle.mast_terms.specs.declared.term.Term.TheVariants as term
use Rattle.mast_join.specs.Extensions.{constant_over}
use Rattle.mast_join.specs.inside.MadeFacts.{asked_over}
use Rattle.mast_join.proofs.KeepingLemmas.{constant_is}
use Rattle.mast_join.proofs.making.constant_number.Goals as goal

pub returns-clause-number : goal.returns-clause-number
returns-clause-number c =
    IfOk-weaker c.value-2.result (λ (n : ℕ). slice_get c.value-2.new.self.terms n ≡ Some (term.Value c.value.result.now))
    (λ (n : ℕ). slice_get c.value-2.new.self.terms n ≡ Some (constant_over (asked_over c.args.base.now) c.args.constant))
    (λ n h. h ∙ ap (λ (t : Term). Some t) (sym (constant_is c.args.base.now c.args.constant c.value.result.now c.value.ensures))) c.value-2.ensures.place
