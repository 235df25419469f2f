-- What a call that may be refused, or find no memory, answers.
use Rattle.std.specs.Prelude.{◌≡◌, Option, Some, None, Result}
use Rattle.mast_terms.specs.Answers.{Answers}
use Rattle.mast_terms.specs.declared.memory.Stop.{Stop}

-- the call is refused exactly with the refusal that is due, if one is; want of memory may come in its place
abbrev pub IsRefusedBy : {T E : Type 0} → Result T (Stop E) → Option E → Type 0
IsRefusedBy result due = Answers result (λ value. due ≡ None) (λ refusal. due ≡ Some refusal)
