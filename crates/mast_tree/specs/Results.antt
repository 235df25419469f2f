-- What a call answers, where a definition says it.
use Rattle.std.specs.Prelude.{◌≡◌, Result, Ok, Err}
use Rattle.mast_terms.specs.declared.memory.Stop.{Stop}
use Rattle.mast_terms.specs.Answers.{Answers}

-- the answer is this result, where memory suffices
abbrev pub Gives : {T E : Type 0} → Result T (Stop E) → Result T E → Type 0
Gives answer result = Answers answer (λ value. result ≡ Ok value) (λ refusal. result ≡ Err refusal)
