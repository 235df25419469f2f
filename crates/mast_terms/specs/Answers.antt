-- What an answer tells where memory suffices.
use Rattle.std.specs.Prelude.{Result, Ok, Err}
use Rattle.mast_terms.specs.declared.memory.Stop.{Stop}
use Rattle.mast_terms.specs.declared.memory.Stop.TheVariants.{Named, NoMemory}

-- P of the value, or Q of the refusal
abbrev pub Answers : {T E : Type 0} → Result T (Stop E) → (T → Type 0) → (E → Type 0) → Type 0
Answers (Ok value) P Q = P value
Answers (Err (Named refusal)) P Q = Q refusal
Answers (Err NoMemory) P Q = Unit {0}
