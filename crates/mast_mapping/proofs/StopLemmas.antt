-- What stops a part stops the whole.
use Rattle.std.proofs.Common.{◌≡◌, sym, subst}
use Rattle.std.specs.Prelude.{Result, Ok, Err, IsErrAnd}
use Rattle.mast_terms.specs.Answers.{Answers}
use Rattle.mast_terms.specs.declared.memory.Stop.{Stop}
use Rattle.mast_terms.specs.declared.memory.Stop.TheVariants.{Named, NoMemory}

stop_moves : {T U E : Type 0} (P : T → Type 0) (Q : E → Type 0) (R : U → Type 0) (S : E → Type 0) (why : Stop E)
    → ((breach : E) → Q breach → S breach) → Answers {T = T} (Err why) P Q → Answers {T = U} (Err why) R S
stop_moves P Q R S (Named breach) moves h = moves breach h
stop_moves P Q R S NoMemory moves h = tt

-- a refusal of a part, handed on, is one of the whole, where each breach of the part is one of the whole
pub stopped : {T U E : Type 0} (P : T → Type 0) (Q : E → Type 0) (R : U → Type 0) (S : E → Type 0) (result : Result U (Stop E)) (why : Stop E)
    → IsErrAnd result (λ other. other ≡ why) → ((breach : E) → Q breach → S breach) → Answers {T = T} (Err why) P Q → Answers {T = U} result R S
stopped P Q R S (Ok x) why e moves h = absurd e
stopped {T} {U} {E} P Q R S (Err other) why e moves h = subst (λ (x : Stop E). Answers {T = U} (Err x) R S) (sym e) (stop_moves P Q R S why moves h)
