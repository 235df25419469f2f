-- It is decided whether facts have a model.
use Rattle.mast_terms.specs.declared.term.Term.{Term}
use Rattle.mast_cq.specs.Meanings.{Fact}
use Rattle.mast_check.specs.DecidedLaws.{NoModelIsDecided}
use Rattle.mast_violate.proofs.BreachLemmas.{are_breaches}
use Rattle.mast_check.proofs.CandidateLemmas.{no_model_decided}
use Rattle.mast_check.proofs.PlainLemmas.{plain}

-- of a list of facts over names in range, by a proper theory
pub is_decided : (F : Fact Term → Type 0) → NoModelIsDecided F
is_decided F theory proper range listed = no_model_decided theory F listed proper.is_stated range (plain theory proper) (are_breaches theory F proper.formed)
