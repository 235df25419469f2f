use Rattle.mast_terms.proofs.TermTextLemmas.{term_text_injective}
use Rattle.mast_terms.proofs.printed.printing_is_injective.Goals as goal

pub returns : goal.returns
returns c = term_text_injective
