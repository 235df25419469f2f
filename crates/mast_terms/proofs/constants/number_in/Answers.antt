use Rattle.std.proofs.Common.{sym}
use Rattle.mast_terms.specs.Vocabularies.{same_value}
use Rattle.mast_terms.proofs.PlaceLemmas.{slice_get-found}
use Rattle.mast_terms.proofs.SameLemmas.{value_same}
use Rattle.mast_terms.proofs.constants.number_in.Goals as goal

pub returns-clause-shown : goal.returns-clause-shown
returns-clause-shown c = slice_get-found (same_value c.args.value.now) c.args.set.now.keys c.get_index_of.result c.args.value.now (λ known same. sym (value_same c.args.value.now known same)) c.get_index_of.ensures.index
