use Rattle.std.proofs.Common.{sym, ◌∙◌, map}
use Rattle.std.specs.Prelude.{string_bytes}
use Rattle.std.specs.Str.{bytes_eq}
use Rattle.std.specs.Cmp.Lexicographic.{same_text}
use Rattle.mast_terms.proofs.PlaceLemmas.{list_any-map, position-map, slice_get-found}
use Rattle.mast_terms.proofs.iris.number_in.Goals as goal

pub returns-clause-place : goal.returns-clause-place
returns-clause-place c = c.get_index_of.ensures.index ∙ sym (position-map string_bytes (bytes_eq c.args.iri.now) c.args.set.now.keys)

pub returns-clause-stands : goal.returns-clause-stands
returns-clause-stands c = c.get_index_of.ensures.found ∙ sym (list_any-map string_bytes (bytes_eq c.args.iri.now) c.args.set.now.keys)

pub returns-clause-shown : goal.returns-clause-shown
returns-clause-shown c = slice_get-found (bytes_eq c.args.iri.now) (map string_bytes c.args.set.now.keys) c.get_index_of.result c.args.iri.now (λ known same. sym (same_text c.args.iri.now known (sym same))) (c.get_index_of.ensures.index ∙ sym (position-map string_bytes (bytes_eq c.args.iri.now) c.args.set.now.keys))
