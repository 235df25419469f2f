use Rattle.std.proofs.Common.{sym, ◌∙◌}
use Rattle.std.specs.Prelude.{string_bytes}
use Rattle.std.specs.Str.{bytes_eq}
use Rattle.mast_terms.proofs.PlaceLemmas.{list_any-map}
use Rattle.mast_mapping.proofs.name_index.is_in.Goals as goal

pub returns : goal.returns
returns c = c.contains.ensures ∙ sym (list_any-map string_bytes (bytes_eq c.args.name.now) c.args.set.now.keys)
