use Rattle.std.specs.Prelude.{string_bytes}
use Rattle.mast_terms.proofs.PlaceLemmas.{map-insert_key}
use Rattle.mast_mapping.proofs.name_index.put_last.Goals as goal

pub returns : goal.returns
returns c = map-insert_key string_bytes c.args.set.now.keys c.in_ok-from_str.field-0 c.args.name.now c.in_ok-from_str.ensures.ok c.requires c.insert.new.self.keys c.in_ok-insert.ensures.keys
