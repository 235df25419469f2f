use Rattle.std.specs.Prelude.{string_bytes}
use Rattle.std.specs.Str.{bytes_eq}
use Rattle.std.specs.Cmp.Lexicographic.{bytes_decides}
use Rattle.mast_terms.proofs.PlaceLemmas.{once-map, map-insert_key, length-insert_key, place-insert_key, shown-insert_key}
use Rattle.mast_terms.proofs.iris.put_last.Goals as goal

pub returns-clause-joined : goal.returns-clause-joined
returns-clause-joined c = map-insert_key string_bytes c.args.set.now.keys c.in_ok-from_str.field-0 c.args.iri.now c.in_ok-from_str.ensures.ok c.requires c.insert.new.self.keys c.in_ok-insert.ensures.keys

pub returns-clause-len : goal.returns-clause-len
returns-clause-len c = length-insert_key string_bytes c.args.set.now.keys c.in_ok-from_str.field-0 c.args.iri.now c.in_ok-from_str.ensures.ok c.requires c.insert.new.self.keys c.in_ok-insert.ensures.keys

pub returns-clause-place : goal.returns-clause-place
returns-clause-place c = place-insert_key string_bytes c.args.set.now.keys c.in_ok-from_str.field-0 c.args.iri.now c.in_ok-from_str.ensures.ok c.requires c.insert.new.self.keys c.in_ok-insert.ensures.keys

pub returns-clause-shown : goal.returns-clause-shown
returns-clause-shown c = shown-insert_key string_bytes c.args.set.now.keys c.in_ok-from_str.field-0 c.args.iri.now c.in_ok-from_str.ensures.ok c.requires c.insert.new.self.keys c.in_ok-insert.ensures.keys

pub returns-clause-once : goal.returns-clause-once
returns-clause-once c = once-map (λ a b. bytes_eq (string_bytes a) (string_bytes b)) string_bytes (λ a b e. (bytes_decides (string_bytes a) (string_bytes b)).1 e) c.insert.new.self.keys c.in_ok-insert.ensures.unique
