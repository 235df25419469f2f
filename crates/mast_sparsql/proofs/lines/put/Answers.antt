use Rattle.mast_terms.proofs.PlaceLemmas.{map-insert_key}
use Rattle.mast_sparsql.specs.inside.Lines.{items_of}
use Rattle.mast_sparsql.proofs.lines.put.Goals as goal

pub returns : goal.returns
returns c = map-insert_key items_of c.args.set.now.keys c.in_ok-from_slice.field-0 c.args.prefix.now c.in_ok-from_slice.ensures.items c.requires c.insert.new.self.keys c.in_ok-insert.ensures.keys
