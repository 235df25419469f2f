use Rattle.std.proofs.Common.{sym, ◌∙◌}
use Rattle.std.specs.Str.{bytes_eq}
use Rattle.mast_terms.proofs.PlaceLemmas.{list_any-map}
use Rattle.mast_sparsql.specs.inside.Lines.{items_of}
use Rattle.mast_sparsql.proofs.lines.has.Goals as goal

pub returns : goal.returns
returns c = c.contains.ensures ∙ sym (list_any-map items_of (bytes_eq c.args.prefix.now) c.args.set.now.keys)
