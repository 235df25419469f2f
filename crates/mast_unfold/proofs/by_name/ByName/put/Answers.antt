use Rattle.std.proofs.Common.{ap, ◌∙◌}
use Rattle.std.specs.Prelude.{if◌then◌else◌, Some, string_bytes}
use Rattle.std.specs.Map.{lookup}
use Rattle.std.specs.Str.{bytes_eq}
use Rattle.mast_unfold.specs.inside.Lookups.{named}
use Rattle.mast_unfold.proofs.LookupLemmas.{lookup_put}
use Rattle.mast_unfold.proofs.by_name.ByName.put.Goals as goal

pub returns : goal.returns
returns g c other =
    let old = c.args.self.now.map.entries in
    ap (λ es. lookup (λ k. bytes_eq other (string_bytes k)) es) c.in_ok-insert.ensures.entries
    ∙ (lookup_put c.in_ok-from_str.field-0 c.args.thing old other
    ∙ ap (λ name. if bytes_eq other name then Some c.args.thing else named c.args.self.now other) c.in_ok-from_str.ensures.ok)
