use Rattle.std.proofs.Common.{◌∙◌, ap, sym, subst, ◌∷◌, ◌++◌, [], ◌≡◌}
use Rattle.std.specs.Prelude.{None}
use Rattle.mast_mapping.specs.inside.Indices.{shown, value_named}
use Rattle.mast_mapping.proofs.IndexLemmas.{put_shown}
use Rattle.mast_mapping.proofs.kind_index.put.Goals as goal

pub returns : goal.returns
returns c =
    let old = c.args.kinds.now.entries in
    let name = c.in_ok-from_str.ensures.ok in
    ap (λ x. shown x) c.in_ok-insert.ensures.entries
    ∙ put_shown c.in_ok-from_str.field-0 c.args.kind old (subst (λ x. value_named x (shown old) ≡ None) (sym name) c.requires)
    ∙ ap (λ x. shown old ++ (x, c.args.kind) ∷ []) name
