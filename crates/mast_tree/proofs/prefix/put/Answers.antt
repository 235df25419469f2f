use Rattle.std.proofs.Common.{◌∙◌, ap, sym, subst, ◌∷◌, ◌++◌, [], ◌≡◌}
use Rattle.std.specs.Prelude.{None}
use Rattle.mast_tree.specs.Prefixes.{namespace_of}
use Rattle.mast_tree.specs.Tables.{shown}
use Rattle.mast_tree.proofs.PrefixLemmas.{put_shown}
use Rattle.mast_tree.proofs.prefix.put.Goals as goal

pub returns : goal.returns
returns c =
    let old = c.args.map.now.entries in
    let key = c.in_ok-prefix.prefix in
    let name = c.in_ok-prefix.ensures.ok in
    let iri = c.in_ok-namespace.ensures.equal in
    ap (λ x. shown x) c.in_ok-insert.ensures.entries
    ∙ put_shown key c.in_ok-namespace.namespace old (subst (λ x. namespace_of x (shown old) ≡ None) (sym name) c.requires.new)
    ∙ ap (λ x. shown old ++ (x, c.in_ok-namespace.namespace) ∷ []) name
    ∙ ap (λ x. shown old ++ (c.args.prefix.now, x) ∷ []) iri
