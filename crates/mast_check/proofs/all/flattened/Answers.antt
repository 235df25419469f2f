use Rattle.std.proofs.Common.{List, ◌++◌, ap, sym, ◌∙◌}
use Rattle.mast_check.specs.declared.breach.Breach.{Breach}
use Rattle.mast_check.proofs.AllLemmas.{flat_more}
use Rattle.mast_check.proofs.all.flattened.Goals as goal

pub loop-list-preserved : goal.loop-list-preserved
loop-list-preserved c =
    let grown = c.in_ok-append.ensures.items ∙ ap (λ (bs : List Breach). c.loop-list.all.items ++ bs) c.into_vec-items.ensures in
    (tt, tt, grown ∙ (ap (λ (bs : List Breach). bs ++ c.in-Some.list) c.loop-list.invariant.2 ∙ sym (flat_more c.loop-list.yielded c.in-Some.list)))
