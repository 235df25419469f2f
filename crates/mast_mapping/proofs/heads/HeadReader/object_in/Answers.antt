use Rattle.std.proofs.Common.{subst, sym, ap, ◌∙◌, [], drop}
use Rattle.std.specs.Prelude.{Ok}
use Rattle.mast_tree.specs.Results.{Gives}
use Rattle.mast_mapping.specs.Heads.{object_of_parts, object_in, slots_of}
use Rattle.mast_mapping.specs.inside.Readers.{scope}
use Rattle.mast_mapping.proofs.SliceLemmas.{one_is}
use Rattle.mast_mapping.proofs.StopLemmas.{stopped}
use Rattle.mast_mapping.proofs.heads.HeadReader.object_in.Goals as goal

pub returns-in_err-args-in-len1-up : goal.returns-in_err-args-in-len1-up
returns-in_err-args-in-len1-up c = λ dates are.
    let s = scope dates c.args.self.now in
    let items = one_is c.args.items.now c.symbol-item.result c.in-len1-up.len_at_least c.symbol-item.is in
    subst (λ x. Gives c.from_residual-in_err-args-in-len1-up.result (object_in s c.args.line x)) (sym items)
    (stopped _ _ _ _ c.from_residual-in_err-args-in-len1-up.result c.in_err-args-in-len1-up.field-0.0 c.from_residual-in_err-args-in-len1-up.ensures.1
    (λ b e. ap (λ n. object_of_parts n (slots_of s [] (drop 1 c.args.items.now))) c.in_ok-symbol-in-len1-up.ensures
    ∙ ap (λ r. object_of_parts (Ok c.in_ok-symbol-in-len1-up.symbol) r) (ap (λ x. slots_of s [] x) (sym c.split_at.ensures.back) ∙ e))
    (c.in_err-args-in-len1-up.ensures dates are))
