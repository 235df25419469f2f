use Rattle.std.proofs.Common.{◌↔◌, Contains, sym, subst, ◌∙◌}
use Rattle.std.proofs.lemmas.Result.{on_ok_weaker}
use Rattle.mast_tbox.specs.Lists.{Reaches}
use Rattle.mast_tbox.specs.inside.Linking.{noted_for, LeadsOn}
use Rattle.mast_tbox.proofs.LinkLemmas.{settled_next}
use Rattle.mast_tbox.proofs.name_links.settle.Goals as goal

pub returns-in_ok-names-in-None : goal.returns-in_ok-names-in-None
returns-in_ok-names-in-None c =
    on_ok_weaker c.note.result
    (λ n. settled_next c.args.links.now c.requires.both_ways (noted_for c.args.chiefs.now) (noted_for c.note.new.chiefs) c.args.root c.as_slice.result.now c.requires.settled (sym c.noted.ensures ∙ c.in-None.is)
    (λ m. subst (λ w. Contains w m ↔ Reaches (LeadsOn c.args.links.now) c.args.root m) (sym c.as_slice.ensures.keys) (c.in_ok-names-in-None.ensures m)) n)
    c.note.ensures
