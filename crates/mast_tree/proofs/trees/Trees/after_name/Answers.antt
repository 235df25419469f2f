use Rattle.std.proofs.Common.{◌++◌, ◌∷◌, [], length, sym, subst, ap}
use Rattle.std.proofs.lemmas.Result.{on_ok_weaker}
use Rattle.mast_tree.specs.inside.Growth.{GrowsTo}
use Rattle.mast_tree.specs.inside.Parser as parser
use Rattle.mast_tree.specs.declared.parser.ParseState.TheVariants.{AfterName}
use Rattle.mast_tree.proofs.GrowthLemmas.{on_ok_both, open_read, name_alone, name_goes}
use Rattle.mast_tree.proofs.trees.Trees.after_name.Goals as goal

pub returns-in-Open : goal.returns-in-Open
returns-in-Open c =
    let old = c.args.self.now in
    let new = c.open.new.self in
    on_ok_both c.open.result (λ i f ks l g. subst (λ k. GrowsTo (parser.step AfterName (length old.frames) k) new (ks ++ k ∷ [])) (sym c.in-Open.is) (open_read old new ks g i f)) c.open.ensures.items c.open.ensures.frames

pub returns-in_ok-push-in_default : goal.returns-in_ok-push-in_default
returns-in_ok-push-in_default c =
    let old = c.args.self.now in
    let mid = c.push.new.self in
    let new = c.start.new.self in
    let is = c.in_ok-push-in_default.ensures in
    on_ok_weaker c.start.result (λ h ks l g. name_goes (length mid.frames) (length old.frames) new (ks ++ c.args.kind ∷ []) c.args.kind c.in_default.not-Equals c.in_default.not-Open (ap length is.frames) (h ks l (name_alone old mid ks g is.items is.frames))) c.start.ensures
