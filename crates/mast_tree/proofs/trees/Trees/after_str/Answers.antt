use Rattle.std.proofs.Common.{◌++◌, ◌∷◌, [], length, sym, subst, ap}
use Rattle.std.proofs.lemmas.Result.{on_ok_weaker}
use Rattle.mast_tree.specs.inside.Growth.{GrowsTo}
use Rattle.mast_tree.specs.inside.Parser as parser
use Rattle.mast_tree.specs.declared.parser.ParseState.TheVariants.{AfterStr}
use Rattle.mast_tree.proofs.GrowthLemmas.{lang_read, str_alone, str_goes}
use Rattle.mast_tree.proofs.trees.Trees.after_str.Goals as goal

pub returns-in-Lang : goal.returns-in-Lang
returns-in-Lang c =
    let old = c.args.self.now in
    let new = c.push.new.self in
    on_ok_weaker c.push.result (λ i ks l g. subst (λ k. GrowsTo (parser.step AfterStr (length old.frames) k) new (ks ++ k ∷ [])) (sym c.in-Lang.is) (lang_read old new ks c.args.at l g i c.push.ensures.frames)) c.push.ensures.items

pub returns-in_ok-push-in_default : goal.returns-in_ok-push-in_default
returns-in_ok-push-in_default c =
    let old = c.args.self.now in
    let mid = c.push-in_default.new.self in
    let new = c.start.new.self in
    let is = c.in_ok-push-in_default.ensures in
    on_ok_weaker c.start.result (λ h ks l g. str_goes (length mid.frames) (length old.frames) new (ks ++ c.args.kind ∷ []) c.args.kind c.in_default.not-Carets c.in_default.not-Lang (ap length is.frames) (h ks l (str_alone old mid ks g is.items is.frames))) c.start.ensures
