use Rattle.std.proofs.Common.{◌++◌, ◌∷◌, [], length, sym, subst}
use Rattle.std.proofs.lemmas.Result.{on_ok_weaker}
use Rattle.mast_tree.specs.inside.Growth.{GrowsTo, GrownAt}
use Rattle.mast_tree.specs.inside.Parser as parser
use Rattle.mast_tree.proofs.GrowthLemmas.{carets_read, equals_read}
use Rattle.mast_tree.proofs.trees.Trees.read.Goals as goal

pub returns-in-AfterCarets : goal.returns-in-AfterCarets
returns-in-AfterCarets c =
    let old = c.args.self.now in
    let new = c.push.new.self in
    let k = c.args.kind in
    on_ok_weaker c.push.result (λ i ks l g. subst (λ p. GrowsTo (parser.step p (length old.frames) k) new (ks ++ k ∷ [])) (sym c.in-AfterCarets.is) (carets_read old new ks c.args.at k l (subst (λ p. GrownAt p old ks) c.in-AfterCarets.is g) i c.push.ensures.frames)) c.push.ensures.items

pub returns-in-AfterEquals : goal.returns-in-AfterEquals
returns-in-AfterEquals c =
    let old = c.args.self.now in
    let new = c.push-in-AfterEquals.new.self in
    let k = c.args.kind in
    on_ok_weaker c.push-in-AfterEquals.result (λ i ks l g. subst (λ p. GrowsTo (parser.step p (length old.frames) k) new (ks ++ k ∷ [])) (sym c.in-AfterEquals.is) (equals_read old new ks c.args.at k l (subst (λ p. GrownAt p old ks) c.in-AfterEquals.is g) i c.push-in-AfterEquals.ensures.frames)) c.push-in-AfterEquals.ensures.items
