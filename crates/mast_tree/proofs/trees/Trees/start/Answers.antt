use Rattle.std.proofs.Common.{◌++◌, ◌∷◌, [], length, sym, subst}
use Rattle.std.proofs.lemmas.Result.{on_ok_weaker}
use Rattle.mast_tree.specs.inside.Growth.{GrowsTo}
use Rattle.mast_tree.specs.inside.Parser as parser
use Rattle.mast_tree.proofs.GrowthLemmas.{iri_read, close_read}
use Rattle.mast_tree.proofs.trees.Trees.start.Goals as goal

pub returns-in-Iri : goal.returns-in-Iri
returns-in-Iri c = on_ok_weaker c.push.result (λ i ks l g. subst (λ k. GrowsTo (parser.item_step (length c.args.self.now.frames) k) c.push.new.self (ks ++ k ∷ [])) (sym c.in-Iri.is) (iri_read c.args.self.now c.push.new.self ks c.args.at l g i c.push.ensures.frames)) c.push.ensures.items

pub returns-in-Close : goal.returns-in-Close
returns-in-Close c = on_ok_weaker c.close.result (λ h ks l g. subst (λ k. GrowsTo (parser.item_step (length c.args.self.now.frames) k) c.close.new.self (ks ++ k ∷ [])) (sym c.in-Close.is) (close_read c.args.self.now c.close.new.self ks g h)) c.close.ensures
