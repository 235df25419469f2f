use Rattle.std.proofs.Common.{sym, subst}
use Rattle.mast_rewrite.specs.inside.Leaders.{CountsExactly}
use Rattle.mast_rewrite.specs.inside.Memos.{IsPlaceOf, HasPlace}
use Rattle.mast_rewrite.proofs.memo.Memo.at.Goals as goal

pub returns-in-Some : goal.returns-in-Some
returns-in-Some c = λ tbox pair w.
    let v : IsPlaceOf tbox c.args.self.now pair c.in-Some.place = subst (HasPlace tbox c.args.self.now pair) c.in-Some.is w in
    subst (CountsExactly tbox pair) (sym (c.stored.ensures v.0 v.1)) v.2

pub returns-in-None : goal.returns-in-None
returns-in-None c = λ tbox pair w. subst (HasPlace tbox c.args.self.now pair) c.in-None.is w
