use Rattle.std.proofs.Common.{sym, subst}
use Rattle.mast_cq.specs.contracts.atom.AtomPartialEq.TheImpl as atom
use Rattle.mast_rewrite.specs.inside.Leaders.{IsDownList}
use Rattle.mast_rewrite.proofs.MemoLemmas.{below_is}
use Rattle.mast_rewrite.proofs.memo.Memo.below.Goals as goal

pub returns-in-Some : goal.returns-in-Some
returns-in-Some c = λ tbox w.
    subst (IsDownList tbox c.args.atom) (sym c.as_slice.ensures) (below_is tbox atom.eq-value.it (λ x y. (c.atom_laws.ensures.equal x y).0) c.args.self.now c.args.atom c.in-Some.list.now (sym c.in-Some.ensures.value) w)
