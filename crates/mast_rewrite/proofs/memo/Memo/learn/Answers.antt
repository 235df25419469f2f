use Rattle.std.proofs.Common.{refl}
use Rattle.mast_cq.specs.contracts.atom.AtomPartialEq.TheImpl as atom
use Rattle.mast_rewrite.proofs.MemoLemmas.{memo_atom}
use Rattle.mast_rewrite.proofs.memo.Memo.learn.Goals as goal

pub returns-in_ok-insert-clause-memo : goal.returns-in_ok-insert-clause-memo
returns-in_ok-insert-clause-memo c =
    memo_atom c.args.normal.now atom.eq-value.it (λ x y. (c.atom_laws.ensures.equal x y).0) c.args.self.now _ c.args.atom c.in_ok-list.list refl c.in_ok-insert.ensures.entries
    (record { exact = c.in_ok-list.ensures.exact; ordered = c.in_ok-list.ensures.order }) c.requires
