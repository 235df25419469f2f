use Rattle.std.proofs.Common.{◌≡◌, sym, subst, ◌∙◌, Contains, ◌↔◌}
use Rattle.std.proofs.lemmas.List.Sorted.{Contains-permutation, IsPermutation-sym}
use Rattle.std.proofs.lemmas.Result.{IfOk-weaker}
use Rattle.mast_cq.specs.contracts.atom.AtomPartialEq.TheImpl as atom
use Rattle.mast_cq.specs.contracts.atom.AtomOrd.TheImpl as order
use Rattle.mast_cq.specs.declared.atom.Atom.{Atom}
use Rattle.mast_cq.specs.NormalForms.{Ordered}
use Rattle.mast_tbox.specs.Closure.{Down}
use Rattle.mast_tbox.proofs.SortedLemmas.{sorted_ordered}
use Rattle.mast_tbox.proofs.normal_inclusions.NormalTBox.down.Goals as goal

pub returns-clause-exact : goal.returns-clause-exact
returns-clause-exact c =
    let keys = c.as_slice.result.now in
    let same : keys ≡ c.sort.new.self.keys = c.as_slice.ensures.keys in
    IfOk-weaker c.listed.result (λ l. l ≡ keys) (λ l. (h : Atom) → Contains l h ↔ Down c.args.self.now c.args.atom h)
    (λ l e h.
    let back = subst (λ w. Contains w h) (e ∙ same) in
    let forth = subst (λ w. Contains w h) (sym (e ∙ same)) in (
      λ i. (c.in_ok-set.ensures h).0 (Contains-permutation c.sort.new.self.keys c.in_ok-set.set.keys h (IsPermutation-sym c.in_ok-set.set.keys c.sort.new.self.keys c.sort.ensures.reordered.0) (back i)),
      λ d. forth (Contains-permutation c.in_ok-set.set.keys c.sort.new.self.keys h c.sort.ensures.reordered.0 ((c.in_ok-set.ensures h).1 d)),
    ))
    c.listed.ensures

pub returns-clause-order : goal.returns-clause-order
returns-clause-order c =
    IfOk-weaker c.listed.result (λ l. l ≡ c.as_slice.result.now) Ordered
    (λ l e. subst Ordered (sym (e ∙ c.as_slice.ensures.keys))
    (sorted_ordered order.cmp-value.it c.atom_laws.ensures.order atom.eq-value.it (λ g. (c.atom_laws.ensures.equal g g).1 (λ i. g)) c.sort.new.self.keys c.in_ok-sort.ensures.sorted c.sort.ensures.unique))
    c.listed.ensures
