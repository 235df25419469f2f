use Rattle.std.proofs.Common.{◌≡◌, ◌∷◌, ◌++◌, [], ℕ, List, length, ap, sym, subst, arith}
use Rattle.std.proofs.lemmas.List.{length_push}
use Rattle.mast_relations.specs.declared.hashes.Chains.{Chains}
use Rattle.mast_relations.specs.inside.Lasts.{AreChained}
use Rattle.mast_relations.proofs.HashLemmas.{chained_push, chained_same, put_and_taken}
use Rattle.mast_relations.proofs.hashes.Hashes.push.Goals as goal

pub invariant_of-self-in-Ok : goal.invariant_of-self-in-Ok
invariant_of-self-in-Ok c =
    let h = c.self.inside in
    let before = c.widen.new.chains in
    let after : Chains = record { heads = c.link.new.heads; nexts = c.link.new.nexts } in
    let items : c.push.new.self.items ≡ h.hashes.items ++ c.args.hash ∷ [] = c.in_ok-push.ensures.items in
    record {
      few = omega (arith, ap length items, length_push h.hashes.items c.args.hash, ap length c.self.view_is, c.requires.few);
      chained = subst (λ (l : List ℕ). AreChained l after) (sym items) (chained_push h.hashes.items c.args.hash before after
          (subst (λ (l : List ℕ). AreChained l before) c.deref.ensures.value c.widen.ensures.chains) c.in_ok-widen.ensures.some c.in-Ok.ensures.nexts c.in-Ok.ensures.heads);
    }

pub invariant_of-self-in-Err : goal.invariant_of-self-in-Err
invariant_of-self-in-Err c =
    let h = c.self.inside in
    let before = c.widen.new.chains in
    let after : Chains = record { heads = c.link.new.heads; nexts = c.link.new.nexts } in
    let items : c.pop.new.self.items ≡ h.hashes.items =
    put_and_taken h.hashes.items c.push.new.self.items c.pop.new.self.items c.args.hash _ c.in_ok-push.ensures.items c.push.new.self.ok.0 c.pop.ensures.rest in
    record {
      few = omega (arith, ap length items, c.self.invariant.few);
      chained = subst (λ (l : List ℕ). AreChained l after) (sym items) (chained_same h.hashes.items before after c.in-Err.ensures.err_heads c.in-Err.ensures.err_nexts
          (subst (λ (l : List ℕ). AreChained l before) c.deref.ensures.value c.widen.ensures.chains));
    }
