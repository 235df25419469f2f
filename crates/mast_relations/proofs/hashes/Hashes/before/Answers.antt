use Rattle.std.proofs.Common.{◌≡◌, ◌-◌, ◌<◌, ℕ, List, length, get_or, ap, sym, subst, ◌∙◌, arith}
use Rattle.std.proofs.lemmas.List.{get_or_read}
use Rattle.mast_relations.specs.inside.Lasts.{HasHash, HasKey, IsLast}
use Rattle.mast_relations.proofs.HashLemmas.{hash_key, next_below}
use Rattle.mast_relations.proofs.LastLemmas.{last_weaker}
use Rattle.mast_relations.proofs.hashes.Hashes.before.Goals as goal

pub same-requires-clause-within : goal.same-requires-clause-within
same-requires-clause-within c =
    let h = c.self.inside in
    let k = c.args.place - 1 in
    let lt : k < length h.hashes.items = omega (arith, c.requires.some, c.requires.within, ap length c.self.view_is) in
    let read : c.index-next.result.now ≡ get_or h.chains.nexts.items k 0 = get_or_read h.chains.nexts.items k c.index-next.result.now (omega (arith, lt, c.self.invariant.chained.long)) c.index-next.ensures 0 in
    let below = next_below h.hashes.items h.chains k c.self.invariant.chained lt in
    omega (arith, read, below, lt, ap length c.deref.ensures.value)

pub returns : goal.returns
returns c =
    let h = c.self.inside in
    let k = c.args.place - 1 in
    let size = length h.chains.heads.items in
    let hash = c.args.hash in
    let lt : k < length h.hashes.items = omega (arith, c.requires.some, c.requires.within, ap length c.self.view_is) in
    let read : c.index-next.result.now ≡ get_or h.chains.nexts.items k 0 = get_or_read h.chains.nexts.items k c.index-next.result.now (omega (arith, lt, c.self.invariant.chained.long)) c.index-next.ensures 0 in
    let here : HasHash h.hashes.items hash k = subst (λ (l : List ℕ). HasHash l hash k) (sym c.self.view_is) c.requires.hash in
    let last : IsLast (HasKey h.hashes.items size hash) (HasKey h.hashes.items size hash) k (get_or h.chains.nexts.items k 0) =
    c.self.invariant.chained.nexts k hash lt (hash_key h.hashes.items size hash k here) in
    let begun : IsLast (HasKey h.hashes.items size hash) (HasHash h.hashes.items hash) k c.index-next.result.now =
    subst (λ (n : ℕ). IsLast (HasKey h.hashes.items size hash) (HasHash h.hashes.items hash) k n) (sym read)
    (last_weaker (HasKey h.hashes.items size hash) (HasHash h.hashes.items hash) k (get_or h.chains.nexts.items k 0) (λ p lt e. hash_key h.hashes.items size hash p e) last) in
    let given = c.same.ensures.last k (subst (λ (l : List ℕ). IsLast (HasKey l size hash) (HasHash l hash) k c.index-next.result.now) (sym c.deref.ensures.value) begun) in
    subst (λ (l : List ℕ). IsLast (HasHash l hash) (HasHash l hash) k c.same.result) (c.deref.ensures.value ∙ c.self.view_is) given
