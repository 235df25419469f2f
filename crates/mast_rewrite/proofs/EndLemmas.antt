-- What the set of members is when the search ends, and when it is refused.
use Rattle.std.proofs.Common.{◌≡◌, Bool, true, List, map, Contains, ◌↔◌, ◌∙◌}
use Rattle.std.proofs.lemmas.List.{length-map}
use Rattle.indexmap.specs.IndexSet.{IndexSet}
use Rattle.mast_terms.specs.declared.memory.Stop.{Stop}
use Rattle.mast_terms.specs.declared.memory.Stop.TheVariants.{Named, NoMemory}
use Rattle.mast_cq.specs.declared.query.Cq.{Cq}
use Rattle.mast_cq.specs.declared.query.CqRef.{CqRef}
use Rattle.mast_cq.specs.Queries.{viewed}
use Rattle.mast_tbox.specs.declared.axiom.Inclusion.{Inclusion}
use Rattle.mast_rewrite.specs.declared.rewriting.TooMany.{TooMany}
use Rattle.mast_rewrite.specs.Closures.{Closure}
use Rattle.mast_rewrite.specs.Rewritings.{IsTooMany, IsRefused}
use Rattle.mast_rewrite.specs.inside.Growing.{IsOver}
use Rattle.mast_rewrite.proofs.DistinctLemmas.{each_once, all_have}

-- a set that is one too large shows that the closure is too large
pub too_many : {S : Type 0} (same : CqRef → CqRef → Bool) → ((x y : CqRef) → (same x y ≡ true) ↔ (viewed x ≡ viewed y)) → (tbox : List Inclusion) (q : Cq) (set : IndexSet CqRef S) (refusal : TooMany)
    → IsOver same set (Named refusal) → ((m : Cq) → Contains (map viewed set.keys) m → Closure tbox q m) → IsTooMany tbox q refusal
too_many same law tbox q set refusal over reached = record {
  counted = over.0;
  more = record {
    queries = map viewed set.keys;
    many = length-map set.keys viewed ∙ over.1;
    once = each_once viewed same law set.keys over.2;
    have = all_have (Closure tbox q) (map viewed set.keys) reached;
  };
}

-- a refusal has its cause
pub refused : {S : Type 0} (same : CqRef → CqRef → Bool) → ((x y : CqRef) → (same x y ≡ true) ↔ (viewed x ≡ viewed y)) → (tbox : List Inclusion) (q : Cq) (set : IndexSet CqRef S) (stop : Stop TooMany)
    → IsOver same set stop → ((m : Cq) → Contains (map viewed set.keys) m → Closure tbox q m) → IsRefused tbox q stop
refused same law tbox q set (Named refusal) over reached = too_many same law tbox q set refusal over reached
refused same law tbox q set NoMemory over reached = tt
