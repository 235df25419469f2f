-- One root after another: how far the components are settled.
use Rattle.std.proofs.Common.{◌≡◌, ℕ, ◌+◌, ◌-◌, ◌<◌, ◌≤◌, ◌⊎◌, inl, inr, ◌↔◌, true, false, Option, None, List, [], ◌∷◌, map, length, drop, slice_index_or, Contains, sym, ap, subst, ◌∙◌, arith}
use Rattle.std.proofs.lemmas.List.{drop_more, drop_all}
use Rattle.std.proofs.lemmas.List.Elements.{Contains-append_left}
use Rattle.std.proofs.lemmas.Map.Views.{list_any-from_Contains}
use Rattle.indexmap.specs.IndexSet.{insert_all}
use Rattle.mast_tbox.specs.declared.axiom.Inclusion.{Inclusion}
use Rattle.mast_tbox.specs.declared.axiom.Lined.{Lined}
use Rattle.mast_tbox.specs.declared.expression.Prop.{Prop}
use Rattle.mast_tbox.specs.declared.groups.Groups.{Groups}
use Rattle.mast_tbox.specs.inside.Components.{all_ends, turned, Settled, SettlesBy, Begins, TellsComponents, next_in}
use Rattle.mast_tbox.specs.inside.Chosen.{is_in, chosen}
use Rattle.mast_tbox.specs.Expressions.{same_prop}
use Rattle.mast_tbox.specs.Inclusions.{Leads}
use Rattle.mast_tbox.specs.inside.StepLists.{leading_to}
use Rattle.mast_tbox.specs.Lists.{items}
use Rattle.mast_tbox.proofs.EqualityLemmas.{prop_same, prop_equivalence}
use Rattle.mast_tbox.proofs.MemberLemmas.{none, first_or}
use Rattle.mast_tbox.proofs.BelowLemmas.{leading_is}
use Rattle.mast_tbox.proofs.WorkLemmas.{all_has}
use Rattle.mast_tbox.proofs.ComponentLemmas.{settled_first, settled_next, root_settled, tells, leads_turned}

-- the roots from a place on are settled
pub record Going (tbox : List Inclusion) (first order : List Prop) (left : ℕ) (free : List Prop) (note : Prop → Option Prop) : Type 0 where
  pub settled : Settled tbox free note
  pub done : (p : Prop) → Contains (drop left order) p → Contains free p → ⊥
  pub fewer : (p : Prop) → Contains free p → Contains first p
  pub within : left ≤ length order

-- in the beginning none is
pub going_first : (tbox : List Inclusion) (order free : List Prop) (left : ℕ) (note : Prop → Option Prop) → left ≡ length order → ((p : Prop) → note p ≡ None) → free ≡ insert_all same_prop [] (all_ends tbox) → Going tbox free order left free note
going_first tbox order free left note l nothing e = record {
  settled = settled_first tbox free note nothing (λ p c. subst (λ w. Contains w p) (sym e) (all_has same_prop prop_same (all_ends tbox) [] p c));
  done = λ p c f. none p (subst (λ w. Contains w p) (drop_all left order (omega arith)) c);
  fewer = λ p c. c;
  within = omega arith;
}

module _ (tbox : List Inclusion) (first order : List Prop) (left : ℕ) (free : List Prop) (note : Prop → Option Prop) (w : Going tbox first order left free note) (more : 0 < left) where
  at_root : (d p : Prop) → Contains (drop (left - 1) order) p → (p ≡ slice_index_or order (left - 1) d) ⊎ Contains (drop left order) p
  at_root d p c =
      let l = w.within in
      let e : left - 1 + 1 ≡ left = omega arith in
      let s : drop (left - 1) order ≡ slice_index_or order (left - 1) d ∷ drop left order =
      drop_more order (left - 1) d (omega arith) ∙ ap (λ k. slice_index_or order (left - 1) d ∷ drop k order) e in
      first_or (slice_index_or order (left - 1) d) (drop left order) p (subst (λ v. Contains v p) s c)

  -- a root that is settled already is passed
  pub going_past : (d : Prop) → is_in (slice_index_or order (left - 1) d) free ≡ false → Going tbox first order (left - 1) free note
  going_past d e = record {
    settled = w.settled;
    done = λ p c f. elim (at_root d p c) [
      | inl g ↦ absurd (let h : true ≡ false = sym (list_any-from_Contains prop_equivalence (slice_index_or order (left - 1) d) free (subst (Contains free) g f)) ∙ e in cc)
      | inr i ↦ w.done p i f
    ];
    fewer = w.fewer;
    within = let l = w.within in omega arith;
  }

  -- and a free one is settled
  pub going_on : (below above : Prop → List Prop) → ((p q : Prop) → Contains (below p) q ↔ Leads tbox q p) → ((p q : Prop) → Contains (above p) q ↔ Leads tbox p q) → (d : Prop) (rest : List Prop) (after : Prop → Option Prop)
      → Contains free (slice_index_or order (left - 1) d) → SettlesBy below above free note (slice_index_or order (left - 1) d) rest after → Going tbox first order (left - 1) rest after
  going_on below above below_is above_is d rest after f s = record {
    settled = settled_next tbox below above below_is above_is free note w.settled (slice_index_or order (left - 1) d) f rest after s;
    done = λ p c i. elim (at_root d p c) [
      | inl g ↦ root_settled tbox below above below_is above_is free note w.settled (slice_index_or order (left - 1) d) f rest after s (subst (Contains rest) g i)
      | inr j ↦ w.done p j ((s.still_free p).0 i).0
    ];
    fewer = λ p c. w.fewer p ((s.still_free p).0 c).0;
    within = let l = w.within in omega arith;
  }

-- at the end the chiefs tell the components
pub going_done : (tbox : List Inclusion) (first order : List Prop) (left : ℕ) (free : List Prop) (note : Prop → Option Prop) → Going tbox first order left free note → left ≡ 0 → Begins first order → TellsComponents tbox (λ p. chosen (note p) p)
going_done tbox first order left free note w z b =
    tells tbox free note w.settled
    (λ p f. w.done p (subst (λ k. Contains (drop k order) p) (sym z) (subst (λ v. Contains v p) b.1 (Contains-append_left first b.0 p (w.fewer p f)))) f)

-- the groups of the inclusions are those that lead to a property, and those of the turned ones those to which it leads
pub below_edges : (tbox xs : List Inclusion) (g : Groups Prop) → xs ≡ tbox → ((p : Prop) → next_in g p ≡ leading_to xs p) → (p q : Prop) → Contains (next_in g p) q ↔ Leads tbox q p
below_edges tbox xs g x is p q =
    subst (λ w. Contains w q ↔ Leads tbox q p) (sym (is p ∙ ap (λ w. leading_to w p) x)) (leading_is tbox p q)

-- the groups of the turned inclusions are those to which a property leads
pub above_edges : (lines : List (Lined Inclusion)) (xs : List Inclusion) (g : Groups Prop) → xs ≡ map (λ l. turned l.item) lines → ((p : Prop) → next_in g p ≡ leading_to xs p)
    → (p q : Prop) → Contains (next_in g p) q ↔ Leads (items lines) p q
above_edges lines xs g x is p q =
    let h = below_edges (map (λ l. turned l.item) lines) xs g x is p q in
    let t = leads_turned lines q p in
    (λ c. t.0 (h.0 c), λ l. h.1 (t.1 l))
