-- The steps of a sweep over atoms.
use Rattle.std.proofs.Common.{◌≡◌, ℕ, ◌+◌, ◌<◌, ◌≤◌, inl, inr, ◌↔◌, List, [], ◌∷◌, ◌++◌, take, drop, length, slice_index_or, Contains, sym, refl, subst, append_assoc, append-nil}
use Rattle.std.proofs.lemmas.List.{drop_more, drop_all, take_more}
use Rattle.mast_cq.specs.declared.atom.Atom.{Atom}
use Rattle.mast_tbox.specs.declared.axiom.Inclusion.{Inclusion}
use Rattle.mast_tbox.proofs.MemberLemmas.{none}
use Rattle.mast_rewrite.specs.inside.Leaders.{IsWidened, LedBy, Sweeps, IsSwept}
use Rattle.mast_rewrite.proofs.WayLemmas.{led_begin, led_same, led_more}

-- the set has what is below the first atoms, and what is kept of these and of a sweep over the others is a sweep over all
pub record Swept (tbox : List Inclusion) (atoms : List Atom) (i : ℕ) (keys kept : List Atom) : Type 0 where
  pub set : (h : Atom) → Contains keys h ↔ LedBy tbox (take i atoms) h
  pub sweeps : (rest : List Atom) → Sweeps tbox (take i atoms) (drop i atoms) rest → Sweeps tbox [] atoms (kept ++ rest)

module _ (tbox : List Inclusion) (atoms : List Atom) where
  -- before the first atom
  pub swept_begin : (keys kept : List Atom) → keys ≡ [] → kept ≡ [] → Swept tbox atoms 0 keys kept
  swept_begin keys kept e f = record {
    set = led_begin tbox atoms keys (λ h c. none h (subst (λ v. Contains v h) e c));
    sweeps = λ rest w. subst (λ v. Sweeps tbox [] atoms (v ++ rest)) (sym f) w;
  }

  module _ (i : ℕ) (d : Atom) (keys kept : List Atom) (within : i < length atoms) (w : Swept tbox atoms i keys kept) where
    whole : (rest : List Atom) → Sweeps tbox (take i atoms) (slice_index_or atoms i d ∷ drop (i + 1) atoms) rest → Sweeps tbox [] atoms (kept ++ rest)
    whole rest s = w.sweeps rest (subst (λ v. Sweeps tbox (take i atoms) v rest) (sym (drop_more atoms i d within)) s)

    done : take (i + 1) atoms ≡ take i atoms ++ slice_index_or atoms i d ∷ []
    done = take_more atoms i d within

    -- an atom that is led is passed over
    pub swept_pass : Contains keys (slice_index_or atoms i d) → Swept tbox atoms (i + 1) keys kept
    swept_pass c = record {
      set = led_same tbox atoms keys i d within c w.set;
      sweeps = λ rest s. whole rest (inl ((w.set (slice_index_or atoms i d)).0 c, subst (λ v. Sweeps tbox v (drop (i + 1) atoms) rest) done s));
    }

    -- and any other is kept
    pub swept_keep : (new : List Atom) → (Contains keys (slice_index_or atoms i d) → ⊥) → IsWidened tbox (slice_index_or atoms i d) keys new
        → Swept tbox atoms (i + 1) new (kept ++ slice_index_or atoms i d ∷ [])
    swept_keep new n wide = record {
      set = led_more tbox atoms keys new i d within wide w.set;
      sweeps = λ rest s. subst (Sweeps tbox [] atoms) (sym (append_assoc kept (slice_index_or atoms i d ∷ []) rest))
          (whole (slice_index_or atoms i d ∷ rest) (inr (
            (λ l. n ((w.set (slice_index_or atoms i d)).1 l)),
            rest,
            refl,
            subst (λ v. Sweeps tbox v (drop (i + 1) atoms) rest) done s,
          )));
    }

  -- one atom more
  pub swept_next : (i : ℕ) (d : Atom) (keys new kept more : List Atom) → i < length atoms → IsSwept tbox (slice_index_or atoms i d) keys new kept more → Swept tbox atoms i keys kept → Swept tbox atoms (i + 1) new more
  swept_next i d keys new kept more l (inl s) w =
      subst (λ v. Swept tbox atoms (i + 1) v more) (sym s.1.0) (subst (Swept tbox atoms (i + 1) keys) (sym s.1.1) (swept_pass i d keys kept l w s.0))
  swept_next i d keys new kept more l (inr s) w = subst (Swept tbox atoms (i + 1) new) (sym s.1.1) (swept_keep i d keys kept l w new s.0 s.1.0)

  -- after the last atom
  pub swept_end : (i : ℕ) (keys kept : List Atom) → length atoms ≤ i → Swept tbox atoms i keys kept → Sweeps tbox [] atoms kept
  swept_end i keys kept l w = subst (Sweeps tbox [] atoms) (append-nil kept) (w.sweeps [] (subst (λ v. Sweeps tbox (take i atoms) v []) (sym (drop_all i atoms l)) refl))
