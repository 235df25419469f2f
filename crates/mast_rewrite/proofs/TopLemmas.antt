-- Of a finite list under a decided preorder, each element is below one that is above each that is above it.
use Rattle.std.proofs.Common.{◌≡◌, List, [], ◌∷◌, ◌⊎◌, inl, inr, Contains, refl, sym, subst}
use Rattle.mast_tbox.specs.Laws.{Decided}
use Rattle.mast_tbox.proofs.MemberLemmas.{front, later, none, first_or}

-- an element above y, which is y or one of the list, and is above each of the list that is above it
pub record Top {X : Type 0} (R : X → X → Type 0) (xs : List X) (y : X) : Type 0 where
  pub top : X
  pub among : (top ≡ y) ⊎ Contains xs top
  pub above : R top y
  pub is_top : (z : X) → Contains xs z → R z top → R top z

module _ {X : Type 0} (R : X → X → Type 0) (itself : (x : X) → R x x) (join : (x y z : X) → R x y → R y z → R x z) where
  with_first : (xs : List X) (x y : X) → R x y → Top R xs x → Top R (x ∷ xs) y
  with_first xs x y h w = record {
    top = w.top;
    among = inr (elim w.among [ inl e ↦ subst (Contains (x ∷ xs)) (sym e) (front x xs) | inr i ↦ later w.top x xs i ]);
    above = join w.top x y w.above h;
    is_top = λ z i l. elim (first_or x xs z i) [ inl e ↦ subst (λ c. R w.top c) (sym e) w.above | inr j ↦ w.is_top z j l ];
  }

  without_first : (xs : List X) (x y : X) → (R x y → ⊥) → Top R xs y → Top R (x ∷ xs) y
  without_first xs x y apart w = record {
    top = w.top;
    among = elim w.among [ inl e ↦ inl e | inr i ↦ inr (later w.top x xs i) ];
    above = w.above;
    is_top = λ z i l. elim (first_or x xs z i) [ inl e ↦ absurd (apart (join x w.top y (subst (λ c. R c w.top) e l) w.above)) | inr j ↦ w.is_top z j l ];
  }

  top_step : (xs : List X) (x y : X) → Decided (R x y) → Top R xs x → Top R xs y → Top R (x ∷ xs) y
  top_step xs x y (inl h) v w = with_first xs x y h v
  top_step xs x y (inr h) v w = without_first xs x y h w

  -- there is one above each element
  pub top_of : ((x y : X) → Decided (R x y)) → (xs : List X) (y : X) → Top R xs y
  top_of decided [] y = record { top = y; among = inl refl; above = itself y; is_top = λ z i l. absurd (none z i) }
  top_of decided (x ∷ xs) y = top_step xs x y (decided x y) (top_of decided xs x) (top_of decided xs y)
