-- Each element once: what inserting one after another gives, and which elements there are.
use Rattle.std.proofs.Common.{◌≡◌, ◌⊎◌, inl, inr, Bool, true, false, ◌||◌, List, [], ◌∷◌, ◌++◌, Contains, refl, sym, ap, ◌∙◌, if◌then◌else◌, append_assoc, append-nil}
use Rattle.std.specs.List.{list_any}
use Rattle.indexmap.specs.IndexSet.{insert_key, insert_all}
use Rattle.mast_tbox.specs.Lists.{others, once}
use Rattle.mast_tbox.proofs.MemberLemmas.{front, later, first_or}

module _ {X : Type 0} (eq : X → X → Bool) (same : (x y : X) → eq x y ≡ true → x ≡ y) (itself : (x : X) → eq x x ≡ true) where
  others_from_case : (x z : X) (ys : List X) (y : X) (b : Bool) → (Contains (others eq x ys) y → Contains ys y) → Contains (if b then others eq x ys else z ∷ others eq x ys) y → Contains (z ∷ ys) y
  others_from_case x z ys y true ih c = later y z ys (ih c)
  others_from_case x z ys y false ih c = elim (first_or z (others eq x ys) y c) [ inl e ↦ rw e (front z ys) | inr i ↦ later y z ys (ih i) ]

  others_from : (x : X) (ys : List X) (y : X) → Contains (others eq x ys) y → Contains ys y
  others_from x [] y c = c
  others_from x (z ∷ ys) y c = others_from_case x z ys y (eq x z) (others_from x ys y) c

  others_has_case : (x z : X) (ys : List X) (y : X) (b : Bool) → eq x z ≡ b → (Contains ys y → (y ≡ x) ⊎ Contains (others eq x ys) y) → Contains (z ∷ ys) y
      → (y ≡ x) ⊎ Contains (if b then others eq x ys else z ∷ others eq x ys) y
  others_has_case x z ys y true e ih c = elim (first_or z ys y c) [ inl f ↦ inl (f ∙ sym (same x z e)) | inr i ↦ ih i ]
  others_has_case x z ys y false e ih c = elim (first_or z ys y c) [
    | inl f ↦ inr (rw f (front z (others eq x ys)))
    | inr i ↦ elim (ih i) [ inl f ↦ inl f | inr j ↦ inr (later y z (others eq x ys) j) ]
  ]

  others_has : (x : X) (ys : List X) (y : X) → Contains ys y → (y ≡ x) ⊎ Contains (others eq x ys) y
  others_has x [] y c = inr c
  others_has x (z ∷ ys) y c = others_has_case x z ys y (eq x z) refl (others_has x ys y) c

  -- the same elements stand in the list where each stands once
  pub once_from : (xs : List X) (x : X) → Contains (once eq xs) x → Contains xs x
  once_from [] x c = c
  once_from (y ∷ xs) x c = elim (first_or y (others eq y (once eq xs)) x c) [
    | inl e ↦ rw e (front y xs)
    | inr i ↦ later x y xs (once_from xs x (others_from y (once eq xs) x i))
  ]

  once_has_case : (y : X) (os : List X) (x : X) → (x ≡ y) ⊎ Contains os x → Contains (y ∷ os) x
  once_has_case y os x (inl e) = rw e (front y os)
  once_has_case y os x (inr i) = later x y os i

  -- each element stands among those that stand once
  pub once_has : (xs : List X) (x : X) → Contains xs x → Contains (once eq xs) x
  once_has [] x c = c
  once_has (y ∷ xs) x c = once_has_case y (others eq y (once eq xs)) x (elim (first_or y xs x c) [
    | inl e ↦ inl e
    | inr i ↦ others_has y (once eq xs) x (once_has xs x i)
  ])

  -- leaving others out does not change whether a different one stands in the list
  any_case : (x k z : X) (ks : List X) (b : Bool) → eq x z ≡ b → eq k x ≡ false → list_any (eq k) ks ≡ list_any (eq k) (others eq x ks)
      → list_any (eq k) (z ∷ ks) ≡ list_any (eq k) (if b then others eq x ks else z ∷ others eq x ks)
  any_case x k z ks true e n ih = ap (λ w. w || list_any (eq k) ks) (ap (eq k) (sym (same x z e)) ∙ n) ∙ ih
  any_case x k z ks false e n ih = ap (λ w. eq k z || w) ih

  any_others : (x k : X) (ks : List X) → eq k x ≡ false → list_any (eq k) ks ≡ list_any (eq k) (others eq x ks)
  any_others x k [] n = refl
  any_others x k (z ∷ ks) n = any_case x k z ks (eq x z) refl n (any_others x k ks n)

  others_join_case : (x z : X) (b : Bool) (os more : List X) → (if b then os ++ more else z ∷ (os ++ more)) ≡ (if b then os else z ∷ os) ++ more
  others_join_case x z true os more = refl
  others_join_case x z false os more = refl

  others_join : (x : X) (ks more : List X) → others eq x (ks ++ more) ≡ others eq x ks ++ others eq x more
  others_join x [] more = refl
  others_join x (z ∷ ks) more =
      ap (λ w. if eq x z then w else z ∷ w) (others_join x ks more) ∙ others_join_case x z (eq x z) (others eq x ks) (others eq x more)

  -- an element that is inserted after a first one is dropped, if it is the same
  insert_same : (x k : X) (ks : List X) (a : Bool) → k ≡ x → others eq x (if a then ks else ks ++ k ∷ []) ≡ others eq x ks
  insert_same x k ks true e = refl
  insert_same x k ks false e =
      others_join x ks (k ∷ [])
      ∙ (ap (λ w. others eq x ks ++ (if w then [] else k ∷ [])) (ap (eq x) e ∙ itself x) ∙ append-nil (others eq x ks))

  different : (x k : X) (b : Bool) → eq x k ≡ b → eq k x ≡ false → eq x k ≡ false
  different x k true e n = absurd (let f : true ≡ false = sym (itself x) ∙ (ap (λ w. eq w x) (same x k e) ∙ n) in cc)
  different x k false e n = e

  insert_new : (x k : X) (ks : List X) (a : Bool) → eq k x ≡ false → x ∷ others eq x (if a then ks else ks ++ k ∷ []) ≡ (if a then x ∷ others eq x ks else x ∷ (others eq x ks ++ k ∷ []))
  insert_new x k ks true n = refl
  insert_new x k ks false n =
      ap (λ w. x ∷ w) (others_join x ks (k ∷ []) ∙ ap (λ w. others eq x ks ++ (if w then [] else k ∷ [])) (different x k (eq x k) refl n))

  insert_case : (x k : X) (ks : List X) (b : Bool) → eq k x ≡ b
      → x ∷ others eq x (insert_key eq ks k) ≡ (if b || list_any (eq k) (others eq x ks) then x ∷ others eq x ks else x ∷ (others eq x ks ++ k ∷ []))
  insert_case x k ks true e = ap (λ w. x ∷ w) (insert_same x k ks (list_any (eq k) ks) (same k x e))
  insert_case x k ks false e =
      insert_new x k ks (list_any (eq k) ks) e
      ∙ ap (λ w. if w then x ∷ others eq x ks else x ∷ (others eq x ks ++ k ∷ [])) (any_others x k ks e)

  others_insert : (x : X) (ks : List X) (k : X) → x ∷ others eq x (insert_key eq ks k) ≡ insert_key eq (x ∷ others eq x ks) k
  others_insert x ks k = insert_case x k ks (eq k x) refl

  once_push : (xs : List X) (k : X) → once eq (xs ++ k ∷ []) ≡ insert_key eq (once eq xs) k
  once_push [] k = refl
  once_push (x ∷ xs) k = ap (λ w. x ∷ others eq x w) (once_push xs k) ∙ others_insert x (once eq xs) k

  -- inserting one after another gives each once
  pub once_all : (xs ys : List X) → insert_all eq (once eq ys) xs ≡ once eq (ys ++ xs)
  once_all [] ys = ap (once eq) (sym (append-nil ys))
  once_all (x ∷ xs) ys =
      ap (λ w. insert_all eq w xs) (sym (once_push ys x)) ∙ (once_all xs (ys ++ x ∷ []) ∙ ap (once eq) (append_assoc ys (x ∷ []) xs))
