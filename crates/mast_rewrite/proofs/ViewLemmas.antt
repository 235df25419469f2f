-- Inserting into a set whose keys are compared by what they stand for.
use Rattle.std.proofs.Common.{◌≡◌, ℕ, suc, zero, ◌⊎◌, inl, inr, Bool, true, false, ◌||◌, map, Contains, ◌↔◌, List, [], ◌∷◌, ◌++◌, refl, sym, ap, subst, ◌∙◌, if◌then◌else◌, slice_get, Some}
use Rattle.std.specs.List.{list_any}
use Rattle.std.proofs.lemmas.List.Elements.{Contains-push, Contains-append_cases}
use Rattle.indexmap.specs.IndexSet.{insert_key}
use Rattle.mast_cq.specs.declared.query.Cq.{Cq}
use Rattle.mast_tbox.proofs.MemberLemmas.{front, later, only_one}
use Rattle.mast_rewrite.specs.inside.Growing.{Extends, Grown}

map_append : {T V : Type 0} (f : T → V) (xs ys : List T) → map f (xs ++ ys) ≡ map f xs ++ map f ys
map_append f [] ys = refl
map_append f (x ∷ xs) ys = ap (λ w. f x ∷ w) (map_append f xs ys)

append_none : {V : Type 0} (xs : List V) → xs ++ [] ≡ xs
append_none [] = refl
append_none (x ∷ xs) = ap (λ w. x ∷ w) (append_none xs)

-- an element at a place of a list, after a map
pub map_get : {T V : Type 0} (f : T → V) (xs : List T) (j : ℕ) (x : T) → Some x ≡ slice_get xs j → slice_get (map f xs) j ≡ Some (f x)
map_get f [] j x e = cc
map_get f (y ∷ xs) zero x e = let k : x ≡ y = cc in ap (λ z. Some (f z)) (sym k)
map_get f (y ∷ xs) (suc j) x e = map_get f xs j x e

module _ {T : Type 0} (f : T → Cq) (same : T → T → Bool) (law : (x y : T) → (same x y ≡ true) ↔ (f x ≡ f y)) where
  any_has : (ks : List T) (k : T) → list_any (same k) ks ≡ true → Contains (map f ks) (f k)
  any_has [] k e = cc
  any_has (x ∷ ks) k e = by (same k x) refl e (any_has ks k)
    where
      by : (b : Bool) → same k x ≡ b → (b || list_any (same k) ks) ≡ true → (list_any (same k) ks ≡ true → Contains (map f ks) (f k)) → Contains (f x ∷ map f ks) (f k)
      by true h g rest = subst (Contains (f x ∷ map f ks)) (sym ((law k x).0 h)) (front (f x) (map f ks))
      by false h g rest = later (f k) (f x) (map f ks) (rest g)

  insert_extends : (ks : List T) (k : T) → Extends (map f ks) (map f (insert_key same ks k))
  insert_extends ks k = go (list_any (same k) ks)
    where
      go : (b : Bool) → Extends (map f ks) (map f (if b then ks else ks ++ k ∷ []))
      go true = ([], append_none (map f ks))
      go false = (f k ∷ [], sym (map_append f ks (k ∷ [])))

  insert_from : (ks : List T) (k : T) (m : Cq) → Contains (map f (insert_key same ks k)) m → Contains (map f ks) m ⊎ (m ≡ f k)
  insert_from ks k m c = go (list_any (same k) ks) c
    where
      go : (b : Bool) → Contains (map f (if b then ks else ks ++ k ∷ [])) m → Contains (map f ks) m ⊎ (m ≡ f k)
      go true c = inl c
      go false c = elim (Contains-append_cases (map f ks) (f k ∷ []) m (subst (λ w. Contains w m) (map_append f ks (k ∷ [])) c)) [
        | inl i ↦ inl i
        | inr i ↦ inr (only_one (f k) m i)
      ]

  insert_has : (ks : List T) (k : T) → Contains (map f (insert_key same ks k)) (f k)
  insert_has ks k = go (list_any (same k) ks) refl
    where
      go : (b : Bool) → list_any (same k) ks ≡ b → Contains (map f (if b then ks else ks ++ k ∷ [])) (f k)
      go true e = any_has ks k e
      go false e = subst (λ w. Contains w (f k)) (sym (map_append f ks (k ∷ []))) (Contains-push (map f ks) (f k))

  -- a query that is inserted is the only one that is new
  pub grown_insert : (keys new : List T) (k : T) (q : Cq) → f k ≡ q → new ≡ insert_key same keys k → Grown (λ m. m ≡ q) (map f keys) (map f new)
  grown_insert keys new k q e i = subst (λ v. Grown (λ m. m ≡ v) (map f keys) (map f new)) e (subst (λ w. Grown (λ m. m ≡ f k) (map f keys) (map f w)) (sym i) (record {
    extends = insert_extends keys k;
    within = λ m c. insert_from keys k m c;
    all = λ m g. subst (Contains (map f (insert_key same keys k))) (sym g) (insert_has keys k);
  }))

  -- a query that is there already changes nothing
  pub grown_there : (keys : List T) (k : T) (q : Cq) → f k ≡ q → list_any (same k) keys ≡ true → Grown (λ m. m ≡ q) (map f keys) (map f keys)
  grown_there keys k q e i = record {
    extends = ([], append_none (map f keys));
    within = λ m c. inl c;
    all = λ m g. subst (Contains (map f keys)) (e ∙ sym g) (any_has keys k i);
  }
