-- The entries of a map: what a look-up finds, and what an insert leaves.
use Rattle.std.proofs.Common.{◌≡◌, ℕ, zero, suc, ◌<◌, ◌⊎◌, inl, inr, Bool, true, false, cond, List, [], ◌∷◌, length, Contains, Option, Some, slice_get, refl, sym, subst, arith, if◌then◌else◌}
use Rattle.indexmap.specs.IndexMap.{insert_entry}
use Rattle.std.specs.Map.{lookup}
use Rattle.mast_tbox.proofs.MemberLemmas.{front, later, none, first_or}

module _ {K V : Type 0} where
  -- an entry with a key that passes the test
  pub record Entry (test : K → Bool) (es : List (K × V)) (v : V) : Type 0 where
    pub key : K
    pub stands : Contains es (key, v)
    pub passes : test key ≡ true

  lookup_case : (test : K → Bool) (x : K × V) (es : List (K × V)) (v : V) (b : Bool) → test x.0 ≡ b → (lookup test es ≡ Some v → Entry test es v) → cond b (Some x.1) (lookup test es) ≡ Some v
      → Entry test (x ∷ es) v
  lookup_case test x es v true t ih f = let g : x.1 ≡ v = cc in record { key = x.0; stands = subst (λ w. Contains (x ∷ es) (x.0, w)) g (front x es); passes = t }
  lookup_case test x es v false t ih f = let k = ih f in record { key = k.key; stands = later (k.key, v) x es k.stands; passes = k.passes }

  -- what is found stands there with a key that passes the test
  pub lookup_in : (test : K → Bool) (es : List (K × V)) (v : V) → lookup test es ≡ Some v → Entry test es v
  lookup_in test [] v e = cc
  lookup_in test (x ∷ es) v e = lookup_case test x es v (test x.0) refl (lookup_in test es v) e

  insert_case : (eq : K → K → Bool) → ((x y : K) → eq x y ≡ true → x ≡ y) → (x : K × V) (es : List (K × V)) (k : K) (v : V) (e : K × V) (b : Bool) → eq k x.0 ≡ b
      → (Contains (insert_entry eq es k v) e → Contains es e ⊎ (e ≡ (k, v))) → Contains (if b then (x.0, v) ∷ es else x ∷ insert_entry eq es k v) e → Contains (x ∷ es) e ⊎ (e ≡ (k, v))
  insert_case eq same x es k v e true t ih d = elim (first_or (x.0, v) es e d) [
    | inl f ↦ inr (subst (λ j. e ≡ (j, v)) (sym (same k x.0 t)) f)
    | inr i ↦ inl (later e x es i)
  ]
  insert_case eq same x es k v e false t ih d = elim (first_or x (insert_entry eq es k v) e d) [
    | inl f ↦ inl (rw f (front x es))
    | inr i ↦ elim (ih i) [ inl j ↦ inl (later e x es j) | inr j ↦ inr j ]
  ]

  -- after an insert an entry was there, or is the one that was inserted
  pub insert_in : (eq : K → K → Bool) → ((x y : K) → eq x y ≡ true → x ≡ y) → (es : List (K × V)) (k : K) (v : V) (e : K × V) → Contains (insert_entry eq es k v) e → Contains es e ⊎ (e ≡ (k, v))
  insert_in eq same [] k v e c = elim (first_or (k, v) [] e c) [ inl f ↦ inr f | inr i ↦ absurd (none e i) ]
  insert_in eq same (x ∷ es) k v e c = insert_case eq same x es k v e (eq k x.0) refl (insert_in eq same es k v e) c

-- an element at a place that is found
pub record Found {V : Type 0} (vs : List V) (i : ℕ) (o : Option V) : Type 0 where
  pub value : V
  pub stands : slice_get vs i ≡ Some value
  pub is : o ≡ Some value

-- what stands at a place within a list
pub some_at : {V : Type 0} (vs : List V) (i : ℕ) (o : Option V) → slice_get vs i ≡ o → i < length vs → Found vs i o
some_at [] i o e l = absurd (omega arith)
some_at (x ∷ vs) zero o e l = record { value = x; stands = refl; is = sym e }
some_at (x ∷ vs) (suc i) o e l = let w = some_at vs i o e (omega arith) in record { value = w.value; stands = w.stands; is = w.is }
