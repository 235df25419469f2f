-- Items that join a list or a set.
use Rattle.std.proofs.Common.{◌≡◌, ℕ, zero, suc, Bool, true, false, inl, inr, List, [], ◌∷◌, ◌++◌, slice_get, Some, Result, Ok, Err, refl, ap, sym, ◌∙◌}
use Rattle.std.specs.Prelude.{if◌then◌else◌, OnOk}
use Rattle.std.specs.List.{list_any, position, IsDistinct}
use Rattle.indexmap.specs.IndexSet.{insert_key}
use Rattle.mast_terms.specs.Orders.{TestsEquality}
use Rattle.mast_terms.specs.Vocabularies.{EachOnce}
use Rattle.mast_terms.proofs.PlaceLemmas.{once, slice_get-position}
use Rattle.mast_terms.specs.declared.term.Term.{Term}
use Rattle.mast_numbers.specs.Numbered.{IsJoined, IsValueAt}

module _ {K : Type 0} (eq : K → K → Bool) (test : TestsEquality eq) where
  -- a set has each item once
  pub each_once : (keys : List K) → IsDistinct eq keys → EachOnce keys
  each_once keys d = once eq (λ a b e. (test a b).1 e) keys d

  -- what is inserted joins the items
  pub joins : (keys after : List K) (item : K) → after ≡ insert_key eq keys item → IsJoined keys after item
  joins keys after item h = by (list_any (eq item) keys) refl
    where
      by : (b : Bool) → list_any (eq item) keys ≡ b → IsJoined keys after item
      by true e = inl (h ∙ ap (λ b. if b then keys else keys ++ item ∷ []) e)
      by false e = inr (h ∙ ap (λ b. if b then keys else keys ++ item ∷ []) e)

  -- what is found is the item
  pub found : (keys : List K) (place : ℕ) (item : K) → position (eq item) keys ≡ Some place → slice_get keys place ≡ Some item
  found keys place item h = slice_get-position (eq item) keys place item (λ k e. sym ((test item k).0 e)) h

  -- what is stored is the item
  pub stored : (keys : List K) (place : ℕ) (item : K) → (k : K) × (slice_get keys place ≡ Some k) × (eq item k ≡ true) → slice_get keys place ≡ Some item
  stored keys place item s = s.1 ∙ ap (λ k. Some k) (sym ((test item s.0).0 s.2))

-- what holds anyway holds where there is a value
pub at_ok : {T E P : Type 0} (r : Result T E) → P → OnOk r P
at_ok (Ok value) p = p
at_ok (Err e) p = tt

-- what stands in a list stands there with more behind it
pub get_more : {X : Type 0} (xs more : List X) (i : ℕ) (x : X) → slice_get xs i ≡ Some x → slice_get (xs ++ more) i ≡ Some x
get_more [] more i x h = absurd (cc)
get_more (y ∷ ys) more zero x h = h
get_more (y ∷ ys) more (suc i) x h = get_more ys more i x h

-- what stands in a list stands there after something joined it
pub joined_more : {X : Type 0} (before after : List X) (x : X) (i : ℕ) (y : X) → IsJoined before after x → slice_get before i ≡ Some y → slice_get after i ≡ Some y
joined_more before after x i y (inl e) h = ap (λ l. slice_get l i) e ∙ h
joined_more before after x i y (inr e) h = ap (λ l. slice_get l i) e ∙ get_more before (x ∷ []) i y h

-- the number of a value stays one
pub value_more : (before after : List Term) (t : Term) (number : ℕ) → IsJoined before after t → IsValueAt before number → IsValueAt after number
value_more before after t number j v = (v.0, joined_more before after t number _ j v.1)
