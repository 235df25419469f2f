-- Equalities that link an entry to bound ones.
use Rattle.std.proofs.Common.{◌≡◌, ℕ, Bool, true, false, List, get_or, refl, sym, ap, subst, ◌∙◌}
use Rattle.std.specs.Prelude.{Option, Some, None, ◌||◌}
use Rattle.std.specs.Ordering.{is_eq}
use Rattle.std.specs.declared.cmp.Ordering.{Ordering}
use Rattle.std.specs.declared.cmp.Ordering.TheVariants as o
use Rattle.std.proofs.lemmas.Bool.{ne_eqb, false≢true}
use Rattle.mast_terms.specs.Orders.{value_order}
use Rattle.mast_terms.proofs.OrderLemmas.{value_orders}
use Rattle.mast_terms.specs.declared.value.Value.{Value}
use Rattle.mast_sql.specs.declared.query.Compare.{Compare}
use Rattle.mast_sql.specs.declared.query.Compare.TheVariants as sign
use Rattle.mast_tables.specs.Rows.{Row}
use Rattle.mast_canon.specs.Choices.{compare}
use Rattle.mast_join.specs.declared.comparisons.Side.TheVariants as side
use Rattle.mast_join.specs.declared.comparisons.Test.{Test}
use Rattle.mast_join.specs.inside.Partial.{side_value, is_open, passes}

-- two values that compare as equal are one
pub record AreOne (a b : Option Value) : Type 0 where
  pub value : Value
  pub first : a ≡ Some value
  pub second : b ≡ Some value

eq_is : (x : Ordering) → is_eq x ≡ true → x ≡ o.Equal
eq_is o.Less e = absurd (false≢true e)
eq_is o.Equal e = refl
eq_is o.Greater e = absurd (false≢true e)

are_one : (a b : Option Value) → compare sign.Equal a b ≡ true → AreOne a b
are_one None b e = absurd (false≢true e)
are_one (Some v) None e = absurd (false≢true e)
are_one (Some v) (Some w) e =
    let same : v ≡ w = (value_orders.ties v w).0 (eq_is (value_order v w) e) in
    record { value = w; first = ap (λ (k : Value). Some k) same; second = refl }

judged : (a b c : Bool) → a ≡ false → b ≡ false → (a || (b || c)) ≡ true → c ≡ true
judged a b c p q h = rw (p, q) at h

-- an equality of two chosen cells that passes
pub cells_one : (sources : List (List Row)) (choice : List ℕ) (t : Test) (entry column other next : ℕ) → t.op ≡ sign.Equal → t.left ≡ side.Cell entry column → t.right ≡ side.Cell other next
    → (get_or choice entry 0 ≡ 0 → ⊥) → (get_or choice other 0 ≡ 0 → ⊥) → passes sources choice t ≡ true
    → AreOne (side_value sources choice (side.Cell entry column)) (side_value sources choice (side.Cell other next))
cells_one sources choice t entry column other next op l r a b h =
    let open_left : is_open choice t.left ≡ false = ap (is_open choice) l ∙ ne_eqb (get_or choice entry 0) 0 a in
    let open_right : is_open choice t.right ≡ false = ap (is_open choice) r ∙ ne_eqb (get_or choice other 0) 0 b in
    let c : compare t.op (side_value sources choice t.left) (side_value sources choice t.right) ≡ true = judged (is_open choice t.left) (is_open choice t.right) (compare t.op (side_value sources choice t.left) (side_value sources choice t.right)) open_left open_right h in
    let d : compare sign.Equal (side_value sources choice t.left) (side_value sources choice t.right) ≡ true = subst (λ (k : Compare). compare k (side_value sources choice t.left) (side_value sources choice t.right) ≡ true) op c in
    let e = are_one (side_value sources choice t.left) (side_value sources choice t.right) d in
    record { value = e.value; first = ap (side_value sources choice) (sym l) ∙ e.first; second = ap (side_value sources choice) (sym r) ∙ e.second }
