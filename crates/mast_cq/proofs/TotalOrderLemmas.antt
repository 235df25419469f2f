-- The orders of arguments, atoms and queries are total, and only equal ones tie.
use Rattle.std.proofs.Common.{◌≡◌, ℕ, List, [], ◌∷◌, refl, ap, ap₂, subst}
use Rattle.std.specs.Cmp.{on_total, then_total}
use Rattle.std.specs.Cmp.Lexicographic.{slice_cmp, lists_total, nat_list_cmp_total}
use Rattle.std.specs.Ordering.{nat_cmp, ordering_then}
use Rattle.std.specs.declared.cmp.Ordering.{Ordering}
use Rattle.std.specs.declared.cmp.Ordering.TheVariants.{Less, Equal, Greater}
use Rattle.mast_terms.specs.Orders.{OrdersAll}
use Rattle.mast_terms.proofs.OrderLemmas.{text_orders}
use Rattle.mast_cq.specs.declared.query.Cq.{Cq}
use Rattle.mast_cq.specs.Queries.{arg_key, atom_key, arg_order, atom_order, query_order}
use Rattle.mast_cq.proofs.OrderLemmas.{arg_inj, key_inj}

-- what has a key of numbers, and no two the same, is ordered by it
by_key : {A : Type 0} (key : A → List ℕ) → ((a b : A) → key a ≡ key b → a ≡ b) → OrdersAll (λ a b. slice_cmp nat_cmp (key a) (key b))
by_key key one = record {
  total = on_total key nat_list_cmp_total;
  ties = λ a b. (
    λ e. one a b ((text_orders.ties (key a) (key b)).0 e),
    λ e. (text_orders.ties (key a) (key b)).1 (ap key e),
  );
}

-- the order of arguments is total
pub arg_orders : OrdersAll arg_order
arg_orders = by_key (λ x. arg_key x []) (λ x y e. (arg_inj x y [] [] e).0)

-- the order of atoms is total
pub atom_orders : OrdersAll atom_order
atom_orders = by_key atom_key key_inj

then_case : (a b : Ordering) → ordering_then a b ≡ Equal → (a ≡ Equal) × (b ≡ Equal)
then_case Less b e = absurd (cc)
then_case Equal b e = (refl, e)
then_case Greater b e = absurd (cc)

module _ {A : Type 0} (order : A → A → Ordering) (o : OrdersAll order) where
  tie_same : (xs ys : List A) → slice_cmp order xs ys ≡ Equal → xs ≡ ys
  tie_same [] [] e = refl
  tie_same [] (y ∷ ys) e = absurd (cc)
  tie_same (x ∷ xs) [] e = absurd (cc)
  tie_same (x ∷ xs) (y ∷ ys) e = let w = then_case (order x y) (slice_cmp order xs ys) e in ap₂ (λ a b. a ∷ b) ((o.ties x y).0 w.0) (tie_same xs ys w.1)

  tie_self : (xs : List A) → slice_cmp order xs xs ≡ Equal
  tie_self [] = refl
  tie_self (x ∷ xs) = ap₂ ordering_then ((o.ties x x).1 refl) (tie_self xs)

  -- lists of what is ordered are
  lists : OrdersAll (slice_cmp order)
  lists = record { total = lists_total o.total; ties = λ xs ys. (tie_same xs ys, λ e. subst (λ zs. slice_cmp order xs zs ≡ Equal) e (tie_self xs)) }

-- the order of queries is total
pub query_orders : OrdersAll query_order
query_orders = record {
  total = then_total (on_total (λ (q : Cq). q.answer) (lists arg_order arg_orders).total) (on_total (λ (q : Cq). q.atoms) (lists atom_order atom_orders).total);
  ties = λ q r. (
    λ e. let w = then_case (slice_cmp arg_order q.answer r.answer) (slice_cmp atom_order q.atoms r.atoms) e in
        ap₂ (λ a b. record { answer = a; atoms = b }) (((lists arg_order arg_orders).ties q.answer r.answer).0 w.0) (((lists atom_order atom_orders).ties q.atoms r.atoms).0 w.1),
    λ e. ap₂ ordering_then (((lists arg_order arg_orders).ties q.answer r.answer).1 (ap (λ k. k.answer) e)) (((lists atom_order atom_orders).ties q.atoms r.atoms).1 (ap (λ k. k.atoms) e)),
  );
}
