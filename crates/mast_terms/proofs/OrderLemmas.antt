-- The equality and the order of names, kinds, lists, texts, dates, values, objects, terms and tuples.
use Rattle.std.proofs.Common.{◌≡◌, ◌∷◌, [], List, Bool, true, refl, ap, sym, ◌∙◌, subst}
use Rattle.std.specs.Cmp.{IsEquivalence, IsTotalOrder, Equal-is}
use Rattle.std.specs.Prelude.{nat_eq}
use Rattle.std.specs.Cmp.Lexicographic.{slice_cmp, pointwise, lists_equiv, lists_total, lists_ties, nat_list_eq_equiv, nat_list_cmp_total, texts_ties, same_text}
use Rattle.std.specs.Ordering.{nat_cmp, ordering_then, eq_by_cmp, is_eq}
use Rattle.std.specs.declared.cmp.Ordering.{Ordering}
use Rattle.std.proofs.lemmas.Bool.{and_parts}
use Rattle.mast_terms.specs.Orders.{name_order, name_kind_order, kind_order, date_order, value_order, object_order, term_order, tuple_order, TestsEquality, ComparesBy, OrdersAll}
use Rattle.mast_terms.specs.declared.name.NameKind.TheVariants as nk
use Rattle.mast_terms.specs.declared.term.Term.TheVariants as t
use Rattle.mast_terms.specs.declared.value.Kind.TheVariants as k
use Rattle.mast_terms.specs.declared.value.Value.TheVariants as v
use Rattle.mast_terms.specs.contracts.name.NamePartialEq.TheImpl as name_eq
use Rattle.mast_terms.specs.contracts.name.NameEq.TheImpl.Laws as name_equality
use Rattle.mast_terms.specs.contracts.name.NameOrd.TheImpl as name_ord
use Rattle.mast_terms.specs.contracts.name.NameOrd.TheImpl.Laws as name_laws
use Rattle.mast_terms.specs.contracts.name.NameKindPartialEq.TheImpl as name_kind_eq
use Rattle.mast_terms.specs.contracts.name.NameKindEq.TheImpl.Laws as name_kind_equality
use Rattle.mast_terms.specs.contracts.name.NameKindOrd.TheImpl as name_kind_ord
use Rattle.mast_terms.specs.contracts.name.NameKindOrd.TheImpl.Laws as name_kind_laws
use Rattle.mast_terms.specs.contracts.value.KindPartialEq.TheImpl as kind_eq
use Rattle.mast_terms.specs.contracts.value.KindEq.TheImpl.Laws as kind_equality
use Rattle.mast_terms.specs.contracts.value.KindOrd.TheImpl as kind_ord
use Rattle.mast_terms.specs.contracts.value.KindOrd.TheImpl.Laws as kind_laws
use Rattle.mast_terms.specs.contracts.date.DatePartialEq.TheImpl as date_eq
use Rattle.mast_terms.specs.contracts.date.DateEq.TheImpl.Laws as date_equality
use Rattle.mast_terms.specs.contracts.date.DateOrd.TheImpl as date_ord
use Rattle.mast_terms.specs.contracts.date.DateOrd.TheImpl.Laws as date_laws
use Rattle.mast_terms.specs.contracts.value.ValuePartialEq.TheImpl as value_eq
use Rattle.mast_terms.specs.contracts.value.ValueEq.TheImpl.Laws as value_equality
use Rattle.mast_terms.specs.contracts.value.ValueOrd.TheImpl as value_ord
use Rattle.mast_terms.specs.contracts.value.ValueOrd.TheImpl.Laws as value_laws
use Rattle.mast_terms.specs.contracts.term.ObjectPartialEq.TheImpl as object_eq
use Rattle.mast_terms.specs.contracts.term.ObjectEq.TheImpl.Laws as object_equality
use Rattle.mast_terms.specs.contracts.term.ObjectOrd.TheImpl as object_ord
use Rattle.mast_terms.specs.contracts.term.ObjectOrd.TheImpl.Laws as object_laws
use Rattle.mast_terms.specs.contracts.term.TermPartialEq.TheImpl as term_eq
use Rattle.mast_terms.specs.contracts.term.TermEq.TheImpl.Laws as term_equality
use Rattle.mast_terms.specs.contracts.term.TermOrd.TheImpl as term_ord
use Rattle.mast_terms.specs.contracts.term.TermOrd.TheImpl.Laws as term_laws
use Rattle.mast_terms.proofs.SameLemmas.{name_same, name_kind_same, kind_same, date_same, value_same, object_same, term_same}

-- What a lawful test and a lawful comparison say of equal things, where the test holds of equal things alone.
module _ {A : Type 0} (same : A → A → Bool) (equivalence : IsEquivalence same) (only : (a b : A) → same a b ≡ true → a ≡ b) where
  pub equality : TestsEquality same
  equality a b = (only a b, λ e. subst (λ c. same a c ≡ true) e (equivalence.refl a))

  module _ (compare order : A → A → Ordering) (total : IsTotalOrder compare) (matches : (a b : A) → same a b ≡ eq_by_cmp compare a b) (gives : ComparesBy order compare) where
    pub orders : OrdersAll order
    orders = record {
      total = subst IsTotalOrder (λ i a b. gives a b i) total;
      ties = λ a b. (
        λ e. only a b (matches a b ∙ ap is_eq (gives a b ∙ e)),
        λ e. sym (gives a b) ∙ (Equal-is (compare a b)).0 (sym (matches a b) ∙ (equality a b).1 e),
      );
    }

-- lists of what has the laws
module _ {A : Type 0} (same : A → A → Bool) where
  pub list_same : ((a b : A) → same a b ≡ true → a ≡ b) → (a b : List A) → pointwise same a b ≡ true → a ≡ b
  list_same only [] [] h = refl
  list_same only [] (b ∷ bs) h = absurd (cc)
  list_same only (a ∷ rest) [] h = absurd (cc)
  list_same only (a ∷ rest) (b ∷ bs) h =
      let p = and_parts (same a b) (pointwise same rest bs) h in
      let first : a ≡ b = only a b p.0 in
      let more : rest ≡ bs = list_same only rest bs p.1 in cc

  pub list_equality_test : IsEquivalence same → TestsEquality same → TestsEquality (pointwise same)
  list_equality_test equivalence test = equality (pointwise same) (lists_equiv equivalence) (list_same (λ a b. (test a b).0))

  pub list_orders : IsEquivalence same → (cmp : A → A → Ordering) → IsTotalOrder cmp → ((a b : A) → same a b ≡ eq_by_cmp cmp a b) → TestsEquality same → OrdersAll (slice_cmp cmp)
  list_orders equivalence cmp total matches test =
      orders (pointwise same) (lists_equiv equivalence) (list_same (λ a b. (test a b).0)) (slice_cmp cmp) (slice_cmp cmp) (lists_total total) (lists_ties cmp matches) (λ a b. refl)

-- names
pub name_equality_test : TestsEquality name_eq.ghosts.eq
name_equality_test = equality name_eq.ghosts.eq name_equality.laws-law name_same

-- names compare by their order
pub name_compares : ComparesBy name_order name_ord.ghosts.cmp
name_compares a b = refl

-- the order of names is total
pub name_orders : OrdersAll name_order
name_orders = orders name_eq.ghosts.eq name_equality.laws-law name_same name_ord.ghosts.cmp name_order name_laws.total-law name_laws.matches_eq-law name_compares

-- kinds of names
pub name_kind_equality_test : TestsEquality name_kind_eq.ghosts.eq
name_kind_equality_test = equality name_kind_eq.ghosts.eq name_kind_equality.laws-law name_kind_same

-- kinds of names compare by their order
pub name_kind_compares : ComparesBy name_kind_order name_kind_ord.ghosts.cmp
name_kind_compares nk.Class nk.Class = refl
name_kind_compares nk.Class nk.Role = refl
name_kind_compares nk.Class nk.Attr = refl
name_kind_compares nk.Role nk.Class = refl
name_kind_compares nk.Role nk.Role = refl
name_kind_compares nk.Role nk.Attr = refl
name_kind_compares nk.Attr nk.Class = refl
name_kind_compares nk.Attr nk.Role = refl
name_kind_compares nk.Attr nk.Attr = refl

-- the order of kinds of names is total
pub name_kind_orders : OrdersAll name_kind_order
name_kind_orders = orders name_kind_eq.ghosts.eq name_kind_equality.laws-law name_kind_same name_kind_ord.ghosts.cmp name_kind_order name_kind_laws.total-law name_kind_laws.matches_eq-law name_kind_compares

-- kinds of values
pub kind_equality_test : TestsEquality kind_eq.ghosts.eq
kind_equality_test = equality kind_eq.ghosts.eq kind_equality.laws-law kind_same

-- kinds of values compare by their order
pub kind_compares : ComparesBy kind_order kind_ord.ghosts.cmp
kind_compares k.Text k.Text = refl
kind_compares k.Text k.Integer = refl
kind_compares k.Text k.Date = refl
kind_compares k.Integer k.Text = refl
kind_compares k.Integer k.Integer = refl
kind_compares k.Integer k.Date = refl
kind_compares k.Date k.Text = refl
kind_compares k.Date k.Integer = refl
kind_compares k.Date k.Date = refl

-- the order of kinds of values is total
pub kind_orders : OrdersAll kind_order
kind_orders = orders kind_eq.ghosts.eq kind_equality.laws-law kind_same kind_ord.ghosts.cmp kind_order kind_laws.total-law kind_laws.matches_eq-law kind_compares

-- texts
pub text_equality_test : TestsEquality (pointwise nat_eq)
text_equality_test = equality (pointwise nat_eq) nat_list_eq_equiv (λ a b h. same_text a b (sym h))

-- the order of texts is total
pub text_orders : OrdersAll (slice_cmp nat_cmp)
text_orders = orders (pointwise nat_eq) nat_list_eq_equiv (λ a b h. same_text a b (sym h)) (slice_cmp nat_cmp) (slice_cmp nat_cmp) nat_list_cmp_total texts_ties (λ a b. refl)

-- dates
pub date_equality_test : TestsEquality date_eq.ghosts.eq
date_equality_test = equality date_eq.ghosts.eq date_equality.laws-law date_same

-- dates compare by their order
pub date_compares : ComparesBy date_order date_ord.ghosts.cmp
date_compares a b = refl

-- the order of dates is total
pub date_orders : OrdersAll date_order
date_orders = orders date_eq.ghosts.eq date_equality.laws-law date_same date_ord.ghosts.cmp date_order date_laws.total-law date_laws.matches_eq-law date_compares

-- values
pub value_equality_test : TestsEquality value_eq.ghosts.eq
value_equality_test = equality value_eq.ghosts.eq value_equality.laws-law value_same

-- values compare by their order
pub value_compares : ComparesBy value_order value_ord.ghosts.cmp
value_compares (v.Int a) (v.Int b) = refl
value_compares (v.Int a) (v.Text b) = refl
value_compares (v.Int a) (v.Date b) = refl
value_compares (v.Text a) (v.Int b) = refl
value_compares (v.Text a) (v.Text b) = refl
value_compares (v.Text a) (v.Date b) = refl
value_compares (v.Date a) (v.Int b) = refl
value_compares (v.Date a) (v.Text b) = refl
value_compares (v.Date a) (v.Date b) = refl

-- the order of values is total
pub value_orders : OrdersAll value_order
value_orders = orders value_eq.ghosts.eq value_equality.laws-law value_same value_ord.ghosts.cmp value_order value_laws.total-law value_laws.matches_eq-law value_compares

-- arguments
pub args_equality_test : TestsEquality (pointwise value_eq.ghosts.eq)
args_equality_test = list_equality_test value_eq.ghosts.eq value_equality.laws-law value_equality_test

-- arguments compare by their order
pub args_compares : ComparesBy (slice_cmp value_order) (slice_cmp value_ord.ghosts.cmp)
args_compares a b = λ i. slice_cmp (λ x y. value_compares x y i) a b

-- the order of arguments is total
pub args_orders : OrdersAll (slice_cmp value_order)
args_orders = orders (pointwise value_eq.ghosts.eq) (lists_equiv value_equality.laws-law) (list_same value_eq.ghosts.eq value_same) (slice_cmp value_ord.ghosts.cmp) (slice_cmp value_order) (lists_total value_laws.total-law) (lists_ties value_ord.ghosts.cmp value_laws.matches_eq-law) args_compares

-- objects
pub object_equality_test : TestsEquality object_eq.ghosts.eq
object_equality_test = equality object_eq.ghosts.eq object_equality.laws-law object_same

-- objects compare by their order
pub object_compares : ComparesBy object_order object_ord.ghosts.cmp
object_compares a b = λ i. ordering_then (slice_cmp nat_cmp a.symbol b.symbol) (slice_cmp (λ x y. value_compares x y i) a.args b.args)

-- the order of objects is total
pub object_orders : OrdersAll object_order
object_orders = orders object_eq.ghosts.eq object_equality.laws-law object_same object_ord.ghosts.cmp object_order object_laws.total-law object_laws.matches_eq-law object_compares

-- terms
pub term_equality_test : TestsEquality term_eq.ghosts.eq
term_equality_test = equality term_eq.ghosts.eq term_equality.laws-law term_same

-- terms compare by their order
pub term_compares : ComparesBy term_order term_ord.ghosts.cmp
term_compares (t.Value a) (t.Value b) = value_compares a b
term_compares (t.Value a) (t.Object b) = refl
term_compares (t.Object a) (t.Value b) = refl
term_compares (t.Object a) (t.Object b) = object_compares a b

-- the order of terms is total
pub term_orders : OrdersAll term_order
term_orders = orders term_eq.ghosts.eq term_equality.laws-law term_same term_ord.ghosts.cmp term_order term_laws.total-law term_laws.matches_eq-law term_compares

-- tuples
pub tuple_equality_test : TestsEquality (pointwise term_eq.ghosts.eq)
tuple_equality_test = list_equality_test term_eq.ghosts.eq term_equality.laws-law term_equality_test

-- tuples compare by their order
pub tuple_compares : ComparesBy tuple_order (slice_cmp term_ord.ghosts.cmp)
tuple_compares a b = λ i. slice_cmp (λ x y. term_compares x y i) a b

-- the order of tuples is total
pub tuple_orders : OrdersAll tuple_order
tuple_orders = orders (pointwise term_eq.ghosts.eq) (lists_equiv term_equality.laws-law) (list_same term_eq.ghosts.eq term_same) (slice_cmp term_ord.ghosts.cmp) tuple_order (lists_total term_laws.total-law) (lists_ties term_ord.ghosts.cmp term_laws.matches_eq-law) tuple_compares
