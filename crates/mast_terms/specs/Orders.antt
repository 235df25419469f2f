-- The orders of names, kinds, dates, values, objects, terms and tuples, and what makes a comparison lawful.
use Rattle.std.specs.Prelude.{◌≡◌, ◌↔◌, ℕ, List, true, Bool}
use Rattle.std.specs.Cmp.{IsTotalOrder}
use Rattle.std.specs.Cmp.Lexicographic.{slice_cmp}
use Rattle.std.specs.Ordering.{nat_cmp, int_cmp, ordering_then}
use Rattle.std.specs.declared.cmp.Ordering.{Ordering}
use Rattle.std.specs.declared.cmp.Ordering.TheVariants.{Less, Equal, Greater}
use Rattle.mast_terms.specs.declared.date.Date.{Date}
use Rattle.mast_terms.specs.declared.name.Name.{Name}
use Rattle.mast_terms.specs.declared.name.NameKind.{NameKind}
use Rattle.mast_terms.specs.declared.name.NameKind.TheVariants as nk
use Rattle.mast_terms.specs.declared.term.Object.{Object}
use Rattle.mast_terms.specs.declared.term.Term.{Term}
use Rattle.mast_terms.specs.declared.term.Term.TheVariants as t
use Rattle.mast_terms.specs.declared.value.Kind.{Kind}
use Rattle.mast_terms.specs.declared.value.Kind.TheVariants as k
use Rattle.mast_terms.specs.declared.value.Value.{Value}
use Rattle.mast_terms.specs.declared.value.Value.TheVariants as v

-- names by their numbers
abbrev pub name_order : Name → Name → Ordering
name_order a b = nat_cmp a.0 b.0

-- a class before a role before an attribute
abbrev pub name_kind_place : NameKind → ℕ
name_kind_place nk.Class = 0
name_kind_place nk.Role = 1
name_kind_place nk.Attr = 2

-- kinds of names by their places
abbrev pub name_kind_order : NameKind → NameKind → Ordering
name_kind_order a b = nat_cmp (name_kind_place a) (name_kind_place b)

-- text before integer before date
abbrev pub kind_place : Kind → ℕ
kind_place k.Text = 0
kind_place k.Integer = 1
kind_place k.Date = 2

-- kinds of values by their places
abbrev pub kind_order : Kind → Kind → Ordering
kind_order a b = nat_cmp (kind_place a) (kind_place b)

-- days in their order
abbrev pub date_order : Date → Date → Ordering
date_order a b = ordering_then (nat_cmp a.year b.year) (ordering_then (nat_cmp a.month b.month) (nat_cmp a.day b.day))

-- an integer before a text before a date; integers by size, texts by bytes, dates in their order
abbrev pub value_order : Value → Value → Ordering
value_order (v.Int a) (v.Int b) = int_cmp a b
value_order (v.Int a) (v.Text b) = Less
value_order (v.Int a) (v.Date b) = Less
value_order (v.Text a) (v.Int b) = Greater
value_order (v.Text a) (v.Text b) = slice_cmp nat_cmp a b
value_order (v.Text a) (v.Date b) = Less
value_order (v.Date a) (v.Int b) = Greater
value_order (v.Date a) (v.Text b) = Greater
value_order (v.Date a) (v.Date b) = date_order a b

-- by symbol, and then by the first argument that differs
abbrev pub object_order : Object → Object → Ordering
object_order a b = ordering_then (slice_cmp nat_cmp a.symbol b.symbol) (slice_cmp value_order a.args b.args)

-- a value before an object
abbrev pub term_order : Term → Term → Ordering
term_order (t.Value a) (t.Value b) = value_order a b
term_order (t.Value a) (t.Object b) = Less
term_order (t.Object a) (t.Value b) = Greater
term_order (t.Object a) (t.Object b) = object_order a b

-- by the first term that differs
abbrev pub tuple_order : List Term → List Term → Ordering
tuple_order = slice_cmp term_order

-- a test that holds exactly of equal things
abbrev pub TestsEquality : {A : Type 0} → (A → A → Bool) → Type 0
TestsEquality {A} same = (a b : A) → (same a b ≡ true) ↔ (a ≡ b)

-- a comparison that gives this order
abbrev pub ComparesBy : {A : Type 0} → (A → A → Ordering) → (A → A → Ordering) → Type 0
ComparesBy {A} order compare = (a b : A) → compare a b ≡ order a b

-- a total order in which only equal things tie
pub record OrdersAll {A : Type 0} (order : A → A → Ordering) : Type 0 where
  pub total : IsTotalOrder order
  pub ties : (a b : A) → (order a b ≡ Equal) ↔ (a ≡ b)
