-- A row of numbers passes a test exactly where the tuple of their terms does.
use Rattle.std.proofs.Common.{◌≡◌, ◌≢◌, ℕ, zero, suc, ◌<◌, Bool, true, false, not, nat_eq, eqb-true, List, [], ◌∷◌, ◌++◌, length, Some, slice_get, refl, sym, ap, ◌∙◌, subst, arith}
use Rattle.std.proofs.lemmas.Bool.{false≢true}
use Rattle.mast_terms.specs.declared.term.Term.{Term}
use Rattle.mast_terms.specs.declared.term.Term.TheVariants as term
use Rattle.mast_terms.specs.declared.value.Kind.{Kind}
use Rattle.mast_terms.specs.declared.value.Value.{Value}
use Rattle.mast_terms.specs.declared.value.Value.TheVariants as value
use Rattle.mast_terms.specs.contracts.value.KindPartialEq.TheImpl as kind_eq
use Rattle.mast_terms.specs.Vocabularies.{EachOnce}
use Rattle.mast_terms.proofs.OrderLemmas.{kind_equality_test}
use Rattle.mast_tables.specs.Whole.{value_kind}
use Rattle.mast_numbers.specs.Numbered.{term_kind, kind_of}
use Rattle.mast_join.specs.Answers.{AreNumbersOf}
use Rattle.mast_violate.specs.declared.violation.Test.{Test}
use Rattle.mast_violate.specs.declared.violation.Test.TheVariants.{Plain, Differ, KindNot}
use Rattle.mast_violate.specs.Breaches.{Passes}
use Rattle.mast_check.specs.inside.Judging.{differ, is_other, kind_there, term_there, passes_by}

-- the places of the test are among so many
abbrev pub IsTestIn : ℕ → Test → Type 0
IsTestIn long Plain = Unit {0}
IsTestIn long (Differ left right) = (left < long) × (right < long)
IsTestIn long (KindNot place kind) = place < long

-- the number and the term at a place of a row and a tuple
record IsAt (terms : List Term) (row : List ℕ) (tuple : List Term) (place : ℕ) : Type 0 where
  number : ℕ
  term : Term
  in_row : slice_get row place ≡ Some number
  is : slice_get terms number ≡ Some term
  in_tuple : slice_get tuple place ≡ Some term

at_place : (terms : List Term) (first second : List ℕ) (tuple : List Term) → AreNumbersOf terms first tuple → (place : ℕ) → place < length tuple → IsAt terms (first ++ second) tuple place
at_place terms [] second [] e place l = absurd (omega (arith, l))
at_place terms [] second (t ∷ ts) e place l = absurd (cc)
at_place terms (n ∷ ns) second [] e place l = absurd (cc)
at_place terms (n ∷ ns) second (t ∷ ts) e zero l = record { number = n; term = t; in_row = refl; is = cc; in_tuple = refl }
at_place terms (n ∷ ns) second (t ∷ ts) e (suc place) l =
    let a = at_place terms ns second ts (cc) place (omega (arith, l)) in
    record { number = a.number; term = a.term; in_row = a.in_row; is = a.is; in_tuple = a.in_tuple }

some_term : (t u : Term) → Some t ≡ Some u → t ≡ u
some_term t u e = cc

same_kinds : (v : Value) → kind_of v ≡ value_kind v
same_kinds (value.Int n) = refl
same_kinds (value.Text t) = refl
same_kinds (value.Date d) = refl

not_true : (b : Bool) → b ≡ true → not b ≡ true → ⊥
not_true true e f = false≢true f
not_true false e f = false≢true e

not_false : (b : Bool) → (b ≡ true → ⊥) → not b ≡ true
not_false true n = absurd (n refl)
not_false false n = refl

same_eq : (n : ℕ) → nat_eq n n ≡ true
same_eq n = borrow.Author.Tests.eq-eqb n n refl

-- the kind of a term is another one
other_out : (kind : Kind) (t : Term) → is_other kind (term_kind t) ≡ true → (v : Value) × ((t ≡ term.Value v) × (value_kind v ≢ kind))
other_out kind (term.Object o) e = absurd (false≢true e)
other_out kind (term.Value v) e = (v, (refl, λ k. not_true (kind_eq.ghosts.eq (kind_of v) kind) ((kind_equality_test (kind_of v) kind).1 (same_kinds v ∙ k)) e))

other_in : (kind : Kind) (t : Term) (v : Value) → t ≡ term.Value v → value_kind v ≢ kind → is_other kind (term_kind t) ≡ true
other_in kind t v e d =
    subst (λ u. is_other kind (term_kind u) ≡ true) (sym e) (not_false (kind_eq.ghosts.eq (kind_of v) kind) (λ k. d (sym (same_kinds v) ∙ (kind_equality_test (kind_of v) kind).0 k)))

module _ (terms : List Term) (once : EachOnce terms) (first second : List ℕ) (tuple : List Term) (numbers : AreNumbersOf terms first tuple) where
  abbrev row : List ℕ
  row = first ++ second

  -- where the row passes, the tuple does
  pub passes_out : (test : Test) → IsTestIn (length tuple) test → passes_by terms test row ≡ true → Passes test tuple
  passes_out Plain w e = tt
  passes_out (Differ left right) w e =
      let a = at_place terms first second tuple numbers left w.0 in
      let b = at_place terms first second tuple numbers right w.1 in
      let p : not (nat_eq a.number b.number) ≡ true = ap (differ (Some a.number)) (sym b.in_row) ∙ (ap (λ o. differ o (slice_get row right)) (sym a.in_row) ∙ e) in
      λ same.
      let t : a.term ≡ b.term = some_term a.term b.term (sym a.in_tuple ∙ (same ∙ b.in_tuple)) in
      let n : a.number ≡ b.number = once a.number b.number a.term a.is (b.is ∙ ap Some (sym t)) in
      not_true (nat_eq a.number b.number) (subst (λ z. nat_eq a.number z ≡ true) n (same_eq a.number)) p
  passes_out (KindNot place kind) w e =
      let a = at_place terms first second tuple numbers place w in
      let p : is_other kind (term_kind a.term) ≡ true = ap (λ o. is_other kind (kind_there o)) (sym a.is) ∙ (ap (λ o. is_other kind (kind_there (term_there terms o))) (sym a.in_row) ∙ e) in
      let o = other_out kind a.term p in
      (o.0, (a.in_tuple ∙ ap Some o.1.0, o.1.1))

  -- and where the tuple passes, the row does
  pub passes_in : (test : Test) → IsTestIn (length tuple) test → Passes test tuple → passes_by terms test row ≡ true
  passes_in Plain w p = refl
  passes_in (Differ left right) w p =
      let a = at_place terms first second tuple numbers left w.0 in
      let b = at_place terms first second tuple numbers right w.1 in
      let d : not (nat_eq a.number b.number) ≡ true = not_false (nat_eq a.number b.number) (λ k.
      let n : a.number ≡ b.number = eqb-true a.number b.number k in
      p (a.in_tuple ∙ (sym a.is ∙ (ap (slice_get terms) n ∙ (b.is ∙ sym b.in_tuple))))) in
      ap (λ o. differ o (slice_get row right)) a.in_row ∙ (ap (differ (Some a.number)) b.in_row ∙ d)
  passes_in (KindNot place kind) w p =
      let a = at_place terms first second tuple numbers place w in
      let t : a.term ≡ term.Value p.0 = some_term a.term (term.Value p.0) (sym a.in_tuple ∙ p.1.0) in
      ap (λ o. is_other kind (kind_there (term_there terms o))) a.in_row ∙ (ap (λ o. is_other kind (kind_there o)) a.is ∙ other_in kind a.term p.0 t p.1.1)
