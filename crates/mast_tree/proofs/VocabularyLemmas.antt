-- What is judged without a breach keeps a vocabulary lawful, and names one thing alone.
use Rattle.std.proofs.Common.{◌≡◌, ◌⊎◌, inl, inr, refl, sym, ◌∙◌, subst, ℕ, zero, suc, ◌≤◌, Bool, true, false, true≢false, ◌||◌, ◌&&◌, List, [], ◌∷◌, ◌++◌, length, slice_get, arith}
use Rattle.std.specs.Prelude.{Option, Some, None, not, nat_le, if◌then◌else◌}
use Rattle.std.specs.List.{list_any}
use Rattle.std.specs.Str.{bytes_eq}
use Rattle.std.specs.Cmp.Lexicographic.{nat_list_eq_equiv}
use Rattle.std.proofs.lemmas.Bool.Decides.{nat_tests}
use Rattle.std.proofs.lemmas.List.{length-append}
use Rattle.mast_terms.specs.contracts.value.ValueEq.TheImpl.Laws as laws
use Rattle.mast_terms.specs.declared.name.AddRefusal.{AddRefusal}
use Rattle.mast_terms.specs.declared.name.AddRefusal.TheVariants as refusal
use Rattle.mast_terms.specs.declared.name.NameKind.{NameKind}
use Rattle.mast_terms.specs.declared.name.NameKind.TheVariants as kind
use Rattle.mast_terms.specs.Vocabularies.{Lists, capacity, EachOnce, IsNumbered, IsVocabulary, stands, joined, same_value, refusal_of, refusal_of_new}
use Rattle.mast_terms.proofs.PlaceLemmas.{with_class, with_role, with_attribute, with_constants}
use Rattle.mast_tree.specs.declared.shape.ShapeBreach.{ShapeBreach}
use Rattle.mast_tree.specs.Judgements.{Judgement, uses, numbers, breaks, after_one, after, breach_at, refused_at, first_breach, or_later}

or_true : (b c : Bool) → b ≡ true → (b || c) ≡ false → ⊥
or_true true c e h = true≢false h
or_true false c e h = true≢false (sym e)

or_right : (b c : Bool) → (b || c) ≡ false → c ≡ false
or_right true c h = absurd (true≢false h)
or_right false c h = h

module _ {A : Type 0} (eq : A → A → Bool) (same : (a : A) → eq a a ≡ true) where
  -- what no element equals stands nowhere
  pub not_in : (x : A) (xs : List A) (i : ℕ) → list_any (eq x) xs ≡ false → slice_get xs i ≡ Some x → ⊥
  not_in x [] i new h = cc
  not_in x (y ∷ ys) zero new h =
      let e : y ≡ x = cc in
      or_true (eq x y) (list_any (eq x) ys) (subst (λ z. eq x z ≡ true) (sym e) (same x)) new
  not_in x (y ∷ ys) (suc i) new h = not_in x ys i (or_right (eq x y) (list_any (eq x) ys) new) h

  pushed_at : (xs : List A) (x : A) (i : ℕ) (e : A) → slice_get (xs ++ x ∷ []) i ≡ Some e → (slice_get xs i ≡ Some e) ⊎ ((i ≡ length xs) × (e ≡ x))
  pushed_at [] x zero e h = inr (refl, cc)
  pushed_at [] x (suc i) e h = absurd (cc)
  pushed_at (y ∷ ys) x zero e h = inl h
  pushed_at (y ∷ ys) x (suc i) e h = elim (pushed_at ys x i e h) [
    | inl g ↦ inl g
    | inr g ↦ inr (let n : i ≡ length ys = g.0 in omega (arith, n), g.1)
  ]

  -- a new element at the end stands once
  pub once_pushed : (xs : List A) (x : A) → EachOnce xs → list_any (eq x) xs ≡ false → EachOnce (xs ++ x ∷ [])
  once_pushed xs x once new i j e h g = both (pushed_at xs x i e h) (pushed_at xs x j e g)
    where
      both : (slice_get xs i ≡ Some e) ⊎ ((i ≡ length xs) × (e ≡ x)) → (slice_get xs j ≡ Some e) ⊎ ((j ≡ length xs) × (e ≡ x)) → i ≡ j
      both (inl p) (inl q) = once i j e p q
      both (inl p) (inr q) = absurd (not_in x xs i new (subst (λ z. slice_get xs i ≡ Some z) q.1 p))
      both (inr p) (inl q) = absurd (not_in x xs j new (subst (λ z. slice_get xs j ≡ Some z) p.1 q))
      both (inr p) (inr q) = p.0 ∙ sym q.0

  numbered_joined : (x : A) (known : List A) → IsNumbered known
      → ◌≡◌ {A = Option AddRefusal} (if not (list_any (eq x) known) && nat_le capacity (length known) then Some refusal.Full else None) None
      → IsNumbered (if list_any (eq x) known then known else known ++ x ∷ [])
  numbered_joined x known n h = by (list_any (eq x) known) refl h
    where
      few : (c : Bool) → nat_le capacity (length known) ≡ c → ◌≡◌ {A = Option AddRefusal} (if true && c then Some refusal.Full else None) None → length (known ++ x ∷ []) ≤ capacity
      few true e h = absurd (cc)
      few false e h = let l = length-append known (x ∷ []) in grind (arith, nat_tests, l)

      by : (b : Bool) → list_any (eq x) known ≡ b → ◌≡◌ {A = Option AddRefusal} (if not b && nat_le capacity (length known) then Some refusal.Full else None) None → IsNumbered (if b then known else known ++ x ∷ [])
      by true e h = n
      by false e h = record { once = once_pushed known x n.once e; few = few (nat_le capacity (length known)) refl h }

-- names are equal to themselves
pub same_bytes : (a : List ℕ) → bytes_eq a a ≡ true
same_bytes a = nat_list_eq_equiv.refl a

not_refused : (line : ℕ) (why : Option AddRefusal) → refused_at line why ≡ None → why ≡ None
not_refused line None h = refl
not_refused line (Some why) h = absurd (cc)

not_otherwise : (b : Bool) (new : Option AddRefusal) → ◌≡◌ {A = Option AddRefusal} (if b then Some refusal.TwoKinds else new) None → (b ≡ false) × (new ≡ None)
not_otherwise true new h = absurd (cc)
not_otherwise false new h = (refl, h)

use_lawful : (lists : Lists) (k : NameKind) (iri : List ℕ) (line : ℕ) → IsVocabulary lists → refusal_of lists k iri ≡ None → IsVocabulary (after_one lists (uses k iri line))
use_lawful lists kind.Class iri line v h =
    with_class lists.classes lists.roles lists.attributes lists.constants v (joined iri lists.classes) (numbered_joined bytes_eq same_bytes iri lists.classes v.classes h)
use_lawful lists kind.Role iri line v h =
    let n = not_otherwise (stands iri lists.attributes) (refusal_of_new iri lists.roles) h in
    with_role lists.classes lists.roles lists.attributes lists.constants v iri (joined iri lists.roles) (numbered_joined bytes_eq same_bytes iri lists.roles v.roles n.1) n.0 refl
use_lawful lists kind.Attr iri line v h =
    let n = not_otherwise (stands iri lists.roles) (refusal_of_new iri lists.attributes) h in
    with_attribute lists.classes lists.roles lists.attributes lists.constants v iri (joined iri lists.attributes) (numbered_joined bytes_eq same_bytes iri lists.attributes v.attributes n.1) n.0 refl

one_lawful : (lists : Lists) (j : Judgement) → IsVocabulary lists → breach_at lists j ≡ None → IsVocabulary (after_one lists j)
one_lawful lists (uses k iri line) v h = use_lawful lists k iri line v (not_refused line (refusal_of lists k iri) h)
one_lawful lists (numbers value line) v h =
    with_constants lists.classes lists.roles lists.attributes lists.constants v _ (numbered_joined same_value laws.laws-law.refl value lists.constants v.constants (not_refused line _ h))
one_lawful lists (breaks k line) v h = absurd (cc)

-- no breach among two: none of the first, and none of what comes later
pub none_of : (a b : Option ShapeBreach) → or_later a b ≡ None → (a ≡ None) × (b ≡ None)
none_of None b h = (refl, h)
none_of (Some x) b h = absurd (cc)

-- once these are judged without a breach, a lawful vocabulary is lawful
pub after_lawful : (lists : Lists) (js : List Judgement) → IsVocabulary lists → first_breach lists js ≡ None → IsVocabulary (after lists js)
after_lawful lists [] v h = v
after_lawful lists (j ∷ js) v h =
    let n = none_of (breach_at lists j) (first_breach (after_one lists j) js) h in
    after_lawful (after_one lists j) js (one_lawful lists j v n.0) n.1
