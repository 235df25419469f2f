-- The condition that a select has a row.
use Rattle.std.proofs.Common.{◌≡◌, ℕ, ◌⊎◌, inl, inr, Bool, true, false, ◌&&◌, ◌||◌, ◌==◌, nat_eq, List, [], ◌∷◌, ◌++◌, length, get_or, refl, sym, ap, subst, ◌∙◌}
use Rattle.std.specs.Cmp.Lexicographic.{pointwise}
use Rattle.std.specs.List.{list_all, list_any}
use Rattle.std.proofs.lemmas.Bool.{eqb-true}
use Rattle.mast_relations.specs.Lookups.{rows_in}
use Rattle.mast_relations.specs.Matches.{In, Rows}
use Rattle.mast_relations.specs.Plans.{picked}
use Rattle.mast_relations.proofs.ListLemmas.{numbers_same}
use Rattle.mast_conditions.specs.Choices.{AsksAs, IsFound, Leads}
use Rattle.mast_conditions.specs.Truth.{condition_step, is_found, is_some_row_true, truth, truths, width_of}
use Rattle.mast_conditions.specs.declared.condition.Condition.{Condition}
use Rattle.mast_conditions.specs.declared.condition.Condition.TheFolds.{fold-roll-Condition}
use Rattle.mast_conditions.specs.declared.condition.Condition.TheOpen.{Condition-F}
use Rattle.mast_conditions.specs.declared.condition.Condition.TheVariants.{All, Equal, rolls-All, rolls-Equal}
use Rattle.mast_conditions.specs.declared.condition.Condition.TheViews.{roll-Condition}
use Rattle.mast_conditions.specs.declared.condition.Entry.{Entry}
use Rattle.mast_conditions.proofs.TruthLemmas.{and_left, and_right, and_true, equal_numbers, same_numbers}

-- what an equality is true of
pub truth_equal : (relations : List Rows) (left right : ℕ) (numbers : List ℕ) → truth relations (Equal left right) numbers ≡ (get_or numbers left 0 == get_or numbers right 0)
truth_equal relations left right numbers =
    ap (λ (f : List ℕ → Bool). f numbers) (ap (truth relations) (sym (rolls-Equal left right)) ∙ fold-roll-Condition (List ℕ → Bool) (condition_step relations) (Condition-F.Equal left right))

-- what a chain of AND is true of
pub truth_all : (relations : List Rows) (conditions : List Condition) (numbers : List ℕ) → truth relations (All conditions) numbers ≡ list_all (λ part. part numbers) (truths relations conditions)
truth_all relations conditions numbers =
    ap (λ (f : List ℕ → Bool). f numbers) (ap (truth relations) (sym (rolls-All conditions)) ∙ fold-roll-Condition (List ℕ → Bool) (condition_step relations) (Condition-F.All conditions))

-- an element that passes a test
pub record Passes {X : Type 0} (p : X → Bool) (xs : List X) : Type 0 where
  pub element : X
  pub there : In element xs
  pub passes : p element ≡ true

or_cases : (a b : Bool) → (a || b) ≡ true → (a ≡ true) ⊎ (b ≡ true)
or_cases true b e = inl refl
or_cases false b e = inr e

or_left : (a b : Bool) → a ≡ true → (a || b) ≡ true
or_left a b e = ap (λ (x : Bool). x || b) e

or_right : (a b : Bool) → b ≡ true → (a || b) ≡ true
or_right true b e = refl
or_right false b e = e

pub any_passes : {X : Type 0} (p : X → Bool) (xs : List X) → list_any p xs ≡ true → Passes p xs
any_passes p [] e = absurd (cc)
any_passes p (x ∷ xs) e = elim (or_cases (p x) (list_any p xs) e) [
  | inl one ↦ record { element = x; there = inl refl; passes = one }
  | inr more ↦ let h = any_passes p xs more in record { element = h.element; there = inr h.there; passes = h.passes }
]

pub passes_any : {X : Type 0} (p : X → Bool) (x : X) (xs : List X) → In x xs → p x ≡ true → list_any p xs ≡ true
passes_any p x [] i e = absurd i
passes_any p x (y ∷ xs) (inl q) e = or_left (p y) (list_any p xs) (ap p (sym q) ∙ e)
passes_any p x (y ∷ xs) (inr i) e = or_right (p y) (list_any p xs) (passes_any p x xs i e)

-- a row that tests found is found, and back
pub found_true : (relations : List Rows) (entry : Entry) (numbers row : List ℕ) → IsFound relations entry numbers row → is_found relations entry numbers row ≡ true
found_true relations entry numbers row f =
    and_true (length row == width_of relations entry) (pointwise nat_eq (picked row entry.columns) (picked numbers entry.places)) (equal_numbers (length row) (width_of relations entry) f.wide)
    (ap (λ (a : List ℕ). pointwise nat_eq a (picked numbers entry.places)) f.agrees ∙ same_numbers (picked numbers entry.places))

pub true_found : (relations : List Rows) (entry : Entry) (numbers row : List ℕ) → In row (rows_in relations entry.relation) → is_found relations entry numbers row ≡ true → IsFound relations entry numbers row
true_found relations entry numbers row i e = record {
  there = i;
  wide = eqb-true (length row) (width_of relations entry) (and_left (length row == width_of relations entry) (pointwise nat_eq (picked row entry.columns) (picked numbers entry.places)) e);
  agrees = numbers_same (picked row entry.columns) (picked numbers entry.places) (and_right (length row == width_of relations entry) (pointwise nat_eq (picked row entry.columns) (picked numbers entry.places)) e);
}

-- what holds of the same numbers is led to alike
pub leads_as : (relations : List Rows) (entries : List Entry) (numbers : List ℕ) (P Q : List ℕ → Type 0) → ((chosen : List ℕ) → P chosen → Q chosen) → Leads relations entries numbers P → Leads relations entries numbers Q
leads_as relations [] numbers P Q up x = up numbers x
leads_as relations (e ∷ es) numbers P Q up x = (x.0, x.1, leads_as relations es (numbers ++ x.0) P Q up x.2)

-- the last entry is led to by the others
pub leads_last : (relations : List Rows) (entries : List Entry) (entry : Entry) (numbers : List ℕ) (P : List ℕ → Type 0) → Leads relations (entries ++ entry ∷ []) numbers P → Leads relations entries numbers (λ chosen. Leads relations (entry ∷ []) chosen P)
leads_last relations [] entry numbers P x = x
leads_last relations (e ∷ es) entry numbers P x = (x.0, x.1, leads_last relations es entry (numbers ++ x.0) P x.2)

pub last_leads : (relations : List Rows) (entries : List Entry) (entry : Entry) (numbers : List ℕ) (P : List ℕ → Type 0) → Leads relations entries numbers (λ chosen. Leads relations (entry ∷ []) chosen P) → Leads relations (entries ++ entry ∷ []) numbers P
last_leads relations [] entry numbers P x = x
last_leads relations (e ∷ es) entry numbers P x = (x.0, x.1, last_leads relations es entry (numbers ++ x.0) P x.2)

module _ (relations : List Rows) (entry : Entry) (rest : Condition) (numbers : List ℕ) where
  -- some row makes the rest true
  row_is : truth relations (roll-Condition (Condition-F.Row entry rest)) numbers ≡ is_some_row_true relations entry (truth relations rest) numbers
  row_is = ap (λ (f : List ℕ → Bool). f numbers) (fold-roll-Condition (List ℕ → Bool) (condition_step relations) (Condition-F.Row entry rest))

  pub row_leads : truth relations (roll-Condition (Condition-F.Row entry rest)) numbers ≡ true → Leads relations (entry ∷ []) numbers (λ chosen. truth relations rest chosen ≡ true)
  row_leads e =
      let h = any_passes (λ row. is_found relations entry numbers row && truth relations rest (numbers ++ row)) (rows_in relations entry.relation) (sym row_is ∙ e) in (
        h.element,
        true_found relations entry numbers h.element h.there (and_left (is_found relations entry numbers h.element) (truth relations rest (numbers ++ h.element)) h.passes),
        and_right (is_found relations entry numbers h.element) (truth relations rest (numbers ++ h.element)) h.passes,
      )

  pub leads_row : Leads relations (entry ∷ []) numbers (λ chosen. truth relations rest chosen ≡ true) → truth relations (roll-Condition (Condition-F.Row entry rest)) numbers ≡ true
  leads_row x =
      row_is ∙ passes_any (λ row. is_found relations entry numbers row && truth relations rest (numbers ++ row)) x.0 (rows_in relations entry.relation) x.1.there
      (and_true (is_found relations entry numbers x.0) (truth relations rest (numbers ++ x.0)) (found_true relations entry numbers x.0 x.1) x.2)

-- one entry less, which the condition asks for
pub asks_next : (first : List Entry) (condition : Condition) (entries rest : List Entry) (entry : Entry) (other next : Condition) → entries ≡ rest ++ entry ∷ [] → next ≡ roll-Condition (Condition-F.Row entry other) → AsksAs first condition entries other
    → AsksAs first condition rest next
asks_next first condition entries rest entry other next e f a relations numbers = (
  λ x. leads_as relations rest numbers (λ chosen. Leads relations (entry ∷ []) chosen Meets) (λ chosen. truth relations next chosen ≡ true) (λ chosen y. subst (λ (k : Condition). truth relations k chosen ≡ true) (sym f) (leads_row relations entry other chosen y))
      (leads_last relations rest entry numbers Meets (subst (λ (k : List Entry). Leads relations k numbers Meets) e ((a relations numbers).0 x))),
  λ x. (a relations numbers).1 (subst (λ (k : List Entry). Leads relations k numbers Meets) (sym e) (last_leads relations rest entry numbers Meets
      (leads_as relations rest numbers (λ chosen. truth relations next chosen ≡ true) (λ chosen. Leads relations (entry ∷ []) chosen Meets) (λ chosen y. row_leads relations entry other chosen (subst (λ (k : Condition). truth relations k chosen ≡ true) f y)) x))),
)
  where
    Meets : List ℕ → Type 0
    Meets chosen = truth relations other chosen ≡ true
