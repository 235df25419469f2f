-- The printed form of a term tells the term.
use Rattle.std.proofs.Common.{◌≡◌, ◌⊎◌, inl, inr, ℕ, pos, negsuc, suc, ◌+◌, ◌/◌, ◌%◌, ◌<◌, ◌≤◌, ◌==◌, true, List, ◌∷◌, [], ◌++◌, refl, ap, sym, ◌∙◌, subst, arith}
use Rattle.std.proofs.lemmas.List.{append_assoc, append-nil, append_cancel_right}
use Rattle.std.proofs.lemmas.Bool.{and_parts}
use Rattle.std.proofs.lemmas.Bool.Decides.{nat_tests}
use Rattle.std.specs.List.{flat_map}
use Rattle.std.specs.Prelude.{Option, Some, None, if◌then◌else◌}
use Rattle.mast_terms.specs.Printed.{number_text, two_digits, date_text, escaped, quoted, value_text, after_commas, args_text, object_text, term_text}
use Rattle.mast_terms.specs.IntegerCell.{is_digit, are_digits}
use Rattle.mast_terms.proofs.ValueTextLemmas.{number_digits, Ends, value_end, value_not_nothing, number_some}
use Rattle.mast_terms.specs.Calendar.{days_of}
use Rattle.mast_terms.specs.declared.date.Date.{Date}
use Rattle.mast_terms.specs.declared.value.Value.{Value}
use Rattle.mast_terms.specs.declared.value.Value.TheVariants as v
use Rattle.mast_terms.specs.declared.term.Object.{Object}
use Rattle.mast_terms.specs.declared.term.Term.{Term}
use Rattle.mast_terms.specs.declared.term.Term.TheVariants as t

Ends-after_commas : (vs : List Value) → Ends (after_commas vs)
Ends-after_commas [] = tt
Ends-after_commas (v ∷ vs) = refl

after_same : (vs ws : List Value) → after_commas vs ≡ after_commas ws → vs ≡ ws
after_same [] [] h = refl
after_same [] (w ∷ ws) h = absurd (cc)
after_same (v ∷ vs) [] h = absurd (cc)
after_same (v ∷ vs) (w ∷ ws) h =
    let e : value_text v ++ after_commas vs ≡ value_text w ++ after_commas ws = cc in
    let f = value_end v w (after_commas vs) (after_commas ws) (Ends-after_commas vs) (Ends-after_commas ws) e in
    let f0 : v ≡ w = f.0 in
    let more : vs ≡ ws = after_same vs ws f.1 in cc

-- where a reader of values stands: outside of quotes, inside, or behind a backslash
data Mode : Type 0 where
  Out : Mode
  In : Mode
  Esc : Mode

next : Mode → ℕ → Option Mode
next Out b = if b == 34 then Some In else if b == 40 then None else if b == 92 then None else Some Out
next In b = if b == 34 then Some Out else if b == 92 then Some Esc else Some In
next Esc b = if b == 40 then None else Some In

-- goes on from where a reader may stand
run : Option Mode → List ℕ → Option Mode
run m [] = m
run None (b ∷ bs) = None
run (Some m) (b ∷ bs) = run (next m b) bs

run_none : (bs : List ℕ) → run None bs ≡ None
unfolding run
run_none [] = refl
run_none (b ∷ bs) = refl

run-append : (m : Option Mode) (xs ys : List ℕ) → run m (xs ++ ys) ≡ run (run m xs) ys
unfolding run
run-append m [] ys = refl
run-append None (x ∷ xs) ys = sym (run_none ys)
run-append (Some m) (x ∷ xs) ys = run-append (next m x) xs ys

digits_run : (ds : List ℕ) → are_digits ds ≡ true → run (Some Out) ds ≡ Some Out
unfolding run next
digits_run [] h = refl
digits_run (d ∷ ds) h =
    let p = and_parts (is_digit d) (are_digits ds) h in
    let e : next Out d ≡ Some Out = grind (arith, nat_tests, p.0) in
    rw e (digits_run ds p.1)

escaped_run : (b : ℕ) → run (Some In) (escaped b) ≡ Some In
unfolding run next
escaped_run b = grind (arith, nat_tests)

all_escaped_run : (bs : List ℕ) → run (Some In) (flat_map escaped bs) ≡ Some In
unfolding run
all_escaped_run [] = refl
all_escaped_run (b ∷ bs) = run-append (Some In) (escaped b) (flat_map escaped bs) ∙ ap (λ (m : Option Mode). run m (flat_map escaped bs)) (escaped_run b) ∙ all_escaped_run bs

quoted_run : (bs : List ℕ) → run (Some Out) (quoted bs) ≡ Some Out
unfolding run next
quoted_run bs = run-append (Some In) (flat_map escaped bs) (34 ∷ []) ∙ ap (λ (m : Option Mode). run m (34 ∷ [])) (all_escaped_run bs)

day_small : (y m d : ℕ) → d ≤ days_of y m → d < 100
day_small y m d h = grind (arith, nat_tests)

two_digits_digits : (n : ℕ) → n < 100 → are_digits (two_digits n) ≡ true
two_digits_digits n h = grind (arith, nat_tests)

two_run : (n : ℕ) (rest : List ℕ) → n < 100 → run (Some Out) (two_digits n ++ rest) ≡ run (Some Out) rest
two_run n rest h = run-append (Some Out) (two_digits n) rest ∙ ap (λ (m : Option Mode). run m rest) (digits_run (two_digits n) (two_digits_digits n h))

date_run : (d : Date) → run (Some Out) (date_text d) ≡ Some Out
unfolding run next
date_run d =
    two_run (d.year / 100) (two_digits (d.year % 100) ++ 45 ∷ two_digits d.month ++ 45 ∷ two_digits d.day) (omega arith)
    ∙ two_run (d.year % 100) (45 ∷ two_digits d.month ++ 45 ∷ two_digits d.day) (omega arith)
    ∙ two_run d.month (45 ∷ two_digits d.day) (omega arith)
    ∙ digits_run (two_digits d.day) (two_digits_digits d.day (day_small d.year d.month d.day d.valid.day_to))

value_run : (v : Value) → run (Some Out) (value_text v) ≡ Some Out
unfolding run next
value_run (v.Int (pos n)) = digits_run (number_text n) (number_digits n)
value_run (v.Int (negsuc n)) = digits_run (number_text (suc n)) (number_digits (suc n))
value_run (v.Text text) = quoted_run text
value_run (v.Date d) = date_run d

after_run : (vs : List Value) → run (Some Out) (after_commas vs) ≡ Some Out
unfolding run next
after_run [] = refl
after_run (v ∷ vs) = run-append (Some Out) (value_text v) (after_commas vs) ∙ ap (λ (m : Option Mode). run m (after_commas vs)) (value_run v) ∙ after_run vs

args_run : (vs : List Value) → run (Some Out) (args_text vs) ≡ Some Out
unfolding run next
args_run [] = refl
args_run (v ∷ vs) = run-append (Some Out) (value_text v) (after_commas vs) ∙ ap (λ (m : Option Mode). run m (after_commas vs)) (value_run v) ∙ after_run vs

-- a byte outside opens what it closes inside, is the same on both sides, or does not stand outside
sides : (b : ℕ) → ((next Out b ≡ Some In) × (next In b ≡ Some Out)) ⊎ (((next Out b ≡ Some Out) × (next In b ≡ Some In)) ⊎ (next Out b ≡ None))
unfolding next
sides b = grind (arith, nat_tests)

-- A text that can be read from outside and from inside quotes ends on different sides.
never_both : (bs : List ℕ) → run (Some Out) bs ≡ Some Out → run (Some In) bs ≡ Some Out → ⊥
unfolding run
never_both [] h k = absurd (cc)
never_both (b ∷ bs) h k = elim (sides b) [
  | inl s ↦ never_both bs (subst (λ (m : Option Mode). run m bs ≡ Some Out) s.1 k) (subst (λ (m : Option Mode). run m bs ≡ Some Out) s.0 h)
  | inr (inl s) ↦ never_both bs (subst (λ (m : Option Mode). run m bs ≡ Some Out) s.0 h) (subst (λ (m : Option Mode). run m bs ≡ Some Out) s.1 k)
  | inr (inr s) ↦ let e : run None bs ≡ Some Out = subst (λ (m : Option Mode). run m bs ≡ Some Out) s h in let f = run_none bs in absurd (cc)
]

-- two ways to cut one text at an opening parenthesis
cut : (s1 w1 s2 w2 : List ℕ) → s1 ++ 40 ∷ w1 ≡ s2 ++ 40 ∷ w2 → ((s1 ≡ s2) × (w1 ≡ w2)) ⊎ (((y : List ℕ) × (w1 ≡ y ++ 40 ∷ w2)) ⊎ ((y : List ℕ) × (w2 ≡ y ++ 40 ∷ w1)))
cut [] w1 [] w2 h = let e : w1 ≡ w2 = cc in inl (refl, e)
cut [] w1 (x ∷ s2) w2 h = let e : w1 ≡ s2 ++ 40 ∷ w2 = cc in inr (inl (s2, e))
cut (x ∷ s1) w1 [] w2 h = let e : w2 ≡ s1 ++ 40 ∷ w1 = cc in inr (inr (s1, e))
cut (x ∷ s1) w1 (y ∷ s2) w2 h =
    let first : x ≡ y = cc in
    let rest : s1 ++ 40 ∷ w1 ≡ s2 ++ 40 ∷ w2 = cc in
    elim (cut s1 w1 s2 w2 rest) [
      | inl e ↦ let e0 : s1 ≡ s2 = e.0 in let k : x ∷ s1 ≡ y ∷ s2 = cc in inl (k, e.1)
      | inr (inl e) ↦ inr (inl e)
      | inr (inr e) ↦ inr (inr e)
    ]

-- an opening parenthesis in arguments stands inside quotes
inside : (m : Option Mode) (w : List ℕ) → run m (40 ∷ w) ≡ Some Out → run (Some Out) w ≡ Some Out → ⊥
unfolding run next
inside None w h k = absurd (cc)
inside (Some Out) w h k = let f = run_none w in absurd (cc)
inside (Some In) w h k = never_both w k h
inside (Some Esc) w h k = let f = run_none w in absurd (cc)

no_cut : (y v w : List ℕ) → v ≡ y ++ 40 ∷ w → run (Some Out) v ≡ Some Out → run (Some Out) w ≡ Some Out → ⊥
no_cut y v w e h k = inside (run (Some Out) y) w (sym (run-append (Some Out) y (40 ∷ w)) ∙ sym (ap (λ (t : List ℕ). run (Some Out) t) e) ∙ h) k

-- a value is not nothing
value_some : (v : Value) (vs : List Value) → args_text (v ∷ vs) ≡ [] → ⊥
value_some v vs h = value_not_nothing v (after_commas vs) h

args_same : (vs ws : List Value) → args_text vs ≡ args_text ws → vs ≡ ws
args_same [] [] h = refl
args_same [] (w ∷ ws) h = absurd (value_some w ws (sym h))
args_same (v ∷ vs) [] h = absurd (value_some v vs h)
args_same (v ∷ vs) (w ∷ ws) h =
    let f = value_end v w (after_commas vs) (after_commas ws) (Ends-after_commas vs) (Ends-after_commas ws) h in
    let f0 : v ≡ w = f.0 in
    let more : vs ≡ ws = after_same vs ws f.1 in cc

object_parts : (o p : Object) → o.symbol ≡ p.symbol → o.args ≡ p.args → o ≡ p
object_parts o p s a = λ i. record { symbol = s i; args = a i }

object_same : (o p : Object) → object_text o ≡ object_text p → o ≡ p
object_same o p h =
    let e : (o.symbol ++ 40 ∷ args_text o.args) ++ 41 ∷ [] ≡ (p.symbol ++ 40 ∷ args_text p.args) ++ 41 ∷ [] = append_assoc o.symbol (40 ∷ args_text o.args) (41 ∷ []) ∙ h ∙ sym (append_assoc p.symbol (40 ∷ args_text p.args) (41 ∷ [])) in
    let f : o.symbol ++ 40 ∷ args_text o.args ≡ p.symbol ++ 40 ∷ args_text p.args = append_cancel_right _ _ (41 ∷ []) e in
    elim (cut o.symbol (args_text o.args) p.symbol (args_text p.args) f) [
      | inl c ↦ object_parts o p c.0 (args_same o.args p.args c.1)
      | inr (inl c) ↦ absurd (no_cut c.0 (args_text o.args) (args_text p.args) c.1 (args_run o.args) (args_run p.args))
      | inr (inr c) ↦ absurd (no_cut c.0 (args_text p.args) (args_text o.args) c.1 (args_run p.args) (args_run o.args))
    ]

-- the last byte
last_of : List ℕ → ℕ
last_of [] = 0
last_of (b ∷ []) = b
last_of (b ∷ c ∷ bs) = last_of (c ∷ bs)

last-push : (xs : List ℕ) (y : ℕ) → last_of (xs ++ y ∷ []) ≡ y
unfolding last_of
last-push [] y = refl
last-push (x ∷ []) y = refl
last-push (x ∷ z ∷ xs) y = last-push (z ∷ xs) y

last_cons : (b : ℕ) (xs : List ℕ) → (xs ≡ [] → ⊥) → last_of (b ∷ xs) ≡ last_of xs
unfolding last_of
last_cons b [] h = absurd (h refl)
last_cons b (x ∷ xs) h = refl

last_digit : (ds : List ℕ) → are_digits ds ≡ true → (ds ≡ [] → ⊥) → is_digit (last_of ds) ≡ true
unfolding last_of
last_digit [] h some = absurd (some refl)
last_digit (d ∷ []) h some = (and_parts (is_digit d) true h).0
last_digit (d ∷ e ∷ ds) h some = last_digit (e ∷ ds) (and_parts (is_digit d) (are_digits (e ∷ ds)) h).1 (λ (k : e ∷ ds ≡ []). cc)

last_object : (o : Object) → last_of (object_text o) ≡ 41
last_object o = ap last_of (sym (append_assoc o.symbol (40 ∷ args_text o.args) (41 ∷ []))) ∙ last-push (o.symbol ++ 40 ∷ args_text o.args) 41

digit_last : (n : ℕ) → is_digit (last_of (number_text n)) ≡ true
digit_last n = last_digit (number_text n) (number_digits n) (number_some n)

quote_last : (t : List ℕ) → last_of (quoted t) ≡ 34
quote_last t = last-push (34 ∷ flat_map escaped t) 34

date_last : (d : Date) → last_of (date_text d) ≡ 48 + d.day % 10
unfolding last_of
date_last d = refl

not_digit : (b : ℕ) → is_digit b ≡ true → b ≡ 41 → ⊥
not_digit b h e = grind (arith, nat_tests)

number_object : (n : ℕ) (o : Object) → number_text n ≡ object_text o → ⊥
number_object n o h = not_digit (last_of (number_text n)) (digit_last n) (ap last_of h ∙ last_object o)

negative_object : (n : ℕ) (o : Object) → 45 ∷ number_text (suc n) ≡ object_text o → ⊥
negative_object n o h = not_digit (last_of (number_text (suc n))) (digit_last (suc n)) (sym (last_cons 45 (number_text (suc n)) (number_some (suc n))) ∙ ap last_of h ∙ last_object o)

quoted_object : (t : List ℕ) (o : Object) → quoted t ≡ object_text o → ⊥
quoted_object t o h = let e : ◌≡◌ {A = ℕ} 34 41 = sym (quote_last t) ∙ ap last_of h ∙ last_object o in cc

date_object : (d : Date) (o : Object) → date_text d ≡ object_text o → ⊥
date_object d o h = let e : 48 + d.day % 10 ≡ 41 = sym (date_last d) ∙ ap last_of h ∙ last_object o in omega arith

value_object : (v : Value) (o : Object) → value_text v ≡ object_text o → ⊥
value_object (v.Int (pos n)) o h = number_object n o h
value_object (v.Int (negsuc n)) o h = negative_object n o h
value_object (v.Text t) o h = quoted_object t o h
value_object (v.Date d) o h = date_object d o h

-- the printed form of a term tells the term
pub term_text_injective : (a b : Term) → term_text a ≡ term_text b → a ≡ b
term_text_injective (t.Value v) (t.Value w) h =
    let f = value_end v w [] [] tt tt (append-nil (value_text v) ∙ h ∙ sym (append-nil (value_text w))) in ap (λ (k : Value). t.Value k) f.0
term_text_injective (t.Value v) (t.Object o) h = absurd (value_object v o h)
term_text_injective (t.Object o) (t.Value v) h = absurd (value_object v o (sym h))
term_text_injective (t.Object o) (t.Object p) h = ap (λ (k : Object). t.Object k) (object_same o p h)
