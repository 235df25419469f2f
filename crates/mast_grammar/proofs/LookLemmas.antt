-- What the reader tells of terminals is exactly that they are a query within the limits, or their first breach.
use Rattle.std.proofs.Common.{◌≡◌, ◌⊎◌, inl, inr, ℕ, zero, suc, ◌+◌, ◌<◌, ◌≤◌, true, false, List, [], ◌∷◌, ◌++◌, length, take, slice_get, refl, ap, sym, ◌∙◌, subst, arith, append_assoc}
use Rattle.std.proofs.lemmas.List.{append-nil, length-append}
use Rattle.std.specs.Prelude.{Bool, ◌&&◌, ◌||◌, ◌==◌, Option, Some, None}
use Rattle.std.proofs.Math.Seq.{take-append_seam}
use Rattle.std.proofs.lemmas.Bool.{cases_Bool, eqb-true, eq-eqb}
use Rattle.mast_source.specs.Grammar.{Begins, UnexpectedAt}
use Rattle.mast_source.proofs.GrammarLemmas.{begun_expected}
use Rattle.mast_grammar.specs.declared.terminal.Terminal.{Terminal}
use Rattle.mast_grammar.specs.declared.terminal.Terminal.TheVariants.{Open, OpenBrace, Sparqltable, Doubled, Pname}
use Rattle.mast_grammar.specs.declared.rules.Part.{Part}
use Rattle.mast_grammar.specs.declared.breach.GrammarKind.{GrammarKind}
use Rattle.mast_grammar.specs.declared.breach.GrammarKind.TheVariants as kind
use Rattle.mast_grammar.specs.declared.limits.Counts.{Counts}
use Rattle.mast_grammar.specs.declared.limits.TheConstants.{MOST_OPEN, MOST_OPERATORS, MOST_ENTRIES, MOST_BLOCKS, MOST_ATOMS}
use Rattle.mast_grammar.specs.Grammar.{IsQuery}
use Rattle.mast_grammar.specs.inside.Rules.{query_parts}
use Rattle.mast_grammar.specs.Breaches.{counted, opened, is_operator, operated, listed, braced, parted, is_class_front, after_class, is_object, ObjectComes, Passes, LimitAt, NoLimitAt, IsFirstBreach, Tells}
use Rattle.mast_grammar.specs.inside.Machine.{same, step, can_end}
use Rattle.mast_grammar.specs.inside.Predict.{run}
use Rattle.mast_grammar.specs.inside.Reader.{nothing_counted, counting, expects, at_object, tested, first_of, limit, on_end, on_limit, on_step, look}
use Rattle.mast_grammar.proofs.PredictLemmas.{none_some, false_true, one_terminal, same_terminal, both}
use Rattle.mast_grammar.proofs.DerivativeLemmas.{some_one}
use Rattle.mast_grammar.proofs.FitLemmas.{together}
use Rattle.mast_grammar.proofs.RunLemmas.{begun, run_more, begins_at, stuck_begins, query_at, at_query, may_come, comes}

-- the numbers that were counted are those of the terminals before
pub record AreCounts (c : Counts) (before : List Terminal) : Type 0 where
  pub depth : c.depth ≡ counted opened 0 before
  pub operators : c.operators ≡ counted operated 0 before
  pub entries : c.entries ≡ counted listed 0 before
  pub braces : c.braces ≡ counted braced 0 before
  pub separators : c.separators ≡ counted parted 0 before
  pub after : c.after_class ≡ after_class false before

counted_more : (change : ℕ → Terminal → ℕ) (n : ℕ) (ks : List Terminal) (k : Terminal) → counted change n (ks ++ (k ∷ [])) ≡ change (counted change n ks) k
counted_more change n [] k = refl
counted_more change n (j ∷ ks) k = counted_more change (change n j) ks k

after_more : (b : Bool) (ks : List Terminal) (k : Terminal) → after_class b (ks ++ (k ∷ [])) ≡ is_class_front k
after_more b [] k = refl
after_more b (j ∷ ks) k = after_more (is_class_front j) ks k

-- nothing is counted before any terminal
pub counts_none : AreCounts nothing_counted []
counts_none = record { depth = refl; operators = refl; entries = refl; braces = refl; separators = refl; after = refl }

-- one terminal more is counted
pub counts_more : (c : Counts) (before : List Terminal) (k : Terminal) → AreCounts c before → AreCounts (counting c k) (before ++ (k ∷ []))
counts_more c before k h =
    record {
      depth = ap (λ n. opened n k) h.depth ∙ sym (counted_more opened 0 before k);
      operators = ap (λ n. operated n k) h.operators ∙ sym (counted_more operated 0 before k);
      entries = ap (λ n. listed n k) h.entries ∙ sym (counted_more listed 0 before k);
      braces = ap (λ n. braced n k) h.braces ∙ sym (counted_more braced 0 before k);
      separators = ap (λ n. parted n k) h.separators ∙ sym (counted_more parted 0 before k);
      after = sym (after_more false before k);
    }

-- numbers that are equal
equal_numbers : (m n : ℕ) → (m == n) ≡ true → m ≡ n
equal_numbers m n h = eqb-true m n h

same_numbers : (m n : ℕ) → m ≡ n → (m == n) ≡ true
same_numbers m n e = eq-eqb m n e

-- where the parser stands behind terminals, and what was counted
pub record Stands (before : List Terminal) (ps : List Part) (c : Counts) : Type 0 where
  pub runs : run begun before ≡ Some ps
  pub counts : AreCounts c before

-- an object comes where the parser says so
object_right : (before : List Terminal) (ps : List Part) (c : Counts) → Stands before ps c → at_object c ps ≡ true → ObjectComes before
object_right before ps c s h = elim (cases_Bool (expects ps Doubled)) [
  | inl e ↦ inl (may_come before Doubled ps s.runs e)
  | inr e ↦ let t = both c.after_class (expects ps Pname) (other (expects ps Doubled) (c.after_class && expects ps Pname) e h) in inr (sym s.counts.after ∙ t.0, may_come before Pname ps s.runs t.1)
]
  where
    other : (a b : Bool) → a ≡ false → (a || b) ≡ true → b ≡ true
    other true b e h = absurd (false_true (sym e))
    other false b e h = h

or_first : (a b : Bool) → a ≡ true → (a || b) ≡ true
or_first true b e = refl
or_first false b e = absurd (false_true e)

or_second : (a b : Bool) → b ≡ true → (a || b) ≡ true
or_second true b e = refl
or_second false b e = e

object_told : (before : List Terminal) (ps : List Part) (c : Counts) → Stands before ps c → ObjectComes before → at_object c ps ≡ true
object_told before ps c s (inl m) = or_first (expects ps Doubled) (c.after_class && expects ps Pname) (comes before Doubled ps s.runs m)
object_told before ps c s (inr m) =
    or_second (expects ps Doubled) (c.after_class && expects ps Pname)
    (together c.after_class (expects ps Pname) (s.counts.after ∙ m.0) (comes before Pname ps s.runs m.1))

-- a test of a limit is right
test_right : (limits : GrammarKind) (before : List Terminal) (ps : List Part) (c : Counts) (k : Terminal) → Stands before ps c → tested limits c ps k ≡ true → Passes limits before k
test_right kind.Grammar before ps c k s h = absurd (false_true h)
test_right kind.Depth before ps c k s h =
    let t = both (same k Open) (c.depth == MOST_OPEN) h in
    (one_terminal k Open t.0, sym s.counts.depth ∙ equal_numbers c.depth MOST_OPEN t.1)
test_right kind.Operators before ps c k s h =
    let t = both (is_operator k) (c.operators == MOST_OPERATORS) h in
    (t.0, sym s.counts.operators ∙ equal_numbers c.operators MOST_OPERATORS t.1)
test_right kind.Entries before ps c k s h =
    let t = both (same k Sparqltable) (c.entries == MOST_ENTRIES && expects ps k) h in
    let u = both (c.entries == MOST_ENTRIES) (expects ps k) t.1 in
    (one_terminal k Sparqltable t.0, sym s.counts.entries ∙ equal_numbers c.entries MOST_ENTRIES u.0, may_come before k ps s.runs u.1)
test_right kind.Disjuncts before ps c k s h =
    let t = both (same k OpenBrace) (c.braces == MOST_BLOCKS + 1 && expects ps k) h in
    let u = both (c.braces == MOST_BLOCKS + 1) (expects ps k) t.1 in
    (one_terminal k OpenBrace t.0, sym s.counts.braces ∙ equal_numbers c.braces (MOST_BLOCKS + 1) u.0, may_come before k ps s.runs u.1)
test_right kind.Atoms before ps c k s h =
    let t = both (is_object k) (c.separators == MOST_ATOMS && at_object c ps) h in
    let u = both (c.separators == MOST_ATOMS) (at_object c ps) t.1 in
    (t.0, sym s.counts.separators ∙ equal_numbers c.separators MOST_ATOMS u.0, object_right before ps c s u.1)

-- and a limit is tested
test_told : (limits : GrammarKind) (before : List Terminal) (ps : List Part) (c : Counts) (k : Terminal) → Stands before ps c → Passes limits before k → tested limits c ps k ≡ true
test_told kind.Grammar before ps c k s h = absurd h
test_told kind.Depth before ps c k s h =
    together (same k Open) (c.depth == MOST_OPEN) (same_terminal k Open h.0) (same_numbers c.depth MOST_OPEN (s.counts.depth ∙ h.1))
test_told kind.Operators before ps c k s h =
    together (is_operator k) (c.operators == MOST_OPERATORS) h.0 (same_numbers c.operators MOST_OPERATORS (s.counts.operators ∙ h.1))
test_told kind.Entries before ps c k s h =
    together (same k Sparqltable) (c.entries == MOST_ENTRIES && expects ps k) (same_terminal k Sparqltable h.0)
    (together (c.entries == MOST_ENTRIES) (expects ps k) (same_numbers c.entries MOST_ENTRIES (s.counts.entries ∙ h.1)) (comes before k ps s.runs h.2))
test_told kind.Disjuncts before ps c k s h =
    together (same k OpenBrace) (c.braces == MOST_BLOCKS + 1 && expects ps k) (same_terminal k OpenBrace h.0)
    (together (c.braces == MOST_BLOCKS + 1) (expects ps k) (same_numbers c.braces (MOST_BLOCKS + 1) (s.counts.braces ∙ h.1)) (comes before k ps s.runs h.2))
test_told kind.Atoms before ps c k s h =
    together (is_object k) (c.separators == MOST_ATOMS && at_object c ps) h.0
    (together (c.separators == MOST_ATOMS) (at_object c ps) (same_numbers c.separators MOST_ATOMS (s.counts.separators ∙ h.1)) (object_told before ps c s h.2))

-- the test of a kind, of five
abbrev of_kind : GrammarKind → Bool → Bool → Bool → Bool → Bool → Bool
of_kind kind.Grammar a b c d e = false
of_kind kind.Depth a b c d e = a
of_kind kind.Operators a b c d e = b
of_kind kind.Entries a b c d e = c
of_kind kind.Disjuncts a b c d e = d
of_kind kind.Atoms a b c d e = e

-- the kind that is found first is tested
first_tested : (a b c d e : Bool) (limits : GrammarKind) → first_of a b c d e ≡ Some limits → of_kind limits a b c d e ≡ true
first_tested true b c d e limits h = let g : kind.Depth ≡ limits = some_one kind.Depth limits h in subst (λ x. of_kind x true b c d e ≡ true) g refl
first_tested false true c d e limits h = let g : kind.Operators ≡ limits = some_one kind.Operators limits h in subst (λ x. of_kind x false true c d e ≡ true) g refl
first_tested false false true d e limits h = let g : kind.Entries ≡ limits = some_one kind.Entries limits h in subst (λ x. of_kind x false false true d e ≡ true) g refl
first_tested false false false true e limits h = let g : kind.Disjuncts ≡ limits = some_one kind.Disjuncts limits h in subst (λ x. of_kind x false false false true e ≡ true) g refl
first_tested false false false false true limits h = let g : kind.Atoms ≡ limits = some_one kind.Atoms limits h in subst (λ x. of_kind x false false false false true ≡ true) g refl
first_tested false false false false false limits h = absurd (none_some limits h)

-- where none is found no test holds
none_tested : (a b c d e : Bool) (limits : GrammarKind) → first_of a b c d e ≡ None → of_kind limits a b c d e ≡ true → ⊥
none_tested true b c d e limits h g = none_some kind.Depth (sym h)
none_tested false true c d e limits h g = none_some kind.Operators (sym h)
none_tested false false true d e limits h g = none_some kind.Entries (sym h)
none_tested false false false true e limits h g = none_some kind.Disjuncts (sym h)
none_tested false false false false true limits h g = none_some kind.Atoms (sym h)
none_tested false false false false false kind.Grammar h g = false_true g
none_tested false false false false false kind.Depth h g = false_true g
none_tested false false false false false kind.Operators h g = false_true g
none_tested false false false false false kind.Entries h g = false_true g
none_tested false false false false false kind.Disjuncts h g = false_true g
none_tested false false false false false kind.Atoms h g = false_true g

-- the tests by their kinds
of_tests : (limits : GrammarKind) (c : Counts) (ps : List Part) (k : Terminal) → of_kind limits (tested kind.Depth c ps k) (tested kind.Operators c ps k) (tested kind.Entries c ps k) (tested kind.Disjuncts c ps k) (tested kind.Atoms c ps k) ≡ tested limits c ps k
of_tests kind.Grammar c ps k = refl
of_tests kind.Depth c ps k = refl
of_tests kind.Operators c ps k = refl
of_tests kind.Entries c ps k = refl
of_tests kind.Disjuncts c ps k = refl
of_tests kind.Atoms c ps k = refl

-- the limit that is found is passed
limit_right : (limits : GrammarKind) (before : List Terminal) (ps : List Part) (c : Counts) (k : Terminal) → Stands before ps c → limit c ps k ≡ Some limits → Passes limits before k
limit_right limits before ps c k s h =
    test_right limits before ps c k s
    (sym (of_tests limits c ps k) ∙ first_tested (tested kind.Depth c ps k) (tested kind.Operators c ps k) (tested kind.Entries c ps k) (tested kind.Disjuncts c ps k) (tested kind.Atoms c ps k) limits h)

-- and where none is found none is passed
no_limit : (limits : GrammarKind) (before : List Terminal) (ps : List Part) (c : Counts) (k : Terminal) → Stands before ps c → limit c ps k ≡ None → Passes limits before k → ⊥
no_limit limits before ps c k s h p =
    none_tested (tested kind.Depth c ps k) (tested kind.Operators c ps k) (tested kind.Entries c ps k) (tested kind.Disjuncts c ps k) (tested kind.Atoms c ps k) limits h
    (of_tests limits c ps k ∙ test_told limits before ps c k s p)

-- a list in two parts

take_front : (xs ys : List Terminal) → take (length xs) (xs ++ ys) ≡ xs
take_front xs ys = take-append_seam xs ys

take_more : (xs ys : List Terminal) (k : Terminal) → take (suc (length xs)) (xs ++ (k ∷ ys)) ≡ xs ++ (k ∷ [])
take_more [] ys k = refl
take_more (x ∷ xs) ys k = ap (λ z. x ∷ z) (take_more xs ys k)

get_front : (xs ys : List Terminal) (k : Terminal) → slice_get (xs ++ (k ∷ ys)) (length xs) ≡ Some k
get_front [] ys k = refl
get_front (x ∷ xs) ys k = get_front xs ys k

get_none : (xs : List Terminal) (i : ℕ) → length xs ≤ i → slice_get xs i ≡ None
get_none [] zero l = refl
get_none [] (suc i) l = refl
get_none (x ∷ xs) zero l = absurd (omega arith)
get_none (x ∷ xs) (suc i) l = get_none xs i (omega arith)

-- what is given is one terminal
pub some_terminal : (j k : Terminal) → ◌≡◌ {A = Option Terminal} (Some j) (Some k) → j ≡ k
some_terminal j k e = cc

-- the limit at the next terminal
limit_here : (limits : GrammarKind) (before ks : List Terminal) (k : Terminal) → Passes limits before k → LimitAt (before ++ (k ∷ ks)) (length before) limits
limit_here limits before ks k p = (k, get_front before ks k, subst (λ x. Passes limits x k) (sym (take_front before (k ∷ ks))) p)

limit_there : (limits : GrammarKind) (before ks : List Terminal) (k : Terminal) → LimitAt (before ++ (k ∷ ks)) (length before) limits → Passes limits before k
limit_there limits before ks k h =
    let e : h.0 ≡ k = some_terminal h.0 k (sym h.1 ∙ get_front before ks k) in
    subst (λ x. Passes limits before x) e (subst (λ x. Passes limits x h.0) (take_front before (k ∷ ks)) h.2)

-- no limit is passed before the next terminal
abbrev NoneBefore : List Terminal → ℕ → Type 0
NoneBefore ks n = (j : ℕ) → j < n → NoLimitAt ks j

none_more : (before ks : List Terminal) (ps : List Part) (c : Counts) (k : Terminal) → Stands before ps c → limit c ps k ≡ None → NoneBefore (before ++ (k ∷ ks)) (length before) → (j : ℕ) → j ≤ length before → NoLimitAt (before ++ (k ∷ ks)) j
none_more before ks ps c k s h none j l limits at = elim (less_or j (length before) l) [
  | inl m ↦ none j m limits at
  | inr m ↦ no_limit limits before ps c k s h (limit_there limits before ks k (subst (λ i. LimitAt (before ++ (k ∷ ks)) i limits) m at))
]
  where
    less_or : (a b : ℕ) → a ≤ b → (a < b) ⊎ (a ≡ b)
    less_or zero zero l = inr refl
    less_or zero (suc b) l = inl (omega arith)
    less_or (suc a) zero l = absurd (omega arith)
    less_or (suc a) (suc b) l = elim (less_or a b (omega arith)) [
      | inl m ↦ inl (omega arith)
      | inr m ↦ inr (ap suc m)
    ]

-- where the parser goes on nothing was unexpected
not_unexpected : (before ks : List Terminal) (ps : List Part) (j : ℕ) → run begun before ≡ Some ps → j < length before → UnexpectedAt IsQuery (before ++ ks) j → ⊥
not_unexpected before ks ps j e l u =
    let size = length-append before ks in
    begun_expected IsQuery (before ++ ks) j (length before) l (omega arith) (subst (λ x. Begins IsQuery x) (sym (take_front before ks)) (begins_at before ps e)) u

-- at the end
no_limit_behind : (before : List Terminal) → NoneBefore before (length before) → (j : ℕ) → NoLimitAt before j
no_limit_behind before none j limits h = elim (short j (length before)) [
  | inl l ↦ none j l limits h
  | inr l ↦ absurd (none_some h.0 (sym (get_none before j l) ∙ h.1))
]
  where
    short : (a b : ℕ) → (a < b) ⊎ (b ≤ a)
    short zero zero = inr (omega arith)
    short zero (suc b) = inl (omega arith)
    short (suc a) zero = inr (omega arith)
    short (suc a) (suc b) = elim (short a b) [
      | inl m ↦ inl (omega arith)
      | inr m ↦ inr (omega arith)
    ]

end_right : (before : List Terminal) (ps : List Part) (b : Bool) → run begun before ≡ Some ps → can_end ps ≡ b → NoneBefore before (length before) → Tells before (on_end b (length before))
end_right before ps true e h none = (query_at before ps e h, no_limit_behind before none)
end_right before ps false e h none = (
  record {
    within = omega arith;
    begins = subst (λ x. Begins IsQuery x) (sym (ap (λ x. take (length before) x) (sym (append-nil before)) ∙ take_front before [])) (begins_at before ps e);
    next = λ l b. absurd (omega arith);
    whole = λ l steps q. false_true (sym h ∙ at_query before ps steps e q);
  },
  λ j l. no_limit_behind before none j,
)

-- a limit at the next terminal is the first breach
limit_first : (limits : GrammarKind) (before ks : List Terminal) (k : Terminal) (ps : List Part) → run begun before ≡ Some ps → Passes limits before k → NoneBefore (before ++ (k ∷ ks)) (length before) → IsFirstBreach (before ++ (k ∷ ks)) (length before) limits
limit_first kind.Grammar before ks k ps e p none = absurd p
limit_first kind.Depth before ks k ps e p none = (limit_here kind.Depth before ks k p, none, λ j l u. not_unexpected before (k ∷ ks) ps j e l u)
limit_first kind.Operators before ks k ps e p none = (limit_here kind.Operators before ks k p, none, λ j l u. not_unexpected before (k ∷ ks) ps j e l u)
limit_first kind.Entries before ks k ps e p none = (limit_here kind.Entries before ks k p, none, λ j l u. not_unexpected before (k ∷ ks) ps j e l u)
limit_first kind.Disjuncts before ks k ps e p none = (limit_here kind.Disjuncts before ks k p, none, λ j l u. not_unexpected before (k ∷ ks) ps j e l u)
limit_first kind.Atoms before ks k ps e p none = (limit_here kind.Atoms before ks k p, none, λ j l u. not_unexpected before (k ∷ ks) ps j e l u)

-- a terminal that may not come is the first breach
stuck_first : (before ks : List Terminal) (k : Terminal) (ps : List Part) → run begun before ≡ Some ps → step ps k ≡ None → ((j : ℕ) → j ≤ length before → NoLimitAt (before ++ (k ∷ ks)) j) → IsFirstBreach (before ++ (k ∷ ks)) (length before) kind.Grammar
stuck_first before ks k ps e h none = (
  record {
    within = let l = length-append before (k ∷ ks) in omega arith;
    begins = subst (λ x. Begins IsQuery x) (sym (take_front before (k ∷ ks))) (begins_at before ps e);
    next = λ l b. stuck_begins (before ++ (k ∷ [])) (run_more before k ps e ∙ h) (subst (λ x. Begins IsQuery x) (take_more before ks k) b);
    whole = λ l steps q. (let m = length-append before (k ∷ ks) in omega arith);
  },
  none,
)

-- what is told behind one terminal more is right
abbrev More : List Terminal → Terminal → List Terminal → Type 0
More before k ks =
    (qs : List Part) (t : Counts) → Stands (before ++ (k ∷ [])) qs t
    → NoneBefore ((before ++ (k ∷ [])) ++ ks) (length (before ++ (k ∷ [])))
    → Tells ((before ++ (k ∷ [])) ++ ks) (look (length (before ++ (k ∷ []))) t qs ks)

step_case : (before ks : List Terminal) (k : Terminal) (ps : List Part) (c : Counts) → Stands before ps c → ((j : ℕ) → j ≤ length before → NoLimitAt (before ++ (k ∷ ks)) j) → More before k ks → (o : Option (List Part)) → step ps k ≡ o → Tells (before ++ (k ∷ ks)) (on_step o (length before) (λ qs. look (length before + 1) (counting c k) qs ks))
step_case before ks k ps c s none more None e = stuck_first before ks k ps s.runs e none
step_case before ks k ps c s none more (Some qs) e =
    let all : (before ++ (k ∷ [])) ++ ks ≡ before ++ (k ∷ ks) = append_assoc before (k ∷ []) ks in
    let size : length (before ++ (k ∷ [])) ≡ length before + 1 = length-append before (k ∷ []) ∙ omega arith in
    let there : Stands (before ++ (k ∷ [])) qs (counting c k) = record { runs = run_more before k ps s.runs ∙ e; counts = counts_more c before k s.counts } in
    let found = more qs (counting c k) there (λ j l limits n. none j (omega arith) limits (subst (λ x. LimitAt x j limits) all n)) in
    subst (λ x. Tells x (look (length before + 1) (counting c k) qs ks)) all
    (subst (λ n. Tells ((before ++ (k ∷ [])) ++ ks) (look n (counting c k) qs ks)) size found)

limit_case : (before ks : List Terminal) (k : Terminal) (ps : List Part) (c : Counts) → Stands before ps c → NoneBefore (before ++ (k ∷ ks)) (length before) → More before k ks → (o : Option GrammarKind) → limit c ps k ≡ o → Tells (before ++ (k ∷ ks)) (on_limit o (length before) (on_step (step ps k) (length before) (λ qs. look (length before + 1) (counting c k) qs ks)))
limit_case before ks k ps c s none more (Some limits) e = limit_first limits before ks k ps s.runs (limit_right limits before ps c k s e) none
limit_case before ks k ps c s none more None e = step_case before ks k ps c s (none_more before ks ps c k s e none) more (step ps k) refl

look_right : (ks before : List Terminal) (ps : List Part) (c : Counts) → Stands before ps c → NoneBefore (before ++ ks) (length before) → Tells (before ++ ks) (look (length before) c ps ks)
look_right [] before ps c s none =
    subst (λ x. Tells x (on_end (can_end ps) (length before))) (sym (append-nil before))
    (end_right before ps (can_end ps) s.runs refl (subst (λ x. NoneBefore x (length before)) (append-nil before) none))
look_right (k ∷ ks) before ps c s none =
    limit_case before ks k ps c s none (λ qs t g n. look_right ks (before ++ (k ∷ [])) qs t g n) (limit c ps k) refl

-- what the reader tells of all terminals is right
pub look_exact : (ks : List Terminal) → Tells ks (look 0 nothing_counted query_parts ks)
look_exact ks = look_right ks [] query_parts nothing_counted (record { runs = refl; counts = counts_none }) (λ j l. absurd (omega arith))
