-- What the parser tells of symbols is exactly the query that they are, or their first breach.
use Rattle.std.proofs.Common.{◌≡◌, ◌⊎◌, inl, inr, ℕ, zero, suc, ◌+◌, ◌<◌, ◌≤◌, true, false, List, ◌∷◌, [], ◌++◌, length, take, refl, ap, sym, ◌∙◌, subst, arith, append_assoc}
use Rattle.std.specs.Prelude.{Option, Some, None}
use Rattle.std.proofs.lemmas.Bool.{cases_Bool}
use Rattle.std.proofs.lemmas.List.{append-nil, length-append}
use Rattle.std.proofs.Math.Seq.{take-append_seam}
use Rattle.mast_source.specs.Grammar.{Begins, UnexpectedAt}
use Rattle.mast_source.proofs.GrammarLemmas.{begun_expected, sentence_expected, one_unexpected, ordered}
use Rattle.mast_sql.specs.declared.symbol.Symbol.{Symbol}
use Rattle.mast_sql.specs.declared.query.SourceQuery.{SourceQuery}
use Rattle.mast_sql.specs.declared.parser.ParseState.{ParseState}
use Rattle.mast_sql.specs.declared.parser.ParseState.TheVariants as state
use Rattle.mast_sql.specs.inside.Parser.{empty, step, finish, is_ninth, later, on_finish, on_step, look}
use Rattle.mast_sql.specs.Grammar.{IsQuery, NinthAt, Found, fine, grammar, aliases, Tells}
use Rattle.mast_sql.proofs.RunLemmas.{run, begun, run_append, begins_at, stuck_begins, query_at, at_query, one_query}
use Rattle.mast_sql.proofs.NinthLemmas.{nothing, ninth_found, ninth_here, ninth_short}

-- what the reader tells of what is left is right of the whole

take_front : (xs ys : List Symbol) → take (length xs) (xs ++ ys) ≡ xs
take_front xs ys = take-append_seam xs ys

take_more : (xs ys : List Symbol) (k : Symbol) → take (suc (length xs)) (xs ++ (k ∷ ys)) ≡ xs ++ (k ∷ [])
take_more [] ys k = refl
take_more (x ∷ xs) ys k = ap (λ z. x ∷ z) (take_more xs ys k)

-- where the parser goes on there is no breach
not_unexpected : (before ks : List Symbol) (s : ParseState × SourceQuery) (j : ℕ) → run begun before ≡ Some s → j < length before → UnexpectedAt IsQuery (before ++ ks) j → ⊥
not_unexpected before ks s j e l u =
    let size = length-append before ks in
    begun_expected IsQuery (before ++ ks) j (length before) l (omega arith) (subst (λ x. Begins IsQuery x) (sym (take_front before ks)) (begins_at before s e)) u

zero_add : (n : ℕ) → n + 0 ≡ n
zero_add n = omega arith

at_end : (before : List Symbol) (s : ParseState × SourceQuery) (o : Option SourceQuery) → run begun before ≡ Some s → finish s.0 s.1 ≡ o → ((j : ℕ) → j < length before → NinthAt (before ++ []) j → ⊥) → Tells (before ++ []) (later (length before) (on_finish o))
at_end before s None e f none = (
  record {
    within = let l = length-append before [] in omega arith;
    begins = subst (λ x. Begins IsQuery x) (sym (ap (λ n. take n (before ++ [])) (zero_add (length before)) ∙ take_front before [])) (begins_at before s e);
    next = λ l b. (let m = length-append before [] in omega arith);
    whole = λ l r h. (let g = at_query before s r e (subst (λ x. IsQuery x r) (append-nil before) h) in nothing r (sym f ∙ g));
  },
  λ j l n. none j (let m = ninth_short (before ++ []) j n in let k = length-append before [] in omega arith) n,
)
at_end before s (Some r) e f none = (subst (λ x. IsQuery x r) (sym (append-nil before)) (query_at before s r e f), λ j n. none j (let m = ninth_short (before ++ []) j n in let k = length-append before [] in omega arith) n)

aliases_here : (before ks : List Symbol) (k : Symbol) (s : ParseState × SourceQuery) → run begun before ≡ Some s → is_ninth s.0 s.1 k ≡ true → ((j : ℕ) → j < length before → NinthAt (before ++ (k ∷ ks)) j → ⊥) → Tells (before ++ (k ∷ ks)) (aliases (length before + 0))
aliases_here before ks k s e h none =
    subst (λ n. Tells (before ++ (k ∷ ks)) (aliases n)) (sym (zero_add (length before)))
    (ninth_here before ks s.0 k s.1 e h, none, λ j l u. not_unexpected before (k ∷ ks) s j e l u)

-- up to and with this place
none_more : (before ks : List Symbol) (k : Symbol) (s : ParseState × SourceQuery) → run begun before ≡ Some s → is_ninth s.0 s.1 k ≡ false → ((j : ℕ) → j < length before → NinthAt (before ++ (k ∷ ks)) j → ⊥) → (j : ℕ) → j ≤ length before → NinthAt (before ++ (k ∷ ks)) j → ⊥
none_more before ks k s e h none j l n = elim (less_or j (length before) l) [
  | inl m ↦ none j m n
  | inr m ↦ let t = ninth_found before ks k s e (subst (λ i. NinthAt (before ++ (k ∷ ks)) i) m n) in cc
]
  where
    less_or : (a b : ℕ) → a ≤ b → (a < b) ⊎ (a ≡ b)
    less_or zero zero l = inr refl
    less_or zero (suc b) l = inl (omega arith)
    less_or (suc a) zero l = absurd (omega arith)
    less_or (suc a) (suc b) l = elim (less_or a b (omega arith)) [
      | inl m ↦ inl (omega arith)
      | inr m ↦ inr (ap suc m)
    ]

grammar_here : (before ks : List Symbol) (k : Symbol) (s : ParseState × SourceQuery) → run begun before ≡ Some s → step s.0 s.1 k ≡ None → ((j : ℕ) → j ≤ length before → NinthAt (before ++ (k ∷ ks)) j → ⊥) → Tells (before ++ (k ∷ ks)) (grammar (length before + 0))
grammar_here before ks k s e h none =
    subst (λ n. Tells (before ++ (k ∷ ks)) (grammar n)) (sym (zero_add (length before))) (
      record {
        within = let l = length-append before (k ∷ ks) in omega arith;
        begins = subst (λ x. Begins IsQuery x) (sym (take_front before (k ∷ ks))) (begins_at before s e);
        next = λ l b. stuck_begins (before ++ (k ∷ [])) (run_append before (k ∷ []) begun ∙ ap (λ x. run x (k ∷ [])) e ∙ h) (subst (λ x. Begins IsQuery x) (take_more before ks k) b);
        whole = λ l r g. (let m = length-append before (k ∷ ks) in omega arith);
      },
      none,
    )

-- later and later
pub later_more : (n : ℕ) (f : Found) → later n (later 1 f) ≡ later (n + 1) f
later_more n (fine q) = refl
later_more n (grammar i) = ap (λ m. grammar m) (omega arith)
later_more n (aliases i) = ap (λ m. aliases m) (omega arith)

look_tells : (ks before : List Symbol) (s : ParseState × SourceQuery) → run begun before ≡ Some s → ((j : ℕ) → j < length before → NinthAt (before ++ ks) j → ⊥) → Tells (before ++ ks) (later (length before) (look s.0 s.1 ks))
look_tells [] before s e none = at_end before s (finish s.0 s.1) e refl none
look_tells (k ∷ ks) before s e none = elim (cases_Bool (is_ninth s.0 s.1 k)) [
  | inl h ↦ rw h (aliases_here before ks k s e h none)
  | inr h ↦ rw h (on (step s.0 s.1 k) refl (none_more before ks k s e h none) (λ t g n. look_tells ks (before ++ (k ∷ [])) t g n))
]
  where
    on : (o : Option (ParseState × SourceQuery)) → step s.0 s.1 k ≡ o → ((j : ℕ) → j ≤ length before → NinthAt (before ++ (k ∷ ks)) j → ⊥)
        → ((t : ParseState × SourceQuery) → run begun (before ++ (k ∷ [])) ≡ Some t → ((j : ℕ) → j < length (before ++ (k ∷ [])) → NinthAt ((before ++ (k ∷ [])) ++ ks) j → ⊥) → Tells ((before ++ (k ∷ [])) ++ ks) (later (length (before ++ (k ∷ []))) (look t.0 t.1 ks)))
        → Tells (before ++ (k ∷ ks)) (later (length before) (on_step o (grammar 0) (λ p2 q2. later 1 (look p2 q2 ks))))
    on None g none_to more = grammar_here before ks k s e g none_to
    on (Some t) g none_to more =
        let all : (before ++ (k ∷ [])) ++ ks ≡ before ++ (k ∷ ks) = append_assoc before (k ∷ []) ks in
        let size : length (before ++ (k ∷ [])) ≡ length before + 1 = length-append before (k ∷ []) ∙ omega arith in
        let there : run begun (before ++ (k ∷ [])) ≡ Some t = run_append before (k ∷ []) begun ∙ ap (λ x. run x (k ∷ [])) e ∙ g in
        let found = more t there (λ j l n. none_to j (omega arith) (subst (λ x. NinthAt x j) all n)) in
        subst (λ x. Tells (before ++ (k ∷ ks)) x) (ap (λ n. later n (look t.0 t.1 ks)) size ∙ sym (later_more (length before) (look t.0 t.1 ks)))
        (subst (λ x. Tells x (later (length (before ++ (k ∷ []))) (look t.0 t.1 ks))) all found)

-- not later at all
pub later_none : (f : Found) → later 0 f ≡ f
later_none (fine q) = refl
later_none (grammar i) = ap (λ m. grammar m) (omega arith)
later_none (aliases i) = ap (λ m. aliases m) (omega arith)

-- what the parser tells of all symbols is right
pub look_exact : (ks : List Symbol) → Tells ks (look state.Start empty ks)
look_exact ks = subst (λ x. Tells ks x) (later_none (look state.Start empty ks)) (look_tells ks [] (state.Start, empty) refl (λ j l n. omega arith))

-- only one thing is told

one_grammar : (ks : List Symbol) (i j : ℕ) → UnexpectedAt IsQuery ks i → UnexpectedAt IsQuery ks j → ◌≡◌ {A = Found} (grammar i) (grammar j)
one_grammar ks i j u v = ap (λ n. grammar n) (one_unexpected IsQuery ks i j u v)

one_ninth : (ks : List Symbol) (i j : ℕ) → Tells ks (aliases i) → Tells ks (aliases j) → ◌≡◌ {A = Found} (aliases i) (aliases j)
one_ninth ks i j t u = elim (ordered i j) [
  | inl l ↦ absurd (u.1 i l t.0)
  | inr m ↦ elim m [
    | inl e ↦ ap (λ n. aliases n) e
    | inr l ↦ absurd (t.1 j l u.0)
  ]
]

grammar_aliases : (ks : List Symbol) (i j : ℕ) → Tells ks (grammar i) → Tells ks (aliases j) → ⊥
grammar_aliases ks i j t u = elim (ordered i j) [
  | inl l ↦ u.2 i l t.0
  | inr m ↦ elim m [
    | inl e ↦ t.1 j (omega arith) u.0
    | inr l ↦ t.1 j (omega arith) u.0
  ]
]

-- of all symbols one thing alone is told
pub only_one : (ks : List Symbol) (f g : Found) → Tells ks f → Tells ks g → f ≡ g
only_one ks (fine q) (fine r) t u = ap (λ x. fine x) (one_query ks q r t.0 u.0)
only_one ks (fine q) (grammar i) t u = absurd (sentence_expected IsQuery ks q i t.0 u.0)
only_one ks (fine q) (aliases i) t u = absurd (t.1 i u.0)
only_one ks (grammar i) (fine r) t u = absurd (sentence_expected IsQuery ks r i u.0 t.0)
only_one ks (grammar i) (grammar j) t u = one_grammar ks i j t.0 u.0
only_one ks (grammar i) (aliases j) t u = absurd (grammar_aliases ks i j t u)
only_one ks (aliases i) (fine r) t u = absurd (u.1 i t.0)
only_one ks (aliases i) (grammar j) t u = absurd (grammar_aliases ks j i u t)
only_one ks (aliases i) (aliases j) t u = one_ninth ks i j t u
