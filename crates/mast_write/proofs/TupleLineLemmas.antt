-- The line of a tuple whose object symbols are identifiers tells the tuple.
use Rattle.std.proofs.Common.{◌≡◌, ◌+◌, ◌/◌, ◌%◌, ◌==◌, ℕ, zero, suc, pos, negsuc, Bool, true, false, List, [], ◌∷◌, ◌++◌, map, length, refl, sym, ap, ◌∙◌, subst, arith}
use Rattle.std.proofs.lemmas.Bool.{and_parts}
use Rattle.std.proofs.lemmas.Bool.Decides.{nat_tests}
use Rattle.std.specs.Char.{is_ascii_digit}
use Rattle.std.specs.Int.Digits.{digits_of}
use Rattle.std.specs.List.{AllByRecursion, flat_map}
use Rattle.std.specs.Prelude.{⊤, ◌&&◌, not, if◌then◌else◌}
use Rattle.mast_terms.specs.declared.date.Date.{Date}
use Rattle.mast_terms.specs.declared.term.Term.{Term}
use Rattle.mast_terms.specs.declared.term.Term.TheVariants as t
use Rattle.mast_terms.specs.declared.value.Value.{Value}
use Rattle.mast_terms.specs.declared.value.Value.TheVariants as v
use Rattle.mast_terms.specs.Printed.{after_commas, args_text, date_text, escaped, number_text, quoted, term_text, value_text}
use Rattle.mast_terms.proofs.TermTextLemmas.{term_text_injective}
use Rattle.mast_tree.specs.Constants.{are_word, is_identifier, is_word_byte}
use Rattle.mast_write.specs.AnswerLines.{after_tabs, tuple_line}
use Rattle.mast_write.specs.Laws.{HasIdentifier}

-- bytes without a tab
abbrev HasNoTab : List ℕ → Type 0
HasNoTab bytes = AllByRecursion (λ b. b ≡ 9 → ⊥) bytes

both : (xs ys : List ℕ) → HasNoTab xs → HasNoTab ys → HasNoTab (xs ++ ys)
both [] ys h k = k
both (x ∷ xs) ys h k = (h.0, both xs ys h.1 k)

-- what is printed of a number

digit : (n : ℕ) → 48 + n ≡ 9 → ⊥
digit n e = omega arith

hyphen : ◌≡◌ {A = ℕ} 45 9 → ⊥
hyphen e = omega arith

digits_free : (ds : List ℕ) → HasNoTab (map (λ d. 48 + d) ds)
digits_free [] = tt
digits_free (d ∷ ds) = (digit d, digits_free ds)

number_free : (n : ℕ) → HasNoTab (number_text n)
unfolding number_text
number_free zero = (digit 0, tt)
number_free (suc n) = digits_free (digits_of 10 (suc n))

date_free : (d : Date) → HasNoTab (date_text d)
date_free d =
    (digit (d.year / 100 / 10), (digit (d.year / 100 % 10), (digit (d.year % 100 / 10), (digit (d.year % 100 % 10), (hyphen, (digit (d.month / 10), (digit (d.month % 10), (hyphen, (digit (d.day / 10), (digit (d.day % 10), tt))))))))))

-- a text in quotes

abbrev is_free : ℕ → Bool
is_free b = if b == 9 then false else true

abbrev are_free : List ℕ → Bool
are_free [] = true
are_free (b ∷ bytes) = is_free b && are_free bytes

no_tab : (b : ℕ) → is_free b ≡ true → b ≡ 9 → ⊥
no_tab b h e = let k : ◌≡◌ {A = Bool} false true = subst (λ (n : ℕ). is_free n ≡ true) e h in cc

none_is_tab : (bytes : List ℕ) → are_free bytes ≡ true → HasNoTab bytes
none_is_tab [] h = tt
none_is_tab (b ∷ bytes) h = let p = and_parts (is_free b) (are_free bytes) h in (no_tab b p.0, none_is_tab bytes p.1)

escaped_free : (b : ℕ) → are_free (escaped b) ≡ true
escaped_free b = grind (arith, nat_tests)

all_escaped_free : (bytes : List ℕ) → HasNoTab (flat_map escaped bytes)
all_escaped_free [] = tt
all_escaped_free (b ∷ bytes) = both (escaped b) (flat_map escaped bytes) (none_is_tab (escaped b) (escaped_free b)) (all_escaped_free bytes)

quote : ◌≡◌ {A = ℕ} 34 9 → ⊥
quote e = omega arith

quoted_free : (bytes : List ℕ) → HasNoTab (quoted bytes)
quoted_free bytes = (quote, both (flat_map escaped bytes) (34 ∷ []) (all_escaped_free bytes) (quote, tt))

-- values and terms

value_free : (a : Value) → HasNoTab (value_text a)
value_free (v.Int (pos n)) = number_free n
value_free (v.Int (negsuc n)) = (hyphen, number_free (suc n))
value_free (v.Text bytes) = quoted_free bytes
value_free (v.Date d) = date_free d

comma : ◌≡◌ {A = ℕ} 44 9 → ⊥
comma e = omega arith

commas_free : (vs : List Value) → HasNoTab (after_commas vs)
commas_free [] = tt
commas_free (a ∷ vs) = (comma, both (value_text a) (after_commas vs) (value_free a) (commas_free vs))

args_free : (vs : List Value) → HasNoTab (args_text vs)
args_free [] = tt
args_free (a ∷ vs) = both (value_text a) (after_commas vs) (value_free a) (commas_free vs)

word_byte : (b : ℕ) → is_word_byte b ≡ true → b ≡ 9 → ⊥
word_byte b h e = let k : ◌≡◌ {A = Bool} false true = subst (λ (n : ℕ). is_word_byte n ≡ true) e h in cc

word_free : (bytes : List ℕ) → are_word bytes ≡ true → HasNoTab bytes
word_free [] h = tt
word_free (b ∷ bytes) h = let p = and_parts (is_word_byte b) (are_word bytes) h in (word_byte b p.0, word_free bytes p.1)

identifier_free : (bytes : List ℕ) → is_identifier bytes ≡ true → HasNoTab bytes
identifier_free [] h = tt
identifier_free (b ∷ bytes) h = word_free (b ∷ bytes) (and_parts (not (is_ascii_digit b)) (are_word (b ∷ bytes)) h).1

opening : ◌≡◌ {A = ℕ} 40 9 → ⊥
opening e = omega arith

closing : ◌≡◌ {A = ℕ} 41 9 → ⊥
closing e = omega arith

-- a printed term has no tab
term_free : (a : Term) → HasIdentifier a → HasNoTab (term_text a)
term_free (t.Value a) h = value_free a
term_free (t.Object o) h =
    both o.symbol (40 ∷ (args_text o.args ++ 41 ∷ [])) (identifier_free o.symbol h) (opening, both (args_text o.args) (41 ∷ []) (args_free o.args) (closing, tt))

-- lines

-- nothing, or a tab first
abbrev Ends : List ℕ → Type 0
Ends [] = ⊤
Ends (b ∷ bytes) = b ≡ 9

-- bytes up to a tab or the end are known by the whole
cut : (xs ys r s : List ℕ) → HasNoTab xs → HasNoTab ys → Ends r → Ends s → xs ++ r ≡ ys ++ s → (xs ≡ ys) × (r ≡ s)
cut [] [] r s h k er es e = (refl, e)
cut [] (y ∷ ys) [] s h k er es e = absurd (cc)
cut [] (y ∷ ys) (b ∷ r) s h k er es e = let f : b ≡ y = cc in absurd (k.0 (sym f ∙ er))
cut (x ∷ xs) [] r [] h k er es e = absurd (cc)
cut (x ∷ xs) [] r (b ∷ s) h k er es e = let f : x ≡ b = cc in absurd (h.0 (f ∙ es))
cut (x ∷ xs) (y ∷ ys) r s h k er es e =
    let f : x ≡ y = cc in
    let g : xs ++ r ≡ ys ++ s = cc in
    let rest = cut xs ys r s h.1 k.1 er es g in
    let p : xs ≡ ys = rest.0 in
    let q : x ∷ xs ≡ y ∷ ys = cc in (q, rest.1)

ends : (terms : List Term) → Ends (after_tabs (map term_text terms))
ends [] = tt
ends (a ∷ terms) = refl

first_and_rest : (a b : Term) (more others : List Term) → a ≡ b → more ≡ others → a ∷ more ≡ b ∷ others
first_and_rest a b more others e f = ap (λ (x : Term). x ∷ more) e ∙ ap (λ (xs : List Term). b ∷ xs) f

parts : (a b : Term) (more others : List Term) → HasIdentifier a → HasIdentifier b
    → term_text a ++ after_tabs (map term_text more) ≡ term_text b ++ after_tabs (map term_text others) → (a ≡ b) × (after_tabs (map term_text more) ≡ after_tabs (map term_text others))
parts a b more others h k e =
    let both_parts = cut (term_text a) (term_text b) (after_tabs (map term_text more)) (after_tabs (map term_text others)) (term_free a h) (term_free b k) (ends more) (ends others) e in
    (term_text_injective a b both_parts.0, both_parts.1)

later : (more others : List Term) → AllByRecursion HasIdentifier more → AllByRecursion HasIdentifier others
    → after_tabs (map term_text more) ≡ after_tabs (map term_text others) → more ≡ others
later [] [] h k e = refl
later [] (b ∷ others) h k e = absurd (cc)
later (a ∷ more) [] h k e = absurd (cc)
later (a ∷ more) (b ∷ others) h k e =
    let f : term_text a ++ after_tabs (map term_text more) ≡ term_text b ++ after_tabs (map term_text others) = cc in
    let p = parts a b more others h.0 k.0 f in
    first_and_rest a b more others p.0 (later more others h.1 k.1 p.1)

-- two tuples of one width have two lines
pub tuples : (tuple other : List Term) → length tuple ≡ length other → AllByRecursion HasIdentifier tuple → AllByRecursion HasIdentifier other
    → tuple_line tuple ≡ tuple_line other → tuple ≡ other
tuples [] [] wide h k e = refl
tuples [] (b ∷ others) wide h k e = absurd (omega arith)
tuples (a ∷ more) [] wide h k e = absurd (omega arith)
tuples (a ∷ more) (b ∷ others) wide h k e = let p = parts a b more others h.0 k.0 e in first_and_rest a b more others p.0 (later more others h.1 k.1 p.1)
