-- What `look` tells is the first breach.
use Rattle.std.proofs.Common.{◌≡◌, inl, inr, ℕ, zero, suc, ◌+◌, ◌-◌, ◌<◌, ◌≤◌, true, false, List, ◌∷◌, [], length, take, refl, ap, sym, ◌∙◌, subst, arith}
use Rattle.std.specs.Prelude.{Some, slice_get}
use Rattle.std.proofs.lemmas.Bool.{cases_Bool}
use Rattle.std.proofs.lemmas.Bool.Decides.{nat_tests}
use Rattle.mast_source.proofs.GrammarLemmas.{ordered, sentence_expected, one_unexpected}
use Rattle.mast_tree.specs.declared.item.TheConstants.{MOST_OPEN}
use Rattle.mast_tree.specs.Grammar.{Found, fine, unexpected, deep}
use Rattle.mast_tree.specs.declared.token.TokenKind.{TokenKind}
use Rattle.mast_tree.specs.declared.token.TokenKind.TheVariants.{Open, Close, Equals, Carets, Lang, Iri, Name, Str}
use Rattle.mast_tree.specs.declared.parser.ParseState.{ParseState}
use Rattle.mast_tree.specs.declared.parser.ParseState.TheVariants.{Item, AfterName, AfterStr, AfterCarets, AfterEquals}
use Rattle.mast_tree.specs.Grammar.{Spells, open_after, Tells}
use Rattle.mast_tree.specs.inside.Parser.{Configuration, stuck, at, item_step, step, run, ends, is_deep, one_on, later, if_goes, look, of_state, move_of, on_move}
use Rattle.mast_tree.proofs.GrammarLemmas.{Goes, begins_goes, goes_begins, document_ends, ends_document}

-- the breaches of the tokens that are left, at a state

pub record UnexpectedFrom (s : Configuration) (ks : List TokenKind) (i : ℕ) : Type 0 where
  pub within : i ≤ length ks
  pub begins : Goes (run s (take i ks))
  pub next : i < length ks → Goes (run s (take (suc i) ks)) → ⊥
  pub whole : i ≡ length ks → ends (run s ks) ≡ true → ⊥

abbrev pub DeepFrom : ℕ → List TokenKind → ℕ → Type 0
DeepFrom d ks i = (slice_get ks i ≡ Some Open) × (open_after d (take i ks) ≡ MOST_OPEN)

abbrev pub TellsFrom : ParseState → ℕ → List TokenKind → Found → Type 0
TellsFrom p d ks fine = (ends (run (at p d) ks) ≡ true) × ((i : ℕ) → DeepFrom d ks i → ⊥)
TellsFrom p d ks (unexpected i) = UnexpectedFrom (at p d) ks i × ((j : ℕ) → j ≤ i → DeepFrom d ks j → ⊥)
TellsFrom p d ks (deep i) = DeepFrom d ks i × ((j : ℕ) → j < i → DeepFrom d ks j → ⊥) × Goes (run (at p d) (take i ks))

-- the parentheses that are open are those that the parser counts
abbrev pub SameLevel : ℕ → TokenKind → Configuration → Type 0
SameLevel d k stuck = Unit {0}
SameLevel d k (at q e) = (xs : List TokenKind) → open_after d (k ∷ xs) ≡ open_after e xs

item_level : (d : ℕ) (k : TokenKind) → SameLevel d k (item_step d k)
item_level d Name = λ xs. refl
item_level d Iri = λ xs. refl
item_level d Str = λ xs. refl
item_level zero Close = tt
item_level (suc d) Close = λ xs. refl
item_level d Open = tt
item_level d Equals = tt
item_level d Carets = tt
item_level d Lang = tt

step_level : (p : ParseState) (d : ℕ) (k : TokenKind) → SameLevel d k (step p d k)
step_level Item d k = item_level d k
step_level AfterName d Equals = λ xs. refl
step_level AfterName d Open = λ xs. refl
step_level AfterName d k = item_level d k
step_level AfterStr d Carets = λ xs. refl
step_level AfterStr d Lang = λ xs. refl
step_level AfterStr d k = item_level d k
step_level AfterCarets d Name = λ xs. refl
step_level AfterCarets d Iri = λ xs. refl
step_level AfterCarets d k = tt
step_level AfterEquals d Iri = λ xs. refl
step_level AfterEquals d k = tt

deep_here : (d : ℕ) (k : TokenKind) (ks : List TokenKind) → is_deep d k ≡ true → DeepFrom d (k ∷ ks) 0
deep_here d Open ks h = (refl, grind (arith, nat_tests))
deep_here d _ ks h = absurd (cc)

not_here : (d : ℕ) (k : TokenKind) (ks : List TokenKind) → is_deep d k ≡ false → DeepFrom d (k ∷ ks) 0 → ⊥
not_here d Open ks h t = let e = t.1 in grind (arith, nat_tests)
not_here d _ ks h t = let e = t.0 in cc

-- one token further
deep_next : (d e j : ℕ) (k : TokenKind) (ks : List TokenKind) → ((xs : List TokenKind) → open_after d (k ∷ xs) ≡ open_after e xs) → DeepFrom d (k ∷ ks) (suc j) → DeepFrom e ks j
deep_next d e j k ks same t = (t.0, sym (same (take j ks)) ∙ t.1)

deep_back : (d e j : ℕ) (k : TokenKind) (ks : List TokenKind) → ((xs : List TokenKind) → open_after d (k ∷ xs) ≡ open_after e xs) → DeepFrom e ks j → DeepFrom d (k ∷ ks) (suc j)
deep_back d e j k ks same t = (t.0, same (take j ks) ∙ t.1)

none_deep : (d e : ℕ) (k : TokenKind) (ks : List TokenKind) → ((xs : List TokenKind) → open_after d (k ∷ xs) ≡ open_after e xs) → is_deep d k ≡ false → (j : ℕ) → ((i : ℕ) → i < j → DeepFrom e ks i → ⊥) → (i : ℕ) → i < suc j → DeepFrom d (k ∷ ks) i → ⊥
none_deep d e k ks same not j h zero lt t = not_here d k ks not t
none_deep d e k ks same not j h (suc i) lt t = h i (omega arith) (deep_next d e i k ks same t)

step_tells : (p q : ParseState) (d e : ℕ) (k : TokenKind) (ks : List TokenKind) (f : Found) → step p d k ≡ at q e → ((xs : List TokenKind) → open_after d (k ∷ xs) ≡ open_after e xs) → is_deep d k ≡ false → TellsFrom q e ks f → TellsFrom p d (k ∷ ks) (one_on f)
step_tells p q d e k ks fine s same not t = (rw s t.0, λ i h. none_deep d e k ks same not i (λ j l g. t.1 j g) i (omega arith) h)
step_tells p q d e k ks (unexpected i) s same not t =
    let u = t.0 in
    let a = u.within in (
      record { within = omega arith; begins = subst (λ x. Goes (run x (take i ks))) (sym s) u.begins; next = λ l g. u.next (omega arith) (subst (λ x. Goes (run x (take (suc i) ks))) s g); whole = λ l g. u.whole (omega arith) (rw s at g) },
      λ j l h. none_deep d e k ks same not (suc i) (λ j l g. t.1 j (omega arith) g) j (omega arith) h,
    )
step_tells p q d e k ks (deep i) s same not t = (deep_back d e i k ks same t.0, (λ j l h. none_deep d e k ks same not i t.1 j l h), subst (λ x. Goes (run x (take i ks))) (sym s) t.2)

stuck_ends : (ks : List TokenKind) → ends (run stuck ks) ≡ true → ⊥
stuck_ends [] h = cc
stuck_ends (k ∷ ks) h = cc

first_not : (d : ℕ) (k : TokenKind) (ks : List TokenKind) → is_deep d k ≡ false → (j : ℕ) → j ≤ 0 → DeepFrom d (k ∷ ks) j → ⊥
first_not d k ks not zero l u = not_here d k ks not u
first_not d k ks not (suc j) l u = absurd (omega arith)

goes_tells : (p : ParseState) (d : ℕ) (k : TokenKind) (ks : List TokenKind) (s : Configuration) → step p d k ≡ s → SameLevel d k s → is_deep d k ≡ false → ((q : ParseState) (e : ℕ) → TellsFrom q e ks (look q e ks)) → TellsFrom p d (k ∷ ks) (if_goes s (unexpected 0) (λ q e. one_on (look q e ks)))
goes_tells p d k ks stuck h same not t = (
  record { within = omega arith; begins = tt; next = λ l g. rw h at g; whole = λ l g. stuck_ends ks (rw h at g) },
  λ j l u. first_not d k ks not j l u,
)
goes_tells p d k ks (at q e) h same not t = step_tells p q d e k ks (look q e ks) h same not (t q e)

none_there : (i d : ℕ) → DeepFrom d [] i → ⊥
none_there zero d h = let e = h.0 in cc
none_there (suc i) d h = let e = h.0 in cc

empty_tells : (p : ParseState) (d : ℕ) → TellsFrom p d [] (look p d [])
empty_tells p d = elim (cases_Bool (ends (at p d))) [
  | inl h ↦ rw h (h, λ i t. none_there i d t)
  | inr h ↦ rw h (record { within = omega arith; begins = tt; next = λ l g. absurd (omega arith); whole = λ l g. cc }, λ j l t. none_there j d t)
]

pub look_tells : (ks : List TokenKind) (p : ParseState) (d : ℕ) → TellsFrom p d ks (look p d ks)
look_tells [] p d = empty_tells p d
look_tells (k ∷ ks) p d = elim (cases_Bool (is_deep d k)) [
  | inl h ↦ rw h (deep_here d k ks h, (λ j lt t. absurd (omega arith)), tt)
  | inr h ↦ rw h (goes_tells p d k ks (step p d k) refl (step_level p d k) h (λ q e. look_tells ks q e))
]

goes_start : (s : Configuration) (ks : List TokenKind) → Goes (run s ks) → Goes s
goes_start s [] h = h
goes_start stuck (k ∷ ks) h = h
goes_start (at p d) (k ∷ ks) h = tt

-- a front of what goes goes
goes_front : (s : Configuration) (ks : List TokenKind) (i j : ℕ) → j ≤ i → Goes (run s (take i ks)) → Goes (run s (take j ks))
goes_front s ks i zero l h = goes_start s (take i ks) h
goes_front s ks zero (suc j) l h = absurd (omega arith)
goes_front s [] (suc i) (suc j) l h = h
goes_front stuck (k ∷ ks) (suc i) (suc j) l h = h
goes_front (at p d) (k ∷ ks) (suc i) (suc j) l h = goes_front (step p d k) ks i j (omega arith) h

inside : (ks : List TokenKind) (i : ℕ) (k : TokenKind) → slice_get ks i ≡ Some k → i < length ks
inside [] zero k h = absurd (cc)
inside [] (suc i) k h = absurd (cc)
inside (x ∷ ks) zero k h = omega arith
inside (x ∷ ks) (suc i) k h = let r = inside ks i k h in omega arith

tells_all : (ks : List TokenKind) (f : Found) → TellsFrom Item zero ks f → Tells ks f
tells_all ks fine t = (ends_document ks t.0, t.1)
tells_all ks (unexpected i) t =
    let u = t.0 in
    (record { within = u.within; begins = goes_begins (take i ks) u.begins; next = λ l b. u.next l (begins_goes (take (suc i) ks) b); whole = λ l items d. u.whole l (document_ends ks (items, d)) }, t.1)
tells_all ks (deep i) t =
    let in_it = inside ks i Open t.0.0 in
    (t.0, t.1, λ j l u. u.next (omega arith) (goes_begins (take (suc j) ks) (goes_front (at Item zero) ks i (suc j) (omega arith) t.2)))

-- what the parser tells of kinds is right
pub look_exact : (ks : List TokenKind) → Tells ks (look Item zero ks)
look_exact ks = tells_all ks (look Item zero ks) (look_tells ks Item zero)

-- the loop's step
pub look_move : (p : ParseState) (d n : ℕ) (k : TokenKind) (ks : List TokenKind) → later n (look p d (k ∷ ks)) ≡ on_move (move_of p d k) n ks
look_move p d n k ks = elim (cases_Bool (is_deep d k)) [
  | inl h ↦ rw h (ap deep (omega arith))
  | inr h ↦ rw h (go (step p d k))
]
  where
    shift : (f : Found) → later n (one_on f) ≡ later (n + 1) f
    shift fine = refl
    shift (unexpected i) = ap unexpected (omega arith)
    shift (deep i) = ap deep (omega arith)

    go : (s : Configuration) → later n (if_goes s (unexpected 0) (λ q e. one_on (look q e ks))) ≡ on_move (of_state s) n ks
    go stuck = ap unexpected (omega arith)
    go (at q e) = shift (look q e ks)

-- with no kinds before a breach stays where it is
pub later_none : (f : Found) → later 0 f ≡ f
later_none fine = refl
later_none (unexpected i) = ap unexpected (omega arith)
later_none (deep i) = ap deep (omega arith)

-- a parenthesis that closes leaves one less open
pub close_step : (d : ℕ) → 0 < d → item_step d Close ≡ at Item (d - 1)
close_step zero h = absurd (omega arith)
close_step (suc d) h = ap (λ x. at Item x) (omega arith)

-- one that opens leaves one more
pub open_step : (d : ℕ) → step AfterName d Open ≡ at Item (d + 1)
open_step d = ap (λ x. at Item x) (omega arith)

-- one answer alone is told

same : (i j : ℕ) → (i < j → ⊥) → (j < i → ⊥) → i ≡ j
same i j a b = elim (ordered i j) [
  | inl l ↦ absurd (a l)
  | inr m ↦ elim m [
    | inl e ↦ e
    | inr l ↦ absurd (b l)
  ]
]

mixed : (ks : List TokenKind) (i j : ℕ) → Tells ks (unexpected i) → Tells ks (deep j) → ⊥
mixed ks i j a b = elim (ordered i j) [
  | inl l ↦ b.2 i l a.0
  | inr m ↦ elim m [
    | inl e ↦ a.1 j (omega arith) b.0
    | inr l ↦ a.1 j (omega arith) b.0
  ]
]

-- only one answer is right
pub only_one : (ks : List TokenKind) (f g : Found) → Tells ks f → Tells ks g → f ≡ g
only_one ks fine fine a b = refl
only_one ks fine (unexpected j) a b = absurd (sentence_expected Spells ks a.0.0 j a.0.1 b.0)
only_one ks fine (deep j) a b = absurd (a.1 j b.0)
only_one ks (unexpected i) fine a b = absurd (sentence_expected Spells ks b.0.0 i b.0.1 a.0)
only_one ks (deep i) fine a b = absurd (b.1 i a.0)
only_one ks (unexpected i) (unexpected j) a b = ap unexpected (one_unexpected Spells ks i j a.0 b.0)
only_one ks (unexpected i) (deep j) a b = absurd (mixed ks i j a b)
only_one ks (deep i) (unexpected j) a b = absurd (mixed ks j i b a)
only_one ks (deep i) (deep j) a b = ap deep (same i j (λ l. b.1 i l a.0) (λ l. a.1 j l b.0))
