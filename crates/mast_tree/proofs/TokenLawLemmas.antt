-- A source has one token list or one first breach.
use Rattle.std.proofs.Common.{◌≡◌, ◌⊎◌, inl, inr, ℕ, zero, suc, ◌<◌, ◌≤◌, false, List, length, take, drop, refl, ap, sym, ◌∙◌, subst, arith}
use Rattle.std.specs.Prelude.{Result, Ok, Err}
use Rattle.std.specs.Str.{IsUtf8, IsValidUpTo, is_utf8}
use Rattle.mast_terms.specs.declared.memory.Stop.{Stop}
use Rattle.mast_terms.specs.declared.memory.Stop.TheVariants.{Named, NoMemory}
use Rattle.mast_terms.specs.Answers.{Answers}
use Rattle.std.proofs.lemmas.Str.{IsUtf8-nil, IsUtf8-from_is_utf8, is_utf8-from_IsUtf8, utf8_valid_len-IsValidUpTo}
use Rattle.std.proofs.lemmas.List.{length-drop}
use Rattle.std.proofs.lemmas.Bool.{cases_Bool}
use Rattle.mast_source.specs.Bom.{bom_length}
use Rattle.mast_source.proofs.ListLemmas.{take_all}
use Rattle.mast_tree.specs.declared.token.Token.{Token}
use Rattle.mast_tree.specs.declared.token.LexKind.TheVariants.{NotUtf8}
use Rattle.mast_tree.specs.declared.token.LexBreach.{LexBreach}
use Rattle.mast_tree.specs.Source.{Stops, AreTokens, IsLexBreach}
use Rattle.mast_tree.specs.inside.Lexed.{Lexed, read, wrong, reading}
use Rattle.mast_tree.specs.Laws.{HasOneReading}
use Rattle.mast_tree.proofs.SourceLemmas.{Told, lexed_told, lexes_read, stops_wrong}

within : (source : List ℕ) → length (drop (bom_length source) source) ≤ length source
within source = let l = length-drop (bom_length source) source in omega arith

-- what a source reads as is right
pub reading_told : (source : List ℕ) → Told (bom_length source) 1 (drop (bom_length source) source) (reading source)
reading_told source = lexed_told (length source) (bom_length source) 1 (drop (bom_length source) source) (within source)

-- the longest front that is UTF-8
longest_front : (bs : List ℕ) (m : ℕ) → ((k : ℕ) → m < k → IsUtf8 (take k bs) → ⊥) → (n : ℕ) × (n ≤ m) × IsUtf8 (take n bs) × ((k : ℕ) → n < k → IsUtf8 (take k bs) → ⊥)
longest_front bs zero h = (0, omega arith, IsUtf8-nil, h)
longest_front bs (suc m) h = elim (cases_Bool (is_utf8 (take (suc m) bs))) [
  | inl e ↦ (suc m, omega arith, IsUtf8-from_is_utf8 (take (suc m) bs) e, h)
  | inr e ↦ let t = longest_front bs m (λ k l u. above k l u e) in let w = t.1 in (t.0, omega arith, t.2, t.3)
]
  where
    not_here : IsUtf8 (take (suc m) bs) → is_utf8 (take (suc m) bs) ≡ false → ⊥
    not_here u e = let f = is_utf8-from_IsUtf8 (take (suc m) bs) u in cc

    either : (k : ℕ) → m < k → (k ≡ suc m) ⊎ (suc m < k)
    either zero l = absurd (omega arith)
    either (suc k) l = near m k (omega arith)
      where
        near : (a b : ℕ) → a ≤ b → (suc b ≡ suc a) ⊎ (suc a < suc b)
        near zero zero l = inl refl
        near zero (suc b) l = inr (omega arith)
        near (suc a) zero l = absurd (omega arith)
        near (suc a) (suc b) l = elim (near a b (omega arith)) [
          | inl e ↦ inl (ap suc e)
          | inr e ↦ inr (omega arith)
        ]

    above : (k : ℕ) → m < k → IsUtf8 (take k bs) → is_utf8 (take (suc m) bs) ≡ false → ⊥
    above k l u e = elim (either k l) [
      | inl s ↦ not_here (subst (λ x. IsUtf8 (take x bs)) s u) e
      | inr s ↦ h k s u
    ]

valid_up_to : (bs : List ℕ) → (IsUtf8 bs → ⊥) → (n : ℕ) × IsValidUpTo bs n
valid_up_to bs no_text =
    let t = longest_front bs (length bs) (λ k l u. no_text (subst IsUtf8 (take_all bs k (omega arith)) u)) in
    (t.0, record { short = shorter t.0 t.1 t.2; front = t.2; longest = t.3 })
  where
    shorter : (n : ℕ) → n ≤ length bs → IsUtf8 (take n bs) → n < length bs
    shorter n l u = go n (length bs) l (λ e. no_text (subst IsUtf8 (take_all bs n (omega arith)) u))
      where
        go : (n m : ℕ) → n ≤ m → (n ≡ m → ⊥) → n < m
        go zero zero l h = absurd (h refl)
        go zero (suc m) l h = omega arith
        go (suc n) zero l h = absurd (omega arith)
        go (suc n) (suc m) l h = let r = go n m (omega arith) (λ e. h (ap suc e)) in omega arith

either_reading : (source : List ℕ) → IsUtf8 source → (l : Lexed) → Told (bom_length source) 1 (drop (bom_length source) source) l → ((tokens : List Token) × AreTokens source tokens) ⊎ ((breach : LexBreach) × IsLexBreach source breach)
either_reading source u (read ts) t = inl (ts, (u, t))
either_reading source u (wrong b) t = inr (b, inr (u, t.0, t.1))

pub tokens_read : (source : List ℕ) (tokens : List Token) → AreTokens source tokens → reading source ≡ read tokens
tokens_read source tokens t = lexes_read (length source) (bom_length source) 1 (drop (bom_length source) source) tokens (within source) t.1

same_list : (a b : List Token) → ◌≡◌ {A = Lexed} (read a) (read b) → a ≡ b
same_list a b h = cc

same_wrong : (a b : LexBreach) → ◌≡◌ {A = Lexed} (wrong a) (wrong b) → a ≡ b
same_wrong a b h = cc

not_same : (a : List Token) (b : LexBreach) → ◌≡◌ {A = Lexed} (read a) (wrong b) → ⊥
not_same a b h = cc

breach_of : (a b : LexBreach) → a.kind ≡ b.kind → a.at ≡ b.at → a ≡ b
breach_of a b k n = λ i. record { at = n i; kind = k i }

pub stopped : (source : List ℕ) (before : List Token) (b : LexBreach) → Stops (bom_length source) (drop (bom_length source) source) before b → reading source ≡ wrong b
stopped source before b t = stops_wrong (length source) (bom_length source) 1 (drop (bom_length source) source) before b (within source) t

-- a source has one token list or one first breach
pub has_one_reading : (source : List ℕ) → HasOneReading source
has_one_reading source = record {
  either = elim (cases_Bool (is_utf8 source)) [
    | inl e ↦ either_reading source (IsUtf8-from_is_utf8 source e) (reading source) (reading_told source)
    | inr e ↦ let v = valid_up_to source (λ u. (let f = is_utf8-from_IsUtf8 source u in cc)) in inr (record { at = v.0; kind = NotUtf8 }, inl ((λ u. (let f = is_utf8-from_IsUtf8 source u in cc)), refl, v.1))
  ];
  not_both = λ tokens breach t u. both tokens breach t u;
  one_list = λ a b t u. same_list a b (sym (tokens_read source a t) ∙ tokens_read source b u);
  one_breach = λ a b t u. one a b t u;
}
  where
    both : (tokens : List Token) (breach : LexBreach) → AreTokens source tokens → IsLexBreach source breach → ⊥
    both tokens breach t (inl u) = u.0 t.0
    both tokens breach t (inr u) = not_same tokens breach (sym (tokens_read source tokens t) ∙ stopped source u.1 breach u.2)

    one : (a b : LexBreach) → IsLexBreach source a → IsLexBreach source b → a ≡ b
    one a b (inl t) (inl u) = breach_of a b (t.1 ∙ sym u.1) (sym (utf8_valid_len-IsValidUpTo source a.at t.2) ∙ utf8_valid_len-IsValidUpTo source b.at u.2)
    one a b (inl t) (inr u) = absurd (t.0 u.0)
    one a b (inr t) (inl u) = absurd (u.0 t.0)
    one a b (inr t) (inr u) = same_wrong a b (sym (stopped source t.1 a t.2) ∙ stopped source u.1 b u.2)

-- what is read of a text is its tokens or its breach
pub answered : (source : List ℕ) (r : Result (List Token) (Stop LexBreach)) → IsUtf8 source → Answers r (λ tokens. reading source ≡ read tokens) (λ breach. reading source ≡ wrong breach) → Answers r (AreTokens source) (IsLexBreach source)
answered source (Ok tokens) u h = (u, subst (λ l. Told (bom_length source) 1 (drop (bom_length source) source) l) h (reading_told source))
answered source (Err (Named b)) u h = let t = subst (λ l. Told (bom_length source) 1 (drop (bom_length source) source) l) h (reading_told source) in inr (u, t.0, t.1)
answered source (Err NoMemory) u h = tt
