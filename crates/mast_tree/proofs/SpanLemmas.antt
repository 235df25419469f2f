-- Where the tokens of a source stand.
use Rattle.std.proofs.Common.{◌≡◌, ℕ, zero, suc, ◌+◌, ◌-◌, ◌≤◌, true, List, ◌∷◌, [], ◌++◌, length, take, drop, refl, ap, sym, ◌∙◌, subst, arith, append_assoc, inl, inr}
use Rattle.std.specs.Prelude.{Some, slice_get}
use Rattle.std.proofs.lemmas.List.{length-append, take-append-drop}
use Rattle.std.proofs.Math.Seq.{take-append_seam, drop-append_seam}
use Rattle.mast_source.specs.Bom.{bom_length}
use Rattle.mast_source.proofs.BomLemmas.{bom_within, bom_taken}
use Rattle.mast_tree.specs.declared.token.Token.{Token}
use Rattle.mast_tree.specs.Tokens.{is_token, feeds}
use Rattle.mast_tree.specs.Source.{Lexes, AreTokens}
use Rattle.mast_tree.specs.Words.{span}
use Rattle.mast_tree.specs.Laws.{IsPlaced, ArePlaced}
use Rattle.mast_tree.proofs.SourceLemmas.{word_some}

feeds_append : (a b : List ℕ) → feeds (a ++ b) ≡ feeds a + feeds b
feeds_append [] b = omega arith
feeds_append (x ∷ a) b = let r = feeds_append a b in omega arith

-- the source is what was read and what follows, and the line is 1 and the line feeds that were read
pub record Reached (source : List ℕ) (at line : ℕ) (bytes : List ℕ) : Type 0 where
  pub before : List ℕ
  pub whole : source ≡ before ++ bytes
  pub offset : at ≡ length before
  pub lines : line ≡ 1 + feeds before

reach : (source : List ℕ) (at line : ℕ) (w rest : List ℕ) → Reached source at line (w ++ rest) → Reached source (at + length w) (line + feeds w) rest
reach source at line w rest r =
    let l = length-append r.before w in
    let f = feeds_append r.before w in
    let o = r.offset in
    let n = r.lines in
    record { before = r.before ++ w; whole = r.whole ∙ sym (append_assoc r.before w rest); offset = omega arith; lines = omega arith }

placed_at : (source : List ℕ) (v : Token) (word rest : List ℕ) → is_token v.kind word ≡ true → Reached source v.from v.line (word ++ rest) → v.to ≡ v.from + length word → IsPlaced source v
placed_at source v word rest form r to =
    let some = word_some v.kind word form in
    let all : length source ≡ length r.before + length (word ++ rest) = ap length r.whole ∙ length-append r.before (word ++ rest) in
    let more = length-append word rest in
    let o = r.offset in
    let size : v.to - v.from ≡ length word = omega arith in
    let from : drop v.from source ≡ word ++ rest = ap (λ n. drop n source) o ∙ ap (λ x. drop (length r.before) x) r.whole ∙ drop-append_seam r.before (word ++ rest) in
    let is : span source v ≡ word = ap (λ x. take (v.to - v.from) x) from ∙ ap (λ n. take n (word ++ rest)) size ∙ take-append_seam word rest in
    let front : r.before ≡ take v.from source = sym (ap (λ n. take n source) o ∙ ap (λ x. take (length r.before) x) r.whole ∙ take-append_seam r.before (word ++ rest)) in
    record {
      order = omega arith;
      within = omega arith;
      form = subst (λ x. is_token v.kind x ≡ true) (sym is) form;
      line = r.lines ∙ ap (λ x. 1 + feeds x) front;
    }

here : (source : List ℕ) (v : Token) (at line : ℕ) (gap rest : List ℕ) → Reached source at line (gap ++ rest) → v.from ≡ at + length gap → v.line ≡ line + feeds gap → Reached source v.from v.line rest
here source v at line gap rest r f l =
    let t = reach source at line gap rest r in
    record { before = t.before; whole = t.whole; offset = f ∙ t.offset; lines = l ∙ t.lines }

behind : (source : List ℕ) (v : Token) (word rest : List ℕ) → Reached source v.from v.line (word ++ rest) → v.to ≡ v.from + length word → Reached source v.to (v.line + feeds word) rest
behind source v word rest r o =
    let t = reach source v.from v.line word rest r in
    record { before = t.before; whole = t.whole; offset = o ∙ t.offset; lines = t.lines }

each_placed : (source : List ℕ) (ts : List Token) (at line : ℕ) (bs : List ℕ) (i : ℕ) (t : Token) → Reached source at line bs → Lexes at line bs ts → slice_get ts i ≡ Some t → IsPlaced source t
each_placed source [] at line bs zero t r l s = absurd (cc)
each_placed source [] at line bs (suc i) t r l s = absurd (cc)
each_placed source (v ∷ ts) at line bs zero t r l s =
    let h = here source v at line l.0 (l.1 ++ l.2) (subst (λ x. Reached source at line x) l.3 r) l.6 l.8 in
    let same : v ≡ t = cc in
    subst (λ x. IsPlaced source x) same (placed_at source v l.1 l.2 l.5.form h l.7)
each_placed source (v ∷ ts) at line bs (suc i) t r l s =
    let h = here source v at line l.0 (l.1 ++ l.2) (subst (λ x. Reached source at line x) l.3 r) l.6 l.8 in
    each_placed source ts v.to (v.line + feeds l.1) l.2 i t (behind source v l.1 l.2 h l.7) l.9 s

in_order : (ts : List Token) (at line : ℕ) (bs : List ℕ) (i : ℕ) (t u : Token) → Lexes at line bs ts → slice_get ts i ≡ Some t → slice_get ts (suc i) ≡ Some u → t.to ≤ u.from
in_order [] at line bs zero t u l s w = absurd (cc)
in_order [] at line bs (suc i) t u l s w = absurd (cc)
in_order (v ∷ []) at line bs zero t u l s w = absurd (cc)
in_order (v ∷ x ∷ ts) at line bs zero t u l s w =
    let m = l.9 in
    let from = m.6 in
    let same : v ≡ t = cc in
    let next : x ≡ u = cc in
    subst (λ y. t.to ≤ y.from) next (subst (λ y. y.to ≤ x.from) same (omega arith))
in_order (v ∷ ts) at line bs (suc i) t u l s w = in_order ts v.to (v.line + feeds l.1) l.2 i t u l.9 s w

-- a byte order mark has no line feed
bom_feeds : (source : List ℕ) → feeds (take (bom_length source) source) ≡ 0
bom_feeds source = elim (bom_taken source) [
  | inl e ↦ ap feeds e
  | inr e ↦ ap feeds e
]

take_size : (n : ℕ) (xs : List ℕ) → n ≤ length xs → length (take n xs) ≡ n
take_size zero xs h = refl
take_size (suc n) [] h = absurd (omega arith)
take_size (suc n) (x ∷ xs) h = ap suc (take_size n xs (omega arith))

-- the tokens of a source are placed in it, in order
pub are_placed : (source : List ℕ) (tokens : List Token) → AreTokens source tokens → ArePlaced source tokens
are_placed source tokens a =
    let m = bom_length source in
    let f = bom_feeds source in
    let start : Reached source m 1 (drop m source) = record { before = take m source; whole = sym (take-append-drop m source); offset = sym (take_size m source (bom_within source)); lines = omega arith } in
    record {
      each = λ i t s. each_placed source tokens m 1 (drop m source) i t start a.1 s;
      in_order = λ i t u s w. in_order tokens m 1 (drop m source) i t u a.1 s w;
    }
