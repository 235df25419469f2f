-- The longest token at a front, exactly.
use Rattle.std.proofs.Common.{◌≡◌, ◌⊎◌, inl, inr, ℕ, ◌+◌, ◌<◌, ◌≤◌, true, List, ◌∷◌, [], ◌++◌, length, drop, get_or, drop-cons, suc, refl, ap, sym, ◌∙◌, subst, arith, append_assoc}
use Rattle.std.specs.Prelude.{Option, Some, None}
use Rattle.std.proofs.lemmas.List.{append-nil, length-append}
use Rattle.std.proofs.Math.ListN.{drop_of_length-le}
use Rattle.mast_sql.specs.declared.token.SqlKind.{SqlKind}
use Rattle.mast_sql.specs.declared.scanner.ScanState.{ScanState}
use Rattle.mast_sql.specs.declared.scanner.ScanState.TheVariants.{Start}
use Rattle.mast_sql.specs.declared.scanner.Scanned.{Scanned}
use Rattle.mast_sql.specs.Tokens.{is_token}
use Rattle.mast_sql.specs.inside.Scanner.{step, accept, on_step, accepts, better, longest, ScannedWithin}
use Rattle.mast_sql.specs.Source.{IsLongest, NoToken}
use Rattle.mast_source.proofs.ListLemmas.{split_within}
use Rattle.mast_sql.proofs.TokenLemmas.{token_accepted, accepted_token}

-- an answer is at least so long
abbrev pub AtLeast : Option Scanned → ℕ → Type 0
AtLeast None m = ⊥
AtLeast (Some f) m = m ≤ f.size

better_least : (k : Option SqlKind) (n m : ℕ) (best : Option Scanned) → m ≤ n → AtLeast best m → AtLeast (better k n best) m
better_least None n m best l h = h
better_least (Some k) n m best l h = l

kept : (bs : List ℕ) (s : ScanState) (n m : ℕ) (best : Option Scanned) → m ≤ n → AtLeast best m → AtLeast (longest s n best bs) m
kept [] s n m best l h = h
kept (b ∷ bs) s n m best l h = on (step s b) (λ t. kept bs t (n + 1) m (better (accept t) (n + 1) best) (omega arith) (better_least (accept t) (n + 1) m best (omega arith) h))
  where
    on : (o : Option ScanState) → ((t : ScanState) → AtLeast (longest t (n + 1) (better (accept t) (n + 1) best) bs) m) → AtLeast (on_step o best (λ t. longest t (n + 1) (better (accept t) (n + 1) best) bs)) m
    on None more = h
    on (Some t) more = more t

-- what is accepted from a state on is no longer than the answer
reached : (w rest : List ℕ) (t : ScanState) (n : ℕ) (best : Option Scanned) (k : SqlKind) → accepts t w ≡ Some k → AtLeast (longest t n (better (accept t) n best) (w ++ rest)) (n + length w)
reached [] rest t n best k h = kept rest t n (n + 0) (better (accept t) n best) (omega arith) (here (accept t) h)
  where
    here : (o : Option SqlKind) → o ≡ Some k → AtLeast (better o n best) (n + 0)
    here None h = absurd (cc)
    here (Some j) h = omega arith
reached (b ∷ w) rest t n best k h = on (step t b) h (λ u g. reached w rest u (n + 1) (better (accept t) n best) k g)
  where
    on : (o : Option ScanState) → on_step o None (λ u. accepts u w) ≡ Some k
        → ((u : ScanState) → accepts u w ≡ Some k → AtLeast (longest u (n + 1) (better (accept u) (n + 1) (better (accept t) n best)) (w ++ rest)) (n + 1 + length w))
        → AtLeast (on_step o (better (accept t) n best) (λ u. longest u (n + 1) (better (accept u) (n + 1) (better (accept t) n best)) (w ++ rest))) (n + length (b ∷ w))
    on None h more = absurd (cc)
    on (Some u) h more =
        let size : n + 1 + length w ≡ n + length (b ∷ w) = omega arith in
        subst (λ m. AtLeast (longest u (n + 1) (better (accept u) (n + 1) (better (accept t) n best)) (w ++ rest)) m) size (more u h)

-- the answer is accepted, or is the one that was known before
abbrev pub Found : ScanState → ℕ → List ℕ → Option Scanned → Type 0
Found t n bs r = (k : SqlKind) × (w rest : List ℕ) × (bs ≡ w ++ rest) × (accepts t w ≡ Some k) × (r ≡ Some (record { kind = k; size = n + length w }))

found_here : (o : Option SqlKind) (t : ScanState) (n : ℕ) (best r : Option Scanned) (bs : List ℕ) → accept t ≡ o → better o n best ≡ r → (r ≡ best) ⊎ Found t n bs r
found_here None t n best r bs e h = inl (sym h)
found_here (Some k) t n best r bs e h = inr (k, [], bs, refl, e, sym h ∙ ap (λ m. Some (record { kind = k; size = m })) (omega arith))

found_later : (b : ℕ) (bs : List ℕ) (t u : ScanState) (n : ℕ) (r : Option Scanned) → step t b ≡ Some u → Found u (n + 1) bs r → Found t n (b ∷ bs) r
found_later b bs t u n r e f =
    let size : n + 1 + length f.1 ≡ n + length (b ∷ f.1) = omega arith in
    (f.0, b ∷ f.1, f.2, ap (λ x. b ∷ x) f.3, ap (λ o. on_step o None (λ v. accepts v f.1)) e ∙ f.4, f.5 ∙ ap (λ m. Some (record { kind = f.0; size = m })) size)

found : (bs : List ℕ) (t : ScanState) (n : ℕ) (best r : Option Scanned) → longest t n (better (accept t) n best) bs ≡ r → (r ≡ best) ⊎ Found t n bs r
found [] t n best r h = found_here (accept t) t n best r [] refl h
found (b ∷ bs) t n best r h = on (step t b) refl h (λ u g. found bs u (n + 1) (better (accept t) n best) r g)
  where
    on : (o : Option ScanState) → step t b ≡ o → on_step o (better (accept t) n best) (λ u. longest u (n + 1) (better (accept u) (n + 1) (better (accept t) n best)) bs) ≡ r
        → ((u : ScanState) → longest u (n + 1) (better (accept u) (n + 1) (better (accept t) n best)) bs ≡ r → (r ≡ better (accept t) n best) ⊎ Found u (n + 1) bs r)
        → (r ≡ best) ⊎ Found t n (b ∷ bs) r
    on None e h more = found_here (accept t) t n best r (b ∷ bs) refl h
    on (Some u) e h more = elim (more u h) [
      | inl g ↦ found_here (accept t) t n best r (b ∷ bs) refl (sym g)
      | inr f ↦ inr (found_later b bs t u n r e f)
    ]

-- the front tells exactly

-- the longest token that bytes begin with, or that they begin with none
abbrev pub ScannedTells : List ℕ → Option Scanned → Type 0
ScannedTells bytes None = NoToken bytes
ScannedTells bytes (Some f) = (w rest : List ℕ) × (bytes ≡ w ++ rest) × IsLongest f.kind w rest × (length w ≡ f.size)

-- the answer for a front
at_front : (bs : List ℕ) (r : Option Scanned) → longest Start 0 None bs ≡ r → (r ≡ None) ⊎ Found Start 0 bs r
at_front bs r h = found bs Start 0 None r h

token_least : (k : SqlKind) (w rest : List ℕ) → is_token k w ≡ true → AtLeast (longest Start 0 None (w ++ rest)) (0 + length w)
token_least k w rest i = reached w rest Start 0 None k (token_accepted k w i)

empty_of : (more w : List ℕ) → length (w ++ more) ≤ length w → more ≡ []
empty_of [] w h = refl
empty_of (b ∷ more) w h = absurd (let l = length-append w (b ∷ more) in omega arith)

is_longest : (k : SqlKind) (n : ℕ) (w rest : List ℕ) → longest Start 0 None (w ++ rest) ≡ Some (record { kind = k; size = n }) → n ≡ 0 + length w → (other : SqlKind) (more after : List ℕ) → rest ≡ more ++ after → is_token other (w ++ more) ≡ true → more ≡ []
is_longest k n w rest f l other more after e i =
    let whole : longest Start 0 None ((w ++ more) ++ after) ≡ Some (record { kind = k; size = n }) = ap (λ x. longest Start 0 None x) (append_assoc w more after ∙ ap (λ x. w ++ x) (sym e)) ∙ f in
    let least : AtLeast (Some (record { kind = k; size = n })) (0 + length (w ++ more)) = subst (λ x. AtLeast x (0 + length (w ++ more))) whole (token_least other (w ++ more) after i) in
    empty_of more w (omega arith)

same_front : (f : Scanned) (k : SqlKind) (n : ℕ) → ◌≡◌ {A = Option Scanned} (Some f) (Some (record { kind = k; size = n })) → (f.kind ≡ k) × (f.size ≡ n)
same_front f k n h = let e : f ≡ record { kind = k; size = n } = cc in (ap (λ x. x.kind) e, ap (λ x. x.size) e)

-- what the scanner finds is the longest token
pub front_tells : (bs : List ℕ) → ScannedTells bs (longest Start 0 None bs)
front_tells bs = go (longest Start 0 None bs) refl (at_front bs (longest Start 0 None bs) refl)
  where
    told : (f : Scanned) → longest Start 0 None bs ≡ Some f → Found Start 0 bs (Some f) → ScannedTells bs (Some f)
    told f h t =
        let s = same_front f t.0 (0 + length t.1) t.5 in
        let size = s.1 in
        let whole : longest Start 0 None (t.1 ++ t.2) ≡ Some (record { kind = t.0; size = 0 + length t.1 }) = ap (λ x. longest Start 0 None x) (sym t.3) ∙ h ∙ t.5 in
        let form : is_token f.kind t.1 ≡ true = subst (λ k. is_token k t.1 ≡ true) (sym s.0) (accepted_token t.0 t.1 t.4) in
        (t.1, t.2, t.3, record { form = form; longest = is_longest t.0 (0 + length t.1) t.1 t.2 whole refl }, omega arith)

    go : (r : Option Scanned) → longest Start 0 None bs ≡ r → (r ≡ None) ⊎ Found Start 0 bs r → ScannedTells bs r
    go None h t = λ k w rest e i. subst (λ x. AtLeast x (0 + length w)) (ap (λ x. longest Start 0 None x) (sym e) ∙ h) (token_least k w rest i)
    go (Some f) h (inl e) = absurd (let c : ◌≡◌ {A = Option Scanned} (Some f) None = e in cc)
    go (Some f) h (inr t) = told f h t

-- a token has a byte at least
pub word_some : (k : SqlKind) (w : List ℕ) → is_token k w ≡ true → 0 < length w
word_some k [] h = absurd (cc)
word_some k (b ∷ w) h = omega arith

pub front_within : (bs : List ℕ) → ScannedWithin (length bs) (longest Start 0 None bs)
front_within bs = go (longest Start 0 None bs) (front_tells bs)
  where
    go : (r : Option Scanned) → ScannedTells bs r → ScannedWithin (length bs) r
    go None t = tt
    go (Some f) t =
        let size = t.4 in
        let some = word_some f.kind t.0 t.3.form in
        let all : length bs ≡ length t.0 + length t.1 = ap length t.2 ∙ length-append t.0 t.1 in
        (omega arith, omega arith)

-- where the scan stops, the best so far is the answer

-- where the scan stops, the best so far is within the bytes
pub stopped_within : (bs : List ℕ) (i : ℕ) (s : ScanState) (n : ℕ) (best : Option Scanned) → longest s n best (drop i bs) ≡ longest Start 0 None bs → i < length bs → step s (get_or bs i 0) ≡ None → ScannedWithin (length bs) best
stopped_within bs i s n best e h none =
    let stop : longest s n best (get_or bs i 0 ∷ drop (suc i) bs) ≡ best = ap (λ o. on_step o best (λ t. longest t (n + 1) (better (accept t) (n + 1) best) (drop (suc i) bs))) none in
    let same : best ≡ longest Start 0 None bs = sym stop ∙ ap (λ x. longest s n best x) (sym (drop-cons bs i 0 h)) ∙ e in
    subst (λ x. ScannedWithin (length bs) x) (sym same) (front_within bs)

-- and so it is at the end of the bytes
pub ended_within : (bs : List ℕ) (i : ℕ) (s : ScanState) (n : ℕ) (best : Option Scanned) → longest s n best (drop i bs) ≡ longest Start 0 None bs → length bs ≤ i → ScannedWithin (length bs) best
ended_within bs i s n best e h =
    let same : best ≡ longest Start 0 None bs = ap (λ x. longest s n best x) (sym (drop_of_length-le bs h)) ∙ e in
    subst (λ x. ScannedWithin (length bs) x) (sym same) (front_within bs)

-- the longest token is found
pub front_of_token : (k : SqlKind) (w rest : List ℕ) → IsLongest k w rest → longest Start 0 None (w ++ rest) ≡ Some (record { kind = k; size = length w })
front_of_token k w rest l = go (longest Start 0 None (w ++ rest)) (token_least k w rest l.form) (at_front (w ++ rest) (longest Start 0 None (w ++ rest)) refl)
  where
    told : (f : Scanned) → (0 + length w) ≤ f.size → Found Start 0 (w ++ rest) (Some f) → ◌≡◌ {A = Option Scanned} (Some f) (Some (record { kind = k; size = length w }))
    told f a t =
        let s = same_front f t.0 (0 + length t.1) t.5 in
        let size = s.1 in
        let d = split_within w rest t.1 t.2 t.3 (omega arith) in
        let form : is_token t.0 (w ++ d.0) ≡ true = subst (λ x. is_token t.0 x ≡ true) d.1 (accepted_token t.0 t.1 t.4) in
        let none : d.0 ≡ [] = l.longest t.0 d.0 t.2 d.2 form in
        let same : t.1 ≡ w = d.1 ∙ ap (λ x. w ++ x) none ∙ append-nil w in
        let kinds : ◌≡◌ {A = Option SqlKind} (Some t.0) (Some k) = sym t.4 ∙ ap (λ x. accepts Start x) same ∙ token_accepted k w l.form in
        let kind : t.0 ≡ k = cc in
        let lengths : 0 + length t.1 ≡ length w = ap (λ x. 0 + length x) same ∙ omega arith in
        t.5 ∙ ap (λ x. Some (record { kind = x; size = 0 + length t.1 })) kind ∙ ap (λ x. Some (record { kind = k; size = x })) lengths

    go : (r : Option Scanned) → AtLeast r (0 + length w) → (r ≡ None) ⊎ Found Start 0 (w ++ rest) r → r ≡ Some (record { kind = k; size = length w })
    go None a t = absurd a
    go (Some f) a (inl e) = absurd (let c : ◌≡◌ {A = Option Scanned} (Some f) None = e in cc)
    go (Some f) a (inr t) = told f a t

-- where no token begins, none is found
pub front_of_none : (bs : List ℕ) → NoToken bs → longest Start 0 None bs ≡ None
front_of_none bs no_one = elim (at_front bs (longest Start 0 None bs) refl) [
  | inl e ↦ e
  | inr t ↦ absurd (no_one t.0 t.1 t.2 t.3 (accepted_token t.0 t.1 t.4))
]
