-- Lines in one buffer, by their lengths.
use Rattle.std.proofs.Common.{◌≡◌, ◌≤◌, ◌+◌, ◌++◌, ℕ, zero, suc, List, [], ◌∷◌, length, take, drop, ap, sym, ◌∙◌, refl, arith}
use Rattle.std.specs.Prelude.{Result, Ok, Err, OnOk, OnErr, IfOk}
use Rattle.std.proofs.lemmas.List.{take-append-le, drop-append-le, drop-drop, length-drop, length-take-le, take-append-drop}
use Rattle.mast_write.specs.inside.Buffers.{pieces, total}

-- what stands behind the pieces does not matter to them
pub pieces_append : (ns bytes more : List ℕ) → total ns ≤ length bytes → pieces ns (bytes ++ more) ≡ pieces ns bytes
pieces_append [] bytes more h = refl
pieces_append (n ∷ ns) bytes more h =
    let here : n ≤ length bytes = omega arith in
    let rest : total ns ≤ length (drop n bytes) = omega (arith, length-drop n bytes) in
    ap (λ (l : List ℕ). l ∷ pieces ns (drop n (bytes ++ more))) (take-append-le n bytes more here)
    ∙ ap (λ (l : List ℕ). take n bytes ∷ pieces ns l) (drop-append-le n bytes more here)
    ∙ ap (λ (ls : List (List ℕ)). take n bytes ∷ ls) (pieces_append ns (drop n bytes) more rest)

-- one more piece comes last
pub pieces_last : (ns : List ℕ) (n : ℕ) (bytes : List ℕ) → pieces (ns ++ n ∷ []) bytes ≡ pieces ns bytes ++ take n (drop (total ns) bytes) ∷ []
pieces_last [] n bytes = refl
pieces_last (m ∷ ms) n bytes =
    ap (λ (ls : List (List ℕ)). take m bytes ∷ ls) (pieces_last ms n (drop m bytes))
    ∙ ap (λ (l : List ℕ). take m bytes ∷ (pieces ms (drop m bytes) ++ take n l ∷ [])) (drop-drop (total ms) m bytes)

-- one more length counts as well
pub total_last : (ns : List ℕ) (n : ℕ) → total (ns ++ n ∷ []) ≡ total ns + n
total_last [] n = omega arith
total_last (m ∷ ms) n = let e = total_last ms n in omega arith

-- bytes that are cut behind the pieces have the same pieces
pub pieces_take : (ns : List ℕ) (begin : ℕ) (bytes : List ℕ) → total ns ≡ begin → begin ≤ length bytes → pieces ns (take begin bytes) ≡ pieces ns bytes
pieces_take ns begin bytes e within =
    let room : total ns ≤ length (take begin bytes) = omega (arith, length-take-le begin bytes within) in
    sym (pieces_append ns (take begin bytes) (drop begin bytes) room) ∙ ap (pieces ns) (take-append-drop begin bytes)

-- nothing is left behind all bytes
pub drop_all : (bytes : List ℕ) (n : ℕ) → length bytes ≤ n → drop n bytes ≡ []
drop_all [] zero h = refl
drop_all [] (suc n) h = refl
drop_all (b ∷ bytes) zero h = absurd (omega arith)
drop_all (b ∷ bytes) (suc n) h = drop_all bytes n (omega arith)

-- all that is there is taken
pub take_all : (bytes : List ℕ) (n : ℕ) → length bytes ≤ n → take n bytes ≡ bytes
take_all [] zero h = refl
take_all [] (suc n) h = refl
take_all (b ∷ bytes) zero h = absurd (omega arith)
take_all (b ∷ bytes) (suc n) h = ap (λ (l : List ℕ). b ∷ l) (take_all bytes n (omega arith))

-- what is written behind the pieces, if it is, does not matter to them
pub pieces_written : {T E : Type 0} (r : Result T E) (ns : List ℕ) (begin : ℕ) (old new text : List ℕ) → total ns ≡ begin → begin ≤ length old
    → OnOk r (new ≡ old ++ text) → OnErr r (new ≡ old) → pieces ns new ≡ pieces ns old
pieces_written (Ok x) ns begin old new text e within ok err = ap (pieces ns) ok ∙ pieces_append ns old text (omega arith)
pieces_written (Err x) ns begin old new text e within ok err = ap (pieces ns) err

-- a last piece takes all that stands behind the pieces
pub pieces_end : (ns : List ℕ) (begin n : ℕ) (bytes : List ℕ) → total ns ≡ begin → length bytes ≤ begin + n
    → pieces (ns ++ n ∷ []) bytes ≡ pieces ns bytes ++ drop begin bytes ∷ []
pieces_end ns begin n bytes e all =
    let few : length (drop begin bytes) ≤ n = omega (arith, length-drop begin bytes) in
    pieces_last ns n bytes
    ∙ ap (λ (m : ℕ). pieces ns bytes ++ take n (drop m bytes) ∷ []) e
    ∙ ap (λ (l : List ℕ). pieces ns bytes ++ l ∷ []) (take_all (drop begin bytes) n few)

-- what two clauses say of an answer together
pub if_ok_both : {T E : Type 0} (r : Result T E) (P Q R : T → Type 0) → ((x : T) → P x → Q x → R x) → IfOk r P → IfOk r Q → IfOk r R
if_ok_both (Ok x) P Q R f p q = f x p q
if_ok_both (Err e) P Q R f p q = tt
