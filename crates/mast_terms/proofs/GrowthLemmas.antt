-- What stood stands, however far the printing came.
use Rattle.std.proofs.Common.{◌≡◌, ℕ, List, [], ◌++◌, length, take, sym, ap, ◌∙◌}
use Rattle.std.proofs.lemmas.List.{append_assoc, append-nil}
use Rattle.std.proofs.Math.Seq.{take-append_seam}
use Rattle.std.specs.Prelude.{Result, Ok, Err, OnErr}
use Rattle.mast_terms.specs.inside.Growth.{Grows}

-- nothing was written
pub grows_same : (old new : List ℕ) → new ≡ old → Grows old new
grows_same old new h = record { more = []; is = h ∙ sym (append-nil old) }

-- what was written before
pub grows_after : (old mid new text : List ℕ) → mid ≡ old ++ text → Grows mid new → Grows old new
grows_after old mid new text e g = record { more = text ++ g.more; is = g.is ∙ ap (λ l. l ++ g.more) e ∙ append_assoc old text g.more }

-- cut back
pub take-Grows : (old new : List ℕ) → Grows old new → take (length old) new ≡ old
take-Grows old new g = ap (take (length old)) g.is ∙ take-append_seam old g.more

-- what was written since
pub grows_by : (old new text : List ℕ) → new ≡ old ++ text → Grows old new
grows_by old new text e = record { more = text; is = e }

-- what was written first and what was written then
pub grows_then : (old mid new : List ℕ) → Grows old mid → Grows mid new → Grows old new
grows_then old mid new g h = record { more = g.more ++ h.more; is = h.is ∙ ap (λ l. l ++ h.more) g.is ∙ append_assoc old g.more h.more }

-- what was written first and the text that was written then
pub grows_more : (old mid new text : List ℕ) → Grows old mid → new ≡ mid ++ text → Grows old new
grows_more old mid new text g e = grows_then old mid new g (grows_by mid new text e)

-- the same of an outcome
pub on_err : {T E : Type 0} (r : Result T E) (P : Type 0) → P → OnErr r P
on_err (Ok x) P p = tt
on_err (Err e) P p = p
