-- An atom is put into a list where the first that is not before it stands.
use Rattle.std.proofs.Common.{◌≡◌, ℕ, zero, suc, ◌<◌, List, [], ◌∷◌, length, insert, slice_index_or, refl, ap, sym, ◌∙◌, arith}
use Rattle.std.specs.declared.cmp.Ordering.TheVariants.{Less, Equal, Greater}
use Rattle.mast_cq.specs.declared.atom.Atom.{Atom}
use Rattle.mast_cq.specs.Queries.{atom_order}
use Rattle.mast_cq.specs.NormalForms.{insert_by, put}

-- the atom comes after each of the first count of the list
abbrev pub Passes : Atom → ℕ → List Atom → Type 0
Passes g zero hs = Unit {0}
Passes g (suc k) [] = ⊥
Passes g (suc k) (h ∷ hs) = (atom_order g h ≡ Greater) × Passes g k hs

pub passes_none : (g : Atom) (hs : List Atom) → Passes g 0 hs
passes_none g hs = tt

-- an atom that comes after one more
pub passes_next : (g : Atom) (k : ℕ) (hs : List Atom) (d : Atom) → k < length hs → Passes g k hs → atom_order g (slice_index_or hs k d) ≡ Greater → Passes g (suc k) hs
passes_next g k [] d l p e = absurd (omega arith)
passes_next g zero (h ∷ hs) d l p e = (e, tt)
passes_next g (suc k) (h ∷ hs) d l p e = (p.0, passes_next g k hs d (omega arith) p.1 e)

-- before an atom that comes later
pub put_before : (g : Atom) (k : ℕ) (hs : List Atom) (d : Atom) → k < length hs → Passes g k hs → atom_order g (slice_index_or hs k d) ≡ Less → insert hs k g ≡ put g hs
put_before g k [] d l p e = absurd (omega arith)
put_before g zero (h ∷ hs) d l p e = sym (ap (λ o. insert_by o g h hs (put g hs)) e)
put_before g (suc k) (h ∷ hs) d l p e = ap (λ xs. h ∷ xs) (put_before g k hs d (omega arith) p.1 e) ∙ sym (ap (λ o. insert_by o g h hs (put g hs)) p.0)

-- nowhere where it is there
pub put_there : (g : Atom) (k : ℕ) (hs : List Atom) (d : Atom) → k < length hs → Passes g k hs → atom_order g (slice_index_or hs k d) ≡ Equal → hs ≡ put g hs
put_there g k [] d l p e = absurd (omega arith)
put_there g zero (h ∷ hs) d l p e = sym (ap (λ o. insert_by o g h hs (put g hs)) e)
put_there g (suc k) (h ∷ hs) d l p e = ap (λ xs. h ∷ xs) (put_there g k hs d (omega arith) p.1 e) ∙ sym (ap (λ o. insert_by o g h hs (put g hs)) p.0)

-- at the end where each comes before it
pub put_last : (g : Atom) (hs : List Atom) → Passes g (length hs) hs → insert hs (length hs) g ≡ put g hs
put_last g [] p = refl
put_last g (h ∷ hs) p = ap (λ xs. h ∷ xs) (put_last g hs p.1) ∙ sym (ap (λ o. insert_by o g h hs (put g hs)) p.0)
