-- Each variable of a denial has one number.
use Rattle.std.proofs.Common.{◌≡◌, ◌⊎◌, inl, inr, refl, sym, ap, ◌∙◌, subst, ℕ, zero, suc, Bool, true, false, true≢false, if◌then◌else◌, List, [], ◌∷◌, ◌++◌, length, Option, Some, None}
use Rattle.std.specs.Prelude.{slice_get, codes}
use Rattle.std.specs.Str.{bytes_eq}
use Rattle.std.proofs.lemmas.Slice.Eq.{bytes_eq-Decides}
use Rattle.mast_tree.specs.declared.item.Item.{Item}
use Rattle.mast_tree.specs.Said.{Said, name, iri, text, tagged, binding, node}
use Rattle.mast_tree.specs.Pages.{Page, says}
use Rattle.mast_constr.specs.declared.variables.Sort.{Sort}
use Rattle.mast_constr.specs.declared.variables.Sort.TheVariants.{Object, Value}
use Rattle.mast_constr.specs.Denials.{variables_of}
use Rattle.mast_constr.specs.Variables.{Variables, variable, sort_of}
use Rattle.mast_constr.specs.inside.Atoms.{joined, placed, with_arguments, with_atom, with_atoms}
use Rattle.mast_constr.proofs.PlaceLemmas.{variables_are}

-- two places of one variable are one
abbrev pub IsOnce : Variables → Type 0
IsOnce known = (x : List ℕ) (s t : Sort) (n m : ℕ) → slice_get known n ≡ Some (x, s) → slice_get known m ≡ Some (x, t) → n ≡ m

first_of_pair : (v : List ℕ × Sort) (x : List ℕ) (s : Sort) → ◌≡◌ {A = Option (List ℕ × Sort)} (Some v) (Some (x, s)) → x ≡ v.0
first_of_pair v x s h = cc

some_sort : (t : Sort) → ◌≡◌ {A = Option Sort} (Some t) None → ⊥
some_sort t e = cc

absent_where : (v : List ℕ × Sort) (vs : Variables) (x : List ℕ) (s : Sort) (n : ℕ) (b : Bool) → bytes_eq x v.0 ≡ b → (if b then Some v.1 else sort_of x vs) ≡ None
    → slice_get (v ∷ vs) n ≡ Some (x, s) → ((m : ℕ) → sort_of x vs ≡ None → slice_get vs m ≡ Some (x, s) → ⊥) → ⊥
absent_where v vs x s n true e g h later = some_sort v.1 g
absent_where v vs x s zero false e g h later = true≢false (sym ((bytes_eq-Decides x v.0).1 (first_of_pair v x s h)) ∙ e)
absent_where v vs x s (suc n) false e g h later = later n g h

absent : (known : Variables) (x : List ℕ) (s : Sort) (n : ℕ) → sort_of x known ≡ None → slice_get known n ≡ Some (x, s) → ⊥
absent [] x s n none h = cc
absent (v ∷ vs) x s n none h = absent_where v vs x s n (bytes_eq x v.0) refl none h (absent vs x s)

last_or : (xs : Variables) (last : List ℕ × Sort) (n : ℕ) (x : List ℕ × Sort) → slice_get (xs ++ last ∷ []) n ≡ Some x → (slice_get xs n ≡ Some x) ⊎ ((n ≡ length xs) × (x ≡ last))
last_or [] last zero x h = inr (refl, cc)
last_or [] last (suc n) x h = cc
last_or (y ∷ ys) last zero x h = inl h
last_or (y ∷ ys) last (suc n) x h = elim (last_or ys last n x h) [
  | inl e ↦ inl e
  | inr e ↦ inr (ap suc e.0, e.1)
]

pair_is : (x y : List ℕ) (s t : Sort) → ◌≡◌ {A = List ℕ × Sort} (x, s) (y, t) → x ≡ y
pair_is x y s t h = ap (λ (p : List ℕ × Sort). p.0) h

joined_once : (sort : Sort) (y : List ℕ) (found : Option Sort) (known : Variables) → sort_of y known ≡ found → IsOnce known → IsOnce (joined sort y found known)
joined_once sort y (Some other) known e once x s t n m h g = once x s t n m h g
joined_once sort y None known e once x s t n m h g = elim (last_or known (y, sort) n (x, s) h) [
  | inl a ↦ elim (last_or known (y, sort) m (x, t) g) [
    | inl b ↦ once x s t n m a b
    | inr b ↦ absurd (absent known x s n (ap (λ z. sort_of z known) (pair_is x y t sort b.1) ∙ e) a)
  ]
  | inr a ↦ elim (last_or known (y, sort) m (x, t) g) [
    | inl b ↦ absurd (absent known x t m (ap (λ z. sort_of z known) (pair_is x y s sort a.1) ∙ e) b)
    | inr b ↦ a.0 ∙ sym b.0
  ]
]

placed_once : (sort : Sort) (found : Option (List ℕ)) (known : Variables) → IsOnce known → IsOnce (placed sort found known)
placed_once sort None known once = once
placed_once sort (Some x) known once = joined_once sort x (sort_of x known) known refl once

either_once : (is : Bool) (a b : Option (List ℕ)) (known : Variables) → IsOnce known
    → IsOnce (if is then placed Value b (placed Object a known) else placed Object b (placed Object a known))
either_once true a b known once = placed_once Value b (placed Object a known) (placed_once Object a known once)
either_once false a b known once = placed_once Object b (placed Object a known) (placed_once Object a known once)

arguments_once : (word : List ℕ) (page : Page) (known : Variables) (items : List Item) → IsOnce known → IsOnce (with_arguments word page known items)
arguments_once word page known [] once = once
arguments_once word page known (a ∷ []) once = once
arguments_once word page known (class ∷ object ∷ []) once = placed_once Object (variable (says page object)) known once
arguments_once word page known (property ∷ from ∷ to ∷ []) once = either_once (bytes_eq word (codes "Attr")) (variable (says page from)) (variable (says page to)) known once
arguments_once word page known (a ∷ b ∷ c ∷ d ∷ more) once = once

atom_once : (page : Page) (known : Variables) (what : Said) → IsOnce known → IsOnce (with_atom page known what)
atom_once page known (name word at) once = once
atom_once page known (iri word at) once = once
atom_once page known (text chars at) once = once
atom_once page known (tagged at) once = once
atom_once page known (binding at) once = once
atom_once page known (node word at items) once = arguments_once word page known items once

atoms_once : (page : Page) (known : Variables) (items : List Item) → IsOnce known → IsOnce (with_atoms page known items)
atoms_once page known [] once = once
atoms_once page known (item ∷ items) once = atoms_once page (with_atom page known (says page item)) items (atom_once page known (says page item) once)

-- the variables of a denial stand once
pub denial_once : (page : Page) (items : List Item) → IsOnce (variables_of page items)
denial_once page items = subst IsOnce (variables_are page items) (atoms_once page [] items nothing)
  where
    nothing : IsOnce []
    nothing x s t n m h g = absurd (cc)
