-- The variables of atoms, by their places, are those that reading finds one after the other.
use Rattle.std.proofs.Common.{◌≡◌, refl, sym, ap, ◌∙◌, subst, ℕ, Bool, true, false, true≢false, if◌then◌else◌, List, [], ◌∷◌, ◌++◌, append_assoc, append-nil}
use Rattle.std.specs.Prelude.{Option, Some, None, codes}
use Rattle.std.specs.Str.{bytes_eq}
use Rattle.std.proofs.lemmas.Grind.{flat_map-append}
use Rattle.std.proofs.lemmas.Slice.Eq.{bytes_eq-Decides}
use Rattle.mast_tbox.specs.Lists.{others, once}
use Rattle.mast_tree.specs.declared.item.Item.{Item}
use Rattle.mast_tree.specs.Said.{Said, name, iri, text, tagged, binding, node}
use Rattle.mast_tree.specs.Pages.{Page, says}
use Rattle.mast_constr.specs.declared.variables.Sort.{Sort}
use Rattle.mast_constr.specs.declared.variables.Sort.TheVariants.{Object, Value}
use Rattle.mast_constr.specs.Denials.{places_inside, places_said, places, variables_of}
use Rattle.mast_constr.specs.Variables.{Variables, variable, place, same_name, sort_of}
use Rattle.mast_constr.specs.inside.Atoms.{joined, placed, with_arguments, with_atom, with_atoms}

same_true : (v w : List ℕ) → bytes_eq v w ≡ true → bytes_eq w v ≡ true
same_true v w h = (bytes_eq-Decides w v).1 (sym ((bytes_eq-Decides v w).0 h))

same_false : (v w : List ℕ) (b : Bool) → bytes_eq w v ≡ b → bytes_eq v w ≡ false → bytes_eq w v ≡ false
same_false v w true e h = absurd (true≢false (sym (same_true w v e) ∙ h))
same_false v w false e h = e

sort_step : (x : List ℕ) (q y : List ℕ × Sort) (ys : Variables) (b : Bool) → same_name q y ≡ b → bytes_eq x q.0 ≡ false
    → sort_of x (others same_name q ys) ≡ sort_of x ys → sort_of x (if b then others same_name q ys else y ∷ others same_name q ys) ≡ sort_of x (y ∷ ys)
sort_step x q y ys true e h more =
    let apart : bytes_eq x y.0 ≡ false = subst (λ z. bytes_eq x z ≡ false) ((bytes_eq-Decides q.0 y.0).0 e) h in
    more ∙ sym (ap (λ c. if c then Some y.1 else sort_of x ys) apart)
sort_step x q y ys false e h more = ap (λ found. if bytes_eq x y.0 then Some y.1 else found) more

-- the sort of a name among the others of a list
pub sort_others : (x : List ℕ) (q : List ℕ × Sort) (ys : Variables) → bytes_eq x q.0 ≡ false → sort_of x (others same_name q ys) ≡ sort_of x ys
sort_others x q [] h = refl
sort_others x q (y ∷ ys) h = sort_step x q y ys (same_name q y) refl h (sort_others x q ys h)

-- the others of a list with one more
others_step : (q y p : List ℕ × Sort) (ys : Variables) (b : Bool) → others same_name q (ys ++ p ∷ []) ≡ others same_name q ys ++ others same_name q (p ∷ [])
    → (if b then others same_name q (ys ++ p ∷ []) else y ∷ others same_name q (ys ++ p ∷ []))
    ≡ (if b then others same_name q ys else y ∷ others same_name q ys) ++ others same_name q (p ∷ [])
others_step q y p ys true more = more
others_step q y p ys false more = ap (λ zs. y ∷ zs) more

others_end : (q p : List ℕ × Sort) (ys : Variables) → others same_name q (ys ++ p ∷ []) ≡ others same_name q ys ++ others same_name q (p ∷ [])
others_end q p [] = refl
others_end q p (y ∷ ys) = others_step q y p ys (same_name q y) (others_end q p ys)

-- a place of a variable that stands, or of a new one, behind a place of this name or of another
same_end : (q p : List ℕ × Sort) (ys : Variables) (found : Option Sort) → same_name q p ≡ true → others same_name q (joined p.1 p.0 found ys) ≡ others same_name q ys
same_end q p ys (Some other) h = refl
same_end q p ys None h =
    others_end q p ys ∙ (ap (λ b. others same_name q ys ++ (if b then [] else p ∷ [])) h ∙ append-nil (others same_name q ys))

other_end : (q p : List ℕ × Sort) (ys : Variables) (found : Option Sort) → same_name q p ≡ false → others same_name q (joined p.1 p.0 found ys) ≡ joined p.1 p.0 found (others same_name q ys)
other_end q p ys (Some other) h = refl
other_end q p ys None h = others_end q p ys ∙ ap (λ b. others same_name q ys ++ (if b then [] else p ∷ [])) h

joined_first : (q p : List ℕ × Sort) (found : Option Sort) (ys : Variables) → joined p.1 p.0 found (q ∷ ys) ≡ q ∷ joined p.1 p.0 found ys
joined_first q p (Some other) ys = refl
joined_first q p None ys = refl

once_step : (q p : List ℕ × Sort) (ys : Variables) (b : Bool) → bytes_eq p.0 q.0 ≡ b
    → q ∷ others same_name q (joined p.1 p.0 (sort_of p.0 ys) ys)
    ≡ joined p.1 p.0 (if b then Some q.1 else sort_of p.0 (others same_name q ys)) (q ∷ others same_name q ys)
once_step q p ys true e = ap (λ zs. q ∷ zs) (same_end q p ys (sort_of p.0 ys) (same_true p.0 q.0 e))
once_step q p ys false e =
    ap (λ zs. q ∷ zs) (other_end q p ys (sort_of p.0 ys) (same_false p.0 q.0 (bytes_eq q.0 p.0) refl e))
    ∙ (sym (joined_first q p (sort_of p.0 ys) (others same_name q ys))
    ∙ ap (λ found. joined p.1 p.0 found (q ∷ others same_name q ys)) (sym (sort_others p.0 q ys e)))

-- one place more
once_end : (xs : Variables) (p : List ℕ × Sort) → once same_name (xs ++ p ∷ []) ≡ joined p.1 p.0 (sort_of p.0 (once same_name xs)) (once same_name xs)
once_end [] p = refl
once_end (q ∷ qs) p =
    ap (λ ys. q ∷ others same_name q ys) (once_end qs p) ∙ once_step q p (once same_name qs) (bytes_eq p.0 q.0) refl

placed_end : (xs : Variables) (sort : Sort) (found : Option (List ℕ)) → placed sort found (once same_name xs) ≡ once same_name (xs ++ place sort found)
placed_end xs sort None = ap (once same_name) (sym (append-nil xs))
placed_end xs sort (Some x) = sym (once_end xs (x, sort))

two_end : (xs : Variables) (first second : Sort) (a b : Option (List ℕ))
    → placed second b (placed first a (once same_name xs)) ≡ once same_name (xs ++ (place first a ++ place second b))
two_end xs first second a b =
    ap (placed second b) (placed_end xs first a)
    ∙ (placed_end (xs ++ place first a) second b ∙ ap (once same_name) (append_assoc xs (place first a) (place second b)))

either_end : (xs : Variables) (is : Bool) (a b : Option (List ℕ))
    → (if is then placed Value b (placed Object a (once same_name xs)) else placed Object b (placed Object a (once same_name xs)))
    ≡ once same_name (xs ++ (place Object a ++ place (if is then Value else Object) b))
either_end xs true a b = two_end xs Object Value a b
either_end xs false a b = two_end xs Object Object a b

nothing_end : (xs : Variables) → once same_name xs ≡ once same_name (xs ++ [])
nothing_end xs = ap (once same_name) (sym (append-nil xs))

inside_end : (page : Page) (xs : Variables) (word : List ℕ) (items : List Item)
    → with_arguments word page (once same_name xs) items ≡ once same_name (xs ++ places_inside word page items)
inside_end page xs word [] = nothing_end xs
inside_end page xs word (a ∷ []) = nothing_end xs
inside_end page xs word (class ∷ object ∷ []) = placed_end xs Object (variable (says page object))
inside_end page xs word (property ∷ from ∷ to ∷ []) = either_end xs (bytes_eq word (codes "Attr")) (variable (says page from)) (variable (says page to))
inside_end page xs word (a ∷ b ∷ c ∷ d ∷ more) = nothing_end xs

atom_end : (page : Page) (xs : Variables) (what : Said) → with_atom page (once same_name xs) what ≡ once same_name (xs ++ places_said page what)
atom_end page xs (name word at) = nothing_end xs
atom_end page xs (iri word at) = nothing_end xs
atom_end page xs (text chars at) = nothing_end xs
atom_end page xs (tagged at) = nothing_end xs
atom_end page xs (binding at) = nothing_end xs
atom_end page xs (node word at items) = inside_end page xs word items

places_end : (page : Page) (before : List Item) (item : Item) → places page (before ++ item ∷ []) ≡ places page before ++ places_said page (says page item)
places_end page before item =
    flat_map-append (λ i. places_said page (says page i)) before (item ∷ [])
    ∙ ap (λ vs. places page before ++ vs) (append-nil (places_said page (says page item)))

-- an atom more
pub variables_end : (page : Page) (before : List Item) (item : Item) → with_atom page (variables_of page before) (says page item) ≡ variables_of page (before ++ item ∷ [])
variables_end page before item =
    atom_end page (places page before) (says page item) ∙ ap (once same_name) (sym (places_end page before item))

variables_behind : (page : Page) (before items : List Item) → with_atoms page (variables_of page before) items ≡ variables_of page (before ++ items)
variables_behind page before [] = ap (variables_of page) (sym (append-nil before))
variables_behind page before (item ∷ items) =
    ap (λ known. with_atoms page known items) (variables_end page before item)
    ∙ (variables_behind page (before ++ item ∷ []) items ∙ ap (variables_of page) (append_assoc before (item ∷ []) items))

-- the variables that reading finds are those of the atoms
pub variables_are : (page : Page) (items : List Item) → with_atoms page [] items ≡ variables_of page items
variables_are page items = variables_behind page [] items
