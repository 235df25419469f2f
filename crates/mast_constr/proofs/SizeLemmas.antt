-- What is read without a breach keeps the sizes: the steps of identifications and their order, and the atoms of denials.
use Rattle.std.proofs.Common.{arith, ◌≡◌, ◌⊎◌, inl, inr, refl, sym, ap, ◌∙◌, ℕ, suc, ◌+◌, ◌≤◌, Bool, true, false, nat_lt, if◌then◌else◌, ◌||◌, List, [], ◌∷◌, ◌++◌, length}
use Rattle.std.specs.Prelude.{None, codes}
use Rattle.std.specs.List.{AllByRecursion}
use Rattle.mast_cq.specs.declared.atom.Arg.{Arg}
use Rattle.mast_cq.specs.declared.atom.Atom.{Atom}
use Rattle.mast_cq.specs.declared.atom.Atom.TheVariants as atom
use Rattle.mast_terms.specs.declared.name.Name.{Name}
use Rattle.mast_terms.specs.Vocabularies.{Lists}
use Rattle.mast_tbox.specs.declared.constraint.Step.{Step}
use Rattle.mast_tbox.specs.declared.constraint.Step.TheVariants as step
use Rattle.mast_tbox.specs.declared.constraint.TheConstants.{MOST_ATOMS}
use Rattle.mast_tbox.specs.Lists.{AreEach}
use Rattle.mast_tbox.specs.Restrictions.{along}
use Rattle.mast_tbox.specs.ConstraintForms.{steps_together, most_steps, IsAttributeLast, HasPathForm}
use Rattle.mast_tbox.proofs.EachLemmas.{each_length}
use Rattle.mast_tree.specs.declared.item.Item.{Item}
use Rattle.mast_tree.specs.declared.shape.ShapeKind.{ShapeKind}
use Rattle.mast_tree.specs.declared.shape.ShapeKind.TheVariants.{Shape}
use Rattle.mast_tree.specs.Judgements.{Judgement, breaks, after, first_breach}
use Rattle.mast_tree.specs.Said.{node}
use Rattle.mast_expressions.specs.Judged.{left_judged}
use Rattle.mast_tree.specs.Pages.{Page, says}
use Rattle.mast_expressions.proofs.FoundLemmas.{none_parts}
use Rattle.mast_constr.specs.Denials.{Dates, IsClassOf, IsRoleOf, IsAttrAtomOf, IsAtom, class_atom, role_atom, attr_atom, atom_said, atom_judged}
use Rattle.mast_constr.specs.Paths.{leads, some_leads, step_said, step_judged, steps_judged, path_said, path_judged, paths_judged, path_length, all_steps, are_many, identified_judged, IsStep, IsPath}
use Rattle.mast_constr.specs.Variables.{Variables}
use Rattle.mast_constr.specs.inside.Atoms.{atoms_from, with_atom}

-- something is wrong with a breach
pub broken : (old : Lists) (kind : ShapeKind) (at : ℕ) → first_breach old (breaks kind at ∷ []) ≡ None → ⊥
broken old kind at h = cc

-- what is judged is not the breach
pub not_broken : (old : Lists) (is : Bool) (inside : List Judgement) (kind : ShapeKind) (at : ℕ)
    → first_breach old (if is then inside else breaks kind at ∷ []) ≡ None → (is ≡ true) × (first_breach old inside ≡ None)
not_broken old true inside kind at h = (refl, h)
not_broken old false inside kind at h = absurd (broken old kind at h)

-- an identification is not too long
pub not_long : (old : Lists) (is : Bool) (page : Page) (at : ℕ) (left : Item) (paths : List Item)
    → first_breach old (identified_judged is page at left paths) ≡ None → (is ≡ false) × (first_breach old (left_judged page left ++ paths_judged page paths) ≡ None)
not_long old true page at left paths h = absurd (broken old _ at h)
not_long old false page at left paths h = (refl, h)

-- so it has few steps
pub few_steps : (n : ℕ) → are_many n ≡ false → n ≤ most_steps
few_steps n h = grind (arith, h)

one_length : (lists : Lists) (page : Page) (item : Item) (path : List Step) → IsPath lists page item path → length path ≡ path_length (says page item)
one_length lists page item path h = each_length (IsStep lists page) h.0 path h.2 ∙ sym (ap path_length h.1.1)

-- the steps of paths are the items of their nodes
pub together : (lists : Lists) (page : Page) (items : List Item) (paths : List (List Step))
    → AreEach (IsPath lists page) items paths → steps_together paths ≡ all_steps page items
together lists page [] [] h = refl
together lists page [] (p ∷ ps) h = absurd h
together lists page (i ∷ is) [] h = absurd h
together lists page (i ∷ is) (p ∷ ps) h =
    ap (λ n. n + steps_together ps) (one_length lists page i p h.0) ∙ ap (λ n. path_length (says page i) + n) (together lists page is ps h.1)

or_parts : (a b : Bool) → (a || b) ≡ true → (a ≡ true) ⊎ (b ≡ true)
or_parts true b h = inl refl
or_parts false b h = inr h

not_led : (page : Page) (item : Item) (at : ℕ) (inside : List Item) → says page item ≡ node (codes "Test") at inside → leads (says page item) ≡ true → ⊥
not_led page item at inside e h = no (sym (ap leads e) ∙ h) where
  no : ◌≡◌ {A = Bool} false true → ⊥
  no x = cc

has_one : (lists : Lists) (page : Page) (item : Item) (s : Step) (steps : List Step) → IsStep lists page item s → leads (says page item) ≡ true → along (s ∷ steps) ≡ [] → ⊥
has_one lists page item (step.Role r) steps is led h = cc
has_one lists page item (step.Test a) steps is led h = not_led page item is.1.0 is.0 is.1.1 led
has_one lists page item (step.Attr u) steps is led h = cc

along_rest : (s : Step) (steps : List Step) → along (s ∷ steps) ≡ [] → along steps ≡ []
along_rest (step.Role r) steps h = absurd (cc)
along_rest (step.Test a) steps h = h
along_rest (step.Attr u) steps h = absurd (cc)

one_leads : (lists : Lists) (page : Page) (item : Item) (s : Step) (steps : List Step) (rest : Bool) → IsStep lists page item s → along (s ∷ steps) ≡ []
    → (rest ≡ true → along steps ≡ [] → ⊥) → (leads (says page item) ≡ true) ⊎ (rest ≡ true) → ⊥
one_leads lists page item s steps rest is e later (inl l) = has_one lists page item s steps is l e
one_leads lists page item s steps rest is e later (inr l) = later l (along_rest s steps e)

some_along : (lists : Lists) (page : Page) (items : List Item) (steps : List Step)
    → AreEach (IsStep lists page) items steps → some_leads page items ≡ true → along steps ≡ [] → ⊥
some_along lists page [] [] h led e = cc
some_along lists page [] (s ∷ steps) h led e = absurd h
some_along lists page (i ∷ is) [] h led e = absurd h
some_along lists page (i ∷ is) (s ∷ steps) h led e =
    one_leads lists page i s steps (some_leads page is) h.0 e (some_along lists page is steps h.1) (or_parts (leads (says page i)) (some_leads page is) led)

not_last : (old : Lists) (page : Page) (item : Item) (at : ℕ) (inside : List Item)
    → says page item ≡ node (codes "Attr") at inside → first_breach old (step_judged false page item) ≡ None → ⊥
not_last old page item at inside e h = broken old Shape at (sym (ap (λ what. first_breach old (step_said false page item what)) e) ∙ h)

attr_last : (old : Lists) (lists : Lists) (page : Page) (items : List Item) (steps : List Step)
    → first_breach old (steps_judged page items) ≡ None → AreEach (IsStep lists page) items steps → IsAttributeLast steps
attr_last old lists page [] [] none h = tt
attr_last old lists page [] (s ∷ steps) none h = absurd h
attr_last old lists page (i ∷ is) [] none h = absurd h
attr_last old lists page (i ∷ []) (step.Role r ∷ []) none h = tt
attr_last old lists page (i ∷ []) (step.Test a ∷ []) none h = tt
attr_last old lists page (i ∷ []) (step.Attr u ∷ []) none h = tt
attr_last old lists page (i ∷ []) (s ∷ t ∷ steps) none h = absurd h.1
attr_last old lists page (i ∷ j ∷ is) (s ∷ []) none h = absurd h.1
attr_last old lists page (i ∷ j ∷ is) (step.Role r ∷ t ∷ steps) none h =
    attr_last (after old (step_judged false page i)) lists page (j ∷ is) (t ∷ steps) (none_parts old (step_judged false page i) (steps_judged page (j ∷ is)) none).1 h.1
attr_last old lists page (i ∷ j ∷ is) (step.Test a ∷ t ∷ steps) none h =
    attr_last (after old (step_judged false page i)) lists page (j ∷ is) (t ∷ steps) (none_parts old (step_judged false page i) (steps_judged page (j ∷ is)) none).1 h.1
attr_last old lists page (i ∷ j ∷ is) (step.Attr u ∷ t ∷ steps) none h =
    not_last old page i h.0.1.0 h.0.0 h.0.1.1 (none_parts old (step_judged false page i) (steps_judged page (j ∷ is)) none).0

-- a list that is not empty has an element
has_some : {X : Type 0} (xs : List X) → (xs ≡ [] → ⊥) → 1 ≤ length xs
has_some [] h = absurd (h refl)
has_some (x ∷ xs) h = omega arith

path_kept : (old : Lists) (lists : Lists) (page : Page) (item : Item) (path : List Step)
    → first_breach old (path_judged page item) ≡ None → IsPath lists page item path → HasPathForm path
path_kept old lists page item path none h =
    let inside = sym (ap (λ what. first_breach old (path_said page what)) h.1.1) ∙ none in
    let led = not_broken old (some_leads page h.0) (steps_judged page h.0) Shape h.1.0 inside in
    record { long = has_some (along path) (some_along lists page h.0 path h.2 led.0); last = attr_last old lists page h.0 path led.1 h.2 }

-- paths lead somewhere, and have attributes only at their ends
pub paths_kept : (old : Lists) (lists : Lists) (page : Page) (items : List Item) (paths : List (List Step))
    → first_breach old (paths_judged page items) ≡ None → AreEach (IsPath lists page) items paths → AllByRecursion HasPathForm paths
paths_kept old lists page [] [] none h = tt
paths_kept old lists page [] (p ∷ ps) none h = absurd h
paths_kept old lists page (i ∷ is) [] none h = absurd h
paths_kept old lists page (i ∷ is) (p ∷ ps) none h =
    let parts = none_parts old (path_judged page i) (paths_judged page is) none in
    (path_kept old lists page i p parts.0 h.0, paths_kept (after old (path_judged page i)) lists page is ps parts.1 h.1)

few_class : (old : Lists) (lists : Lists) (page : Page) (number : ℕ) (before known : Variables) (at : ℕ) (items : List Item) (a : Name) (x : Arg)
    → IsClassOf lists page known items a x → first_breach old (class_atom page number before at items) ≡ None → nat_lt number MOST_ATOMS ≡ true
few_class old lists page number before known at [] a x h none = absurd h
few_class old lists page number before known at (i ∷ []) a x h none = absurd h
few_class old lists page number before known at (i ∷ j ∷ []) a x h none = (not_broken old (nat_lt number MOST_ATOMS) _ _ at none).0
few_class old lists page number before known at (i ∷ j ∷ k ∷ ks) a x h none = absurd h

few_role : (old : Lists) (lists : Lists) (page : Page) (number : ℕ) (before known : Variables) (at : ℕ) (items : List Item) (p : Name) (x y : Arg)
    → IsRoleOf lists page known items p x y → first_breach old (role_atom page number before at items) ≡ None → nat_lt number MOST_ATOMS ≡ true
few_role old lists page number before known at [] p x y h none = absurd h
few_role old lists page number before known at (i ∷ []) p x y h none = absurd h
few_role old lists page number before known at (i ∷ j ∷ []) p x y h none = absurd h
few_role old lists page number before known at (i ∷ j ∷ k ∷ []) p x y h none = (not_broken old (nat_lt number MOST_ATOMS) _ _ at none).0
few_role old lists page number before known at (i ∷ j ∷ k ∷ l ∷ ls) p x y h none = absurd h

few_attr : (dates : Dates) (old : Lists) (lists : Lists) (page : Page) (number : ℕ) (before known : Variables) (at : ℕ) (items : List Item) (u : Name) (x y : Arg)
    → IsAttrAtomOf dates lists page known items u x y → first_breach old (attr_atom dates page number before at items) ≡ None → nat_lt number MOST_ATOMS ≡ true
few_attr dates old lists page number before known at [] u x y h none = absurd h
few_attr dates old lists page number before known at (i ∷ []) u x y h none = absurd h
few_attr dates old lists page number before known at (i ∷ j ∷ []) u x y h none = absurd h
few_attr dates old lists page number before known at (i ∷ j ∷ k ∷ []) u x y h none = (not_broken old (nat_lt number MOST_ATOMS) _ _ at none).0
few_attr dates old lists page number before known at (i ∷ j ∷ k ∷ l ∷ ls) u x y h none = absurd h

few_atom : (dates : Dates) (old : Lists) (lists : Lists) (page : Page) (number : ℕ) (before known : Variables) (item : Item) (g : Atom)
    → IsAtom dates lists page known item g → first_breach old (atom_judged dates page number before item) ≡ None → nat_lt number MOST_ATOMS ≡ true
few_atom dates old lists page number before known item (atom.Class a x) h none =
    few_class old lists page number before known h.1.0 h.0 a x h.2 (sym (ap (λ what. first_breach old (atom_said dates page number before what)) h.1.1) ∙ none)
few_atom dates old lists page number before known item (atom.Role p x y) h none =
    few_role old lists page number before known h.1.0 h.0 p x y h.2 (sym (ap (λ what. first_breach old (atom_said dates page number before what)) h.1.1) ∙ none)
few_atom dates old lists page number before known item (atom.Attr u x y) h none =
    few_attr dates old lists page number before known h.1.0 h.0 u x y h.2 (sym (ap (λ what. first_breach old (atom_said dates page number before what)) h.1.1) ∙ none)

one_more : (number rest : ℕ) → suc number + rest ≤ MOST_ATOMS → number + suc rest ≤ MOST_ATOMS
one_more number rest h = grind (arith, h)

within : (number : ℕ) → nat_lt number MOST_ATOMS ≡ true → suc number ≤ MOST_ATOMS
within number h = grind (arith, h)

-- atoms are few
pub few_atoms : (dates : Dates) (old : Lists) (lists : Lists) (page : Page) (number : ℕ) (before known : Variables) (items : List Item) (atoms : List Atom)
    → number ≤ MOST_ATOMS → AreEach (IsAtom dates lists page known) items atoms → first_breach old (atoms_from dates page number before items) ≡ None
    → number + length atoms ≤ MOST_ATOMS
few_atoms dates old lists page number before known [] [] few h none = grind (arith, few)
few_atoms dates old lists page number before known [] (g ∷ gs) few h none = absurd h
few_atoms dates old lists page number before known (i ∷ is) [] few h none = absurd h
few_atoms dates old lists page number before known (i ∷ is) (g ∷ gs) few h none =
    let parts = none_parts old (atom_judged dates page number before i) (atoms_from dates page (suc number) (with_atom page before (says page i)) is) none in
    let less = within number (few_atom dates old lists page number before known i g h.0 parts.0) in
    one_more number (length gs) (few_atoms dates (after old (atom_judged dates page number before i)) lists page (suc number) (with_atom page before (says page i)) known is gs less h.1 parts.1)
