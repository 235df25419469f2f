-- A meeting moves no variable but those of its atoms.
use Rattle.std.proofs.Common.{◌≡◌, ℕ, List, Bool, true, false, nat_eq, Some, None, Option, ◌⊎◌, inl, inr, sym, refl, ap, subst, ◌∙◌}
use borrow.Author.Tests.{eqb-true}
use Rattle.mast_cq.specs.declared.atom.Arg.{Arg}
use Rattle.mast_cq.specs.declared.atom.Arg.TheVariants.{Blank, Var, Constant}
use Rattle.mast_cq.specs.declared.atom.Atom.{Atom}
use Rattle.mast_cq.specs.declared.atom.Atom.TheVariants.{Class, Role, Attr}
use Rattle.mast_cq.specs.NormalForms.{Occurs}
use Rattle.mast_cq.specs.Unification.{Replacement, replace_arg, only, wins, unify_args, Meeting, after, meeting_of_one, meeting_of_two, meeting_of_pairs, meeting}

-- r moves nothing but a and b
abbrev pub Fixes : Arg → Arg → Replacement → Type 0
Fixes a b r = (n : ℕ) → (a ≡ Var n → ⊥) → (b ≡ Var n → ⊥) → r n ≡ Var n

-- and gives what it moves to a, to b or to itself
abbrev pub Stays : Arg → Arg → Replacement → Type 0
Stays a b r = (n : ℕ) → (r n ≡ Var n) ⊎ ((r n ≡ a) ⊎ (r n ≡ b))

-- both: it is the identity elsewhere
pub record Tame (a b : Arg) (r : Replacement) : Type 0 where
  pub fixes : Fixes a b r
  pub stays : Stays a b r

tame_var : (a b : Arg) → Tame a b Var
tame_var a b = record { fixes = λ n f g. refl; stays = λ n. inl refl }

only_fixes : (x : ℕ) (c : Arg) (n : ℕ) (b : Bool) → nat_eq x n ≡ b → (x ≡ n → ⊥) → elim b [ true ↦ c | false ↦ Var n ] ≡ Var n
only_fixes x c n true e f = absurd (f (eqb-true x n e))
only_fixes x c n false e f = refl

only_stays : (x : ℕ) (c : Arg) (n : ℕ) (b : Bool) → (elim b [ true ↦ c | false ↦ Var n ] ≡ Var n) ⊎ (elim b [ true ↦ c | false ↦ Var n ] ≡ c)
only_stays x c n true = inr refl
only_stays x c n false = inl refl

tame_left : (x : ℕ) (c : Arg) → Tame (Var x) c (only x c)
tame_left x c = record {
  fixes = λ n f g. only_fixes x c n (nat_eq x n) refl (λ e. f (ap Var e));
  stays = λ n. elim (only_stays x c n (nat_eq x n)) [ inl e ↦ inl e | inr e ↦ inr (inr e) ];
}

tame_right : (x : ℕ) (c : Arg) → Tame c (Var x) (only x c)
tame_right x c = record {
  fixes = λ n f g. only_fixes x c n (nat_eq x n) refl (λ e. g (ap Var e));
  stays = λ n. elim (only_stays x c n (nat_eq x n)) [ inl e ↦ inl e | inr e ↦ inr (inl e) ];
}

tame_some : (a b : Arg) (q r : Replacement) → Tame a b q → Some q ≡ Some r → Tame a b r
tame_some a b q r t e = subst (Tame a b) (let f : q ≡ r = cc in f) t

tame_choice : (x y : ℕ) (b : Bool) (r : Replacement) → elim b [ true ↦ Some (only y (Var x)) | false ↦ Some (only x (Var y)) ] ≡ Some r → Tame (Var x) (Var y) r
tame_choice x y true r e = tame_some (Var x) (Var y) (only y (Var x)) r (tame_right y (Var x)) e
tame_choice x y false r e = tame_some (Var x) (Var y) (only x (Var y)) r (tame_left x (Var y)) e

tame_constants : (c d : ℕ) (b : Bool) (r : Replacement) → elim b [ true ↦ Some Var | false ↦ None ] ≡ Some r → Tame (Constant c) (Constant d) r
tame_constants c d true r e = tame_some (Constant c) (Constant d) Var r (tame_var (Constant c) (Constant d)) e
tame_constants c d false r e = cc

-- unifying two arguments moves nothing but them, and gives what it moves to one of them
pub tame : (answer : List Arg) (a b : Arg) (r : Replacement) → unify_args answer a b ≡ Some r → Tame a b r
tame answer Blank b r e = tame_some Blank b Var r (tame_var Blank b) e
tame answer (Var x) Blank r e = tame_some (Var x) Blank Var r (tame_var (Var x) Blank) e
tame answer (Var x) (Var y) r e = tame_choice x y (wins answer x y) r e
tame answer (Var x) (Constant c) r e = tame_some (Var x) (Constant c) (only x (Constant c)) r (tame_left x (Constant c)) e
tame answer (Constant c) Blank r e = tame_some (Constant c) Blank Var r (tame_var (Constant c) Blank) e
tame answer (Constant c) (Var y) r e = tame_some (Constant c) (Var y) (only y (Constant c)) r (tame_right y (Constant c)) e
tame answer (Constant c) (Constant d) r e = tame_constants c d (nat_eq c d) r e

-- the variable does not stand in the atom
abbrev Free : ℕ → Atom → Type 0
Free n g = Occurs n g → ⊥

one_fixed : (x y : Arg) (form : Arg → Atom) (n : ℕ) (M : Meeting) (o : Option Replacement) → ((r : Replacement) → o ≡ Some r → Tame x y r) → (x ≡ Var n → ⊥) → (y ≡ Var n → ⊥)
    → meeting_of_one form x y o ≡ Some M → M.replacement n ≡ Var n
one_fixed x y form n M None t f g e = cc
one_fixed x y form n M (Some r) t f g e = let k : r ≡ M.replacement = replacement_of e in rw (← k) ((t r refl).fixes n f g)
  where
    replacement_of : {A : Atom} {q : Replacement} → Some (record { replacement = q; atom = A }) ≡ Some M → q ≡ M.replacement
    replacement_of e = cc

-- what a tame replacement gives an argument is no new variable
not_new : (a b y : Arg) (r : Replacement) (n : ℕ) → Tame a b r → (a ≡ Var n → ⊥) → (b ≡ Var n → ⊥) → (y ≡ Var n → ⊥) → replace_arg r y ≡ Var n → ⊥
not_new a b Blank r n t f g h e = cc
not_new a b (Var m) r n t f g h e = elim (t.stays m) [
  | inl i ↦ h (sym i ∙ e)
  | inr j ↦ elim j [ inl i ↦ f (sym i ∙ e) | inr i ↦ g (sym i ∙ e) ]
]
not_new a b (Constant c) r n t f g h e = cc

two_fixed : (x y z w : Arg) (form : Arg → Arg → Atom) (n : ℕ) (M : Meeting) (r : Replacement) (o : Option Replacement) → Tame x z r
    → ((q : Replacement) → o ≡ Some q → Tame (replace_arg r y) (replace_arg r w) q)
    → (x ≡ Var n → ⊥) → (y ≡ Var n → ⊥) → (z ≡ Var n → ⊥) → (w ≡ Var n → ⊥) → meeting_of_two form x y z w r o ≡ Some M → M.replacement n ≡ Var n
two_fixed x y z w form n M r None t u fx fy fz fw e = cc
two_fixed x y z w form n M r (Some q) t u fx fy fz fw e =
    let k : after r q ≡ M.replacement = replacement_of e in
    let a : r n ≡ Var n = t.fixes n fx fz in
    let b : q n ≡ Var n = (u q refl).fixes n (not_new x z y r n t fx fz fy) (not_new x z w r n t fx fz fw) in
    subst (λ p. p n ≡ Var n) k (ap (replace_arg q) a ∙ b)
  where
    replacement_of : {A : Atom} {p : Replacement} → Some (record { replacement = p; atom = A }) ≡ Some M → p ≡ M.replacement
    replacement_of e = cc

pairs_fixed : (answer : List Arg) (x y z w : Arg) (form : Arg → Arg → Atom) (n : ℕ) (M : Meeting) (o : Option Replacement) → ((r : Replacement) → o ≡ Some r → Tame x z r)
    → (x ≡ Var n → ⊥) → (y ≡ Var n → ⊥) → (z ≡ Var n → ⊥) → (w ≡ Var n → ⊥) → meeting_of_pairs answer form x y z w o ≡ Some M → M.replacement n ≡ Var n
pairs_fixed answer x y z w form n M None t fx fy fz fw e = cc
pairs_fixed answer x y z w form n M (Some r) t fx fy fz fw e =
    two_fixed x y z w form n M r (unify_args answer (replace_arg r y) (replace_arg r w)) (t r refl) (λ q. tame answer (replace_arg r y) (replace_arg r w) q) fx fy fz fw e

name_case : (b : Bool) (o : Option Meeting) (M : Meeting) → elim b [ true ↦ o | false ↦ None ] ≡ Some M → o ≡ Some M
name_case true o M e = e
name_case false o M e = cc

-- a meeting moves no variable but those of its atoms
pub meeting_fixed : (answer : List Arg) (g h : Atom) (M : Meeting) (n : ℕ) → meeting answer g h ≡ Some M → Free n g → Free n h → M.replacement n ≡ Var n
meeting_fixed answer (Class a x) (Class b y) M n e f k =
    one_fixed x y (Class a) n M (unify_args answer x y) (λ r. tame answer x y r) f k (name_case (nat_eq a.0 b.0) (meeting_of_one (Class a) x y (unify_args answer x y)) M e)
meeting_fixed answer (Role a x y) (Role b z w) M n e f k =
    pairs_fixed answer x y z w (Role a) n M (unify_args answer x z) (λ r. tame answer x z r) (λ i. f (inl i)) (λ i. f (inr i)) (λ i. k (inl i)) (λ i. k (inr i))
    (name_case (nat_eq a.0 b.0) (meeting_of_pairs answer (Role a) x y z w (unify_args answer x z)) M e)
meeting_fixed answer (Attr a x y) (Attr b z w) M n e f k =
    pairs_fixed answer x y z w (Attr a) n M (unify_args answer x z) (λ r. tame answer x z r) (λ i. f (inl i)) (λ i. f (inr i)) (λ i. k (inl i)) (λ i. k (inr i))
    (name_case (nat_eq a.0 b.0) (meeting_of_pairs answer (Attr a) x y z w (unify_args answer x z)) M e)
meeting_fixed answer (Class a x) (Role b z w) M n e f k = cc
meeting_fixed answer (Class a x) (Attr b z w) M n e f k = cc
meeting_fixed answer (Role a x y) (Class b z) M n e f k = cc
meeting_fixed answer (Role a x y) (Attr b z w) M n e f k = cc
meeting_fixed answer (Attr a x y) (Class b z) M n e f k = cc
meeting_fixed answer (Attr a x y) (Role b z w) M n e f k = cc
