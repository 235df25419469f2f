-- Variables that stand alone, and variables that stand in a second place.
use Rattle.std.proofs.Common.{◌≡◌, ℕ, zero, suc, ◌+◌, ◌<◌, ◌≤◌, List, [], ◌∷◌, Bool, true, false, nat_eq, Some, None, Option, ◌⊎◌, inl, inr, sym, refl, ap, subst, arith, ◌&&◌, ◌||◌, not}
use borrow.Author.Tests.{eqb-true, eq-eqb}
use Rattle.mast_cq.specs.declared.atom.Arg.{Arg}
use Rattle.mast_cq.specs.declared.atom.Arg.TheVariants.{Blank, Var, Constant}
use Rattle.mast_cq.specs.declared.atom.Atom.{Atom}
use Rattle.mast_cq.specs.declared.atom.Atom.TheVariants.{Class, Role, Attr}
use Rattle.mast_cq.specs.declared.query.Cq.{Cq}
use Rattle.mast_cq.specs.Queries.{has_var, or_else, Takes, first, later}
use Rattle.mast_cq.specs.NormalForms.{arg_uses, atom_uses, uses, alone, first_arg, first_atom, first_var, Occurs, Twice, Elsewhere, InAnswer, Spread}

-- where neither holds, each is false
pub or_false : (a b : Bool) → (a || b) ≡ false → (a ≡ false) × (b ≡ false)
or_false true b e = absurd (cc)
or_false false b e = (refl, e)

not_true : (a : Bool) → not a ≡ true → a ≡ false
not_true true e = cc
not_true false e = refl

and_true : (a b : Bool) → (a && b) ≡ true → (a ≡ true) × (b ≡ true)
and_true true b e = (refl, e)
and_true false b e = absurd (cc)

-- a variable that is alone is no answer, and stands in one place
pub alone_parts : (answer : List Arg) (gs : List Atom) (n : ℕ) → alone answer gs n ≡ true → (has_var answer n ≡ false) × (uses n gs ≡ 1)
alone_parts answer gs n e = let k = and_true (not (has_var answer n)) (nat_eq (uses n gs) 1) e in (not_true (has_var answer n) k.0, eqb-true (uses n gs) 1 k.1)

first_arg_true : (t : ℕ → Bool) (m n : ℕ) (b : Bool) → t m ≡ b → elim b [ true ↦ Some m | false ↦ None ] ≡ Some n → t n ≡ true
first_arg_true t m n true e h = let k : m ≡ n = cc in rw (← k) e
first_arg_true t m n false e h = cc

first_in_arg : (t : ℕ → Bool) (x : Arg) (n : ℕ) → first_arg t x ≡ Some n → t n ≡ true
first_in_arg t Blank n e = cc
first_in_arg t (Var m) n e = first_arg_true t m n (t m) refl e
first_in_arg t (Constant c) n e = cc

or_else_some : (t : ℕ → Bool) (a b : Option ℕ) (n : ℕ) → (a ≡ Some n → t n ≡ true) → (b ≡ Some n → t n ≡ true) → or_else a b ≡ Some n → t n ≡ true
or_else_some t None b n h k e = k e
or_else_some t (Some x) b n h k e = h e

first_in_atom : (t : ℕ → Bool) (g : Atom) (n : ℕ) → first_atom t g ≡ Some n → t n ≡ true
first_in_atom t (Class a x) n e = first_in_arg t x n e
first_in_atom t (Role a x y) n e = or_else_some t (first_arg t x) (first_arg t y) n (first_in_arg t x n) (first_in_arg t y n) e
first_in_atom t (Attr a x y) n e = or_else_some t (first_arg t x) (first_arg t y) n (first_in_arg t x n) (first_in_arg t y n) e

-- the first variable that passes a test passes it
pub first_true : (t : ℕ → Bool) (gs : List Atom) (n : ℕ) → first_var t gs ≡ Some n → t n ≡ true
first_true t [] n e = cc
first_true t (g ∷ gs) n e = or_else_some t (first_atom t g) (first_var t gs) n (first_in_atom t g n) (first_true t gs n) e

or_else_none : (a b : Option ℕ) → or_else a b ≡ None → (a ≡ None) × (b ≡ None)
or_else_none None b e = (refl, e)
or_else_none (Some x) b e = absurd (cc)

none_case : (n : ℕ) (b : Bool) → ◌≡◌ {A = Option ℕ} (elim b [ true ↦ Some n | false ↦ None ]) None → b ≡ false
none_case n true e = cc
none_case n false e = refl

none_arg : (t : ℕ → Bool) (x : Arg) (n : ℕ) → first_arg t x ≡ None → x ≡ Var n → t n ≡ false
none_arg t x n e v = none_case n (t n) (rw v at e)

none_pair : (t : ℕ → Bool) (x y : Arg) (n : ℕ) → or_else (first_arg t x) (first_arg t y) ≡ None → (x ≡ Var n) ⊎ (y ≡ Var n) → t n ≡ false
none_pair t x y n e (inl v) = none_arg t x n (or_else_none (first_arg t x) (first_arg t y) e).0 v
none_pair t x y n e (inr v) = none_arg t y n (or_else_none (first_arg t x) (first_arg t y) e).1 v

none_atom : (t : ℕ → Bool) (g : Atom) (n : ℕ) → first_atom t g ≡ None → Occurs n g → t n ≡ false
none_atom t (Class a x) n e o = none_arg t x n e o
none_atom t (Role a x y) n e o = none_pair t x y n e o
none_atom t (Attr a x y) n e o = none_pair t x y n e o

none_list : (t : ℕ → Bool) (n : ℕ) {gs : List Atom} {g : Atom} {rest : List Atom} → Takes gs g rest → first_var t gs ≡ None → Occurs n g → t n ≡ false
none_list t n (first {x = g} {xs = gs}) e o = none_atom t g n (or_else_none (first_atom t g) (first_var t gs) e).0 o
none_list t n (later {y = i} {xs = gs} tk) e o = none_list t n tk (or_else_none (first_atom t i) (first_var t gs) e).1 o

-- a variable that stands in two places
pub uses_takes : (n : ℕ) {gs : List Atom} {g : Atom} {rest : List Atom} → Takes gs g rest → uses n gs ≡ atom_uses n g + uses n rest
uses_takes n first = refl
uses_takes n (later t) = let k = uses_takes n t in omega arith

uses_var_case : (m n : ℕ) (b : Bool) → nat_eq m n ≡ b → 0 < elim b [ true ↦ 1 | false ↦ 0 ] → m ≡ n
uses_var_case m n true e l = eqb-true m n e
uses_var_case m n false e l = absurd (omega arith)

uses_var : (n : ℕ) (x : Arg) → 0 < arg_uses n x → x ≡ Var n
uses_var n Blank l = absurd (omega arith)
uses_var n (Var m) l = ap Var (uses_var_case m n (nat_eq m n) refl l)
uses_var n (Constant c) l = absurd (omega arith)

uses_most_case : (b : Bool) → elim b [ true ↦ 1 | false ↦ 0 ] ≤ 1
uses_most_case true = omega arith
uses_most_case false = omega arith

uses_most : (n : ℕ) (x : Arg) → arg_uses n x ≤ 1
uses_most n Blank = omega arith
uses_most n (Var m) = uses_most_case (nat_eq m n)
uses_most n (Constant c) = omega arith

uses_here : (n : ℕ) (x : Arg) → x ≡ Var n → arg_uses n x ≡ 1
uses_here n x e = rw e (ap (λ b. elim b [ true ↦ 1 | false ↦ 0 ]) (eq-eqb n n refl))

uses_pos : (n : ℕ) (g : Atom) → Occurs n g → 0 < atom_uses n g
uses_pos n (Class a x) o = let k = uses_here n x o in omega arith
uses_pos n (Role a x y) (inl o) = let k = uses_here n x o in omega arith
uses_pos n (Role a x y) (inr o) = let k = uses_here n y o in omega arith
uses_pos n (Attr a x y) (inl o) = let k = uses_here n x o in omega arith
uses_pos n (Attr a x y) (inr o) = let k = uses_here n y o in omega arith

uses_twice : (n : ℕ) (g : Atom) → 1 < atom_uses n g → Twice n g
uses_twice n (Class a x) l = let k = uses_most n x in absurd (omega arith)
uses_twice n (Role a x y) l = let k = uses_most n x in let j = uses_most n y in (uses_var n x (omega arith), uses_var n y (omega arith))
uses_twice n (Attr a x y) l = let k = uses_most n x in let j = uses_most n y in (uses_var n x (omega arith), uses_var n y (omega arith))

uses_occurs : (n : ℕ) (g : Atom) → 0 < atom_uses n g → Occurs n g
uses_occurs n (Class a x) l = uses_var n x l
uses_occurs n (Role a x y) l = go (arg_uses n x) refl
  where
    go : (k : ℕ) → arg_uses n x ≡ k → (x ≡ Var n) ⊎ (y ≡ Var n)
    go zero e = inr (uses_var n y (omega arith))
    go (suc k) e = inl (uses_var n x (omega arith))
uses_occurs n (Attr a x y) l = go (arg_uses n x) refl
  where
    go : (k : ℕ) → arg_uses n x ≡ k → (x ≡ Var n) ⊎ (y ≡ Var n)
    go zero e = inr (uses_var n y (omega arith))
    go (suc k) e = inl (uses_var n x (omega arith))

uses_elsewhere_case : (n : ℕ) (g : Atom) (gs : List Atom) (k : ℕ) → atom_uses n g ≡ k → 0 < k + uses n gs → (0 < uses n gs → Elsewhere n gs) → Elsewhere n (g ∷ gs)
uses_elsewhere_case n g gs zero e l ih = let w = ih (omega arith) in record { atom = w.atom; rest = g ∷ w.rest; takes = later w.takes; occurs = w.occurs }
uses_elsewhere_case n g gs (suc k) e l ih = record { atom = g; rest = gs; takes = first; occurs = uses_occurs n g (omega arith) }

pub uses_elsewhere : (n : ℕ) (gs : List Atom) → 0 < uses n gs → Elsewhere n gs
uses_elsewhere n [] l = absurd (omega arith)
uses_elsewhere n (g ∷ gs) l = uses_elsewhere_case n g gs (atom_uses n g) refl l (uses_elsewhere n gs)

-- the answer list has the variable where the test says so
has_var_case : (answer : List Arg) (m n : ℕ) (b : Bool) → nat_eq m n ≡ b → (b || has_var answer n) ≡ true → (has_var answer n ≡ true → InAnswer n answer) → InAnswer n (Var m ∷ answer)
has_var_case answer m n true e h k = record { rest = answer; takes = subst (λ i. Takes (Var m ∷ answer) (Var i) answer) (eqb-true m n e) first }
has_var_case answer m n false e h k = let w = k h in record { rest = Var m ∷ w.rest; takes = later w.takes }

has_var_in : (answer : List Arg) (n : ℕ) → has_var answer n ≡ true → InAnswer n answer
has_var_in [] n e = cc
has_var_in (Blank ∷ answer) n e = let w = has_var_in answer n e in record { rest = Blank ∷ w.rest; takes = later w.takes }
has_var_in (Constant c ∷ answer) n e = let w = has_var_in answer n e in record { rest = Constant c ∷ w.rest; takes = later w.takes }
has_var_in (Var m ∷ answer) n e = has_var_case answer m n (nat_eq m n) refl e (has_var_in answer n)

-- where no variable is alone, each that is no answer stands in a second place
pub spread_of : (q : Cq) → first_var (alone q.answer q.atoms) q.atoms ≡ None → Spread q
spread_of q e n g rest t o = go (has_var q.answer n) refl
  where
    not_one : (b : Bool) → b ≡ has_var q.answer n → b ≡ false → uses n q.atoms ≡ 1 → ⊥
    not_one b f z u =
        let k : alone q.answer q.atoms n ≡ true = rw (← f, z, eq-eqb (uses n q.atoms) 1 u) refl in
        let j : alone q.answer q.atoms n ≡ false = none_list (alone q.answer q.atoms) n t e o in
        cc

    second : (k : ℕ) → atom_uses n g ≡ k → (uses n q.atoms ≡ 1 → ⊥) → Twice n g ⊎ Elsewhere n rest
    second zero h u = let p = uses_pos n g o in absurd (omega arith)
    second (suc zero) h u = let s = uses_takes n t in inr (uses_elsewhere n rest (positive (uses n rest) refl))
      where
        positive : (r : ℕ) → uses n rest ≡ r → 0 < uses n rest
        positive zero f = let s = uses_takes n t in absurd (u (omega arith))
        positive (suc r) f = omega arith
    second (suc (suc k)) h u = inl (uses_twice n g (omega arith))

    go : (b : Bool) → b ≡ has_var q.answer n → InAnswer n q.answer ⊎ (Twice n g ⊎ Elsewhere n rest)
    go true f = inl (has_var_in q.answer n (sym f))
    go false f = inr (second (atom_uses n g) refl (not_one false f refl))

-- where no variable is alone, none outside the answer list stands exactly once
pub alone_none : (answer : List Arg) (gs : List Atom) (n : ℕ) → first_var (alone answer gs) gs ≡ None → has_var answer n ≡ false → uses n gs ≡ 1 → ⊥
alone_none answer gs n e h u =
    let w = uses_elsewhere n gs (omega arith) in
    let k : alone answer gs n ≡ true = rw (h, eq-eqb (uses n gs) 1 u) refl in
    let j : alone answer gs n ≡ false = none_list (alone answer gs) n w.takes e w.occurs in
    cc
