-- What a variable becomes is the variable, or wins over it.
use Rattle.std.proofs.Common.{◌≡◌, ℕ, ◌≤◌, List, Bool, true, false, nat_eq, nat_lt, ◌&&◌, ◌||◌, not, Some, None, Option, ◌⊎◌, inl, inr, sym, refl, subst, arith}
use borrow.Author.Tests.{eqb-true, ltb-true, ltb-false, lt-ltb}
use Rattle.mast_cq.specs.declared.atom.Arg.{Arg}
use Rattle.mast_cq.specs.declared.atom.Arg.TheVariants.{Blank, Var, Constant}
use Rattle.mast_cq.specs.declared.atom.Atom.{Atom}
use Rattle.mast_cq.specs.declared.atom.Atom.TheVariants.{Class, Role, Attr}
use Rattle.mast_cq.specs.Queries.{has_var}
use Rattle.mast_cq.specs.Unification.{Replacement, replace_arg, only, wins, unify_args, Meeting, after, meeting_of_one, meeting_of_two, meeting_of_pairs, meeting}
use Rattle.mast_cq.specs.UnifierMeanings.{Beats}

-- x wins over y, where it is told of each whether it is an answer
abbrev Better : Bool → Bool → ℕ → ℕ → Bool
Better p q x y = elim p [ true ↦ not q || nat_lt x y | false ↦ not q && nat_lt x y ]

-- of two numbers that are not less one way, they are equal or less the other way
less_case : (x y : ℕ) → y ≤ x → (b : Bool) → nat_lt y x ≡ b → (y ≡ x) ⊎ (nat_lt y x ≡ true)
less_case x y l true e = inr e
less_case x y l false e = let m = ltb-false y x e in inl (omega arith)

less_other : (x y : ℕ) → nat_lt x y ≡ false → (y ≡ x) ⊎ (nat_lt y x ≡ true)
less_other x y e = less_case x y (ltb-false x y e) (nat_lt y x) refl

better_other : (p q : Bool) (x y : ℕ) → Better p q x y ≡ false → (y ≡ x) ⊎ (Better q p y x ≡ true)
better_other true true x y e = less_other x y e
better_other true false x y e = cc
better_other false true x y e = inr refl
better_other false false x y e = less_other x y e

less_trans : (x y z : ℕ) → nat_lt x y ≡ true → nat_lt y z ≡ true → nat_lt x z ≡ true
less_trans x y z e f = let l = ltb-true x y e in let m = ltb-true y z f in lt-ltb x z (omega arith)

better_trans : (p q r : Bool) (x y z : ℕ) → Better p q x y ≡ true → Better q r y z ≡ true → Better p r x z ≡ true
better_trans true true true x y z e f = less_trans x y z e f
better_trans true true false x y z e f = refl
better_trans true false true x y z e f = cc
better_trans true false false x y z e f = refl
better_trans false true r x y z e f = cc
better_trans false false true x y z e f = cc
better_trans false false false x y z e f = less_trans x y z e f

module _ (answer : List Arg) where
  -- each variable becomes what beats it
  abbrev Best : Replacement → Type 0
  Best r = (n : ℕ) → Beats answer (r n) n

  best_var : Best Var
  best_var n = inl refl

  only_case : (x : ℕ) (a : Arg) (n : ℕ) (b : Bool) → nat_eq x n ≡ b → Beats answer a x → Beats answer (elim b [ true ↦ a | false ↦ Var n ]) n
  only_case x a n true e h = subst (Beats answer a) (eqb-true x n e) h
  only_case x a n false e h = inl refl

  best_only : (x : ℕ) (a : Arg) → Beats answer a x → Best (only x a)
  best_only x a h n = only_case x a n (nat_eq x n) refl h

  beats_on : (a : Arg) (k n : ℕ) → Beats answer a k → wins answer k n ≡ true → Beats answer a n
  beats_on Blank k n h w = absurd h
  beats_on (Constant c) k n h w = tt
  beats_on (Var l) k n (inl e) w = inr (subst (λ m. wins answer m n ≡ true) (sym e) w)
  beats_on (Var l) k n (inr v) w = inr (better_trans (has_var answer l) (has_var answer k) (has_var answer n) l k n v w)

  beats_after : (q : Replacement) → Best q → (a : Arg) (n : ℕ) → Beats answer a n → Beats answer (replace_arg q a) n
  beats_after q k Blank n h = absurd h
  beats_after q k (Constant c) n h = tt
  beats_after q k (Var m) n (inl e) = subst (Beats answer (q m)) e (k m)
  beats_after q k (Var m) n (inr w) = beats_on (q m) m n (k m) w

  best_some : (q r : Replacement) → Best q → Some q ≡ Some r → Best r
  best_some q r k e = subst Best (let f : q ≡ r = cc in f) k

  best_choice : (x y : ℕ) (r : Replacement) (b : Bool) → wins answer x y ≡ b → elim b [ true ↦ Some (only y (Var x)) | false ↦ Some (only x (Var y)) ] ≡ Some r → Best r
  best_choice x y r true w e = best_some (only y (Var x)) r (best_only y (Var x) (inr w)) e
  best_choice x y r false w e = best_some (only x (Var y)) r (best_only x (Var y) (better_other (has_var answer x) (has_var answer y) x y w)) e

  best_constants : (r : Replacement) (b : Bool) → elim b [ true ↦ Some Var | false ↦ None ] ≡ Some r → Best r
  best_constants r true e = best_some Var r best_var e
  best_constants r false e = cc

  best_args : (a b : Arg) (r : Replacement) → unify_args answer a b ≡ Some r → Best r
  best_args Blank b r e = best_some Var r best_var e
  best_args (Var x) Blank r e = best_some Var r best_var e
  best_args (Var x) (Var y) r e = best_choice x y r (wins answer x y) refl e
  best_args (Var x) (Constant c) r e = best_some (only x (Constant c)) r (best_only x (Constant c) tt) e
  best_args (Constant c) Blank r e = best_some Var r best_var e
  best_args (Constant c) (Var y) r e = best_some (only y (Constant c)) r (best_only y (Constant c) tt) e
  best_args (Constant c) (Constant d) r e = best_constants r (nat_eq c d) e

  replacement_same : (r : Replacement) (g : Atom) (m : Meeting) → Some (record { replacement = r; atom = g }) ≡ Some m → r ≡ m.replacement
  replacement_same r g m e = cc

  best_one : (form : Arg → Atom) (x y : Arg) (m : Meeting) (o : Option Replacement) → ((r : Replacement) → o ≡ Some r → Best r) → meeting_of_one form x y o ≡ Some m → Best m.replacement
  best_one form x y m None k e = cc
  best_one form x y m (Some r) k e = subst Best (replacement_same r _ m e) (k r refl)

  best_two : (form : Arg → Arg → Atom) (x y z w : Arg) (m : Meeting) (r : Replacement) (o : Option Replacement) → Best r → ((q : Replacement) → o ≡ Some q → Best q)
      → meeting_of_two form x y z w r o ≡ Some m → Best m.replacement
  best_two form x y z w m r None h k e = cc
  best_two form x y z w m r (Some q) h k e = subst Best (replacement_same (after r q) _ m e) (λ n. beats_after q (k q refl) (r n) n (h n))

  best_pairs : (form : Arg → Arg → Atom) (x y z w : Arg) (m : Meeting) (o : Option Replacement) → ((r : Replacement) → o ≡ Some r → Best r) → meeting_of_pairs answer form x y z w o ≡ Some m → Best m.replacement
  best_pairs form x y z w m None k e = cc
  best_pairs form x y z w m (Some r) k e =
      best_two form x y z w m r (unify_args answer (replace_arg r y) (replace_arg r w)) (k r refl) (λ q. best_args (replace_arg r y) (replace_arg r w) q) e

  named : (b : Bool) (o : Option Meeting) (m : Meeting) → elim b [ true ↦ o | false ↦ None ] ≡ Some m → o ≡ Some m
  named true o m e = e
  named false o m e = cc

  -- what a variable becomes in a meeting is the variable, or wins over it
  pub best : (g h : Atom) (m : Meeting) → meeting answer g h ≡ Some m → Best m.replacement
  best (Class a x) (Class b y) m e = best_one (Class a) x y m (unify_args answer x y) (λ r. best_args x y r) (named (nat_eq a.0 b.0) _ m e)
  best (Role a x y) (Role b z w) m e = best_pairs (Role a) x y z w m (unify_args answer x z) (λ r. best_args x z r) (named (nat_eq a.0 b.0) _ m e)
  best (Attr a x y) (Attr b z w) m e = best_pairs (Attr a) x y z w m (unify_args answer x z) (λ r. best_args x z r) (named (nat_eq a.0 b.0) _ m e)
  best (Class a x) (Role b z w) m e = absurd (cc)
  best (Class a x) (Attr b z w) m e = absurd (cc)
  best (Role a x y) (Class b z) m e = absurd (cc)
  best (Role a x y) (Attr b z w) m e = absurd (cc)
  best (Attr a x y) (Class b z) m e = absurd (cc)
  best (Attr a x y) (Role b z w) m e = absurd (cc)
