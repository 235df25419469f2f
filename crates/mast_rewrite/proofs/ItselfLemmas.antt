-- An atom meets itself at itself, and the replacement changes nothing.
use Rattle.std.proofs.Common.{◌≡◌, ℕ, List, Bool, true, false, nat_eq, Option, Some, None, refl, ap, ◌∙◌}
use borrow.Author.Tests.{eqb-true, eq-eqb}
use Rattle.mast_terms.specs.declared.name.Name.{Name}
use Rattle.mast_cq.specs.declared.atom.Arg.{Arg}
use Rattle.mast_cq.specs.declared.atom.Arg.TheVariants.{Blank, Var, Constant}
use Rattle.mast_cq.specs.declared.atom.Atom.{Atom}
use Rattle.mast_cq.specs.declared.atom.Atom.TheVariants.{Class, Role, Attr}
use Rattle.mast_cq.specs.Unification.{Replacement, replace_arg, only, wins, unify_args, fuller, after, Meeting, meeting_of_one, meeting_of_two, meeting_of_pairs}
use Rattle.mast_rewrite.specs.ClosureLaws.{ChangesNothing, MeetsItself}

only_case : (n k : ℕ) (b : Bool) → nat_eq n k ≡ b → elim b [ true ↦ Var n | false ↦ Var k ] ≡ Var k
only_case n k true e = ap Var (eqb-true n k e)
only_case n k false e = refl

-- a replacement that makes an argument one with itself, and changes nothing
record Alone (o : Option Replacement) : Type 0 where
  by : Replacement
  is : o ≡ Some by
  same : ChangesNothing by

var_alone : (n : ℕ) (b : Bool) → Alone (elim b [ true ↦ Some (only n (Var n)) | false ↦ Some (only n (Var n)) ])
var_alone n true = record { by = only n (Var n); is = refl; same = λ k. only_case n k (nat_eq n k) refl }
var_alone n false = record { by = only n (Var n); is = refl; same = λ k. only_case n k (nat_eq n k) refl }

alone : (answer : List Arg) (x : Arg) → Alone (unify_args answer x x)
alone answer Blank = record { by = Var; is = refl; same = λ k. refl }
alone answer (Var n) = var_alone n (wins answer n n)
alone answer (Constant c) = record { by = Var; is = ap (λ b. elim b [ true ↦ Some Var | false ↦ None ]) (eq-eqb c c refl); same = λ k. refl }

unchanged : (r : Replacement) → ChangesNothing r → (x : Arg) → replace_arg r x ≡ x
unchanged r same Blank = refl
unchanged r same (Var n) = same n
unchanged r same (Constant c) = refl

fuller_same : (x : Arg) → fuller x x ≡ x
fuller_same Blank = refl
fuller_same (Var n) = refl
fuller_same (Constant c) = refl

both_same : (r : Replacement) → ChangesNothing r → (x : Arg) → fuller (replace_arg r x) (replace_arg r x) ≡ x
both_same r same x = rw (unchanged r same x) (fuller_same x)

after_same : (r p : Replacement) → ChangesNothing r → ChangesNothing p → ChangesNothing (after r p)
after_same r p a b n = ap (replace_arg p) (a n) ∙ b n

-- a meeting of two arguments twice over
record Pair (form : Arg → Arg → Atom) (x y : Arg) (o : Option Meeting) : Type 0 where
  by : Meeting
  is : o ≡ Some by
  same : ChangesNothing by.replacement
  atom : by.atom ≡ form x y

two_alone : (form : Arg → Arg → Atom) (x y : Arg) (r : Replacement) (o : Option Replacement) → ChangesNothing r → Alone o → Pair form x y (meeting_of_two form x y x y r o)
two_alone form x y r o same w =
    let k = after_same r w.by same w.same in
    record {
      by = record { replacement = after r w.by; atom = form (fuller (replace_arg (after r w.by) x) (replace_arg (after r w.by) x)) (fuller (replace_arg (after r w.by) y) (replace_arg (after r w.by) y)) };
      is = ap (meeting_of_two form x y x y r) w.is;
      same = k;
      atom = ap (λ z. form z (fuller (replace_arg (after r w.by) y) (replace_arg (after r w.by) y))) (both_same (after r w.by) k x) ∙ ap (form x) (both_same (after r w.by) k y);
    }

pairs_alone : (answer : List Arg) (form : Arg → Arg → Atom) (x y : Arg) (o : Option Replacement) → Alone o → Pair form x y (meeting_of_pairs answer form x y x y o)
pairs_alone answer form x y o w =
    let v = alone answer (replace_arg w.by y) in
    let t = two_alone form x y w.by (unify_args answer (replace_arg w.by y) (replace_arg w.by y)) w.same v in
    record { by = t.by; is = ap (meeting_of_pairs answer form x y x y) w.is ∙ t.is; same = t.same; atom = t.atom }

named : (a : Name) (o : Option Meeting) (m : Meeting) → o ≡ Some m → elim (nat_eq a.0 a.0) [ true ↦ o | false ↦ None ] ≡ Some m
named a o m e = ap (λ b. elim b [ true ↦ o | false ↦ None ]) (eq-eqb a.0 a.0 refl) ∙ e

-- an atom meets itself at itself, and the replacement changes nothing
pub meets_itself : (answer : List Arg) (g : Atom) → MeetsItself answer g
meets_itself answer (Class a x) =
    let w = alone answer x in
    record {
      by = record { replacement = w.by; atom = Class a (fuller (replace_arg w.by x) (replace_arg w.by x)) };
      meets = named a (meeting_of_one (Class a) x x (unify_args answer x x)) _ (ap (meeting_of_one (Class a) x x) w.is);
      changes_nothing = w.same;
      at_itself = ap (Class a) (both_same w.by w.same x);
    }
meets_itself answer (Role a x y) =
    let w = pairs_alone answer (Role a) x y (unify_args answer x x) (alone answer x) in
    record { by = w.by; meets = named a (meeting_of_pairs answer (Role a) x y x y (unify_args answer x x)) w.by w.is; changes_nothing = w.same; at_itself = w.atom }
meets_itself answer (Attr a x y) =
    let w = pairs_alone answer (Attr a) x y (unify_args answer x x) (alone answer x) in
    record { by = w.by; meets = named a (meeting_of_pairs answer (Attr a) x y x y (unify_args answer x x)) w.by w.is; changes_nothing = w.same; at_itself = w.atom }
