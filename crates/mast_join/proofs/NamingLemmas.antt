-- Places of a query's variables, as they are found one after the other.
use Rattle.std.proofs.Common.{◌≡◌, ℕ, ◌+◌, ◌<◌, List, [], ◌∷◌, ◌++◌, length, get_or, take, sym, ap, subst}
use Rattle.std.specs.Prelude.{Option, Some, nat_eq, slice_get}
use Rattle.std.specs.List.{AllZip, IsDistinct}
use Rattle.std.proofs.lemmas.Bool.{eq-eqb}
use Rattle.std.proofs.lemmas.List.{take_more}
use Rattle.mast_cq.specs.declared.atom.Arg.{Arg}
use Rattle.mast_cq.specs.declared.atom.Arg.TheVariants.{Blank, Var, Constant}
use Rattle.mast_cq.specs.declared.atom.Atom.{Atom}
use Rattle.mast_cq.specs.declared.query.Cq.{Cq}
use Rattle.mast_terms.specs.Vocabularies.{EachOnce}
use Rattle.mast_terms.proofs.PlaceLemmas.{once}
use Rattle.mast_join.specs.declared.naming.Names.{Names}
use Rattle.mast_join.specs.Answers.{AreNumbersOf}
use Rattle.mast_join.specs.inside.Namings.{AreNames, IsFrontOf, IsNamed}
use Rattle.mast_join.specs.inside.Shapes.{variables}
use Rattle.mast_join.specs.inside.Values.{IsFront}
use Rattle.mast_join.proofs.NumberedLemmas.{numbers_append, numbers_kept, read_kept}

-- numbers of a front are numbers
pub numbers_on : {X : Type 0} (old new : List X) (numbers : List ℕ) (things : List X) → IsFront old new → AreNumbersOf old numbers things → AreNumbersOf new numbers things
numbers_on {X} old new numbers things p h = subst (λ (k : List X). AreNumbersOf k numbers things) (sym p.1) (numbers_kept old p.0 numbers things h)

-- the place of a variable stays
pub named_on : (old new : List ℕ) (arg : Arg) (place : ℕ) → IsFront old new → IsNamed old arg place → IsNamed new arg place
named_on old new Blank place p h = tt
named_on old new (Var x) place p h = subst (λ (k : List ℕ). slice_get k place ≡ Some x) (sym p.1) (read_kept old p.0 place x h)
named_on old new (Constant c) place p h = tt

-- what holds place by place is kept where each is
pub zip_on : {A B : Type 0} (P Q : A → B → Type 0) (xs : List A) (ys : List B) → ((x : A) (y : B) → P x y → Q x y) → AllZip P xs ys → AllZip Q xs ys
zip_on P Q [] [] k z = tt
zip_on P Q [] (y ∷ ys) k z = absurd z
zip_on P Q (x ∷ xs) [] k z = absurd z
zip_on P Q (x ∷ xs) (y ∷ ys) k z = (k x y z.0, zip_on P Q xs ys k z.1)

-- and holds with one more
pub zip_then : {A B : Type 0} (P : A → B → Type 0) (xs : List A) (ys : List B) (x : A) (y : B) → AllZip P xs ys → P x y → AllZip P (xs ++ x ∷ []) (ys ++ y ∷ [])
zip_then P [] [] x y z p = (p, tt)
zip_then P [] (b ∷ ys) x y z p = absurd z
zip_then P (a ∷ xs) [] x y z p = absurd z
zip_then P (a ∷ xs) (b ∷ ys) x y z p = (z.0, zip_then P xs ys x y z.1 p)

-- one more variable of an atom
pub front_more : (old new front xs : List ℕ) (i d place : ℕ) → i < length xs → AreNumbersOf old front (take i xs) → IsFront old new → slice_get new place ≡ Some (get_or xs i d)
    → AreNumbersOf new (front ++ place ∷ []) (take (i + 1) xs)
front_more old new front xs i d place lt h p r =
    subst (λ (k : List ℕ). AreNumbersOf new (front ++ place ∷ []) k) (sym (take_more xs i d lt))
    (numbers_append new front (place ∷ []) (take i xs) (get_or xs i d ∷ []) (numbers_on old new front (take i xs) p h) (ap (λ (o : Option ℕ). o ∷ []) r))

-- one more atom
pub fronts_more : (old new : List ℕ) (gs : List Atom) (i : ℕ) (d : Atom) (fronts : List (List ℕ)) (front : List ℕ) → i < length gs → AllZip (IsFrontOf old) (take i gs) fronts → IsFront old new
    → IsFrontOf new (get_or gs i d) front → AllZip (IsFrontOf new) (take (i + 1) gs) (fronts ++ front ∷ [])
fronts_more old new gs i d fronts front lt z p h =
    subst (λ (k : List Atom). AllZip (IsFrontOf new) k (fronts ++ front ∷ [])) (sym (take_more gs i d lt))
    (zip_then (IsFrontOf new) (take i gs) fronts (get_or gs i d) front (zip_on (IsFrontOf old) (IsFrontOf new) (take i gs) fronts (λ a f k. numbers_on old new f (variables a) p k) z) h)

-- one more argument of the answer list
pub named_more : (old new : List ℕ) (args : List Arg) (i : ℕ) (d : Arg) (places : List ℕ) (place : ℕ) → i < length args → AllZip (IsNamed old) (take i args) places → IsFront old new
    → IsNamed new (get_or args i d) place → AllZip (IsNamed new) (take (i + 1) args) (places ++ place ∷ [])
named_more old new args i d places place lt z p h =
    subst (λ (k : List Arg). AllZip (IsNamed new) k (places ++ place ∷ [])) (sym (take_more args i d lt))
    (zip_then (IsNamed new) (take i args) places (get_or args i d) place (zip_on (IsNamed old) (IsNamed new) (take i args) places (λ b n k. named_on old new b n p k) z) h)

-- numbers that are each there once
pub numbers_once : (keys : List ℕ) → IsDistinct nat_eq keys → EachOnce keys
numbers_once keys d = once nat_eq (λ a b e. eq-eqb a b e) keys d

-- the places of the variables of a query
pub are_names : (q : Cq) (names : Names) (old new : List ℕ) → IsDistinct nat_eq new → names.count ≡ length new → IsFront old new → AllZip (IsFrontOf old) q.atoms names.fronts.items
    → AllZip (IsNamed new) q.answer names.answer.items → AreNames q names
are_names q names old new distinct count p fronts answer = record {
  vars = new;
  once = numbers_once new distinct;
  count = count;
  fronts = zip_on (IsFrontOf old) (IsFrontOf new) q.atoms names.fronts.items (λ a f k. numbers_on old new f (variables a) p k) fronts;
  answer = answer;
}
