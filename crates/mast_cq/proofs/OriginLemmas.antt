-- The arguments of a normal form come from the query.
use Rattle.std.proofs.Common.{◌≡◌, ℕ, zero, suc, List, [], ◌∷◌, map, Bool, true, false, nat_eq, Some, None, Option, ◌⊎◌, inl, inr, sym, refl, subst, ◌∙◌}
use Rattle.std.specs.List.{AllByRecursion}
use Rattle.mast_terms.specs.declared.name.NameKind.{NameKind}
use Rattle.mast_terms.specs.declared.name.NameKind.TheVariants as kinds
use Rattle.mast_cq.specs.declared.atom.Arg.{Arg}
use Rattle.mast_cq.specs.declared.atom.Arg.TheVariants.{Blank, Var, Constant}
use Rattle.mast_cq.specs.declared.atom.Atom.{Atom}
use Rattle.mast_cq.specs.declared.atom.Atom.TheVariants.{Class, Role, Attr}
use Rattle.mast_cq.specs.declared.query.Cq.{Cq}
use Rattle.mast_cq.specs.NormalForms.{blank_arg, blank, alone, first_var, in_order, without, settle, places, normal_form}
use Rattle.mast_cq.specs.Origins.{IsFrom, ComesFrom, SomeAtom, AreFrom, DrawsFrom, KnownQuery, Named}
use Rattle.mast_cq.specs.Queries.{In}
use Rattle.mast_cq.specs.Sorts.{objects_of, values_of, arguments_of, of_all, Clashes, EachHasOneSort}
use Rattle.mast_cq.specs.UnifierMeanings.{IsBelow, KnownArg, KnownAtom}
use Rattle.mast_cq.proofs.ListLemmas.{each_in, in_each, in_append, append_left, append_right, in_map, map_in}
use Rattle.mast_cq.proofs.OrderLemmas.{order_each, order_out}

-- an argument is from itself, and from what one is from that it is from
from_self : (x : Arg) → IsFrom x x
from_self Blank = tt
from_self (Var n) = refl
from_self (Constant c) = refl

from_trans : (x y z : Arg) → IsFrom x y → IsFrom y z → IsFrom x z
from_trans Blank y z p q = tt
from_trans (Var n) y z p q = subst (λ v. IsFrom v z) (sym p) q
from_trans (Constant c) y z p q = subst (λ v. IsFrom v z) (sym p) q

comes_self : (g : Atom) → ComesFrom g g
comes_self (Class a x) = (refl, from_self x)
comes_self (Role a x y) = (refl, from_self x, from_self y)
comes_self (Attr a x y) = (refl, from_self x, from_self y)

comes_trans : (f g h : Atom) → ComesFrom f g → ComesFrom g h → ComesFrom f h
comes_trans (Class a x) (Class b z) (Class c u) p q = (p.0 ∙ q.0, from_trans x z u p.1 q.1)
comes_trans (Class a x) (Class b z) (Role c u v) p q = q
comes_trans (Class a x) (Class b z) (Attr c u v) p q = q
comes_trans (Class a x) (Role b z w) h p q = absurd p
comes_trans (Class a x) (Attr b z w) h p q = absurd p
comes_trans (Role a x y) (Class b z) h p q = absurd p
comes_trans (Role a x y) (Role b z w) (Class c u) p q = q
comes_trans (Role a x y) (Role b z w) (Role c u v) p q = (p.0 ∙ q.0, from_trans x z u p.1 q.1, from_trans y w v p.2 q.2)
comes_trans (Role a x y) (Role b z w) (Attr c u v) p q = q
comes_trans (Role a x y) (Attr b z w) h p q = absurd p
comes_trans (Attr a x y) (Class b z) h p q = absurd p
comes_trans (Attr a x y) (Role b z w) h p q = absurd p
comes_trans (Attr a x y) (Attr b z w) (Class c u) p q = q
comes_trans (Attr a x y) (Attr b z w) (Role c u v) p q = q
comes_trans (Attr a x y) (Attr b z w) (Attr c u v) p q = (p.0 ∙ q.0, from_trans x z u p.1 q.1, from_trans y w v p.2 q.2)

-- an atom in which a variable became `_` comes from the atom
blank_from_case : (m : ℕ) (b : Bool) → IsFrom (elim b [ true ↦ Blank | false ↦ Var m ]) (Var m)
blank_from_case m true = tt
blank_from_case m false = refl

blank_from : (n : ℕ) (x : Arg) → IsFrom (blank_arg n x) x
blank_from n Blank = tt
blank_from n (Var m) = blank_from_case m (nat_eq m n)
blank_from n (Constant c) = refl

blank_comes : (n : ℕ) (g : Atom) → ComesFrom (blank n g) g
blank_comes n (Class a x) = (refl, blank_from n x)
blank_comes n (Role a x y) = (refl, blank_from n x, blank_from n y)
blank_comes n (Attr a x y) = (refl, blank_from n x, blank_from n y)

-- the atoms in order are the atoms
order_in : (g : Atom) (gs : List Atom) → In g (in_order gs) → In g gs
order_in g gs i = each_in (λ h. In h gs) g (in_order gs) (order_each (λ h. In h gs) gs (in_each (λ h. In h gs) gs (λ h k. k))) i

in_ordered : (g : Atom) (gs : List Atom) → In g gs → In g (in_order gs)
in_ordered g gs i = each_in (λ h. In h (in_order gs)) g gs (order_out (λ h. In h (in_order gs)) gs (in_each (λ h. In h (in_order gs)) (in_order gs) (λ h k. k))) i

without_comes : (n : ℕ) (g : Atom) (gs : List Atom) → In g (without n gs) → SomeAtom (ComesFrom g) gs
without_comes n g gs i =
    let w = in_map (blank n) g gs (order_in g (map (blank n) gs) i) in
    record { atom = w.from; among = w.among; is = subst (λ f. ComesFrom f w.from) (sym w.is) (blank_comes n w.from) }

without_becomes : (n : ℕ) (h : Atom) (gs : List Atom) → In h gs → SomeAtom (λ g. ComesFrom g h) (without n gs)
without_becomes n h gs i = record { atom = blank n h; among = in_ordered (blank n h) (map (blank n) gs) (map_in (blank n) h gs i); is = blank_comes n h }

settle_comes : (answer : List Arg) (k : ℕ) (g : Atom) (gs : List Atom) → In g (settle answer k gs) → SomeAtom (ComesFrom g) gs
settle_comes answer zero g gs i = record { atom = g; among = i; is = comes_self g }
settle_comes answer (suc k) g gs i = go (first_var (alone answer gs) gs) (λ n. settle_comes answer k g (without n gs)) i
  where
    go : (o : Option ℕ) → ((n : ℕ) → In g (settle answer k (without n gs)) → SomeAtom (ComesFrom g) (without n gs))
        → In g (elim o as (λ i. List Atom) [ None ↦ gs | Some n ↦ settle answer k (without n gs) ]) → SomeAtom (ComesFrom g) gs
    go None f j = record { atom = g; among = j; is = comes_self g }
    go (Some n) f j =
        let v = f n j in
        let w = without_comes n v.atom gs v.among in
        record { atom = w.atom; among = w.among; is = comes_trans g v.atom w.atom v.is w.is }

settle_becomes : (answer : List Arg) (k : ℕ) (h : Atom) (gs : List Atom) → In h gs → SomeAtom (λ g. ComesFrom g h) (settle answer k gs)
settle_becomes answer zero h gs i = record { atom = h; among = i; is = comes_self h }
settle_becomes answer (suc k) h gs i = go (first_var (alone answer gs) gs) (λ n f. settle_becomes answer k f (without n gs))
  where
    go : (o : Option ℕ) → ((n : ℕ) (f : Atom) → In f (without n gs) → SomeAtom (λ g. ComesFrom g f) (settle answer k (without n gs)))
        → SomeAtom (λ g. ComesFrom g h) (elim o as (λ i. List Atom) [ None ↦ gs | Some n ↦ settle answer k (without n gs) ])
    go None f = record { atom = h; among = i; is = comes_self h }
    go (Some n) f =
        let v = without_becomes n h gs i in
        let w = f n v.atom v.among in
        record { atom = w.atom; among = w.among; is = comes_trans w.atom v.atom h w.is v.is }

-- each atom of the normal form comes from one of the query
pub normal_comes : (q : Cq) (g : Atom) → In g (normal_form q).atoms → SomeAtom (ComesFrom g) q.atoms
normal_comes q g i =
    let v = settle_comes q.answer (places q.atoms) g (in_order q.atoms) i in
    record { atom = v.atom; among = order_in v.atom q.atoms v.among; is = v.is }

-- and from each atom of the query one of the normal form comes
pub normal_becomes : (q : Cq) (h : Atom) → In h q.atoms → SomeAtom (λ g. ComesFrom g h) (normal_form q).atoms
normal_becomes q h i = settle_becomes q.answer (places q.atoms) h (in_order q.atoms) (in_ordered h q.atoms i)

-- the atom that an argument of all atoms stands in
pub record Holder (f : Atom → List Arg) (x : Arg) (gs : List Atom) : Type 0 where
  pub atom : Atom
  pub among : In atom gs
  pub stands : In x (f atom)

-- an argument of all atoms stands in one of them
pub of_all_out : (f : Atom → List Arg) (x : Arg) (gs : List Atom) → In x (of_all f gs) → Holder f x gs
of_all_out f x [] i = absurd i
of_all_out f x (g ∷ gs) i = elim (in_append x (f g) (of_all f gs) i) [
  | inl a ↦ record { atom = g; among = inl refl; stands = a }
  | inr b ↦ (let w = of_all_out f x gs b in record { atom = w.atom; among = inr w.among; stands = w.stands })
]

-- and an argument of one of them is one of all
pub of_all_in : (f : Atom → List Arg) (x : Arg) (g : Atom) (gs : List Atom) → In g gs → In x (f g) → In x (of_all f gs)
of_all_in f x g [] i j = absurd i
of_all_in f x g (h ∷ gs) (inl e) j = append_left x (f h) (of_all f gs) (subst (λ a. In x (f a)) e j)
of_all_in f x g (h ∷ gs) (inr i) j = append_right x (f h) (of_all f gs) (of_all_in f x g gs i j)

-- arguments of each atom from a list are arguments of all atoms from it
pub each_from : (f : Atom → List Arg) (ys : List Arg) (gs : List Atom) → ((g : Atom) → In g gs → AreFrom (f g) ys) → AreFrom (of_all f gs) ys
each_from f ys gs k x i = let w = of_all_out f x gs i in k w.atom w.among x w.stands

one_from : (x y v : Arg) → IsFrom x y → v ≡ x → (v ≡ Blank) ⊎ (v ≡ y)
one_from Blank y v p e = inl e
one_from (Var n) y v p e = inr (e ∙ p)
one_from (Constant c) y v p e = inr (e ∙ p)

single_from : (x z : Arg) → IsFrom x z → AreFrom (x ∷ []) (z ∷ [])
single_from x z p v (inl e) = elim (one_from x z v p e) [ inl b ↦ inl b | inr k ↦ inr (inl k) ]
single_from x z p v (inr i) = absurd i

pair_from : (x y z w : Arg) → IsFrom x z → IsFrom y w → AreFrom (x ∷ y ∷ []) (z ∷ w ∷ [])
pair_from x y z w p q v (inl e) = elim (one_from x z v p e) [ inl b ↦ inl b | inr k ↦ inr (inl k) ]
pair_from x y z w p q v (inr (inl e)) = elim (one_from y w v q e) [ inl b ↦ inl b | inr k ↦ inr (inr (inl k)) ]
pair_from x y z w p q v (inr (inr i)) = absurd i

none_from : (ys : List Arg) → AreFrom [] ys
none_from ys v i = absurd i

comes_objects : (g h : Atom) → ComesFrom g h → AreFrom (objects_of g) (objects_of h)
comes_objects (Class a x) (Class b z) p = single_from x z p.1
comes_objects (Class a x) (Role b z w) p = absurd p
comes_objects (Class a x) (Attr b z w) p = absurd p
comes_objects (Role a x y) (Class b z) p = absurd p
comes_objects (Role a x y) (Role b z w) p = pair_from x y z w p.1 p.2
comes_objects (Role a x y) (Attr b z w) p = absurd p
comes_objects (Attr a x y) (Class b z) p = absurd p
comes_objects (Attr a x y) (Role b z w) p = absurd p
comes_objects (Attr a x y) (Attr b z w) p = single_from x z p.1

comes_values : (g h : Atom) → ComesFrom g h → AreFrom (values_of g) (values_of h)
comes_values (Class a x) (Class b z) p = none_from []
comes_values (Class a x) (Role b z w) p = absurd p
comes_values (Class a x) (Attr b z w) p = absurd p
comes_values (Role a x y) (Class b z) p = absurd p
comes_values (Role a x y) (Role b z w) p = none_from []
comes_values (Role a x y) (Attr b z w) p = absurd p
comes_values (Attr a x y) (Class b z) p = absurd p
comes_values (Attr a x y) (Role b z w) p = absurd p
comes_values (Attr a x y) (Attr b z w) p = single_from y w p.2

comes_arguments : (g h : Atom) → ComesFrom g h → AreFrom (arguments_of g) (arguments_of h)
comes_arguments (Class a x) (Class b z) p = single_from x z p.1
comes_arguments (Class a x) (Role b z w) p = absurd p
comes_arguments (Class a x) (Attr b z w) p = absurd p
comes_arguments (Role a x y) (Class b z) p = absurd p
comes_arguments (Role a x y) (Role b z w) p = pair_from x y z w p.1 p.2
comes_arguments (Role a x y) (Attr b z w) p = absurd p
comes_arguments (Attr a x y) (Class b z) p = absurd p
comes_arguments (Attr a x y) (Role b z w) p = absurd p
comes_arguments (Attr a x y) (Attr b z w) p = pair_from x y z w p.1 p.2

among_all : (f : Atom → List Arg) (g h : Atom) (hs : List Atom) → In h hs → AreFrom (f g) (f h) → AreFrom (f g) (of_all f hs)
among_all f g h hs i k x j = elim (k x j) [ inl b ↦ inl b | inr m ↦ inr (of_all_in f x h hs i m) ]

-- the arguments of a normal form come from the query
pub normal_arguments : (q : Cq) → AreFrom (of_all arguments_of (normal_form q).atoms) (of_all arguments_of q.atoms)
normal_arguments q = each_from arguments_of (of_all arguments_of q.atoms) (normal_form q).atoms (λ g i. let w = normal_comes q g i in among_all arguments_of g w.atom q.atoms w.among (comes_arguments g w.atom w.is))

-- the arguments of a normal form come from places of the query of the same sort
pub normal_draws : (q : Cq) → DrawsFrom (normal_form q).atoms q.atoms
normal_draws q = record {
  objects = each_from objects_of (of_all objects_of q.atoms) (normal_form q).atoms (λ g i. let w = normal_comes q g i in among_all objects_of g w.atom q.atoms w.among (comes_objects g w.atom w.is));
  values = each_from values_of (of_all values_of q.atoms) (normal_form q).atoms (λ g i. let w = normal_comes q g i in among_all values_of g w.atom q.atoms w.among (comes_values g w.atom w.is));
}

known_from : (P : ℕ → Type 0) (x y : Arg) → IsFrom x y → KnownArg P y → KnownArg P x
known_from P Blank y p k = tt
known_from P (Var n) y p k = tt
known_from P (Constant c) y p k = subst (KnownArg P) (sym p) k

comes_known : (P : ℕ → Type 0) (g h : Atom) → ComesFrom g h → KnownAtom P h → KnownAtom P g
comes_known P (Class a x) (Class b z) p k = known_from P x z p.1 k
comes_known P (Class a x) (Role b z w) p k = absurd p
comes_known P (Class a x) (Attr b z w) p k = absurd p
comes_known P (Role a x y) (Class b z) p k = absurd p
comes_known P (Role a x y) (Role b z w) p k = (known_from P x z p.1 k.0, known_from P y w p.2 k.1)
comes_known P (Role a x y) (Attr b z w) p k = absurd p
comes_known P (Attr a x y) (Class b z) p k = absurd p
comes_known P (Attr a x y) (Role b z w) p k = absurd p
comes_known P (Attr a x y) (Attr b z w) p k = (known_from P x z p.1 k.0, known_from P y w p.2 k.1)

comes_named : (P : NameKind → ℕ → Type 0) (g h : Atom) → ComesFrom g h → Named P h → Named P g
comes_named P (Class a x) (Class b z) p k = subst (λ n. P kinds.Class n.0) (sym p.0) k
comes_named P (Class a x) (Role b z w) p k = absurd p
comes_named P (Class a x) (Attr b z w) p k = absurd p
comes_named P (Role a x y) (Class b z) p k = absurd p
comes_named P (Role a x y) (Role b z w) p k = subst (λ n. P kinds.Role n.0) (sym p.0) k
comes_named P (Role a x y) (Attr b z w) p k = absurd p
comes_named P (Attr a x y) (Class b z) p k = absurd p
comes_named P (Attr a x y) (Role b z w) p k = absurd p
comes_named P (Attr a x y) (Attr b z w) p k = subst (λ n. P kinds.Attr n.0) (sym p.0) k

-- what each atom of the query has, and what comes from it keeps, each atom of the normal form has
pub normal_keeps : (P : Atom → Type 0) → ((g h : Atom) → ComesFrom g h → P h → P g) → (q : Cq) → AllByRecursion P q.atoms → AllByRecursion P (normal_form q).atoms
normal_keeps P k q all = in_each P (normal_form q).atoms (λ g i. let w = normal_comes q g i in k g w.atom w.is (each_in P w.atom q.atoms all w.among))

-- known constants stay known
pub normal_known : (bound : ℕ) (q : Cq) → KnownQuery bound q → KnownQuery bound (normal_form q)
normal_known bound q k = record { answer = k.answer; atoms = normal_keeps (KnownAtom (IsBelow bound)) (comes_known (IsBelow bound)) q k.atoms }

-- what holds of the names of the query holds of those of its normal form
pub normal_names : (P : NameKind → ℕ → Type 0) (q : Cq) → AllByRecursion (Named P) q.atoms → AllByRecursion (Named P) (normal_form q).atoms
normal_names P q k = normal_keeps (Named P) (comes_named P) q k

same_from : (ys : List Arg) (x : Arg) → (x ≡ Blank → ⊥) → (x ≡ Blank) ⊎ In x ys → In x ys
same_from ys x k (inl e) = absurd (k e)
same_from ys x k (inr i) = i

var_proper : (n : ℕ) → Var n ≡ Blank → ⊥
var_proper n e = cc

constant_proper : (c : ℕ) → Constant c ≡ Blank → ⊥
constant_proper c e = cc

clash_from : (gs hs : List Atom) (x : Arg) → DrawsFrom gs hs → Clashes gs x → Clashes hs x
clash_from gs hs Blank d c = absurd c
clash_from gs hs (Var n) d c = (
  same_from (of_all objects_of hs) (Var n) (var_proper n) (d.objects (Var n) c.0),
  same_from (of_all values_of hs) (Var n) (var_proper n) (d.values (Var n) c.1),
)
clash_from gs hs (Constant c) d i = same_from (of_all objects_of hs) (Constant c) (constant_proper c) (d.objects (Constant c) i)

-- an argument in an object place is an argument
pub object_argument : (x : Arg) (g : Atom) → In x (objects_of g) → In x (arguments_of g)
object_argument x (Class a y) i = i
object_argument x (Role a y z) i = i
object_argument x (Attr a y z) (inl e) = inl e
object_argument x (Attr a y z) (inr i) = absurd i

-- an argument that clashes is an argument of the atoms
pub clash_argument : (hs : List Atom) (x : Arg) → Clashes hs x → In x (of_all arguments_of hs)
clash_argument hs Blank c = absurd c
clash_argument hs (Var n) c = let w = of_all_out objects_of (Var n) hs c.0 in of_all_in arguments_of (Var n) w.atom hs w.among (object_argument (Var n) w.atom w.stands)
clash_argument hs (Constant c) i = let w = of_all_out objects_of (Constant c) hs i in of_all_in arguments_of (Constant c) w.atom hs w.among (object_argument (Constant c) w.atom w.stands)

-- where arguments come from places of the same sort, each still has one sort
pub draws_sorts : (gs hs : List Atom) → DrawsFrom gs hs → EachHasOneSort hs → EachHasOneSort gs
draws_sorts gs hs d one x i c = let k = clash_from gs hs x d c in one x (clash_argument hs x k) k
