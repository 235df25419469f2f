-- What the steps by inclusions keep of an atom's arguments: which they are, their sorts, and where a variable stands.
use Rattle.std.proofs.Common.{refl, ◌≡◌, ℕ, ◌⊎◌, inl, inr, ◌↔◌, List, [], ◌∷◌, ◌++◌, sym, subst, ◌∙◌}
use Rattle.mast_cq.specs.declared.atom.Arg.{Arg}
use Rattle.mast_cq.specs.declared.atom.Arg.TheVariants.{Blank, Var, Constant}
use Rattle.mast_cq.specs.declared.atom.Atom.{Atom}
use Rattle.mast_cq.specs.declared.atom.Atom.TheVariants.{Class, Role, Attr}
use Rattle.mast_cq.specs.NormalForms.{Occurs, Twice}
use Rattle.mast_cq.specs.Origins.{AreFrom, AtomDrawsFrom}
use Rattle.mast_cq.specs.Queries.{In}
use Rattle.mast_cq.specs.Sorts.{objects_of, values_of, arguments_of, of_all, EachHasOneSort}
use Rattle.mast_tbox.specs.declared.expression.RoleExpr.TheVariants.{Direct, Inverse}
use Rattle.mast_tbox.specs.declared.expression.Basic.{Basic}
use Rattle.mast_tbox.specs.declared.expression.Basic.TheVariants.{Class as BClass, Some as BSome, Subjects}
use Rattle.mast_tbox.specs.declared.expression.Prop.{Prop}
use Rattle.mast_tbox.specs.declared.expression.Prop.TheVariants.{Role as PRole, Attr as PAttr}
use Rattle.mast_tbox.specs.declared.axiom.Inclusion.{Inclusion}
use Rattle.mast_tbox.specs.Arguments.{AreSameButBlank, HaveSameArguments}
use Rattle.mast_tbox.specs.Closure.{AtomStep, Down}
use Rattle.mast_tbox.specs.Expressions.{pair, at, subjects}
use Rattle.mast_tbox.specs.Inclusions.{States}
use Rattle.mast_tbox.specs.Lists.{itself, onward}
use Rattle.mast_tbox.proofs.StepLemmas.{at_subjects}

-- an argument that is not `_`
abbrev NoBlank : Arg → Type 0
NoBlank x = x ≡ Blank → ⊥

one_in : (z x : Arg) → In z (x ∷ []) → z ≡ x
one_in z x (inl e) = e
one_in z x (inr i) = absurd i

-- the object of at(B, x) is x alone, and it has no value
at_objects : (b : Basic) (x z : Arg) → NoBlank z → In z (x ∷ []) ↔ In z (objects_of (at b x))
at_objects (BClass a) x z n = (λ i. i, λ i. i)
at_objects (BSome (Direct p)) x z n = (λ i. inl (one_in z x i), λ i. elim i [ inl e ↦ inl e | inr j ↦ absurd (n (one_in z Blank j)) ])
at_objects (BSome (Inverse p)) x z n = (λ i. inr i, λ i. elim i [ inl e ↦ absurd (n e) | inr j ↦ j ])
at_objects (Subjects u) x z n = (λ i. i, λ i. i)

at_values : (b : Basic) (x z : Arg) → NoBlank z → In z (values_of (at b x)) → ⊥
at_values (BClass a) x z n i = i
at_values (BSome (Direct p)) x z n i = i
at_values (BSome (Inverse p)) x z n i = i
at_values (Subjects u) x z n i = n (one_in z Blank i)

two_turned : (x y z : Arg) → In z (x ∷ y ∷ []) → In z (y ∷ x ∷ [])
two_turned x y z (inl e) = inr (inl e)
two_turned x y z (inr i) = inl (one_in z y i)

-- two properties of which one is stated below the other have the same arguments in their pairs
pair_same : (tbox : List Inclusion) (p q : Prop) (x y : Arg) → States tbox p q → HaveSameArguments (pair q x y) (pair p x y)
pair_same tbox (PRole (Direct a)) (PRole (Direct b)) x y s = record { objects = λ z n. (λ i. i, λ i. i); values = λ z n. (λ i. i, λ i. i) }
pair_same tbox (PRole (Direct a)) (PRole (Inverse b)) x y s = record { objects = λ z n. (two_turned y x z, two_turned x y z); values = λ z n. (λ i. i, λ i. i) }
pair_same tbox (PRole (Inverse a)) (PRole (Direct b)) x y s = record { objects = λ z n. (two_turned x y z, two_turned y x z); values = λ z n. (λ i. i, λ i. i) }
pair_same tbox (PRole (Inverse a)) (PRole (Inverse b)) x y s = record { objects = λ z n. (λ i. i, λ i. i); values = λ z n. (λ i. i, λ i. i) }
pair_same tbox (PRole r) (PAttr v) x y s = absurd s
pair_same tbox (PAttr u) (PRole r) x y s = absurd s
pair_same tbox (PAttr u) (PAttr v) x y s = record { objects = λ z n. (λ i. i, λ i. i); values = λ z n. (λ i. i, λ i. i) }

-- two concepts have the same arguments in their atoms of one argument
at_same : (b c : Basic) (x : Arg) → HaveSameArguments (at b x) (at c x)
at_same b c x = record {
  objects = λ z n. (λ i. (at_objects c x z n).0 ((at_objects b x z n).1 i), λ i. (at_objects b x z n).0 ((at_objects c x z n).1 i));
  values = λ z n. (λ i. absurd (at_values b x z n i), λ i. absurd (at_values c x z n i));
}

-- a step by an inclusion keeps the arguments and their sorts
pub step_same : (tbox : List Inclusion) (g h : Atom) → AtomStep tbox g h → HaveSameArguments g h
step_same tbox g h (AtomStep.into_class b a x s eg eh) = rw (eg, eh) (at_same (BClass a) b x)
step_same tbox g h (AtomStep.adds b p k x s eg eh) = rw (eg ∙ sym (at_subjects p x), eh) (at_same (subjects p) b x)
step_same tbox g h (AtomStep.widens p q x y s eg eh) = rw (eg, eh) (pair_same tbox p q x y s)

same_joined : (g h i : Atom) → HaveSameArguments g h → HaveSameArguments h i → HaveSameArguments g i
same_joined g h i a b = record {
  objects = λ z n. (λ c. (b.objects z n).0 ((a.objects z n).0 c), λ c. (a.objects z n).1 ((b.objects z n).1 c));
  values = λ z n. (λ c. (b.values z n).0 ((a.values z n).0 c), λ c. (a.values z n).1 ((b.values z n).1 c));
}

-- so does Down
pub down_same : (tbox : List Inclusion) (g h : Atom) → Down tbox g h → HaveSameArguments g h
down_same tbox g h itself = record { objects = λ z n. (λ i. i, λ i. i); values = λ z n. (λ i. i, λ i. i) }
down_same tbox g h (onward {y = w} s d) = same_joined g w h (step_same tbox g w s) (down_same tbox w h d)

-- arguments that are the same but for `_` come from the others
from_same : (xs ys : List Arg) → AreSameButBlank xs ys → AreFrom ys xs
from_same xs ys a Blank i = inl refl
from_same xs ys a (Var n) i = inr ((a (Var n) (λ e. cc)).1 i)
from_same xs ys a (Constant n) i = inr ((a (Constant n) (λ e. cc)).1 i)

-- a member of Down draws its arguments from the atom
pub down_draws : (tbox : List Inclusion) (g h : Atom) → Down tbox g h → AtomDrawsFrom h g
down_draws tbox g h d =
    let a = down_same tbox g h d in
    record { objects = from_same (objects_of g) (objects_of h) a.objects; values = from_same (values_of g) (values_of h) a.values }

-- a variable occurs where it is one of the arguments
in_object : (g : Atom) (z : Arg) → In z (arguments_of g) → In z (objects_of g) ⊎ In z (values_of g)
in_object (Class a x) z i = inl i
in_object (Role p x y) z i = inl i
in_object (Attr u x y) z (inl e) = inl (inl e)
in_object (Attr u x y) z (inr i) = inr i

object_in : (g : Atom) (z : Arg) → In z (objects_of g) → In z (arguments_of g)
object_in (Class a x) z i = i
object_in (Role p x y) z i = i
object_in (Attr u x y) z i = inl (one_in z x i)

value_in : (g : Atom) (z : Arg) → In z (values_of g) → In z (arguments_of g)
value_in (Class a x) z i = absurd i
value_in (Role p x y) z i = absurd i
value_in (Attr u x y) z i = inr i

occurs_in : (n : ℕ) (g : Atom) → Occurs n g → In (Var n) (arguments_of g)
occurs_in n (Class a x) o = inl (sym o)
occurs_in n (Role p x y) (inl e) = inl (sym e)
occurs_in n (Role p x y) (inr e) = inr (inl (sym e))
occurs_in n (Attr u x y) (inl e) = inl (sym e)
occurs_in n (Attr u x y) (inr e) = inr (inl (sym e))

in_occurs : (n : ℕ) (g : Atom) → In (Var n) (arguments_of g) → Occurs n g
in_occurs n (Class a x) i = sym (one_in (Var n) x i)
in_occurs n (Role p x y) (inl e) = inl (sym e)
in_occurs n (Role p x y) (inr i) = inr (sym (one_in (Var n) y i))
in_occurs n (Attr u x y) (inl e) = inl (sym e)
in_occurs n (Attr u x y) (inr i) = inr (sym (one_in (Var n) y i))

no_blank : (n : ℕ) → NoBlank (Var n)
no_blank n e = cc

-- an argument of one of two such atoms is one of the other
arguments_to : (g h : Atom) → HaveSameArguments g h → (z : Arg) → NoBlank z → In z (arguments_of g) → In z (arguments_of h)
arguments_to g h a z n i = elim (in_object g z i) [
  | inl o ↦ object_in h z ((a.objects z n).0 o)
  | inr v ↦ value_in h z ((a.values z n).0 v)
]

same_turned : (g h : Atom) → HaveSameArguments g h → HaveSameArguments h g
same_turned g h a = record { objects = λ z n. ((a.objects z n).1, (a.objects z n).0); values = λ z n. ((a.values z n).1, (a.values z n).0) }

-- a variable occurs in a member of Down exactly where it occurs in the atom
pub down_occurs : (tbox : List Inclusion) (n : ℕ) (g h : Atom) → Down tbox g h → Occurs n g ↔ Occurs n h
down_occurs tbox n g h d =
    let a = down_same tbox g h d in (
      λ o. in_occurs n h (arguments_to g h a (Var n) (no_blank n) (occurs_in n g o)),
      λ o. in_occurs n g (arguments_to h g (same_turned g h a) (Var n) (no_blank n) (occurs_in n h o)),
    )

-- a variable in both places
twice_pair_in : (n : ℕ) (p : Prop) (x y : Arg) → (x ≡ Var n) × (y ≡ Var n) → Twice n (pair p x y)
twice_pair_in n (PRole (Direct a)) x y t = t
twice_pair_in n (PRole (Inverse a)) x y t = (t.1, t.0)
twice_pair_in n (PAttr u) x y t = t

twice_pair_out : (n : ℕ) (p : Prop) (x y : Arg) → Twice n (pair p x y) → (x ≡ Var n) × (y ≡ Var n)
twice_pair_out n (PRole (Direct a)) x y t = t
twice_pair_out n (PRole (Inverse a)) x y t = (t.1, t.0)
twice_pair_out n (PAttr u) x y t = t

not_twice : (n : ℕ) (b : Basic) (x : Arg) → Twice n (at b x) → ⊥
not_twice n (BClass a) x t = t
not_twice n (BSome (Direct p)) x t = absurd (no_blank n (sym t.1))
not_twice n (BSome (Inverse p)) x t = absurd (no_blank n (sym t.0))
not_twice n (Subjects u) x t = absurd (no_blank n (sym t.1))

step_twice : (tbox : List Inclusion) (n : ℕ) (g h : Atom) → AtomStep tbox g h → Twice n g ↔ Twice n h
step_twice tbox n g h (AtomStep.into_class b a x s eg eh) = (λ t. absurd (subst (Twice n) eg t), λ t. absurd (not_twice n b x (subst (Twice n) eh t)))
step_twice tbox n g h (AtomStep.adds b p k x s eg eh) =
    (λ t. absurd (not_twice n (subjects p) x (subst (Twice n) (eg ∙ sym (at_subjects p x)) t)), λ t. absurd (not_twice n b x (subst (Twice n) eh t)))
step_twice tbox n g h (AtomStep.widens p q x y s eg eh) = (
  λ t. subst (Twice n) (sym eh) (twice_pair_in n p x y (twice_pair_out n q x y (subst (Twice n) eg t))),
  λ t. subst (Twice n) (sym eg) (twice_pair_in n q x y (twice_pair_out n p x y (subst (Twice n) eh t))),
)

-- a variable stands twice in a member of Down exactly where it does in the atom
pub down_twice : (tbox : List Inclusion) (n : ℕ) (g h : Atom) → Down tbox g h → Twice n g ↔ Twice n h
down_twice tbox n g h itself = (λ t. t, λ t. t)
down_twice tbox n g h (onward {y = w} s d) =
    let a = step_twice tbox n g w s in
    let b = down_twice tbox n w h d in
    (λ t. b.0 (a.0 t), λ t. a.1 (b.1 t))

-- elements of lists that are joined
in_left : {X : Type 0} (x : X) (ys zs : List X) → In x ys → In x (ys ++ zs)
in_left x [] zs i = absurd i
in_left x (y ∷ ys) zs (inl e) = inl e
in_left x (y ∷ ys) zs (inr i) = inr (in_left x ys zs i)

in_right : {X : Type 0} (x : X) (ys zs : List X) → In x zs → In x (ys ++ zs)
in_right x [] zs i = i
in_right x (y ∷ ys) zs i = inr (in_right x ys zs i)

in_or : {X : Type 0} (x : X) (ys zs : List X) → In x (ys ++ zs) → In x ys ⊎ In x zs
in_or x [] zs i = inr i
in_or x (y ∷ ys) zs (inl e) = inl (inl e)
in_or x (y ∷ ys) zs (inr i) = elim (in_or x ys zs i) [ inl j ↦ inl (inr j) | inr j ↦ inr j ]

module _ (f : Atom → List Arg) (g h : Atom) (z : Arg) (from : In z (f h) → In z (f g)) (after : List Atom) where
  -- what an atom in the place of another gives to a list
  all_from : (before : List Atom) → In z (of_all f (before ++ h ∷ after)) → In z (of_all f (before ++ g ∷ after))
  all_from [] i = elim (in_or z (f h) (of_all f after) i) [ inl j ↦ in_left z (f g) (of_all f after) (from j) | inr j ↦ in_right z (f g) (of_all f after) j ]
  all_from (b ∷ before) i = elim (in_or z (f b) (of_all f (before ++ h ∷ after)) i) [
    | inl j ↦ in_left z (f b) (of_all f (before ++ g ∷ after)) j
    | inr j ↦ in_right z (f b) (of_all f (before ++ g ∷ after)) (all_from before j)
  ]

objects_in : (gs : List Atom) (z : Arg) → In z (of_all objects_of gs) → In z (of_all arguments_of gs)
objects_in [] z i = i
objects_in (g ∷ gs) z i = elim (in_or z (objects_of g) (of_all objects_of gs) i) [
  | inl j ↦ in_left z (arguments_of g) (of_all arguments_of gs) (object_in g z j)
  | inr j ↦ in_right z (arguments_of g) (of_all arguments_of gs) (objects_in gs z j)
]

-- where an atom is replaced by one with the same arguments, each argument keeps its sort
pub same_sorts : (g h : Atom) → HaveSameArguments g h → (before after : List Atom) → EachHasOneSort (before ++ g ∷ after) → EachHasOneSort (before ++ h ∷ after)
same_sorts g h a before after one Blank i c = c
same_sorts g h a before after one (Var n) i c =
    let o = all_from objects_of g h (Var n) (a.objects (Var n) (no_blank n)).1 after before c.0 in
    let v = all_from values_of g h (Var n) (a.values (Var n) (no_blank n)).1 after before c.1 in
    one (Var n) (objects_in (before ++ g ∷ after) (Var n) o) (o, v)
same_sorts g h a before after one (Constant n) i c =
    let o = all_from objects_of g h (Constant n) (a.objects (Constant n) (λ e. cc)).1 after before c in
    one (Constant n) (objects_in (before ++ g ∷ after) (Constant n) o) o

-- so it does where a member of Down stands in the place of its atom
pub down_sorts : (tbox : List Inclusion) (g h : Atom) (before after : List Atom) → Down tbox g h → EachHasOneSort (before ++ g ∷ after) → EachHasOneSort (before ++ h ∷ after)
down_sorts tbox g h before after d = same_sorts g h (down_same tbox g h d) before after
