-- A member of Down of an atom has the atom's arguments, in one order or the other.
use Rattle.std.proofs.Common.{◌≡◌, ◌⊎◌, inl, inr, List, refl, sym, ap, subst, ◌∙◌}
use Rattle.mast_cq.specs.declared.atom.Arg.{Arg}
use Rattle.mast_cq.specs.declared.atom.Arg.TheVariants.{Blank}
use Rattle.mast_cq.specs.declared.atom.Atom.{Atom}
use Rattle.mast_tbox.specs.declared.axiom.Inclusion.{Inclusion}
use Rattle.mast_tbox.specs.declared.expression.RoleExpr.TheVariants.{Direct, Inverse}
use Rattle.mast_tbox.specs.declared.expression.Basic.{Basic}
use Rattle.mast_tbox.specs.declared.expression.Basic.TheVariants.{Class as BClass, Some as BSome, Subjects}
use Rattle.mast_tbox.specs.declared.expression.Prop.{Prop}
use Rattle.mast_tbox.specs.declared.expression.Prop.TheVariants.{Role as PRole, Attr as PAttr}
use Rattle.mast_tbox.specs.Closure.{AtomStep, Down}
use Rattle.mast_tbox.specs.Expressions.{pair, at}
use Rattle.mast_tbox.specs.Lists.{itself, onward}
use Rattle.mast_join.specs.inside.Shapes.{arguments}

-- the other order
abbrev pub turned : Arg × Arg → Arg × Arg
turned p = (p.1, p.0)

-- the atom has these arguments, in one order or the other
abbrev pub HasArguments : Arg × Arg → Atom → Type 0
HasArguments p g = (arguments g ≡ p) ⊎ (arguments g ≡ turned p)

at_arguments : (b : Basic) (x : Arg) → HasArguments (x, Blank) (at b x)
at_arguments (BClass a) x = inl refl
at_arguments (BSome (Direct p)) x = inl refl
at_arguments (BSome (Inverse p)) x = inr refl
at_arguments (Subjects u) x = inl refl

pair_arguments : (p : Prop) (x y : Arg) → HasArguments (x, y) (pair p x y)
pair_arguments (PRole (Direct a)) x y = inl refl
pair_arguments (PRole (Inverse a)) x y = inr refl
pair_arguments (PAttr u) x y = inl refl

turned_twice : (p : Arg × Arg) → turned (turned p) ≡ p
turned_twice (x, y) = refl

-- two atoms that both have some arguments have each other's
arguments_between : (p : Arg × Arg) (g h : Atom) → HasArguments p g → HasArguments p h → HasArguments (arguments g) h
arguments_between p g h (inl e) (inl f) = inl (f ∙ sym e)
arguments_between p g h (inl e) (inr f) = inr (f ∙ ap turned (sym e))
arguments_between p g h (inr e) (inl f) = inr (f ∙ sym (turned_twice p) ∙ ap turned (sym e))
arguments_between p g h (inr e) (inr f) = inl (f ∙ sym e)

arguments_on : (g w h : Atom) → HasArguments (arguments g) w → HasArguments (arguments w) h → HasArguments (arguments g) h
arguments_on g w h (inl e) (inl f) = inl (f ∙ e)
arguments_on g w h (inl e) (inr f) = inr (f ∙ ap turned e)
arguments_on g w h (inr e) (inl f) = inr (f ∙ e)
arguments_on g w h (inr e) (inr f) = inl (f ∙ ap turned e ∙ turned_twice (arguments g))

step_arguments : (tbox : List Inclusion) (g h : Atom) → AtomStep tbox g h → HasArguments (arguments g) h
step_arguments tbox g h (AtomStep.into_class b a x c eg eh) =
    arguments_between (x, Blank) g h (inl (ap arguments eg)) (subst (λ (i : Atom). HasArguments (x, Blank) i) (sym eh) (at_arguments b x))
step_arguments tbox g h (AtomStep.adds b p k x c eg eh) =
    arguments_between (x, Blank) g h
    (subst (λ (i : Atom). HasArguments (x, Blank) i) (sym eg) (pair_arguments p x Blank))
    (subst (λ (i : Atom). HasArguments (x, Blank) i) (sym eh) (at_arguments b x))
step_arguments tbox g h (AtomStep.widens p q x y c eg eh) =
    arguments_between (x, y) g h
    (subst (λ (i : Atom). HasArguments (x, y) i) (sym eg) (pair_arguments q x y))
    (subst (λ (i : Atom). HasArguments (x, y) i) (sym eh) (pair_arguments p x y))

-- so has a member of Down
pub down_arguments : (tbox : List Inclusion) (g h : Atom) → Down tbox g h → HasArguments (arguments g) h
down_arguments tbox g h itself = inl refl
down_arguments tbox g h (onward {y = w} s d) = arguments_on g w h (step_arguments tbox g w s) (down_arguments tbox w h d)
