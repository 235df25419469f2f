-- The closure of an atom: the steps by inclusions, and `Down`.
use Rattle.std.specs.Prelude.{◌≡◌, ℕ, List, Contains}
use Rattle.mast_terms.specs.declared.name.Name.{Name}
use Rattle.mast_cq.specs.declared.atom.Arg.{Arg}
use Rattle.mast_cq.specs.declared.atom.Arg.TheVariants.{Blank}
use Rattle.mast_cq.specs.declared.atom.Atom.{Atom}
use Rattle.mast_cq.specs.declared.atom.Atom.TheVariants.{Class}
use Rattle.mast_tbox.specs.declared.expression.Basic.{Basic}
use Rattle.mast_tbox.specs.declared.expression.Prop.{Prop}
use Rattle.mast_tbox.specs.declared.axiom.Inclusion.{Inclusion}
use Rattle.mast_tbox.specs.declared.axiom.Inclusion.TheVariants.{Class as IClass}
use Rattle.mast_tbox.specs.Expressions.{pair, at}
use Rattle.mast_tbox.specs.Inclusions.{Adds, States}
use Rattle.mast_tbox.specs.Lists.{Reaches}

-- a step by an inclusion makes the second atom of the first. Into a class A: A(x) becomes at(B, x). An inclusion that adds a
-- filler: Q(x, _) becomes at(B, x). An inclusion of properties: a pair of the wider becomes one of the narrower
pub data AtomStep (tbox : List Inclusion) (g h : Atom) : Type 0 where
  into_class : (b : Basic) (a : Name) (x : Arg) → Contains tbox (IClass b a) → g ≡ Class a x → h ≡ at b x → AtomStep tbox g h
  adds : (b : Basic) (p : Prop) (k : ℕ) (x : Arg) → Adds tbox b p k → g ≡ pair p x Blank → h ≡ at b x → AtomStep tbox g h
  widens : (p q : Prop) (x y : Arg) → States tbox p q → g ≡ pair q x y → h ≡ pair p x y → AtomStep tbox g h

-- the second atom stands in Down of the first
abbrev pub Down : List Inclusion → Atom → Atom → Type 0
Down tbox = Reaches (AtomStep tbox)
