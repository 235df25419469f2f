-- What fact the atom of a property is, and what atom a pair is.
use Rattle.std.proofs.Common.{ℕ, refl, ap, sym}
use Rattle.mast_cq.specs.declared.atom.Arg.{Arg}
use Rattle.mast_cq.specs.Meanings.{Fact, InClass, InRole, InAttr, Fits, Match}
use Rattle.mast_cq.specs.Properties.{Property, Direct, Inverse, Values, prop_atom, prop_fact, IsPair}

module _ {X : Type 0} (constant : ℕ → X) (s : ℕ → X) where
  -- a pair whose terms the arguments fit is the atom
  pub pair_in : (p : Property) (x y : Arg) (t u : X) → Fits constant s x t → Fits constant s y u → Match constant s (prop_atom p x y) (prop_fact p t u)
  pair_in (Direct p) x y t u f g = (refl, f, g)
  pair_in (Inverse p) x y t u f g = (refl, g, f)
  pair_in (Values a) x y t u f g = (refl, f, g)

  -- and a fact that is the atom is such a pair
  pub pair_out : (p : Property) (x y : Arg) (f : Fact X) → Match constant s (prop_atom p x y) f → IsPair constant s p x y f
  pair_out (Direct p) x y (InClass b t) m = absurd m
  pair_out (Direct p) x y (InRole b t u) m = record { one = t; other = u; is = ap (λ n. InRole n t u) (sym m.0); one_fits = m.1; other_fits = m.2 }
  pair_out (Direct p) x y (InAttr b t u) m = absurd m
  pair_out (Inverse p) x y (InClass b t) m = absurd m
  pair_out (Inverse p) x y (InRole b t u) m = record { one = u; other = t; is = ap (λ n. InRole n t u) (sym m.0); one_fits = m.2; other_fits = m.1 }
  pair_out (Inverse p) x y (InAttr b t u) m = absurd m
  pair_out (Values a) x y (InClass b t) m = absurd m
  pair_out (Values a) x y (InRole b t u) m = absurd m
  pair_out (Values a) x y (InAttr b t u) m = record { one = t; other = u; is = ap (λ n. InAttr n t u) (sym m.0); one_fits = m.1; other_fits = m.2 }
