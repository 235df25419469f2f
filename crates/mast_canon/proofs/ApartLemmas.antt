-- A negative is broken by the facts of an interpretation exactly where it does not keep apart what the negative says.
use Rattle.mast_tbox.specs.declared.axiom.Negative.{Negative}
use Rattle.mast_tbox.specs.declared.axiom.Negative.TheVariants.{Concepts, Roles, Attrs, Irreflexive}
use Rattle.mast_canon.specs.Interpretations.{Interpretation, IsTrue}
use Rattle.mast_canon.specs.NoModels.{BreaksNegative}
use Rattle.mast_canon.specs.Worlds.{IsApart}

module _ {X : Type 0} (w : Interpretation X) where
  -- what is kept apart is not broken
  pub apart_unbroken : (n : Negative) → IsApart w n → BreaksNegative (IsTrue w) n → ⊥
  apart_unbroken (Concepts left right) a b = a b.0 b.1.0 b.1.1
  apart_unbroken (Roles left right) a b = a b.0 b.1.0 b.1.1.0 b.1.1.1
  apart_unbroken (Attrs left right) a b = a b.0 b.1.0 b.1.1.0 b.1.1.1
  apart_unbroken (Irreflexive role) a b = a b.0 b.1

  -- what is not broken is kept apart
  pub unbroken_apart : (n : Negative) → (BreaksNegative (IsTrue w) n → ⊥) → IsApart w n
  unbroken_apart (Concepts left right) u = λ e a b. u (e, (a, b))
  unbroken_apart (Roles left right) u = λ e f a b. u (e, (f, (a, b)))
  unbroken_apart (Attrs left right) u = λ e f a b. u (e, (f, (a, b)))
  unbroken_apart (Irreflexive role) u = λ e a. u (e, a)
