-- The words of the laws that it is decided whether facts have a model.
use Rattle.std.specs.List.{AllByRecursion}
use Rattle.mast_terms.specs.declared.term.Term.{Term}
use Rattle.mast_cq.specs.Meanings.{Fact}
use Rattle.mast_tbox.specs.ConstraintForms.{HaveForm}
use Rattle.mast_tbox.specs.Laws.{Decided}
use Rattle.mast_tbox.specs.Lists.{items}
use Rattle.mast_tbox.specs.Names.{IsStatable, NegativeNamed, PropNamed, ConstraintNamed}
use Rattle.mast_canon.specs.NoModels.{NoModel}
use Rattle.mast_canon.specs.Theories.{Theory}
use Rattle.mast_canon.specs.TheoryPremises.{FactsInRange, IsStated}
use Rattle.mast_canon.specs.WorldLaws.{IsListed}

-- the existential inclusions are numbered in order, all names are those that documents may use, and each constraint has its form
pub record IsProper (theory : Theory) : Type 0 where
  pub is_stated : IsStated theory
  pub negatives : AllByRecursion (NegativeNamed IsStatable) (items theory.negatives)
  pub functional : AllByRecursion (PropNamed IsStatable) (items theory.functional)
  pub constraints : AllByRecursion (ConstraintNamed IsStatable) (items theory.constraints)
  pub formed : HaveForm theory.constraints

-- of a list of facts it is decided whether they have a model
abbrev pub NoModelIsDecided : (Fact Term → Type 0) → Type 0
NoModelIsDecided F = (theory : Theory) → IsProper theory → FactsInRange F → IsListed F → Decided (NoModel theory F)
