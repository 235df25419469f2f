-- The words of the laws of worlds.
use Rattle.std.specs.Prelude.{◌↔◌, List}
use Rattle.mast_terms.specs.declared.term.Term.{Term}
use Rattle.mast_cq.specs.declared.query.Cq.{Cq}
use Rattle.mast_cq.specs.Meanings.{Fact}
use Rattle.mast_cq.specs.Queries.{In}
use Rattle.mast_tbox.specs.Laws.{Decided}
use Rattle.mast_canon.specs.CertainAnswers.{Certain}
use Rattle.mast_canon.specs.Elements.{Element}
use Rattle.mast_canon.specs.Interpretations.{Interpretation, DecidedInterpretation, IsAnswer, decided}
use Rattle.mast_canon.specs.KeptWorlds.{IsKeptWorld}
use Rattle.mast_canon.specs.NoModels.{NoModel}
use Rattle.mast_canon.specs.Theories.{Theory}
use Rattle.mast_canon.specs.TheoryPremises.{AreSorted, IsRestricted}
use Rattle.mast_canon.specs.Worlds.{IsWorld}

-- World law: facts of a world have a model, and their certain answers are answers in it
pub record WorldLaw {X : Type 0} (w : Interpretation X) (theory : Theory) (F : Fact Term → Type 0) : Type 0 where
  pub model : NoModel theory F → ⊥
  pub answers : (q : Cq) (tuple : List Term) → Certain theory F q tuple → IsAnswer w theory q tuple

-- the facts of F are those of a list
pub record IsListed (F : Fact Term → Type 0) : Type 0 where
  pub list : List (Fact Term)
  pub are : (f : Fact Term) → F f ↔ In f list

-- Kept law: a kept interpretation of facts that have a model is a world of them, and its answers in named terms are the certain ones
pub record KeptLaw (w : Interpretation Element) (theory : Theory) (F : Fact Term → Type 0) : Type 0 where
  pub world : IsWorld w theory F
  pub answers : (q : Cq) (tuple : List Term) → IsAnswer w theory q tuple ↔ Certain theory F q tuple

-- where the facts have a model, a kept interpretation has it
abbrev pub KeptIsWorld : Interpretation Element → Theory → (Fact Term → Type 0) → Type 0
KeptIsWorld w theory F = (NoModel theory F → ⊥) → IsKeptWorld w theory F → KeptLaw w theory F

-- what the law asks, as every specification and the facts of its tables have it: no restriction breach, and a list of facts whose objects and
-- values stand in their places
pub record IsWellFormed (theory : Theory) (F : Fact Term → Type 0) : Type 0 where
  pub restricted : IsRestricted theory
  pub listed : IsListed F
  pub sorted : AreSorted F

-- there is a kept interpretation whose relations are decided
pub record HasKeptWorld (theory : Theory) (F : Fact Term → Type 0) : Type 0 where
  pub interpretation : DecidedInterpretation Element
  pub kept : IsKeptWorld (decided interpretation) theory F

-- some decided interpretation is a world of the theory and the facts
pub record HasWorld (theory : Theory) (F : Fact Term → Type 0) : Type 0 where
  pub interpretation : DecidedInterpretation Element
  pub world : IsWorld (decided interpretation) theory F

-- the tuple is an answer of the query in every decided world
abbrev pub IsAnswerInEach : Theory → (Fact Term → Type 0) → Cq → List Term → Type 0
IsAnswerInEach theory F q tuple = (w : DecidedInterpretation Element) → IsWorld (decided w) theory F → IsAnswer (decided w) theory q tuple

-- there is no decided world
abbrev pub HasNoWorld : Theory → (Fact Term → Type 0) → Type 0
HasNoWorld theory F = HasWorld theory F → ⊥

-- Models law: what is broken has no world. Where there is no world, it can't be that nothing is broken; nothing is, exactly where there is a world.
-- Where it is decided whether something is broken, it is exactly where there is no world. Where nothing is, the certain answers are the answers in
-- every world
pub record ModelsLaw (theory : Theory) (F : Fact Term → Type 0) : Type 0 where
  pub broken : NoModel theory F → HasNoWorld theory F
  pub worldless : HasNoWorld theory F → (NoModel theory F → ⊥) → ⊥
  pub unbroken : (NoModel theory F → ⊥) ↔ HasWorld theory F
  pub where_decided : Decided (NoModel theory F) → NoModel theory F ↔ HasNoWorld theory F
  pub answers : (NoModel theory F → ⊥) → (q : Cq) (tuple : List Term) → Certain theory F q tuple ↔ IsAnswerInEach theory F q tuple
