-- The words of the laws of specifications and the facts of their tables.
use Rattle.std.specs.Prelude.{◌↔◌, List}
use Rattle.mast_terms.specs.declared.term.Term.{Term}
use Rattle.mast_cq.specs.declared.query.Cq.{Cq}
use Rattle.mast_tables.specs.Rows.{Row}
use Rattle.mast_canon.specs.declared.spec.Spec.{Spec}
use Rattle.mast_canon.specs.CertainAnswers.{Certain}
use Rattle.mast_canon.specs.Elements.{Element}
use Rattle.mast_canon.specs.Interpretations.{DecidedInterpretation, Interpretation, IsAnswer, decided}
use Rattle.mast_canon.specs.KeptWorlds.{IsKeptWorld}
use Rattle.mast_canon.specs.NoModels.{NoModel}
use Rattle.mast_canon.specs.SpecFacts.{AllFacts}
use Rattle.mast_canon.specs.Theories.{theory_of}
use Rattle.mast_canon.specs.WorldLaws.{HasKeptWorld, KeptIsWorld}
use Rattle.mast_canon.specs.Worlds.{IsWorld}

-- NoModel(Facts(All))
abbrev pub HasNoModel : Spec → List (List Row) → Type 0
HasNoModel spec tables = NoModel (theory_of spec) (AllFacts spec tables)

-- the interpretation is a world of the specification and Facts(All)
abbrev pub IsWorldOf : Interpretation Element → Spec → List (List Row) → Type 0
IsWorldOf w spec tables = IsWorld w (theory_of spec) (AllFacts spec tables)

-- and it is Kept of them
abbrev pub IsKeptOf : Interpretation Element → Spec → List (List Row) → Type 0
IsKeptOf w spec tables = IsKeptWorld w (theory_of spec) (AllFacts spec tables)

-- each certain answer over Facts(All) is an answer in the interpretation
abbrev pub HasCertainAnswers : Interpretation Element → Spec → List (List Row) → Type 0
HasCertainAnswers w spec tables = (q : Cq) (tuple : List Term)
    → Certain (theory_of spec) (AllFacts spec tables) q tuple → IsAnswer w (theory_of spec) q tuple

-- and it has no others in named terms
abbrev pub HasOnlyCertainAnswers : Interpretation Element → Spec → List (List Row) → Type 0
HasOnlyCertainAnswers w spec tables = (q : Cq) (tuple : List Term)
    → IsAnswer w (theory_of spec) q tuple ↔ Certain (theory_of spec) (AllFacts spec tables) q tuple

-- there is a kept interpretation whose relations are decided, and each is a world with the certain answers where the facts have a model
pub record KeptLaws (spec : Spec) (tables : List (List Row)) : Type 0 where
  pub exists : HasKeptWorld (theory_of spec) (AllFacts spec tables)
  pub kept : (w : DecidedInterpretation Element) → KeptIsWorld (decided w) (theory_of spec) (AllFacts spec tables)
