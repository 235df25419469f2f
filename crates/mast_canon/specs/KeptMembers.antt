-- Kept(spec, Facts(All)): its relations are those of the kept interpretation; its kinds and fillers are found by tests.
use Rattle.std.specs.Prelude.{ℕ, List, Option}
use Rattle.mast_terms.specs.declared.term.Term.{Term}
use Rattle.mast_terms.specs.declared.value.Kind.{Kind}
use Rattle.mast_cq.specs.Meanings.{Fact}
use Rattle.mast_tables.specs.Rows.{Row}
use Rattle.mast_canon.specs.declared.spec.Spec.{Spec}
use Rattle.mast_canon.specs.Elements.{Element}
use Rattle.mast_canon.specs.FactLists.{all_facts}
use Rattle.mast_canon.specs.KeptChoices.{fill, kind_of}
use Rattle.mast_canon.specs.KeptWorlds.{IsKeptFact}
use Rattle.mast_canon.specs.SpecFacts.{AllFacts}
use Rattle.mast_canon.specs.Theories.{theory_of, stated}

-- the fact is true in Kept
abbrev pub IsTrueInKept : Spec → List (List Row) → Fact Element → Type 0
IsTrueInKept spec tables f = IsKeptFact (theory_of spec) (AllFacts spec tables) f

-- the facts of all rows, as a list
abbrev pub listed : Spec → List (List Row) → List (Fact Term)
listed spec tables = all_facts spec.tables tables spec.maps

-- the kind of an element
abbrev pub kept_kind : Spec → List (List Row) → Element → Option Kind
kept_kind spec tables e = kind_of (stated (theory_of spec)) (listed spec tables) e

-- the filler of a number for an element
abbrev pub kept_fill : Spec → List (List Row) → ℕ → Element → Element
kept_fill spec tables k e = fill (stated (theory_of spec)) (listed spec tables) k e
