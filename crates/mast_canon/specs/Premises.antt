-- What documents, and what tables and split mappings, have to be so that they make a specification, and when they are refused.
use Rattle.std.specs.Prelude.{List, Option, Some, None, Result}
use Rattle.mast_terms.specs.declared.memory.Stop.{Stop}
use Rattle.mast_terms.specs.Answers.{Answers}
use Rattle.mast_terms.specs.Vocabularies.{Lists}
use Rattle.mast_tables.specs.declared.declaration.TableDecl.{TableDecl}
use Rattle.mast_mapping.specs.declared.map.Mappings.{Mappings}
use Rattle.mast_mapping.specs.declared.split_map.SplitMap.{SplitMap}
use Rattle.mast_mapping.specs.InRange.{AreInRange}
use Rattle.mast_mapping.specs.OverTables.{AreOverTables}
use Rattle.mast_mapping.specs.Split.{split_maps}
use Rattle.mast_tbox.specs.declared.constraint.Constraints.{Constraints}
use Rattle.mast_tbox.specs.declared.restriction.RestrictionBreach.{RestrictionBreach}
use Rattle.mast_tbox.specs.declared.tbox.Ontology.{Ontology}
use Rattle.mast_tbox.specs.ConstraintForms.{HaveForm}
use Rattle.mast_tbox.specs.Restrictions.{IsRestrictionBreach}
use Rattle.mast_tbox.specs.Vocabularies.{AxiomsInRange, ConstraintsInRange}
use Rattle.mast_tree.specs.Growing.{Begins}
use Rattle.mast_canon.specs.Conditions.{SplitInRange, SplitOverTables, HasNumbers, TablesHaveNumbers}

-- the names are in range, the maps are over the tables, and places have numbers of 32 bits
pub record AreMappings (mappings : Mappings) : Type 0 where
  pub names : AreInRange mappings.vocab mappings.maps
  pub over : AreOverTables mappings.tables mappings.maps
  pub tables : TablesHaveNumbers mappings.tables
  pub heads : HasNumbers (split_maps mappings.maps)

-- the vocabulary of the constraints begins with that of the ontology, and that of the mappings with both; names and constants are in
-- range, each constraint has its form, the maps are over the tables, and places have numbers of 32 bits
pub record AreOneSpecification (ontology : Ontology) (constraints : Constraints) (mappings : Mappings) : Type 0 where
  pub first : Begins constraints.vocab ontology.vocab
  pub second : Begins mappings.vocab constraints.vocab
  pub axioms : AxiomsInRange ontology.vocab ontology.tbox.inclusions ontology.tbox.negatives ontology.tbox.functional
  pub names : ConstraintsInRange constraints.vocab constraints.list
  pub formed : HaveForm constraints.list
  pub numbered : HasNumbers constraints.list
  pub maps : AreMappings mappings

-- split mappings over these tables, with names of the vocabulary; places have numbers of 32 bits
pub record AreSplitMaps (lists : Lists) (tables : List TableDecl) (maps : List SplitMap) : Type 0 where
  pub names : SplitInRange lists maps
  pub over : SplitOverTables tables maps
  pub of_tables : TablesHaveNumbers tables
  pub of_maps : HasNumbers maps

-- the restriction breach of the axioms and the constraints, or that they have none
abbrev pub IsBreachOf : Ontology → Constraints → Option RestrictionBreach → Type 0
IsBreachOf ontology constraints breach = IsRestrictionBreach ontology.tbox.inclusions ontology.tbox.functional constraints.list breach

-- the refusal is the restriction breach, and it comes exactly where there is one
abbrev pub IsRefusedAtBreach : {T : Type 0} → Ontology → Constraints → Result T (Stop RestrictionBreach) → Type 0
IsRefusedAtBreach ontology constraints result =
    Answers result (λ made. IsBreachOf ontology constraints None) (λ breach. IsBreachOf ontology constraints (Some breach))
