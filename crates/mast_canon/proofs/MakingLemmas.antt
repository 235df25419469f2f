-- Why a specification that is made keeps its condition.
use Rattle.std.proofs.Common.{◌≡◌, List, [], subst, sym, arith}
use Rattle.std.proofs.Math.Logic.{∥∥₁_map}
use Rattle.std.specs.Prelude.{Option, None, Result, Ok, Err, IsErrAnd}
use Rattle.mast_terms.specs.declared.memory.Stop.{Stop}
use Rattle.mast_terms.specs.declared.memory.Stop.TheVariants.{Named, NoMemory}
use Rattle.mast_terms.specs.Vocabularies.{Lists}
use Rattle.mast_mapping.specs.declared.map.Mappings.{Mappings}
use Rattle.mast_mapping.specs.declared.split_map.SplitMap.{SplitMap}
use Rattle.mast_mapping.specs.Split.{split_maps}
use Rattle.mast_tbox.specs.declared.axiom.Inclusion.{Inclusion}
use Rattle.mast_tbox.specs.declared.axiom.Lined.{Lined}
use Rattle.mast_tbox.specs.declared.axiom.Negative.{Negative}
use Rattle.mast_tbox.specs.declared.constraint.Constraint.{Constraint}
use Rattle.mast_tbox.specs.declared.constraint.Constraints.{Constraints}
use Rattle.mast_tbox.specs.declared.expression.Prop.{Prop}
use Rattle.mast_tbox.specs.declared.restriction.RestrictionBreach.{RestrictionBreach}
use Rattle.mast_tbox.specs.declared.tbox.Ontology.{Ontology}
use Rattle.mast_tbox.specs.ConstraintForms.{HaveForm}
use Rattle.mast_tbox.specs.Restrictions.{IsRestrictionBreach}
use Rattle.mast_tbox.specs.Vocabularies.{AxiomsInRange, ConstraintsInRange}
use Rattle.mast_canon.specs.Conditions.{SplitInRange, SplitOverTables, HasNumbers}
use Rattle.mast_tree.specs.Growing.{Begins}
use Rattle.mast_canon.specs.Premises.{AreMappings, AreOneSpecification, IsRefusedAtBreach}
use Rattle.mast_canon.proofs.GrowthLemmas.{axioms_stay, constraints_stay, maps_stay}
use Rattle.mast_canon.proofs.OverLemmas.{split_in_range, split_over_tables, empty_unbreached}

module _ (o : Ontology) (cs : Constraints) (ms : Mappings) (h : AreOneSpecification o cs ms) where
  -- of three documents: the names of the axioms are in range of the last vocabulary
  pub made_axioms : ∥ AxiomsInRange ms.vocab o.tbox.inclusions o.tbox.negatives o.tbox.functional ∥₁
  made_axioms = ∣ axioms_stay ms.vocab cs.vocab h.second o.tbox.inclusions o.tbox.negatives o.tbox.functional
      (axioms_stay cs.vocab o.vocab h.first o.tbox.inclusions o.tbox.negatives o.tbox.functional h.axioms) ∣₁

  -- and the names and constants of the constraints
  pub made_constraints : ∥ ConstraintsInRange ms.vocab cs.list ∥₁
  made_constraints = ∣ constraints_stay ms.vocab cs.vocab h.second cs.list h.names ∣₁

module _ (ms : Mappings) (maps : List SplitMap) (h : AreMappings ms) (e : maps ≡ split_maps ms.maps) where
  -- of a mapping document: the names of the heads are in range
  pub made_maps : ∥ SplitInRange ms.vocab maps ∥₁
  made_maps = ∣ subst (λ (m : List SplitMap). SplitInRange ms.vocab m) (sym e) (split_in_range ms.vocab ms.maps h.names) ∣₁

  -- the split mappings are over the tables
  pub made_over : ∥ SplitOverTables ms.tables maps ∥₁
  made_over = ∣ subst (λ (m : List SplitMap). SplitOverTables ms.tables m) (sym e) (split_over_tables ms.tables ms.maps h.over) ∣₁

  -- their places have numbers
  pub made_numbers : HasNumbers maps
  made_numbers = subst (λ (m : List SplitMap). HasNumbers m) (sym e) h.heads

-- a larger vocabulary keeps what is in range
module _ (new old : Lists) (b : Begins new old) where
  -- of axioms
  pub grown_axioms : (inclusions : List (Lined Inclusion)) (negatives : List (Lined Negative)) (functional : List (Lined Prop)) → ∥ AxiomsInRange old inclusions negatives functional ∥₁ → ∥ AxiomsInRange new inclusions negatives functional ∥₁
  grown_axioms inclusions negatives functional t = ∥∥₁_map t (axioms_stay new old b inclusions negatives functional)

  -- of constraints
  pub grown_constraints : (constraints : List (Lined Constraint)) → ∥ ConstraintsInRange old constraints ∥₁ → ∥ ConstraintsInRange new constraints ∥₁
  grown_constraints constraints t = ∥∥₁_map t (constraints_stay new old b constraints)

  -- of split mappings
  pub grown_maps : (maps : List SplitMap) → ∥ SplitInRange old maps ∥₁ → ∥ SplitInRange new maps ∥₁
  grown_maps maps t = ∥∥₁_map t (maps_stay new old b maps)

-- where lists of axioms and of constraints are empty, all names are in range, and nothing is breached
module _ (lists : Lists) where
  -- no axiom
  pub no_axioms : (inclusions : List (Lined Inclusion)) (negatives : List (Lined Negative)) (functional : List (Lined Prop)) → inclusions ≡ [] → negatives ≡ [] → functional ≡ [] → ∥ AxiomsInRange lists inclusions negatives functional ∥₁
  no_axioms inclusions negatives functional i n f =
      rw (i, n, f) (∣ record { of_inclusions = tt; of_negatives = tt; of_functional = tt } ∣₁)

  -- no constraint
  pub no_constraints : (constraints : List (Lined Constraint)) → constraints ≡ [] → ∥ ConstraintsInRange lists constraints ∥₁
  no_constraints constraints e = rw e (∣ record { names = tt; constants = tt } ∣₁)

-- no constraint without its form
pub none_formed : (constraints : List (Lined Constraint)) → constraints ≡ [] → ∥ HaveForm constraints ∥₁
none_formed constraints e = rw e (∣ tt ∣₁)

-- no constraint without a number
pub none_numbered : (constraints : List (Lined Constraint)) → constraints ≡ [] → HasNumbers constraints
none_numbered constraints e = rw e (omega arith)

-- no breach
pub no_breach : (inclusions : List (Lined Inclusion)) (functional : List (Lined Prop)) (constraints : List (Lined Constraint)) → inclusions ≡ [] → functional ≡ [] → constraints ≡ [] → ∥ IsRestrictionBreach inclusions functional constraints None ∥₁
no_breach inclusions functional constraints i f e = rw (i, f, e) (∣ empty_unbreached ∣₁)

-- the same breach of the same constraints
pub same_breach : (inclusions : List (Lined Inclusion)) (functional : List (Lined Prop)) (constraints others : List (Lined Constraint)) (breach other : Option RestrictionBreach) → constraints ≡ others → breach ≡ other → IsRestrictionBreach inclusions functional constraints breach → IsRestrictionBreach inclusions functional others other
same_breach inclusions functional constraints others breach other e f h =
    subst (λ (b : Option RestrictionBreach). IsRestrictionBreach inclusions functional others b) f
    (subst (λ (cs : List (Lined Constraint)). IsRestrictionBreach inclusions functional cs breach) e h)

-- what stops the parts stops the whole
stopped : (S T : Type 0) (o : Ontology) (cs : Constraints) (stop : Stop RestrictionBreach) → IsRefusedAtBreach {T = S} o cs (Err stop) → IsRefusedAtBreach {T = T} o cs (Err stop)
stopped S T o cs (Named breach) h = h
stopped S T o cs NoMemory h = tt

-- so it does where the whole ends with the same stop
pub stopped_too : (S T : Type 0) (o : Ontology) (cs : Constraints) (stop : Stop RestrictionBreach) (result : Result T (Stop RestrictionBreach)) → IsErrAnd result (λ e. e ≡ stop) → IsRefusedAtBreach {T = S} o cs (Err stop) → IsRefusedAtBreach o cs result
stopped_too S T o cs stop (Ok made) same h = absurd same
stopped_too S T o cs stop (Err e) same h = subst (λ (x : Stop RestrictionBreach). IsRefusedAtBreach {T = T} o cs (Err x)) (sym same) (stopped S T o cs stop h)
