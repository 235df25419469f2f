-- What the readers of an ontology, of constraints and of mappings tell makes the documents one specification.
use Rattle.mast_mapping.specs.declared.map.Mappings.{Mappings}
use Rattle.mast_tbox.specs.declared.constraint.Constraints.{Constraints}
use Rattle.mast_tbox.specs.declared.tbox.Ontology.{Ontology}
use Rattle.mast_tree.specs.Growing.{Begins}
use Rattle.mast_onto.specs.Known.{HasNames}
use Rattle.mast_constr.specs.Kept.{AreKept}
use Rattle.mast_canon.specs.Conditions.{HasNumbers}
use Rattle.mast_canon.specs.Premises.{AreMappings, AreOneSpecification}

-- read one after the other, each over the vocabulary of the one before, the documents are one specification
pub read_are_one : (o : Ontology) (cs : Constraints) (ms : Mappings) → HasNames o → Begins cs.vocab o.vocab → AreKept cs → HasNumbers cs.list
    → Begins ms.vocab cs.vocab → AreMappings ms → AreOneSpecification o cs ms
read_are_one o cs ms names first kept numbered second maps = record {
  first = first;
  second = second;
  axioms = names;
  names = kept.names;
  formed = kept.formed;
  numbered = numbered;
  maps = maps;
}
