use Rattle.mast_canon.proofs.MakingLemmas.{grown_axioms, grown_constraints, grown_maps}
use Rattle.mast_canon.proofs.spec.Spec.with_vocab.Goals as goal

pub invariant_of-result : goal.invariant_of-result
invariant_of-result c =
    let s = c.args.self in
    let v = c.args.vocab in
    record {
      axioms_in_range = grown_axioms v s.vocab c.requires s.tbox.inclusions s.tbox.negatives s.tbox.functional s.axioms_in_range;
      constraints_in_range = grown_constraints v s.vocab c.requires s.constraints s.constraints_in_range;
      maps_in_range = grown_maps v s.vocab c.requires s.maps s.maps_in_range;
      formed = s.formed;
      over_tables = s.over_tables;
      is_normal = s.is_normal;
      unbreached = s.unbreached;
      tables_numbered = s.tables_numbered;
      constraints_numbered = s.constraints_numbered;
      maps_numbered = s.maps_numbered;
    }
