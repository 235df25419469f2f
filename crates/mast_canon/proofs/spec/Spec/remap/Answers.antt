use Rattle.mast_canon.proofs.spec.Spec.remap.Goals as goal

pub invariant_of-result : goal.invariant_of-result
invariant_of-result c =
    let s = c.args.self in
    let h = c.requires in
    record {
      axioms_in_range = s.axioms_in_range;
      constraints_in_range = s.constraints_in_range;
      maps_in_range = ∣ h.names ∣₁;
      formed = s.formed;
      over_tables = ∣ h.over ∣₁;
      is_normal = s.is_normal;
      unbreached = s.unbreached;
      tables_numbered = ∣ h.of_tables ∣₁;
      constraints_numbered = s.constraints_numbered;
      maps_numbered = h.of_maps;
    }
