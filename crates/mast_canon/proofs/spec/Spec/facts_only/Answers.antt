use Rattle.mast_canon.proofs.MakingLemmas.{made_maps, made_over, made_numbers, no_axioms, no_constraints, none_formed, none_numbered, no_breach}
use Rattle.mast_canon.proofs.spec.Spec.facts_only.Goals as goal

pub invariant_of-result : goal.invariant_of-result
invariant_of-result c =
    let h = c.requires in
    let ms = c.args.mappings in
    record {
      axioms_in_range = no_axioms ms.vocab c.new.result c.new-2.result c.new-3.result c.new.ensures c.new-2.ensures c.new-3.ensures;
      constraints_in_range = no_constraints ms.vocab c.new-4.result c.new-4.ensures;
      maps_in_range = made_maps ms c.in_ok-maps.maps h c.in_ok-maps.ensures;
      formed = none_formed c.new-4.result c.new-4.ensures;
      over_tables = made_over ms c.in_ok-maps.maps h c.in_ok-maps.ensures;
      is_normal = c.in_ok-normal.ensures;
      unbreached = no_breach c.new.result c.new-3.result c.new-4.result c.new.ensures c.new-3.ensures c.new-4.ensures;
      tables_numbered = ∣ h.tables ∣₁;
      constraints_numbered = none_numbered c.new-4.result c.new-4.ensures;
      maps_numbered = made_numbers ms c.in_ok-maps.maps h c.in_ok-maps.ensures;
    }
