use Rattle.mast_canon.proofs.MakingLemmas.{made_axioms, made_constraints, made_maps, made_over, made_numbers, stopped_too}
use Rattle.mast_canon.proofs.spec.Spec.new.Goals as goal

pub made-requires : goal.made-requires
made-requires c = c.requires.maps.heads

pub returns-in_err-normal-clause-exact : goal.returns-in_err-normal-clause-exact
returns-in_err-normal-clause-exact c = stopped_too _ _ c.args.ontology c.args.constraints c.in_err-normal.field-0.0 c.from_residual.result c.from_residual.ensures.1 c.in_err-normal.ensures.exact

pub invariant_of-result : goal.invariant_of-result
invariant_of-result c =
    let o = c.args.ontology in
    let cs = c.args.constraints in
    let ms = c.args.mappings in
    let h = c.requires in
    let m = c.in_ok-normal in
    record {
      axioms_in_range = made_axioms o cs ms h;
      constraints_in_range = made_constraints o cs ms h;
      maps_in_range = made_maps ms m.maps h.maps m.ensures.maps;
      formed = ∣ h.formed ∣₁;
      over_tables = made_over ms m.maps h.maps m.ensures.maps;
      is_normal = m.ensures.normal;
      unbreached = ∣ m.ensures.exact ∣₁;
      tables_numbered = ∣ h.maps.tables ∣₁;
      constraints_numbered = h.numbered;
      maps_numbered = made_numbers ms m.maps h.maps m.ensures.maps;
    }
