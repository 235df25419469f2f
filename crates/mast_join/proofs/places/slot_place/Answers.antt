use Rattle.std.proofs.Common.{◌<◌, List, length, sym, ap, subst, ◌∙◌}
use Rattle.std.specs.Option.{option_map}
use Rattle.mast_sql.specs.declared.query.FromEntry.{FromEntry}
use Rattle.mast_canon.proofs.ChoiceLemmas.{place_within}
use Rattle.mast_canon.specs.Places.{meaning}
use Rattle.mast_join.proofs.HeadLemmas.{output_entry, output_few}
use Rattle.mast_join.proofs.places.slot_place.Goals as goal

pub column_place-requires-clause-entry : goal.column_place-requires-clause-entry
column_place-requires-clause-entry c =
    let o = output_entry c.args.decls.now c.args.query.now c.in-Output.name (meaning c.in-Some.place) (sym c.output_place.ensures ∙ ap (option_map meaning) c.in-Some.is) in
    subst (λ (entries : List FromEntry). c.in-Some.place.entry < length entries) (sym c.as_slice.ensures) (place_within c.args.query.now.from c.in-Some.place.entry o.entry o.stands)

pub column_place-requires-clause-column : goal.column_place-requires-clause-column
column_place-requires-clause-column c =
    let o = output_entry c.args.decls.now c.args.query.now c.in-Output.name (meaning c.in-Some.place) (sym c.output_place.ensures ∙ ap (option_map meaning) c.in-Some.is) in
    output_few c.args.decls.now c.args.query.now (meaning c.in-Some.place) c.requires.few o
