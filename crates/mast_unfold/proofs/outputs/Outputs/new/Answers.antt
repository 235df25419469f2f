use Rattle.std.proofs.Common.{◌≡◌, ◌-◌, ◌+◌, ◌<◌, List, length, drop, ap, subst, ◌∙◌, arith}
use Rattle.std.specs.Option.{option_map}
use Rattle.mast_sql.specs.declared.query.FromEntry.{FromEntry}
use Rattle.mast_mapping.specs.Columns.{item_named, meaning_of, meaning_of_item}
use Rattle.mast_unfold.specs.inside.Lookups.{named, noted_place, place_of, renamed}
use Rattle.mast_unfold.proofs.LookupLemmas.{outputs_step}
use Rattle.mast_unfold.proofs.outputs.Outputs.new.Goals as goal

pub loop-left-preserved : goal.loop-left-preserved
loop-left-preserved c =
    let items = c.as_slice-items.result.now in
    let i = c.loop-left.left - 1 in
    let w = c.loop-left.invariant in
    let lt : i < length items = omega (arith, w.within, c.loop-left-test.true) in
    let next : c.loop-left.left ≡ i + 1 = omega (arith, c.loop-left-test.true) in
    let item = c.index-items-left.result in
    record {
      within = omega arith;
      are = outputs_step c.args.tables.now c.args.query.now.from items i item c.place_of-place.result c.loop-left.by_name c.put.new.self lt c.index-items-left.is
          (c.place_of-place.ensures ∙ ap (λ (from : List FromEntry). meaning_of c.args.tables.now from item.alias item.column) c.as_slice.ensures)
          (λ name. subst (λ k. noted_place (named c.loop-left.by_name name) ≡ option_map place_of (meaning_of_item c.args.tables.now c.args.query.now.from (item_named name (drop k items)))) next (w.are name))
          (λ name. c.in_ok-put.ensures name ∙ ap (λ key. renamed c.loop-left.by_name key c.place_of-place.result name) c.as_str.ensures);
    }
