use Rattle.std.proofs.Common.{ap, ◌∙◌, arith}
use Rattle.mast_unfold.specs.inside.Listing.{same_name}
use Rattle.mast_unfold.specs.inside.Lookups.{found, put}
use Rattle.mast_unfold.proofs.ElementLemmas.{read_at}
use Rattle.mast_unfold.proofs.IndexLemmas.{no_entries, entries_more, entries_end}
use Rattle.mast_unfold.proofs.unfolder.index_of.Goals as goal

pub loop-map-init : goal.loop-map-init
loop-map-init c = record { at = omega arith; are = no_entries c.args.tables.now c.args.maps.now (found same_name c.new-index.result) c.new-index.ensures }

pub loop-map-preserved : goal.loop-map-preserved
loop-map-preserved c =
    let maps = c.args.maps.now in
    let i = c.loop-map.map-index in
    let w = c.loop-map.invariant in
    record {
      at = omega (arith, w.at);
      are = entries_more c.kinded_name_laws.ensures c.args.tables.now maps i c.map-item.result (read_at maps i c.map-item.result c.loop-map-test.true c.map-item.is)
          (record { map = c.loop-map.number; form = c.in_ok-form.form }) w.at c.in_ok-form.ensures c.loop-map.index c.add.new.self
          (λ name. c.in_ok-add.ensures name ∙ ap (λ k. put same_name c.loop-map.index k (record { map = c.loop-map.number; form = c.in_ok-form.form }) name) c.name_of_head.ensures)
          w.are;
    }

pub returns : goal.returns
returns c = entries_end c.args.tables.now c.args.maps.now c.loop-map.map-index (found same_name c.loop-map.index) c.loop-map-test.false c.loop-map.invariant.are
