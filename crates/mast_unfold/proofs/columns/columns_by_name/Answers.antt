use Rattle.std.proofs.Common.{◌≡◌, ◌-◌, ◌+◌, ◌<◌, length, drop, ap, subst, ◌∙◌, arith}
use Rattle.std.specs.Option.{option_map}
use Rattle.mast_mapping.specs.Columns.{column_named}
use Rattle.mast_unfold.specs.inside.Lookups.{numbered, named, renamed}
use Rattle.mast_unfold.proofs.LookupLemmas.{columns_step}
use Rattle.mast_unfold.proofs.columns.columns_by_name.Goals as goal

pub loop-left-preserved : goal.loop-left-preserved
loop-left-preserved c =
    let columns = c.args.columns.now in
    let i = c.loop-left.left - 1 in
    let w = c.loop-left.invariant in
    let lt : i < length columns = omega (arith, w.within, c.loop-left-test.true) in
    let next : c.loop-left.left ≡ i + 1 = omega (arith, c.loop-left-test.true) in
    record {
      within = omega arith;
      are = columns_step columns i c.index-columns-left.result c.loop-left.by_name c.put.new.self lt c.index-columns-left.is
          (λ name entry. subst (λ k. option_map (numbered entry) (named c.loop-left.by_name name) ≡ column_named name entry k (drop k columns)) next (w.are name entry))
          (λ name. c.in_ok-put.ensures name ∙ ap (λ key. renamed c.loop-left.by_name key (record { number = i; kind = c.index-columns-left.result.kind }) name) c.as_str.ensures);
    }
