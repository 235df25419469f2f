use Rattle.std.proofs.Common.{◌∷◌, [], ◌+◌, length, ap, ◌∙◌}
use Rattle.std.proofs.lemmas.List.{length-append}
use Rattle.mast_join.proofs.FillLemmas.{columns_first, columns_more}
use Rattle.mast_join.proofs.fill.make_columns.Goals as goal

pub loop-column-init : goal.loop-column-init
loop-column-init c = record {
  long = ap length c.clear.ensures.items;
  are = columns_first c.args.asked c.args.first c.args.second c.clear.new.self.items c.clear.ensures.items;
}

pub loop-column-preserved : goal.loop-column-preserved
loop-column-preserved c =
    let l = c.loop-column in
    record {
      long = ap length c.in_ok-push.ensures.items ∙ length-append l.row.items (c.column_number.result ∷ []) ∙ ap (λ n. n + 1) l.invariant.long;
      are = columns_more c.args.asked c.args.first c.args.second l.column l.row.items c.push.new.self.items c.column_number.result l.invariant.long c.column_number.ensures c.in_ok-push.ensures.items l.invariant.are;
    }
