use Rattle.std.proofs.Common.{ℕ, List, [], arith, subst, sym}
use Rattle.mast_relations.proofs.ListLemmas.{in_get}
use Rattle.mast_join.specs.Answers.{IsNumberRow}
use Rattle.mast_join_tests.proofs.extension_tests.lines.Goals as goal

pub hit_of-requires : goal.hit_of-requires
hit_of-requires c =
    subst (λ (row : List ℕ). IsNumberRow c.args.extensions.now row c.args.width) (sym c.row.ensures.row)
    (c.requires _ (in_get c.args.rows.now.list c.loop-number.number [] (omega (arith, c.loop-number-test.true, c.len-number-end.ensures.len))))
