-- The world in which everything is true is one of a specification that says nothing.
use Rattle.mast_canon_tests.proofs.WorldLemmas.{everything_is_world}
use Rattle.mast_canon_tests.proofs.worlds.facts_alone_have_a_model.Goals as goal

pub world_law-requires : goal.world_law-requires
world_law-requires c =
    let r = c.requires in everything_is_world c.args.spec.now c.args.tables.now.list r.inclusions r.negatives r.functional r.constraints
