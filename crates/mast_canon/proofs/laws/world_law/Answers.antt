use Rattle.mast_canon.specs.SeenWorlds.{seen}
use Rattle.mast_canon.specs.SpecFacts.{AllFacts}
use Rattle.mast_canon.specs.Theories.{theory_of}
use Rattle.mast_canon.proofs.WorldLemmas.{world_unbroken, certain_true}
use Rattle.mast_canon.proofs.laws.world_law.Goals as goal

pub returns-clause-model : goal.returns-clause-model
returns-clause-model g c = world_unbroken (seen g.W.World c.args.world.now) (theory_of c.args.spec.now) (AllFacts c.args.spec.now c.args.tables.now.list) c.requires

pub returns-clause-answers : goal.returns-clause-answers
returns-clause-answers g c = λ q tuple. certain_true (seen g.W.World c.args.world.now) (theory_of c.args.spec.now) (AllFacts c.args.spec.now c.args.tables.now.list) c.requires q tuple
