-- It is over all rows of the tables, and asks for tuples.
use Rattle.std.proofs.Common.{ap}
use Rattle.mast_join.specs.declared.extensions.Wanted.TheVariants.{Tuples}
use Rattle.mast_join.specs.Extensions.{Over}
use Rattle.mast_certain.specs.Answered.{project_of}
use Rattle.mast_certain.proofs.UnionLemmas.{over_told}
use Rattle.mast_certain.proofs.answering.Answering.new.Goals as goal

pub invariant_of-result : goal.invariant_of-result
invariant_of-result c = over_told c.args.spec.now Tuples c.args.tables.now.list c.new.result c.new.ensures.over c.new.ensures.wanted

pub returns : goal.returns
returns c = ap (λ (o : Over). project_of c.args.spec.now o.rows) c.new.ensures.over
