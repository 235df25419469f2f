-- The answers are those of the specification and its tables.
use Rattle.std.proofs.Common.{subst, sym}
use Rattle.std.specs.Prelude.{IfOk}
use Rattle.mast_terms.specs.Answers.{Answers}
use Rattle.mast_certain.specs.Answered.{AreBlocks, AreCertain, Project}
use Rattle.mast_certain.specs.LargeClosures.{IsFirstTooLarge, NoneIsTooLarge}
use Rattle.mast_certain.proofs.answering.certain.Goals as goal

pub certain-requires-clause-blocks : goal.certain-requires-clause-blocks
certain-requires-clause-blocks g c = λ _ _. subst (λ (p : Project). AreBlocks p.spec c.args.query.now) (sym c.new-answering.ensures) c.requires.blocks

pub returns-clause-answers : goal.returns-clause-answers
returns-clause-answers g c = subst (λ (p : Project). Answers c.certain.result (AreCertain p c.args.query.now) (IsFirstTooLarge p.spec c.args.query.now)) c.new-answering.ensures c.certain.ensures.answers

pub returns-clause-fits : goal.returns-clause-fits
returns-clause-fits g c = subst (λ (p : Project). IfOk c.certain.result (λ _. NoneIsTooLarge p.spec c.args.query.now)) c.new-answering.ensures c.certain.ensures.fits
