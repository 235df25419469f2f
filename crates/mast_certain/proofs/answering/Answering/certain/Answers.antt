-- The answers of the blocks are those of the query, and what is asked over stays.
use Rattle.std.proofs.Common.{List, ap, subst, sym, ◌∙◌}
use Rattle.std.specs.Prelude.{IfOk}
use Rattle.mast_terms.specs.Answers.{Answers}
use Rattle.mast_cq.specs.declared.query.Cq.{Cq}
use Rattle.mast_join.specs.Extensions.{Over}
use Rattle.mast_certain.specs.Answered.{AreBlocks, AreCertain, Project, project_of}
use Rattle.mast_certain.specs.LargeClosures.{IsFirstTooLarge, NoneIsTooLarge}
use Rattle.mast_certain.proofs.answering.Answering.certain.Goals as goal

pub answers_of-requires-clause-blocks : goal.answers_of-requires-clause-blocks
answers_of-requires-clause-blocks g c = λ _ _.
    subst (AreBlocks c.self.inside.spec.now) (sym c.as_slice.ensures) (subst (λ (p : Project). AreBlocks p.spec c.args.query.now) (sym c.self.view_is) c.requires.blocks)

pub returns-clause-same : goal.returns-clause-same
returns-clause-same g c = ap (λ (o : Over). project_of c.self.inside.spec.now o.rows) c.answers_of.ensures.over.over ∙ c.self.view_is

pub returns-clause-answers : goal.returns-clause-answers
returns-clause-answers g c =
    subst (λ (p : Project). Answers c.answers_of.result (AreCertain p c.args.query.now) (IsFirstTooLarge p.spec c.args.query.now)) c.self.view_is
    (subst (λ (bs : List Cq). Answers c.answers_of.result (AreCertain (project_of c.self.inside.spec.now c.self.inside.extensions.over.rows) bs) (IsFirstTooLarge c.self.inside.spec.now bs))
    c.as_slice.ensures c.answers_of.ensures.answers)

pub returns-clause-fits : goal.returns-clause-fits
returns-clause-fits g c =
    subst (λ (p : Project). IfOk c.answers_of.result (λ _. NoneIsTooLarge p.spec c.args.query.now)) c.self.view_is
    (subst (λ (bs : List Cq). IfOk c.answers_of.result (λ _. NoneIsTooLarge c.self.inside.spec.now bs)) c.as_slice.ensures c.answers_of.ensures.fits)
