-- The hits of the blocks are those of the query, over all rows of the tables.
use Rattle.std.proofs.Common.{List, ap, subst, sym}
use Rattle.std.specs.Prelude.{IfOk}
use Rattle.mast_terms.specs.Answers.{Answers}
use Rattle.mast_cq.specs.declared.query.Cq.{Cq}
use Rattle.mast_tables.specs.Rows.{Row}
use Rattle.mast_join.specs.declared.extensions.Wanted.TheVariants.{AllHits}
use Rattle.mast_join.specs.Extensions.{Over}
use Rattle.mast_certain.specs.Answered.{AreBlocks, AreHits, project_of}
use Rattle.mast_certain.specs.LargeClosures.{IsFirstTooLarge, NoneIsTooLarge}
use Rattle.mast_certain.proofs.UnionLemmas.{over_told}
use Rattle.mast_certain.proofs.supported.hits.Goals as goal

pub hits_of-requires-clause-over : goal.hits_of-requires-clause-over
hits_of-requires-clause-over g c = λ _ _. over_told c.args.spec.now AllHits c.args.tables.now.list c.new-extensions.result c.new-extensions.ensures.over c.new-extensions.ensures.wanted

pub hits_of-requires-clause-blocks : goal.hits_of-requires-clause-blocks
hits_of-requires-clause-blocks g c = λ _ _. subst (AreBlocks c.args.spec.now) (sym c.as_slice.ensures) c.requires.blocks

pub returns-clause-hits : goal.returns-clause-hits
returns-clause-hits g c =
    subst (λ (bs : List Cq). Answers c.hits_of.result (AreHits (project_of c.args.spec.now c.args.tables.now.list) bs) (IsFirstTooLarge c.args.spec.now bs)) c.as_slice.ensures
    (subst (λ (rows : List (List Row)). Answers c.hits_of.result (AreHits (project_of c.args.spec.now rows) c.as_slice.result.now) (IsFirstTooLarge c.args.spec.now c.as_slice.result.now))
    (ap (λ (o : Over). o.rows) c.new-extensions.ensures.over) c.hits_of.ensures.hits)

pub returns-clause-fits : goal.returns-clause-fits
returns-clause-fits g c = subst (λ (bs : List Cq). IfOk c.hits_of.result (λ _. NoneIsTooLarge c.args.spec.now bs)) c.as_slice.ensures c.hits_of.ensures.fits
