-- One table more was loaded, or the run ends at it.
use Rattle.std.proofs.Common.{◌∙◌, subst, arith}
use Rattle.std.specs.List.{AllByRecursion}
use Rattle.mast_canon.specs.Fitting.{IsRowOf}
use Rattle.mast_cli.specs.inside.Causes.{PartHasCause}
use Rattle.mast_cli.specs.inside.Telling.{IfRead}
use Rattle.mast_cli.proofs.LoadingLemmas.{fits_all, fits_more, gone_end, gone_step, gone_stop}
use Rattle.mast_cli.proofs.tables.judge_tables.Goals as goal

pub returns-in-Ended-clause-told : goal.returns-in-Ended-clause-told
returns-in-Ended-clause-told g c =
    let l = c.loop-decl in
    gone_stop (g.F.Files.contents c.args.files.now) (g.F.Files.contents l.files) c.args.decls.now l.decl-index c.decl-item.result l.left c.judge_table.new.left l.tables (g.F.Files.reading c.judge_table.new.files) c.in_ok-table.field-0
    c.loop-decl-test.true c.decl-item.is l.invariant.kept c.files_have_one_answer.ensures.some c.in-Ended.judged c.in-Ended.is l.invariant.told c.in_ok-table.ensures.told

pub loop-decl-preserved : goal.loop-decl-preserved
loop-decl-preserved g c =
    let l = c.loop-decl in
    let one = c.in_ok-table in
    let rows = c.in-Read.table in
    let less = l.invariant.less in
    let fewer = one.ensures.less in
    record {
      kept = one.ensures.kept ∙ l.invariant.kept;
      quiet = subst (PartHasCause (g.F.Files.faults l.files) (g.F.Files.faults c.judge_table.new.files) (g.F.Files.reading c.judge_table.new.files)) c.in-Read.is one.ensures.cause ∙ l.invariant.quiet;
      less = omega (less, fewer, arith);
      fits =
          fits_more c.args.decls.now l.decl-index c.decl-item.result rows l.tables c.push.new.self
          c.loop-decl-test.true c.decl-item.is l.invariant.fits (subst (IfRead (AllByRecursion (IsRowOf c.decl-item.result))) c.in-Read.is one.ensures.fits) c.in_ok-push-in-Read.ensures.ok;
      told =
          gone_step (g.F.Files.contents c.args.files.now) (g.F.Files.contents l.files) c.args.decls.now l.decl-index c.decl-item.result l.left c.judge_table.new.left l.tables (g.F.Files.reading c.judge_table.new.files) one.field-0
          c.loop-decl-test.true c.decl-item.is l.invariant.kept rows c.push.new.self c.in-Read.is c.in_ok-push-in-Read.ensures.ok l.invariant.told one.ensures.told;
    }

pub returns-clause-told : goal.returns-clause-told
returns-clause-told g c =
    let l = c.loop-decl in
    gone_end (g.F.Files.contents c.args.files.now) c.args.decls.now l.decl-index l.left.bytes l.left.rows l.tables c.loop-decl-test.false l.invariant.told

pub returns-clause-fits : goal.returns-clause-fits
returns-clause-fits g c = fits_all c.args.decls.now c.loop-decl.decl-index c.loop-decl.tables c.loop-decl-test.false c.loop-decl.invariant.fits
