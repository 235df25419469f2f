use Rattle.std.proofs.Common.{List, ◌+◌, arith, subst, sym, take}
use Rattle.std.specs.List.{AllByRecursion}
use Rattle.mast_tables.specs.declared.declaration.TableDecl.{TableDecl}
use Rattle.mast_tables.specs.Rows.{Row}
use Rattle.mast_canon.specs.Fitting.{Fits, IsRowOf}
use Rattle.mast_join.proofs.HeadLemmas.{zip_more}
use Rattle.mast_join_tests.proofs.extension_tests.tables_of.Goals as goal

pub loop-place-preserved : goal.loop-place-preserved
loop-place-preserved c =
    subst (λ (tables : List (List Row)). Fits (take (c.loop-place.place + 1) c.args.decls.now) tables) (sym c.in_ok-push.ensures.ok)
    (zip_more (λ (decl : TableDecl) (rows : List Row). AllByRecursion (IsRowOf decl) rows) c.args.decls.now c.loop-place.list c.loop-place.place c.index-decls-place.result c.in_ok-loaded.field-0
    (omega (arith, c.loop-place-test.true)) c.index-decls-place.is c.loop-place.invariant c.in_ok-loaded.ensures.fit)
