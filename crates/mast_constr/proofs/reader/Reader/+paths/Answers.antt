-- The first was put, and then the rest was read.
use Rattle.std.proofs.Common.{sym, subst}
use Rattle.std.specs.Prelude.{Err}
use Rattle.mast_expressions.proofs.ReadLemmas.{stops_first}
use Rattle.mast_constr.specs.Paths.{path_judged, paths_judged, IsPath}
use Rattle.mast_constr.specs.inside.Rules.{page_in, ReadsPaths}
use Rattle.mast_constr.proofs.GrowLemmas.{path_grows}
use Rattle.mast_constr.proofs.StepLemmas.{one_and_rest}
use Rattle.mast_constr.proofs.reader.Reader.+paths.Goals as goal

pub returns-in-Err : goal.returns-in-Err
returns-in-Err t c =
    let page = page_in c.args.self.now in
    subst (λ xs. ReadsPaths page xs c.args.vocab.now c.put_path.new.vocab c.args.paths.now c.put_path.new.paths (Err c.in-Err.stop)) (sym c.in-Some.ensures)
    (stops_first c.args.vocab.now c.put_path.new.vocab c.put_path.new.vocab (path_judged page c.in-Some.item.now) (paths_judged page c.in-Some.rest.now) _ _ c.in-Err.stop c.in-Err.ensures)

pub returns-in-Ok : goal.returns-in-Ok
returns-in-Ok t c =
    let page = page_in c.args.self.now in
    let put = c.in-Ok.ensures in
    subst (λ xs. ReadsPaths page xs c.args.vocab.now c.paths.new.vocab c.args.paths.now c.paths.new.paths c.paths.result) (sym c.in-Some.ensures)
    (one_and_rest (λ lists. IsPath lists page) (λ late early b. path_grows late early page b) c.args.vocab.now c.put_path.new.vocab c.paths.new.vocab (path_judged page c.in-Some.item.now) (paths_judged page c.in-Some.rest.now)
    c.in-Some.item.now c.in-Some.rest.now c.args.paths.now c.put_path.new.paths c.paths.new.paths c.paths.result put.0 put.1 c.paths.ensures)
