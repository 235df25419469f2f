-- A left side was read, and then paths.
use Rattle.std.proofs.Common.{refl}
use Rattle.mast_tree.proofs.GrowingLemmas.{right_begins}
use Rattle.mast_tree.proofs.JudgementLemmas.{right_parts}
use Rattle.mast_expressions.specs.Judged.{left_judged}
use Rattle.mast_expressions.proofs.GivenLemmas.{left_grows}
use Rattle.mast_constr.specs.Paths.{paths_judged}
use Rattle.mast_constr.specs.inside.Rules.{page_in}
use Rattle.mast_constr.proofs.StepLemmas.{first_stops, second_stops, added_all}
use Rattle.mast_constr.proofs.reader.Reader.concept_paths.Goals as goal

pub returns-in_err-concept : goal.returns-in_err-concept
returns-in_err-concept c =
    let page = page_in c.args.self.now in
    first_stops c.args.vocab.now c.left.new.vocab c.left.new.vocab (left_judged page c.args.left.now) (paths_judged page c.args.items.now) _ _
    c.from_residual.result c.in_err-concept.field-0.0 c.from_residual.ensures.1 c.in_err-concept.ensures

pub returns-in_err-paths : goal.returns-in_err-paths
returns-in_err-paths c =
    let page = page_in c.args.self.now in
    let second = paths_judged page c.args.items.now in
    second_stops c.args.vocab.now c.left.new.vocab c.paths.new.vocab c.paths.new.vocab (left_judged page c.args.left.now) second second _ _
    c.from_residual-in_err-paths.result c.in_err-paths.field-0.0 c.from_residual-in_err-paths.ensures.1 c.in_ok-concept.ensures.0 refl c.in_err-paths.ensures

pub returns : goal.returns
returns c =
    let page = page_in c.args.self.now in
    let first = left_judged page c.args.left.now in
    let second = paths_judged page c.args.items.now in
    let rest = c.in_ok-paths.ensures in (
      right_parts c.args.vocab.now c.left.new.vocab c.paths.new.vocab first second c.in_ok-concept.ensures.0 rest.0,
      (
        left_grows c.paths.new.vocab c.left.new.vocab page c.args.left.now c.in_ok-concept.concept (right_begins c.left.new.vocab c.paths.new.vocab second rest.0) c.in_ok-concept.ensures.1,
        added_all c.new-paths.result c.paths.new.paths _ c.new-paths.ensures rest.1,
      ),
    )
