-- What stops the reading of a part stops that of both.
use Rattle.mast_terms.specs.declared.name.Name.{Name}
use Rattle.mast_tree.proofs.JudgementLemmas.{right_parts}
use Rattle.mast_tree.specs.declared.shape.ShapeKind.TheVariants.{NotDlLite, Datatype}
use Rattle.mast_expressions.specs.Given.{IsAttr}
use Rattle.mast_expressions.specs.Judged.{attr_judged, is_iri_judged, subjects_parts}
use Rattle.mast_tree.specs.Pages.{Expands}
use Rattle.mast_expressions.specs.Iris.{rdfs_literal}
use Rattle.mast_expressions.specs.Reads.{page}
use Rattle.mast_expressions.proofs.ReadLemmas.{handed, stops_first, stops_second}
use Rattle.mast_expressions.proofs.places.Places.subjects_of.Goals as goal

pub returns-in_err-attr : goal.returns-in_err-attr
returns-in_err-attr c =
    let page = page c.args.self.now in
    let Given : Name → Type 0 = λ r. IsAttr c.attr.new.vocab page c.args.attr.now r × Expands page c.args.filler.now rdfs_literal in
    handed c.args.vocab.now c.attr.new.vocab (subjects_parts page c.args.attr.now c.args.filler.now) Given c.from_residual.result c.in_err-attr.field-0.0 c.from_residual.ensures.1
    (stops_first c.args.vocab.now c.attr.new.vocab c.attr.new.vocab (attr_judged NotDlLite page c.args.attr.now) (is_iri_judged rdfs_literal Datatype page c.args.filler.now)
    (IsAttr c.attr.new.vocab page c.args.attr.now) Given c.in_err-attr.field-0.0 c.in_err-attr.ensures)

pub returns-in_err-is_iri : goal.returns-in_err-is_iri
returns-in_err-is_iri c =
    let page = page c.args.self.now in
    let Given : Name → Type 0 = λ r. IsAttr c.attr.new.vocab page c.args.attr.now r × Expands page c.args.filler.now rdfs_literal in
    handed c.args.vocab.now c.attr.new.vocab (subjects_parts page c.args.attr.now c.args.filler.now) Given c.from_residual-in_err-is_iri.result c.in_err-is_iri.field-0.0 c.from_residual-in_err-is_iri.ensures.1
    (stops_second c.args.vocab.now c.attr.new.vocab c.attr.new.vocab c.attr.new.vocab (attr_judged NotDlLite page c.args.attr.now) (is_iri_judged rdfs_literal Datatype page c.args.filler.now)
    (λ u. Expands page c.args.filler.now rdfs_literal) Given c.in_err-is_iri.field-0.0 c.in_ok-attr.ensures.0 (c.in_err-is_iri.ensures c.attr.new.vocab))

pub returns : goal.returns
returns c =
    let page = page c.args.self.now in
    let second = c.in_ok-is_iri.ensures c.attr.new.vocab in (
      right_parts c.args.vocab.now c.attr.new.vocab c.attr.new.vocab (attr_judged NotDlLite page c.args.attr.now) (is_iri_judged rdfs_literal Datatype page c.args.filler.now) c.in_ok-attr.ensures.0 second.0,
      (c.in_ok-attr.ensures.1, second.1),
    )
