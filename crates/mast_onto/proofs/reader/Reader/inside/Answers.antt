-- What stops the reading of a part is the first breach of the inside.
use Rattle.std.specs.Prelude.{⊤}
use Rattle.mast_tree.specs.Judged.{after_judged}
use Rattle.mast_expressions.specs.Reads.{page}
use Rattle.mast_onto.specs.Ontologies.{front_judged, axioms}
use Rattle.mast_onto.proofs.InsideLemmas.{first_iri, second_iri, both_iris, same_axioms, axiom_wrong, inside_right, inside_states, judges_breach, axioms_breach, inside_stop}
use Rattle.mast_onto.proofs.reader.Reader.inside.Goals as goal

pub returns-in_err-rest : goal.returns-in_err-rest
returns-in_err-rest c =
    let page = page c.args.self.now.places in
    let old = c.args.vocab.now in
    let inside = c.args.inside.now in
    inside_stop page inside c.args.after.now old old c.from_residual.result c.in_err-rest.field-0.0 c.from_residual.ensures.1
    (λ breach e. first_iri page old inside c.args.after.now breach (judges_breach old old (front_judged page inside) _ c.in_err-rest.field-0.0 breach (c.in_err-rest.ensures old) e))

pub returns-in_err-axioms : goal.returns-in_err-axioms
returns-in_err-axioms c =
    let page = page c.args.self.now.places in
    let old = c.args.vocab.now in
    let inside = c.args.inside.now in
    let rest = c.in_ok-rest.rest.now in
    let first = c.in_ok-rest.ensures old in
    inside_stop page inside c.args.after.now old old c.from_residual-in_err-axioms.result c.in_err-axioms.field-0.0 c.from_residual-in_err-axioms.ensures.1
    (λ breach e. second_iri page old inside rest c.args.after.now breach first.1 first.0 (judges_breach old old (front_judged page rest) _ c.in_err-axioms.field-0.0 breach (c.in_err-axioms.ensures old) e))

pub returns-in_err-statements : goal.returns-in_err-statements
returns-in_err-statements c =
    let page = page c.args.self.now.places in
    let old = c.args.vocab.now in
    let new = c.axioms.new.vocab in
    let inside = c.args.inside.now in
    let after = c.args.after.now in
    let rest = c.in_ok-rest.rest.now in
    let items = c.in_ok-axioms.axioms.now in
    let first = c.in_ok-rest.ensures old in
    let second = c.in_ok-axioms.ensures old in
    inside_stop page inside after old new c.from_residual-in_err-statements.result c.in_err-statements.field-0.0 c.from_residual-in_err-statements.ensures.1
    (λ breach e. axiom_wrong page old inside items after breach (same_axioms page inside rest items first.1 second.1) (both_iris page old inside rest first.1 first.0 second.0)
    (axioms_breach page items after old new c.in_err-statements.field-0.0 breach c.in_err-statements.ensures e))

pub returns-in_err-nothing_after : goal.returns-in_err-nothing_after
returns-in_err-nothing_after c =
    let page = page c.args.self.now.places in
    let old = c.args.vocab.now in
    let new = c.axioms.new.vocab in
    let inside = c.args.inside.now in
    let after = c.args.after.now in
    let rest = c.in_ok-rest.rest.now in
    let items = c.in_ok-axioms.axioms.now in
    let first = c.in_ok-rest.ensures old in
    let second = c.in_ok-axioms.ensures old in
    inside_stop page inside after old new c.from_residual-in_err-nothing_after.result c.in_err-nothing_after.field-0.0 c.from_residual-in_err-nothing_after.ensures.1
    (λ breach e. axiom_wrong page old inside items after breach (same_axioms page inside rest items first.1 second.1) (both_iris page old inside rest first.1 first.0 second.0)
    (c.in_ok-statements.ensures.behind after breach (judges_breach new new (after_judged page.doc after) (λ nothing. ⊤) c.in_err-nothing_after.field-0.0 breach (c.in_err-nothing_after.ensures new) e)))

pub returns : goal.returns
returns c =
    let page = page c.args.self.now.places in
    let old = c.args.vocab.now in
    let new = c.axioms.new.vocab in
    let inside = c.args.inside.now in
    let after = c.args.after.now in
    let rest = c.in_ok-rest.rest.now in
    let items = c.in_ok-axioms.axioms.now in
    let first = c.in_ok-rest.ensures old in
    let second = c.in_ok-axioms.ensures old in
    let same = same_axioms page inside rest items first.1 second.1 in
    let iris = both_iris page old inside rest first.1 first.0 second.0 in
    let nothing = c.in_ok-nothing_after.ensures new in (
      inside_right page old new new inside items after c.in_ok-statements.statements.list same iris c.in_ok-statements.ensures nothing.0,
      inside_states page old new inside items c.in_ok-statements.statements.list same c.in_ok-statements.ensures,
    )
