-- The word of the node says that it is a denial.
use Rattle.std.proofs.Common.{rules, ◌≡◌, sym, subst, true, false}
use Rattle.std.specs.Prelude.{codes}
use Rattle.std.specs.Str.{bytes_eq}
use Rattle.mast_tree.specs.Judgements.{Judges}
use Rattle.mast_tree.specs.Said.{node}
use Rattle.mast_tree.specs.Pages.{says}
use Rattle.mast_constr.specs.Denials.{deny_judged}
use Rattle.mast_constr.specs.Items.{IsConstraint}
use Rattle.mast_constr.specs.inside.Rules.{page_in}
use Rattle.mast_constr.proofs.StepLemmas.{all_stops}
use Rattle.mast_constr.proofs.WholeLemmas.{is_deny, deny_given}
use Rattle.mast_constr.proofs.reader.Reader.constraint.Goals as goal

pub returns-in_err-atoms-in-Node : goal.returns-in_err-atoms-in-Node
returns-in_err-atoms-in-Node c = λ dates are.
    let page = page_in c.args.self.now in
    let word = c.in-Node.word.now in
    let at = c.in-Node.line in
    let items = c.in-Node.items.now in
    let said : says page c.args.item.now ≡ node word at items = sym c.in-Node.ensures in
    let a : bytes_eq word (codes "Functional") ≡ false = search rules in
    let b : bytes_eq word (codes "Identify") ≡ false = search rules in
    let d : bytes_eq word (codes "Deny") ≡ true = search rules in
    subst (λ js. Judges c.args.vocab.now js c.deny.new.vocab (IsConstraint dates c.deny.new.vocab page c.args.item.now) c.from_residual-in_err-atoms-in-Node.result) (sym (is_deny dates page c.args.item.now word at items said a b d))
    (all_stops c.args.vocab.now c.deny.new.vocab c.deny.new.vocab (deny_judged dates page at items) _ _ c.from_residual-in_err-atoms-in-Node.result c.in_err-atoms-in-Node.field-0.0
    c.from_residual-in_err-atoms-in-Node.ensures.1 (c.in_err-atoms-in-Node.ensures dates are))

pub returns-in_ok-atoms-in-Node : goal.returns-in_ok-atoms-in-Node
returns-in_ok-atoms-in-Node c = λ dates are.
    let page = page_in c.args.self.now in
    let word = c.in-Node.word.now in
    let items = c.in-Node.items.now in
    let said : says page c.args.item.now ≡ node word c.in-Node.line items = sym c.in-Node.ensures in
    let a : bytes_eq word (codes "Functional") ≡ false = search rules in
    let b : bytes_eq word (codes "Identify") ≡ false = search rules in
    let d : bytes_eq word (codes "Deny") ≡ true = search rules in
    deny_given dates page c.args.item.now word c.in-Node.line items c.args.vocab.now c.deny.new.vocab c.in_ok-atoms-in-Node.atoms said a b d (c.in_ok-atoms-in-Node.ensures dates are)
