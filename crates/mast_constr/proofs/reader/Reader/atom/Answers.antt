-- The word of the node says which atom it is.
use Rattle.std.proofs.Common.{rules, ◌≡◌, sym, true, false}
use Rattle.std.specs.Prelude.{codes}
use Rattle.std.specs.Str.{bytes_eq}
use Rattle.mast_tree.specs.Said.{node}
use Rattle.mast_tree.specs.Pages.{says}
use Rattle.mast_constr.specs.inside.Rules.{page_in}
use Rattle.mast_constr.proofs.AtomLemmas.{is_class, is_role, is_attr, atom_read}
use Rattle.mast_constr.proofs.reader.Reader.atom.Goals as goal

pub returns-then-eq-clause-read : goal.returns-then-eq-clause-read
returns-then-eq-clause-read c = λ dates are.
    let page = page_in c.args.self.now in
    let word = c.in-Node.word.now in
    let at = c.in-Node.line in
    let items = c.in-Node.items.now in
    let said : says page c.args.item.now ≡ node word at items = sym c.in-Node.ensures in
    let t0 : bytes_eq word (codes "Class") ≡ true = search rules in
    atom_read dates page c.args.number c.args.variables.now c.class_atom.new.variables c.args.item.now word (codes "Class") at items c.args.vocab.now c.class_atom.new.vocab _ c.class_atom.result said t0
    (is_class dates page c.args.number c.args.variables.now c.args.item.now word at items said t0) (c.class_atom.ensures.read dates are)

pub returns-then-eq-2-clause-read : goal.returns-then-eq-2-clause-read
returns-then-eq-2-clause-read c = λ dates are.
    let page = page_in c.args.self.now in
    let word = c.in-Node.word.now in
    let at = c.in-Node.line in
    let items = c.in-Node.items.now in
    let said : says page c.args.item.now ≡ node word at items = sym c.in-Node.ensures in
    let t0 : bytes_eq word (codes "Class") ≡ false = search rules in
    let t1 : bytes_eq word (codes "Role") ≡ true = search rules in
    atom_read dates page c.args.number c.args.variables.now c.role_atom.new.variables c.args.item.now word (codes "Role") at items c.args.vocab.now c.role_atom.new.vocab _ c.role_atom.result said t1
    (is_role dates page c.args.number c.args.variables.now c.args.item.now word at items said t0 t1) (c.role_atom.ensures.read dates are)

pub returns-then-eq-3-clause-read : goal.returns-then-eq-3-clause-read
returns-then-eq-3-clause-read c = λ dates are.
    let page = page_in c.args.self.now in
    let word = c.in-Node.word.now in
    let at = c.in-Node.line in
    let items = c.in-Node.items.now in
    let said : says page c.args.item.now ≡ node word at items = sym c.in-Node.ensures in
    let t0 : bytes_eq word (codes "Class") ≡ false = search rules in
    let t1 : bytes_eq word (codes "Role") ≡ false = search rules in
    let t2 : bytes_eq word (codes "Attr") ≡ true = search rules in
    atom_read dates page c.args.number c.args.variables.now c.attr_atom.new.variables c.args.item.now word (codes "Attr") at items c.args.vocab.now c.attr_atom.new.vocab _ c.attr_atom.result said t2
    (is_attr dates page c.args.number c.args.variables.now c.args.item.now word at items said t0 t1 t2) (c.attr_atom.ensures.read dates are)
