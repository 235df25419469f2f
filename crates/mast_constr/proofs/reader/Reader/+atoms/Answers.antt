-- The first atom was put, and then the rest was read.
use Rattle.std.proofs.Common.{sym, subst, suc}
use Rattle.std.specs.Prelude.{Err}
use Rattle.mast_tree.specs.Pages.{says}
use Rattle.mast_expressions.proofs.ReadLemmas.{stops_first}
use Rattle.mast_constr.specs.Denials.{atom_judged}
use Rattle.mast_constr.specs.inside.Atoms.{atoms_from, with_atom}
use Rattle.mast_constr.specs.inside.Rules.{page_in, ReadsAtoms, GivesAtoms}
use Rattle.mast_tree.specs.Judgements.{Judges}
use Rattle.mast_constr.proofs.StepLemmas.{atom_and_rest, plus_one}
use Rattle.mast_constr.proofs.reader.Reader.+atoms.Goals as goal

pub returns-in-Err : goal.returns-in-Err
returns-in-Err t c =
    let page = page_in c.args.self.now in
    let item = c.in-Some.item.now in
    subst (λ xs. ReadsAtoms page c.args.number xs c.args.variables.now c.put_atom.new.variables c.args.vocab.now c.put_atom.new.vocab c.args.atoms.now c.put_atom.new.atoms (Err c.in-Err.stop)) (sym c.in-Some.ensures)
    (λ dates are. stops_first c.args.vocab.now c.put_atom.new.vocab c.put_atom.new.vocab (atom_judged dates page c.args.number c.args.variables.now item)
    (atoms_from dates page (suc c.args.number) (with_atom page c.args.variables.now (says page item)) c.in-Some.rest.now) _ _ c.in-Err.stop (c.in-Err.ensures.read dates are))

pub returns-in-Ok : goal.returns-in-Ok
returns-in-Ok t c =
    let page = page_in c.args.self.now in
    subst (λ xs. ReadsAtoms page c.args.number xs c.args.variables.now c.atoms.new.variables c.args.vocab.now c.atoms.new.vocab c.args.atoms.now c.atoms.new.atoms c.atoms.result) (sym c.in-Some.ensures)
    (λ dates are. atom_and_rest dates page c.args.number c.args.variables.now c.put_atom.new.variables c.atoms.new.variables c.in-Some.item.now c.in-Some.rest.now
    c.args.vocab.now c.put_atom.new.vocab c.atoms.new.vocab c.args.atoms.now c.put_atom.new.atoms c.atoms.new.atoms c.atoms.result (c.in-Ok.ensures.read dates are)
    (subst (λ k. Judges c.put_atom.new.vocab (atoms_from dates page k c.put_atom.new.variables c.in-Some.rest.now) c.atoms.new.vocab
    (λ u. GivesAtoms dates page c.in-Some.rest.now c.put_atom.new.variables c.atoms.new.variables c.atoms.new.vocab c.put_atom.new.atoms c.atoms.new.atoms) c.atoms.result) (plus_one c.args.number) (c.atoms.ensures dates are)))
