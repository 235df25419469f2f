use Rattle.std.proofs.Common.{◌↔◌, take, Contains}
use Rattle.mast_cq.specs.declared.atom.Atom.{Atom}
use Rattle.mast_rewrite.specs.inside.Leaders.{HasAtom}
use Rattle.mast_rewrite.proofs.counting.atoms_by.Given as goal

abbrev pub invariant-loop-met : goal.invariant-loop-met
invariant-loop-met l = (a : Atom) → Contains l.atoms.keys a ↔ HasAtom l.g l.h (take l.met-index l.all) l.way a
