use Rattle.std.proofs.Common.{take}
use Rattle.mast_par.specs.Pieces.{GivesAll}
use Rattle.mast_par.proofs.pieces.answers_in_turn.Given as goal

abbrev pub invariant-loop-at : goal.invariant-loop-at
invariant-loop-at g l = GivesAll g.F.Fn l.f (take l.at l.pieces) l.answers.items
