use Rattle.std.proofs.Common.{rules}
use Rattle.mast_par.proofs.PiecesLemmas.{gives_more}
use Rattle.mast_par.proofs.pieces.answers_in_turn.Goals as goal

pub loop-at-preserved : goal.loop-at-preserved
loop-at-preserved g c =
    gives_more g.F.Fn c.args.f.now c.args.pieces.now c.loop-at.at _ _ _ _ _ (search rules) c.index-pieces-at.is c.f.ensures c.in_ok-f.was c.in_ok-push.ensures.items c.loop-at.invariant
