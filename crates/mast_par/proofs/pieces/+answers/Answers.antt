use Rattle.std.proofs.lemmas.Result.{IfOk-at_ok}
use Rattle.mast_par.specs.Pieces.{GivesAll}
use Rattle.mast_par.proofs.PiecesLemmas.{gives_joined}
use Rattle.mast_par.proofs.pieces.+answers.Goals as goal

pub returns : goal.returns
returns g t c =
    gives_joined g.F.Fn c.args.f.now _ _ _ _ _ _ c.split_at.ensures.by_index.0 c.in_ok-append.ensures.items
    (IfOk-at_ok (λ v. GivesAll g.F.Fn c.args.f.now _ v.items) c.in_ok-all.was c.join-answers.ensures.first)
    (IfOk-at_ok (λ v. GivesAll g.F.Fn c.args.f.now _ v.items) c.in_ok-rest.was c.join-answers.ensures.second)
