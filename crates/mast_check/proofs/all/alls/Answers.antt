use Rattle.std.proofs.Common.{List, subst}
use Rattle.std.specs.Prelude.{Result, Ok, Err, IfOk}
use Rattle.std.specs.List.{AllZip}
use Rattle.std.specs.Fn.{FnReturnsAt}
use denote.Param.Members.{Shared}
use denote.Ref.{Bor}
use Rattle.mast_terms.specs.declared.memory.NoMemory.{NoMemory}
use Rattle.mast_par.specs.Pieces.{GivesAll}
use Rattle.mast_par.proofs.PiecesLemmas.{gives_related}
use Rattle.mast_check.specs.inside.Pieces.{TellsAllIn}
use Rattle.mast_check.proofs.all.alls.Goals as goal

-- what holds of each piece and each answer holds of those that are given
told : {F T U : Type 0} (g : Shared F (Bor T × Unit {0}) (Result U NoMemory)) (f : F) (S : T → U → Type 0) → ((x : T) (y : U) → FnReturnsAt g f x (Ok y) → S x y)
    → (pieces : List T) (result : Result (List U) NoMemory) → IfOk result (GivesAll g f pieces) → IfOk result (AllZip S pieces)
told g f S says pieces (Ok answers) h = gives_related g f S says pieces answers h
told g f S says pieces (Err e) h = tt

pub returns : goal.returns
returns g c =
    told _ _ (TellsAllIn c.args.extensions.now c.args.queries.now c.args.violation.now)
    (λ slice list r. subst (λ s. TellsAllIn c.args.extensions.now c.args.queries.now c.args.violation.now s list) r.shows r.says.met) c.args.slices.now c.each_piece.result c.each_piece.ensures
