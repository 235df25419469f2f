use Rattle.std.proofs.Common.{ap, subst, sym}
use Rattle.mast_expressions.specs.Reads.{page}
use Rattle.mast_onto.specs.inside.Reads.{ReadsForm}
use Rattle.mast_onto.specs.inside.Shown.{shown_axiom}
use Rattle.mast_onto.proofs.reader.Reader.read.Goals as goal

pub returns-in-Below : goal.returns-in-Below
returns-in-Below c =
    subst (λ form. ReadsForm (page c.args.self.now.places) form c.args.vocab.now c.below.new.vocab c.below.result) (sym (ap shown_axiom c.in-Below.is)) c.below.ensures
