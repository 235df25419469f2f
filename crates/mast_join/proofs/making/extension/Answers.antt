use Rattle.std.proofs.Common.{sym, subst}
use Rattle.std.proofs.lemmas.Result.{IfOk-weaker}
use Rattle.mast_cq.specs.declared.atom.Atom.{Atom}
use Rattle.mast_join.specs.inside.Keeping.{IsExtensionAt, extended}
use Rattle.mast_join.specs.inside.Shapes.{shape}
use Rattle.mast_join.proofs.KeepingLemmas.{extension_of_shape}
use Rattle.mast_join.proofs.making.extension.Goals as goal

pub returns-in-Some-clause-number : goal.returns-in-Some-clause-number
returns-in-Some-clause-number c =
    let e = extended c.args.base.now c.args.store.now in
    let found = c.requires.kept.made c.shape-shape.result c.in-Some.number.now (sym c.in-Some.ensures.value) in
    extension_of_shape e c.args.atom c.in-Some.number.now (subst (λ (g : Atom). IsExtensionAt e g c.in-Some.number.now) c.shape-shape.ensures found)

pub returns-in-None-clause-number : goal.returns-in-None-clause-number
returns-in-None-clause-number c =
    let e = extended c.args.base.now c.make_extension.new.store in
    IfOk-weaker c.make_extension.result (IsExtensionAt e (shape c.args.atom)) (IsExtensionAt e c.args.atom) (λ n h. extension_of_shape e c.args.atom n h) c.make_extension.ensures.number
