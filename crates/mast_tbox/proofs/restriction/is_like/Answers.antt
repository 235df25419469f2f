use Rattle.std.proofs.Common.{◌≡◌, false, ◌||◌, ap, sym, ◌∙◌}
use Rattle.mast_tbox.specs.Expressions.{inverse}
use Rattle.mast_tbox.specs.inside.Chosen.{is_in, chief_of}
use Rattle.mast_tbox.proofs.restriction.is_like.Goals as goal

pub returns-else-contains : goal.returns-else-contains
returns-else-contains c =
    let f = chief_of c.args.chiefs.now in
    let first : is_in (f c.args.prop) c.args.set.now ≡ false = sym (ap (λ p. is_in p c.args.set.now) c.chief.ensures) ∙ (sym c.contains.ensures ∙ c.if-contains.false) in
    let second : c.contains-else-contains.result ≡ is_in (f (inverse c.args.prop)) c.args.set.now =
    c.contains-else-contains.ensures ∙ ap (λ p. is_in p c.args.set.now) (c.chief-else-contains.ensures ∙ ap f c.inverse.ensures) in
    second ∙ sym (ap (λ b. b || is_in (f (inverse c.args.prop)) c.args.set.now) first)
