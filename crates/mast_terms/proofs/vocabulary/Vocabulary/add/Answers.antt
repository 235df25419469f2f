use Rattle.std.proofs.Common.{◌≡◌, false, subst, sym, ◌∙◌}
use Rattle.mast_terms.specs.Vocabularies.{stands, stands_otherwise}
use Rattle.mast_terms.specs.declared.name.NameKind.TheVariants as kind
use Rattle.mast_terms.proofs.PlaceLemmas.{with_role, with_attribute}
use Rattle.mast_terms.proofs.vocabulary.Vocabulary.add.Goals as goal

pub invariant_of-self-in-Role : goal.invariant_of-self-in-Role
invariant_of-self-in-Role c =
    let other : stands_otherwise c.args.self.now kind.Role c.args.iri.now ≡ false =
    subst (λ k. stands_otherwise c.args.self.now k c.args.iri.now ≡ false) c.in-Role.is (sym c.stands_otherwise.ensures ∙ c.if-stands_otherwise.false) in
    with_role c.self.inside.classes c.self.inside.roles c.self.inside.attributes c.self.inside.constants c.self.invariant c.args.iri.now c.add-in-Role.new.self
    c.add-in-Role.ensures.numbered (subst (λ lists. stands c.args.iri.now lists.attributes ≡ false) (sym c.self.view_is) other) c.in_ok-number-in-Role.ensures.joined

pub invariant_of-self-in-Attr : goal.invariant_of-self-in-Attr
invariant_of-self-in-Attr c =
    let other : stands_otherwise c.args.self.now kind.Attr c.args.iri.now ≡ false =
    subst (λ k. stands_otherwise c.args.self.now k c.args.iri.now ≡ false) c.in-Attr.is (sym c.stands_otherwise.ensures ∙ c.if-stands_otherwise.false) in
    with_attribute c.self.inside.classes c.self.inside.roles c.self.inside.attributes c.self.inside.constants c.self.invariant c.args.iri.now c.add-in-Attr.new.self
    c.add-in-Attr.ensures.numbered (subst (λ lists. stands c.args.iri.now lists.roles ≡ false) (sym c.self.view_is) other) c.in_ok-number-in-Attr.ensures.joined
