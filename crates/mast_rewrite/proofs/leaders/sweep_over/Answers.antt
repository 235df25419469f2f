use Rattle.std.proofs.Common.{inl, sym, refl, ◌∙◌}
use Rattle.std.proofs.lemmas.Map.Views.{Contains-from_any}
use Rattle.mast_rewrite.proofs.leaders.sweep_over.Goals as goal

pub returns-then-contains-clause-swept : goal.returns-then-contains-clause-swept
returns-then-contains-clause-swept c = inl (Contains-from_any (λ x y. (c.atom_laws.ensures.equal x y).0) c.args.atom c.args.below.now.keys (sym c.contains.ensures ∙ c.if-contains.true), (refl, refl))
