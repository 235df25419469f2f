use Rattle.std.proofs.Common.{List, refl, sym, subst}
use Rattle.mast_tables.specs.declared.declaration.TableDecl.{TableDecl}
use Rattle.mast_join.specs.Chosen.{AreFew}
use Rattle.mast_join.proofs.FactsLemmas.{columns_few}
use Rattle.mast_join.proofs.ValueLemmas.{front_refl, noted_front}
use Rattle.mast_join.proofs.facts.map_facts.Goals as goal

pub choices-requires-clause-few : goal.choices-requires-clause-few
choices-requires-clause-few c = subst (λ (decls : List TableDecl). AreFew decls) (sym c.as_slice-decls.ensures) (columns_few c.args.base.now.spec.now)

pub head_places-requires : goal.head_places-requires
head_places-requires c = record { few = subst (λ (decls : List TableDecl). AreFew decls) (sym c.as_slice-decls.ensures) (columns_few c.args.base.now.spec.now) }

pub returns-in_err-places-clause-pool : goal.returns-in_err-places-clause-pool
returns-in_err-places-clause-pool c =
    noted_front c.args.base.now.tables.now.list c.args.pool.now.terms.terms c.head_places.new.terms.terms c.args.pool.now.values c.args.pool.now.values c.requires.pool c.head_places.ensures.kept.terms (λ k. refl)

pub returns-in_err-places-clause-more : goal.returns-in_err-places-clause-more
returns-in_err-places-clause-more c = record { terms = c.head_places.ensures.kept; sets = front_refl c.args.pool.now.sets.items }

pub facts_by-requires-clause-pool : goal.facts_by-requires-clause-pool
facts_by-requires-clause-pool c =
    noted_front c.args.base.now.tables.now.list c.args.pool.now.terms.terms c.head_places.new.terms.terms c.args.pool.now.values c.args.pool.now.values c.requires.pool c.head_places.ensures.kept.terms (λ k. refl)
