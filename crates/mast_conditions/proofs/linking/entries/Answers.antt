use Rattle.std.proofs.Common.{List, sym, subst}
use Rattle.mast_relations.specs.Stores.{contents}
use Rattle.mast_conditions.specs.declared.linking.Equality.{Equality}
use Rattle.mast_conditions.specs.inside.Links.{AreEqual}
use Rattle.mast_conditions.proofs.LinkLemmas.{found_by}
use Rattle.mast_conditions.proofs.linking.entries.Goals as goal

pub returns-clause-leads : goal.returns-clause-leads
returns-clause-leads c =
    found_by (contents c.args.relations.now) c.args.top c.args.spans.now c.args.condition.now c.in_ok-entries.entries.items c.deref.result.now c.requires c.in_ok-entries.ensures.linked
    (λ relations numbers none yes. subst (λ (k : List Equality). AreEqual k numbers) (sym c.deref.ensures.value)
    (c.in_ok-equalities.ensures relations numbers (subst (λ (k : List Equality). AreEqual k numbers) (sym c.new-found.ensures.items) none) yes))
