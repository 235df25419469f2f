use Rattle.std.proofs.Common.{◌≡◌, ◌<◌, List, length, get_or, sym, subst, ◌∙◌}
use Rattle.mast_relations.specs.declared.relation.Index.{Index}
use Rattle.mast_relations.proofs.IndexLemmas.{index_at}
use Rattle.mast_relations.proofs.ListLemmas.{numbers_same}
use Rattle.mast_relations.proofs.relation.Relation.position.Goals as goal

pub returns-then-eq : goal.returns-then-eq
returns-then-eq c =
    let r = c.self.inside in
    let items : c.deref-index-items.result.now ≡ r.indices.items = c.deref-index-items.ensures.value in
    let lt : c.loop-at.at < length r.indices.items = subst (λ (l : List Index). c.loop-at.at < length l) items c.loop-at-test.true in
    let is : c.index-item.result ≡ get_or r.indices.items c.loop-at.at c.index-item.result = subst (λ (l : List Index). c.index-item.result ≡ get_or l c.loop-at.at c.index-item.result) items c.index-item.is in
    index_at r.rows r.indices.items c.args.self.now c.self.view_is c.loop-at.at c.index-item.result c.args.columns.now lt is
    (sym c.as_slice.ensures.value ∙ numbers_same c.as_slice.result.now c.args.columns.now (sym c.if-eq.ensures))
