use Rattle.std.proofs.Common.{◌<◌, ℕ, length, ap, subst, arith}
use Rattle.std.proofs.lemmas.List.{length-map}
use Rattle.mast_relations.specs.Stores.{Stored}
use Rattle.mast_relations.specs.declared.relation.Index.{Index}
use Rattle.mast_relations.specs.inside.Indices.{AgreesBy}
use Rattle.mast_relations.specs.inside.Lasts.{HasHash, IsLast}
use Rattle.mast_relations.proofs.IndexLemmas.{agrees_seen, index_count, index_is}
use Rattle.mast_relations.proofs.relation.Relation.last.Goals as goal

pub returns : goal.returns
returns c =
    let r = c.self.inside in
    let now = c.args.self.now in
    let index = c.index-index.result.now in
    let at : c.args.index < length r.indices.items = omega (arith, c.requires.there, ap (λ (s : Stored). length s.indices) c.self.view_is, length-map r.indices.items (λ (x : Index). x.columns.items)) in
    let is = index_is r.rows r.indices.items c.args.index index c.self.invariant at c.index-index.ensures in
    let begun : IsLast (HasHash index.hashes c.args.hash) (HasHash index.hashes c.args.hash) (length r.rows.list) c.last.result =
    subst (λ (n : ℕ). IsLast (HasHash index.hashes c.args.hash) (HasHash index.hashes c.args.hash) n c.last.result) (index_count r.rows index is) c.last.ensures in
    let last = c.agreeing.ensures.last (length r.rows.list) (omega arith) begun in
    agrees_seen r.rows r.indices.items now c.self.view_is c.args.index index at c.index-index.ensures c.args.values.now c.args.places.now (length now.rows.list) c.agreeing.result
    (subst (λ (n : ℕ). IsLast (AgreesBy r.rows index.columns.items c.args.values.now c.args.places.now) (AgreesBy r.rows index.columns.items c.args.values.now c.args.places.now) n c.agreeing.result)
    (ap (λ (s : Stored). length s.rows.list) c.self.view_is) last)
