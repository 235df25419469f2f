use Rattle.std.proofs.Common.{◌-◌, ◌<◌, length, ap, arith}
use Rattle.std.proofs.lemmas.List.{length-map}
use Rattle.mast_relations.specs.Stores.{Stored}
use Rattle.mast_relations.specs.declared.relation.Index.{Index}
use Rattle.mast_relations.proofs.IndexLemmas.{agrees_seen}
use Rattle.mast_relations.proofs.relation.Relation.before.Goals as goal

pub returns : goal.returns
returns c =
    let r = c.self.inside in
    let now = c.args.self.now in
    let index = c.index-index.result.now in
    let at : c.args.index < length r.indices.items = omega (arith, c.requires.lookup.there, ap (λ (s : Stored). length s.indices) c.self.view_is, length-map r.indices.items (λ (x : Index). x.columns.items)) in
    let last = c.agreeing.ensures.last (c.args.place - 1) (omega (arith, c.requires.within, ap (λ (s : Stored). length s.rows.list) c.self.view_is)) c.before-2.ensures in
    agrees_seen r.rows r.indices.items now c.self.view_is c.args.index index at c.index-index.ensures c.args.values.now c.args.places.now (c.args.place - 1) c.agreeing.result last
