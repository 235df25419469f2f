use Rattle.std.proofs.Common.{◌<◌, ℕ, List, length, sym, subst}
use Rattle.std.specs.List.{AllByRecursion}
use Rattle.std.proofs.lemmas.Result.{IfOk-weaker}
use Rattle.mast_join.specs.declared.facts.MadeFact.{MadeFact}
use Rattle.mast_join.specs.declared.fill.Gathered.{Gathered}
use Rattle.mast_join.specs.declared.store.Store.{Store}
use Rattle.mast_join.specs.inside.Filling.{IsFilled, IsFull, IsRelationNext}
use Rattle.mast_join.specs.inside.Keeping.{IsExtensionAt, extended}
use Rattle.mast_join.specs.inside.Shapes.{shape}
use Rattle.mast_join.proofs.KeepingLemmas.{all_full, all_there, extension_next, relations_kept}
use Rattle.mast_join.proofs.making.fill_extension.Goals as goal

pub fill-requires-clause-full : goal.fill-requires-clause-full
fill-requires-clause-full c =
    let s = c.args.store.now in
    subst (λ (width : ℕ). AllByRecursion (IsFull width) c.args.all.now) (sym c.requires.width)
    (all_full c.args.base.now s.pool s.facts.items c.args.atom c.args.sources.now c.args.all.now c.requires.sources c.requires.gathered)

pub fill-requires-clause-places : goal.fill-requires-clause-places
fill-requires-clause-places c =
    let s = c.args.store.now in
    subst (λ (facts : List (List MadeFact)). AllByRecursion (λ (gathered : Gathered). gathered.place < length facts) c.args.all.now) (sym c.deref.ensures.value)
    (all_there c.args.base.now s.pool s.facts.items c.args.atom c.args.sources.now c.args.all.now c.requires.gathered)

pub returns-clause-number : goal.returns-clause-number
returns-clause-number c =
    let base = c.args.base.now in
    let s = c.args.store.now in
    let after : Store = record { pool = s.pool; facts = s.facts; fact_places = s.fact_places; relations = c.fill.new.relations; made = s.made } in
    IfOk-weaker c.fill.result (IsRelationNext (IsFilled base.wanted c.args.width c.deref.result.now c.args.all.now) s.relations c.fill.new.relations) (IsExtensionAt (extended base after) (shape c.args.atom))
    (λ n next. extension_next base s c.fill.new.relations c.args.atom c.args.width n c.deref.result.now c.args.sources.now c.args.all.now c.requires.kept.based c.len.ensures.once.terms c.requires.width
    c.deref.ensures.value c.requires.sources c.requires.gathered next)
    c.fill.ensures.next

pub returns-clause-kept : goal.returns-clause-kept
returns-clause-kept c = relations_kept c.args.base.now c.args.store.now c.fill.new.relations c.requires.kept c.fill.ensures.more
