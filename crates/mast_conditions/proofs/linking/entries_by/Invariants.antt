use Rattle.std.proofs.Common.{◌≡◌, take}
use Rattle.mast_relations.specs.Stores.{contents}
use Rattle.mast_conditions.specs.inside.Links.{AreLinkedEntries}
use Rattle.mast_conditions.proofs.linking.entries_by.Given as goal

-- one entry for each span so far
abbrev pub invariant-loop-span : goal.invariant-loop-span
invariant-loop-span l = record {
  contents_are : contents l.relations ≡ contents l.fn.relations;
  linked : AreLinkedEntries l.equalities (take l.span-index l.spans) l.entries.items;
}
