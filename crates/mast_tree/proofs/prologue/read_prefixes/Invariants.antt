use Rattle.std.proofs.Common.{◌≡◌, drop, []}
use Rattle.mast_tree.specs.inside.Prologue.{prologue_of}
use Rattle.mast_tree.proofs.prologue.read_prefixes.Given as goal

abbrev pub invariant-loop-item : goal.invariant-loop-item
invariant-loop-item l = prologue_of l.doc.source.now l.doc.tokens.now l.word l.table (drop l.item-index l.doc.items) ≡ prologue_of l.doc.source.now l.doc.tokens.now l.word [] l.doc.items
