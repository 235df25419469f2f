use Rattle.std.proofs.Common.{drop}
use Rattle.mast_mapping.specs.Readings.{Texts, AreTexts}
use Rattle.mast_mapping.specs.inside.Progress.{page, IsFar}
use Rattle.mast_mapping.proofs.doc_reader.DocReader.items.Given as goal

-- so far is the inside of the main node read
abbrev pub invariant-loop-item : goal.invariant-loop-item
invariant-loop-item l =
    (texts : Texts) → AreTexts texts → IsFar texts (page l.self) l.fn.vocab l.items (drop l.item-index l.items) l.read
