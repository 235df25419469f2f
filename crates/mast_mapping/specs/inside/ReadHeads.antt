-- Heads that were read.
use Rattle.std.specs.Prelude.{◌≡◌, ◌++◌, ℕ, List, Option, Result}
use Rattle.mast_terms.specs.declared.memory.Stop.{Stop}
use Rattle.mast_terms.specs.declared.name.NameKind.{NameKind}
use Rattle.mast_terms.specs.Vocabularies.{Lists}
use Rattle.mast_tree.specs.declared.item.Item.{Item}
use Rattle.mast_tree.specs.declared.shape.ShapeBreach.{ShapeBreach}
use Rattle.mast_tree.specs.Constants.{constant_of, identifier_of}
use Rattle.mast_tree.specs.Growing.{Begins}
use Rattle.mast_tree.specs.Judgements.{Judges, first_breach, after}
use Rattle.mast_tree.specs.Said.{said}
use Rattle.mast_mapping.specs.declared.heads.HeadReader.{HeadReader}
use Rattle.mast_mapping.specs.declared.map.Head.{Head}
use Rattle.mast_mapping.specs.declared.map.Slot.{Slot}
use Rattle.mast_mapping.specs.Heads.{Scope, constant_slot, output_among, items_of_head_judged, head_judged, heads_judged, IsHeadOf, IsHead, AreHeads}
use Rattle.mast_mapping.specs.inside.Readers.{doc_of}

-- the items of a head of a word's kind were read
abbrev pub ReadsItems : Scope → Option NameKind → ℕ → List Item → Lists → Lists → Result Head (Stop ShapeBreach) → Type 0
ReadsItems scope word line items old new result = Judges old (items_of_head_judged scope word line items) new (IsHeadOf new scope word items) result

-- a head was read
abbrev pub ReadsHead : Scope → Item → Lists → Lists → Result Head (Stop ShapeBreach) → Type 0
ReadsHead scope item old new result = Judges old (head_judged scope (said scope.doc item)) new (IsHead new scope (said scope.doc item)) result

-- heads were read
abbrev pub ReadsHeads : Scope → List Item → Lists → Lists → Result (List Head) (Stop ShapeBreach) → Type 0
ReadsHeads scope items old new result = Judges old (heads_judged scope items) new (AreHeads new scope items) result

-- of all heads these items are left: what is wrong with all is wrong with these, and all are what was read and what these are
pub record AreFar (scope : Scope) (old : Lists) (all rest : List Item) (heads : List Head) (now : Lists) : Type 0 where
  pub breach : first_breach old (heads_judged scope all) ≡ first_breach now (heads_judged scope rest)
  pub then : after old (heads_judged scope all) ≡ after now (heads_judged scope rest)
  pub are : (lists : Lists) (more : List Head) → Begins lists now → AreHeads lists scope rest more → AreHeads lists scope all (heads ++ more)

-- an item as a constant in a slot
abbrev pub constant_at : Scope → Item → Result Slot ShapeBreach
constant_at scope item = constant_slot (constant_of scope.dates scope.doc (said scope.doc item))

-- an item at a line as an output of the source query
abbrev pub output_at : HeadReader → ℕ → Item → Result Slot ShapeBreach
output_at reader line item = output_among reader.outputs.now (identifier_of (said (doc_of reader.place) item)) line
