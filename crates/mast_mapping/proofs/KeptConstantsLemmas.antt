-- A mapping document numbers no constants.
use Rattle.std.proofs.Common.{◌≡◌, refl, ap, ◌∙◌, ℕ, Bool, true, false, List, [], ◌∷◌, ◌++◌}
use Rattle.std.specs.Prelude.{Option, Some, None, Result, Ok, Err, if◌then◌else◌}
use Rattle.mast_terms.specs.declared.name.NameKind.{NameKind}
use Rattle.mast_terms.specs.declared.name.NameKind.TheVariants as kind
use Rattle.mast_terms.specs.Vocabularies.{Lists}
use Rattle.mast_sql.specs.declared.query.SourceQuery.{SourceQuery}
use Rattle.mast_tables.specs.declared.declaration.TableDecl.{TableDecl}
use Rattle.mast_tree.specs.declared.item.Item.{Item}
use Rattle.mast_tree.specs.declared.shape.ShapeBreach.{ShapeBreach}
use Rattle.mast_tree.specs.declared.shape.ShapeKind.{ShapeKind}
use Rattle.mast_tree.specs.declared.shape.ShapeKind.TheVariants as shape
use Rattle.mast_tree.specs.Judged.{after_judged}
use Rattle.mast_tree.specs.Judgements.{Judgement, uses, breaks, after, AreRight, breach_judged}
use Rattle.mast_tree.specs.MainNode.{Prefixes}
use Rattle.mast_tree.specs.Names.{is_standard, iri_judged, iri_named}
use Rattle.mast_tree.specs.Said.{Said, name, iri, text, tagged, binding, node, line, said}
use Rattle.mast_tree.specs.Seen.{Document}
use Rattle.mast_tree.proofs.JudgementLemmas.{after-append}
use Rattle.mast_mapping.specs.Declarations.{table_in}
use Rattle.mast_mapping.specs.Documents.{Entry, table, map, other, entry_of, table_judged, entry_judged, items_judged}
use Rattle.mast_mapping.specs.Heads.{Scope, object_of, slot_of, object_judged, value_judged, head_name_judged, items_of_head_judged, head_judged, heads_judged, head_kind}
use Rattle.mast_mapping.specs.Maps.{query_of, scope_of, parts_judged, map_judged}
use Rattle.mast_mapping.specs.OverTables.{table_names}
use Rattle.mast_mapping.specs.Readings.{Texts}

-- the constants stay as they are
abbrev Keeps : List Judgement → Type 0
Keeps js = (lists : Lists) → (after lists js).constants ≡ lists.constants

both_keep : (first second : List Judgement) → Keeps first → Keeps second → Keeps (first ++ second)
both_keep first second h k lists = ap (λ (l : Lists). l.constants) (after-append lists first second) ∙ (k (after lists first) ∙ h lists)

nothing_keeps : Keeps []
nothing_keeps lists = refl

use_keeps : (k : NameKind) (word : List ℕ) (at : ℕ) → Keeps (uses k word at ∷ [])
use_keeps kind.Class word at lists = refl
use_keeps kind.Role word at lists = refl
use_keeps kind.Attr word at lists = refl

break_keeps : (k : ShapeKind) (at : ℕ) → Keeps (breaks k at ∷ [])
break_keeps k at lists = refl

iri_keeps : (k : NameKind) (r : Result (List ℕ) ShapeBreach) (at : ℕ) → Keeps (iri_judged k r at)
iri_keeps k (Err b) at = break_keeps b.kind b.line
iri_keeps k (Ok word) at = by (is_standard word)
  where
    by : (b : Bool) → Keeps (if b then breaks shape.NotDlLite at ∷ [] else uses k word at ∷ [])
    by true = break_keeps shape.NotDlLite at
    by false = use_keeps k word at

part_keeps : {T : Type 0} (r : Result T ShapeBreach) → Keeps (breach_judged r)
part_keeps (Ok x) lists = refl
part_keeps (Err b) lists = refl

module _ (scope : Scope) where
  name_keeps : (k : NameKind) (item : Item) → Keeps (head_name_judged scope k item)
  name_keeps k item = iri_keeps k (iri_named scope.doc scope.prefixes item) (line (said scope.doc item))

  object_keeps : (item : Item) → Keeps (object_judged scope item)
  object_keeps item = part_keeps (object_of scope (said scope.doc item))

  value_keeps : (item : Item) → Keeps (value_judged scope item)
  value_keeps item = part_keeps (slot_of scope (said scope.doc item))

  head_of_keeps : (k : Option NameKind) (at : ℕ) (items : List Item) → Keeps (items_of_head_judged scope k at items)
  head_of_keeps None at items = break_keeps shape.Shape at
  head_of_keeps (Some kind.Class) at [] = break_keeps shape.Shape at
  head_of_keeps (Some kind.Class) at (a ∷ []) = break_keeps shape.Shape at
  head_of_keeps (Some kind.Class) at (a ∷ (b ∷ [])) = both_keep (head_name_judged scope kind.Class a) (object_judged scope b) (name_keeps kind.Class a) (object_keeps b)
  head_of_keeps (Some kind.Class) at (a ∷ (b ∷ (c ∷ more))) = break_keeps shape.Shape at
  head_of_keeps (Some kind.Role) at [] = break_keeps shape.Shape at
  head_of_keeps (Some kind.Role) at (a ∷ []) = break_keeps shape.Shape at
  head_of_keeps (Some kind.Role) at (a ∷ (b ∷ [])) = break_keeps shape.Shape at
  head_of_keeps (Some kind.Role) at (a ∷ (b ∷ (c ∷ []))) =
      both_keep (head_name_judged scope kind.Role a) (object_judged scope b ++ object_judged scope c) (name_keeps kind.Role a)
      (both_keep (object_judged scope b) (object_judged scope c) (object_keeps b) (object_keeps c))
  head_of_keeps (Some kind.Role) at (a ∷ (b ∷ (c ∷ (d ∷ more)))) = break_keeps shape.Shape at
  head_of_keeps (Some kind.Attr) at [] = break_keeps shape.Shape at
  head_of_keeps (Some kind.Attr) at (a ∷ []) = break_keeps shape.Shape at
  head_of_keeps (Some kind.Attr) at (a ∷ (b ∷ [])) = break_keeps shape.Shape at
  head_of_keeps (Some kind.Attr) at (a ∷ (b ∷ (c ∷ []))) =
      both_keep (head_name_judged scope kind.Attr a) (object_judged scope b ++ value_judged scope c) (name_keeps kind.Attr a)
      (both_keep (object_judged scope b) (value_judged scope c) (object_keeps b) (value_keeps c))
  head_of_keeps (Some kind.Attr) at (a ∷ (b ∷ (c ∷ (d ∷ more)))) = break_keeps shape.Shape at

  head_keeps : (s : Said) → Keeps (head_judged scope s)
  head_keeps (node word at items) = head_of_keeps (head_kind word) at items
  head_keeps (name word at) = break_keeps shape.Shape at
  head_keeps (iri word at) = break_keeps shape.Shape at
  head_keeps (text word at) = break_keeps shape.Shape at
  head_keeps (tagged at) = break_keeps shape.Shape at
  head_keeps (binding at) = break_keeps shape.Shape at

  heads_keep : (items : List Item) → Keeps (heads_judged scope items)
  heads_keep [] = nothing_keeps
  heads_keep (i ∷ is) = both_keep (head_judged scope (said scope.doc i)) (heads_judged scope is) (head_keeps (said scope.doc i)) (heads_keep is)

module _ (texts : Texts) (doc : Document) (prefixes : Prefixes) where
  parts_keep : (r : Result SourceQuery ShapeBreach) (heads : List Item) → Keeps (parts_judged texts doc prefixes r heads)
  parts_keep (Err b) heads = break_keeps b.kind b.line
  parts_keep (Ok q) heads = heads_keep (scope_of texts doc prefixes q) heads

  map_keeps : (tables : List TableDecl) (at : ℕ) (items : List Item) → Keeps (map_judged texts doc prefixes tables at items)
  map_keeps tables at [] = break_keeps shape.Shape at
  map_keeps tables at (source ∷ []) = break_keeps shape.Shape at
  map_keeps tables at (source ∷ (first ∷ heads)) = parts_keep (query_of texts tables (said doc source)) (first ∷ heads)

  entry_keeps : (before : List TableDecl) (e : Entry) (later : List TableDecl → List Judgement) → ((b : List TableDecl) → Keeps (later b)) → Keeps (entry_judged texts doc prefixes before e later)
  entry_keeps before (table at items) later ih = by (table_in doc (table_names before) at items)
    where
      by : (r : Result TableDecl ShapeBreach) → Keeps (table_judged before r later)
      by (Err b) = break_keeps b.kind b.line
      by (Ok t) = ih (before ++ t ∷ [])
  entry_keeps before (map at items) later ih = both_keep (map_judged texts doc prefixes before at items) (later before) (map_keeps before at items) (ih before)
  entry_keeps before (other at) later ih = break_keeps shape.Shape at

  items_keep : (items : List Item) (before : List TableDecl) → Keeps (items_judged texts doc prefixes before items)
  items_keep [] before = nothing_keeps
  items_keep (i ∷ is) before = entry_keeps before (entry_of (said doc i)) (λ b. items_judged texts doc prefixes b is) (λ b. items_keep is b)

  after_keeps : (items : List Item) → Keeps (after_judged doc items)
  after_keeps [] = nothing_keeps
  after_keeps (i ∷ is) = both_keep (breaks shape.Shape (line (said doc i)) ∷ []) (after_judged doc is) (break_keeps shape.Shape (line (said doc i))) (after_keeps is)

  -- so the constants of a document's vocabulary are those that were handed in
  pub constants_kept : (old new : Lists) (items rest : List Item) → AreRight old (items_judged texts doc prefixes [] items ++ after_judged doc rest) new → new.constants ≡ old.constants
  constants_kept old new items rest right =
      ap (λ (l : Lists). l.constants) right.then
      ∙ both_keep (items_judged texts doc prefixes [] items) (after_judged doc rest) (items_keep items []) (after_keeps rest) old
