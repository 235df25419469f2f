-- Items say one thing alone.
use Rattle.std.proofs.Common.{◌≡◌, refl, ap, sym, ◌∙◌, subst, List, [], ◌∷◌, ◌++◌}
use Rattle.std.specs.Prelude.{Option, Some, None, Result, Ok}
use Rattle.mast_terms.specs.declared.name.Name.{Name}
use Rattle.mast_terms.specs.declared.name.NameKind.{NameKind}
use Rattle.mast_terms.specs.declared.name.NameKind.TheVariants as kind
use Rattle.mast_terms.specs.Vocabularies.{Lists, iris, EachOnce, IsVocabulary}
use Rattle.mast_tables.specs.declared.declaration.TableDecl.{TableDecl}
use Rattle.mast_tree.specs.declared.item.Item.{Item}
use Rattle.mast_tree.specs.declared.shape.ShapeBreach.{ShapeBreach}
use Rattle.mast_tree.specs.MainNode.{Prefixes}
use Rattle.mast_tree.specs.Names.{IsName}
use Rattle.mast_tree.specs.Said.{Said, name, iri, text, tagged, binding, node, said}
use Rattle.mast_tree.specs.Seen.{Document}
use Rattle.mast_mapping.specs.declared.map.Head.{Head}
use Rattle.mast_mapping.specs.declared.map.Head.TheVariants as head
use Rattle.mast_mapping.specs.declared.map.Map.{Map}
use Rattle.mast_mapping.specs.declared.map.Slot.{Slot}
use Rattle.mast_mapping.specs.declared.map.Template.{Template}
use Rattle.mast_mapping.specs.Declarations.{table_in}
use Rattle.mast_mapping.specs.Documents.{Entry, table, map, other, entry_of, EntrySays, ItemsSay}
use Rattle.mast_mapping.specs.Heads.{Scope, head_kind, IsClassHead, IsRoleHead, IsAttrHead, IsHeadOf, IsHead, AreHeads, IsObject, IsSlot, object_of, slot_of}
use Rattle.mast_mapping.specs.Maps.{query_of, scope_of, IsMap}
use Rattle.mast_mapping.specs.OverTables.{table_names}
use Rattle.mast_mapping.specs.Readings.{Texts}

-- what one thing is, another is not
pub one_ok : {T : Type 0} (r : Result T ShapeBreach) (a b : T) → r ≡ Ok a → r ≡ Ok b → a ≡ b
one_ok {T} r a b h k = ok_in a b (sym h ∙ k)
  where
    ok_in : (x y : T) → ◌≡◌ {A = Result T ShapeBreach} (Ok x) (Ok y) → x ≡ y
    ok_in x y e = cc

each_once : (lists : Lists) (k : NameKind) → IsVocabulary lists → EachOnce (iris lists k)
each_once lists kind.Class v = v.classes.once
each_once lists kind.Role v = v.roles.once
each_once lists kind.Attr v = v.attributes.once

-- an item names one thing
pub one_name : (lists : Lists) (k : NameKind) (doc : Document) (prefixes : Prefixes) (item : Item) (a b : Name) → IsVocabulary lists
    → IsName lists k doc prefixes item a → IsName lists k doc prefixes item b → a ≡ b
one_name lists k doc prefixes item a b v h g =
    let e : h.0 ≡ g.0 = one_ok _ h.0 g.0 h.1 g.1 in
    let n : a.0 ≡ b.0 = each_once lists k v a.0 b.0 g.0 (h.2 ∙ ap (λ x. Some x) e) g.2 in
    λ i. record { 0 = n i }

two_items : (a b c d : Item) → ◌≡◌ {A = List Item} (a ∷ (b ∷ [])) (c ∷ (d ∷ [])) → (a ≡ c) × (b ≡ d)
two_items a b c d h = (cc, cc)

three_items : (a b c d e f : Item) → ◌≡◌ {A = List Item} (a ∷ (b ∷ (c ∷ []))) (d ∷ (e ∷ (f ∷ []))) → (a ≡ d) × (b ≡ e) × (c ≡ f)
three_items a b c d e f h = (cc, cc, cc)

module _ (lists : Lists) (v : IsVocabulary lists) (scope : Scope) where
  one_named : (k : NameKind) (i j : Item) (a b : Name) → i ≡ j → IsName lists k scope.doc scope.prefixes i a → IsName lists k scope.doc scope.prefixes j b → a ≡ b
  one_named k i j a b e h g = one_name lists k scope.doc scope.prefixes j a b v (subst (λ x. IsName lists k scope.doc scope.prefixes x a) e h) g

  one_object : (i j : Item) (a b : Template) → i ≡ j → IsObject scope i a → IsObject scope j b → a ≡ b
  one_object i j a b e h g = one_ok (object_of scope (said scope.doc j)) a b (subst (λ x. IsObject scope x a) e h) g

  one_slot : (i j : Item) (a b : Slot) → i ≡ j → IsSlot scope i a → IsSlot scope j b → a ≡ b
  one_slot i j a b e h g = one_ok (slot_of scope (said scope.doc j)) a b (subst (λ x. IsSlot scope x a) e h) g

  one_class : (items : List Item) (a b : Head) → IsClassHead lists scope items a → IsClassHead lists scope items b → a ≡ b
  one_class items a b h g =
      let e = two_items h.iri h.item g.iri g.item (sym h.form ∙ g.form) in
      let n : h.number ≡ g.number = one_named kind.Class h.iri g.iri h.number g.number e.0 h.named g.named in
      let s : h.subject ≡ g.subject = one_object h.item g.item h.subject g.subject e.1 h.object g.object in
      h.is ∙ (ap (λ x. head.Class x h.subject) n ∙ (ap (λ x. head.Class g.number x) s ∙ sym g.is))

  one_role : (items : List Item) (a b : Head) → IsRoleHead lists scope items a → IsRoleHead lists scope items b → a ≡ b
  one_role items a b h g =
      let e = three_items h.iri h.first h.second g.iri g.first g.second (sym h.form ∙ g.form) in
      let n : h.number ≡ g.number = one_named kind.Role h.iri g.iri h.number g.number e.0 h.named g.named in
      let f : h.from ≡ g.from = one_object h.first g.first h.from g.from e.1 h.from_object g.from_object in
      let t : h.to ≡ g.to = one_object h.second g.second h.to g.to e.2 h.to_object g.to_object in
      h.is ∙ (ap (λ x. head.Role x h.from h.to) n ∙ (ap (λ x. head.Role g.number x h.to) f ∙ (ap (λ x. head.Role g.number g.from x) t ∙ sym g.is)))

  one_attribute : (items : List Item) (a b : Head) → IsAttrHead lists scope items a → IsAttrHead lists scope items b → a ≡ b
  one_attribute items a b h g =
      let e = three_items h.iri h.first h.second g.iri g.first g.second (sym h.form ∙ g.form) in
      let n : h.number ≡ g.number = one_named kind.Attr h.iri g.iri h.number g.number e.0 h.named g.named in
      let f : h.from ≡ g.from = one_object h.first g.first h.from g.from e.1 h.from_object g.from_object in
      let t : h.value ≡ g.value = one_slot h.second g.second h.value g.value e.2 h.value_slot g.value_slot in
      h.is ∙ (ap (λ x. head.Attr x h.from h.value) n ∙ (ap (λ x. head.Attr g.number x h.value) f ∙ (ap (λ x. head.Attr g.number g.from x) t ∙ sym g.is)))

  one_head_of : (k : Option NameKind) (items : List Item) (a b : Head) → IsHeadOf lists scope k items a → IsHeadOf lists scope k items b → a ≡ b
  one_head_of None items a b h g = absurd h
  one_head_of (Some kind.Class) items a b h g = one_class items a b h g
  one_head_of (Some kind.Role) items a b h g = one_role items a b h g
  one_head_of (Some kind.Attr) items a b h g = one_attribute items a b h g

  one_head : (s : Said) (a b : Head) → IsHead lists scope s a → IsHead lists scope s b → a ≡ b
  one_head (node word at items) a b h g = one_head_of (head_kind word) items a b h g
  one_head (name word at) a b h g = absurd h
  one_head (iri word at) a b h g = absurd h
  one_head (text word at) a b h g = absurd h
  one_head (tagged at) a b h g = absurd h
  one_head (binding at) a b h g = absurd h

  -- items are one list of heads
  pub one_heads : (items : List Item) (hs ks : List Head) → AreHeads lists scope items hs → AreHeads lists scope items ks → hs ≡ ks
  one_heads [] [] [] h g = refl
  one_heads [] [] (b ∷ ks) h g = absurd g
  one_heads [] (a ∷ hs) ks h g = absurd h
  one_heads (i ∷ is) [] ks h g = absurd h
  one_heads (i ∷ is) (a ∷ hs) [] h g = absurd g
  one_heads (i ∷ is) (a ∷ hs) (b ∷ ks) h g =
      ap (λ x. x ∷ hs) (one_head (said scope.doc i) a b h.0 g.0) ∙ ap (λ xs. b ∷ xs) (one_heads is hs ks h.1 g.1)

module _ (lists : Lists) (v : IsVocabulary lists) (texts : Texts) (doc : Document) (prefixes : Prefixes) where
  same_map : (a b : Map) → a.line ≡ b.line → a.query ≡ b.query → a.heads ≡ b.heads → a ≡ b
  same_map a b l q h = λ i. record { line = l i; query = q i; heads = h i }

  -- items are one map
  pub one_map : (tables : List TableDecl) (items : List Item) (a b : Map) → IsMap lists texts doc prefixes tables items a → IsMap lists texts doc prefixes tables items b → a ≡ b
  one_map tables [] a b h g = absurd h
  one_map tables (source ∷ []) a b h g = absurd h
  one_map tables (source ∷ (first ∷ heads)) a b h g =
      let q : a.query ≡ b.query = one_ok (query_of texts tables (said doc source)) a.query b.query h.1 g.1 in
      same_map a b (h.0 ∙ sym g.0) q
      (one_heads lists v (scope_of texts doc prefixes b.query) (first ∷ heads) a.heads b.heads
      (subst (λ x. AreHeads lists (scope_of texts doc prefixes x) (first ∷ heads) a.heads) q h.2) g.2)

  -- what items say of tables and maps
  abbrev Said_by : List Item → List TableDecl → List TableDecl → List Map → Type 0
  Said_by items before ts ms = ItemsSay lists texts doc prefixes before items ts ms

  one_entry : (items : List Item) (before : List TableDecl) (e : Entry) (ts us : List TableDecl) (ms ns : List Map)
      → ((b : List TableDecl) (xs ys : List TableDecl) (ks ls : List Map) → Said_by items b xs ks → Said_by items b ys ls → (xs ≡ ys) × (ks ≡ ls))
      → EntrySays lists texts doc prefixes before e ms (λ more others. Said_by items more ts others)
      → EntrySays lists texts doc prefixes before e ns (λ more others. Said_by items more us others)
      → (ts ≡ us) × (ms ≡ ns)
  one_entry items before (table at inside) ts us ms ns ih h g =
      let t : h.0 ≡ g.0 = one_ok (table_in doc (table_names before) at inside) h.0 g.0 h.1 g.1 in
      ih (before ++ g.0 ∷ []) ts us ms ns (subst (λ x. Said_by items (before ++ x ∷ []) ts ms) t h.2) g.2
  one_entry items before (map at inside) ts us [] ns ih h g = absurd h
  one_entry items before (map at inside) ts us (m ∷ ms) [] ih h g = absurd g
  one_entry items before (map at inside) ts us (m ∷ ms) (n ∷ ns) ih h g =
      let rest = ih before ts us ms ns h.1 g.1 in
      (rest.0, ap (λ x. x ∷ ms) (one_map before inside m n h.0 g.0) ∙ ap (λ xs. n ∷ xs) rest.1)
  one_entry items before (other at) ts us ms ns ih h g = absurd h

  -- items say one list of tables and one of maps
  pub one_said : (items : List Item) (before ts us : List TableDecl) (ms ns : List Map) → Said_by items before ts ms → Said_by items before us ns → (ts ≡ us) × (ms ≡ ns)
  one_said [] before ts us [] [] h g = (h ∙ sym g, refl)
  one_said [] before ts us [] (n ∷ ns) h g = absurd g
  one_said [] before ts us (m ∷ ms) ns h g = absurd h
  one_said (item ∷ items) before ts us ms ns h g =
      one_entry items before (entry_of (said doc item)) ts us ms ns (λ b xs ys ks ls p q. one_said items b xs ys ks ls p q) h g
