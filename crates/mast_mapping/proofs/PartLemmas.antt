-- Parts of heads, and heads.
use Rattle.std.proofs.Common.{◌≡◌, refl, ap, sym, ◌∙◌, subst, ℕ, List, [], ◌∷◌, ◌++◌, Option, Some, None, append_assoc}
use Rattle.std.specs.Prelude.{Result, Ok, Err}
use Rattle.std.proofs.lemmas.List.{append-nil}
use Rattle.mast_terms.specs.declared.name.Name.{Name}
use Rattle.mast_terms.specs.declared.name.NameKind.{NameKind}
use Rattle.mast_terms.specs.declared.name.NameKind.TheVariants as kind
use Rattle.mast_terms.specs.declared.memory.Stop.{Stop}
use Rattle.mast_terms.specs.Vocabularies.{Lists}
use Rattle.mast_tree.specs.declared.item.Item.{Item}
use Rattle.mast_tree.specs.declared.shape.ShapeBreach.{ShapeBreach}
use Rattle.mast_tree.specs.Constants.{constant_of}
use Rattle.mast_tree.specs.Growing.{Begins}
use Rattle.mast_tree.specs.Judgements.{Judgement, first_breach, after, or_later, AreRight, Judges, breach_judged}
use Rattle.mast_tree.specs.Names.{IsName}
use Rattle.mast_tree.specs.Results.{Gives}
use Rattle.mast_tree.specs.Said.{Said, name, iri, text, tagged, binding, node, said}
use Rattle.mast_tree.proofs.GrowingLemmas.{begins_same, begins_join, right_begins, name_grows}
use Rattle.mast_tree.proofs.JudgementLemmas.{after-append, first_breach-append, right_parts, breach_first, breach_second}
use Rattle.mast_mapping.specs.declared.map.Head.{Head}
use Rattle.mast_mapping.specs.declared.map.Head.TheVariants as head
use Rattle.mast_mapping.specs.declared.map.Slot.{Slot}
use Rattle.mast_mapping.specs.declared.map.Template.{Template}
use Rattle.mast_mapping.specs.Heads.{Scope, constant_slot, object_of, slot_of, object_judged, value_judged, head_name_judged, items_of_head_judged, head_judged, heads_judged, head_kind, IsHeadOf, IsHead, AreHeads}
use Rattle.mast_mapping.specs.inside.ReadHeads.{AreFar, ReadsItems, ReadsHead}

-- nothing is wrong with a part that is there
pub part_right : {T : Type 0} (old : Lists) (part : Result T ShapeBreach) (given : T) → part ≡ Ok given → AreRight old (breach_judged part) old
part_right old (Ok p) given e = record { none = refl; then = refl }
part_right old (Err b) given e = absurd (cc)

-- what is wrong with a part is its breach
pub part_wrong : {T : Type 0} (old : Lists) (part : Result T ShapeBreach) (breach : ShapeBreach) → part ≡ Err breach → first_breach old (breach_judged part) ≡ Some breach
part_wrong old (Ok p) breach e = absurd (cc)
part_wrong {T} old (Err b) breach e = ap (λ x. Some x) (err_in b breach e)
  where
    err_in : (a b : ShapeBreach) → ◌≡◌ {A = Result T ShapeBreach} (Err a) (Err b) → a ≡ b
    err_in a b h = cc

module _ (scope : Scope) (line : ℕ) (old new : Lists) (leaf : Item) where
  -- a class and its subject
  pub class_right : (item : Item) (n : Name) (subject : Template) → AreRight old (head_name_judged scope kind.Class leaf) new → IsName new kind.Class scope.doc scope.prefixes leaf n → object_of scope (said scope.doc item) ≡ Ok subject
      → AreRight old (items_of_head_judged scope (Some kind.Class) line (leaf ∷ (item ∷ []))) new × IsHeadOf new scope (Some kind.Class) (leaf ∷ (item ∷ [])) (head.Class n subject)
  class_right item n subject right named o = (
    right_parts old new new (head_name_judged scope kind.Class leaf) (object_judged scope item) right (part_right new (object_of scope (said scope.doc item)) subject o),
    record { iri = leaf; item = item; number = n; subject = subject; form = refl; is = refl; named = named; object = o },
  )

  -- the name of a class is wrong
  pub class_name_wrong : (item : Item) (b : ShapeBreach) → first_breach old (head_name_judged scope kind.Class leaf) ≡ Some b
      → first_breach old (items_of_head_judged scope (Some kind.Class) line (leaf ∷ (item ∷ []))) ≡ Some b
  class_name_wrong item b e = breach_first old (head_name_judged scope kind.Class leaf) (object_judged scope item) b e

  -- the subject of a class is wrong
  pub class_subject_wrong : (item : Item) (b : ShapeBreach) → AreRight old (head_name_judged scope kind.Class leaf) new → object_of scope (said scope.doc item) ≡ Err b
      → first_breach old (items_of_head_judged scope (Some kind.Class) line (leaf ∷ (item ∷ []))) ≡ Some b
  class_subject_wrong item b right o = breach_second old new (head_name_judged scope kind.Class leaf) (object_judged scope item) b right (part_wrong new (object_of scope (said scope.doc item)) b o)

  -- a role and its two objects
  pub role_right : (first second : Item) (n : Name) (from to : Template) → AreRight old (head_name_judged scope kind.Role leaf) new → IsName new kind.Role scope.doc scope.prefixes leaf n
      → object_of scope (said scope.doc first) ≡ Ok from → object_of scope (said scope.doc second) ≡ Ok to
      → AreRight old (items_of_head_judged scope (Some kind.Role) line (leaf ∷ (first ∷ (second ∷ [])))) new × IsHeadOf new scope (Some kind.Role) (leaf ∷ (first ∷ (second ∷ []))) (head.Role n from to)
  role_right first second n from to right named o p = (
    right_parts old new new (head_name_judged scope kind.Role leaf) (object_judged scope first ++ object_judged scope second) right
        (right_parts new new new (object_judged scope first) (object_judged scope second) (part_right new (object_of scope (said scope.doc first)) from o) (part_right new (object_of scope (said scope.doc second)) to p)),
    record { iri = leaf; first = first; second = second; number = n; from = from; to = to; form = refl; is = refl; named = named; from_object = o; to_object = p },
  )

  -- the name of a role is wrong
  pub role_name_wrong : (first second : Item) (b : ShapeBreach) → first_breach old (head_name_judged scope kind.Role leaf) ≡ Some b
      → first_breach old (items_of_head_judged scope (Some kind.Role) line (leaf ∷ (first ∷ (second ∷ [])))) ≡ Some b
  role_name_wrong first second b e = breach_first old (head_name_judged scope kind.Role leaf) (object_judged scope first ++ object_judged scope second) b e

  -- the first object of a role is wrong
  pub role_from_wrong : (first second : Item) (b : ShapeBreach) → AreRight old (head_name_judged scope kind.Role leaf) new → object_of scope (said scope.doc first) ≡ Err b
      → first_breach old (items_of_head_judged scope (Some kind.Role) line (leaf ∷ (first ∷ (second ∷ [])))) ≡ Some b
  role_from_wrong first second b right o =
      breach_second old new (head_name_judged scope kind.Role leaf) (object_judged scope first ++ object_judged scope second) b right
      (breach_first new (object_judged scope first) (object_judged scope second) b (part_wrong new (object_of scope (said scope.doc first)) b o))

  -- the second object of a role is wrong
  pub role_to_wrong : (first second : Item) (from : Template) (b : ShapeBreach) → AreRight old (head_name_judged scope kind.Role leaf) new
      → object_of scope (said scope.doc first) ≡ Ok from → object_of scope (said scope.doc second) ≡ Err b
      → first_breach old (items_of_head_judged scope (Some kind.Role) line (leaf ∷ (first ∷ (second ∷ [])))) ≡ Some b
  role_to_wrong first second from b right o p =
      breach_second old new (head_name_judged scope kind.Role leaf) (object_judged scope first ++ object_judged scope second) b right
      (breach_second new new (object_judged scope first) (object_judged scope second) b (part_right new (object_of scope (said scope.doc first)) from o) (part_wrong new (object_of scope (said scope.doc second)) b p))

  -- an attribute, its object and its value
  pub attribute_right : (first second : Item) (n : Name) (from : Template) (value : Slot) → AreRight old (head_name_judged scope kind.Attr leaf) new → IsName new kind.Attr scope.doc scope.prefixes leaf n
      → object_of scope (said scope.doc first) ≡ Ok from → slot_of scope (said scope.doc second) ≡ Ok value
      → AreRight old (items_of_head_judged scope (Some kind.Attr) line (leaf ∷ (first ∷ (second ∷ [])))) new × IsHeadOf new scope (Some kind.Attr) (leaf ∷ (first ∷ (second ∷ []))) (head.Attr n from value)
  attribute_right first second n from value right named o p = (
    right_parts old new new (head_name_judged scope kind.Attr leaf) (object_judged scope first ++ value_judged scope second) right
        (right_parts new new new (object_judged scope first) (value_judged scope second) (part_right new (object_of scope (said scope.doc first)) from o) (part_right new (slot_of scope (said scope.doc second)) value p)),
    record { iri = leaf; first = first; second = second; number = n; from = from; value = value; form = refl; is = refl; named = named; from_object = o; value_slot = p },
  )

  -- the name of an attribute is wrong
  pub attribute_name_wrong : (first second : Item) (b : ShapeBreach) → first_breach old (head_name_judged scope kind.Attr leaf) ≡ Some b
      → first_breach old (items_of_head_judged scope (Some kind.Attr) line (leaf ∷ (first ∷ (second ∷ [])))) ≡ Some b
  attribute_name_wrong first second b e = breach_first old (head_name_judged scope kind.Attr leaf) (object_judged scope first ++ value_judged scope second) b e

  -- the object of an attribute is wrong
  pub attribute_from_wrong : (first second : Item) (b : ShapeBreach) → AreRight old (head_name_judged scope kind.Attr leaf) new → object_of scope (said scope.doc first) ≡ Err b
      → first_breach old (items_of_head_judged scope (Some kind.Attr) line (leaf ∷ (first ∷ (second ∷ [])))) ≡ Some b
  attribute_from_wrong first second b right o =
      breach_second old new (head_name_judged scope kind.Attr leaf) (object_judged scope first ++ value_judged scope second) b right
      (breach_first new (object_judged scope first) (value_judged scope second) b (part_wrong new (object_of scope (said scope.doc first)) b o))

  -- the value of an attribute is wrong
  pub attribute_value_wrong : (first second : Item) (from : Template) (b : ShapeBreach) → AreRight old (head_name_judged scope kind.Attr leaf) new
      → object_of scope (said scope.doc first) ≡ Ok from → slot_of scope (said scope.doc second) ≡ Err b
      → first_breach old (items_of_head_judged scope (Some kind.Attr) line (leaf ∷ (first ∷ (second ∷ [])))) ≡ Some b
  attribute_value_wrong first second from b right o p =
      breach_second old new (head_name_judged scope kind.Attr leaf) (object_judged scope first ++ value_judged scope second) b right
      (breach_second new new (object_judged scope first) (value_judged scope second) b (part_right new (object_of scope (said scope.doc first)) from o) (part_wrong new (slot_of scope (said scope.doc second)) b p))

-- what a head is, it is in a vocabulary that begins with its own
head_of_grows : (new old : Lists) (scope : Scope) (k : Option NameKind) (items : List Item) (h : Head) → Begins new old → IsHeadOf old scope k items h → IsHeadOf new scope k items h
head_of_grows new old scope (Some kind.Class) items h b is = record { iri = is.iri; item = is.item; number = is.number; subject = is.subject; form = is.form; is = is.is; named = name_grows new old kind.Class scope.doc scope.prefixes is.iri is.number b is.named; object = is.object }
head_of_grows new old scope (Some kind.Role) items h b is = record { iri = is.iri; first = is.first; second = is.second; number = is.number; from = is.from; to = is.to; form = is.form; is = is.is; named = name_grows new old kind.Role scope.doc scope.prefixes is.iri is.number b is.named; from_object = is.from_object; to_object = is.to_object }
head_of_grows new old scope (Some kind.Attr) items h b is = record { iri = is.iri; first = is.first; second = is.second; number = is.number; from = is.from; value = is.value; form = is.form; is = is.is; named = name_grows new old kind.Attr scope.doc scope.prefixes is.iri is.number b is.named; from_object = is.from_object; value_slot = is.value_slot }
head_of_grows new old scope None items h b is = absurd is

head_grows : (new old : Lists) (scope : Scope) (s : Said) (h : Head) → Begins new old → IsHead old scope s h → IsHead new scope s h
head_grows new old scope (node word at items) h b is = head_of_grows new old scope (head_kind word) items h b is
head_grows new old scope (name word at) h b is = absurd is
head_grows new old scope (iri word at) h b is = absurd is
head_grows new old scope (text word at) h b is = absurd is
head_grows new old scope (tagged at) h b is = absurd is
head_grows new old scope (binding at) h b is = absurd is

-- the same of heads
pub heads_grow : (new old : Lists) (scope : Scope) (items : List Item) (heads : List Head) → Begins new old → AreHeads old scope items heads → AreHeads new scope items heads
heads_grow new old scope [] [] b are = tt
heads_grow new old scope [] (h ∷ hs) b are = absurd are
heads_grow new old scope (i ∷ is) [] b are = absurd are
heads_grow new old scope (i ∷ is) (h ∷ hs) b are = (head_grows new old scope (said scope.doc i) h b are.0, heads_grow new old scope is hs b are.1)

-- no head is read yet
pub far_start : (scope : Scope) (old : Lists) (items : List Item) → AreFar scope old items items [] old
far_start scope old items = record { breach = refl; then = refl; are = λ lists more b are. are }

-- one head more
pub far_next : (scope : Scope) (old now next : Lists) (all rest : List Item) (item : Item) (heads : List Head) (h : Head)
    → AreFar scope old all (item ∷ rest) heads now → AreRight now (head_judged scope (said scope.doc item)) next → IsHead next scope (said scope.doc item) h
    → AreFar scope old all rest (heads ++ h ∷ []) next
far_next scope old now next all rest item heads h far right is =
    let one : List Judgement = head_judged scope (said scope.doc item) in
    let more : List Judgement = heads_judged scope rest in
    record {
      breach = far.breach ∙ (first_breach-append now one more ∙ (ap (λ x. or_later x (first_breach (after now one) more)) right.none ∙ ap (λ l. first_breach l more) (sym right.then)));
      then = far.then ∙ (after-append now one more ∙ ap (λ l. after l more) (sym right.then));
      are = λ lists hs b are.
          subst (λ x. AreHeads lists scope all x) (sym (append_assoc heads (h ∷ []) hs))
          (far.are lists (h ∷ hs) (begins_join now next lists b (right_begins now next one right)) (head_grows lists next scope (said scope.doc item) h b is, are));
    }

-- all heads are read
pub far_end : (scope : Scope) (old now : Lists) (all : List Item) (heads : List Head) → AreFar scope old all [] heads now
    → AreRight old (heads_judged scope all) now × AreHeads now scope all heads
far_end scope old now all heads far =
    (record { none = far.breach; then = sym far.then }, subst (λ x. AreHeads now scope all x) (append-nil heads) (far.are now [] (begins_same now) tt))

-- a head is wrong
pub far_wrong : (scope : Scope) (old now : Lists) (all rest : List Item) (item : Item) (heads : List Head) (b : ShapeBreach)
    → AreFar scope old all (item ∷ rest) heads now → first_breach now (head_judged scope (said scope.doc item)) ≡ Some b → first_breach old (heads_judged scope all) ≡ Some b
far_wrong scope old now all rest item heads b far e = far.breach ∙ breach_first now (head_judged scope (said scope.doc item)) (heads_judged scope rest) b e

-- a head is read where the items of its word are
pub head_read : (scope : Scope) (item : Item) (old new : Lists) (result : Result Head (Stop ShapeBreach)) (word : List ℕ) (at : ℕ) (items : List Item) (k : Option NameKind)
    → said scope.doc item ≡ node word at items → head_kind word ≡ k → ReadsItems scope k at items old new result → ReadsHead scope item old new result
head_read scope item old new result word at items k e f h =
    subst (λ s. Judges old (head_judged scope s) new (IsHead new scope s) result) (sym e) (subst (λ x. ReadsItems scope x at items old new result) (sym f) h)

-- a slot that is no leaf is a constant
pub constant_given : (scope : Scope) (s t : Said) (result : Result Slot (Stop ShapeBreach)) → t ≡ s → slot_of scope t ≡ constant_slot (constant_of scope.dates scope.doc t)
    → Gives result (constant_slot (constant_of scope.dates scope.doc s)) → Gives result (slot_of scope s)
constant_given scope s t result e f h =
    subst (λ x. Gives result x) (sym (ap (slot_of scope) (sym e) ∙ (f ∙ ap (λ x. constant_slot (constant_of scope.dates scope.doc x)) e))) h
