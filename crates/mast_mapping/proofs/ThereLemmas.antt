-- What is judged without a breach gives something.
use Rattle.std.proofs.Common.{◌≡◌, refl, ap, sym, ◌∙◌, subst, ℕ, suc, Bool, true, false, true≢false, ◌||◌, List, [], ◌∷◌, ◌++◌, length, slice_get}
use Rattle.std.specs.Prelude.{Option, Some, None, Result, Ok, Err, if◌then◌else◌}
use Rattle.std.specs.Str.{bytes_eq}
use Rattle.std.specs.Cmp.Lexicographic.{bytes_decides}
use Rattle.mast_terms.specs.declared.name.Name.{Name}
use Rattle.mast_terms.specs.declared.name.NameKind.{NameKind}
use Rattle.mast_terms.specs.declared.name.NameKind.TheVariants as kind
use Rattle.mast_terms.specs.Vocabularies.{Lists, iris, stands, joined, with_iri}
use Rattle.mast_terms.proofs.PlaceLemmas.{slice_get-push}
use Rattle.mast_sql.specs.declared.query.SourceQuery.{SourceQuery}
use Rattle.mast_tables.specs.declared.declaration.TableDecl.{TableDecl}
use Rattle.mast_tree.specs.declared.item.Item.{Item}
use Rattle.mast_tree.specs.declared.shape.ShapeBreach.{ShapeBreach}
use Rattle.mast_tree.specs.declared.shape.ShapeKind.TheVariants as shape
use Rattle.mast_tree.specs.Growing.{Begins}
use Rattle.mast_tree.specs.Judgements.{Judgement, uses, breaks, first_breach, after, breach_judged}
use Rattle.mast_tree.specs.MainNode.{Prefixes}
use Rattle.mast_tree.specs.Names.{is_standard, iri_judged, iri_named, name_judged, IsName}
use Rattle.mast_tree.specs.Said.{Said, name, iri, text, tagged, binding, node, line, said}
use Rattle.mast_tree.specs.Seen.{Document}
use Rattle.mast_tree.proofs.GrowingLemmas.{begins_join, after_begins, name_grows}
use Rattle.mast_tree.proofs.JudgementLemmas.{after-append, first_breach-append}
use Rattle.mast_mapping.specs.declared.map.Head.{Head}
use Rattle.mast_mapping.specs.declared.map.Head.TheVariants as head
use Rattle.mast_mapping.specs.declared.map.Map.{Map}
use Rattle.mast_mapping.specs.Declarations.{table_in}
use Rattle.mast_mapping.specs.Documents.{Entry, table, map, other, entry_of, table_judged, entry_judged, items_judged, EntrySays, ItemsSay}
use Rattle.mast_mapping.specs.Heads.{Scope, object_of, slot_of, object_judged, value_judged, head_name_judged, items_of_head_judged, head_judged, heads_judged, head_kind, IsHeadOf, IsHead, AreHeads}
use Rattle.mast_mapping.specs.Maps.{query_of, scope_of, parts_judged, map_judged, IsMap}
use Rattle.mast_mapping.specs.OverTables.{table_names}
use Rattle.mast_mapping.specs.Readings.{Texts}
use Rattle.mast_tree.proofs.VocabularyLemmas.{none_of}

-- P of something, in each vocabulary that begins with that after these judgements
abbrev pub Found : {A : Type 0} → Lists → List Judgement → (Lists → A → Type 0) → Type 0
Found {A} old js P = (x : A) × ((lists : Lists) → Begins lists (after old js) → P lists x)

-- no breach in two parts: none in the first, and none in the second over what comes after the first
pub none_in : (old : Lists) (first second : List Judgement) → first_breach old (first ++ second) ≡ None → (first_breach old first ≡ None) × (first_breach (after old first) second ≡ None)
none_in old first second h = none_of (first_breach old first) (first_breach (after old first) second) (sym (first_breach-append old first second) ∙ h)

-- a vocabulary that begins with that after two parts begins with that after the first
begins_first : (old lists : Lists) (first second : List Judgement) → Begins lists (after old (first ++ second)) → Begins lists (after old first)
begins_first old lists first second b =
    begins_join (after old first) (after (after old first) second) lists (subst (λ x. Begins lists x) (after-append old first second) b) (after_begins (after old first) second)

-- and with that after the second over that
begins_second : (old lists : Lists) (first second : List Judgement) → Begins lists (after old (first ++ second)) → Begins lists (after (after old first) second)
begins_second old lists first second b = subst (λ x. Begins lists x) (after-append old first second) b

-- a part without a breach is there
pub part_there : {T : Type 0} (old : Lists) (part : Result T ShapeBreach) → first_breach old (breach_judged part) ≡ None → (x : T) × (part ≡ Ok x)
part_there old (Ok x) h = (x, refl)
part_there old (Err b) h = absurd (cc)

stands_at : (word : List ℕ) (known : List (List ℕ)) → stands word known ≡ true → (n : ℕ) × (slice_get known n ≡ Some word)
stands_at word [] h = absurd (true≢false (sym h))
stands_at word (k ∷ ks) h = by (bytes_eq word k) refl (λ g. stands_at word ks g) h
  where
    by : (b : Bool) → bytes_eq word k ≡ b → (stands word ks ≡ true → (n : ℕ) × (slice_get ks n ≡ Some word)) → (b || stands word ks) ≡ true → (n : ℕ) × (slice_get (k ∷ ks) n ≡ Some word)
    by true e ih g = (0, ap (λ x. Some x) (sym ((bytes_decides word k).0 e)))
    by false e ih g = let r = ih g in (suc r.0, r.1)

joined_at : (word : List ℕ) (known : List (List ℕ)) → (n : ℕ) × (slice_get (joined word known) n ≡ Some word)
joined_at word known = by (stands word known) refl
  where
    by : (b : Bool) → stands word known ≡ b → (n : ℕ) × (slice_get (if b then known else known ++ word ∷ []) n ≡ Some word)
    by true e = stands_at word known e
    by false e = (length known, slice_get-push known word)

used_at : (old : Lists) (k : NameKind) (word : List ℕ) → (n : ℕ) × (slice_get (iris (with_iri old k word) k) n ≡ Some word)
used_at old kind.Class word = joined_at word old.classes
used_at old kind.Role word = joined_at word old.roles
used_at old kind.Attr word = joined_at word old.attributes

name_known : (old : Lists) (k : NameKind) (doc : Document) (prefixes : Prefixes) (item : Item) (word : List ℕ) (at : ℕ) → iri_named doc prefixes item ≡ Ok word
    → (b : Bool) → first_breach old (if b then breaks shape.NotDlLite at ∷ [] else uses k word at ∷ []) ≡ None
    → Found old (if b then breaks shape.NotDlLite at ∷ [] else uses k word at ∷ []) (λ (lists : Lists) (n : Name). IsName lists k doc prefixes item n)
name_known old k doc prefixes item word at e true g = absurd (cc)
name_known old k doc prefixes item word at e false g =
    let n : (n : ℕ) × (slice_get (iris (with_iri old k word) k) n ≡ Some word) = used_at old k word in
    (record { 0 = n.0 }, λ lists b. name_grows lists (with_iri old k word) k doc prefixes item (record { 0 = n.0 }) b (word, e, n.1))

name_of : (old : Lists) (k : NameKind) (doc : Document) (prefixes : Prefixes) (item : Item) (at : ℕ) (r : Result (List ℕ) ShapeBreach) → iri_named doc prefixes item ≡ r
    → first_breach old (iri_judged k r at) ≡ None → Found old (iri_judged k r at) (λ (lists : Lists) (n : Name). IsName lists k doc prefixes item n)
name_of old k doc prefixes item at (Err b) e g = absurd (cc)
name_of old k doc prefixes item at (Ok word) e g = name_known old k doc prefixes item word at e (is_standard word) g

-- a name without a breach is there
pub name_there : (old : Lists) (k : NameKind) (doc : Document) (prefixes : Prefixes) (item : Item) → first_breach old (name_judged k doc prefixes item) ≡ None
    → Found old (name_judged k doc prefixes item) (λ (lists : Lists) (n : Name). IsName lists k doc prefixes item n)
name_there old k doc prefixes item h = name_of old k doc prefixes item (line (said doc item)) (iri_named doc prefixes item) refl h

module _ (scope : Scope) where
  head_of_there : (old : Lists) (k : Option NameKind) (at : ℕ) (items : List Item) → first_breach old (items_of_head_judged scope k at items) ≡ None
      → Found old (items_of_head_judged scope k at items) (λ (lists : Lists) (h : Head). IsHeadOf lists scope k items h)
  head_of_there old None at items h = absurd (cc)
  head_of_there old (Some kind.Class) at [] h = absurd (cc)
  head_of_there old (Some kind.Class) at (a ∷ []) h = absurd (cc)
  head_of_there old (Some kind.Class) at (a ∷ (b ∷ [])) h =
      let nj : List Judgement = head_name_judged scope kind.Class a in
      let oj : List Judgement = object_judged scope b in
      let n = none_in old nj oj h in
      let named = name_there old kind.Class scope.doc scope.prefixes a n.0 in
      let o = part_there (after old nj) (object_of scope (said scope.doc b)) n.1 in
      (head.Class named.0 o.0, λ lists begins. record { iri = a; item = b; number = named.0; subject = o.0; form = refl; is = refl; named = named.1 lists (begins_first old lists nj oj begins); object = o.1 })
  head_of_there old (Some kind.Class) at (a ∷ (b ∷ (c ∷ more))) h = absurd (cc)
  head_of_there old (Some kind.Role) at [] h = absurd (cc)
  head_of_there old (Some kind.Role) at (a ∷ []) h = absurd (cc)
  head_of_there old (Some kind.Role) at (a ∷ (b ∷ [])) h = absurd (cc)
  head_of_there old (Some kind.Role) at (a ∷ (b ∷ (c ∷ []))) h =
      let nj : List Judgement = head_name_judged scope kind.Role a in
      let oj : List Judgement = object_judged scope b in
      let pj : List Judgement = object_judged scope c in
      let n = none_in old nj (oj ++ pj) h in
      let m = none_in (after old nj) oj pj n.1 in
      let named = name_there old kind.Role scope.doc scope.prefixes a n.0 in
      let o = part_there (after old nj) (object_of scope (said scope.doc b)) m.0 in
      let p = part_there (after (after old nj) oj) (object_of scope (said scope.doc c)) m.1 in
      (head.Role named.0 o.0 p.0, λ lists begins. record { iri = a; first = b; second = c; number = named.0; from = o.0; to = p.0; form = refl; is = refl; named = named.1 lists (begins_first old lists nj (oj ++ pj) begins); from_object = o.1; to_object = p.1 })
  head_of_there old (Some kind.Role) at (a ∷ (b ∷ (c ∷ (d ∷ more)))) h = absurd (cc)
  head_of_there old (Some kind.Attr) at [] h = absurd (cc)
  head_of_there old (Some kind.Attr) at (a ∷ []) h = absurd (cc)
  head_of_there old (Some kind.Attr) at (a ∷ (b ∷ [])) h = absurd (cc)
  head_of_there old (Some kind.Attr) at (a ∷ (b ∷ (c ∷ []))) h =
      let nj : List Judgement = head_name_judged scope kind.Attr a in
      let oj : List Judgement = object_judged scope b in
      let pj : List Judgement = value_judged scope c in
      let n = none_in old nj (oj ++ pj) h in
      let m = none_in (after old nj) oj pj n.1 in
      let named = name_there old kind.Attr scope.doc scope.prefixes a n.0 in
      let o = part_there (after old nj) (object_of scope (said scope.doc b)) m.0 in
      let p = part_there (after (after old nj) oj) (slot_of scope (said scope.doc c)) m.1 in
      (head.Attr named.0 o.0 p.0, λ lists begins. record { iri = a; first = b; second = c; number = named.0; from = o.0; value = p.0; form = refl; is = refl; named = named.1 lists (begins_first old lists nj (oj ++ pj) begins); from_object = o.1; value_slot = p.1 })
  head_of_there old (Some kind.Attr) at (a ∷ (b ∷ (c ∷ (d ∷ more)))) h = absurd (cc)

  head_there : (old : Lists) (s : Said) → first_breach old (head_judged scope s) ≡ None → Found old (head_judged scope s) (λ (lists : Lists) (h : Head). IsHead lists scope s h)
  head_there old (node word at items) h = head_of_there old (head_kind word) at items h
  head_there old (name word at) h = absurd (cc)
  head_there old (iri word at) h = absurd (cc)
  head_there old (text word at) h = absurd (cc)
  head_there old (tagged at) h = absurd (cc)
  head_there old (binding at) h = absurd (cc)

  -- heads without a breach are there
  pub heads_there : (old : Lists) (items : List Item) → first_breach old (heads_judged scope items) ≡ None → Found old (heads_judged scope items) (λ (lists : Lists) (hs : List Head). AreHeads lists scope items hs)
  heads_there old [] h = ([], λ lists b. tt)
  heads_there old (i ∷ is) h =
      let one : List Judgement = head_judged scope (said scope.doc i) in
      let more : List Judgement = heads_judged scope is in
      let n = none_in old one more h in
      let first = head_there old (said scope.doc i) n.0 in
      let rest = heads_there (after old one) is n.1 in
      (first.0 ∷ rest.0, λ lists b. (first.1 lists (begins_first old lists one more b), rest.1 lists (begins_second old lists one more b)))

module _ (texts : Texts) (doc : Document) (prefixes : Prefixes) where
  -- a map without a breach is there
  pub map_there : (old : Lists) (tables : List TableDecl) (at : ℕ) (items : List Item) → first_breach old (map_judged texts doc prefixes tables at items) ≡ None
      → Found old (map_judged texts doc prefixes tables at items) (λ (lists : Lists) (m : Map). IsMap lists texts doc prefixes tables items m)
  map_there old tables at [] h = absurd (cc)
  map_there old tables at (source ∷ []) h = absurd (cc)
  map_there old tables at (source ∷ (first ∷ heads)) h = by (query_of texts tables (said doc source)) refl h
    where
      by : (r : Result SourceQuery ShapeBreach) → query_of texts tables (said doc source) ≡ r → first_breach old (parts_judged texts doc prefixes r (first ∷ heads)) ≡ None
          → Found old (parts_judged texts doc prefixes r (first ∷ heads)) (λ (lists : Lists) (m : Map). IsMap lists texts doc prefixes tables (source ∷ (first ∷ heads)) m)
      by (Err b) e g = absurd (cc)
      by (Ok q) e g =
          let hs = heads_there (scope_of texts doc prefixes q) old (first ∷ heads) g in
          (record { line = line (said doc source); query = q; heads = hs.0 }, λ lists b. (refl, e, hs.1 lists b))

  -- the tables and the maps that items say
  abbrev Told : Lists → List Judgement → (Lists → List TableDecl → List Map → Type 0) → Type 0
  Told old js P = Found {A = List TableDecl × List Map} old js (λ lists x. P lists x.0 x.1)

  -- what is judged of items
  abbrev judged : List Item → List TableDecl → List Judgement
  judged items tables = items_judged texts doc prefixes tables items

  entry_there : (old : Lists) (before : List TableDecl) (items : List Item) (e : Entry)
      → ((o : Lists) (b : List TableDecl) → first_breach o (judged items b) ≡ None → Told o (judged items b) (λ lists ts ms. ItemsSay lists texts doc prefixes b items ts ms))
      → first_breach old (entry_judged texts doc prefixes before e (judged items)) ≡ None
      → Told old (entry_judged texts doc prefixes before e (judged items)) (λ lists ts ms. EntrySays lists texts doc prefixes before e ms (λ more others. ItemsSay lists texts doc prefixes more items ts others))
  entry_there old before items (table at inside) ih h = by (table_in doc (table_names before) at inside) refl h
    where
      by : (r : Result TableDecl ShapeBreach) → table_in doc (table_names before) at inside ≡ r → first_breach old (table_judged before r (judged items)) ≡ None
          → Told old (table_judged before r (judged items)) (λ lists ts ms. EntrySays lists texts doc prefixes before (table at inside) ms (λ more others. ItemsSay lists texts doc prefixes more items ts others))
      by (Err b) e g = absurd (cc)
      by (Ok t) e g = let rest = ih old (before ++ t ∷ []) g in (rest.0, λ lists b. (t, e, rest.1 lists b))
  entry_there old before items (map at inside) ih h =
      let one : List Judgement = map_judged texts doc prefixes before at inside in
      let n = none_in old one (judged items before) h in
      let m = map_there old before at inside n.0 in
      let rest = ih (after old one) before n.1 in
      ((rest.0.0, m.0 ∷ rest.0.1), λ lists b. (m.1 lists (begins_first old lists one (judged items before) b), rest.1 lists (begins_second old lists one (judged items before) b)))
  entry_there old before items (other at) ih h = absurd (cc)

  -- items without a breach say something
  pub items_there : (items : List Item) (old : Lists) (before : List TableDecl) → first_breach old (judged items before) ≡ None
      → Told old (judged items before) (λ lists ts ms. ItemsSay lists texts doc prefixes before items ts ms)
  items_there [] old before h = ((before, []), λ lists b. refl)
  items_there (item ∷ items) old before h = entry_there old before items (entry_of (said doc item)) (λ o b. items_there items o b) h
