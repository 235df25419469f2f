-- How far a mapping document is read.
use Rattle.std.proofs.Common.{◌≡◌, refl, ap, sym, ◌∙◌, subst, ℕ, List, [], ◌∷◌, ◌++◌, Some, append_assoc}
use Rattle.std.specs.Prelude.{Err}
use Rattle.std.proofs.lemmas.List.{append-nil}
use Rattle.mast_terms.specs.Vocabularies.{Lists}
use Rattle.mast_tables.specs.declared.declaration.TableDecl.{TableDecl}
use Rattle.mast_tree.specs.declared.item.Item.{Item}
use Rattle.mast_tree.specs.declared.shape.ShapeBreach.{ShapeBreach}
use Rattle.mast_tree.specs.Growing.{Begins}
use Rattle.mast_tree.specs.Judgements.{Judgement, first_breach, after, or_later}
use Rattle.mast_tree.specs.MainNode.{Prefixes}
use Rattle.mast_tree.specs.Said.{said}
use Rattle.mast_tree.specs.Seen.{Document}
use Rattle.mast_tree.proofs.GrowingLemmas.{begins_same, begins_join, right_begins}
use Rattle.mast_tree.proofs.JudgementLemmas.{after-append, first_breach-append, breach_first}
use Rattle.mast_mapping.specs.declared.map.Map.{Map}
use Rattle.mast_mapping.specs.declared.reader.Contents.{Contents}
use Rattle.mast_mapping.specs.Declarations.{table_in}
use Rattle.mast_mapping.specs.Documents.{Entry, table, map, other, entry_of, table_judged, entry_judged, EntrySays}
use Rattle.mast_mapping.specs.Maps.{map_judged, IsMap, scope_of}
use Rattle.mast_mapping.specs.OverTables.{table_names}
use Rattle.mast_mapping.specs.Readings.{Texts}
use Rattle.mast_mapping.specs.inside.Progress.{IsTableBehind, IsMapBehind, IsBehind, BreaksBehind, rest_judged, RestSays, IsFar, IsInside}
use Rattle.mast_tree.specs.Pages.{Page}
use Rattle.mast_mapping.proofs.PartLemmas.{heads_grow}

-- a map is the same in a vocabulary that begins with its own
pub map_grows : (new old : Lists) (texts : Texts) (doc : Document) (prefixes : Prefixes) (tables : List TableDecl) (items : List Item) (m : Map)
    → Begins new old → IsMap old texts doc prefixes tables items m → IsMap new texts doc prefixes tables items m
map_grows new old texts doc prefixes tables [] m b is = absurd is
map_grows new old texts doc prefixes tables (source ∷ []) m b is = absurd is
map_grows new old texts doc prefixes tables (source ∷ (first ∷ heads)) m b is =
    (is.0, is.1, heads_grow new old (scope_of texts doc prefixes m.query) (first ∷ heads) m.heads b is.2)

module _ (texts : Texts) (page : Page) (old : Lists) (all : List Item) where
  -- nothing is read yet
  pub far_start : (now : Contents) → now.vocab ≡ old → now.tables ≡ [] → now.maps ≡ [] → IsFar texts page old all all now
  far_start now v t m = record {
    breach = ap (λ x. first_breach x (rest_judged texts page [] all)) (sym v) ∙ ap (λ x. first_breach now.vocab (rest_judged texts page x all)) (sym t);
    then = ap (λ x. after x (rest_judged texts page [] all)) (sym v) ∙ ap (λ x. after now.vocab (rest_judged texts page x all)) (sym t);
    says = λ lists tables maps b h.
        subst (λ x. RestSays lists texts page [] all tables (x ++ maps)) (sym m) (subst (λ x. RestSays lists texts page x all tables maps) t h);
  }

  module _ (rest : List Item) (item : Item) (before now : Contents) (far : IsFar texts page old all (item ∷ rest) before) where
    -- what is judged later, by the tables
    abbrev later : List TableDecl → List Judgement
    later tables = rest_judged texts page tables rest

    -- what an item says, and those after it
    abbrev Says : Lists → Entry → List TableDecl → List Map → Type 0
    Says lists entry tables maps =
        EntrySays lists texts page.doc page.prefixes before.tables entry maps (λ more others. RestSays lists texts page more rest tables others)

    -- one table more
    pub far_table : (line : ℕ) (items : List Item) → entry_of (said page.doc item) ≡ table line items → IsTableBehind page before line items now → IsFar texts page old all rest now
    far_table line items e t =
        let judged : rest_judged texts page before.tables (item ∷ rest) ≡ later now.tables =
        ap (λ x. entry_judged texts page.doc page.prefixes before.tables x later) e
        ∙ (ap (λ r. table_judged before.tables r later) t.declared ∙ ap later (sym t.tables)) in
        record {
          breach = far.breach ∙ (ap (first_breach before.vocab) judged ∙ ap (λ v. first_breach v (later now.tables)) (sym t.vocab));
          then = far.then ∙ (ap (after before.vocab) judged ∙ ap (λ v. after v (later now.tables)) (sym t.vocab));
          says = λ lists tables maps b h.
              subst (λ x. RestSays lists texts page [] all tables (x ++ maps)) (sym t.maps)
              (far.says lists tables maps (subst (λ v. Begins lists v) t.vocab b)
              (subst (λ x. Says lists x tables maps) (sym e)
              (t.one, t.declared, subst (λ x. RestSays lists texts page x rest tables maps) t.tables h)));
        }

    -- one map more
    pub far_map : (line : ℕ) (items : List Item) → entry_of (said page.doc item) ≡ map line items → IsMapBehind texts page before line items now → IsFar texts page old all rest now
    far_map line items e m =
        let one : List Judgement = map_judged texts page.doc page.prefixes before.tables line items in
        let judged : rest_judged texts page before.tables (item ∷ rest) ≡ one ++ later before.tables =
        ap (λ x. entry_judged texts page.doc page.prefixes before.tables x later) e in
        record {
          breach = far.breach ∙ (ap (first_breach before.vocab) judged ∙ (first_breach-append before.vocab one (later before.tables)
              ∙ (ap (λ x. or_later x (first_breach (after before.vocab one) (later before.tables))) m.right.none
              ∙ (ap (λ l. first_breach l (later before.tables)) (sym m.right.then) ∙ ap (λ x. first_breach now.vocab (later x)) (sym m.tables)))));
          then = far.then ∙ (ap (after before.vocab) judged ∙ (after-append before.vocab one (later before.tables)
              ∙ (ap (λ l. after l (later before.tables)) (sym m.right.then) ∙ ap (λ x. after now.vocab (later x)) (sym m.tables))));
          says = λ lists tables maps b h.
              subst (λ x. RestSays lists texts page [] all tables x) (sym (append_assoc before.maps (m.one ∷ []) maps) ∙ ap (λ x. x ++ maps) (sym m.maps))
              (far.says lists tables (m.one ∷ maps) (begins_join before.vocab now.vocab lists b (right_begins before.vocab now.vocab one m.right))
              (subst (λ x. Says lists x tables (m.one ∷ maps)) (sym e)
              (map_grows lists now.vocab texts page.doc page.prefixes before.tables items m.one b m.is, subst (λ x. RestSays lists texts page x rest tables maps) m.tables h)));
        }

    -- one item more
    pub far_next : (entry : Entry) → entry_of (said page.doc item) ≡ entry → IsBehind texts page before entry now → IsFar texts page old all rest now
    far_next (table line items) e is = far_table line items e is
    far_next (map line items) e is = far_map line items e is
    far_next (other line) e is = absurd is

    -- the item is wrong
    pub far_wrong : (b : ShapeBreach) → BreaksBehind texts page before (entry_of (said page.doc item)) b → first_breach old (rest_judged texts page [] all) ≡ Some b
    far_wrong b is = far.breach ∙ is later

  -- all is read
  pub far_end : (now : Contents) → IsFar texts page old all [] now → IsInside texts page old all now
  far_end now far = record {
    right = record { none = far.breach; then = sym far.then };
    says = subst (λ x. RestSays now.vocab texts page [] all now.tables x) (append-nil now.maps) (far.says now.vocab now.tables [] (begins_same now.vocab) refl);
  }

-- a table is wrong, whatever comes later
pub table_breaks : (texts : Texts) (page : Page) (before : Contents) (line : ℕ) (items : List Item) (b : ShapeBreach)
    → table_in page.doc (table_names before.tables) line items ≡ Err b → BreaksBehind texts page before (table line items) b
table_breaks texts page before line items b e later = ap (λ r. first_breach before.vocab (table_judged before.tables r later)) e

-- a map is wrong, whatever comes later
pub map_breaks : (texts : Texts) (page : Page) (before : Contents) (line : ℕ) (items : List Item) (b : ShapeBreach)
    → first_breach before.vocab (map_judged texts page.doc page.prefixes before.tables line items) ≡ Some b → BreaksBehind texts page before (map line items) b
map_breaks texts page before line items b e later = breach_first before.vocab (map_judged texts page.doc page.prefixes before.tables line items) (later before.tables) b e
