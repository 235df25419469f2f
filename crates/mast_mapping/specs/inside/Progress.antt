-- How far a mapping document is read.
use Rattle.std.specs.Prelude.{◌≡◌, ℕ, List, [], ◌∷◌, ◌++◌, Some, Result, Ok}
use Rattle.mast_terms.specs.Answers.{Answers}
use Rattle.mast_terms.specs.declared.memory.Stop.{Stop}
use Rattle.mast_terms.specs.Vocabularies.{Lists}
use Rattle.mast_tables.specs.declared.declaration.TableDecl.{TableDecl}
use Rattle.mast_tree.specs.declared.item.Item.{Item}
use Rattle.mast_tree.specs.declared.shape.ShapeBreach.{ShapeBreach}
use Rattle.mast_tree.specs.Growing.{Begins}
use Rattle.mast_tree.specs.Judgements.{Judgement, Judges, AreRight, first_breach, after}
use Rattle.mast_tree.specs.Pages.{Page, page_of}
use Rattle.mast_tree.specs.Said.{said}
use Rattle.mast_mapping.specs.declared.doc_reader.DocReader.{DocReader}
use Rattle.mast_mapping.specs.declared.map.Map.{Map}
use Rattle.mast_mapping.specs.declared.reader.Contents.{Contents}
use Rattle.mast_mapping.specs.Declarations.{table_in}
use Rattle.mast_mapping.specs.Documents.{Entry, table, map, other, entry_of, entry_judged, items_judged, ItemsSay}
use Rattle.mast_mapping.specs.Maps.{map_judged, IsMap}
use Rattle.mast_mapping.specs.OverTables.{table_names}
use Rattle.mast_mapping.specs.Readings.{Texts}
use Rattle.mast_mapping.specs.inside.Readers.{doc_of}

-- the page of a reader
abbrev pub page : DocReader → Page
page reader = page_of (doc_of reader) reader.prefixes.now

-- the items of a map were read
abbrev pub ReadsMap : Texts → Page → List TableDecl → ℕ → List Item → Lists → Lists → Result Map (Stop ShapeBreach) → Type 0
ReadsMap texts page tables line items old new result =
    Judges old (map_judged texts page.doc page.prefixes tables line items) new (IsMap new texts page.doc page.prefixes tables items) result

-- a table was read, and nothing else is new
pub record IsTableBehind (page : Page) (before : Contents) (line : ℕ) (items : List Item) (now : Contents) : Type 0 where
  pub one : TableDecl
  pub declared : table_in page.doc (table_names before.tables) line items ≡ Ok one
  pub tables : now.tables ≡ before.tables ++ one ∷ []
  pub maps : now.maps ≡ before.maps
  pub vocab : now.vocab ≡ before.vocab

-- a map was read, and its names may be new
pub record IsMapBehind (texts : Texts) (page : Page) (before : Contents) (line : ℕ) (items : List Item) (now : Contents) : Type 0 where
  pub one : Map
  pub right : AreRight before.vocab (map_judged texts page.doc page.prefixes before.tables line items) now.vocab
  pub is : IsMap now.vocab texts page.doc page.prefixes before.tables items one
  pub maps : now.maps ≡ before.maps ++ one ∷ []
  pub tables : now.tables ≡ before.tables

-- an item was read behind others
abbrev pub IsBehind : Texts → Page → Contents → Entry → Contents → Type 0
IsBehind texts page before (table line items) now = IsTableBehind page before line items now
IsBehind texts page before (map line items) now = IsMapBehind texts page before line items now
IsBehind texts page before (other line) now = ⊥

-- an item has the first breach, whatever comes later
abbrev pub BreaksBehind : Texts → Page → Contents → Entry → ShapeBreach → Type 0
BreaksBehind texts page before entry breach =
    (later : List TableDecl → List Judgement)
    → first_breach before.vocab (entry_judged texts page.doc page.prefixes before.tables entry later) ≡ Some breach

-- an item was read behind others, or has the first breach
abbrev pub ReadsEntry : Texts → Page → Contents → Entry → Result Contents (Stop ShapeBreach) → Type 0
ReadsEntry texts page before entry result = Answers result (IsBehind texts page before entry) (BreaksBehind texts page before entry)

-- the same of what an item of the document is
abbrev pub ReadsItem : Texts → Page → Contents → Item → Result Contents (Stop ShapeBreach) → Type 0
ReadsItem texts page before item result = ReadsEntry texts page before (entry_of (said page.doc item)) result

-- what is judged of items behind others
abbrev pub rest_judged : Texts → Page → List TableDecl → List Item → List Judgement
rest_judged texts page tables items = items_judged texts page.doc page.prefixes tables items

-- what items behind others say
abbrev pub RestSays : Lists → Texts → Page → List TableDecl → List Item → List TableDecl → List Map → Type 0
RestSays lists texts page before items tables maps = ItemsSay lists texts page.doc page.prefixes before items tables maps

-- of all items these are left: what is wrong with all is wrong with these, and all say what was read and what these say
pub record IsFar (texts : Texts) (page : Page) (old : Lists) (all rest : List Item) (now : Contents) : Type 0 where
  pub breach : first_breach old (rest_judged texts page [] all) ≡ first_breach now.vocab (rest_judged texts page now.tables rest)
  pub then : after old (rest_judged texts page [] all) ≡ after now.vocab (rest_judged texts page now.tables rest)
  pub says :
      (lists : Lists) (tables : List TableDecl) (maps : List Map) → Begins lists now.vocab
      → RestSays lists texts page now.tables rest tables maps → RestSays lists texts page [] all tables (now.maps ++ maps)

-- all items were read: nothing is wrong with them and they say this
pub record IsInside (texts : Texts) (page : Page) (old : Lists) (items : List Item) (now : Contents) : Type 0 where
  pub right : AreRight old (rest_judged texts page [] items) now.vocab
  pub says : RestSays now.vocab texts page [] items now.tables now.maps

-- the items of the main node were read, or have a first breach
abbrev pub ReadsInside : Texts → Page → Lists → List Item → Result Contents (Stop ShapeBreach) → Type 0
ReadsInside texts page old items result =
    Answers result (IsInside texts page old items) (λ breach. first_breach old (rest_judged texts page [] items) ≡ Some breach)
