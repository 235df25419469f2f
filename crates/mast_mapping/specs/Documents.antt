-- Mapping documents: what is judged of one, and the tables and the maps that it says.
use Rattle.std.specs.Prelude.{◌≡◌, ◌⊎◌, ℕ, if◌then◌else◌, List, [], ◌∷◌, ◌++◌, Result, Ok, Err, codes}
use Rattle.std.specs.Str.{bytes_eq}
use Rattle.mast_terms.specs.Answers.{Answers}
use Rattle.mast_terms.specs.declared.memory.Stop.{Stop}
use Rattle.mast_terms.specs.Vocabularies.{Lists, IsVocabulary}
use Rattle.mast_tables.specs.declared.declaration.TableDecl.{TableDecl}
use Rattle.mast_tree.specs.Seen.{Document}
use Rattle.mast_tree.specs.declared.item.Item.{Item}
use Rattle.mast_tree.specs.declared.shape.ShapeBreach.{ShapeBreach}
use Rattle.mast_tree.specs.declared.shape.ShapeKind.TheVariants as shape
use Rattle.mast_tree.specs.Judged.{Judging, IsRight, IsFirstBreach}
use Rattle.mast_tree.specs.Judgements.{Judgement, breaks}
use Rattle.mast_tree.specs.MainNode.{Prefixes}
use Rattle.mast_tree.specs.Said.{Said, node, line, said}
use Rattle.mast_mapping.specs.declared.map.Map.{Map}
use Rattle.mast_mapping.specs.declared.map.Mappings.{Mappings}
use Rattle.mast_mapping.specs.Declarations.{table_in}
use Rattle.mast_mapping.specs.Maps.{map_judged, IsMap}
use Rattle.mast_mapping.specs.OverTables.{table_names}
use Rattle.mast_mapping.specs.Readings.{Texts, AreTexts}

-- an item of the main node: a table's or a map's node at a line with its items, or something else at a line
pub data Entry : Type 0 where
  table : ℕ → List Item → Entry
  map : ℕ → List Item → Entry
  other : ℕ → Entry

-- what an item of the main node is
abbrev pub entry_of : Said → Entry
entry_of (node word at items) =
    if bytes_eq word (codes "Table") then table at items else if bytes_eq word (codes "Map") then map at items else other at
entry_of s = other (line s)

-- what is judged of a table, and with it of what comes later
abbrev pub table_judged : List TableDecl → Result TableDecl ShapeBreach → (List TableDecl → List Judgement) → List Judgement
table_judged before (Err breach) later = breaks breach.kind breach.line ∷ []
table_judged before (Ok one) later = later (before ++ one ∷ [])

-- what is judged of an item behind these tables, and of what comes later
abbrev pub entry_judged : Texts → Document → Prefixes → List TableDecl → Entry → (List TableDecl → List Judgement) → List Judgement
entry_judged texts doc prefixes before (table at items) later = table_judged before (table_in doc (table_names before) at items) later
entry_judged texts doc prefixes before (map at items) later = map_judged texts doc prefixes before at items ++ later before
entry_judged texts doc prefixes before (other at) later = breaks shape.Shape at ∷ []

-- what is judged of items behind these tables
abbrev pub items_judged : Texts → Document → Prefixes → List TableDecl → List Item → List Judgement
items_judged texts doc prefixes before [] = []
items_judged texts doc prefixes before (item ∷ items) =
    entry_judged texts doc prefixes before (entry_of (said doc item)) (λ tables. items_judged texts doc prefixes tables items)

-- what an item and those after it say: later tables and maps are told by `Later`
abbrev pub EntrySays :
    Lists → Texts → Document → Prefixes → List TableDecl → Entry → List Map → (List TableDecl → List Map → Type 0) → Type 0
EntrySays lists texts doc prefixes before (table at items) maps Later =
    (one : TableDecl) × (table_in doc (table_names before) at items ≡ Ok one) × Later (before ++ one ∷ []) maps
EntrySays lists texts doc prefixes before (map at items) [] Later = ⊥
EntrySays lists texts doc prefixes before (map at items) (m ∷ maps) Later =
    IsMap lists texts doc prefixes before items m × Later before maps
EntrySays lists texts doc prefixes before (other at) maps Later = ⊥

-- items behind tables say these tables in all, and these maps
abbrev pub ItemsSay : Lists → Texts → Document → Prefixes → List TableDecl → List Item → List TableDecl → List Map → Type 0
ItemsSay lists texts doc prefixes before [] tables [] = tables ≡ before
ItemsSay lists texts doc prefixes before [] tables (m ∷ maps) = ⊥
ItemsSay lists texts doc prefixes before (item ∷ items) tables maps =
    EntrySays lists texts doc prefixes before (entry_of (said doc item)) maps
    (λ more rest. ItemsSay lists texts doc prefixes more items tables rest)

-- what is judged inside the main node
abbrev pub inside_judged : Texts → Document → Judging
inside_judged texts doc prefixes items = items_judged texts doc prefixes [] items

-- the word of the main node
abbrev pub main_word : List ℕ
main_word = codes "Mappings"

-- by what its texts are, nothing is wrong with a document that is read over a vocabulary, and it says these mappings
abbrev pub SaysMappings : Texts → Document → Lists → Mappings → Type 0
SaysMappings texts doc old m =
    IsRight doc main_word (inside_judged texts doc) old m.vocab (λ prefixes items. ItemsSay m.vocab texts doc prefixes [] items m.tables m.maps)

-- by what its texts are, a document that is read over a vocabulary has this first breach
abbrev pub BreaksFirst : Texts → Document → Lists → ShapeBreach → Type 0
BreaksFirst texts doc old breach = IsFirstBreach doc main_word (inside_judged texts doc) old breach

-- by what its texts are, the answer is the mappings of a document, or its first breach
abbrev pub AnswersMappings : Texts → Document → Lists → Result Mappings (Stop ShapeBreach) → Type 0
AnswersMappings texts doc old answer = Answers answer (SaysMappings texts doc old) (BreaksFirst texts doc old)

-- a document that is read over a vocabulary has these mappings
abbrev pub HasMappings : Document → Lists → Mappings → Type 0
HasMappings doc old mappings = (texts : Texts) × AreTexts texts × SaysMappings texts doc old mappings

-- a document that is read over a vocabulary has this first breach
abbrev pub IsMappingsBreach : Document → Lists → ShapeBreach → Type 0
IsMappingsBreach doc old breach = (texts : Texts) × AreTexts texts × BreaksFirst texts doc old breach

-- a document that is read over a vocabulary has mappings or a first breach, not both, and one only
pub record HasOneMeaning (doc : Document) (old : Lists) : Type 0 where
  pub either : ((mappings : Mappings) × HasMappings doc old mappings) ⊎ ((breach : ShapeBreach) × IsMappingsBreach doc old breach)
  pub not_both : (mappings : Mappings) (breach : ShapeBreach) → HasMappings doc old mappings → IsMappingsBreach doc old breach → ⊥
  pub one_meaning : (a b : Mappings) → HasMappings doc old a → HasMappings doc old b → a ≡ b
  pub one_breach : (a b : ShapeBreach) → IsMappingsBreach doc old a → IsMappingsBreach doc old b → a ≡ b

-- so has each document over each vocabulary
abbrev pub MappingsLaw : Type 0
MappingsLaw = (doc : Document) (old : Lists) → IsVocabulary old → HasOneMeaning doc old
