-- What is wrong with a source query, step by step.
use Rattle.std.proofs.Common.{◌≡◌, refl, ap, sym, ◌∙◌, ℕ, ◌-◌, ◌<◌, ◌≤◌, ◌==◌, Bool, true, false, List, [], ◌∷◌, ◌++◌, length, drop, length-append, length-drop, arith}
use Rattle.std.specs.Prelude.{Option, Some, None, is_some, if◌then◌else◌}
use Rattle.std.specs.Option.{option_or, option_map}
use Rattle.std.proofs.lemmas.List.{length-take}
use Rattle.mast_terms.specs.Vocabularies.{stands}
use Rattle.mast_source.specs.Bom.{bom_length}
use Rattle.mast_source.specs.Bytes.{backslash}
use Rattle.mast_source.specs.Escapes.{unescaped_after, unescaped}
use Rattle.mast_source.specs.Slices.{between, inside}
use Rattle.mast_sql.specs.declared.query.FromEntry.{FromEntry}
use Rattle.mast_sql.specs.declared.query.SelectItem.{SelectItem}
use Rattle.mast_sql.specs.declared.token.SqlToken.{SqlToken}
use Rattle.mast_sql.specs.Source.{Lexes, AreTokens}
use Rattle.mast_sql.proofs.FrontLemmas.{word_some}
use Rattle.mast_tables.specs.declared.declaration.TableDecl.{TableDecl}
use Rattle.mast_tree.specs.declared.shape.ShapeKind.{ShapeKind}
use Rattle.mast_tree.specs.declared.shape.ShapeKind.TheVariants as shape
use Rattle.mast_tree.specs.declared.token.Token.{Token}
use Rattle.mast_tree.specs.declared.token.TokenKind.{TokenKind}
use Rattle.mast_tree.specs.declared.token.TokenKind.TheVariants.{Open, Close, Equals, Carets, Lang, Iri, Name, Str}
use Rattle.mast_tree.specs.Words.{text_bytes, text_at}
use Rattle.mast_mapping.specs.Columns.{Meaning, table_named, meaning_of}
use Rattle.mast_mapping.specs.OverTables.{table_names}
use Rattle.mast_mapping.specs.Queries.{double_breach, unless_there, from_breach, items_breach}
use Rattle.mast_mapping.specs.Readings.{Reading, Texts, AreTexts, Reads}
use Rattle.mast_mapping.specs.inside.Readers.{end_at}
use Rattle.mast_mapping.proofs.IndexLemmas.{stands_named}
use Rattle.mast_mapping.proofs.ReadingLemmas.{is_read_once}

-- ---- entries

unless_some : {A : Type 0} (k : ShapeKind) (o : Option A) (later : Option ShapeKind) → is_some o ≡ true → unless_there k o later ≡ later
unless_some k None later h = absurd (cc)
unless_some k (Some x) later h = refl

unless_none : {A : Type 0} (k : ShapeKind) (o : Option A) (later : Option ShapeKind) → is_some o ≡ false → unless_there k o later ≡ Some k
unless_none k None later h = refl
unless_none k (Some x) later h = absurd (cc)

double : (name : List ℕ) (before : List (List ℕ)) (later : Option ShapeKind) → stands name before ≡ true → option_or (double_breach name before) later ≡ Some shape.DoubleName
double name before later h = ap (λ b. option_or (if b then Some shape.DoubleName else None) later) h

single : (name : List ℕ) (before : List (List ℕ)) (later : Option ShapeKind) → stands name before ≡ false → option_or (double_breach name before) later ≡ later
single name before later h = ap (λ b. option_or (if b then Some shape.DoubleName else None) later) h

module _ (tables : List TableDecl) (before : List (List ℕ)) (e : FromEntry) (es : List FromEntry) where
  -- what is wrong with the later entries
  abbrev entries_later : Option ShapeKind
  entries_later = from_breach tables (before ++ e.alias ∷ []) es

  -- the table is not declared
  pub entry_unknown : stands e.table (table_names tables) ≡ false → from_breach tables before (e ∷ es) ≡ Some shape.UnknownTable
  entry_unknown h = unless_none shape.UnknownTable (table_named e.table tables) _ (sym (stands_named e.table tables) ∙ h)

  -- the alias stands before
  pub entry_double : stands e.table (table_names tables) ≡ true → stands e.alias before ≡ true → from_breach tables before (e ∷ es) ≡ Some shape.DoubleName
  entry_double h k = unless_some shape.UnknownTable (table_named e.table tables) _ (sym (stands_named e.table tables) ∙ h) ∙ double e.alias before entries_later k

  -- nothing is wrong with the entry
  pub entry_right : stands e.table (table_names tables) ≡ true → stands e.alias before ≡ false → from_breach tables before (e ∷ es) ≡ from_breach tables (before ++ e.alias ∷ []) es
  entry_right h k = unless_some shape.UnknownTable (table_named e.table tables) _ (sym (stands_named e.table tables) ∙ h) ∙ single e.alias before entries_later k

-- ---- items

some_kind : (o : Option Meaning) → is_some (option_map (λ (m : Meaning). m.kind) o) ≡ is_some o
some_kind None = refl
some_kind (Some m) = refl

-- nothing is wrong with an item
pub item_right : (tables : List TableDecl) (from : List FromEntry) (before : List (List ℕ)) (i : SelectItem) (is : List SelectItem)
    → is_some (option_map (λ (m : Meaning). m.kind) (meaning_of tables from i.alias i.column)) ≡ true → stands i.output before ≡ false
    → items_breach tables from before (i ∷ is) ≡ items_breach tables from (before ++ i.output ∷ []) is
item_right tables from before i is h k =
    unless_some shape.UnknownColumn (meaning_of tables from i.alias i.column) _ (sym (some_kind (meaning_of tables from i.alias i.column)) ∙ h)
    ∙ single i.output before (items_breach tables from (before ++ i.output ∷ []) is) k

-- ---- sizes

few : (at : ℕ) (bytes : List ℕ) (ts : List SqlToken) → Lexes at bytes ts → length ts ≤ length bytes
few at bytes [] l = omega arith
few at bytes (t ∷ ts) l =
    let more : length ts ≤ length l.2 = few t.to l.2 ts l.8 in
    let some : 0 < length l.1 = word_some t.kind l.1 l.5.form in
    let a = length-append l.0 (l.1 ++ l.2) in
    let b = length-append l.1 l.2 in
    let c : length bytes ≡ length (l.0 ++ (l.1 ++ l.2)) = ap length l.3 in
    omega (arith, more, some, a, b, c)

-- a text has no more tokens than bytes
pub few_tokens : (text : List ℕ) (ts : List SqlToken) → AreTokens text ts → length ts ≤ length text
few_tokens text ts are =
    let n = few (bom_length text) (drop (bom_length text) text) ts are in
    let d = length-drop (bom_length text) text in
    omega (arith, n, d)

shorter : (before : Bool) (bytes : List ℕ) → length (unescaped_after before bytes) ≤ length bytes
shorter before [] = omega arith
shorter true (b ∷ bs) = let n = shorter false bs in omega (arith, n)
shorter false (b ∷ bs) = by (b == backslash) (shorter true bs) (shorter false bs)
  where
    by : (c : Bool) → length (unescaped_after true bs) ≤ length bs → length (unescaped_after false bs) ≤ length bs
        → length (if c then unescaped_after true bs else b ∷ unescaped_after false bs) ≤ length (b ∷ bs)
    by true m n = omega (arith, m)
    by false m n = omega (arith, n)

string_short : (source : List ℕ) (from to : ℕ) → length (unescaped (inside (between source from to))) ≤ to - 1
string_short source from to =
    let a = shorter false (inside (between source from to)) in
    let b = length-take (length (between source from to) - 2) (drop 1 (between source from to)) in
    let c = length-take (to - from) (drop from source) in
    omega (arith, a, b, c)

kind_short : (kind : TokenKind) (source : List ℕ) (from to : ℕ) → length (text_bytes kind (between source from to)) ≤ to - 1
kind_short Str source from to = string_short source from to
kind_short Open source from to = omega arith
kind_short Close source from to = omega arith
kind_short Equals source from to = omega arith
kind_short Carets source from to = omega arith
kind_short Lang source from to = omega arith
kind_short Iri source from to = omega arith
kind_short Name source from to = omega arith

-- the text of a token is shorter than where the token ends
pub text_short : (source : List ℕ) (token : Option Token) → length (text_at source token) ≤ end_at token - 1
text_short source None = omega arith
text_short source (Some t) = kind_short t.kind source t.from t.to

-- ---- what texts read as

-- a text reads as it is told
pub reading_is : (texts : Texts) (text : List ℕ) (r : Reading) → AreTexts texts → Reads text r → texts.readings text ≡ r
reading_is texts text r are reads = (is_read_once text).one (texts.readings text) r (are.readings text) reads
