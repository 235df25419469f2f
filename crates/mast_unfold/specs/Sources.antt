-- The sources of an atom: which maps give which of the atoms below it.
use Rattle.std.specs.Prelude.{◌≡◌, ◌⊎◌, ◌<◌, ℕ, List, [], ◌∷◌, get_or, slice_get, Some}
use Rattle.std.specs.List.{AllByRecursion}
use Rattle.std.specs.Option.{option_map}
use Rattle.std.specs.declared.cmp.Ordering.TheVariants.{Less}
use Rattle.mast_terms.specs.declared.term.Term.{Term}
use Rattle.mast_terms.specs.declared.term.Term.TheVariants as term
use Rattle.mast_terms.specs.declared.value.Value.{Value}
use Rattle.mast_terms.specs.declared.value.Value.TheVariants as value
use Rattle.mast_terms.specs.Vocabularies.{Lists}
use Rattle.mast_cq.specs.declared.atom.Atom.{Atom}
use Rattle.mast_cq.specs.Meanings.{Fact, Match}
use Rattle.mast_cq.specs.Queries.{atom_order}
use Rattle.mast_sql.specs.declared.query.SourceQuery.{SourceQuery}
use Rattle.mast_tables.specs.declared.declaration.TableDecl.{TableDecl}
use Rattle.mast_tables.specs.Whole.{value_kind}
use Rattle.mast_mapping.specs.declared.map.Template.{Template}
use Rattle.mast_mapping.specs.declared.split_map.SplitMap.{SplitMap}
use Rattle.mast_mapping.specs.Columns.{Meaning, meaning_of_output}
use Rattle.mast_mapping.specs.OverTables.{IsHeadOver}
use Rattle.mast_tbox.specs.declared.axiom.Inclusion.{Inclusion}
use Rattle.mast_tbox.specs.Closure.{Down}
use Rattle.mast_unfold.specs.declared.source.Source.{Source}
use Rattle.mast_unfold.specs.HeadFacts.{OutputValues, fact_of_head, object_of_template}

-- what the sources of atoms go by: normal inclusions, a vocabulary, split maps and declared tables
pub record Unfolding : Type 0 where
  pub normal : List Inclusion
  pub vocab : Lists
  pub maps : List SplitMap
  pub tables : List TableDecl

-- the same, of its parts
abbrev pub unfolding_of : List Inclusion → Lists → List SplitMap → List TableDecl → Unfolding
unfolding_of normal vocab maps tables = record { normal = normal; vocab = vocab; maps = maps; tables = tables }

-- each slot of each head is a constant, or means a column
abbrev pub HeadsAreOver : List TableDecl → List SplitMap → Type 0
HeadsAreOver tables maps = AllByRecursion (λ m. IsHeadOver tables m.query m.head) maps

-- one value for each column of each entry of a source query
abbrev pub ColumnValues : Type 0
ColumnValues = Meaning → Value

-- each value has its column's kind
abbrev pub HaveKinds : ColumnValues → Type 0
HaveKinds values = (column : Meaning) → value_kind (values column) ≡ column.kind

-- the values of the outputs of a source query, where the columns have values
abbrev pub output_values : List TableDecl → SourceQuery → ColumnValues → OutputValues
output_values tables query values name = option_map values (meaning_of_output tables query name)

-- the term that a constant of a vocabulary stands for
abbrev pub constant_term : List Value → ℕ → Term
constant_term constants c = term.Value (get_or constants c (value.Text []))

-- the head of a map becomes the atom under some assignment, each `_` being a variable of its own, for some value of each column, of the column's
-- kind. The comparisons of the map take no part
pub record Becomes (tables : List TableDecl) (constants : List Value) (map : SplitMap) (atom : Atom) : Type 0 where
  pub values : ColumnValues
  pub kinds : HaveKinds values
  pub fact : Fact Term
  pub gives : fact_of_head (output_values tables map.query values) map.head ≡ Some fact
  pub under : ℕ → Term
  pub matches : Match (constant_term constants) under atom fact

-- a source of an atom: a member of Down of it, and the number of a map whose head becomes the member
pub record IsSource (u : Unfolding) (atom : Atom) (source : Source) : Type 0 where
  pub below : Down u.normal atom source.member
  pub map : SplitMap
  pub stands : slice_get u.maps source.map ≡ Some map
  pub becomes : Becomes u.tables u.vocab.constants map source.member

-- the one source comes before the other: by the order of their members, and then by the numbers of their maps
abbrev pub IsEarlier : Source → Source → Type 0
IsEarlier s t = (atom_order s.member t.member ≡ Less) ⊎ ((s.member ≡ t.member) × (s.map < t.map))

-- each source comes before all that stand after it: they are in order, each once
abbrev pub InOrder : List Source → Type 0
InOrder [] = Unit {0}
InOrder (s ∷ ss) = AllByRecursion (IsEarlier s) ss × InOrder ss

-- for some value of each column, of the column's kind, two templates have one object
pub record CanBeOne (tables : List TableDecl) (query : SourceQuery) (from to : Template) : Type 0 where
  pub values : ColumnValues
  pub kinds : HaveKinds values
  pub object : Term
  pub first : object_of_template (output_values tables query values) from ≡ Some object
  pub second : object_of_template (output_values tables query values) to ≡ Some object
