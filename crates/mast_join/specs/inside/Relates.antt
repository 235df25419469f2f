-- What the relation of an atom tells of its extension, and what the conjunction of a query is made of.
use Rattle.std.specs.Prelude.{◌≡◌, ℕ, zero, suc, ◌+◌, ◌<◌, List, [], ◌∷◌, ◌++◌, length, map, slice_get, Some}
use Rattle.std.specs.List.{AllByRecursion}
use Rattle.mast_terms.specs.Vocabularies.{EachOnce}
use Rattle.mast_terms.specs.declared.term.Term.{Term}
use Rattle.mast_cq.specs.declared.atom.Arg.{Arg}
use Rattle.mast_cq.specs.declared.atom.Arg.TheVariants.{Blank, Var, Constant}
use Rattle.mast_cq.specs.declared.atom.Atom.{Atom}
use Rattle.mast_cq.specs.declared.query.Cq.{Cq}
use Rattle.mast_canon.specs.declared.rows.RowId.{RowId}
use Rattle.mast_relations.specs.declared.query.Pattern.{Pattern}
use Rattle.mast_relations.specs.declared.query.Conjunction.{Conjunction}
use Rattle.mast_relations.specs.Matches.{In, Rows, relation_of}
use Rattle.mast_relations.specs.Stores.{contents}
use Rattle.mast_join.specs.declared.extensions.Wanted.{Wanted}
use Rattle.mast_join.specs.declared.extensions.Wanted.TheVariants.{Tuples, SomeHits, AllHits}
use Rattle.mast_join.specs.Answers.{AreNumbersOf, AreWithin, Extended}
use Rattle.mast_join.specs.Extensions.{IsMatchOf, IsPairOf, constant_over}
use Rattle.mast_join.specs.inside.Shapes.{variables}

-- how many columns of an extension have numbers of sets
abbrev pub set_columns : Wanted → ℕ
set_columns Tuples = 0
set_columns SomeHits = 1
set_columns AllHits = 1

-- what stands in these columns
abbrev pub set_column : Wanted → ℕ → List ℕ
set_column Tuples number = []
set_column SomeHits number = number ∷ []
set_column AllHits number = number ∷ []

-- the row has the numbers of a match of the atom
pub record IsMatchRow (e : Extended) (g : Atom) (row : List ℕ) : Type 0 where
  pub under : ℕ → Term
  pub numbers : AreNumbersOf e.numbered.terms row (map under (variables g))
  pub is : IsMatchOf e.over under g

-- some row with P has the numbers of the assignment
pub record IsMatchFound (e : Extended) (g : Atom) (under : ℕ → Term) (P : List ℕ → Type 0) : Type 0 where
  pub row : List ℕ
  pub numbers : AreNumbersOf e.numbered.terms row (map under (variables g))
  pub found : P row

-- the row has the numbers of a pair of the atom's extension
pub record IsPairRow (e : Extended) (g : Atom) (row : List ℕ) : Type 0 where
  pub front : List ℕ
  pub set : ℕ
  pub made : row ≡ front ++ set ∷ []
  pub under : ℕ → Term
  pub numbers : AreNumbersOf e.numbered.terms front (map under (variables g))
  pub rows : List RowId
  pub stands : slice_get e.sets set ≡ Some rows
  pub is : IsPairOf e.over under g rows

-- some row with P has the numbers of the assignment and of a set with Q
pub record IsPairFound (e : Extended) (g : Atom) (under : ℕ → Term) (P : List ℕ → Type 0) (Q : List RowId → Type 0) : Type 0 where
  pub front : List ℕ
  pub set : ℕ
  pub numbers : AreNumbersOf e.numbered.terms front (map under (variables g))
  pub rows : List RowId
  pub stands : slice_get e.sets set ≡ Some rows
  pub found : P (front ++ set ∷ [])
  pub has : Q rows

-- the rows with P are exactly the matches of the atom
pub record TellsMatches (e : Extended) (g : Atom) (P : List ℕ → Type 0) : Type 0 where
  pub right : (row : List ℕ) → P row → IsMatchRow e g row
  pub all : (under : ℕ → Term) → IsMatchOf e.over under g → IsMatchFound e g under P

-- the rows with P are pairs of the atom's extension, and each match is that of one
pub record TellsSomePairs (e : Extended) (g : Atom) (P : List ℕ → Type 0) : Type 0 where
  pub right : (row : List ℕ) → P row → IsPairRow e g row
  pub all : (under : ℕ → Term) → IsMatchOf e.over under g → IsPairFound e g under P (λ rows. Unit {0})

-- the rows with P are pairs of the atom's extension, and each pair has one of its match whose rows are among its own
pub record TellsAllPairs (e : Extended) (g : Atom) (P : List ℕ → Type 0) : Type 0 where
  pub right : (row : List ℕ) → P row → IsPairRow e g row
  pub all : (under : ℕ → Term) (rows : List RowId) → IsPairOf e.over under g rows → IsPairFound e g under P (λ least. AreWithin least rows)

-- the rows with P tell what is wanted of the atom's extension
abbrev pub TellsPairs : Wanted → Extended → Atom → (List ℕ → Type 0) → Type 0
TellsPairs Tuples = TellsMatches
TellsPairs SomeHits = TellsSomePairs
TellsPairs AllHits = TellsAllPairs

-- the relation tells what is wanted of the atom's extension: a column for each variable, in order, and then one for the set
pub record TellsAtom (e : Extended) (g : Atom) (relation : Rows) : Type 0 where
  pub wide : relation.width ≡ length (variables g) + set_columns e.wanted
  pub tells : TellsPairs e.wanted e g (λ row. In row relation.list)

-- the relation of one row
abbrev pub one_row : List ℕ → Rows
one_row row = record { width = length row; list = row ∷ [] }

-- so many numbers, each next to the one before it
abbrev pub counted : ℕ → ℕ → List ℕ
counted from zero = []
counted from (suc count) = from ∷ counted (suc from) count

-- what the answer list has behind the tuple
abbrev pub counted_sets : Wanted → ℕ → ℕ → List ℕ
counted_sets Tuples from count = []
counted_sets SomeHits from count = counted from count
counted_sets AllHits from count = counted from count

-- the pattern of an atom: its relation tells the atom's extension, each column has the place of its variable, and that of the set has a variable of its own
pub record IsAtomPattern (e : Extended) (vars : List ℕ) (set : ℕ) (g : Atom) (pattern : Pattern) : Type 0 where
  pub there : pattern.relation < length (contents e.relations)
  pub tells : TellsAtom e g (relation_of (contents e.relations) pattern)
  pub front : List ℕ
  pub columns : pattern.variables ≡ front ++ set_column e.wanted set
  pub places : AreNumbersOf vars front (variables g)

-- patterns of atoms, whose sets have the variables from this one on
abbrev pub AreAtomPatterns : Extended → List ℕ → ℕ → List Atom → List Pattern → Type 0
AreAtomPatterns e vars set [] [] = Unit {0}
AreAtomPatterns e vars set [] (pattern ∷ patterns) = ⊥
AreAtomPatterns e vars set (g ∷ gs) [] = ⊥
AreAtomPatterns e vars set (g ∷ gs) (pattern ∷ patterns) = IsAtomPattern e vars set g pattern × AreAtomPatterns e vars (suc set) gs patterns

-- the pattern of a constant binds this variable to the constant's number
pub record IsConstantPattern (e : Extended) (variable constant : ℕ) (pattern : Pattern) : Type 0 where
  pub there : pattern.relation < length (contents e.relations)
  pub number : ℕ
  pub stands : slice_get e.numbered.terms number ≡ Some (constant_over e.over constant)
  pub is : relation_of (contents e.relations) pattern ≡ one_row (number ∷ [])
  pub columns : pattern.variables ≡ variable ∷ []

-- patterns of the constants of an answer list, whose places have the variables from this one on
abbrev pub AreConstantPatterns : Extended → ℕ → List Arg → List Pattern → Type 0
AreConstantPatterns e variable [] [] = Unit {0}
AreConstantPatterns e variable [] (pattern ∷ patterns) = ⊥
AreConstantPatterns e variable (Blank ∷ args) patterns = AreConstantPatterns e (suc variable) args patterns
AreConstantPatterns e variable (Var x ∷ args) patterns = AreConstantPatterns e (suc variable) args patterns
AreConstantPatterns e variable (Constant c ∷ args) [] = ⊥
AreConstantPatterns e variable (Constant c ∷ args) (pattern ∷ patterns) =
    IsConstantPattern e variable c pattern × AreConstantPatterns e (suc variable) args patterns

-- the pattern of the relation with the empty row
pub record IsUnitPattern (e : Extended) (pattern : Pattern) : Type 0 where
  pub there : pattern.relation < length (contents e.relations)
  pub is : relation_of (contents e.relations) pattern ≡ one_row []
  pub columns : pattern.variables ≡ []

-- what stands for an argument of the answer list: the place of the variable, or the variable of a constant's place
abbrev pub IsAnswerPlace : List ℕ → ℕ → Arg → ℕ → Type 0
IsAnswerPlace vars variable Blank place = ⊥
IsAnswerPlace vars variable (Var x) place = slice_get vars place ≡ Some x
IsAnswerPlace vars variable (Constant c) place = place ≡ variable

-- what stands for an answer list
abbrev pub AreAnswerPlaces : List ℕ → ℕ → List Arg → List ℕ → Type 0
AreAnswerPlaces vars variable [] [] = Unit {0}
AreAnswerPlaces vars variable [] (place ∷ places) = ⊥
AreAnswerPlaces vars variable (arg ∷ args) [] = ⊥
AreAnswerPlaces vars variable (arg ∷ args) (place ∷ places) =
    IsAnswerPlace vars variable arg place × AreAnswerPlaces vars (suc variable) args places

-- the conjunction of a query. Its variables are the places of the query's variables, then one for the set of each atom, then one for each place of the answer list
pub record IsConjunctionOf (e : Extended) (q : Cq) (conjunction : Conjunction) : Type 0 where
  pub vars : List ℕ
  pub once : EachOnce vars
  pub for_atoms : List Pattern
  pub for_constants : List Pattern
  pub others : List Pattern
  pub patterns : conjunction.patterns ≡ for_atoms ++ for_constants ++ others
  pub some : 0 < length conjunction.patterns
  pub atoms : AreAtomPatterns e vars (length vars) q.atoms for_atoms
  pub constants : AreConstantPatterns e (length vars + length q.atoms) q.answer for_constants
  pub units : AllByRecursion (IsUnitPattern e) others
  pub places : List ℕ
  pub answer : conjunction.answer ≡ places ++ counted_sets e.wanted (length vars) (length q.atoms)
  pub are : AreAnswerPlaces vars (length vars + length q.atoms) q.answer places
