-- Numbers for the variables of a query, and how its conjunction is made of them.
use Rattle.std.specs.Prelude.{◌≡◌, ℕ, suc, ◌+◌, ◌<◌, List, [], ◌∷◌, ◌++◌, length, slice_get, Some}
use Rattle.std.specs.List.{AllByRecursion, AllZip}
use Rattle.mast_terms.specs.Vocabularies.{EachOnce}
use Rattle.mast_cq.specs.declared.atom.Arg.{Arg}
use Rattle.mast_cq.specs.declared.atom.Arg.TheVariants.{Blank, Var, Constant}
use Rattle.mast_cq.specs.declared.atom.Atom.{Atom}
use Rattle.mast_cq.specs.declared.query.Cq.{Cq}
use Rattle.mast_relations.specs.declared.query.Pattern.{Pattern}
use Rattle.mast_relations.specs.Matches.{relation_of}
use Rattle.mast_relations.specs.Stores.{contents}
use Rattle.mast_join.specs.declared.naming.Names.{Names}
use Rattle.mast_join.specs.Answers.{AreNumbersOf, Extended}
use Rattle.mast_join.specs.inside.Relates.{AreConstantPatterns, IsUnitPattern, TellsAtom, set_column}
use Rattle.mast_join.specs.inside.Shapes.{variables}

-- the most variables, atoms and places of an answer list that a query may have
abbrev pub most_names : ℕ
most_names = 1000000000

-- the places are those of the atom's variables
abbrev pub IsFrontOf : List ℕ → Atom → List ℕ → Type 0
IsFrontOf vars g front = AreNumbersOf vars front (variables g)

-- the place is that of the argument, where it is a variable
abbrev pub IsNamed : List ℕ → Arg → ℕ → Type 0
IsNamed vars Blank place = Unit {0}
IsNamed vars (Var x) place = slice_get vars place ≡ Some x
IsNamed vars (Constant c) place = Unit {0}

-- the variables of the query have these places
pub record AreNames (q : Cq) (names : Names) : Type 0 where
  pub vars : List ℕ
  pub once : EachOnce vars
  pub count : names.count ≡ length vars
  pub fronts : AllZip (IsFrontOf vars) q.atoms names.fronts.items
  pub answer : AllZip (IsNamed vars) q.answer names.answer.items

-- the pattern is of a relation that tells the atom's extension, and has these places and then the set
pub record IsMadePattern (e : Extended) (set : ℕ) (g : Atom) (front : List ℕ) (pattern : Pattern) : Type 0 where
  pub there : pattern.relation < length (contents e.relations)
  pub tells : TellsAtom e g (relation_of (contents e.relations) pattern)
  pub columns : pattern.variables ≡ front ++ set_column e.wanted set

-- the same of several, whose sets have the variables from this one on
abbrev pub AreMadePatterns : Extended → ℕ → List Atom → List (List ℕ) → List Pattern → Type 0
AreMadePatterns e set [] [] [] = Unit {0}
AreMadePatterns e set [] [] (pattern ∷ patterns) = ⊥
AreMadePatterns e set [] (front ∷ fronts) patterns = ⊥
AreMadePatterns e set (g ∷ gs) [] patterns = ⊥
AreMadePatterns e set (g ∷ gs) (front ∷ fronts) [] = ⊥
AreMadePatterns e set (g ∷ gs) (front ∷ fronts) (pattern ∷ patterns) = IsMadePattern e set g front pattern × AreMadePatterns e (suc set) gs fronts patterns

-- patterns of the constants of an answer list are put behind the others
pub record AddsConstants (e : Extended) (variable : ℕ) (args : List Arg) (old new : List Pattern) : Type 0 where
  pub made : List Pattern
  pub is : new ≡ old ++ made
  pub are : AreConstantPatterns e variable args made

-- patterns of the empty row are put behind the others
pub record AddsUnits (e : Extended) (old new : List Pattern) : Type 0 where
  pub made : List Pattern
  pub is : new ≡ old ++ made
  pub are : AllByRecursion (IsUnitPattern e) made

-- what stands for an argument of the answer list
abbrev pub place_of : Arg → ℕ → ℕ → ℕ
place_of Blank place variable = place
place_of (Var x) place variable = place
place_of (Constant c) place variable = variable

-- what stands for an answer list
abbrev pub places_of : ℕ → List Arg → List ℕ → List ℕ
places_of variable [] places = []
places_of variable (arg ∷ args) [] = []
places_of variable (arg ∷ args) (place ∷ places) = place_of arg place variable ∷ places_of (suc variable) args places

-- these are the patterns of the query's conjunction
pub record ArePatternsOf (e : Extended) (q : Cq) (names : Names) (patterns : List Pattern) : Type 0 where
  pub for_atoms : List Pattern
  pub for_constants : List Pattern
  pub others : List Pattern
  pub is : patterns ≡ for_atoms ++ for_constants ++ others
  pub some : 0 < length patterns
  pub atoms : AreMadePatterns e names.count q.atoms names.fronts.items for_atoms
  pub constants : AreConstantPatterns e (names.count + length q.atoms) q.answer for_constants
  pub units : AllByRecursion (IsUnitPattern e) others
