-- What the parts of roles and left sides are read to.
use Rattle.std.specs.Prelude.{ℕ, List, Result}
use Rattle.mast_terms.specs.declared.memory.Stop.{Stop}
use Rattle.mast_terms.specs.declared.name.Name.{Name}
use Rattle.mast_terms.specs.Vocabularies.{Lists}
use Rattle.mast_tbox.specs.declared.expression.RoleExpr.{RoleExpr}
use Rattle.mast_tree.specs.declared.item.Item.{Item}
use Rattle.mast_tree.specs.declared.shape.ShapeBreach.{ShapeBreach}
use Rattle.mast_tree.specs.Judgements.{Judges}
use Rattle.mast_tree.specs.Said.{line}
use Rattle.mast_expressions.specs.Given.{IsClassIn, IsAttr, IsRole, IsInverseOf, IsSomeOf, IsSubjectsOf}
use Rattle.mast_expressions.specs.Judged.{inverse_judged, some_parts, some_judged, subjects_parts, subjects_judged, left_iri}
use Rattle.mast_tree.specs.Pages.{Page, says, names, Expands}
use Rattle.mast_expressions.specs.Iris.{owl_thing, rdfs_literal}

-- what stands in `ObjectInverseOf(..)` was read
abbrev pub ReadsInverse : Page → ℕ → List Item → Lists → Lists → Result Name (Stop ShapeBreach) → Type 0
ReadsInverse page at items old new result = Judges old (inverse_judged page at items) new (IsInverseOf new page items) result

-- what stands in `ObjectSomeValuesFrom(..)` on a left side was read
abbrev pub ReadsSome : Page → ℕ → List Item → Lists → Lists → Result RoleExpr (Stop ShapeBreach) → Type 0
ReadsSome page at items old new result = Judges old (some_judged page at items) new (IsSomeOf new page items) result

-- a role and owl:Thing were read
abbrev pub ReadsSomeOf : Page → Item → Item → Lists → Lists → Result RoleExpr (Stop ShapeBreach) → Type 0
ReadsSomeOf page role filler old new result =
    Judges old (some_parts page role filler) new (λ r. IsRole new page role r × Expands page filler owl_thing) result

-- an attribute and rdfs:Literal were read
abbrev pub ReadsSubjectsOf : Page → Item → Item → Lists → Lists → Result Name (Stop ShapeBreach) → Type 0
ReadsSubjectsOf page attr filler old new result =
    Judges old (subjects_parts page attr filler) new (λ u. IsAttr new page attr u × Expands page filler rdfs_literal) result

-- what stands in `DataSomeValuesFrom(..)` was read
abbrev pub ReadsSubjects : Page → ℕ → List Item → Lists → Lists → Result Name (Stop ShapeBreach) → Type 0
ReadsSubjects page at items old new result = Judges old (subjects_judged page at items) new (IsSubjectsOf new page items) result

-- an IRI on a left side was read
abbrev pub ReadsLeftClass : Page → Item → Lists → Lists → Result Name (Stop ShapeBreach) → Type 0
ReadsLeftClass page item old new result =
    Judges old (left_iri (names page item) (line (says page item))) new (IsClassIn new page item) result
