-- A document of constraints: what it has, or its first breach.
use Rattle.std.specs.Prelude.{◌≡◌, ◌⊎◌, List, Result, codes}
use Rattle.mast_terms.specs.declared.memory.Stop.{Stop}
use Rattle.mast_terms.specs.Answers.{Answers}
use Rattle.mast_terms.specs.Vocabularies.{Lists}
use Rattle.mast_tbox.specs.declared.axiom.Lined.{Lined}
use Rattle.mast_tbox.specs.declared.constraint.Constraint.{Constraint}
use Rattle.mast_tbox.specs.declared.constraint.Constraints.{Constraints}
use Rattle.mast_tree.specs.declared.shape.ShapeBreach.{ShapeBreach}
use Rattle.mast_tree.specs.Constants.{AreDates}
use Rattle.mast_tree.specs.Judged.{Judging, IsRight, IsFirstBreach}
use Rattle.mast_tree.specs.Seen.{Document}
use Rattle.mast_tree.specs.Pages.{page_of}
use Rattle.mast_constr.specs.Denials.{Dates}
use Rattle.mast_constr.specs.Items.{constraints_judged, AreConstraints}

-- what is judged inside the main node of the document
abbrev pub judging : Dates → Document → Judging
judging dates doc = λ prefixes inside. constraints_judged dates (page_of doc prefixes) inside

-- by the dates of texts, the document has these constraints, with these names and constants, by the names and constants that were there before
abbrev pub HasList : Dates → Document → Lists → Lists → List (Lined Constraint) → Type 0
HasList dates doc old new list =
    IsRight doc (codes "Constraints") (judging dates doc) old new (λ prefixes inside. AreConstraints dates new (page_of doc prefixes) inside list)

-- by these, this is the first breach of the document
abbrev pub BreaksFirst : Dates → Document → Lists → ShapeBreach → Type 0
BreaksFirst dates doc old breach = IsFirstBreach doc (codes "Constraints") (judging dates doc) old breach

-- the document has these constraints, over the names and constants that were there before
abbrev pub HasConstraints : Document → Lists → Constraints → Type 0
HasConstraints doc old constraints = (dates : Dates) × AreDates dates × HasList dates doc old constraints.vocab constraints.list

-- the first breach of the document
abbrev pub IsConstraintsBreach : Document → Lists → ShapeBreach → Type 0
IsConstraintsBreach doc old breach = (dates : Dates) × AreDates dates × BreaksFirst dates doc old breach

-- the document was read
abbrev pub ReadsConstraints : Document → Lists → Result Constraints (Stop ShapeBreach) → Type 0
ReadsConstraints doc old result = Answers result (HasConstraints doc old) (IsConstraintsBreach doc old)

-- a document has constraints or a first breach, not both, and only one of it
pub record ConstraintsLaw (doc : Document) (old : Lists) : Type 0 where
  pub either : ((constraints : Constraints) × HasConstraints doc old constraints) ⊎ ((breach : ShapeBreach) × IsConstraintsBreach doc old breach)
  pub not_both : (constraints : Constraints) (breach : ShapeBreach) → HasConstraints doc old constraints → IsConstraintsBreach doc old breach → ⊥
  pub one : (a b : Constraints) → HasConstraints doc old a → HasConstraints doc old b → a ≡ b
  pub one_breach : (a b : ShapeBreach) → IsConstraintsBreach doc old a → IsConstraintsBreach doc old b → a ≡ b
