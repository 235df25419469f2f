-- The violation list: a query for each way to break axioms and constraints, with its origin and its test.
use Rattle.std.specs.Prelude.{◌≡◌, ℕ, ◌<◌, ◌≤◌, Result, length, List, [], ◌∷◌, ◌++◌, map, Bool, true, false, if◌then◌else◌}
use Rattle.mast_terms.specs.Answers.{Answers}
use Rattle.mast_terms.specs.declared.memory.Stop.{Stop}
use Rattle.mast_terms.specs.declared.name.Name.{Name}
use Rattle.mast_terms.specs.declared.value.Kind.{Kind}
use Rattle.mast_terms.specs.declared.value.Kind.TheVariants.{Text, Integer, Date}
use Rattle.mast_tree.specs.declared.document.DocName.{DocName}
use Rattle.mast_tree.specs.declared.document.DocName.TheVariants as doc
use Rattle.mast_cq.specs.declared.atom.Arg.{Arg}
use Rattle.mast_cq.specs.declared.atom.Arg.TheVariants.{Var}
use Rattle.mast_cq.specs.declared.atom.Atom.{Atom}
use Rattle.mast_tbox.specs.declared.axiom.Inclusion.{Inclusion}
use Rattle.mast_tbox.specs.declared.axiom.Inclusion.TheVariants.{Class as IClass, Exists, HasValue, Role as IRole, Attr as IAttr, Range}
use Rattle.mast_tbox.specs.declared.axiom.Lined.{Lined}
use Rattle.mast_tbox.specs.declared.axiom.Negative.{Negative}
use Rattle.mast_tbox.specs.declared.constraint.Constraint.{Constraint}
use Rattle.mast_tbox.specs.declared.constraint.Constraint.TheVariants.{Functional, Identify, Deny}
use Rattle.mast_tbox.specs.declared.expression.Prop.{Prop}
use Rattle.mast_tbox.specs.declared.tbox.TBox.{TBox}
use Rattle.mast_canon.specs.declared.origin.Ground.TheVariants as grounds
use Rattle.mast_canon.specs.declared.origin.Origin.{Origin}
use Rattle.mast_canon.specs.NoModels.{negative_ground, origin_of}
use Rattle.mast_violate.specs.declared.violation.Test.{Test}
use Rattle.mast_violate.specs.declared.violation.Test.TheVariants.{Plain, Differ, KindNot}
use Rattle.mast_violate.specs.declared.violation.TheConstants.{MOST_VIOLATIONS}
use Rattle.mast_violate.specs.declared.violation.TooManyViolations.{TooManyViolations}
use Rattle.mast_violate.specs.declared.violation.Violation.{Violation}
use Rattle.mast_violate.specs.Patterns.{negative_pattern, value_pattern, shared_value, two_fillers, and_fillers, identified_pattern}

-- a violation of these parts
abbrev pub violation : (where_from : Origin) (answer : List Arg) (atoms : List Atom) (passing : Test) → Violation
violation where_from answer atoms passing = record {
  origin = where_from;
  query = record { answer = answer; atoms = atoms };
  test = passing;
}

-- of a negative
abbrev pub of_negative : Lined Negative → Violation
of_negative l = violation (origin_of (negative_ground l.item) doc.Ontology l.line) [] (negative_pattern l.item) Plain

-- whether two kinds are one
abbrev pub same_kind : Kind → Kind → Bool
same_kind Text Text = true
same_kind Text Integer = false
same_kind Text Date = false
same_kind Integer Text = false
same_kind Integer Integer = true
same_kind Integer Date = false
same_kind Date Text = false
same_kind Date Integer = false
same_kind Date Date = true

-- the attribute of a range of another kind
abbrev pub clash : Kind → Inclusion → List Name
clash kind (IClass b a) = []
clash kind (Exists b r end k) = []
clash kind (HasValue b u k) = []
clash kind (IRole r s) = []
clash kind (IAttr u v) = []
clash kind (Range u its) = if same_kind kind its then [] else u ∷ []

-- the attributes of the ranges of another kind, in order
abbrev pub clashes : Kind → List Inclusion → List Name
clashes kind [] = []
clashes kind (i ∷ is) = clash kind i ++ clashes kind is

-- of a range: its value is not of the kind
abbrev pub of_value : (line : ℕ) (attr : Name) (kind : Kind) → Violation
of_value line attr kind =
    violation (origin_of grounds.ValueType doc.Ontology line) (Var 1 ∷ []) (value_pattern attr) (KindNot 0 kind)

-- of a range and an earlier one of another kind: they have a value in common
abbrev pub of_ranges : (line : ℕ) (attr earlier : Name) → Violation
of_ranges line attr earlier =
    violation (origin_of grounds.ValueType doc.Ontology line) [] (shared_value attr earlier) Plain

-- of an inclusion that stands after some: of a range, and of the range with each of these that clashes; of others none
abbrev pub of_inclusion : (before : List Inclusion) (line : ℕ) → Inclusion → List Violation
of_inclusion before line (IClass b a) = []
of_inclusion before line (Exists b r end k) = []
of_inclusion before line (HasValue b u k) = []
of_inclusion before line (IRole r s) = []
of_inclusion before line (IAttr u v) = []
of_inclusion before line (Range u kind) = of_value line u kind ∷ map (of_ranges line u) (clashes kind before)

-- of inclusions that stand after some, in order
abbrev pub of_inclusions : (before : List Inclusion) → List (Lined Inclusion) → List Violation
of_inclusions before [] = []
of_inclusions before (l ∷ ls) = of_inclusion before l.line l.item ++ of_inclusions (before ++ l.item ∷ []) ls

-- of a functional property, by a line of a document: two fillers differ
abbrev pub of_functional : DocName → (line : ℕ) → Prop → Violation
of_functional document line p =
    violation (origin_of grounds.Functional document line) (and_fillers p) (two_fillers p) (Differ 1 2)

-- of a constraint
abbrev pub by_constraint : (line : ℕ) → Constraint → Violation
by_constraint line (Functional p) = of_functional doc.Constraints line p
by_constraint line (Identify concept paths) =
    violation (origin_of grounds.Identify doc.Constraints line) (Var 0 ∷ Var 1 ∷ [])
    (identified_pattern concept paths) (Differ 0 1)
by_constraint line (Deny atoms) = violation (origin_of grounds.Deny doc.Constraints line) [] atoms Plain

-- of a functionality assertion of the ontology
abbrev pub of_assertion : Lined Prop → Violation
of_assertion l = of_functional doc.Ontology l.line l.item

-- of a line of the constraints
abbrev pub of_constraint : Lined Constraint → Violation
of_constraint l = by_constraint l.line l.item

-- the violation list: of the ontology's negatives, ranges and functionality assertions, and of the constraints
abbrev pub violations : List (Lined Inclusion) → List (Lined Negative) → List (Lined Prop) → List (Lined Constraint)
    → List Violation
violations inclusions negatives functional constraints =
    map of_negative negatives
    ++ (of_inclusions [] inclusions ++ (map of_assertion functional ++ map of_constraint constraints))

-- that of the axioms of an ontology and of constraints
abbrev pub list_of : TBox → List (Lined Constraint) → List Violation
list_of tbox constraints = violations tbox.inclusions tbox.negatives tbox.functional constraints

-- the list is told whole, and it has no more members than it may have; it is refused where it has more
abbrev pub IsWholeOrRefused : List Violation → Result (List Violation) (Stop TooManyViolations) → Type 0
IsWholeOrRefused list result =
    Answers result (λ told. (told ≡ list) × (length list ≤ MOST_VIOLATIONS)) (λ refusal. MOST_VIOLATIONS < length list)
