-- What axioms state: the items that each gives, in order, each with the line of its axiom.
use Rattle.std.specs.Prelude.{ℕ, Bool, false, nat_eq, if◌then◌else◌, List, [], ◌∷◌, ◌++◌, map, Option, Some, None}
use Rattle.mast_terms.specs.declared.name.Name.{Name}
use Rattle.mast_terms.specs.declared.value.Kind.{Kind}
use Rattle.mast_tbox.specs.Expressions.{inverse_role, same_basic, same_role}
use Rattle.mast_tbox.specs.declared.axiom.Inclusion.{Inclusion}
use Rattle.mast_tbox.specs.declared.axiom.Inclusion.TheVariants.{Class as IClass, Exists, HasValue, Role as IRole, Attr as IAttr, Range as IRange}
use Rattle.mast_tbox.specs.declared.axiom.Negative.TheVariants.{Concepts, Roles, Attrs, Irreflexive}
use Rattle.mast_tbox.specs.declared.axiom.Lined.{Lined}
use Rattle.mast_tbox.specs.declared.expression.Basic.{Basic}
use Rattle.mast_tbox.specs.declared.expression.Basic.TheVariants.{Class as BClass, Some as BSome, Subjects}
use Rattle.mast_tbox.specs.declared.expression.Prop.TheVariants.{Role as PRole, Attr as PAttr}
use Rattle.mast_tbox.specs.declared.expression.RoleExpr.TheVariants.{Direct, Inverse}
use Rattle.mast_onto.specs.declared.form.Relation.{Relation}
use Rattle.mast_onto.specs.declared.form.Relation.TheVariants as relation
use Rattle.mast_onto.specs.declared.statement.Axiom.{Axiom}
use Rattle.mast_onto.specs.declared.statement.Axiom.TheVariants.{Nothing, Listed, Below, Range}
use Rattle.mast_onto.specs.declared.statement.Expression.{Expression}
use Rattle.mast_onto.specs.declared.statement.Expression.TheVariants.{Concept, Role, Attr}
use Rattle.mast_onto.specs.declared.statement.Part.{Part}
use Rattle.mast_onto.specs.declared.statement.Part.TheVariants as part
use Rattle.mast_onto.specs.declared.statement.Statement.{Statement}
use Rattle.mast_onto.specs.declared.statement.Statement.TheVariants as statement

-- statements of an axiom, each with its line
abbrev pub lined : ℕ → List Statement → List (Lined Statement)
lined line statements = map (λ s. record { line = line; item = s }) statements

-- the inverse of a role; any other expression stands for itself
abbrev pub inverse_of : Expression → Expression
inverse_of (Concept b) = Concept b
inverse_of (Role r) = Role (inverse_role r)
inverse_of (Attr u) = Attr u

-- the concept of a place: itself, ∃Q or δ(U)
abbrev pub subjects_of : Expression → Basic
subjects_of (Concept b) = b
subjects_of (Role r) = BSome r
subjects_of (Attr u) = Subjects u

-- two expressions are the same
abbrev pub same : Expression → Expression → Bool
same (Concept b) (Concept c) = same_basic b c
same (Concept b) (Role s) = false
same (Concept b) (Attr v) = false
same (Role r) (Concept c) = false
same (Role r) (Role s) = same_role r s
same (Role r) (Attr v) = false
same (Attr u) (Concept c) = false
same (Attr u) (Role s) = false
same (Attr u) (Attr v) = nat_eq u.0 v.0

-- the inclusion of a basic concept in another, before it is numbered
abbrev pub basic_in : Basic → Basic → Inclusion
basic_in b (BClass a) = IClass b a
basic_in b (BSome r) = Exists b r None 0
basic_in b (Subjects u) = HasValue b u 0

-- the inclusion of an expression in another of its kind
abbrev pub stated_in : Expression → Expression → List Statement
stated_in (Concept b) (Concept c) = statement.Inclusion (basic_in b c) ∷ []
stated_in (Concept b) (Role s) = []
stated_in (Concept b) (Attr v) = []
stated_in (Role r) (Concept c) = []
stated_in (Role r) (Role s) = statement.Inclusion (IRole r s) ∷ []
stated_in (Role r) (Attr v) = []
stated_in (Attr u) (Concept c) = []
stated_in (Attr u) (Role s) = []
stated_in (Attr u) (Attr v) = statement.Inclusion (IAttr u v) ∷ []

-- the negative of two expressions of one kind
abbrev pub stated_apart : Expression → Expression → List Statement
stated_apart (Concept b) (Concept c) = statement.Negative (Concepts b c) ∷ []
stated_apart (Concept b) (Role s) = []
stated_apart (Concept b) (Attr v) = []
stated_apart (Role r) (Concept c) = []
stated_apart (Role r) (Role s) = statement.Negative (Roles r s) ∷ []
stated_apart (Role r) (Attr v) = []
stated_apart (Attr u) (Concept c) = []
stated_apart (Attr u) (Role s) = []
stated_apart (Attr u) (Attr v) = statement.Negative (Attrs u v) ∷ []

-- a role has no pair of a term with itself, and so has its inverse
abbrev pub stated_irreflexive : Expression → List Statement
stated_irreflexive (Concept b) = []
stated_irreflexive (Role (Direct p)) = statement.Negative (Irreflexive p) ∷ []
stated_irreflexive (Role (Inverse p)) = statement.Negative (Irreflexive p) ∷ []
stated_irreflexive (Attr u) = []

-- a property is functional
abbrev pub stated_functional : Expression → List Statement
stated_functional (Concept b) = []
stated_functional (Role r) = statement.Functional (PRole r) ∷ []
stated_functional (Attr u) = statement.Functional (PAttr u) ∷ []

-- one expression is in another; in itself that says nothing
abbrev pub included : ℕ → Expression → Expression → List (Lined Statement)
included line a b = if same a b then [] else lined line (stated_in a b)

-- two expressions are disjoint
abbrev pub apart : ℕ → Expression → Expression → List (Lined Statement)
apart line a b = lined line (stated_apart a b)

-- an expression is in the first of the list, and each of these in the next
abbrev pub chain : ℕ → Expression → List Expression → List (Lined Statement)
chain line a [] = []
chain line a (b ∷ more) = included line a b ++ chain line b more

-- each is in the next, and the last in the first
abbrev pub cycle : ℕ → List Expression → List (Lined Statement)
cycle line [] = []
cycle line (a ∷ es) = chain line a (es ++ a ∷ [])

-- the first and each of the others are disjoint
abbrev pub apart_from : ℕ → Expression → List Expression → List (Lined Statement)
apart_from line a [] = []
apart_from line a (b ∷ bs) = apart line a b ++ apart_from line a bs

-- each two are disjoint, the earlier first
abbrev pub pairs : ℕ → List Expression → List (Lined Statement)
pairs line [] = []
pairs line (a ∷ es) = apart_from line a es ++ pairs line es

-- what is said of one expression
abbrev pub listed_one : ℕ → Relation → Expression → List (Lined Statement)
listed_one line relation.Symmetric a = included line a (inverse_of a)
listed_one line relation.Asymmetric a = apart line a (inverse_of a)
listed_one line relation.Irreflexive a = lined line (stated_irreflexive a)
listed_one line relation.Functional a = lined line (stated_functional a)
listed_one line relation.InverseFunctional a = lined line (stated_functional (inverse_of a))
listed_one line relation.In a = []
listed_one line relation.Inverses a = []
listed_one line relation.Equivalent a = []
listed_one line relation.Disjoint a = []

-- each of two expressions is in the inverse of the other
abbrev pub inverses : ℕ → Expression → Expression → List (Lined Statement)
inverses line a b = included line a (inverse_of b) ++ included line b (inverse_of a)

-- what is said of two expressions
abbrev pub listed_two : ℕ → Relation → Expression → Expression → List (Lined Statement)
listed_two line relation.In a b = included line a b
listed_two line relation.Inverses a b = inverses line a b
listed_two line relation.Equivalent a b = []
listed_two line relation.Disjoint a b = []
listed_two line relation.Symmetric a b = []
listed_two line relation.Asymmetric a b = []
listed_two line relation.Irreflexive a b = []
listed_two line relation.Functional a b = []
listed_two line relation.InverseFunctional a b = []

-- what is said of one or two; a list of another length says nothing, and is a breach
abbrev pub listed_few : ℕ → Relation → List Expression → List (Lined Statement)
listed_few line r (a ∷ []) = listed_one line r a
listed_few line r (a ∷ b ∷ []) = listed_two line r a b
listed_few line r _ = []

-- what is said of a list of expressions
abbrev pub listed : ℕ → Relation → List Expression → List (Lined Statement)
listed line relation.In members = listed_few line relation.In members
listed line relation.Inverses members = listed_few line relation.Inverses members
listed line relation.Equivalent members = cycle line members
listed line relation.Disjoint members = pairs line members
listed line relation.Symmetric members = listed_few line relation.Symmetric members
listed line relation.Asymmetric members = listed_few line relation.Asymmetric members
listed line relation.Irreflexive members = listed_few line relation.Irreflexive members
listed line relation.Functional members = listed_few line relation.Functional members
listed line relation.InverseFunctional members = listed_few line relation.InverseFunctional members

-- a basic concept is below another; below itself that says nothing
abbrev pub basic_below : Basic → Basic → List Statement
basic_below b c = if same_basic b c then [] else statement.Inclusion (basic_in b c) ∷ []

-- a concept is below a part of a right side: nothing for owl:Thing, a negative for a complement
abbrev pub stated_below : Basic → Part → List Statement
stated_below b part.Thing = []
stated_below b (part.Basic c) = basic_below b c
stated_below b (part.Qualified r a) = statement.Inclusion (Exists b r (Some a) 0) ∷ []
stated_below b (part.Complement c) = statement.Negative (Concepts b c) ∷ []

-- a concept is below each part of a right side, in their order
abbrev pub below_parts : ℕ → Basic → List Part → List (Lined Statement)
below_parts line b [] = []
below_parts line b (p ∷ ps) = lined line (stated_below b p) ++ below_parts line b ps

-- the values of an attribute are of a kind, if they are of one
abbrev pub ranged : ℕ → Name → Option Kind → List (Lined Statement)
ranged line u None = []
ranged line u (Some kind) = lined line (statement.Inclusion (IRange u kind) ∷ [])

-- what an axiom at a line states
abbrev pub stated : ℕ → Axiom → List (Lined Statement)
stated line Nothing = []
stated line (Listed r members) = listed line r members
stated line (Below b parts) = below_parts line b parts
stated line (Range u kind) = ranged line u kind
