-- The vocabulary has each name of what axioms state.
use Rattle.std.proofs.Common.{sym, subst, ℕ, Bool, true, false, List, [], ◌∷◌, ◌++◌, Option, Some, None}
use Rattle.std.specs.Prelude.{⊤, if◌then◌else◌}
use Rattle.std.specs.List.{AllByRecursion}
use Rattle.mast_terms.specs.declared.name.Name.{Name}
use Rattle.mast_terms.specs.declared.name.NameKind.TheVariants as kinds
use Rattle.mast_terms.specs.declared.value.Kind.{Kind}
use Rattle.mast_terms.specs.Vocabularies.{Lists}
use Rattle.mast_tbox.specs.declared.axiom.Inclusion.{Inclusion}
use Rattle.mast_tbox.specs.declared.axiom.Inclusion.TheVariants as inclusion
use Rattle.mast_tbox.specs.declared.axiom.Negative.{Negative}
use Rattle.mast_tbox.specs.declared.axiom.Lined.{Lined}
use Rattle.mast_tbox.specs.declared.expression.Basic.{Basic}
use Rattle.mast_tbox.specs.declared.expression.Basic.TheVariants as basic
use Rattle.mast_tbox.specs.declared.expression.RoleExpr.{RoleExpr}
use Rattle.mast_tbox.specs.declared.expression.RoleExpr.TheVariants.{Direct, Inverse}
use Rattle.mast_tbox.specs.declared.tbox.Ontology.{Ontology}
use Rattle.mast_tbox.specs.Expressions.{same_basic, inverse_role}
use Rattle.mast_tbox.specs.Lists.{items, AreEach}
use Rattle.mast_tbox.specs.Names.{BasicNamed, RoleNamed, PropNamed, InclusionNamed, NegativeNamed}
use Rattle.mast_tree.specs.Names.{StandsIn}
use Rattle.mast_tree.specs.declared.item.Item.{Item}
use Rattle.mast_tree.specs.Seen.{Document}
use Rattle.mast_tree.specs.Pages.{Page, page_of}
use Rattle.mast_expressions.proofs.KnownLemmas.{named_known, role_known, left_known}
use Rattle.mast_onto.specs.Axioms.{IsMember, IsSubject, IsAxiom, turned_if}
use Rattle.mast_onto.specs.Known.{HasNames}
use Rattle.mast_onto.specs.Lists.{together}
use Rattle.mast_onto.specs.Nodes.{AxiomForm, nothing, declared, listed, below, range, wrong, axiom_form}
use Rattle.mast_onto.specs.Numbered.{with_number, next_number, numbered, if_inclusion, if_negative, if_functional, inclusions_in, negatives_in, functional_in}
use Rattle.mast_onto.specs.Ontologies.{IsStated, HasOntology, axioms}
use Rattle.mast_onto.specs.Rights.{PartForm, thing, left, filled, complement, wrong as wrong_part, right_forms, IsPart}
use Rattle.mast_onto.specs.Stated as says
use Rattle.mast_onto.specs.declared.form.Place.{Place}
use Rattle.mast_onto.specs.declared.form.Place.TheVariants as place
use Rattle.mast_onto.specs.declared.form.Relation.{Relation}
use Rattle.mast_onto.specs.declared.form.Relation.TheVariants as relation
use Rattle.mast_onto.specs.declared.statement.Axiom.{Axiom}
use Rattle.mast_onto.specs.declared.statement.Axiom.TheVariants.{Nothing, Listed, Below, Range}
use Rattle.mast_onto.specs.declared.statement.Expression.{Expression}
use Rattle.mast_onto.specs.declared.statement.Expression.TheVariants.{Concept, Role, Attr}
use Rattle.mast_onto.specs.declared.statement.Part.{Part}
use Rattle.mast_onto.specs.declared.statement.Part.TheVariants as part
use Rattle.mast_onto.specs.declared.statement.Statement.{Statement}
use Rattle.mast_onto.specs.declared.statement.Statement.TheVariants as statement

-- all of two lists
both : {A : Type 0} (P : A → Type 0) (xs ys : List A) → AllByRecursion P xs → AllByRecursion P ys → AllByRecursion P (xs ++ ys)
both P [] ys h g = g
both P (x ∷ xs) ys h g = (h.0, both P xs ys h.1 g)

-- the vocabulary has the name of the expression
abbrev ExpressionKnown : Lists → Expression → Type 0
ExpressionKnown lists (Concept b) = BasicNamed (StandsIn lists) b
ExpressionKnown lists (Role r) = RoleNamed (StandsIn lists) r
ExpressionKnown lists (Attr u) = StandsIn lists kinds.Attr u.0

-- the names of the part
abbrev PartKnown : Lists → Part → Type 0
PartKnown lists part.Thing = ⊤
PartKnown lists (part.Basic b) = BasicNamed (StandsIn lists) b
PartKnown lists (part.Qualified r a) = RoleNamed (StandsIn lists) r × StandsIn lists kinds.Class a.0
PartKnown lists (part.Complement b) = BasicNamed (StandsIn lists) b

-- the names of the statement
abbrev StatementKnown : Lists → Statement → Type 0
StatementKnown lists (statement.Inclusion i) = InclusionNamed (StandsIn lists) i
StatementKnown lists (statement.Negative n) = NegativeNamed (StandsIn lists) n
StatementKnown lists (statement.Functional p) = PropNamed (StandsIn lists) p

-- those of all statements
abbrev AllKnown : Lists → List Statement → Type 0
AllKnown lists statements = AllByRecursion (StatementKnown lists) statements

-- those of all lines
abbrev LinesKnown : Lists → List (Lined Statement) → Type 0
LinesKnown lists lines = AllByRecursion (λ (l : Lined Statement). StatementKnown lists l.item) lines

lines : (lists : Lists) (at : ℕ) (statements : List Statement) → AllKnown lists statements → LinesKnown lists (says.lined at statements)
lines lists at [] h = tt
lines lists at (s ∷ ss) h = (h.0, lines lists at ss h.1)

two_parts : (lists : Lists) (xs ys : List (Lined Statement)) → LinesKnown lists xs → LinesKnown lists ys → LinesKnown lists (xs ++ ys)
two_parts lists xs ys h g = both (λ (l : Lined Statement). StatementKnown lists l.item) xs ys h g

member_known : (lists : Lists) (page : Page) (at : Place) (item : Item) (e : Expression) → IsMember page at lists item e → ExpressionKnown lists e
member_known lists page place.Left item (Concept b) h = left_known lists page item b h
member_known lists page place.Left item (Role r) h = absurd h
member_known lists page place.Left item (Attr u) h = absurd h
member_known lists page place.Role item (Concept b) h = absurd h
member_known lists page place.Role item (Role r) h = role_known lists page item r h
member_known lists page place.Role item (Attr u) h = absurd h
member_known lists page place.Attr item (Concept b) h = absurd h
member_known lists page place.Attr item (Role r) h = absurd h
member_known lists page place.Attr item (Attr u) h = named_known lists kinds.Attr page item u h

members_known : (lists : Lists) (page : Page) (at : Place) (xs : List Item) (es : List Expression) → AreEach (IsMember page at lists) xs es → AllByRecursion (ExpressionKnown lists) es
members_known lists page at [] [] h = tt
members_known lists page at [] (e ∷ es) h = absurd h
members_known lists page at (x ∷ xs) [] h = absurd h
members_known lists page at (x ∷ xs) (e ∷ es) h = (member_known lists page at x e h.0, members_known lists page at xs es h.1)

part_known : (lists : Lists) (page : Page) (form : PartForm) (p : Part) → IsPart page lists form p → PartKnown lists p
part_known lists page form part.Thing h = tt
part_known lists page (left item) (part.Basic b) h = left_known lists page item b h
part_known lists page (filled role filler) (part.Qualified r a) h = (role_known lists page role r h.0, named_known lists kinds.Class page filler a h.1)
part_known lists page (complement item) (part.Complement b) h = left_known lists page item b h
part_known lists page thing (part.Basic b) h = absurd h
part_known lists page thing (part.Qualified r a) h = absurd h
part_known lists page thing (part.Complement b) h = absurd h
part_known lists page (left item) (part.Qualified r a) h = absurd h
part_known lists page (left item) (part.Complement b) h = absurd h
part_known lists page (filled role filler) (part.Basic b) h = absurd h
part_known lists page (filled role filler) (part.Complement b) h = absurd h
part_known lists page (complement item) (part.Basic b) h = absurd h
part_known lists page (complement item) (part.Qualified r a) h = absurd h
part_known lists page (wrong_part at) (part.Basic b) h = absurd h
part_known lists page (wrong_part at) (part.Qualified r a) h = absurd h
part_known lists page (wrong_part at) (part.Complement b) h = absurd h

parts_known : (lists : Lists) (page : Page) (forms : List PartForm) (ps : List Part) → AreEach (IsPart page lists) forms ps → AllByRecursion (PartKnown lists) ps
parts_known lists page [] [] h = tt
parts_known lists page [] (p ∷ ps) h = absurd h
parts_known lists page (f ∷ fs) [] h = absurd h
parts_known lists page (f ∷ fs) (p ∷ ps) h = (part_known lists page f p h.0, parts_known lists page fs ps h.1)

inverse_role_known : (lists : Lists) (r : RoleExpr) → RoleNamed (StandsIn lists) r → RoleNamed (StandsIn lists) (inverse_role r)
inverse_role_known lists (Direct p) h = h
inverse_role_known lists (Inverse p) h = h

inverse_of_known : (lists : Lists) (e : Expression) → ExpressionKnown lists e → ExpressionKnown lists (says.inverse_of e)
inverse_of_known lists (Concept b) h = h
inverse_of_known lists (Role r) h = inverse_role_known lists r h
inverse_of_known lists (Attr u) h = h

turned_known : (lists : Lists) (turned : Bool) (e : Expression) → ExpressionKnown lists e → ExpressionKnown lists (turned_if turned e)
turned_known lists true e h = inverse_of_known lists e h
turned_known lists false e h = h

of_subjects_known : (lists : Lists) (e : Expression) → ExpressionKnown lists e → BasicNamed (StandsIn lists) (says.subjects_of e)
of_subjects_known lists (Concept b) h = h
of_subjects_known lists (Role r) h = h
of_subjects_known lists (Attr u) h = h

basic_in_known : (lists : Lists) (b c : Basic) → BasicNamed (StandsIn lists) b → BasicNamed (StandsIn lists) c → InclusionNamed (StandsIn lists) (says.basic_in b c)
basic_in_known lists b (basic.Class a) h g = (h, g)
basic_in_known lists b (basic.Some r) h g = (h, (g, tt))
basic_in_known lists b (basic.Subjects u) h g = (h, g)

in_known : (lists : Lists) (a b : Expression) → ExpressionKnown lists a → ExpressionKnown lists b → AllKnown lists (says.stated_in a b)
in_known lists (Concept b) (Concept c) h g = (basic_in_known lists b c h g, tt)
in_known lists (Concept b) (Role s) h g = tt
in_known lists (Concept b) (Attr v) h g = tt
in_known lists (Role r) (Concept c) h g = tt
in_known lists (Role r) (Role s) h g = ((h, g), tt)
in_known lists (Role r) (Attr v) h g = tt
in_known lists (Attr u) (Concept c) h g = tt
in_known lists (Attr u) (Role s) h g = tt
in_known lists (Attr u) (Attr v) h g = ((h, g), tt)

apart_known : (lists : Lists) (a b : Expression) → ExpressionKnown lists a → ExpressionKnown lists b → AllKnown lists (says.stated_apart a b)
apart_known lists (Concept b) (Concept c) h g = ((h, g), tt)
apart_known lists (Concept b) (Role s) h g = tt
apart_known lists (Concept b) (Attr v) h g = tt
apart_known lists (Role r) (Concept c) h g = tt
apart_known lists (Role r) (Role s) h g = ((h, g), tt)
apart_known lists (Role r) (Attr v) h g = tt
apart_known lists (Attr u) (Concept c) h g = tt
apart_known lists (Attr u) (Role s) h g = tt
apart_known lists (Attr u) (Attr v) h g = ((h, g), tt)

irreflexive_known : (lists : Lists) (a : Expression) → ExpressionKnown lists a → AllKnown lists (says.stated_irreflexive a)
irreflexive_known lists (Concept b) h = tt
irreflexive_known lists (Role (Direct p)) h = (h, tt)
irreflexive_known lists (Role (Inverse p)) h = (h, tt)
irreflexive_known lists (Attr u) h = tt

functional_known : (lists : Lists) (a : Expression) → ExpressionKnown lists a → AllKnown lists (says.stated_functional a)
functional_known lists (Concept b) h = tt
functional_known lists (Role r) h = (h, tt)
functional_known lists (Attr u) h = (h, tt)

unless : (lists : Lists) (is : Bool) (xs : List (Lined Statement)) → LinesKnown lists xs → LinesKnown lists (if is then [] else xs)
unless lists true xs h = tt
unless lists false xs h = h

included_known : (lists : Lists) (at : ℕ) (a b : Expression) → ExpressionKnown lists a → ExpressionKnown lists b → LinesKnown lists (says.included at a b)
included_known lists at a b h g = unless lists (says.same a b) (says.lined at (says.stated_in a b)) (lines lists at (says.stated_in a b) (in_known lists a b h g))

chain_known : (lists : Lists) (at : ℕ) (a : Expression) (bs : List Expression) → ExpressionKnown lists a → AllByRecursion (ExpressionKnown lists) bs → LinesKnown lists (says.chain at a bs)
chain_known lists at a [] h g = tt
chain_known lists at a (b ∷ bs) h g = two_parts lists (says.included at a b) (says.chain at b bs) (included_known lists at a b h g.0) (chain_known lists at b bs g.0 g.1)

cycle_known : (lists : Lists) (at : ℕ) (es : List Expression) → AllByRecursion (ExpressionKnown lists) es → LinesKnown lists (says.cycle at es)
cycle_known lists at [] h = tt
cycle_known lists at (a ∷ es) h = chain_known lists at a (es ++ a ∷ []) h.0 (both (ExpressionKnown lists) es (a ∷ []) h.1 (h.0, tt))

apart_from_known : (lists : Lists) (at : ℕ) (a : Expression) (bs : List Expression) → ExpressionKnown lists a → AllByRecursion (ExpressionKnown lists) bs → LinesKnown lists (says.apart_from at a bs)
apart_from_known lists at a [] h g = tt
apart_from_known lists at a (b ∷ bs) h g =
    two_parts lists (says.apart at a b) (says.apart_from at a bs) (lines lists at (says.stated_apart a b) (apart_known lists a b h g.0)) (apart_from_known lists at a bs h g.1)

pairs_known : (lists : Lists) (at : ℕ) (es : List Expression) → AllByRecursion (ExpressionKnown lists) es → LinesKnown lists (says.pairs at es)
pairs_known lists at [] h = tt
pairs_known lists at (a ∷ es) h = two_parts lists (says.apart_from at a es) (says.pairs at es) (apart_from_known lists at a es h.0 h.1) (pairs_known lists at es h.1)

one_known : (lists : Lists) (at : ℕ) (r : Relation) (a : Expression) → ExpressionKnown lists a → LinesKnown lists (says.listed_one at r a)
one_known lists at relation.In a h = tt
one_known lists at relation.Inverses a h = tt
one_known lists at relation.Equivalent a h = tt
one_known lists at relation.Disjoint a h = tt
one_known lists at relation.Symmetric a h = included_known lists at a (says.inverse_of a) h (inverse_of_known lists a h)
one_known lists at relation.Asymmetric a h = lines lists at (says.stated_apart a (says.inverse_of a)) (apart_known lists a (says.inverse_of a) h (inverse_of_known lists a h))
one_known lists at relation.Irreflexive a h = lines lists at (says.stated_irreflexive a) (irreflexive_known lists a h)
one_known lists at relation.Functional a h = lines lists at (says.stated_functional a) (functional_known lists a h)
one_known lists at relation.InverseFunctional a h = lines lists at (says.stated_functional (says.inverse_of a)) (functional_known lists (says.inverse_of a) (inverse_of_known lists a h))

two_known : (lists : Lists) (at : ℕ) (r : Relation) (a b : Expression) → ExpressionKnown lists a → ExpressionKnown lists b → LinesKnown lists (says.listed_two at r a b)
two_known lists at relation.In a b h g = included_known lists at a b h g
two_known lists at relation.Inverses a b h g =
    two_parts lists (says.included at a (says.inverse_of b)) (says.included at b (says.inverse_of a))
    (included_known lists at a (says.inverse_of b) h (inverse_of_known lists b g)) (included_known lists at b (says.inverse_of a) g (inverse_of_known lists a h))
two_known lists at relation.Equivalent a b h g = tt
two_known lists at relation.Disjoint a b h g = tt
two_known lists at relation.Symmetric a b h g = tt
two_known lists at relation.Asymmetric a b h g = tt
two_known lists at relation.Irreflexive a b h g = tt
two_known lists at relation.Functional a b h g = tt
two_known lists at relation.InverseFunctional a b h g = tt

few_known : (lists : Lists) (at : ℕ) (r : Relation) (es : List Expression) → AllByRecursion (ExpressionKnown lists) es → LinesKnown lists (says.listed_few at r es)
few_known lists at r [] h = tt
few_known lists at r (a ∷ []) h = one_known lists at r a h.0
few_known lists at r (a ∷ b ∷ []) h = two_known lists at r a b h.0 h.1.0
few_known lists at r (a ∷ b ∷ c ∷ more) h = tt

listed_known : (lists : Lists) (at : ℕ) (r : Relation) (es : List Expression) → AllByRecursion (ExpressionKnown lists) es → LinesKnown lists (says.listed at r es)
listed_known lists at relation.In es h = few_known lists at relation.In es h
listed_known lists at relation.Inverses es h = few_known lists at relation.Inverses es h
listed_known lists at relation.Equivalent es h = cycle_known lists at es h
listed_known lists at relation.Disjoint es h = pairs_known lists at es h
listed_known lists at relation.Symmetric es h = few_known lists at relation.Symmetric es h
listed_known lists at relation.Asymmetric es h = few_known lists at relation.Asymmetric es h
listed_known lists at relation.Irreflexive es h = few_known lists at relation.Irreflexive es h
listed_known lists at relation.Functional es h = few_known lists at relation.Functional es h
listed_known lists at relation.InverseFunctional es h = few_known lists at relation.InverseFunctional es h

unless_all : (lists : Lists) (is : Bool) (xs : List Statement) → AllKnown lists xs → AllKnown lists (if is then [] else xs)
unless_all lists true xs h = tt
unless_all lists false xs h = h

below_known : (lists : Lists) (b : Basic) (p : Part) → BasicNamed (StandsIn lists) b → PartKnown lists p → AllKnown lists (says.stated_below b p)
below_known lists b part.Thing h g = tt
below_known lists b (part.Basic c) h g = unless_all lists (same_basic b c) (statement.Inclusion (says.basic_in b c) ∷ []) (basic_in_known lists b c h g, tt)
below_known lists b (part.Qualified r a) h g = ((h, (g.0, g.1)), tt)
below_known lists b (part.Complement c) h g = ((h, g), tt)

all_below_known : (lists : Lists) (at : ℕ) (b : Basic) (ps : List Part) → BasicNamed (StandsIn lists) b → AllByRecursion (PartKnown lists) ps → LinesKnown lists (says.below_parts at b ps)
all_below_known lists at b [] h g = tt
all_below_known lists at b (p ∷ ps) h g =
    two_parts lists (says.lined at (says.stated_below b p)) (says.below_parts at b ps) (lines lists at (says.stated_below b p) (below_known lists b p h g.0)) (all_below_known lists at b ps h g.1)

ranged_known : (lists : Lists) (at : ℕ) (u : Name) (kind : Option Kind) → StandsIn lists kinds.Attr u.0 → LinesKnown lists (says.ranged at u kind)
ranged_known lists at u None h = tt
ranged_known lists at u (Some kind) h = (h, tt)

subject_known : (lists : Lists) (page : Page) (at : Place) (turned : Bool) (item : Item) (b : Basic) → IsSubject page at turned lists item b → BasicNamed (StandsIn lists) b
subject_known lists page at turned item b h =
    subst (BasicNamed (StandsIn lists)) (sym h.is)
    (of_subjects_known lists (turned_if turned h.expression) (turned_known lists turned h.expression (member_known lists page at item h.expression h.said)))

axiom_known : (lists : Lists) (page : Page) (form : AxiomForm) (read : Axiom) (at : ℕ) → IsAxiom page lists form read → LinesKnown lists (says.stated at read)
axiom_known lists page form Nothing at h = tt
axiom_known lists page (listed at_place relation xs) (Listed r members) at h = listed_known lists at r members (members_known lists page at_place xs members h.1)
axiom_known lists page (below at_place turned sub sup) (Below b parts) at h =
    all_below_known lists at b parts (subject_known lists page at_place turned sub b h.0) (parts_known lists page (right_forms page sup) parts h.1)
axiom_known lists page (range attr of_type) (Range u kind) at h = ranged_known lists at u kind (named_known lists kinds.Attr page attr u h.0)
axiom_known lists page nothing (Listed r members) at h = absurd h
axiom_known lists page nothing (Below b parts) at h = absurd h
axiom_known lists page nothing (Range u kind) at h = absurd h
axiom_known lists page (declared kind item) (Listed r members) at h = absurd h
axiom_known lists page (declared kind item) (Below b parts) at h = absurd h
axiom_known lists page (declared kind item) (Range u k) at h = absurd h
axiom_known lists page (listed at_place relation xs) (Below b parts) at h = absurd h
axiom_known lists page (listed at_place relation xs) (Range u kind) at h = absurd h
axiom_known lists page (below at_place turned sub sup) (Listed r members) at h = absurd h
axiom_known lists page (below at_place turned sub sup) (Range u kind) at h = absurd h
axiom_known lists page (range attr of_type) (Listed r members) at h = absurd h
axiom_known lists page (range attr of_type) (Below b parts) at h = absurd h
axiom_known lists page (wrong kind line) (Listed r members) at h = absurd h
axiom_known lists page (wrong kind line) (Below b parts) at h = absurd h
axiom_known lists page (wrong kind line) (Range u k) at h = absurd h

stated_known : (lists : Lists) (page : Page) (item : Item) (statements : List (Lined Statement)) → IsStated page lists item statements → LinesKnown lists statements
stated_known lists page item statements h = subst (LinesKnown lists) (sym h.states) (axiom_known lists page (axiom_form page item) h.read _ h.is)

all_known : (lists : Lists) (page : Page) (xs : List Item) (of_each : List (List (Lined Statement))) → AreEach (IsStated page lists) xs of_each → LinesKnown lists (together of_each)
all_known lists page [] [] h = tt
all_known lists page [] (s ∷ ss) h = absurd h
all_known lists page (x ∷ xs) [] h = absurd h
all_known lists page (x ∷ xs) (s ∷ ss) h = two_parts lists s (together ss) (stated_known lists page x s h.0) (all_known lists page xs ss h.1)

-- those of each kind
inclusions_known : (lists : Lists) (ls : List (Lined Statement)) → LinesKnown lists ls → AllByRecursion (InclusionNamed (StandsIn lists)) (items (inclusions_in ls))
inclusions_known lists [] h = tt
inclusions_known lists (l ∷ ls) h = by l.line l.item h.0 (inclusions_known lists ls h.1)
  where
    by : (at : ℕ) (s : Statement) → StatementKnown lists s → AllByRecursion (InclusionNamed (StandsIn lists)) (items (inclusions_in ls)) → AllByRecursion (InclusionNamed (StandsIn lists)) (items (if_inclusion at s (inclusions_in ls)))
    by at (statement.Inclusion i) g rest = (g, rest)
    by at (statement.Negative n) g rest = rest
    by at (statement.Functional p) g rest = rest

negatives_known : (lists : Lists) (ls : List (Lined Statement)) → LinesKnown lists ls → AllByRecursion (NegativeNamed (StandsIn lists)) (items (negatives_in ls))
negatives_known lists [] h = tt
negatives_known lists (l ∷ ls) h = by l.line l.item h.0 (negatives_known lists ls h.1)
  where
    by : (at : ℕ) (s : Statement) → StatementKnown lists s → AllByRecursion (NegativeNamed (StandsIn lists)) (items (negatives_in ls)) → AllByRecursion (NegativeNamed (StandsIn lists)) (items (if_negative at s (negatives_in ls)))
    by at (statement.Inclusion i) g rest = rest
    by at (statement.Negative n) g rest = (g, rest)
    by at (statement.Functional p) g rest = rest

props_known : (lists : Lists) (ls : List (Lined Statement)) → LinesKnown lists ls → AllByRecursion (PropNamed (StandsIn lists)) (items (functional_in ls))
props_known lists [] h = tt
props_known lists (l ∷ ls) h = by l.line l.item h.0 (props_known lists ls h.1)
  where
    by : (at : ℕ) (s : Statement) → StatementKnown lists s → AllByRecursion (PropNamed (StandsIn lists)) (items (functional_in ls)) → AllByRecursion (PropNamed (StandsIn lists)) (items (if_functional at s (functional_in ls)))
    by at (statement.Inclusion i) g rest = rest
    by at (statement.Negative n) g rest = rest
    by at (statement.Functional p) g rest = (g, rest)

-- a number changes no name
number_known : (lists : Lists) (n : ℕ) (i : Inclusion) → InclusionNamed (StandsIn lists) i → InclusionNamed (StandsIn lists) (with_number n i)
number_known lists n (inclusion.Class b a) h = h
number_known lists n (inclusion.Exists b r end k) h = h
number_known lists n (inclusion.HasValue b u k) h = h
number_known lists n (inclusion.Role r s) h = h
number_known lists n (inclusion.Attr u v) h = h
number_known lists n (inclusion.Range u kind) h = h

numbered_known : (lists : Lists) (n : ℕ) (ls : List (Lined Inclusion)) → AllByRecursion (InclusionNamed (StandsIn lists)) (items ls) → AllByRecursion (InclusionNamed (StandsIn lists)) (items (numbered n ls))
numbered_known lists n [] h = tt
numbered_known lists n (l ∷ ls) h = (number_known lists n l.item h.0, numbered_known lists (next_number n l.item) ls h.1)

-- the vocabulary of an ontology has each name of its axioms
pub ontology_known : (doc : Document) (old : Lists) (ontology : Ontology) → HasOntology doc old ontology → HasNames ontology
ontology_known doc old ontology h =
    let lists : Lists = ontology.vocab in
    let known = all_known lists (page_of doc h.right.prefixes) (axioms (page_of doc h.right.prefixes) h.right.inside) h.of_each h.right.gives.0 in
    record {
      of_inclusions = subst (λ ls. AllByRecursion (InclusionNamed (StandsIn lists)) (items ls)) (sym h.inclusions) (numbered_known lists 0 (inclusions_in (together h.of_each)) (inclusions_known lists (together h.of_each) known));
      of_negatives = subst (λ ls. AllByRecursion (NegativeNamed (StandsIn lists)) (items ls)) (sym h.negatives) (negatives_known lists (together h.of_each) known);
      of_functional = subst (λ ls. AllByRecursion (PropNamed (StandsIn lists)) (items ls)) (sym h.functional) (props_known lists (together h.of_each) known);
    }
