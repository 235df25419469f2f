-- What items give is kept by vocabularies that begin with theirs.
use Rattle.std.proofs.Common.{Bool}
use Rattle.mast_terms.specs.declared.name.NameKind.TheVariants as kinds
use Rattle.mast_tbox.specs.declared.expression.Basic.{Basic}
use Rattle.mast_tree.specs.Pages.{Page}
use Rattle.mast_expressions.proofs.GivenLemmas.{named_grows, role_grows, left_grows}
use Rattle.mast_onto.specs.Axioms.{IsMember, IsSubject, IsAxiom}
use Rattle.mast_onto.specs.Nodes.{nothing, declared, listed, below, range, wrong}
use Rattle.mast_onto.specs.Ontologies.{IsStated}
use Rattle.mast_onto.specs.Rights.{thing, left, filled, complement, wrong as wrong_part, right_forms, IsPart}
use Rattle.mast_onto.specs.Nodes.{axiom_form}
use Rattle.mast_onto.specs.declared.form.Place.{Place}
use Rattle.mast_onto.specs.declared.form.Place.TheVariants as place
use Rattle.mast_onto.specs.declared.statement.Axiom.TheVariants.{Nothing, Listed, Below, Range}
use Rattle.mast_onto.specs.declared.statement.Expression.TheVariants.{Concept, Role, Attr}
use Rattle.mast_onto.specs.declared.statement.Part.TheVariants as part
use Rattle.mast_onto.proofs.LeadLemmas.{Kept, each_kept}

-- a part
pub part_kept : (page : Page) → Kept (IsPart page)
part_kept page new old thing part.Thing b h = h
part_kept page new old (left item) (part.Basic c) b h = left_grows new old page item c b h
part_kept page new old (filled role filler) (part.Qualified r a) b h = (role_grows new old page role r b h.0, named_grows new old kinds.Class page filler a b h.1)
part_kept page new old (complement item) (part.Complement c) b h = left_grows new old page item c b h
part_kept page new old thing (part.Basic c) b h = h
part_kept page new old thing (part.Qualified r a) b h = h
part_kept page new old thing (part.Complement c) b h = h
part_kept page new old (left item) part.Thing b h = h
part_kept page new old (left item) (part.Qualified r a) b h = h
part_kept page new old (left item) (part.Complement c) b h = h
part_kept page new old (filled role filler) part.Thing b h = h
part_kept page new old (filled role filler) (part.Basic c) b h = h
part_kept page new old (filled role filler) (part.Complement c) b h = h
part_kept page new old (complement item) part.Thing b h = h
part_kept page new old (complement item) (part.Basic c) b h = h
part_kept page new old (complement item) (part.Qualified r a) b h = h
part_kept page new old (wrong_part at) part.Thing b h = h
part_kept page new old (wrong_part at) (part.Basic c) b h = h
part_kept page new old (wrong_part at) (part.Qualified r a) b h = h
part_kept page new old (wrong_part at) (part.Complement c) b h = h

-- an expression in a place
pub member_kept : (page : Page) (at : Place) → Kept (IsMember page at)
member_kept page place.Left new old item (Concept c) b h = left_grows new old page item c b h
member_kept page place.Left new old item (Role r) b h = h
member_kept page place.Left new old item (Attr u) b h = h
member_kept page place.Role new old item (Concept c) b h = h
member_kept page place.Role new old item (Role r) b h = role_grows new old page item r b h
member_kept page place.Role new old item (Attr u) b h = h
member_kept page place.Attr new old item (Concept c) b h = h
member_kept page place.Attr new old item (Role r) b h = h
member_kept page place.Attr new old item (Attr u) b h = named_grows new old kinds.Attr page item u b h

-- the concept of a place
pub subject_kept : (page : Page) (at : Place) (turned : Bool) → Kept (IsSubject page at turned)
subject_kept page at turned new old item c b h = record { expression = h.expression; said = member_kept page at new old item h.expression b h.said; is = h.is }

-- an axiom
pub axiom_kept : (page : Page) → Kept (IsAxiom page)
axiom_kept page new old nothing Nothing b h = h
axiom_kept page new old (declared kind item) Nothing b h = h
axiom_kept page new old (listed at relation items) (Listed r members) b h = (h.0, each_kept (IsMember page at) (member_kept page at) new old items members b h.1)
axiom_kept page new old (below at turned sub sup) (Below c parts) b h =
    (subject_kept page at turned new old sub c b h.0, each_kept (IsPart page) (part_kept page) new old (right_forms page sup) parts b h.1)
axiom_kept page new old (range attr of_type) (Range u kind) b h = (named_grows new old kinds.Attr page attr u b h.0, h.1)
axiom_kept page new old nothing (Listed r members) b h = h
axiom_kept page new old nothing (Below c parts) b h = h
axiom_kept page new old nothing (Range u kind) b h = h
axiom_kept page new old (declared kind item) (Listed r members) b h = h
axiom_kept page new old (declared kind item) (Below c parts) b h = h
axiom_kept page new old (declared kind item) (Range u k) b h = h
axiom_kept page new old (listed at relation items) Nothing b h = h
axiom_kept page new old (listed at relation items) (Below c parts) b h = h
axiom_kept page new old (listed at relation items) (Range u kind) b h = h
axiom_kept page new old (below at turned sub sup) Nothing b h = h
axiom_kept page new old (below at turned sub sup) (Listed r members) b h = h
axiom_kept page new old (below at turned sub sup) (Range u kind) b h = h
axiom_kept page new old (range attr of_type) Nothing b h = h
axiom_kept page new old (range attr of_type) (Listed r members) b h = h
axiom_kept page new old (range attr of_type) (Below c parts) b h = h
axiom_kept page new old (wrong kind at) Nothing b h = h
axiom_kept page new old (wrong kind at) (Listed r members) b h = h
axiom_kept page new old (wrong kind at) (Below c parts) b h = h
axiom_kept page new old (wrong kind at) (Range u k) b h = h

-- what an axiom states
pub stated_kept : (page : Page) → Kept (IsStated page)
stated_kept page new old item statements b h = record { read = h.read; is = axiom_kept page new old (axiom_form page item) h.read b h.is; states = h.states }
