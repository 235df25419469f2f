-- The forms of axioms, by their words: the places of each, and how many there are.
use Rattle.std.specs.Prelude.{ℕ, ◌==◌, nat_le, ◌||◌, Bool, true, false, if◌then◌else◌, List, codes}
use Rattle.std.specs.Str.{bytes_eq}
use Rattle.mast_onto.specs.declared.form.Form.{Form}
use Rattle.mast_onto.specs.declared.form.Form.TheVariants.{Skipped, Assertion, Declaration, Listed, Below, AttrRange, Other}
use Rattle.mast_onto.specs.declared.form.Place.TheVariants as place
use Rattle.mast_onto.specs.declared.form.Relation.{Relation}
use Rattle.mast_onto.specs.declared.form.Relation.TheVariants.{In, Inverses, Equivalent, Disjoint, Symmetric, Asymmetric, Irreflexive, Functional, InverseFunctional}

-- annotations, which are skipped unjudged
abbrev pub is_skipped : List ℕ → Bool
is_skipped word =
    bytes_eq word (codes "Annotation")
    || (bytes_eq word (codes "AnnotationAssertion")
    || (bytes_eq word (codes "SubAnnotationPropertyOf")
    || (bytes_eq word (codes "AnnotationPropertyDomain")
    || bytes_eq word (codes "AnnotationPropertyRange"))))

-- assertions
abbrev pub is_assertion : List ℕ → Bool
is_assertion word =
    bytes_eq word (codes "ClassAssertion")
    || (bytes_eq word (codes "ObjectPropertyAssertion")
    || (bytes_eq word (codes "DataPropertyAssertion")
    || (bytes_eq word (codes "NegativeObjectPropertyAssertion")
    || (bytes_eq word (codes "NegativeDataPropertyAssertion")
    || (bytes_eq word (codes "SameIndividual")
    || bytes_eq word (codes "DifferentIndividuals"))))))

-- axioms of attributes
abbrev pub attr_form : List ℕ → Form
attr_form word =
    if bytes_eq word (codes "SubDataPropertyOf") then Listed place.Attr In
    else if bytes_eq word (codes "EquivalentDataProperties") then Listed place.Attr Equivalent
    else if bytes_eq word (codes "DisjointDataProperties") then Listed place.Attr Disjoint
    else if bytes_eq word (codes "DataPropertyDomain") then Below place.Attr false
    else if bytes_eq word (codes "DataPropertyRange") then AttrRange
    else if bytes_eq word (codes "FunctionalDataProperty") then Listed place.Attr Functional
    else Other

-- axioms of what one role is
abbrev pub role_form : List ℕ → Form
role_form word =
    if bytes_eq word (codes "SymmetricObjectProperty") then Listed place.Role Symmetric
    else if bytes_eq word (codes "AsymmetricObjectProperty") then Listed place.Role Asymmetric
    else if bytes_eq word (codes "IrreflexiveObjectProperty") then Listed place.Role Irreflexive
    else if bytes_eq word (codes "FunctionalObjectProperty") then Listed place.Role Functional
    else if bytes_eq word (codes "InverseFunctionalObjectProperty") then Listed place.Role InverseFunctional
    else attr_form word

-- axioms between roles, and of what they lead from and to
abbrev pub roles_form : List ℕ → Form
roles_form word =
    if bytes_eq word (codes "SubObjectPropertyOf") then Listed place.Role In
    else if bytes_eq word (codes "EquivalentObjectProperties") then Listed place.Role Equivalent
    else if bytes_eq word (codes "InverseObjectProperties") then Listed place.Role Inverses
    else if bytes_eq word (codes "DisjointObjectProperties") then Listed place.Role Disjoint
    else if bytes_eq word (codes "ObjectPropertyDomain") then Below place.Role false
    else if bytes_eq word (codes "ObjectPropertyRange") then Below place.Role true
    else role_form word

-- the form of a node by its word
abbrev pub form_of : List ℕ → Form
form_of word =
    if is_skipped word then Skipped
    else if is_assertion word then Assertion
    else if bytes_eq word (codes "Declaration") then Declaration
    else if bytes_eq word (codes "SubClassOf") then Below place.Left false
    else if bytes_eq word (codes "EquivalentClasses") then Listed place.Left Equivalent
    else if bytes_eq word (codes "DisjointClasses") then Listed place.Left Disjoint
    else roles_form word

-- whether a list of this length may be said to be so
abbrev pub fits : Relation → ℕ → Bool
fits In count = count == 2
fits Inverses count = count == 2
fits Equivalent count = nat_le 2 count
fits Disjoint count = nat_le 2 count
fits Symmetric count = count == 1
fits Asymmetric count = count == 1
fits Irreflexive count = count == 1
fits Functional count = count == 1
fits InverseFunctional count = count == 1
