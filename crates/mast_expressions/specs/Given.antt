-- What an item gives in the place of a class, a role, an attribute or a left side, over the lists of a vocabulary.
use Rattle.std.specs.Prelude.{List, [], ◌∷◌, codes}
use Rattle.mast_terms.specs.declared.name.Name.{Name}
use Rattle.mast_terms.specs.declared.name.NameKind.{NameKind}
use Rattle.mast_terms.specs.declared.name.NameKind.TheVariants as kinds
use Rattle.mast_terms.specs.Vocabularies.{Lists}
use Rattle.mast_tbox.specs.declared.expression.Basic.{Basic}
use Rattle.mast_tbox.specs.declared.expression.Basic.TheVariants as basic
use Rattle.mast_tbox.specs.declared.expression.RoleExpr.{RoleExpr}
use Rattle.mast_tbox.specs.declared.expression.RoleExpr.TheVariants.{Direct, Inverse}
use Rattle.mast_tree.specs.declared.item.Item.{Item}
use Rattle.mast_tree.specs.Names.{IsName}
use Rattle.mast_tree.specs.Pages.{Page, IsNodeOf, Expands}
use Rattle.mast_expressions.specs.Iris.{owl_thing, rdfs_literal}

-- the name of a kind that the item says
abbrev pub IsNamed : Lists → NameKind → Page → Item → Name → Type 0
IsNamed lists kind page item name = IsName lists kind page.doc page.prefixes item name

-- the class that the item says
abbrev pub IsClassIn : Lists → Page → Item → Name → Type 0
IsClassIn lists page item name = IsNamed lists kinds.Class page item name

-- the role of which `ObjectInverseOf(..)` says the inverse: one IRI stands inside
abbrev pub IsInverseOf : Lists → Page → List Item → Name → Type 0
IsInverseOf lists page (only ∷ []) p = IsNamed lists kinds.Role page only p
IsInverseOf lists page _ p = ⊥

-- the role that the item says, or the inverse of a role
abbrev pub IsRole : Lists → Page → Item → RoleExpr → Type 0
IsRole lists page item (Direct p) = IsNamed lists kinds.Role page item p
IsRole lists page item (Inverse p) =
    (items : List Item) × IsNodeOf page (codes "ObjectInverseOf") item items × IsInverseOf lists page items p

-- the attribute that the item says
abbrev pub IsAttr : Lists → Page → Item → Name → Type 0
IsAttr lists page item name = IsNamed lists kinds.Attr page item name

-- the role of which `ObjectSomeValuesFrom(..)` on a left side says that there is a filler: a role and owl:Thing stand inside
abbrev pub IsSomeOf : Lists → Page → List Item → RoleExpr → Type 0
IsSomeOf lists page (role ∷ filler ∷ []) r = IsRole lists page role r × Expands page filler owl_thing
IsSomeOf lists page _ r = ⊥

-- the attribute of which `DataSomeValuesFrom(..)` says that there is a value: an attribute and rdfs:Literal stand inside
abbrev pub IsSubjectsOf : Lists → Page → List Item → Name → Type 0
IsSubjectsOf lists page (attr ∷ filler ∷ []) u = IsAttr lists page attr u × Expands page filler rdfs_literal
IsSubjectsOf lists page _ u = ⊥

-- the basic concept that the item says on a left side
abbrev pub IsLeft : Lists → Page → Item → Basic → Type 0
IsLeft lists page item (basic.Class a) = IsClassIn lists page item a
IsLeft lists page item (basic.Some r) =
    (items : List Item) × IsNodeOf page (codes "ObjectSomeValuesFrom") item items × IsSomeOf lists page items r
IsLeft lists page item (basic.Subjects u) =
    (items : List Item) × IsNodeOf page (codes "DataSomeValuesFrom") item items × IsSubjectsOf lists page items u
