-- What items give stays so in vocabularies that begin with theirs.
use Rattle.std.specs.Prelude.{List, [], ◌∷◌}
use Rattle.mast_terms.specs.declared.name.Name.{Name}
use Rattle.mast_terms.specs.declared.name.NameKind.{NameKind}
use Rattle.mast_terms.specs.declared.name.NameKind.TheVariants as kinds
use Rattle.mast_terms.specs.Vocabularies.{Lists}
use Rattle.mast_tbox.specs.declared.expression.Basic.{Basic}
use Rattle.mast_tbox.specs.declared.expression.Basic.TheVariants as basic
use Rattle.mast_tbox.specs.declared.expression.RoleExpr.{RoleExpr}
use Rattle.mast_tbox.specs.declared.expression.RoleExpr.TheVariants.{Direct, Inverse}
use Rattle.mast_tree.specs.declared.item.Item.{Item}
use Rattle.mast_tree.specs.Growing.{Begins}
use Rattle.mast_tree.proofs.GrowingLemmas.{name_grows}
use Rattle.mast_tree.specs.Pages.{Page}
use Rattle.mast_expressions.specs.Given.{IsNamed, IsInverseOf, IsRole, IsSomeOf, IsSubjectsOf, IsLeft}

-- a name of a kind
pub named_grows : (new old : Lists) (kind : NameKind) (page : Page) (item : Item) (name : Name)
    → Begins new old → IsNamed old kind page item name → IsNamed new kind page item name
named_grows new old kind page item name b h = name_grows new old kind page.doc page.prefixes item name b h

inverse_grows : (new old : Lists) (page : Page) (items : List Item) (p : Name)
    → Begins new old → IsInverseOf old page items p → IsInverseOf new page items p
inverse_grows new old page [] p b h = h
inverse_grows new old page (only ∷ []) p b h = named_grows new old kinds.Role page only p b h
inverse_grows new old page (one ∷ other ∷ more) p b h = h

-- a role
pub role_grows : (new old : Lists) (page : Page) (item : Item) (r : RoleExpr)
    → Begins new old → IsRole old page item r → IsRole new page item r
role_grows new old page item (Direct p) b h = named_grows new old kinds.Role page item p b h
role_grows new old page item (Inverse p) b h = (h.0, h.1, inverse_grows new old page h.0 p b h.2)

some_grows : (new old : Lists) (page : Page) (items : List Item) (r : RoleExpr)
    → Begins new old → IsSomeOf old page items r → IsSomeOf new page items r
some_grows new old page [] r b h = h
some_grows new old page (one ∷ []) r b h = h
some_grows new old page (role ∷ filler ∷ []) r b h = (role_grows new old page role r b h.0, h.1)
some_grows new old page (one ∷ two ∷ three ∷ more) r b h = h

subjects_grows : (new old : Lists) (page : Page) (items : List Item) (u : Name)
    → Begins new old → IsSubjectsOf old page items u → IsSubjectsOf new page items u
subjects_grows new old page [] u b h = h
subjects_grows new old page (one ∷ []) u b h = h
subjects_grows new old page (attr ∷ filler ∷ []) u b h = (named_grows new old kinds.Attr page attr u b h.0, h.1)
subjects_grows new old page (one ∷ two ∷ three ∷ more) u b h = h

-- a left side
pub left_grows : (new old : Lists) (page : Page) (item : Item) (c : Basic)
    → Begins new old → IsLeft old page item c → IsLeft new page item c
left_grows new old page item (basic.Class a) b h = named_grows new old kinds.Class page item a b h
left_grows new old page item (basic.Some r) b h = (h.0, h.1, some_grows new old page h.0 r b h.2)
left_grows new old page item (basic.Subjects u) b h = (h.0, h.1, subjects_grows new old page h.0 u b h.2)
