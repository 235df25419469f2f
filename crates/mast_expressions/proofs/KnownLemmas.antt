-- What an item says in a place has names of the vocabulary.
use Rattle.std.proofs.Common.{List, [], ◌∷◌}
use Rattle.std.proofs.lemmas.Option.{slice_get_within}
use Rattle.mast_terms.specs.declared.name.Name.{Name}
use Rattle.mast_terms.specs.declared.name.NameKind.{NameKind}
use Rattle.mast_terms.specs.declared.name.NameKind.TheVariants as kinds
use Rattle.mast_terms.specs.Vocabularies.{Lists, iris}
use Rattle.mast_tbox.specs.declared.expression.Basic.{Basic}
use Rattle.mast_tbox.specs.declared.expression.Basic.TheVariants as basic
use Rattle.mast_tbox.specs.declared.expression.RoleExpr.{RoleExpr}
use Rattle.mast_tbox.specs.declared.expression.RoleExpr.TheVariants.{Direct, Inverse}
use Rattle.mast_tbox.specs.Names.{RoleNamed, BasicNamed}
use Rattle.mast_tree.specs.Names.{StandsIn}
use Rattle.mast_tree.specs.declared.item.Item.{Item}
use Rattle.mast_expressions.specs.Given.{IsNamed, IsInverseOf, IsRole, IsSomeOf, IsSubjectsOf, IsLeft}
use Rattle.mast_tree.specs.Pages.{Page}

-- a name
pub named_known : (lists : Lists) (kind : NameKind) (page : Page) (item : Item) (name : Name) → IsNamed lists kind page item name → StandsIn lists kind name.0
named_known lists kind page item name h = slice_get_within (iris lists kind) name.0 h.0 h.2

inverse_known : (lists : Lists) (page : Page) (items : List Item) (p : Name) → IsInverseOf lists page items p → StandsIn lists kinds.Role p.0
inverse_known lists page [] p h = absurd h
inverse_known lists page (only ∷ []) p h = named_known lists kinds.Role page only p h
inverse_known lists page (one ∷ other ∷ more) p h = absurd h

-- a role
pub role_known : (lists : Lists) (page : Page) (item : Item) (r : RoleExpr) → IsRole lists page item r → RoleNamed (StandsIn lists) r
role_known lists page item (Direct p) h = named_known lists kinds.Role page item p h
role_known lists page item (Inverse p) h = inverse_known lists page h.0 p h.2

some_known : (lists : Lists) (page : Page) (items : List Item) (r : RoleExpr) → IsSomeOf lists page items r → RoleNamed (StandsIn lists) r
some_known lists page [] r h = absurd h
some_known lists page (one ∷ []) r h = absurd h
some_known lists page (role ∷ filler ∷ []) r h = role_known lists page role r h.0
some_known lists page (one ∷ two ∷ three ∷ more) r h = absurd h

subjects_known : (lists : Lists) (page : Page) (items : List Item) (u : Name) → IsSubjectsOf lists page items u → StandsIn lists kinds.Attr u.0
subjects_known lists page [] u h = absurd h
subjects_known lists page (one ∷ []) u h = absurd h
subjects_known lists page (attr ∷ filler ∷ []) u h = named_known lists kinds.Attr page attr u h.0
subjects_known lists page (one ∷ two ∷ three ∷ more) u h = absurd h

-- a left side
pub left_known : (lists : Lists) (page : Page) (item : Item) (b : Basic) → IsLeft lists page item b → BasicNamed (StandsIn lists) b
left_known lists page item (basic.Class a) h = named_known lists kinds.Class page item a h
left_known lists page item (basic.Some r) h = some_known lists page h.0 r h.2
left_known lists page item (basic.Subjects u) h = subjects_known lists page h.0 u h.2
