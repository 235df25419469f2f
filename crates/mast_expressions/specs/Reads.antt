-- What each place is read to: what stands there, where nothing is wrong with it, or its first breach.
use Rattle.std.specs.Prelude.{ℕ, List, Result}
use Rattle.mast_terms.specs.declared.memory.Stop.{Stop}
use Rattle.mast_terms.specs.declared.name.Name.{Name}
use Rattle.mast_terms.specs.declared.name.NameKind.{NameKind}
use Rattle.mast_terms.specs.Vocabularies.{Lists}
use Rattle.mast_tbox.specs.declared.expression.Basic.{Basic}
use Rattle.mast_tbox.specs.declared.expression.RoleExpr.{RoleExpr}
use Rattle.mast_tree.specs.declared.item.Item.{Item}
use Rattle.mast_tree.specs.declared.shape.ShapeBreach.{ShapeBreach}
use Rattle.mast_tree.specs.declared.shape.ShapeKind.{ShapeKind}
use Rattle.mast_tree.specs.Judgements.{Judges}
use Rattle.mast_tree.specs.Seen.{seen}
use Rattle.mast_expressions.specs.declared.places.Places.{Places}
use Rattle.mast_expressions.specs.Given.{IsNamed, IsClassIn, IsAttr, IsRole, IsLeft}
use Rattle.mast_expressions.specs.Judged.{named_judged, is_iri_judged, class_judged, attr_judged, role_judged, left_judged}
use Rattle.mast_tree.specs.Pages.{Page, page_of, Expands}

-- the page of the document of these places
abbrev pub page : Places → Page
page places = page_of (seen places.doc.now) places.prefixes.now

-- a name of a kind was read
abbrev pub ReadsNamed : ShapeKind → NameKind → Page → Item → Lists → Lists → Result Name (Stop ShapeBreach) → Type 0
ReadsNamed other kind page item old new result = Judges old (named_judged other kind page item) new (IsNamed new kind page item) result

-- the wanted IRI was read, which changes no vocabulary
abbrev pub ReadsIri : List ℕ → ShapeKind → Page → Item → Result (Unit {0}) (Stop ShapeBreach) → Type 0
ReadsIri wanted other page item result =
    (lists : Lists) → Judges lists (is_iri_judged wanted other page item) lists (λ u. Expands page item wanted) result

-- a class was read
abbrev pub ReadsClass : ShapeKind → Page → Item → Lists → Lists → Result Name (Stop ShapeBreach) → Type 0
ReadsClass other page item old new result = Judges old (class_judged other page item) new (IsClassIn new page item) result

-- a role was read
abbrev pub ReadsRole : ShapeKind → Page → Item → Lists → Lists → Result RoleExpr (Stop ShapeBreach) → Type 0
ReadsRole other page item old new result = Judges old (role_judged other page item) new (IsRole new page item) result

-- an attribute was read
abbrev pub ReadsAttr : ShapeKind → Page → Item → Lists → Lists → Result Name (Stop ShapeBreach) → Type 0
ReadsAttr other page item old new result = Judges old (attr_judged other page item) new (IsAttr new page item) result

-- a left side was read
abbrev pub ReadsLeft : Page → Item → Lists → Lists → Result Basic (Stop ShapeBreach) → Type 0
ReadsLeft page item old new result = Judges old (left_judged page item) new (IsLeft new page item) result
