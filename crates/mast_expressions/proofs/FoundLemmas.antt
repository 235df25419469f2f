-- Where nothing is wrong with an item in its place, it says something there.
use Rattle.std.proofs.Common.{◌≡◌, refl, sym, ap, ◌∙◌, subst, ℕ, zero, suc, Bool, true, false, true≢false, List, [], ◌∷◌, ◌++◌, length, Option, Some, None}
use Rattle.std.specs.Prelude.{Result, Ok, Err, slice_get, codes, if◌then◌else◌, ◌||◌}
use Rattle.std.specs.List.{list_any}
use Rattle.std.specs.Str.{bytes_eq}
use Rattle.std.proofs.lemmas.Slice.Eq.{bytes_eq-Decides}
use Rattle.mast_terms.specs.declared.name.Name.{Name}
use Rattle.mast_terms.specs.declared.name.NameKind.{NameKind}
use Rattle.mast_terms.specs.declared.name.NameKind.TheVariants as kinds
use Rattle.mast_terms.specs.Vocabularies.{Lists, iris, stands, joined, with_iri}
use Rattle.mast_terms.proofs.PlaceLemmas.{slice_get-push}
use Rattle.mast_tbox.specs.declared.expression.Basic.{Basic}
use Rattle.mast_tbox.specs.declared.expression.Basic.TheVariants as basic
use Rattle.mast_tbox.specs.declared.expression.RoleExpr.{RoleExpr}
use Rattle.mast_tbox.specs.declared.expression.RoleExpr.TheVariants.{Direct, Inverse}
use Rattle.mast_tree.specs.declared.item.Item.{Item}
use Rattle.mast_tree.specs.declared.shape.ShapeBreach.{ShapeBreach}
use Rattle.mast_tree.specs.declared.shape.ShapeKind.{ShapeKind}
use Rattle.mast_tree.specs.declared.shape.ShapeKind.TheVariants.{NotDlLite, Datatype, TopOnLeft}
use Rattle.mast_tree.specs.Judgements.{Judgement, uses, breaks, after, first_breach}
use Rattle.mast_tree.specs.Names.{is_standard, iri_judged}
use Rattle.mast_tree.specs.Said.{Said, name, iri, text, tagged, binding, node, line}
use Rattle.mast_tree.proofs.GrowingLemmas.{after_begins}
use Rattle.mast_tree.proofs.JudgementLemmas.{after-append, first_breach-append}
use Rattle.mast_tree.specs.Pages.{Page, says, names, Expands}
use Rattle.mast_expressions.specs.Iris.{owl_thing, rdfs_literal, node_line, unless_node, expanded}
use Rattle.mast_expressions.specs.Judged.{named_judged, inverse_judged, role_said, role_judged, compared, is_iri_judged, some_judged, subjects_judged, left_iri, left_said, left_judged}
use Rattle.mast_expressions.specs.Given.{IsNamed, IsInverseOf, IsRole, IsSomeOf, IsSubjectsOf, IsLeft}
use Rattle.mast_expressions.proofs.GivenLemmas.{named_grows, role_grows}
use Rattle.mast_expressions.proofs.ReadLemmas.{is_node}
use Rattle.mast_tree.proofs.VocabularyLemmas.{none_of}

-- nothing is wrong with the first part, nor with the second over the lists after it
pub none_parts : (old : Lists) (first second : List Judgement) → first_breach old (first ++ second) ≡ None
    → (first_breach old first ≡ None) × (first_breach (after old first) second ≡ None)
none_parts old first second h = none_of (first_breach old first) (first_breach (after old first) second) (sym (first_breach-append old first second) ∙ h)

-- an IRI that stands has a place
place_found : (xs : List (List ℕ)) (x : List ℕ) → list_any (bytes_eq x) xs ≡ true → (n : ℕ) × (slice_get xs n ≡ Some x)
place_found [] x h = absurd (true≢false (sym h))
place_found (y ∷ ys) x h = by (bytes_eq x y) refl (place_found ys x) h
  where
    by : (b : Bool) → bytes_eq x y ≡ b → (list_any (bytes_eq x) ys ≡ true → (n : ℕ) × (slice_get ys n ≡ Some x)) → (b || list_any (bytes_eq x) ys) ≡ true → (n : ℕ) × (slice_get (y ∷ ys) n ≡ Some x)
    by true e rest g = (zero, ap (λ z. Some z) (sym ((bytes_eq-Decides x y).0 e)))
    by false e rest g = let w = rest g in (suc w.0, w.1)

-- an IRI that is joined has a place
joined_found : (known : List (List ℕ)) (x : List ℕ) → (n : ℕ) × (slice_get (joined x known) n ≡ Some x)
joined_found known x = by (stands x known) refl
  where
    by : (b : Bool) → stands x known ≡ b → (n : ℕ) × (slice_get (if b then known else known ++ x ∷ []) n ≡ Some x)
    by true e = place_found known x e
    by false e = (length known, slice_get-push known x)

-- so has one that is used as a name
used_found : (lists : Lists) (kind : NameKind) (x : List ℕ) → (n : ℕ) × (slice_get (iris (with_iri lists kind x) kind) n ≡ Some x)
used_found lists kinds.Class x = joined_found lists.classes x
used_found lists kinds.Role x = joined_found lists.roles x
used_found lists kinds.Attr x = joined_found lists.attributes x

used_where : (old : Lists) (kind : NameKind) (x : List ℕ) (at : ℕ) (b : Bool)
    → first_breach old (if b then breaks NotDlLite at ∷ [] else uses kind x at ∷ []) ≡ None → (if b then breaks NotDlLite at ∷ [] else uses kind x at ∷ []) ≡ uses kind x at ∷ []
used_where old kind x at true h = absurd (cc)
used_where old kind x at false h = refl

-- an IRI that is judged as a name without a breach
iri_found : (old : Lists) (kind : NameKind) (e : Result (List ℕ) ShapeBreach) (at : ℕ) → first_breach old (iri_judged kind e at) ≡ None
    → (x : List ℕ) × (n : Name) × (e ≡ Ok x) × (slice_get (iris (after old (iri_judged kind e at)) kind) n.0 ≡ Some x)
iri_found old kind (Err breach) at h = absurd (cc)
iri_found old kind (Ok x) at h =
    let w = used_found old kind x in
    let u : iri_judged kind (Ok x) at ≡ uses kind x at ∷ [] = used_where old kind x at (is_standard x) h in
    (x, record { 0 = w.0 }, refl, subst (λ js. slice_get (iris (after old js) kind) w.0 ≡ Some x) (sym u) w.1)

expanded_names : (other : ShapeKind) (at : Option ℕ) (e : Result (List ℕ) ShapeBreach) (x : List ℕ) → unless_node other at e ≡ Ok x → e ≡ Ok x
expanded_names other None e x h = h
expanded_names other (Some at) e x h = absurd (cc)

-- a name
pub named_found : (old : Lists) (other : ShapeKind) (kind : NameKind) (page : Page) (item : Item) → first_breach old (named_judged other kind page item) ≡ None
    → (n : Name) × IsNamed (after old (named_judged other kind page item)) kind page item n
named_found old other kind page item h =
    let w = iri_found old kind (expanded other page item) (line (says page item)) h in
    (w.1, (w.0, expanded_names other (node_line (says page item)) (names page item) w.0 w.2, w.3))

inverse_found : (old : Lists) (page : Page) (at : ℕ) (items : List Item) → first_breach old (inverse_judged page at items) ≡ None
    → (n : Name) × IsInverseOf (after old (inverse_judged page at items)) page items n
inverse_found old page at [] h = absurd (cc)
inverse_found old page at (only ∷ []) h = named_found old NotDlLite kinds.Role page only h
inverse_found old page at (one ∷ two ∷ more) h = absurd (cc)

role_node_found : (old : Lists) (other : ShapeKind) (page : Page) (item : Item) (word : List ℕ) (at : ℕ) (items : List Item) (b : Bool)
    → says page item ≡ node word at items → bytes_eq word (codes "ObjectInverseOf") ≡ b
    → first_breach old (if b then inverse_judged page at items else breaks other at ∷ []) ≡ None
    → (r : RoleExpr) × IsRole (after old (if b then inverse_judged page at items else breaks other at ∷ [])) page item r
role_node_found old other page item word at items true e w h =
    let found = inverse_found old page at items h in
    (Inverse found.0, (items, is_node page item word (codes "ObjectInverseOf") at items e w, found.1))
role_node_found old other page item word at items false e w h = absurd (cc)

role_leaf_found : (old : Lists) (other : ShapeKind) (page : Page) (item : Item) → first_breach old (named_judged other kinds.Role page item) ≡ None
    → (r : RoleExpr) × IsRole (after old (named_judged other kinds.Role page item)) page item r
role_leaf_found old other page item h = let found = named_found old other kinds.Role page item h in (Direct found.0, found.1)

role_said_found : (old : Lists) (other : ShapeKind) (page : Page) (item : Item) (s : Said) → says page item ≡ s → first_breach old (role_said other page item s) ≡ None
    → (r : RoleExpr) × IsRole (after old (role_said other page item s)) page item r
role_said_found old other page item (name word at) e h = role_leaf_found old other page item h
role_said_found old other page item (iri word at) e h = role_leaf_found old other page item h
role_said_found old other page item (text chars at) e h = role_leaf_found old other page item h
role_said_found old other page item (tagged at) e h = role_leaf_found old other page item h
role_said_found old other page item (binding at) e h = role_leaf_found old other page item h
role_said_found old other page item (node word at items) e h = role_node_found old other page item word at items (bytes_eq word (codes "ObjectInverseOf")) e refl h

-- a role
pub role_found : (old : Lists) (other : ShapeKind) (page : Page) (item : Item) → first_breach old (role_judged other page item) ≡ None
    → (r : RoleExpr) × IsRole (after old (role_judged other page item)) page item r
role_found old other page item h = role_said_found old other page item (says page item) refl h

compared_where : (lists : Lists) (wanted x : List ℕ) (other : ShapeKind) (at : ℕ) (b : Bool) → bytes_eq x wanted ≡ b
    → first_breach lists (if b then [] else breaks other at ∷ []) ≡ None → x ≡ wanted
compared_where lists wanted x other at true e h = (bytes_eq-Decides x wanted).0 e
compared_where lists wanted x other at false e h = absurd (cc)

compared_found : (lists : Lists) (wanted : List ℕ) (other : ShapeKind) (e : Result (List ℕ) ShapeBreach) (at : ℕ) → first_breach lists (compared wanted other e at) ≡ None → e ≡ Ok wanted
compared_found lists wanted other (Err breach) at h = absurd (cc)
compared_found lists wanted other (Ok x) at h = ap Ok (compared_where lists wanted x other at (bytes_eq x wanted) refl h)

-- a wanted IRI
pub wanted_found : (lists : Lists) (wanted : List ℕ) (other : ShapeKind) (page : Page) (item : Item) → first_breach lists (is_iri_judged wanted other page item) ≡ None → Expands page item wanted
wanted_found lists wanted other page item h =
    expanded_names NotDlLite (node_line (says page item)) (names page item) wanted (compared_found lists wanted other (expanded NotDlLite page item) (line (says page item)) h)

-- what a role is stays so after what is judged behind it
pub role_behind : (old : Lists) (page : Page) (item : Item) (r : RoleExpr) (first second : List Judgement) → IsRole (after old first) page item r → IsRole (after old (first ++ second)) page item r
role_behind old page item r first second h =
    subst (λ lists. IsRole lists page item r) (sym (after-append old first second)) (role_grows (after (after old first) second) (after old first) page item r (after_begins (after old first) second) h)

-- what a name is, too
pub named_behind : (old : Lists) (kind : NameKind) (page : Page) (item : Item) (n : Name) (first second : List Judgement) → IsNamed (after old first) kind page item n → IsNamed (after old (first ++ second)) kind page item n
named_behind old kind page item n first second h =
    subst (λ lists. IsNamed lists kind page item n) (sym (after-append old first second)) (named_grows (after (after old first) second) (after old first) kind page item n (after_begins (after old first) second) h)

some_found : (old : Lists) (page : Page) (at : ℕ) (items : List Item) → first_breach old (some_judged page at items) ≡ None → (r : RoleExpr) × IsSomeOf (after old (some_judged page at items)) page items r
some_found old page at [] h = absurd (cc)
some_found old page at (one ∷ []) h = absurd (cc)
some_found old page at (role ∷ filler ∷ []) h =
    let parts = none_parts old (role_judged NotDlLite page role) (is_iri_judged owl_thing NotDlLite page filler) h in
    let found = role_found old NotDlLite page role parts.0 in (
      found.0,
      (
        role_behind old page role found.0 (role_judged NotDlLite page role) (is_iri_judged owl_thing NotDlLite page filler) found.1,
        wanted_found (after old (role_judged NotDlLite page role)) owl_thing NotDlLite page filler parts.1,
      ),
    )
some_found old page at (one ∷ two ∷ three ∷ more) h = absurd (cc)

subjects_found : (old : Lists) (page : Page) (at : ℕ) (items : List Item) → first_breach old (subjects_judged page at items) ≡ None → (n : Name) × IsSubjectsOf (after old (subjects_judged page at items)) page items n
subjects_found old page at [] h = absurd (cc)
subjects_found old page at (one ∷ []) h = absurd (cc)
subjects_found old page at (attr ∷ filler ∷ []) h =
    let parts = none_parts old (named_judged NotDlLite kinds.Attr page attr) (is_iri_judged rdfs_literal Datatype page filler) h in
    let found = named_found old NotDlLite kinds.Attr page attr parts.0 in (
      found.0,
      (
        named_behind old kinds.Attr page attr found.0 (named_judged NotDlLite kinds.Attr page attr) (is_iri_judged rdfs_literal Datatype page filler) found.1,
        wanted_found (after old (named_judged NotDlLite kinds.Attr page attr)) rdfs_literal Datatype page filler parts.1,
      ),
    )
subjects_found old page at (one ∷ two ∷ three ∷ more) h = absurd (cc)

values_where : (old : Lists) (page : Page) (item : Item) (word : List ℕ) (at : ℕ) (items : List Item) (b : Bool) → says page item ≡ node word at items → bytes_eq word (codes "DataSomeValuesFrom") ≡ b
    → first_breach old (if b then subjects_judged page at items else breaks NotDlLite at ∷ []) ≡ None
    → (c : Basic) × IsLeft (after old (if b then subjects_judged page at items else breaks NotDlLite at ∷ [])) page item c
values_where old page item word at items true e w h =
    let found = subjects_found old page at items h in (basic.Subjects found.0, (items, is_node page item word (codes "DataSomeValuesFrom") at items e w, found.1))
values_where old page item word at items false e w h = absurd (cc)

left_node_found : (old : Lists) (page : Page) (item : Item) (word : List ℕ) (at : ℕ) (items : List Item) (b : Bool) → says page item ≡ node word at items → bytes_eq word (codes "ObjectSomeValuesFrom") ≡ b
    → first_breach old (if b then some_judged page at items else if bytes_eq word (codes "DataSomeValuesFrom") then subjects_judged page at items else breaks NotDlLite at ∷ []) ≡ None
    → (c : Basic) × IsLeft (after old (if b then some_judged page at items else if bytes_eq word (codes "DataSomeValuesFrom") then subjects_judged page at items else breaks NotDlLite at ∷ [])) page item c
left_node_found old page item word at items true e w h =
    let found = some_found old page at items h in (basic.Some found.0, (items, is_node page item word (codes "ObjectSomeValuesFrom") at items e w, found.1))
left_node_found old page item word at items false e w h = values_where old page item word at items (bytes_eq word (codes "DataSomeValuesFrom")) e refl h

class_where : (old : Lists) (page : Page) (item : Item) (x : List ℕ) (at : ℕ) (b : Bool) → names page item ≡ Ok x
    → first_breach old (if b then breaks TopOnLeft at ∷ [] else iri_judged kinds.Class (Ok x) at) ≡ None
    → (c : Basic) × IsLeft (after old (if b then breaks TopOnLeft at ∷ [] else iri_judged kinds.Class (Ok x) at)) page item c
class_where old page item x at true e h = absurd (cc)
class_where old page item x at false e h =
    let w = iri_found old kinds.Class (Ok x) at h in
    (basic.Class w.1, (w.0, e ∙ w.2, w.3))

left_iri_found : (old : Lists) (page : Page) (item : Item) (e : Result (List ℕ) ShapeBreach) (at : ℕ) → names page item ≡ e → first_breach old (left_iri e at) ≡ None
    → (c : Basic) × IsLeft (after old (left_iri e at)) page item c
left_iri_found old page item (Err breach) at e h = absurd (cc)
left_iri_found old page item (Ok x) at e h = class_where old page item x at (bytes_eq x owl_thing) e h

left_said_found : (old : Lists) (page : Page) (item : Item) (s : Said) → says page item ≡ s → first_breach old (left_said page item s) ≡ None
    → (c : Basic) × IsLeft (after old (left_said page item s)) page item c
left_said_found old page item (name word at) e h = left_iri_found old page item (names page item) at refl h
left_said_found old page item (iri word at) e h = left_iri_found old page item (names page item) at refl h
left_said_found old page item (text chars at) e h = left_iri_found old page item (names page item) at refl h
left_said_found old page item (tagged at) e h = left_iri_found old page item (names page item) at refl h
left_said_found old page item (binding at) e h = left_iri_found old page item (names page item) at refl h
left_said_found old page item (node word at items) e h = left_node_found old page item word at items (bytes_eq word (codes "ObjectSomeValuesFrom")) e refl h

-- a left side
pub left_found : (old : Lists) (page : Page) (item : Item) → first_breach old (left_judged page item) ≡ None → (c : Basic) × IsLeft (after old (left_judged page item)) page item c
left_found old page item h = left_said_found old page item (says page item) refl h
