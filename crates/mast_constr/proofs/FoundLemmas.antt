-- Where nothing is wrong with an item of the constraints, it says something.
use Rattle.std.proofs.Common.{◌≡◌, inl, inr, refl, sym, ap, ◌∙◌, subst, ℕ, zero, suc, Bool, true, false, true≢false, List, [], ◌∷◌, ◌++◌, length, Option, Some, None}
use Rattle.std.specs.Prelude.{Result, Ok, Err, slice_get, codes, if◌then◌else◌, ◌||◌, nat_lt}
use Rattle.std.specs.List.{list_any}
use Rattle.std.specs.Str.{bytes_eq}
use Rattle.std.proofs.lemmas.Slice.Eq.{bytes_eq-Decides}
use Rattle.mast_cq.specs.declared.atom.Arg.{Arg}
use Rattle.mast_cq.specs.declared.atom.Arg.TheVariants as arg
use Rattle.mast_cq.specs.declared.atom.Atom.{Atom}
use Rattle.mast_cq.specs.declared.atom.Atom.TheVariants as atom
use Rattle.mast_terms.specs.declared.name.Name.{Name}
use Rattle.mast_terms.specs.declared.name.NameKind.TheVariants as kinds
use Rattle.mast_terms.specs.declared.value.Value.{Value as AValue}
use Rattle.mast_terms.specs.Vocabularies.{Lists, same_value, value_stands, joined_value}
use Rattle.mast_terms.proofs.OrderLemmas.{value_equality_test}
use Rattle.mast_terms.proofs.PlaceLemmas.{slice_get-push}
use Rattle.mast_tbox.specs.declared.axiom.Lined.{Lined}
use Rattle.mast_tbox.specs.declared.constraint.Constraint.{Constraint}
use Rattle.mast_tbox.specs.declared.constraint.Constraint.TheVariants as constraint
use Rattle.mast_tbox.specs.declared.constraint.Step.{Step}
use Rattle.mast_tbox.specs.declared.constraint.Step.TheVariants as step
use Rattle.mast_tbox.specs.declared.expression.Basic.{Basic}
use Rattle.mast_tbox.specs.declared.expression.Prop.{Prop}
use Rattle.mast_tbox.specs.declared.expression.Prop.TheVariants as prop
use Rattle.mast_tbox.specs.declared.constraint.TheConstants.{MOST_ATOMS}
use Rattle.mast_tbox.specs.Lists.{AreEach}
use Rattle.mast_tree.specs.declared.item.Item.{Item}
use Rattle.mast_tree.specs.declared.shape.ShapeBreach.{ShapeBreach}
use Rattle.mast_tree.specs.declared.shape.ShapeKind.TheVariants.{Shape, Atoms}
use Rattle.mast_tree.specs.Constants.{constant_of}
use Rattle.mast_tree.specs.Growing.{Begins}
use Rattle.mast_tree.specs.Judgements.{Judgement, breaks, after, first_breach}
use Rattle.mast_tree.specs.Said.{Said, name, iri, text, tagged, binding, node, line}
use Rattle.mast_tree.proofs.GrowingLemmas.{begins_same, after_begins}
use Rattle.mast_tree.proofs.JudgementLemmas.{after-append}
use Rattle.mast_expressions.specs.Given.{IsNamed, IsLeft}
use Rattle.mast_expressions.specs.Judged.{named_judged, left_judged, role_judged}
use Rattle.mast_tree.specs.Pages.{Page, says}
use Rattle.mast_expressions.proofs.FoundLemmas.{none_parts, named_found, role_found, left_found}
use Rattle.mast_expressions.proofs.GivenLemmas.{named_grows, left_grows}
use Rattle.mast_expressions.proofs.ReadLemmas.{is_node}
use Rattle.mast_tree.specs.Empty.{is_empty}
use Rattle.mast_constr.specs.inside.Atoms.{joined, placed}
use Rattle.mast_constr.specs.declared.variables.Sort.{Sort}
use Rattle.mast_constr.specs.declared.variables.Sort.TheVariants.{Object, Value}
use Rattle.mast_constr.specs.Denials as denial
use Rattle.mast_constr.specs.inside.Atoms as within
use Rattle.mast_constr.specs.Items as item_of
use Rattle.mast_constr.specs.Paths as paths_of
use Rattle.mast_constr.specs.Variables.{Variables, variable, sort_of, sort_judged, variable_judged, IsVariable}
use Rattle.mast_constr.proofs.FirstPlaceLemmas.{object_behind, value_behind}
use Rattle.mast_constr.proofs.BehindLemmas.{judged_is}
use Rattle.mast_constr.proofs.PlaceLemmas.{variables_are}
use Rattle.mast_constr.proofs.GrowLemmas.{step_grows, path_grows, atom_grows, lined_grows}
use Rattle.mast_constr.proofs.VariableLemmas.{begins_here, placed_begins, atoms_begin, variable_grows}

-- what holds of the vocabulary after a part holds of that after more, if it is kept
behind : (R : Lists → Type 0) → ((new old : Lists) → Begins new old → R old → R new) → (old : Lists) (first second : List Judgement)
    → R (after old first) → R (after old (first ++ second))
behind R grows old first second h =
    subst R (sym (after-append old first second)) (grows (after (after old first) second) (after old first) (after_begins (after old first) second) h)

-- what holds of the vocabulary after both parts
after_both : (R : Lists → Type 0) (old : Lists) (first second : List Judgement) → R (after (after old first) second) → R (after old (first ++ second))
after_both R old first second h = subst R (sym (after-append old first second)) h

test_found : (old : Lists) (page : Page) (at : ℕ) (items : List Item) → first_breach old (paths_of.test_judged page at items) ≡ None
    → (a : Name) × paths_of.IsTestOf (after old (paths_of.test_judged page at items)) page items a
test_found old page at [] h = absurd (cc)
test_found old page at (only ∷ []) h = named_found old Shape kinds.Class page only h
test_found old page at (one ∷ two ∷ more) h = absurd (cc)

attribute_found : (old : Lists) (page : Page) (at : ℕ) (items : List Item) → first_breach old (paths_of.attribute_judged page at items) ≡ None
    → (u : Name) × paths_of.IsAttrOf (after old (paths_of.attribute_judged page at items)) page items u
attribute_found old page at [] h = absurd (cc)
attribute_found old page at (only ∷ []) h = named_found old Shape kinds.Attr page only h
attribute_found old page at (one ∷ two ∷ more) h = absurd (cc)

role_step : (old : Lists) (page : Page) (item : Item) → first_breach old (role_judged Shape page item) ≡ None
    → (s : Step) × paths_of.IsStep (after old (role_judged Shape page item)) page item s
role_step old page item h = let found = role_found old Shape page item h in (step.Role found.0, found.1)

last_step : (old : Lists) (last : Bool) (page : Page) (item : Item) (word : List ℕ) (at : ℕ) (items : List Item)
    → says page item ≡ node word at items → bytes_eq word (codes "Attr") ≡ true → first_breach old (paths_of.last_judged last page at items) ≡ None
    → (s : Step) × paths_of.IsStep (after old (paths_of.last_judged last page at items)) page item s
last_step old true page item word at items e w h =
    let found = attribute_found old page at items h in (step.Attr found.0, (items, is_node page item word (codes "Attr") at items e w, found.1))
last_step old false page item word at items e w h = absurd (cc)

attr_or_role : (old : Lists) (last : Bool) (page : Page) (item : Item) (word : List ℕ) (at : ℕ) (items : List Item) (b : Bool)
    → says page item ≡ node word at items → bytes_eq word (codes "Attr") ≡ b
    → first_breach old (if b then paths_of.last_judged last page at items else role_judged Shape page item) ≡ None
    → (s : Step) × paths_of.IsStep (after old (if b then paths_of.last_judged last page at items else role_judged Shape page item)) page item s
attr_or_role old last page item word at items true e w h = last_step old last page item word at items e w h
attr_or_role old last page item word at items false e w h = role_step old page item h

node_step : (old : Lists) (last : Bool) (page : Page) (item : Item) (word : List ℕ) (at : ℕ) (items : List Item) (b : Bool)
    → says page item ≡ node word at items → bytes_eq word (codes "Test") ≡ b
    → first_breach old (if b then paths_of.test_judged page at items else if bytes_eq word (codes "Attr") then paths_of.last_judged last page at items else role_judged Shape page item) ≡ None
    → (s : Step) × paths_of.IsStep (after old (if b then paths_of.test_judged page at items else if bytes_eq word (codes "Attr") then paths_of.last_judged last page at items else role_judged Shape page item)) page item s
node_step old last page item word at items true e w h =
    let found = test_found old page at items h in (step.Test found.0, (items, is_node page item word (codes "Test") at items e w, found.1))
node_step old last page item word at items false e w h = attr_or_role old last page item word at items (bytes_eq word (codes "Attr")) e refl h

step_found : (old : Lists) (last : Bool) (page : Page) (item : Item) (what : Said) → says page item ≡ what → first_breach old (paths_of.step_said last page item what) ≡ None
    → (s : Step) × paths_of.IsStep (after old (paths_of.step_said last page item what)) page item s
step_found old last page item (name word at) e h = role_step old page item h
step_found old last page item (iri word at) e h = role_step old page item h
step_found old last page item (text chars at) e h = role_step old page item h
step_found old last page item (tagged at) e h = role_step old page item h
step_found old last page item (binding at) e h = role_step old page item h
step_found old last page item (node word at items) e h = node_step old last page item word at items (bytes_eq word (codes "Test")) e refl h

steps_found : (old : Lists) (page : Page) (items : List Item) → first_breach old (paths_of.steps_judged page items) ≡ None
    → (path : List Step) × AreEach (paths_of.IsStep (after old (paths_of.steps_judged page items)) page) items path
steps_found old page [] h = ([], tt)
steps_found old page (i ∷ is) h =
    let first = paths_of.step_judged (is_empty is) page i in
    let parts = none_parts old first (paths_of.steps_judged page is) h in
    let s = step_found old (is_empty is) page i (says page i) refl parts.0 in
    let rest = steps_found (after old first) page is parts.1 in (
      s.0 ∷ rest.0,
      (
        behind (λ lists. paths_of.IsStep lists page i s.0) (λ new before b. step_grows new before page b i s.0) old first (paths_of.steps_judged page is) s.1,
        after_both (λ lists. AreEach (paths_of.IsStep lists page) is rest.0) old first (paths_of.steps_judged page is) rest.1,
      ),
    )

leading_path : (old : Lists) (page : Page) (item : Item) (word : List ℕ) (at : ℕ) (items : List Item) (b : Bool)
    → says page item ≡ node word at items → bytes_eq word (codes "Path") ≡ true
    → first_breach old (if b then paths_of.steps_judged page items else breaks Shape at ∷ []) ≡ None
    → (path : List Step) × paths_of.IsPath (after old (if b then paths_of.steps_judged page items else breaks Shape at ∷ [])) page item path
leading_path old page item word at items true e w h =
    let found = steps_found old page items h in (found.0, (items, is_node page item word (codes "Path") at items e w, found.1))
leading_path old page item word at items false e w h = absurd (cc)

node_path : (old : Lists) (page : Page) (item : Item) (word : List ℕ) (at : ℕ) (items : List Item) (b : Bool)
    → says page item ≡ node word at items → bytes_eq word (codes "Path") ≡ b
    → first_breach old (if b then paths_of.path_items page at items else breaks Shape at ∷ []) ≡ None
    → (path : List Step) × paths_of.IsPath (after old (if b then paths_of.path_items page at items else breaks Shape at ∷ [])) page item path
node_path old page item word at items true e w h = leading_path old page item word at items (paths_of.some_leads page items) e w h
node_path old page item word at items false e w h = absurd (cc)

path_found : (old : Lists) (page : Page) (item : Item) (what : Said) → says page item ≡ what → first_breach old (paths_of.path_said page what) ≡ None
    → (path : List Step) × paths_of.IsPath (after old (paths_of.path_said page what)) page item path
path_found old page item (name word at) e h = absurd (cc)
path_found old page item (iri word at) e h = absurd (cc)
path_found old page item (text chars at) e h = absurd (cc)
path_found old page item (tagged at) e h = absurd (cc)
path_found old page item (binding at) e h = absurd (cc)
path_found old page item (node word at items) e h = node_path old page item word at items (bytes_eq word (codes "Path")) e refl h

paths_found : (old : Lists) (page : Page) (items : List Item) → first_breach old (paths_of.paths_judged page items) ≡ None
    → (paths : List (List Step)) × AreEach (paths_of.IsPath (after old (paths_of.paths_judged page items)) page) items paths
paths_found old page [] h = ([], tt)
paths_found old page (i ∷ is) h =
    let first = paths_of.path_judged page i in
    let parts = none_parts old first (paths_of.paths_judged page is) h in
    let p = path_found old page i (says page i) refl parts.0 in
    let rest = paths_found (after old first) page is parts.1 in (
      p.0 ∷ rest.0,
      (
        behind (λ lists. paths_of.IsPath lists page i p.0) (λ new before b. path_grows new before page b i p.0) old first (paths_of.paths_judged page is) p.1,
        after_both (λ lists. AreEach (paths_of.IsPath lists page) is rest.0) old first (paths_of.paths_judged page is) rest.1,
      ),
    )

identified_found : (old : Lists) (is : Bool) (page : Page) (at : ℕ) (left : Item) (items : List Item) → first_breach old (paths_of.identified_judged is page at left items) ≡ None
    → (c : Basic) × (paths : List (List Step)) × paths_of.AreIdentified (after old (paths_of.identified_judged is page at left items)) page (left ∷ items) c paths
identified_found old true page at left items h = absurd (cc)
identified_found old false page at left items h =
    let parts = none_parts old (left_judged page left) (paths_of.paths_judged page items) h in
    let c = left_found old page left parts.0 in
    let rest = paths_found (after old (left_judged page left)) page items parts.1 in (
      c.0,
      rest.0,
      (
        behind (λ lists. IsLeft lists page left c.0) (λ new before b. left_grows new before page left c.0 b) old (left_judged page left) (paths_of.paths_judged page items) c.1,
        after_both (λ lists. AreEach (paths_of.IsPath lists page) items rest.0) old (left_judged page left) (paths_of.paths_judged page items) rest.1,
      ),
    )

identify_found : (old : Lists) (page : Page) (at : ℕ) (items : List Item) → first_breach old (paths_of.identify_judged page at items) ≡ None
    → (c : Basic) × (paths : List (List Step)) × paths_of.AreIdentified (after old (paths_of.identify_judged page at items)) page items c paths
identify_found old page at [] h = absurd (cc)
identify_found old page at (one ∷ []) h = absurd (cc)
identify_found old page at (left ∷ i ∷ is) h = identified_found old (paths_of.are_many (paths_of.all_steps page (i ∷ is))) page at left (i ∷ is) h

one_sort : (x y : List ℕ) (s t : Sort) → x ≡ y → ◌≡◌ {A = Option Sort} (Some t) (Some s) → ◌≡◌ {A = Option (List ℕ × Sort)} (Some (y, t)) (Some (x, s))
one_sort x y s t e g = cc

sort_where : (v : List ℕ × Sort) (vs : Variables) (x : List ℕ) (s : Sort) (b : Bool) → bytes_eq x v.0 ≡ b → (if b then Some v.1 else sort_of x vs) ≡ Some s
    → (sort_of x vs ≡ Some s → (n : ℕ) × (slice_get vs n ≡ Some (x, s))) → (n : ℕ) × (slice_get (v ∷ vs) n ≡ Some (x, s))
sort_where v vs x s true e g later = (zero, one_sort x v.0 s v.1 ((bytes_eq-Decides x v.0).0 e) g)
sort_where v vs x s false e g later = let w = later g in (suc w.0, w.1)

sort_place : (known : Variables) (x : List ℕ) (s : Sort) → sort_of x known ≡ Some s → (n : ℕ) × (slice_get known n ≡ Some (x, s))
sort_place [] x s h = absurd (cc)
sort_place (v ∷ vs) x s h = sort_where v vs x s (bytes_eq x v.0) refl h (sort_place vs x s)

same_sorts : (old : Lists) (s t : Sort) (at : ℕ) → first_breach old (sort_judged s (Some t) at) ≡ None → t ≡ s
same_sorts old Object Object at h = refl
same_sorts old Object Value at h = absurd (cc)
same_sorts old Value Object at h = absurd (cc)
same_sorts old Value Value at h = refl

joined_found : (old : Lists) (sort : Sort) (x : List ℕ) (known : Variables) (at : ℕ) (found : Option Sort) → sort_of x known ≡ found
    → first_breach old (sort_judged sort found at) ≡ None → (g : Arg) × IsVariable sort (joined sort x found known) (Some x) g
joined_found old sort x known at None e h = (arg.Var (length known), (x, refl, slice_get-push known (x, sort)))
joined_found old sort x known at (Some other) e h =
    let w = sort_place known x sort (e ∙ ap (λ s. Some s) (same_sorts old sort other at h)) in (arg.Var w.0, (x, refl, w.1))

variable_found : (old : Lists) (sort : Sort) (known : Variables) (found : Option (List ℕ)) (at : ℕ) → first_breach old (variable_judged sort known found at) ≡ None
    → (g : Arg) × IsVariable sort (placed sort found known) found g
variable_found old sort known None at h = absurd (cc)
variable_found old sort known (Some x) at h = joined_found old sort x known at (sort_of x known) refl h

-- a judgement of a variable leaves the vocabulary as it is
sort_after : (old : Lists) (sort : Sort) (found : Option Sort) (at : ℕ) → after old (sort_judged sort found at) ≡ old
sort_after old sort None at = refl
sort_after old Object (Some Object) at = refl
sort_after old Object (Some Value) at = refl
sort_after old Value (Some Object) at = refl
sort_after old Value (Some Value) at = refl

variable_after : (old : Lists) (sort : Sort) (known : Variables) (found : Option (List ℕ)) (at : ℕ) → after old (variable_judged sort known found at) ≡ old
variable_after old sort known None at = refl
variable_after old sort known (Some x) at = sort_after old sort (sort_of x known) at

value_where : (x y : AValue) (ys : List AValue) (b : Bool) → same_value x y ≡ b → (b || list_any (same_value x) ys) ≡ true
    → (list_any (same_value x) ys ≡ true → (n : ℕ) × (slice_get ys n ≡ Some x)) → (n : ℕ) × (slice_get (y ∷ ys) n ≡ Some x)
value_where x y ys true e g later = (zero, ap (λ z. Some z) (sym ((value_equality_test x y).0 e)))
value_where x y ys false e g later = let w = later g in (suc w.0, w.1)

value_place_found : (xs : List AValue) (x : AValue) → list_any (same_value x) xs ≡ true → (n : ℕ) × (slice_get xs n ≡ Some x)
value_place_found [] x h = absurd (true≢false (sym h))
value_place_found (y ∷ ys) x h = value_where x y ys (same_value x y) refl h (value_place_found ys x)

number_found : (known : List AValue) (x : AValue) → (n : ℕ) × (slice_get (joined_value x known) n ≡ Some x)
number_found known x = by (value_stands x known) refl
  where
    by : (b : Bool) → value_stands x known ≡ b → (n : ℕ) × (slice_get (if b then known else known ++ x ∷ []) n ≡ Some x)
    by true e = value_place_found known x e
    by false e = (length known, slice_get-push known x)

constant_found : (old : Lists) (given : Result AValue ShapeBreach) (at : ℕ) → first_breach old (denial.constant_judged given at) ≡ None
    → (g : Arg) × (value : AValue) × (given ≡ Ok value) × denial.IsConstant (after old (denial.constant_judged given at)) value g
constant_found old (Err breach) at h = absurd (cc)
constant_found old (Ok value) at h = let w = number_found old.constants value in (arg.Constant w.0, value, refl, w.1)

leaf_value : (old : Lists) (dates : denial.Dates) (page : Page) (known : Variables) (item : Item) (what : Said) → says page item ≡ what
    → first_breach old (variable_judged Value known (variable what) (line what)) ≡ None
    → (g : Arg) × denial.IsValue dates (after old (variable_judged Value known (variable what) (line what))) page (within.with_value page known item) item g
leaf_value old dates page known item what e h =
    let w = variable_found old Value known (variable what) (line what) h in
    (w.0, inr (subst (λ s. IsVariable Value (placed Value (variable s) known) (variable s) w.0) (sym e) w.1))

value_found : (old : Lists) (dates : denial.Dates) (page : Page) (known : Variables) (item : Item) (what : Said) → says page item ≡ what
    → first_breach old (denial.value_said dates page known what) ≡ None
    → (g : Arg) × denial.IsValue dates (after old (denial.value_said dates page known what)) page (within.with_value page known item) item g
value_found old dates page known item (name word at) e h = leaf_value old dates page known item (name word at) e h
value_found old dates page known item (iri word at) e h = leaf_value old dates page known item (iri word at) e h
value_found old dates page known item (text chars at) e h = leaf_value old dates page known item (text chars at) e h
value_found old dates page known item (tagged at) e h = leaf_value old dates page known item (tagged at) e h
value_found old dates page known item (binding at) e h = leaf_value old dates page known item (binding at) e h
value_found old dates page known item (node word at items) e h =
    let w = constant_found old (constant_of dates page.doc (node word at items)) (denial.inner_line page at items) h in
    (w.0, inl (w.1, ap (constant_of dates page.doc) e ∙ w.2, w.3))

-- what an atom's node gives by its word and its inside
abbrev Inside : denial.Dates → Page → Variables → List ℕ → List Item → Lists → Atom → Type 0
Inside dates page known word items lists g = (denial.atom_word g ≡ word) × denial.IsAtomOf dates lists page known items g

-- the inside of an atom, unless it is one too many
many_found : (P : Lists → Atom → Type 0) (old : Lists) (few : Bool) (at : ℕ) (inside : List Judgement)
    → (first_breach old inside ≡ None → (g : Atom) × P (after old inside) g)
    → first_breach old (if few then inside else breaks Atoms at ∷ []) ≡ None → (g : Atom) × P (after old (if few then inside else breaks Atoms at ∷ [])) g
many_found P old true at inside f h = f h
many_found P old false at inside f h = absurd (cc)

class_inside : (dates : denial.Dates) (old : Lists) (page : Page) (known : Variables) (i j : Item)
    → first_breach old (named_judged Shape kinds.Class page i ++ denial.object_judged page known j) ≡ None
    → (g : Atom) × Inside dates page (within.with_object page known j) (codes "Class") (i ∷ j ∷ []) (after old (named_judged Shape kinds.Class page i ++ denial.object_judged page known j)) g
class_inside dates old page known i j h =
    let first = named_judged Shape kinds.Class page i in
    let second = denial.object_judged page known j in
    let parts = none_parts old first second h in
    let n = named_found old Shape kinds.Class page i parts.0 in
    let x = variable_found (after old first) Object known (variable (says page j)) (line (says page j)) parts.1 in
    (atom.Class n.0 x.0, (refl, (behind (λ lists. IsNamed lists kinds.Class page i n.0) (λ new before b. named_grows new before kinds.Class page i n.0 b) old first second n.1, x.1)))

role_inside : (dates : denial.Dates) (old : Lists) (page : Page) (known : Variables) (i j k : Item)
    → first_breach old (named_judged Shape kinds.Role page i ++ denial.pair_judged page known j k) ≡ None
    → (g : Atom) × Inside dates page (within.with_object page (within.with_object page known j) k) (codes "Role") (i ∷ j ∷ k ∷ []) (after old (named_judged Shape kinds.Role page i ++ denial.pair_judged page known j k)) g
role_inside dates old page known i j k h =
    let first = named_judged Shape kinds.Role page i in
    let second = denial.pair_judged page known j k in
    let parts = none_parts old first second h in
    let between = within.with_object page known j in
    let pair = none_parts (after old first) (denial.object_judged page known j) (denial.object_judged page (known ++ denial.object_place page j) k) parts.1 in
    let second_none = ap (first_breach (after (after old first) (denial.object_judged page known j))) (object_behind page known j k) ∙ pair.1 in
    let n = named_found old Shape kinds.Role page i parts.0 in
    let x = variable_found (after old first) Object known (variable (says page j)) (line (says page j)) pair.0 in
    let y = variable_found (after (after old first) (denial.object_judged page known j)) Object between (variable (says page k)) (line (says page k)) second_none in (
      atom.Role n.0 x.0 y.0,
      (
        refl,
        (
          behind (λ lists. IsNamed lists kinds.Role page i n.0) (λ new before b. named_grows new before kinds.Role page i n.0 b) old first second n.1,
          variable_grows Object (within.with_object page between k) between (variable (says page j)) x.0 (placed_begins Object (variable (says page k)) between) x.1,
          y.1,
        ),
      ),
    )

attr_inside : (dates : denial.Dates) (old : Lists) (page : Page) (known : Variables) (i j k : Item)
    → first_breach old (named_judged Shape kinds.Attr page i ++ denial.filler_judged dates page known j k) ≡ None
    → (g : Atom) × Inside dates page (within.with_value page (within.with_object page known j) k) (codes "Attr") (i ∷ j ∷ k ∷ []) (after old (named_judged Shape kinds.Attr page i ++ denial.filler_judged dates page known j k)) g
attr_inside dates old page known i j k h =
    let first = named_judged Shape kinds.Attr page i in
    let second = denial.filler_judged dates page known j k in
    let parts = none_parts old first second h in
    let between = within.with_object page known j in
    let last = within.with_value page between k in
    let from = denial.object_judged page known j in
    let to = denial.value_judged dates page (known ++ denial.object_place page j) k in
    let pair = none_parts (after old first) from to parts.1 in
    let n = named_found old Shape kinds.Attr page i parts.0 in
    let x = variable_found (after old first) Object known (variable (says page j)) (line (says page j)) pair.0 in
    let same = value_behind dates page known j k in
    let y = value_found (after (after old first) from) dates page between k (says page k) refl (ap (first_breach (after (after old first) from)) same ∙ pair.1) in
    let is = subst (λ js. denial.IsValue dates (after (after (after old first) from) js) page last k y.0) same y.1 in (
      atom.Attr n.0 x.0 y.0,
      (
        refl,
        (
          behind (λ lists. IsNamed lists kinds.Attr page i n.0) (λ new before b. named_grows new before kinds.Attr page i n.0 b) old first second n.1,
          variable_grows Object last between (variable (says page j)) x.0 (placed_begins Value (variable (says page k)) between) x.1,
          after_both (λ lists. denial.IsValue dates lists page last k y.0) old first second (after_both (λ lists. denial.IsValue dates lists page last k y.0) (after old first) from to is),
        ),
      ),
    )

class_found : (dates : denial.Dates) (old : Lists) (page : Page) (number : ℕ) (known : Variables) (at : ℕ) (items : List Item)
    → first_breach old (denial.class_atom page number known at items) ≡ None
    → (g : Atom) × Inside dates page (within.with_arguments (codes "Class") page known items) (codes "Class") items (after old (denial.class_atom page number known at items)) g
class_found dates old page number known at [] h = absurd (cc)
class_found dates old page number known at (i ∷ []) h = absurd (cc)
class_found dates old page number known at (i ∷ j ∷ []) h =
    many_found (Inside dates page (within.with_object page known j) (codes "Class") (i ∷ j ∷ [])) old (nat_lt number MOST_ATOMS) at
    (named_judged Shape kinds.Class page i ++ denial.object_judged page known j) (class_inside dates old page known i j) h
class_found dates old page number known at (i ∷ j ∷ k ∷ ks) h = absurd (cc)

roles_found : (dates : denial.Dates) (old : Lists) (page : Page) (number : ℕ) (known : Variables) (at : ℕ) (items : List Item)
    → first_breach old (denial.role_atom page number known at items) ≡ None
    → (g : Atom) × Inside dates page (within.with_arguments (codes "Role") page known items) (codes "Role") items (after old (denial.role_atom page number known at items)) g
roles_found dates old page number known at [] h = absurd (cc)
roles_found dates old page number known at (i ∷ []) h = absurd (cc)
roles_found dates old page number known at (i ∷ j ∷ []) h = absurd (cc)
roles_found dates old page number known at (i ∷ j ∷ k ∷ []) h =
    many_found (Inside dates page (within.with_object page (within.with_object page known j) k) (codes "Role") (i ∷ j ∷ k ∷ [])) old (nat_lt number MOST_ATOMS) at
    (named_judged Shape kinds.Role page i ++ denial.pair_judged page known j k) (role_inside dates old page known i j k) h
roles_found dates old page number known at (i ∷ j ∷ k ∷ l ∷ ls) h = absurd (cc)

fillers_found : (dates : denial.Dates) (old : Lists) (page : Page) (number : ℕ) (known : Variables) (at : ℕ) (items : List Item)
    → first_breach old (denial.attr_atom dates page number known at items) ≡ None
    → (g : Atom) × Inside dates page (within.with_arguments (codes "Attr") page known items) (codes "Attr") items (after old (denial.attr_atom dates page number known at items)) g
fillers_found dates old page number known at [] h = absurd (cc)
fillers_found dates old page number known at (i ∷ []) h = absurd (cc)
fillers_found dates old page number known at (i ∷ j ∷ []) h = absurd (cc)
fillers_found dates old page number known at (i ∷ j ∷ k ∷ []) h =
    many_found (Inside dates page (within.with_value page (within.with_object page known j) k) (codes "Attr") (i ∷ j ∷ k ∷ [])) old (nat_lt number MOST_ATOMS) at
    (named_judged Shape kinds.Attr page i ++ denial.filler_judged dates page known j k) (attr_inside dates old page known i j k) h
fillers_found dates old page number known at (i ∷ j ∷ k ∷ l ∷ ls) h = absurd (cc)

-- what a node of a wanted word gives
by_word : (dates : denial.Dates) (lists : Lists) (page : Page) (known : Variables) (item : Item) (word wanted : List ℕ) (at : ℕ) (items : List Item)
    → says page item ≡ node word at items → bytes_eq word wanted ≡ true
    → (g : Atom) × Inside dates page (within.with_arguments wanted page known items) wanted items lists g
    → (g : Atom) × denial.IsAtom dates lists page (within.with_arguments word page known items) item g
by_word dates lists page known item word wanted at items e w found =
    let same : word ≡ wanted = (bytes_eq-Decides word wanted).0 w in
    let is = is_node page item word wanted at items e w in (
      found.0,
      (
        items,
        (is.0, is.1 ∙ ap (λ v. node v is.0 items) (sym found.1.0)),
        subst (λ v. denial.IsAtomOf dates lists page (within.with_arguments v page known items) items found.0) (sym same) found.1.1,
      ),
    )

attr_word : (dates : denial.Dates) (old : Lists) (page : Page) (number : ℕ) (known : Variables) (item : Item) (word : List ℕ) (at : ℕ) (items : List Item) (b : Bool)
    → says page item ≡ node word at items → bytes_eq word (codes "Attr") ≡ b
    → first_breach old (if b then denial.attr_atom dates page number known at items else breaks Shape at ∷ []) ≡ None
    → (g : Atom) × denial.IsAtom dates (after old (if b then denial.attr_atom dates page number known at items else breaks Shape at ∷ [])) page (within.with_arguments word page known items) item g
attr_word dates old page number known item word at items true e w h =
    by_word dates (after old (denial.attr_atom dates page number known at items)) page known item word (codes "Attr") at items e w (fillers_found dates old page number known at items h)
attr_word dates old page number known item word at items false e w h = absurd (cc)

role_word : (dates : denial.Dates) (old : Lists) (page : Page) (number : ℕ) (known : Variables) (item : Item) (word : List ℕ) (at : ℕ) (items : List Item) (b : Bool)
    → says page item ≡ node word at items → bytes_eq word (codes "Role") ≡ b
    → first_breach old (if b then denial.role_atom page number known at items else if bytes_eq word (codes "Attr") then denial.attr_atom dates page number known at items else breaks Shape at ∷ []) ≡ None
    → (g : Atom) × denial.IsAtom dates (after old (if b then denial.role_atom page number known at items else if bytes_eq word (codes "Attr") then denial.attr_atom dates page number known at items else breaks Shape at ∷ [])) page (within.with_arguments word page known items) item g
role_word dates old page number known item word at items true e w h =
    by_word dates (after old (denial.role_atom page number known at items)) page known item word (codes "Role") at items e w (roles_found dates old page number known at items h)
role_word dates old page number known item word at items false e w h = attr_word dates old page number known item word at items (bytes_eq word (codes "Attr")) e refl h

class_word : (dates : denial.Dates) (old : Lists) (page : Page) (number : ℕ) (known : Variables) (item : Item) (word : List ℕ) (at : ℕ) (items : List Item) (b : Bool)
    → says page item ≡ node word at items → bytes_eq word (codes "Class") ≡ b
    → first_breach old (if b then denial.class_atom page number known at items else if bytes_eq word (codes "Role") then denial.role_atom page number known at items else if bytes_eq word (codes "Attr") then denial.attr_atom dates page number known at items else breaks Shape at ∷ []) ≡ None
    → (g : Atom) × denial.IsAtom dates (after old (if b then denial.class_atom page number known at items else if bytes_eq word (codes "Role") then denial.role_atom page number known at items else if bytes_eq word (codes "Attr") then denial.attr_atom dates page number known at items else breaks Shape at ∷ [])) page (within.with_arguments word page known items) item g
class_word dates old page number known item word at items true e w h =
    by_word dates (after old (denial.class_atom page number known at items)) page known item word (codes "Class") at items e w (class_found dates old page number known at items h)
class_word dates old page number known item word at items false e w h = role_word dates old page number known item word at items (bytes_eq word (codes "Role")) e refl h

atom_found : (dates : denial.Dates) (old : Lists) (page : Page) (number : ℕ) (known : Variables) (item : Item) (what : Said) → says page item ≡ what
    → first_breach old (denial.atom_said dates page number known what) ≡ None
    → (g : Atom) × denial.IsAtom dates (after old (denial.atom_said dates page number known what)) page (within.with_atom page known what) item g
atom_found dates old page number known item (name word at) e h = absurd (cc)
atom_found dates old page number known item (iri word at) e h = absurd (cc)
atom_found dates old page number known item (text chars at) e h = absurd (cc)
atom_found dates old page number known item (tagged at) e h = absurd (cc)
atom_found dates old page number known item (binding at) e h = absurd (cc)
atom_found dates old page number known item (node word at items) e h = class_word dates old page number known item word at items (bytes_eq word (codes "Class")) e refl h

atoms_found : (dates : denial.Dates) (old : Lists) (page : Page) (number : ℕ) (known : Variables) (items : List Item)
    → first_breach old (within.atoms_from dates page number known items) ≡ None
    → (gs : List Atom) × AreEach (denial.IsAtom dates (after old (within.atoms_from dates page number known items)) page (within.with_atoms page known items)) items gs
atoms_found dates old page number known [] h = ([], tt)
atoms_found dates old page number known (i ∷ is) h =
    let first = denial.atom_judged dates page number known i in
    let next = within.with_atom page known (says page i) in
    let second = within.atoms_from dates page (suc number) next is in
    let all = within.with_atoms page next is in
    let parts = none_parts old first second h in
    let g = atom_found dates old page number known i (says page i) refl parts.0 in
    let rest = atoms_found dates (after old first) page (suc number) next is parts.1 in (
      g.0 ∷ rest.0,
      (
        behind (λ lists. denial.IsAtom dates lists page all i g.0) (λ new before b. atom_grows dates new before page all all i g.0 b (begins_here all)) old first second
            (atom_grows dates (after old first) (after old first) page all next i g.0 (begins_same (after old first)) (atoms_begin page next is) g.1),
        after_both (λ lists. AreEach (denial.IsAtom dates lists page all) is rest.0) old first second rest.1,
      ),
    )

deny_found : (dates : denial.Dates) (old : Lists) (page : Page) (at : ℕ) (items : List Item) → first_breach old (denial.deny_judged dates page at items) ≡ None
    → (gs : List Atom) × denial.AreDenied dates (after old (denial.deny_judged dates page at items)) page items gs
deny_found dates old page at [] h = absurd (cc)
deny_found dates old page at (i ∷ is) h =
    let same = judged_is dates page (i ∷ is) in
    let found = atoms_found dates old page 0 [] (i ∷ is) (ap (first_breach old) same ∙ h) in (
      found.0,
      subst (λ js. AreEach (denial.IsAtom dates (after old js) page (denial.variables_of page (i ∷ is))) (i ∷ is) found.0) same
          (subst (λ known. AreEach (denial.IsAtom dates (after old (within.atoms_from dates page 0 [] (i ∷ is))) page known) (i ∷ is) found.0) (variables_are page (i ∷ is)) found.1),
    )

role_prop : (old : Lists) (page : Page) (item : Item) → first_breach old (role_judged Shape page item) ≡ None
    → (p : Prop) × item_of.IsProp (after old (role_judged Shape page item)) page item p
role_prop old page item h = let found = role_found old Shape page item h in (prop.Role found.0, found.1)

node_prop : (old : Lists) (page : Page) (item : Item) (word : List ℕ) (at : ℕ) (items : List Item) (b : Bool)
    → says page item ≡ node word at items → bytes_eq word (codes "Attr") ≡ b
    → first_breach old (if b then paths_of.attribute_judged page at items else role_judged Shape page item) ≡ None
    → (p : Prop) × item_of.IsProp (after old (if b then paths_of.attribute_judged page at items else role_judged Shape page item)) page item p
node_prop old page item word at items true e w h =
    let found = attribute_found old page at items h in (prop.Attr found.0, (items, is_node page item word (codes "Attr") at items e w, found.1))
node_prop old page item word at items false e w h = role_prop old page item h

prop_found : (old : Lists) (page : Page) (item : Item) (what : Said) → says page item ≡ what → first_breach old (item_of.prop_said page item what) ≡ None
    → (p : Prop) × item_of.IsProp (after old (item_of.prop_said page item what)) page item p
prop_found old page item (name word at) e h = role_prop old page item h
prop_found old page item (iri word at) e h = role_prop old page item h
prop_found old page item (text chars at) e h = role_prop old page item h
prop_found old page item (tagged at) e h = role_prop old page item h
prop_found old page item (binding at) e h = role_prop old page item h
prop_found old page item (node word at items) e h = node_prop old page item word at items (bytes_eq word (codes "Attr")) e refl h

functional_found : (old : Lists) (page : Page) (at : ℕ) (items : List Item) → first_breach old (item_of.functional_judged page at items) ≡ None
    → (p : Prop) × item_of.IsFunctionalOf (after old (item_of.functional_judged page at items)) page items p
functional_found old page at [] h = absurd (cc)
functional_found old page at (only ∷ []) h = prop_found old page only (says page only) refl h
functional_found old page at (one ∷ two ∷ more) h = absurd (cc)

deny_word : (dates : denial.Dates) (old : Lists) (page : Page) (item : Item) (word : List ℕ) (at : ℕ) (items : List Item) (b : Bool)
    → says page item ≡ node word at items → bytes_eq word (codes "Deny") ≡ b
    → first_breach old (if b then denial.deny_judged dates page at items else breaks Shape at ∷ []) ≡ None
    → (c : Constraint) × item_of.IsConstraint dates (after old (if b then denial.deny_judged dates page at items else breaks Shape at ∷ [])) page item c
deny_word dates old page item word at items true e w h =
    let found = deny_found dates old page at items h in (constraint.Deny found.0, (items, is_node page item word (codes "Deny") at items e w, found.1))
deny_word dates old page item word at items false e w h = absurd (cc)

identify_word : (dates : denial.Dates) (old : Lists) (page : Page) (item : Item) (word : List ℕ) (at : ℕ) (items : List Item) (b : Bool)
    → says page item ≡ node word at items → bytes_eq word (codes "Identify") ≡ b
    → first_breach old (if b then paths_of.identify_judged page at items else if bytes_eq word (codes "Deny") then denial.deny_judged dates page at items else breaks Shape at ∷ []) ≡ None
    → (c : Constraint) × item_of.IsConstraint dates (after old (if b then paths_of.identify_judged page at items else if bytes_eq word (codes "Deny") then denial.deny_judged dates page at items else breaks Shape at ∷ [])) page item c
identify_word dates old page item word at items true e w h =
    let found = identify_found old page at items h in (constraint.Identify found.0 found.1, (items, is_node page item word (codes "Identify") at items e w, found.2))
identify_word dates old page item word at items false e w h = deny_word dates old page item word at items (bytes_eq word (codes "Deny")) e refl h

functional_word : (dates : denial.Dates) (old : Lists) (page : Page) (item : Item) (word : List ℕ) (at : ℕ) (items : List Item) (b : Bool)
    → says page item ≡ node word at items → bytes_eq word (codes "Functional") ≡ b
    → first_breach old (if b then item_of.functional_judged page at items else if bytes_eq word (codes "Identify") then paths_of.identify_judged page at items else if bytes_eq word (codes "Deny") then denial.deny_judged dates page at items else breaks Shape at ∷ []) ≡ None
    → (c : Constraint) × item_of.IsConstraint dates (after old (if b then item_of.functional_judged page at items else if bytes_eq word (codes "Identify") then paths_of.identify_judged page at items else if bytes_eq word (codes "Deny") then denial.deny_judged dates page at items else breaks Shape at ∷ [])) page item c
functional_word dates old page item word at items true e w h =
    let found = functional_found old page at items h in (constraint.Functional found.0, (items, is_node page item word (codes "Functional") at items e w, found.1))
functional_word dates old page item word at items false e w h = identify_word dates old page item word at items (bytes_eq word (codes "Identify")) e refl h

constraint_found : (dates : denial.Dates) (old : Lists) (page : Page) (item : Item) (what : Said) → says page item ≡ what
    → first_breach old (item_of.constraint_said dates page what) ≡ None
    → (c : Constraint) × item_of.IsConstraint dates (after old (item_of.constraint_said dates page what)) page item c
constraint_found dates old page item (name word at) e h = absurd (cc)
constraint_found dates old page item (iri word at) e h = absurd (cc)
constraint_found dates old page item (text chars at) e h = absurd (cc)
constraint_found dates old page item (tagged at) e h = absurd (cc)
constraint_found dates old page item (binding at) e h = absurd (cc)
constraint_found dates old page item (node word at items) e h = functional_word dates old page item word at items (bytes_eq word (codes "Functional")) e refl h

-- the constraints that items say
pub constraints_found : (dates : denial.Dates) (old : Lists) (page : Page) (items : List Item) → first_breach old (item_of.constraints_judged dates page items) ≡ None
    → (list : List (Lined Constraint)) × item_of.AreConstraints dates (after old (item_of.constraints_judged dates page items)) page items list
constraints_found dates old page [] h = ([], tt)
constraints_found dates old page (i ∷ is) h =
    let first = item_of.constraint_judged dates page i in
    let second = item_of.constraints_judged dates page is in
    let parts = none_parts old first second h in
    let c = constraint_found dates old page i (says page i) refl parts.0 in
    let rest = constraints_found dates (after old first) page is parts.1 in
    let l : Lined Constraint = record { line = line (says page i); item = c.0 } in (
      l ∷ rest.0,
      (
        behind (λ lists. item_of.IsLined dates lists page i l) (λ new before b. lined_grows dates new before page b i l) old first second (refl, c.1),
        after_both (λ lists. item_of.AreConstraints dates lists page is rest.0) old first second rest.1,
      ),
    )
