-- Constraints are read one after the other.
use Rattle.std.proofs.Common.{◌≡◌, refl, sym, ap, ◌∙◌, subst, ℕ, ◌+◌, ◌<◌, List, [], ◌∷◌, ◌++◌, append_assoc, length, drop, get_or}
use Rattle.std.specs.Prelude.{Result, Ok, Err, IsErrAnd}
use Rattle.std.proofs.lemmas.List.{append-nil, drop_more}
use Rattle.mast_terms.specs.declared.memory.Stop.{Stop}
use Rattle.mast_terms.specs.Vocabularies.{Lists}
use Rattle.mast_tbox.specs.declared.axiom.Lined.{Lined}
use Rattle.mast_tbox.specs.declared.constraint.Constraint.{Constraint}
use Rattle.mast_tree.specs.declared.item.Item.{Item}
use Rattle.mast_tree.specs.declared.shape.ShapeBreach.{ShapeBreach}
use Rattle.mast_tree.specs.Constants.{AreDates}
use Rattle.mast_tree.specs.Judgements.{AreRight, Judges}
use Rattle.mast_tree.proofs.GrowingLemmas.{begins_same, begins_join, right_begins}
use Rattle.mast_tree.proofs.JudgementLemmas.{right_parts}
use Rattle.mast_tree.specs.Pages.{Page}
use Rattle.mast_expressions.proofs.ReadLemmas.{handed, stops, stops_first, stops_second}
use Rattle.mast_constr.specs.Denials.{Dates}
use Rattle.mast_constr.specs.Items.{constraint_judged, constraints_judged, AreConstraints}
use Rattle.mast_constr.specs.inside.Rules.{PutsConstraint, SoFar}
use Rattle.mast_constr.proofs.GrowLemmas.{lined_grows}

-- nothing was read
pub so_far_none : (page : Page) (items : List Item) (old : Lists) → SoFar page items items old old []
so_far_none page items old dates are = ([], refl, record { none = refl; then = refl }, λ final more b h. h)

one_more : (page : Page) (all rest : List Item) (item : Item) (old now new : Lists) (list longer : List (Lined Constraint))
    → SoFar page all (item ∷ rest) old now list → PutsConstraint page item now new list longer (Ok tt) → SoFar page all rest old new longer
one_more page all rest item old now new list longer s put dates are =
    let before = s dates are in
    let read = put dates are in
    let js = constraint_judged dates page item in
    let y = read.1.0 in (
      before.0 ++ js,
      before.1 ∙ sym (append_assoc before.0 js (constraints_judged dates page rest)),
      right_parts old now new before.0 js before.2 read.0,
      λ final more b h. subst (λ l. AreConstraints dates final page all l) (sym (ap (λ l. l ++ more) read.1.1 ∙ append_assoc list (y ∷ []) more))
          (before.3 final (y ∷ more) (begins_join now new final b (right_begins now new js read.0)) (lined_grows dates final new page b item y read.1.2, h)),
    )

rest_is : (all : List Item) (n : ℕ) (d : Item) → n < length all → d ≡ get_or all n d → drop n all ≡ d ∷ drop (n + 1) all
rest_is all n d within is = drop_more all n d within ∙ ap (λ (y : Item). y ∷ drop (n + 1) all) (sym is)

-- one more was read
pub so_far_more : (page : Page) (all : List Item) (n : ℕ) (d : Item) (old now new : Lists) (list longer : List (Lined Constraint)) → n < length all → d ≡ get_or all n d
    → SoFar page all (drop n all) old now list → PutsConstraint page d now new list longer (Ok tt) → SoFar page all (drop (n + 1) all) old new longer
so_far_more page all n d old now new list longer within is s put =
    one_more page all (drop (n + 1) all) d old now new list longer (subst (λ rest. SoFar page all rest old now list) (rest_is all n d within is) s) put

one_stops : {U : Type 0} (page : Page) (all rest : List Item) (item : Item) (old now mid new : Lists) (list longer : List (Lined Constraint)) (Q : U → Type 0) (why : Stop ShapeBreach) (dates : Dates)
    → AreDates dates → SoFar page all (item ∷ rest) old now list → PutsConstraint page item now mid list longer (Err why) → Judges old (constraints_judged dates page all) new Q (Err why)
one_stops page all rest item old now mid new list longer Q why dates are s put =
    let before = s dates are in
    let js = constraint_judged dates page item in
    let rest_js = constraints_judged dates page rest in
    stops old new new (before.0 ++ (js ++ rest_js)) (constraints_judged dates page all) Q Q why (sym before.1)
    (stops_second old now new new before.0 (js ++ rest_js) Q Q why before.2 (stops_first now mid new js rest_js _ Q why (put dates are)))

-- what stops the reading of one stops that of all
pub so_far_stops : {U : Type 0} (page : Page) (all : List Item) (n : ℕ) (d : Item) (old now mid new : Lists) (list longer : List (Lined Constraint)) (Q : U → Type 0) (result : Result U (Stop ShapeBreach))
    (why : Stop ShapeBreach) (dates : Dates) → n < length all → d ≡ get_or all n d → IsErrAnd result (λ e. e ≡ why) → AreDates dates
    → SoFar page all (drop n all) old now list → PutsConstraint page d now mid list longer (Err why) → Judges old (constraints_judged dates page all) new Q result
so_far_stops page all n d old now mid new list longer Q result why dates within is e are s put =
    handed old new (constraints_judged dates page all) Q result why e
    (one_stops page all (drop (n + 1) all) d old now mid new list longer Q why dates are (subst (λ rest. SoFar page all rest old now list) (rest_is all n d within is) s) put)

-- all were read
pub so_far_all : (page : Page) (all rest : List Item) (old now : Lists) (list : List (Lined Constraint)) (dates : Dates) → AreDates dates → rest ≡ [] → SoFar page all rest old now list
    → AreRight old (constraints_judged dates page all) now × AreConstraints dates now page all list
so_far_all page all rest old now list dates are none s =
    let before = subst (λ r. SoFar page all r old now list) none s dates are in (
      subst (λ js. AreRight old js now) (sym (before.1 ∙ append-nil before.0)) before.2,
      subst (λ l. AreConstraints dates now page all l) (append-nil list) (before.3 now [] (begins_same now) tt),
    )
