-- What a document has keeps what constraints keep.
use Rattle.std.proofs.Common.{arith, ◌≡◌, sym, ap, ◌∙◌, subst, ℕ, ◌≤◌, List, [], ◌∷◌, length}
use Rattle.std.specs.Prelude.{None}
use Rattle.std.specs.List.{AllByRecursion}
use Rattle.mast_cq.specs.declared.atom.Atom.{Atom}
use Rattle.mast_terms.specs.Vocabularies.{Lists}
use Rattle.mast_tbox.specs.declared.axiom.Lined.{Lined}
use Rattle.mast_tbox.specs.declared.constraint.Constraint.{Constraint}
use Rattle.mast_tbox.specs.declared.constraint.Constraint.TheVariants as constraint
use Rattle.mast_tbox.specs.declared.constraint.Constraints.{Constraints}
use Rattle.mast_tbox.specs.declared.constraint.Step.{Step}
use Rattle.mast_tbox.specs.declared.expression.Basic.{Basic}
use Rattle.mast_tbox.specs.ConstraintForms.{IsDenial, IsIdentification, HasForm, HaveForm, most_steps}
use Rattle.mast_tbox.specs.Lists.{items as items_of}
use Rattle.mast_tbox.specs.Names.{ConstraintNamed}
use Rattle.mast_tbox.specs.Vocabularies.{ConstantsStandIn}
use Rattle.mast_tree.specs.Names.{StandsIn}
use Rattle.mast_tree.specs.declared.item.Item.{Item}
use Rattle.mast_tree.specs.declared.shape.ShapeKind.TheVariants.{Shape}
use Rattle.mast_tree.specs.Growing.{Begins}
use Rattle.mast_tree.specs.Judged.{after_judged}
use Rattle.mast_tree.specs.Judgements.{after, first_breach}
use Rattle.mast_tree.specs.Seen.{Document}
use Rattle.mast_tree.proofs.GrowingLemmas.{right_begins}
use Rattle.mast_expressions.specs.Judged.{left_judged}
use Rattle.mast_tree.specs.Pages.{Page, page_of}
use Rattle.mast_expressions.proofs.FoundLemmas.{none_parts}
use Rattle.mast_constr.specs.Denials.{Dates, AreDenied, deny_judged, variables_of}
use Rattle.mast_constr.specs.Items.{constraint_said, constraint_judged, constraints_judged, IsConstraint, AreConstraints}
use Rattle.mast_constr.specs.Kept.{HasPath, AreKept}
use Rattle.mast_constr.specs.Paths.{identify_judged, paths_judged, are_many, all_steps, AreIdentified}
use Rattle.mast_constr.specs.Whole.{HasList}
use Rattle.mast_constr.proofs.KnownLemmas.{constraint_names, constraint_constants}
use Rattle.mast_constr.proofs.BehindLemmas.{judged_is}
use Rattle.mast_constr.proofs.SizeLemmas.{broken, not_long, few_steps, together, paths_kept, few_atoms}
use Rattle.mast_constr.proofs.SortLemmas.{denied_sorts}

identified_kept : (old : Lists) (lists : Lists) (page : Page) (at : ℕ) (items : List Item) (concept : Basic) (paths : List (List Step))
    → AreIdentified lists page items concept paths → first_breach old (identify_judged page at items) ≡ None → IsIdentification paths × (1 ≤ length paths)
identified_kept old lists page at [] concept paths h none = absurd h
identified_kept old lists page at (left ∷ []) concept paths h none = absurd (broken old Shape at none)
identified_kept old lists page at (left ∷ i ∷ is) concept [] h none = absurd h.1
identified_kept old lists page at (left ∷ i ∷ is) concept (p ∷ ps) h none =
    let whole = not_long old (are_many (all_steps page (i ∷ is))) page at left (i ∷ is) none in
    let parts = none_parts old (left_judged page left) (paths_judged page (i ∷ is)) whole.1 in (
      record {
        few = subst (λ n. n ≤ most_steps) (sym (together lists page (i ∷ is) (p ∷ ps) h.1)) (few_steps (all_steps page (i ∷ is)) whole.0);
        paths_are = paths_kept (after old (left_judged page left)) lists page (i ∷ is) (p ∷ ps) parts.1 h.1;
      },
      omega arith,
    )

denied_kept : (dates : Dates) (old : Lists) (lists : Lists) (page : Page) (at : ℕ) (items : List Item) (atoms : List Atom)
    → AreDenied dates lists page items atoms → first_breach old (deny_judged dates page at items) ≡ None → IsDenial atoms
denied_kept dates old lists page at [] atoms h none = absurd (broken old Shape at none)
denied_kept dates old lists page at (i ∷ is) [] h none = absurd h
denied_kept dates old lists page at (i ∷ is) (g ∷ gs) h none = record {
  some = omega arith;
  few = grind (arith, few_atoms dates old lists page 0 [] (variables_of page (i ∷ is)) (i ∷ is) (g ∷ gs) (grind arith) h (ap (first_breach old) (judged_is dates page (i ∷ is)) ∙ none));
  sorts = denied_sorts dates lists page (variables_of page (i ∷ is)) (i ∷ is) (g ∷ gs) h;
}

-- a constraint that was read has its form, and a path where it is an identification
one_formed : (dates : Dates) (old : Lists) (lists : Lists) (page : Page) (item : Item) (c : Constraint)
    → IsConstraint dates lists page item c → first_breach old (constraint_judged dates page item) ≡ None → HasForm c × HasPath c
one_formed dates old lists page item (constraint.Functional p) h none = (tt, tt)
one_formed dates old lists page item (constraint.Identify concept paths) h none =
    identified_kept old lists page h.1.0 h.0 concept paths h.2 (sym (ap (λ what. first_breach old (constraint_said dates page what)) h.1.1) ∙ none)
one_formed dates old lists page item (constraint.Deny atoms) h none =
    (denied_kept dates old lists page h.1.0 h.0 atoms h.2 (sym (ap (λ what. first_breach old (constraint_said dates page what)) h.1.1) ∙ none), tt)

all_formed : (dates : Dates) (old : Lists) (lists : Lists) (page : Page) (items : List Item) (list : List (Lined Constraint))
    → AreConstraints dates lists page items list → first_breach old (constraints_judged dates page items) ≡ None → HaveForm list × AllByRecursion HasPath (items_of list)
all_formed dates old lists page [] [] h none = (tt, tt)
all_formed dates old lists page [] (l ∷ ls) h none = absurd h
all_formed dates old lists page (i ∷ is) [] h none = absurd h
all_formed dates old lists page (i ∷ is) (l ∷ ls) h none =
    let parts = none_parts old (constraint_judged dates page i) (constraints_judged dates page is) none in
    let one = one_formed dates old lists page i l.item h.0.1 parts.0 in
    let more = all_formed dates (after old (constraint_judged dates page i)) lists page is ls h.1 parts.1 in
    ((one.0, more.0), (one.1, more.1))

all_names : (dates : Dates) (lists : Lists) (page : Page) (items : List Item) (list : List (Lined Constraint))
    → AreConstraints dates lists page items list → AllByRecursion (ConstraintNamed (StandsIn lists)) (items_of list)
all_names dates lists page [] [] h = tt
all_names dates lists page [] (l ∷ ls) h = absurd h
all_names dates lists page (i ∷ is) [] h = absurd h
all_names dates lists page (i ∷ is) (l ∷ ls) h = (constraint_names dates lists page h.0.1.0 l.item h.0.1.2, all_names dates lists page is ls h.1)

all_constants : (dates : Dates) (lists : Lists) (page : Page) (items : List Item) (list : List (Lined Constraint))
    → AreConstraints dates lists page items list → AllByRecursion (ConstantsStandIn lists) (items_of list)
all_constants dates lists page [] [] h = tt
all_constants dates lists page [] (l ∷ ls) h = absurd h
all_constants dates lists page (i ∷ is) [] h = absurd h
all_constants dates lists page (i ∷ is) (l ∷ ls) h = (constraint_constants dates lists page h.0.1.0 l.item h.0.1.2, all_constants dates lists page is ls h.1)

-- the constraints of a document keep what constraints keep
pub has_kept : (dates : Dates) (doc : Document) (old : Lists) (cs : Constraints) → HasList dates doc old cs.vocab cs.list → AreKept cs
has_kept dates doc old cs h =
    let lists : Lists = cs.vocab in
    let page = page_of doc h.prefixes in
    let formed = all_formed dates old lists page h.inside cs.list h.gives (none_parts old (constraints_judged dates page h.inside) (after_judged doc h.after) h.right.none).0 in
    record {
      names = record { names = all_names dates lists page h.inside cs.list h.gives; constants = all_constants dates lists page h.inside cs.list h.gives };
      formed = formed.0;
      paths = formed.1;
    }

-- and each list of their vocabulary begins with that which was there before
pub has_begins : (dates : Dates) (doc : Document) (old new : Lists) (list : List (Lined Constraint)) → HasList dates doc old new list → Begins new old
has_begins dates doc old new list h = right_begins old new _ h.right
