-- A document has constraints or a first breach, not both, and only one of it.
use Rattle.std.proofs.Common.{◌≡◌, ◌⊎◌, inl, inr, sym, ap, ◌∙◌, subst, List, ◌++◌}
use Rattle.std.specs.Prelude.{⊤, codes}
use Rattle.mast_terms.specs.Vocabularies.{Lists, IsVocabulary}
use Rattle.mast_tbox.specs.declared.axiom.Lined.{Lined}
use Rattle.mast_tbox.specs.declared.constraint.Constraint.{Constraint}
use Rattle.mast_tbox.specs.declared.constraint.Constraints.{Constraints}
use Rattle.mast_tbox.proofs.EachLemmas.{each_more}
use Rattle.mast_tree.specs.declared.item.Item.{Item}
use Rattle.mast_tree.specs.declared.shape.ShapeBreach.{ShapeBreach}
use Rattle.mast_tree.specs.Judged.{after_judged, IsRight}
use Rattle.mast_tree.specs.Judgements.{after}
use Rattle.mast_tree.specs.MainNode.{Prefixes}
use Rattle.mast_tree.specs.Seen.{Document}
use Rattle.mast_tree.proofs.GrowingLemmas.{after_begins}
use Rattle.mast_tree.proofs.JudgementLemmas.{after-append}
use Rattle.mast_tree.proofs.JudgedLemmas.{one_prefixes, one_inside, right_or_breach, right_not_breach, one_first_breach, one_vocabulary}
use Rattle.mast_tree.specs.Pages.{page_of}
use Rattle.mast_expressions.proofs.DateLemmas.{the_dates, are_dates, one_dates}
use Rattle.mast_expressions.proofs.FoundLemmas.{none_parts}
use Rattle.mast_tree.proofs.VocabularyLemmas.{after_lawful}
use Rattle.mast_constr.specs.Denials.{Dates}
use Rattle.mast_constr.specs.Items.{constraints_judged, IsLined, AreConstraints}
use Rattle.mast_constr.specs.Whole.{judging, HasList, BreaksFirst, HasConstraints, IsConstraintsBreach, ConstraintsLaw}
use Rattle.mast_constr.proofs.FoundLemmas.{constraints_found}
use Rattle.mast_constr.proofs.GrowLemmas.{lined_grows}
use Rattle.mast_constr.proofs.OneLemmas.{constraints_one}

vocabulary_after : (dates : Dates) (doc : Document) (old new : Lists) (P : Prefixes → List Item → Type 0) → IsVocabulary old → IsRight doc (codes "Constraints") (judging dates doc) old new P → IsVocabulary new
vocabulary_after dates doc old new P v h =
    subst IsVocabulary (sym h.right.then) (after_lawful old (judging dates doc h.prefixes h.inside ++ after_judged doc h.after) v h.right.none)

-- what is judged without a breach has constraints
has_some : (dates : Dates) (doc : Document) (old new : Lists) → IsRight doc (codes "Constraints") (judging dates doc) old new (λ x y. ⊤)
    → (list : List (Lined Constraint)) × HasList dates doc old new list
has_some dates doc old new h =
    let page = page_of doc h.prefixes in
    let first = constraints_judged dates page h.inside in
    let rest = after_judged doc h.after in
    let found = constraints_found dates old page h.inside (none_parts old first rest h.right.none).0 in
    let later = each_more (IsLined dates (after old first) page) (IsLined dates (after (after old first) rest) page) h.inside found.0
    (lined_grows dates (after (after old first) rest) (after old first) page (after_begins (after old first) rest)) found.1 in
    let final : new ≡ after (after old first) rest = h.right.then ∙ after-append old first rest in (
      found.0,
      record {
        prefixes = h.prefixes;
        inside = h.inside;
        after = h.after;
        parts = h.parts;
        right = h.right;
        gives = subst (λ lists. AreConstraints dates lists page h.inside found.0) (sym final) later;
      },
    )

-- constraints by some dates are constraints by these
by_the_dates : (doc : Document) (old : Lists) (cs : Constraints) → HasConstraints doc old cs → HasList the_dates doc old cs.vocab cs.list
by_the_dates doc old cs h = subst (λ dates. HasList dates doc old cs.vocab cs.list) (one_dates h.0 the_dates h.1 are_dates) h.2

-- so is a breach
breaks_by_the_dates : (doc : Document) (old : Lists) (breach : ShapeBreach) → IsConstraintsBreach doc old breach → BreaksFirst the_dates doc old breach
breaks_by_the_dates doc old breach h = subst (λ dates. BreaksFirst dates doc old breach) (one_dates h.0 the_dates h.1 are_dates) h.2

either : (doc : Document) (old : Lists)
    → ((new : Lists) × IsRight doc (codes "Constraints") (judging the_dates doc) old new (λ x y. ⊤)) ⊎ ((breach : ShapeBreach) × BreaksFirst the_dates doc old breach)
    → ((constraints : Constraints) × HasConstraints doc old constraints) ⊎ ((breach : ShapeBreach) × IsConstraintsBreach doc old breach)
either doc old (inl right) = let has = has_some the_dates doc old right.0 right.1 in inl (record { vocab = right.0; list = has.0 }, (the_dates, are_dates, has.1))
either doc old (inr breach) = inr (breach.0, (the_dates, are_dates, breach.1))

same_list : (dates : Dates) (doc : Document) (old a b : Lists) (k l : List (Lined Constraint)) → IsVocabulary old → a ≡ b → HasList dates doc old a k → HasList dates doc old b l → k ≡ l
same_list dates doc old a b k l v e h g =
    let prefixes = one_prefixes doc (codes "Constraints") h.prefixes g.prefixes h.inside g.inside h.after g.after h.parts g.parts in
    let inside = ap (λ (x : List Item × List Item). x.0) (one_inside doc (codes "Constraints") h.prefixes g.prefixes h.inside g.inside h.after g.after h.parts g.parts) in
    let moved = subst (λ lists. AreConstraints dates lists (page_of doc h.prefixes) h.inside k) e h.gives in
    let turned = subst (λ x. AreConstraints dates b (page_of doc x) h.inside k) prefixes moved in
    let at = subst (λ x. AreConstraints dates b (page_of doc g.prefixes) x k) inside turned in
    constraints_one dates b (page_of doc g.prefixes) g.inside k l
    (vocabulary_after dates doc old b (λ p i. AreConstraints dates b (page_of doc p) i l) v g) at g.gives

one_constraints : (doc : Document) (old : Lists) (a b : Constraints) → IsVocabulary old → HasList the_dates doc old a.vocab a.list → HasList the_dates doc old b.vocab b.list → a ≡ b
one_constraints doc old a b v h g =
    let vocab : a.vocab ≡ b.vocab = one_vocabulary doc (codes "Constraints") (judging the_dates doc) old a.vocab b.vocab
    (λ p i. AreConstraints the_dates a.vocab (page_of doc p) i a.list) (λ p i. AreConstraints the_dates b.vocab (page_of doc p) i b.list) h g in
    let list : a.list ≡ b.list = same_list the_dates doc old a.vocab b.vocab a.list b.list v vocab h g in
    λ i. record { vocab = vocab i; list = list i }

-- the law
pub has_one : (doc : Document) (old : Lists) → IsVocabulary old → ConstraintsLaw doc old
has_one doc old v = record {
  either = either doc old (right_or_breach doc (codes "Constraints") (judging the_dates doc) old);
  not_both = λ c breach h g. right_not_breach doc (codes "Constraints") (judging the_dates doc) old c.vocab (λ p i. AreConstraints the_dates c.vocab (page_of doc p) i c.list) breach
      (by_the_dates doc old c h) (breaks_by_the_dates doc old breach g);
  one = λ a b h g. one_constraints doc old a b v (by_the_dates doc old a h) (by_the_dates doc old b g);
  one_breach = λ a b h g. one_first_breach doc (codes "Constraints") (judging the_dates doc) old a b (breaks_by_the_dates doc old a h) (breaks_by_the_dates doc old b g);
}
