-- What is judged in parts.
use Rattle.std.proofs.Common.{◌≡◌, refl, sym, ap, ◌∙◌, List, [], ◌∷◌, ◌++◌, Option, Some, None}
use Rattle.mast_terms.specs.Vocabularies.{Lists}
use Rattle.mast_tree.specs.declared.shape.ShapeBreach.{ShapeBreach}
use Rattle.mast_tree.specs.Judgements.{Judgement, after, after_one, breach_at, first_breach, or_later, AreRight}

-- the lists after two parts are those after the second, begun with those after the first
pub after-append : (lists : Lists) (first second : List Judgement) → after lists (first ++ second) ≡ after (after lists first) second
after-append lists [] second = refl
after-append lists (j ∷ js) second = after-append (after_one lists j) js second

or_later-assoc : (a b c : Option ShapeBreach) → or_later a (or_later b c) ≡ or_later (or_later a b) c
or_later-assoc None b c = refl
or_later-assoc (Some x) b c = refl

-- the first breach of two parts is that of the first, or else that of the second over the lists after the first
pub first_breach-append : (lists : Lists) (first second : List Judgement)
    → first_breach lists (first ++ second) ≡ or_later (first_breach lists first) (first_breach (after lists first) second)
first_breach-append lists [] second = refl
first_breach-append lists (j ∷ js) second =
    ap (λ later. or_later (breach_at lists j) later) (first_breach-append (after_one lists j) js second)
    ∙ or_later-assoc (breach_at lists j) (first_breach (after_one lists j) js) (first_breach (after (after_one lists j) js) second)

-- nothing is wrong with two parts of which nothing is wrong with either
pub right_parts : (old between new : Lists) (first second : List Judgement)
    → AreRight old first between → AreRight between second new → AreRight old (first ++ second) new
right_parts old between new first second a b =
    let at : after old first ≡ between = sym a.then in
    record {
      none = first_breach-append old first second ∙ (ap (λ x. or_later x (first_breach (after old first) second)) a.none ∙ (ap (λ l. first_breach l second) at ∙ b.none));
      then = b.then ∙ (ap (λ l. after l second) (sym at) ∙ sym (after-append old first second));
    }

-- the first breach of the first part is that of both
pub breach_first : (old : Lists) (first second : List Judgement) (breach : ShapeBreach)
    → first_breach old first ≡ Some breach → first_breach old (first ++ second) ≡ Some breach
breach_first old first second breach e = first_breach-append old first second ∙ ap (λ x. or_later x (first_breach (after old first) second)) e

-- where nothing is wrong with the first part, the first breach of the second is that of both
pub breach_second : (old between : Lists) (first second : List Judgement) (breach : ShapeBreach)
    → AreRight old first between → first_breach between second ≡ Some breach → first_breach old (first ++ second) ≡ Some breach
breach_second old between first second breach a e =
    first_breach-append old first second ∙ (ap (λ x. or_later x (first_breach (after old first) second)) a.none ∙ (ap (λ l. first_breach l second) (sym a.then) ∙ e))
