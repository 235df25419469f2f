-- The first breach, by the axioms before it, is that which is read one axiom after the other.
use Rattle.std.proofs.Common.{◌≡◌, ◌⊎◌, inl, inr, refl, sym, ap, ◌∙◌, subst, ℕ, ◌+◌, ◌<◌, ◌≤◌, List, [], ◌∷◌, ◌++◌, length, append_assoc, append-nil, arith}
use Rattle.std.specs.Prelude.{Some}
use Rattle.std.specs.List.{flat_map}
use Rattle.std.proofs.lemmas.Grind.{flat_map-append}
use Rattle.std.proofs.lemmas.List.{length-append}
use Rattle.mast_terms.specs.Vocabularies.{Lists, IsVocabulary}
use Rattle.mast_tbox.specs.declared.axiom.Lined.{Lined}
use Rattle.mast_tbox.specs.Lists.{AreEach}
use Rattle.mast_tbox.proofs.EachLemmas.{each_more, each_end}
use Rattle.mast_tree.specs.declared.item.Item.{Item}
use Rattle.mast_tree.specs.declared.shape.ShapeBreach.{ShapeBreach}
use Rattle.mast_tree.specs.Judgements.{after, first_breach, AreRight}
use Rattle.mast_tree.specs.Said.{line}
use Rattle.mast_tree.proofs.GrowingLemmas.{right_begins}
use Rattle.mast_tree.proofs.JudgementLemmas.{right_parts}
use Rattle.mast_tree.specs.Pages.{Page, says}
use Rattle.mast_onto.specs.Axioms.{axiom_judged}
use Rattle.mast_onto.specs.Lists.{together}
use Rattle.mast_onto.specs.Ontologies.{IsStated, AreWithin, PassesHere, IsBreachAmong, items_at}
use Rattle.mast_onto.specs.inside.Stating.{IsBreachFrom}
use Rattle.mast_onto.specs.declared.statement.Statement.{Statement}
use Rattle.mast_onto.specs.declared.statements.TheConstants.{MOST_ITEMS}
use Rattle.mast_onto.proofs.FoundAxiomLemmas.{stated_found}
use Rattle.mast_onto.proofs.KeptLemmas.{stated_kept}
use Rattle.mast_onto.proofs.LawLemmas.{then_vocabulary, split_right, same_stated, less_few}

-- no axioms are within the limit
pub within_none : (page : Page) (old : Lists) → AreWithin page old [] old []
within_none page old = record { right = record { none = refl; then = refl }; states = tt; few = omega arith }

together_end : (yss : List (List (Lined Statement))) (ys : List (Lined Statement)) → together (yss ++ ys ∷ []) ≡ together yss ++ ys
together_end [] ys = append-nil ys
together_end (xs ∷ xss) ys = ap (λ zs. xs ++ zs) (together_end xss ys) ∙ sym (append_assoc xs (together xss) ys)

count_end : (of_each : List (List (Lined Statement))) (more : List (Lined Statement)) → length (together (of_each ++ more ∷ [])) ≡ length (together of_each) + length more
count_end of_each more = ap length (together_end of_each more) ∙ length-append (together of_each) more

judged_end : (page : Page) (done : List Item) (item : Item) → flat_map (axiom_judged page) (done ++ item ∷ []) ≡ flat_map (axiom_judged page) done ++ axiom_judged page item
judged_end page done item =
    flat_map-append (axiom_judged page) done (item ∷ []) ∙ ap (λ js. flat_map (axiom_judged page) done ++ js) (append-nil (axiom_judged page item))

-- so are axioms with one more, within which the limit is not passed
within_next : (page : Page) (old mid new : Lists) (done : List Item) (item : Item) (of_each : List (List (Lined Statement))) (more : List (Lined Statement))
    → AreWithin page old done mid of_each → AreRight mid (axiom_judged page item) new → IsStated page new item more → length (together of_each) + length more ≤ MOST_ITEMS
    → AreWithin page old (done ++ item ∷ []) new (of_each ++ more ∷ [])
within_next page old mid new done item of_each more within one states few = record {
  right = subst (λ js. AreRight old js new) (sym (judged_end page done item)) (right_parts old mid new (flat_map (axiom_judged page) done) (axiom_judged page item) within.right one);
  states = each_end (IsStated page new) done of_each item more
      (each_more (IsStated page mid) (IsStated page new) done of_each (λ x y. stated_kept page new mid x y (right_begins mid new (axiom_judged page item) one)) within.states) states;
  few = subst (λ n. n ≤ MOST_ITEMS) (sym (count_end of_each more)) few;
}

-- the axiom behind them is right, and the limit is passed with it or later
among_later : (page : Page) (old : Lists) (items behind done : List Item) (mid new : Lists) (of_each : List (List (Lined Statement))) (more : List (Lined Statement)) (item : Item) (breach : ShapeBreach)
    → AreWithin page old done mid of_each → AreRight mid (axiom_judged page item) new → IsStated page new item more
    → (length (together of_each) + length more ≤ MOST_ITEMS → IsBreachFrom page new (length (together of_each) + length more) items behind breach → IsBreachAmong page old (done ++ item ∷ items) behind breach)
    → ((MOST_ITEMS < length (together of_each) + length more) × (breach ≡ items_at (line (says page item))))
    ⊎ ((length (together of_each) + length more ≤ MOST_ITEMS) × IsBreachFrom page new (length (together of_each) + length more) items behind breach)
    → IsBreachAmong page old (done ++ item ∷ items) behind breach
among_later page old items behind done mid new of_each more item breach within right states next (inl over) =
    inl (record {
      before = done;
      item = item;
      behind = items;
      is = refl;
      now = mid;
      of_each = of_each;
      within = within;
      breaks = inr (record {
        new = new;
        more = more;
        right = right;
        states = states;
        passes = subst (λ n. MOST_ITEMS < n) (sym (length-append (together of_each) more)) over.0;
        is = over.1;
      });
    })
among_later page old items behind done mid new of_each more item breach within right states next (inr later) = next later.0 later.1

-- what is read from an axiom on is the first breach, behind axioms within the limit
pub among_from : (page : Page) (old : Lists) (items behind done : List Item) (mid : Lists) (of_each : List (List (Lined Statement))) (breach : ShapeBreach)
    → AreWithin page old done mid of_each → IsBreachFrom page mid (length (together of_each)) items behind breach → IsBreachAmong page old (done ++ items) behind breach
among_from page old [] behind done mid of_each breach within h =
    inr (record { now = mid; of_each = of_each; within = subst (λ xs. AreWithin page old xs mid of_each) (sym (append-nil done)) within; breaks = h })
among_from page old (item ∷ items) behind done mid of_each breach within (inl e) =
    inl (record { before = done; item = item; behind = items; is = refl; now = mid; of_each = of_each; within = within; breaks = inl e })
among_from page old (item ∷ items) behind done mid of_each breach within (inr b) =
    among_later page old items behind done mid b.0 of_each b.1 item breach within b.2 b.3
    (λ few later. subst (λ xs. IsBreachAmong page old xs behind breach) (append_assoc done (item ∷ []) items)
    (among_from page old items behind (done ++ item ∷ []) b.0 (of_each ++ b.1 ∷ []) breach (within_next page old mid b.0 done item of_each b.1 within b.2 b.3 few)
    (subst (λ n. IsBreachFrom page b.0 n items behind breach) (sym (count_end of_each b.1)) later))) b.4

-- what is the first breach behind axioms within the limit is read behind them
behind_within : (page : Page) (before rest behind : List Item) (mid now : Lists) (count : ℕ) (of_each : List (List (Lined Statement))) (breach : ShapeBreach) → IsVocabulary mid
    → AreRight mid (flat_map (axiom_judged page) before) now → AreEach (IsStated page now) before of_each → count + length (together of_each) ≤ MOST_ITEMS
    → IsBreachFrom page now (count + length (together of_each)) rest behind breach → IsBreachFrom page mid count (before ++ rest) behind breach
behind_within page [] rest behind mid now count [] breach v right states few h =
    let total : count + 0 ≡ count = omega arith in
    subst (λ lists. IsBreachFrom page lists count rest behind breach) right.then (subst (λ n. IsBreachFrom page now n rest behind breach) total h)
behind_within page [] rest behind mid now count (s ∷ ss) breach v right states few h = absurd states
behind_within page (x ∷ xs) rest behind mid now count [] breach v right states few h = absurd states
behind_within page (x ∷ xs) rest behind mid now count (s ∷ ss) breach v right states few h =
    let parts = split_right mid now (axiom_judged page x) (flat_map (axiom_judged page) xs) right in
    let found = stated_found page mid x parts.0.none in
    let last : IsVocabulary now = then_vocabulary mid now (flat_map (axiom_judged page) (x ∷ xs)) v right in
    let same : found.0 ≡ s = same_stated page mid now (after mid (axiom_judged page x)) x (flat_map (axiom_judged page) xs) s found.0 last refl parts.1 states.0 found.1 in
    let left : count + length s + length (together ss) ≤ MOST_ITEMS = less_few count s ss few in
    let long : length (together (s ∷ ss)) ≡ length s + length (together ss) = length-append s (together ss) in
    let total : count + length (together (s ∷ ss)) ≡ count + length s + length (together ss) = omega arith in
    inr (
      after mid (axiom_judged page x),
      s,
      parts.0,
      subst (IsStated page (after mid (axiom_judged page x)) x) same found.1,
      inr (
        omega arith,
        behind_within page xs rest behind (after mid (axiom_judged page x)) now (count + length s) ss breach
            (then_vocabulary mid (after mid (axiom_judged page x)) (axiom_judged page x) v parts.0) parts.1 states.1 left
            (subst (λ n. IsBreachFrom page now n rest behind breach) total h),
      ),
    )

at_axiom : (page : Page) (now : Lists) (held : List (Lined Statement)) (item : Item) (items behind : List Item) (breach : ShapeBreach)
    → (first_breach now (axiom_judged page item) ≡ Some breach) ⊎ PassesHere page item now held breach → IsBreachFrom page now (length held) (item ∷ items) behind breach
at_axiom page now held item items behind breach (inl e) = inl e
at_axiom page now held item items behind breach (inr p) =
    inr (p.new, p.more, p.right, p.states, inl (subst (λ n. MOST_ITEMS < n) (length-append held p.more) p.passes, p.is))

from_nothing : (n : ℕ) → n ≡ 0 + n
from_nothing n = omega arith

-- the first breach of axioms is that which is read
pub from_among : (page : Page) (old : Lists) (items behind : List Item) (breach : ShapeBreach) → IsVocabulary old
    → IsBreachAmong page old items behind breach → IsBreachFrom page old 0 items behind breach
from_among page old items behind breach v (inl a) =
    let held = length (together a.of_each) in
    subst (λ xs. IsBreachFrom page old 0 xs behind breach) (sym a.is)
    (behind_within page a.before (a.item ∷ a.behind) behind old a.now 0 a.of_each breach v a.within.right a.within.states
    (subst (λ n. n ≤ MOST_ITEMS) (from_nothing held) a.within.few)
    (subst (λ n. IsBreachFrom page a.now n (a.item ∷ a.behind) behind breach) (from_nothing held)
    (at_axiom page a.now (together a.of_each) a.item a.behind behind breach a.breaks)))
from_among page old items behind breach v (inr z) =
    subst (λ xs. IsBreachFrom page old 0 xs behind breach) (append-nil items)
    (behind_within page items [] behind old z.now 0 z.of_each breach v z.within.right z.within.states
    (subst (λ n. n ≤ MOST_ITEMS) (from_nothing (length (together z.of_each))) z.within.few) z.breaks)
