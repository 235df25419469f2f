-- Axioms that are read one by one, within the limit.
use Rattle.std.proofs.Common.{◌≡◌, ◌⊎◌, inl, inr, refl, sym, ap, ◌∙◌, subst, ◌+◌, ◌<◌, ◌≤◌, List, [], ◌∷◌, ◌++◌, length, append_assoc, append-nil}
use Rattle.std.specs.Prelude.{Result, Ok, Err, Some}
use Rattle.std.specs.List.{flat_map}
use Rattle.std.specs.Result.{IsErrAnd}
use Rattle.mast_terms.specs.declared.memory.Stop.{Stop}
use Rattle.mast_terms.specs.declared.memory.Stop.TheVariants.{Named, NoMemory}
use Rattle.std.proofs.lemmas.List.{length-append}
use Rattle.mast_terms.specs.Vocabularies.{Lists}
use Rattle.mast_tbox.specs.declared.axiom.Lined.{Lined}
use Rattle.mast_tree.specs.declared.item.Item.{Item}
use Rattle.mast_tree.specs.declared.shape.ShapeBreach.{ShapeBreach}
use Rattle.mast_tree.specs.Judgements.{first_breach, AreRight}
use Rattle.mast_tree.proofs.GrowingLemmas.{right_begins}
use Rattle.mast_tree.proofs.JudgementLemmas.{right_parts}
use Rattle.mast_tree.specs.Pages.{Page}
use Rattle.mast_onto.specs.Axioms.{axiom_judged}
use Rattle.mast_onto.specs.Lists.{together}
use Rattle.mast_onto.specs.Ontologies.{PassesHere}
use Rattle.mast_onto.specs.declared.statement.Statement.{Statement}
use Rattle.mast_onto.specs.declared.statements.Statements.{Statements}
use Rattle.mast_onto.specs.declared.statements.TheConstants.{MOST_ITEMS}
use Rattle.mast_onto.specs.inside.Stating.{StatesOne, StateAll, AllStated, LeadsOn, ReadsStated, ReadsAxioms, IsBreachFrom}
use Rattle.mast_onto.proofs.KeptLemmas.{stated_kept}
use Rattle.mast_onto.proofs.LeadLemmas.{right_nothing}

-- at first nothing is read
pub on_start : (page : Page) (old : Lists) (whole : List Item) → LeadsOn page old whole old [] whole
on_start page old whole = record { right = λ new of_each a g. (a, (of_each, g, refl)); breach = λ after b e. e }

joined_count : (held more all : List (Lined Statement)) → all ≡ held ++ more → length all ≡ length held + length more
joined_count held more all e = ap length e ∙ length-append held more

-- one axiom more is read
pub on_next : (page : Page) (old now new : Lists) (whole rest : List Item) (item : Item) (held all : List (Lined Statement))
    → LeadsOn page old whole now held (item ∷ rest) → StatesOne page item now new held all → length all ≤ MOST_ITEMS → LeadsOn page old whole new all rest
on_next page old now new whole rest item held all leads one few = record {
  right = λ last of_each a g.
      subst (λ statements. AreRight old (flat_map (axiom_judged page) whole) last × StateAll page last whole statements)
      (sym (append_assoc held one.more (together of_each)) ∙ ap (λ xs. xs ++ together of_each) (sym one.is))
      (leads.right last (one.more ∷ of_each) (right_parts now new last (axiom_judged page item) (flat_map (axiom_judged page) rest) one.right a)
      (stated_kept page last new item one.more (right_begins new last (flat_map (axiom_judged page) rest) a) one.states, g));
  breach = λ after b e.
      let count : length all ≡ length held + length one.more = joined_count held one.more all one.is in
      leads.breach after b (inr (
        new,
        one.more,
        one.right,
        one.states,
        inr (
          subst (λ n. n ≤ MOST_ITEMS) count few,
          subst (λ n. IsBreachFrom page new n rest after b) count e,
        ),
      ));
}

-- something is wrong with an axiom
pub on_breach : (page : Page) (old now : Lists) (whole rest : List Item) (item : Item) (held : List (Lined Statement)) (breach : ShapeBreach)
    → LeadsOn page old whole now held (item ∷ rest) → (first_breach now (axiom_judged page item) ≡ Some breach) ⊎ PassesHere page item now held breach
    → (after : List Item) → IsBreachFrom page old 0 whole after breach
on_breach page old now whole rest item held breach leads (inl e) after = leads.breach after breach (inl e)
on_breach page old now whole rest item held breach leads (inr p) after =
    leads.breach after breach (inr (p.new, p.more, p.right, p.states, inl (subst (λ n. MOST_ITEMS < n) (length-append held p.more) p.passes, p.is)))

-- all are read
pub on_end : (page : Page) (old new : Lists) (whole : List Item) (held : List (Lined Statement)) → LeadsOn page old whole new held [] → AllStated page whole old new held
on_end page old new whole held leads =
    let w = leads.right new [] (right_nothing new) tt in
    record { right = w.0; states = subst (StateAll page new whole) (append-nil held) w.1; behind = λ after b e. leads.breach after b e }

-- what stops the reading of an axiom is the first breach
pub on_stop : (T : Type 0) (page : Page) (old now mid : Lists) (whole rest : List Item) (item : Item) (held all : List (Lined Statement)) (result : Result Statements (Stop ShapeBreach)) (why : Stop ShapeBreach)
    → LeadsOn page old whole now held (item ∷ rest) → IsErrAnd result (λ e. e ≡ why) → ReadsStated {T = T} page item now mid held all (Err why) → ReadsAxioms page whole old mid result
on_stop T page old now mid whole rest item held all (Ok x) why leads same h = absurd same
on_stop T page old now mid whole rest item held all (Err NoMemory) why leads same h = tt
on_stop T page old now mid whole rest item held all (Err (Named breach)) NoMemory leads same h = absurd (cc)
on_stop T page old now mid whole rest item held all (Err (Named breach)) (Named other) leads same h =
    let e : other ≡ breach = cc in
    on_breach page old now whole rest item held breach leads (subst (λ b. (first_breach now (axiom_judged page item) ≡ Some b) ⊎ PassesHere page item now held b) e h)
