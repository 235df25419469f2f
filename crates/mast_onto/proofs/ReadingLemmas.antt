-- What is read by calls in sequence.
use Rattle.std.proofs.Common.{◌≡◌, inl, inr, sym, ap, ◌∙◌, subst, ℕ, List}
use Rattle.std.specs.Prelude.{Result, Ok, Err, Some}
use Rattle.std.specs.Result.{IsErrAnd}
use Rattle.mast_terms.specs.declared.memory.Stop.{Stop}
use Rattle.mast_terms.specs.declared.memory.Stop.TheVariants.{Named, NoMemory}
use Rattle.mast_terms.specs.Vocabularies.{Lists}
use Rattle.mast_tbox.specs.declared.axiom.Lined.{Lined}
use Rattle.mast_tree.specs.declared.item.Item.{Item}
use Rattle.mast_tree.specs.declared.shape.ShapeBreach.{ShapeBreach}
use Rattle.mast_tree.specs.Judgements.{first_breach, after, AreRight, Judges, breach_judged}
use Rattle.mast_tree.specs.Results.{Gives}
use Rattle.mast_tree.specs.Said.{line}
use Rattle.mast_tree.specs.Pages.{Page, says}
use Rattle.mast_onto.specs.Axioms.{form_judged, IsAxiom}
use Rattle.mast_onto.specs.Nodes.{AxiomForm, axiom_form}
use Rattle.mast_onto.specs.Ontologies.{items_at}
use Rattle.mast_onto.specs.Stated.{stated}
use Rattle.mast_onto.specs.declared.statement.Axiom.{Axiom}
use Rattle.mast_onto.specs.declared.statement.Statement.{Statement}
use Rattle.mast_onto.specs.inside.Growing.{Adds}
use Rattle.mast_onto.specs.inside.Stating.{ReadsStated}

right_value : {T : Type 0} (lists : Lists) (e : Result T ShapeBreach) (x : T) → e ≡ Ok x → AreRight lists (breach_judged e) lists
right_value lists e x h = record {
  none = ap (λ r. first_breach lists (breach_judged r)) h;
  then = sym (ap (λ r. after lists (breach_judged r)) h);
}

-- what uses no name is judged by its breach
pub gives_judges : {T : Type 0} (lists : Lists) (e : Result T ShapeBreach) (result : Result T (Stop ShapeBreach)) → Gives result e → Judges lists (breach_judged e) lists (λ x. e ≡ Ok x) result
gives_judges lists e (Ok x) h = (right_value lists e x h, h)
gives_judges lists e (Err (Named breach)) h = ap (λ r. first_breach lists (breach_judged r)) h
gives_judges lists e (Err NoMemory) h = tt

-- an axiom was read, and what it states was added
pub state_added : {T : Type 0} (page : Page) (item : Item) (old new : Lists) (held all : List (Lined Statement)) (at : ℕ) (form : AxiomForm) (read : Axiom) (result : Result T (Stop ShapeBreach))
    → form ≡ axiom_form page item → at ≡ line (says page item) → AreRight old (form_judged page form) new → IsAxiom page new form read → Adds at (stated at read) held all result
    → ReadsStated page item old new held all result
state_added page item old new held all at form read (Ok x) e l right is added = record {
  right = subst (λ f. AreRight old (form_judged page f) new) e right;
  more = stated at read;
  states = record { read = read; is = subst (λ f. IsAxiom page new f read) e is; states = ap (λ n. stated n read) l };
  is = added;
}
state_added page item old new held all at form read (Err (Named breach)) e l right is added = inr (record {
  new = new;
  more = stated at read;
  right = subst (λ f. AreRight old (form_judged page f) new) e right;
  states = record { read = read; is = subst (λ f. IsAxiom page new f read) e is; states = ap (λ n. stated n read) l };
  passes = added.1;
  is = added.0 ∙ ap items_at l;
})
state_added page item old new held all at form read (Err NoMemory) e l right is added = tt

-- an axiom was not read
pub state_stopped : {T U : Type 0} (page : Page) (item : Item) (old mid new : Lists) (held all : List (Lined Statement)) (form : AxiomForm) (P : T → Type 0) (result : Result U (Stop ShapeBreach)) (why : Stop ShapeBreach)
    → form ≡ axiom_form page item → IsErrAnd result (λ e. e ≡ why) → Judges old (form_judged page form) mid P (Err why) → ReadsStated page item old new held all result
state_stopped page item old mid new held all form P (Ok x) why e s h = absurd s
state_stopped page item old mid new held all form P (Err (Named breach)) (Named other) e s h =
    inl (ap (λ f. first_breach old (form_judged page f)) (sym e) ∙ (h ∙ ap Some (named_one breach other s)))
  where
    named_one : (a b : ShapeBreach) → ◌≡◌ {A = Stop ShapeBreach} (Named a) (Named b) → b ≡ a
    named_one a b f = cc
state_stopped page item old mid new held all form P (Err (Named breach)) NoMemory e s h = absurd (no_named breach s)
  where
    no_named : (a : ShapeBreach) → ◌≡◌ {A = Stop ShapeBreach} (Named a) NoMemory → ⊥
    no_named a f = cc
state_stopped page item old mid new held all form P (Err NoMemory) why e s h = tt
