-- What is read in parts: a part that is refused refuses the whole, and parts with which nothing is wrong make one.
use Rattle.std.proofs.Common.{◌≡◌, sym, ap, ◌∙◌, subst, ℕ, true, List, ◌++◌}
use Rattle.std.specs.Prelude.{Result, Ok, Err, IsErrAnd}
use Rattle.std.specs.Str.{bytes_eq}
use Rattle.std.proofs.lemmas.Slice.Eq.{bytes_eq-Decides}
use Rattle.mast_terms.specs.declared.memory.Stop.{Stop}
use Rattle.mast_terms.specs.declared.memory.Stop.TheVariants.{Named, NoMemory}
use Rattle.mast_terms.specs.Vocabularies.{Lists}
use Rattle.mast_tree.specs.declared.item.Item.{Item}
use Rattle.mast_tree.specs.declared.shape.ShapeBreach.{ShapeBreach}
use Rattle.mast_tree.specs.Judgements.{Judgement, first_breach, AreRight, Judges}
use Rattle.mast_tree.specs.Said.{node}
use Rattle.mast_tree.proofs.JudgementLemmas.{breach_first, breach_second}
use Rattle.mast_tree.specs.Pages.{Page, says, IsNodeOf}

-- an item that says a node of a word that equals the wanted one
pub is_node : (page : Page) (item : Item) (word wanted : List ℕ) (at : ℕ) (items : List Item)
    → says page item ≡ node word at items → bytes_eq word wanted ≡ true → IsNodeOf page wanted item items
is_node page item word wanted at items e h = (at, e ∙ ap (λ w. node w at items) ((bytes_eq-Decides word wanted).0 h))

-- an answer that hands a refusal on
pub handed : {U : Type 0} (old new : Lists) (judgements : List Judgement) (Q : U → Type 0) (result : Result U (Stop ShapeBreach)) (why : Stop ShapeBreach)
    → IsErrAnd result (λ e. e ≡ why) → Judges old judgements new Q (Err why) → Judges old judgements new Q result
handed old new judgements Q (Ok given) why e h = absurd e
handed old new judgements Q (Err other) why e h = subst (λ x. Judges old judgements new Q (Err x)) (sym e) h

-- what stops the reading of a part stops that of what is judged the same
pub stops : {T U : Type 0} (old mid new : Lists) (part whole : List Judgement) (P : T → Type 0) (Q : U → Type 0) (why : Stop ShapeBreach)
    → part ≡ whole → Judges old part mid P (Err why) → Judges old whole new Q (Err why)
stops old mid new part whole P Q (Named breach) e h = ap (first_breach old) (sym e) ∙ h
stops old mid new part whole P Q NoMemory e h = tt

-- what stops the reading of the first part stops that of the whole
pub stops_first : {T U : Type 0} (old mid new : Lists) (first second : List Judgement) (P : T → Type 0) (Q : U → Type 0) (why : Stop ShapeBreach)
    → Judges old first mid P (Err why) → Judges old (first ++ second) new Q (Err why)
stops_first old mid new first second P Q (Named breach) h = breach_first old first second breach h
stops_first old mid new first second P Q NoMemory h = tt

-- where nothing is wrong with the first part, what stops the reading of the second stops that of the whole
pub stops_second : {T U : Type 0} (old mid late new : Lists) (first second : List Judgement) (P : T → Type 0) (Q : U → Type 0) (why : Stop ShapeBreach)
    → AreRight old first mid → Judges mid second late P (Err why) → Judges old (first ++ second) new Q (Err why)
stops_second old mid late new first second P Q (Named breach) right h = breach_second old mid first second breach right h
stops_second old mid late new first second P Q NoMemory right h = tt
