-- What is read item by item: the first item, and then those that follow it.
use Rattle.std.proofs.Common.{arith, ◌+◌, ◌≡◌, refl, sym, ap, ◌∙◌, subst, ℕ, suc, List, [], ◌∷◌, ◌++◌, append_assoc}
use Rattle.std.specs.Prelude.{Result, Ok, Err, Some, IsErrAnd}
use Rattle.mast_cq.specs.declared.atom.Arg.{Arg}
use Rattle.mast_cq.specs.declared.atom.Atom.{Atom}
use Rattle.mast_terms.specs.declared.memory.Stop.{Stop}
use Rattle.mast_terms.specs.declared.memory.Stop.TheVariants.{Named, NoMemory}
use Rattle.mast_terms.specs.Vocabularies.{Lists}
use Rattle.mast_tbox.specs.Lists.{AreEach}
use Rattle.mast_tree.specs.declared.item.Item.{Item}
use Rattle.mast_tree.specs.declared.shape.ShapeBreach.{ShapeBreach}
use Rattle.mast_tree.specs.Growing.{BeginsWith, Begins}
use Rattle.mast_tree.specs.Judgements.{Judgement, first_breach, AreRight, Judges}
use Rattle.mast_tree.proofs.GrowingLemmas.{right_begins}
use Rattle.mast_tree.proofs.JudgementLemmas.{right_parts, breach_second}
use Rattle.mast_tree.specs.Pages.{Page, says}
use Rattle.mast_expressions.proofs.ReadLemmas.{handed, stops, stops_first, stops_second}
use Rattle.mast_constr.specs.declared.variables.Sort.TheVariants.{Object, Value}
use Rattle.mast_constr.specs.Denials.{Dates, object_judged, object_place, pair_judged, value_judged, filler_judged, atom_judged, IsObject, IsValue, IsAtom}
use Rattle.mast_constr.specs.Variables.{Variables, variable}
use Rattle.mast_constr.specs.inside.Atoms.{with_object, with_value, with_atom, with_atoms, atoms_from}
use Rattle.mast_constr.specs.inside.Rules.{Adds, Puts, GivesAtoms}
use Rattle.mast_constr.proofs.FirstPlaceLemmas.{object_behind, value_behind}
use Rattle.mast_constr.proofs.GrowLemmas.{atom_grows}
use Rattle.mast_constr.proofs.VariableLemmas.{placed_begins, atoms_begin, variable_grows}

-- one element is put, and then more are added
pub adds_more : {X Y : Type 0} (R : X → Y → Type 0) (x : X) (xs : List X) (old mid new : List Y) (y : Y)
    → mid ≡ old ++ y ∷ [] → R x y → Adds mid new (AreEach R xs) → Adds old new (AreEach R (x ∷ xs))
adds_more R x xs old mid new y e r h = (y ∷ h.0, h.1 ∙ (ap (λ l. l ++ h.0) e ∙ append_assoc old (y ∷ []) h.0), (r, h.2))

-- nothing is wrong with the first item, and the rest was read
pub one_and_rest : {X Y : Type 0} (R : Lists → X → Y → Type 0) → ((late early : Lists) → Begins late early → (x : X) (y : Y) → R early x y → R late x y)
    → (old mid new : Lists) (first second : List Judgement) (x : X) (xs : List X) (before between after : List Y) (result : Result (Unit {0}) (Stop ShapeBreach))
    → AreRight old first mid → Puts before between (R mid x)
    → Judges mid second new (λ u. Adds between after (AreEach (R new) xs)) result
    → Judges old (first ++ second) new (λ u. Adds before after (AreEach (R new) (x ∷ xs))) result
one_and_rest R grows old mid new first second x xs before between after (Ok u) right put h =
    (right_parts old mid new first second right h.0, adds_more (R new) x xs before between after put.0 put.1 (grows new mid (right_begins mid new second h.0) x put.0 put.2) h.1)
one_and_rest R grows old mid new first second x xs before between after (Err (Named breach)) right put h = breach_second old mid first second breach right h
one_and_rest R grows old mid new first second x xs before between after (Err NoMemory) right put h = tt

-- what stops the reading of the first part, handed on
pub first_stops : {T U : Type 0} (old mid new : Lists) (first second : List Judgement) (P : T → Type 0) (Q : U → Type 0) (result : Result U (Stop ShapeBreach)) (why : Stop ShapeBreach)
    → IsErrAnd result (λ e. e ≡ why) → Judges old first mid P (Err why) → Judges old (first ++ second) new Q result
first_stops old mid new first second P Q result why e h = handed old new (first ++ second) Q result why e (stops_first old mid new first second P Q why h)

-- what stops the reading of the second part, handed on; the second part may be written otherwise
pub second_stops : {T U : Type 0} (old mid late new : Lists) (first second other : List Judgement) (P : T → Type 0) (Q : U → Type 0) (result : Result U (Stop ShapeBreach)) (why : Stop ShapeBreach)
    → IsErrAnd result (λ e. e ≡ why) → AreRight old first mid → other ≡ second → Judges mid other late P (Err why) → Judges old (first ++ second) new Q result
second_stops old mid late new first second other P Q result why e right same h =
    handed old new (first ++ second) Q result why e (stops_second old mid new new first second Q Q why right (stops mid late new other second P Q why same h))

-- what stops the reading of all, handed on
pub all_stops : {T U : Type 0} (old mid new : Lists) (judgements : List Judgement) (P : T → Type 0) (Q : U → Type 0) (result : Result U (Stop ShapeBreach)) (why : Stop ShapeBreach)
    → IsErrAnd result (λ e. e ≡ why) → Judges old judgements mid P (Err why) → Judges old judgements new Q result
all_stops old mid new judgements P Q result why e h = handed old new judgements Q result why e (stops old mid new judgements judgements P Q why refl h)

-- two objects were read
pub pair_read : (page : Page) (known mid last : Variables) (from to : Item) (x y : Arg) (lists : Lists)
    → AreRight lists (object_judged page known from) lists × ((mid ≡ with_object page known from) × IsObject page mid from x)
    → AreRight lists (object_judged page mid to) lists × ((last ≡ with_object page mid to) × IsObject page last to y)
    → AreRight lists (pair_judged page known from to) lists
    × ((last ≡ with_object page (with_object page known from) to) × IsObject page last from x × IsObject page last to y)
pair_read page known mid last from to x y lists a b =
    let next = with_object page known from in
    let e = a.1.0 in
    let behind = subst (λ k. AreRight lists (object_judged page k to) lists) e b.0 in
    let second = subst (λ js. AreRight lists js lists) (object_behind page known from to) behind in
    let after = subst (λ k. last ≡ with_object page k to) e b.1.0 in
    let first = subst (λ k. IsObject page k from x) e a.1.1 in (
      right_parts lists lists lists (object_judged page known from) (object_judged page (known ++ object_place page from) to) a.0 second,
      (after, variable_grows Object last next (variable (says page from)) x (subst (λ k. BeginsWith k next) (sym after) (placed_begins Object (variable (says page to)) next)) first, b.1.1),
    )

-- an object and a value were read
pub filler_read : (dates : Dates) (page : Page) (known mid last : Variables) (from value : Item) (x y : Arg) (old new : Lists)
    → AreRight old (object_judged page known from) old × ((mid ≡ with_object page known from) × IsObject page mid from x)
    → AreRight old (value_judged dates page mid value) new × ((last ≡ with_value page mid value) × IsValue dates new page last value y)
    → AreRight old (filler_judged dates page known from value) new
    × ((last ≡ with_value page (with_object page known from) value) × IsObject page last from x × IsValue dates new page last value y)
filler_read dates page known mid last from value x y old new a b =
    let next = with_object page known from in
    let e = a.1.0 in
    let behind = subst (λ k. AreRight old (value_judged dates page k value) new) e b.0 in
    let second = subst (λ js. AreRight old js new) (value_behind dates page known from value) behind in
    let after = subst (λ k. last ≡ with_value page k value) e b.1.0 in
    let first = subst (λ k. IsObject page k from x) e a.1.1 in (
      right_parts old old new (object_judged page known from) (value_judged dates page (known ++ object_place page from) value) a.0 second,
      (after, variable_grows Object last next (variable (says page from)) x (subst (λ k. BeginsWith k next) (sym after) (placed_begins Value (variable (says page value)) next)) first, b.1.1),
    )

-- an atom is put, and then the rest was read
pub atom_and_rest : (dates : Dates) (page : Page) (number : ℕ) (known mid last : Variables) (item : Item) (items : List Item) (old between new : Lists) (some middle all : List Atom)
    (result : Result (Unit {0}) (Stop ShapeBreach))
    → AreRight old (atom_judged dates page number known item) between × ((mid ≡ with_atom page known (says page item)) × Puts some middle (IsAtom dates between page mid item))
    → Judges between (atoms_from dates page (suc number) mid items) new (λ u. GivesAtoms dates page items mid last new middle all) result
    → Judges old (atoms_from dates page number known (item ∷ items)) new (λ u. GivesAtoms dates page (item ∷ items) known last new some all) result
atom_and_rest dates page number known mid last item items old between new some middle all (Err NoMemory) a h = tt
atom_and_rest dates page number known mid last item items old between new some middle all (Err (Named breach)) a h =
    breach_second old between (atom_judged dates page number known item) (atoms_from dates page (suc number) (with_atom page known (says page item)) items) breach a.0
    (subst (λ k. first_breach between (atoms_from dates page (suc number) k items) ≡ Some breach) a.1.0 h)
atom_and_rest dates page number known mid last item items old between new some middle all (Ok u) a h =
    let next = with_atom page known (says page item) in
    let rest = atoms_from dates page (suc number) next items in
    let right = subst (λ k. AreRight between (atoms_from dates page (suc number) k items) new) a.1.0 h.0 in
    let after = subst (λ k. last ≡ with_atoms page k items) a.1.0 h.1.0 in
    let begins = subst (λ k. BeginsWith k next) (sym after) (atoms_begin page next items) in
    let first = atom_grows dates new between page last next item a.1.1.0 (right_begins between new rest right) begins (subst (λ k. IsAtom dates between page k item a.1.1.0) a.1.0 a.1.1.2) in (
      right_parts old between new (atom_judged dates page number known item) rest a.0 right,
      (after, adds_more (IsAtom dates new page last) item items some middle all a.1.1.0 a.1.1.1 first h.1.1),
    )

-- what was added to nothing is all
pub added_all : {X : Type 0} (old new : List X) (P : List X → Type 0) → old ≡ [] → Adds old new P → P new
added_all old new P e h = subst P (sym (h.1 ∙ ap (λ l. l ++ h.0) e)) h.2

-- one more
pub plus_one : (n : ℕ) → n + 1 ≡ suc n
plus_one n = omega arith
