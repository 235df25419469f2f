-- What each place and each axiom is read to: what stands there, where nothing is wrong with it, or its first breach.
use Rattle.std.specs.Prelude.{◌≡◌, Bool, List, ◌++◌, Result, Ok, Option, Some}
use Rattle.std.specs.List.{flat_map}
use Rattle.mast_terms.specs.declared.memory.Stop.{Stop}
use Rattle.mast_terms.specs.declared.value.Kind.{Kind}
use Rattle.mast_terms.specs.Vocabularies.{Lists}
use Rattle.mast_tbox.specs.declared.expression.Basic.{Basic}
use Rattle.mast_tbox.specs.Lists.{AreEach}
use Rattle.mast_tree.specs.declared.item.Item.{Item}
use Rattle.mast_tree.specs.declared.shape.ShapeBreach.{ShapeBreach}
use Rattle.mast_tree.specs.Judgements.{Judgement, first_breach, AreRight, Judges, breach_judged}
use Rattle.mast_tree.specs.Pages.{Page}
use Rattle.mast_onto.specs.Axioms.{member_judged, form_judged, type_said, IsMember, IsSubject, IsAxiom}
use Rattle.mast_onto.specs.Nodes.{AxiomForm}
use Rattle.mast_onto.specs.Rights.{PartForm, part_judged, right_forms, right_judged, IsPart}
use Rattle.mast_onto.specs.declared.form.Place.{Place}
use Rattle.mast_onto.specs.declared.statement.Axiom.{Axiom}
use Rattle.mast_onto.specs.declared.statement.Expression.{Expression}
use Rattle.mast_onto.specs.declared.statement.Part.{Part}

-- a part was read
abbrev pub ReadsPart : Page → PartForm → Lists → Lists → Result Part (Stop ShapeBreach) → Type 0
ReadsPart page form old new result = Judges old (part_judged page form) new (IsPart page new form) result

-- parts were read
abbrev pub ReadsParts : Page → List PartForm → Lists → Lists → Result (List Part) (Stop ShapeBreach) → Type 0
ReadsParts page forms old new result = Judges old (flat_map (part_judged page) forms) new (AreEach (IsPart page new) forms) result

-- a right side was read
abbrev pub ReadsRight : Page → Item → Lists → Lists → Result (List Part) (Stop ShapeBreach) → Type 0
ReadsRight page item old new result = Judges old (right_judged page item) new (AreEach (IsPart page new) (right_forms page item)) result

-- an expression was read
abbrev pub ReadsMember : Page → Place → Item → Lists → Lists → Result Expression (Stop ShapeBreach) → Type 0
ReadsMember page place item old new result = Judges old (member_judged page place item) new (IsMember page place new item) result

-- expressions were read
abbrev pub ReadsMembers : Page → Place → List Item → Lists → Lists → Result (List Expression) (Stop ShapeBreach) → Type 0
ReadsMembers page place items old new result =
    Judges old (flat_map (member_judged page place) items) new (AreEach (IsMember page place new) items) result

-- the concept of an expression was read
abbrev pub ReadsSubject : Page → Place → Bool → Item → Lists → Lists → Result Basic (Stop ShapeBreach) → Type 0
ReadsSubject page place turned item old new result = Judges old (member_judged page place item) new (IsSubject page place turned new item) result

-- a type was read, which uses no name
abbrev pub ReadsType : Page → Item → Lists → Result (Option Kind) (Stop ShapeBreach) → Type 0
ReadsType page item lists result = Judges lists (breach_judged (type_said page item)) lists (λ kind. type_said page item ≡ Ok kind) result

-- an axiom of a form was read
abbrev pub ReadsForm : Page → AxiomForm → Lists → Lists → Result Axiom (Stop ShapeBreach) → Type 0
ReadsForm page form old new result = Judges old (form_judged page form) new (IsAxiom page new form) result

-- nothing is wrong with elements, each of which gives one of these
abbrev pub AreRead : {X Y : Type 0} → (X → List Judgement) → (Lists → X → Y → Type 0) → Lists → List X → Lists → List Y → Type 0
AreRead judged Is old xs new ys = AreRight old (flat_map judged xs) new × AreEach (Is new) xs ys

-- elements are read one by one: what is read of the rest makes, with what was read, the whole; and the first breach of the rest is that
-- of the whole
pub record Leads {X Y : Type 0}
    (judged : X → List Judgement) (Is : Lists → X → Y → Type 0) (old : Lists) (whole : List X) (now : Lists) (rest : List X)
    (done : List Y) : Type 0 where
  pub right :
      (new : Lists) (ys : List Y) → AreRight now (flat_map judged rest) new → AreEach (Is new) rest ys
      → AreRead judged Is old whole new (done ++ ys)
  pub breach :
      (breach : ShapeBreach) → first_breach now (flat_map judged rest) ≡ Some breach
      → first_breach old (flat_map judged whole) ≡ Some breach
