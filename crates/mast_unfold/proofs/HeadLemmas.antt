-- The fact of a head: it is there where each slot means something, and stays where the outputs have more values.
use Rattle.std.proofs.Common.{◌≡◌, ℕ, true, false, List, [], ◌∷◌, refl, ap, ◌∙◌}
use Rattle.std.specs.Prelude.{Option, Some, None}
use Rattle.std.specs.List.{AllByRecursion}
use Rattle.std.specs.Option.{IsSome, option_map}
use Rattle.std.proofs.lemmas.Option.{none-some, same_Some}
use Rattle.mast_terms.specs.declared.term.Term.{Term}
use Rattle.mast_terms.specs.declared.term.Term.TheVariants as term
use Rattle.mast_terms.specs.declared.value.Value.{Value}
use Rattle.mast_cq.specs.Meanings.{Fact, InClass, InRole, InAttr}
use Rattle.mast_sql.specs.declared.query.SourceQuery.{SourceQuery}
use Rattle.mast_tables.specs.declared.declaration.TableDecl.{TableDecl}
use Rattle.mast_mapping.specs.declared.map.Head.{Head}
use Rattle.mast_mapping.specs.declared.map.Head.TheVariants.{Class, Role, Attr}
use Rattle.mast_mapping.specs.declared.map.Slot.{Slot}
use Rattle.mast_mapping.specs.declared.map.Slot.TheVariants.{Output, Constant}
use Rattle.mast_mapping.specs.declared.map.Template.{Template}
use Rattle.mast_mapping.specs.Columns.{Meaning, meaning_of_output}
use Rattle.mast_mapping.specs.OverTables.{IsSlotOver, IsObjectOver}
use Rattle.mast_unfold.specs.HeadFacts.{OutputValues, of_two, value_of_slot, values_of_slots, object_of_template, fact_of_head}
use Rattle.mast_unfold.specs.Sources.{ColumnValues, output_values}

-- the parts of what a function gives of two things
pub record Both {A B C : Type 0} (f : A → B → C) (a : Option A) (b : Option B) (c : C) : Type 0 where
  pub first : A
  pub second : B
  pub has_first : a ≡ Some first
  pub has_second : b ≡ Some second
  pub gives : f first second ≡ c

-- both are there where it gives something
pub both_there : {A B C : Type 0} (f : A → B → C) (a : Option A) (b : Option B) (c : C) → of_two f a b ≡ Some c → Both f a b c
both_there f None b c h = absurd (none-some c h)
both_there f (Some x) None c h = absurd (none-some c h)
both_there f (Some x) (Some y) c h = record { first = x; second = y; has_first = refl; has_second = refl; gives = same_Some (f x y) c h }

-- and it gives something where both are
pub of_both_there : {A B C : Type 0} (f : A → B → C) (a : Option A) (b : Option B) (x : A) (y : B) → a ≡ Some x → b ≡ Some y → of_two f a b ≡ Some (f x y)
of_both_there f a b x y e g = rw (e, g) refl

-- what a map gives comes of something
pub record MapOf {A B : Type 0} (f : A → B) (a : Option A) (b : B) : Type 0 where
  pub from : A
  pub has : a ≡ Some from
  pub gives : f from ≡ b

-- where there is something after a map, something was there
pub map_there : {A B : Type 0} (f : A → B) (a : Option A) (b : B) → option_map f a ≡ Some b → MapOf f a b
map_there f None b h = absurd (none-some b h)
map_there f (Some x) b h = record { from = x; has = refl; gives = same_Some (f x) b h }

-- the second values are at least the first
abbrev pub HaveMore : OutputValues → OutputValues → Type 0
HaveMore outputs more = (name : List ℕ) (v : Value) → outputs name ≡ Some v → more name ≡ Some v

module _ (outputs more : OutputValues) (have : HaveMore outputs more) where
  -- the value of a slot stays
  pub slot_more : (slot : Slot) (v : Value) → value_of_slot outputs slot ≡ Some v → value_of_slot more slot ≡ Some v
  slot_more (Output name) v h = have name v h
  slot_more (Constant w) v h = h

  -- those of slots stay
  pub slots_more : (slots : List Slot) (vs : List Value) → values_of_slots outputs slots ≡ Some vs → values_of_slots more slots ≡ Some vs
  slots_more [] vs h = h
  slots_more (slot ∷ slots) vs h =
      let b = both_there (λ v ws. v ∷ ws) (value_of_slot outputs slot) (values_of_slots outputs slots) vs h in
      of_both_there (λ v ws. v ∷ ws) (value_of_slot more slot) (values_of_slots more slots) b.first b.second (slot_more slot b.first b.has_first) (slots_more slots b.second b.has_second) ∙ ap Some b.gives

  -- the object of a template stays
  pub object_more : (template : Template) (t : Term) → object_of_template outputs template ≡ Some t → object_of_template more template ≡ Some t
  object_more template t h =
      let m = map_there (λ vs. term.Object (record { symbol = template.symbol; args = vs })) (values_of_slots outputs template.args) t h in
      ap (option_map (λ vs. term.Object (record { symbol = template.symbol; args = vs }))) (slots_more template.args m.from m.has) ∙ ap Some m.gives

  -- the fact of a head stays
  pub fact_more : (head : Head) (fact : Fact Term) → fact_of_head outputs head ≡ Some fact → fact_of_head more head ≡ Some fact
  fact_more (Class name subject) fact h =
      let m = map_there (λ t. InClass name t) (object_of_template outputs subject) fact h in
      ap (option_map (λ t. InClass name t)) (object_more subject m.from m.has) ∙ ap Some m.gives
  fact_more (Role name from to) fact h =
      let b = both_there (λ t u. InRole name t u) (object_of_template outputs from) (object_of_template outputs to) fact h in
      of_both_there (λ t u. InRole name t u) (object_of_template more from) (object_of_template more to) b.first b.second (object_more from b.first b.has_first) (object_more to b.second b.has_second) ∙ ap Some b.gives
  fact_more (Attr name from value) fact h =
      let b = both_there (λ t v. InAttr name t (term.Value v)) (object_of_template outputs from) (value_of_slot outputs value) fact h in
      of_both_there (λ t v. InAttr name t (term.Value v)) (object_of_template more from) (value_of_slot more value) b.first b.second (object_more from b.first b.has_first) (slot_more value b.second b.has_second) ∙ ap Some b.gives

-- something is there
pub record Has {A : Type 0} (o : Option A) : Type 0 where
  pub it : A
  pub is : o ≡ Some it

module _ (tables : List TableDecl) (query : SourceQuery) (values : ColumnValues) where
  meant_has : (m : Option Meaning) → IsSome m → Has (option_map values m)
  meant_has None h = absurd (let no : false ≡ true = h in cc)
  meant_has (Some m) h = record { it = values m; is = refl }

  -- a slot that means something has a value
  pub slot_has : (slot : Slot) → IsSlotOver tables query slot → Has (value_of_slot (output_values tables query values) slot)
  slot_has (Output name) h = meant_has (meaning_of_output tables query name) h
  slot_has (Constant v) h = record { it = v; is = refl }

  -- so have all
  pub slots_have : (slots : List Slot) → AllByRecursion (IsSlotOver tables query) slots → Has (values_of_slots (output_values tables query values) slots)
  slots_have [] h = record { it = []; is = refl }
  slots_have (slot ∷ slots) h =
      let a = slot_has slot h.0 in
      let b = slots_have slots h.1 in
      record {
        it = a.it ∷ b.it;
        is = of_both_there (λ v vs. v ∷ vs) (value_of_slot (output_values tables query values) slot) (values_of_slots (output_values tables query values) slots) a.it b.it a.is b.is;
      }

  -- the object that values make of a template
  pub record HasObject (template : Template) : Type 0 where
    pub args : List Value
    pub are : values_of_slots (output_values tables query values) template.args ≡ Some args
    pub is : object_of_template (output_values tables query values) template ≡ Some (term.Object (record { symbol = template.symbol; args = args }))

  -- a template whose slots mean something has an object
  pub object_has : (template : Template) → IsObjectOver tables query template → HasObject template
  object_has template h =
      let b = slots_have template.args h in
      record { args = b.it; are = b.is; is = ap (option_map (λ vs. term.Object (record { symbol = template.symbol; args = vs }))) b.is }
