-- The fact that a head gives where its outputs have values.
use Rattle.std.specs.Prelude.{ℕ, List, [], ◌∷◌, Option, Some, None}
use Rattle.std.specs.Option.{option_map}
use Rattle.mast_terms.specs.declared.term.Term.{Term}
use Rattle.mast_terms.specs.declared.term.Term.TheVariants as term
use Rattle.mast_terms.specs.declared.value.Value.{Value}
use Rattle.mast_cq.specs.Meanings.{Fact, InClass, InRole, InAttr}
use Rattle.mast_mapping.specs.declared.map.Head.{Head}
use Rattle.mast_mapping.specs.declared.map.Head.TheVariants.{Class, Role, Attr}
use Rattle.mast_mapping.specs.declared.map.Slot.{Slot}
use Rattle.mast_mapping.specs.declared.map.Slot.TheVariants.{Output, Constant}
use Rattle.mast_mapping.specs.declared.map.Template.{Template}

-- the value of each output, if it has one
abbrev pub OutputValues : Type 0
OutputValues = List ℕ → Option Value

-- what a function gives of two things, where both are there
abbrev pub of_two : {A B C : Type 0} → (A → B → C) → Option A → Option B → Option C
of_two f None b = None
of_two f (Some a) None = None
of_two f (Some a) (Some b) = Some (f a b)

-- the value of a slot
abbrev pub value_of_slot : OutputValues → Slot → Option Value
value_of_slot outputs (Output name) = outputs name
value_of_slot outputs (Constant value) = Some value

-- the values of slots, where each has one
abbrev pub values_of_slots : OutputValues → List Slot → Option (List Value)
values_of_slots outputs [] = Some []
values_of_slots outputs (slot ∷ slots) =
    of_two (λ value values. value ∷ values) (value_of_slot outputs slot) (values_of_slots outputs slots)

-- the object of a template, where each of its slots has a value
abbrev pub object_of_template : OutputValues → Template → Option Term
object_of_template outputs template =
    option_map (λ values. term.Object (record { symbol = template.symbol; args = values })) (values_of_slots outputs template.args)

-- the fact of a head, where each of its slots has a value
abbrev pub fact_of_head : OutputValues → Head → Option (Fact Term)
fact_of_head outputs (Class name subject) = option_map (λ t. InClass name t) (object_of_template outputs subject)
fact_of_head outputs (Role name from to) =
    of_two (λ t u. InRole name t u) (object_of_template outputs from) (object_of_template outputs to)
fact_of_head outputs (Attr name from value) =
    of_two (λ t v. InAttr name t (term.Value v)) (object_of_template outputs from) (value_of_slot outputs value)
