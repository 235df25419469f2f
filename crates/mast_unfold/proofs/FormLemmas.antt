-- Forms of heads: a head becomes an atom exactly where they have one name and the form fits.
use Rattle.std.proofs.Common.{◌≡◌, ◌↔◌, ℕ, Bool, true, false, nat_eq, List, refl, ap, sym, subst, ◌∙◌}
use Rattle.std.specs.Prelude.{Some, if◌then◌else◌, ◌&&◌, ◌||◌, not, IsTrue}
use Rattle.std.specs.Option.{option_map}
use Rattle.std.proofs.lemmas.Bool.{and_parts, and_from, not-true, not_from_false}
use borrow.Author.Tests.{eqb-true, eq-eqb}
use Rattle.mast_terms.specs.declared.name.Name.{Name}
use Rattle.mast_terms.specs.declared.name.NameKind.TheVariants as kinds
use Rattle.mast_terms.specs.declared.term.Term.{Term}
use Rattle.mast_terms.specs.declared.term.Term.TheVariants as term
use Rattle.mast_terms.specs.declared.value.Kind.{Kind}
use Rattle.mast_terms.specs.declared.value.Value.{Value}
use Rattle.mast_terms.proofs.OrderLemmas.{value_equality_test, kind_equality_test}
use Rattle.mast_tables.specs.Whole.{value_kind}
use Rattle.mast_cq.specs.declared.atom.Arg.{Arg}
use Rattle.mast_cq.specs.declared.atom.Arg.TheVariants.{Blank, Var, Constant}
use Rattle.mast_cq.specs.declared.atom.Atom.{Atom}
use Rattle.mast_cq.specs.declared.atom.Atom.TheVariants.{Class, Role, Attr}
use Rattle.mast_cq.specs.Meanings.{InClass, InRole, InAttr, Fits, Match}
use Rattle.mast_sql.specs.declared.query.SourceQuery.{SourceQuery}
use Rattle.mast_tables.specs.declared.declaration.TableDecl.{TableDecl}
use Rattle.mast_mapping.specs.declared.map.Head.{Head}
use Rattle.mast_mapping.specs.declared.map.Head.TheVariants as head
use Rattle.mast_mapping.specs.declared.map.Slot.{Slot}
use Rattle.mast_mapping.specs.declared.map.Template.{Template}
use Rattle.mast_mapping.specs.declared.split_map.SplitMap.{SplitMap}
use Rattle.mast_mapping.specs.OverTables.{IsSlotOver, IsObjectOver, IsHeadOver}
use Rattle.mast_unfold.specs.declared.forms.Form.{Form}
use Rattle.mast_unfold.specs.declared.forms.Form.TheVariants as form
use Rattle.mast_unfold.specs.HeadFacts.{value_of_slot, values_of_slots, object_of_template}
use Rattle.mast_unfold.specs.Sources.{ColumnValues, HaveKinds, output_values, constant_term, Becomes, CanBeOne}
use Rattle.mast_unfold.specs.inside.Equations.{Cell, column, constant, nothing, seen, same_kind, HasValue}
use Rattle.mast_unfold.specs.inside.Forms.{head_name, atom_name, IsFormOf, is_object, is_one_variable, can_be_value, constant_value, value_fits, role_fits, attr_fits, fits}
use Rattle.mast_unfold.specs.inside.Slots.{slot_cell}
use Rattle.mast_unfold.proofs.EquationLemmas.{of_kind, of_kind_is}
use Rattle.mast_unfold.proofs.HeadLemmas.{both_there, of_both_there, map_there, slot_has, object_has}
use Rattle.mast_unfold.proofs.SlotLemmas.{slot_value, cell_value, by_place}

-- a map of a source query and a head
abbrev pub map_of : SourceQuery → Head → SplitMap
map_of query head = record { query = query; head = head }

-- some value of each column, of its kind
abbrev pub any_values : ColumnValues
any_values m = of_kind m.kind

-- the value, or some value of the kind
abbrev pub chosen : Bool → Value → Kind → Value
chosen true v k = v
chosen false v k = of_kind k

-- the value where it has the kind, and else some value of the kind
abbrev pub picked : Value → Kind → Value
picked v k = chosen (same_kind (value_kind v) k) v k

-- it has the kind
pub picked_kind : (v : Value) (k : Kind) → value_kind (picked v k) ≡ k
picked_kind v k = by (same_kind (value_kind v) k) refl
  where
    by : (b : Bool) → same_kind (value_kind v) k ≡ b → value_kind (chosen b v k) ≡ k
    by true e = (kind_equality_test (value_kind v) k).0 e
    by false e = of_kind_is k

-- the variable of the first argument stands for the first term, and each other for the second
abbrev assigned : Arg → Term → Term → ℕ → Term
assigned Blank t u n = u
assigned (Var m) t u n = if nat_eq m n then t else u
assigned (Constant c) t u n = u

module _ (constants : List Value) where
  same_fits : (t : Term) (x : Arg) → is_object x ≡ true → Fits (constant_term constants) (λ n. t) x t
  same_fits t Blank h = tt
  same_fits t (Var m) h = refl
  same_fits t (Constant c) h = absurd (let no : false ≡ true = h in cc)

  first_fits : (t u : Term) (x : Arg) → is_object x ≡ true → Fits (constant_term constants) (assigned x t u) x t
  first_fits t u Blank h = tt
  first_fits t u (Var m) h = let yes : nat_eq m m ≡ true = eq-eqb m m refl in rw yes refl
  first_fits t u (Constant c) h = absurd (let no : false ≡ true = h in cc)

  second_fits : (t u : Term) (x y : Arg) → is_object y ≡ true → is_one_variable x y ≡ false → Fits (constant_term constants) (assigned x t u) y u
  second_fits t u x Blank h n = tt
  second_fits t u Blank (Var k) h n = refl
  second_fits t u (Var m) (Var k) h n = let no : nat_eq m k ≡ false = n in rw no refl
  second_fits t u (Constant c) (Var k) h n = refl
  second_fits t u x (Constant c) h n = absurd (let no : false ≡ true = h in cc)

  one_term : (s : ℕ → Term) (t u : Term) (x y : Arg) → is_one_variable x y ≡ true → Fits (constant_term constants) s x t → Fits (constant_term constants) s y u → t ≡ u
  one_term s t u Blank y h f g = absurd (let no : false ≡ true = h in cc)
  one_term s t u (Var m) Blank h f g = absurd (let no : false ≡ true = h in cc)
  one_term s t u (Var m) (Var k) h f g = let e : m ≡ k = eqb-true m k h in f ∙ (ap s e ∙ sym g)
  one_term s t u (Var m) (Constant c) h f g = absurd (let no : false ≡ true = h in cc)
  one_term s t u (Constant c) y h f g = absurd (let no : false ≡ true = h in cc)

  module _ (tables : List TableDecl) (query : SourceQuery) where
    -- what stands for an object is no constant
    is_no_constant : (values : ColumnValues) (template : Template) (s : ℕ → Term) (t : Term) (x : Arg) → object_of_template (output_values tables query values) template ≡ Some t → Fits (constant_term constants) s x t → is_object x ≡ true
    is_no_constant values template s t Blank h f = refl
    is_no_constant values template s t (Var m) h f = refl
    is_no_constant values template s t (Constant c) h f =
        let m = map_there (λ vs. term.Object (record { symbol = template.symbol; args = vs })) (values_of_slots (output_values tables query values) template.args) t h in
        let no : term.Object (record { symbol = template.symbol; args = m.from }) ≡ term.Value (constant_value constants c) = m.gives ∙ f in
        absurd (cc)

    no_value : (values : ColumnValues) (template : Template) (t : Term) (v : Value) → object_of_template (output_values tables query values) template ≡ Some t → t ≡ term.Value v → ⊥
    no_value values template t v h e =
        let m = map_there (λ vs. term.Object (record { symbol = template.symbol; args = vs })) (values_of_slots (output_values tables query values) template.args) t h in
        let no : term.Object (record { symbol = template.symbol; args = m.from }) ≡ term.Value v = m.gives ∙ e in
        cc

    -- a class
    class_becomes : (name : Name) (subject : Template) → IsObjectOver tables query subject → (x : Arg) → is_object x ≡ true → Becomes tables constants (map_of query (head.Class name subject)) (Class name x)
    class_becomes name subject over x h =
        let o = object_has tables query any_values subject over in
        let t : Term = term.Object (record { symbol = subject.symbol; args = o.args }) in
        record {
          values = any_values;
          kinds = λ m. of_kind_is m.kind;
          fact = InClass name t;
          gives = ap (option_map (λ t. InClass name t)) o.is;
          under = λ n. t;
          matches = (refl, same_fits t x h);
        }

    role_becomes_apart : (name : Name) (from to : Template) → IsObjectOver tables query from → IsObjectOver tables query to → (x y : Arg) → is_object x ≡ true → is_object y ≡ true → is_one_variable x y ≡ false
        → Becomes tables constants (map_of query (head.Role name from to)) (Role name x y)
    role_becomes_apart name from to over_from over_to x y hx hy apart =
        let o = object_has tables query any_values from over_from in
        let p = object_has tables query any_values to over_to in
        let t : Term = term.Object (record { symbol = from.symbol; args = o.args }) in
        let u : Term = term.Object (record { symbol = to.symbol; args = p.args }) in
        record {
          values = any_values;
          kinds = λ m. of_kind_is m.kind;
          fact = InRole name t u;
          gives = of_both_there (λ t u. InRole name t u) (object_of_template (output_values tables query any_values) from) (object_of_template (output_values tables query any_values) to) t u o.is p.is;
          under = assigned x t u;
          matches = (refl, first_fits t u x hx, second_fits t u x y hy apart);
        }

    role_becomes_one : (name : Name) (from to : Template) → CanBeOne tables query from to → (x y : Arg) → is_object x ≡ true → is_object y ≡ true
        → Becomes tables constants (map_of query (head.Role name from to)) (Role name x y)
    role_becomes_one name from to c x y hx hy = record {
      values = c.values;
      kinds = c.kinds;
      fact = InRole name c.object c.object;
      gives = of_both_there (λ t u. InRole name t u) (object_of_template (output_values tables query c.values) from) (object_of_template (output_values tables query c.values) to) c.object c.object c.first c.second;
      under = λ n. c.object;
      matches = (refl, same_fits c.object x hx, same_fits c.object y hy);
    }

    -- a role
    role_becomes : (name : Name) (from to : Template) → IsObjectOver tables query from → IsObjectOver tables query to → (alike : Bool) → (IsTrue alike ↔ CanBeOne tables query from to) → (x y : Arg) → role_fits x y (form.Role alike) ≡ true
        → Becomes tables constants (map_of query (head.Role name from to)) (Role name x y)
    role_becomes name from to over_from over_to alike can x y h =
        let outer = and_parts (is_object x && is_object y) (alike || not (is_one_variable x y)) h in
        let objects = and_parts (is_object x) (is_object y) outer.0 in
        by (is_one_variable x y) refl outer.1 objects
      where
        by : (b : Bool) → is_one_variable x y ≡ b → (alike || not b) ≡ true → (is_object x ≡ true) × (is_object y ≡ true) → Becomes tables constants (map_of query (head.Role name from to)) (Role name x y)
        by false e g o = role_becomes_apart name from to over_from over_to x y o.0 o.1 e
        by true e g o = role_becomes_one name from to (can.0 (yes alike g)) x y o.0 o.1
          where
            yes : (a : Bool) → (a || false) ≡ true → a ≡ true
            yes true k = refl
            yes false k = k

    attr_with : (name : Name) (from : Template) (slot : Slot) → IsObjectOver tables query from → (values : ColumnValues) → HaveKinds values → (v : Value) → value_of_slot (output_values tables query values) slot ≡ Some v
        → (x y : Arg) → is_object x ≡ true → (s : Term → ℕ → Term) → ((t : Term) → Fits (constant_term constants) (s t) x t) → ((t : Term) → Fits (constant_term constants) (s t) y (term.Value v))
        → Becomes tables constants (map_of query (head.Attr name from slot)) (Attr name x y)
    attr_with name from slot over values kinds v is x y hx s first second =
        let o = object_has tables query values from over in
        let t : Term = term.Object (record { symbol = from.symbol; args = o.args }) in
        record {
          values = values;
          kinds = kinds;
          fact = InAttr name t (term.Value v);
          gives = of_both_there (λ t v. InAttr name t (term.Value v)) (object_of_template (output_values tables query values) from) (value_of_slot (output_values tables query values) slot) t v o.is is;
          under = s t;
          matches = (refl, first t, second t);
        }

    chosen_value : (w : Value) (cell : Cell) → can_be_value w cell ≡ true → HasValue (λ p. picked w p.kind) cell w
    chosen_value w (column p) h = ap (λ b. chosen b w p.kind) h
    chosen_value w (constant v) h = sym ((value_equality_test w v).0 h)
    chosen_value w nothing h = let no : false ≡ true = h in cc

    -- an attribute
    attr_becomes : (name : Name) (from : Template) (slot : Slot) → IsObjectOver tables query from → IsSlotOver tables query slot → (x y : Arg) → is_object x ≡ true → value_fits constants x y (slot_cell tables query slot) ≡ true
        → Becomes tables constants (map_of query (head.Attr name from slot)) (Attr name x y)
    attr_becomes name from slot over slot_over x Blank hx h =
        let v = slot_has tables query any_values slot slot_over in
        attr_with name from slot over any_values (λ m. of_kind_is m.kind) v.it v.is x Blank hx (λ t n. t) (λ t. same_fits t x hx) (λ t. tt)
    attr_becomes name from slot over slot_over x (Var k) hx h =
        let v = slot_has tables query any_values slot slot_over in
        attr_with name from slot over any_values (λ m. of_kind_is m.kind) v.it v.is x (Var k) hx (λ t. assigned x t (term.Value v.it)) (λ t. first_fits t (term.Value v.it) x hx) (λ t. second_fits t (term.Value v.it) x (Var k) refl (not-true (is_one_variable x (Var k)) h))
    attr_becomes name from slot over slot_over x (Constant c) hx h =
        let w = constant_value constants c in
        attr_with name from slot over (λ m. picked w m.kind) (λ m. picked_kind w m.kind) w (cell_value tables query (λ m. picked w m.kind) (λ p. picked w p.kind) (λ m. refl) slot w (chosen_value w (slot_cell tables query slot) h))
        x (Constant c) hx (λ t n. t) (λ t. same_fits t x hx) (λ t. refl)

    -- what a map gives of an atom that its head becomes
    pub record Suits (h : Head) (atom : Atom) (f : Form) : Type 0 where
      pub named : atom_name atom ≡ head_name h
      pub fit : fits constants atom f ≡ true

    class_suits : (name : Name) (subject : Template) (atom : Atom) → Becomes tables constants (map_of query (head.Class name subject)) atom → Suits (head.Class name subject) atom form.Class
    class_suits name subject atom b =
        let m = map_there (λ t. InClass name t) (object_of_template (output_values tables query b.values) subject) b.fact b.gives in
        by atom m.from m.has (subst (Match (constant_term constants) b.under atom) (sym m.gives) b.matches)
      where
        by : (atom : Atom) (t : Term) → object_of_template (output_values tables query b.values) subject ≡ Some t → Match (constant_term constants) b.under atom (InClass name t) → Suits (head.Class name subject) atom form.Class
        by (Class a x) t e h = record { named = ap (λ (n : Name). atom_name (Class n x)) h.0; fit = is_no_constant b.values subject b.under t x e h.1 }
        by (Role a x y) t e h = absurd h
        by (Attr a x y) t e h = absurd h

    role_fit : (from to : Template) (alike : Bool) → (IsTrue alike ↔ CanBeOne tables query from to) → (values : ColumnValues) → HaveKinds values → (s : ℕ → Term) (t u : Term) (x y : Arg)
        → object_of_template (output_values tables query values) from ≡ Some t → object_of_template (output_values tables query values) to ≡ Some u → Fits (constant_term constants) s x t → Fits (constant_term constants) s y u
        → role_fits x y (form.Role alike) ≡ true
    role_fit from to alike can values kinds s t u x y e g f h =
        and_from (is_object x && is_object y) (alike || not (is_one_variable x y))
        (and_from (is_object x) (is_object y) (is_no_constant values from s t x e f) (is_no_constant values to s u y g h))
        (by (is_one_variable x y) refl)
      where
        by : (b : Bool) → is_one_variable x y ≡ b → (alike || not b) ≡ true
        by true k =
            let same : t ≡ u = one_term s t u x y k f h in
            let yes : alike ≡ true = can.1 (record { values = values; kinds = kinds; object = t; first = e; second = g ∙ ap Some (sym same) }) in
            rw yes refl
        by false k = or_true alike
          where
            or_true : (a : Bool) → (a || true) ≡ true
            or_true true = refl
            or_true false = refl

    role_suits : (name : Name) (from to : Template) (alike : Bool) → (IsTrue alike ↔ CanBeOne tables query from to) → (atom : Atom) → Becomes tables constants (map_of query (head.Role name from to)) atom
        → Suits (head.Role name from to) atom (form.Role alike)
    role_suits name from to alike can atom b =
        let m = both_there (λ t u. InRole name t u) (object_of_template (output_values tables query b.values) from) (object_of_template (output_values tables query b.values) to) b.fact b.gives in
        by atom m.first m.second m.has_first m.has_second (subst (Match (constant_term constants) b.under atom) (sym m.gives) b.matches)
      where
        by : (atom : Atom) (t u : Term) → object_of_template (output_values tables query b.values) from ≡ Some t → object_of_template (output_values tables query b.values) to ≡ Some u → Match (constant_term constants) b.under atom (InRole name t u)
            → Suits (head.Role name from to) atom (form.Role alike)
        by (Class a x) t u e g h = absurd h
        by (Role a x y) t u e g h = record { named = ap (λ (n : Name). atom_name (Role n x y)) h.0; fit = role_fit from to alike can b.values b.kinds b.under t u x y e g h.1 h.2 }
        by (Attr a x y) t u e g h = absurd h

    cell_can : (values : ColumnValues) → HaveKinds values → (w : Value) (cell : Cell) → HasValue (by_place values) cell w → can_be_value w cell ≡ true
    cell_can values kinds w (column p) h = (kind_equality_test (value_kind w) p.kind).1 (ap value_kind (sym h) ∙ kinds (record { entry = p.entry; column = p.column; kind = p.kind }))
    cell_can values kinds w (constant v) h = (value_equality_test w v).1 (sym h)
    cell_can values kinds w nothing h = absurd h

    value_of_term : (v w : Value) → term.Value v ≡ term.Value w → v ≡ w
    value_of_term v w e = cc

    value_fit : (from : Template) (slot : Slot) (values : ColumnValues) → HaveKinds values → (s : ℕ → Term) (t : Term) (v : Value) (x y : Arg) → object_of_template (output_values tables query values) from ≡ Some t
        → value_of_slot (output_values tables query values) slot ≡ Some v → Fits (constant_term constants) s x t → Fits (constant_term constants) s y (term.Value v) → value_fits constants x y (slot_cell tables query slot) ≡ true
    value_fit from slot values kinds s t v x Blank e g f h = refl
    value_fit from slot values kinds s t v x (Var k) e g f h = not_from_false (is_one_variable x (Var k)) (by (is_one_variable x (Var k)) refl)
      where
        by : (b : Bool) → is_one_variable x (Var k) ≡ b → b ≡ false
        by true o = absurd (no_value values from t v e (one_term s t (term.Value v) x (Var k) o f h))
        by false o = refl
    value_fit from slot values kinds s t v x (Constant c) e g f h =
        let same : v ≡ constant_value constants c = value_of_term v (constant_value constants c) h in
        cell_can values kinds (constant_value constants c) (slot_cell tables query slot)
        (subst (HasValue (by_place values) (slot_cell tables query slot)) same (slot_value tables query values (by_place values) (λ m. refl) slot v g))

    attr_suits : (name : Name) (from : Template) (slot : Slot) (cell : Cell) → cell ≡ slot_cell tables query slot → (f : Form) → ((x y : Arg) → attr_fits constants x y f ≡ (is_object x && value_fits constants x y cell)) → (atom : Atom)
        → Becomes tables constants (map_of query (head.Attr name from slot)) atom → Suits (head.Attr name from slot) atom f
    attr_suits name from slot cell is f fitting atom b =
        let m = both_there (λ t v. InAttr name t (term.Value v)) (object_of_template (output_values tables query b.values) from) (value_of_slot (output_values tables query b.values) slot) b.fact b.gives in
        by atom m.first m.second m.has_first m.has_second (subst (Match (constant_term constants) b.under atom) (sym m.gives) b.matches)
      where
        by : (atom : Atom) (t : Term) (v : Value) → object_of_template (output_values tables query b.values) from ≡ Some t → value_of_slot (output_values tables query b.values) slot ≡ Some v
            → Match (constant_term constants) b.under atom (InAttr name t (term.Value v)) → Suits (head.Attr name from slot) atom f
        by (Class a x) t v e g h = absurd h
        by (Role a x y) t v e g h = absurd h
        by (Attr a x y) t v e g h = record {
          named = ap (λ (n : Name). atom_name (Attr n x y)) h.0;
          fit = fitting x y ∙ (ap (λ (k : Cell). is_object x && value_fits constants x y k) is
              ∙ and_from (is_object x) (value_fits constants x y (slot_cell tables query slot)) (is_no_constant b.values from b.under t x e h.1) (value_fit from slot b.values b.kinds b.under t v x y e g h.1 h.2));
        }

    -- a head that becomes an atom has its name, and its form fits
    pub suits : (h : Head) (f : Form) → IsFormOf tables query h f → (atom : Atom) → Becomes tables constants (map_of query h) atom → Suits h atom f
    suits (head.Class name subject) form.Class is atom b = class_suits name subject atom b
    suits (head.Class name subject) (form.Role alike) is atom b = absurd is
    suits (head.Class name subject) (form.Attr value) is atom b = absurd is
    suits (head.Role name from to) form.Class is atom b = absurd is
    suits (head.Role name from to) (form.Role alike) is atom b = role_suits name from to alike is atom b
    suits (head.Role name from to) (form.Attr value) is atom b = absurd is
    suits (head.Attr name from slot) form.Class is atom b = absurd is
    suits (head.Attr name from slot) (form.Role alike) is atom b = absurd is
    suits (head.Attr name from slot) (form.Attr value) is atom b = attr_suits name from slot (seen value) is (form.Attr value) (λ x y. refl) atom b

    becomes_class : (name : Name) (subject : Template) → IsObjectOver tables query subject → (atom : Atom) → atom_name atom ≡ head_name (head.Class name subject) → fits constants atom form.Class ≡ true
        → Becomes tables constants (map_of query (head.Class name subject)) atom
    becomes_class name subject over (Class a x) e h =
        let same : name ≡ a = ap (λ k. k.name) (sym e) in
        subst (λ (n : Name). Becomes tables constants (map_of query (head.Class name subject)) (Class n x)) same (class_becomes name subject over x h)
    becomes_class name subject over (Role a x y) e h = absurd (let no : kinds.Role ≡ kinds.Class = ap (λ k. k.kind) e in cc)
    becomes_class name subject over (Attr a x y) e h = absurd (let no : kinds.Attr ≡ kinds.Class = ap (λ k. k.kind) e in cc)

    becomes_role : (name : Name) (from to : Template) → IsObjectOver tables query from → IsObjectOver tables query to → (alike : Bool) → (IsTrue alike ↔ CanBeOne tables query from to) → (atom : Atom)
        → atom_name atom ≡ head_name (head.Role name from to) → fits constants atom (form.Role alike) ≡ true → Becomes tables constants (map_of query (head.Role name from to)) atom
    becomes_role name from to over_from over_to alike can (Class a x) e h = absurd (let no : kinds.Class ≡ kinds.Role = ap (λ k. k.kind) e in cc)
    becomes_role name from to over_from over_to alike can (Role a x y) e h =
        let same : name ≡ a = ap (λ k. k.name) (sym e) in
        subst (λ (n : Name). Becomes tables constants (map_of query (head.Role name from to)) (Role n x y)) same (role_becomes name from to over_from over_to alike can x y h)
    becomes_role name from to over_from over_to alike can (Attr a x y) e h = absurd (let no : kinds.Attr ≡ kinds.Role = ap (λ k. k.kind) e in cc)

    becomes_attr : (name : Name) (from : Template) (slot : Slot) → IsObjectOver tables query from → IsSlotOver tables query slot → (f : Form) → ((x y : Arg) → attr_fits constants x y f ≡ true → (is_object x && value_fits constants x y (slot_cell tables query slot)) ≡ true)
        → (atom : Atom) → atom_name atom ≡ head_name (head.Attr name from slot) → fits constants atom f ≡ true → Becomes tables constants (map_of query (head.Attr name from slot)) atom
    becomes_attr name from slot over slot_over f fitting (Class a x) e h = absurd (let no : kinds.Class ≡ kinds.Attr = ap (λ k. k.kind) e in cc)
    becomes_attr name from slot over slot_over f fitting (Role a x y) e h = absurd (let no : kinds.Role ≡ kinds.Attr = ap (λ k. k.kind) e in cc)
    becomes_attr name from slot over slot_over f fitting (Attr a x y) e h =
        let same : name ≡ a = ap (λ k. k.name) (sym e) in
        let parts = and_parts (is_object x) (value_fits constants x y (slot_cell tables query slot)) (fitting x y h) in
        subst (λ (n : Name). Becomes tables constants (map_of query (head.Attr name from slot)) (Attr n x y)) same (attr_becomes name from slot over slot_over x y parts.0 parts.1)

    -- and a head becomes an atom that has its name, where its form fits
    pub becomes : (h : Head) (f : Form) → IsHeadOver tables query h → IsFormOf tables query h f → (atom : Atom) → atom_name atom ≡ head_name h → fits constants atom f ≡ true → Becomes tables constants (map_of query h) atom
    becomes (head.Class name subject) form.Class over is atom e h = becomes_class name subject over atom e h
    becomes (head.Class name subject) (form.Role alike) over is atom e h = absurd is
    becomes (head.Class name subject) (form.Attr value) over is atom e h = absurd is
    becomes (head.Role name from to) form.Class over is atom e h = absurd is
    becomes (head.Role name from to) (form.Role alike) over is atom e h = becomes_role name from to over.0 over.1 alike is atom e h
    becomes (head.Role name from to) (form.Attr value) over is atom e h = absurd is
    becomes (head.Attr name from slot) form.Class over is atom e h = absurd is
    becomes (head.Attr name from slot) (form.Role alike) over is atom e h = absurd is
    becomes (head.Attr name from slot) (form.Attr value) over is atom e h =
        becomes_attr name from slot over.0 over.1 (form.Attr value) (λ x y k. subst (λ (c : Cell). (is_object x && value_fits constants x y c) ≡ true) is k) atom e h
