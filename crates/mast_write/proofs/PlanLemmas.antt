-- Plans of lines: what is printed piece by piece is the line of the fact.
use Rattle.std.proofs.Common.{◌≡◌, ◌+◌, ◌-◌, ◌<◌, ◌≤◌, ℕ, List, [], ◌∷◌, ◌++◌, Option, Some, None, length, drop, get_or, subst, sym, ap, ◌∙◌, refl, append_assoc, append-nil, arith}
use Rattle.std.proofs.lemmas.List.{drop_all, drop_more}
use Rattle.std.specs.Prelude.{codes, option_map}
use Rattle.mast_canon.specs.Choices.{cell_of}
use Rattle.mast_canon.specs.Facts.{fact_of, of_both, object_of, slot_value, slot_values}
use Rattle.mast_cq.specs.Meanings.{Fact, InRole, InAttr}
use Rattle.mast_mapping.specs.Columns.{Meaning, meaning_of_output}
use Rattle.mast_mapping.specs.declared.map.Slot.{Slot}
use Rattle.mast_mapping.specs.declared.map.Slot.TheVariants as s
use Rattle.mast_mapping.specs.declared.map.Template.{Template}
use Rattle.mast_mapping.specs.declared.split_map.SplitMap.{SplitMap}
use Rattle.mast_sql.specs.declared.query.FromEntry.{FromEntry}
use Rattle.mast_tables.specs.declared.declaration.TableDecl.{TableDecl}
use Rattle.mast_tables.specs.Rows.{Row}
use Rattle.mast_terms.specs.declared.name.Name.{Name}
use Rattle.mast_terms.specs.declared.name.NameKind.TheVariants as kind
use Rattle.mast_terms.specs.declared.term.Term.{Term}
use Rattle.mast_terms.specs.declared.term.Term.TheVariants as t
use Rattle.mast_terms.specs.declared.value.Value.{Value}
use Rattle.mast_terms.specs.Printed.{after_commas, args_text, term_text, value_text}
use Rattle.mast_terms.specs.Vocabularies.{Lists}
use Rattle.mast_write.specs.FactLines.{fact_line, iri_of, printed}
use Rattle.mast_write.specs.declared.line_plan.Cell.{Cell}
use Rattle.mast_write.specs.declared.line_plan.LinePlan.{LinePlan}
use Rattle.mast_write.specs.declared.cells.CellPlace.{CellPlace}
use Rattle.mast_write.specs.declared.cells.Source.{Source}
use Rattle.mast_write.specs.inside.Cells.{IsPlaceOf, IsPlaceOver}
use Rattle.mast_write.specs.inside.Plans.{Adds, AddsBytes, AddsCell, AreOver, ArePlaced, Holding, IsPlan, Part, attr_text, cells_text, head_text, in_rows, joined, later_text, name_text, object_text, plan_text, role_text, row_text, slot_text, slots_text}

-- texts one behind the other

joined-assoc : (a b c : Option (List ℕ)) → joined (joined a b) c ≡ joined a (joined b c)
joined-assoc None b c = refl
joined-assoc (Some a) None c = refl
joined-assoc (Some a) (Some b) None = refl
joined-assoc (Some a) (Some b) (Some c) = ap (λ x. Some x) (append_assoc a b c)

joined-nil : (a : Option (List ℕ)) → joined a (Some []) ≡ a
joined-nil None = refl
joined-nil (Some a) = ap (λ x. Some x) (append-nil a)

nil-joined : (a : Option (List ℕ)) → joined (Some []) a ≡ a
nil-joined None = refl
nil-joined (Some a) = refl

-- bytes and cells at the end of a plan

module _ (holding : Holding) (old new : LinePlan) where
  bytes_text : (bytes : List ℕ) → AddsBytes old new bytes → plan_text holding new ≡ joined (plan_text holding old) (Some bytes)
  bytes_text bytes h =
      ap (λ cells. joined (cells_text holding cells.items) (Some new.tail.items)) h.cells
      ∙ ap (λ x. joined (cells_text holding old.cells.items) (Some x)) h.tail
      ∙ sym (joined-assoc (cells_text holding old.cells.items) (Some old.tail.items) (Some bytes))

  cells-append : (a b : List Cell) → cells_text holding (a ++ b) ≡ joined (cells_text holding a) (cells_text holding b)
  cells-append [] b = sym (nil-joined (cells_text holding b))
  cells-append (c ∷ a) b =
      let here = option_map value_text (holding c.place) in
      ap (λ x. joined (Some c.before.items) (joined here x)) (cells-append a b)
      ∙ ap (joined (Some c.before.items)) (sym (joined-assoc here (cells_text holding a) (cells_text holding b)))
      ∙ sym (joined-assoc (Some c.before.items) (joined here (cells_text holding a)) (cells_text holding b))

  cell_text : (place : CellPlace) → AddsCell old new place → plan_text holding new ≡ joined (plan_text holding old) (option_map value_text (holding place))
  cell_text place h =
      let cells = cells_text holding old.cells.items in
      let here = option_map value_text (holding h.cell.place) in
      let last = joined (Some h.cell.before.items) (joined here (Some [])) in
      ap (λ x. joined x (Some new.tail.items)) (ap (cells_text holding) h.cells ∙ cells-append old.cells.items (h.cell ∷ []))
      ∙ ap (λ x. joined (joined cells last) (Some x)) h.tail
      ∙ joined-nil (joined cells last)
      ∙ ap (λ x. joined cells (joined (Some h.cell.before.items) x)) (joined-nil here)
      ∙ sym (joined-assoc cells (Some h.cell.before.items) here)
      ∙ ap (λ b. joined (joined cells (Some b.items)) here) h.before
      ∙ ap (λ p. joined (plan_text holding old) (option_map value_text (holding p))) h.is

placed-append : (tables : List TableDecl) (entries : List FromEntry) (a : List Cell) (c : Cell) → ArePlaced tables entries a → IsPlaceOver tables entries c.place
    → ArePlaced tables entries (a ++ c ∷ [])
placed-append tables entries [] c h g = (g, tt)
placed-append tables entries (x ∷ a) c h g = (h.0, placed-append tables entries a c h.1 g)

value_in : (rows : List Row) (meant : Option Meaning) (place : CellPlace) → IsPlaceOf meant place → in_rows rows place ≡ cell_of rows meant
value_in rows None place h = absurd h
value_in rows (Some m) place h =
    let column : place.column - 1 ≡ m.column = omega (h.1, arith) in
    ap (λ e. get_or (get_or rows e []) (place.column - 1) None) h.0 ∙ ap (λ c. get_or (get_or rows m.entry []) c None) column

-- the pieces of a printed object and of a line

later_value : (v : Option Value) (vs : Option (List Value))
    → joined (joined (Some (codes ",")) (option_map value_text v)) (option_map after_commas vs) ≡ option_map after_commas (of_both (λ x xs. x ∷ xs) v vs)
later_value None vs = refl
later_value (Some v) None = refl
later_value (Some v) (Some vs) = refl

object_in : (symbol : List ℕ) (values : Option (List Value))
    → joined (joined (joined (Some symbol) (Some (codes "("))) (option_map args_text values)) (Some (codes ")"))
    ≡ option_map term_text (option_map (λ vs. t.Object (record { symbol = symbol; args = vs })) values)
object_in symbol None = refl
object_in symbol (Some values) =
    ap (λ x. Some x)
    (append_assoc (symbol ++ codes "(") (args_text values) (codes ")") ∙ append_assoc symbol (codes "(") (args_text values ++ codes ")"))

pair_text : (iri x y : List ℕ) → ((((codes "<" ++ (iri ++ codes ">(")) ++ x) ++ codes ",") ++ y) ++ codes ")"
    ≡ codes "<" ++ (iri ++ (codes ">(" ++ ((x ++ (codes "," ++ (y ++ []))) ++ codes ")")))
pair_text iri x y =
    append_assoc (((codes "<" ++ (iri ++ codes ">(")) ++ x) ++ codes ",") y (codes ")")
    ∙ append_assoc ((codes "<" ++ (iri ++ codes ">(")) ++ x) (codes ",") (y ++ codes ")")
    ∙ append_assoc (codes "<" ++ (iri ++ codes ">(")) x (codes "," ++ (y ++ codes ")"))
    ∙ append_assoc (codes "<") (iri ++ codes ">(") (x ++ (codes "," ++ (y ++ codes ")")))
    ∙ ap (λ z. codes "<" ++ z)
    (append_assoc iri (codes ">(") (x ++ (codes "," ++ (y ++ codes ")")))
    ∙ ap (λ z. iri ++ (codes ">(" ++ z))
    (ap (λ z. x ++ (codes "," ++ (z ++ codes ")"))) (sym (append-nil y))
    ∙ ap (λ z. x ++ z) (sym (append_assoc (codes ",") (y ++ []) (codes ")")))
    ∙ sym (append_assoc x (codes "," ++ (y ++ [])) (codes ")"))))

-- two texts behind a name, with a comma between them
abbrev pair : List ℕ → Option (List ℕ) → Option (List ℕ) → Option (List ℕ)
pair front left right = joined (joined (joined (joined (Some front) left) (Some (codes ","))) right) (Some (codes ")"))

module _ (vocab : Lists) (name : Name) where
  abbrev line : Option (Fact Term) → Option (List ℕ)
  line o = option_map (λ fact. fact_line vocab (printed fact)) o

  role_line : (o p : Option Term)
      → pair (name_text vocab kind.Role name) (option_map term_text o) (option_map term_text p) ≡ line (of_both (λ x y. InRole name x y) o p)
  role_line None p = refl
  role_line (Some x) None = refl
  role_line (Some x) (Some y) = ap (λ z. Some z) (pair_text (iri_of vocab kind.Role name) (term_text x) (term_text y))

  attr_line : (o : Option Term) (v : Option Value)
      → pair (name_text vocab kind.Attr name) (option_map term_text o) (option_map value_text v) ≡ line (of_both (λ x y. InAttr name x (t.Value y)) o v)
  attr_line None v = refl
  attr_line (Some x) None = refl
  attr_line (Some x) (Some v) = ap (λ z. Some z) (pair_text (iri_of vocab kind.Attr name) (term_text x) (value_text v))

-- growing plans

-- these bytes, whatever rows are chosen
abbrev fixed : List ℕ → Part
fixed bytes source rows = Some bytes

-- one part behind the other
abbrev in_turn : Part → Part → Part
in_turn f g source rows = joined (f source rows) (g source rows)

module _ (source : Source) where
  abbrev values : List Row → List Slot → Option (List Value)
  values rows slots = slot_values source.tables.now source.query.now rows slots

  adds_two : (a b c : LinePlan) (f g : Part) → Adds source a b f → Adds source b c g → Adds source a c (in_turn f g)
  adds_two a b c f g h k = record {
    text = λ rows.
        k.text rows
        ∙ ap (λ x. joined x (g source rows)) (h.text rows)
        ∙ joined-assoc (row_text rows a) (f source rows) (g source rows);
    places = λ p. k.places (h.places p);
  }

  -- the same under another name
  adds_same : (a b : LinePlan) (f g : Part) → ((rows : List Row) → f source rows ≡ g source rows) → Adds source a b f → Adds source a b g
  adds_same a b f g same h = record {
    text = λ rows. h.text rows ∙ ap (joined (row_text rows a)) (same rows);
    places = h.places;
  }

  adds_bytes : (old new : LinePlan) (bytes : List ℕ) → AddsBytes old new bytes → Adds source old new (fixed bytes)
  adds_bytes old new bytes h = record {
    text = λ rows. bytes_text (in_rows rows) old new bytes h;
    places = λ p. subst (λ cells. ArePlaced source.tables.now source.query.now.from cells.items) (sym h.cells) p;
  }

  -- the cell of an output
  pub adds_output : (name : List ℕ) (old new : LinePlan) (place : CellPlace) → IsPlaceOf (meaning_of_output source.tables.now source.query.now name) place
      → IsPlaceOver source.tables.now source.query.now.from place → AddsCell old new place → Adds source old new (slot_text (s.Output name))
  adds_output name old new place of over h = record {
    text = λ rows.
        cell_text (in_rows rows) old new place h
        ∙ ap (λ v. joined (row_text rows old) (option_map value_text v)) (value_in rows (meaning_of_output source.tables.now source.query.now name) place of);
    places = λ p.
        subst (ArePlaced source.tables.now source.query.now.from) (sym h.cells)
        (placed-append source.tables.now source.query.now.from old.cells.items h.cell p
        (subst (IsPlaceOver source.tables.now source.query.now.from) (sym h.is) over));
  }

  -- the slots so far are in the plan, and those that are left complete all slots
  pub record HasSlots (slots : List Slot) (i : ℕ) (start old : LinePlan) : Type 0 where
    pub text : (rows : List Row) → joined (row_text rows old) (later_text (drop i slots) source rows) ≡ joined (row_text rows start) (later_text slots source rows)
    pub places : AreOver source start → AreOver source old

  -- a slot more, behind its comma
  pub later_step : (slots : List Slot) (i : ℕ) (slot : Slot) (start old mid new : LinePlan) → i < length slots → slot ≡ get_or slots i slot
      → HasSlots slots i start old → AddsBytes old mid (codes ",") → Adds source mid new (slot_text slot) → HasSlots slots (i + 1) start new
  later_step slots i slot start old mid new less is before comma value =
      let both = adds_two old mid new (fixed (codes ",")) (slot_text slot) (adds_bytes old mid (codes ",") comma) value in
      record {
        text = λ rows.
            let rest = later_text (drop (i + 1) slots) source rows in
            let here = slot_text slot source rows in
            ap (λ x. joined x rest) (both.text rows)
            ∙ joined-assoc (row_text rows old) (joined (Some (codes ",")) here) rest
            ∙ ap (joined (row_text rows old))
            (later_value (slot_value source.tables.now source.query.now rows slot) (values rows (drop (i + 1) slots))
            ∙ ap (λ x. later_text (x ∷ drop (i + 1) slots) source rows) is
            ∙ sym (ap (λ l. later_text l source rows) (drop_more slots i slot less)))
            ∙ before.text rows;
        places = λ p. both.places (before.places p);
      }

  -- all slots, each behind its comma
  pub later_end : (slots : List Slot) (i : ℕ) (start new : LinePlan) → length slots ≤ i → HasSlots slots i start new → Adds source start new (later_text slots)
  later_end slots i start new over has = record {
    text = λ rows.
        sym (joined-nil (row_text rows new))
        ∙ ap (λ l. joined (row_text rows new) (later_text l source rows)) (sym (drop_all i slots over))
        ∙ has.text rows;
    places = has.places;
  }

  -- an object: its symbol, and its slots in parentheses
  pub adds_object : (object : Template) (symbol : List ℕ) (slots : List Slot) (a b c d e : LinePlan) → symbol ≡ object.symbol → slots ≡ object.args
      → AddsBytes a b symbol → AddsBytes b c (codes "(") → Adds source c d (slots_text slots) → AddsBytes d e (codes ")") → Adds source a e (object_text object)
  adds_object object symbol slots a b c d e named are first left inside right =
      let front = in_turn (fixed symbol) (fixed (codes "(")) in
      let begun = adds_two a b c (fixed symbol) (fixed (codes "(")) (adds_bytes a b symbol first) (adds_bytes b c (codes "(") left) in
      let whole = adds_two a d e (in_turn front (slots_text slots)) (fixed (codes ")")) (adds_two a c d front (slots_text slots) begun inside) (adds_bytes d e (codes ")") right) in
      adds_same a e (in_turn (in_turn front (slots_text slots)) (fixed (codes ")"))) (object_text object)
      (λ rows.
      object_in symbol (values rows slots)
      ∙ ap (λ x. option_map term_text (option_map (λ vs. t.Object (record { symbol = x; args = vs })) (values rows slots))) named
      ∙ ap (λ xs. option_map term_text (option_map (λ vs. t.Object (record { symbol = object.symbol; args = vs })) (values rows xs))) are)
      whole

  adds_pair : (name : List ℕ) (left right : Part) (a b c d e f : LinePlan) → AddsBytes a b name → Adds source b c left → AddsBytes c d (codes ",")
      → Adds source d e right → AddsBytes e f (codes ")") → Adds source a f (λ over rows. pair name (left over rows) (right over rows))
  adds_pair name left right a b c d e f named first comma second end =
      let one = in_turn (fixed name) left in
      let two = in_turn one (fixed (codes ",")) in
      adds_two a e f (in_turn two right) (fixed (codes ")"))
      (adds_two a d e two right
      (adds_two a c d one (fixed (codes ",")) (adds_two a b c (fixed name) left (adds_bytes a b name named) first) (adds_bytes c d (codes ",") comma)) second)
      (adds_bytes e f (codes ")") end)

  module _ (name : Name) (from : Template) (a b c d e f : LinePlan) where
    -- the line of a head of a role
    pub adds_role : (to : Template) → AddsBytes a b (name_text source.vocab.now kind.Role name) → Adds source b c (object_text from) → AddsBytes c d (codes ",")
        → Adds source d e (object_text to) → AddsBytes e f (codes ")") → Adds source a f (role_text name from to)
    adds_role to named first comma second end =
        let front = name_text source.vocab.now kind.Role name in
        adds_same a f (λ over rows. pair front (object_text from over rows) (object_text to over rows)) (role_text name from to)
        (λ rows.
        role_line source.vocab.now name (object_of source.tables.now source.query.now rows from) (object_of source.tables.now source.query.now rows to))
        (adds_pair front (object_text from) (object_text to) a b c d e f named first comma second end)

    -- the line of a head of an attribute
    pub adds_attr : (value : Slot) → AddsBytes a b (name_text source.vocab.now kind.Attr name) → Adds source b c (object_text from) → AddsBytes c d (codes ",")
        → Adds source d e (slot_text value) → AddsBytes e f (codes ")") → Adds source a f (attr_text name from value)
    adds_attr value named first comma second end =
        let front = name_text source.vocab.now kind.Attr name in
        adds_same a f (λ over rows. pair front (object_text from over rows) (slot_text value over rows)) (attr_text name from value)
        (λ rows.
        attr_line source.vocab.now name (object_of source.tables.now source.query.now rows from) (slot_value source.tables.now source.query.now rows value))
        (adds_pair front (object_text from) (slot_text value) a b c d e f named first comma second end)

-- a plan that began empty and prints the line of the fact
pub plan_is : (source : Source) (map : SplitMap) (old new : LinePlan) → source.query.now ≡ map.query → old.cells.items ≡ [] → old.tail.items ≡ []
    → Adds source old new (head_text map.head) → IsPlan source.vocab.now source.tables.now map new
plan_is source map old new query cells tail adds = record {
  text = λ rows.
      let line = head_text map.head source rows in
      adds.text rows
      ∙ ap (λ cs. joined (joined (cells_text (in_rows rows) cs) (Some old.tail.items)) line) cells
      ∙ ap (λ bytes. joined (Some bytes) line) tail
      ∙ nil-joined line
      ∙ ap (λ q. option_map (λ fact. fact_line source.vocab.now (printed fact)) (fact_of source.tables.now q rows map.head)) query;
  places = subst (λ q. ArePlaced source.tables.now q.from new.cells.items) query (adds.places (subst (ArePlaced source.tables.now source.query.now.from) (sym cells) tt));
}

-- a line as it is written: what is written of it, the cells that are left and the tail make the whole line
abbrev pub IsBegun : Holding → LinePlan → ℕ → List ℕ → Type 0
IsBegun holding plan i begun =
    joined (Some begun) (joined (cells_text holding (drop i plan.cells.items)) (Some plan.tail.items)) ≡ plan_text holding plan
