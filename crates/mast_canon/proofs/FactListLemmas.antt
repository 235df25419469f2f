-- The facts of rows of tables are those of a list, have objects and values in their places, and the names of their heads.
use Rattle.std.proofs.Common.{◌≡◌, ℕ, zero, suc, ◌≤◌, inl, inr, ◌↔◌, Bool, true, false, List, [], ◌∷◌, map, length, Option, Some, None, refl, sym, ap, subst, arith}
use Rattle.std.proofs.lemmas.Bool.{cases_order, false≢true}
use Rattle.std.specs.Prelude.{flat_map, if◌then◌else◌}
use Rattle.std.specs.List.{AllByRecursion, AllZip}
use Rattle.std.specs.Option.{option_map, option_to_list}
use Rattle.mast_terms.specs.declared.name.Name.{Name}
use Rattle.mast_terms.specs.declared.term.Term.{Term}
use Rattle.mast_terms.specs.declared.term.Term.TheVariants as term
use Rattle.mast_terms.specs.declared.value.Value.{Value}
use Rattle.mast_cq.specs.Meanings.{Fact, InClass, InRole, InAttr}
use Rattle.mast_cq.specs.Queries.{In}
use Rattle.mast_cq.proofs.ListLemmas.{each_in, in_append, append_left, append_right, in_map, map_in}
use Rattle.mast_terms.specs.declared.name.NameKind.TheVariants as kinds
use Rattle.mast_mapping.specs.declared.map.Head.{Head}
use Rattle.mast_mapping.specs.declared.map.Head.TheVariants.{Class, Role, Attr}
use Rattle.mast_mapping.specs.declared.split_map.SplitMap.{SplitMap}
use Rattle.mast_sql.specs.declared.query.FromEntry.{FromEntry}
use Rattle.mast_sql.specs.declared.query.SourceQuery.{SourceQuery}
use Rattle.mast_tables.specs.declared.declaration.TableDecl.{TableDecl}
use Rattle.mast_tables.specs.Rows.{Row}
use Rattle.mast_tbox.specs.Names.{IsStatable}
use Rattle.mast_canon.specs.declared.rows.RowId.{RowId}
use Rattle.mast_canon.specs.Choices.{rows_of, IsRowNumber, chosen, IsTrueOf}
use Rattle.mast_canon.specs.FactLists.{up_to, is_true_of, choices, is_met, facts_by, all_facts}
use Rattle.mast_canon.specs.Facts.{of_both, slot_value, slot_values, object_of, fact_of, chosen_rows, IsFactOf, IsOfTables}
use Rattle.mast_canon.specs.TheoryPremises.{FactInRange, IsSorted}
use Rattle.mast_canon.proofs.SupportLemmas.{chosen_lie}
use Rattle.mast_canon.proofs.TestLemmas.{Tells, tells_each, tells_test}

in_up_to : (n k : ℕ) → 1 ≤ k → k ≤ n → In k (up_to n)
in_up_to zero k l m = absurd (omega (arith, l, m))
in_up_to (suc n) k l m = elim (cases_order k (suc n)) [
  | inl e ↦ inl e
  | inr d ↦ elim d [ inl less ↦ inr (in_up_to n k l (omega (arith, less))) | inr more ↦ absurd (omega (arith, more, m)) ]
]

of_up_to : (n k : ℕ) → In k (up_to n) → (1 ≤ k) × (k ≤ n)
of_up_to zero k i = absurd i
of_up_to (suc n) k i = elim i [ inl e ↦ (omega (arith, e), omega (arith, e)) | inr j ↦ (let w = of_up_to n k j in (w.0, omega (arith, w.1))) ]

-- what a function gives of each element, one after the other
into_each : {A B : Type 0} (g : A → List B) (xs : List A) (x : A) (y : B) → In x xs → In y (g x) → In y (flat_map g xs)
into_each g [] x y i j = absurd i
into_each g (z ∷ xs) x y (inl e) j = append_left y (g z) (flat_map g xs) (subst (λ w. In y (g w)) e j)
into_each g (z ∷ xs) x y (inr i) j = append_right y (g z) (flat_map g xs) (into_each g xs x y i j)

out_each : {A B : Type 0} (g : A → List B) (xs : List A) (y : B) → In y (flat_map g xs) → (x : A) × (In x xs × In y (g x))
out_each g [] y i = absurd i
out_each g (z ∷ xs) y i = elim (in_append y (g z) (flat_map g xs) i) [
  | inl j ↦ (z, (inl refl, j))
  | inr j ↦ (let w = out_each g xs y j in (w.0, (inr w.1.0, w.1.1)))
]

module _ (decls : List TableDecl) (tables : List (List Row)) where
  choice_in : (entries : List FromEntry) (choice : List ℕ) → AllZip (λ entry number. IsRowNumber (rows_of decls tables entry) number) entries choice → In choice (choices decls tables entries)
  choice_in [] [] h = inl refl
  choice_in [] (n ∷ choice) h = absurd h
  choice_in (entry ∷ entries) [] h = absurd h
  choice_in (entry ∷ entries) (n ∷ choice) h =
      into_each (λ k. map (λ c. k ∷ c) (choices decls tables entries)) (up_to (length (rows_of decls tables entry))) n (n ∷ choice)
      (in_up_to (length (rows_of decls tables entry)) n h.0.0 h.0.1) (map_in (λ c. n ∷ c) choice (choices decls tables entries) (choice_in entries choice h.1))

  of_choice : (entries : List FromEntry) (choice : List ℕ) → In choice (choices decls tables entries) → AllZip (λ entry number. IsRowNumber (rows_of decls tables entry) number) entries choice
  of_choice [] [] i = tt
  of_choice [] (n ∷ choice) i = elim i [ inl e ↦ let f : n ∷ choice ≡ [] = e in cc | inr j ↦ absurd j ]
  of_choice (entry ∷ entries) choice i =
      let w = out_each (λ k. map (λ c. k ∷ c) (choices decls tables entries)) (up_to (length (rows_of decls tables entry))) choice i in
      let m = in_map (λ c. w.0 ∷ c) choice (choices decls tables entries) w.1.1 in
      subst (AllZip (λ entry number. IsRowNumber (rows_of decls tables entry) number) (entry ∷ entries)) (sym m.is)
      (of_up_to (length (rows_of decls tables entry)) w.0 w.1.0, of_choice entries m.from m.among)

  tells_met : (query : SourceQuery) (choice : List ℕ) → Tells (is_met decls tables query choice) (AllByRecursion (IsTrueOf decls query.from (chosen decls tables query.from choice)) query.conditions)
  tells_met query choice = tells_each (λ c. tells_test (is_true_of decls query.from (chosen decls tables query.from choice) c)) query.conditions

  module _ (maps : List SplitMap) where
    abbrev fact_by : SplitMap → List ℕ → Option (Fact Term)
    fact_by m choice = fact_of decls m.query (chosen decls tables m.query.from choice) m.head

    abbrev by_map : SplitMap → List (Fact Term)
    by_map m = flat_map (facts_by decls tables m) (choices decls tables m.query.from)

    into_told : (o : Option (Fact Term)) (f : Fact Term) → o ≡ Some f → In f (option_to_list o)
    into_told None f e = cc
    into_told (Some g) f e = let w : f ≡ g = cc in inl w

    out_told : (o : Option (Fact Term)) (f : Fact Term) → In f (option_to_list o) → o ≡ Some f
    out_told None f i = absurd i
    out_told (Some g) f (inl e) = ap Some (sym e)
    out_told (Some g) f (inr i) = absurd i

    into_picked : {A : Type 0} (b : Bool) (o : Option (Fact Term)) (f : Fact Term) → Tells b A → A → o ≡ Some f → In f (if b then option_to_list o else [])
    into_picked true o f t h e = into_told o f e
    into_picked false o f t h e = absurd (false≢true (t.holds h))

    out_picked : {A : Type 0} (b : Bool) (o : Option (Fact Term)) (f : Fact Term) → Tells b A → In f (if b then option_to_list o else []) → A × (o ≡ Some f)
    out_picked true o f t i = (t.yes refl, out_told o f i)
    out_picked false o f t i = absurd i

    listed_of : (f : Fact Term) → IsFactOf decls tables maps (IsOfTables tables) f → In f (all_facts decls tables maps)
    listed_of f h =
        let s = h.support in
        into_each by_map maps s.map f s.stands
        (into_each (facts_by decls tables s.map) (choices decls tables s.map.query.from) s.choice f (choice_in s.map.query.from s.choice s.gives.meets.is_choice)
        (into_picked (is_met decls tables s.map.query s.choice) (fact_by s.map s.choice) f (tells_met s.map.query s.choice) s.gives.meets.conditions s.gives.gives))

    of_listed : (f : Fact Term) → In f (all_facts decls tables maps) → IsFactOf decls tables maps (IsOfTables tables) f
    of_listed f i =
        let m = out_each by_map maps f i in
        let c = out_each (facts_by decls tables m.0) (choices decls tables m.0.query.from) f m.1.1 in
        let p = out_picked (is_met decls tables m.0.query c.0) (fact_by m.0 c.0) f (tells_met m.0.query c.0) c.1.1 in
        let choice = of_choice m.0.query.from c.0 c.1.0 in
        record {
          rows = chosen_rows decls m.0.query.from c.0;
          support = record {
            map = m.0;
            stands = m.1.0;
            choice = c.0;
            gives = record { meets = record { is_choice = choice; conditions = p.0 }; gives = p.1 };
            are = λ row. ((λ x. x), λ x. x);
          };
          within = chosen_lie decls tables m.0.query.from c.0 choice;
        }

    -- the facts of all rows are those of the list
    pub facts_are : (f : Fact Term) → IsFactOf decls tables maps (IsOfTables tables) f ↔ In f (all_facts decls tables maps)
    facts_are f = (listed_of f, of_listed f)

-- the objects and values of a head's fact stand in their places
class_sorted : (name : Name) (symbol : List ℕ) (values : Option (List Value)) (f : Fact Term)
    → option_map (λ t. InClass name t) (option_map (λ vs. term.Object (record { symbol = symbol; args = vs })) values) ≡ Some f → IsSorted f
class_sorted name symbol None f e = cc
class_sorted name symbol (Some vs) f e = let w : InClass name (term.Object (record { symbol = symbol; args = vs })) ≡ f = cc in subst IsSorted w (_, refl)

role_sorted : (name : Name) (symbol other : List ℕ) (values others : Option (List Value)) (f : Fact Term)
    → of_both (λ t u. InRole name t u) (option_map (λ vs. term.Object (record { symbol = symbol; args = vs })) values) (option_map (λ vs. term.Object (record { symbol = other; args = vs })) others) ≡ Some f → IsSorted f
role_sorted name symbol other None others f e = cc
role_sorted name symbol other (Some vs) None f e = cc
role_sorted name symbol other (Some vs) (Some ws) f e =
    let w : InRole name (term.Object (record { symbol = symbol; args = vs })) (term.Object (record { symbol = other; args = ws })) ≡ f = cc in subst IsSorted w ((_, refl), (_, refl))

attr_sorted : (name : Name) (symbol : List ℕ) (values : Option (List Value)) (value : Option Value) (f : Fact Term)
    → of_both (λ t v. InAttr name t (term.Value v)) (option_map (λ vs. term.Object (record { symbol = symbol; args = vs })) values) value ≡ Some f → IsSorted f
attr_sorted name symbol None value f e = cc
attr_sorted name symbol (Some vs) None f e = cc
attr_sorted name symbol (Some vs) (Some v) f e =
    let w : InAttr name (term.Object (record { symbol = symbol; args = vs })) (term.Value v) ≡ f = cc in subst IsSorted w ((_, refl), (_, refl))

module _ (decls : List TableDecl) (query : SourceQuery) (rows : List Row) where
  head_sorted : (head : Head) (f : Fact Term) → fact_of decls query rows head ≡ Some f → IsSorted f
  head_sorted (Class name subject) f e = class_sorted name subject.symbol (slot_values decls query rows subject.args) f e
  head_sorted (Role name from to) f e = role_sorted name from.symbol to.symbol (slot_values decls query rows from.args) (slot_values decls query rows to.args) f e
  head_sorted (Attr name from value) f e = attr_sorted name from.symbol (slot_values decls query rows from.args) (slot_value decls query rows value) f e

-- the facts of rows have objects in object places and values in value places
pub facts_sorted : (decls : List TableDecl) (tables : List (List Row)) (maps : List SplitMap) (X : RowId → Type 0) (f : Fact Term) → IsFactOf decls tables maps X f → IsSorted f
facts_sorted decls tables maps X f h =
    let s = h.support in head_sorted decls s.map.query (chosen decls tables s.map.query.from s.choice) s.map.head f s.gives.gives

-- and the names of the heads
named_one : {A : Type 0} (g : A → Fact Term) (o : Option A) (f : Fact Term) → ((x : A) → FactInRange (g x)) → option_map g o ≡ Some f → FactInRange f
named_one g None f k e = cc
named_one g (Some x) f k e = let w : g x ≡ f = cc in subst FactInRange w (k x)

named_two : {A B : Type 0} (g : A → B → Fact Term) (o : Option A) (q : Option B) (f : Fact Term) → ((x : A) (y : B) → FactInRange (g x y)) → of_both g o q ≡ Some f → FactInRange f
named_two g None q f k e = cc
named_two g (Some x) None f k e = cc
named_two g (Some x) (Some y) f k e = let w : g x y ≡ f = cc in subst FactInRange w (k x y)

-- the name of a head is one that documents may use
abbrev pub IsHeadStatable : Head → Type 0
IsHeadStatable (Class name subject) = IsStatable kinds.Class name.0
IsHeadStatable (Role name from to) = IsStatable kinds.Role name.0
IsHeadStatable (Attr name from value) = IsStatable kinds.Attr name.0

head_in_range : (decls : List TableDecl) (query : SourceQuery) (rows : List Row) (head : Head) (f : Fact Term) → IsHeadStatable head → fact_of decls query rows head ≡ Some f → FactInRange f
head_in_range decls query rows (Class name subject) f n e = named_one (λ t. InClass name t) (object_of decls query rows subject) f (λ t. n) e
head_in_range decls query rows (Role name from to) f n e = named_two (λ t u. InRole name t u) (object_of decls query rows from) (object_of decls query rows to) f (λ t u. n) e
head_in_range decls query rows (Attr name from value) f n e = named_two (λ t v. InAttr name t (term.Value v)) (object_of decls query rows from) (slot_value decls query rows value) f (λ t v. n) e

-- facts of split mappings whose names are in range are in range
pub facts_in_range : (decls : List TableDecl) (tables : List (List Row)) (maps : List SplitMap) (X : RowId → Type 0) → AllByRecursion (λ m. IsHeadStatable m.head) maps → (f : Fact Term) → IsFactOf decls tables maps X f → FactInRange f
facts_in_range decls tables maps X named f h =
    let s = h.support in
    head_in_range decls s.map.query (chosen decls tables s.map.query.from s.choice) s.map.head f (each_in (λ (m : SplitMap). IsHeadStatable m.head) s.map maps named s.stands) s.gives.gives
