-- An atom is read by the word of its node, and a constant by its node.
use Rattle.std.proofs.Common.{◌≡◌, inl, inr, sym, ap, ◌∙◌, subst, ℕ, true, false, if◌then◌else◌, List, [], ◌∷◌}
use Rattle.std.specs.Prelude.{Result, Ok, Err, codes}
use Rattle.std.specs.Str.{bytes_eq}
use Rattle.std.proofs.lemmas.Slice.Eq.{bytes_eq-Decides}
use Rattle.mast_cq.specs.declared.atom.Arg.{Arg}
use Rattle.mast_cq.specs.declared.atom.Atom.{Atom}
use Rattle.mast_terms.specs.declared.memory.Stop.{Stop}
use Rattle.mast_terms.specs.declared.memory.Stop.TheVariants.{Named, NoMemory}
use Rattle.mast_terms.specs.declared.value.Value.{Value as AValue}
use Rattle.mast_terms.specs.Vocabularies.{Lists}
use Rattle.mast_tbox.specs.Lists.{AreEach}
use Rattle.mast_tree.specs.declared.item.Item.{Item}
use Rattle.mast_tree.specs.declared.shape.ShapeBreach.{ShapeBreach}
use Rattle.mast_tree.specs.declared.shape.ShapeKind.TheVariants.{Shape}
use Rattle.mast_tree.specs.Constants.{constant_of}
use Rattle.mast_tree.specs.Judgements.{Judgement, breaks, first_breach, AreRight, Judges}
use Rattle.mast_tree.specs.Results.{Gives}
use Rattle.mast_tree.specs.Said.{Said, node, line}
use Rattle.mast_tree.specs.Pages.{Page, says}
use Rattle.mast_constr.specs.Denials.{Dates, class_atom, role_atom, attr_atom, atom_said, atom_judged, deny_judged, IsAtom, IsConstant, IsValue, AreDenied, constant_judged, inner_line, value_said, value_judged, atoms_judged}
use Rattle.mast_constr.specs.declared.variables.Sort.TheVariants.{Value}
use Rattle.mast_constr.specs.Variables.{Variables, variable, variable_judged, IsVariable}
use Rattle.mast_constr.specs.inside.Atoms.{placed, with_value, atoms_from, with_arguments, with_atom, with_atoms}
use Rattle.mast_constr.specs.inside.Rules.{GivesAtom, GivesAtoms, GivesConstant}
use Rattle.mast_constr.proofs.BehindLemmas.{judged_is}
use Rattle.mast_constr.proofs.PlaceLemmas.{variables_are}
use Rattle.mast_constr.proofs.StepLemmas.{added_all}

-- what is judged of a node of each word
pub is_class : (dates : Dates) (page : Page) (number : ℕ) (known : Variables) (item : Item) (word : List ℕ) (at : ℕ) (items : List Item) → says page item ≡ node word at items
    → bytes_eq word (codes "Class") ≡ true → atom_judged dates page number known item ≡ class_atom page number known at items
is_class dates page number known item word at items e a =
    ap (atom_said dates page number known) e
    ∙ ap (λ b. if b then class_atom page number known at items else if bytes_eq word (codes "Role") then role_atom page number known at items else if bytes_eq word (codes "Attr") then attr_atom dates page number known at items else breaks Shape at ∷ []) a

-- a role
pub is_role : (dates : Dates) (page : Page) (number : ℕ) (known : Variables) (item : Item) (word : List ℕ) (at : ℕ) (items : List Item) → says page item ≡ node word at items
    → bytes_eq word (codes "Class") ≡ false → bytes_eq word (codes "Role") ≡ true → atom_judged dates page number known item ≡ role_atom page number known at items
is_role dates page number known item word at items e a b =
    ap (atom_said dates page number known) e
    ∙ (ap (λ x. if x then class_atom page number known at items else if bytes_eq word (codes "Role") then role_atom page number known at items else if bytes_eq word (codes "Attr") then attr_atom dates page number known at items else breaks Shape at ∷ []) a
    ∙ ap (λ x. if x then role_atom page number known at items else if bytes_eq word (codes "Attr") then attr_atom dates page number known at items else breaks Shape at ∷ []) b)

-- an attribute
pub is_attr : (dates : Dates) (page : Page) (number : ℕ) (known : Variables) (item : Item) (word : List ℕ) (at : ℕ) (items : List Item) → says page item ≡ node word at items
    → bytes_eq word (codes "Class") ≡ false → bytes_eq word (codes "Role") ≡ false → bytes_eq word (codes "Attr") ≡ true → atom_judged dates page number known item ≡ attr_atom dates page number known at items
is_attr dates page number known item word at items e a b c =
    ap (atom_said dates page number known) e
    ∙ (ap (λ x. if x then class_atom page number known at items else if bytes_eq word (codes "Role") then role_atom page number known at items else if bytes_eq word (codes "Attr") then attr_atom dates page number known at items else breaks Shape at ∷ []) a
    ∙ (ap (λ x. if x then role_atom page number known at items else if bytes_eq word (codes "Attr") then attr_atom dates page number known at items else breaks Shape at ∷ []) b
    ∙ ap (λ x. if x then attr_atom dates page number known at items else breaks Shape at ∷ []) c))

-- an atom was read by the word of its node
pub atom_read : (dates : Dates) (page : Page) (number : ℕ) (known next : Variables) (item : Item) (word wanted : List ℕ) (at : ℕ) (items : List Item) (old new : Lists) (judgements : List Judgement)
    (result : Result Atom (Stop ShapeBreach)) → says page item ≡ node word at items → bytes_eq word wanted ≡ true → atom_judged dates page number known item ≡ judgements
    → Judges old judgements new (GivesAtom wanted dates page items known next new) result
    → Judges old (atom_judged dates page number known item) new (λ g. (next ≡ with_atom page known (says page item)) × IsAtom dates new page next item g) result
atom_read dates page number known next item word wanted at items old new judgements (Ok g) e w same h =
    let is : word ≡ wanted = (bytes_eq-Decides word wanted).0 w in (
      subst (λ js. AreRight old js new) (sym same) h.0,
      (
        h.1.0 ∙ (ap (λ v. with_arguments v page known items) (sym is) ∙ ap (with_atom page known) (sym e)),
        (items, (at, e ∙ ap (λ v. node v at items) (is ∙ sym h.1.1)), h.1.2),
      ),
    )
atom_read dates page number known next item word wanted at items old new judgements (Err (Named breach)) e w same h = ap (first_breach old) same ∙ h
atom_read dates page number known next item word wanted at items old new judgements (Err NoMemory) e w same h = tt

-- all atoms were read, from none on
pub all_denied : (dates : Dates) (page : Page) (items : List Item) (known next : Variables) (old new : Lists) (start all : List Atom) → known ≡ [] → start ≡ []
    → AreRight old (atoms_from dates page 0 known items) new × GivesAtoms dates page items known next new start all
    → AreRight old (atoms_from dates page 0 [] items) new × AreDenied dates new page items all
all_denied dates page items known next old new start all k s h = (
  subst (λ v. AreRight old (atoms_from dates page 0 v items) new) k h.0,
  subst (λ v. AreEach (IsAtom dates new page v) items all) (h.1.0 ∙ (ap (λ v. with_atoms page v items) k ∙ variables_are page items)) (added_all start all (AreEach (IsAtom dates new page next) items) s h.1.1),
)

-- what stops the reading of a constant
pub constant_stops : (dates : Dates) (page : Page) (item : Item) (at : ℕ) (old new : Lists) (Q : Arg → Type 0) (why : Stop ShapeBreach)
    → Gives {T = AValue} (Err why) (constant_of dates page.doc (says page item)) → Judges old (constant_judged (constant_of dates page.doc (says page item)) at) new Q (Err why)
constant_stops dates page item at old new Q (Named breach) h = ap (λ r. first_breach old (constant_judged r at)) h
constant_stops dates page item at old new Q NoMemory h = tt

-- a constant was numbered
pub constant_read : (dates : Dates) (page : Page) (item : Item) (at : ℕ) (value : AValue) (old new : Lists) (result : Result Arg (Stop ShapeBreach))
    → constant_of dates page.doc (says page item) ≡ Ok value → Judges old (constant_judged (Ok value) at) new (IsConstant new value) result
    → Judges old (constant_judged (constant_of dates page.doc (says page item)) at) new (GivesConstant dates page item new) result
constant_read dates page item at value old new (Ok g) e h = (subst (λ r. AreRight old (constant_judged r at) new) (sym e) h.0, (value, e, h.1))
constant_read dates page item at value old new (Err (Named breach)) e h = ap (λ r. first_breach old (constant_judged r at)) e ∙ h
constant_read dates page item at value old new (Err NoMemory) e h = tt

-- a value was read as a constant
pub node_read : (dates : Dates) (page : Page) (known : Variables) (item : Item) (word : List ℕ) (at : ℕ) (items : List Item) (old new : Lists) (result : Result Arg (Stop ShapeBreach))
    → says page item ≡ node word at items → Judges old (constant_judged (constant_of dates page.doc (says page item)) (inner_line page at items)) new (GivesConstant dates page item new) result
    → Judges old (value_judged dates page known item) new (λ x. (known ≡ with_value page known item) × IsValue dates new page known item x) result
node_read dates page known item word at items old new result e h = by result h
  where
    same : value_judged dates page known item ≡ constant_judged (constant_of dates page.doc (says page item)) (inner_line page at items)
    same = ap (value_said dates page known) e ∙ ap (λ what. constant_judged (constant_of dates page.doc what) (inner_line page at items)) (sym e)

    kept : known ≡ with_value page known item
    kept = ap (λ what. placed Value (variable what) known) (sym e)

    by : (result : Result Arg (Stop ShapeBreach)) → Judges old (constant_judged (constant_of dates page.doc (says page item)) (inner_line page at items)) new (GivesConstant dates page item new) result
        → Judges old (value_judged dates page known item) new (λ x. (known ≡ with_value page known item) × IsValue dates new page known item x) result
    by (Ok g) h = (subst (λ js. AreRight old js new) (sym same) h.0, (kept, inl h.1))
    by (Err (Named breach)) h = ap (first_breach old) same ∙ h
    by (Err NoMemory) h = tt

-- a value was read as a variable
pub leaf_read : (dates : Dates) (page : Page) (known next : Variables) (item : Item) (what : Said) (old : Lists) (result : Result Arg (Stop ShapeBreach))
    → says page item ≡ what → value_said dates page known what ≡ variable_judged Value known (variable what) (line what)
    → Judges old (variable_judged Value known (variable (says page item)) (line (says page item))) old (λ x. (next ≡ placed Value (variable (says page item)) known) × IsVariable Value next (variable (says page item)) x) result
    → Judges old (value_judged dates page known item) old (λ x. (next ≡ with_value page known item) × IsValue dates old page next item x) result
leaf_read dates page known next item what old result e leaf h = by result h
  where
    same : value_judged dates page known item ≡ variable_judged Value known (variable (says page item)) (line (says page item))
    same = ap (value_said dates page known) e ∙ (leaf ∙ ap (λ w. variable_judged Value known (variable w) (line w)) (sym e))

    by : (result : Result Arg (Stop ShapeBreach))
        → Judges old (variable_judged Value known (variable (says page item)) (line (says page item))) old (λ x. (next ≡ placed Value (variable (says page item)) known) × IsVariable Value next (variable (says page item)) x) result
        → Judges old (value_judged dates page known item) old (λ x. (next ≡ with_value page known item) × IsValue dates old page next item x) result
    by (Ok g) h = (subst (λ js. AreRight old js old) (sym same) h.0, (h.1.0, inr h.1.1))
    by (Err (Named breach)) h = ap (first_breach old) same ∙ h
    by (Err NoMemory) h = tt

-- what is judged of a denial with atoms
pub some_denied : (dates : Dates) (page : Page) (at : ℕ) (items : List Item) (first : Item) (rest : List Item) → items ≡ first ∷ rest → deny_judged dates page at items ≡ atoms_from dates page 0 [] items
some_denied dates page at items first rest e = ap (deny_judged dates page at) e ∙ (sym (ap (atoms_judged dates page) e) ∙ sym (judged_is dates page items))
