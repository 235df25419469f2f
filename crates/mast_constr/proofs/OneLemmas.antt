-- What an item of the constraints says is one thing.
use Rattle.std.proofs.Common.{◌≡◌, inl, inr, refl, sym, ap, ◌∙◌, subst, ℕ, false, true≢false, List, [], ◌∷◌, Option, Some}
use Rattle.std.specs.Prelude.{Result, Ok, codes}
use Rattle.std.specs.Str.{bytes_eq}
use Rattle.std.proofs.lemmas.Slice.Eq.{bytes_eq-Decides}
use Rattle.mast_cq.specs.declared.atom.Arg.{Arg}
use Rattle.mast_cq.specs.declared.atom.Arg.TheVariants as arg
use Rattle.mast_cq.specs.declared.atom.Atom.{Atom}
use Rattle.mast_cq.specs.declared.atom.Atom.TheVariants as atom
use Rattle.mast_terms.specs.declared.name.Name.{Name}
use Rattle.mast_terms.specs.declared.name.NameKind.TheVariants as kinds
use Rattle.mast_terms.specs.declared.value.Value.{Value as AValue}
use Rattle.mast_terms.specs.Vocabularies.{Lists, IsVocabulary}
use Rattle.mast_tbox.specs.declared.axiom.Lined.{Lined}
use Rattle.mast_tbox.specs.declared.constraint.Constraint.{Constraint}
use Rattle.mast_tbox.specs.declared.constraint.Constraint.TheVariants as constraint
use Rattle.mast_tbox.specs.declared.constraint.Step.{Step}
use Rattle.mast_tbox.specs.declared.constraint.Step.TheVariants as step
use Rattle.mast_tbox.specs.declared.expression.Basic.{Basic}
use Rattle.mast_tbox.specs.declared.expression.Prop.{Prop}
use Rattle.mast_tbox.specs.declared.expression.Prop.TheVariants as prop
use Rattle.mast_tbox.specs.declared.expression.RoleExpr.{RoleExpr}
use Rattle.mast_tbox.specs.declared.expression.RoleExpr.TheVariants.{Direct, Inverse}
use Rattle.mast_tbox.specs.Lists.{AreEach}
use Rattle.mast_tree.specs.declared.item.Item.{Item}
use Rattle.mast_tree.specs.declared.shape.ShapeBreach.{ShapeBreach}
use Rattle.mast_tree.specs.Constants.{constant_of}
use Rattle.mast_tree.specs.Said.{Said, name, iri, text, tagged, binding, node}
use Rattle.mast_tree.specs.Seen.{Document}
use Rattle.mast_expressions.specs.Given.{IsRole}
use Rattle.mast_tree.specs.Pages.{Page, says, IsNodeOf}
use Rattle.mast_expressions.proofs.OneLemmas.{named_one, role_one, left_one, node_no_name, inside_one, word_one}
use Rattle.mast_constr.specs.declared.variables.Sort.{Sort}
use Rattle.mast_constr.specs.declared.variables.Sort.TheVariants.{Object, Value}
use Rattle.mast_constr.specs.Denials.{Dates, IsConstant, IsValue, IsClassOf, IsRoleOf, IsAttrAtomOf, IsAtomOf, IsAtom, atom_word, variables_of}
use Rattle.mast_constr.specs.Items.{IsProp, IsFunctionalOf, IsConstraintOf, IsConstraint, IsLined, AreConstraints, constraint_word}
use Rattle.mast_constr.specs.Paths.{IsTestOf, IsAttrOf, IsStep, IsPath, AreIdentified}
use Rattle.mast_constr.specs.Variables.{Variables, variable, IsVariable}
use Rattle.mast_constr.proofs.OnceLemmas.{IsOnce, denial_once}

-- lists whose elements are one are one
each_one : {X Y : Type 0} (R : X → Y → Type 0) → ((x : X) (y z : Y) → R x y → R x z → y ≡ z) → (xs : List X) (ys zs : List Y) → AreEach R xs ys → AreEach R xs zs → ys ≡ zs
each_one R one [] [] [] h g = refl
each_one R one [] [] (z ∷ zs) h g = absurd g
each_one R one [] (y ∷ ys) zs h g = absurd h
each_one R one (x ∷ xs) [] zs h g = absurd h
each_one R one (x ∷ xs) (y ∷ ys) [] h g = absurd g
each_one R one (x ∷ xs) (y ∷ ys) (z ∷ zs) h g = ap (λ v. v ∷ ys) (one x y z h.0 g.0) ∙ ap (λ vs. z ∷ vs) (each_one R one xs ys zs h.1 g.1)

-- two words that a comparison tells apart
differ : (v w : List ℕ) → bytes_eq v w ≡ false → v ≡ w → ⊥
differ v w e h = true≢false (sym ((bytes_eq-Decides v w).1 h) ∙ e)

-- a node says no role but an inverse
node_no_role : (lists : Lists) (page : Page) (item : Item) (word : List ℕ) (items : List Item) (r : RoleExpr)
    → (word ≡ codes "ObjectInverseOf" → ⊥) → IsNodeOf page word item items → IsRole lists page item r → ⊥
node_no_role lists page item word items (Direct p) apart h g = node_no_name lists kinds.Role page item word items p h g
node_no_role lists page item word items (Inverse p) apart h g = apart (word_one page word (codes "ObjectInverseOf") item items g.0 h g.1)

test_no_inverse : codes "Test" ≡ codes "ObjectInverseOf" → ⊥
test_no_inverse h = differ (codes "Test") (codes "ObjectInverseOf") refl h

attr_no_inverse : codes "Attr" ≡ codes "ObjectInverseOf" → ⊥
attr_no_inverse h = differ (codes "Attr") (codes "ObjectInverseOf") refl h

test_no_attr : codes "Test" ≡ codes "Attr" → ⊥
test_no_attr h = differ (codes "Test") (codes "Attr") refl h

test_one : (lists : Lists) (page : Page) (items : List Item) (a b : Name) → IsVocabulary lists → IsTestOf lists page items a → IsTestOf lists page items b → a ≡ b
test_one lists page [] a b v h g = absurd h
test_one lists page (only ∷ []) a b v h g = named_one lists kinds.Class page only a b v h g
test_one lists page (one ∷ two ∷ more) a b v h g = absurd h

attr_one : (lists : Lists) (page : Page) (items : List Item) (a b : Name) → IsVocabulary lists → IsAttrOf lists page items a → IsAttrOf lists page items b → a ≡ b
attr_one lists page [] a b v h g = absurd h
attr_one lists page (only ∷ []) a b v h g = named_one lists kinds.Attr page only a b v h g
attr_one lists page (one ∷ two ∷ more) a b v h g = absurd h

step_one : (lists : Lists) (page : Page) → IsVocabulary lists → (item : Item) (s t : Step) → IsStep lists page item s → IsStep lists page item t → s ≡ t
step_one lists page v item (step.Role r) (step.Role s) h g = ap step.Role (role_one lists page item r s v h g)
step_one lists page v item (step.Role r) (step.Test a) h g = absurd (node_no_role lists page item (codes "Test") g.0 r test_no_inverse g.1 h)
step_one lists page v item (step.Role r) (step.Attr u) h g = absurd (node_no_role lists page item (codes "Attr") g.0 r attr_no_inverse g.1 h)
step_one lists page v item (step.Test a) (step.Role s) h g = absurd (node_no_role lists page item (codes "Test") h.0 s test_no_inverse h.1 g)
step_one lists page v item (step.Test a) (step.Test b) h g =
    let inside : h.0 ≡ g.0 = inside_one page (codes "Test") item h.0 g.0 h.1 g.1 in
    ap step.Test (test_one lists page g.0 a b v (subst (λ xs. IsTestOf lists page xs a) inside h.2) g.2)
step_one lists page v item (step.Test a) (step.Attr u) h g = absurd (test_no_attr (word_one page (codes "Test") (codes "Attr") item h.0 g.0 h.1 g.1))
step_one lists page v item (step.Attr u) (step.Role s) h g = absurd (node_no_role lists page item (codes "Attr") h.0 s attr_no_inverse h.1 g)
step_one lists page v item (step.Attr u) (step.Test a) h g = absurd (test_no_attr (word_one page (codes "Test") (codes "Attr") item g.0 h.0 g.1 h.1))
step_one lists page v item (step.Attr u) (step.Attr w) h g =
    let inside : h.0 ≡ g.0 = inside_one page (codes "Attr") item h.0 g.0 h.1 g.1 in
    ap step.Attr (attr_one lists page g.0 u w v (subst (λ xs. IsAttrOf lists page xs u) inside h.2) g.2)

path_one : (lists : Lists) (page : Page) → IsVocabulary lists → (item : Item) (p q : List Step) → IsPath lists page item p → IsPath lists page item q → p ≡ q
path_one lists page v item p q h g =
    let inside : h.0 ≡ g.0 = inside_one page (codes "Path") item h.0 g.0 h.1 g.1 in
    each_one (IsStep lists page) (step_one lists page v) g.0 p q (subst (λ xs. AreEach (IsStep lists page) xs p) inside h.2) g.2

paths_one : (lists : Lists) (page : Page) → IsVocabulary lists → (items : List Item) (ps qs : List (List Step)) → AreEach (IsPath lists page) items ps → AreEach (IsPath lists page) items qs → ps ≡ qs
paths_one lists page v items ps qs h g = each_one (IsPath lists page) (path_one lists page v) items ps qs h g

identified_one : (lists : Lists) (page : Page) → IsVocabulary lists → (items : List Item) (b c : Basic) (ps qs : List (List Step))
    → AreIdentified lists page items b ps → AreIdentified lists page items c qs → constraint.Identify b ps ≡ constraint.Identify c qs
identified_one lists page v [] b c ps qs h g = absurd h
identified_one lists page v (left ∷ items) b c ps qs h g =
    ap (λ x. constraint.Identify x ps) (left_one lists page left b c v h.0 g.0) ∙ ap (λ xs. constraint.Identify c xs) (paths_one lists page v items ps qs h.1 g.1)

same_found : (found : Option (List ℕ)) (x y : List ℕ) → found ≡ Some x → found ≡ Some y → x ≡ y
same_found found x y h g = cc

variable_one : (sort : Sort) (known : Variables) (found : Option (List ℕ)) (x y : Arg) → IsOnce known → IsVariable sort known found x → IsVariable sort known found y → x ≡ y
variable_one sort known found (arg.Var n) (arg.Var m) once h g =
    let same : h.0 ≡ g.0 = same_found found h.0 g.0 h.1 g.1 in
    ap arg.Var (once g.0 sort sort n m (h.2 ∙ ap (λ x. Some (x, sort)) same) g.2)
variable_one sort known found arg.Blank y once h g = absurd h
variable_one sort known found (arg.Constant n) y once h g = absurd h
variable_one sort known found (arg.Var n) arg.Blank once h g = absurd g
variable_one sort known found (arg.Var n) (arg.Constant m) once h g = absurd g

constant_one : (lists : Lists) (value : AValue) (x y : Arg) → IsVocabulary lists → IsConstant lists value x → IsConstant lists value y → x ≡ y
constant_one lists value (arg.Constant n) (arg.Constant m) v h g = ap arg.Constant (v.constants.once n m value h g)
constant_one lists value arg.Blank y v h g = absurd h
constant_one lists value (arg.Var n) y v h g = absurd h
constant_one lists value (arg.Constant n) arg.Blank v h g = absurd g
constant_one lists value (arg.Constant n) (arg.Var m) v h g = absurd g

same_value_given : (given : Result AValue ShapeBreach) (x y : AValue) → given ≡ Ok x → given ≡ Ok y → x ≡ y
same_value_given given x y h g = cc

-- a constant is no variable
constant_no_variable : (dates : Dates) (doc : Document) (what : Said) (value : AValue) (x : List ℕ) → constant_of dates doc what ≡ Ok value → variable what ≡ Some x → ⊥
constant_no_variable dates doc (name word at) value x h g = cc
constant_no_variable dates doc (iri word at) value x h g = cc
constant_no_variable dates doc (text chars at) value x h g = cc
constant_no_variable dates doc (tagged at) value x h g = cc
constant_no_variable dates doc (binding at) value x h g = cc
constant_no_variable dates doc (node word at items) value x h g = cc

no_variable : (dates : Dates) (page : Page) (known : Variables) (item : Item) (value : AValue) (x : Arg)
    → constant_of dates page.doc (says page item) ≡ Ok value → IsVariable Value known (variable (says page item)) x → ⊥
no_variable dates page known item value arg.Blank h g = g
no_variable dates page known item value (arg.Var n) h g = constant_no_variable dates page.doc (says page item) value g.0 h g.1
no_variable dates page known item value (arg.Constant n) h g = g

value_one : (dates : Dates) (lists : Lists) (page : Page) (known : Variables) (item : Item) (x y : Arg) → IsVocabulary lists → IsOnce known
    → IsValue dates lists page known item x → IsValue dates lists page known item y → x ≡ y
value_one dates lists page known item x y v once (inl h) (inl g) =
    let same : h.0 ≡ g.0 = same_value_given (constant_of dates page.doc (says page item)) h.0 g.0 h.1 g.1 in
    constant_one lists g.0 x y v (subst (λ value. IsConstant lists value x) same h.2) g.2
value_one dates lists page known item x y v once (inl h) (inr g) = absurd (no_variable dates page known item h.0 y h.1 g)
value_one dates lists page known item x y v once (inr h) (inl g) = absurd (no_variable dates page known item g.0 x g.1 h)
value_one dates lists page known item x y v once (inr h) (inr g) = variable_one Value known (variable (says page item)) x y once h g

class_one : (lists : Lists) (page : Page) (known : Variables) (items : List Item) (a b : Name) (x y : Arg) → IsVocabulary lists → IsOnce known
    → IsClassOf lists page known items a x → IsClassOf lists page known items b y → atom.Class a x ≡ atom.Class b y
class_one lists page known [] a b x y v once h g = absurd h
class_one lists page known (i ∷ []) a b x y v once h g = absurd h
class_one lists page known (i ∷ j ∷ []) a b x y v once h g =
    ap (λ n. atom.Class n x) (named_one lists kinds.Class page i a b v h.0 g.0) ∙ ap (λ n. atom.Class b n) (variable_one Object known (variable (says page j)) x y once h.1 g.1)
class_one lists page known (i ∷ j ∷ k ∷ ks) a b x y v once h g = absurd h

roles_one : (lists : Lists) (page : Page) (known : Variables) (items : List Item) (p q : Name) (x y z w : Arg) → IsVocabulary lists → IsOnce known
    → IsRoleOf lists page known items p x y → IsRoleOf lists page known items q z w → atom.Role p x y ≡ atom.Role q z w
roles_one lists page known [] p q x y z w v once h g = absurd h
roles_one lists page known (i ∷ []) p q x y z w v once h g = absurd h
roles_one lists page known (i ∷ j ∷ []) p q x y z w v once h g = absurd h
roles_one lists page known (i ∷ j ∷ k ∷ []) p q x y z w v once h g =
    ap (λ n. atom.Role n x y) (named_one lists kinds.Role page i p q v h.0 g.0)
    ∙ (ap (λ n. atom.Role q n y) (variable_one Object known (variable (says page j)) x z once h.1 g.1)
    ∙ ap (λ n. atom.Role q z n) (variable_one Object known (variable (says page k)) y w once h.2 g.2))
roles_one lists page known (i ∷ j ∷ k ∷ l ∷ ls) p q x y z w v once h g = absurd h

fillers_one : (dates : Dates) (lists : Lists) (page : Page) (known : Variables) (items : List Item) (p q : Name) (x y z w : Arg) → IsVocabulary lists → IsOnce known
    → IsAttrAtomOf dates lists page known items p x y → IsAttrAtomOf dates lists page known items q z w → atom.Attr p x y ≡ atom.Attr q z w
fillers_one dates lists page known [] p q x y z w v once h g = absurd h
fillers_one dates lists page known (i ∷ []) p q x y z w v once h g = absurd h
fillers_one dates lists page known (i ∷ j ∷ []) p q x y z w v once h g = absurd h
fillers_one dates lists page known (i ∷ j ∷ k ∷ []) p q x y z w v once h g =
    ap (λ n. atom.Attr n x y) (named_one lists kinds.Attr page i p q v h.0 g.0)
    ∙ (ap (λ n. atom.Attr q n y) (variable_one Object known (variable (says page j)) x z once h.1 g.1)
    ∙ ap (λ n. atom.Attr q z n) (value_one dates lists page known k y w v once h.2 g.2))
fillers_one dates lists page known (i ∷ j ∷ k ∷ l ∷ ls) p q x y z w v once h g = absurd h

class_no_role : codes "Class" ≡ codes "Role" → ⊥
class_no_role h = differ (codes "Class") (codes "Role") refl h

class_no_attr : codes "Class" ≡ codes "Attr" → ⊥
class_no_attr h = differ (codes "Class") (codes "Attr") refl h

role_no_attr : codes "Role" ≡ codes "Attr" → ⊥
role_no_attr h = differ (codes "Role") (codes "Attr") refl h

inside_atom : (dates : Dates) (lists : Lists) (page : Page) (known : Variables) (items : List Item) (f g : Atom) → atom_word f ≡ atom_word g → IsVocabulary lists → IsOnce known
    → IsAtomOf dates lists page known items f → IsAtomOf dates lists page known items g → f ≡ g
inside_atom dates lists page known items (atom.Class a x) (atom.Class b y) w v once h g = class_one lists page known items a b x y v once h g
inside_atom dates lists page known items (atom.Class a x) (atom.Role q z y) w v once h g = absurd (class_no_role w)
inside_atom dates lists page known items (atom.Class a x) (atom.Attr q z y) w v once h g = absurd (class_no_attr w)
inside_atom dates lists page known items (atom.Role p x y) (atom.Class b z) w v once h g = absurd (class_no_role (sym w))
inside_atom dates lists page known items (atom.Role p x y) (atom.Role q z u) w v once h g = roles_one lists page known items p q x y z u v once h g
inside_atom dates lists page known items (atom.Role p x y) (atom.Attr q z u) w v once h g = absurd (role_no_attr w)
inside_atom dates lists page known items (atom.Attr p x y) (atom.Class b z) w v once h g = absurd (class_no_attr (sym w))
inside_atom dates lists page known items (atom.Attr p x y) (atom.Role q z u) w v once h g = absurd (role_no_attr (sym w))
inside_atom dates lists page known items (atom.Attr p x y) (atom.Attr q z u) w v once h g = fillers_one dates lists page known items p q x y z u v once h g

same_node : (what : Said) (v w : List ℕ) (a b : ℕ) (xs ys : List Item) → what ≡ node v a xs → what ≡ node w b ys → xs ≡ ys
same_node what v w a b xs ys h g = cc

atom_one : (dates : Dates) (lists : Lists) (page : Page) (known : Variables) → IsVocabulary lists → IsOnce known → (item : Item) (f g : Atom)
    → IsAtom dates lists page known item f → IsAtom dates lists page known item g → f ≡ g
atom_one dates lists page known v once item f g h k =
    let inside : h.0 ≡ k.0 = same_node (says page item) (atom_word f) (atom_word g) h.1.0 k.1.0 h.0 k.0 h.1.1 k.1.1 in
    inside_atom dates lists page known k.0 f g (word_one page (atom_word f) (atom_word g) item h.0 k.0 h.1 k.1) v once (subst (λ xs. IsAtomOf dates lists page known xs f) inside h.2) k.2

prop_one : (lists : Lists) (page : Page) (item : Item) (p q : Prop) → IsVocabulary lists → IsProp lists page item p → IsProp lists page item q → p ≡ q
prop_one lists page item (prop.Role r) (prop.Role s) v h g = ap prop.Role (role_one lists page item r s v h g)
prop_one lists page item (prop.Role r) (prop.Attr u) v h g = absurd (node_no_role lists page item (codes "Attr") g.0 r attr_no_inverse g.1 h)
prop_one lists page item (prop.Attr u) (prop.Role s) v h g = absurd (node_no_role lists page item (codes "Attr") h.0 s attr_no_inverse h.1 g)
prop_one lists page item (prop.Attr u) (prop.Attr w) v h g =
    let inside : h.0 ≡ g.0 = inside_one page (codes "Attr") item h.0 g.0 h.1 g.1 in
    ap prop.Attr (attr_one lists page g.0 u w v (subst (λ xs. IsAttrOf lists page xs u) inside h.2) g.2)

functional_one : (lists : Lists) (page : Page) (items : List Item) (p q : Prop) → IsVocabulary lists → IsFunctionalOf lists page items p → IsFunctionalOf lists page items q → p ≡ q
functional_one lists page [] p q v h g = absurd h
functional_one lists page (only ∷ []) p q v h g = prop_one lists page only p q v h g
functional_one lists page (one ∷ two ∷ more) p q v h g = absurd h

functional_no_identify : codes "Functional" ≡ codes "Identify" → ⊥
functional_no_identify h = differ (codes "Functional") (codes "Identify") refl h

functional_no_deny : codes "Functional" ≡ codes "Deny" → ⊥
functional_no_deny h = differ (codes "Functional") (codes "Deny") refl h

identify_no_deny : codes "Identify" ≡ codes "Deny" → ⊥
identify_no_deny h = differ (codes "Identify") (codes "Deny") refl h

inside_constraint : (dates : Dates) (lists : Lists) (page : Page) (items : List Item) (c d : Constraint) → constraint_word c ≡ constraint_word d → IsVocabulary lists
    → IsConstraintOf dates lists page items c → IsConstraintOf dates lists page items d → c ≡ d
inside_constraint dates lists page items (constraint.Functional p) (constraint.Functional q) w v h g = ap constraint.Functional (functional_one lists page items p q v h g)
inside_constraint dates lists page items (constraint.Functional p) (constraint.Identify c qs) w v h g = absurd (functional_no_identify w)
inside_constraint dates lists page items (constraint.Functional p) (constraint.Deny gs) w v h g = absurd (functional_no_deny w)
inside_constraint dates lists page items (constraint.Identify b ps) (constraint.Functional q) w v h g = absurd (functional_no_identify (sym w))
inside_constraint dates lists page items (constraint.Identify b ps) (constraint.Identify c qs) w v h g = identified_one lists page v items b c ps qs h g
inside_constraint dates lists page items (constraint.Identify b ps) (constraint.Deny gs) w v h g = absurd (identify_no_deny w)
inside_constraint dates lists page items (constraint.Deny fs) (constraint.Functional q) w v h g = absurd (functional_no_deny (sym w))
inside_constraint dates lists page items (constraint.Deny fs) (constraint.Identify c qs) w v h g = absurd (identify_no_deny (sym w))
inside_constraint dates lists page items (constraint.Deny fs) (constraint.Deny gs) w v h g =
    ap constraint.Deny (each_one (IsAtom dates lists page (variables_of page items)) (atom_one dates lists page (variables_of page items) v (denial_once page items)) items fs gs h g)

constraint_one : (dates : Dates) (lists : Lists) (page : Page) (item : Item) (c d : Constraint) → IsVocabulary lists
    → IsConstraint dates lists page item c → IsConstraint dates lists page item d → c ≡ d
constraint_one dates lists page item c d v h k =
    let inside : h.0 ≡ k.0 = same_node (says page item) (constraint_word c) (constraint_word d) h.1.0 k.1.0 h.0 k.0 h.1.1 k.1.1 in
    inside_constraint dates lists page k.0 c d (word_one page (constraint_word c) (constraint_word d) item h.0 k.0 h.1 k.1) v (subst (λ xs. IsConstraintOf dates lists page xs c) inside h.2) k.2

lined_one : (dates : Dates) (lists : Lists) (page : Page) → IsVocabulary lists → (item : Item) (l m : Lined Constraint) → IsLined dates lists page item l → IsLined dates lists page item m → l ≡ m
lined_one dates lists page v item l m h g =
    let at : l.line ≡ m.line = h.0 ∙ sym g.0 in
    let is : l.item ≡ m.item = constraint_one dates lists page item l.item m.item v h.1 g.1 in
    λ i. record { line = at i; item = is i }

-- the constraints that items say are one list
pub constraints_one : (dates : Dates) (lists : Lists) (page : Page) (items : List Item) (ks ls : List (Lined Constraint)) → IsVocabulary lists
    → AreConstraints dates lists page items ks → AreConstraints dates lists page items ls → ks ≡ ls
constraints_one dates lists page items ks ls v h g = each_one (IsLined dates lists page) (lined_one dates lists page v) items ks ls h g
