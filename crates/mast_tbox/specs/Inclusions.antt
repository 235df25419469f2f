-- Inclusions: the normal inclusions, and what inclusions put directly below a basic concept or a property.
use Rattle.std.specs.Prelude.{◌≡◌, ℕ, ◌+◌, List, [], ◌∷◌, ◌++◌, Option, Some, None, Bool, if◌then◌else◌, Contains, ◌⊎◌}
use Rattle.mast_terms.specs.declared.name.Name.{Name}
use Rattle.mast_tbox.specs.declared.expression.RoleExpr.TheVariants.{Direct, Inverse}
use Rattle.mast_tbox.specs.declared.expression.Basic.{Basic}
use Rattle.mast_tbox.specs.declared.expression.Basic.TheVariants.{Class as BClass, Some as BSome, Subjects}
use Rattle.mast_tbox.specs.declared.expression.Prop.{Prop}
use Rattle.mast_tbox.specs.declared.expression.Prop.TheVariants.{Role as PRole, Attr as PAttr}
use Rattle.mast_tbox.specs.declared.axiom.Inclusion.{Inclusion}
use Rattle.mast_tbox.specs.declared.axiom.Inclusion.TheVariants.{Class as IClass, Exists, HasValue, Role as IRole, Attr as IAttr, Range}
use Rattle.mast_tbox.specs.Expressions.{inverse_role, inverse, subjects, same_basic}
use Rattle.mast_tbox.specs.Lists.{once}

-- the number of the name of the first auxiliary role; the names of documents are below it
abbrev pub first_auxiliary : ℕ
first_auxiliary = 65536

-- the auxiliary role of a number
abbrev pub auxiliary : ℕ → Name
auxiliary k = record { 0 = first_auxiliary + k }

-- what stands for one inclusion: a qualified one becomes three over its auxiliary role, and a range says nothing
abbrev pub normal_of : Inclusion → List Inclusion
normal_of (IClass b a) = IClass b a ∷ []
normal_of (Exists b r None k) = Exists b r None k ∷ []
normal_of (Exists b r (Some a) k) =
    IRole (Direct (auxiliary k)) r ∷ IClass (BSome (Inverse (auxiliary k))) a ∷ Exists b (Direct (auxiliary k)) None k ∷ []
normal_of (HasValue b u k) = HasValue b u k ∷ []
normal_of (IRole r s) = IRole r s ∷ []
normal_of (IAttr u v) = IAttr u v ∷ []
normal_of (Range u kind) = []

-- the normal inclusions, in order
abbrev pub normal : List Inclusion → List Inclusion
normal [] = []
normal (i ∷ is) = normal_of i ++ normal is

-- an inclusion B ⊑ ∃Q or B ⊑ δ(U) of number k is stated, whatever class its end is in
abbrev pub Adds : List Inclusion → Basic → Prop → ℕ → Type 0
Adds tbox b (PRole r) k = (end : Option Name) × Contains tbox (Exists b r end k)
Adds tbox b (PAttr u) k = Contains tbox (HasValue b u k)

-- the inclusion of the first property in the second is stated
abbrev pub States : List Inclusion → Prop → Prop → Type 0
States tbox (PRole r) (PRole s) = Contains tbox (IRole r s)
States tbox (PRole r) (PAttr v) = ⊥
States tbox (PAttr u) (PRole s) = ⊥
States tbox (PAttr u) (PAttr v) = Contains tbox (IAttr u v)

-- a stated inclusion leads from the first property to the second; one between roles leads between their inverses too
abbrev pub Leads : List Inclusion → Prop → Prop → Type 0
Leads tbox p q = States tbox p q ⊎ States tbox (inverse p) (inverse q)

-- the first basic concept is directly below the second
pub data IsDirectlyBelow (tbox : List Inclusion) (c b : Basic) : Type 0 where
  by_class : (a : Name) → Contains tbox (IClass c a) → b ≡ BClass a → IsDirectlyBelow tbox c b
  by_filler : (p : Prop) (k : ℕ) → Adds tbox c p k → b ≡ subjects p → IsDirectlyBelow tbox c b
  by_property : (p q : Prop) → Leads tbox p q → c ≡ subjects p → b ≡ subjects q → IsDirectlyBelow tbox c b

-- the pairs of a basic concept and one that it is directly below, by one inclusion
abbrev pub concept_pairs : Inclusion → List (Basic × Basic)
concept_pairs (IClass b a) = (b, BClass a) ∷ []
concept_pairs (Exists b r end k) = (b, BSome r) ∷ []
concept_pairs (HasValue b u k) = (b, Subjects u) ∷ []
concept_pairs (IRole r s) = (BSome r, BSome s) ∷ (BSome (inverse_role r), BSome (inverse_role s)) ∷ []
concept_pairs (IAttr u v) = (Subjects u, Subjects v) ∷ []
concept_pairs (Range u kind) = []

-- the pairs of all inclusions, in their order
abbrev pub pairs : {X : Type 0} → (Inclusion → List (X × X)) → List Inclusion → List (X × X)
pairs f [] = []
pairs f (i ∷ is) = f i ++ pairs f is

-- the first ones of the pairs whose second is the same as one
abbrev pub firsts : {X : Type 0} → (X → X → Bool) → X → List (X × X) → List X
firsts same x [] = []
firsts same x (p ∷ ps) = if same p.1 x then p.0 ∷ firsts same x ps else firsts same x ps

-- the basic concepts that are directly below one, in the order of the inclusions, each once
abbrev pub directly_below : List Inclusion → Basic → List Basic
directly_below tbox b = once same_basic (firsts same_basic b (pairs concept_pairs tbox))
