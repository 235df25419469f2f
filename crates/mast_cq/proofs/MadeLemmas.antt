-- What a meeting is made of: the replacements that make one pair of arguments one, and then the other.
use Rattle.std.proofs.Common.{◌≡◌, List, Bool, true, false, nat_eq, Some, None, Option, refl}
use Rattle.mast_terms.specs.declared.name.Name.{Name}
use Rattle.mast_cq.specs.declared.atom.Arg.{Arg}
use Rattle.mast_cq.specs.declared.atom.Atom.{Atom}
use Rattle.mast_cq.specs.declared.atom.Atom.TheVariants.{Class, Role, Attr}
use Rattle.mast_cq.specs.Unification.{Replacement, replace_arg, unify_args, fuller, Meeting, after, meeting_of_one, meeting_of_two, meeting_of_pairs, meeting}

-- a meeting of atoms with one argument
pub record MadeOfOne (answer : List Arg) (form : Arg → Atom) (x z : Arg) (m : Meeting) : Type 0 where
  pub r : Replacement
  pub unifies : unify_args answer x z ≡ Some r
  pub is : ◌≡◌ {A = Meeting} (record { replacement = r; atom = form (fuller (replace_arg r x) (replace_arg r z)) }) m

-- a meeting of atoms with two arguments
pub record MadeOfTwo (answer : List Arg) (form : Arg → Arg → Atom) (x y z w : Arg) (m : Meeting) : Type 0 where
  pub r : Replacement
  pub q : Replacement
  pub unifies : unify_args answer x z ≡ Some r
  pub then_unifies : unify_args answer (replace_arg r y) (replace_arg r w) ≡ Some q
  pub is : ◌≡◌ {A = Meeting} (record { replacement = after r q; atom = form (fuller (replace_arg (after r q) x) (replace_arg (after r q) z)) (fuller (replace_arg (after r q) y) (replace_arg (after r q) w)) }) m

same : (m n : Meeting) → Some m ≡ Some n → m ≡ n
same m n e = cc

one_case : (answer : List Arg) (form : Arg → Atom) (x z : Arg) (m : Meeting) (o : Option Replacement) → unify_args answer x z ≡ o → meeting_of_one form x z o ≡ Some m → MadeOfOne answer form x z m
one_case answer form x z m None u e = absurd (cc)
one_case answer form x z m (Some r) u e = record { r = r; unifies = u; is = same _ m e }

two_case : (answer : List Arg) (form : Arg → Arg → Atom) (x y z w : Arg) (m : Meeting) (r : Replacement) (o : Option Replacement) → unify_args answer x z ≡ Some r → unify_args answer (replace_arg r y) (replace_arg r w) ≡ o
    → meeting_of_two form x y z w r o ≡ Some m → MadeOfTwo answer form x y z w m
two_case answer form x y z w m r None u v e = absurd (cc)
two_case answer form x y z w m r (Some q) u v e = record { r = r; q = q; unifies = u; then_unifies = v; is = same _ m e }

pairs_case : (answer : List Arg) (form : Arg → Arg → Atom) (x y z w : Arg) (m : Meeting) (o : Option Replacement) → unify_args answer x z ≡ o → meeting_of_pairs answer form x y z w o ≡ Some m → MadeOfTwo answer form x y z w m
pairs_case answer form x y z w m None u e = absurd (cc)
pairs_case answer form x y z w m (Some r) u e = two_case answer form x y z w m r (unify_args answer (replace_arg r y) (replace_arg r w)) u refl e

named : (b : Bool) (o : Option Meeting) (m : Meeting) → elim b [ true ↦ o | false ↦ None ] ≡ Some m → o ≡ Some m
named true o m e = e
named false o m e = cc

-- what a meeting of two classes is made of
pub class_made : (answer : List Arg) (a b : Name) (x z : Arg) (m : Meeting) → meeting answer (Class a x) (Class b z) ≡ Some m → MadeOfOne answer (Class a) x z m
class_made answer a b x z m e = one_case answer (Class a) x z m (unify_args answer x z) refl (named (nat_eq a.0 b.0) (meeting_of_one (Class a) x z (unify_args answer x z)) m e)

-- what a meeting of two roles is made of
pub role_made : (answer : List Arg) (a b : Name) (x y z w : Arg) (m : Meeting) → meeting answer (Role a x y) (Role b z w) ≡ Some m → MadeOfTwo answer (Role a) x y z w m
role_made answer a b x y z w m e = pairs_case answer (Role a) x y z w m (unify_args answer x z) refl (named (nat_eq a.0 b.0) (meeting_of_pairs answer (Role a) x y z w (unify_args answer x z)) m e)

-- what a meeting of two attributes is made of
pub attr_made : (answer : List Arg) (a b : Name) (x y z w : Arg) (m : Meeting) → meeting answer (Attr a x y) (Attr b z w) ≡ Some m → MadeOfTwo answer (Attr a) x y z w m
attr_made answer a b x y z w m e = pairs_case answer (Attr a) x y z w m (unify_args answer x z) refl (named (nat_eq a.0 b.0) (meeting_of_pairs answer (Attr a) x y z w (unify_args answer x z)) m e)
