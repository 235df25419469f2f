-- A worked closure whose meeting stands below an atom, as theorems: who attends a course, where each student attends something, and what is
-- attended is a course.
use Rattle.std.proofs.Common.{◌≡◌, ◌≢◌, ℕ, List, [], ◌∷◌, ◌⊎◌, inl, inr, Option, Some, None, Contains, refl, sym, subst, ◌∙◌}
use Rattle.std.specs.declared.cmp.Ordering.TheVariants.{Less, Equal}
use Rattle.mast_terms.specs.declared.name.Name.{Name}
use Rattle.mast_cq.specs.declared.atom.Arg.{Arg}
use Rattle.mast_cq.specs.declared.atom.Arg.TheVariants.{Blank, Var}
use Rattle.mast_cq.specs.declared.atom.Atom.{Atom}
use Rattle.mast_cq.specs.declared.atom.Atom.TheVariants.{Class, Role}
use Rattle.mast_cq.specs.declared.query.Cq.{Cq}
use Rattle.mast_cq.specs.NormalForms.{normal_form}
use Rattle.mast_cq.specs.Queries.{atom_order, here, first}
use Rattle.mast_cq.specs.Unification.{only, after, Meeting, meeting}
use Rattle.mast_cq.proofs.TakesLemmas.{places_of}
use Rattle.mast_tbox.specs.declared.axiom.Inclusion.{Inclusion}
use Rattle.mast_tbox.specs.declared.axiom.Inclusion.TheVariants.{Class as IClass, Exists, Role as IRole, Attr as IAttr}
use Rattle.mast_tbox.specs.declared.expression.Basic.{Basic}
use Rattle.mast_tbox.specs.declared.expression.Basic.TheVariants.{Class as BClass, Some as BSome}
use Rattle.mast_tbox.specs.declared.expression.Prop.{Prop}
use Rattle.mast_tbox.specs.declared.expression.Prop.TheVariants.{Role as PRole, Attr as PAttr}
use Rattle.mast_tbox.specs.declared.expression.RoleExpr.TheVariants.{Direct, Inverse}
use Rattle.mast_tbox.specs.Closure.{AtomStep, Down}
use Rattle.mast_tbox.specs.Expressions.{pair, at}
use Rattle.mast_tbox.specs.Inclusions.{Adds, States}
use Rattle.mast_tbox.specs.Lists.{itself, onward}
use Rattle.mast_tbox.proofs.MemberLemmas.{front, later, first_or, only_one}
use Rattle.mast_rewrite.specs.Closures.{Closure}
use Rattle.mast_rewrite.specs.CountingMeetings.{IsMeeting, Leads, Counts}
use Rattle.mast_rewrite.proofs.CountLemmas.{leads_itself, counts_simply}

abbrev student : Name
student = record { 0 = 0 }

abbrev course : Name
course = record { 0 = 1 }

abbrev attends : Name
attends = record { 0 = 2 }

-- Student ⊑ ∃attends, of number 0
abbrev every_student : Inclusion
every_student = Exists (BClass student) (Direct attends) None 0

-- ∃attends⁻ ⊑ Course
abbrev what_is_attended : Inclusion
what_is_attended = IClass (BSome (Inverse attends)) course

abbrev tbox : List Inclusion
tbox = every_student ∷ what_is_attended ∷ []

-- an inclusion is one of the two
one_of : (i : Inclusion) → Contains tbox i → (i ≡ every_student) ⊎ (i ≡ what_is_attended)
one_of i c = elim (first_or every_student (what_is_attended ∷ []) i c) [ inl e ↦ inl e | inr d ↦ inr (only_one what_is_attended i d) ]

-- the answer is x; attends(x, y), Course(y)
abbrev attending : Cq
attending = record { answer = Var 0 ∷ []; atoms = Role attends (Var 0) (Var 1) ∷ Class course (Var 1) ∷ [] }

attending_normal : normal_form attending ≡ record { answer = Var 0 ∷ []; atoms = Class course (Var 1) ∷ Role attends (Var 0) (Var 1) ∷ [] }
attending_normal = refl

no_inverse : (b : Basic) (p : Name) (k : ℕ) (end : Option Name) → Contains tbox (Exists b (Inverse p) end k) → ⊥
no_inverse b p k end c = elim (one_of (Exists b (Inverse p) end k) c) [ inl e ↦ cc | inr e ↦ cc ]

no_role : (b : Basic) (p : Prop) (k : ℕ) (x y : Arg) → Adds tbox b p k → Role attends x (Var 1) ≡ pair p y Blank → ⊥
no_role b (PRole (Direct p)) k x y c e = cc
no_role b (PRole (Inverse p)) k x y (end, c) e = no_inverse b p k end c
no_role b (PAttr u) k x y c e = cc

no_class : (p : Prop) (x y z : Arg) → Class course x ≡ pair p y z → ⊥
no_class (PRole (Direct p)) x y z e = cc
no_class (PRole (Inverse p)) x y z e = cc
no_class (PAttr u) x y z e = cc

no_wider : (p q : Prop) → States tbox p q → ⊥
no_wider (PRole r) (PRole s) c = elim (one_of (IRole r s) c) [ inl e ↦ cc | inr e ↦ cc ]
no_wider (PRole r) (PAttr v) c = absurd c
no_wider (PAttr u) (PRole s) c = absurd c
no_wider (PAttr u) (PAttr v) c = elim (one_of (IAttr u v) c) [ inl e ↦ cc | inr e ↦ cc ]

-- y stands twice, so no inclusion makes a step on attends(x, y)
no_step : (x : Arg) (h : Atom) → AtomStep tbox (Role attends x (Var 1)) h → ⊥
no_step x h (AtomStep.into_class b a y c eg eh) = cc
no_step x h (AtomStep.adds b p k y c eg eh) = no_role b p k x y c eg
no_step x h (AtomStep.widens p q y z c eg eh) = no_wider p q c

alone : (x : Arg) (h : Atom) → Down tbox (Role attends x (Var 1)) h → h ≡ Role attends x (Var 1)
alone x h itself = refl
alone x h (onward {y = i} s d) = absurd (no_step x i s)

class_step : (b : Basic) (a : Name) (x : Arg) (h : Atom) → (IClass b a ≡ every_student) ⊎ (IClass b a ≡ what_is_attended) → Class course (Var 1) ≡ Class a x → h ≡ at b x → h ≡ Role attends Blank (Var 1)
class_step b a x h (inl e) eg eh = absurd (cc e)
class_step b a x h (inr e) eg eh =
    let i : b ≡ BSome (Inverse attends) = cc in
    let j : x ≡ Var 1 = cc in
    eh ∙ subst (λ k. at k x ≡ Role attends Blank (Var 1)) (sym i) (subst (λ k. at (BSome (Inverse attends)) k ≡ Role attends Blank (Var 1)) (sym j) refl)

-- the one step on Course(y) makes attends(_, y)
course_step : (h : Atom) → AtomStep tbox (Class course (Var 1)) h → h ≡ Role attends Blank (Var 1)
course_step h (AtomStep.into_class b a x c eg eh) = class_step b a x h (one_of (IClass b a) c) eg eh
course_step h (AtomStep.adds b p k x c eg eh) = absurd (no_class p (Var 1) x Blank eg)
course_step h (AtomStep.widens p q x y c eg eh) = absurd (no_wider p q c)

course_below : (h : Atom) → Down tbox (Class course (Var 1)) h → (h ≡ Class course (Var 1)) ⊎ (h ≡ Role attends Blank (Var 1))
course_below h itself = inl refl
course_below h (onward {y = i} s d) = inr (alone Blank h (subst (λ g. Down tbox g h) (course_step i s) d))

-- so the two atoms have one meeting, at attends(x, y), of which one member stands below Course(y)
abbrev joined : Meeting
joined = record { replacement = after Var (only 1 (Var 1)); atom = Role attends (Var 0) (Var 1) }

one_meeting : (m n : Meeting) → Some m ≡ Some n → m ≡ n
one_meeting m n e = cc

no_meeting : (m : Meeting) → None ≡ Some m → ⊥
no_meeting m e = cc

left_case : (m : Meeting) (left : Atom) → meeting (Var 0 ∷ []) left (Role attends (Var 0) (Var 1)) ≡ Some m → (left ≡ Class course (Var 1)) ⊎ (left ≡ Role attends Blank (Var 1)) → joined ≡ m
left_case m left e (inl l) = absurd (no_meeting m (subst (λ i. meeting (Var 0 ∷ []) i (Role attends (Var 0) (Var 1)) ≡ Some m) l e))
left_case m left e (inr l) = one_meeting joined m (subst (λ i. meeting (Var 0 ∷ []) i (Role attends (Var 0) (Var 1)) ≡ Some m) l e)

others_are : (m : Meeting) → IsMeeting tbox (normal_form attending) (Class course (Var 1)) (Role attends (Var 0) (Var 1)) m → joined ≡ m
others_are m w =
    left_case m w.left (subst (λ i. meeting (Var 0 ∷ []) w.left i ≡ Some m) (alone (Var 0) w.right w.right_below) w.meets) (course_below w.left w.left_below)

attended_below : Down tbox (Class course (Var 1)) (Role attends Blank (Var 1))
attended_below = onward (AtomStep.into_class (BSome (Inverse attends)) course (Var 1) (later what_is_attended every_student (what_is_attended ∷ []) (front what_is_attended [])) refl refl) itself

joined_counts : Counts tbox (normal_form attending) (Class course (Var 1)) (Role attends (Var 0) (Var 1)) joined
joined_counts =
    counts_simply tbox (normal_form attending) (Class course (Var 1)) (Role attends (Var 0) (Var 1)) joined
    (record { left = Role attends Blank (Var 1); right = Role attends (Var 0) (Var 1); left_below = attended_below; right_below = itself; meets = refl })
    (λ other o l. (
      subst (Leads tbox (normal_form attending) joined) (others_are other o) (leads_itself tbox (normal_form attending) joined),
      subst (λ k. atom_order k.atom joined.atom ≢ Less) (others_are other o) (λ e. (let f : Equal ≡ Less = e in cc)),
    ))

-- and attends(x, _) is a member of the closure: no query is made for each choice of what stands below the atoms
attending_has : Closure tbox attending (record { answer = Var 0 ∷ []; atoms = Role attends (Var 0) Blank ∷ [] })
attending_has = onward (record {
  g = Class course (Var 1);
  h = Role attends (Var 0) (Var 1);
  others = [];
  two = places_of (here first);
  by = joined;
  counts = joined_counts;
  gives = refl;
}) itself

-- of which Down has Student(x)
student_below : Down tbox (Role attends (Var 0) Blank) (Class student (Var 0))
student_below = onward (AtomStep.adds (BClass student) (PRole (Direct attends)) 0 (Var 0) (None, front every_student (what_is_attended ∷ [])) refl refl) itself
