-- A worked closure, as theorems: who attends a course with somebody, where each student attends some course.
use Rattle.std.proofs.Common.{◌≡◌, ◌≢◌, ℕ, List, [], ◌∷◌, Some, None, refl, sym, subst, arith}
use Rattle.std.specs.declared.cmp.Ordering.TheVariants.{Less, Equal}
use Rattle.std.specs.Prelude.{codes}
use Rattle.mast_terms.specs.declared.name.Name.{Name}
use Rattle.mast_terms.specs.declared.term.Term.{Term}
use Rattle.mast_terms.specs.declared.term.Term.TheVariants as term
use Rattle.mast_cq.specs.declared.atom.Arg.{Arg}
use Rattle.mast_cq.specs.declared.atom.Arg.TheVariants.{Blank, Var}
use Rattle.mast_cq.specs.declared.atom.Atom.{Atom}
use Rattle.mast_cq.specs.declared.atom.Atom.TheVariants.{Class, Role}
use Rattle.mast_cq.specs.declared.query.Cq.{Cq}
use Rattle.mast_cq.specs.Meanings.{Fact, InClass, Match}
use Rattle.mast_cq.specs.NormalForms.{normal_form}
use Rattle.mast_cq.specs.Queries.{atom_order, here, first}
use Rattle.mast_cq.specs.Unification.{only, after, Meeting, meeting}
use Rattle.mast_cq.proofs.TakesLemmas.{places_of}
use Rattle.mast_tbox.specs.declared.axiom.Inclusion.{Inclusion}
use Rattle.mast_tbox.specs.declared.axiom.Inclusion.TheVariants.{Exists, Role as IRole, Attr as IAttr}
use Rattle.mast_tbox.specs.declared.expression.Basic.{Basic}
use Rattle.mast_tbox.specs.declared.expression.Basic.TheVariants.{Class as BClass}
use Rattle.mast_tbox.specs.declared.expression.Prop.{Prop}
use Rattle.mast_tbox.specs.declared.expression.Prop.TheVariants.{Role as PRole, Attr as PAttr}
use Rattle.mast_tbox.specs.declared.expression.RoleExpr.TheVariants.{Direct, Inverse}
use Rattle.mast_tbox.specs.Closure.{AtomStep, Down}
use Rattle.mast_tbox.specs.Expressions.{pair}
use Rattle.mast_tbox.specs.Inclusions.{Adds, States}
use Rattle.mast_tbox.specs.Lists.{itself, onward}
use Rattle.mast_tbox.proofs.MemberLemmas.{front, only_one}
use Rattle.mast_tbox.specs.Names.{InclusionNamed, IsStatable}
use Rattle.mast_canon.specs.CertainAnswers.{Certain, ThroughDown}
use Rattle.mast_canon.specs.Theories.{Theory, constant_of}
use Rattle.mast_canon.specs.TheoryPremises.{FactInRange, IsStated}
use Rattle.mast_rewrite.specs.Closures.{Closure}
use Rattle.mast_rewrite.specs.CountingMeetings.{IsMeeting, Leads, Counts}
use Rattle.mast_rewrite.proofs.CountLemmas.{leads_itself, counts_simply}
use Rattle.mast_rewrite.proofs.RewritingLemmas.{rewriting_sound}

abbrev student : Name
student = record { 0 = 0 }

abbrev attends : Name
attends = record { 0 = 1 }

-- Student ⊑ ∃attends, of number 0
abbrev every_student : Inclusion
every_student = Exists (BClass student) (Direct attends) None 0

abbrev tbox : List Inclusion
tbox = every_student ∷ []

-- the answer is x; attends(x, y), attends(z, y)
abbrev shared : Cq
shared = record { answer = Var 0 ∷ []; atoms = Role attends (Var 0) (Var 1) ∷ Role attends (Var 2) (Var 1) ∷ [] }

-- its normal form: z stands once
shared_normal : normal_form shared ≡ record { answer = Var 0 ∷ []; atoms = Role attends Blank (Var 1) ∷ Role attends (Var 0) (Var 1) ∷ [] }
shared_normal = refl

no_role : (b : Basic) (p : Prop) (k : ℕ) (x : Arg) (y : Arg) → Adds tbox b p k → Role attends x (Var 1) ≡ pair p y Blank → ⊥
no_role b (PRole (Direct p)) k x y c e = cc
no_role b (PRole (Inverse p)) k x y (end, c) e = let w = only_one every_student (Exists b (Inverse p) end k) c in cc
no_role b (PAttr u) k x y c e = cc

no_wider : (p q : Prop) → States tbox p q → ⊥
no_wider (PRole r) (PRole s) c = let w = only_one every_student (IRole r s) c in cc
no_wider (PRole r) (PAttr v) c = absurd c
no_wider (PAttr u) (PRole s) c = absurd c
no_wider (PAttr u) (PAttr v) c = let w = only_one every_student (IAttr u v) c in cc

-- y stands twice, so no inclusion makes a step on attends(x, y)
no_step : (x : Arg) (h : Atom) → AtomStep tbox (Role attends x (Var 1)) h → ⊥
no_step x h (AtomStep.into_class b a y c eg eh) = cc
no_step x h (AtomStep.adds b p k y c eg eh) = no_role b p k x y c eg
no_step x h (AtomStep.widens p q y z c eg eh) = no_wider p q c

alone : (x : Arg) (h : Atom) → Down tbox (Role attends x (Var 1)) h → h ≡ Role attends x (Var 1)
alone x h itself = refl
alone x h (onward {y = i} s d) = absurd (no_step x i s)

-- so the two atoms have one meeting, at attends(x, y)
abbrev joined : Meeting
joined = record { replacement = after Var (only 1 (Var 1)); atom = Role attends (Var 0) (Var 1) }

joined_is : meeting (Var 0 ∷ []) (Role attends Blank (Var 1)) (Role attends (Var 0) (Var 1)) ≡ Some joined
joined_is = refl

one_meeting : (m n : Meeting) → Some m ≡ Some n → m ≡ n
one_meeting m n e = cc

others_are : (m : Meeting) → IsMeeting tbox (normal_form shared) (Role attends Blank (Var 1)) (Role attends (Var 0) (Var 1)) m → joined ≡ m
others_are m w =
    let l = alone Blank w.left w.left_below in
    let r = alone (Var 0) w.right w.right_below in
    one_meeting joined m (subst (λ i. meeting (Var 0 ∷ []) (Role attends Blank (Var 1)) i ≡ Some m) r (subst (λ i. meeting (Var 0 ∷ []) i w.right ≡ Some m) l w.meets))

-- it counts
joined_counts : Counts tbox (normal_form shared) (Role attends Blank (Var 1)) (Role attends (Var 0) (Var 1)) joined
joined_counts =
    counts_simply tbox (normal_form shared) (Role attends Blank (Var 1)) (Role attends (Var 0) (Var 1)) joined
    (record { left = Role attends Blank (Var 1); right = Role attends (Var 0) (Var 1); left_below = itself; right_below = itself; meets = joined_is })
    (λ other o l. (
      subst (Leads tbox (normal_form shared) joined) (others_are other o) (leads_itself tbox (normal_form shared) joined),
      subst (λ k. atom_order k.atom joined.atom ≢ Less) (others_are other o) (λ e. (let f : Equal ≡ Less = e in cc)),
    ))

-- and so attends(x, _) is a member of the closure
shared_has : Closure tbox shared (record { answer = Var 0 ∷ []; atoms = Role attends (Var 0) Blank ∷ [] })
shared_has = onward (record {
  g = Role attends Blank (Var 1);
  h = Role attends (Var 0) (Var 1);
  others = [];
  two = places_of (here first);
  by = joined;
  counts = joined_counts;
  gives = refl;
}) itself

-- of which Down has Student(x): each student is an answer, which no member without the meeting gives
student_below : Down tbox (Role attends (Var 0) Blank) (Class student (Var 0))
student_below = onward (AtomStep.adds (BClass student) (PRole (Direct attends)) 0 (Var 0) (None, front every_student []) refl refl) itself

abbrev theory : Theory
theory = record { inclusions = record { line = 1; item = every_student } ∷ []; negatives = []; functional = []; constraints = []; constants = [] }

abbrev ann : Term
ann = term.Object (record { symbol = codes "ann"; args = [] })

-- where Ann is a student, and nothing else is given
abbrev given : Fact Term → Type 0
given f = f ≡ InClass student ann

-- this member has Ann through Down
shared_through : ThroughDown theory given (record { answer = Var 0 ∷ []; atoms = Role attends (Var 0) Blank ∷ [] }) (ann ∷ [])
shared_through = record {
  under = λ n. ann;
  each = (record { member = Class student (Var 0); below = student_below; met = record { fact = InClass student ann; matches = (refl, refl); holds = refl } }, tt);
  answers = (refl, tt);
}

is_stated : IsStated theory
is_stated = record {
  numbered = refl;
  inclusions = λ i c. subst (InclusionNamed IsStatable) (sym (only_one every_student i c)) (omega arith, (omega arith, tt));
}

-- so Ann is a certain answer
shared_certain : Certain theory given shared (ann ∷ [])
shared_certain =
    rewriting_sound theory given is_stated (λ f e. subst FactInRange (sym e) (omega arith)) shared (record { answer = Var 0 ∷ []; atoms = Role attends (Var 0) Blank ∷ [] }) (ann ∷ [])
    (omega arith, (omega arith, tt)) shared_has shared_through

no_pair : (s constant : ℕ → Term) (f : Fact Term) → f ≡ InClass student ann → Match constant s (Role attends Blank (Var 1)) f → ⊥
no_pair s constant f e m = subst (Match constant s (Role attends Blank (Var 1))) e m

-- and the normal form of the query, which is the only member without a meeting, does not have her
only_the_meeting_has_her : ThroughDown theory given (normal_form shared) (ann ∷ []) → ⊥
only_the_meeting_has_her h =
    let w = h.each.0 in
    no_pair h.under (constant_of theory.constants) w.met.fact w.met.holds
    (subst (λ g. Match (constant_of theory.constants) h.under g w.met.fact) (alone Blank w.member w.below) w.met.matches)
