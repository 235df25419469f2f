-- What is asked of a query is kept by the members of its closure: its constants are in range, and each variable of its answer list stands in an atom.
use Rattle.std.proofs.Common.{◌≡◌, ℕ, zero, suc, ◌⊎◌, List, [], ◌∷◌, map, Bool, true, false, nat_eq, ◌||◌, Option, Some, None, inl, inr, refl, sym, ap, subst, ◌∙◌}
use Rattle.std.specs.List.{AllByRecursion}
use Rattle.std.proofs.lemmas.Bool.{eqb-true, eq-eqb}
use Rattle.mast_cq.specs.declared.atom.Arg.{Arg}
use Rattle.mast_cq.specs.declared.atom.Arg.TheVariants.{Blank, Var, Constant}
use Rattle.mast_cq.specs.declared.atom.Atom.{Atom}
use Rattle.mast_cq.specs.declared.atom.Atom.TheVariants.{Class, Role, Attr}
use Rattle.mast_cq.specs.declared.query.Cq.{Cq}
use Rattle.mast_cq.specs.Meanings.{Fact, InClass, InRole, InAttr, Fits, Match}
use Rattle.mast_cq.specs.NormalForms.{alone, blank, blank_arg, first_var, in_order, normal_form, places, settle, without, Occurs}
use Rattle.mast_cq.specs.Origins.{KnownQuery}
use Rattle.mast_cq.specs.Queries.{In, has_var}
use Rattle.mast_cq.specs.Steps.{merged}
use Rattle.mast_cq.specs.Unification.{Meeting, Replacement, meeting, replace, replace_arg}
use Rattle.mast_cq.specs.UnifierMeanings.{IsBelow, IsProper, KnownArg}
use Rattle.mast_cq.proofs.AloneLemmas.{alone_parts, first_true}
use Rattle.mast_cq.proofs.ListLemmas.{each_in, in_each, map_in}
use Rattle.mast_cq.proofs.OrderLemmas.{order_out}
use Rattle.mast_cq.proofs.OriginLemmas.{normal_known}
use Rattle.mast_cq.proofs.PartsLemmas.{parts}
use Rattle.mast_cq.proofs.StepOriginLemmas.{step_known}
use Rattle.mast_cq.proofs.TakesLemmas.{at_places, two_each}
use Rattle.mast_tbox.specs.declared.axiom.Inclusion.{Inclusion}
use Rattle.mast_tbox.proofs.ArgumentLemmas.{down_occurs}
use Rattle.mast_rewrite.specs.Closures.{Closure, ClosureStep}
use Rattle.mast_rewrite.proofs.ClosureLemmas.{members_have}
use Rattle.mast_rewrite.proofs.MemberLemmas.{is_step}
use Rattle.mast_join.specs.Answers.{IsAnswerArg, IsAsked, OccursIn}

-- ---- variables that occur in atoms

-- it occurs in an atom of the list
occurs_in : (n : ℕ) (g : Atom) (gs : List Atom) → In g gs → Occurs n g → OccursIn n gs
occurs_in n g [] i o = absurd i
occurs_in n g (h ∷ gs) (inl e) o = inl (subst (Occurs n) e o)
occurs_in n g (h ∷ gs) (inr i) o = inr (occurs_in n g gs i o)

-- an atom in which it occurs
record OccursAt (n : ℕ) (gs : List Atom) : Type 0 where
  pub atom : Atom
  pub among : In atom gs
  pub occurs : Occurs n atom

occurs_at : (n : ℕ) (gs : List Atom) → OccursIn n gs → OccursAt n gs
occurs_at n [] o = absurd o
occurs_at n (g ∷ gs) (inl o) = record { atom = g; among = inl refl; occurs = o }
occurs_at n (g ∷ gs) (inr o) = let w = occurs_at n gs o in record { atom = w.atom; among = inr w.among; occurs = w.occurs }

-- ---- the normal form keeps the variables of the answer list

in_ordered : (g : Atom) (gs : List Atom) → In g gs → In g (in_order gs)
in_ordered g gs i = each_in (λ h. In h (in_order gs)) g gs (order_out (λ h. In h (in_order gs)) gs (in_each (λ h. In h (in_order gs)) (in_order gs) (λ h k. k))) i

ordered_occurs : (n : ℕ) (gs : List Atom) → OccursIn n gs → OccursIn n (in_order gs)
ordered_occurs n gs o = let w = occurs_at n gs o in occurs_in n w.atom (in_order gs) (in_ordered w.atom gs w.among) w.occurs

blank_other : (m n : ℕ) (b : Bool) → nat_eq n m ≡ b → (m ≡ n → ⊥) → elim b [ true ↦ Blank | false ↦ Var n ] ≡ Var n
blank_other m n true e ne = absurd (ne (sym (eqb-true n m e)))
blank_other m n false e ne = refl

blank_stays : (m n : ℕ) (x : Arg) → (m ≡ n → ⊥) → x ≡ Var n → blank_arg m x ≡ Var n
blank_stays m n x ne e = ap (blank_arg m) e ∙ blank_other m n (nat_eq n m) refl ne

blank_occurs : (m n : ℕ) (g : Atom) → (m ≡ n → ⊥) → Occurs n g → Occurs n (blank m g)
blank_occurs m n (Class a x) ne o = blank_stays m n x ne o
blank_occurs m n (Role a x y) ne (inl o) = inl (blank_stays m n x ne o)
blank_occurs m n (Role a x y) ne (inr o) = inr (blank_stays m n y ne o)
blank_occurs m n (Attr a x y) ne (inl o) = inl (blank_stays m n x ne o)
blank_occurs m n (Attr a x y) ne (inr o) = inr (blank_stays m n y ne o)

without_occurs : (m n : ℕ) (gs : List Atom) → (m ≡ n → ⊥) → OccursIn n gs → OccursIn n (without m gs)
without_occurs m n gs ne o =
    let w = occurs_at n gs o in
    ordered_occurs n (map (blank m) gs) (occurs_in n (blank m w.atom) (map (blank m) gs) (map_in (blank m) w.atom gs w.among) (blank_occurs m n w.atom ne w.occurs))

-- a variable that is alone is no answer
alone_other : (answer : List Arg) (n m : ℕ) (gs : List Atom) → has_var answer n ≡ true → first_var (alone answer gs) gs ≡ Some m → m ≡ n → ⊥
alone_other answer n m gs is e same =
    let none = (alone_parts answer gs m (first_true (alone answer gs) gs m e)).0 in
    let there : has_var answer m ≡ true = subst (λ k. has_var answer k ≡ true) (sym same) is in
    cc

settle_occurs : (answer : List Arg) (n k : ℕ) (gs : List Atom) → has_var answer n ≡ true → OccursIn n gs → OccursIn n (settle answer k gs)
settle_occurs answer n zero gs is o = o
settle_occurs answer n (suc k) gs is o = go (first_var (alone answer gs) gs) refl (λ m. settle_occurs answer n k (without m gs) is)
  where
    go : (found : Option ℕ) → first_var (alone answer gs) gs ≡ found → ((m : ℕ) → OccursIn n (without m gs) → OccursIn n (settle answer k (without m gs)))
        → OccursIn n (elim found as (λ i. List Atom) [ None ↦ gs | Some m ↦ settle answer k (without m gs) ])
    go None e f = o
    go (Some m) e f = f m (without_occurs m n gs (alone_other answer n m gs is e) o)

var_has : (n : ℕ) (args : List Arg) → In (Var n) args → has_var args n ≡ true
var_has n [] i = absurd i
var_has n (x ∷ args) (inl e) = subst (λ y. has_var (y ∷ args) n ≡ true) e (ap (λ b. b || has_var args n) (eq-eqb n n refl))
var_has n (Blank ∷ args) (inr i) = var_has n args i
var_has n (Constant c ∷ args) (inr i) = var_has n args i
var_has n (Var m ∷ args) (inr i) = or_true (nat_eq m n) (has_var args n) (var_has n args i)
  where
    or_true : (a b : Bool) → b ≡ true → (a || b) ≡ true
    or_true true b e = refl
    or_true false b e = e

normal_occurs : (q : Cq) (n : ℕ) → In (Var n) q.answer → OccursIn n q.atoms → OccursIn n (normal_form q).atoms
normal_occurs q n i o = settle_occurs q.answer n (places q.atoms) (in_order q.atoms) (var_has n q.answer i) (ordered_occurs n q.atoms o)

arg_normal : (bound : ℕ) (q : Cq) (x : Arg) → In x q.answer → IsAnswerArg bound q.atoms x → IsAnswerArg bound (normal_form q).atoms x
arg_normal bound q Blank i a = absurd a
arg_normal bound q (Var n) i a = normal_occurs q n i a
arg_normal bound q (Constant c) i a = a

normal_answers : (bound : ℕ) (q : Cq) → AllByRecursion (IsAnswerArg bound q.atoms) q.answer → AllByRecursion (IsAnswerArg bound (normal_form q).atoms) q.answer
normal_answers bound q all =
    in_each (IsAnswerArg bound (normal_form q).atoms) q.answer (λ x i. arg_normal bound q x i (each_in (IsAnswerArg bound q.atoms) x q.answer all i))

-- ---- a step keeps them

-- an atom as a fact of its arguments, and it is this fact where each argument stands for itself
abbrev itself_fact : Atom → Fact Arg
itself_fact (Class a x) = InClass a x
itself_fact (Role a x y) = InRole a x y
itself_fact (Attr a x y) = InAttr a x y

fits_itself : (x : Arg) → Fits Constant Var x x
fits_itself Blank = tt
fits_itself (Var n) = refl
fits_itself (Constant c) = refl

match_itself : (g : Atom) → Match Constant Var g (itself_fact g)
match_itself (Class a x) = (refl, fits_itself x)
match_itself (Role a x y) = (refl, fits_itself x, fits_itself y)
match_itself (Attr a x y) = (refl, fits_itself x, fits_itself y)

-- what a variable became is what the fact has in its place
fits_replaced : (r : Replacement) (n k : ℕ) (x t : Arg) → x ≡ Var n → r n ≡ Var k → Fits Constant Var (replace_arg r x) t → t ≡ Var k
fits_replaced r n k x t e became f = subst (λ (y : Arg). Fits Constant Var y t) (ap (replace_arg r) e ∙ became) f

fact_occurs : (r : Replacement) (n k : ℕ) (h m : Atom) → Occurs n h → r n ≡ Var k → Match Constant Var (replace r h) (itself_fact m) → Occurs k m
fact_occurs r n k (Class a x) (Class b y) o e f = fits_replaced r n k x y o e f.1
fact_occurs r n k (Class a x) (Role b y z) o e f = absurd f
fact_occurs r n k (Class a x) (Attr b y z) o e f = absurd f
fact_occurs r n k (Role a x w) (Class b y) o e f = absurd f
fact_occurs r n k (Role a x w) (Role b y z) (inl o) e f = inl (fits_replaced r n k x y o e f.1)
fact_occurs r n k (Role a x w) (Role b y z) (inr o) e f = inr (fits_replaced r n k w z o e f.2)
fact_occurs r n k (Role a x w) (Attr b y z) o e f = absurd f
fact_occurs r n k (Attr a x w) (Class b y) o e f = absurd f
fact_occurs r n k (Attr a x w) (Role b y z) o e f = absurd f
fact_occurs r n k (Attr a x w) (Attr b y z) (inl o) e f = inl (fits_replaced r n k x y o e f.1)
fact_occurs r n k (Attr a x w) (Attr b y z) (inr o) e f = inr (fits_replaced r n k w z o e f.2)

-- a variable of two atoms that meet stands, as what it became, in the meeting's atom
meeting_occurs : (answer : List Arg) (left right : Atom) (m : Meeting) (n k : ℕ) → meeting answer left right ≡ Some m → Occurs n left ⊎ Occurs n right → m.replacement n ≡ Var k → Occurs k m.atom
meeting_occurs answer left right m n k e (inl o) became = fact_occurs m.replacement n k left m.atom o became ((parts Constant answer left right m e).splits Var (itself_fact m.atom) (match_itself m.atom)).0
meeting_occurs answer left right m n k e (inr o) became = fact_occurs m.replacement n k right m.atom o became ((parts Constant answer left right m e).splits Var (itself_fact m.atom) (match_itself m.atom)).1

replace_occurs : (r : Replacement) (n k : ℕ) (g : Atom) → Occurs n g → r n ≡ Var k → Occurs k (replace r g)
replace_occurs r n k (Class a x) o e = ap (replace_arg r) o ∙ e
replace_occurs r n k (Role a x y) (inl o) e = inl (ap (replace_arg r) o ∙ e)
replace_occurs r n k (Role a x y) (inr o) e = inr (ap (replace_arg r) o ∙ e)
replace_occurs r n k (Attr a x y) (inl o) e = inl (ap (replace_arg r) o ∙ e)
replace_occurs r n k (Attr a x y) (inr o) e = inr (ap (replace_arg r) o ∙ e)

-- the variables of the atom stand, as what they became, in these atoms
abbrev Goes : Replacement → List Atom → Atom → Type 0
Goes r new g = (n k : ℕ) → Occurs n g → r n ≡ Var k → OccursIn k new

module _ (tbox : List Inclusion) (q p : Cq) (step : ClosureStep tbox q p) where
  abbrev by : Meeting
  by = step.by

  abbrev new : List Atom
  new = by.atom ∷ map (replace by.replacement) step.others

  all_go : AllByRecursion (Goes by.replacement new) q.atoms
  all_go =
      let m = step.counts.is_meeting in
      two_each (Goes by.replacement new) (at_places q.atoms step.g step.h step.others step.two)
      (λ n k o e. inl (meeting_occurs q.answer m.left m.right by n k m.meets (inl ((down_occurs tbox n step.g m.left m.left_below).0 o)) e))
      (λ n k o e. inl (meeting_occurs q.answer m.left m.right by n k m.meets (inr ((down_occurs tbox n step.h m.right m.right_below).0 o)) e))
      (in_each (Goes by.replacement new) step.others (λ g i n k o e.
      inr (occurs_in k (replace by.replacement g) (map (replace by.replacement) step.others) (map_in (replace by.replacement) g step.others i) (replace_occurs by.replacement n k g o e))))

  var_goes : (bound n : ℕ) (y : Arg) → OccursIn n q.atoms → by.replacement n ≡ y → IsProper y → KnownArg (IsBelow bound) y → IsAnswerArg bound new y
  var_goes bound n Blank o e proper known = absurd proper
  var_goes bound n (Var k) o e proper known = let w = occurs_at n q.atoms o in each_in (Goes by.replacement new) w.atom q.atoms all_go w.among n k w.occurs e
  var_goes bound n (Constant c) o e proper known = known

  arg_goes : (bound : ℕ) (x : Arg) → IsAnswerArg bound q.atoms x → KnownArg (IsBelow bound) (replace_arg by.replacement x) → IsAnswerArg bound new (replace_arg by.replacement x)
  arg_goes bound Blank a known = absurd a
  arg_goes bound (Var n) a known =
      let m = step.counts.is_meeting in
      var_goes bound n (by.replacement n) a refl ((parts Constant q.answer m.left m.right by m.meets).proper n) known
  arg_goes bound (Constant c) a known = a

  merged_answers : (bound : ℕ) (xs : List Arg) → AllByRecursion (IsAnswerArg bound q.atoms) xs → AllByRecursion (KnownArg (IsBelow bound)) (map (replace_arg by.replacement) xs)
      → AllByRecursion (IsAnswerArg bound new) (map (replace_arg by.replacement) xs)
  merged_answers bound [] a known = tt
  merged_answers bound (x ∷ xs) a known = (arg_goes bound x a.0 known.0, merged_answers bound xs a.1 known.1)

-- ---- what is asked of a query

arg_known : (bound : ℕ) (atoms : List Atom) (x : Arg) → IsAnswerArg bound atoms x → KnownArg (IsBelow bound) x
arg_known bound atoms Blank a = absurd a
arg_known bound atoms (Var n) a = tt
arg_known bound atoms (Constant c) a = a

asked_known : (bound : ℕ) (q : Cq) → IsAsked bound q → KnownQuery bound q
asked_known bound q a = record {
  answer = in_each (KnownArg (IsBelow bound)) q.answer (λ x i. arg_known bound q.atoms x (each_in (IsAnswerArg bound q.atoms) x q.answer a.answer i));
  atoms = a.atoms;
}

asked_normal : (bound : ℕ) (q : Cq) → IsAsked bound q → IsAsked bound (normal_form q)
asked_normal bound q a = record { atoms = (normal_known bound q (asked_known bound q a)).atoms; answer = normal_answers bound q a.answer }

asked_step : (bound : ℕ) (tbox : List Inclusion) (q p : Cq) → IsAsked bound q → ClosureStep tbox q p → IsAsked bound p
asked_step bound tbox q p a step =
    let known = step_known q p (is_step tbox q p step) bound (asked_known bound q a) in
    let before : KnownQuery bound (normal_form (merged q step.by step.others)) = subst (KnownQuery bound) step.gives known in
    subst (IsAsked bound) (sym step.gives) (record {
      atoms = before.atoms;
      answer = normal_answers bound (merged q step.by step.others) (merged_answers tbox q p step bound q.answer a.answer before.answer);
    })

-- the members of the closure of a query are asked as the query is
pub member_asked : (bound : ℕ) (tbox : List Inclusion) (q m : Cq) → IsAsked bound q → Closure tbox q m → IsAsked bound m
member_asked bound tbox q m a c = members_have tbox q (IsAsked bound) (asked_normal bound q a) (λ k p. asked_step bound tbox k p) m c
