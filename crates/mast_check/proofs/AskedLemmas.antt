-- Members of the closure of a query that is in range are in range.
use Rattle.std.proofs.Common.{ℕ, List, [], ◌∷◌, inl, inr, refl, sym, subst}
use Rattle.mast_cq.specs.declared.atom.Arg.{Arg}
use Rattle.mast_cq.specs.declared.atom.Arg.TheVariants.{Blank, Var, Constant}
use Rattle.mast_cq.specs.declared.atom.Atom.{Atom}
use Rattle.mast_cq.specs.declared.query.Cq.{Cq}
use Rattle.mast_cq.specs.NormalForms.{Occurs}
use Rattle.mast_cq.specs.Origins.{SomeAtom}
use Rattle.mast_cq.specs.Queries.{In}
use Rattle.mast_cq.specs.Steps.{merged}
use Rattle.mast_cq.specs.UnifierMeanings.{IsBelow, KnownArg}
use Rattle.mast_cq.proofs.ListLemmas.{each_in, in_each}
use Rattle.mast_cq.proofs.TakesLemmas.{at_places}
use Rattle.mast_tbox.specs.declared.axiom.Inclusion.{Inclusion}
use Rattle.mast_tbox.proofs.ArgumentLemmas.{down_occurs}
use Rattle.mast_rewrite.specs.Closures.{Closure, ClosureStep}
use Rattle.mast_rewrite.proofs.ClosureLemmas.{members_have, member_known}
use Rattle.mast_join.specs.Answers.{IsAnswerArg, IsAsked, OccursIn}
use Rattle.mast_check.proofs.AnsweredLemmas.{AreAnswered, IsAnswered, normal_answered, merged_answered}

step_answered : (tbox : List Inclusion) (q r : Cq) → ClosureStep tbox q r → AreAnswered q → AreAnswered r
step_answered tbox q r step all =
    let m = step.counts.is_meeting in
    subst AreAnswered (sym step.gives) (normal_answered (merged q step.by step.others)
    (merged_answered q step.g step.h m.left m.right step.others step.by (at_places q.atoms step.g step.h step.others step.two) m.meets
    (λ n. (down_occurs tbox n step.g m.left m.left_below).0) (λ n. (down_occurs tbox n step.h m.right m.right_below).0) all))

-- each answer of a member is a constant, or stands in an atom
pub member_answered : (tbox : List Inclusion) (q m : Cq) → Closure tbox q m → AreAnswered q → AreAnswered m
member_answered tbox q m c all = members_have tbox q AreAnswered (normal_answered q all) (λ k n p step. step_answered tbox k n step p) m c

occurs_out : (n : ℕ) (gs : List Atom) → OccursIn n gs → SomeAtom (Occurs n) gs
occurs_out n [] o = absurd o
occurs_out n (g ∷ gs) (inl o) = record { atom = g; among = inl refl; is = o }
occurs_out n (g ∷ gs) (inr o) = let w = occurs_out n gs o in record { atom = w.atom; among = inr w.among; is = w.is }

-- a variable that occurs in an atom of a list occurs in the list
pub occurs_at : (n : ℕ) (g : Atom) (gs : List Atom) → In g gs → Occurs n g → OccursIn n gs
occurs_at n g [] i o = absurd i
occurs_at n g (h ∷ gs) (inl e) o = inl (subst (Occurs n) e o)
occurs_at n g (h ∷ gs) (inr i) o = inr (occurs_at n g gs i o)

answered : (bound : ℕ) (atoms : List Atom) (x : Arg) → IsAnswerArg bound atoms x → IsAnswered atoms x
answered bound atoms Blank a = a
answered bound atoms (Var n) a = occurs_out n atoms a
answered bound atoms (Constant c) a = tt

known : (bound : ℕ) (atoms : List Atom) (x : Arg) → IsAnswerArg bound atoms x → KnownArg (IsBelow bound) x
known bound atoms Blank a = absurd a
known bound atoms (Var n) a = tt
known bound atoms (Constant c) a = a

asked : (bound : ℕ) (atoms : List Atom) (x : Arg) → IsAnswered atoms x → KnownArg (IsBelow bound) x → IsAnswerArg bound atoms x
asked bound atoms Blank a k = a
asked bound atoms (Var n) a k = occurs_at n a.atom atoms a.among a.is
asked bound atoms (Constant c) a k = k

-- so a member is in range where the query is
pub member_asked : (bound : ℕ) (tbox : List Inclusion) (q m : Cq) → IsAsked bound q → Closure tbox q m → IsAsked bound m
member_asked bound tbox q m h c =
    let a = member_answered tbox q m c (in_each (IsAnswered q.atoms) q.answer (λ x i. answered bound q.atoms x (each_in (IsAnswerArg bound q.atoms) x q.answer h.answer i))) in
    let k = member_known tbox q m c bound (record {
      answer = in_each (KnownArg (IsBelow bound)) q.answer (λ x i. known bound q.atoms x (each_in (IsAnswerArg bound q.atoms) x q.answer h.answer i));
      atoms = h.atoms;
    }) in
    record {
      atoms = k.atoms;
      answer = in_each (IsAnswerArg bound m.atoms) m.answer (λ x i. asked bound m.atoms x (each_in (IsAnswered m.atoms) x m.answer a i) (each_in (KnownArg (IsBelow bound)) x m.answer k.answer i));
    }
