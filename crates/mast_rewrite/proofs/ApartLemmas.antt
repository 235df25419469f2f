-- Atoms whose names no inclusions link have no meeting.
use Rattle.std.proofs.Common.{◌≡◌, ◌↔◌, Bool, true, false, nat_eq, List, [], Option, None, Some, sym, refl, ap, ◌∙◌}
use borrow.Author.Tests.{eqb-true}
use Rattle.mast_terms.specs.declared.name.Name.{Name}
use Rattle.mast_cq.specs.declared.atom.Arg.{Arg}
use Rattle.mast_cq.specs.declared.atom.Atom.{Atom}
use Rattle.mast_cq.specs.declared.atom.Atom.TheVariants.{Class, Role, Attr}
use Rattle.mast_cq.specs.Unification.{Meeting, meeting, meeting_of_one, meeting_of_pairs, unify_args}
use Rattle.mast_tbox.specs.declared.axiom.Inclusion.{Inclusion}
use Rattle.mast_tbox.specs.declared.expression.RoleExpr.TheVariants.{Direct}
use Rattle.mast_tbox.specs.declared.expression.Basic.TheVariants.{Class as BClass, Some as BSome, Subjects}
use Rattle.mast_tbox.specs.NameLinks.{atom_name, AreLinked}
use Rattle.mast_tbox.proofs.LinkLemmas.{meetings_linked}
use Rattle.mast_tbox.proofs.MemberLemmas.{none}
use Rattle.mast_rewrite.specs.declared.pair.Pair.{Pair}
use Rattle.mast_rewrite.specs.inside.Leaders.{CountsExactly}
use Rattle.mast_rewrite.specs.inside.Marks.{marks}

one_name : (a b : Name) (o : Option Meeting) (m : Meeting) (c : Bool) → nat_eq a.0 b.0 ≡ c → ◌≡◌ {A = Option Meeting} (elim c [ true ↦ o | false ↦ None ]) (Some m) → a ≡ b
one_name a b o m true e f = ap (λ n. record { 0 = n }) (eqb-true a.0 b.0 e)
one_name a b o m false e f = cc

-- atoms that meet have one name
pub meet_named : (answer : List Arg) (l r : Atom) (m : Meeting) → meeting answer l r ≡ Some m → atom_name l ≡ atom_name r
meet_named answer (Class a x) (Class b y) m e = ap BClass (one_name a b (meeting_of_one (Class a) x y (unify_args answer x y)) m (nat_eq a.0 b.0) refl e)
meet_named answer (Role a x y) (Role b z w) m e = ap (λ n. BSome (Direct n)) (one_name a b (meeting_of_pairs answer (Role a) x y z w (unify_args answer x z)) m (nat_eq a.0 b.0) refl e)
meet_named answer (Attr a x y) (Attr b z w) m e = ap Subjects (one_name a b (meeting_of_pairs answer (Attr a) x y z w (unify_args answer x z)) m (nat_eq a.0 b.0) refl e)
meet_named answer (Class a x) (Role b z w) m e = cc
meet_named answer (Class a x) (Attr b z w) m e = cc
meet_named answer (Role a x y) (Class b z) m e = cc
meet_named answer (Role a x y) (Attr b z w) m e = cc
meet_named answer (Attr a x y) (Class b z) m e = cc
meet_named answer (Attr a x y) (Role b z w) m e = cc

-- where the names of two atoms are not linked, none of their meetings counts
pub none_counts : (tbox : List Inclusion) (p : Pair) (b : Bool) → b ≡ false → ((b ≡ true) ↔ AreLinked tbox p.left.atom p.right.atom) → CountsExactly tbox p []
none_counts tbox p b e are m = (
  λ c. absurd (none m c),
  λ k. let i = k.is_meeting in
      let t : b ≡ true = are.1 (meetings_linked tbox p.left.atom p.right.atom i.left i.right i.left_below i.right_below (meet_named (marks p) i.left i.right m i.meets)) in
      absurd (let f : true ≡ false = sym t ∙ e in cc),
)
