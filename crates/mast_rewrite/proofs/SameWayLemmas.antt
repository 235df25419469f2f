-- Meetings of two atoms whose replacements make the same of these atoms have one replacement.
use Rattle.std.proofs.Common.{◌≡◌, ℕ, List, ◌++◌, Bool, true, false, nat_eq, ◌⊎◌, inl, inr, sym, refl, ap, ap₂, subst, ◌∙◌}
use borrow.Author.Tests.{eqb-true, eq-eqb}
use Rattle.mast_cq.specs.declared.atom.Arg.{Arg}
use Rattle.mast_cq.specs.declared.atom.Arg.TheVariants.{Blank, Var, Constant}
use Rattle.mast_cq.specs.declared.atom.Atom.{Atom}
use Rattle.mast_cq.specs.declared.atom.Atom.TheVariants.{Class, Role, Attr}
use Rattle.mast_cq.specs.declared.query.Cq.{Cq}
use Rattle.mast_cq.specs.NormalForms.{Occurs}
use Rattle.mast_cq.specs.Queries.{In}
use Rattle.mast_cq.specs.Sorts.{arguments_of, all_arguments}
use Rattle.mast_cq.specs.Unification.{Replacement, replace_arg, replace, Meeting}
use Rattle.mast_cq.proofs.ListLemmas.{append_right}
use Rattle.mast_cq.proofs.MovesLemmas.{meeting_fixed}
use Rattle.mast_cq.proofs.OriginLemmas.{of_all_in}
use Rattle.mast_tbox.specs.declared.axiom.Inclusion.{Inclusion}
use Rattle.mast_tbox.specs.Laws.{Decided}
use Rattle.mast_tbox.proofs.ArgumentLemmas.{down_occurs}
use Rattle.mast_rewrite.specs.CountingMeetings.{IsMeeting, ReplaceAlike}
use Rattle.mast_rewrite.specs.inside.Leaders.{AreAlike}

is_var : (x : Arg) (n : ℕ) → Decided (x ≡ Var n)
is_var Blank n = inr (λ e. absurd (cc))
is_var (Var m) n = go (nat_eq m n) refl
  where
    go : (b : Bool) → nat_eq m n ≡ b → Decided (◌≡◌ {A = Arg} (Var m) (Var n))
    go true e = inl (ap Var (eqb-true m n e))
    go false e = inr (λ f. let g : m ≡ n = cc in let t : nat_eq m n ≡ true = eq-eqb m n g in cc)
is_var (Constant c) n = inr (λ e. absurd (cc))

either : {A B : Type 0} → Decided A → Decided B → Decided (A ⊎ B)
either (inl a) d = inl (inl a)
either (inr a) (inl b) = inl (inr b)
either (inr a) (inr b) = inr (λ s. elim s [ inl x ↦ a x | inr y ↦ b y ])

-- whether a variable occurs in an atom is decided
pub occurs_decided : (n : ℕ) (g : Atom) → Decided (Occurs n g)
occurs_decided n (Class a x) = is_var x n
occurs_decided n (Role a x y) = either (is_var x n) (is_var y n)
occurs_decided n (Attr a x y) = either (is_var x n) (is_var y n)

arg_at : (r s : Replacement) (x : Arg) (n : ℕ) → replace_arg r x ≡ replace_arg s x → x ≡ Var n → r n ≡ s n
arg_at r s x n e o = subst (λ y. replace_arg r y ≡ replace_arg s y) o e

class_arg : (r s : Replacement) (a : _) (x : Arg) → replace r (Class a x) ≡ replace s (Class a x) → replace_arg r x ≡ replace_arg s x
class_arg r s a x e = cc

role_from : (r s : Replacement) (a : _) (x y : Arg) → replace r (Role a x y) ≡ replace s (Role a x y) → replace_arg r x ≡ replace_arg s x
role_from r s a x y e = cc

role_to : (r s : Replacement) (a : _) (x y : Arg) → replace r (Role a x y) ≡ replace s (Role a x y) → replace_arg r y ≡ replace_arg s y
role_to r s a x y e = cc

attr_from : (r s : Replacement) (a : _) (x y : Arg) → replace r (Attr a x y) ≡ replace s (Attr a x y) → replace_arg r x ≡ replace_arg s x
attr_from r s a x y e = cc

attr_to : (r s : Replacement) (a : _) (x y : Arg) → replace r (Attr a x y) ≡ replace s (Attr a x y) → replace_arg r y ≡ replace_arg s y
attr_to r s a x y e = cc

-- replacements that make the same of an atom agree on its variables
agree : (r s : Replacement) (n : ℕ) (g : Atom) → replace r g ≡ replace s g → Occurs n g → r n ≡ s n
agree r s n (Class a x) e o = arg_at r s x n (class_arg r s a x e) o
agree r s n (Role a x y) e (inl o) = arg_at r s x n (role_from r s a x y e) o
agree r s n (Role a x y) e (inr o) = arg_at r s y n (role_to r s a x y e) o
agree r s n (Attr a x y) e (inl o) = arg_at r s x n (attr_from r s a x y e) o
agree r s n (Attr a x y) e (inr o) = arg_at r s y n (attr_to r s a x y e) o

same_arg : (r s : Replacement) → ((n : ℕ) → r n ≡ s n) → (x : Arg) → replace_arg r x ≡ replace_arg s x
same_arg r s e Blank = refl
same_arg r s e (Var n) = e n
same_arg r s e (Constant c) = refl

-- replacements that agree everywhere make the same of an atom
pub same_atom : (r s : Replacement) → ((n : ℕ) → r n ≡ s n) → (g : Atom) → replace r g ≡ replace s g
same_atom r s e (Class a x) = ap (Class a) (same_arg r s e x)
same_atom r s e (Role a x y) = ap₂ (Role a) (same_arg r s e x) (same_arg r s e y)
same_atom r s e (Attr a x y) = ap₂ (Attr a) (same_arg r s e x) (same_arg r s e y)

-- replacements that agree everywhere are one
pub one_replacement : (r s : Replacement) → ((n : ℕ) → r n ≡ s n) → r ≡ s
one_replacement r s e = λ i n. e n i

occurs_among : (n : ℕ) (g : Atom) → Occurs n g → In (Var n) (arguments_of g)
occurs_among n (Class a x) o = inl (sym o)
occurs_among n (Role a x y) (inl o) = inl (sym o)
occurs_among n (Role a x y) (inr o) = inr (inl (sym o))
occurs_among n (Attr a x y) (inl o) = inl (sym o)
occurs_among n (Attr a x y) (inr o) = inr (inl (sym o))

-- a variable of an atom of a query stands in the query
pub stands_there : (q : Cq) (n : ℕ) (g : Atom) → In g q.atoms → Occurs n g → In (Var n) (q.answer ++ all_arguments q.atoms)
stands_there q n g i o = append_right (Var n) q.answer (all_arguments q.atoms) (of_all_in arguments_of (Var n) g q.atoms i (occurs_among n g o))

module _ (tbox : List Inclusion) (q : Cq) (g h : Atom) where
  fixed : (m : Meeting) (n : ℕ) → IsMeeting tbox q g h m → (Occurs n g → ⊥) → (Occurs n h → ⊥) → m.replacement n ≡ Var n
  fixed m n w f k = meeting_fixed q.answer w.left w.right m n w.meets (λ o. f ((down_occurs tbox n g w.left w.left_below).1 o)) (λ o. k ((down_occurs tbox n h w.right w.right_below).1 o))

  everywhere : (m o : Meeting) → IsMeeting tbox q g h m → IsMeeting tbox q g h o → ((n : ℕ) → Occurs n g → m.replacement n ≡ o.replacement n)
      → ((n : ℕ) → Occurs n h → m.replacement n ≡ o.replacement n) → (n : ℕ) → m.replacement n ≡ o.replacement n
  everywhere m o a b e f n = go (occurs_decided n g) (occurs_decided n h)
    where
      go : Decided (Occurs n g) → Decided (Occurs n h) → m.replacement n ≡ o.replacement n
      go (inl i) d = e n i
      go (inr i) (inl j) = f n j
      go (inr i) (inr j) = fixed m n a i j ∙ sym (fixed o n b i j)

  -- meetings whose replacements make the same of both atoms replace each variable alike
  pub alike_all : (m o : Meeting) → IsMeeting tbox q g h m → IsMeeting tbox q g h o → AreAlike g h m.replacement o.replacement → (n : ℕ) → m.replacement n ≡ o.replacement n
  alike_all m o a b e = everywhere m o a b (λ n i. agree m.replacement o.replacement n g e.0 i) (λ n i. agree m.replacement o.replacement n h e.1 i)

  -- and so do those that replace the variables of the query alike, where the atoms are of the query
  pub query_all : (m o : Meeting) → IsMeeting tbox q g h m → IsMeeting tbox q g h o → In g q.atoms → In h q.atoms → ReplaceAlike q m o → (n : ℕ) → m.replacement n ≡ o.replacement n
  query_all m o a b i j e = everywhere m o a b (λ n k. e n (stands_there q n g i k)) (λ n k. e n (stands_there q n h j k))
