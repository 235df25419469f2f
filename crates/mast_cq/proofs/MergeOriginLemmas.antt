-- The arguments of a merge come from the query.
use Rattle.std.proofs.Common.{◌≡◌, ℕ, suc, ◌<◌, List, [], ◌∷◌, ◌++◌, length, map, Some, ◌⊎◌, inl, inr, sym, refl, ap, subst, arith}
use Rattle.std.specs.List.{AllByRecursion}
use Rattle.mast_terms.specs.declared.name.NameKind.{NameKind}
use Rattle.mast_cq.specs.declared.atom.Arg.{Arg}
use Rattle.mast_cq.specs.declared.atom.Arg.TheVariants.{Blank, Var, Constant}
use Rattle.mast_cq.specs.declared.atom.Atom.{Atom}
use Rattle.mast_cq.specs.declared.atom.Atom.TheVariants.{Class, Role, Attr}
use Rattle.mast_cq.specs.declared.query.Cq.{Cq}
use Rattle.mast_cq.specs.Origins.{AreFrom, AtomDrawsFrom, DrawsFrom, IsMerge, KnownQuery, Named}
use Rattle.mast_cq.specs.Queries.{In, TakesTwo}
use Rattle.mast_cq.specs.Sorts.{objects_of, values_of, arguments_of, of_all, EachHasOneSort}
use Rattle.mast_cq.specs.Steps.{merged}
use Rattle.mast_cq.specs.Unification.{Replacement, replace_arg, replace, Meeting, meeting}
use Rattle.mast_cq.specs.UnifierMeanings.{IsBelow, KnownArg, KnownAtom}
use Rattle.mast_cq.proofs.ListLemmas.{each_map, each_in, in_each, in_append, append_left, append_right, in_map, map_length}
use Rattle.mast_cq.proofs.MadeLemmas.{class_made, role_made, attr_made}
use Rattle.mast_cq.proofs.OriginLemmas.{of_all_out, of_all_in, each_from, object_argument, clash_argument, draws_sorts}
use Rattle.mast_cq.proofs.TakesLemmas.{at_places, two_length, two_out}
use Rattle.mast_cq.proofs.MeetingOriginLemmas.{Among, Keeps, among_replaced, single, pair, none, head, second, Sorted, Kept, Stays, no_meeting, kept, stays, stays_within}

-- the arguments of an atom after a replacement that keeps the list
arguments_replaced : (xs : List Arg) (r : Replacement) (g : Atom) → Keeps xs r → AreFrom (arguments_of g) xs → AreFrom (arguments_of (replace r g)) xs
arguments_replaced xs r (Class a x) k p = single xs (replace_arg r x) (among_replaced xs r x k (head xs x [] p))
arguments_replaced xs r (Role a x y) k p = pair xs (replace_arg r x) (replace_arg r y) (among_replaced xs r x k (head xs x (y ∷ []) p)) (among_replaced xs r y k (second xs x y [] p))
arguments_replaced xs r (Attr a x y) k p = pair xs (replace_arg r x) (replace_arg r y) (among_replaced xs r x k (head xs x (y ∷ []) p)) (among_replaced xs r y k (second xs x y [] p))

sorted_replaced : (os vs : List Arg) (r : Replacement) (g : Atom) → Keeps os r → Keeps vs r → Sorted os vs g → Sorted os vs (replace r g)
sorted_replaced os vs r (Class a x) k l s = record { objects = single os (replace_arg r x) (among_replaced os r x k (head os x [] s.objects)); values = none vs }
sorted_replaced os vs r (Role a x y) k l s =
    record { objects = pair os (replace_arg r x) (replace_arg r y) (among_replaced os r x k (head os x (y ∷ []) s.objects)) (among_replaced os r y k (second os x y [] s.objects)); values = none vs }
sorted_replaced os vs r (Attr a x y) k l s =
    record { objects = single os (replace_arg r x) (among_replaced os r x k (head os x [] s.objects)); values = single vs (replace_arg r y) (among_replaced vs r y l (head vs y [] s.values)) }

-- arguments from a list that come from a second come from the second
pub are_trans : (xs ys zs : List Arg) → AreFrom xs ys → AreFrom ys zs → AreFrom xs zs
are_trans xs ys zs p q x i = elim (p x i) [ inl b ↦ inl b | inr j ↦ q x j ]

-- an argument stands in an object place or in a value place
argument_sort : (x : Arg) (g : Atom) → In x (arguments_of g) → In x (objects_of g) ⊎ In x (values_of g)
argument_sort x (Class a y) i = inl i
argument_sort x (Role a y z) i = inl i
argument_sort x (Attr a y z) (inl e) = inl (inl e)
argument_sort x (Attr a y z) (inr i) = inr i

value_argument : (x : Arg) (g : Atom) → In x (values_of g) → In x (arguments_of g)
value_argument x (Class a y) i = absurd i
value_argument x (Role a y z) i = absurd i
value_argument x (Attr a y z) i = inr i

atom_arguments : (g h : Atom) → AtomDrawsFrom g h → AreFrom (arguments_of g) (arguments_of h)
atom_arguments g h d x i = elim (argument_sort x g i) [
  | inl j ↦ elim (d.objects x j) [ inl b ↦ inl b | inr k ↦ inr (object_argument x h k) ]
  | inr j ↦ elim (d.values x j) [ inl b ↦ inl b | inr k ↦ inr (value_argument x h k) ]
]

module _ (q r : Cq) (merge : IsMerge q r) where
  taken : TakesTwo q.atoms merge.g merge.h merge.others
  taken = at_places q.atoms merge.g merge.h merge.others merge.two

  -- a merge has fewer atoms
  pub merge_fewer : length r.atoms < length q.atoms
  merge_fewer =
      let a = two_length taken in
      let b = map_length (replace merge.by.replacement) merge.others in
      let c : length r.atoms ≡ suc (length (map (replace merge.by.replacement) merge.others)) = ap (λ k. length k.atoms) merge.gives in
      omega arith

  all : List Arg
  all = of_all arguments_of q.atoms

  abbrev FromAll : Atom → Type 0
  FromAll a = AreFrom (arguments_of a) all

  each_argument : AllByRecursion FromAll q.atoms
  unfolding all
  each_argument = in_each FromAll q.atoms (λ a i x j. inr (of_all_in arguments_of x a q.atoms i j))

  left_arguments : AreFrom (arguments_of merge.left) all
  left_arguments = are_trans (arguments_of merge.left) (arguments_of merge.g) all (atom_arguments merge.left merge.g merge.left_draws) (two_out FromAll taken each_argument).0

  right_arguments : AreFrom (arguments_of merge.right) all
  right_arguments = are_trans (arguments_of merge.right) (arguments_of merge.h) all (atom_arguments merge.right merge.h merge.right_draws) (two_out FromAll taken each_argument).1

  met_arguments : Stays all merge.by
  met_arguments = stays q.answer all merge.left merge.right merge.by left_arguments right_arguments merge.meets

  merged_argument : (a : Atom) → In a (merged q merge.by merge.others).atoms → AreFrom (arguments_of a) all
  merged_argument a (inl e) = subst (λ b. AreFrom (arguments_of b) all) (sym e) met_arguments.atom
  merged_argument a (inr i) =
      let w = in_map (replace merge.by.replacement) a merge.others i in
      subst (λ b. AreFrom (arguments_of b) all) (sym w.is)
      (arguments_replaced all merge.by.replacement w.from met_arguments.keeps (each_in FromAll w.from merge.others (two_out FromAll taken each_argument).2 w.among))

  -- the arguments of its atoms come from those of the query's atoms
  pub merge_arguments : AreFrom (of_all arguments_of r.atoms) (of_all arguments_of q.atoms)
  unfolding all
  merge_arguments = subst (λ c. AreFrom (of_all arguments_of c.atoms) (of_all arguments_of q.atoms)) (sym merge.gives)
      (each_from arguments_of (of_all arguments_of q.atoms) (merged q merge.by merge.others).atoms merged_argument)

  answer_from : (a : Arg) → In a q.answer → Among (q.answer ++ all) (replace_arg merge.by.replacement a)
  answer_from Blank i = inl refl
  answer_from (Constant c) i = inr (append_left (Constant c) q.answer all i)
  answer_from (Var n) i = elim (stays_within q.answer merge.left merge.right merge.by merge.meets n) [
    | inl e ↦ inr (append_left (merge.by.replacement n) q.answer all (subst (λ v. In v q.answer) (sym e) i))
    | inr j ↦ met_arg (merge.by.replacement n) (elim (in_append (merge.by.replacement n) (arguments_of merge.left) (arguments_of merge.right) j) [
      | inl k ↦ left_arguments (merge.by.replacement n) k
      | inr k ↦ right_arguments (merge.by.replacement n) k
    ])
  ]
    where
      met_arg : (v : Arg) → Among all v → Among (q.answer ++ all) v
      met_arg v (inl b) = inl b
      met_arg v (inr k) = inr (append_right v q.answer all k)

  -- and those of its answer list from these and the answer list
  pub merge_answer : AreFrom r.answer (q.answer ++ of_all arguments_of q.atoms)
  unfolding all
  merge_answer = subst (λ c. AreFrom c.answer (q.answer ++ of_all arguments_of q.atoms)) (sym merge.gives)
      (λ x i. let w = in_map (replace_arg merge.by.replacement) x q.answer i in subst (Among (q.answer ++ of_all arguments_of q.atoms)) (sym w.is) (answer_from w.from w.among))

  os : List Arg
  os = of_all objects_of q.atoms

  vs : List Arg
  vs = of_all values_of q.atoms

  each_sorted : AllByRecursion (Sorted os vs) q.atoms
  unfolding os vs
  each_sorted = in_each (Sorted os vs) q.atoms (λ a i. record { objects = λ x j. inr (of_all_in objects_of x a q.atoms i j); values = λ x j. inr (of_all_in values_of x a q.atoms i j) })

  drawn : (g h : Atom) → AtomDrawsFrom g h → Sorted os vs h → Sorted os vs g
  drawn g h d s = record { objects = are_trans (objects_of g) (objects_of h) os d.objects s.objects; values = are_trans (values_of g) (values_of h) vs d.values s.values }

  module _ (one : EachHasOneSort q.atoms) where
    apart_sorts : (n : ℕ) → In (Var n) os → In (Var n) vs → ⊥
    unfolding os vs
    apart_sorts n i j = one (Var n) (clash_argument q.atoms (Var n) (i, j)) (i, j)

    met_kept : Kept os vs merge.by
    met_kept = kept q.answer os vs apart_sorts merge.left merge.right merge.by (drawn merge.left merge.g merge.left_draws (two_out (Sorted os vs) taken each_sorted).0) (drawn merge.right merge.h merge.right_draws (two_out (Sorted os vs) taken each_sorted).1) merge.meets

    merged_sorted : (a : Atom) → In a (merged q merge.by merge.others).atoms → Sorted os vs a
    merged_sorted a (inl e) = subst (Sorted os vs) (sym e) met_kept.atom
    merged_sorted a (inr i) =
        let w = in_map (replace merge.by.replacement) a merge.others i in
        subst (Sorted os vs) (sym w.is) (sorted_replaced os vs merge.by.replacement w.from met_kept.keeps_objects met_kept.keeps_values (each_in (Sorted os vs) w.from merge.others (two_out (Sorted os vs) taken each_sorted).2 w.among))

    -- where each argument has one sort they come from places of the same sort
    pub merge_draws : DrawsFrom r.atoms q.atoms
    unfolding os vs
    merge_draws = subst (λ c. DrawsFrom c.atoms q.atoms) (sym merge.gives) (record {
      objects = each_from objects_of (of_all objects_of q.atoms) (merged q merge.by merge.others).atoms (λ a i. (merged_sorted a i).objects);
      values = each_from values_of (of_all values_of q.atoms) (merged q merge.by merge.others).atoms (λ a i. (merged_sorted a i).values);
    })

    -- and each still has one
    pub merge_sorts : EachHasOneSort r.atoms
    merge_sorts = draws_sorts r.atoms q.atoms merge_draws one

arg_known : (P : ℕ → Type 0) (x : Arg) → ((c : ℕ) → Constant c ≡ x → P c) → KnownArg P x
arg_known P Blank k = tt
arg_known P (Var n) k = tt
arg_known P (Constant c) k = k c refl

atom_known : (P : ℕ → Type 0) (g : Atom) → ((c : ℕ) → In (Constant c) (arguments_of g) → P c) → KnownAtom P g
atom_known P (Class a x) k = arg_known P x (λ c e. k c (inl e))
atom_known P (Role a x y) k = (arg_known P x (λ c e. k c (inl e)), arg_known P y (λ c e. k c (inr (inl e))))
atom_known P (Attr a x y) k = (arg_known P x (λ c e. k c (inl e)), arg_known P y (λ c e. k c (inr (inl e))))

known_atom : (P : ℕ → Type 0) (c : ℕ) (g : Atom) → KnownAtom P g → In (Constant c) (arguments_of g) → P c
known_atom P c (Class a x) k (inl e) = subst (KnownArg P) (sym e) k
known_atom P c (Class a x) k (inr i) = absurd i
known_atom P c (Role a x y) k (inl e) = subst (KnownArg P) (sym e) k.0
known_atom P c (Role a x y) k (inr (inl e)) = subst (KnownArg P) (sym e) k.1
known_atom P c (Role a x y) k (inr (inr i)) = absurd i
known_atom P c (Attr a x y) k (inl e) = subst (KnownArg P) (sym e) k.0
known_atom P c (Attr a x y) k (inr (inl e)) = subst (KnownArg P) (sym e) k.1
known_atom P c (Attr a x y) k (inr (inr i)) = absurd i

known_all : (P : ℕ → Type 0) (c : ℕ) (gs : List Atom) → AllByRecursion (KnownAtom P) gs → In (Constant c) (of_all arguments_of gs) → P c
known_all P c gs all i = let w = of_all_out arguments_of (Constant c) gs i in known_atom P c w.atom (each_in (KnownAtom P) w.atom gs all w.among) w.stands

known_list : (P : ℕ → Type 0) (c : ℕ) (xs : List Arg) → AllByRecursion (KnownArg P) xs → In (Constant c) xs → P c
known_list P c xs all i = each_in (KnownArg P) (Constant c) xs all i

proper : (c : ℕ) (ys : List Arg) → Among ys (Constant c) → In (Constant c) ys
proper c ys (inl e) = absurd (cc)
proper c ys (inr i) = i

-- a merge keeps known constants known
pub merge_known : (bound : ℕ) (q r : Cq) → IsMerge q r → KnownQuery bound q → KnownQuery bound r
merge_known bound q r merge k = record {
  answer = in_each (KnownArg (IsBelow bound)) r.answer (λ x i. arg_known (IsBelow bound) x (λ c e. of_both c (in_append (Constant c) q.answer (of_all arguments_of q.atoms)
      (proper c (q.answer ++ of_all arguments_of q.atoms) (merge_answer q r merge (Constant c) (subst (λ v. In v r.answer) (sym e) i))))));
  atoms = in_each (KnownAtom (IsBelow bound)) r.atoms (λ g i. atom_known (IsBelow bound) g (λ c j. known_all (IsBelow bound) c q.atoms k.atoms
      (proper c (of_all arguments_of q.atoms) (merge_arguments q r merge (Constant c) (of_all_in arguments_of (Constant c) g r.atoms i j)))));
}
  where
    of_both : (c : ℕ) → In (Constant c) q.answer ⊎ In (Constant c) (of_all arguments_of q.atoms) → IsBelow bound c
    of_both c (inl i) = known_list (IsBelow bound) c q.answer k.answer i
    of_both c (inr i) = known_all (IsBelow bound) c q.atoms k.atoms i

replaced_named : (P : NameKind → ℕ → Type 0) (r : Replacement) (g : Atom) → Named P g → Named P (replace r g)
replaced_named P r (Class a x) k = k
replaced_named P r (Role a x y) k = k
replaced_named P r (Attr a x y) k = k

met_named : (P : NameKind → ℕ → Type 0) (answer : List Arg) (g h : Atom) (m : Meeting) → meeting answer g h ≡ Some m → Named P g → Named P m.atom
met_named P answer (Class a x) (Class b z) m e k = subst (λ n. Named P n.atom) (class_made answer a b x z m e).is k
met_named P answer (Role a x y) (Role b z w) m e k = subst (λ n. Named P n.atom) (role_made answer a b x y z w m e).is k
met_named P answer (Attr a x y) (Attr b z w) m e k = subst (λ n. Named P n.atom) (attr_made answer a b x y z w m e).is k
met_named P answer (Class a x) (Role b z w) m e k = absurd (no_meeting m e)
met_named P answer (Class a x) (Attr b z w) m e k = absurd (no_meeting m e)
met_named P answer (Role a x y) (Class b z) m e k = absurd (no_meeting m e)
met_named P answer (Role a x y) (Attr b z w) m e k = absurd (no_meeting m e)
met_named P answer (Attr a x y) (Class b z) m e k = absurd (no_meeting m e)
met_named P answer (Attr a x y) (Role b z w) m e k = absurd (no_meeting m e)

-- what holds of the names of the query and of left holds of those of a merge
pub merge_names : (P : NameKind → ℕ → Type 0) (q r : Cq) (merge : IsMerge q r) → Named P merge.left → AllByRecursion (Named P) q.atoms → AllByRecursion (Named P) r.atoms
merge_names P q r merge left all = subst (λ c. AllByRecursion (Named P) c.atoms) (sym merge.gives) (
  met_named P q.answer merge.left merge.right merge.by merge.meets left,
  each_map (Named P) (Named P) (replace merge.by.replacement) (λ g k. replaced_named P merge.by.replacement g k) merge.others
      (two_out (Named P) (at_places q.atoms merge.g merge.h merge.others merge.two) all).2,
)
