-- Each argument of a violation's pattern has one sort.
use Rattle.std.proofs.Common.{◌≡◌, ℕ, zero, suc, ◌+◌, ◌<◌, ◌≤◌, Bool, true, false, List, [], ◌∷◌, length, inl, inr, refl, sym, ◌∙◌, subst, arith}
use Rattle.std.proofs.lemmas.Bool.{false≢true}
use Rattle.std.specs.List.{AllByRecursion}
use Rattle.mast_cq.specs.declared.atom.Arg.{Arg}
use Rattle.mast_cq.specs.declared.atom.Arg.TheVariants.{Blank, Var, Constant}
use Rattle.mast_cq.specs.declared.atom.Atom.{Atom}
use Rattle.mast_cq.specs.declared.atom.Atom.TheVariants.{Class, Role, Attr}
use Rattle.mast_cq.specs.Queries.{In}
use Rattle.mast_cq.specs.Sorts.{objects_of, values_of, of_all, Clashes, EachHasOneSort}
use Rattle.mast_cq.proofs.ListLemmas.{in_append}
use Rattle.mast_tbox.specs.declared.constraint.Step.{Step}
use Rattle.mast_tbox.specs.declared.constraint.Step.TheVariants.{Role as SRole, Test, Attr as SAttr}
use Rattle.mast_tbox.specs.declared.expression.Basic.{Basic}
use Rattle.mast_tbox.specs.declared.expression.Basic.TheVariants.{Class as BClass, Some as BSome, Subjects}
use Rattle.mast_tbox.specs.declared.expression.RoleExpr.{RoleExpr}
use Rattle.mast_tbox.specs.declared.expression.RoleExpr.TheVariants.{Direct, Inverse}
use Rattle.mast_tbox.specs.declared.expression.Prop.TheVariants.{Role as PRole}
use Rattle.mast_tbox.specs.ConstraintForms.{IsAttributeLast, HasPathForm}
use Rattle.mast_tbox.specs.Expressions.{pair, at}
use Rattle.mast_tbox.specs.Restrictions.{along}
use Rattle.mast_canon.proofs.OverLemmas.{each_append}
use Rattle.mast_violate.specs.Patterns.{new_or_end, walk, end_of, both_walks, all_walks, identified_pattern}
use Rattle.mast_violate.proofs.WalkLemmas.{put, put_here, put_else}

module _ (sort : ℕ → Bool) where
  -- the argument has the sort, true for values
  abbrev pub HasSort : Bool → Arg → Type 0
  HasSort wanted Blank = Unit {0}
  HasSort wanted (Var n) = sort n ≡ wanted
  HasSort wanted (Constant c) = ⊥

  -- so have the arguments of the atom
  abbrev pub IsSortedBy : Atom → Type 0
  IsSortedBy (Class a x) = HasSort false x
  IsSortedBy (Role a x y) = HasSort false x × HasSort false y
  IsSortedBy (Attr a x y) = HasSort false x × HasSort true y

  in_objects : (g : Atom) → IsSortedBy g → (x : Arg) → In x (objects_of g) → HasSort false x
  in_objects (Class a y) h x (inl e) = subst (HasSort false) (sym e) h
  in_objects (Class a y) h x (inr i) = absurd i
  in_objects (Role a y z) h x (inl e) = subst (HasSort false) (sym e) h.0
  in_objects (Role a y z) h x (inr (inl e)) = subst (HasSort false) (sym e) h.1
  in_objects (Role a y z) h x (inr (inr i)) = absurd i
  in_objects (Attr a y z) h x (inl e) = subst (HasSort false) (sym e) h.0
  in_objects (Attr a y z) h x (inr i) = absurd i

  in_values : (g : Atom) → IsSortedBy g → (x : Arg) → In x (values_of g) → HasSort true x
  in_values (Class a y) h x i = absurd i
  in_values (Role a y z) h x i = absurd i
  in_values (Attr a y z) h x (inl e) = subst (HasSort true) (sym e) h.1
  in_values (Attr a y z) h x (inr i) = absurd i

  all_objects : (gs : List Atom) → AllByRecursion IsSortedBy gs → (x : Arg) → In x (of_all objects_of gs) → HasSort false x
  all_objects [] h x i = absurd i
  all_objects (g ∷ gs) h x i = elim (in_append x (objects_of g) (of_all objects_of gs) i) [ inl a ↦ in_objects g h.0 x a | inr b ↦ all_objects gs h.1 x b ]

  all_values : (gs : List Atom) → AllByRecursion IsSortedBy gs → (x : Arg) → In x (of_all values_of gs) → HasSort true x
  all_values [] h x i = absurd i
  all_values (g ∷ gs) h x i = elim (in_append x (values_of g) (of_all values_of gs) i) [ inl a ↦ in_values g h.0 x a | inr b ↦ all_values gs h.1 x b ]

  no_clash : (gs : List Atom) → AllByRecursion IsSortedBy gs → (x : Arg) → Clashes gs x → ⊥
  no_clash gs h Blank c = c
  no_clash gs h (Var n) c = false≢true (sym (all_objects gs h (Var n) c.0) ∙ all_values gs h (Var n) c.1)
  no_clash gs h (Constant k) c = all_objects gs h (Constant k) c

  -- atoms that are sorted so have one sort for each argument
  pub one_sort : (gs : List Atom) → AllByRecursion IsSortedBy gs → EachHasOneSort gs
  one_sort gs h x i c = no_clash gs h x c

  pub role_sorted : (r : RoleExpr) (x y : Arg) → HasSort false x → HasSort false y → IsSortedBy (pair (PRole r) x y)
  role_sorted (Direct p) x y h k = (h, k)
  role_sorted (Inverse p) x y h k = (k, h)

  pub at_sorted : (b : Basic) (n : ℕ) → sort n ≡ false → IsSortedBy (at b (Var n))
  at_sorted (BClass a) n e = e
  at_sorted (BSome (Direct p)) n e = (e, tt)
  at_sorted (BSome (Inverse p)) n e = (tt, e)
  at_sorted (Subjects u) n e = (e, tt)

-- whether a path ends in a value
abbrev ends_in_value : Bool → List Step → Bool
ends_in_value b [] = b
ends_in_value b (SRole r ∷ path) = ends_in_value false path
ends_in_value b (Test a ∷ path) = ends_in_value b path
ends_in_value b (SAttr u ∷ path) = ends_in_value true path

tests_end : (b : Bool) (path : List Step) → length (along path) ≡ 0 → ends_in_value b path ≡ b
tests_end b [] e = refl
tests_end b (SRole r ∷ path) e = absurd (omega (arith, e))
tests_end b (Test a ∷ path) e = tests_end b path e
tests_end b (SAttr u ∷ path) e = absurd (omega (arith, e))

module _ (sort : ℕ → Bool) where
  -- what a role leads to is an object
  to_sorted : (path : List Step) (n new end : ℕ) → length (along path) ≡ n → ((v : ℕ) → new ≤ v → suc v < new + suc n → sort v ≡ false) → sort end ≡ ends_in_value false path
      → sort (new_or_end n new end) ≡ false
  to_sorted path zero new end i between e = e ∙ tests_end false path i
  to_sorted path (suc n) new end i between e = between new (omega arith) (omega arith)

  -- the walk of a path is sorted, where its first variable and those between are objects, and the end is what the path ends in
  walk_sorted : (path : List Step) (b : Bool) (from new end : ℕ) → IsAttributeLast path → sort from ≡ false → ((v : ℕ) → new ≤ v → suc v < new + length (along path) → sort v ≡ false)
      → sort end ≡ ends_in_value b path → AllByRecursion (IsSortedBy sort) (walk from new end path)
  walk_sorted [] b from new end last f between e = tt
  walk_sorted (SRole r ∷ path) b from new end last f between e =
      let n = length (along path) in
      let to = new_or_end n new end in
      let there = to_sorted path n new end refl (λ v l m. between v l (omega (arith, m))) e in
      (role_sorted sort r (Var from) (Var to) f there, walk_sorted path false to (suc new) end last there (λ v l m. between v (omega (arith, l)) (omega (arith, m))) e)
  walk_sorted (Test a ∷ path) b from new end last f between e = (f, walk_sorted path b from new end last f between e)
  walk_sorted (SAttr u ∷ []) b from new end last f between e = ((f, e), tt)
  walk_sorted (SAttr u ∷ (step ∷ path)) b from new end last f between e = absurd last

-- sorts that agree with some below a variable, and sort the atoms
record AreSorted (sort : ℕ → Bool) (new : ℕ) (gs : List Atom) : Type 0 where
  by : ℕ → Bool
  same : (v : ℕ) → v < new → by v ≡ sort v
  sorted : AllByRecursion (IsSortedBy by) gs

walks_sorted : (paths : List (List Step)) (new : ℕ) (sort : ℕ → Bool) → AllByRecursion HasPathForm paths → 2 ≤ new
    → sort 0 ≡ false → sort 1 ≡ false → ((v : ℕ) → new ≤ v → sort v ≡ false) → AreSorted sort new (all_walks new paths)
walks_sorted [] new sort formed high first second rest = record { by = sort; same = λ v l. refl; sorted = tt }
walks_sorted (path ∷ paths) new sort formed high first second rest =
    let n = length (along path) in
    let long = formed.0.long in
    let last = formed.0.last in
    let e = end_of new n in
    let next = end_of (new + n) n in
    let b = ends_in_value false path in
    let changed = put e b sort in
    let else = λ (v : ℕ) (d : e ≡ v → ⊥). put_else e b sort v d in
    let w = walks_sorted paths next changed formed.1 (omega (arith, high, long))
    (else 0 (λ i. omega (arith, i, high, long)) ∙ first) (else 1 (λ i. omega (arith, i, high, long)) ∙ second)
    (λ v l. else v (λ i. omega (arith, i, l, long)) ∙ rest v (omega (arith, l, long))) in
    let at_first = w.same 0 (omega (arith, high, long)) ∙ (else 0 (λ i. omega (arith, i, high, long)) ∙ first) in
    let at_second = w.same 1 (omega (arith, high, long)) ∙ (else 1 (λ i. omega (arith, i, high, long)) ∙ second) in
    let at_end = w.same e (omega (arith, long)) ∙ put_here e b sort in
    record {
      by = w.by;
      same = λ v l. w.same v (omega (arith, l, long)) ∙ else v (λ i. omega (arith, i, l, long));
      sorted = each_append (IsSortedBy w.by) (both_walks new n path) (all_walks next paths)
          (each_append (IsSortedBy w.by) (walk 0 new e path) (walk 1 (new + n) e path)
          (walk_sorted w.by path false 0 new e last at_first
          (λ v l m. w.same v (omega (arith, m, long)) ∙ (else v (λ i. omega (arith, i, m, long)) ∙ rest v l)) at_end)
          (walk_sorted w.by path false 1 (new + n) e last at_second
          (λ v l m. w.same v (omega (arith, m, long)) ∙ (else v (λ i. omega (arith, i, l, long)) ∙ rest v (omega (arith, l)))) at_end))
          w.sorted;
    }

-- the pattern of an identification is sorted
pub identified_sorts : (concept : Basic) (paths : List (List Step)) → AllByRecursion HasPathForm paths → EachHasOneSort (identified_pattern concept paths)
identified_sorts concept paths formed =
    let w = walks_sorted paths 2 (λ (n : ℕ). false) formed (omega arith) refl refl (λ v l. refl) in
    one_sort w.by (identified_pattern concept paths) (
      at_sorted w.by concept 0 (w.same 0 (omega arith)),
      (at_sorted w.by concept 1 (w.same 1 (omega arith)), w.sorted),
    )
