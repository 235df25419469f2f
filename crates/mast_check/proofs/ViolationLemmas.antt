-- The queries of a violation list are in range, and the places of their tests are places of their answers.
use Rattle.std.proofs.Common.{ℕ, suc, ◌+◌, List, [], ◌∷◌, ◌++◌, length, map, inl, inr, sym, subst, arith}
use Rattle.std.specs.List.{AllByRecursion}
use Rattle.mast_terms.specs.declared.name.Name.{Name}
use Rattle.mast_terms.specs.declared.value.Kind.{Kind}
use Rattle.mast_terms.specs.Vocabularies.{Lists}
use Rattle.mast_tree.specs.declared.document.DocName.{DocName}
use Rattle.mast_tree.specs.declared.document.DocName.TheVariants as doc
use Rattle.mast_cq.specs.declared.atom.Arg.{Arg}
use Rattle.mast_cq.specs.declared.atom.Arg.TheVariants.{Blank, Var, Constant}
use Rattle.mast_cq.specs.declared.atom.Atom.{Atom}
use Rattle.mast_cq.specs.declared.atom.Atom.TheVariants.{Class, Role, Attr}
use Rattle.mast_cq.specs.NormalForms.{Occurs}
use Rattle.mast_cq.specs.Queries.{In}
use Rattle.mast_cq.specs.UnifierMeanings.{IsBelow, KnownArg, KnownAtom}
use Rattle.mast_cq.proofs.ListLemmas.{each_in, in_each, in_append, in_map, map_in}
use Rattle.mast_tbox.specs.declared.axiom.Inclusion.{Inclusion}
use Rattle.mast_tbox.specs.declared.axiom.Inclusion.TheVariants.{Class as IClass, Exists, HasValue, Role as IRole, Attr as IAttr, Range}
use Rattle.mast_tbox.specs.declared.axiom.Lined.{Lined}
use Rattle.mast_tbox.specs.declared.axiom.Negative.{Negative}
use Rattle.mast_tbox.specs.declared.axiom.Negative.TheVariants.{Concepts, Roles, Attrs, Irreflexive}
use Rattle.mast_tbox.specs.declared.constraint.Constraint.{Constraint}
use Rattle.mast_tbox.specs.declared.constraint.Constraint.TheVariants.{Functional, Identify, Deny}
use Rattle.mast_tbox.specs.declared.constraint.Step.{Step}
use Rattle.mast_tbox.specs.declared.constraint.Step.TheVariants.{Role as SRole, Test, Attr as SAttr}
use Rattle.mast_tbox.specs.declared.expression.Basic.{Basic}
use Rattle.mast_tbox.specs.declared.expression.Basic.TheVariants.{Class as BClass, Some as BSome, Subjects}
use Rattle.mast_tbox.specs.declared.expression.Prop.{Prop}
use Rattle.mast_tbox.specs.declared.expression.Prop.TheVariants.{Role as PRole, Attr as PAttr}
use Rattle.mast_tbox.specs.declared.expression.RoleExpr.TheVariants.{Direct, Inverse}
use Rattle.mast_tbox.specs.Expressions.{pair, at}
use Rattle.mast_tbox.specs.Lists.{items}
use Rattle.mast_tbox.specs.Restrictions.{along}
use Rattle.mast_tbox.specs.Vocabularies.{ConstantsStandIn}
use Rattle.mast_canon.specs.Theories.{Theory}
use Rattle.mast_canon.proofs.OverLemmas.{each_append}
use Rattle.mast_join.specs.Answers.{IsAnswerArg, IsAsked}
use Rattle.mast_violate.specs.declared.violation.Violation.{Violation}
use Rattle.mast_violate.specs.Breaches.{violations_of}
use Rattle.mast_violate.specs.Patterns.{subject, filler, negative_pattern, leads_to, walk, end_of, both_walks, all_walks, two_fillers}
use Rattle.mast_violate.specs.ViolationLists.{of_negative, of_value, of_ranges, clashes, of_inclusion, of_inclusions, of_functional, of_assertion, by_constraint, of_constraint}
use Rattle.mast_violate.proofs.ListLemmas.{of_some_line}
use Rattle.mast_check.specs.DecidedLaws.{IsProper}
use Rattle.mast_check.proofs.AskedLemmas.{occurs_at}
use Rattle.mast_check.proofs.CandidateLemmas.{HasVar, IsPlain}
use Rattle.mast_check.proofs.CandidateLemmas.{IsAsked as IsVarOf}
use Rattle.mast_check.proofs.JudgeLemmas.{IsTestIn}
use Rattle.mast_check.proofs.PlainLemmas.{plain}

module _ (theory : Theory) (P : Violation → Type 0) (negative : (l : Lined Negative) → P (of_negative l)) (value : (line : ℕ) (u : Name) (kind : Kind) → P (of_value line u kind))
    (ranges : (line : ℕ) (u v : Name) → P (of_ranges line u v)) (functional : (document : DocName) (line : ℕ) (p : Prop) → P (of_functional document line p))
    (constraint : (l : Lined Constraint) → In l theory.constraints → P (of_constraint l)) where
  of_line : (before : List Inclusion) (line : ℕ) (i : Inclusion) (v : Violation) → In v (of_inclusion before line i) → P v
  of_line before line (IClass b a) v h = absurd h
  of_line before line (Exists b r end k) v h = absurd h
  of_line before line (HasValue b u k) v h = absurd h
  of_line before line (IRole r s) v h = absurd h
  of_line before line (IAttr u w) v h = absurd h
  of_line before line (Range u kind) v (inl e) = subst P (sym e) (value line u kind)
  of_line before line (Range u kind) v (inr m) = let w = in_map (of_ranges line u) v (clashes kind before) m in subst P (sym w.is) (ranges line u w.from)

  -- what each kind of violation has, each violation of the list has
  pub each_violation : (v : Violation) → In v (violations_of theory) → P v
  each_violation v i =
      elim (in_append v (map of_negative theory.negatives) (of_inclusions [] theory.inclusions ++ (map of_assertion theory.functional ++ map of_constraint theory.constraints)) i) [
        | inl a ↦ (let w = in_map of_negative v theory.negatives a in subst P (sym w.is) (negative w.from))
        | inr b ↦ elim (in_append v (of_inclusions [] theory.inclusions) (map of_assertion theory.functional ++ map of_constraint theory.constraints) b) [
          | inl c ↦ (let w = of_some_line [] theory.inclusions v c in of_line (items w.first) w.line.line w.line.item v w.stands)
          | inr d ↦ elim (in_append v (map of_assertion theory.functional) (map of_constraint theory.constraints) d) [
            | inl e ↦ (let w = in_map of_assertion v theory.functional e in subst P (sym w.is) (functional doc.Ontology w.from.line w.from.item))
            | inr f ↦ (let w = in_map of_constraint v theory.constraints f in subst P (sym w.is) (constraint w.from w.among))
          ]
        ]
      ]

-- patterns have no constants
module _ (K : ℕ → Type 0) where
  pair_free : (p : Prop) (x y : Arg) → KnownArg K x → KnownArg K y → KnownAtom K (pair p x y)
  pair_free (PRole (Direct p)) x y h k = (h, k)
  pair_free (PRole (Inverse p)) x y h k = (k, h)
  pair_free (PAttr u) x y h k = (h, k)

  at_free : (b : Basic) (n : ℕ) → KnownAtom K (at b (Var n))
  at_free (BClass a) n = tt
  at_free (BSome r) n = pair_free (PRole r) (Var n) Blank tt tt
  at_free (Subjects u) n = (tt, tt)

  subject_free : (p : Prop) → KnownArg K (subject p)
  subject_free (PRole (Direct p)) = tt
  subject_free (PRole (Inverse p)) = tt
  subject_free (PAttr u) = tt

  filler_free : (p : Prop) → KnownArg K (filler p)
  filler_free (PRole (Direct p)) = tt
  filler_free (PRole (Inverse p)) = tt
  filler_free (PAttr u) = tt

  negative_free : (n : Negative) → AllByRecursion (KnownAtom K) (negative_pattern n)
  negative_free (Concepts b c) = (at_free b 0, (at_free c 0, tt))
  negative_free (Roles r s) =
      let x = subject (PRole r) in
      let y = filler (PRole r) in
      let h = subject_free (PRole r) in
      let k = filler_free (PRole r) in
      (pair_free (PRole r) x y h k, (pair_free (PRole s) x y h k, tt))
  negative_free (Attrs u v) = ((tt, tt), ((tt, tt), tt))
  negative_free (Irreflexive p) = ((tt, tt), tt)

  fillers_free : (p : Prop) → AllByRecursion (KnownAtom K) (two_fillers p)
  fillers_free p = (pair_free p (subject p) (filler p) (subject_free p) (filler_free p), (pair_free p (subject p) (Var 2) (subject_free p) tt, tt))

  walk_free : (path : List Step) (from new end : ℕ) → AllByRecursion (KnownAtom K) (walk from new end path)
  walk_free [] from new end = tt
  walk_free (SRole r ∷ path) from new end =
      let to = leads_to (SRole r) (length (along path)) from new end in (pair_free (PRole r) (Var from) (Var to) tt tt, walk_free path to (suc new) end)
  walk_free (Test a ∷ path) from new end = (tt, walk_free path from new end)
  walk_free (SAttr u ∷ path) from new end = ((tt, tt), walk_free path (leads_to (SAttr u) (length (along path)) from new end) (suc new) end)

  walks_free : (paths : List (List Step)) (new : ℕ) → AllByRecursion (KnownAtom K) (all_walks new paths)
  walks_free [] new = tt
  walks_free (path ∷ paths) new =
      let n = length (along path) in
      let e = end_of new n in
      let next = end_of (new + n) n in
      each_append (KnownAtom K) (both_walks new n path) (all_walks next paths)
      (each_append (KnownAtom K) (walk 0 new e path) (walk 1 (new + n) e path) (walk_free path 0 new e) (walk_free path 1 (new + n) e))
      (walks_free paths next)

-- the constants of the query are below the bound, and the places of the test are places of the answer list
record IsBounded (bound : ℕ) (v : Violation) : Type 0 where
  atoms : AllByRecursion (KnownAtom (IsBelow bound)) v.query.atoms
  test : IsTestIn (length v.query.answer) v.test

functional_bounded : (bound : ℕ) (document : DocName) (line : ℕ) (p : Prop) → IsBounded bound (of_functional document line p)
functional_bounded bound document line p = record { atoms = fillers_free (IsBelow bound) p; test = (omega arith, omega arith) }

constraint_bounded : (lists : Lists) (line : ℕ) (c : Constraint) → ConstantsStandIn lists c → IsBounded (length lists.constants) (by_constraint line c)
constraint_bounded lists line (Functional p) h = functional_bounded (length lists.constants) doc.Constraints line p
constraint_bounded lists line (Identify concept paths) h =
    let K = IsBelow (length lists.constants) in
    record { atoms = (at_free K concept 0, (at_free K concept 1, walks_free K paths 2)); test = (omega arith, omega arith) }
constraint_bounded lists line (Deny atoms) h = record { atoms = h; test = tt }

bounded : (theory : Theory) (lists : Lists) → AllByRecursion (ConstantsStandIn lists) (items theory.constraints) → (v : Violation) → In v (violations_of theory) → IsBounded (length lists.constants) v
bounded theory lists all =
    let bound = length lists.constants in
    each_violation theory (IsBounded bound)
    (λ l. record { atoms = negative_free (IsBelow bound) l.item; test = tt })
    (λ line u kind. record { atoms = ((tt, tt), tt); test = omega arith })
    (λ line u v. record { atoms = ((tt, tt), ((tt, tt), tt)); test = tt })
    (λ document line p. functional_bounded bound document line p)
    (λ l i. constraint_bounded lists l.line l.item (each_in (ConstantsStandIn lists) l.item (items theory.constraints) all (map_in (λ (m : Lined Constraint). m.item) l theory.constraints i)))

-- what a check asks of a violation
pub record IsCheckable (bound : ℕ) (v : Violation) : Type 0 where
  pub plain : IsPlain v.query
  pub asked : IsAsked bound v.query
  pub test : IsTestIn (length v.query.answer) v.test

has_occurs : (n : ℕ) (g : Atom) → HasVar n g → Occurs n g
has_occurs n (Class a x) h = h
has_occurs n (Role a x y) h = h
has_occurs n (Attr a x y) h = h

answer_arg : (bound : ℕ) (atoms : List Atom) (x : Arg) → IsVarOf atoms x → IsAnswerArg bound atoms x
answer_arg bound atoms Blank a = a
answer_arg bound atoms (Var n) a = occurs_at n a.0 atoms a.1.0 (has_occurs n a.0 a.1.1)
answer_arg bound atoms (Constant c) a = absurd a

-- each violation of a list has it
pub checkable : (theory : Theory) (lists : Lists) → IsProper theory → AllByRecursion (ConstantsStandIn lists) (items theory.constraints) → (v : Violation) → In v (violations_of theory)
    → IsCheckable (length lists.constants) v
checkable theory lists proper all v i =
    let bound = length lists.constants in
    let p = plain theory proper v i in
    let b = bounded theory lists all v i in
    record {
      plain = p;
      asked = record { atoms = b.atoms; answer = in_each (IsAnswerArg bound v.query.atoms) v.query.answer (λ x j. answer_arg bound v.query.atoms x (each_in (IsVarOf v.query.atoms) x v.query.answer p.asked j)) };
      test = b.test;
    }
