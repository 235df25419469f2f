-- The queries of a violation list are plain: over names in range, with one sort for each argument, and answers that stand in atoms.
use Rattle.std.proofs.Common.{◌≡◌, ℕ, zero, suc, ◌+◌, Bool, true, false, List, [], ◌∷◌, ◌++◌, length, map, inl, inr, Contains, refl, sym, ap, ◌∙◌, subst}
use Rattle.std.specs.List.{AllByRecursion}
use Rattle.std.proofs.lemmas.List.Elements.{Contains-append_left}
use Rattle.mast_terms.specs.declared.name.Name.{Name}
use Rattle.mast_terms.specs.declared.name.NameKind.TheVariants as kinds
use Rattle.mast_terms.specs.declared.value.Kind.{Kind}
use Rattle.mast_tree.specs.declared.document.DocName.{DocName}
use Rattle.mast_tree.specs.declared.document.DocName.TheVariants as doc
use Rattle.mast_cq.specs.declared.atom.Arg.{Arg}
use Rattle.mast_cq.specs.declared.atom.Arg.TheVariants.{Blank, Var}
use Rattle.mast_cq.specs.declared.atom.Atom.{Atom}
use Rattle.mast_cq.specs.Origins.{Named}
use Rattle.mast_cq.specs.Queries.{In}
use Rattle.mast_cq.specs.Sorts.{EachHasOneSort}
use Rattle.mast_cq.proofs.ListLemmas.{each_in, in_append, in_map, map_in}
use Rattle.mast_tbox.specs.declared.axiom.Inclusion.{Inclusion}
use Rattle.mast_tbox.specs.declared.axiom.Inclusion.TheVariants.{Class as IClass, Exists, HasValue, Role as IRole, Attr as IAttr, Range}
use Rattle.mast_tbox.specs.declared.axiom.Lined.{Lined}
use Rattle.mast_tbox.specs.declared.axiom.Negative.{Negative}
use Rattle.mast_tbox.specs.declared.axiom.Negative.TheVariants.{Concepts, Roles, Attrs, Irreflexive}
use Rattle.mast_tbox.specs.declared.constraint.Constraint.{Constraint}
use Rattle.mast_tbox.specs.declared.constraint.Constraint.TheVariants.{Functional, Identify, Deny}
use Rattle.mast_tbox.specs.declared.constraint.Step.{Step}
use Rattle.mast_tbox.specs.declared.constraint.Step.TheVariants.{Role as SRole, Test, Attr as SAttr}
use Rattle.mast_tbox.specs.declared.expression.Basic.{Basic}
use Rattle.mast_tbox.specs.declared.expression.Basic.TheVariants.{Class as BClass, Some as BSome, Subjects}
use Rattle.mast_tbox.specs.declared.expression.Prop.{Prop}
use Rattle.mast_tbox.specs.declared.expression.Prop.TheVariants.{Role as PRole, Attr as PAttr}
use Rattle.mast_tbox.specs.declared.expression.RoleExpr.{RoleExpr}
use Rattle.mast_tbox.specs.declared.expression.RoleExpr.TheVariants.{Direct, Inverse}
use Rattle.mast_tbox.specs.ConstraintForms.{HasForm}
use Rattle.mast_tbox.specs.Expressions.{pair, at}
use Rattle.mast_tbox.specs.Lists.{items}
use Rattle.mast_tbox.specs.Names.{IsStatable, PropNamed, BasicNamed, NegativeNamed, StepNamed, ConstraintNamed}
use Rattle.mast_tbox.specs.Restrictions.{along}
use Rattle.mast_tbox.proofs.MemberLemmas.{front, later, map_in as item_in}
use Rattle.mast_canon.specs.Theories.{Theory, stated}
use Rattle.mast_canon.proofs.OverLemmas.{each_append}
use Rattle.mast_violate.specs.declared.violation.Violation.{Violation}
use Rattle.mast_violate.specs.Breaches.{violations_of}
use Rattle.mast_violate.specs.Patterns.{subject, filler, negative_pattern, value_pattern, shared_value, two_fillers, and_fillers, leads_to, walk, end_of, both_walks, all_walks}
use Rattle.mast_violate.specs.ViolationLists.{of_negative, of_value, of_ranges, clashes, of_inclusion, of_inclusions, of_functional, of_assertion, by_constraint, of_constraint}
use Rattle.mast_violate.proofs.ListLemmas.{clashes_are, of_some_line}
use Rattle.mast_check.specs.DecidedLaws.{IsProper}
use Rattle.mast_check.proofs.CandidateLemmas.{HasVar, IsAsked, IsPlain}
use Rattle.mast_check.proofs.SortLemmas.{HasSort, one_sort, role_sorted, at_sorted, identified_sorts}

-- names of patterns
abbrev IsKnown : Atom → Type 0
IsKnown = Named IsStatable

pair_known : (p : Prop) (x y : Arg) → PropNamed IsStatable p → IsKnown (pair p x y)
pair_known (PRole (Direct p)) x y h = h
pair_known (PRole (Inverse p)) x y h = h
pair_known (PAttr u) x y h = h

at_known : (b : Basic) (x : Arg) → BasicNamed IsStatable b → IsKnown (at b x)
at_known (BClass a) x h = h
at_known (BSome r) x h = pair_known (PRole r) x Blank h
at_known (Subjects u) x h = h

negative_known : (n : Negative) → NegativeNamed IsStatable n → AllByRecursion IsKnown (negative_pattern n)
negative_known (Concepts b c) h = (at_known b (Var 0) h.0, (at_known c (Var 0) h.1, tt))
negative_known (Roles r s) h = (pair_known (PRole r) (subject (PRole r)) (filler (PRole r)) h.0, (pair_known (PRole s) (subject (PRole r)) (filler (PRole r)) h.1, tt))
negative_known (Attrs u v) h = (h.0, (h.1, tt))
negative_known (Irreflexive p) h = (h, tt)

walk_known : (path : List Step) (from new end : ℕ) → AllByRecursion (StepNamed IsStatable) path → AllByRecursion IsKnown (walk from new end path)
walk_known [] from new end h = tt
walk_known (SRole r ∷ path) from new end h =
    let to = leads_to (SRole r) (length (along path)) from new end in (pair_known (PRole r) (Var from) (Var to) h.0, walk_known path to (suc new) end h.1)
walk_known (Test a ∷ path) from new end h = (h.0, walk_known path from new end h.1)
walk_known (SAttr u ∷ path) from new end h = (h.0, walk_known path (leads_to (SAttr u) (length (along path)) from new end) (suc new) end h.1)

walks_known : (paths : List (List Step)) (new : ℕ) → AllByRecursion (AllByRecursion (StepNamed IsStatable)) paths → AllByRecursion IsKnown (all_walks new paths)
walks_known [] new h = tt
walks_known (path ∷ paths) new h =
    let n = length (along path) in
    let e = end_of new n in
    let next = end_of (new + n) n in
    each_append IsKnown (both_walks new n path) (all_walks next paths)
    (each_append IsKnown (walk 0 new e path) (walk 1 (new + n) e path) (walk_known path 0 new e h.0) (walk_known path 1 (new + n) e h.0))
    (walks_known paths next h.1)

-- sorts of patterns
abbrev all_objects : ℕ → Bool
all_objects n = false

abbrev then_values : ℕ → Bool
then_values zero = false
then_values (suc n) = true

abbrev one_value : ℕ → Bool
one_value zero = false
one_value (suc zero) = true
one_value (suc (suc n)) = false

subject_sort : (r : RoleExpr) → HasSort all_objects false (subject (PRole r))
subject_sort (Direct p) = refl
subject_sort (Inverse p) = refl

filler_sort : (r : RoleExpr) → HasSort all_objects false (filler (PRole r))
filler_sort (Direct p) = refl
filler_sort (Inverse p) = refl

negative_sorted : (n : Negative) → EachHasOneSort (negative_pattern n)
negative_sorted (Concepts b c) = one_sort all_objects (negative_pattern (Concepts b c)) (at_sorted all_objects b 0 refl, (at_sorted all_objects c 0 refl, tt))
negative_sorted (Roles r s) =
    let x = subject (PRole r) in
    let y = filler (PRole r) in
    one_sort all_objects (negative_pattern (Roles r s)) (role_sorted all_objects r x y (subject_sort r) (filler_sort r), (role_sorted all_objects s x y (subject_sort r) (filler_sort r), tt))
negative_sorted (Attrs u v) = one_sort then_values (negative_pattern (Attrs u v)) ((refl, refl), ((refl, refl), tt))
negative_sorted (Irreflexive p) = one_sort all_objects (negative_pattern (Irreflexive p)) ((refl, refl), tt)

value_sorted : (u : Name) → EachHasOneSort (value_pattern u)
value_sorted u = one_sort then_values (value_pattern u) ((refl, refl), tt)

shared_sorted : (u v : Name) → EachHasOneSort (shared_value u v)
shared_sorted u v = one_sort one_value (shared_value u v) ((refl, refl), ((refl, refl), tt))

fillers_sorted : (p : Prop) → EachHasOneSort (two_fillers p)
fillers_sorted (PRole r) =
    let x = subject (PRole r) in
    one_sort all_objects (two_fillers (PRole r)) (role_sorted all_objects r x (filler (PRole r)) (subject_sort r) (filler_sort r), (role_sorted all_objects r x (Var 2) (subject_sort r) refl, tt))
fillers_sorted (PAttr u) = one_sort then_values (two_fillers (PAttr u)) ((refl, refl), ((refl, refl), tt))

-- answers of patterns
fillers_asked : (p : Prop) → AllByRecursion (IsAsked (two_fillers p)) (and_fillers p)
fillers_asked (PRole (Direct p)) =
    let q = PRole (Direct p) in
    let g = pair q (Var 0) (Var 1) in
    let h = pair q (Var 0) (Var 2) in
    ((g, (inl refl, inl refl)), ((g, (inl refl, inr refl)), ((h, (inr (inl refl), inr refl)), tt)))
fillers_asked (PRole (Inverse p)) =
    let q = PRole (Inverse p) in
    let g = pair q (Var 1) (Var 0) in
    let h = pair q (Var 1) (Var 2) in
    ((g, (inl refl, inr refl)), ((g, (inl refl, inl refl)), ((h, (inr (inl refl), inl refl)), tt)))
fillers_asked (PAttr u) =
    let q = PAttr u in
    let g = pair q (Var 0) (Var 1) in
    let h = pair q (Var 0) (Var 2) in
    ((g, (inl refl, inl refl)), ((g, (inl refl, inr refl)), ((h, (inr (inl refl), inr refl)), tt)))

at_has : (b : Basic) (n : ℕ) → HasVar n (at b (Var n))
at_has (BClass a) n = refl
at_has (BSome (Direct p)) n = inl refl
at_has (BSome (Inverse p)) n = inr refl
at_has (Subjects u) n = inl refl

-- each kind of violation
negative_plain : (l : Lined Negative) → NegativeNamed IsStatable l.item → IsPlain (of_negative l).query
negative_plain l h = record { known = negative_known l.item h; sorts = negative_sorted l.item; asked = tt }

value_plain : (line : ℕ) (u : Name) (kind : Kind) → IsStatable kinds.Attr u.0 → IsPlain (of_value line u kind).query
value_plain line u kind h = record { known = (h, tt); sorts = value_sorted u; asked = ((pair (PAttr u) (Var 0) (Var 1), (inl refl, inr refl)), tt) }

ranges_plain : (line : ℕ) (u v : Name) → IsStatable kinds.Attr u.0 → IsStatable kinds.Attr v.0 → IsPlain (of_ranges line u v).query
ranges_plain line u v h k = record { known = (h, (k, tt)); sorts = shared_sorted u v; asked = tt }

functional_plain : (document : DocName) (line : ℕ) (p : Prop) → PropNamed IsStatable p → IsPlain (of_functional document line p).query
functional_plain document line p h = record {
  known = (pair_known p (subject p) (filler p) h, (pair_known p (subject p) (Var 2) h, tt));
  sorts = fillers_sorted p;
  asked = fillers_asked p;
}

constraint_plain : (line : ℕ) (c : Constraint) → ConstraintNamed IsStatable c → HasForm c → IsPlain (by_constraint line c).query
constraint_plain line (Functional p) h f = functional_plain doc.Constraints line p h
constraint_plain line (Identify concept paths) h f = record {
  known = (at_known concept (Var 0) h.0, (at_known concept (Var 1) h.0, walks_known paths 2 h.1));
  sorts = identified_sorts concept paths f.paths_are;
  asked = ((at concept (Var 0), (inl refl, at_has concept 0)), ((at concept (Var 1), (inr (inl refl), at_has concept 1)), tt));
}
constraint_plain line (Deny atoms) h f = record { known = h; sorts = f.sorts; asked = tt }

at_seam : (first : List (Lined Inclusion)) (l : Lined Inclusion) (rest : List (Lined Inclusion)) → Contains (first ++ l ∷ rest) l
at_seam [] l rest = front l rest
at_seam (m ∷ first) l rest = later l m (first ++ l ∷ rest) (at_seam first l rest)

items_append : (xs ys : List (Lined Inclusion)) → items (xs ++ ys) ≡ items xs ++ items ys
items_append [] ys = refl
items_append (x ∷ xs) ys = ap (λ z. x.item ∷ z) (items_append xs ys)

module _ (theory : Theory) (proper : IsProper theory) where
  item_of : {X : Type 0} (P : X → Type 0) (ls : List (Lined X)) (l : Lined X) → AllByRecursion P (items ls) → In l ls → P l.item
  item_of {X} P ls l h i = each_in P l.item (items ls) h (map_in (λ (m : Lined X). m.item) l ls i)

  -- a range of the ontology is of a name in range
  range_known : (i : Inclusion) (u : Name) (kind : Kind) → Contains (stated theory) i → i ≡ Range u kind → IsStatable kinds.Attr u.0
  range_known i u kind c e = proper.is_stated.inclusions (Range u kind) (subst (Contains (stated theory)) e c)

  line_stands : (first rest : List (Lined Inclusion)) (l : Lined Inclusion) → theory.inclusions ≡ first ++ l ∷ rest → (i : Inclusion) → Contains (items first) i → Contains (stated theory) i
  line_stands first rest l parted i c =
      subst (λ z. Contains z i) (sym (ap items parted ∙ items_append first (l ∷ rest))) (Contains-append_left (items first) (items (l ∷ rest)) i c)

  line_plain : (first rest : List (Lined Inclusion)) (l : Lined Inclusion) (i : Inclusion) (v : Violation) → theory.inclusions ≡ first ++ l ∷ rest → Contains (stated theory) i
      → In v (of_inclusion (items first) l.line i) → IsPlain v.query
  line_plain first rest l (IClass b a) v parted c h = absurd h
  line_plain first rest l (Exists b r end k) v parted c h = absurd h
  line_plain first rest l (HasValue b u k) v parted c h = absurd h
  line_plain first rest l (IRole r s) v parted c h = absurd h
  line_plain first rest l (IAttr u w) v parted c h = absurd h
  line_plain first rest l (Range u kind) v parted c (inl e) = subst (λ z. IsPlain z.query) (sym e) (value_plain l.line u kind (range_known (Range u kind) u kind c refl))
  line_plain first rest l (Range u kind) v parted c (inr m) =
      let w = in_map (of_ranges l.line u) v (clashes kind (items first)) m in
      let k = clashes_are kind (items first) w.from w.among in
      let other = line_stands first rest l parted (Range w.from k.its) k.stands in
      subst (λ z. IsPlain z.query) (sym w.is) (ranges_plain l.line u w.from (range_known (Range u kind) u kind c refl) (range_known (Range w.from k.its) w.from k.its other refl))

  abbrev negatives : List Violation
  negatives = map of_negative theory.negatives

  abbrev ranges : List Violation
  ranges = of_inclusions [] theory.inclusions

  abbrev assertions : List Violation
  assertions = map of_assertion theory.functional

  abbrev constraints : List Violation
  constraints = map of_constraint theory.constraints

  -- each violation of the list is plain
  pub plain : (v : Violation) → In v (violations_of theory) → IsPlain v.query
  plain v i =
      elim (in_append v negatives (ranges ++ (assertions ++ constraints)) i) [
        | inl a ↦ of_negatives a
        | inr b ↦ elim (in_append v ranges (assertions ++ constraints) b) [
          | inl c ↦ of_lines c
          | inr d ↦ elim (in_append v assertions constraints d) [ inl e ↦ of_assertions e | inr f ↦ of_constraints f ]
        ]
      ]
    where
      of_negatives : In v negatives → IsPlain v.query
      of_negatives h =
          let w = in_map of_negative v theory.negatives h in
          subst (λ z. IsPlain z.query) (sym w.is) (negative_plain w.from (item_of (NegativeNamed IsStatable) theory.negatives w.from proper.negatives w.among))

      of_lines : In v ranges → IsPlain v.query
      of_lines h =
          let w = of_some_line [] theory.inclusions v h in
          line_plain w.first w.rest w.line w.line.item v w.parted (item_in (λ (m : Lined Inclusion). m.item) theory.inclusions w.line (subst (λ z. Contains z w.line) (sym w.parted) (at_seam w.first w.line w.rest))) w.stands

      of_assertions : In v assertions → IsPlain v.query
      of_assertions h =
          let w = in_map of_assertion v theory.functional h in
          subst (λ z. IsPlain z.query) (sym w.is) (functional_plain doc.Ontology w.from.line w.from.item (item_of (PropNamed IsStatable) theory.functional w.from proper.functional w.among))

      of_constraints : In v constraints → IsPlain v.query
      of_constraints h =
          let w = in_map of_constraint v theory.constraints h in
          subst (λ z. IsPlain z.query) (sym w.is) (constraint_plain w.from.line w.from.item
          (item_of (ConstraintNamed IsStatable) theory.constraints w.from proper.constraints w.among) (item_of HasForm theory.constraints w.from proper.formed w.among))
