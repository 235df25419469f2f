-- Each violation is breached exactly where what it is of is broken.
use Rattle.std.proofs.Common.{◌≡◌, ◌≢◌, ℕ, List, [], ◌∷◌, ◌++◌, map, ◌⊎◌, inl, inr, ◌↔◌, Some, Contains, slice_get, refl, sym, ap, ◌∙◌, subst}
use Rattle.std.specs.List.{AllByRecursion}
use Rattle.mast_terms.specs.declared.name.Name.{Name}
use Rattle.mast_terms.specs.declared.term.Term.{Term}
use Rattle.mast_terms.specs.declared.term.Term.TheVariants as term
use Rattle.mast_terms.specs.declared.value.Kind.{Kind}
use Rattle.mast_terms.specs.declared.value.Value.{Value}
use Rattle.mast_tables.specs.Whole.{value_kind}
use Rattle.mast_tree.specs.declared.document.DocName.{DocName}
use Rattle.mast_tree.specs.declared.document.DocName.TheVariants as doc
use Rattle.mast_cq.specs.declared.atom.Arg.TheVariants.{Var}
use Rattle.mast_cq.specs.Meanings.{Fact, InAttr, Fits, Gives}
use Rattle.mast_cq.specs.Queries.{In}
use Rattle.mast_cq.proofs.ListLemmas.{each_in, in_append, append_left, append_right, in_map, map_in}
use Rattle.mast_tbox.specs.declared.axiom.Inclusion.{Inclusion}
use Rattle.mast_tbox.specs.declared.axiom.Inclusion.TheVariants.{Class as IClass, Exists, HasValue, Role as IRole, Attr as IAttr, Range}
use Rattle.mast_tbox.specs.declared.axiom.Lined.{Lined}
use Rattle.mast_tbox.specs.declared.axiom.Negative.{Negative}
use Rattle.mast_tbox.specs.declared.constraint.Constraint.{Constraint}
use Rattle.mast_tbox.specs.declared.constraint.Constraint.TheVariants.{Functional, Identify, Deny}
use Rattle.mast_tbox.specs.declared.expression.Prop.{Prop}
use Rattle.mast_tbox.specs.ConstraintForms.{HasForm, HaveForm}
use Rattle.mast_tbox.specs.Lists.{items}
use Rattle.mast_canon.specs.declared.origin.Ground.TheVariants as grounds
use Rattle.mast_canon.specs.declared.origin.Origin.{Origin}
use Rattle.mast_canon.specs.CertainAnswers.{HoldsBy, constant_in}
use Rattle.mast_canon.specs.Elements.{Element, Named}
use Rattle.mast_canon.specs.Memberships.{pair_fact, IsIn, ShareEnd}
use Rattle.mast_canon.specs.NoModels.{BreaksNegative, BreaksRange, wrong, two, BreaksFunctional, BreaksIdentification, BreaksConstraint, negative_ground, constraint_ground, origin_of, Breaks, negative, range, functional, constraint, By}
use Rattle.mast_canon.specs.Theories.{Theory}
use Rattle.mast_violate.specs.declared.violation.Violation.{Violation}
use Rattle.mast_violate.specs.Patterns.{subject, filler}
use Rattle.mast_violate.specs.ViolationLists.{of_negative, of_value, of_ranges, clashes, of_inclusion, of_inclusions, of_functional, of_assertion, by_constraint, of_constraint, violations}
use Rattle.mast_violate.specs.Breaches.{Passes, IsBreached, SomeIsBreached, AreBreaches, violations_of}
use Rattle.mast_violate.proofs.ListLemmas.{place_in, in_place, clashes_are, are_clashes, IsOfLine, of_some_line, of_each_line}
use Rattle.mast_violate.proofs.PairLemmas.{three, to_ends, subject_fits, filler_fits, third_fits, negative_met, meets_negative, value_met, meets_value, shared_value_met, meets_shared_value, fillers_met, meets_fillers}
use Rattle.mast_violate.proofs.WalkLemmas.{identified_met, meets_identified}

same_some : {X : Type 0} (x y : X) → Some x ≡ Some y → x ≡ y
same_some x y e = cc

module _ (theory : Theory) (F : Fact Term → Type 0) where
  abbrev P : Fact Element → Type 0
  P = HoldsBy theory F

  abbrev constant : ℕ → Element
  constant = constant_in theory

  abbrev Is : Violation → Type 0
  Is v = IsBreached theory F v

  -- of a negative
  negative_breached : (l : Lined Negative) → Is (of_negative l) → BreaksNegative P l.item
  negative_breached l b = negative_met constant P l.item b.certain.under b.certain.each

  breaches_negative : (l : Lined Negative) → BreaksNegative P l.item → Is (of_negative l)
  breaches_negative l h =
      let w = meets_negative constant P l.item h in record { tuple = []; certain = record { under = w.0; each = w.1; answers = tt }; passes = tt }

  -- of a range
  value_breached : (before : List Inclusion) (line : ℕ) (u : Name) (kind : Kind) → Is (of_value line u kind) → BreaksRange P before u kind
  value_breached before line u kind b = go b.tuple b.certain.answers b.passes
    where
      s : ℕ → Element
      s = b.certain.under

      go : (tuple : List Term) → Gives constant s (Var 1 ∷ []) (map Named tuple)
          → (v : Value) × ((slice_get tuple 0 ≡ Some (term.Value v)) × (value_kind v ≢ kind)) → BreaksRange P before u kind
      go [] g p = absurd g
      go (t ∷ []) g (v, (e, n)) =
          let is : Named t ≡ Named (term.Value v) = ap Named (same_some t (term.Value v) e) in
          wrong (s 0) v (subst (λ z. P (InAttr u (s 0) z)) (sym g.0 ∙ is) (value_met constant P u s b.certain.each)) n
      go (t ∷ (w ∷ ts)) g p = absurd g.1

  breaches_value : (line : ℕ) (u : Name) (kind : Kind) (t : Element) (v : Value) → P (InAttr u t (Named (term.Value v))) → value_kind v ≢ kind → Is (of_value line u kind)
  breaches_value line u kind t v h n =
      let s = three constant P t (Named (term.Value v)) t in
      record {
        tuple = term.Value v ∷ [];
        certain = record { under = s; each = meets_value constant P u s h; answers = (refl, tt) };
        passes = (v, (refl, n));
      }

  -- of two ranges
  ranges_breached : (line : ℕ) (u v : Name) → Is (of_ranges line u v)
      → (t : Element) × ((s : Element) × ((w : Element) × (P (InAttr u t w) × P (InAttr v s w))))
  ranges_breached line u v b = let s = b.certain.under in (s 0, (s 2, (s 1, shared_value_met constant P u v s b.certain.each)))

  breaches_ranges : (line : ℕ) (u v : Name) (t s w : Element) → P (InAttr u t w) → P (InAttr v s w) → Is (of_ranges line u v)
  breaches_ranges line u v t s w h k =
      let a = three constant P t w s in
      record { tuple = []; certain = record { under = a; each = meets_shared_value constant P u v a h k; answers = tt }; passes = tt }

  -- of a functional property
  functional_breached : (document : DocName) (line : ℕ) (p : Prop) → Is (of_functional document line p) → BreaksFunctional P p
  functional_breached document line p b = go b.tuple b.certain.answers b.passes
    where
      s : ℕ → Element
      s = b.certain.under

      go : (tuple : List Term) → Gives constant s (subject p ∷ filler p ∷ Var 2 ∷ []) (map Named tuple)
          → slice_get tuple 1 ≢ slice_get tuple 2 → BreaksFunctional P p
      go [] g n = absurd g
      go (t ∷ []) g n = absurd g.1
      go (t ∷ (u ∷ [])) g n = absurd g.1.1
      go (t ∷ (u ∷ (w ∷ []))) g n =
          let h = fillers_met constant P p s (Named t) (Named u) (Named w) g.0 g.1.0 g.1.1.0 b.certain.each in
          record { subject = t; one = u; other = w; first = h.0; second = h.1; differ = λ e. n (ap Some e) }
      go (t ∷ (u ∷ (w ∷ (x ∷ ts)))) g n = absurd g.1.1.1

  breaches_functional : (document : DocName) (line : ℕ) (p : Prop) → BreaksFunctional P p → Is (of_functional document line p)
  breaches_functional document line p h =
      let t = Named h.subject in
      let u = Named h.one in
      let w = Named h.other in
      record {
        tuple = h.subject ∷ h.one ∷ h.other ∷ [];
        certain = record {
          under = to_ends constant P p t u w;
          each = meets_fillers constant P p t u w h.first h.second;
          answers = (subject_fits constant P p t u w, (filler_fits constant P p t u w, (third_fits constant P p t u w, tt)));
        };
        passes = λ e. h.differ (same_some h.one h.other e);
      }

  -- of an identification
  identification_breached : (line : ℕ) (c : Constraint) → HasForm c → Is (by_constraint line c) → BreaksConstraint theory P c
  identification_breached line (Functional p) f b = functional_breached doc.Constraints line p b
  identification_breached line (Identify concept paths) f b = go b.tuple b.certain.answers b.passes
    where
      s : ℕ → Element
      s = b.certain.under

      go : (tuple : List Term) → Gives constant s (Var 0 ∷ Var 1 ∷ []) (map Named tuple) → slice_get tuple 0 ≢ slice_get tuple 1 → BreaksIdentification P concept paths
      go [] g n = absurd g
      go (t ∷ []) g n = absurd g.1
      go (t ∷ (u ∷ [])) g n =
          let h = identified_met constant P concept paths s f.paths_are b.certain.each in
          record {
            one = t;
            other = u;
            first = subst (IsIn P concept) (sym g.0) h.0;
            second = subst (IsIn P concept) (sym g.1.0) h.1.0;
            share = subst (λ z. AllByRecursion (ShareEnd P z (Named u)) paths) (sym g.0)
                (subst (λ z. AllByRecursion (ShareEnd P (s 0) z) paths) (sym g.1.0) h.1.1);
            differ = λ e. n (ap Some e);
          }
      go (t ∷ (u ∷ (w ∷ ts))) g n = absurd g.1.1
  identification_breached line (Deny atoms) f b = go b.tuple b.certain.answers
    where
      go : (tuple : List Term) → Gives constant b.certain.under [] (map Named tuple) → BreaksConstraint theory P (Deny atoms)
      go [] g = record { under = b.certain.under; each = b.certain.each; answers = tt }
      go (t ∷ ts) g = absurd g

  breaches_constraint : (line : ℕ) (c : Constraint) → HasForm c → BreaksConstraint theory P c → Is (by_constraint line c)
  breaches_constraint line (Functional p) f h = breaches_functional doc.Constraints line p h
  breaches_constraint line (Identify concept paths) f h =
      let w = meets_identified constant P concept paths (Named h.one) (Named h.other) f.paths_are (h.first, (h.second, h.share)) in
      record {
        tuple = h.one ∷ h.other ∷ [];
        certain = record { under = w.0; each = w.1.1.1; answers = (w.1.0, (w.1.1.0, tt)) };
        passes = λ e. h.differ (same_some h.one h.other e);
      }
  breaches_constraint line (Deny atoms) f h = record { tuple = []; certain = record { under = h.under; each = h.each; answers = tt }; passes = tt }

  abbrev negatives : List Violation
  negatives = map of_negative theory.negatives

  abbrev ranges : List Violation
  ranges = of_inclusions [] theory.inclusions

  abbrev assertions : List Violation
  assertions = map of_assertion theory.functional

  abbrev constraints : List Violation
  constraints = map of_constraint theory.constraints

  constraint_ground_is : (line : ℕ) (c : Constraint) → (by_constraint line c).origin ≡ origin_of (constraint_ground c) doc.Constraints line
  constraint_ground_is line (Functional p) = refl
  constraint_ground_is line (Identify concept paths) = refl
  constraint_ground_is line (Deny atoms) = refl

  module _ (formed : HaveForm theory.constraints) where
    form_of : (l : Lined Constraint) → In l theory.constraints → HasForm l.item
    form_of l i = each_in HasForm l.item (items theory.constraints) formed (map_in (λ (m : Lined Constraint). m.item) l theory.constraints i)

    -- what a violation of an inclusion shows
    line_broken : (first rest : List (Lined Inclusion)) (l : Lined Inclusion) (i : Inclusion) (v : Violation) (o : Origin) → theory.inclusions ≡ first ++ l ∷ rest → l.item ≡ i
        → In v (of_inclusion (items first) l.line i) → v.origin ≡ o → Is v → By theory F o
    line_broken first rest l (IClass b a) v o parted is h at broken = absurd h
    line_broken first rest l (Exists b r end k) v o parted is h at broken = absurd h
    line_broken first rest l (HasValue b u k) v o parted is h at broken = absurd h
    line_broken first rest l (IRole r s) v o parted is h at broken = absurd h
    line_broken first rest l (IAttr u w) v o parted is h at broken = absurd h
    line_broken first rest l (Range u kind) v o parted is (inl e) at broken =
        range first rest l u kind parted is (value_breached (items first) l.line u kind (subst Is e broken)) (sym at ∙ ap (λ z. z.origin) e)
    line_broken first rest l (Range u kind) v o parted is (inr m) at broken =
        let w = in_map (of_ranges l.line u) v (clashes kind (items first)) m in
        let c = clashes_are kind (items first) w.from w.among in
        let h = ranges_breached l.line u w.from (subst Is w.is broken) in
        range first rest l u kind parted is (two w.from c.its h.0 h.1.0 h.1.1.0 c.stands c.differ h.1.1.1.0 h.1.1.1.1) (sym at ∙ ap (λ z. z.origin) w.is)

    negative_broken : (v : Violation) (o : Origin) → In v negatives → v.origin ≡ o → Is v → By theory F o
    negative_broken v o i at b =
        let w = in_map of_negative v theory.negatives i in
        negative w.from (in_place theory.negatives w.from w.among) (negative_breached w.from (subst Is w.is b)) (sym at ∙ ap (λ z. z.origin) w.is)

    range_broken : (v : Violation) (o : Origin) → In v ranges → v.origin ≡ o → Is v → By theory F o
    range_broken v o i at b =
        let w = of_some_line [] theory.inclusions v i in line_broken w.first w.rest w.line w.line.item v o w.parted refl w.stands at b

    assertion_broken : (v : Violation) (o : Origin) → In v assertions → v.origin ≡ o → Is v → By theory F o
    assertion_broken v o i at b =
        let w = in_map of_assertion v theory.functional i in
        functional w.from (in_place theory.functional w.from w.among) (functional_breached doc.Ontology w.from.line w.from.item (subst Is w.is b)) (sym at ∙ ap (λ z. z.origin) w.is)

    constraint_broken : (v : Violation) (o : Origin) → In v constraints → v.origin ≡ o → Is v → By theory F o
    constraint_broken v o i at b =
        let w = in_map of_constraint v theory.constraints i in
        constraint w.from (in_place theory.constraints w.from w.among)
        (identification_breached w.from.line w.from.item (form_of w.from w.among) (subst Is w.is b))
        (sym at ∙ (ap (λ z. z.origin) w.is ∙ constraint_ground_is w.from.line w.from.item))

    -- a breached violation shows that what has its origin is broken
    breached_broken : (o : Origin) → SomeIsBreached theory F (violations_of theory) o → By theory F o
    breached_broken o w =
        elim (in_append w.violation negatives (ranges ++ (assertions ++ constraints)) w.stands) [
          | inl a ↦ negative_broken w.violation o a w.has_origin w.breached
          | inr b ↦ elim (in_append w.violation ranges (assertions ++ constraints) b) [
            | inl c ↦ range_broken w.violation o c w.has_origin w.breached
            | inr d ↦ elim (in_append w.violation assertions constraints d) [
              | inl e ↦ assertion_broken w.violation o e w.has_origin w.breached
              | inr f ↦ constraint_broken w.violation o f w.has_origin w.breached
            ]
          ]
        ]

    of_ranges_in : (v : Violation) → In v ranges → In v (violations_of theory)
    of_ranges_in v i = append_right v negatives (ranges ++ (assertions ++ constraints)) (append_left v ranges (assertions ++ constraints) i)

    in_lines : (first rest : List (Lined Inclusion)) (l : Lined Inclusion) (i : Inclusion) (v : Violation) → theory.inclusions ≡ first ++ l ∷ rest → l.item ≡ i
        → In v (of_inclusion (items first) l.line i) → In v (violations_of theory)
    in_lines first rest l i v parted is h =
        of_ranges_in v (subst (λ z. In v (of_inclusions [] z)) (sym parted) (of_each_line [] first l rest v (subst (λ z. In v (of_inclusion (items first) l.line z)) (sym is) h)))

    range_breaches : (o : Origin) (first rest : List (Lined Inclusion)) (l : Lined Inclusion) (u : Name) (kind : Kind) → theory.inclusions ≡ first ++ l ∷ rest → l.item ≡ Range u kind
        → BreaksRange P (items first) u kind → o ≡ origin_of grounds.ValueType doc.Ontology l.line → SomeIsBreached theory F (violations_of theory) o
    range_breaches o first rest l u kind parted is (wrong t v h n) at = record {
      violation = of_value l.line u kind;
      stands = in_lines first rest l (Range u kind) (of_value l.line u kind) parted is (inl refl);
      has_origin = sym at;
      breached = breaches_value l.line u kind t v h n;
    }
    range_breaches o first rest l u kind parted is (two other its t s v c n h k) at = record {
      violation = of_ranges l.line u other;
      stands = in_lines first rest l (Range u kind) (of_ranges l.line u other) parted is
          (inr (map_in (of_ranges l.line u) other (clashes kind (items first)) (are_clashes kind (items first) other its c n)));
      has_origin = sym at;
      breached = breaches_ranges l.line u other t s v h k;
    }

    -- and what is broken shows a breached violation
    broken_breached : (o : Origin) → By theory F o → SomeIsBreached theory F (violations_of theory) o
    broken_breached o (negative l c h at) = record {
      violation = of_negative l;
      stands = append_left (of_negative l) negatives (ranges ++ (assertions ++ constraints)) (map_in of_negative l theory.negatives (place_in theory.negatives l c));
      has_origin = sym at;
      breached = breaches_negative l h;
    }
    broken_breached o (range first rest l u kind parted is h at) = range_breaches o first rest l u kind parted is h at
    broken_breached o (functional l c h at) = record {
      violation = of_assertion l;
      stands = append_right (of_assertion l) negatives (ranges ++ (assertions ++ constraints)) (append_right (of_assertion l) ranges (assertions ++ constraints)
          (append_left (of_assertion l) assertions constraints (map_in of_assertion l theory.functional (place_in theory.functional l c))));
      has_origin = sym at;
      breached = breaches_functional doc.Ontology l.line l.item h;
    }
    broken_breached o (constraint l c h at) =
        let i = place_in theory.constraints l c in
        record {
          violation = of_constraint l;
          stands = append_right (of_constraint l) negatives (ranges ++ (assertions ++ constraints)) (append_right (of_constraint l) ranges (assertions ++ constraints)
              (append_right (of_constraint l) assertions constraints (map_in of_constraint l theory.constraints i)));
          has_origin = constraint_ground_is l.line l.item ∙ sym at;
          breached = breaches_constraint l.line l.item (form_of l i) h;
        }

    -- violation queries are breaches
    pub are_breaches : AreBreaches F theory (violations_of theory)
    are_breaches o = (broken_breached o, breached_broken o)

-- so are those of a list that is the violation list
pub breaches_of : (theory : Theory) (F : Fact Term → Type 0) (is : List (Lined Inclusion)) (ns : List (Lined Negative)) (ps : List (Lined Prop)) (cs : List (Lined Constraint))
    (list : List Violation) → theory.inclusions ≡ is → theory.negatives ≡ ns → theory.functional ≡ ps → theory.constraints ≡ cs → HaveForm cs → list ≡ violations is ns ps cs
    → AreBreaches F theory list
breaches_of theory F is ns ps cs list i n p c formed told =
    let same = ap (λ z. violations z theory.negatives theory.functional theory.constraints) i
    ∙ (ap (λ z. violations is z theory.functional theory.constraints) n
    ∙ (ap (λ z. violations is ns z theory.constraints) p ∙ ap (λ z. violations is ns ps z) c)) in
    subst (AreBreaches F theory) (same ∙ sym told) (are_breaches theory F (subst HaveForm (sym c) formed))
