-- Kept law: a kept interpretation of facts that have a model is a world of them, and its answers in named terms are the certain ones.
use Rattle.std.proofs.Common.{◌≡◌, ◌≢◌, ℕ, ◌⊎◌, inl, inr, List, [], map, Option, Some, None, Contains, refl, sym, ap, ◌∙◌, subst}
use Rattle.std.specs.List.{AllByRecursion}
use Rattle.mast_terms.specs.declared.name.Name.{Name}
use Rattle.mast_terms.specs.declared.term.Term.{Term}
use Rattle.mast_terms.specs.declared.term.Term.TheVariants as term
use Rattle.mast_terms.proofs.OrderLemmas.{term_equality_test}
use Rattle.mast_terms.specs.contracts.term.TermPartialEq.TheImpl as term_eq
use Rattle.mast_cq.specs.declared.atom.Atom.{Atom}
use Rattle.mast_cq.specs.declared.query.Cq.{Cq}
use Rattle.mast_cq.specs.Meanings.{Fact, InClass, InRole, InAttr, HasTuple}
use Rattle.mast_cq.specs.Queries.{In}
use Rattle.mast_cq.proofs.ListLemmas.{each_in}
use Rattle.mast_tbox.specs.declared.axiom.Inclusion.{Inclusion}
use Rattle.mast_tbox.specs.declared.axiom.Inclusion.TheVariants.{Class as IClass, Exists, HasValue, Role as IRole, Attr as IAttr, Range}
use Rattle.mast_tbox.specs.declared.axiom.Negative.{Negative}
use Rattle.mast_tbox.specs.declared.constraint.Constraint.TheVariants.{Functional, Identify, Deny}
use Rattle.mast_tbox.specs.declared.constraint.Step.{Step}
use Rattle.mast_tbox.specs.declared.expression.Basic.{Basic}
use Rattle.mast_tbox.specs.declared.expression.Prop.{Prop}
use Rattle.mast_tbox.specs.declared.expression.Prop.TheVariants.{Role as PRole, Attr as PAttr}
use Rattle.mast_tbox.specs.declared.expression.RoleExpr.{RoleExpr}
use Rattle.mast_tbox.specs.Expressions.{inverse_role}
use Rattle.mast_tbox.specs.Inclusions.{Adds, States}
use Rattle.mast_tbox.specs.Lists.{items}
use Rattle.mast_tbox.specs.Restrictions.{Specialises, IsSpecialised, IsFunctional}
use Rattle.mast_tbox.proofs.MemberLemmas.{map_out}
use Rattle.mast_canon.specs.CertainAnswers.{HoldsBy, Certain, constant_in}
use Rattle.mast_canon.specs.Derivations.{into_class, ends, widens, source, follows}
use Rattle.mast_canon.specs.Elements.{Element, Named, Successor, IsNamed, map_fact}
use Rattle.mast_canon.specs.Interpretations.{Interpretation, IsTrue, IsAnswer, constant_by}
use Rattle.mast_canon.specs.KeptTerms.{Needs, IsKept}
use Rattle.mast_canon.specs.KeptWorlds.{OfElements, IsKindOf, IsKeptWorld}
use Rattle.mast_canon.specs.Memberships.{pair_fact, shows, IsIn, ShareEnd}
use Rattle.mast_canon.specs.NoModels.{BreaksNegative, BreaksFunctional, BreaksIdentification, BreaksConstraint, negative, functional, constraint, NoModel, asks}
use Rattle.mast_canon.specs.Theories.{Theory, stated, constant_of}
use Rattle.mast_canon.specs.TheoryPremises.{AreSorted, IsRestricted}
use Rattle.mast_canon.specs.WorldLaws.{KeptLaw}
use Rattle.mast_canon.specs.Worlds.{IsInEnd, Obeys, HasOneFiller, IsIdentified, IsWorld}
use Rattle.mast_canon.proofs.ApartLemmas.{unbroken_apart}
use Rattle.mast_canon.proofs.AnchorLemmas.{has_anchor, along_pair}
use Rattle.mast_canon.proofs.FactLemmas.{pair_turned}
use Rattle.mast_canon.proofs.FillerLemmas.{Filler, between, made, back, filler, one_filler, OneOrNamed, named_no_successor}
use Rattle.mast_canon.proofs.FoundLemmas.{of_pair, to_pair, of_shown, fill_kept, fill_own}
use Rattle.mast_canon.proofs.HoldsLemmas.{tuple_grows, negative_grows, share_grows}
use Rattle.mast_canon.proofs.KeptRangeLemmas.{decide, range_kept}
use Rattle.mast_canon.proofs.SupportLemmas.{each_weaker}
use Rattle.mast_canon.proofs.UnspecialisedLemmas.{specialised_inverse, qualified_specialises}
use Rattle.mast_canon.proofs.WorldLemmas.{certain_true}

named_same : (t u : Term) → ◌≡◌ {A = Element} (Named t) (Named u) → t ≡ u
named_same t u e = cc

named_kept : (tbox : List Inclusion) (P : Fact Element → Type 0) (f : Fact Term) → OfElements (IsKept tbox P) (map_fact Named f)
named_kept tbox P (InClass a t) = tt
named_kept tbox P (InRole p t u) = (tt, tt)
named_kept tbox P (InAttr v t u) = (tt, tt)

module _ (w : Interpretation Element) (theory : Theory) (F : Fact Term → Type 0) (restricted : IsRestricted theory) (ts : List Term)
    (all : (f : Fact Term) → F f → OfElements (λ t. In t ts) f) (sorted : AreSorted F) (model : NoModel theory F → ⊥) (kw : IsKeptWorld w theory F) where
  abbrev P : Fact Element → Type 0
  P = HoldsBy theory F

  abbrev T : Fact Element → Type 0
  T = IsTrue w

  abbrev Kp : Element → Type 0
  Kp = IsKept (stated theory) P

  true_holds : (f : Fact Element) → T f → P f
  true_holds f h = ((kw.facts f).0 h).0

  true_kept : (f : Fact Element) → T f → OfElements Kp f
  true_kept f h = ((kw.facts f).0 h).1

  to_true : (f : Fact Element) → P f → OfElements Kp f → T f
  to_true f h k = (kw.facts f).1 (h, k)

  shown_kept : (b : Basic) (e u : Element) → T (shows b e u) → Kp e
  shown_kept b e u h = of_shown Kp b e u (true_kept (shows b e u) h)

  pair_true : (p : Prop) (e u : Element) → P (pair_fact p e u) → Kp e → Kp u → T (pair_fact p e u)
  pair_true p e u h k l = to_true (pair_fact p e u) h (to_pair Kp p e u k l)

  names_are : w.named ≡ Named
  names_are = λ i t. kw.names t i

  facts_true : (f : Fact Term) → F f → T (map_fact w.named f)
  facts_true f h = subst (λ n. T (map_fact n f)) (sym names_are) (to_true (map_fact Named f) (source (record { fact = f; given = h; is = refl })) (named_kept (stated theory) P f))

  -- answers in named terms are certain
  pub kept_certain : (q : Cq) (tuple : List Term) → IsAnswer w theory q tuple → Certain theory F q tuple
  kept_certain q tuple h =
      tuple_grows T P true_holds (constant_in theory) q (map Named tuple)
      (subst (λ n. HasTuple (λ c. n (constant_of theory.constants c)) T q (map n tuple)) names_are h)

  -- existential inclusions
  needs : (b : Basic) (p : Prop) (k : ℕ) (e : Element) → Adds (stated theory) b p k → IsIn T b e → Needs (stated theory) P k p e
  needs b p k e c i = record { left = b; stated = c; is_in = (i.0, true_holds (shows b e i.0) i.1) }

  filled : (b : Basic) (p : Prop) (k : ℕ) (e : Element) → Adds (stated theory) b p k → IsIn T b e → P (pair_fact p e (w.fill k e)) × Kp (w.fill k e)
  filled b p k e c i =
      fill_kept theory.inclusions restricted.numbered F ts all k p e (shown_kept b e i.0 i.1) (needs b p k e c i) (w.fill k e) (kw.fillers k e)

  filled_true : (b : Basic) (p : Prop) (k : ℕ) (e : Element) → Adds (stated theory) b p k → IsIn T b e → T (pair_fact p e (w.fill k e))
  filled_true b p k e c i = let f = filled b p k e c i in pair_true p e (w.fill k e) f.0 (shown_kept b e i.0 i.1) f.1

  end_true : (b : Basic) (r : RoleExpr) (end : Option Name) (k : ℕ) (e : Element) → Contains (stated theory) (Exists b r end k) → IsIn T b e → IsInEnd w end (w.fill k e)
  end_true b r None k e c i = tt
  end_true b r (Some a) k e c i =
      let f = filled b (PRole r) k e (Some a, c) i in
      let own = fill_own theory.inclusions restricted.numbered F ts all k (PRole r) e (shown_kept b e i.0 i.1) (needs b (PRole r) k e (Some a, c) i) (w.fill k e)
      (qualified_specialises (stated theory) b r a k c) (kw.fillers k e) in
      let h : P (InClass a (Successor e k)) = follows (true_holds (shows b e i.0) i.1) (ends b r a k e i.0 c refl refl) in
      to_true (InClass a (w.fill k e)) (subst (λ z. P (InClass a z)) (sym own) h) f.1

  widened : (p q : Prop) → States (stated theory) p q → (e f : Element) → T (pair_fact p e f) → T (pair_fact q e f)
  widened p q c e f h =
      let k = of_pair Kp p e f (true_kept (pair_fact p e f) h) in
      pair_true q e f (follows (true_holds (pair_fact p e f) h) (widens p q e f c refl refl)) k.0 k.1

  obeyed : (i : Inclusion) → Contains (stated theory) i → Obeys w i
  obeyed (IClass b a) c = λ e i. to_true (InClass a e) (follows (true_holds (shows b e i.0) i.1) (into_class b a e i.0 c refl refl)) (shown_kept b e i.0 i.1)
  obeyed (Exists b r end k) c = λ e i. (filled_true b (PRole r) k e (end, c) i, end_true b r end k e c i)
  obeyed (HasValue b v k) c = λ e i. filled_true b (PAttr v) k e c i
  obeyed (IRole r s) c = widened (PRole r) (PRole s) c
  obeyed (IAttr u v) c = widened (PAttr u) (PAttr v) c
  obeyed (Range u kind) c = λ e v h. range_kept theory F sorted model u kind e v (w.kind v) c (true_holds (InAttr u e v) h) (kw.kinds v)

  apart : (n : Negative) → Contains (items theory.negatives) n → BreaksNegative T n → ⊥
  apart n c b =
      let m = map_out (λ z. z.item) theory.negatives n c in
      model (_, negative m.element m.stands (subst (BreaksNegative P) m.is (negative_grows T P true_holds n b)) refl)

  -- functionality
  functional_unspecialised : (p : Prop) → IsFunctional theory.functional theory.constraints p → IsSpecialised (stated theory) p → ⊥
  functional_unspecialised p i s =
      let m = map_out (λ z. z.item) theory.inclusions s.0 s.1.0 in
      restricted.unbreached.0 m.element m.stands (p, (i, subst (λ z. Specialises (stated theory) z p) m.is s.1.1))

  functional_breaks : (p : Prop) → IsFunctional theory.functional theory.constraints p → BreaksFunctional P p → ⊥
  functional_breaks p (inl c) b = let m = map_out (λ z. z.item) theory.functional p c in model (_, functional m.element m.stands (subst (BreaksFunctional P) m.is b) refl)
  functional_breaks p (inr c) b =
      let m = map_out (λ z. z.item) theory.constraints (Functional p) c in
      model (_, constraint m.element m.stands (subst (BreaksConstraint theory P) m.is b) refl)

  same_term : (t u : Term) → (t ≡ u) ⊎ (t ≢ u)
  same_term t u = decide term_eq.ghosts.eq term_equality_test t u

  one_value : (p : Prop) → (IsSpecialised (stated theory) p → ⊥) → (e f g : Element) → T (pair_fact p e f) → T (pair_fact p e g) → OneOrNamed theory.inclusions restricted.numbered F e f g
  one_value p un e f g h k =
      one_filler theory.inclusions restricted.numbered F p e f g un (true_holds (pair_fact p e f) h) (true_holds (pair_fact p e g) k)
      (of_pair Kp p e f (true_kept (pair_fact p e f) h)).1 (of_pair Kp p e g (true_kept (pair_fact p e g) k)).1

  has_one : (p : Prop) → IsFunctional theory.functional theory.constraints p → HasOneFiller w p
  has_one p i = λ e f g h k. elim (one_value p (functional_unspecialised p i) e f g h k) [
    | inl ((s, es), ((t, et), (u, eu))) ↦ elim (same_term t u) [
      | inl z ↦ et ∙ ap Named z ∙ sym eu
      | inr n ↦ absurd (functional_breaks p i (record {
        subject = s;
        one = t;
        other = u;
        first = subst (λ z. P (pair_fact p z (Named t))) es (subst (λ z. P (pair_fact p e z)) et (true_holds (pair_fact p e f) h));
        second = subst (λ z. P (pair_fact p z (Named u))) es (subst (λ z. P (pair_fact p e z)) eu (true_holds (pair_fact p e g) k));
        differ = n;
      }))
    ]
    | inr z ↦ z
  ]

  -- identifications
  attribute_subjects : (v : Name) (e f end : Element) → Filler theory.inclusions restricted.numbered F (PAttr v) e end → Filler theory.inclusions restricted.numbered F (PAttr v) f end
      → (IsNamed e × IsNamed f) ⊎ (e ≡ f)
  attribute_subjects v e f end (between m n) (between m' n') = inl (m, m')
  attribute_subjects v e f end (between m n) (made k q eq needs i) = absurd (named_no_successor end f k n i)
  attribute_subjects v e f end (between m n) (back k r i) = absurd r
  attribute_subjects v e f end (made k q eq needs i) (between m n) = absurd (named_no_successor end e k n i)
  attribute_subjects v e f end (made k q eq needs i) (made j r eq' needs' l) = let z : Successor e k ≡ Successor f j = sym i ∙ l in let x : e ≡ f = cc in inr x
  attribute_subjects v e f end (made k q eq needs i) (back j r l) = absurd r
  attribute_subjects v e f end (back k r i) y = absurd r

  two_subjects : (p : Prop) → (IsSpecialised (stated theory) p → ⊥) → (e f end : Element) → T (pair_fact p e end) → T (pair_fact p f end) → (IsNamed e × IsNamed f) ⊎ (e ≡ f)
  two_subjects (PRole r) un e f end h k =
      elim (one_value (PRole (inverse_role r)) (λ s. un (specialised_inverse (stated theory) (PRole r) s)) end e f
      (subst T (sym (pair_turned r end e)) h) (subst T (sym (pair_turned r end f)) k)) [
        | inl x ↦ inl x.1
        | inr x ↦ inr x
      ]
  two_subjects (PAttr v) un e f end h k =
      let at : (x : Element) → T (pair_fact (PAttr v) x end) → Filler theory.inclusions restricted.numbered F (PAttr v) x end =
      λ x hx. filler theory.inclusions restricted.numbered F (pair_fact (PAttr v) x end) (true_holds (pair_fact (PAttr v) x end) hx) (PAttr v) x end un refl in
      attribute_subjects v e f end (at e h) (at f k)

  identification_breaks : (b : Basic) (paths : List (List Step)) → Contains (items theory.constraints) (Identify b paths) → BreaksIdentification P b paths → ⊥
  identification_breaks b paths c h =
      let m = map_out (λ z. z.item) theory.constraints (Identify b paths) c in
      model (_, constraint m.element m.stands (subst (BreaksConstraint theory P) m.is h) refl)

  shares : (e f : Element) (paths : List (List Step)) → AllByRecursion (ShareEnd T e f) paths → AllByRecursion (ShareEnd P e f) paths
  shares e f paths s = each_weaker (ShareEnd T e f) (ShareEnd P e f) (share_grows T P true_holds e f) paths s

  named_identified : (b : Basic) (paths : List (List Step)) → Contains (items theory.constraints) (Identify b paths) → (e f : Element) → IsIn T b e → IsIn T b f
      → AllByRecursion (ShareEnd T e f) paths → IsNamed e → IsNamed f → e ≡ f
  named_identified b paths c e f i j s (t, et) (u, eu) = elim (same_term t u) [
    | inl z ↦ et ∙ ap Named z ∙ sym eu
    | inr n ↦ absurd (identification_breaks b paths c (record {
      one = t;
      other = u;
      first = subst (IsIn P b) et (i.0, true_holds (shows b e i.0) i.1);
      second = subst (IsIn P b) eu (j.0, true_holds (shows b f j.0) j.1);
      share = subst (λ z. AllByRecursion (ShareEnd P z (Named u)) paths) et (subst (λ z. AllByRecursion (ShareEnd P e z) paths) eu (shares e f paths s));
      differ = n;
    }))
  ]

  is_identified : (b : Basic) (paths : List (List Step)) → Contains (items theory.constraints) (Identify b paths) → IsIdentified w b paths
  is_identified b paths c = λ e f i j s.
      let a = has_anchor (stated theory) theory.constraints restricted.unbreached.1 b paths c in
      let end = each_in (ShareEnd T e f) a.path.path paths s a.path.among in
      elim (two_subjects a.prop a.unspecialised e f end.0 (along_pair T a.path.path a.prop e end.0 a.path.is end.1.0) (along_pair T a.path.path a.prop f end.0 a.path.is end.1.1)) [
        | inl x ↦ named_identified b paths c e f i j s x.0 x.1
        | inr x ↦ x
      ]

  is_denied : (atoms : List Atom) → Contains (items theory.constraints) (Deny atoms) → HasTuple (constant_by w theory) T (asks atoms) [] → ⊥
  is_denied atoms c h =
      let m = map_out (λ z. z.item) theory.constraints (Deny atoms) c in
      model (_, constraint m.element m.stands (subst (BreaksConstraint theory P) m.is (kept_certain (asks atoms) [] h)) refl)

  pub kept_world : IsWorld w theory F
  kept_world = record {
    names_differ = λ t u e. named_same t u (sym (kw.names t) ∙ e ∙ kw.names u);
    values_have_kinds = λ v. subst (λ z. IsKindOf (stated theory) P z (w.kind (w.named (term.Value v)))) (kw.names (term.Value v)) (kw.kinds (w.named (term.Value v)));
    facts_are_true = facts_true;
    obeys = obeyed;
    keeps_apart = λ n c. unbroken_apart w n (apart n c);
    functional = has_one;
    identified = is_identified;
    denied = is_denied;
  }

  -- Kept law
  pub kept_law : KeptLaw w theory F
  kept_law = record { world = kept_world; answers = λ q tuple. (kept_certain q tuple, certain_true w theory F kept_world q tuple) }
