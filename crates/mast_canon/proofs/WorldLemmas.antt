-- World law: each element has an image in a world, under which what holds is true.
use Rattle.std.proofs.Common.{◌≡◌, ℕ, inl, inr, List, [], ◌∷◌, ◌++◌, Some, Contains, refl, sym, subst}
use Rattle.std.proofs.lemmas.List.Elements.{Contains-append_left, Contains-append_right}
use Rattle.mast_terms.specs.declared.name.Name.{Name}
use Rattle.mast_terms.specs.declared.term.Term.{Term}
use Rattle.mast_terms.specs.declared.term.Term.TheVariants as term
use Rattle.mast_terms.specs.declared.value.Kind.{Kind}
use Rattle.mast_tables.specs.Whole.{value_kind}
use Rattle.mast_cq.specs.declared.query.Cq.{Cq}
use Rattle.mast_cq.specs.Meanings.{Fact, InClass, InRole, InAttr}
use Rattle.mast_tbox.specs.declared.axiom.Inclusion.{Inclusion}
use Rattle.mast_tbox.specs.declared.axiom.Inclusion.TheVariants.{Class as IClass, Exists, HasValue, Role as IRole, Attr as IAttr, Range}
use Rattle.mast_tbox.specs.declared.axiom.Lined.{Lined}
use Rattle.mast_tbox.specs.declared.constraint.Constraint.{Constraint}
use Rattle.mast_tbox.specs.declared.constraint.Constraint.TheVariants.{Functional, Identify, Deny}
use Rattle.mast_tbox.specs.declared.expression.Basic.{Basic}
use Rattle.mast_tbox.specs.declared.expression.Prop.{Prop}
use Rattle.mast_tbox.specs.declared.expression.Prop.TheVariants.{Role as PRole, Attr as PAttr}
use Rattle.mast_tbox.specs.Inclusions.{Adds, States}
use Rattle.mast_tbox.specs.Lists.{items}
use Rattle.mast_tbox.specs.Restrictions.{IsFunctional}
use Rattle.mast_tbox.proofs.MemberLemmas.{front, map_in, map_out}
use Rattle.mast_canon.specs.CertainAnswers.{HoldsBy, Certain, constant_in}
use Rattle.mast_canon.specs.Derivations.{FactStep, IsSource, source, follows}
use Rattle.mast_canon.specs.Elements.{Element, Named, Successor, map_fact}
use Rattle.mast_canon.specs.Interpretations.{Interpretation, IsTrue, IsAnswer}
use Rattle.mast_canon.specs.Memberships.{pair_fact, shows, ShareEnd}
use Rattle.mast_canon.specs.NoModels.{BreaksRange, wrong, two, BreaksFunctional, BreaksConstraint, negative, range, functional, constraint, NoModel, asks}
use Rattle.mast_canon.specs.Theories.{Theory, stated}
use Rattle.mast_canon.specs.WorldLaws.{WorldLaw}
use Rattle.mast_canon.specs.Worlds.{IsWorld}
use Rattle.mast_canon.proofs.ApartLemmas.{apart_unbroken}
use Rattle.mast_canon.proofs.ImageLemmas.{map_pair, map_shows, in_image, pair_image, negative_image, share_image, tuple_image}
use Rattle.mast_canon.proofs.SupportLemmas.{each_weaker}

module _ {X : Type 0} (w : Interpretation X) where
  -- what a named term names, and the filler of the parent's image
  abbrev pub image : Element → X
  image (Named t) = w.named t
  image (Successor t k) = w.fill k (image t)

  image_named : (f : Fact Term) → map_fact image (map_fact Named f) ≡ map_fact w.named f
  image_named (InClass a t) = refl
  image_named (InRole p t u) = refl
  image_named (InAttr v t u) = refl

  module _ (theory : Theory) (F : Fact Term → Type 0) (world : IsWorld w theory F) where
    abbrev T : Fact X → Type 0
    T = IsTrue w

    abbrev I : Fact Element → Type 0
    I f = T (map_fact image f)

    shown : (b : Basic) (t u : Element) (f : Fact Element) → f ≡ shows b t u → I f → T (shows b (image t) (image u))
    shown b t u f e h = subst T (map_shows image b t u) (subst I e h)

    paired : (p : Prop) (t u : Element) → T (pair_fact p (image t) (image u)) → I (pair_fact p t u)
    paired p t u h = subst T (sym (map_pair image p t u)) h

    add_true : (b : Basic) (p : Prop) (k : ℕ) (t u : Element) → Adds (stated theory) b p k → T (shows b (image t) (image u)) → T (pair_fact p (image t) (w.fill k (image t)))
    add_true b (PRole r) k t u (end, c) h = (world.obeys (Exists b r end k) c (image t) (image u, h)).0
    add_true b (PAttr v) k t u c h = world.obeys (HasValue b v k) c (image t) (image u, h)

    widen_true : (p q : Prop) (t u : X) → States (stated theory) p q → T (pair_fact p t u) → T (pair_fact q t u)
    widen_true (PRole r) (PRole s) t u c h = world.obeys (IRole r s) c t u h
    widen_true (PRole r) (PAttr v) t u c h = absurd c
    widen_true (PAttr v) (PRole s) t u c h = absurd c
    widen_true (PAttr v) (PAttr v') t u c h = world.obeys (IAttr v v') c t u h

    step_true : (f g : Fact Element) → FactStep (stated theory) f g → I f → I g
    step_true f g (FactStep.into_class b a t u c ef eg) h = subst I (sym eg) (world.obeys (IClass b a) c (image t) (image u, shown b t u f ef h))
    step_true f g (FactStep.adds b p k t u c ef eg) h = subst I (sym eg) (paired p t (Successor t k) (add_true b p k t u c (shown b t u f ef h)))
    step_true f g (FactStep.ends b r a k t u c ef eg) h = subst I (sym eg) (world.obeys (Exists b r (Some a) k) c (image t) (image u, shown b t u f ef h)).1
    step_true f g (FactStep.widens p q t u c ef eg) h =
        subst I (sym eg) (paired q t u (widen_true p q (image t) (image u) c (subst T (map_pair image p t u) (subst I ef h))))

    source_true : (f : Fact Element) → IsSource F f → I f
    source_true f s = subst I (sym s.is) (subst T (sym (image_named s.fact)) (world.facts_are_true s.fact s.given))

    -- what holds is true of the images
    pub holds_true : (f : Fact Element) → HoldsBy theory F f → I f
    holds_true f (source s) = source_true f s
    holds_true f (follows {f = e} h step) = step_true e f step (holds_true e h)

    -- a certain answer is an answer in the world
    pub certain_true : (q : Cq) (tuple : List Term) → Certain theory F q tuple → IsAnswer w theory q tuple
    certain_true q tuple c = tuple_image image (HoldsBy theory F) T holds_true (constant_in theory) Named w.named (λ t. refl) q tuple c

    of_item : {A : Type 0} (ls : List (Lined A)) (l : Lined A) → Contains ls l → Contains (items ls) l.item
    of_item ls l c = map_in (λ z. z.item) ls l c

    kind_known : (u : Name) (kind : Kind) (e v : X) → Contains (stated theory) (Range u kind) → w.attr u e v → w.kind v ≡ Some kind
    kind_known u kind e v c h = world.obeys (Range u kind) c e v h

    one_kind : (v : X) (k j : Kind) → w.kind v ≡ Some k → w.kind v ≡ Some j → k ≡ j
    one_kind v k j e f = cc

    range_unbroken : (earlier : List Inclusion) (u : Name) (kind : Kind) → Contains (stated theory) (Range u kind) → ((i : Inclusion) → Contains earlier i → Contains (stated theory) i)
        → BreaksRange (HoldsBy theory F) earlier u kind → ⊥
    range_unbroken earlier u kind c more (wrong t v h e) =
        e (one_kind (w.named (term.Value v)) (value_kind v) kind (world.values_have_kinds v) (kind_known u kind (image t) (w.named (term.Value v)) c (holds_true (InAttr u t (Named (term.Value v))) h)))
    range_unbroken earlier u kind c more (two u' its t s v d e h k) =
        e (one_kind (image v) its kind (kind_known u' its (image s) (image v) (more (Range u' its) d) (holds_true (InAttr u' s v) k))
        (kind_known u kind (image t) (image v) c (holds_true (InAttr u t v) h)))

    functional_unbroken : (p : Prop) → IsFunctional theory.functional theory.constraints p → BreaksFunctional (HoldsBy theory F) p → ⊥
    functional_unbroken p i b =
        b.differ (world.names_differ b.one b.other (world.functional p i (w.named b.subject) (w.named b.one) (w.named b.other)
        (pair_image image (HoldsBy theory F) T holds_true p (Named b.subject) (Named b.one) b.first)
        (pair_image image (HoldsBy theory F) T holds_true p (Named b.subject) (Named b.other) b.second)))

    constraint_unbroken : (c : Constraint) → Contains (items theory.constraints) c → BreaksConstraint theory (HoldsBy theory F) c → ⊥
    constraint_unbroken (Functional p) i b = functional_unbroken p (inr i) b
    constraint_unbroken (Identify concept paths) i b =
        b.differ (world.names_differ b.one b.other (world.identified concept paths i (w.named b.one) (w.named b.other)
        (in_image image (HoldsBy theory F) T holds_true concept (Named b.one) b.first)
        (in_image image (HoldsBy theory F) T holds_true concept (Named b.other) b.second)
        (each_weaker (ShareEnd (HoldsBy theory F) (Named b.one) (Named b.other)) (ShareEnd T (w.named b.one) (w.named b.other))
        (share_image image (HoldsBy theory F) T holds_true (Named b.one) (Named b.other)) paths b.share)))
    constraint_unbroken (Deny atoms) i b = world.denied atoms i (certain_true (asks atoms) [] b)

    earlier_in : (before after : List (Lined Inclusion)) (l : Lined Inclusion) → theory.inclusions ≡ before ++ l ∷ after → (i : Inclusion) → Contains (items before) i → Contains (stated theory) i
    earlier_in before after l e i c =
        let m = map_out (λ z. z.item) before i c in
        subst (Contains (stated theory)) (sym m.is) (of_item theory.inclusions m.element (subst (λ z. Contains z m.element) (sym e) (Contains-append_left before (l ∷ after) m.element m.stands)))

    here_in : (before after : List (Lined Inclusion)) (l : Lined Inclusion) → theory.inclusions ≡ before ++ l ∷ after → Contains (stated theory) l.item
    here_in before after l e = of_item theory.inclusions l (subst (λ z. Contains z l) (sym e) (Contains-append_right before (l ∷ after) l (front l after)))

    -- nothing is broken
    pub world_unbroken : NoModel theory F → ⊥
    world_unbroken (origin, negative l c b e) = apart_unbroken w l.item (world.keeps_apart l.item (of_item theory.negatives l c)) (negative_image image (HoldsBy theory F) T holds_true l.item b)
    world_unbroken (origin, range before after l u kind e i b f) =
        range_unbroken (items before) u kind (subst (Contains (stated theory)) i (here_in before after l e)) (earlier_in before after l e) b
    world_unbroken (origin, functional l c b e) = functional_unbroken l.item (inl (of_item theory.functional l c)) b
    world_unbroken (origin, constraint l c b e) = constraint_unbroken l.item (of_item theory.constraints l c) b

    pub world_law : WorldLaw w theory F
    world_law = record { model = world_unbroken; answers = certain_true }
