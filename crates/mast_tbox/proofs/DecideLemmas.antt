-- Whether an atom stands in Down of another is decided, and there is a list of Down of an atom.
use Rattle.std.proofs.Common.{◌≡◌, ◌⊎◌, inl, inr, List, [], ◌∷◌, ◌++◌, map, Contains, refl, sym, ap, subst, ◌∙◌}
use Rattle.std.proofs.lemmas.List.Elements.{Contains-append_left, Contains-append_right}
use Rattle.std.specs.declared.cmp.Ordering.{Ordering}
use Rattle.std.specs.declared.cmp.Ordering.TheVariants.{Less, Equal, Greater}
use Rattle.std.specs.Ordering.{ordering_reverse}
use Rattle.std.proofs.lemmas.Cmp.{nat_list_cmp_total}
use Rattle.mast_cq.specs.declared.atom.Arg.{Arg}
use Rattle.mast_cq.specs.declared.atom.Arg.TheVariants.{Blank}
use Rattle.mast_cq.specs.declared.atom.Atom.{Atom}
use Rattle.mast_cq.specs.declared.atom.Atom.TheVariants.{Class, Role, Attr}
use Rattle.mast_cq.specs.Queries.{atom_key, atom_order}
use Rattle.mast_cq.proofs.OrderLemmas.{order_equal}
use Rattle.mast_tbox.specs.declared.expression.RoleExpr.TheVariants.{Direct, Inverse}
use Rattle.mast_tbox.specs.declared.expression.Basic.{Basic}
use Rattle.mast_tbox.specs.declared.expression.Basic.TheVariants.{Class as BClass, Some as BSome, Subjects}
use Rattle.mast_tbox.specs.declared.expression.Prop.{Prop}
use Rattle.mast_tbox.specs.declared.expression.Prop.TheVariants.{Role as PRole, Attr as PAttr}
use Rattle.mast_tbox.specs.declared.axiom.Inclusion.{Inclusion}
use Rattle.mast_tbox.specs.Closure.{AtomStep, Down}
use Rattle.mast_tbox.specs.inside.StepLists.{steps_of}
use Rattle.mast_tbox.specs.Expressions.{pair, at, subjects}
use Rattle.mast_tbox.specs.Inclusions.{Leads, IsDirectlyBelow, by_class, by_filler, concept_pairs, pairs}
use Rattle.mast_tbox.specs.inside.StepLists.{prop_pairs}
use Rattle.mast_tbox.specs.Laws.{Decided, IsFinite}
use Rattle.mast_tbox.proofs.MemberLemmas.{front, later, none, first_or, map_in}
use Rattle.mast_tbox.proofs.BelowLemmas.{directly_pair, leads_pair, pairs_has}
use Rattle.mast_tbox.proofs.StepLemmas.{steps_are}
use Rattle.mast_tbox.proofs.ThroughLemmas.{dec_as, dec_in, dec_reaches, finite_reaches}

itself_case : (g : Atom) (o : Ordering) → atom_order g g ≡ o → atom_order g g ≡ ordering_reverse o → o ≡ Equal
itself_case g Equal e f = refl
itself_case g Less e f = cc
itself_case g Greater e f = cc

order_itself : (g : Atom) → atom_order g g ≡ Equal
order_itself g = itself_case g (atom_order g g) refl (nat_list_cmp_total.antisymm (atom_key g) (atom_key g))

unlike : (g h : Atom) (o : Ordering) → atom_order g h ≡ o → (o ≡ Equal → ⊥) → g ≡ h → ⊥
unlike g h o e n f = n (sym e ∙ (sym (ap (atom_order g) f) ∙ order_itself g))

same_case : (g h : Atom) (o : Ordering) → atom_order g h ≡ o → (g ≡ h) ⊎ (g ≡ h → ⊥)
same_case g h Equal e = inl (order_equal g h e)
same_case g h Less e = inr (unlike g h Less e (λ f. cc))
same_case g h Greater e = inr (unlike g h Greater e (λ f. cc))

-- two atoms are one or not
pub same_atom : (g h : Atom) → Decided (g ≡ h)
same_atom g h = same_case g h (atom_order g h) refl

-- a step from one atom to another is decided
pub step_decided : (tbox : List Inclusion) (g h : Atom) → Decided (AtomStep tbox g h)
step_decided tbox g h = dec_as (steps_are tbox g h) (dec_in same_atom (steps_of tbox g) h)

-- Down of an atom is decided, and listed
record IsDecidedList (tbox : List Inclusion) (g : Atom) : Type 0 where
  decided : (h : Atom) → Decided (Down tbox g h)
  finite : IsFinite (Down tbox g)

-- the arguments of the atom stand in the list
abbrev pub ArgsIn : List Arg → Atom → Type 0
ArgsIn args (Class a x) = Contains args x
ArgsIn args (Role p x y) = Contains args x × Contains args y
ArgsIn args (Attr u x y) = Contains args x × Contains args y

-- what f makes of each of two lists
abbrev both : {X Y Z : Type 0} → (X → Y → Z) → List X → List Y → List Z
both f [] ys = []
both f (x ∷ xs) ys = map (f x) ys ++ both f xs ys

abbrev pair_at : Prop × Prop → Arg × Arg → Atom
pair_at p a = pair p.0 a.0 a.1

abbrev two : Arg → Arg → Arg × Arg
two x y = (x, y)

both_in : {X Y Z : Type 0} (f : X → Y → Z) (xs : List X) (ys : List Y) (x : X) (y : Y) → Contains xs x → Contains ys y → Contains (both f xs ys) (f x y)
both_in f [] ys x y c d = absurd (none x c)
both_in f (z ∷ xs) ys x y c d = elim (first_or z xs x c) [
  | inl e ↦ Contains-append_left (map (f z) ys) (both f xs ys) (f x y) (subst (λ w. Contains (map (f w) ys) (f x y)) e (map_in (f x) ys y d))
  | inr i ↦ Contains-append_right (map (f z) ys) (both f xs ys) (f x y) (both_in f xs ys x y i d)
]

module _ (tbox : List Inclusion) (args : List Arg) (blank : Contains args Blank) where
  -- all atoms that steps may give, over the arguments
  abbrev concept_atoms : List Atom
  concept_atoms = both at (map (λ p. p.0) (pairs concept_pairs tbox)) args

  abbrev role_atoms : List Atom
  role_atoms = both pair_at (pairs prop_pairs tbox) (both two args args)

  at_args : (b : Basic) (x : Arg) → Contains args x → ArgsIn args (at b x)
  at_args (BClass a) x c = c
  at_args (BSome (Direct p)) x c = (c, blank)
  at_args (BSome (Inverse p)) x c = (blank, c)
  at_args (Subjects u) x c = (c, blank)

  pair_args : (p : Prop) (x y : Arg) → Contains args x → Contains args y → ArgsIn args (pair p x y)
  pair_args (PRole (Direct p)) x y c d = (c, d)
  pair_args (PRole (Inverse p)) x y c d = (d, c)
  pair_args (PAttr u) x y c d = (c, d)

  args_pair : (p : Prop) (x y : Arg) → ArgsIn args (pair p x y) → Contains args x × Contains args y
  args_pair (PRole (Direct p)) x y a = a
  args_pair (PRole (Inverse p)) x y a = (a.1, a.0)
  args_pair (PAttr u) x y a = a

  lower_has : (c b : Basic) → IsDirectlyBelow tbox c b → Contains (map (λ p. p.0) (pairs concept_pairs tbox)) c
  lower_has c b d = let w = directly_pair tbox c b d in map_in (λ p. p.0) (pairs concept_pairs tbox) (c, b) (pairs_has concept_pairs tbox w.inclusion (c, b) w.stands w.gives)

  concept_has : (c b : Basic) (x : Arg) → IsDirectlyBelow tbox c b → Contains args x → Contains (concept_atoms ++ role_atoms) (at c x)
  concept_has c b x d a = Contains-append_left concept_atoms role_atoms (at c x) (both_in at (map (λ p. p.0) (pairs concept_pairs tbox)) args c x (lower_has c b d) a)

  role_has : (p q : Prop) (x y : Arg) → Leads tbox p q → Contains args x → Contains args y → Contains (concept_atoms ++ role_atoms) (pair p x y)
  role_has p q x y l a b =
      let w = leads_pair tbox p q l in
      Contains-append_right concept_atoms role_atoms (pair p x y)
      (both_in pair_at (pairs prop_pairs tbox) (both two args args) (p, q) (two x y) (pairs_has prop_pairs tbox w.inclusion (p, q) w.stands w.gives) (both_in two args args x y a b))

  step_keeps : (g h : Atom) → ArgsIn args g → AtomStep tbox g h → ArgsIn args h × Contains (concept_atoms ++ role_atoms) h
  step_keeps g h i (AtomStep.into_class b a x s eg eh) =
      let c : Contains args x = subst (ArgsIn args) eg i in
      (subst (ArgsIn args) (sym eh) (at_args b x c), subst (Contains (concept_atoms ++ role_atoms)) (sym eh) (concept_has b (BClass a) x (by_class a s refl) c))
  step_keeps g h i (AtomStep.adds b p k x s eg eh) =
      let c = (args_pair p x Blank (subst (ArgsIn args) eg i)).0 in
      (subst (ArgsIn args) (sym eh) (at_args b x c), subst (Contains (concept_atoms ++ role_atoms)) (sym eh) (concept_has b (subjects p) x (by_filler p k s refl) c))
  step_keeps g h i (AtomStep.widens p q x y s eg eh) =
      let c = args_pair q x y (subst (ArgsIn args) eg i) in
      (subst (ArgsIn args) (sym eh) (pair_args p x y c.0 c.1), subst (Contains (concept_atoms ++ role_atoms)) (sym eh) (role_has p q x y (inl s) c.0 c.1))

  within_args : (g : Atom) → ArgsIn args g → IsDecidedList tbox g
  within_args g i = record {
    decided = λ h. dec_reaches (AtomStep tbox) (ArgsIn args) (concept_atoms ++ role_atoms) step_keeps same_atom (step_decided tbox) g h i;
    finite = finite_reaches (AtomStep tbox) (ArgsIn args) (concept_atoms ++ role_atoms) step_keeps same_atom (step_decided tbox) g i;
  }

list_of : (tbox : List Inclusion) (g : Atom) → IsDecidedList tbox g
list_of tbox (Class a x) = within_args tbox (Blank ∷ x ∷ []) (front Blank (x ∷ [])) (Class a x) (later x Blank (x ∷ []) (front x []))
list_of tbox (Role p x y) =
    within_args tbox (Blank ∷ x ∷ y ∷ []) (front Blank (x ∷ y ∷ [])) (Role p x y)
    (later x Blank (x ∷ y ∷ []) (front x (y ∷ [])), later y Blank (x ∷ y ∷ []) (later y x (y ∷ []) (front y [])))
list_of tbox (Attr u x y) =
    within_args tbox (Blank ∷ x ∷ y ∷ []) (front Blank (x ∷ y ∷ [])) (Attr u x y)
    (later x Blank (x ∷ y ∷ []) (front x (y ∷ [])), later y Blank (x ∷ y ∷ []) (later y x (y ∷ []) (front y [])))

-- whether an atom stands in Down of another
pub down_decided : (tbox : List Inclusion) (g h : Atom) → Decided (Down tbox g h)
down_decided tbox g h = (list_of tbox g).decided h

-- there is a list of exactly the members of Down of an atom
pub down_finite : (tbox : List Inclusion) (g : Atom) → IsFinite (Down tbox g)
down_finite tbox g = (list_of tbox g).finite
