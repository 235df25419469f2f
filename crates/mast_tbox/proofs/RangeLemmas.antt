-- Names in range: those of normal inclusions, and of the members of Down.
use Rattle.std.proofs.Common.{◌≡◌, ℕ, ◌+◌, ◌<◌, ◌⊎◌, inl, inr, List, [], ◌∷◌, length, Option, Some, None, Contains, refl, sym, ap, subst, arith}
use Rattle.mast_terms.specs.declared.name.Name.{Name}
use Rattle.mast_terms.specs.declared.name.NameKind.{NameKind}
use Rattle.mast_terms.specs.declared.name.NameKind.TheVariants as kinds
use Rattle.mast_cq.specs.declared.atom.Arg.{Arg}
use Rattle.mast_cq.specs.declared.atom.Atom.{Atom}
use Rattle.mast_cq.specs.declared.atom.Atom.TheVariants.{Class, Role, Attr}
use Rattle.mast_cq.specs.Origins.{Named, NameBelow}
use Rattle.mast_tbox.specs.declared.expression.RoleExpr.{RoleExpr}
use Rattle.mast_tbox.specs.declared.expression.RoleExpr.TheVariants.{Direct, Inverse}
use Rattle.mast_tbox.specs.declared.expression.Basic.{Basic}
use Rattle.mast_tbox.specs.declared.expression.Basic.TheVariants.{Class as BClass, Some as BSome, Subjects}
use Rattle.mast_tbox.specs.declared.expression.Prop.{Prop}
use Rattle.mast_tbox.specs.declared.expression.Prop.TheVariants.{Role as PRole, Attr as PAttr}
use Rattle.mast_tbox.specs.declared.axiom.Lined.{Lined}
use Rattle.mast_tbox.specs.declared.axiom.Inclusion.{Inclusion}
use Rattle.mast_tbox.specs.declared.axiom.Inclusion.TheVariants.{Class as IClass, Exists, HasValue, Role as IRole, Attr as IAttr, Range}
use Rattle.mast_tbox.specs.Closure.{AtomStep, Down}
use Rattle.mast_tbox.specs.Expressions.{pair, at}
use Rattle.mast_tbox.specs.Inclusions.{first_auxiliary, auxiliary, normal_of, normal, Adds, States}
use Rattle.mast_tbox.specs.Lists.{itself, onward, items}
use Rattle.mast_tbox.specs.Names.{RoleNamed, PropNamed, BasicNamed, EndNamed, InclusionNamed, AreNamed, IsStatable, AreInRange, IsAuxiliary, AtomInRange, name_bounds}
use Rattle.mast_tbox.specs.Numbers.{IsNumbered}
use Rattle.mast_tbox.proofs.MemberLemmas.{none, first_or, only_one}
use Rattle.mast_tbox.proofs.NumberLemmas.{source_of, number_small, numbers_below}

module _ (P : NameKind → ℕ → Type 0) where
  -- what a step takes from an inclusion: its left side, and the names of properties
  abbrev Known : Inclusion → Type 0
  Known (IClass b a) = BasicNamed P b
  Known (Exists b r end k) = BasicNamed P b
  Known (HasValue b u k) = BasicNamed P b
  Known (IRole r s) = RoleNamed P r
  Known (IAttr u v) = P kinds.Attr u.0
  Known (Range u kind) = Unit {0}

  at_named : (b : Basic) (x : Arg) → BasicNamed P b → Named P (at b x)
  at_named (BClass a) x k = k
  at_named (BSome (Direct p)) x k = k
  at_named (BSome (Inverse p)) x k = k
  at_named (Subjects u) x k = k

  pair_named : (p : Prop) (x y : Arg) → PropNamed P p → Named P (pair p x y)
  pair_named (PRole (Direct p)) x y k = k
  pair_named (PRole (Inverse p)) x y k = k
  pair_named (PAttr u) x y k = k

  module _ (tbox : List Inclusion) (known : (i : Inclusion) → Contains tbox i → Known i) where
    added_known : (b : Basic) (p : Prop) (k : ℕ) → Adds tbox b p k → BasicNamed P b
    added_known b (PRole r) k a = known (Exists b r a.0 k) a.1
    added_known b (PAttr u) k a = known (HasValue b u k) a

    stated_known : (p q : Prop) → States tbox p q → PropNamed P p
    stated_known (PRole r) (PRole s) c = known (IRole r s) c
    stated_known (PRole r) (PAttr v) c = absurd c
    stated_known (PAttr u) (PRole s) c = absurd c
    stated_known (PAttr u) (PAttr v) c = known (IAttr u v) c

    step_named : (g h : Atom) → AtomStep tbox g h → Named P h
    step_named g h (AtomStep.into_class b a x s eg eh) = subst (Named P) (sym eh) (at_named b x (known (IClass b a) s))
    step_named g h (AtomStep.adds b p k x s eg eh) = subst (Named P) (sym eh) (at_named b x (added_known b p k s))
    step_named g h (AtomStep.widens p q x y s eg eh) = subst (Named P) (sym eh) (pair_named p x y (stated_known p q s))

    -- what holds of the names that steps take and of an atom's name holds of the names of the members of its Down
    pub down_known : (g h : Atom) → Named P g → Down tbox g h → Named P h
    down_known g h i itself = i
    down_known g h i (onward {y = w} s d) = down_known w h (step_named g w s) d

  named_known : (i : Inclusion) → InclusionNamed P i → Known i
  named_known (IClass b a) n = n.0
  named_known (Exists b r end k) n = n.0
  named_known (HasValue b u k) n = n.0
  named_known (IRole r s) n = n.0
  named_known (IAttr u v) n = n.0
  named_known (Range u kind) n = tt

  -- what holds of the names of the inclusions and of an atom's name holds of the names of the members of its Down
  pub down_named : (tbox : List Inclusion) → AreNamed P tbox → (g h : Atom) → Named P g → Down tbox g h → Named P h
  down_named tbox all = down_known tbox (λ i c. named_known i (all i c))

  module _ (tbox : List Inclusion) (aux : (p : Name) → IsAuxiliary tbox p → P kinds.Role p.0) where
    normal_of_named : (s i : Inclusion) → Contains tbox s → InclusionNamed P s → Contains (normal_of s) i → InclusionNamed P i
    normal_of_named (IClass b a) i c r g = subst (InclusionNamed P) (sym (only_one (IClass b a) i g)) r
    normal_of_named (Exists b t None k) i c r g = subst (InclusionNamed P) (sym (only_one (Exists b t None k) i g)) r
    normal_of_named (Exists b t (Some a) k) i c r g =
        let known : P kinds.Role (auxiliary k).0 = aux (auxiliary k) (record { sub = b; role = t; end = a; number = k; stands = c; is = refl }) in
        elim (first_or (IRole (Direct (auxiliary k)) t) (IClass (BSome (Inverse (auxiliary k))) a ∷ Exists b (Direct (auxiliary k)) None k ∷ []) i g) [
          | inl e ↦ subst (InclusionNamed P) (sym e) (known, r.1.0)
          | inr d ↦ elim (first_or (IClass (BSome (Inverse (auxiliary k))) a) (Exists b (Direct (auxiliary k)) None k ∷ []) i d) [
            | inl e ↦ subst (InclusionNamed P) (sym e) (known, r.1.1)
            | inr f ↦ subst (InclusionNamed P) (sym (only_one (Exists b (Direct (auxiliary k)) None k) i f)) (r.0, (known, tt))
          ]
        ]
    normal_of_named (HasValue b u k) i c r g = subst (InclusionNamed P) (sym (only_one (HasValue b u k) i g)) r
    normal_of_named (IRole t s) i c r g = subst (InclusionNamed P) (sym (only_one (IRole t s) i g)) r
    normal_of_named (IAttr u v) i c r g = subst (InclusionNamed P) (sym (only_one (IAttr u v) i g)) r
    normal_of_named (Range u kind) i c r g = absurd (none i g)

    -- what holds of the names of the inclusions and of their auxiliary roles holds of the names of the normal inclusions
    pub normal_named : AreNamed P tbox → AreNamed P (normal tbox)
    normal_named all i c = let w = source_of tbox i c in normal_of_named w.stated i w.stands (all w.stated w.stands) w.gives

module _ (tbox : List Inclusion) where
  -- a number of a role is that of a name in range, or of an auxiliary role; one of another kind is in range
  abbrev Ranged : NameKind → ℕ → Type 0
  Ranged kinds.Class n = n < first_auxiliary
  Ranged kinds.Role n = (n < first_auxiliary) ⊎ IsAuxiliary tbox (record { 0 = n })
  Ranged kinds.Attr n = n < first_auxiliary

  role_ranged : (r : RoleExpr) → RoleNamed IsStatable r → RoleNamed Ranged r
  role_ranged (Direct p) i = inl i
  role_ranged (Inverse p) i = inl i

  basic_ranged : (b : Basic) → BasicNamed IsStatable b → BasicNamed Ranged b
  basic_ranged (BClass a) i = i
  basic_ranged (BSome r) i = role_ranged r i
  basic_ranged (Subjects u) i = i

  end_ranged : (end : Option Name) → EndNamed IsStatable end → EndNamed Ranged end
  end_ranged None i = tt
  end_ranged (Some a) i = i

  inclusion_ranged : (i : Inclusion) → InclusionNamed IsStatable i → InclusionNamed Ranged i
  inclusion_ranged (IClass b a) r = (basic_ranged b r.0, r.1)
  inclusion_ranged (Exists b t end k) r = (basic_ranged b r.0, (role_ranged t r.1.0, end_ranged end r.1.1))
  inclusion_ranged (HasValue b u k) r = (basic_ranged b r.0, r.1)
  inclusion_ranged (IRole t s) r = (role_ranged t r.0, role_ranged s r.1)
  inclusion_ranged (IAttr u v) r = r
  inclusion_ranged (Range u kind) r = r

  ranged_atom : (g : Atom) → Named Ranged g → AtomInRange tbox g
  ranged_atom (Class a x) i = i
  ranged_atom (Role p x y) i = i
  ranged_atom (Attr u x y) i = i

  atom_ranged : (g : Atom) → AtomInRange tbox g → Named Ranged g
  atom_ranged (Class a x) i = i
  atom_ranged (Role p x y) i = i
  atom_ranged (Attr u x y) i = i

  -- the members of Down of an atom in range, by the normal inclusions, have names in range
  pub down_range : AreInRange tbox → (g h : Atom) → AtomInRange tbox g → Down (normal tbox) g h → AtomInRange tbox h
  down_range range g h i d =
      let all = normal_named Ranged tbox (λ p a. inr a) (λ j c. inclusion_ranged j (range j c)) in
      ranged_atom h (down_named Ranged (normal tbox) all g h (atom_ranged g i) d)

-- names in range, and auxiliary roles of numbered inclusions, are below the bounds
pub range_bounded : (lines : List (Lined Inclusion)) → IsNumbered lines → (g : Atom) → AtomInRange (items lines) g → NameBelow (name_bounds (length lines)) g
range_bounded lines n (Class a x) i = i
range_bounded lines n (Role p x y) (inl i) = let l : p.0 < first_auxiliary = i in omega arith
range_bounded lines n (Role p x y) (inr a) =
    let l : a.number < length lines = number_small (length lines) lines (Exists a.sub a.role (Some a.end) a.number) a.number (numbers_below lines (length lines) n (omega arith)) a.stands refl in
    let e : p.0 ≡ first_auxiliary + a.number = ap (λ m. m.0) a.is in
    omega arith
range_bounded lines n (Attr u x y) i = i
