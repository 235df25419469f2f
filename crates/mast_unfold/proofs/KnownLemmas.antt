-- The constants of what is below an atom are those of the atom.
use Rattle.std.proofs.Common.{◌≡◌, inl, inr, ℕ, List, refl, sym, subst}
use Rattle.mast_cq.specs.declared.atom.Arg.{Arg}
use Rattle.mast_cq.specs.declared.atom.Arg.TheVariants.{Blank, Var, Constant}
use Rattle.mast_cq.specs.declared.atom.Atom.{Atom}
use Rattle.mast_cq.specs.declared.atom.Atom.TheVariants.{Class, Role, Attr}
use Rattle.mast_cq.specs.Queries.{In}
use Rattle.mast_cq.specs.Sorts.{objects_of, values_of}
use Rattle.mast_cq.specs.UnifierMeanings.{KnownArg, KnownAtom}
use Rattle.mast_tbox.specs.declared.axiom.Inclusion.{Inclusion}
use Rattle.mast_tbox.specs.Arguments.{HaveSameArguments}
use Rattle.mast_tbox.specs.Closure.{Down}
use Rattle.mast_tbox.proofs.ArgumentLemmas.{down_same}

module _ (P : ℕ → Type 0) where
  known_same : (c : ℕ) (x : Arg) → Constant c ≡ x → KnownArg P x → P c
  known_same c x e h = subst (KnownArg P) (sym e) h

  -- a constant in an object place, and one in a value place, is known
  known_object : (g : Atom) → KnownAtom P g → (c : ℕ) → In (Constant c) (objects_of g) → P c
  known_object (Class a x) h c (inl e) = known_same c x e h
  known_object (Class a x) h c (inr i) = absurd i
  known_object (Role a x y) h c (inl e) = known_same c x e h.0
  known_object (Role a x y) h c (inr (inl e)) = known_same c y e h.1
  known_object (Role a x y) h c (inr (inr i)) = absurd i
  known_object (Attr a x y) h c (inl e) = known_same c x e h.0
  known_object (Attr a x y) h c (inr i) = absurd i

  known_value : (g : Atom) → KnownAtom P g → (c : ℕ) → In (Constant c) (values_of g) → P c
  known_value (Class a x) h c i = absurd i
  known_value (Role a x y) h c i = absurd i
  known_value (Attr a x y) h c (inl e) = known_same c y e h.1
  known_value (Attr a x y) h c (inr i) = absurd i

  no_blank : (c : ℕ) → Constant c ≡ Blank → ⊥
  no_blank c e = cc

  arg_known : (x : Arg) → ((c : ℕ) → x ≡ Constant c → P c) → KnownArg P x
  arg_known Blank k = tt
  arg_known (Var n) k = tt
  arg_known (Constant c) k = k c refl

  object_known : (g h : Atom) → KnownAtom P g → HaveSameArguments g h → (x : Arg) → In x (objects_of h) → KnownArg P x
  object_known g h k s x i = arg_known x (λ c e. known_object g k c ((s.objects (Constant c) (no_blank c)).1 (subst (λ (y : Arg). In y (objects_of h)) e i)))

  value_known : (g h : Atom) → KnownAtom P g → HaveSameArguments g h → (x : Arg) → In x (values_of h) → KnownArg P x
  value_known g h k s x i = arg_known x (λ c e. known_value g k c ((s.values (Constant c) (no_blank c)).1 (subst (λ (y : Arg). In y (values_of h)) e i)))

  atom_known : (g h : Atom) → KnownAtom P g → HaveSameArguments g h → KnownAtom P h
  atom_known g (Class a x) k s = object_known g (Class a x) k s x (inl refl)
  atom_known g (Role a x y) k s = (object_known g (Role a x y) k s x (inl refl), object_known g (Role a x y) k s y (inr (inl refl)))
  atom_known g (Attr a x y) k s = (object_known g (Attr a x y) k s x (inl refl), value_known g (Attr a x y) k s y (inl refl))

  -- the constants of a member of Down are known where those of its atom are
  pub down_known : (tbox : List Inclusion) (g h : Atom) → KnownAtom P g → Down tbox g h → KnownAtom P h
  down_known tbox g h k d = atom_known g h k (down_same tbox g h d)
