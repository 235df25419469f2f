-- How deep the elements of an assignment are, and a variable of a list of atoms that stands for a deepest one.
use Rattle.std.proofs.Common.{◌≡◌, ℕ, suc, ◌<◌, ◌≤◌, List, [], ◌∷◌, ◌⊎◌, inl, inr, refl, sym, ap, subst, arith, max}
use native.Mathlib.Decide.{dec_le}
use Rattle.mast_terms.specs.declared.term.Term.{Term}
use Rattle.mast_cq.specs.declared.atom.Arg.{Arg}
use Rattle.mast_cq.specs.declared.atom.Arg.TheVariants.{Blank, Var, Constant}
use Rattle.mast_cq.specs.declared.atom.Atom.{Atom}
use Rattle.mast_cq.specs.declared.atom.Atom.TheVariants.{Class, Role, Attr}
use Rattle.mast_cq.specs.Meanings.{Fact, InClass, InRole, InAttr, Fits, Match}
use Rattle.mast_cq.specs.NormalForms.{Occurs}
use Rattle.mast_cq.specs.Queries.{Takes, first, later}
use Rattle.mast_canon.specs.Derivations.{IsSource}
use Rattle.mast_canon.specs.Elements.{Element, Named, Successor, map_fact}

-- how many successors an element is away from a named term
abbrev pub depth : Element → ℕ
depth (Named t) = 0
depth (Successor e k) = suc (depth e)

-- the named term from which an element comes
abbrev pub root : Element → Term
root (Named t) = t
root (Successor e k) = root e

-- an element of no depth is named
pub named_root : (e : Element) → depth e ≡ 0 → e ≡ Named (root e)
named_root (Named t) z = refl
named_root (Successor e k) z = absurd (omega (arith, z))

module _ (s : ℕ → Element) where
  abbrev arg_depth : Arg → ℕ
  arg_depth Blank = 0
  arg_depth (Var n) = depth (s n)
  arg_depth (Constant c) = 0

  abbrev atom_depth : Atom → ℕ
  atom_depth (Class a x) = arg_depth x
  atom_depth (Role a x y) = max (arg_depth x) (arg_depth y)
  atom_depth (Attr a x y) = max (arg_depth x) (arg_depth y)

  -- the greatest depth of what a variable of the atoms stands for
  abbrev pub list_depth : List Atom → ℕ
  list_depth [] = 0
  list_depth (g ∷ gs) = max (atom_depth g) (list_depth gs)

  arg_bound : (n : ℕ) (x : Arg) → x ≡ Var n → depth (s n) ≤ arg_depth x
  arg_bound n x e = rw e (omega arith)

  pair_bound : (n : ℕ) (x y : Arg) → (x ≡ Var n) ⊎ (y ≡ Var n) → depth (s n) ≤ max (arg_depth x) (arg_depth y)
  pair_bound n x y (inl e) = let h = arg_bound n x e in omega arith
  pair_bound n x y (inr e) = let h = arg_bound n y e in omega arith

  atom_bound : (n : ℕ) (g : Atom) → Occurs n g → depth (s n) ≤ atom_depth g
  atom_bound n (Class a x) o = arg_bound n x o
  atom_bound n (Role a x y) o = pair_bound n x y o
  atom_bound n (Attr a x y) o = pair_bound n x y o

  -- no variable of the atoms stands for a deeper one
  pub list_bound : (n : ℕ) {gs : List Atom} {g : Atom} {rest : List Atom} → Takes gs g rest → Occurs n g → depth (s n) ≤ list_depth gs
  list_bound n (first {x = g} {xs = gs}) o = let h = atom_bound n g o in omega arith
  list_bound n (later {y = i} {xs = gs} t) o = let h = list_bound n t o in omega arith

  -- a variable of the atoms, in one of them, stands for an element of the greatest depth
  pub record Deepest (gs : List Atom) : Type 0 where
    pub var : ℕ
    pub atom : Atom
    pub rest : List Atom
    pub takes : Takes gs atom rest
    pub occurs : Occurs var atom
    pub is : depth (s var) ≡ list_depth gs

  record DeepArg (x : Arg) : Type 0 where
    var : ℕ
    is : x ≡ Var var
    deep : depth (s var) ≡ arg_depth x

  deep_arg : (x : Arg) → 0 < arg_depth x → DeepArg x
  deep_arg Blank h = absurd (omega arith)
  deep_arg (Var n) h = record { var = n; is = refl; deep = refl }
  deep_arg (Constant c) h = absurd (omega arith)

  record DeepAtom (g : Atom) (d : ℕ) : Type 0 where
    var : ℕ
    occurs : Occurs var g
    deep : depth (s var) ≡ d

  record DeepPair (x y : Arg) : Type 0 where
    var : ℕ
    is : (x ≡ Var var) ⊎ (y ≡ Var var)
    deep : depth (s var) ≡ max (arg_depth x) (arg_depth y)

  deep_pair : (x y : Arg) → 0 < max (arg_depth x) (arg_depth y) → DeepPair x y
  deep_pair x y h = go (dec_le (arg_depth x) (arg_depth y))
    where
      go : Dec (arg_depth x ≤ arg_depth y) → DeepPair x y
      go (yes l) = let w = deep_arg y (omega arith) in record { var = w.var; is = inr w.is; deep = let e = w.deep in omega arith }
      go (no l) = let w = deep_arg x (omega arith) in record { var = w.var; is = inl w.is; deep = let e = w.deep in omega arith }

  deep_atom : (g : Atom) → 0 < atom_depth g → DeepAtom g (atom_depth g)
  deep_atom (Class a x) h = let w = deep_arg x h in record { var = w.var; occurs = w.is; deep = w.deep }
  deep_atom (Role a x y) h = let w = deep_pair x y h in record { var = w.var; occurs = w.is; deep = w.deep }
  deep_atom (Attr a x y) h = let w = deep_pair x y h in record { var = w.var; occurs = w.is; deep = w.deep }

  deepest_case : (g : Atom) (gs : List Atom) → 0 < max (atom_depth g) (list_depth gs) → (0 < list_depth gs → Deepest gs)
      → Dec (atom_depth g ≤ list_depth gs) → Deepest (g ∷ gs)
  deepest_case g gs h again (yes l) =
      let w = again (omega arith) in
      record { var = w.var; atom = w.atom; rest = g ∷ w.rest; takes = later w.takes; occurs = w.occurs; is = let e = w.is in omega arith }
  deepest_case g gs h again (no l) =
      let w = deep_atom g (omega arith) in record { var = w.var; atom = g; rest = gs; takes = first; occurs = w.occurs; is = let e = w.deep in omega arith }

  -- where some variable of the atoms stands for a successor, there is one that stands for a deepest
  pub deepest : (gs : List Atom) → 0 < list_depth gs → Deepest gs
  deepest [] h = absurd (omega arith)
  deepest (g ∷ gs) h = deepest_case g gs h (deepest gs) (dec_le (atom_depth g) (list_depth gs))

module _ (constant : ℕ → Term) (s : ℕ → Element) where
  abbrev by_name : ℕ → Element
  by_name c = Named (constant c)

  fits_flat : (n : ℕ) (x : Arg) (t : Term) → x ≡ Var n → Fits by_name s x (Named t) → depth (s n) ≡ 0
  fits_flat n x t e f = let w : Named t ≡ s n = subst (λ y. Fits by_name s y (Named t)) e f in sym (ap depth w)

  match_flat : (n : ℕ) (g : Atom) (f : Fact Term) → Match by_name s g (map_fact Named f) → Occurs n g → depth (s n) ≡ 0
  match_flat n (Class a x) (InClass b t) m o = fits_flat n x t o m.1
  match_flat n (Class a x) (InRole b t u) m o = absurd m
  match_flat n (Class a x) (InAttr b t u) m o = absurd m
  match_flat n (Role a x y) (InClass b t) m o = absurd m
  match_flat n (Role a x y) (InRole b t u) m (inl e) = fits_flat n x t e m.1
  match_flat n (Role a x y) (InRole b t u) m (inr e) = fits_flat n y u e m.2
  match_flat n (Role a x y) (InAttr b t u) m o = absurd m
  match_flat n (Attr a x y) (InClass b t) m o = absurd m
  match_flat n (Attr a x y) (InRole b t u) m o = absurd m
  match_flat n (Attr a x y) (InAttr b t u) m (inl e) = fits_flat n x t e m.1
  match_flat n (Attr a x y) (InAttr b t u) m (inr e) = fits_flat n y u e m.2

  -- a variable of an atom that is a given fact stands for a named term
  pub source_flat : (F : Fact Term → Type 0) (n : ℕ) (g : Atom) (f : Fact Element) → IsSource F f → Match by_name s g f → Occurs n g → depth (s n) ≡ 0
  source_flat F n g f i m o = match_flat n g i.fact (subst (Match by_name s g) i.is m) o
