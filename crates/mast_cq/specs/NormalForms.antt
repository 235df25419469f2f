-- The normal form: no variable stands once that need not, the atoms are in order, and each stands once.
use Rattle.std.specs.Prelude.{◌≡◌, ℕ, ◌+◌, List, [], ◌∷◌, map, Option, Some, None, Bool, true, false, nat_eq, ◌&&◌, not, zero, suc, ◌⊎◌}
use Rattle.std.specs.declared.cmp.Ordering.{Ordering}
use Rattle.std.specs.declared.cmp.Ordering.TheVariants.{Less, Equal, Greater}
use Rattle.mast_cq.specs.declared.atom.Arg.{Arg}
use Rattle.mast_cq.specs.declared.atom.Arg.TheVariants.{Blank, Var, Constant}
use Rattle.mast_cq.specs.declared.atom.Atom.{Atom}
use Rattle.mast_cq.specs.declared.atom.Atom.TheVariants.{Class, Role, Attr}
use Rattle.mast_cq.specs.declared.query.Cq.{Cq}
use Rattle.mast_cq.specs.Queries.{has_var, atom_order, or_else, Takes}

-- in how many places of the argument the variable stands, one or none
abbrev pub arg_uses : ℕ → Arg → ℕ
arg_uses n Blank = 0
arg_uses n (Var m) = elim (nat_eq m n) [ true ↦ 1 | false ↦ 0 ]
arg_uses n (Constant c) = 0

-- in how many places of the atom it stands
abbrev pub atom_uses : ℕ → Atom → ℕ
atom_uses n (Class a x) = arg_uses n x
atom_uses n (Role a x y) = arg_uses n x + arg_uses n y
atom_uses n (Attr a x y) = arg_uses n x + arg_uses n y

-- in how many places of the atoms it stands
abbrev pub uses : ℕ → List Atom → ℕ
uses n [] = 0
uses n (g ∷ gs) = atom_uses n g + uses n gs

-- how many variables the argument is, one or none
abbrev pub arg_places : Arg → ℕ
arg_places Blank = 0
arg_places (Var m) = 1
arg_places (Constant c) = 0

-- how many places of the atom have a variable
abbrev pub atom_places : Atom → ℕ
atom_places (Class a x) = arg_places x
atom_places (Role a x y) = arg_places x + arg_places y
atom_places (Attr a x y) = arg_places x + arg_places y

-- how many places of the atoms have a variable
abbrev pub places : List Atom → ℕ
places [] = 0
places (g ∷ gs) = atom_places g + places gs

-- the argument after the variable became `_`
abbrev pub blank_arg : ℕ → Arg → Arg
blank_arg n Blank = Blank
blank_arg n (Var m) = elim (nat_eq m n) [ true ↦ Blank | false ↦ Var m ]
blank_arg n (Constant c) = Constant c

-- the atom after the variable became `_`
abbrev pub blank : ℕ → Atom → Atom
blank n (Class a x) = Class a (blank_arg n x)
blank n (Role a x y) = Role a (blank_arg n x) (blank_arg n y)
blank n (Attr a x y) = Attr a (blank_arg n x) (blank_arg n y)

-- the variable stands in one place of the atoms and not in the answer list
abbrev pub alone : List Arg → List Atom → ℕ → Bool
alone answer atoms n = not (has_var answer n) && nat_eq (uses n atoms) 1

-- the variable that the argument is, where it passes the test
abbrev pub first_arg : (ℕ → Bool) → Arg → Option ℕ
first_arg t Blank = None
first_arg t (Var n) = elim (t n) [ true ↦ Some n | false ↦ None ]
first_arg t (Constant c) = None

-- the first variable of the atom that passes the test
abbrev pub first_atom : (ℕ → Bool) → Atom → Option ℕ
first_atom t (Class a x) = first_arg t x
first_atom t (Role a x y) = or_else (first_arg t x) (first_arg t y)
first_atom t (Attr a x y) = or_else (first_arg t x) (first_arg t y)

-- the first variable of the atoms that passes the test
abbrev pub first_var : (ℕ → Bool) → List Atom → Option ℕ
first_var t [] = None
first_var t (g ∷ gs) = or_else (first_atom t g) (first_var t gs)

-- the atom g put into an ordered list that begins with h, where it is told how g compares with h and what g put behind h gives
abbrev pub insert_by : Ordering → Atom → Atom → List Atom → List Atom → List Atom
insert_by Less g h hs more = g ∷ h ∷ hs
insert_by Equal g h hs more = h ∷ hs
insert_by Greater g h hs more = h ∷ more

-- the atom in its place of an ordered list, if it is not there yet
abbrev pub put : Atom → List Atom → List Atom
put g [] = g ∷ []
put g (h ∷ hs) = insert_by (atom_order g h) g h hs (put g hs)

-- the atoms in order, each once
abbrev pub in_order : List Atom → List Atom
in_order [] = []
in_order (g ∷ gs) = put g (in_order gs)

-- the atoms after the variable became `_`, in order, each once
abbrev pub without : ℕ → List Atom → List Atom
without n atoms = in_order (map (blank n) atoms)

-- one variable after another becomes `_`, and the atoms are put in order again, until none is alone, for at most so many
abbrev pub settle : List Arg → ℕ → List Atom → List Atom
settle answer zero atoms = atoms
settle answer (suc k) atoms = elim (first_var (alone answer atoms) atoms) [ None ↦ atoms | Some n ↦ settle answer k (without n atoms) ]

-- the normal form: each variable that becomes `_` frees a place, so there are no more rounds than places, and at the end nothing changes
abbrev pub normal_form : Cq → Cq
normal_form q = record { answer = q.answer; atoms = settle q.answer (places q.atoms) (in_order q.atoms) }

-- the atom comes before the first of the list
abbrev pub IsBefore : Atom → List Atom → Type 0
IsBefore g [] = Unit {0}
IsBefore g (h ∷ hs) = atom_order g h ≡ Less

-- each atom comes before the next: the atoms are in order, and each stands once
abbrev pub Ordered : List Atom → Type 0
Ordered [] = Unit {0}
Ordered (g ∷ gs) = IsBefore g gs × Ordered gs

-- no variable outside the answer list stands exactly once, and the atoms are in order, each once
pub record IsNormal (q : Cq) : Type 0 where
  pub none_alone : (n : ℕ) → has_var q.answer n ≡ false → uses n q.atoms ≡ 1 → ⊥
  pub ordered : Ordered q.atoms

-- the variable stands in the atom
abbrev pub Occurs : ℕ → Atom → Type 0
Occurs n (Class a x) = x ≡ Var n
Occurs n (Role a x y) = (x ≡ Var n) ⊎ (y ≡ Var n)
Occurs n (Attr a x y) = (x ≡ Var n) ⊎ (y ≡ Var n)

-- the variable stands in both places of the atom
abbrev pub Twice : ℕ → Atom → Type 0
Twice n (Class a x) = ⊥
Twice n (Role a x y) = (x ≡ Var n) × (y ≡ Var n)
Twice n (Attr a x y) = (x ≡ Var n) × (y ≡ Var n)

-- the variable stands in some atom of the list
pub record Elsewhere (n : ℕ) (atoms : List Atom) : Type 0 where
  pub atom : Atom
  pub rest : List Atom
  pub takes : Takes atoms atom rest
  pub occurs : Occurs n atom

-- the variable stands in the answer list
pub record InAnswer (n : ℕ) (answer : List Arg) : Type 0 where
  pub rest : List Arg
  pub takes : Takes answer (Var n) rest

-- a variable that stands in an atom is an answer, or stands in a second place
abbrev pub Spread : Cq → Type 0
Spread q = (n : ℕ) (g : Atom) (rest : List Atom) → Takes q.atoms g rest → Occurs n g → InAnswer n q.answer ⊎ (Twice n g ⊎ Elsewhere n rest)
