-- Atoms in order, each once, and what stays as they are put in order.
use Rattle.std.proofs.Common.{◌≡◌, ℕ, suc, ◌+◌, ◌≤◌, List, [], ◌∷◌, length, map, Bool, true, false, nat_eq, sym, refl, ap, ap₂, ◌∙◌, arith}
use Rattle.std.specs.List.{AllByRecursion}
use Rattle.std.specs.declared.cmp.Ordering.{Ordering}
use Rattle.std.specs.declared.cmp.Ordering.TheVariants.{Less, Equal, Greater}
use Rattle.std.specs.Ordering.{nat_cmp, ordering_then, ordering_reverse}
use Rattle.std.specs.Cmp.Lexicographic.{slice_cmp}
use Rattle.std.proofs.lemmas.Cmp.{ranked, nat_list_cmp_total}
use Rattle.mast_terms.specs.declared.name.Name.{Name}
use Rattle.mast_cq.specs.declared.atom.Arg.{Arg}
use Rattle.mast_cq.specs.declared.atom.Arg.TheVariants.{Blank, Var, Constant}
use Rattle.mast_cq.specs.declared.atom.Atom.{Atom}
use Rattle.mast_cq.specs.declared.atom.Atom.TheVariants.{Class, Role, Attr}
use Rattle.mast_cq.specs.Queries.{arg_key, atom_key, atom_order}
use Rattle.mast_cq.specs.NormalForms.{arg_uses, atom_uses, uses, arg_places, atom_places, places, blank_arg, blank, insert_by, put, in_order, IsBefore, Ordered}

-- sorting keeps what holds of each
slice_case : (x y : ℕ) (xs ys : List ℕ) (o : Ordering) → o ≡ nat_cmp x y → (slice_cmp nat_cmp xs ys ≡ Equal → xs ≡ ys) → ordering_then o (slice_cmp nat_cmp xs ys) ≡ Equal → (x ∷ xs) ≡ (y ∷ ys)
slice_case x y xs ys Less f k e = cc
slice_case x y xs ys Equal f k e = ap₂ (λ a b. a ∷ b) (ranked x y Equal f) (k e)
slice_case x y xs ys Greater f k e = cc

slice_equal : (xs ys : List ℕ) → slice_cmp nat_cmp xs ys ≡ Equal → xs ≡ ys
slice_equal [] [] e = refl
slice_equal [] (y ∷ ys) e = cc
slice_equal (x ∷ xs) [] e = cc
slice_equal (x ∷ xs) (y ∷ ys) e = slice_case x y xs ys (nat_cmp x y) refl (slice_equal xs ys) e

-- arguments with one key, whatever follows, are equal
pub arg_inj : (x y : Arg) (m n : List ℕ) → arg_key x m ≡ arg_key y n → (x ≡ y) × (m ≡ n)
arg_inj Blank Blank m n e = (refl, cc)
arg_inj Blank (Var y) m n e = absurd (cc)
arg_inj Blank (Constant c) m n e = absurd (cc)
arg_inj (Var x) Blank m n e = absurd (cc)
arg_inj (Var x) (Var y) m n e = (cc, cc)
arg_inj (Var x) (Constant c) m n e = absurd (cc)
arg_inj (Constant c) Blank m n e = absurd (cc)
arg_inj (Constant c) (Var y) m n e = absurd (cc)
arg_inj (Constant c) (Constant d) m n e = (cc, cc)

tail_of : (x y u v : ℕ) (m n : List ℕ) → (x ∷ u ∷ m) ≡ (y ∷ v ∷ n) → (u ≡ v) × (m ≡ n)
tail_of x y u v m n e = (cc, cc)

-- names of one number are one
name_same : (a b : Name) → a.0 ≡ b.0 → a ≡ b
name_same a b e = ap (λ n. record { 0 = n }) e

-- atoms with one key are equal
pub key_inj : (g h : Atom) → atom_key g ≡ atom_key h → g ≡ h
key_inj (Class a x) (Class b y) e = let t = tail_of 0 0 a.0 b.0 (arg_key x []) (arg_key y []) e in ap₂ Class (name_same a b t.0) (arg_inj x y [] [] t.1).0
key_inj (Class a x) (Role b z w) e = cc
key_inj (Class a x) (Attr b z w) e = cc
key_inj (Role a x y) (Class b z) e = cc
key_inj (Role a x y) (Role b z w) e =
    let t = tail_of 1 1 a.0 b.0 (arg_key x (arg_key y [])) (arg_key z (arg_key w [])) e in
    let k = arg_inj x z (arg_key y []) (arg_key w []) t.1 in
    let j = arg_inj y w [] [] k.1 in
    let p = name_same a b t.0 in let q = k.0 in let r = j.0 in cc
key_inj (Role a x y) (Attr b z w) e = cc
key_inj (Attr a x y) (Class b z) e = cc
key_inj (Attr a x y) (Role b z w) e = cc
key_inj (Attr a x y) (Attr b z w) e =
    let t = tail_of 2 2 a.0 b.0 (arg_key x (arg_key y [])) (arg_key z (arg_key w [])) e in
    let k = arg_inj x z (arg_key y []) (arg_key w []) t.1 in
    let j = arg_inj y w [] [] k.1 in
    let p = name_same a b t.0 in let q = k.0 in let r = j.0 in cc

-- atoms of which neither comes before the other are equal
pub order_equal : (g h : Atom) → atom_order g h ≡ Equal → g ≡ h
order_equal g h e = key_inj g h (slice_equal (atom_key g) (atom_key h) e)

put_case : (P : Atom → Type 0) (g h : Atom) (hs : List Atom) (o : Ordering) (more : List Atom) → P g → P h → AllByRecursion P hs → AllByRecursion P more → AllByRecursion P (insert_by o g h hs more)
put_case P g h hs Less more p q r m = (p, (q, r))
put_case P g h hs Equal more p q r m = (q, r)
put_case P g h hs Greater more p q r m = (q, m)

put_each : (P : Atom → Type 0) (g : Atom) (hs : List Atom) → P g → AllByRecursion P hs → AllByRecursion P (put g hs)
put_each P g [] p h = (p, tt)
put_each P g (i ∷ hs) p h = put_case P g i hs (atom_order g i) (put g hs) p h.0 h.1 (put_each P g hs p h.1)

-- what holds of each atom holds of each in order
pub order_each : (P : Atom → Type 0) (gs : List Atom) → AllByRecursion P gs → AllByRecursion P (in_order gs)
order_each P [] h = tt
order_each P (g ∷ gs) h = put_each P g (in_order gs) h.0 (order_each P gs h.1)

put_back : (P : Atom → Type 0) (g h : Atom) (hs : List Atom) (o : Ordering) (more : List Atom) → o ≡ atom_order g h → AllByRecursion P (insert_by o g h hs more)
    → (AllByRecursion P more → P g × AllByRecursion P hs) → P g × AllByRecursion P (h ∷ hs)
put_back P g h hs Less more e w k = (w.0, w.1)
put_back P g h hs Equal more e w k = (rw (order_equal g h (sym e)) w.0, w)
put_back P g h hs Greater more e w k = let v = k w.1 in (v.0, (w.0, v.1))

put_out : (P : Atom → Type 0) (g : Atom) (hs : List Atom) → AllByRecursion P (put g hs) → P g × AllByRecursion P hs
put_out P g [] w = (w.0, tt)
put_out P g (h ∷ hs) w = put_back P g h hs (atom_order g h) (put g hs) refl w (put_out P g hs)

-- and what holds of each in order holds of each
pub order_out : (P : Atom → Type 0) (gs : List Atom) → AllByRecursion P (in_order gs) → AllByRecursion P gs
order_out P [] h = tt
order_out P (g ∷ gs) h = let v = put_out P g (in_order gs) h in (v.0, order_out P gs v.1)

-- and has no more atoms, and no more places with a variable
by_length : (g h : Atom) (hs : List Atom) (o : Ordering) (more : List Atom) → length more ≤ suc (length hs) → length (insert_by o g h hs more) ≤ suc (length (h ∷ hs))
by_length g h hs Less more l = omega arith
by_length g h hs Equal more l = omega arith
by_length g h hs Greater more l = omega arith

put_length : (g : Atom) (hs : List Atom) → length (put g hs) ≤ suc (length hs)
put_length g [] = omega arith
put_length g (h ∷ hs) = by_length g h hs (atom_order g h) (put g hs) (put_length g hs)

-- in order there are no more atoms
pub order_length : (gs : List Atom) → length (in_order gs) ≤ length gs
order_length [] = omega arith
order_length (g ∷ gs) = let a = put_length g (in_order gs) in let b = order_length gs in omega arith

by_places : (g h : Atom) (hs : List Atom) (o : Ordering) (more : List Atom) → places more ≤ atom_places g + places hs → places (insert_by o g h hs more) ≤ atom_places g + places (h ∷ hs)
by_places g h hs Less more l = omega arith
by_places g h hs Equal more l = omega arith
by_places g h hs Greater more l = omega arith

put_places : (g : Atom) (hs : List Atom) → places (put g hs) ≤ atom_places g + places hs
put_places g [] = omega arith
put_places g (h ∷ hs) = by_places g h hs (atom_order g h) (put g hs) (put_places g hs)

-- nor more places with a variable
pub order_places : (gs : List Atom) → places (in_order gs) ≤ places gs
order_places [] = omega arith
order_places (g ∷ gs) = let a = put_places g (in_order gs) in let b = order_places gs in omega arith

blank_arg_case : (m : ℕ) (b : Bool) → arg_places (elim b [ true ↦ Blank | false ↦ Var m ]) + elim b [ true ↦ 1 | false ↦ 0 ] ≡ 1
blank_arg_case m true = omega arith
blank_arg_case m false = omega arith

blank_arg_places : (n : ℕ) (x : Arg) → arg_places (blank_arg n x) + arg_uses n x ≡ arg_places x
blank_arg_places n Blank = omega arith
blank_arg_places n (Var m) = blank_arg_case m (nat_eq m n)
blank_arg_places n (Constant c) = omega arith

blank_places : (n : ℕ) (g : Atom) → atom_places (blank n g) + atom_uses n g ≡ atom_places g
blank_places n (Class a x) = blank_arg_places n x
blank_places n (Role a x y) = let p = blank_arg_places n x in let q = blank_arg_places n y in omega arith
blank_places n (Attr a x y) = let p = blank_arg_places n x in let q = blank_arg_places n y in omega arith

-- a variable that becomes `_` leaves its places
pub map_places : (n : ℕ) (gs : List Atom) → places (map (blank n) gs) + uses n gs ≡ places gs
map_places n [] = omega arith
map_places n (g ∷ gs) = let p = blank_places n g in let q = map_places n gs in omega arith

-- an atom that is after another is not before it
turned : (g h : Atom) → atom_order g h ≡ Greater → atom_order h g ≡ Less
turned g h e = nat_list_cmp_total.antisymm (atom_key h) (atom_key g) ∙ ap ordering_reverse e

before_by : (f g h : Atom) (hs more : List Atom) (o : Ordering) → atom_order f g ≡ Less → atom_order f h ≡ Less → IsBefore f (insert_by o g h hs more)
before_by f g h hs more Less d e = d
before_by f g h hs more Equal d e = e
before_by f g h hs more Greater d e = e

before_put : (f g : Atom) (hs : List Atom) → atom_order f g ≡ Less → IsBefore f hs → IsBefore f (put g hs)
before_put f g [] d b = d
before_put f g (h ∷ hs) d b = before_by f g h hs (put g hs) (atom_order g h) d b

put_by : (g h : Atom) (hs more : List Atom) (o : Ordering) → atom_order g h ≡ o → Ordered (h ∷ hs) → (atom_order h g ≡ Less → IsBefore h more) → Ordered more → Ordered (insert_by o g h hs more)
put_by g h hs more Less e w b m = (e, w)
put_by g h hs more Equal e w b m = w
put_by g h hs more Greater e w b m = (b (turned g h e), m)

put_ordered : (g : Atom) (hs : List Atom) → Ordered hs → Ordered (put g hs)
put_ordered g [] w = (tt, tt)
put_ordered g (h ∷ hs) w = put_by g h hs (put g hs) (atom_order g h) refl w (λ d. before_put h g hs d w.0) (put_ordered g hs w.1)

-- the atoms are in order, each once
pub in_order_ordered : (gs : List Atom) → Ordered (in_order gs)
in_order_ordered [] = tt
in_order_ordered (g ∷ gs) = put_ordered g (in_order gs) (in_order_ordered gs)

put_first : (g : Atom) (gs : List Atom) → IsBefore g gs → put g gs ≡ g ∷ gs
put_first g [] b = refl
put_first g (h ∷ hs) b = ap (λ o. insert_by o g h hs (put g hs)) b

-- atoms that are in order, each once, stay as they are
pub ordered_same : (gs : List Atom) → Ordered gs → in_order gs ≡ gs
ordered_same [] w = refl
ordered_same (g ∷ gs) w = ap (put g) (ordered_same gs w.1) ∙ put_first g gs w.0
