-- An atom and its shape, and one atom under two assignments: where their variables stand for the same, they have the same matches and pairs.
use Rattle.std.proofs.Common.{◌≡◌, ℕ, ◌+◌, Bool, true, false, if◌then◌else◌, List, [], ◌∷◌, length, map, inl, inr, refl, sym, ap, subst, ◌∙◌}
use Rattle.std.specs.Prelude.{nat_eq}
use Rattle.std.proofs.lemmas.Bool.{eqb-false, eqb-true}
use Rattle.std.proofs.lemmas.List.{length-map}
use Rattle.mast_terms.specs.declared.term.Term.{Term}
use Rattle.mast_cq.specs.declared.atom.Arg.{Arg}
use Rattle.mast_cq.specs.declared.atom.Arg.TheVariants.{Blank, Var, Constant}
use Rattle.mast_cq.specs.declared.atom.Atom.{Atom}
use Rattle.mast_cq.specs.declared.atom.Atom.TheVariants.{Class, Role, Attr}
use Rattle.mast_cq.specs.NormalForms.{Occurs}
use Rattle.mast_canon.specs.declared.rows.RowId.{RowId}
use Rattle.mast_relations.specs.Matches.{In, Rows}
use Rattle.mast_relations.specs.Plans.{Once}
use Rattle.mast_join.specs.declared.extensions.Wanted.{Wanted}
use Rattle.mast_join.specs.declared.extensions.Wanted.TheVariants.{Tuples, SomeHits, AllHits}
use Rattle.mast_join.specs.Answers.{AreNumbersOf, AreWithin, Extended}
use Rattle.mast_join.specs.Extensions.{IsMatchOf}
use Rattle.mast_join.specs.inside.Relates.{IsMatchRow, IsPairFound, IsPairRow, TellsAllPairs, TellsAtom, TellsMatches, TellsPairs, TellsSomePairs, set_columns}
use Rattle.mast_join.specs.inside.Shapes.{first_shape, second_shape, shape, variables, variables_of}
use Rattle.mast_join.proofs.AlikeLemmas.{AlikeArgs, AlikeAtoms, alike_turned, is_match_alike, is_pair_alike}
use Rattle.mast_join.proofs.NumberedLemmas.{given, given_gives}

-- Under two assignments.
module _ (s t : ℕ → Term) where
  one_head : (x y : Term) → ◌≡◌ {A = List Term} (x ∷ []) (y ∷ []) → x ≡ y
  one_head x y e = cc

  two_heads : (x y z w : Term) → ◌≡◌ {A = List Term} (x ∷ y ∷ []) (z ∷ w ∷ []) → (x ≡ z) × (y ≡ w)
  two_heads x y z w e = (cc, cc)

  -- two variables, where it is known whether they are one
  same_two : (x y : ℕ) (b : Bool) → (b ≡ true → x ≡ y) → map s (if b then x ∷ [] else x ∷ y ∷ []) ≡ map t (if b then x ∷ [] else x ∷ y ∷ []) → (s x ≡ t x) × (s y ≡ t y)
  same_two x y true e h =
      let one : s x ≡ t x = one_head (s x) (t x) h in
      (one, subst (λ (z : ℕ). s z ≡ t z) (e refl) one)
  same_two x y false e h = two_heads (s x) (s y) (t x) (t y) h

  shape_two : (x y : ℕ) (b : Bool) → (b ≡ true → x ≡ y) → map s (if b then x ∷ [] else x ∷ y ∷ []) ≡ map t (variables_of (Var 0) (if b then Var 0 else Var 1))
      → (s x ≡ t 0) × AlikeArgs s t (Var y) (if b then Var 0 else Var 1)
  shape_two x y true e h =
      let one : s x ≡ t 0 = one_head (s x) (t 0) h in
      (one, subst (λ (z : ℕ). s z ≡ t 0) (e refl) one)
  shape_two x y false e h = two_heads (s x) (s y) (t 0) (t 1) h

  args_same : (x y : Arg) → map s (variables_of x y) ≡ map t (variables_of x y) → AlikeArgs s t x x × AlikeArgs s t y y
  args_same Blank Blank h = (tt, tt)
  args_same Blank (Var y) h = (tt, one_head (s y) (t y) h)
  args_same Blank (Constant d) h = (tt, refl)
  args_same (Var x) Blank h = (one_head (s x) (t x) h, tt)
  args_same (Var x) (Var y) h = same_two x y (nat_eq x y) (eqb-true x y) h
  args_same (Var x) (Constant d) h = (one_head (s x) (t x) h, refl)
  args_same (Constant c) Blank h = (refl, tt)
  args_same (Constant c) (Var y) h = (refl, one_head (s y) (t y) h)
  args_same (Constant c) (Constant d) h = (refl, refl)

  args_shape : (x y : Arg) → map s (variables_of x y) ≡ map t (variables_of (first_shape x) (second_shape x y)) → AlikeArgs s t x (first_shape x) × AlikeArgs s t y (second_shape x y)
  args_shape Blank Blank h = (tt, tt)
  args_shape Blank (Var y) h = (tt, one_head (s y) (t 0) h)
  args_shape Blank (Constant d) h = (tt, refl)
  args_shape (Var x) Blank h = (one_head (s x) (t 0) h, tt)
  args_shape (Var x) (Var y) h = shape_two x y (nat_eq x y) (eqb-true x y) h
  args_shape (Var x) (Constant d) h = (one_head (s x) (t 0) h, refl)
  args_shape (Constant c) Blank h = (refl, tt)
  args_shape (Constant c) (Var y) h = (refl, one_head (s y) (t 0) h)
  args_shape (Constant c) (Constant d) h = (refl, refl)

  class_shape : (x : Arg) → map s (variables_of x Blank) ≡ map t (variables_of (first_shape x) Blank) → AlikeArgs s t x (first_shape x)
  class_shape Blank h = tt
  class_shape (Var x) h = one_head (s x) (t 0) h
  class_shape (Constant c) h = refl

  -- where its variables stand for the same under both, the atom is alike to itself
  pub alike_same : (g : Atom) → map s (variables g) ≡ map t (variables g) → AlikeAtoms s t g g
  alike_same (Class a x) h = (refl, (args_same x Blank h).0)
  alike_same (Role a x y) h = let p = args_same x y h in (refl, p.0, p.1)
  alike_same (Attr a x y) h = let p = args_same x y h in (refl, p.0, p.1)

  -- and to its shape, where the shape's variables do
  pub alike_shape : (g : Atom) → map s (variables g) ≡ map t (variables (shape g)) → AlikeAtoms s t g (shape g)
  alike_shape (Class a x) h = (refl, class_shape x h)
  alike_shape (Role a x y) h = let p = args_shape x y h in (refl, p.0, p.1)
  alike_shape (Attr a x y) h = let p = args_shape x y h in (refl, p.0, p.1)

two_once : (x y : ℕ) (b : Bool) → (b ≡ false → x ≡ y → ⊥) → Once (if b then x ∷ [] else x ∷ y ∷ [])
two_once x y true ne = ((λ i. i), tt)
two_once x y false ne = ((λ i. elim i [ inl e ↦ ne refl e | inr j ↦ j ]), ((λ i. i), tt))

args_once : (x y : Arg) → Once (variables_of x y)
args_once Blank Blank = tt
args_once Blank (Var y) = ((λ i. i), tt)
args_once Blank (Constant d) = tt
args_once (Var x) Blank = ((λ i. i), tt)
args_once (Var x) (Var y) = two_once x y (nat_eq x y) (eqb-false x y)
args_once (Var x) (Constant d) = ((λ i. i), tt)
args_once (Constant c) Blank = tt
args_once (Constant c) (Var y) = ((λ i. i), tt)
args_once (Constant c) (Constant d) = tt

-- each variable of an atom stands once in their list
pub variables_once : (g : Atom) → Once (variables g)
variables_once (Class a x) = args_once x Blank
variables_once (Role a x y) = args_once x y
variables_once (Attr a x y) = args_once x y

two_long : (x y : ℕ) (b : Bool) → length (variables_of (Var 0) (if b then Var 0 else Var 1)) ≡ length (if b then x ∷ [] else x ∷ y ∷ [])
two_long x y true = refl
two_long x y false = refl

args_long : (x y : Arg) → length (variables_of (first_shape x) (second_shape x y)) ≡ length (variables_of x y)
args_long Blank Blank = refl
args_long Blank (Var y) = refl
args_long Blank (Constant d) = refl
args_long (Var x) Blank = refl
args_long (Var x) (Var y) = two_long x y (nat_eq x y)
args_long (Var x) (Constant d) = refl
args_long (Constant c) Blank = refl
args_long (Constant c) (Var y) = refl
args_long (Constant c) (Constant d) = refl

class_long : (x : Arg) → length (variables_of (first_shape x) Blank) ≡ length (variables_of x Blank)
class_long Blank = refl
class_long (Var x) = refl
class_long (Constant c) = refl

-- the shape of an atom has as many variables
pub shape_long : (g : Atom) → length (variables (shape g)) ≡ length (variables g)
shape_long (Class a x) = class_long x
shape_long (Role a x y) = args_long x y
shape_long (Attr a x y) = args_long x y

-- an assignment that gives the variables of one atom what another gives those of the other
module _ (g h : Atom) (long : length (variables h) ≡ length (variables g)) where
  abbrev pub moved : (ℕ → Term) → ℕ → Term
  moved s = given (variables g) (map s (variables h)) s

  pub moved_gives : (s : ℕ → Term) → map (moved s) (variables g) ≡ map s (variables h)
  moved_gives s = given_gives (variables g) (map s (variables h)) s (variables_once g) (length-map (variables h) s ∙ long)

-- What is told of the shape is told of the atom.
module _ (e : Extended) (g : Atom) where
  abbrev to_atom : (ℕ → Term) → ℕ → Term
  to_atom s = moved g (shape g) (shape_long g) s

  abbrev to_shape : (ℕ → Term) → ℕ → Term
  to_shape s = moved (shape g) g (sym (shape_long g)) s

  atom_gives : (s : ℕ → Term) → map (to_atom s) (variables g) ≡ map s (variables (shape g))
  atom_gives s = moved_gives g (shape g) (shape_long g) s

  shape_gives : (s : ℕ → Term) → map (to_shape s) (variables (shape g)) ≡ map s (variables g)
  shape_gives s = moved_gives (shape g) g (sym (shape_long g)) s

  atom_alike : (s : ℕ → Term) → AlikeAtoms s (to_atom s) (shape g) g
  atom_alike s = alike_turned (to_atom s) s g (shape g) (alike_shape (to_atom s) s g (atom_gives s))

  shape_alike : (s : ℕ → Term) → AlikeAtoms s (to_shape s) g (shape g)
  shape_alike s = alike_shape s (to_shape s) g (sym (shape_gives s))

  match_row : (row : List ℕ) → IsMatchRow e (shape g) row → IsMatchRow e g row
  match_row row m = record {
    under = to_atom m.under;
    numbers = subst (λ (k : List Term). AreNumbersOf e.numbered.terms row k) (sym (atom_gives m.under)) m.numbers;
    is = is_match_alike m.under (to_atom m.under) e.over (shape g) g (atom_alike m.under) m.is;
  }

  pair_row : (row : List ℕ) → IsPairRow e (shape g) row → IsPairRow e g row
  pair_row row m = record {
    front = m.front;
    set = m.set;
    made = m.made;
    under = to_atom m.under;
    numbers = subst (λ (k : List Term). AreNumbersOf e.numbered.terms m.front k) (sym (atom_gives m.under)) m.numbers;
    rows = m.rows;
    stands = m.stands;
    is = is_pair_alike m.under (to_atom m.under) e.over (shape g) g m.rows (atom_alike m.under) m.is;
  }

  shape_match : (s : ℕ → Term) → IsMatchOf e.over s g → IsMatchOf e.over (to_shape s) (shape g)
  shape_match s m = is_match_alike s (to_shape s) e.over g (shape g) (shape_alike s) m

  pair_found : (s : ℕ → Term) (P : List ℕ → Type 0) (Q : List RowId → Type 0) → IsPairFound e (shape g) (to_shape s) P Q → IsPairFound e g s P Q
  pair_found s P Q f = record {
    front = f.front;
    set = f.set;
    numbers = subst (λ (k : List Term). AreNumbersOf e.numbered.terms f.front k) (shape_gives s) f.numbers;
    rows = f.rows;
    stands = f.stands;
    found = f.found;
    has = f.has;
  }

  tells_matches : (P : List ℕ → Type 0) → TellsMatches e (shape g) P → TellsMatches e g P
  tells_matches P h = record {
    right = λ row p. match_row row (h.right row p);
    all = λ s m. let f = h.all (to_shape s) (shape_match s m) in record {
      row = f.row;
      numbers = subst (λ (k : List Term). AreNumbersOf e.numbered.terms f.row k) (shape_gives s) f.numbers;
      found = f.found;
    };
  }

  tells_some : (P : List ℕ → Type 0) → TellsSomePairs e (shape g) P → TellsSomePairs e g P
  tells_some P h = record {
    right = λ row p. pair_row row (h.right row p);
    all = λ s m. pair_found s P (λ rows. Unit {0}) (h.all (to_shape s) (shape_match s m));
  }

  tells_all : (P : List ℕ → Type 0) → TellsAllPairs e (shape g) P → TellsAllPairs e g P
  tells_all P h = record {
    right = λ row p. pair_row row (h.right row p);
    all = λ s rows m. pair_found s P (λ least. AreWithin least rows)
        (h.all (to_shape s) rows (is_pair_alike s (to_shape s) e.over g (shape g) rows (shape_alike s) m));
  }

  tells_pairs : (w : Wanted) (P : List ℕ → Type 0) → TellsPairs w e (shape g) P → TellsPairs w e g P
  tells_pairs Tuples P h = tells_matches P h
  tells_pairs SomeHits P h = tells_some P h
  tells_pairs AllHits P h = tells_all P h

  -- a relation that tells the extension of an atom's shape tells that of the atom
  pub tells_shape : (relation : Rows) → TellsAtom e (shape g) relation → TellsAtom e g relation
  tells_shape relation h = record {
    wide = h.wide ∙ ap (λ (n : ℕ). n + set_columns e.wanted) (shape_long g);
    tells = tells_pairs e.wanted (λ row. In row relation.list) h.tells;
  }

two_in : (x y : ℕ) (b : Bool) → (b ≡ true → x ≡ y) → In x (if b then x ∷ [] else x ∷ y ∷ []) × In y (if b then x ∷ [] else x ∷ y ∷ [])
two_in x y true e = (inl refl, inl (sym (e refl)))
two_in x y false e = (inl refl, inr (inl refl))

-- a variable among two arguments stands in their list
first_in : (x y : Arg) (n : ℕ) → x ≡ Var n → In n (variables_of x y)
first_in Blank y n e = cc
first_in (Constant c) y n e = cc
first_in (Var x) Blank n e = let same : x ≡ n = cc in inl (sym same)
first_in (Var x) (Var y) n e = let same : x ≡ n = cc in subst (λ (k : ℕ). In k (variables_of (Var x) (Var y))) same (two_in x y (nat_eq x y) (eqb-true x y)).0
first_in (Var x) (Constant d) n e = let same : x ≡ n = cc in inl (sym same)

second_in : (x y : Arg) (n : ℕ) → y ≡ Var n → In n (variables_of x y)
second_in x Blank n e = cc
second_in x (Constant d) n e = cc
second_in Blank (Var y) n e = let same : y ≡ n = cc in inl (sym same)
second_in (Var x) (Var y) n e = let same : y ≡ n = cc in subst (λ (k : ℕ). In k (variables_of (Var x) (Var y))) same (two_in x y (nat_eq x y) (eqb-true x y)).1
second_in (Constant c) (Var y) n e = let same : y ≡ n = cc in inl (sym same)

-- a variable that occurs in an atom stands in the list of its variables
pub occurs_in : (g : Atom) (n : ℕ) → Occurs n g → In n (variables g)
occurs_in (Class a x) n o = first_in x Blank n o
occurs_in (Role a x y) n (inl e) = first_in x y n e
occurs_in (Role a x y) n (inr e) = second_in x y n e
occurs_in (Attr a x y) n (inl e) = first_in x y n e
occurs_in (Attr a x y) n (inr e) = second_in x y n e
