-- Atoms that are the same under two assignments, each with names of variables of its own: they have the same matches and the same pairs.
use Rattle.std.proofs.Common.{◌≡◌, ℕ, List, refl, sym, ap, subst, ◌∙◌}
use Rattle.mast_terms.specs.declared.term.Term.{Term}
use Rattle.mast_terms.specs.declared.name.Name.{Name}
use Rattle.mast_cq.specs.declared.atom.Arg.{Arg}
use Rattle.mast_cq.specs.declared.atom.Arg.TheVariants.{Blank, Var, Constant}
use Rattle.mast_cq.specs.declared.atom.Atom.{Atom}
use Rattle.mast_cq.specs.declared.atom.Atom.TheVariants.{Class, Role, Attr}
use Rattle.mast_cq.specs.Meanings.{Fact, InClass, InRole, InAttr, Fits, Match}
use Rattle.mast_tbox.specs.declared.axiom.Inclusion.{Inclusion}
use Rattle.mast_tbox.specs.declared.expression.RoleExpr.TheVariants.{Direct, Inverse}
use Rattle.mast_tbox.specs.declared.expression.Basic.{Basic}
use Rattle.mast_tbox.specs.declared.expression.Basic.TheVariants.{Class as BClass, Some as BSome, Subjects}
use Rattle.mast_tbox.specs.declared.expression.Prop.{Prop}
use Rattle.mast_tbox.specs.declared.expression.Prop.TheVariants.{Role as PRole, Attr as PAttr}
use Rattle.mast_tbox.specs.Closure.{AtomStep, Down}
use Rattle.mast_tbox.specs.Expressions.{pair, at}
use Rattle.mast_tbox.specs.Lists.{itself, onward}
use Rattle.mast_canon.specs.declared.rows.RowId.{RowId}
use Rattle.mast_join.specs.Extensions.{IsMatchOf, IsPairOf, Over, constant_over}

-- two arguments that stand for the same, the first under s and the second under t
abbrev pub AlikeArgs : (s t : ℕ → Term) → Arg → Arg → Type 0
AlikeArgs s t Blank Blank = Unit {0}
AlikeArgs s t Blank (Var y) = ⊥
AlikeArgs s t Blank (Constant d) = ⊥
AlikeArgs s t (Var x) Blank = ⊥
AlikeArgs s t (Var x) (Var y) = s x ≡ t y
AlikeArgs s t (Var x) (Constant d) = ⊥
AlikeArgs s t (Constant c) Blank = ⊥
AlikeArgs s t (Constant c) (Var y) = ⊥
AlikeArgs s t (Constant c) (Constant d) = c ≡ d

-- and two atoms of one name
abbrev pub AlikeAtoms : (s t : ℕ → Term) → Atom → Atom → Type 0
AlikeAtoms s t (Class a x) (Class b z) = (a ≡ b) × AlikeArgs s t x z
AlikeAtoms s t (Class a x) (Role b z w) = ⊥
AlikeAtoms s t (Class a x) (Attr b z w) = ⊥
AlikeAtoms s t (Role a x y) (Class b z) = ⊥
AlikeAtoms s t (Role a x y) (Role b z w) = (a ≡ b) × AlikeArgs s t x z × AlikeArgs s t y w
AlikeAtoms s t (Role a x y) (Attr b z w) = ⊥
AlikeAtoms s t (Attr a x y) (Class b z) = ⊥
AlikeAtoms s t (Attr a x y) (Role b z w) = ⊥
AlikeAtoms s t (Attr a x y) (Attr b z w) = (a ≡ b) × AlikeArgs s t x z × AlikeArgs s t y w

args_turned : (s t : ℕ → Term) (x y : Arg) → AlikeArgs s t x y → AlikeArgs t s y x
args_turned s t Blank Blank h = tt
args_turned s t Blank (Var y) h = absurd h
args_turned s t Blank (Constant d) h = absurd h
args_turned s t (Var x) Blank h = absurd h
args_turned s t (Var x) (Var y) h = sym h
args_turned s t (Var x) (Constant d) h = absurd h
args_turned s t (Constant c) Blank h = absurd h
args_turned s t (Constant c) (Var y) h = absurd h
args_turned s t (Constant c) (Constant d) h = sym h

-- the other way round
pub alike_turned : (s t : ℕ → Term) (g h : Atom) → AlikeAtoms s t g h → AlikeAtoms t s h g
alike_turned s t (Class a x) (Class b z) h = (sym h.0, args_turned s t x z h.1)
alike_turned s t (Class a x) (Role b z w) h = absurd h
alike_turned s t (Class a x) (Attr b z w) h = absurd h
alike_turned s t (Role a x y) (Class b z) h = absurd h
alike_turned s t (Role a x y) (Role b z w) h = (sym h.0, args_turned s t x z h.1, args_turned s t y w h.2)
alike_turned s t (Role a x y) (Attr b z w) h = absurd h
alike_turned s t (Attr a x y) (Class b z) h = absurd h
alike_turned s t (Attr a x y) (Role b z w) h = absurd h
alike_turned s t (Attr a x y) (Attr b z w) h = (sym h.0, args_turned s t x z h.1, args_turned s t y w h.2)

module _ (s t : ℕ → Term) where
  alike_at : (b : Basic) (x y : Arg) → AlikeArgs s t x y → AlikeAtoms s t (at b x) (at b y)
  alike_at (BClass a) x y h = (refl, h)
  alike_at (BSome (Direct p)) x y h = (refl, h, tt)
  alike_at (BSome (Inverse p)) x y h = (refl, tt, h)
  alike_at (Subjects u) x y h = (refl, h, tt)

  alike_pair : (p : Prop) (x y z w : Arg) → AlikeArgs s t x z → AlikeArgs s t y w → AlikeAtoms s t (pair p x y) (pair p z w)
  alike_pair (PRole (Direct a)) x y z w h k = (refl, h, k)
  alike_pair (PRole (Inverse a)) x y z w h k = (refl, k, h)
  alike_pair (PAttr u) x y z w h k = (refl, h, k)

  blank_alike : (y : Arg) → AlikeArgs s t Blank y → y ≡ Blank
  blank_alike Blank h = refl
  blank_alike (Var y) h = absurd h
  blank_alike (Constant d) h = absurd h

  -- what is alike to an atom of a class is one of it
  record OfClass (a : Name) (x : Arg) (g : Atom) : Type 0 where
    arg : Arg
    is : g ≡ Class a arg
    alike : AlikeArgs s t x arg

  of_class : (a : Name) (x : Arg) (g : Atom) → AlikeAtoms s t (Class a x) g → OfClass a x g
  of_class a x (Class b z) h = record { arg = z; is = ap (λ (n : Name). Class n z) (sym h.0); alike = h.1 }
  of_class a x (Role b z w) h = absurd h
  of_class a x (Attr b z w) h = absurd h

  -- what is alike to a pair of a property is one of it
  record OfPair (p : Prop) (x y : Arg) (g : Atom) : Type 0 where
    one : Arg
    other : Arg
    is : g ≡ pair p one other
    one_alike : AlikeArgs s t x one
    other_alike : AlikeArgs s t y other

  of_pair : (p : Prop) (x y : Arg) (g : Atom) → AlikeAtoms s t (pair p x y) g → OfPair p x y g
  of_pair (PRole (Direct a)) x y (Class b z) h = absurd h
  of_pair (PRole (Direct a)) x y (Role b z w) h = record { one = z; other = w; is = ap (λ (n : Name). Role n z w) (sym h.0); one_alike = h.1; other_alike = h.2 }
  of_pair (PRole (Direct a)) x y (Attr b z w) h = absurd h
  of_pair (PRole (Inverse a)) x y (Class b z) h = absurd h
  of_pair (PRole (Inverse a)) x y (Role b z w) h = record { one = w; other = z; is = ap (λ (n : Name). Role n z w) (sym h.0); one_alike = h.2; other_alike = h.1 }
  of_pair (PRole (Inverse a)) x y (Attr b z w) h = absurd h
  of_pair (PAttr a) x y (Class b z) h = absurd h
  of_pair (PAttr a) x y (Role b z w) h = absurd h
  of_pair (PAttr a) x y (Attr b z w) h = record { one = z; other = w; is = ap (λ (n : Name). Attr n z w) (sym h.0); one_alike = h.1; other_alike = h.2 }

  module _ (tbox : List Inclusion) where
    -- a step on the one is a step on the other
    record Stepped (h g : Atom) : Type 0 where
      to : Atom
      step : AtomStep tbox g to
      alike : AlikeAtoms s t h to

    stepped : (g h i : Atom) → AtomStep tbox g h → AlikeAtoms s t g i → Stepped h i
    stepped g h i (AtomStep.into_class b a x c eg eh) k =
        let w = of_class a x i (subst (λ (j : Atom). AlikeAtoms s t j i) eg k) in
        record { to = at b w.arg; step = AtomStep.into_class b a w.arg c w.is refl; alike = subst (λ (j : Atom). AlikeAtoms s t j (at b w.arg)) (sym eh) (alike_at b x w.arg w.alike) }
    stepped g h i (AtomStep.adds b p n x c eg eh) k =
        let w = of_pair p x Blank i (subst (λ (j : Atom). AlikeAtoms s t j i) eg k) in
        record {
          to = at b w.one;
          step = AtomStep.adds b p n w.one c (w.is ∙ ap (λ (y : Arg). pair p w.one y) (blank_alike w.other w.other_alike)) refl;
          alike = subst (λ (j : Atom). AlikeAtoms s t j (at b w.one)) (sym eh) (alike_at b x w.one w.one_alike);
        }
    stepped g h i (AtomStep.widens p q x y c eg eh) k =
        let w = of_pair q x y i (subst (λ (j : Atom). AlikeAtoms s t j i) eg k) in
        record {
          to = pair p w.one w.other;
          step = AtomStep.widens p q w.one w.other c w.is refl;
          alike = subst (λ (j : Atom). AlikeAtoms s t j (pair p w.one w.other)) (sym eh) (alike_pair p x y w.one w.other w.one_alike w.other_alike);
        }

    -- each member of Down of the one is alike to a member of Down of the other
    record Reached (h g : Atom) : Type 0 where
      to : Atom
      below : Down tbox g to
      alike : AlikeAtoms s t h to

    reached : (g h i : Atom) → Down tbox g h → AlikeAtoms s t g i → Reached h i
    reached g h i itself k = record { to = i; below = itself; alike = k }
    reached g h i (onward {y = w} step d) k =
        let v = stepped g w i step k in
        let r = reached w h v.to d v.alike in
        record { to = r.to; below = onward v.step r.below; alike = r.alike }

  fits_alike : (constant : ℕ → Term) (x y : Arg) (u : Term) → AlikeArgs s t x y → Fits constant s x u → Fits constant t y u
  fits_alike constant Blank Blank u h f = tt
  fits_alike constant Blank (Var y) u h f = absurd h
  fits_alike constant Blank (Constant d) u h f = absurd h
  fits_alike constant (Var x) Blank u h f = absurd h
  fits_alike constant (Var x) (Var y) u h f = f ∙ h
  fits_alike constant (Var x) (Constant d) u h f = absurd h
  fits_alike constant (Constant c) Blank u h f = absurd h
  fits_alike constant (Constant c) (Var y) u h f = absurd h
  fits_alike constant (Constant c) (Constant d) u h f = f ∙ ap constant h

  -- atoms that are alike are the same facts
  pub match_alike : (constant : ℕ → Term) (g h : Atom) (f : Fact Term) → AlikeAtoms s t g h → Match constant s g f → Match constant t h f
  match_alike constant (Class a x) (Class b z) (InClass c u) h m = (sym h.0 ∙ m.0, fits_alike constant x z u h.1 m.1)
  match_alike constant (Class a x) (Class b z) (InRole c u v) h m = absurd m
  match_alike constant (Class a x) (Class b z) (InAttr c u v) h m = absurd m
  match_alike constant (Class a x) (Role b z w) f h m = absurd h
  match_alike constant (Class a x) (Attr b z w) f h m = absurd h
  match_alike constant (Role a x y) (Class b z) f h m = absurd h
  match_alike constant (Role a x y) (Role b z w) (InClass c u) h m = absurd m
  match_alike constant (Role a x y) (Role b z w) (InRole c u v) h m = (sym h.0 ∙ m.0, fits_alike constant x z u h.1 m.1, fits_alike constant y w v h.2 m.2)
  match_alike constant (Role a x y) (Role b z w) (InAttr c u v) h m = absurd m
  match_alike constant (Role a x y) (Attr b z w) f h m = absurd h
  match_alike constant (Attr a x y) (Class b z) f h m = absurd h
  match_alike constant (Attr a x y) (Role b z w) f h m = absurd h
  match_alike constant (Attr a x y) (Attr b z w) (InClass c u) h m = absurd m
  match_alike constant (Attr a x y) (Attr b z w) (InRole c u v) h m = absurd m
  match_alike constant (Attr a x y) (Attr b z w) (InAttr c u v) h m = (sym h.0 ∙ m.0, fits_alike constant x z u h.1 m.1, fits_alike constant y w v h.2 m.2)

  -- and have the same matches
  pub is_match_alike : (over : Over) (g h : Atom) → AlikeAtoms s t g h → IsMatchOf over s g → IsMatchOf over t h
  is_match_alike over g h k m =
      let r = reached over.sources.normal g m.member h m.below k in
      record {
        member = r.to;
        below = r.below;
        met = record { fact = m.met.fact; matches = match_alike (constant_over over) m.member r.to m.met.fact r.alike m.met.matches; holds = m.met.holds };
      }

  -- and the same pairs
  pub is_pair_alike : (over : Over) (g h : Atom) (rows : List RowId) → AlikeAtoms s t g h → IsPairOf over s g rows → IsPairOf over t h rows
  is_pair_alike over g h rows k p =
      let r = reached over.sources.normal g p.member h p.below k in
      record {
        member = r.to;
        below = r.below;
        fact = p.fact;
        matches = match_alike (constant_over over) p.member r.to p.fact r.alike p.matches;
        supports = p.supports;
      }
