-- Replacements and assignments: what an assignment that respects a replacement keeps, and what holds before a replacement.
use Rattle.std.proofs.Common.{◌≡◌, ℕ, List, [], ◌∷◌, map}
use Rattle.mast_cq.specs.declared.atom.Arg.{Arg}
use Rattle.mast_cq.specs.declared.atom.Arg.TheVariants.{Blank, Var, Constant}
use Rattle.mast_cq.specs.declared.atom.Atom.{Atom}
use Rattle.mast_cq.specs.declared.atom.Atom.TheVariants.{Class, Role, Attr}
use Rattle.mast_cq.specs.Unification.{Replacement, replace_arg, replace}
use Rattle.mast_cq.specs.Meanings.{Fact, InClass, InRole, InAttr}
use Rattle.mast_cq.specs.Meanings.{Fits as FitsBy, Match as MatchBy, Gives as GivesBy}
use Rattle.mast_cq.specs.UnifierMeanings.{Stands as StandsBy, Respects as RespectsBy, IsProper, Proper, value as value_by, before as before_by}

module _ {X : Type 0} (constant : ℕ → X) where
  abbrev Fits : (ℕ → X) → Arg → X → Type 0
  Fits s a t = FitsBy constant s a t

  abbrev Match : (ℕ → X) → Atom → Fact X → Type 0
  Match s g f = MatchBy constant s g f

  abbrev Gives : (ℕ → X) → List Arg → List X → Type 0
  Gives s answer tuple = GivesBy constant s answer tuple

  abbrev Stands : (ℕ → X) → Arg → X → Type 0
  Stands s a t = StandsBy constant s a t

  abbrev Respects : (ℕ → X) → Replacement → Type 0
  Respects s r = RespectsBy constant s r

  abbrev value : X → (ℕ → X) → Arg → X
  value d s a = value_by constant d s a

  abbrev before : (ℕ → X) → Replacement → ℕ → X
  before s r = before_by constant s r

  stands_fits : (s : ℕ → X) (a : Arg) (t : X) → Stands s a t → Fits s a t
  stands_fits s Blank t h = absurd h
  stands_fits s (Var x) t h = h
  stands_fits s (Constant c) t h = h

  -- an argument stands for the same term after a replacement that the assignment respects
  pub respects_fits : (s : ℕ → X) (r : Replacement) → Respects s r → (a : Arg) (t : X) → Fits s a t → Fits s (replace_arg r a) t
  respects_fits s r h Blank t f = tt
  respects_fits s r h (Var x) t f = stands_fits s (r x) t (rw f (h x))
  respects_fits s r h (Constant c) t f = f

  -- and where it is no `_`, also as what is no `_`
  pub respects_stands : (s : ℕ → X) (r : Replacement) → Respects s r → (a : Arg) (t : X) → Stands s a t → Stands s (replace_arg r a) t
  respects_stands s r h Blank t f = absurd f
  respects_stands s r h (Var x) t f = rw f (h x)
  respects_stands s r h (Constant c) t f = f

  -- an atom is the same fact after a replacement that the assignment respects
  pub respects_match : (s : ℕ → X) (r : Replacement) → Respects s r → (g : Atom) (f : Fact X) → Match s g f → Match s (replace r g) f
  respects_match s r h (Class a x) (InClass b t) m = (m.0, respects_fits s r h x t m.1)
  respects_match s r h (Class a x) (InRole b t u) m = absurd m
  respects_match s r h (Class a x) (InAttr b t u) m = absurd m
  respects_match s r h (Role a x y) (InRole b t u) m = (m.0, respects_fits s r h x t m.1, respects_fits s r h y u m.2)
  respects_match s r h (Role a x y) (InClass b t) m = absurd m
  respects_match s r h (Role a x y) (InAttr b t u) m = absurd m
  respects_match s r h (Attr a x y) (InAttr b t u) m = (m.0, respects_fits s r h x t m.1, respects_fits s r h y u m.2)
  respects_match s r h (Attr a x y) (InClass b t) m = absurd m
  respects_match s r h (Attr a x y) (InRole b t u) m = absurd m

  -- an answer list takes the same tuple after a replacement that the assignment respects
  pub respects_gives : (s : ℕ → X) (r : Replacement) → Respects s r → (answer : List Arg) (tuple : List X) → Gives s answer tuple → Gives s (map (replace_arg r) answer) tuple
  respects_gives s r h [] [] w = w
  respects_gives s r h [] (t ∷ ts) w = w
  respects_gives s r h (a ∷ answer) [] w = w
  respects_gives s r h (a ∷ answer) (t ∷ ts) w = (respects_fits s r h a t w.0, respects_gives s r h answer ts w.1)

  proper_value : (d : X) (s : ℕ → X) (a : Arg) (t : X) → IsProper a → Fits s a t → t ≡ value d s a
  proper_value d s Blank t p f = absurd p
  proper_value d s (Var x) t p f = f
  proper_value d s (Constant c) t p f = f

  -- what an argument stands for after the replacement, it stands for under the assignment before
  fits_before : (s : ℕ → X) (r : Replacement) → Proper r → (a : Arg) (t : X) → Fits s (replace_arg r a) t → Fits (before s r) a t
  fits_before s r p Blank t f = tt
  fits_before s r p (Var x) t f = proper_value (s x) s (r x) t (p x) f
  fits_before s r p (Constant c) t f = f

  -- what an atom is after a replacement that makes no variable `_`, it is under the assignment before it
  pub match_before : (s : ℕ → X) (r : Replacement) → Proper r → (g : Atom) (f : Fact X) → Match s (replace r g) f → Match (before s r) g f
  match_before s r p (Class a x) (InClass b t) m = (m.0, fits_before s r p x t m.1)
  match_before s r p (Class a x) (InRole b t u) m = absurd m
  match_before s r p (Class a x) (InAttr b t u) m = absurd m
  match_before s r p (Role a x y) (InRole b t u) m = (m.0, fits_before s r p x t m.1, fits_before s r p y u m.2)
  match_before s r p (Role a x y) (InClass b t) m = absurd m
  match_before s r p (Role a x y) (InAttr b t u) m = absurd m
  match_before s r p (Attr a x y) (InAttr b t u) m = (m.0, fits_before s r p x t m.1, fits_before s r p y u m.2)
  match_before s r p (Attr a x y) (InClass b t) m = absurd m
  match_before s r p (Attr a x y) (InRole b t u) m = absurd m

  -- and what tuple an answer list takes after it, it takes under the assignment before it
  pub gives_before : (s : ℕ → X) (r : Replacement) → Proper r → (answer : List Arg) (tuple : List X) → Gives s (map (replace_arg r) answer) tuple → Gives (before s r) answer tuple
  gives_before s r p [] [] w = w
  gives_before s r p [] (t ∷ ts) w = w
  gives_before s r p (a ∷ answer) [] w = w
  gives_before s r p (a ∷ answer) (t ∷ ts) w = (fits_before s r p a t w.0, gives_before s r p answer ts w.1)
