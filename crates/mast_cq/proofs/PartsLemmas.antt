-- What a unified atom is, both atoms were before the replacement.
use Rattle.std.proofs.Common.{◌≡◌, ℕ, List, Bool, true, false, nat_eq, Some, None, Option, sym, refl, ap, subst, ◌∙◌}
use borrow.Author.Tests.{eqb-true, eq-eqb}
use Rattle.mast_terms.specs.declared.name.Name.{Name}
use Rattle.mast_cq.specs.declared.atom.Arg.{Arg}
use Rattle.mast_cq.specs.declared.atom.Arg.TheVariants.{Blank, Var, Constant}
use Rattle.mast_cq.specs.declared.atom.Atom.{Atom}
use Rattle.mast_cq.specs.declared.atom.Atom.TheVariants.{Class, Role, Attr}
use Rattle.mast_cq.specs.Unification.{Replacement, replace_arg, replace, only, wins, unify_args, fuller, Meeting, after, meeting_of_one, meeting_of_two, meeting_of_pairs, meeting}
use Rattle.mast_cq.specs.Meanings.{Fact, InClass, InRole, InAttr}
use Rattle.mast_cq.specs.Meanings.{Fits as FitsBy, Match as MatchBy}
use Rattle.mast_cq.specs.UnifierMeanings.{IsProper, Proper, Parts as PartsBy}

module _ {X : Type 0} (constant : ℕ → X) where
  abbrev Fits : (ℕ → X) → Arg → X → Type 0
  Fits s a t = FitsBy constant s a t

  abbrev Match : (ℕ → X) → Atom → Fact X → Type 0
  Match s g f = MatchBy constant s g f

  abbrev Parts : Atom → Atom → Meeting → Type 0
  Parts g h M = PartsBy constant g h M

  -- two arguments are equal, or one is a blank
  abbrev pub Agree : Arg → Arg → Type 0
  Agree Blank b = Unit {0}
  Agree (Var x) Blank = Unit {0}
  Agree (Var x) (Var y) = x ≡ y
  Agree (Var x) (Constant c) = ⊥
  Agree (Constant c) Blank = Unit {0}
  Agree (Constant c) (Var y) = ⊥
  Agree (Constant c) (Constant d) = c ≡ d

  agree_same : (a : Arg) → Agree a a
  agree_same Blank = tt
  agree_same (Var x) = refl
  agree_same (Constant c) = refl

  agree_proper : (a b : Arg) → a ≡ b → Agree a b
  agree_proper a b e = subst (λ c. Agree a c) e (agree_same a)

  agree_blank : (a : Arg) → Agree a Blank
  agree_blank Blank = tt
  agree_blank (Var x) = tt
  agree_blank (Constant c) = tt

  agree_replace : (r : Replacement) (a b : Arg) → Agree a b → Agree (replace_arg r a) (replace_arg r b)
  agree_replace r Blank b h = tt
  agree_replace r (Var x) Blank h = agree_blank (r x)
  agree_replace r (Var x) (Var y) h = agree_proper (r x) (r y) (ap r h)
  agree_replace r (Var x) (Constant c) h = absurd h
  agree_replace r (Constant c) Blank h = tt
  agree_replace r (Constant c) (Var y) h = absurd h
  agree_replace r (Constant c) (Constant d) h = h

  -- what fits the fuller of two fits both
  fits_fuller_out : (s : ℕ → X) (a b : Arg) (t : X) → Agree a b → Fits s (fuller a b) t → Fits s a t × Fits s b t
  fits_fuller_out s Blank b t h f = (tt, f)
  fits_fuller_out s (Var x) Blank t h f = (f, tt)
  fits_fuller_out s (Var x) (Var y) t h f = (f, f ∙ ap s h)
  fits_fuller_out s (Var x) (Constant c) t h f = absurd h
  fits_fuller_out s (Constant c) Blank t h f = (f, tt)
  fits_fuller_out s (Constant c) (Var y) t h f = absurd h
  fits_fuller_out s (Constant c) (Constant d) t h f = (f, f ∙ ap constant h)

  -- a replacement that makes two arguments one
  record Unifies (a b : Arg) (r : Replacement) : Type 0 where
    proper : Proper r
    agree : Agree (replace_arg r a) (replace_arg r b)

  var_proper : Proper Var
  var_proper n = tt

  only_proper_case : (a : Arg) (n : ℕ) (b : Bool) → IsProper a → IsProper (elim b [ true ↦ a | false ↦ Var n ])
  only_proper_case a n true p = p
  only_proper_case a n false p = tt

  only_proper : (x : ℕ) (a : Arg) → IsProper a → Proper (only x a)
  only_proper x a p n = only_proper_case a n (nat_eq x n) p

  eqb_refl : (x : ℕ) → nat_eq x x ≡ true
  eqb_refl x = borrow.Author.Tests.eq-eqb x x refl

  only_here : (x : ℕ) (a : Arg) → only x a x ≡ a
  only_here x a = ap (λ b. elim b [ true ↦ a | false ↦ Var x ]) (eqb_refl x)

  -- a variable that is not replaced
  only_other : (x y : ℕ) → Agree (Var x) (only y (Var x) x)
  only_other x y = go (nat_eq y x) refl
    where
      go : (b : Bool) → nat_eq y x ≡ b → Agree (Var x) (elim (nat_eq y x) [ true ↦ Var x | false ↦ Var x ])
      go true e = rw e refl
      go false e = rw e refl

  some_inj : (q r : Replacement) → Some q ≡ Some r → q ≡ r
  some_inj q r e = cc

  none_some : (r : Replacement) → None ≡ Some r → ⊥
  none_some r e = cc

  unifies_one : (x : ℕ) (a : Arg) → IsProper a → Agree (replace_arg (only x a) a) a → Unifies (Var x) a (only x a)
  unifies_one x a p h = record { proper = only_proper x a p; agree = rw only_here (flip (replace_arg (only x a) a) a h) }
    where
      flip : (a b : Arg) → Agree a b → Agree b a
      flip Blank b h = agree_blank b
      flip (Var x) Blank h = tt
      flip (Var x) (Var y) h = sym h
      flip (Var x) (Constant c) h = absurd h
      flip (Constant c) Blank h = tt
      flip (Constant c) (Var y) h = absurd h
      flip (Constant c) (Constant d) h = sym h

  agree_flip : (a b : Arg) → Agree a b → Agree b a
  agree_flip Blank b h = agree_blank b
  agree_flip (Var x) Blank h = tt
  agree_flip (Var x) (Var y) h = sym h
  agree_flip (Var x) (Constant c) h = absurd h
  agree_flip (Constant c) Blank h = tt
  agree_flip (Constant c) (Var y) h = absurd h
  agree_flip (Constant c) (Constant d) h = sym h

  unifies_flip : (a b : Arg) (r : Replacement) → Unifies a b r → Unifies b a r
  unifies_flip a b r u = record { proper = u.proper; agree = agree_flip (replace_arg r a) (replace_arg r b) u.agree }

  unifies_var : (a b : Arg) → Agree a b → Unifies a b Var
  unifies_var a b h = record { proper = var_proper; agree = same a b h }
    where
      same : (a b : Arg) → Agree a b → Agree (replace_arg Var a) (replace_arg Var b)
      same Blank b h = tt
      same (Var x) Blank h = tt
      same (Var x) (Var y) h = h
      same (Var x) (Constant c) h = h
      same (Constant c) Blank h = tt
      same (Constant c) (Var y) h = h
      same (Constant c) (Constant d) h = h

  -- the loser y becomes x
  unifies_vars : (x y : ℕ) → Unifies (Var x) (Var y) (only y (Var x))
  unifies_vars x y = record { proper = only_proper y (Var x) tt; agree = rw only_here (agree_flip (Var x) (only y (Var x) x) (only_other x y)) }

  unifies_choice : (x y : ℕ) (b : Bool) (r : Replacement) → elim b [ true ↦ Some (only y (Var x)) | false ↦ Some (only x (Var y)) ] ≡ Some r → Unifies (Var x) (Var y) r
  unifies_choice x y true r e = subst (Unifies (Var x) (Var y)) (some_inj (only y (Var x)) r e) (unifies_vars x y)
  unifies_choice x y false r e = subst (Unifies (Var x) (Var y)) (some_inj (only x (Var y)) r e) (unifies_flip (Var y) (Var x) (only x (Var y)) (unifies_vars y x))

  unifies_constants : (c d : ℕ) (b : Bool) (r : Replacement) → nat_eq c d ≡ b → elim b [ true ↦ Some Var | false ↦ None ] ≡ Some r → Unifies (Constant c) (Constant d) r
  unifies_constants c d true r h e = subst (Unifies (Constant c) (Constant d)) (some_inj Var r e) (unifies_var (Constant c) (Constant d) (eqb-true c d h))
  unifies_constants c d false r h e = absurd (none_some r e)

  unify_unifies : (answer : List Arg) (a b : Arg) (r : Replacement) → unify_args answer a b ≡ Some r → Unifies a b r
  unify_unifies answer Blank b r e = subst (Unifies Blank b) (some_inj Var r e) (unifies_var Blank b tt)
  unify_unifies answer (Var x) Blank r e = subst (Unifies (Var x) Blank) (some_inj Var r e) (unifies_var (Var x) Blank tt)
  unify_unifies answer (Var x) (Var y) r e = unifies_choice x y (wins answer x y) r e
  unify_unifies answer (Var x) (Constant c) r e = subst (Unifies (Var x) (Constant c)) (some_inj (only x (Constant c)) r e) (unifies_one x (Constant c) tt refl)
  unify_unifies answer (Constant c) Blank r e = subst (Unifies (Constant c) Blank) (some_inj Var r e) (unifies_var (Constant c) Blank tt)
  unify_unifies answer (Constant c) (Var y) r e =
      subst (Unifies (Constant c) (Var y)) (some_inj (only y (Constant c)) r e) (unifies_flip (Var y) (Constant c) (only y (Constant c)) (unifies_one y (Constant c) tt refl))
  unify_unifies answer (Constant c) (Constant d) r e = unifies_constants c d (nat_eq c d) r refl e

  meeting_inj : (M N : Meeting) → Some M ≡ Some N → M ≡ N
  meeting_inj M N e = cc

  no_meeting : (M : Meeting) → None ≡ Some M → ⊥
  no_meeting M e = cc

  class_parts : (a b : Name) (x y : Arg) (r : Replacement) → a ≡ b → Unifies x y r
      → Parts (Class a x) (Class b y) (record { replacement = r; atom = Class a (fuller (replace_arg r x) (replace_arg r y)) })
  class_parts a b x y r e u = record { proper = u.proper; splits = split }
    where
      split : (s : ℕ → X) (f : Fact X) → Match s (Class a (fuller (replace_arg r x) (replace_arg r y))) f → Match s (replace r (Class a x)) f × Match s (replace r (Class b y)) f
      split s (InClass c t) m = let w = fits_fuller_out s (replace_arg r x) (replace_arg r y) t u.agree m.1 in ((m.0, w.0), (sym e ∙ m.0, w.1))
      split s (InRole c t v) m = absurd m
      split s (InAttr c t v) m = absurd m

  role_parts : (a b : Name) (x y z w : Arg) (r : Replacement) → a ≡ b → Unifies x z r → Unifies y w r
      → Parts (Role a x y) (Role b z w) (record { replacement = r; atom = Role a (fuller (replace_arg r x) (replace_arg r z)) (fuller (replace_arg r y) (replace_arg r w)) })
  role_parts a b x y z w r e u v = record { proper = u.proper; splits = split }
    where
      split : (s : ℕ → X) (f : Fact X) → Match s (Role a (fuller (replace_arg r x) (replace_arg r z)) (fuller (replace_arg r y) (replace_arg r w))) f
          → Match s (replace r (Role a x y)) f × Match s (replace r (Role b z w)) f
      split s (InRole c t i) m =
          let j = fits_fuller_out s (replace_arg r x) (replace_arg r z) t u.agree m.1 in
          let k = fits_fuller_out s (replace_arg r y) (replace_arg r w) i v.agree m.2 in ((m.0, j.0, k.0), (sym e ∙ m.0, j.1, k.1))
      split s (InClass c t) m = absurd m
      split s (InAttr c t i) m = absurd m

  attr_parts : (a b : Name) (x y z w : Arg) (r : Replacement) → a ≡ b → Unifies x z r → Unifies y w r
      → Parts (Attr a x y) (Attr b z w) (record { replacement = r; atom = Attr a (fuller (replace_arg r x) (replace_arg r z)) (fuller (replace_arg r y) (replace_arg r w)) })
  attr_parts a b x y z w r e u v = record { proper = u.proper; splits = split }
    where
      split : (s : ℕ → X) (f : Fact X) → Match s (Attr a (fuller (replace_arg r x) (replace_arg r z)) (fuller (replace_arg r y) (replace_arg r w))) f
          → Match s (replace r (Attr a x y)) f × Match s (replace r (Attr b z w)) f
      split s (InAttr c t i) m =
          let j = fits_fuller_out s (replace_arg r x) (replace_arg r z) t u.agree m.1 in
          let k = fits_fuller_out s (replace_arg r y) (replace_arg r w) i v.agree m.2 in ((m.0, j.0, k.0), (sym e ∙ m.0, j.1, k.1))
      split s (InClass c t) m = absurd m
      split s (InRole c t i) m = absurd m

  one_parts : (a b : Name) (x y : Arg) (M : Meeting) (o : Option Replacement) → a ≡ b → ((r : Replacement) → o ≡ Some r → Unifies x y r) → meeting_of_one (Class a) x y o ≡ Some M → Parts (Class a x) (Class b y) M
  one_parts a b x y M None e u h = absurd (no_meeting M h)
  one_parts a b x y M (Some r) e u h = subst (Parts (Class a x) (Class b y)) (meeting_inj _ M h) (class_parts a b x y r e (u r refl))

  -- after a further replacement
  proper_after : (r q : Replacement) → Proper r → Proper q → Proper (after r q)
  proper_after r q p k n = go (r n) (p n)
    where
      go : (a : Arg) → IsProper a → IsProper (replace_arg q a)
      go Blank h = absurd h
      go (Var x) h = k x
      go (Constant c) h = tt

  replace_after : (r q : Replacement) (a : Arg) → replace_arg (after r q) a ≡ replace_arg q (replace_arg r a)
  replace_after r q Blank = refl
  replace_after r q (Var x) = refl
  replace_after r q (Constant c) = refl

  unifies_first : (r q : Replacement) (a b : Arg) → Unifies a b r → Proper q → Unifies a b (after r q)
  unifies_first r q a b u p = record { proper = proper_after r q u.proper p; agree = rw (replace_after r q a, replace_after r q b) (agree_replace q (replace_arg r a) (replace_arg r b) u.agree) }

  unifies_second : (r q : Replacement) (a b : Arg) → Proper r → Unifies (replace_arg r a) (replace_arg r b) q → Unifies a b (after r q)
  unifies_second r q a b p u = record { proper = proper_after r q p u.proper; agree = rw (replace_after r q a, replace_after r q b) u.agree }

  two_parts : (form : Arg → Arg → Atom) (g h : Atom) (x y z w : Arg) (M : Meeting) (r : Replacement) (o : Option Replacement)
      → Unifies x z r → ((q : Replacement) → o ≡ Some q → Unifies (replace_arg r y) (replace_arg r w) q)
      → ((q : Replacement) → Unifies x z q → Unifies y w q → Parts g h (record { replacement = q; atom = form (fuller (replace_arg q x) (replace_arg q z)) (fuller (replace_arg q y) (replace_arg q w)) }))
      → meeting_of_two form x y z w r o ≡ Some M → Parts g h M
  two_parts form g h x y z w M r None u v k e = absurd (no_meeting M e)
  two_parts form g h x y z w M r (Some q) u v k e =
      subst (Parts g h) (meeting_inj _ M e) (k (after r q) (unifies_first r q x z u (v q refl).proper) (unifies_second r q y w u.proper (v q refl)))

  pairs_parts : (answer : List Arg) (form : Arg → Arg → Atom) (g h : Atom) (x y z w : Arg) (M : Meeting) (o : Option Replacement)
      → ((r : Replacement) → o ≡ Some r → Unifies x z r)
      → ((q : Replacement) → Unifies x z q → Unifies y w q → Parts g h (record { replacement = q; atom = form (fuller (replace_arg q x) (replace_arg q z)) (fuller (replace_arg q y) (replace_arg q w)) }))
      → meeting_of_pairs answer form x y z w o ≡ Some M → Parts g h M
  pairs_parts answer form g h x y z w M None u k e = absurd (no_meeting M e)
  pairs_parts answer form g h x y z w M (Some r) u k e =
      two_parts form g h x y z w M r (unify_args answer (replace_arg r y) (replace_arg r w)) (u r refl) (λ q. unify_unifies answer (replace_arg r y) (replace_arg r w) q) k e

  -- the names are equal where there is a meeting
  names_case : (a b : Name) (g h : Atom) (M : Meeting) (o : Option Meeting) (t : Bool) → nat_eq a.0 b.0 ≡ t → (a ≡ b → o ≡ Some M → Parts g h M)
      → elim t [ true ↦ o | false ↦ None ] ≡ Some M → Parts g h M
  names_case a b g h M o true e k m = k (ap (λ n. record { 0 = n }) (eqb-true a.0 b.0 e)) m
  names_case a b g h M o false e k m = absurd (no_meeting M m)

  -- what a meeting's atom is under an assignment, both atoms are after the replacement, by which no variable becomes `_`
  pub parts : (answer : List Arg) (g h : Atom) (M : Meeting) → meeting answer g h ≡ Some M → Parts g h M
  parts answer (Class a x) (Class b y) M e =
      names_case a b (Class a x) (Class b y) M (meeting_of_one (Class a) x y (unify_args answer x y)) (nat_eq a.0 b.0) refl
      (λ n m. one_parts a b x y M (unify_args answer x y) n (λ r. unify_unifies answer x y r) m) e
  parts answer (Role a x y) (Role b z w) M e =
      names_case a b (Role a x y) (Role b z w) M (meeting_of_pairs answer (Role a) x y z w (unify_args answer x z)) (nat_eq a.0 b.0) refl
      (λ n m. pairs_parts answer (Role a) (Role a x y) (Role b z w) x y z w M (unify_args answer x z) (λ r. unify_unifies answer x z r) (λ q u v. role_parts a b x y z w q n u v) m) e
  parts answer (Attr a x y) (Attr b z w) M e =
      names_case a b (Attr a x y) (Attr b z w) M (meeting_of_pairs answer (Attr a) x y z w (unify_args answer x z)) (nat_eq a.0 b.0) refl
      (λ n m. pairs_parts answer (Attr a) (Attr a x y) (Attr b z w) x y z w M (unify_args answer x z) (λ r. unify_unifies answer x z r) (λ q u v. attr_parts a b x y z w q n u v) m) e
  parts answer (Class a x) (Role b z w) M e = absurd (no_meeting M e)
  parts answer (Class a x) (Attr b z w) M e = absurd (no_meeting M e)
  parts answer (Role a x y) (Class b z) M e = absurd (no_meeting M e)
  parts answer (Role a x y) (Attr b z w) M e = absurd (no_meeting M e)
  parts answer (Attr a x y) (Class b z) M e = absurd (no_meeting M e)
  parts answer (Attr a x y) (Role b z w) M e = absurd (no_meeting M e)
