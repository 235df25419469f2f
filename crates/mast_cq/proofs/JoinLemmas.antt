-- Two atoms that one fact meets unify, and the assignment respects the replacement.
use Rattle.std.proofs.Common.{◌≡◌, ℕ, List, Bool, true, false, nat_eq, Some, None, Option, sym, refl, ap, subst, ◌∙◌}
use borrow.Author.Tests.{eqb-true, eq-eqb}
use Rattle.mast_terms.specs.declared.name.Name.{Name}
use Rattle.mast_cq.specs.declared.atom.Arg.{Arg}
use Rattle.mast_cq.specs.declared.atom.Arg.TheVariants.{Blank, Var, Constant}
use Rattle.mast_cq.specs.declared.atom.Atom.{Atom}
use Rattle.mast_cq.specs.declared.atom.Atom.TheVariants.{Class, Role, Attr}
use Rattle.mast_cq.specs.Unification.{Replacement, replace_arg, only, wins, unify_args, fuller, Meeting, after, meeting_of_one, meeting_of_two, meeting_of_pairs, meeting}
use Rattle.mast_cq.specs.Meanings.{Fact, InClass, InRole, InAttr}
use Rattle.mast_cq.specs.Meanings.{Fits as FitsBy, Match as MatchBy}
use Rattle.mast_cq.proofs.ReplacementLemmas.{respects_fits, respects_stands}
use Rattle.mast_cq.specs.UnifierMeanings.{Stands as StandsBy, Respects as RespectsBy, Joined as JoinedBy, KnownArg, KnownAtom}

module _ {X : Type 0} (constant : ℕ → X) (Known : ℕ → Type 0) (apart : (c d : ℕ) → Known c → Known d → constant c ≡ constant d → c ≡ d) where
  abbrev Fits : (ℕ → X) → Arg → X → Type 0
  Fits s a t = FitsBy constant s a t

  abbrev Match : (ℕ → X) → Atom → Fact X → Type 0
  Match s g f = MatchBy constant s g f

  abbrev Stands : (ℕ → X) → Arg → X → Type 0
  Stands s a t = StandsBy constant s a t

  abbrev Respects : (ℕ → X) → Replacement → Type 0
  Respects s r = RespectsBy constant s r

  abbrev Joined : (ℕ → X) → Fact X → Option Meeting → Type 0
  Joined s f o = JoinedBy constant s f o

  respects_after : (s : ℕ → X) (r q : Replacement) → Respects s r → Respects s q → Respects s (after r q)
  respects_after s r q h k n = respects_stands constant s q k (r n) (s n) (h n)

  respects_var : (s : ℕ → X) → Respects s Var
  respects_var s n = refl

  only_case : (s : ℕ → X) (x : ℕ) (a : Arg) (n : ℕ) (b : Bool) → nat_eq x n ≡ b → Stands s a (s x) → Stands s (elim b [ true ↦ a | false ↦ Var n ]) (s n)
  only_case s x a n true e h = subst (λ m. Stands s a (s m)) (eqb-true x n e) h
  only_case s x a n false e h = refl

  respects_only : (s : ℕ → X) (x : ℕ) (a : Arg) → Stands s a (s x) → Respects s (only x a)
  respects_only s x a h n = only_case s x a n (nat_eq x n) refl h

  -- two arguments that fit one term unify, under every assignment that they fit under
  record Unified (s : ℕ → X) (o : Option Replacement) : Type 0 where
    r : Replacement
    is : o ≡ Some r
    respects : Respects s r
    knows : (n : ℕ) → KnownArg Known (r n)

  known_var : (n : ℕ) → KnownArg Known (Var n)
  known_var n = tt

  known_case : (a : Arg) (n : ℕ) (b : Bool) → KnownArg Known a → KnownArg Known (elim b [ true ↦ a | false ↦ Var n ])
  known_case a n true k = k
  known_case a n false k = tt

  known_only : (x : ℕ) (a : Arg) → KnownArg Known a → (n : ℕ) → KnownArg Known (only x a n)
  known_only x a k n = known_case a n (nat_eq x n) k

  known_replaced : (r : Replacement) → ((n : ℕ) → KnownArg Known (r n)) → (a : Arg) → KnownArg Known a → KnownArg Known (replace_arg r a)
  known_replaced r k Blank h = tt
  known_replaced r k (Var x) h = k x
  known_replaced r k (Constant c) h = h

  var_var : (s : ℕ → X) (x y : ℕ) (b : Bool) → s x ≡ s y → Unified s (elim b [ true ↦ Some (only y (Var x)) | false ↦ Some (only x (Var y)) ])
  var_var s x y true e = record { r = only y (Var x); is = refl; respects = respects_only s y (Var x) (sym e); knows = known_only y (Var x) tt }
  var_var s x y false e = record { r = only x (Var y); is = refl; respects = respects_only s x (Var y) e; knows = known_only x (Var y) tt }

  unify_unified : (answer : List Arg) (s : ℕ → X) (a b : Arg) (t : X) → KnownArg Known a → KnownArg Known b → Fits s a t → Fits s b t → Unified s (unify_args answer a b)
  unify_unified answer s Blank b t j k f g = record { r = Var; is = refl; respects = respects_var s; knows = known_var }
  unify_unified answer s (Var x) Blank t j k f g = record { r = Var; is = refl; respects = respects_var s; knows = known_var }
  unify_unified answer s (Var x) (Var y) t j k f g = var_var s x y (wins answer x y) (sym f ∙ g)
  unify_unified answer s (Var x) (Constant c) t j k f g = record { r = only x (Constant c); is = refl; respects = respects_only s x (Constant c) (sym f ∙ g); knows = known_only x (Constant c) k }
  unify_unified answer s (Constant c) Blank t j k f g = record { r = Var; is = refl; respects = respects_var s; knows = known_var }
  unify_unified answer s (Constant c) (Var y) t j k f g = record { r = only y (Constant c); is = refl; respects = respects_only s y (Constant c) (sym g ∙ f); knows = known_only y (Constant c) j }
  unify_unified answer s (Constant c) (Constant d) t j k f g =
      record { r = Var; is = ap (λ b. elim b [ true ↦ Some Var | false ↦ None ]) (eq-eqb c d (apart c d j k (sym f ∙ g))); respects = respects_var s; knows = known_var }

  fits_fuller : (s : ℕ → X) (a b : Arg) (t : X) → Fits s a t → Fits s b t → Fits s (fuller a b) t
  fits_fuller s Blank b t f g = g
  fits_fuller s (Var x) b t f g = f
  fits_fuller s (Constant c) b t f g = f

  one_joined : (s : ℕ → X) (a c : Name) (x y : Arg) (t : X) (o : Option Replacement) → a ≡ c → Fits s x t → Fits s y t → Unified s o
      → Joined s (InClass c t) (meeting_of_one (Class a) x y o)
  one_joined s a c x y t o e f g u = record {
    by = record { replacement = u.r; atom = Class a (fuller (replace_arg u.r x) (replace_arg u.r y)) };
    is = ap (meeting_of_one (Class a) x y) u.is;
    respects = u.respects;
    matches = (e, fits_fuller s (replace_arg u.r x) (replace_arg u.r y) t (respects_fits constant s u.r u.respects x t f) (respects_fits constant s u.r u.respects y t g));
  }

  fits_both : (s : ℕ → X) (r : Replacement) (x y : Arg) (t : X) → Respects s r → Fits s x t → Fits s y t → Fits s (fuller (replace_arg r x) (replace_arg r y)) t
  fits_both s r x y t h f g = fits_fuller s (replace_arg r x) (replace_arg r y) t (respects_fits constant s r h x t f) (respects_fits constant s r h y t g)

  record Two (s : ℕ → X) (x y z w : Arg) (t u : X) (form : Arg → Arg → Atom) (o : Option Meeting) : Type 0 where
    q : Replacement
    is : o ≡ Some (record { replacement = q; atom = form (fuller (replace_arg q x) (replace_arg q z)) (fuller (replace_arg q y) (replace_arg q w)) })
    respects : Respects s q
    first : Fits s (fuller (replace_arg q x) (replace_arg q z)) t
    second : Fits s (fuller (replace_arg q y) (replace_arg q w)) u

  two_joined : (answer : List Arg) (s : ℕ → X) (form : Arg → Arg → Atom) (x y z w : Arg) (t u : X) (o : Option Replacement) → Unified s o
      → KnownArg Known y → KnownArg Known w → Fits s x t → Fits s y u → Fits s z t → Fits s w u → Two s x y z w t u form (meeting_of_pairs answer form x y z w o)
  two_joined answer s form x y z w t u o v ky kw fx fy fz fw =
      let k = unify_unified answer s (replace_arg v.r y) (replace_arg v.r w) u (known_replaced v.r v.knows y ky) (known_replaced v.r v.knows w kw) (respects_fits constant s v.r v.respects y u fy) (respects_fits constant s v.r v.respects w u fw) in
      let h = respects_after s v.r k.r v.respects k.respects in
      record {
        q = after v.r k.r;
        is = ap (meeting_of_pairs answer form x y z w) v.is ∙ ap (meeting_of_two form x y z w v.r) k.is;
        respects = h;
        first = fits_both s (after v.r k.r) x z t h fx fz;
        second = fits_both s (after v.r k.r) y w u h fy fw;
      }

  role_joined : (s : ℕ → X) (a c : Name) (x y z w : Arg) (t u : X) (o : Option Meeting) → a ≡ c → Two s x y z w t u (Role a) o → Joined s (InRole c t u) o
  role_joined s a c x y z w t u o e v = record {
    by = record { replacement = v.q; atom = Role a (fuller (replace_arg v.q x) (replace_arg v.q z)) (fuller (replace_arg v.q y) (replace_arg v.q w)) };
    is = v.is;
    respects = v.respects;
    matches = (e, v.first, v.second);
  }

  attr_joined : (s : ℕ → X) (a c : Name) (x y z w : Arg) (t u : X) (o : Option Meeting) → a ≡ c → Two s x y z w t u (Attr a) o → Joined s (InAttr c t u) o
  attr_joined s a c x y z w t u o e v = record {
    by = record { replacement = v.q; atom = Attr a (fuller (replace_arg v.q x) (replace_arg v.q z)) (fuller (replace_arg v.q y) (replace_arg v.q w)) };
    is = v.is;
    respects = v.respects;
    matches = (e, v.first, v.second);
  }

  same_name : (s : ℕ → X) (f : Fact X) (a b : Name) (o : Option Meeting) → a ≡ b → Joined s f o → Joined s f (elim (nat_eq a.0 b.0) [ true ↦ o | false ↦ None ])
  same_name s f a b o e j = record {
    by = j.by;
    is = ap (λ t. elim t [ true ↦ o | false ↦ None ]) (eq-eqb a.0 b.0 (ap (λ n. n.0) e)) ∙ j.is;
    respects = j.respects;
    matches = j.matches;
  }

  -- two atoms that one fact is under an assignment have a meeting, which the assignment respects and whose atom the fact is
  pub join : (answer : List Arg) (s : ℕ → X) (g h : Atom) (f : Fact X) → KnownAtom Known g → KnownAtom Known h → Match s g f → Match s h f → Joined s f (meeting answer g h)
  join answer s (Class a x) (Class b y) (InClass c t) kg kh m n =
      same_name s (InClass c t) a b _ (m.0 ∙ sym n.0) (one_joined s a c x y t (unify_args answer x y) m.0 m.1 n.1 (unify_unified answer s x y t kg kh m.1 n.1))
  join answer s (Role a x y) (Role b z w) (InRole c t u) kg kh m n =
      same_name s (InRole c t u) a b _ (m.0 ∙ sym n.0) (role_joined s a c x y z w t u _ m.0 (two_joined answer s (Role a) x y z w t u (unify_args answer x z) (unify_unified answer s x z t kg.0 kh.0 m.1 n.1) kg.1 kh.1 m.1 m.2 n.1 n.2))
  join answer s (Attr a x y) (Attr b z w) (InAttr c t u) kg kh m n =
      same_name s (InAttr c t u) a b _ (m.0 ∙ sym n.0) (attr_joined s a c x y z w t u _ m.0 (two_joined answer s (Attr a) x y z w t u (unify_args answer x z) (unify_unified answer s x z t kg.0 kh.0 m.1 n.1) kg.1 kh.1 m.1 m.2 n.1 n.2))
  join answer s (Class a x) h (InRole c t u) kg kh m n = absurd m
  join answer s (Class a x) h (InAttr c t u) kg kh m n = absurd m
  join answer s (Role a x y) h (InClass c t) kg kh m n = absurd m
  join answer s (Role a x y) h (InAttr c t u) kg kh m n = absurd m
  join answer s (Attr a x y) h (InClass c t) kg kh m n = absurd m
  join answer s (Attr a x y) h (InRole c t u) kg kh m n = absurd m
  join answer s (Class a x) (Role b z w) (InClass c t) kg kh m n = absurd n
  join answer s (Class a x) (Attr b z w) (InClass c t) kg kh m n = absurd n
  join answer s (Role a x y) (Class b z) (InRole c t u) kg kh m n = absurd n
  join answer s (Role a x y) (Attr b z w) (InRole c t u) kg kh m n = absurd n
  join answer s (Attr a x y) (Class b z) (InAttr c t u) kg kh m n = absurd n
  join answer s (Attr a x y) (Role b z w) (InAttr c t u) kg kh m n = absurd n
