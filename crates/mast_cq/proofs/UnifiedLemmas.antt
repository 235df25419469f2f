-- A query and the query in which two of its atoms are unified.
use Rattle.std.proofs.Common.{◌≡◌, ℕ, List, map, Bool, true, false, nat_eq, Some, None, Option, slice_get, sym, refl, ap, ap₂, subst, ◌∙◌}
use borrow.Author.Tests.{eqb-true}
use Rattle.std.specs.List.{AllByRecursion}
use Rattle.mast_cq.specs.declared.atom.Arg.{Arg}
use Rattle.mast_cq.specs.declared.atom.Arg.TheVariants.{Blank, Var, Constant}
use Rattle.mast_cq.specs.declared.atom.Atom.{Atom}
use Rattle.mast_cq.specs.declared.atom.Atom.TheVariants.{Class, Role, Attr}
use Rattle.mast_cq.specs.declared.query.Cq.{Cq}
use Rattle.mast_cq.specs.Unification.{replace, Meeting, meeting, met, met_if, meeting_if, unified}
use Rattle.mast_cq.specs.Meanings.{Fact, InClass, InRole, InAttr, Fits, Match, Gives, MetBy, HasTuple}
use Rattle.mast_cq.specs.UnifierMeanings.{Joined, KnownAtom, value, before, Parts, UnifiedHas, Unifiable}
use Rattle.mast_cq.proofs.PlaceLemmas.{all_at, at_all, get_map, there_map, AfterTwo, written, kept, after_two, two_first, two_second, two_other}
use Rattle.mast_cq.proofs.JoinLemmas.{join}
use Rattle.mast_cq.proofs.PartsLemmas.{parts}
use Rattle.mast_cq.proofs.ReplacementLemmas.{respects_match, respects_gives, match_before, gives_before}

some_same : {X : Type 0} (x y : X) → Some x ≡ Some y → x ≡ y
some_same x y e = cc

module _ {X : Type 0} (constant : ℕ → X) (P : Fact X → Type 0) (q : Cq) (i j : ℕ) (tuple : List X) where
  -- back over the meeting of two atoms
  met_out : (g h : Atom) (m : Meeting) → slice_get q.atoms i ≡ Some g → slice_get q.atoms j ≡ Some h → meeting q.answer g h ≡ Some m → HasTuple constant P (met q i j m) tuple → HasTuple constant P q tuple
  met_out g h m ea eb eo w = record {
    under = before constant w.under m.replacement;
    each = at_all (MetBy constant P (before constant w.under m.replacement)) q.atoms (λ k x e. at_j k x e (nat_eq k j) refl);
    answers = gives_before constant w.under m.replacement p.proper q.answer tuple w.answers;
  }
    where
      p : Parts constant g h m
      p = parts constant q.answer g h m eo

      all : List Atom
      all = map (replace m.replacement) q.atoms

      back : (x : Atom) → MetBy constant P w.under (replace m.replacement x) → MetBy constant P (before constant w.under m.replacement) x
      back x v = record { fact = v.fact; matches = match_before constant w.under m.replacement p.proper x v.fact v.matches; holds = v.holds }

      left : MetBy constant P w.under m.atom → MetBy constant P (before constant w.under m.replacement) g
      left v = back g (record { fact = v.fact; matches = (p.splits w.under v.fact v.matches).0; holds = v.holds })

      right : MetBy constant P w.under m.atom → MetBy constant P (before constant w.under m.replacement) h
      right v = back h (record { fact = v.fact; matches = (p.splits w.under v.fact v.matches).1; holds = v.holds })

      at_i : (k : ℕ) (x : Atom) → slice_get q.atoms k ≡ Some x → nat_eq k j ≡ false → (b : Bool) → nat_eq k i ≡ b → MetBy constant P (before constant w.under m.replacement) x
      at_i k x e f true d =
          let n = eqb-true k i d in
          let s : g ≡ x = some_same g x (sym ea ∙ subst (λ l. slice_get q.atoms l ≡ Some x) n e) in
          subst (MetBy constant P (before constant w.under m.replacement)) s
          (left (all_at (MetBy constant P w.under) _ i m.atom w.each (two_first (map (replace m.replacement) q.atoms) i j m.atom (replace m.replacement g) (get_map (replace m.replacement) q.atoms i g ea))))
      at_i k x e f false d =
          back x (all_at (MetBy constant P w.under) _ k (replace m.replacement x) w.each (two_other (map (replace m.replacement) q.atoms) i j k m.atom d f ∙ get_map (replace m.replacement) q.atoms k x e))

      at_j : (k : ℕ) (x : Atom) → slice_get q.atoms k ≡ Some x → (b : Bool) → nat_eq k j ≡ b → MetBy constant P (before constant w.under m.replacement) x
      at_j k x e true d =
          let n = eqb-true k j d in
          let s : h ≡ x = some_same h x (sym eb ∙ subst (λ l. slice_get q.atoms l ≡ Some x) n e) in
          subst (MetBy constant P (before constant w.under m.replacement)) s
          (right (all_at (MetBy constant P w.under) _ j m.atom w.each (two_second (map (replace m.replacement) q.atoms) i j m.atom (replace m.replacement h) (get_map (replace m.replacement) q.atoms j h eb))))
      at_j k x e false d = at_i k x e d (nat_eq k i) refl

  -- what the unified query has, the query has
  pub unified_out : (r : Cq) → unified q i j ≡ Some r → HasTuple constant P r tuple → HasTuple constant P q tuple
  unified_out r e w = go (slice_get q.atoms i) (slice_get q.atoms j) refl refl e
    where
      meets : (g h : Atom) → slice_get q.atoms i ≡ Some g → slice_get q.atoms j ≡ Some h → (o : Option Meeting) → meeting q.answer g h ≡ o → met_if q i j o ≡ Some r → HasTuple constant P q tuple
      meets g h ea eb None eo f = absurd (cc)
      meets g h ea eb (Some m) eo f = met_out g h m ea eb eo (subst (λ c. HasTuple constant P c tuple) (sym (some_same (met q i j m) r f)) w)

      go : (a b : Option Atom) → slice_get q.atoms i ≡ a → slice_get q.atoms j ≡ b → met_if q i j (meeting_if q.answer a b) ≡ Some r → HasTuple constant P q tuple
      go None b ea eb f = absurd (cc)
      go (Some g) None ea eb f = absurd (cc)
      go (Some g) (Some h) ea eb f = meets g h ea eb (meeting q.answer g h) refl f

module _ {X : Type 0} (constant : ℕ → X) (Known : ℕ → Type 0) (apart : (c d : ℕ) → Known c → Known d → constant c ≡ constant d → c ≡ d) where
  -- what the query has, where one fact is met by both atoms, the unified query has
  pub unified_into : (P : Fact X → Type 0) (q : Cq) (i j : ℕ) (tuple : List X) (g h : Atom) (f : Fact X) (s : ℕ → X) → slice_get q.atoms i ≡ Some g → slice_get q.atoms j ≡ Some h
      → KnownAtom Known g → KnownAtom Known h → Match constant s g f → Match constant s h f → P f → AllByRecursion (MetBy constant P s) q.atoms → Gives constant s q.answer tuple → UnifiedHas constant P q i j tuple
  unified_into P q i j tuple g h f s ea eb kg kh mg mh hf each answers = record {
    by = met q i j J.by;
    is = ap₂ (λ a b. met_if q i j (meeting_if q.answer a b)) ea eb ∙ ap (met_if q i j) J.is;
    has = record {
      under = s;
      each = at_all (MetBy constant P s) _ (λ k y e. at k y (after_two (map (replace J.by.replacement) q.atoms) i j k J.by.atom y e));
      answers = respects_gives constant s J.by.replacement J.respects q.answer tuple answers;
    };
  }
    where
      J : Joined constant s f (meeting q.answer g h)
      J = join constant Known apart q.answer s g h f kg kh mg mh

      at : (k : ℕ) (y : Atom) → AfterTwo (map (replace J.by.replacement) q.atoms) i j k J.by.atom y → MetBy constant P s y
      at k y (written e) = subst (MetBy constant P s) (sym e) (record { fact = f; matches = J.matches; holds = hf })
      at k y (kept e) =
          let w = there_map (replace J.by.replacement) q.atoms k y e in
          let v = all_at (MetBy constant P s) q.atoms k w.element each w.is in
          let n : replace J.by.replacement w.element ≡ y = some_same (replace J.by.replacement w.element) y (sym (get_map (replace J.by.replacement) q.atoms k w.element w.is) ∙ e) in
          subst (MetBy constant P s) n (record { fact = v.fact; matches = respects_match constant s J.by.replacement J.respects w.element v.fact v.matches; holds = v.holds })

  fits_value : (d : X) (s : ℕ → X) (a : Arg) → Fits constant s a (value constant d s a)
  fits_value d s Blank = tt
  fits_value d s (Var x) = refl
  fits_value d s (Constant c) = refl

  -- a fact that the atom is
  fact_of : (d : X) (s : ℕ → X) → Atom → Fact X
  fact_of d s (Class a x) = InClass a (value constant d s x)
  fact_of d s (Role a x y) = InRole a (value constant d s x) (value constant d s y)
  fact_of d s (Attr a x y) = InAttr a (value constant d s x) (value constant d s y)

  is_fact : (d : X) (s : ℕ → X) (g : Atom) → Match constant s g (fact_of d s g)
  unfolding fact_of
  is_fact d s (Class a x) = (refl, fits_value d s x)
  is_fact d s (Role a x y) = (refl, fits_value d s x, fits_value d s y)
  is_fact d s (Attr a x y) = (refl, fits_value d s x, fits_value d s y)

  -- atoms that have a meeting are one fact under some assignment
  meeting_unifiable : (answer : List Arg) (g h : Atom) (m : Meeting) → meeting answer g h ≡ Some m → Unifiable constant g h
  meeting_unifiable answer g h m e =
      let p = parts constant answer g h m e in
      let s = λ (n : ℕ). constant 0 in
      let f = fact_of (constant 0) s m.atom in
      let w = p.splits s f (is_fact (constant 0) s m.atom) in
      record {
        under = before constant s m.replacement;
        fact = f;
        first_is = match_before constant s m.replacement p.proper g f w.0;
        second_is = match_before constant s m.replacement p.proper h f w.1;
      }

  -- two atoms have no meeting exactly where no assignment makes them one fact
  pub none_unifiable : (answer : List Arg) (g h : Atom) → KnownAtom Known g → KnownAtom Known h → meeting answer g h ≡ None → Unifiable constant g h → ⊥
  none_unifiable answer g h kg kh e u = let w = join constant Known apart answer u.under g h u.fact kg kh u.first_is u.second_is in no_some w.by (sym e ∙ w.is)
    where
      no_some : (m : Meeting) → None ≡ Some m → ⊥
      no_some m d = cc

  pub unifiable_none : (answer : List Arg) (g h : Atom) → (Unifiable constant g h → ⊥) → meeting answer g h ≡ None
  unifiable_none answer g h k = go (meeting answer g h) refl
    where
      go : (o : Option Meeting) → meeting answer g h ≡ o → o ≡ None
      go None e = refl
      go (Some m) e = absurd (k (meeting_unifiable answer g h m e))
