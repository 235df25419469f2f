-- The variables of an answer list stand in atoms, and still do after a meeting and in the normal form.
use Rattle.std.proofs.Common.{◌≡◌, ℕ, zero, suc, List, [], ◌∷◌, map, Bool, true, false, nat_eq, Some, None, Option, ◌⊎◌, inl, inr, ◌||◌, eqb-true, refl, sym, ap, ◌∙◌, subst}
use Rattle.std.proofs.lemmas.Bool.{true≢false, false≢true}
use Rattle.std.specs.List.{AllByRecursion}
use Rattle.mast_cq.specs.declared.atom.Arg.{Arg}
use Rattle.mast_cq.specs.declared.atom.Arg.TheVariants.{Blank, Var, Constant}
use Rattle.mast_cq.specs.declared.atom.Atom.{Atom}
use Rattle.mast_cq.specs.declared.atom.Atom.TheVariants.{Class, Role, Attr}
use Rattle.mast_cq.specs.declared.query.Cq.{Cq}
use Rattle.mast_cq.specs.Meanings.{Fact, InClass, InRole, InAttr, Fits, Match}
use Rattle.mast_cq.specs.NormalForms.{blank_arg, blank, alone, first_var, in_order, without, settle, places, normal_form, Occurs}
use Rattle.mast_cq.specs.Origins.{SomeAtom}
use Rattle.mast_cq.specs.Queries.{In, has_var, TakesTwo}
use Rattle.mast_cq.specs.Steps.{merged}
use Rattle.mast_cq.specs.Unification.{Replacement, replace_arg, replace, Meeting, meeting}
use Rattle.mast_cq.specs.UnifierMeanings.{IsProper}
use Rattle.mast_cq.proofs.AloneLemmas.{alone_parts, first_true}
use Rattle.mast_cq.proofs.ListLemmas.{each_in, in_each, map_in, each_map}
use Rattle.mast_cq.proofs.OrderLemmas.{order_out}
use Rattle.mast_cq.proofs.PartsLemmas.{parts}
use Rattle.mast_cq.proofs.TakesLemmas.{two_each}

-- an answer is a constant, or a variable of some atom
abbrev pub IsAnswered : List Atom → Arg → Type 0
IsAnswered atoms Blank = ⊥
IsAnswered atoms (Var n) = SomeAtom (Occurs n) atoms
IsAnswered atoms (Constant c) = Unit {0}

-- each answer of the query is
abbrev pub AreAnswered : Cq → Type 0
AreAnswered q = AllByRecursion (IsAnswered q.atoms) q.answer

same_eq : (n : ℕ) → nat_eq n n ≡ true
same_eq n = borrow.Author.Tests.eq-eqb n n refl

-- a variable that stands in the answer list is found there
or_right : (a : Bool) → (a || true) ≡ true
or_right true = refl
or_right false = refl

in_has : (answer : List Arg) (n : ℕ) → In (Var n) answer → has_var answer n ≡ true
in_has [] n i = absurd i
in_has (Blank ∷ more) n (inl e) = absurd (cc)
in_has (Blank ∷ more) n (inr i) = in_has more n i
in_has (Constant c ∷ more) n (inl e) = absurd (cc)
in_has (Constant c ∷ more) n (inr i) = in_has more n i
in_has (Var y ∷ more) n (inl e) = let k : y ≡ n = cc in ap (λ b. b || has_var more n) (subst (λ z. nat_eq z n ≡ true) (sym k) (same_eq n))
in_has (Var y ∷ more) n (inr i) = ap (λ b. nat_eq y n || b) (in_has more n i) ∙ or_right (nat_eq y n)

-- another variable stays where one becomes `_`
kept_case : (n : ℕ) (b : Bool) → b ≡ false → ◌≡◌ {A = Arg} (elim b [ true ↦ Blank | false ↦ Var n ]) (Var n)
kept_case n true e = absurd (true≢false e)
kept_case n false e = refl

apart : (n m : ℕ) → (n ≡ m → ⊥) → nat_eq n m ≡ false
apart n m d = go (nat_eq n m) refl
  where
    go : (b : Bool) → nat_eq n m ≡ b → nat_eq n m ≡ false
    go true e = absurd (d (eqb-true n m e))
    go false e = e

arg_kept : (m n : ℕ) (x : Arg) → (n ≡ m → ⊥) → x ≡ Var n → blank_arg m x ≡ Var n
arg_kept m n x d e = ap (blank_arg m) e ∙ kept_case n (nat_eq n m) (apart n m d)

blank_kept : (m n : ℕ) (g : Atom) → (n ≡ m → ⊥) → Occurs n g → Occurs n (blank m g)
blank_kept m n (Class a x) d o = arg_kept m n x d o
blank_kept m n (Role a x y) d (inl e) = inl (arg_kept m n x d e)
blank_kept m n (Role a x y) d (inr e) = inr (arg_kept m n y d e)
blank_kept m n (Attr a x y) d (inl e) = inl (arg_kept m n x d e)
blank_kept m n (Attr a x y) d (inr e) = inr (arg_kept m n y d e)

in_ordered : (g : Atom) (gs : List Atom) → In g gs → In g (in_order gs)
in_ordered g gs i = each_in (λ h. In h (in_order gs)) g gs (order_out (λ h. In h (in_order gs)) gs (in_each (λ h. In h (in_order gs)) (in_order gs) (λ h k. k))) i

without_kept : (m n : ℕ) (gs : List Atom) → (n ≡ m → ⊥) → SomeAtom (Occurs n) gs → SomeAtom (Occurs n) (without m gs)
without_kept m n gs d w = record {
  atom = blank m w.atom;
  among = in_ordered (blank m w.atom) (map (blank m) gs) (map_in (blank m) w.atom gs w.among);
  is = blank_kept m n w.atom d w.is;
}

-- an answer variable stays where those that are alone become `_`
settle_kept : (answer : List Arg) (n : ℕ) → has_var answer n ≡ true → (k : ℕ) (gs : List Atom) → SomeAtom (Occurs n) gs → SomeAtom (Occurs n) (settle answer k gs)
settle_kept answer n h zero gs w = w
settle_kept answer n h (suc k) gs w = go (first_var (alone answer gs) gs) refl (λ m v. settle_kept answer n h k (without m gs) v)
  where
    go : (o : Option ℕ) → first_var (alone answer gs) gs ≡ o → ((m : ℕ) → SomeAtom (Occurs n) (without m gs) → SomeAtom (Occurs n) (settle answer k (without m gs)))
        → SomeAtom (Occurs n) (elim o as (λ i. List Atom) [ None ↦ gs | Some m ↦ settle answer k (without m gs) ])
    go None e f = w
    go (Some m) e f =
        let a = (alone_parts answer gs m (first_true (alone answer gs) gs m e)).0 in
        f m (without_kept m n gs (λ d. true≢false (sym h ∙ (ap (has_var answer) d ∙ a))) w)

-- so each answer of the query is one of its normal form
pub normal_answered : (q : Cq) → AreAnswered q → AreAnswered (normal_form q)
normal_answered q all = in_each (IsAnswered (normal_form q).atoms) q.answer (λ x i. go x i (each_in (IsAnswered q.atoms) x q.answer all i))
  where
    go : (x : Arg) → In x q.answer → IsAnswered q.atoms x → IsAnswered (normal_form q).atoms x
    go Blank i a = a
    go (Var n) i a = settle_kept q.answer n (in_has q.answer n i) (places q.atoms) (in_order q.atoms) (record { atom = a.atom; among = in_ordered a.atom q.atoms a.among; is = a.is })
    go (Constant c) i a = tt

replaced_occurs : (r : Replacement) (n k : ℕ) → r n ≡ Var k → (g : Atom) → Occurs n g → Occurs k (replace r g)
replaced_occurs r n k e (Class a x) o = ap (replace_arg r) o ∙ e
replaced_occurs r n k e (Role a x y) (inl o) = inl (ap (replace_arg r) o ∙ e)
replaced_occurs r n k e (Role a x y) (inr o) = inr (ap (replace_arg r) o ∙ e)
replaced_occurs r n k e (Attr a x y) (inl o) = inl (ap (replace_arg r) o ∙ e)
replaced_occurs r n k e (Attr a x y) (inr o) = inr (ap (replace_arg r) o ∙ e)

-- an assignment of two things by which one variable differs from all else
abbrev constant : ℕ → Bool
constant c = false

abbrev all_false : Atom → Fact Bool
all_false (Class a x) = InClass a false
all_false (Role a x y) = InRole a false false
all_false (Attr a x y) = InAttr a false false

module _ (k : ℕ) where
  abbrev marked : ℕ → Bool
  marked j = nat_eq j k

  arg_case : (x : Arg) → (x ≡ Var k) ⊎ Fits constant marked x false
  arg_case Blank = inr tt
  arg_case (Var j) = go (nat_eq j k) refl
    where
      go : (b : Bool) → nat_eq j k ≡ b → (Var j ≡ Var k) ⊎ (false ≡ nat_eq j k)
      go true e = inl (ap Var (eqb-true j k e))
      go false e = inr (sym e)
  arg_case (Constant c) = inr refl

  atom_case : (g : Atom) → Occurs k g ⊎ Match constant marked g (all_false g)
  atom_case (Class a x) = elim (arg_case x) [ inl e ↦ inl e | inr f ↦ inr (refl, f) ]
  atom_case (Role a x y) = elim (arg_case x) [ inl e ↦ inl (inl e) | inr f ↦ elim (arg_case y) [ inl e ↦ inl (inr e) | inr i ↦ inr (refl, f, i) ] ]
  atom_case (Attr a x y) = elim (arg_case x) [ inl e ↦ inl (inl e) | inr f ↦ elim (arg_case y) [ inl e ↦ inl (inr e) | inr i ↦ inr (refl, f, i) ] ]

  at_arg : (x : Arg) → x ≡ Var k → Fits constant marked x false → ⊥
  at_arg x e f = false≢true (subst (λ z. Fits constant marked z false) e f ∙ same_eq k)

  at_atom : (g h : Atom) → Occurs k g → Match constant marked g (all_false h) → ⊥
  at_atom (Class a x) (Class b z) o m = at_arg x o m.1
  at_atom (Class a x) (Role b z w) o m = m
  at_atom (Class a x) (Attr b z w) o m = m
  at_atom (Role a x y) (Class b z) o m = m
  at_atom (Role a x y) (Role b z w) (inl e) m = at_arg x e m.1
  at_atom (Role a x y) (Role b z w) (inr e) m = at_arg y e m.2
  at_atom (Role a x y) (Attr b z w) o m = m
  at_atom (Attr a x y) (Class b z) o m = m
  at_atom (Attr a x y) (Role b z w) o m = m
  at_atom (Attr a x y) (Attr b z w) (inl e) m = at_arg x e m.1
  at_atom (Attr a x y) (Attr b z w) (inr e) m = at_arg y e m.2

-- what a variable of two atoms becomes in their meeting, where it is a variable, stands in the meeting's atom
pub occurs_met : (answer : List Arg) (left right : Atom) (m : Meeting) → meeting answer left right ≡ Some m → (n k : ℕ) → m.replacement n ≡ Var k → Occurs n left ⊎ Occurs n right → Occurs k m.atom
occurs_met answer left right m e n k r either = elim (atom_case k m.atom) [
  | inl o ↦ o
  | inr f ↦ (
      let w = (parts constant answer left right m e).splits (marked k) (all_false m.atom) f in
      absurd (elim either [
        | inl o ↦ at_atom k (replace m.replacement left) m.atom (replaced_occurs m.replacement n k r left o) w.0
        | inr o ↦ at_atom k (replace m.replacement right) m.atom (replaced_occurs m.replacement n k r right o) w.1
      ])
      )
]

-- an atom of a list is one of two that are taken out, or stands in the rest
abbrev IsOne : Atom → Atom → List Atom → Atom → Type 0
IsOne g h others a = (a ≡ g) ⊎ ((a ≡ h) ⊎ In a others)

each_one : (g h : Atom) (gs others : List Atom) → TakesTwo gs g h others → AllByRecursion (IsOne g h others) gs
each_one g h gs others two = two_each (IsOne g h others) two (inl refl) (inr (inl refl)) (in_each (IsOne g h others) others (λ a i. inr (inr i)))

module _ (q : Cq) (g h left right : Atom) (others : List Atom) (m : Meeting) (two : TakesTwo q.atoms g h others) (e : meeting q.answer left right ≡ Some m)
    (from_g : (n : ℕ) → Occurs n g → Occurs n left) (from_h : (n : ℕ) → Occurs n h → Occurs n right) where
  stands : (n k : ℕ) → m.replacement n ≡ Var k → (a : Atom) → IsOne g h others a → Occurs n a → SomeAtom (Occurs k) (merged q m others).atoms
  stands n k r a (inl i) o = record { atom = m.atom; among = inl refl; is = occurs_met q.answer left right m e n k r (inl (from_g n (subst (Occurs n) i o))) }
  stands n k r a (inr (inl i)) o = record { atom = m.atom; among = inl refl; is = occurs_met q.answer left right m e n k r (inr (from_h n (subst (Occurs n) i o))) }
  stands n k r a (inr (inr i)) o = record { atom = replace m.replacement a; among = inr (map_in (replace m.replacement) a others i); is = replaced_occurs m.replacement n k r a o }

  becomes : (n : ℕ) (x : Arg) → m.replacement n ≡ x → IsProper x → SomeAtom (Occurs n) q.atoms → IsAnswered (merged q m others).atoms x
  becomes n Blank r p w = p
  becomes n (Var k) r p w = stands n k r w.atom (each_in (IsOne g h others) w.atom q.atoms (each_one g h q.atoms others two) w.among) w.is
  becomes n (Constant c) r p w = tt

  answered : (x : Arg) → IsAnswered q.atoms x → IsAnswered (merged q m others).atoms (replace_arg m.replacement x)
  answered Blank a = a
  answered (Var n) a = becomes n (m.replacement n) refl ((parts constant q.answer left right m e).proper n) a
  answered (Constant c) a = tt

  -- each answer of a query is one of its merge, where the two that meet have the variables of the atoms that are merged
  pub merged_answered : AreAnswered q → AreAnswered (merged q m others)
  merged_answered all = each_map (IsAnswered q.atoms) (IsAnswered (merged q m others).atoms) (replace_arg m.replacement) answered q.answer all
