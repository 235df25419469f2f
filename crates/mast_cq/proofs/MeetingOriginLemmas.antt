-- The arguments of a meeting come from its two atoms, and object places draw from object places, value places from value places.
use Rattle.std.proofs.Common.{◌≡◌, ℕ, List, [], ◌∷◌, Some, None, ◌⊎◌, inl, inr, sym, refl, subst, ◌∙◌}
use Rattle.mast_terms.specs.declared.name.Name.{Name}
use Rattle.mast_cq.specs.declared.atom.Arg.{Arg}
use Rattle.mast_cq.specs.declared.atom.Arg.TheVariants.{Blank, Var, Constant}
use Rattle.mast_cq.specs.declared.atom.Atom.{Atom}
use Rattle.mast_cq.specs.declared.atom.Atom.TheVariants.{Class, Role, Attr}
use Rattle.mast_cq.specs.Origins.{AreFrom, StaysWithin}
use Rattle.mast_cq.specs.Queries.{In}
use Rattle.mast_cq.specs.Sorts.{objects_of, values_of, arguments_of}
use Rattle.mast_cq.specs.Unification.{Replacement, replace_arg, unify_args, fuller, Meeting, meeting, after}
use Rattle.mast_cq.proofs.MadeLemmas.{MadeOfOne, MadeOfTwo, class_made, role_made, attr_made}
use Rattle.mast_cq.proofs.MovesLemmas.{tame}

-- the argument is `_`, or stands in the list
abbrev pub Among : List Arg → Arg → Type 0
Among xs a = (a ≡ Blank) ⊎ In a xs

-- what a replacement makes of each variable of the list is in the list again
abbrev pub Keeps : List Arg → Replacement → Type 0
Keeps xs r = (n : ℕ) → In (Var n) xs → Among xs (r n)

among_other : (xs : List Arg) (a : Arg) (n : ℕ) → Among xs a → a ≡ Var n → In (Var n) xs
among_other xs a n (inl b) e = let k : Blank ≡ Var n = sym b ∙ e in cc
among_other xs a n (inr i) e = subst (λ v. In v xs) e i

-- unifying two arguments of a list keeps it
keeps_own : (answer xs : List Arg) (a b : Arg) (r : Replacement) → Among xs a → Among xs b → unify_args answer a b ≡ Some r → Keeps xs r
keeps_own answer xs a b r p q e n i = elim ((tame answer a b r e).stays n) [
  | inl k ↦ inr (subst (λ v. In v xs) (sym k) i)
  | inr j ↦ elim j [ inl k ↦ subst (Among xs) (sym k) p | inr k ↦ subst (Among xs) (sym k) q ]
]

-- and keeps another list that has no variable of it
keeps_other : (answer xs ys : List Arg) (a b : Arg) (r : Replacement) → ((n : ℕ) → In (Var n) xs → In (Var n) ys → ⊥) → Among xs a → Among xs b → unify_args answer a b ≡ Some r → Keeps ys r
keeps_other answer xs ys a b r apart p q e n i =
    let k : r n ≡ Var n = (tame answer a b r e).fixes n (λ f. apart n (among_other xs a n p f) i) (λ f. apart n (among_other xs b n q f) i) in
    inr (subst (λ v. In v ys) (sym k) i)

-- what a replacement that keeps the list makes of an argument in it
pub among_replaced : (xs : List Arg) (r : Replacement) (a : Arg) → Keeps xs r → Among xs a → Among xs (replace_arg r a)
among_replaced xs r Blank k p = inl refl
among_replaced xs r (Var n) k (inl e) = absurd (cc)
among_replaced xs r (Var n) k (inr i) = k n i
among_replaced xs r (Constant c) k p = p

keeps_after : (xs : List Arg) (r q : Replacement) → Keeps xs r → Keeps xs q → Keeps xs (after r q)
keeps_after xs r q k l n i = among_replaced xs q (r n) l (k n i)

among_fuller : (xs : List Arg) (a b : Arg) → Among xs a → Among xs b → Among xs (fuller a b)
among_fuller xs Blank b p q = q
among_fuller xs (Var n) b p q = p
among_fuller xs (Constant c) b p q = p

-- what two arguments become where they meet
abbrev both : Replacement → Arg → Arg → Arg
both r a b = fuller (replace_arg r a) (replace_arg r b)

among_met : (xs : List Arg) (r : Replacement) (a b : Arg) → Keeps xs r → Among xs a → Among xs b → Among xs (both r a b)
among_met xs r a b k p q = among_fuller xs (replace_arg r a) (replace_arg r b) (among_replaced xs r a k p) (among_replaced xs r b k q)

-- a list of one argument
pub single : (xs : List Arg) (x : Arg) → Among xs x → AreFrom (x ∷ []) xs
single xs x p v (inl e) = subst (Among xs) (sym e) p
single xs x p v (inr i) = absurd i

-- a list of two arguments
pub pair : (xs : List Arg) (x y : Arg) → Among xs x → Among xs y → AreFrom (x ∷ y ∷ []) xs
pair xs x y p q v (inl e) = subst (Among xs) (sym e) p
pair xs x y p q v (inr (inl e)) = subst (Among xs) (sym e) q
pair xs x y p q v (inr (inr i)) = absurd i

-- a list of none
pub none : (xs : List Arg) → AreFrom [] xs
none xs v i = absurd i

-- the first argument of a list
pub head : (xs : List Arg) (x : Arg) (more : List Arg) → AreFrom (x ∷ more) xs → Among xs x
head xs x more k = k x (inl refl)

-- the second argument of a list
pub second : (xs : List Arg) (x y : Arg) (more : List Arg) → AreFrom (x ∷ y ∷ more) xs → Among xs y
second xs x y more k = k y (inr (inl refl))

-- the arguments of the atom in object places stand in the first list, those in value places in the second
pub record Sorted (os vs : List Arg) (g : Atom) : Type 0 where
  pub objects : AreFrom (objects_of g) os
  pub values : AreFrom (values_of g) vs

-- a replacement and an atom with which both lists are kept
pub record Kept (os vs : List Arg) (m : Meeting) : Type 0 where
  pub keeps_objects : Keeps os m.replacement
  pub keeps_values : Keeps vs m.replacement
  pub atom : Sorted os vs m.atom

-- None is no meeting
pub no_meeting : (m : Meeting) → None ≡ Some m → ⊥
no_meeting m e = cc

module _ (answer os vs : List Arg) (apart : (n : ℕ) → In (Var n) os → In (Var n) vs → ⊥) where
  apart_values : (n : ℕ) → In (Var n) vs → In (Var n) os → ⊥
  apart_values n i j = apart n j i

  kept_one : (form : Arg → Atom) (x z : Arg) (m : Meeting) → MadeOfOne answer form x z m → Among os x → Among os z
      → ((v : Arg) → Among os v → Sorted os vs (form v)) → Kept os vs m
  kept_one form x z m d p q k =
      let a = keeps_own answer os x z d.r p q d.unifies in
      let b = keeps_other answer os vs x z d.r apart p q d.unifies in
      subst (Kept os vs) d.is (record { keeps_objects = a; keeps_values = b; atom = k (both d.r x z) (among_met os d.r x z a p q) })

  kept_roles : (form : Arg → Arg → Atom) (x y z w : Arg) (m : Meeting) → MadeOfTwo answer form x y z w m → Among os x → Among os y → Among os z → Among os w
      → ((u v : Arg) → Among os u → Among os v → Sorted os vs (form u v)) → Kept os vs m
  kept_roles form x y z w m d px py pz pw k =
      let a = keeps_own answer os x z d.r px pz d.unifies in
      let b = keeps_other answer os vs x z d.r apart px pz d.unifies in
      let fy = among_replaced os d.r y a py in
      let fw = among_replaced os d.r w a pw in
      let c = keeps_after os d.r d.q a (keeps_own answer os (replace_arg d.r y) (replace_arg d.r w) d.q fy fw d.then_unifies) in
      let e = keeps_after vs d.r d.q b (keeps_other answer os vs (replace_arg d.r y) (replace_arg d.r w) d.q apart fy fw d.then_unifies) in
      subst (Kept os vs) d.is (record { keeps_objects = c; keeps_values = e; atom = k (both (after d.r d.q) x z) (both (after d.r d.q) y w) (among_met os (after d.r d.q) x z c px pz) (among_met os (after d.r d.q) y w c py pw) })

  kept_attrs : (form : Arg → Arg → Atom) (x y z w : Arg) (m : Meeting) → MadeOfTwo answer form x y z w m → Among os x → Among vs y → Among os z → Among vs w
      → ((u v : Arg) → Among os u → Among vs v → Sorted os vs (form u v)) → Kept os vs m
  kept_attrs form x y z w m d px py pz pw k =
      let a = keeps_own answer os x z d.r px pz d.unifies in
      let b = keeps_other answer os vs x z d.r apart px pz d.unifies in
      let fy = among_replaced vs d.r y b py in
      let fw = among_replaced vs d.r w b pw in
      let c = keeps_after os d.r d.q a (keeps_other answer vs os (replace_arg d.r y) (replace_arg d.r w) d.q apart_values fy fw d.then_unifies) in
      let e = keeps_after vs d.r d.q b (keeps_own answer vs (replace_arg d.r y) (replace_arg d.r w) d.q fy fw d.then_unifies) in
      subst (Kept os vs) d.is (record { keeps_objects = c; keeps_values = e; atom = k (both (after d.r d.q) x z) (both (after d.r d.q) y w) (among_met os (after d.r d.q) x z c px pz) (among_met vs (after d.r d.q) y w e py pw) })

  class_sorted : (a : Name) (v : Arg) → Among os v → Sorted os vs (Class a v)
  class_sorted a v p = record { objects = single os v p; values = none vs }

  role_sorted : (a : Name) (u v : Arg) → Among os u → Among os v → Sorted os vs (Role a u v)
  role_sorted a u v p q = record { objects = pair os u v p q; values = none vs }

  attr_sorted : (a : Name) (u v : Arg) → Among os u → Among vs v → Sorted os vs (Attr a u v)
  attr_sorted a u v p q = record { objects = single os u p; values = single vs v q }

  -- a meeting of two atoms that are sorted keeps both lists
  pub kept : (g h : Atom) (m : Meeting) → Sorted os vs g → Sorted os vs h → meeting answer g h ≡ Some m → Kept os vs m
  kept (Class a x) (Class b z) m s t e = kept_one (Class a) x z m (class_made answer a b x z m e) (head os x [] s.objects) (head os z [] t.objects) (class_sorted a)
  kept (Role a x y) (Role b z w) m s t e =
      kept_roles (Role a) x y z w m (role_made answer a b x y z w m e) (head os x (y ∷ []) s.objects) (second os x y [] s.objects) (head os z (w ∷ []) t.objects) (second os z w [] t.objects) (role_sorted a)
  kept (Attr a x y) (Attr b z w) m s t e =
      kept_attrs (Attr a) x y z w m (attr_made answer a b x y z w m e) (head os x [] s.objects) (head vs y [] s.values) (head os z [] t.objects) (head vs w [] t.values) (attr_sorted a)
  kept (Class a x) (Role b z w) m s t e = absurd (no_meeting m e)
  kept (Class a x) (Attr b z w) m s t e = absurd (no_meeting m e)
  kept (Role a x y) (Class b z) m s t e = absurd (no_meeting m e)
  kept (Role a x y) (Attr b z w) m s t e = absurd (no_meeting m e)
  kept (Attr a x y) (Class b z) m s t e = absurd (no_meeting m e)
  kept (Attr a x y) (Role b z w) m s t e = absurd (no_meeting m e)

-- the same of all arguments, whatever their sorts
pub record Stays (xs : List Arg) (m : Meeting) : Type 0 where
  pub keeps : Keeps xs m.replacement
  pub atom : AreFrom (arguments_of m.atom) xs

stays_two : (answer xs : List Arg) (form : Arg → Arg → Atom) (x y z w : Arg) (m : Meeting) → MadeOfTwo answer form x y z w m → Among xs x → Among xs y → Among xs z → Among xs w
    → ((u v : Arg) → Among xs u → Among xs v → AreFrom (arguments_of (form u v)) xs) → Stays xs m
stays_two answer xs form x y z w m d px py pz pw k =
    let a = keeps_own answer xs x z d.r px pz d.unifies in
    let c = keeps_after xs d.r d.q a (keeps_own answer xs (replace_arg d.r y) (replace_arg d.r w) d.q (among_replaced xs d.r y a py) (among_replaced xs d.r w a pw) d.then_unifies) in
    subst (Stays xs) d.is (record { keeps = c; atom = k (both (after d.r d.q) x z) (both (after d.r d.q) y w) (among_met xs (after d.r d.q) x z c px pz) (among_met xs (after d.r d.q) y w c py pw) })

-- the arguments of a meeting are in a list in which those of both atoms are
pub stays : (answer xs : List Arg) (g h : Atom) (m : Meeting) → AreFrom (arguments_of g) xs → AreFrom (arguments_of h) xs → meeting answer g h ≡ Some m → Stays xs m
stays answer xs (Class a x) (Class b z) m s t e =
    let d = class_made answer a b x z m e in
    let p = head xs x [] s in
    let q = head xs z [] t in
    let k = keeps_own answer xs x z d.r p q d.unifies in
    subst (Stays xs) d.is (record { keeps = k; atom = single xs (both d.r x z) (among_met xs d.r x z k p q) })
stays answer xs (Role a x y) (Role b z w) m s t e =
    stays_two answer xs (Role a) x y z w m (role_made answer a b x y z w m e) (head xs x (y ∷ []) s) (second xs x y [] s) (head xs z (w ∷ []) t) (second xs z w [] t) (pair xs)
stays answer xs (Attr a x y) (Attr b z w) m s t e =
    stays_two answer xs (Attr a) x y z w m (attr_made answer a b x y z w m e) (head xs x (y ∷ []) s) (second xs x y [] s) (head xs z (w ∷ []) t) (second xs z w [] t) (pair xs)
stays answer xs (Class a x) (Role b z w) m s t e = absurd (no_meeting m e)
stays answer xs (Class a x) (Attr b z w) m s t e = absurd (no_meeting m e)
stays answer xs (Role a x y) (Class b z) m s t e = absurd (no_meeting m e)
stays answer xs (Role a x y) (Attr b z w) m s t e = absurd (no_meeting m e)
stays answer xs (Attr a x y) (Class b z) m s t e = absurd (no_meeting m e)
stays answer xs (Attr a x y) (Role b z w) m s t e = absurd (no_meeting m e)

-- what a variable becomes is itself or in the list
abbrev Within : List Arg → Replacement → Type 0
Within xs r = (n : ℕ) → (r n ≡ Var n) ⊎ In (r n) xs

within_args : (answer xs : List Arg) (a b : Arg) (r : Replacement) → In a xs → In b xs → unify_args answer a b ≡ Some r → Within xs r
within_args answer xs a b r i j e n = elim ((tame answer a b r e).stays n) [
  | inl k ↦ inl k
  | inr l ↦ elim l [ inl k ↦ inr (subst (λ v. In v xs) (sym k) i) | inr k ↦ inr (subst (λ v. In v xs) (sym k) j) ]
]

within_replaced : (xs : List Arg) (r : Replacement) (a : Arg) → Within xs r → In a xs → In (replace_arg r a) xs
within_replaced xs r Blank w i = i
within_replaced xs r (Var n) w i = elim (w n) [ inl e ↦ subst (λ v. In v xs) (sym e) i | inr j ↦ j ]
within_replaced xs r (Constant c) w i = i

within_after : (xs : List Arg) (r q : Replacement) → Within xs r → Within xs q → Within xs (after r q)
within_after xs r q w u n = elim (w n) [
  | inl e ↦ subst (λ v. (replace_arg q v ≡ Var n) ⊎ In (replace_arg q v) xs) (sym e) (u n)
  | inr i ↦ inr (within_replaced xs q (r n) u i)
]

within_two : (answer xs : List Arg) (form : Arg → Arg → Atom) (x y z w : Arg) (m : Meeting) → MadeOfTwo answer form x y z w m → In x xs → In y xs → In z xs → In w xs → Within xs m.replacement
within_two answer xs form x y z w m d ix iy iz iw =
    let a = within_args answer xs x z d.r ix iz d.unifies in
    let b = within_args answer xs (replace_arg d.r y) (replace_arg d.r w) d.q (within_replaced xs d.r y a iy) (within_replaced xs d.r w a iw) d.then_unifies in
    subst (λ k. Within xs k.replacement) d.is (within_after xs d.r d.q a b)

-- what a meeting makes of a variable is the variable, or an argument of the two atoms
pub stays_within : (answer : List Arg) (g h : Atom) (m : Meeting) → meeting answer g h ≡ Some m → StaysWithin g h m
stays_within answer (Class a x) (Class b z) m e =
    let d = class_made answer a b x z m e in
    subst (λ k. Within (x ∷ z ∷ []) k.replacement) d.is (within_args answer (x ∷ z ∷ []) x z d.r (inl refl) (inr (inl refl)) d.unifies)
stays_within answer (Role a x y) (Role b z w) m e =
    within_two answer (x ∷ y ∷ z ∷ w ∷ []) (Role a) x y z w m (role_made answer a b x y z w m e) (inl refl) (inr (inl refl)) (inr (inr (inl refl))) (inr (inr (inr (inl refl))))
stays_within answer (Attr a x y) (Attr b z w) m e =
    within_two answer (x ∷ y ∷ z ∷ w ∷ []) (Attr a) x y z w m (attr_made answer a b x y z w m e) (inl refl) (inr (inl refl)) (inr (inr (inl refl))) (inr (inr (inr (inl refl))))
stays_within answer (Class a x) (Role b z w) m e = absurd (no_meeting m e)
stays_within answer (Class a x) (Attr b z w) m e = absurd (no_meeting m e)
stays_within answer (Role a x y) (Class b z) m e = absurd (no_meeting m e)
stays_within answer (Role a x y) (Attr b z w) m e = absurd (no_meeting m e)
stays_within answer (Attr a x y) (Class b z) m e = absurd (no_meeting m e)
stays_within answer (Attr a x y) (Role b z w) m e = absurd (no_meeting m e)
