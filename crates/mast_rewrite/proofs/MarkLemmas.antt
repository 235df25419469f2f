-- The meetings of two atoms of a query depend on the query by which of their variables are answers alone.
use Rattle.std.proofs.Common.{◌≡◌, ℕ, List, [], ◌∷◌, Bool, true, false, nat_eq, nat_lt, ◌||◌, ◌&&◌, not, ◌⊎◌, inl, inr, ◌↔◌, Option, Some, None, sym, refl, ap, ap₂, subst, ◌∙◌, if◌then◌else◌}
use borrow.Author.Tests.{eqb-true, eq-eqb}
use Rattle.mast_cq.specs.declared.atom.Arg.{Arg}
use Rattle.mast_cq.specs.declared.atom.Arg.TheVariants.{Blank, Var, Constant}
use Rattle.mast_cq.specs.declared.atom.Atom.{Atom}
use Rattle.mast_cq.specs.declared.atom.Atom.TheVariants.{Class, Role, Attr}
use Rattle.mast_cq.specs.declared.query.Cq.{Cq}
use Rattle.mast_cq.specs.NormalForms.{Occurs}
use Rattle.mast_cq.specs.Queries.{In, has_var}
use Rattle.mast_cq.specs.Unification.{Replacement, replace_arg, only, wins, unify_args, Meeting, meeting_of_one, meeting_of_two, meeting_of_pairs, meeting}
use Rattle.mast_cq.proofs.MovesLemmas.{Tame, tame}
use Rattle.mast_tbox.specs.declared.axiom.Inclusion.{Inclusion}
use Rattle.mast_tbox.proofs.ArgumentLemmas.{down_occurs}
use Rattle.mast_rewrite.specs.CountingMeetings.{IsMeeting, Leads, Counts}
use Rattle.mast_rewrite.specs.inside.Marks.{answering, marked_of, marks, query_of, pair_of}
use Rattle.mast_rewrite.proofs.SameWayLemmas.{query_all}

-- the two lists have the variable, or neither
abbrev Agrees : List Arg → List Arg → ℕ → Type 0
Agrees A B n = has_var A n ≡ has_var B n

wins_by : (A B : List Arg) (x y : ℕ) → Agrees A B x → Agrees A B y → wins A x y ≡ wins B x y
wins_by A B x y e f = ap₂ (λ a b. elim a [ true ↦ not b || nat_lt x y | false ↦ not b && nat_lt x y ]) e f

unify_by : (A B : List Arg) (x y : Arg) → ((n : ℕ) → (x ≡ Var n) ⊎ (y ≡ Var n) → Agrees A B n) → unify_args A x y ≡ unify_args B x y
unify_by A B Blank y k = refl
unify_by A B (Var x) Blank k = refl
unify_by A B (Var x) (Var y) k = ap (λ b. elim b [ true ↦ Some (only y (Var x)) | false ↦ Some (only x (Var y)) ]) (wins_by A B x y (k x (inl refl)) (k y (inr refl)))
unify_by A B (Var x) (Constant c) k = refl
unify_by A B (Constant c) Blank k = refl
unify_by A B (Constant c) (Var y) k = refl
unify_by A B (Constant c) (Constant d) k = refl

-- what a replacement makes a variable of was one of the three arguments
was : (a b y : Arg) (r : Replacement) (n : ℕ) → Tame a b r → replace_arg r y ≡ Var n → (y ≡ Var n) ⊎ ((a ≡ Var n) ⊎ (b ≡ Var n))
was a b Blank r n t e = cc
was a b (Var m) r n t e = elim (t.stays m) [
  | inl i ↦ inl (sym i ∙ e)
  | inr j ↦ elim j [ inl i ↦ inr (inl (sym i ∙ e)) | inr i ↦ inr (inr (sym i ∙ e)) ]
]
was a b (Constant c) r n t e = cc

pairs_by : (A B : List Arg) (form : Arg → Arg → Atom) (x y z w : Arg) (o : Option Replacement) → ((r : Replacement) → o ≡ Some r → Tame x z r)
    → ((n : ℕ) → (x ≡ Var n) ⊎ ((y ≡ Var n) ⊎ ((z ≡ Var n) ⊎ (w ≡ Var n))) → Agrees A B n) → meeting_of_pairs A form x y z w o ≡ meeting_of_pairs B form x y z w o
pairs_by A B form x y z w None t k = refl
pairs_by A B form x y z w (Some r) t k = ap (meeting_of_two form x y z w r) (unify_by A B (replace_arg r y) (replace_arg r w) (λ n s. elim s [
  | inl e ↦ elim (was x z y r n (t r refl) e) [ inl f ↦ k n (inr (inl f)) | inr g ↦ elim g [ inl f ↦ k n (inl f) | inr f ↦ k n (inr (inr (inl f))) ] ]
  | inr e ↦ elim (was x z w r n (t r refl) e) [ inl f ↦ k n (inr (inr (inr f))) | inr g ↦ elim g [ inl f ↦ k n (inl f) | inr f ↦ k n (inr (inr (inl f))) ] ]
]))

both_by : (A B : List Arg) (form : Arg → Arg → Atom) (x y z w : Arg) → ((n : ℕ) → (x ≡ Var n) ⊎ ((y ≡ Var n) ⊎ ((z ≡ Var n) ⊎ (w ≡ Var n))) → Agrees A B n)
    → meeting_of_pairs A form x y z w (unify_args A x z) ≡ meeting_of_pairs B form x y z w (unify_args B x z)
both_by A B form x y z w k =
    pairs_by A B form x y z w (unify_args A x z) (λ r e. tame A x z r e) k
    ∙ ap (meeting_of_pairs B form x y z w) (unify_by A B x z (λ n s. elim s [ inl e ↦ k n (inl e) | inr e ↦ k n (inr (inr (inl e))) ]))

-- two answer lists that agree on the variables of two atoms give these one meeting
meeting_by : (A B : List Arg) (g h : Atom) → ((n : ℕ) → Occurs n g → Agrees A B n) → ((n : ℕ) → Occurs n h → Agrees A B n) → meeting A g h ≡ meeting B g h
meeting_by A B (Class a x) (Class b y) k j = ap (λ o. elim (nat_eq a.0 b.0) [ true ↦ meeting_of_one (Class a) x y o | false ↦ None ]) (unify_by A B x y (λ n s. elim s [ inl e ↦ k n e | inr e ↦ j n e ]))
meeting_by A B (Role a x y) (Role b z w) k j = ap (λ o. elim (nat_eq a.0 b.0) [ true ↦ o | false ↦ None ]) (both_by A B (Role a) x y z w
    (λ n s. elim s [ inl e ↦ k n (inl e) | inr t ↦ elim t [ inl e ↦ k n (inr e) | inr u ↦ elim u [ inl e ↦ j n (inl e) | inr e ↦ j n (inr e) ] ] ]))
meeting_by A B (Attr a x y) (Attr b z w) k j = ap (λ o. elim (nat_eq a.0 b.0) [ true ↦ o | false ↦ None ]) (both_by A B (Attr a) x y z w
    (λ n s. elim s [ inl e ↦ k n (inl e) | inr t ↦ elim t [ inl e ↦ k n (inr e) | inr u ↦ elim u [ inl e ↦ j n (inl e) | inr e ↦ j n (inr e) ] ] ]))
meeting_by A B (Class a x) (Role b z w) k j = refl
meeting_by A B (Class a x) (Attr b z w) k j = refl
meeting_by A B (Role a x y) (Class b z) k j = refl
meeting_by A B (Role a x y) (Attr b z w) k j = refl
meeting_by A B (Attr a x y) (Class b z) k j = refl
meeting_by A B (Attr a x y) (Role b z w) k j = refl

module _ (A : List Arg) (n : ℕ) where
  or_true : (b : Bool) → (b || true) ≡ true
  or_true true = refl
  or_true false = refl

  more : (y : Arg) (rest : List Arg) → has_var rest n ≡ true → has_var (y ∷ rest) n ≡ true
  more Blank rest e = e
  more (Var m) rest e = ap (λ b. nat_eq m n || b) e ∙ or_true (nat_eq m n)
  more (Constant c) rest e = e

  mark_there : (x : Arg) (rest : List Arg) → x ≡ Var n → has_var A n ≡ true → has_var (answering A x ∷ rest) n ≡ true
  mark_there x rest e t = subst (λ y. has_var (answering A y ∷ rest) n ≡ true) (sym e)
      (ap (λ b. has_var ((if b then Var n else Blank) ∷ rest) n) t ∙ ap (λ b. b || has_var rest n) (eq-eqb n n refl))

  mark_none : (x : Arg) (rest : List Arg) → has_var A n ≡ false → has_var rest n ≡ false → has_var (answering A x ∷ rest) n ≡ false
  mark_none Blank rest f e = e
  mark_none (Var m) rest f e = go (has_var A m) refl
    where
      other : has_var A m ≡ true → (b : Bool) → nat_eq m n ≡ b → (b || has_var rest n) ≡ false
      other t true d = let g : has_var A n ≡ true = subst (λ v. has_var A v ≡ true) (eqb-true m n d) t in absurd (let h : true ≡ false = sym g ∙ f in cc)
      other t false d = e

      go : (b : Bool) → has_var A m ≡ b → has_var ((if b then Var m else Blank) ∷ rest) n ≡ false
      go true t = other t (nat_eq m n) refl
      go false t = e
  mark_none (Constant c) rest f e = e

  atom_there : (g : Atom) (rest : List Arg) → Occurs n g → has_var A n ≡ true → has_var ((marked_of A g).first ∷ (marked_of A g).second ∷ rest) n ≡ true
  atom_there (Class a x) rest o t = mark_there x (Blank ∷ rest) o t
  atom_there (Role a x y) rest (inl o) t = mark_there x (answering A y ∷ rest) o t
  atom_there (Role a x y) rest (inr o) t = more (answering A x) (answering A y ∷ rest) (mark_there y rest o t)
  atom_there (Attr a x y) rest (inl o) t = mark_there x (answering A y ∷ rest) o t
  atom_there (Attr a x y) rest (inr o) t = more (answering A x) (answering A y ∷ rest) (mark_there y rest o t)

  atom_none : (g : Atom) (rest : List Arg) → has_var A n ≡ false → has_var rest n ≡ false → has_var ((marked_of A g).first ∷ (marked_of A g).second ∷ rest) n ≡ false
  atom_none (Class a x) rest f e = mark_none x (Blank ∷ rest) f e
  atom_none (Role a x y) rest f e = mark_none x (answering A y ∷ rest) f (mark_none y rest f e)
  atom_none (Attr a x y) rest f e = mark_none x (answering A y ∷ rest) f (mark_none y rest f e)

  -- the marks have the variables of the atoms that the answer list has
  marks_agree : (g h : Atom) → Occurs n g ⊎ Occurs n h → Agrees A (marks (pair_of A g h)) n
  marks_agree g h o = go (has_var A n) refl
    where
      there : has_var A n ≡ true → Occurs n g ⊎ Occurs n h → has_var (marks (pair_of A g h)) n ≡ true
      there t (inl i) = atom_there g ((marked_of A h).first ∷ (marked_of A h).second ∷ []) i t
      there t (inr i) = more (marked_of A g).first ((marked_of A g).second ∷ (marked_of A h).first ∷ (marked_of A h).second ∷ [])
          (more (marked_of A g).second ((marked_of A h).first ∷ (marked_of A h).second ∷ []) (atom_there h [] i t))

      go : (b : Bool) → has_var A n ≡ b → has_var A n ≡ has_var (marks (pair_of A g h)) n
      go true t = t ∙ sym (there t o)
      go false f = f ∙ sym (atom_none g ((marked_of A h).first ∷ (marked_of A h).second ∷ []) f (atom_none h [] f refl))

-- two queries that have the atoms, and have one answer list as far as the meetings of these go, have one set of meetings that count
counts_move : (tbox : List Inclusion) (q r : Cq) (g h : Atom) (m : Meeting) → In g q.atoms → In h q.atoms → In g r.atoms → In h r.atoms
    → ((o : Meeting) → IsMeeting tbox q g h o → IsMeeting tbox r g h o) → ((o : Meeting) → IsMeeting tbox r g h o → IsMeeting tbox q g h o) → Counts tbox q g h m → Counts tbox r g h m
counts_move tbox q r g h m gq hq gr hr to from c = record {
  is_meeting = is;
  leads_back = λ o w l. moved m o c.is_meeting (from o w) (c.leads_back o (from o w) (back o m w is l));
  none_earlier = λ o w l k. c.none_earlier o (from o w) (back m o is w l) (back o m w is k);
}
  where
    is : IsMeeting tbox r g h m
    is = to m c.is_meeting

    moved : (o p : Meeting) → IsMeeting tbox q g h o → IsMeeting tbox q g h p → Leads tbox q o p → Leads tbox r o p
    moved o p a b l = record { alike = λ n s. query_all tbox q g h o p a b gq hq l.alike n; below = l.below }

    back : (o p : Meeting) → IsMeeting tbox r g h o → IsMeeting tbox r g h p → Leads tbox r o p → Leads tbox q o p
    back o p a b l = record { alike = λ n s. query_all tbox r g h o p a b gr hr l.alike n; below = l.below }

atom_is : (A : List Arg) (g : Atom) → (marked_of A g).atom ≡ g
atom_is A (Class a x) = refl
atom_is A (Role a x y) = refl
atom_is A (Attr a x y) = refl

-- the meetings of two atoms of a query that count are those of the query that has these alone and their marked variables as answers
pub counts_marked : (tbox : List Inclusion) (q : Cq) (g h : Atom) (m : Meeting) → In g q.atoms → In h q.atoms
    → Counts tbox (query_of (pair_of q.answer g h)) (pair_of q.answer g h).left.atom (pair_of q.answer g h).right.atom m ↔ Counts tbox q g h m
counts_marked tbox q g h m i j = subst (λ k. Counts tbox (query_of (pair_of q.answer g h)) k (marked_of q.answer h).atom m ↔ Counts tbox q g h m) (sym (atom_is q.answer g))
    (subst (λ k. Counts tbox (query_of (pair_of q.answer g h)) g k m ↔ Counts tbox q g h m) (sym (atom_is q.answer h)) (
      counts_move tbox (query_of (pair_of q.answer g h)) q g h m gt ht i j from to,
      counts_move tbox q (query_of (pair_of q.answer g h)) g h m i j gt ht to from,
    ))
  where
    gt : In g (query_of (pair_of q.answer g h)).atoms
    gt = inl (sym (atom_is q.answer g))

    ht : In h (query_of (pair_of q.answer g h)).atoms
    ht = inr (inl (sym (atom_is q.answer h)))

    same : (l r : Atom) → ((n : ℕ) → Occurs n l → Occurs n g) → ((n : ℕ) → Occurs n r → Occurs n h) → meeting q.answer l r ≡ meeting (query_of (pair_of q.answer g h)).answer l r
    same l r a b = meeting_by q.answer (marks (pair_of q.answer g h)) l r (λ n o. marks_agree q.answer n g h (inl (a n o))) (λ n o. marks_agree q.answer n g h (inr (b n o)))

    to : (o : Meeting) → IsMeeting tbox q g h o → IsMeeting tbox (query_of (pair_of q.answer g h)) g h o
    to o w = record {
      left = w.left;
      right = w.right;
      left_below = w.left_below;
      right_below = w.right_below;
      meets = sym (same w.left w.right (λ n. (down_occurs tbox n g w.left w.left_below).1) (λ n. (down_occurs tbox n h w.right w.right_below).1)) ∙ w.meets;
    }

    from : (o : Meeting) → IsMeeting tbox (query_of (pair_of q.answer g h)) g h o → IsMeeting tbox q g h o
    from o w = record {
      left = w.left;
      right = w.right;
      left_below = w.left_below;
      right_below = w.right_below;
      meets = same w.left w.right (λ n. (down_occurs tbox n g w.left w.left_below).1) (λ n. (down_occurs tbox n h w.right w.right_below).1) ∙ w.meets;
    }
