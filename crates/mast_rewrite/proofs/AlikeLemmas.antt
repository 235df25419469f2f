-- Which meetings replace the variables of a query alike: it is decided, and the arguments of the two atoms decide it.
use Rattle.std.proofs.Common.{◌≡◌, ℕ, List, [], ◌∷◌, ◌++◌, inl, inr, ◌↔◌, refl, sym, ap, ◌∙◌}
use Rattle.mast_terms.specs.declared.name.Name.{Name}
use Rattle.mast_cq.specs.declared.atom.Arg.{Arg}
use Rattle.mast_cq.specs.declared.atom.Arg.TheVariants.{Blank, Var, Constant}
use Rattle.mast_cq.specs.declared.atom.Atom.{Atom}
use Rattle.mast_cq.specs.declared.atom.Atom.TheVariants.{Class, Role, Attr}
use Rattle.mast_cq.specs.declared.query.Cq.{Cq}
use Rattle.mast_cq.specs.NormalForms.{Occurs}
use Rattle.mast_cq.specs.Queries.{In}
use Rattle.mast_cq.specs.Sorts.{arguments_of, all_arguments}
use Rattle.mast_cq.specs.Unification.{Replacement, replace_arg, Meeting}
use Rattle.mast_cq.proofs.ListLemmas.{append_left, append_right, in_append}
use Rattle.mast_cq.proofs.MovesLemmas.{meeting_fixed}
use Rattle.mast_cq.proofs.OriginLemmas.{of_all_in}
use Rattle.mast_tbox.specs.declared.axiom.Inclusion.{Inclusion}
use Rattle.mast_tbox.specs.Laws.{Decided}
use Rattle.mast_tbox.proofs.ArgumentLemmas.{down_occurs}
use Rattle.mast_tbox.proofs.DecideLemmas.{same_atom}
use Rattle.mast_tbox.proofs.ThroughLemmas.{dec_or, dec_as}
use Rattle.mast_rewrite.specs.CountingMeetings.{IsMeeting, ReplaceAlike}

name : Name
name = record { 0 = 0 }

one_arg : (x y : Arg) → Class name x ≡ Class name y → x ≡ y
one_arg x y e = cc

-- two arguments are one or not
pub same_arg : (x y : Arg) → Decided (x ≡ y)
same_arg x y = dec_as (one_arg x y, λ e. ap (Class name) e) (same_atom (Class name x) (Class name y))

-- whether a variable stands in an atom
pub occurs_decided : (n : ℕ) (g : Atom) → Decided (Occurs n g)
occurs_decided n (Class a x) = same_arg x (Var n)
occurs_decided n (Role a x y) = dec_or (same_arg x (Var n)) (same_arg y (Var n))
occurs_decided n (Attr a x y) = dec_or (same_arg x (Var n)) (same_arg y (Var n))

-- a variable that stands in an atom is one of its arguments
pub occurs_among : (n : ℕ) (g : Atom) → Occurs n g → In (Var n) (arguments_of g)
occurs_among n (Class a x) o = inl (sym o)
occurs_among n (Role a x y) (inl o) = inl (sym o)
occurs_among n (Role a x y) (inr o) = inr (inl (sym o))
occurs_among n (Attr a x y) (inl o) = inl (sym o)
occurs_among n (Attr a x y) (inr o) = inr (inl (sym o))

-- an argument of an atom of a query is one of its arguments
pub atom_argument : (q : Cq) (g : Atom) (x : Arg) → In g q.atoms → In x (arguments_of g) → In x (q.answer ++ all_arguments q.atoms)
atom_argument q g x i a = append_right x q.answer (all_arguments q.atoms) (of_all_in arguments_of x g q.atoms i a)

module _ (r p : Replacement) where
  abbrev On : List Arg → Type 0
  On xs = (n : ℕ) → In (Var n) xs → r n ≡ p n

  drop_first : (x : Arg) (xs : List Arg) → ((n : ℕ) → Var n ≡ x → ⊥) → Decided (On xs) → Decided (On (x ∷ xs))
  drop_first x xs none (inl on) = inl (λ n i. elim i [ inl e ↦ absurd (none n e) | inr j ↦ on n j ])
  drop_first x xs none (inr not) = inr (λ on. not (λ n i. on n (inr i)))

  one_more : (m : ℕ) (xs : List Arg) → Decided (r m ≡ p m) → Decided (On xs) → Decided (On (Var m ∷ xs))
  one_more m xs (inl e) (inl on) = inl (λ n i. elim i [ inl f ↦ (let k : n ≡ m = cc in rw k e) | inr j ↦ on n j ])
  one_more m xs (inl e) (inr not) = inr (λ on. not (λ n i. on n (inr i)))
  one_more m xs (inr e) d = inr (λ on. e (on m (inl refl)))

  -- whether two replacements agree on the variables of a list
  pub agree_decided : (xs : List Arg) → Decided (On xs)
  agree_decided [] = inl (λ n i. absurd i)
  agree_decided (Blank ∷ xs) = drop_first Blank xs (λ n e. cc) (agree_decided xs)
  agree_decided (Var m ∷ xs) = one_more m xs (same_arg (r m) (p m)) (agree_decided xs)
  agree_decided (Constant c ∷ xs) = drop_first (Constant c) xs (λ n e. cc) (agree_decided xs)

-- it is decided whether two meetings replace each variable of a query alike
pub alike_decided : (q : Cq) (m other : Meeting) → Decided (ReplaceAlike q m other)
alike_decided q m other = agree_decided m.replacement other.replacement (q.answer ++ all_arguments q.atoms)

module _ (tbox : List Inclusion) (q : Cq) (g h : Atom) where
  -- a meeting of two atoms moves no variable that stands in neither
  pub others_stay : (m : Meeting) (n : ℕ) → IsMeeting tbox q g h m → (Occurs n g → ⊥) → (Occurs n h → ⊥) → m.replacement n ≡ Var n
  others_stay m n w no_g no_h =
      meeting_fixed q.answer w.left w.right m n w.meets (λ o. no_g ((down_occurs tbox n g w.left w.left_below).1 o)) (λ o. no_h ((down_occurs tbox n h w.right w.right_below).1 o))

  module _ (m other : Meeting) (is : IsMeeting tbox q g h m) (is_other : IsMeeting tbox q g h other) where
    everywhere_case : (n : ℕ) → ((x : Arg) → In x (arguments_of g ++ arguments_of h) → replace_arg m.replacement x ≡ replace_arg other.replacement x)
        → Decided (Occurs n g) → Decided (Occurs n h) → m.replacement n ≡ other.replacement n
    everywhere_case n on (inl o) d = on (Var n) (append_left (Var n) (arguments_of g) (arguments_of h) (occurs_among n g o))
    everywhere_case n on (inr a) (inl o) = on (Var n) (append_right (Var n) (arguments_of g) (arguments_of h) (occurs_among n h o))
    everywhere_case n on (inr a) (inr b) = others_stay m n is a b ∙ sym (others_stay other n is_other a b)

    -- two meetings that agree on the arguments of the two atoms agree everywhere
    pub alike_everywhere : ((x : Arg) → In x (arguments_of g ++ arguments_of h) → replace_arg m.replacement x ≡ replace_arg other.replacement x)
        → (n : ℕ) → m.replacement n ≡ other.replacement n
    alike_everywhere on n = everywhere_case n on (occurs_decided n g) (occurs_decided n h)

    module _ (one : In g q.atoms) (two : In h q.atoms) where
      of_query : (x : Arg) → In x (arguments_of g ++ arguments_of h) → In x (q.answer ++ all_arguments q.atoms)
      of_query x i = elim (in_append x (arguments_of g) (arguments_of h) i) [ inl j ↦ atom_argument q g x one j | inr j ↦ atom_argument q h x two j ]

      on_arguments : ReplaceAlike q m other → (x : Arg) → In x (arguments_of g ++ arguments_of h) → replace_arg m.replacement x ≡ replace_arg other.replacement x
      on_arguments alike Blank i = refl
      on_arguments alike (Var n) i = alike n (of_query (Var n) i)
      on_arguments alike (Constant c) i = refl

      -- two meetings replace the variables of the query alike exactly where they agree on the arguments of the two atoms
      pub alike_by : ((x : Arg) → In x (arguments_of g ++ arguments_of h) → replace_arg m.replacement x ≡ replace_arg other.replacement x) ↔ ReplaceAlike q m other
      alike_by = (λ on n i. alike_everywhere on n, on_arguments)

      -- and then they replace all variables alike
      pub alike_all : ReplaceAlike q m other → (n : ℕ) → m.replacement n ≡ other.replacement n
      alike_all alike n = alike_everywhere (on_arguments alike) n
