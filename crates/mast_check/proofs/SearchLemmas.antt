-- Over a list of facts it is decided whether a query has a tuple through Down, and whether a tuple is a certain answer.
use Rattle.std.proofs.Common.{◌≡◌, ℕ, List, [], ◌∷◌, ◌++◌, inl, inr, Contains, sym, ap, ◌∙◌}
use Rattle.std.specs.List.{AllByRecursion}
use Rattle.mast_terms.specs.declared.name.Name.{Name}
use Rattle.mast_terms.specs.declared.term.Term.{Term}
use Rattle.mast_terms.proofs.OrderLemmas.{name_equality_test}
use Rattle.mast_terms.specs.contracts.name.NamePartialEq.TheImpl as name_eq
use Rattle.mast_cq.specs.declared.atom.Arg.{Arg}
use Rattle.mast_cq.specs.declared.atom.Arg.TheVariants.{Blank, Var, Constant}
use Rattle.mast_cq.specs.declared.atom.Atom.{Atom}
use Rattle.mast_cq.specs.declared.atom.Atom.TheVariants.{Class, Role, Attr}
use Rattle.mast_cq.specs.declared.query.Cq.{Cq}
use Rattle.mast_cq.specs.Meanings.{Fact, InClass, InRole, InAttr, Fits, Match, Gives}
use Rattle.mast_cq.specs.Queries.{In}
use Rattle.mast_cq.specs.Sorts.{EachHasOneSort}
use Rattle.mast_tbox.specs.declared.axiom.Inclusion.{Inclusion}
use Rattle.mast_tbox.specs.Inclusions.{normal}
use Rattle.mast_tbox.specs.Laws.{Decided}
use Rattle.mast_tbox.proofs.DecideLemmas.{down_finite}
use Rattle.mast_tbox.proofs.ThroughLemmas.{dec_and, dec_as, dec_some}
use Rattle.mast_canon.specs.CertainAnswers.{Certain, MetThrough, ThroughDown}
use Rattle.mast_canon.specs.Theories.{Theory, stated, constant_of}
use Rattle.mast_canon.specs.TheoryPremises.{FactsInRange, QueryInRange, IsStated}
use Rattle.mast_canon.specs.WorldLaws.{IsListed}
use Rattle.mast_check.proofs.DecidedLemmas.{dec_then, dec_among, same_number, same_term}
use Rattle.mast_canon.proofs.KeptRangeLemmas.{decide}
use Rattle.mast_canon.proofs.OverLemmas.{each_append}
use Rattle.mast_rewrite.proofs.FiniteLemmas.{closure_finite}
use Rattle.mast_rewrite.proofs.RewritingLemmas.{rewriting_sound, rewriting_complete}
use Rattle.mast_violate.proofs.WalkLemmas.{put, put_here, put_else}

-- what is decided of each is decided of all
dec_all : {X : Type 0} {Q : X → Type 0} → ((x : X) → Decided (Q x)) → (xs : List X) → Decided (AllByRecursion Q xs)
dec_all dec [] = inl tt
dec_all dec (x ∷ xs) = dec_and (dec x) (dec_all dec xs)

same_name : (a b : Name) → Decided (a ≡ b)
same_name a b = decide name_eq.ghosts.eq name_equality_test a b

-- an argument and a term that it may stand for
abbrev Pair : Type 0
Pair = Arg × Term

module _ (constant : ℕ → Term) where
  abbrev AllFit : (ℕ → Term) → List Pair → Type 0
  AllFit s pairs = AllByRecursion (λ p. Fits constant s p.0 p.1) pairs

  -- at the variable n there is no other term than t
  abbrev IsAt : ℕ → Term → Arg → Term → Type 0
  IsAt n t Blank u = Unit {0}
  IsAt n t (Var m) u = n ≡ m → u ≡ t
  IsAt n t (Constant c) u = Unit {0}

  is_at : (n : ℕ) (t : Term) (x : Arg) (u : Term) → Decided (IsAt n t x u)
  is_at n t Blank u = inl tt
  is_at n t (Var m) u = dec_then (same_number n m) (same_term u t)
  is_at n t (Constant c) u = inl tt

  abbrev AllAt : ℕ → Term → List Pair → Type 0
  AllAt n t pairs = AllByRecursion (λ p. IsAt n t p.0 p.1) pairs

  fit_put : (n : ℕ) (t : Term) (s : ℕ → Term) (x : Arg) (u : Term) → IsAt n t x u → Fits constant s x u → Fits constant (put n t s) x u
  fit_put n t s Blank u a f = tt
  fit_put n t s (Var m) u a f = elim (same_number n m) [
    | inl e ↦ a e ∙ (sym (put_here n t s) ∙ ap (put n t s) e)
    | inr d ↦ f ∙ sym (put_else n t s m d)
  ]
  fit_put n t s (Constant c) u a f = f

  all_put : (n : ℕ) (t : Term) (s : ℕ → Term) (pairs : List Pair) → AllAt n t pairs → AllFit s pairs → AllFit (put n t s) pairs
  all_put n t s [] a f = tt
  all_put n t s (p ∷ pairs) a f = (fit_put n t s p.0 p.1 a.0 f.0, all_put n t s pairs a.1 f.1)

  at_var : (n : ℕ) (t : Term) (s : ℕ → Term) → t ≡ s n → (x : Arg) (u : Term) → Fits constant s x u → IsAt n t x u
  at_var n t s e Blank u f = tt
  at_var n t s e (Var m) u f = λ i. f ∙ (ap s (sym i) ∙ sym e)
  at_var n t s e (Constant c) u f = tt

  all_at_var : (n : ℕ) (t : Term) (s : ℕ → Term) → t ≡ s n → (pairs : List Pair) → AllFit s pairs → AllAt n t pairs
  all_at_var n t s e [] f = tt
  all_at_var n t s e (p ∷ pairs) f = (at_var n t s e p.0 p.1 f.0, all_at_var n t s e pairs f.1)

  abbrev IsSolved : List Pair → Type 0
  IsSolved pairs = (s : ℕ → Term) × AllFit s pairs

  solve_more : (x : Arg) (t : Term) (pairs : List Pair) → Decided (IsSolved pairs) → Decided ((s : ℕ → Term) × (Fits constant s x t × AllFit s pairs))
  solve_more Blank t pairs d = dec_as (λ w. (w.0, (tt, w.1)), λ w. (w.0, w.1.1)) d
  solve_more (Var n) t pairs d =
      dec_as (
        λ w. (put n t w.1.0, (sym (put_here n t w.1.0), all_put n t w.1.0 pairs w.0 w.1.1)),
        λ w. (all_at_var n t w.0 w.1.0 pairs w.1.1, (w.0, w.1.1)),
      )
      (dec_and (dec_all (λ (p : Pair). is_at n t p.0 p.1) pairs) d)
  solve_more (Constant c) t pairs d = dec_as (λ w. (w.1.0, (w.0, w.1.1)), λ w. (w.1.0, (w.0, w.1.1))) (dec_and (same_term t (constant c)) d)

  -- whether an assignment makes each argument its term
  solve : (pairs : List Pair) → Decided (IsSolved pairs)
  solve [] = inl (constant, tt)
  solve (p ∷ pairs) = solve_more p.0 p.1 pairs (solve pairs)

  -- the fact has the kind and the name of the atom, and the arguments with the terms in their places
  abbrev HasName : Atom → Fact Term → Type 0
  HasName (Class a x) (InClass b t) = a ≡ b
  HasName (Class a x) (InRole b t u) = ⊥
  HasName (Class a x) (InAttr b t u) = ⊥
  HasName (Role a x y) (InClass b t) = ⊥
  HasName (Role a x y) (InRole b t u) = a ≡ b
  HasName (Role a x y) (InAttr b t u) = ⊥
  HasName (Attr a x y) (InClass b t) = ⊥
  HasName (Attr a x y) (InRole b t u) = ⊥
  HasName (Attr a x y) (InAttr b t u) = a ≡ b

  has_name : (g : Atom) (f : Fact Term) → Decided (HasName g f)
  has_name (Class a x) (InClass b t) = same_name a b
  has_name (Class a x) (InRole b t u) = inr (λ h. h)
  has_name (Class a x) (InAttr b t u) = inr (λ h. h)
  has_name (Role a x y) (InClass b t) = inr (λ h. h)
  has_name (Role a x y) (InRole b t u) = same_name a b
  has_name (Role a x y) (InAttr b t u) = inr (λ h. h)
  has_name (Attr a x y) (InClass b t) = inr (λ h. h)
  has_name (Attr a x y) (InRole b t u) = inr (λ h. h)
  has_name (Attr a x y) (InAttr b t u) = same_name a b

  abbrev places : Atom → Fact Term → List Pair
  places (Class a x) (InClass b t) = (x, t) ∷ []
  places (Class a x) (InRole b t u) = []
  places (Class a x) (InAttr b t u) = []
  places (Role a x y) (InClass b t) = []
  places (Role a x y) (InRole b t u) = (x, t) ∷ (y, u) ∷ []
  places (Role a x y) (InAttr b t u) = []
  places (Attr a x y) (InClass b t) = []
  places (Attr a x y) (InRole b t u) = []
  places (Attr a x y) (InAttr b t u) = (x, t) ∷ (y, u) ∷ []

  matches : (s : ℕ → Term) (g : Atom) (f : Fact Term) → HasName g f → AllFit s (places g f) → Match constant s g f
  matches s (Class a x) (InClass b t) n h = (n, h.0)
  matches s (Class a x) (InRole b t u) n h = absurd n
  matches s (Class a x) (InAttr b t u) n h = absurd n
  matches s (Role a x y) (InClass b t) n h = absurd n
  matches s (Role a x y) (InRole b t u) n h = (n, h.0, h.1.0)
  matches s (Role a x y) (InAttr b t u) n h = absurd n
  matches s (Attr a x y) (InClass b t) n h = absurd n
  matches s (Attr a x y) (InRole b t u) n h = absurd n
  matches s (Attr a x y) (InAttr b t u) n h = (n, h.0, h.1.0)

  matched : (s : ℕ → Term) (g : Atom) (f : Fact Term) → Match constant s g f → HasName g f × AllFit s (places g f)
  matched s (Class a x) (InClass b t) m = (m.0, (m.1, tt))
  matched s (Class a x) (InRole b t u) m = absurd m
  matched s (Class a x) (InAttr b t u) m = absurd m
  matched s (Role a x y) (InClass b t) m = absurd m
  matched s (Role a x y) (InRole b t u) m = (m.0, (m.1, (m.2, tt)))
  matched s (Role a x y) (InAttr b t u) m = absurd m
  matched s (Attr a x y) (InClass b t) m = absurd m
  matched s (Attr a x y) (InRole b t u) m = absurd m
  matched s (Attr a x y) (InAttr b t u) m = (m.0, (m.1, (m.2, tt)))

  fit_first : (s : ℕ → Term) (xs ys : List Pair) → AllFit s (xs ++ ys) → AllFit s xs
  fit_first s [] ys h = tt
  fit_first s (x ∷ xs) ys h = (h.0, fit_first s xs ys h.1)

  fit_second : (s : ℕ → Term) (xs ys : List Pair) → AllFit s (xs ++ ys) → AllFit s ys
  fit_second s [] ys h = h
  fit_second s (x ∷ xs) ys h = fit_second s xs ys h.1

  module _ (tbox : List Inclusion) (F : Fact Term → Type 0) (l : IsListed F) where
    abbrev IsFound : List Atom → List Pair → Type 0
    IsFound gs pairs = (s : ℕ → Term) × (AllFit s pairs × AllByRecursion (MetThrough tbox constant F s) gs)

    -- some member of Down of the first atom is a fact, and the rest is found with its places
    abbrev Next : Atom → List Atom → List Pair → Type 0
    Next g gs pairs = (h : Atom) × (Contains (down_finite tbox g).members h × ((f : Fact Term) × (In f l.list × (HasName h f × IsFound gs (places h f ++ pairs)))))

    next_found : (g : Atom) (gs : List Atom) (pairs : List Pair) → Next g gs pairs → IsFound (g ∷ gs) pairs
    next_found g gs pairs (h, (c, (f, (i, (n, (s, (fit, rest))))))) = (
      s,
      (
        fit_second s (places h f) pairs fit,
        (
          record {
            member = h;
            below = ((down_finite tbox g).are h).0 c;
            met = record { fact = f; matches = matches s h f n (fit_first s (places h f) pairs fit); holds = (l.are f).1 i };
          },
          rest,
        ),
      ),
    )

    found_next : (g : Atom) (gs : List Atom) (pairs : List Pair) → IsFound (g ∷ gs) pairs → Next g gs pairs
    found_next g gs pairs (s, (fit, (m, rest))) =
        let f = m.met.fact in
        let w = matched s m.member f m.met.matches in (
          m.member,
          (
            ((down_finite tbox g).are m.member).1 m.below,
            (
              f,
              (
                (l.are f).0 m.met.holds,
                (
                  w.0,
                  (
                    s,
                    (
                      each_append (λ (p : Pair). Fits constant s p.0 p.1) (places m.member f) pairs w.1 fit,
                      rest,
                    ),
                  ),
                ),
              ),
            ),
          ),
        )

    -- whether an assignment makes each argument its term, and a member of Down of each atom a fact
    search_for : (gs : List Atom) (pairs : List Pair) → Decided (IsFound gs pairs)
    search_for [] pairs = dec_as (λ w. (w.0, (w.1, tt)), λ w. (w.0, w.1.0)) (solve pairs)
    search_for (g ∷ gs) pairs =
        dec_as (next_found g gs pairs, found_next g gs pairs)
        (dec_some (λ h. dec_among (λ f. dec_and (has_name h f) (search_for gs (places h f ++ pairs))) l.list) (down_finite tbox g).members)

  -- the answer list and the tuple are of one length
  abbrev AreAsLong : List Arg → List Term → Type 0
  AreAsLong [] [] = Unit {0}
  AreAsLong [] (t ∷ ts) = ⊥
  AreAsLong (x ∷ xs) [] = ⊥
  AreAsLong (x ∷ xs) (t ∷ ts) = AreAsLong xs ts

  as_long : (xs : List Arg) (ts : List Term) → Decided (AreAsLong xs ts)
  as_long [] [] = inl tt
  as_long [] (t ∷ ts) = inr (λ h. h)
  as_long (x ∷ xs) [] = inr (λ h. h)
  as_long (x ∷ xs) (t ∷ ts) = as_long xs ts

  abbrev answers_with : List Arg → List Term → List Pair
  answers_with [] ts = []
  answers_with (x ∷ xs) [] = []
  answers_with (x ∷ xs) (t ∷ ts) = (x, t) ∷ answers_with xs ts

  gives : (s : ℕ → Term) (xs : List Arg) (ts : List Term) → AreAsLong xs ts → AllFit s (answers_with xs ts) → Gives constant s xs ts
  gives s [] [] l h = tt
  gives s [] (t ∷ ts) l h = absurd l
  gives s (x ∷ xs) [] l h = absurd l
  gives s (x ∷ xs) (t ∷ ts) l h = (h.0, gives s xs ts l h.1)

  given : (s : ℕ → Term) (xs : List Arg) (ts : List Term) → Gives constant s xs ts → AreAsLong xs ts × AllFit s (answers_with xs ts)
  given s [] [] g = (tt, tt)
  given s [] (t ∷ ts) g = absurd g
  given s (x ∷ xs) [] g = absurd g
  given s (x ∷ xs) (t ∷ ts) g = let w = given s xs ts g.1 in (w.0, (g.0, w.1))

module _ (theory : Theory) (F : Fact Term → Type 0) (l : IsListed F) where
  abbrev constant : ℕ → Term
  constant = constant_of theory.constants

  abbrev normals : List Inclusion
  normals = normal (stated theory)

  -- whether a query has a tuple through Down
  through_decided : (q : Cq) (tuple : List Term) → Decided (ThroughDown theory F q tuple)
  through_decided q tuple =
      dec_as (
        λ w. record {
          under = w.1.0;
          each = w.1.1.1;
          answers = gives constant w.1.0 q.answer tuple w.0 w.1.1.0;
        },
        λ h. (let g = given constant h.under q.answer tuple h.answers in (g.0, (h.under, (g.1, h.each)))),
      )
      (dec_and (as_long constant q.answer tuple) (search_for constant normals F l q.atoms (answers_with constant q.answer tuple)))

  -- whether a tuple is a certain answer
  pub certain_decided : IsStated theory → FactsInRange F → (q : Cq) → QueryInRange q → EachHasOneSort q.atoms → (tuple : List Term) → Decided (Certain theory F q tuple)
  certain_decided is_stated range q known sorts tuple =
      let c = closure_finite normals q in
      dec_as (
        λ w. rewriting_sound theory F is_stated range q w.0 tuple known ((c.are w.0).0 w.1.0) w.1.1,
        λ h. (let w = rewriting_complete theory F is_stated.numbered q tuple sorts h in (w.query, ((c.are w.query).1 w.has, w.through))),
      )
      (dec_some (λ m. through_decided m tuple) c.members)
