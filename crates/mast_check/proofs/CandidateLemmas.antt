-- The terms of a certain answer are terms of the facts, so it is decided whether a violation is breached.
use Rattle.std.proofs.Common.{◌≡◌, ◌≢◌, ℕ, zero, suc, List, [], ◌∷◌, ◌++◌, length, map, Option, Some, None, slice_get, ◌⊎◌, inl, inr, refl, sym, ap, ◌∙◌, subst}
use Rattle.std.specs.List.{AllByRecursion}
use Rattle.mast_terms.specs.declared.term.Term.{Term}
use Rattle.mast_terms.specs.declared.term.Term.TheVariants as term
use Rattle.mast_terms.specs.declared.value.Kind.{Kind}
use Rattle.mast_terms.specs.declared.value.Value.{Value}
use Rattle.mast_terms.proofs.OrderLemmas.{kind_equality_test}
use Rattle.mast_terms.specs.contracts.value.KindPartialEq.TheImpl as kind_eq
use Rattle.mast_tables.specs.Whole.{value_kind}
use Rattle.mast_cq.specs.declared.atom.Arg.{Arg}
use Rattle.mast_cq.specs.declared.atom.Arg.TheVariants.{Blank, Var, Constant}
use Rattle.mast_cq.specs.declared.atom.Atom.{Atom}
use Rattle.mast_cq.specs.declared.atom.Atom.TheVariants.{Class, Role, Attr}
use Rattle.mast_cq.specs.declared.query.Cq.{Cq}
use Rattle.mast_cq.specs.Meanings.{Fact, InClass, InRole, InAttr, Fits, Match, MetBy, Gives}
use Rattle.mast_cq.specs.Queries.{In}
use Rattle.mast_cq.specs.Sorts.{EachHasOneSort}
use Rattle.mast_cq.proofs.ListLemmas.{each_in, append_left, append_right, map_in}
use Rattle.mast_tbox.specs.declared.axiom.Inclusion.{Inclusion}
use Rattle.mast_tbox.specs.Laws.{Decided}
use Rattle.mast_tbox.proofs.ThroughLemmas.{dec_and, dec_as, dec_not}
use Rattle.mast_canon.specs.CertainAnswers.{HoldsBy, Certain, constant_in}
use Rattle.mast_canon.specs.Derivations.{FactStep, Holds, source, follows}
use Rattle.mast_canon.specs.Elements.{Element, Named, Successor, map_fact}
use Rattle.mast_canon.specs.KeptWorlds.{OfElements}
use Rattle.mast_canon.specs.NoModels.{NoModel}
use Rattle.mast_canon.specs.Theories.{Theory, stated}
use Rattle.mast_canon.specs.TheoryPremises.{FactsInRange, QueryInRange, IsStated}
use Rattle.mast_canon.specs.WorldLaws.{IsListed}
use Rattle.mast_check.proofs.DecidedLemmas.{dec_among, same_term}
use Rattle.mast_canon.proofs.FoundLemmas.{of_pair, to_pair, of_shown}
use Rattle.mast_canon.proofs.KeptRangeLemmas.{decide}
use Rattle.mast_canon.proofs.ListedLemmas.{terms_of, terms_of_listed}
use Rattle.mast_violate.specs.declared.violation.Test.{Test}
use Rattle.mast_violate.specs.declared.violation.Test.TheVariants.{Plain, Differ, KindNot}
use Rattle.mast_violate.specs.declared.violation.Violation.{Violation}
use Rattle.mast_violate.specs.Breaches.{Passes, IsBreached, AreBreaches, violations_of}
use Rattle.mast_check.proofs.SearchLemmas.{certain_decided}

-- the named terms of what holds are those of the facts
module _ (tbox : List Inclusion) (F : Fact Term → Type 0) (ts : List Term) (all : (f : Fact Term) → F f → OfElements (λ t. In t ts) f) where
  abbrev pub Listed : Element → Type 0
  Listed (Named t) = In t ts
  Listed (Successor t k) = Unit {0}

  given_listed : (f : Fact Term) → OfElements (λ t. In t ts) f → OfElements Listed (map_fact Named f)
  given_listed (InClass a t) h = h
  given_listed (InRole p t u) h = h
  given_listed (InAttr v t u) h = h

  pub holds_listed : (f : Fact Element) → Holds tbox F f → OfElements Listed f
  holds_listed f (source s) = subst (OfElements Listed) (sym s.is) (given_listed s.fact (all s.fact s.given))
  holds_listed f (follows {f = g} h (FactStep.into_class b a x y c eg ef)) = subst (OfElements Listed) (sym ef) (of_shown Listed b x y (subst (OfElements Listed) eg (holds_listed g h)))
  holds_listed f (follows {f = g} h (FactStep.adds b q k x y c eg ef)) =
      subst (OfElements Listed) (sym ef) (to_pair Listed q x (Successor x k) (of_shown Listed b x y (subst (OfElements Listed) eg (holds_listed g h))) tt)
  holds_listed f (follows {f = g} h (FactStep.ends b r a k x y c eg ef)) = subst (OfElements Listed) (sym ef) tt
  holds_listed f (follows {f = g} h (FactStep.widens q' q x y c eg ef)) =
      let w = of_pair Listed q' x y (subst (OfElements Listed) eg (holds_listed g h)) in subst (OfElements Listed) (sym ef) (to_pair Listed q x y w.0 w.1)

-- the variable is an argument of the atom
abbrev pub HasVar : ℕ → Atom → Type 0
HasVar n (Class a x) = x ≡ Var n
HasVar n (Role a x y) = (x ≡ Var n) ⊎ (y ≡ Var n)
HasVar n (Attr a x y) = (x ≡ Var n) ⊎ (y ≡ Var n)

-- the argument is a variable of some atom
abbrev pub IsAsked : List Atom → Arg → Type 0
IsAsked atoms Blank = ⊥
IsAsked atoms (Var n) = (g : Atom) × (In g atoms × HasVar n g)
IsAsked atoms (Constant c) = ⊥

-- a query over names in range, in which each argument has one sort, and each answer is a variable of an atom
pub record IsPlain (q : Cq) : Type 0 where
  pub known : QueryInRange q
  pub sorts : EachHasOneSort q.atoms
  pub asked : AllByRecursion (IsAsked q.atoms) q.answer

module _ {X : Type 0} (constant s : ℕ → X) (Q : X → Type 0) (n : ℕ) where
  at_var : (x : Arg) (t : X) → x ≡ Var n → Fits constant s x t → Q t → Q (s n)
  at_var x t e f h = subst Q (subst (λ z. Fits constant s z t) e f) h

  at_fact : (g : Atom) (f : Fact X) → HasVar n g → Match constant s g f → OfElements Q f → Q (s n)
  at_fact (Class a x) (InClass b t) e m h = at_var x t e m.1 h
  at_fact (Class a x) (InRole b t u) e m h = absurd m
  at_fact (Class a x) (InAttr b t u) e m h = absurd m
  at_fact (Role a x y) (InClass b t) e m h = absurd m
  at_fact (Role a x y) (InRole b t u) (inl e) m h = at_var x t e m.1 h.0
  at_fact (Role a x y) (InRole b t u) (inr e) m h = at_var y u e m.2 h.1
  at_fact (Role a x y) (InAttr b t u) e m h = absurd m
  at_fact (Attr a x y) (InClass b t) e m h = absurd m
  at_fact (Attr a x y) (InRole b t u) e m h = absurd m
  at_fact (Attr a x y) (InAttr b t u) (inl e) m h = at_var x t e m.1 h.0
  at_fact (Attr a x y) (InAttr b t u) (inr e) m h = at_var y u e m.2 h.1

-- the tuples of terms of a list, by their length
abbrev with_each : List Term → List (List Term) → List (List Term)
with_each [] tuples = []
with_each (t ∷ ts) tuples = map (λ us. t ∷ us) tuples ++ with_each ts tuples

abbrev tuples_of : List Term → ℕ → List (List Term)
tuples_of ts zero = [] ∷ []
tuples_of ts (suc n) = with_each ts (tuples_of ts n)

in_with : (ts : List Term) (tuples : List (List Term)) (t : Term) (us : List Term) → In t ts → In us tuples → In (t ∷ us) (with_each ts tuples)
in_with [] tuples t us i j = absurd i
in_with (u ∷ ts) tuples t us (inl e) j =
    append_left (t ∷ us) (map (λ (vs : List Term). u ∷ vs) tuples) (with_each ts tuples)
    (subst (λ z. In (t ∷ us) (map (λ (vs : List Term). z ∷ vs) tuples)) e (map_in (λ (vs : List Term). t ∷ vs) us tuples j))
in_with (u ∷ ts) tuples t us (inr i) j = append_right (t ∷ us) (map (λ (vs : List Term). u ∷ vs) tuples) (with_each ts tuples) (in_with ts tuples t us i j)

in_tuples : (ts : List Term) (constant s : ℕ → Element) (xs : List Arg) (tuple : List Term) → ((x : Arg) → In x xs → (t : Term) → Fits constant s x (Named t) → In t ts)
    → Gives constant s xs (map Named tuple) → In tuple (tuples_of ts (length xs))
in_tuples ts constant s [] [] k g = inl refl
in_tuples ts constant s [] (t ∷ tuple) k g = absurd g
in_tuples ts constant s (x ∷ xs) [] k g = absurd g
in_tuples ts constant s (x ∷ xs) (t ∷ tuple) k g = in_with ts (tuples_of ts (length xs)) t tuple (k x (inl refl) t g.0) (in_tuples ts constant s xs tuple (λ y i. k y (inr i)) g.1)

-- whether a tuple passes a test
same_option : (a b : Option Term) → Decided (a ≡ b)
same_option None None = inl refl
same_option None (Some u) = inr (λ e. cc)
same_option (Some t) None = inr (λ e. cc)
same_option (Some t) (Some u) = dec_as (ap Some, λ e. cc) (same_term t u)

abbrev IsOfOther : Kind → Option Term → Type 0
IsOfOther kind o = (v : Value) × ((o ≡ Some (term.Value v)) × (value_kind v ≢ kind))

same_value : (v w : Value) → Some (term.Value v) ≡ Some (term.Value w) → v ≡ w
same_value v w e = cc

of_other : (kind : Kind) (o : Option Term) → Decided (IsOfOther kind o)
of_other kind None = inr (λ w. let e = w.1.0 in cc)
of_other kind (Some (term.Object o)) = inr (λ w. let e = w.1.0 in cc)
of_other kind (Some (term.Value v)) =
    dec_as (λ n. (v, (refl, n)), λ w e. w.1.1 (ap value_kind (sym (same_value v w.0 w.1.0)) ∙ e)) (dec_not (decide kind_eq.ghosts.eq kind_equality_test (value_kind v) kind))

passes_decided : (test : Test) (tuple : List Term) → Decided (Passes test tuple)
passes_decided Plain tuple = inl tt
passes_decided (Differ left right) tuple = dec_not (same_option (slice_get tuple left) (slice_get tuple right))
passes_decided (KindNot place kind) tuple = of_other kind (slice_get tuple place)

-- what is decided of each element of a list
dec_element : {X : Type 0} {Q : X → Type 0} → (xs : List X) → ((x : X) → In x xs → Decided (Q x)) → Decided ((x : X) × (In x xs × Q x))
dec_element [] dec = inr (λ w. w.1.0)
dec_element {X} {Q} (x ∷ xs) dec = go (dec x (inl refl)) (dec_element xs (λ y i. dec y (inr i)))
  where
    go : Decided (Q x) → Decided ((y : X) × (In y xs × Q y)) → Decided ((y : X) × (In y (x ∷ xs) × Q y))
    go (inl p) d = inl (x, (inl refl, p))
    go (inr n) (inl w) = inl (w.0, (inr w.1.0, w.1.1))
    go (inr n) (inr m) = inr (λ w. elim w.1.0 [ inl e ↦ n (subst Q e w.1.1) | inr i ↦ m (w.0, (i, w.1.1)) ])

module _ (theory : Theory) (F : Fact Term → Type 0) (l : IsListed F) (is_stated : IsStated theory) (range : FactsInRange F) where
  abbrev terms : List Term
  terms = terms_of l.list

  -- a term of a certain answer is one of the facts
  asked_listed : (q : Cq) (s : ℕ → Element) → AllByRecursion (MetBy (constant_in theory) (HoldsBy theory F) s) q.atoms
      → (x : Arg) → IsAsked q.atoms x → (t : Term) → Fits (constant_in theory) s x (Named t) → In t terms
  asked_listed q s each Blank a t f = absurd a
  asked_listed q s each (Var n) (g, (i, h)) t f =
      let m = each_in (MetBy (constant_in theory) (HoldsBy theory F) s) g q.atoms each i in
      let L = Listed (stated theory) F terms (terms_of_listed F l) in
      subst L (sym f) (at_fact (constant_in theory) s L n g m.fact h m.matches (holds_listed (stated theory) F terms (terms_of_listed F l) m.fact m.holds))
  asked_listed q s each (Constant c) a t f = absurd a

  certain_listed : (q : Cq) → IsPlain q → (tuple : List Term) → Certain theory F q tuple → In tuple (tuples_of terms (length q.answer))
  certain_listed q plain tuple h =
      in_tuples terms (constant_in theory) h.under q.answer tuple
      (λ x i t f. asked_listed q h.under h.each x (each_in (IsAsked q.atoms) x q.answer plain.asked i) t f) h.answers

  -- whether a violation is breached
  breached_decided : (v : Violation) → IsPlain v.query → Decided (IsBreached theory F v)
  breached_decided v plain =
      dec_as (
        λ w. record { tuple = w.0; certain = w.1.1.0; passes = w.1.1.1 },
        λ b. (b.tuple, (certain_listed v.query plain b.tuple b.certain, (b.certain, b.passes))),
      )
      (dec_among (λ tuple. dec_and (certain_decided theory F l is_stated range v.query plain.known plain.sorts tuple) (passes_decided v.test tuple)) (tuples_of terms (length v.query.answer)))

  -- whether there is no model
  pub no_model_decided : ((v : Violation) → In v (violations_of theory) → IsPlain v.query) → AreBreaches F theory (violations_of theory) → Decided (NoModel theory F)
  no_model_decided plain are =
      dec_as (
        λ w. (w.0.origin, (are w.0.origin).1 (record { violation = w.0; stands = w.1.0; has_origin = refl; breached = w.1.1 })),
        λ h. (let w = (are h.0).0 h.1 in (w.violation, (w.stands, w.breached))),
      )
      (dec_element (violations_of theory) (λ v i. breached_decided v (plain v i)))
