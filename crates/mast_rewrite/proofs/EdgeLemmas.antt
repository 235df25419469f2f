-- What holds goes back, within Down of an atom, to a given fact, or to the edge that made a successor which the atom names.
use Rattle.std.proofs.Common.{◌≡◌, ℕ, List, ◌⊎◌, inl, inr, Some, None, refl, sym, subst}
use Rattle.mast_terms.specs.declared.term.Term.{Term}
use Rattle.mast_cq.specs.declared.atom.Arg.{Arg}
use Rattle.mast_cq.specs.declared.atom.Arg.TheVariants.{Blank, Var, Constant}
use Rattle.mast_cq.specs.declared.atom.Atom.{Atom}
use Rattle.mast_cq.specs.Meanings.{Fact, Fits, Match}
use Rattle.mast_cq.proofs.PropertyLemmas.{pair_in}
use Rattle.mast_tbox.specs.declared.axiom.Inclusion.{Inclusion}
use Rattle.mast_tbox.specs.declared.expression.Basic.{Basic}
use Rattle.mast_tbox.specs.declared.expression.Prop.{Prop}
use Rattle.mast_tbox.specs.Closure.{AtomStep, Down}
use Rattle.mast_tbox.specs.Expressions.{property, pair, at}
use Rattle.mast_tbox.specs.Inclusions.{Adds}
use Rattle.mast_tbox.specs.Laws.{HasNoEnd}
use Rattle.mast_tbox.specs.Lists.{itself, onward}
use Rattle.mast_canon.specs.CertainAnswers.{MetThrough}
use Rattle.mast_canon.specs.Derivations.{FactStep, IsSource, Holds, source, follows}
use Rattle.mast_canon.specs.Elements.{Element, Named, Successor}
use Rattle.mast_canon.specs.Memberships.{pair_fact, shows}
use Rattle.mast_canon.proofs.FactLemmas.{at_in, class_of, pair_of}

module _ (tbox : List Inclusion) (F : Fact Term → Type 0) (constant : ℕ → Term) (s : ℕ → Element) where
  -- the element that a constant stands for
  abbrev pub by_name : ℕ → Element
  by_name c = Named (constant c)

  -- an inclusion made the successor that the variable stands for, and within Down the atom asks for the edge to it
  pub record Made (g : Atom) : Type 0 where
    pub sub : Basic
    pub prop : Prop
    pub number : ℕ
    pub subject : Element
    pub arg : Arg
    pub var : ℕ
    pub adds : Adds tbox sub prop number
    pub below : Down tbox g (pair prop arg (Var var))
    pub fits : Fits by_name s arg subject
    pub is : Successor subject number ≡ s var
    pub holds : Holds tbox F (pair_fact prop subject (Successor subject number))

  -- a member of Down of the atom is a given fact, or asks for such an edge
  abbrev pub GoesBack : Atom → Type 0
  GoesBack g = MetThrough tbox by_name (IsSource F) s g ⊎ Made g

  lift : (g h : Atom) → AtomStep tbox g h → GoesBack h → GoesBack g
  lift g h step (inl m) = inl (record { member = m.member; below = onward step m.below; met = m.met })
  lift g h step (inr m) = inr (record {
    sub = m.sub;
    prop = m.prop;
    number = m.number;
    subject = m.subject;
    arg = m.arg;
    var = m.var;
    adds = m.adds;
    below = onward step m.below;
    fits = m.fits;
    is = m.is;
    holds = m.holds;
  })

  back_made : (g : Atom) (e : Fact Element) (b : Basic) (p : Prop) (k : ℕ) (t u : Element) (x y : Arg) → Adds tbox b p k → e ≡ shows b t u
      → Holds tbox F (pair_fact p t (Successor t k)) → g ≡ pair p x y → Fits by_name s x t → Fits by_name s y (Successor t k)
      → ((i : Atom) → Match by_name s i e → GoesBack i) → GoesBack g
  back_made g e b p k t u x Blank c is h eg f to again = lift g (at b x) (AtomStep.adds b p k x c eg refl) (again (at b x) (rw is (at_in by_name s b x t u f)))
  back_made g e b p k t u x (Var n) c is h eg f to again = inr (record {
    sub = b;
    prop = p;
    number = k;
    subject = t;
    arg = x;
    var = n;
    adds = c;
    below = subst (λ i. Down tbox i (pair p x (Var n))) (sym eg) itself;
    fits = f;
    is = to;
    holds = h;
  })
  back_made g e b p k t u x (Constant d) c is h eg f to again = cc

  module _ (none : HasNoEnd tbox) where
    back_step : (g : Atom) (e f : Fact Element) → Holds tbox F e → FactStep tbox e f → Match by_name s g f → ((i : Atom) → Match by_name s i e → GoesBack i) → GoesBack g
    back_step g e f h (FactStep.into_class b a t u c is ef) m again =
        let w = class_of by_name s g a t (subst (Match by_name s g) ef m) in
        lift g (at b w.arg) (AtomStep.into_class b a w.arg c w.is refl) (again (at b w.arg) (rw is (at_in by_name s b w.arg t u w.fits)))
    back_step g e f h (FactStep.adds b p k t u c is ef) m again =
        let w = pair_of by_name s g p t (Successor t k) (subst (Match by_name s g) ef m) in
        back_made g e b p k t u w.from w.to c is (follows h (FactStep.adds b p k t u c is refl)) w.is w.from_fits w.to_fits again
    back_step g e f h (FactStep.ends b r a k t u c is ef) m again = let w : Some a ≡ None = none b r (Some a) k c in cc
    back_step g e f h (FactStep.widens p q t u c is ef) m again =
        let w = pair_of by_name s g q t u (subst (Match by_name s g) ef m) in
        lift g (pair p w.from w.to) (AtomStep.widens p q w.from w.to c w.is refl)
        (again (pair p w.from w.to) (rw is (pair_in by_name s (property p) w.from w.to t u w.from_fits w.to_fits)))

    -- each fact that holds goes back within Down of each atom that it is
    pub goes_back : (f : Fact Element) (g : Atom) → Holds tbox F f → Match by_name s g f → GoesBack g
    goes_back f g (source i) m = inl (record { member = g; below = itself; met = record { fact = f; matches = m; holds = i } })
    goes_back f g (follows {f = e} h step) m = back_step g e f h step m (λ i mi. goes_back e i h mi)
