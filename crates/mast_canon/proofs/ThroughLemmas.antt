-- What Down says of the facts that hold.
use Rattle.std.proofs.Common.{◌≡◌, ℕ, ◌↔◌, List, [], ◌∷◌, map, None, Some, refl, subst}
use Rattle.mast_terms.specs.declared.term.Term.{Term}
use Rattle.mast_cq.specs.declared.atom.Arg.{Arg}
use Rattle.mast_cq.specs.declared.atom.Arg.TheVariants.{Blank, Var, Constant}
use Rattle.mast_cq.specs.declared.atom.Atom.{Atom}
use Rattle.mast_cq.specs.declared.atom.Atom.TheVariants.{Class, Role, Attr}
use Rattle.mast_cq.specs.Meanings.{Fact, InClass, InRole, InAttr, Fits, Match, Gives, MetBy}
use Rattle.mast_cq.proofs.PropertyLemmas.{pair_in, pair_out}
use Rattle.mast_tbox.specs.declared.axiom.Inclusion.{Inclusion}
use Rattle.mast_tbox.specs.declared.expression.Basic.{Basic}
use Rattle.mast_tbox.specs.declared.expression.Prop.{Prop}
use Rattle.mast_tbox.specs.Closure.{AtomStep, Down}
use Rattle.mast_tbox.specs.Expressions.{property, pair, at}
use Rattle.mast_tbox.specs.Inclusions.{Adds}
use Rattle.mast_tbox.specs.Laws.{HasNoEnd}
use Rattle.mast_tbox.specs.Lists.{itself, onward}
use Rattle.mast_canon.specs.CertainAnswers.{MetThrough}
use Rattle.mast_canon.specs.Derivations.{FactStep, Holds, source, follows}
use Rattle.mast_canon.specs.Elements.{Element, Named, Successor, map_fact}
use Rattle.mast_canon.specs.Memberships.{pair_fact, shows}
use Rattle.mast_canon.proofs.FactLemmas.{at_in, at_out, class_of, pair_of}
use Rattle.mast_canon.proofs.ImageLemmas.{match_map}

module _ (tbox : List Inclusion) (constant s : ℕ → Element) where
  -- a fact that follows by one step is the atom
  record Followed (g : Atom) (f : Fact Element) : Type 0 where
    fact : Fact Element
    matches : Match constant s g fact
    step : FactStep tbox f fact

  step_up : (g h : Atom) (f : Fact Element) → AtomStep tbox g h → Match constant s h f → Followed g f
  step_up g h f (AtomStep.into_class b a x c eg eh) m =
      let w = at_out constant s b x f (subst (λ i. Match constant s i f) eh m) in
      record { fact = InClass a w.one; matches = rw eg (refl, w.fits); step = FactStep.into_class b a w.one w.other c w.is refl }
  step_up g h f (AtomStep.adds b p k x c eg eh) m =
      let w = at_out constant s b x f (subst (λ i. Match constant s i f) eh m) in
      record {
        fact = pair_fact p w.one (Successor w.one k);
        matches = rw eg (pair_in constant s (property p) x Blank w.one (Successor w.one k) w.fits tt);
        step = FactStep.adds b p k w.one w.other c w.is refl;
      }
  step_up g h f (AtomStep.widens p q x y c eg eh) m =
      let w = pair_out constant s (property p) x y f (subst (λ i. Match constant s i f) eh m) in
      record {
        fact = pair_fact q w.one w.other;
        matches = rw eg (pair_in constant s (property q) x y w.one w.other w.one_fits w.other_fits);
        step = FactStep.widens p q w.one w.other c w.is refl;
      }

  -- where a member of Down of the atom is a fact that holds, the atom is one too
  pub down_up : (F : Fact Term → Type 0) (g h : Atom) → Down tbox g h → MetBy constant (Holds tbox F) s h → MetBy constant (Holds tbox F) s g
  down_up F g h itself m = m
  down_up F g h (onward {y = i} step d) m =
      let w = down_up F i h d m in
      let v = step_up g i w.fact step w.matches in
      record { fact = v.fact; matches = v.matches; holds = follows w.holds v.step }

-- facts over named terms
module _ (constant s : ℕ → Term) where
  abbrev pub constant' : ℕ → Element
  constant' c = Named (constant c)

  abbrev pub s' : ℕ → Element
  s' x = Named (s x)

  named_fits : (x : Arg) (t : Term) → Fits constant' s' x (Named t) → Fits constant s x t
  named_fits Blank t f = tt
  named_fits (Var x) t f = cc
  named_fits (Constant c) t f = cc

  -- the atom is the fact over terms where it is the fact over elements
  pub named_match : (g : Atom) (f : Fact Term) → Match constant' s' g (map_fact Named f) → Match constant s g f
  named_match (Class a x) (InClass b t) m = (m.0, named_fits x t m.1)
  named_match (Class a x) (InRole b t u) m = absurd m
  named_match (Class a x) (InAttr b t u) m = absurd m
  named_match (Role a x y) (InClass b t) m = absurd m
  named_match (Role a x y) (InRole b t u) m = (m.0, named_fits x t m.1, named_fits y u m.2)
  named_match (Role a x y) (InAttr b t u) m = absurd m
  named_match (Attr a x y) (InClass b t) m = absurd m
  named_match (Attr a x y) (InRole b t u) m = absurd m
  named_match (Attr a x y) (InAttr b t u) m = (m.0, named_fits x t m.1, named_fits y u m.2)

  -- the answer list takes the tuple as terms where it takes it as elements
  pub named_gives : (xs : List Arg) (tuple : List Term) → Gives constant' s' xs (map Named tuple) → Gives constant s xs tuple
  named_gives [] [] h = tt
  named_gives [] (t ∷ ts) h = absurd h
  named_gives (x ∷ xs) [] h = absurd h
  named_gives (x ∷ xs) (t ∷ ts) h = (named_fits x t h.0, named_gives xs ts h.1)

  module _ (tbox : List Inclusion) (F : Fact Term → Type 0) where
    abbrev Through : Atom → Type 0
    Through g = MetThrough tbox constant F s g

    -- what is met through Down holds
    pub through_up : (g : Atom) → Through g → MetBy constant' (Holds tbox F) s' g
    through_up g m = down_up tbox constant' s' F g m.member m.below (record {
      fact = map_fact Named m.met.fact;
      matches = match_map Named constant s m.member m.met.fact m.met.matches;
      holds = source (record { fact = m.met.fact; given = m.met.holds; is = refl });
    })

    lift : (g h : Atom) → AtomStep tbox g h → Through h → Through g
    lift g h step m = record { member = m.member; below = onward step m.below; met = m.met }

    back_made : (g : Atom) (e : Fact Element) (b : Basic) (p : Prop) (k : ℕ) (t u : Element) (x y : Arg) → Adds tbox b p k → e ≡ shows b t u → g ≡ pair p x y
        → Fits constant' s' x t → Fits constant' s' y (Successor t k) → ((i : Atom) → Match constant' s' i e → Through i) → Through g
    back_made g e b p k t u x Blank c is eg f h again = lift g (at b x) (AtomStep.adds b p k x c eg refl) (again (at b x) (rw is (at_in constant' s' b x t u f)))
    back_made g e b p k t u x (Var n) c is eg f h again = cc
    back_made g e b p k t u x (Constant d) c is eg f h again = cc

    module _ (none : HasNoEnd tbox) where
      back_step : (g : Atom) (e f : Fact Element) → FactStep tbox e f → Match constant' s' g f → ((i : Atom) → Match constant' s' i e → Through i) → Through g
      back_step g e f (FactStep.into_class b a t u c is ef) m again =
          let w = class_of constant' s' g a t (subst (Match constant' s' g) ef m) in
          lift g (at b w.arg) (AtomStep.into_class b a w.arg c w.is refl) (again (at b w.arg) (rw is (at_in constant' s' b w.arg t u w.fits)))
      back_step g e f (FactStep.adds b p k t u c is ef) m again =
          let w = pair_of constant' s' g p t (Successor t k) (subst (Match constant' s' g) ef m) in
          back_made g e b p k t u w.from w.to c is w.is w.from_fits w.to_fits again
      back_step g e f (FactStep.ends b r a k t u c is ef) m again = let w : Some a ≡ None = none b r (Some a) k c in cc
      back_step g e f (FactStep.widens p q t u c is ef) m again =
          let w = pair_of constant' s' g q t u (subst (Match constant' s' g) ef m) in
          lift g (pair p w.from w.to) (AtomStep.widens p q w.from w.to c w.is refl) (again (pair p w.from w.to) (rw is (pair_in constant' s' (property p) w.from w.to t u w.from_fits w.to_fits)))

      -- and where no inclusion says which class a filler is in, what holds is met through Down
      pub back : (f : Fact Element) (g : Atom) → Holds tbox F f → Match constant' s' g f → Through g
      back f g (source i) m = record { member = g; below = itself; met = record { fact = i.fact; matches = named_match g i.fact (subst (Match constant' s' g) i.is m); holds = i.given } }
      back f g (follows {f = e} h step) m = back_step g e f step m (λ i mi. back e i h mi)

      pub through_down : (g : Atom) → MetBy constant' (Holds tbox F) s' g ↔ Through g
      through_down g = (λ m. back m.fact g m.holds m.matches, through_up g)
