-- Where an atom of a violation has no match, whatever its arguments, the violation is not breached.
use Rattle.std.proofs.Common.{◌≡◌, ℕ, zero, suc, ◌<◌, Bool, true, false, List, [], ◌∷◌, ◌++◌, length, get_or, Option, Some, None, is_some, Contains, inl, inr, sym, ap, subst, arith}
use Rattle.std.proofs.lemmas.Bool.{true≢false}
use Rattle.std.specs.List.{AllByRecursion}
use Rattle.std.specs.Map.{lookup}
use Rattle.std.specs.Option.{IfSome}
use Rattle.indexmap.specs.IndexMap.{insert_entry}
use Rattle.mast_terms.specs.declared.term.Term.{Term}
use Rattle.mast_terms.specs.Vocabularies.{IsVocabulary}
use Rattle.mast_cq.specs.declared.atom.Atom.{Atom}
use Rattle.mast_cq.specs.declared.atom.Atom.TheVariants.{Class, Role, Attr}
use Rattle.mast_cq.specs.Meanings.{Fact, InClass, InRole, InAttr, Match, MetBy}
use Rattle.mast_cq.specs.Origins.{Named as HasName}
use Rattle.mast_cq.specs.Queries.{In, viewed}
use Rattle.mast_cq.proofs.ListLemmas.{each_in, in_each}
use Rattle.mast_tables.specs.Rows.{Row}
use Rattle.mast_tbox.specs.Inclusions.{normal}
use Rattle.mast_tbox.specs.Names.{IsStatable}
use Rattle.mast_tbox.proofs.NumberLemmas.{no_end}
use Rattle.mast_canon.specs.declared.rows.RowId.{RowId}
use Rattle.mast_canon.specs.declared.spec.Spec.{Spec}
use Rattle.mast_canon.specs.CertainAnswers.{HoldsBy, MetThrough, constant_in}
use Rattle.mast_canon.specs.Derivations.{Holds}
use Rattle.mast_canon.specs.Elements.{Element, Named}
use Rattle.mast_canon.specs.SpecFacts.{FactsOf}
use Rattle.mast_canon.specs.Theories.{Theory, constant_of, stated, theory_of}
use Rattle.mast_canon.specs.TheoryPremises.{FactInRange}
use Rattle.mast_canon.proofs.NormalFactLemmas.{normal_same}
use Rattle.mast_canon.proofs.SpecLemmas.{rows_in_range, spec_stated}
use Rattle.mast_canon.proofs.ThroughLemmas.{through_down}
use Rattle.mast_cq.specs.UnifierMeanings.{IsBelow, KnownAtom}
use Rattle.mast_relations.specs.Matches.{IsAnswer, IsFirst, relation_of}
use Rattle.mast_relations.specs.Slices.{IsAnswerIn, pattern_at}
use Rattle.mast_relations.specs.Stores.{contents}
use Rattle.mast_relations.proofs.SliceLemmas.{slices_law}
use Rattle.mast_join.specs.declared.extensions.Wanted.TheVariants.{SomeHits}
use Rattle.mast_join.specs.declared.ready.Ready.{Ready}
use Rattle.mast_join.specs.Answers.{Extended, HasInSlice, IsAsked, IsReady, Tell, TellSomeHits}
use Rattle.mast_join.specs.Extensions.{Over, TakesPart, over_of, constant_over, IsMatchOf, HasOver}
use Rattle.mast_rewrite.proofs.EntryLemmas.{lookup_in, insert_in}
use Rattle.mast_violate.specs.declared.violation.Test.TheVariants.{Plain}
use Rattle.mast_violate.specs.declared.violation.Violation.{Violation}
use Rattle.mast_violate.specs.Breaches.{IsBreached, violations_of}
use Rattle.mast_check.specs.declared.possible.Possible.{Possible}
use Rattle.mast_check.specs.Checks.{IsBreachedOver}
use Rattle.mast_check.specs.inside.Judging.{passes_by}
use Rattle.mast_check.specs.inside.Pieces.{AreOfSpec}
use Rattle.mast_check.specs.inside.Possible.{HasNoMatch, IsPossible, TellsAllPossible, TellsPossible, unbound}
use Rattle.mast_check.proofs.CheckLemmas.{spec_checkable}

-- the fact of an atom is one of the atom with `_` for its arguments, under each assignment
unbound_match : {X : Type 0} (constant s t : ℕ → X) (g : Atom) (f : Fact X) → Match constant s g f → Match constant t (unbound g) f
unbound_match constant s t (Class a x) (InClass b u) m = (m.0, tt)
unbound_match constant s t (Class a x) (InRole b u w) m = absurd m
unbound_match constant s t (Class a x) (InAttr b u w) m = absurd m
unbound_match constant s t (Role a x y) (InClass b u) m = absurd m
unbound_match constant s t (Role a x y) (InRole b u w) m = (m.0, tt, tt)
unbound_match constant s t (Role a x y) (InAttr b u w) m = absurd m
unbound_match constant s t (Attr a x y) (InClass b u) m = absurd m
unbound_match constant s t (Attr a x y) (InRole b u w) m = absurd m
unbound_match constant s t (Attr a x y) (InAttr b u w) m = (m.0, tt, tt)

-- its name is the atom's
fact_named : {X : Type 0} (constant s : ℕ → X) (g : Atom) (f : Fact X) → Match constant s g f → HasName IsStatable g → FactInRange f
fact_named constant s (Class a x) (InClass b u) m n = subst (λ c. HasName IsStatable (Class c x)) m.0 n
fact_named constant s (Class a x) (InRole b u w) m n = absurd m
fact_named constant s (Class a x) (InAttr b u w) m n = absurd m
fact_named constant s (Role a x y) (InClass b u) m n = absurd m
fact_named constant s (Role a x y) (InRole b u w) m n = subst (λ c. HasName IsStatable (Role c x y)) m.0 n
fact_named constant s (Role a x y) (InAttr b u w) m n = absurd m
fact_named constant s (Attr a x y) (InClass b u) m n = absurd m
fact_named constant s (Attr a x y) (InRole b u w) m n = absurd m
fact_named constant s (Attr a x y) (InAttr b u w) m n = subst (λ c. HasName IsStatable (Attr c x y)) m.0 n

module _ (spec : Spec) (vocab : IsVocabulary spec.vocab) (tables : List (List Row)) (only : Option (List RowId)) where
  abbrev over : Over
  over = over_of spec tables only

  abbrev theory : Theory
  theory = theory_of spec

  abbrev F : Fact Term → Type 0
  F = FactsOf spec tables (TakesPart tables only)

  -- an atom that holds has a match, with `_` for its arguments
  matched : (s : ℕ → Element) (g : Atom) → HasName IsStatable g → MetBy (constant_in theory) (HoldsBy theory F) s g → (under : ℕ → Term) → IsMatchOf over under (unbound g)
  matched s g n m under =
      let range = fact_named (constant_in theory) s g m.fact m.matches n in
      let stated_is = spec_stated spec vocab in
      let holds : Holds (normal (stated theory)) F m.fact =
      (normal_same theory.inclusions F stated_is.numbered stated_is.inclusions (rows_in_range spec tables (TakesPart tables only) vocab) m.fact range).0 m.holds in
      let through : MetThrough (normal (stated theory)) (constant_of theory.constants) F under (unbound g) =
      (through_down (constant_of theory.constants) under (normal (stated theory)) F (no_end (stated theory)) (unbound g)).0
      (record { fact = m.fact; matches = unbound_match (constant_in theory) s (λ x. Named (under x)) g m.fact m.matches; holds = holds }) in
      subst (λ tbox. MetThrough tbox (constant_over over) F under (unbound g)) (sym spec.is_normal) through

  -- so a violation that is breached has matches of all its atoms
  pub not_breached : (v : Violation) → In v (violations_of theory) → TellsAllPossible over v.query.atoms false → IsBreached theory F v → ⊥
  not_breached v stands told b =
      let plain = (spec_checkable spec vocab v stands).plain in
      let c = b.certain in
      told (in_each (λ g. HasNoMatch over (unbound g) → ⊥) v.query.atoms (λ g i none.
      let under = λ (n : ℕ). constant_over over n in
      none under (matched c.under g (each_in (HasName IsStatable) g v.query.atoms plain.known i) (each_in (MetBy (constant_in theory) (HoldsBy theory F) c.under) g v.query.atoms c.each i) under)))

-- an atom with `_` for its arguments may be asked
pub unbound_asked : (bound : ℕ) (g : Atom) → g ≡ unbound g → IsAsked bound (record { answer = []; atoms = g ∷ [] })
unbound_asked bound g e = record { atoms = (subst (KnownAtom (IsBelow bound)) (sym e) (free g), tt); answer = tt }
  where
    free : (h : Atom) → KnownAtom (IsBelow bound) (unbound h)
    free (Class a x) = tt
    free (Role a x y) = (tt, tt)
    free (Attr a x y) = (tt, tt)

-- where no row of the whole slice passes, which each does, the atom has no match
pub first_possible : (e : Extended) (g : Atom) (ready : Ready) (found : Option (List ℕ)) → e.wanted ≡ SomeHits → IsReady e ready → viewed ready.query ≡ record { answer = []; atoms = g ∷ [] }
    → IsFirst (HasInSlice e ready 0 ready.plan.size) (passes_by e.numbered.terms Plain) found → TellsPossible e.over g (is_some found)
first_possible e g ready (Some row) w i q f = tt
first_possible e g ready None w i q f = λ under m.
    let has : HasOver e.over (record { answer = []; atoms = g ∷ [] }) [] = record { under = under; each = (m, tt); answers = tt } in
    let query = ready.plan.query in
    let relations = contents e.relations in
    let told : TellSomeHits e (record { answer = []; atoms = g ∷ [] }) (IsAnswer relations query) =
    subst (λ p. TellSomeHits e p (IsAnswer relations query)) q (subst (λ z. Tell z e (viewed ready.query) (IsAnswer relations query)) w i.tell) in
    let a = told.all [] has in
    let row = a.first ++ a.second in
    let all : IsAnswerIn relations query ready.plan.start 0 (length (relation_of relations (pattern_at query ready.plan.start)).list) row =
    (slices_law relations query ready.plan.start i.plan.begins [] (omega arith) row).0 a.found in
    let there : HasInSlice e ready 0 ready.plan.size row = subst (λ n. IsAnswerIn relations query ready.plan.start 0 n row) (sym i.plan.size) all in
    true≢false (f row there)

each_at : (P : Atom → Type 0) (atoms : List Atom) (i : ℕ) (d : Atom) → i < length atoms → AllByRecursion P atoms → P (get_or atoms i d)
each_at P [] i d l h = absurd (omega (arith, l))
each_at P (a ∷ atoms) zero d l h = h.0
each_at P (a ∷ atoms) (suc i) d l h = each_at P atoms i d (omega (arith, l)) h.1

-- one that has no match is enough
pub one_impossible : (o old : Over) → old ≡ o → (atoms : List Atom) (i : ℕ) (d g : Atom) (told : Bool) → i < length atoms → g ≡ unbound (get_or atoms i d) → told ≡ false → TellsPossible old g told
    → TellsAllPossible o atoms false
one_impossible o old same atoms i d g told l e wrong t = λ all.
    let none : HasNoMatch old g = subst (TellsPossible old g) wrong t in
    each_at (λ h. HasNoMatch o (unbound h) → ⊥) atoms i d l all (subst (HasNoMatch o) e (subst (λ p. HasNoMatch p g) same none))

-- where one of a violation's atoms is told not to be possible, the violation is not breached
pub impossible_told : (spec : Spec) → IsVocabulary spec.vocab → (o : Over) → AreOfSpec spec o → (v : Violation) → In v (violations_of (theory_of spec)) → (atoms : List Atom) (told : Bool) → atoms ≡ v.query.atoms
    → told ≡ false → TellsAllPossible o atoms told → IsBreachedOver spec o.rows o.only v → ⊥
impossible_told spec vocab o is v stands atoms told same wrong t =
    let none : TellsAllPossible o atoms false = subst (TellsAllPossible o atoms) wrong t in
    not_breached spec vocab o.rows o.only v stands (subst (λ gs. TellsAllPossible (over_of spec o.rows o.only) gs false) same (subst (λ p. TellsAllPossible p atoms false) is none))

-- what is kept of an atom is right
pub possible_told : (eq : Atom → Atom → Bool) → ((g h : Atom) → eq g h ≡ true → g ≡ h) → (o : Over) (possible : Possible) (g : Atom) (told : Option Bool) → told ≡ lookup (eq g) possible.known.entries
    → IsPossible o possible → IfSome told (TellsPossible o g)
possible_told eq same o possible g None e w = tt
possible_told eq same o possible g (Some told) e w =
    let k = lookup_in (eq g) possible.known.entries told (sym e) in
    subst (λ h. TellsPossible o h told) (sym (same g k.key k.passes)) (w k.key told k.stands)

key_of : (k j : Atom) (v w : Bool) → ◌≡◌ {A = Atom × Bool} (k, v) (j, w) → k ≡ j
key_of k j v w e = ap (λ p. p.0) e

value_of : (k j : Atom) (v w : Bool) → ◌≡◌ {A = Atom × Bool} (k, v) (j, w) → v ≡ w
value_of k j v w e = ap (λ p. p.1) e

-- and stays so with one more
pub possible_more : (eq : Atom → Atom → Bool) → ((g h : Atom) → eq g h ≡ true → g ≡ h) → (over : Over) (old new : Possible) (g : Atom) (told : Bool)
    → new.known.entries ≡ insert_entry eq old.known.entries g told → TellsPossible over g told → IsPossible over old → IsPossible over new
possible_more eq same over old new g told e t w = λ h v i.
    elim (insert_in eq same old.known.entries g told (h, v) (subst (λ es. Contains es (h, v)) e i)) [
      | inl j ↦ w h v j
      | inr f ↦ subst (TellsPossible over h) (sym (value_of h g v told f)) (subst (λ k. TellsPossible over k told) (sym (key_of h g v told f)) t)
    ]
