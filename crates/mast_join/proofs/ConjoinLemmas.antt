-- How the conjunction of a query is made, pattern by pattern, over what is kept.
use Rattle.std.proofs.Common.{◌≡◌, ℕ, suc, ◌+◌, ◌<◌, List, [], ◌∷◌, ◌++◌, length, get_or, take, refl, sym, ap, subst, ◌∙◌, arith}
use Rattle.std.specs.Prelude.{Some, slice_get}
use Rattle.std.specs.List.{AllByRecursion, AllZip}
use Rattle.std.proofs.lemmas.List.{append_assoc, length-take-le, take_more}
use Rattle.mast_cq.specs.declared.atom.Arg.{Arg}
use Rattle.mast_cq.specs.declared.atom.Arg.TheVariants.{Blank, Var, Constant}
use Rattle.mast_cq.specs.declared.atom.Atom.{Atom}
use Rattle.mast_cq.specs.declared.query.Cq.{Cq}
use Rattle.mast_cq.specs.UnifierMeanings.{IsBelow, KnownArg}
use Rattle.mast_relations.specs.declared.query.Pattern.{Pattern}
use Rattle.mast_relations.specs.declared.query.Conjunction.{Conjunction}
use Rattle.mast_relations.specs.Matches.{Rows, relation_of}
use Rattle.mast_relations.specs.Stores.{contents}
use Rattle.mast_join.specs.declared.base.Base.{Base}
use Rattle.mast_join.specs.declared.naming.Names.{Names}
use Rattle.mast_join.specs.declared.store.Store.{Store}
use Rattle.mast_join.specs.Answers.{Extended, IsAnswerArg, IsAsked}
use Rattle.mast_join.specs.Extensions.{constant_over}
use Rattle.mast_join.specs.inside.Keeping.{IsOneRow, IsStoreMore, extended}
use Rattle.mast_join.specs.inside.MadeFacts.{asked_over}
use Rattle.mast_join.specs.inside.Namings.{AddsConstants, AddsUnits, AreMadePatterns, AreNames, ArePatternsOf, IsFrontOf, IsMadePattern, IsNamed, place_of, places_of}
use Rattle.mast_join.specs.inside.Relates.{AreAnswerPlaces, AreAtomPatterns, AreConstantPatterns, IsAnswerPlace, IsConjunctionOf, IsConstantPattern, TellsAtom, counted_sets}
use Rattle.mast_join.proofs.KeptLemmas.{constant_patterns_kept, relation_kept, tells_kept, term_kept, there_kept}
use Rattle.mast_join.proofs.KeepingLemmas.{grown_twice}

module _ (base : Base) (old new : Store) (more : IsStoreMore old new) where
  -- a pattern that was made is still right
  made_kept : (set : ℕ) (g : Atom) (front : List ℕ) (pattern : Pattern) → IsMadePattern (extended base old) set g front pattern → IsMadePattern (extended base new) set g front pattern
  made_kept set g front pattern h =
      let there = there_kept (asked_over base) base.wanted old.pool.terms new.pool.terms old.pool.sets.items new.pool.sets.items old.relations new.relations more.pool.terms.terms more.pool.sets more.relations.front in
      let same = relation_kept (asked_over base) base.wanted old.pool.terms new.pool.terms old.pool.sets.items new.pool.sets.items old.relations new.relations more.pool.terms.terms more.pool.sets more.relations.front in
      let told = tells_kept (asked_over base) base.wanted old.pool.terms new.pool.terms old.pool.sets.items new.pool.sets.items old.relations new.relations more.pool.terms.terms more.pool.sets in
      record {
        there = there pattern.relation h.there;
        tells = subst (λ (r : Rows). TellsAtom (extended base new) g r) (sym (same pattern.relation h.there)) (told g (relation_of (contents old.relations) pattern) h.tells);
        columns = h.columns;
      }

  -- and several are
  pub mades_kept : (set : ℕ) (gs : List Atom) (fronts : List (List ℕ)) (patterns : List Pattern) → AreMadePatterns (extended base old) set gs fronts patterns → AreMadePatterns (extended base new) set gs fronts patterns
  mades_kept set [] [] [] h = tt
  mades_kept set [] [] (p ∷ patterns) h = absurd h
  mades_kept set [] (f ∷ fronts) patterns h = absurd h
  mades_kept set (g ∷ gs) [] patterns h = absurd h
  mades_kept set (g ∷ gs) (f ∷ fronts) [] h = absurd h
  mades_kept set (g ∷ gs) (f ∷ fronts) (p ∷ patterns) h = (made_kept set g f p h.0, mades_kept (suc set) gs fronts patterns h.1)

  -- patterns of constants too
  pub constants_kept : (variable : ℕ) (args : List Arg) (patterns : List Pattern) → AreConstantPatterns (extended base old) variable args patterns → AreConstantPatterns (extended base new) variable args patterns
  constants_kept = constant_patterns_kept (asked_over base) base.wanted old.pool.terms new.pool.terms old.pool.sets.items new.pool.sets.items old.relations new.relations more.pool.terms.terms more.pool.sets more.relations.front

-- one more pattern of an atom
pub mades_then : (e : Extended) (set : ℕ) (gs : List Atom) (fronts : List (List ℕ)) (patterns : List Pattern) (g : Atom) (front : List ℕ) (pattern : Pattern) → AreMadePatterns e set gs fronts patterns
    → IsMadePattern e (set + length gs) g front pattern → AreMadePatterns e set (gs ++ g ∷ []) (fronts ++ front ∷ []) (patterns ++ pattern ∷ [])
mades_then e set [] [] [] g front pattern h p = let z : set + 0 ≡ set = omega arith in (subst (λ (n : ℕ). IsMadePattern e n g front pattern) z p, tt)
mades_then e set [] [] (x ∷ patterns) g front pattern h p = absurd h
mades_then e set [] (f ∷ fronts) patterns g front pattern h p = absurd h
mades_then e set (a ∷ gs) [] patterns g front pattern h p = absurd h
mades_then e set (a ∷ gs) (f ∷ fronts) [] g front pattern h p = absurd h
mades_then e set (a ∷ gs) (f ∷ fronts) (x ∷ patterns) g front pattern h p =
    let z : set + length (a ∷ gs) ≡ suc set + length gs = omega arith in
    (h.0, mades_then e (suc set) gs fronts patterns g front pattern h.1 (subst (λ (n : ℕ). IsMadePattern e n g front pattern) z p))

-- patterns that are made of these places are those of the atoms
made_atoms : (e : Extended) (vars : List ℕ) (set : ℕ) (gs : List Atom) (fronts : List (List ℕ)) (patterns : List Pattern) → AreMadePatterns e set gs fronts patterns → AllZip (IsFrontOf vars) gs fronts → AreAtomPatterns e vars set gs patterns
made_atoms e vars set [] [] [] h z = tt
made_atoms e vars set [] [] (p ∷ patterns) h z = absurd h
made_atoms e vars set [] (f ∷ fronts) patterns h z = absurd h
made_atoms e vars set (g ∷ gs) [] patterns h z = absurd h
made_atoms e vars set (g ∷ gs) (f ∷ fronts) [] h z = absurd h
made_atoms e vars set (g ∷ gs) (f ∷ fronts) (p ∷ patterns) h z =
    (record { there = h.0.there; tells = h.0.tells; front = f; columns = h.0.columns; places = z.0 }, made_atoms e vars (suc set) gs fronts patterns h.1 z.1)

answer_place : (constants : ℕ) (gs : List Atom) (vars : List ℕ) (variable : ℕ) (arg : Arg) (place : ℕ) → IsAnswerArg constants gs arg → IsNamed vars arg place → IsAnswerPlace vars variable arg (place_of arg place variable)
answer_place constants gs vars variable Blank place i n = i
answer_place constants gs vars variable (Var x) place i n = n
answer_place constants gs vars variable (Constant c) place i n = refl

answer_places : (constants : ℕ) (gs : List Atom) (vars : List ℕ) (variable : ℕ) (args : List Arg) (named : List ℕ) → AllByRecursion (IsAnswerArg constants gs) args → AllZip (IsNamed vars) args named
    → AreAnswerPlaces vars variable args (places_of variable args named)
answer_places constants gs vars variable [] [] i z = tt
answer_places constants gs vars variable [] (n ∷ named) i z = absurd z
answer_places constants gs vars variable (arg ∷ args) [] i z = absurd z
answer_places constants gs vars variable (arg ∷ args) (n ∷ named) i z = (answer_place constants gs vars variable arg n i.0 z.0, answer_places constants gs vars (suc variable) args named i.1 z.1)

-- such a conjunction is that of the query
pub conjoined : (e : Extended) (q : Cq) (names : Names) (conjunction : Conjunction) (constants : ℕ) → IsAsked constants q → AreNames q names → ArePatternsOf e q names conjunction.patterns
    → conjunction.answer ≡ places_of (names.count + length q.atoms) q.answer names.answer.items ++ counted_sets e.wanted names.count (length q.atoms) → IsConjunctionOf e q conjunction
conjoined e q names conjunction constants asked n p a = record {
  vars = n.vars;
  once = n.once;
  for_atoms = p.for_atoms;
  for_constants = p.for_constants;
  others = p.others;
  patterns = p.is;
  some = p.some;
  atoms = subst (λ (k : ℕ). AreAtomPatterns e n.vars k q.atoms p.for_atoms) n.count (made_atoms e n.vars names.count q.atoms names.fronts.items p.for_atoms p.atoms n.fronts);
  constants = subst (λ (k : ℕ). AreConstantPatterns e (k + length q.atoms) q.answer p.for_constants) n.count p.constants;
  units = p.units;
  places = places_of (names.count + length q.atoms) q.answer names.answer.items;
  answer = a ∙ ap (λ (k : ℕ). places_of (names.count + length q.atoms) q.answer names.answer.items ++ counted_sets e.wanted k (length q.atoms)) n.count;
  are = subst (λ (k : ℕ). AreAnswerPlaces n.vars (k + length q.atoms) q.answer (places_of (names.count + length q.atoms) q.answer names.answer.items)) n.count
      (answer_places constants q.atoms n.vars (names.count + length q.atoms) q.answer names.answer.items asked.answer n.answer);
}

-- the patterns that are made one after the other are those of the query
pub patterns_made : (base : Base) (a b c : Store) (q : Cq) (names : Names) (atoms constants all : List Pattern) → IsStoreMore a b → IsStoreMore b c → AreMadePatterns (extended base a) names.count q.atoms names.fronts.items atoms
    → AddsConstants (extended base b) (names.count + length q.atoms) q.answer atoms constants → AddsUnits (extended base c) constants all → 0 < length all → ArePatternsOf (extended base c) q names all
patterns_made base a b c q names atoms constants all p r m x u some = record {
  for_atoms = atoms;
  for_constants = x.made;
  others = u.made;
  is = u.is ∙ ap (λ (k : List Pattern). k ++ u.made) x.is;
  some = some;
  atoms = mades_kept base a c (grown_twice a b c p r) names.count q.atoms names.fronts.items atoms m;
  constants = constants_kept base b c r (names.count + length q.atoms) q.answer x.made x.are;
  units = u.are;
}

-- constants of an answer list in range are known
pub known_args : (constants : ℕ) (gs : List Atom) (args : List Arg) → AllByRecursion (IsAnswerArg constants gs) args → AllByRecursion (KnownArg (IsBelow constants)) args
known_args constants gs [] i = tt
known_args constants gs (Blank ∷ args) i = absurd i.0
known_args constants gs (Var x ∷ args) i = (tt, known_args constants gs args i.1)
known_args constants gs (Constant c ∷ args) i = (i.0, known_args constants gs args i.1)

-- patterns of the constants of two lists, one after the other
pub constants_append : (e : Extended) (variable : ℕ) (args others : List Arg) (made more : List Pattern) → AreConstantPatterns e variable args made → AreConstantPatterns e (variable + length args) others more
    → AreConstantPatterns e variable (args ++ others) (made ++ more)
constants_append e variable [] others [] more h k = let z : variable + 0 ≡ variable = omega arith in subst (λ (n : ℕ). AreConstantPatterns e n others more) z k
constants_append e variable [] others (p ∷ made) more h k = absurd h
constants_append e variable (Blank ∷ args) others made more h k =
    let z : variable + length (Blank ∷ args) ≡ suc variable + length args = omega arith in
    constants_append e (suc variable) args others made more h (subst (λ (n : ℕ). AreConstantPatterns e n others more) z k)
constants_append e variable (Var x ∷ args) others made more h k =
    let z : variable + length (Var x ∷ args) ≡ suc variable + length args = omega arith in
    constants_append e (suc variable) args others made more h (subst (λ (n : ℕ). AreConstantPatterns e n others more) z k)
constants_append e variable (Constant c ∷ args) others [] more h k = absurd h
constants_append e variable (Constant c ∷ args) others (p ∷ made) more h k =
    let z : variable + length (Constant c ∷ args) ≡ suc variable + length args = omega arith in
    (h.0, constants_append e (suc variable) args others made more h.1 (subst (λ (n : ℕ). AreConstantPatterns e n others more) z k))

-- the pattern of a constant, made in two steps
pub constant_made : (base : Base) (a b : Store) (variable constant number relation : ℕ) (variables : List ℕ) → IsStoreMore a b → slice_get a.pool.terms.terms number ≡ Some (constant_over (asked_over base) constant)
    → IsOneRow b.relations (number ∷ []) relation → variables ≡ variable ∷ [] → IsConstantPattern (extended base b) variable constant (record { relation = relation; variables = variables })
constant_made base a b variable constant number relation variables more stands row columns = record {
  there = row.there;
  number = number;
  stands = term_kept (asked_over base) base.wanted a.pool.terms b.pool.terms a.pool.sets.items b.pool.sets.items a.relations b.relations more.pool.terms.terms more.pool.sets number (constant_over (asked_over base) constant) stands;
  is = row.is;
  columns = columns;
}

-- one more argument's constant is put
pub adds_more : (base : Base) (a b : Store) (first i : ℕ) (d : Arg) (args : List Arg) (start old new : List Pattern) → i < length args → IsStoreMore a b → AddsConstants (extended base a) first (take i args) start old
    → AddsConstants (extended base b) (first + i) (get_or args i d ∷ []) old new → AddsConstants (extended base b) first (take (i + 1) args) start new
adds_more base a b first i d args start old new lt more h k =
    let n : length (take i args) ≡ i = length-take-le i args (omega (arith, lt)) in
    record {
      made = h.made ++ k.made;
      is = k.is ∙ ap (λ (l : List Pattern). l ++ k.made) h.is ∙ append_assoc start h.made k.made;
      are = subst (λ (l : List Arg). AreConstantPatterns (extended base b) first l (h.made ++ k.made)) (sym (take_more args i d lt))
          (constants_append (extended base b) first (take i args) (get_or args i d ∷ []) h.made k.made (constants_kept base a b more first (take i args) h.made h.are)
          (subst (λ (m : ℕ). AreConstantPatterns (extended base b) (first + m) (get_or args i d ∷ []) k.made) (sym n) k.are));
    }

-- one more atom's pattern is put
pub mades_more : (base : Base) (a b : Store) (first i : ℕ) (d : Atom) (atoms : List Atom) (f front : List ℕ) (fronts : List (List ℕ)) (old new : List Pattern) (pattern : Pattern) → i < length atoms
    → length fronts ≡ length atoms → IsStoreMore a b → AreMadePatterns (extended base a) first (take i atoms) (take i fronts) old → front ≡ get_or fronts i f
    → IsMadePattern (extended base b) (first + i) (get_or atoms i d) front pattern → new ≡ old ++ pattern ∷ [] → AreMadePatterns (extended base b) first (take (i + 1) atoms) (take (i + 1) fronts) new
mades_more base a b first i d atoms f front fronts old new pattern lt long more h same k put =
    let e = extended base b in
    let n : length (take i atoms) ≡ i = length-take-le i atoms (omega (arith, lt)) in
    let lf : i < length fronts = omega (arith, lt, long) in
    let there = subst (λ (l : List ℕ). IsMadePattern e (first + length (take i atoms)) (get_or atoms i d) l pattern) same
    (subst (λ (m : ℕ). IsMadePattern e (first + m) (get_or atoms i d) front pattern) (sym n) k) in
    let whole = mades_then e first (take i atoms) (take i fronts) old (get_or atoms i d) (get_or fronts i f) pattern (mades_kept base a b more first (take i atoms) (take i fronts) old h) there in
    subst (λ (l : List Pattern). AreMadePatterns e first (take (i + 1) atoms) (take (i + 1) fronts) l) (sym put)
    (subst (λ (l : List Atom). AreMadePatterns e first l (take (i + 1) fronts) (old ++ pattern ∷ [])) (sym (take_more atoms i d lt))
    (subst (λ (l : List (List ℕ)). AreMadePatterns e first (take i atoms ++ get_or atoms i d ∷ []) l (old ++ pattern ∷ [])) (sym (take_more fronts i f lf)) whole))

-- what goes place by place is as long
pub zip_long : {A B : Type 0} (P : A → B → Type 0) (xs : List A) (ys : List B) → AllZip P xs ys → length ys ≡ length xs
zip_long P [] [] z = refl
zip_long P [] (y ∷ ys) z = absurd z
zip_long P (x ∷ xs) [] z = absurd z
zip_long P (x ∷ xs) (y ∷ ys) z = ap suc (zip_long P xs ys z.1)
