-- Patterns, answer places and counted variables of a query's conjunction, as they grow by one.
use Rattle.std.proofs.Common.{◌≡◌, ℕ, zero, suc, ◌+◌, if◌then◌else◌, Bool, true, false, List, [], ◌∷◌, ◌++◌, length, map, refl, sym, ap, subst, ◌∙◌, arith}
use Rattle.std.specs.Prelude.{Some, nat_eq, slice_get}
use Rattle.std.proofs.lemmas.Bool.{eqb-false, eqb-true}
use Rattle.std.proofs.lemmas.List.{append_assoc}
use Rattle.std.proofs.lemmas.Option.{none-some, same_Some}
use Rattle.mast_cq.specs.declared.atom.Arg.{Arg}
use Rattle.mast_cq.specs.declared.atom.Arg.TheVariants.{Blank, Var, Constant}
use Rattle.mast_cq.specs.declared.atom.Atom.{Atom}
use Rattle.mast_terms.specs.Vocabularies.{EachOnce}
use Rattle.mast_relations.specs.declared.query.Pattern.{Pattern}
use Rattle.mast_join.specs.Answers.{Extended}
use Rattle.mast_join.specs.inside.Relates.{AreAnswerPlaces, AreAtomPatterns, AreConstantPatterns, IsAnswerPlace, IsAtomPattern, IsConstantPattern, counted}

-- one more number behind those that are counted
pub counted_then : (from count : ℕ) → counted from (suc count) ≡ counted from count ++ (from + count) ∷ []
counted_then from zero = let e : from ≡ from + 0 = omega arith in ap (λ (n : ℕ). n ∷ []) e
counted_then from (suc count) =
    let e : suc from + count ≡ from + suc count = omega arith in
    ap (λ (k : List ℕ). from ∷ k) (counted_then (suc from) count ∙ ap (λ (n : ℕ). counted (suc from) count ++ n ∷ []) e)

-- a list with one more counted number behind it
pub counted_more : (from count : ℕ) (start so_far after : List ℕ) → so_far ≡ start ++ counted from count → after ≡ so_far ++ (from + count) ∷ [] → after ≡ start ++ counted from (count + 1)
counted_more from count start so_far after e f =
    let n : suc count ≡ count + 1 = omega arith in
    f ∙ ap (λ (k : List ℕ). k ++ (from + count) ∷ []) e ∙ append_assoc start (counted from count) ((from + count) ∷ [])
    ∙ ap (λ (k : List ℕ). start ++ k) (sym (counted_then from count)) ∙ ap (λ (k : ℕ). start ++ counted from k) n

-- so many are counted
pub counted_long : (from count : ℕ) → length (counted from count) ≡ count
counted_long from zero = refl
counted_long from (suc count) = let l : length (counted (suc from) count) ≡ count = counted_long (suc from) count in omega (arith, l)

-- one more atom with its pattern
pub atom_patterns_then : (e : Extended) (vars : List ℕ) (set : ℕ) (gs : List Atom) (patterns : List Pattern) (g : Atom) (pattern : Pattern) → AreAtomPatterns e vars set gs patterns
    → IsAtomPattern e vars (set + length gs) g pattern → AreAtomPatterns e vars set (gs ++ g ∷ []) (patterns ++ pattern ∷ [])
atom_patterns_then e vars set [] [] g pattern h p = let z : set + 0 ≡ set = omega arith in (subst (λ (n : ℕ). IsAtomPattern e vars n g pattern) z p, tt)
atom_patterns_then e vars set [] (x ∷ patterns) g pattern h p = absurd h
atom_patterns_then e vars set (f ∷ gs) [] g pattern h p = absurd h
atom_patterns_then e vars set (f ∷ gs) (x ∷ patterns) g pattern h p =
    let z : set + length (f ∷ gs) ≡ suc set + length gs = omega arith in
    (h.0, atom_patterns_then e vars (suc set) gs patterns g pattern h.1 (subst (λ (n : ℕ). IsAtomPattern e vars n g pattern) z p))

-- one more argument of the answer list with its place
pub answer_places_then : (vars : List ℕ) (variable : ℕ) (args : List Arg) (places : List ℕ) (arg : Arg) (place : ℕ) → AreAnswerPlaces vars variable args places
    → IsAnswerPlace vars (variable + length args) arg place → AreAnswerPlaces vars variable (args ++ arg ∷ []) (places ++ place ∷ [])
answer_places_then vars variable [] [] arg place h p = let z : variable + 0 ≡ variable = omega arith in (subst (λ (n : ℕ). IsAnswerPlace vars n arg place) z p, tt)
answer_places_then vars variable [] (x ∷ places) arg place h p = absurd h
answer_places_then vars variable (a ∷ args) [] arg place h p = absurd h
answer_places_then vars variable (a ∷ args) (x ∷ places) arg place h p =
    let z : variable + length (a ∷ args) ≡ suc variable + length args = omega arith in
    (h.0, answer_places_then vars (suc variable) args places arg place h.1 (subst (λ (n : ℕ). IsAnswerPlace vars n arg place) z p))

-- one more variable of the answer list, which has no pattern of its own
pub constant_patterns_var : (e : Extended) (variable : ℕ) (args : List Arg) (patterns : List Pattern) (x : ℕ) → AreConstantPatterns e variable args patterns
    → AreConstantPatterns e variable (args ++ Var x ∷ []) patterns
constant_patterns_var e variable [] [] x h = tt
constant_patterns_var e variable [] (p ∷ patterns) x h = absurd h
constant_patterns_var e variable (Blank ∷ args) patterns x h = constant_patterns_var e (suc variable) args patterns x h
constant_patterns_var e variable (Var y ∷ args) patterns x h = constant_patterns_var e (suc variable) args patterns x h
constant_patterns_var e variable (Constant c ∷ args) [] x h = absurd h
constant_patterns_var e variable (Constant c ∷ args) (p ∷ patterns) x h = (h.0, constant_patterns_var e (suc variable) args patterns x h.1)

-- one more constant with its pattern
pub constant_patterns_then : (e : Extended) (variable : ℕ) (args : List Arg) (patterns : List Pattern) (c : ℕ) (pattern : Pattern) → AreConstantPatterns e variable args patterns
    → IsConstantPattern e (variable + length args) c pattern → AreConstantPatterns e variable (args ++ Constant c ∷ []) (patterns ++ pattern ∷ [])
constant_patterns_then e variable [] [] c pattern h p = let z : variable + 0 ≡ variable = omega arith in (subst (λ (n : ℕ). IsConstantPattern e n c pattern) z p, tt)
constant_patterns_then e variable [] (x ∷ patterns) c pattern h p = absurd h
constant_patterns_then e variable (Blank ∷ args) patterns c pattern h p =
    let z : variable + length (Blank ∷ args) ≡ suc variable + length args = omega arith in
    constant_patterns_then e (suc variable) args patterns c pattern h (subst (λ (n : ℕ). IsConstantPattern e n c pattern) z p)
constant_patterns_then e variable (Var y ∷ args) patterns c pattern h p =
    let z : variable + length (Var y ∷ args) ≡ suc variable + length args = omega arith in
    constant_patterns_then e (suc variable) args patterns c pattern h (subst (λ (n : ℕ). IsConstantPattern e n c pattern) z p)
constant_patterns_then e variable (Constant d ∷ args) [] c pattern h p = absurd h
constant_patterns_then e variable (Constant d ∷ args) (x ∷ patterns) c pattern h p =
    let z : variable + length (Constant d ∷ args) ≡ suc variable + length args = omega arith in
    (h.0, constant_patterns_then e (suc variable) args patterns c pattern h.1 (subst (λ (n : ℕ). IsConstantPattern e n c pattern) z p))

-- the place of a variable in a list
abbrev pub place_in : List ℕ → ℕ → ℕ
place_in [] x = 0
place_in (v ∷ vs) x = if nat_eq x v then 0 else suc (place_in vs x)

first_or : (v : ℕ) (vs : List ℕ) (x n : ℕ) (b : Bool) → (b ≡ true → x ≡ v) → (b ≡ false → x ≡ v → ⊥) → ((m : ℕ) → slice_get vs m ≡ Some x → slice_get vs (place_in vs x) ≡ Some x)
    → slice_get (v ∷ vs) n ≡ Some x → slice_get (v ∷ vs) (if b then 0 else suc (place_in vs x)) ≡ Some x
first_or v vs x n true e ne rest h = ap Some (sym (e refl))
first_or v vs x zero false e ne rest h = absurd (ne refl (sym (same_Some v x h)))
first_or v vs x (suc n) false e ne rest h = rest n h

-- a variable that stands in the list stands at its place
pub reads_place : (vs : List ℕ) (x n : ℕ) → slice_get vs n ≡ Some x → slice_get vs (place_in vs x) ≡ Some x
reads_place [] x n h = absurd (none-some x h)
reads_place (v ∷ vs) x n h = first_or v vs x n (nat_eq x v) (eqb-true x v) (eqb-false x v) (reads_place vs x) h

-- which is its only one
pub only_place : (vs : List ℕ) (x n : ℕ) → EachOnce vs → slice_get vs n ≡ Some x → place_in vs x ≡ n
only_place vs x n once h = once (place_in vs x) n x (reads_place vs x n h) h

-- the numbers from one on are these
abbrev pub Reads : (ℕ → ℕ) → ℕ → List ℕ → Type 0
Reads a from [] = Unit {0}
Reads a from (n ∷ ns) = (a from ≡ n) × Reads a (suc from) ns

-- then the counted are
pub reads_counted : (a : ℕ → ℕ) (from : ℕ) (ns : List ℕ) → Reads a from ns → map a (counted from (length ns)) ≡ ns
reads_counted a from [] r = refl
reads_counted a from (n ∷ ns) r = rw (r.0, reads_counted a (suc from) ns r.1) refl
