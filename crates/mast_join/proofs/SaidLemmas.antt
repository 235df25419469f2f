-- Assignments of numbers to the variables of a conjunction, by the terms that a query's variables stand for.
use Rattle.std.proofs.Common.{◌≡◌, ℕ, suc, ◌+◌, ◌<◌, Bool, true, false, if◌then◌else◌, List, [], ◌∷◌, ◌++◌, length, get_or, map, refl, sym, ap, subst, ◌∙◌, arith}
use Rattle.std.specs.Prelude.{Some, nat_eq, slice_get}
use Rattle.std.specs.List.{AllByRecursion}
use Rattle.std.proofs.lemmas.Bool.{eqb-true}
use Rattle.std.proofs.lemmas.List.{append_assoc, get_or-map, get_or_append_left, length-append, length-map}
use Rattle.std.proofs.lemmas.Option.{get_or_from_slice_get, slice_get_within}
use Rattle.std.proofs.Math.Seq.{get_or-append_seam}
use Rattle.mast_terms.specs.declared.term.Term.{Term}
use Rattle.mast_cq.specs.declared.atom.Atom.{Atom}
use Rattle.mast_relations.specs.Plans.{Once}
use Rattle.mast_relations.proofs.ListLemmas.{each_as}
use Rattle.mast_join.specs.Answers.{AreNumbersOf}
use Rattle.mast_join.specs.inside.Shapes.{variables}
use Rattle.mast_join.proofs.NumberedLemmas.{each_numbers, given, given_gives, numbers_each, numbers_long}
use Rattle.mast_join.proofs.PlacesLemmas.{Reads}
use Rattle.mast_join.proofs.ShapeLemmas.{variables_once}

module _ (terms : List Term) (under : ℕ → Term) where
  -- what the variable is given is the number of its term
  abbrev pub IsSaid : (ℕ → ℕ) → ℕ → Type 0
  IsSaid f x = slice_get terms (f x) ≡ Some (under x)

  -- so it is of each variable of these atoms
  abbrev pub AreSaid : (ℕ → ℕ) → List Atom → Type 0
  AreSaid f = AllByRecursion (λ (g : Atom). AllByRecursion (IsSaid f) (variables g))

  said_or : (v n m x : ℕ) (b : Bool) → (b ≡ true → x ≡ v) → slice_get terms n ≡ Some (under v) → slice_get terms m ≡ Some (under x) → slice_get terms (if b then n else m) ≡ Some (under x)
  said_or v n m x true e h k = subst (λ (z : ℕ). slice_get terms n ≡ Some (under z)) (sym (e refl)) h
  said_or v n m x false e h k = k

  given_said : (vs ns : List ℕ) (f : ℕ → ℕ) (x : ℕ) → AreNumbersOf terms ns (map under vs) → IsSaid f x → IsSaid (given vs ns f) x
  given_said [] ns f x h s = s
  given_said (v ∷ vs) [] f x h s = s
  given_said (v ∷ vs) (n ∷ ns) f x h s =
      let p = numbers_each terms (n ∷ ns) (under v ∷ map under vs) h in
      said_or v n (given vs ns f x) x (nat_eq x v) (eqb-true x v) p.0 (given_said vs ns f x (each_numbers terms ns (map under vs) p.1) s)

  said_each : (f : ℕ → ℕ) (vs : List ℕ) → AreNumbersOf terms (map f vs) (map under vs) → AllByRecursion (IsSaid f) vs
  said_each f [] h = tt
  said_each f (v ∷ vs) h =
      let p = numbers_each terms (f v ∷ map f vs) (under v ∷ map under vs) h in
      (p.0, said_each f vs (each_numbers terms (map f vs) (map under vs) p.1))

  -- what is said of each gives the numbers of all
  pub said_numbers : (f : ℕ → ℕ) (vs : List ℕ) → AllByRecursion (IsSaid f) vs → AreNumbersOf terms (map f vs) (map under vs)
  said_numbers f [] s = refl
  said_numbers f (v ∷ vs) s = each_numbers terms (f v ∷ map f vs) (under v ∷ map under vs) (s.0, numbers_each terms (map f vs) (map under vs) (said_numbers f vs s.1))

  given_all : (vs ns : List ℕ) (f : ℕ → ℕ) → Once vs → AreNumbersOf terms ns (map under vs) → AllByRecursion (IsSaid (given vs ns f)) vs
  given_all vs ns f o h =
      said_each (given vs ns f) vs
      (subst (λ (k : List ℕ). AreNumbersOf terms k (map under vs)) (sym (given_gives vs ns f o (numbers_long terms ns (map under vs) h ∙ length-map vs under))) h)

  -- the terms of an atom's variables have numbers
  pub record HaveNumbers (g : Atom) : Type 0 where
    pub row : List ℕ
    pub numbers : AreNumbersOf terms row (map under (variables g))

  -- an assignment that gives the variables of these atoms their numbers
  pub record Saying (gs : List Atom) : Type 0 where
    pub f : ℕ → ℕ
    pub said : AreSaid f gs

  -- there is one
  pub saying : (gs : List Atom) → AllByRecursion HaveNumbers gs → Saying gs
  saying [] h = record { f = λ x. 0; said = tt }
  saying (g ∷ gs) h =
      let r = saying gs h.1 in
      record {
        f = given (variables g) h.0.row r.f;
        said = (
          given_all (variables g) h.0.row r.f (variables_once g) h.0.numbers,
          each_as (λ (k : Atom). AllByRecursion (IsSaid r.f) (variables k)) (λ (k : Atom). AllByRecursion (IsSaid (given (variables g) h.0.row r.f)) (variables k)) gs
              (λ k a. each_as (IsSaid r.f) (IsSaid (given (variables g) h.0.row r.f)) (variables k) (λ x s. given_said (variables g) h.0.row r.f x h.0.numbers s) a) r.said,
        );
      }

-- numbers that stand in a list one after the other are read so
pub reads_in : (all before ns after : List ℕ) → all ≡ before ++ (ns ++ after) → Reads (λ n. get_or all n 0) (length before) ns
reads_in all before [] after e = tt
reads_in all before (n ∷ ns) after e =
    let long : length (before ++ n ∷ []) ≡ suc (length before) = let l = length-append before (n ∷ []) in omega (arith, l) in
    let same : all ≡ (before ++ n ∷ []) ++ (ns ++ after) = e ∙ sym (append_assoc before (n ∷ []) (ns ++ after)) in (
      ap (λ (k : List ℕ). get_or k (length before) 0) e ∙ get_or-append_seam before n (ns ++ after) 0,
      subst (λ (k : ℕ). Reads (λ m. get_or all m 0) k ns) long (reads_in all (before ++ n ∷ []) ns after same),
    )

-- The numbers that the variables of a conjunction are given: those of the query's variables, of sets, and of constants.
module _ (vars : List ℕ) (f : ℕ → ℕ) (seconds thirds : List ℕ) where
  abbrev pub chosen : ℕ → ℕ
  chosen n = get_or (map f vars ++ seconds ++ thirds) n 0

  -- the place of a variable is given its number
  pub chosen_of : (n x : ℕ) → slice_get vars n ≡ Some x → chosen n ≡ f x
  chosen_of n x h =
      let lt : n < length vars = slice_get_within vars n x h in
      let l = length-map vars f in
      let within : n < length (map f vars) = omega (arith, lt, l) in
      let k = length-append (map f vars) seconds in
      let less : n < length (map f vars ++ seconds) = omega (arith, within, k) in
      get_or_append_left (map f vars ++ seconds) thirds 0 n less ∙ get_or_append_left (map f vars) seconds 0 n within ∙ get_or-map f vars n 0 0 lt ∙ ap f (get_or_from_slice_get vars n x 0 h)

  -- so are those of several
  pub chosen_front : (front xs : List ℕ) → AreNumbersOf vars front xs → map chosen front ≡ map f xs
  chosen_front [] [] h = refl
  chosen_front [] (x ∷ xs) h = cc
  chosen_front (n ∷ ns) [] h = cc
  chosen_front (n ∷ ns) (x ∷ xs) h =
      let p = numbers_each vars (n ∷ ns) (x ∷ xs) h in
      ap (λ (k : ℕ). k ∷ map chosen ns) (chosen_of n x p.0) ∙ ap (λ (k : List ℕ). f x ∷ k) (chosen_front ns xs (each_numbers vars ns xs p.1))

  -- the variables of sets are given theirs
  pub chosen_seconds : Reads chosen (length vars) seconds
  chosen_seconds = subst (λ (k : ℕ). Reads chosen k seconds) (length-map vars f) (reads_in (map f vars ++ seconds ++ thirds) (map f vars) seconds thirds (append_assoc (map f vars) seconds thirds))

  -- and those of constants
  pub chosen_thirds : Reads chosen (length vars + length seconds) thirds
  chosen_thirds =
      subst (λ (k : ℕ). Reads chosen k thirds) (length-append (map f vars) seconds ∙ ap (λ (n : ℕ). n + length seconds) (length-map vars f))
      (reads_in (map f vars ++ seconds ++ thirds) (map f vars ++ seconds) thirds [] (ap (λ (k : List ℕ). map f vars ++ seconds ++ k) (sym (nothing_behind thirds))))
    where
      nothing_behind : (xs : List ℕ) → xs ++ [] ≡ xs
      nothing_behind [] = refl
      nothing_behind (x ∷ xs) = ap (λ (k : List ℕ). x ∷ k) (nothing_behind xs)
