-- A relation that is filled with what the facts of an atom's sources give tells the atom's extension.
use Rattle.std.proofs.Common.{◌≡◌, ℕ, zero, suc, ◌+◌, ◌<◌, ◌⊎◌, ◌↔◌, Bool, true, false, if◌then◌else◌, List, [], ◌∷◌, ◌++◌, length, get_or, map, inl, inr, refl, sym, ap, subst, ◌∙◌, arith}
use Rattle.std.specs.Prelude.{Contains, Option, Some, None, nat_eq, slice_get}
use Rattle.std.specs.List.{AllZip}
use Rattle.std.specs.Option.{option_map}
use Rattle.std.proofs.lemmas.Bool.{cases_eq, cond-false, cond-true, eq-eqb, ne_eqb}
use Rattle.std.proofs.lemmas.List.{length-map}
use Rattle.std.proofs.lemmas.Option.{get_or_from_slice_get, none-some, same_Some, slice_get_within}
use Rattle.mast_terms.specs.Vocabularies.{EachOnce}
use Rattle.mast_terms.specs.declared.term.Term.{Term}
use Rattle.mast_terms.specs.declared.term.Term.TheVariants as term
use Rattle.mast_terms.specs.declared.value.Value.{Value}
use Rattle.mast_terms.specs.declared.value.Value.TheVariants as value
use Rattle.mast_cq.specs.declared.atom.Arg.{Arg}
use Rattle.mast_cq.specs.declared.atom.Arg.TheVariants.{Blank, Var, Constant}
use Rattle.mast_cq.specs.declared.atom.Atom.{Atom}
use Rattle.mast_cq.specs.declared.atom.Atom.TheVariants.{Class, Role, Attr}
use Rattle.mast_cq.specs.NormalForms.{Occurs}
use Rattle.mast_cq.specs.Meanings.{Fact, InClass, InRole, InAttr, Fits, Match}
use Rattle.mast_cq.specs.Queries.{In as Among}
use Rattle.mast_cq.proofs.ListLemmas.{in_each}
use Rattle.mast_sql.specs.declared.query.SourceQuery.{SourceQuery}
use Rattle.mast_tables.specs.declared.declaration.TableDecl.{TableDecl}
use Rattle.mast_tables.specs.Rows.{Row}
use Rattle.mast_mapping.specs.declared.map.Head.{Head}
use Rattle.mast_mapping.specs.declared.map.Head.TheVariants as head
use Rattle.mast_mapping.specs.declared.split_map.SplitMap.{SplitMap}
use Rattle.mast_tbox.specs.declared.axiom.Inclusion.{Inclusion}
use Rattle.mast_tbox.specs.Closure.{Down}
use Rattle.mast_tbox.proofs.ArgumentLemmas.{down_occurs}
use Rattle.mast_tbox.proofs.MemberLemmas.{first_or, front, later, none}
use Rattle.mast_canon.specs.declared.rows.RowId.{RowId}
use Rattle.mast_canon.specs.Choices.{chosen}
use Rattle.mast_canon.specs.Facts.{fact_of, of_both}
use Rattle.mast_unfold.specs.declared.source.Source.{Source}
use Rattle.mast_unfold.specs.HeadFacts.{OutputValues, fact_of_head, of_two}
use Rattle.mast_unfold.specs.Sources.{IsSource, constant_term, output_values}
use Rattle.mast_relations.specs.Matches.{In, Rows}
use Rattle.mast_relations.specs.Stores.{Stored}
use Rattle.mast_relations.proofs.ListLemmas.{append_split, each_in}
use Rattle.mast_join.specs.declared.base.Base.{Base}
use Rattle.mast_join.specs.declared.extensions.Wanted.{Wanted}
use Rattle.mast_join.specs.declared.extensions.Wanted.TheVariants.{Tuples, SomeHits, AllHits}
use Rattle.mast_join.specs.declared.facts.MadeFact.{MadeFact}
use Rattle.mast_join.specs.declared.facts.Pool.{Pool}
use Rattle.mast_join.specs.declared.fill.Gathered.{Gathered}
use Rattle.mast_join.specs.declared.shapes.Asked.{Asked}
use Rattle.mast_join.specs.declared.shapes.Asked.TheVariants.{Column}
use Rattle.mast_join.specs.Answers.{AreNumbersOf, AreWithin, Extended}
use Rattle.mast_join.specs.Extensions.{IsMatchOf, IsPairOf, Over, constant_over}
use Rattle.mast_join.specs.inside.Filling.{FitsNumber, Has, IsFilled, IsFull, IsRowOf, column_number}
use Rattle.mast_join.specs.inside.Gathers.{Asks, IsGathered}
use Rattle.mast_join.specs.inside.MadeFacts.{AreFactsOf, HasSet, IsBase, IsFactOfMap, asked_over, rows_by}
use Rattle.mast_join.specs.inside.Places.{HasNumbers}
use Rattle.mast_join.specs.inside.Relates.{IsMatchFound, IsMatchRow, IsPairFound, IsPairRow, TellsAtom, TellsPairs, counted, set_column}
use Rattle.mast_join.specs.inside.Shapes.{arguments, first_shape, second_shape, shape, variables, variables_of}
use Rattle.mast_join.proofs.NumberedLemmas.{IsNumberOf, each_numbers, numbers_long}
use Rattle.mast_join.proofs.PlacesLemmas.{counted_long}
use Rattle.mast_join.proofs.RightLemmas.{HasSets, append_none, column_is}
use Rattle.mast_join.proofs.ShapeLemmas.{occurs_in}
use Rattle.mast_join.proofs.SourceLemmas.{by_source, to_source}

-- The variables of a shape are numbered in order.
class_counted : (x : Arg) → variables_of (first_shape x) Blank ≡ counted 0 (length (variables_of (first_shape x) Blank))
class_counted Blank = refl
class_counted (Var x) = refl
class_counted (Constant c) = refl

two_counted : (b : Bool) → variables_of (Var 0) (if b then Var 0 else Var 1) ≡ counted 0 (length (variables_of (Var 0) (if b then Var 0 else Var 1)))
two_counted true = refl
two_counted false = refl

args_counted : (x y : Arg) → variables_of (first_shape x) (second_shape x y) ≡ counted 0 (length (variables_of (first_shape x) (second_shape x y)))
args_counted Blank Blank = refl
args_counted Blank (Var y) = refl
args_counted Blank (Constant d) = refl
args_counted (Var x) Blank = refl
args_counted (Var x) (Var y) = two_counted (nat_eq x y)
args_counted (Var x) (Constant d) = refl
args_counted (Constant c) Blank = refl
args_counted (Constant c) (Var y) = refl
args_counted (Constant c) (Constant d) = refl

-- the variables of a shape are the numbers from 0 on
pub shape_counted : (g : Atom) → variables (shape g) ≡ counted 0 (length (variables (shape g)))
shape_counted (Class a x) = class_counted x
shape_counted (Role a x y) = args_counted x y
shape_counted (Attr a x y) = args_counted x y

in_counted : (k from count : ℕ) → In k (counted from count) → k < from + count
in_counted k from zero i = absurd i
in_counted k from (suc count) (inl e) = omega (arith, e)
in_counted k from (suc count) (inr i) = let lt : k < suc from + count = in_counted k (suc from) count i in omega (arith, lt)

counted_in : (k from count : ℕ) → k < count → In (from + k) (counted from count)
counted_in k from zero lt = absurd (omega (arith, lt))
counted_in zero from (suc count) lt = inl (omega arith)
counted_in (suc k) from (suc count) lt =
    let e : suc from + k ≡ from + suc k = omega arith in
    inr (subst (λ (n : ℕ). In n (counted (suc from) count)) e (counted_in k (suc from) count (omega (arith, lt))))

counted_from : (k count : ℕ) → k < count → In k (counted 0 count)
counted_from k count lt = let z : 0 + k ≡ k = omega arith in subst (λ (n : ℕ). In n (counted 0 count)) z (counted_in k 0 count lt)

two_occur : (x y k : ℕ) (b : Bool) → In k (if b then x ∷ [] else x ∷ y ∷ []) → (Var x ≡ Var k) ⊎ (Var y ≡ Var k)
two_occur x y k true (inl e) = inl (ap Var (sym e))
two_occur x y k true (inr i) = absurd i
two_occur x y k false (inl e) = inl (ap Var (sym e))
two_occur x y k false (inr (inl e)) = inr (ap Var (sym e))
two_occur x y k false (inr (inr i)) = absurd i

args_occur : (x y : Arg) (k : ℕ) → In k (variables_of x y) → (x ≡ Var k) ⊎ (y ≡ Var k)
args_occur Blank Blank k i = absurd i
args_occur Blank (Var y) k (inl e) = inr (ap Var (sym e))
args_occur Blank (Var y) k (inr i) = absurd i
args_occur Blank (Constant d) k i = absurd i
args_occur (Var x) Blank k (inl e) = inl (ap Var (sym e))
args_occur (Var x) Blank k (inr i) = absurd i
args_occur (Var x) (Var y) k i = two_occur x y k (nat_eq x y) i
args_occur (Var x) (Constant d) k (inl e) = inl (ap Var (sym e))
args_occur (Var x) (Constant d) k (inr i) = absurd i
args_occur (Constant c) Blank k i = absurd i
args_occur (Constant c) (Var y) k (inl e) = inr (ap Var (sym e))
args_occur (Constant c) (Var y) k (inr i) = absurd i
args_occur (Constant c) (Constant d) k i = absurd i

class_occurs : (x : Arg) (k : ℕ) → (x ≡ Var k) ⊎ (Blank ≡ Var k) → x ≡ Var k
class_occurs x k (inl e) = e
class_occurs x k (inr e) = cc

in_occurs : (g : Atom) (k : ℕ) → In k (variables g) → Occurs k g
in_occurs (Class a x) k i = class_occurs x k (args_occur x Blank k i)
in_occurs (Role a x y) k i = args_occur x y k i
in_occurs (Attr a x y) k i = args_occur x y k i

occurs_argument : (g : Atom) (k : ℕ) → Occurs k g → ((arguments g).0 ≡ Var k) ⊎ ((arguments g).1 ≡ Var k)
occurs_argument (Class a x) k o = inl o
occurs_argument (Role a x y) k o = o
occurs_argument (Attr a x y) k o = o

first_occurs : (g : Atom) (k : ℕ) → (arguments g).0 ≡ Var k → Occurs k g
first_occurs (Class a x) k e = e
first_occurs (Role a x y) k e = inl e
first_occurs (Attr a x y) k e = inl e

second_occurs : (g : Atom) (k : ℕ) → (arguments g).1 ≡ Var k → Occurs k g
second_occurs (Class a x) k e = cc
second_occurs (Role a x y) k e = inr e
second_occurs (Attr a x y) k e = inr e

-- Each column of a shape is asked for by each member of Down of it.
module _ (tbox : List Inclusion) (g member : Atom) (below : Down tbox (shape g) member) where
  abbrev width : ℕ
  width = length (variables (shape g))

  -- a column has a variable of the member
  column_asked : (k : ℕ) → k < width → ((arguments member).0 ≡ Var k) ⊎ ((arguments member).1 ≡ Var k)
  column_asked k lt =
      let i : In k (variables (shape g)) = subst (λ (l : List ℕ). In k l) (sym (shape_counted g)) (counted_from k width lt) in
      occurs_argument member k ((down_occurs tbox k (shape g) member below).0 (in_occurs (shape g) k i))

  -- and a variable of the member has a column
  occurs_below : (k : ℕ) → Occurs k member → k < width
  occurs_below k o =
      let i : In k (variables (shape g)) = occurs_in (shape g) k ((down_occurs tbox k (shape g) member below).1 o) in
      let lt : k < 0 + width = in_counted k 0 width (subst (λ (l : List ℕ). In k l) (shape_counted g) i) in
      omega (arith, lt)

-- an atom and a fact of one name
abbrev SameName : Atom → Fact Term → Type 0
SameName (Class a x) (InClass b t) = a ≡ b
SameName (Class a x) (InRole b t u) = ⊥
SameName (Class a x) (InAttr b t u) = ⊥
SameName (Role a x y) (InClass b t) = ⊥
SameName (Role a x y) (InRole b t u) = a ≡ b
SameName (Role a x y) (InAttr b t u) = ⊥
SameName (Attr a x y) (InClass b t) = ⊥
SameName (Attr a x y) (InRole b t u) = ⊥
SameName (Attr a x y) (InAttr b t u) = a ≡ b

-- a head and a fact of one name
abbrev HeadNamed : Head → Fact Term → Type 0
HeadNamed (head.Class name subject) (InClass b t) = name ≡ b
HeadNamed (head.Class name subject) (InRole b t u) = ⊥
HeadNamed (head.Class name subject) (InAttr b t u) = ⊥
HeadNamed (head.Role name from to) (InClass b t) = ⊥
HeadNamed (head.Role name from to) (InRole b t u) = name ≡ b
HeadNamed (head.Role name from to) (InAttr b t u) = ⊥
HeadNamed (head.Attr name from val) (InClass b t) = ⊥
HeadNamed (head.Attr name from val) (InRole b t u) = ⊥
HeadNamed (head.Attr name from val) (InAttr b t u) = name ≡ b

map_named : {A : Type 0} (h : Head) (f : A → Fact Term) (o : Option A) (fact : Fact Term) → ((a : A) → HeadNamed h (f a)) → option_map f o ≡ Some fact → HeadNamed h fact
map_named h f None fact k e = absurd (none-some fact e)
map_named h f (Some a) fact k e = subst (HeadNamed h) (same_Some (f a) fact e) (k a)

both_named : {A B : Type 0} (h : Head) (f : A → B → Fact Term) (o : Option A) (p : Option B) (fact : Fact Term) → ((a : A) (b : B) → HeadNamed h (f a b)) → of_both f o p ≡ Some fact → HeadNamed h fact
both_named h f None p fact k e = absurd (none-some fact e)
both_named h f (Some a) None fact k e = absurd (none-some fact e)
both_named h f (Some a) (Some b) fact k e = subst (HeadNamed h) (same_Some (f a b) fact e) (k a b)

two_named : {A B : Type 0} (h : Head) (f : A → B → Fact Term) (o : Option A) (p : Option B) (fact : Fact Term) → ((a : A) (b : B) → HeadNamed h (f a b)) → of_two f o p ≡ Some fact → HeadNamed h fact
two_named h f None p fact k e = absurd (none-some fact e)
two_named h f (Some a) None fact k e = absurd (none-some fact e)
two_named h f (Some a) (Some b) fact k e = subst (HeadNamed h) (same_Some (f a b) fact e) (k a b)

-- the fact of a head has its name
fact_named : (decls : List TableDecl) (query : SourceQuery) (rows : List Row) (h : Head) (fact : Fact Term) → fact_of decls query rows h ≡ Some fact → HeadNamed h fact
fact_named decls query rows (head.Class name subject) fact e = map_named (head.Class name subject) (λ (t : Term). InClass name t) _ fact (λ t. refl) e
fact_named decls query rows (head.Role name from to) fact e = both_named (head.Role name from to) (λ (t u : Term). InRole name t u) _ _ fact (λ t u. refl) e
fact_named decls query rows (head.Attr name from val) fact e = both_named (head.Attr name from val) (λ (t : Term) (v : Value). InAttr name t (term.Value v)) _ _ fact (λ t u. refl) e

becomes_named : (outputs : OutputValues) (h : Head) (fact : Fact Term) → fact_of_head outputs h ≡ Some fact → HeadNamed h fact
becomes_named outputs (head.Class name subject) fact e = map_named (head.Class name subject) (λ (t : Term). InClass name t) _ fact (λ t. refl) e
becomes_named outputs (head.Role name from to) fact e = two_named (head.Role name from to) (λ (t u : Term). InRole name t u) _ _ fact (λ t u. refl) e
becomes_named outputs (head.Attr name from val) fact e = two_named (head.Attr name from val) (λ (t : Term) (v : Value). InAttr name t (term.Value v)) _ _ fact (λ t u. refl) e

-- a head and an atom of one name
abbrev HeadOf : Head → Atom → Type 0
HeadOf (head.Class name subject) (Class a x) = name ≡ a
HeadOf (head.Class name subject) (Role a x y) = ⊥
HeadOf (head.Class name subject) (Attr a x y) = ⊥
HeadOf (head.Role name from to) (Class a x) = ⊥
HeadOf (head.Role name from to) (Role a x y) = name ≡ a
HeadOf (head.Role name from to) (Attr a x y) = ⊥
HeadOf (head.Attr name from val) (Class a x) = ⊥
HeadOf (head.Attr name from val) (Role a x y) = ⊥
HeadOf (head.Attr name from val) (Attr a x y) = name ≡ a

head_of : (constant under : ℕ → Term) (h : Head) (g : Atom) (fact : Fact Term) → HeadNamed h fact → Match constant under g fact → HeadOf h g
head_of constant under (head.Class name subject) (Class a x) (InClass b t) n m = n ∙ sym m.0
head_of constant under (head.Class name subject) (Class a x) (InRole b t u) n m = absurd n
head_of constant under (head.Class name subject) (Class a x) (InAttr b t u) n m = absurd n
head_of constant under (head.Class name subject) (Role a x y) (InClass b t) n m = absurd m
head_of constant under (head.Class name subject) (Role a x y) (InRole b t u) n m = absurd n
head_of constant under (head.Class name subject) (Role a x y) (InAttr b t u) n m = absurd m
head_of constant under (head.Class name subject) (Attr a x y) (InClass b t) n m = absurd m
head_of constant under (head.Class name subject) (Attr a x y) (InRole b t u) n m = absurd m
head_of constant under (head.Class name subject) (Attr a x y) (InAttr b t u) n m = absurd n
head_of constant under (head.Role name from to) (Class a x) (InClass b t) n m = absurd n
head_of constant under (head.Role name from to) (Class a x) (InRole b t u) n m = absurd m
head_of constant under (head.Role name from to) (Class a x) (InAttr b t u) n m = absurd m
head_of constant under (head.Role name from to) (Role a x y) (InClass b t) n m = absurd m
head_of constant under (head.Role name from to) (Role a x y) (InRole b t u) n m = n ∙ sym m.0
head_of constant under (head.Role name from to) (Role a x y) (InAttr b t u) n m = absurd m
head_of constant under (head.Role name from to) (Attr a x y) (InClass b t) n m = absurd m
head_of constant under (head.Role name from to) (Attr a x y) (InRole b t u) n m = absurd m
head_of constant under (head.Role name from to) (Attr a x y) (InAttr b t u) n m = absurd n
head_of constant under (head.Attr name from val) (Class a x) (InClass b t) n m = absurd n
head_of constant under (head.Attr name from val) (Class a x) (InRole b t u) n m = absurd m
head_of constant under (head.Attr name from val) (Class a x) (InAttr b t u) n m = absurd m
head_of constant under (head.Attr name from val) (Role a x y) (InClass b t) n m = absurd m
head_of constant under (head.Attr name from val) (Role a x y) (InRole b t u) n m = absurd n
head_of constant under (head.Attr name from val) (Role a x y) (InAttr b t u) n m = absurd m
head_of constant under (head.Attr name from val) (Attr a x y) (InClass b t) n m = absurd m
head_of constant under (head.Attr name from val) (Attr a x y) (InRole b t u) n m = absurd m
head_of constant under (head.Attr name from val) (Attr a x y) (InAttr b t u) n m = n ∙ sym m.0

name_by_head : (h : Head) (g : Atom) (fact : Fact Term) → HeadOf h g → HeadNamed h fact → SameName g fact
name_by_head (head.Class name subject) (Class a x) (InClass b t) o n = sym o ∙ n
name_by_head (head.Class name subject) (Class a x) (InRole b t u) o n = absurd n
name_by_head (head.Class name subject) (Class a x) (InAttr b t u) o n = absurd n
name_by_head (head.Class name subject) (Role a x y) fact o n = absurd o
name_by_head (head.Class name subject) (Attr a x y) fact o n = absurd o
name_by_head (head.Role name from to) (Class a x) fact o n = absurd o
name_by_head (head.Role name from to) (Role a x y) (InClass b t) o n = absurd n
name_by_head (head.Role name from to) (Role a x y) (InRole b t u) o n = sym o ∙ n
name_by_head (head.Role name from to) (Role a x y) (InAttr b t u) o n = absurd n
name_by_head (head.Role name from to) (Attr a x y) fact o n = absurd o
name_by_head (head.Attr name from val) (Class a x) fact o n = absurd o
name_by_head (head.Attr name from val) (Role a x y) fact o n = absurd o
name_by_head (head.Attr name from val) (Attr a x y) (InClass b t) o n = absurd n
name_by_head (head.Attr name from val) (Attr a x y) (InRole b t u) o n = absurd n
name_by_head (head.Attr name from val) (Attr a x y) (InAttr b t u) o n = sym o ∙ n

match_named : (constant under : ℕ → Term) (g : Atom) (fact : Fact Term) → Match constant under g fact → SameName g fact
match_named constant under (Class a x) (InClass b t) m = m.0
match_named constant under (Class a x) (InRole b t u) m = m
match_named constant under (Class a x) (InAttr b t u) m = m
match_named constant under (Role a x y) (InClass b t) m = m
match_named constant under (Role a x y) (InRole b t u) m = m.0
match_named constant under (Role a x y) (InAttr b t u) m = m
match_named constant under (Attr a x y) (InClass b t) m = m
match_named constant under (Attr a x y) (InRole b t u) m = m
match_named constant under (Attr a x y) (InAttr b t u) m = m.0

-- Numbers of terms, each term having one.
module _ (terms : List Term) (constant : ℕ → Term) where
  -- the number is what the argument may stand for, by the terms of numbers
  abbrev Suits : (ℕ → Term) → Arg → ℕ → Type 0
  Suits under Blank number = Unit {0}
  Suits under (Var x) number = slice_get terms number ≡ Some (under x)
  Suits under (Constant c) number = slice_get terms number ≡ Some (constant c)

  suits_fits : (under : ℕ → Term) (arg : Arg) (number : ℕ) (t : Term) → slice_get terms number ≡ Some t → Suits under arg number → Fits constant under arg t
  suits_fits under Blank number t e s = tt
  suits_fits under (Var x) number t e s = same_Some t (under x) (sym e ∙ s)
  suits_fits under (Constant c) number t e s = same_Some t (constant c) (sym e ∙ s)

  fits_suits : (under : ℕ → Term) (arg : Arg) (number : ℕ) (t : Term) → slice_get terms number ≡ Some t → Fits constant under arg t → Suits under arg number
  fits_suits under Blank number t e f = tt
  fits_suits under (Var x) number t e f = e ∙ ap Some f
  fits_suits under (Constant c) number t e f = e ∙ ap Some f

  -- both numbers of a fact are what the member's arguments may stand for where it is the member
  suit_match : (under : ℕ → Term) (member : Atom) (fact : Fact Term) (first second : ℕ) → SameName member fact → HasNumbers terms fact first second
      → Suits under (arguments member).0 first → Suits under (arguments member).1 second → Match constant under member fact
  suit_match under (Class a x) (InClass b t) first second n h p q = (n, suits_fits under x first t h p)
  suit_match under (Class a x) (InRole b t u) first second n h p q = absurd n
  suit_match under (Class a x) (InAttr b t u) first second n h p q = absurd n
  suit_match under (Role a x y) (InClass b t) first second n h p q = absurd n
  suit_match under (Role a x y) (InRole b t u) first second n h p q = (n, suits_fits under x first t h.0 p, suits_fits under y second u h.1 q)
  suit_match under (Role a x y) (InAttr b t u) first second n h p q = absurd n
  suit_match under (Attr a x y) (InClass b t) first second n h p q = absurd n
  suit_match under (Attr a x y) (InRole b t u) first second n h p q = absurd n
  suit_match under (Attr a x y) (InAttr b t u) first second n h p q = (n, suits_fits under x first t h.0 p, suits_fits under y second u h.1 q)

  match_suits : (under : ℕ → Term) (member : Atom) (fact : Fact Term) (first second : ℕ) → HasNumbers terms fact first second → Match constant under member fact
      → Suits under (arguments member).0 first × Suits under (arguments member).1 second
  match_suits under (Class a x) (InClass b t) first second h m = (fits_suits under x first t h m.1, tt)
  match_suits under (Class a x) (InRole b t u) first second h m = absurd m
  match_suits under (Class a x) (InAttr b t u) first second h m = absurd m
  match_suits under (Role a x y) (InClass b t) first second h m = absurd m
  match_suits under (Role a x y) (InRole b t u) first second h m = (fits_suits under x first t h.0 m.1, fits_suits under y second u h.1 m.2)
  match_suits under (Role a x y) (InAttr b t u) first second h m = absurd m
  match_suits under (Attr a x y) (InClass b t) first second h m = absurd m
  match_suits under (Attr a x y) (InRole b t u) first second h m = absurd m
  match_suits under (Attr a x y) (InAttr b t u) first second h m = (fits_suits under x first t h.0 m.1, fits_suits under y second u h.1 m.2)

  -- the number has a term
  abbrev HasTerm : ℕ → Type 0
  HasTerm number = (t : Term) × (slice_get terms number ≡ Some t)

  first_term : (member : Atom) (fact : Fact Term) (first second : ℕ) → HasNumbers terms fact first second → HasTerm first
  first_term member (InClass b t) first second h = (t, h)
  first_term member (InRole b t u) first second h = (t, h.0)
  first_term member (InAttr b t u) first second h = (t, h.0)

  second_term : (member : Atom) (fact : Fact Term) (first second k : ℕ) → SameName member fact → HasNumbers terms fact first second → (arguments member).1 ≡ Var k → HasTerm second
  second_term (Class a x) fact first second k n h e = cc
  second_term (Role a x y) (InClass b t) first second k n h e = absurd n
  second_term (Role a x y) (InRole b t u) first second k n h e = (u, h.1)
  second_term (Role a x y) (InAttr b t u) first second k n h e = absurd n
  second_term (Attr a x y) (InClass b t) first second k n h e = absurd n
  second_term (Attr a x y) (InRole b t u) first second k n h e = absurd n
  second_term (Attr a x y) (InAttr b t u) first second k n h e = (u, h.1)

  -- the column of a variable is asked for
  asks_column : (arg : Arg) (asked : Asked) (k : ℕ) → Asks terms constant arg asked → arg ≡ Var k → asked ≡ Column k
  asks_column Blank asked k a e = cc
  asks_column (Var x) asked k a e = let same : x ≡ k = cc in a ∙ ap Column same
  asks_column (Constant c) asked k a e = cc

  -- the term of the number of a column of a row
  abbrev row_under : List ℕ → ℕ → Term
  row_under row k = get_or terms (get_or row k 0) (term.Value (value.Text []))

  row_under_is : (row : List ℕ) (k n : ℕ) → slice_get row k ≡ Some n → HasTerm n → slice_get terms n ≡ Some (row_under row k)
  row_under_is row k n r t =
      let g : get_or row k 0 ≡ n = get_or_from_slice_get row k n 0 r in
      let u : row_under row k ≡ t.0 = ap (λ (m : ℕ). get_or terms m (term.Value (value.Text []))) g ∙ get_or_from_slice_get terms n t.0 (term.Value (value.Text [])) t.1 in
      t.1 ∙ ap Some (sym u)

  -- what fits what is asked suits the argument
  fits_asked : (row : List ℕ) (arg : Arg) (asked : Asked) (number : ℕ) → Asks terms constant arg asked → FitsNumber row asked number → ((k : ℕ) → arg ≡ Var k → HasTerm number) → Suits (row_under row) arg number
  fits_asked row Blank asked number a f t = tt
  fits_asked row (Var x) asked number a f t = row_under_is row x number (subst (λ (k : Asked). FitsNumber row k number) a f) (t x refl)
  fits_asked row (Constant c) asked number a f t =
      let e : a.0 ≡ number = subst (λ (k : Asked). FitsNumber row k number) a.1 f in
      subst (λ (n : ℕ). slice_get terms n ≡ Some (constant c)) e a.2

  -- the numbers of the columns of a row, from one on
  columns_numbers : (f : ℕ → Term) (from : ℕ) (row : List ℕ) → ((k n : ℕ) → slice_get row k ≡ Some n → slice_get terms n ≡ Some (f (from + k))) → AllZip (IsNumberOf terms) row (map f (counted from (length row)))
  columns_numbers f from [] h = tt
  columns_numbers f from (n ∷ row) h =
      let z : from + 0 ≡ from = omega arith in (
        h 0 n refl ∙ ap (λ (k : ℕ). Some (f k)) z,
        columns_numbers f (suc from) row (λ k m r. let e : from + suc k ≡ suc from + k = omega arith in h (suc k) m r ∙ ap (λ (j : ℕ). Some (f j)) e),
      )

  -- and from the first
  all_numbers : (f : ℕ → Term) (row : List ℕ) → ((k n : ℕ) → slice_get row k ≡ Some n → slice_get terms n ≡ Some (f k)) → AllZip (IsNumberOf terms) row (map f (counted 0 (length row)))
  all_numbers f row h = columns_numbers f 0 row (λ k n r. let z : k ≡ 0 + k = omega arith in h k n r ∙ ap (λ (j : ℕ). Some (f j)) z)

-- reading a list that is made column by column
read_counted : (f : ℕ → ℕ) (from count k : ℕ) → k < count → slice_get (map f (counted from count)) k ≡ Some (f (from + k))
read_counted f from zero k lt = absurd (omega (arith, lt))
read_counted f from (suc count) zero lt = let z : from ≡ from + 0 = omega arith in ap (λ (n : ℕ). Some (f n)) z
read_counted f from (suc count) (suc k) lt =
    let e : suc from + k ≡ from + suc k = omega arith in
    read_counted f (suc from) count k (omega (arith, lt)) ∙ ap (λ (n : ℕ). Some (f n)) e

-- By what is gathered of a source.
module _ (terms : List Term) (constant : ℕ → Term) (g : Atom) (tbox : List Inclusion) (member : Atom) (below : Down tbox (shape g) member) (gathered : Gathered)
    (asks_first : Asks terms constant (arguments member).0 gathered.first) (asks_second : Asks terms constant (arguments member).1 gathered.second) where
  -- each column is asked for
  is_full : IsFull (length (variables (shape g))) gathered
  is_full k lt = elim (column_asked tbox g member below k lt) [
    | inl e ↦ inl (asks_column terms constant (arguments member).0 gathered.first k asks_first e)
    | inr e ↦ inr (asks_column terms constant (arguments member).1 gathered.second k asks_second e)
  ]

  -- By a fact of the member's name, in numbers.
  module _ (fact : Fact Term) (made : MadeFact) (named : SameName member fact) (numbers : HasNumbers terms fact made.first made.second) where
    -- each number of a row has a term
    column_term : (row : List ℕ) → IsRowOf (length (variables (shape g))) gathered made row → (k n : ℕ) → slice_get row k ≡ Some n → HasTerm terms constant n
    column_term row is k n r =
        let l : length row ≡ length (variables (shape g)) = is.long in
        let lt : k < length row = slice_get_within row k n r in
        elim (column_asked tbox g member below k (omega (arith, lt, l))) [
          | inl e ↦ (
              let c = asks_column terms constant (arguments member).0 gathered.first k asks_first e in
              let f : slice_get row k ≡ Some made.first = subst (λ (a : Asked). FitsNumber row a made.first) c is.first in
              subst (HasTerm terms constant) (same_Some made.first n (sym f ∙ r)) (first_term terms constant member fact made.first made.second numbers)
              )
          | inr e ↦ (
              let c = asks_column terms constant (arguments member).1 gathered.second k asks_second e in
              let f : slice_get row k ≡ Some made.second = subst (λ (a : Asked). FitsNumber row a made.second) c is.second in
              subst (HasTerm terms constant) (same_Some made.second n (sym f ∙ r)) (second_term terms constant member fact made.first made.second k named numbers e)
              )
        ]

    -- a row is that of a match
    row_match : (row : List ℕ) → IsRowOf (length (variables (shape g))) gathered made row → Match constant (row_under terms constant row) member fact
    row_match row is =
        suit_match terms constant (row_under terms constant row) member fact made.first made.second named numbers
        (fits_asked terms constant row (arguments member).0 gathered.first made.first asks_first is.first (λ k e. first_term terms constant member fact made.first made.second numbers))
        (fits_asked terms constant row (arguments member).1 gathered.second made.second asks_second is.second (λ k e. second_term terms constant member fact made.first made.second k named numbers e))

    -- and has its numbers
    row_numbers : (row : List ℕ) → IsRowOf (length (variables (shape g))) gathered made row → AreNumbersOf terms row (map (row_under terms constant row) (variables (shape g)))
    row_numbers row is =
        let c : counted 0 (length row) ≡ variables (shape g) = ap (counted 0) is.long ∙ sym (shape_counted g) in
        subst (λ (vs : List ℕ). AreNumbersOf terms row (map (row_under terms constant row) vs)) c
        (each_numbers terms row (map (row_under terms constant row) (counted 0 (length row)))
        (all_numbers terms constant (row_under terms constant row) row (λ k n r. row_under_is terms constant row k n r (column_term row is k n r))))

    -- By a match.
    module _ (once : EachOnce terms) (under : ℕ → Term) (matches : Match constant under member fact) where
      abbrev suits : Suits terms constant under (arguments member).0 made.first × Suits terms constant under (arguments member).1 made.second
      suits = match_suits terms constant under member fact made.first made.second numbers matches

      abbrev pick : ℕ → ℕ
      pick k = column_number gathered.first k made.first made.second

      abbrev made_row : List ℕ
      made_row = map pick (counted 0 (length (variables (shape g))))

      pick_first : (k : ℕ) → gathered.first ≡ Column k → pick k ≡ made.first
      pick_first k e = ap (λ (a : Asked). column_number a k made.first made.second) e ∙ cond-true (nat_eq k k) made.first made.second (eq-eqb k k refl)

      -- one number where both arguments are one variable
      pick_by : (k : ℕ) (arg : Arg) (asked : Asked) → Asks terms constant arg asked → Suits terms constant under arg made.first → slice_get terms made.second ≡ Some (under k) → column_number asked k made.first made.second ≡ made.second
      pick_by k Blank asked a s t = ap (λ (b : Asked). column_number b k made.first made.second) a
      pick_by k (Constant c) asked a s t = ap (λ (b : Asked). column_number b k made.first made.second) a.1
      pick_by k (Var x) asked a s t = ap (λ (b : Asked). column_number b k made.first made.second) a ∙ elim (cases_eq x k) [
        | inl e ↦ cond-true (nat_eq x k) made.first made.second (eq-eqb x k e) ∙ once made.first made.second (under x) s (t ∙ ap (λ (j : ℕ). Some (under j)) (sym e))
        | inr ne ↦ cond-false (nat_eq x k) made.first made.second (ne_eqb x k ne)
      ]

      suits_var : (arg : Arg) (number k : ℕ) → Suits terms constant under arg number → arg ≡ Var k → slice_get terms number ≡ Some (under k)
      suits_var Blank number k s e = cc
      suits_var (Var x) number k s e = let same : x ≡ k = cc in s ∙ ap (λ (j : ℕ). Some (under j)) same
      suits_var (Constant c) number k s e = cc

      pick_second : (k : ℕ) → (arguments member).1 ≡ Var k → pick k ≡ made.second
      pick_second k e = pick_by k (arguments member).0 gathered.first asks_first suits.0 (suits_var (arguments member).1 made.second k suits.1 e)

      read_pick : (k : ℕ) → k < length (variables (shape g)) → slice_get made_row k ≡ Some (pick k)
      read_pick k lt = let z : 0 + k ≡ k = omega arith in read_counted pick 0 (length (variables (shape g))) k lt ∙ ap (λ (n : ℕ). Some (pick n)) z

      -- what is made fits what is asked
      fits_first : (arg : Arg) (asked : Asked) → Asks terms constant arg asked → Suits terms constant under arg made.first → ((k : ℕ) → arg ≡ Var k → slice_get made_row k ≡ Some made.first) → FitsNumber made_row asked made.first
      fits_first Blank asked a s r = subst (λ (b : Asked). FitsNumber made_row b made.first) (sym a) tt
      fits_first (Var x) asked a s r = subst (λ (b : Asked). FitsNumber made_row b made.first) (sym a) (r x refl)
      fits_first (Constant c) asked a s r = subst (λ (b : Asked). FitsNumber made_row b made.first) (sym a.1) (once a.0 made.first (constant c) a.2 s)

      fits_second : (arg : Arg) (asked : Asked) → Asks terms constant arg asked → Suits terms constant under arg made.second → ((k : ℕ) → arg ≡ Var k → slice_get made_row k ≡ Some made.second) → FitsNumber made_row asked made.second
      fits_second Blank asked a s r = subst (λ (b : Asked). FitsNumber made_row b made.second) (sym a) tt
      fits_second (Var x) asked a s r = subst (λ (b : Asked). FitsNumber made_row b made.second) (sym a) (r x refl)
      fits_second (Constant c) asked a s r = subst (λ (b : Asked). FitsNumber made_row b made.second) (sym a.1) (once a.0 made.second (constant c) a.2 s)

      -- each match has its row
      match_row : IsRowOf (length (variables (shape g))) gathered made made_row
      match_row = record {
        long = length-map (counted 0 (length (variables (shape g)))) pick ∙ counted_long 0 (length (variables (shape g)));
        first = fits_first (arguments member).0 gathered.first asks_first suits.0 (λ k e.
            read_pick k (occurs_below tbox g member below k (first_occurs member k e)) ∙ ap Some (pick_first k (asks_column terms constant (arguments member).0 gathered.first k asks_first e)));
        second = fits_second (arguments member).1 gathered.second asks_second suits.1 (λ k e.
            read_pick k (occurs_below tbox g member below k (second_occurs member k e)) ∙ ap Some (pick_second k e));
      }

      pick_number : (k n : ℕ) → slice_get made_row k ≡ Some n → slice_get terms n ≡ Some (under k)
      pick_number k n r =
          let l = length-map (counted 0 (length (variables (shape g)))) pick in
          let c = counted_long 0 (length (variables (shape g))) in
          let within : k < length made_row = slice_get_within made_row k n r in
          let lt : k < length (variables (shape g)) = omega (arith, within, l, c) in
          let p : pick k ≡ n = same_Some (pick k) n (sym (read_pick k lt) ∙ r) in
          elim (column_asked tbox g member below k lt) [
            | inl e ↦ subst (λ (m : ℕ). slice_get terms m ≡ Some (under k)) (sym (pick_first k (asks_column terms constant (arguments member).0 gathered.first k asks_first e)) ∙ p)
                (suits_var (arguments member).0 made.first k suits.0 e)
            | inr e ↦ subst (λ (m : ℕ). slice_get terms m ≡ Some (under k)) (sym (pick_second k e) ∙ p) (suits_var (arguments member).1 made.second k suits.1 e)
          ]

      -- with its numbers
      match_numbers : AreNumbersOf terms made_row (map under (variables (shape g)))
      match_numbers =
          let l : length made_row ≡ length (variables (shape g)) = length-map (counted 0 (length (variables (shape g)))) pick ∙ counted_long 0 (length (variables (shape g))) in
          let c : counted 0 (length made_row) ≡ variables (shape g) = ap (counted 0) l ∙ sym (shape_counted g) in
          subst (λ (vs : List ℕ). AreNumbersOf terms made_row (map under vs)) c
          (each_numbers terms made_row (map under (counted 0 (length made_row))) (all_numbers terms constant under made_row (λ k n r. pick_number k n r)))

-- an element by the other word
among_in : {X : Type 0} (x : X) (xs : List X) → Among x xs → In x xs
among_in x [] i = absurd i
among_in x (y ∷ xs) (inl e) = inl e
among_in x (y ∷ xs) (inr i) = inr (among_in x xs i)

-- the number of the set of a pair
set_stands : (w : Wanted) → HasSets w → (sets : List (List RowId)) (number : ℕ) (rows : List RowId) → HasSet w sets number rows → slice_get sets number ≡ Some rows
set_stands Tuples h sets number rows s = absurd h
set_stands SomeHits h sets number rows s = s
set_stands AllHits h sets number rows s = s

-- a pair is a match
match_of_pair : (over : Over) (under : ℕ → Term) (g : Atom) (rows : List RowId) → IsPairOf over under g rows → IsMatchOf over under g
match_of_pair over under g rows p = record {
  member = p.member;
  below = p.below;
  met = record { fact = p.fact; matches = p.matches; holds = record { rows = rows; support = p.supports.support; within = p.supports.within } };
}

-- and a match has one
record HasPair (over : Over) (under : ℕ → Term) (g : Atom) : Type 0 where
  rows : List RowId
  pair : IsPairOf over under g rows

pair_of_match : (over : Over) (under : ℕ → Term) (g : Atom) → IsMatchOf over under g → HasPair over under g
pair_of_match over under g m = record {
  rows = m.met.holds.rows;
  pair = record {
    member = m.member;
    below = m.below;
    fact = m.met.fact;
    matches = m.met.matches;
    supports = record { support = m.met.holds.support; within = m.met.holds.within };
  };
}

module _ (base : Base) (pool : Pool) (facts : List (List MadeFact)) where
  -- the source of what is gathered
  record SourceOf (sources : List Source) (gathered : Gathered) : Type 0 where
    source : Source
    among : Contains sources source
    is : IsGathered base pool facts source gathered

  source_of : (sources : List Source) (all : List Gathered) (gathered : Gathered) → AllZip (IsGathered base pool facts) sources all → In gathered all → SourceOf sources gathered
  source_of [] [] gathered z i = absurd i
  source_of [] (x ∷ all) gathered z i = absurd z
  source_of (s ∷ sources) [] gathered z i = absurd z
  source_of (s ∷ sources) (x ∷ all) gathered z (inl e) = record { source = s; among = front s sources; is = subst (IsGathered base pool facts s) (sym e) z.0 }
  source_of (s ∷ sources) (x ∷ all) gathered z (inr i) =
      let r = source_of sources all gathered z.1 i in
      record { source = r.source; among = later r.source s sources r.among; is = r.is }

  -- what is gathered of a source
  record GatheredOf (source : Source) (all : List Gathered) : Type 0 where
    gathered : Gathered
    there : In gathered all
    is : IsGathered base pool facts source gathered

  gathered_of : (sources : List Source) (all : List Gathered) (source : Source) → AllZip (IsGathered base pool facts) sources all → Contains sources source → GatheredOf source all
  gathered_of [] all source z c = absurd (none source c)
  gathered_of (s ∷ sources) [] source z c = absurd z
  gathered_of (s ∷ sources) (x ∷ all) source z c = elim (first_or s sources source c) [
    | inl e ↦ record { gathered = x; there = inl refl; is = subst (λ (k : Source). IsGathered base pool facts k x) (sym e) z.0 }
    | inr i ↦ (
        let r = gathered_of sources all source z.1 i in
        record { gathered = r.gathered; there = inr r.there; is = r.is }
        )
  ]

  -- what is gathered of a source of an atom's shape asks for each of its columns
  pub gathered_full : (g : Atom) (source : Source) (gathered : Gathered) → IsSource (asked_over base).sources (shape g) source → IsGathered base pool facts source gathered → IsFull (length (variables (shape g))) gathered
  gathered_full g source gathered is h =
      is_full pool.terms.terms (constant_over (asked_over base)) g (asked_over base).sources.normal source.member is.below gathered h.first h.second

  module _ (g : Atom) (sources : List Source) (exact : (source : Source) → Contains sources source ↔ IsSource (asked_over base).sources (shape g) source) (all : List Gathered)
      (are : AllZip (IsGathered base pool facts) sources all) (once : EachOnce pool.terms.terms) (based : IsBase base) where
    abbrev columns : ℕ
    columns = length (variables (shape g))

    -- a row that a fact gives is that of a pair
    record RowPair (made : MadeFact) (row : List ℕ) : Type 0 where
      under : ℕ → Term
      numbers : AreNumbersOf pool.terms.terms row (map under (variables (shape g)))
      rows : List RowId
      pair : IsPairOf (asked_over base) under (shape g) rows
      set : HasSet base.wanted pool.sets.items made.set rows

    row_pair : (gathered : Gathered) → In gathered all → (made : MadeFact) → In made (get_or facts gathered.place []) → (row : List ℕ) → IsRowOf columns gathered made row → RowPair made row
    row_pair gathered there made among row is =
        let s = source_of sources all gathered are there in
        let src = (exact s.source).0 s.among in
        let m = s.is.map in
        let f : IsFactOfMap base pool m made = each_in (IsFactOfMap base pool m) made (get_or facts gathered.place []) s.is.facts_of.right among in
        let same : src.map ≡ m = same_Some src.map m (sym src.stands ∙ s.is.stands) in
        let b = src.becomes in
        let h : HeadOf m.head s.source.member =
        subst (λ (k : SplitMap). HeadOf k.head s.source.member) same (head_of (constant_term (asked_over base).sources.vocab.constants) b.under src.map.head s.source.member b.fact
        (becomes_named (output_values (asked_over base).sources.tables src.map.query b.values) src.map.head b.fact b.gives) b.matches) in
        let named : SameName s.source.member f.fact = name_by_head m.head s.source.member f.fact h (fact_named (asked_over base).sources.tables m.query (chosen (asked_over base).sources.tables (asked_over base).rows m.query.from f.choice) m.head f.fact f.gives) in
        let terms = pool.terms.terms in
        let constant = constant_over (asked_over base) in
        let tbox = (asked_over base).sources.normal in
        record {
          under = row_under terms constant row;
          numbers = row_numbers terms constant g tbox s.source.member src.below gathered s.is.first s.is.second f.fact made named f.is.numbers row is;
          rows = rows_by (asked_over base) m f.choice;
          pair = by_source (asked_over base) (row_under terms constant row) (shape g) (rows_by (asked_over base) m f.choice) (record {
            source = s.source;
            is = src;
            map = m;
            stands = s.is.stands;
            choice = f.choice;
            met = f.met;
            fact = f.fact;
            gives = f.gives;
            matches = row_match terms constant g tbox s.source.member src.below gathered s.is.first s.is.second f.fact made named f.is.numbers row is;
            are = λ r. (λ i. i, λ i. i);
          });
          set = f.is.set;
        }

    -- each pair has a row that a fact gives
    record PairRow (under : ℕ → Term) (bound : List RowId) : Type 0 where
      gathered : Gathered
      there : In gathered all
      made : MadeFact
      among : In made (get_or facts gathered.place [])
      row : List ℕ
      is : IsRowOf columns gathered made row
      numbers : AreNumbersOf pool.terms.terms row (map under (variables (shape g)))
      rows : List RowId
      set : HasSet base.wanted pool.sets.items made.set rows
      within : AreWithin rows bound

    pair_row : (under : ℕ → Term) (rows : List RowId) → IsPairOf (asked_over base) under (shape g) rows → PairRow under rows
    pair_row under rows pair =
        let p = to_source (asked_over base) based.fits under (shape g) rows pair in
        let o = gathered_of sources all p.source are ((exact p.source).1 p.is) in
        let same : o.is.map ≡ p.map = same_Some o.is.map p.map (sym o.is.stands ∙ p.stands) in
        let by_map : AreFactsOf base pool p.map (get_or facts o.gathered.place []) = subst (λ (k : SplitMap). AreFactsOf base pool k (get_or facts o.gathered.place [])) same o.is.facts_of in
        let m = by_map.all p.choice p.fact p.met p.gives in
        let named = match_named (constant_over (asked_over base)) under p.source.member p.fact p.matches in
        let terms = pool.terms.terms in
        let constant = constant_over (asked_over base) in
        let tbox = (asked_over base).sources.normal in
        record {
          gathered = o.gathered;
          there = o.there;
          made = m.made;
          among = among_in m.made (get_or facts o.gathered.place []) m.there;
          row = made_row terms constant g tbox p.source.member p.is.below o.gathered o.is.first o.is.second p.fact m.made named m.is.numbers once under p.matches;
          is = match_row terms constant g tbox p.source.member p.is.below o.gathered o.is.first o.is.second p.fact m.made named m.is.numbers once under p.matches;
          numbers = match_numbers terms constant g tbox p.source.member p.is.below o.gathered o.is.first o.is.second p.fact m.made named m.is.numbers once under p.matches;
          rows = rows_by (asked_over base) p.map p.choice;
          set = m.is.set;
          within = in_each (λ row. Among row rows) (rows_by (asked_over base) p.map p.choice) (λ row i. (p.are row).1 i);
        }

    module _ (stored : List Stored) (relation : Rows) (filled : IsFilled base.wanted columns facts all relation) where
      abbrev e : Extended
      e = record { over = asked_over base; wanted = base.wanted; numbered = pool.terms; sets = pool.sets.items; relations = stored }

      abbrev Stands : List ℕ → Type 0
      Stands row = In row relation.list

      match_right : base.wanted ≡ Tuples → (row : List ℕ) → Stands row → IsMatchRow e (shape g) row
      match_right w row i =
          let x = filled.right row i in
          let y = x.given in
          let same : y.front ≡ row = sym (y.whole ∙ ap (λ (v : Wanted). y.front ++ set_column v y.fact.set) w ∙ append_none y.front) in
          let r = row_pair x.source x.there y.fact y.there y.front y.is in
          record {
            under = r.under;
            numbers = subst (λ (k : List ℕ). AreNumbersOf pool.terms.terms k (map r.under (variables (shape g)))) same r.numbers;
            is = match_of_pair (asked_over base) r.under (shape g) r.rows r.pair;
          }

      pair_right : HasSets base.wanted → (row : List ℕ) → Stands row → IsPairRow e (shape g) row
      pair_right has row i =
          let x = filled.right row i in
          let y = x.given in
          let r = row_pair x.source x.there y.fact y.there y.front y.is in
          record {
            front = y.front;
            set = y.fact.set;
            made = y.whole ∙ ap (λ (k : List ℕ). y.front ++ k) (column_is base.wanted has y.fact.set);
            under = r.under;
            numbers = r.numbers;
            rows = r.rows;
            stands = set_stands base.wanted has pool.sets.items y.fact.set r.rows r.set;
            is = r.pair;
          }

      match_all : base.wanted ≡ Tuples → (under : ℕ → Term) → IsMatchOf e.over under (shape g) → IsMatchFound e (shape g) under Stands
      match_all w under m =
          let h = pair_of_match (asked_over base) under (shape g) m in
          let p = pair_row under h.rows h.pair in
          record {
            row = p.row;
            numbers = p.numbers;
            found = subst (λ (v : Wanted). Has v relation.list p.row p.made.set) w (filled.all p.gathered p.there p.made p.row p.among p.is);
          }

      some_all : base.wanted ≡ SomeHits → (under : ℕ → Term) → IsMatchOf e.over under (shape g) → IsPairFound e (shape g) under Stands (λ rows. Unit {0})
      some_all w under m =
          let h = pair_of_match (asked_over base) under (shape g) m in
          let p = pair_row under h.rows h.pair in
          let f : Has SomeHits relation.list p.row p.made.set = subst (λ (v : Wanted). Has v relation.list p.row p.made.set) w (filled.all p.gathered p.there p.made p.row p.among p.is) in
          let r = pair_right (subst HasSets (sym w) tt) (p.row ++ f.0 ∷ []) f.1 in
          let l : length p.row ≡ length r.front =
          numbers_long pool.terms.terms p.row (map under (variables (shape g))) p.numbers ∙ length-map (variables (shape g)) under
          ∙ sym (length-map (variables (shape g)) r.under) ∙ sym (numbers_long pool.terms.terms r.front (map r.under (variables (shape g))) r.numbers) in
          let s = append_split p.row (f.0 ∷ []) r.front (r.set ∷ []) l r.made in
          record {
            front = p.row;
            set = f.0;
            numbers = p.numbers;
            rows = r.rows;
            stands = subst (λ (n : ℕ). slice_get pool.sets.items n ≡ Some r.rows) (sym (one_head f.0 r.set s.1)) r.stands;
            found = f.1;
            has = tt;
          }
        where
          one_head : (n k : ℕ) → n ∷ [] ≡ k ∷ [] → n ≡ k
          one_head n k e = cc

      all_all : base.wanted ≡ AllHits → (under : ℕ → Term) (rows : List RowId) → IsPairOf e.over under (shape g) rows → IsPairFound e (shape g) under Stands (λ least. AreWithin least rows)
      all_all w under rows pair =
          let p = pair_row under rows pair in
          record {
            front = p.row;
            set = p.made.set;
            numbers = p.numbers;
            rows = p.rows;
            stands = set_stands base.wanted (subst HasSets (sym w) tt) pool.sets.items p.made.set p.rows p.set;
            found = subst (λ (v : Wanted). Has v relation.list p.row p.made.set) w (filled.all p.gathered p.there p.made p.row p.among p.is);
            has = p.within;
          }

      tells_pairs : (w : Wanted) → base.wanted ≡ w → TellsPairs w e (shape g) Stands
      tells_pairs Tuples w = record { right = match_right w; all = match_all w }
      tells_pairs SomeHits w = record { right = pair_right (subst HasSets (sym w) tt); all = some_all w }
      tells_pairs AllHits w = record { right = pair_right (subst HasSets (sym w) tt); all = all_all w }

      -- a relation that is filled by the sources of an atom's shape tells its extension
      pub filled_tells : TellsAtom e (shape g) relation
      filled_tells = record { wide = filled.wide; tells = tells_pairs base.wanted refl }
