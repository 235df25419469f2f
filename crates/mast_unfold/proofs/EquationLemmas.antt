-- Equations of columns and constants: what solves them, by what was noted and spread.
use Rattle.std.proofs.Common.{◌≡◌, ◌↔◌, ◌<◌, inl, inr, Bool, true, false, List, [], ◌∷◌, length, refl, ap, sym, subst, ◌∙◌, arith, pos}
use Rattle.std.specs.Prelude.{Option, Some, None, if◌then◌else◌, MatchBool}
use Rattle.std.specs.List.{AllByRecursion}
use Rattle.std.proofs.lemmas.Bool.{and_parts}
use Rattle.std.proofs.lemmas.Option.{none-some, same_Some}
use Rattle.mast_terms.specs.declared.date.Date.{Date}
use Rattle.mast_terms.specs.declared.value.Kind.{Kind}
use Rattle.mast_terms.specs.declared.value.Kind.TheVariants as kind
use Rattle.mast_terms.specs.declared.value.Value.{Value}
use Rattle.mast_terms.specs.declared.value.Value.TheVariants as value
use Rattle.mast_terms.specs.Orders.{TestsEquality}
use Rattle.mast_terms.proofs.OrderLemmas.{value_equality_test, kind_equality_test}
use Rattle.mast_tables.specs.Whole.{value_kind}
use Rattle.mast_cq.specs.Queries.{In}
use Rattle.mast_cq.proofs.ListLemmas.{each_in, in_each, in_append, append_left, append_right}
use Rattle.mast_unfold.specs.declared.columns.Place.{Place}
use Rattle.mast_unfold.specs.declared.groups.Groups.{Groups}
use Rattle.mast_unfold.specs.inside.Equations.{Cell, column, constant, nothing, same_kind, same_place, may_hold, may_all_hold, IsEqual, HasSolution, seconds, links_of, all_links, AreLinks, seeds_of, all_seeds}
use Rattle.mast_unfold.specs.inside.Spreading.{value_at, all_noted, Agrees, IsValue, HasKind, KeepKinds, Spreads, IsRefuted, next_in}
use Rattle.mast_unfold.proofs.ElementLemmas.{IsRead, in_read, read_within}
use Rattle.mast_unfold.proofs.SpreadLemmas.{Note, valued, value_in, value_stays, Adds, all_adds, all_clash}

-- a day
pub a_day : Date
a_day = record { year = 1; month = 1; day = 1; valid = record { year_from = omega arith; year_to = omega arith; month_from = omega arith; month_to = omega arith; day_from = omega arith; day_to = omega arith } }

-- a value of each kind
abbrev pub of_kind : Kind → Value
of_kind kind.Text = value.Text []
of_kind kind.Integer = value.Int (pos 0)
of_kind kind.Date = value.Date a_day

-- it has the kind
pub of_kind_is : (k : Kind) → value_kind (of_kind k) ≡ k
of_kind_is kind.Text = refl
of_kind_is kind.Integer = refl
of_kind_is kind.Date = refl

-- an equation of a list may hold where all may
pub each_may : (es : List (Cell × Cell)) (e : Cell × Cell) → may_all_hold es ≡ true → In e es → may_hold e ≡ true
each_may [] e h i = absurd i
each_may (x ∷ es) e h (inl same) = subst (λ (k : Cell × Cell). may_hold k ≡ true) (sym same) (and_parts (may_hold x) (may_all_hold es) h).0
each_may (x ∷ es) e h (inr i) = each_may es e (and_parts (may_hold x) (may_all_hold es) h).1 i

-- and all may where each may
pub all_may : (es : List (Cell × Cell)) → ((e : Cell × Cell) → In e es → may_hold e ≡ true) → may_all_hold es ≡ true
all_may [] k = refl
all_may (x ∷ es) k = let here : may_hold x ≡ true = k x (inl refl) in rw here (all_may es (λ e i. k e (inr i)))

module _ (f : Place → Value) where
  same_kinds : (k l : Kind) → k ≡ l → same_kind k l ≡ true
  same_kinds k l e = (kind_equality_test k l).1 e

  -- an equation that holds may hold by itself
  pub equal_may : ((p : Place) → value_kind (f p) ≡ p.kind) → (e : Cell × Cell) → IsEqual f e → may_hold e ≡ true
  equal_may kinds (column p, column q) h = same_kinds p.kind q.kind (sym (kinds p) ∙ (ap value_kind (h.left ∙ sym h.right) ∙ kinds q))
  equal_may kinds (column p, constant v) h = same_kinds p.kind (value_kind v) (sym (kinds p) ∙ ap value_kind (h.left ∙ sym h.right))
  equal_may kinds (column p, nothing) h = absurd h.right
  equal_may kinds (constant v, column q) h = same_kinds (value_kind v) q.kind (ap value_kind (h.left ∙ sym h.right) ∙ kinds q)
  equal_may kinds (constant v, constant w) h = (value_equality_test v w).1 (h.left ∙ sym h.right)
  equal_may kinds (constant v, nothing) h = absurd h.right
  equal_may kinds (nothing, r) h = absurd h.left

  -- the columns that it links are equal
  pub equal_links : (e : Cell × Cell) → IsEqual f e → (p q : Place) → In (p, q) (links_of e) → f p ≡ f q
  equal_links (column a, column b) h p q (inl e) = let x : p ≡ a = ap (λ (l : Place × Place). l.0) e in let y : q ≡ b = ap (λ (l : Place × Place). l.1) e in ap f x ∙ (h.left ∙ sym h.right) ∙ ap f (sym y)
  equal_links (column a, column b) h p q (inr (inl e)) = let x : p ≡ b = ap (λ (l : Place × Place). l.0) e in let y : q ≡ a = ap (λ (l : Place × Place). l.1) e in ap f x ∙ (h.right ∙ sym h.left) ∙ ap f (sym y)
  equal_links (column a, column b) h p q (inr (inr i)) = absurd i
  equal_links (column a, constant v) h p q i = absurd i
  equal_links (column a, nothing) h p q i = absurd i
  equal_links (constant v, r) h p q i = absurd i
  equal_links (nothing, r) h p q i = absurd i

  -- and the values that it gives are right
  pub equal_seeds : (e : Cell × Cell) → IsEqual f e → (n : Note) → In n (seeds_of e) → IsValue f n
  equal_seeds (column a, column b) h n i = absurd i
  equal_seeds (column a, constant v) h n (inl e) = subst (IsValue f) (sym e) (h.left ∙ sym h.right)
  equal_seeds (column a, constant v) h n (inr i) = absurd i
  equal_seeds (column a, nothing) h n i = absurd i
  equal_seeds (constant v, column b) h n (inl e) = subst (IsValue f) (sym e) (h.right ∙ sym h.left)
  equal_seeds (constant v, column b) h n (inr i) = absurd i
  equal_seeds (constant v, constant w) h n i = absurd i
  equal_seeds (constant v, nothing) h n i = absurd i
  equal_seeds (nothing, r) h n i = absurd i

  -- an equation holds that may hold, whose links are equal and whose values are right
  pub may_equal : (e : Cell × Cell) → may_hold e ≡ true → ((p q : Place) → In (p, q) (links_of e) → f p ≡ f q) → ((n : Note) → In n (seeds_of e) → IsValue f n) → IsEqual f e
  may_equal (column a, column b) m links seeds = record { value = f a; left = refl; right = links b a (inr (inl refl)) }
  may_equal (column a, constant v) m links seeds = record { value = v; left = seeds (valued a v) (inl refl); right = refl }
  may_equal (column a, nothing) m links seeds = absurd (let no : false ≡ true = m in cc)
  may_equal (constant v, column b) m links seeds = record { value = v; left = refl; right = seeds (valued b v) (inl refl) }
  may_equal (constant v, constant w) m links seeds = record { value = v; left = refl; right = sym ((value_equality_test v w).0 m) }
  may_equal (constant v, nothing) m links seeds = absurd (let no : false ≡ true = m in cc)
  may_equal (nothing, r) m links seeds = absurd (let no : false ≡ true = m in cc)

-- the columns that an equation links have one kind
link_kinds : (e : Cell × Cell) → may_hold e ≡ true → (p q : Place) → In (p, q) (links_of e) → p.kind ≡ q.kind
link_kinds (column a, column b) m p q (inl e) = let x : p ≡ a = ap (λ (l : Place × Place). l.0) e in let y : q ≡ b = ap (λ (l : Place × Place). l.1) e in ap (λ k. k.kind) x ∙ (kind_equality_test a.kind b.kind).0 m ∙ ap (λ k. k.kind) (sym y)
link_kinds (column a, column b) m p q (inr (inl e)) = let x : p ≡ b = ap (λ (l : Place × Place). l.0) e in let y : q ≡ a = ap (λ (l : Place × Place). l.1) e in ap (λ k. k.kind) x ∙ sym ((kind_equality_test a.kind b.kind).0 m) ∙ ap (λ k. k.kind) (sym y)
link_kinds (column a, column b) m p q (inr (inr i)) = absurd i
link_kinds (column a, constant v) m p q i = absurd i
link_kinds (column a, nothing) m p q i = absurd i
link_kinds (constant v, r) m p q i = absurd i
link_kinds (nothing, r) m p q i = absurd i

-- the values that it gives have the kinds of their columns
seed_kinds : (e : Cell × Cell) → may_hold e ≡ true → (n : Note) → In n (seeds_of e) → HasKind n
seed_kinds (column a, column b) m n i = absurd i
seed_kinds (column a, constant v) m n (inl e) = subst HasKind (sym e) (sym ((kind_equality_test a.kind (value_kind v)).0 m))
seed_kinds (column a, constant v) m n (inr i) = absurd i
seed_kinds (column a, nothing) m n i = absurd i
seed_kinds (constant v, column b) m n (inl e) = subst HasKind (sym e) ((kind_equality_test (value_kind v) b.kind).0 m)
seed_kinds (constant v, column b) m n (inr i) = absurd i
seed_kinds (constant v, constant w) m n i = absurd i
seed_kinds (constant v, nothing) m n i = absurd i
seed_kinds (nothing, r) m n i = absurd i

-- links go both ways
links_turn : (e : Cell × Cell) (p q : Place) → In (p, q) (links_of e) → In (q, p) (links_of e)
links_turn (column a, column b) p q (inl e) = inr (inl (ap (λ (l : Place × Place). let t : Place × Place = (l.1, l.0) in t) e))
links_turn (column a, column b) p q (inr (inl e)) = inl (ap (λ (l : Place × Place). let t : Place × Place = (l.1, l.0) in t) e)
links_turn (column a, column b) p q (inr (inr i)) = absurd i
links_turn (column a, constant v) p q i = absurd i
links_turn (column a, nothing) p q i = absurd i
links_turn (constant v, r) p q i = absurd i
links_turn (nothing, r) p q i = absurd i

-- an equation of a list that gives something
record Gives {X : Type 0} (give : Cell × Cell → List X) (x : X) (es : List (Cell × Cell)) : Type 0 where
  equation : Cell × Cell
  among : In equation es
  has : In x (give equation)

module _ {X : Type 0} (give : Cell × Cell → List X) (x : X) where
  gives_later : (e : Cell × Cell) (es : List (Cell × Cell)) → Gives give x es → Gives give x (e ∷ es)
  gives_later e es g = record { equation = g.equation; among = inr g.among; has = g.has }

  gives_first : (e : Cell × Cell) (es : List (Cell × Cell)) → In x (give e) → Gives give x (e ∷ es)
  gives_first e es i = record { equation = e; among = inl refl; has = i }

links_out : (es : List (Cell × Cell)) (l : Place × Place) → In l (all_links es) → Gives links_of l es
links_out [] l i = absurd i
links_out (e ∷ es) l i = elim (in_append l (links_of e) (all_links es) i) [ inl a ↦ gives_first links_of l e es a | inr b ↦ gives_later links_of l e es (links_out es l b) ]

links_in : (es : List (Cell × Cell)) (e : Cell × Cell) (l : Place × Place) → In e es → In l (links_of e) → In l (all_links es)
links_in [] e l i j = absurd i
links_in (x ∷ es) e l (inl same) j = append_left l (links_of x) (all_links es) (subst (λ (k : Cell × Cell). In l (links_of k)) same j)
links_in (x ∷ es) e l (inr i) j = append_right l (links_of x) (all_links es) (links_in es e l i j)

seeds_out : (es : List (Cell × Cell)) (n : Note) → In n (all_seeds es) → Gives seeds_of n es
seeds_out [] n i = absurd i
seeds_out (e ∷ es) n i = elim (in_append n (seeds_of e) (all_seeds es) i) [ inl a ↦ gives_first seeds_of n e es a | inr b ↦ gives_later seeds_of n e es (seeds_out es n b) ]

seeds_in : (es : List (Cell × Cell)) (e : Cell × Cell) (n : Note) → In e es → In n (seeds_of e) → In n (all_seeds es)
seeds_in [] e n i j = absurd i
seeds_in (x ∷ es) e n (inl same) j = append_left n (seeds_of x) (all_seeds es) (subst (λ (k : Cell × Cell). In n (seeds_of k)) same j)
seeds_in (x ∷ es) e n (inr i) j = append_right n (seeds_of x) (all_seeds es) (seeds_in es e n i j)

-- the value of a place that has one, and else one of the kind
abbrev given : Option Value → Kind → Value
given None k = of_kind k
given (Some v) k = v

-- the value of each place by notes
abbrev solved : List Note → Place → Value
solved notes p = given (value_at p notes) p.kind

module _ (law : TestsEquality same_place) where
  pair_is : (a b c d : Place) → a ≡ b → c ≡ d → (let t : Place × Place = (a, c) in t) ≡ (b, d)
  pair_is a b c d g h = cc

  seconds_out : (pairs : List (Place × Place)) (p q : Place) → In q (seconds p pairs) → In (p, q) pairs
  seconds_out [] p q i = absurd i
  seconds_out (l ∷ ls) p q i = by (same_place l.0 p) refl i (seconds_out ls p q)
    where
      by : (b : Bool) → same_place l.0 p ≡ b → In q (if b then l.1 ∷ seconds p ls else seconds p ls) → (In q (seconds p ls) → In (p, q) ls) → In (p, q) (l ∷ ls)
      by true e (inl f) ih = inl (pair_is p l.0 q l.1 (sym ((law l.0 p).0 e)) f)
      by true e (inr j) ih = inr (ih j)
      by false e j ih = inr (ih j)

  seconds_in : (pairs : List (Place × Place)) (p q : Place) → In (p, q) pairs → In q (seconds p pairs)
  seconds_in [] p q i = absurd i
  seconds_in (l ∷ ls) p q (inl e) =
      let x : p ≡ l.0 = ap (λ (k : Place × Place). k.0) e in
      let y : q ≡ l.1 = ap (λ (k : Place × Place). k.1) e in
      let yes : same_place l.0 p ≡ true = (law l.0 p).1 (sym x) in
      rw yes (inl y)
  seconds_in (l ∷ ls) p q (inr i) = by (same_place l.0 p) (seconds_in ls p q i)
    where
      by : (b : Bool) → In q (seconds p ls) → In q (if b then l.1 ∷ seconds p ls else seconds p ls)
      by true j = inr j
      by false j = j

  module _ (es : List (Cell × Cell)) (links : Groups Place Place) (are : AreLinks (all_links es) links) where
    next_out : (p q : Place) → In q (next_in links p) → Gives links_of (p, q) es
    next_out p q i = links_out es (p, q) (seconds_out (all_links es) p q (subst (λ (k : List Place). In q k) (are p) i))

    next_has : (e : Cell × Cell) (p q : Place) → In e es → In (p, q) (links_of e) → In q (next_in links p)
    next_has e p q i j = subst (λ (k : List Place). In q k) (sym (are p)) (seconds_in (all_links es) p q (links_in es e (p, q) i j))

    keep_kinds : may_all_hold es ≡ true → KeepKinds (next_in links)
    keep_kinds may p q i = let g = next_out p q i in link_kinds g.equation (each_may es g.equation may g.among) p q g.has

    -- values that solve the equations agree with their links
    solution_agrees : (s : HasSolution es) → Agrees (next_in links) s.values
    solution_agrees s p q i = let g = next_out p q i in equal_links s.values g.equation (each_in (IsEqual s.values) g.equation es s.holds g.among) p q g.has

    solution_seeds : (s : HasSolution es) → AllByRecursion (IsValue s.values) (all_seeds es)
    solution_seeds s = in_each (IsValue s.values) (all_seeds es) (λ n i. let g = seeds_out es n i in equal_seeds s.values g.equation (each_in (IsEqual s.values) g.equation es s.holds g.among) n g.has)

    -- where the given values meet, nothing solves the equations
    pub seeds_clash : all_noted (all_seeds es) [] ≡ None → HasSolution es → ⊥
    seeds_clash h s = all_clash law s.values (all_seeds es) [] h tt (solution_seeds s)

    -- nor where they meet when they are spread
    pub refuted : (start : List Note) → all_noted (all_seeds es) [] ≡ Some start → IsRefuted (next_in links) start → HasSolution es → ⊥
    refuted start h r s =
        let a = all_adds law (all_seeds es) [] start h in
        r s.values (solution_agrees s) (subst (AllByRecursion (IsValue s.values)) (sym a.begins)
        (in_each (IsValue s.values) a.more (λ n i. each_in (IsValue s.values) n (all_seeds es) (solution_seeds s) (each_in (λ k. In k (all_seeds es)) n a.more a.from i))))

    start_kinds : may_all_hold es ≡ true → (start : List Note) → Adds law (all_seeds es) [] start → AllByRecursion HasKind start
    start_kinds may start a =
        subst (AllByRecursion HasKind) (sym a.begins) (in_each HasKind a.more (λ n i.
        let g = seeds_out es n (each_in (λ k. In k (all_seeds es)) n a.more a.from i) in
        seed_kinds g.equation (each_may es g.equation may g.among) n g.has))

    module _ (may : may_all_hold es ≡ true) (start notes : List Note) (h : all_noted (all_seeds es) [] ≡ Some start) (s : Spreads (next_in links) start notes (length notes)) where
      adds : Adds law (all_seeds es) [] start
      adds = all_adds law (all_seeds es) [] start h

      kinds : AllByRecursion HasKind notes
      kinds = s.kinds (keep_kinds may) (start_kinds may start adds)

      solved_kind : (p : Place) → value_kind (solved notes p) ≡ p.kind
      solved_kind p = by (value_at p notes) refl
        where
          by : (o : Option Value) → value_at p notes ≡ o → value_kind (given o p.kind) ≡ p.kind
          by None e = of_kind_is p.kind
          by (Some v) e = each_in HasKind (valued p v) notes kinds (value_in law p notes v e)

      linked : (p q : Place) (v : Value) → In q (next_in links p) → value_at p notes ≡ Some v → value_at q notes ≡ Some v
      linked p q v i e =
          let r = in_read (valued p v) notes (value_in law p notes v e) in
          s.closed r.place (valued p v) q (within r) r.is i
        where
          within : (r : IsRead (valued p v) notes) → r.place < length notes
          within r = read_within notes r.place (valued p v) r.is

      solved_links : (e : Cell × Cell) → In e es → (p q : Place) → In (p, q) (links_of e) → solved notes p ≡ solved notes q
      solved_links e i p q j = by (value_at p notes) (value_at q notes) refl refl
        where
          by : (o u : Option Value) → value_at p notes ≡ o → value_at q notes ≡ u → given o p.kind ≡ given u q.kind
          by None None f g = ap of_kind (link_kinds e (each_may es e may i) p q j)
          by None (Some w) f g = absurd (none-some w (sym f ∙ linked q p w (next_has e q p i (links_turn e p q j)) g))
          by (Some v) None f g = absurd (none-some v (sym g ∙ linked p q v (next_has e p q i j) f))
          by (Some v) (Some w) f g = same_Some v w (sym (linked p q v (next_has e p q i j) f) ∙ g)

      solved_seeds : (e : Cell × Cell) → In e es → (n : Note) → In n (seeds_of e) → IsValue (solved notes) n
      solved_seeds e i n j =
          let at : value_at n.0 start ≡ Some n.1 = adds.has n (seeds_in es e n i j) in
          let later : value_at n.0 notes ≡ Some n.1 = subst (λ (k : List Note). value_at n.0 k ≡ Some n.1) (sym s.begins) (value_stays law n.0 start s.more n.1 at) in
          ap (λ o. given o n.0.kind) later

      -- and where they don't, there is a solution
      pub solution : HasSolution es
      solution = record {
        values = solved notes;
        kinds = solved_kind;
        holds = in_each (IsEqual (solved notes)) es (λ e i. may_equal (solved notes) e (each_may es e may i) (solved_links e i) (solved_seeds e i));
      }

-- where an equation can't hold by itself, nothing solves them
pub not_may : (es : List (Cell × Cell)) → may_all_hold es ≡ false → HasSolution es → ⊥
not_may es h s =
    let yes : may_all_hold es ≡ true = all_may es (λ e i. equal_may s.values s.kinds e (each_in (IsEqual s.values) e es s.holds i)) in
    let no : true ≡ false = sym yes ∙ h in
    cc

-- whether the values could be spread says whether there is a solution
pub spread_solves : TestsEquality same_place → (es : List (Cell × Cell)) (links : Groups Place Place) → AreLinks (all_links es) links → may_all_hold es ≡ true → (start notes : List Note) → all_noted (all_seeds es) [] ≡ Some start
    → (ok : Bool) → MatchBool ok (Spreads (next_in links) start notes (length notes)) (IsRefuted (next_in links) start) → (ok ≡ true) ↔ HasSolution es
spread_solves law es links are may start notes h true m = (λ e. solution law es links are may start notes h m, λ s. refl)
spread_solves law es links are may start notes h false m = (λ e. absurd (let no : false ≡ true = e in cc), λ s. absurd (refuted law es links are start h m s))
