-- What is kept of the ranges that stand before: the steps of the loops over inclusions.
use Rattle.std.proofs.Common.{◌≡◌, ℕ, suc, ◌+◌, ◌*◌, ◌<◌, ◌≤◌, Bool, true, false, if◌then◌else◌, List, [], ◌∷◌, ◌++◌, length, map, take, drop, get_or, refl, sym, ap, ◌∙◌, arith}
use Rattle.std.proofs.lemmas.List.{take_more, drop_more, drop_all, length-take-le}
use Rattle.mast_terms.specs.declared.name.Name.{Name}
use Rattle.mast_terms.specs.declared.value.Kind.{Kind}
use Rattle.mast_terms.specs.declared.value.Kind.TheVariants as kind
use Rattle.mast_cq.proofs.ListLemmas.{map_length}
use Rattle.mast_tbox.specs.declared.axiom.Inclusion.{Inclusion}
use Rattle.mast_tbox.specs.declared.axiom.Inclusion.TheVariants.{Class as IClass, Exists, HasValue, Role as IRole, Attr as IAttr, Range}
use Rattle.mast_tbox.specs.declared.axiom.Lined.{Lined}
use Rattle.mast_tbox.specs.Lists.{items}
use Rattle.mast_violate.specs.declared.count.Tally.{Tally}
use Rattle.mast_violate.specs.declared.ranges.Ranges.{Ranges}
use Rattle.mast_violate.specs.declared.violation.Violation.{Violation}
use Rattle.mast_violate.specs.inside.Seen.{clashed, counted, IsSmall}
use Rattle.mast_violate.specs.ViolationLists.{same_kind, clash, clashes, of_ranges, of_inclusion, of_inclusions}
use Rattle.mast_violate.proofs.ListLemmas.{append_nothing}

-- three lists one after the other
pub append_twice : {X : Type 0} (xs ys zs : List X) → (xs ++ ys) ++ zs ≡ xs ++ (ys ++ zs)
append_twice [] ys zs = refl
append_twice (x ∷ xs) ys zs = ap (λ z. x ∷ z) (append_twice xs ys zs)

both_long : {X : Type 0} (xs ys : List X) → length (xs ++ ys) ≡ length xs + length ys
both_long [] ys = omega arith
both_long (x ∷ xs) ys = let e = both_long xs ys in omega (arith, e)

-- the clashes of one more inclusion
pub clashes_more : (k : Kind) (before : List Inclusion) (i : Inclusion) → clashes k (before ++ i ∷ []) ≡ clashes k before ++ clash k i
clashes_more k [] i = append_nothing (clash k i)
clashes_more k (j ∷ before) i = ap (λ z. clash k j ++ z) (clashes_more k before i) ∙ sym (append_twice (clash k j) (clashes k before) (clash k i))

pub count_more : (k : Kind) (before : List Inclusion) (i : Inclusion) → length (clashes k (before ++ i ∷ [])) ≡ length (clashes k before) + length (clash k i)
count_more k before i = ap length (clashes_more k before i) ∙ both_long (clashes k before) (clash k i)

short : (same : Bool) (u : Name) → length (if same then [] else u ∷ []) ≤ 1
short true u = omega arith
short false u = omega arith

clash_short : (k : Kind) (i : Inclusion) → length (clash k i) ≤ 1
clash_short k (IClass b a) = omega arith
clash_short k (Exists b r end n) = omega arith
clash_short k (HasValue b u n) = omega arith
clash_short k (IRole r s) = omega arith
clash_short k (IAttr u v) = omega arith
clash_short k (Range u its) = short (same_kind k its) u

clashes_short : (k : Kind) (before : List Inclusion) → length (clashes k before) ≤ length before
clashes_short k [] = omega arith
clashes_short k (i ∷ before) =
    let e = both_long (clash k i) (clashes k before) in let a = clash_short k i in let b = clashes_short k before in omega (arith, e, a, b)

-- an inclusion is noted: the attributes that clash, and how many they are
abbrev ranges_of : List Name → List Name → List Name → Ranges
ranges_of text integer date = record { text = text; integer = integer; date = date }

abbrev tally_of : ℕ → ℕ → ℕ → Tally
tally_of text integer date = record { text = text; integer = integer; date = date }

-- the ranges seen so far, and those that one more inclusion gives
pub noted_ranges : (r : Ranges) (before : List Inclusion) (i : Inclusion) (text integer date : List Name) → r ≡ clashed before
    → text ≡ r.text ++ clash kind.Text i → integer ≡ r.integer ++ clash kind.Integer i → date ≡ r.date ++ clash kind.Date i
    → ranges_of text integer date ≡ clashed (before ++ i ∷ [])
noted_ranges r before i text integer date is a b c =
    let x = a ∙ (ap (λ (z : Ranges). z.text ++ clash kind.Text i) is ∙ sym (clashes_more kind.Text before i)) in
    let y = b ∙ (ap (λ (z : Ranges). z.integer ++ clash kind.Integer i) is ∙ sym (clashes_more kind.Integer before i)) in
    let z = c ∙ (ap (λ (z : Ranges). z.date ++ clash kind.Date i) is ∙ sym (clashes_more kind.Date before i)) in
    ap (λ w. ranges_of w integer date) x ∙ (ap (λ w. ranges_of (clashes kind.Text (before ++ i ∷ [])) w date) y
    ∙ ap (λ w. ranges_of (clashes kind.Text (before ++ i ∷ [])) (clashes kind.Integer (before ++ i ∷ [])) w) z)

-- how many ranges were seen so far, and how many one more inclusion gives
pub noted_tally : (t : Tally) (before : List Inclusion) (i : Inclusion) (text integer date : ℕ) → t ≡ counted before
    → text ≡ length (clash kind.Text i) → integer ≡ length (clash kind.Integer i) → date ≡ length (clash kind.Date i)
    → tally_of (t.text + text) (t.integer + integer) (t.date + date) ≡ counted (before ++ i ∷ [])
noted_tally t before i text integer date is a b c =
    let x : t.text + text ≡ length (clashes kind.Text (before ++ i ∷ [])) =
    ap (λ (z : Tally). z.text + text) is ∙ (ap (λ w. length (clashes kind.Text before) + w) a ∙ sym (count_more kind.Text before i)) in
    let y : t.integer + integer ≡ length (clashes kind.Integer (before ++ i ∷ [])) =
    ap (λ (z : Tally). z.integer + integer) is ∙ (ap (λ w. length (clashes kind.Integer before) + w) b ∙ sym (count_more kind.Integer before i)) in
    let z : t.date + date ≡ length (clashes kind.Date (before ++ i ∷ [])) =
    ap (λ (z : Tally). z.date + date) is ∙ (ap (λ w. length (clashes kind.Date before) + w) c ∙ sym (count_more kind.Date before i)) in
    ap (λ w. tally_of w (t.integer + integer) (t.date + date)) x
    ∙ (ap (λ w. tally_of (length (clashes kind.Text (before ++ i ∷ []))) w (t.date + date)) y
    ∙ ap (λ w. tally_of (length (clashes kind.Text (before ++ i ∷ []))) (length (clashes kind.Integer (before ++ i ∷ []))) w) z)

-- how many violations a range has
pub range_count : (before : List Inclusion) (line n : ℕ) (u : Name) (k : Kind) → n ≡ length (clashes k before) → 1 + n ≡ length (of_inclusion before line (Range u k))
range_count before line n u k e = let m = map_length (of_ranges line u) (clashes k before) in omega (arith, e, m)

items_and : (xs : List (Lined Inclusion)) (l : Lined Inclusion) → items (xs ++ l ∷ []) ≡ items xs ++ l.item ∷ []
items_and [] l = refl
items_and (x ∷ xs) l = ap (λ z. x.item ∷ z) (items_and xs l)

module _ (lines : List (Lined Inclusion)) (i : ℕ) where
  abbrev before : List Inclusion
  before = items (take i lines)

  -- one more line
  pub items_more : (d : Lined Inclusion) → i < length lines → items (take (i + 1) lines) ≡ before ++ (get_or lines i d).item ∷ []
  items_more d l = ap items (take_more lines i d l) ∙ items_and (take i lines) (get_or lines i d)

  -- and its violations
  pub list_next : (d : Lined Inclusion) (old list made : List Violation) → i < length lines → list ++ of_inclusions before (drop i lines) ≡ old
      → made ≡ list ++ of_inclusion before (get_or lines i d).line (get_or lines i d).item
      → made ++ of_inclusions (items (take (i + 1) lines)) (drop (i + 1) lines) ≡ old
  list_next d old list made l kept is =
      let line = get_or lines i d in
      let rest = of_inclusions (before ++ line.item ∷ []) (drop (i + 1) lines) in
      ap (λ z. made ++ of_inclusions z (drop (i + 1) lines)) (items_more d l)
      ∙ (ap (λ z. z ++ rest) is
      ∙ (append_twice list (of_inclusion before line.line line.item) rest
      ∙ (ap (λ z. list ++ of_inclusions before z) (sym (drop_more lines i d l)) ∙ kept)))

  -- the count of the lines so far
  pub record IsCounted (tally : Tally) (count : ℕ) : Type 0 where
    pub seen : tally ≡ counted before
    pub rest : count + length (of_inclusions before (drop i lines)) ≡ length (of_inclusions [] lines)
    pub small : count ≤ 1000001 * i

  -- there are few ranges
  pub tally_small : (tally : Tally) (count : ℕ) → i < length lines → length lines ≤ 1000000 → IsCounted tally count → IsSmall tally
  tally_small tally count l few w =
      let long = map_length (λ (m : Lined Inclusion). m.item) (take i lines) ∙ length-take-le i lines (omega (arith, l)) in
      let a = clashes_short kind.Text before in
      let b = clashes_short kind.Integer before in
      let c = clashes_short kind.Date before in
      let x = ap (λ (z : Tally). z.text) w.seen in
      let y = ap (λ (z : Tally). z.integer) w.seen in
      let z = ap (λ (z : Tally). z.date) w.seen in
      (omega (arith, long, a, x, l, few), (omega (arith, long, b, y, l, few), omega (arith, long, c, z, l, few)))

  -- at the end all violations are counted
  pub all_counted : (tally : Tally) (count : ℕ) → length lines ≤ i → IsCounted tally count → count ≡ length (of_inclusions [] lines)
  all_counted tally count l w =
      let e = ap (λ z. length (of_inclusions before z)) (drop_all i lines l) in let r = w.rest in omega (arith, e, r)

pub counted_none : (lines : List (Lined Inclusion)) → IsCounted lines 0 (tally_of 0 0 0) 0
counted_none lines = record { seen = refl; rest = omega arith; small = omega arith }

pub counted_next : (lines : List (Lined Inclusion)) (i : ℕ) (d : Lined Inclusion) (tally noted : Tally) (count n : ℕ) → i < length lines → IsCounted lines i tally count → n ≤ 1000000
    → ((before : List Inclusion) (line : ℕ) → tally ≡ counted before → n ≡ length (of_inclusion before line (get_or lines i d).item))
    → ((before : List Inclusion) → tally ≡ counted before → noted ≡ counted (before ++ (get_or lines i d).item ∷ []))
    → IsCounted lines (i + 1) noted (count + n)
counted_next lines i d tally noted count n l w few has notes =
    let b = items (take i lines) in
    let line = get_or lines i d in
    let more = items_more lines i d l in
    let first = has b line.line w.seen in
    let parts = ap (λ z. length (of_inclusions b z)) (drop_more lines i d l)
    ∙ both_long (of_inclusion b line.line line.item) (of_inclusions (b ++ line.item ∷ []) (drop (i + 1) lines)) in
    let same = ap (λ z. length (of_inclusions z (drop (i + 1) lines))) more in
    let r = w.rest in
    let s = w.small in
    record {
      seen = notes b w.seen ∙ ap counted (sym more);
      rest = omega (arith, first, parts, same, r);
      small = omega (arith, s, few);
    }
