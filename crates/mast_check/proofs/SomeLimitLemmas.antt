-- It is decided whether a theory meets a limit.
use Rattle.std.proofs.Common.{◌≡◌, ℕ, zero, suc, ◌+◌, ◌<◌, ◌≤◌, List, [], ◌∷◌, length, Some, ◌⊎◌, inl, inr, refl, sym, ap, subst, arith, slice_get, Contains}
use Rattle.std.proofs.lemmas.Bool.{cases_lt}
use Rattle.std.specs.List.{AllByRecursion}
use Rattle.std.specs.declared.cmp.Ordering.{Ordering}
use Rattle.std.specs.declared.cmp.Ordering.TheVariants.{Less, Equal, Greater}
use Rattle.mast_terms.specs.Vocabularies.{EachOnce}
use Rattle.mast_cq.specs.declared.query.Cq.{Cq}
use Rattle.mast_cq.specs.Queries.{In, query_order}
use Rattle.mast_cq.proofs.ListLemmas.{each_in}
use Rattle.mast_cq.proofs.TotalOrderLemmas.{query_orders}
use Rattle.mast_tbox.specs.Laws.{Decided, IsFinite}
use Rattle.mast_canon.specs.Theories.{Theory, stated}
use Rattle.mast_tbox.specs.Inclusions.{normal}
use Rattle.mast_rewrite.specs.Rewritings.{most, HasMoreThan, Members}
use Rattle.mast_rewrite.proofs.FiniteLemmas.{closure_finite}
use Rattle.mast_rewrite.proofs.DistinctLemmas.{all_have}
use Rattle.mast_rewrite.proofs.ManyLemmas.{contains_in, few}
use Rattle.mast_violate.specs.declared.violation.TheConstants.{MOST_VIOLATIONS}
use Rattle.mast_violate.specs.declared.violation.Violation.{Violation}
use Rattle.mast_violate.specs.Breaches.{violations_of}
use Rattle.mast_check.specs.declared.breach.CheckLimit.{CheckLimit}
use Rattle.mast_check.specs.declared.breach.CheckLimit.TheVariants as limit
use Rattle.mast_check.specs.Limits.{HasFirstLimit, HasNoLimit, IsSmallEnough, IsTooLarge}
use Rattle.mast_check.specs.inside.Limited.{IsOfFirst}
use Rattle.mast_check.proofs.LimitLemmas.{closure_limit}

-- whether two queries are the same is decided
same_query : (q r : Cq) → Decided (q ≡ r)
same_query q r = go (query_order q r) refl
  where
    go : (o : Ordering) → query_order q r ≡ o → Decided (q ≡ r)
    go Less e = inr (λ s. let t = (query_orders.ties q r).1 s in cc)
    go Equal e = inl ((query_orders.ties q r).0 e)
    go Greater e = inr (λ s. let t = (query_orders.ties q r).1 s in cc)

-- and whether a list has a query
has_query : (q : Cq) (rs : List Cq) → Decided (In q rs)
has_query q [] = inr (λ i. i)
has_query q (r ∷ rs) = go (same_query q r) (has_query q rs)
  where
    go : Decided (q ≡ r) → Decided (In q rs) → Decided (In q (r ∷ rs))
    go (inl e) d = inl (inl e)
    go (inr n) (inl i) = inl (inr i)
    go (inr n) (inr m) = inr (λ i. elim i [ inl e ↦ n e | inr j ↦ m j ])

at_in : (rs : List Cq) (i : ℕ) (q : Cq) → slice_get rs i ≡ Some q → In q rs
at_in [] i q e = absurd (cc)
at_in (r ∷ rs) zero q e = inl (cc)
at_in (r ∷ rs) (suc i) q e = inr (at_in rs i q e)

at_first : (r q : Cq) → Some r ≡ Some q → r ≡ q
at_first r q e = cc

once_more : (q : Cq) (rs : List Cq) → (In q rs → ⊥) → EachOnce rs → EachOnce (q ∷ rs)
once_more q rs new once zero zero r a b = refl
once_more q rs new once zero (suc j) r a b = absurd (new (subst (λ x. In x rs) (sym (at_first q r a)) (at_in rs j r b)))
once_more q rs new once (suc i) zero r a b = absurd (new (subst (λ x. In x rs) (sym (at_first q r b)) (at_in rs i r a)))
once_more q rs new once (suc i) (suc j) r a b = ap suc (once i j r a b)

module _ (P : Cq → Type 0) (count : ℕ) where
  -- no more than so many queries, each once: all that are among some
  record AreFew (qs : List Cq) : Type 0 where
    ones : List Cq
    once : EachOnce ones
    have : AllByRecursion P ones
    all : (q : Cq) → In q qs → In q ones
    short : length ones ≤ count

  known : (q : Cq) (qs : List Cq) (w : AreFew qs) → In q w.ones → AreFew (q ∷ qs)
  known q qs w i = record {
    ones = w.ones;
    once = w.once;
    have = w.have;
    all = λ r j. elim j [ inl e ↦ subst (λ x. In x w.ones) (sym e) i | inr k ↦ w.all r k ];
    short = w.short;
  }

  added : (q : Cq) (qs : List Cq) (w : AreFew qs) → P q → (In q w.ones → ⊥) → length w.ones < count → AreFew (q ∷ qs)
  added q qs w p new less = record {
    ones = q ∷ w.ones;
    once = once_more q w.ones new w.once;
    have = (p, w.have);
    all = λ r j. elim j [ inl e ↦ inl e | inr k ↦ inr (w.all r k) ];
    short = omega (arith, less);
  }

  above : (q : Cq) (qs : List Cq) (w : AreFew qs) → P q → (In q w.ones → ⊥) → count ≤ length w.ones → HasMoreThan count P
  above q qs w p new most_ = record {
    queries = q ∷ w.ones;
    many = let short = w.short in omega (arith, most_, short);
    once = once_more q w.ones new w.once;
    have = (p, w.have);
  }

  one_more : (q : Cq) (qs : List Cq) (w : AreFew qs) → P q → Decided (In q w.ones) → (length w.ones < count) ⊎ (count ≤ length w.ones) → AreFew (q ∷ qs) ⊎ HasMoreThan count P
  one_more q qs w p (inl i) size = inl (known q qs w i)
  one_more q qs w p (inr new) (inl less) = inl (added q qs w p new less)
  one_more q qs w p (inr new) (inr more) = inr (above q qs w p new more)

  next_query : (q : Cq) (qs : List Cq) → P q → AreFew qs ⊎ HasMoreThan count P → AreFew (q ∷ qs) ⊎ HasMoreThan count P
  next_query q qs p (inl w) = one_more q qs w p (has_query q w.ones) (cases_lt (length w.ones) count)
  next_query q qs p (inr more) = inr more

  counted : (qs : List Cq) → AllByRecursion P qs → AreFew qs ⊎ HasMoreThan count P
  counted [] h = inl (record { ones = []; once = λ i j q a b. absurd (at_in [] i q a); have = tt; all = λ q i. absurd i; short = omega arith })
  counted (q ∷ qs) h = next_query q qs h.0 (counted qs h.1)

  no_more_than : (qs : List Cq) → AreFew qs → ((q : Cq) → P q → In q qs) → HasMoreThan count P → ⊥
  no_more_than qs w all h =
      let long = few h.queries w.ones h.once (λ q i. w.all q (all q (each_in P q h.queries h.have i))) in
      let many = h.many in
      let short = w.short in
      omega (arith, long, many, short)

  -- whether more than so many of finitely many queries have the property is decided
  more_decided : IsFinite P → Decided (HasMoreThan count P)
  more_decided finite =
      go (counted finite.members (in_all finite.members (λ q c. (finite.are q).0 c)))
    where
      in_all : (qs : List Cq) → ((q : Cq) → Contains qs q → P q) → AllByRecursion P qs
      in_all qs h = all_have P qs h

      go : AreFew finite.members ⊎ HasMoreThan count P → Decided (HasMoreThan count P)
      go (inl w) = inr (no_more_than finite.members w (λ q p. contains_in finite.members q ((finite.are q).1 p)))
      go (inr more) = inl more

module _ (theory : Theory) where
  -- whether the closure of a violation's query is too large is decided
  size_decided : (v : Violation) → Decided (IsTooLarge theory v)
  size_decided v = more_decided (Members theory v.query) most (closure_finite (normal (stated theory)) v.query)

  next_size : (v : Violation) (vs : List Violation) → Decided (IsTooLarge theory v) → AllByRecursion (IsSmallEnough theory) vs ⊎ ((its : CheckLimit) × IsOfFirst theory vs its)
      → AllByRecursion (IsSmallEnough theory) (v ∷ vs) ⊎ ((its : CheckLimit) × IsOfFirst theory (v ∷ vs) its)
  next_size v vs (inl large) rest = inr (limit.Closure v.origin (most + 1), inl (large, (refl, refl)))
  next_size v vs (inr small) (inl rest) = inl (small, rest)
  next_size v vs (inr small) (inr rest) = inr (rest.0, inr (small, rest.1))

  sizes : (vs : List Violation) → AllByRecursion (IsSmallEnough theory) vs ⊎ ((its : CheckLimit) × IsOfFirst theory vs its)
  sizes [] = inl tt
  sizes (v ∷ vs) = next_size v vs (size_decided v) (sizes vs)

  closures_or : length (violations_of theory) ≤ MOST_VIOLATIONS → AllByRecursion (IsSmallEnough theory) (violations_of theory) ⊎ ((its : CheckLimit) × IsOfFirst theory (violations_of theory) its)
      → HasNoLimit theory ⊎ ((its : CheckLimit) × HasFirstLimit theory its)
  closures_or few_ (inl small) = inl (record { few = few_; closures = small })
  closures_or few_ (inr first) = inr (first.0, closure_limit theory first.0 few_ first.1)

  limit_or : (MOST_VIOLATIONS < length (violations_of theory)) ⊎ (length (violations_of theory) ≤ MOST_VIOLATIONS) → HasNoLimit theory ⊎ ((its : CheckLimit) × HasFirstLimit theory its)
  limit_or (inl many) = inr (limit.Violations, many)
  limit_or (inr few_) = closures_or few_ (sizes (violations_of theory))

  -- a theory meets no limit, or there is a first one
  pub some_limit : HasNoLimit theory ⊎ ((its : CheckLimit) × HasFirstLimit theory its)
  some_limit = limit_or (cases_lt MOST_VIOLATIONS (length (violations_of theory)))
