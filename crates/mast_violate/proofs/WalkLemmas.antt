-- The walks of identifications: they are met where their paths lead to a common end.
use Rattle.std.proofs.Common.{◌≡◌, ℕ, zero, suc, ◌+◌, ◌-◌, ◌<◌, ◌≤◌, ◌⊎◌, inl, inr, List, [], ◌∷◌, ◌++◌, length, refl, sym, ap, ◌∙◌, subst, arith}
use Rattle.std.specs.List.{AllByRecursion}
use Rattle.mast_cq.specs.declared.atom.Arg.TheVariants.{Var}
use Rattle.mast_cq.specs.declared.atom.Atom.{Atom}
use Rattle.mast_cq.specs.declared.atom.Atom.TheVariants.{Class}
use Rattle.mast_cq.specs.Meanings.{Fact, InClass, MetBy}
use Rattle.mast_tbox.specs.declared.constraint.Step.{Step}
use Rattle.mast_tbox.specs.declared.constraint.Step.TheVariants.{Role as SRole, Test, Attr as SAttr}
use Rattle.mast_tbox.specs.declared.expression.Basic.{Basic}
use Rattle.mast_tbox.specs.declared.expression.Prop.{Prop}
use Rattle.mast_tbox.specs.declared.expression.Prop.TheVariants.{Role as PRole, Attr as PAttr}
use Rattle.mast_tbox.specs.ConstraintForms.{HasPathForm}
use Rattle.mast_tbox.specs.Expressions.{pair}
use Rattle.mast_tbox.specs.Restrictions.{along}
use Rattle.mast_canon.specs.Memberships.{pair_fact, IsIn, LeadsTo, ShareEnd}
use Rattle.mast_violate.specs.Patterns.{new_or_end, walk, end_of, both_walks, all_walks, identified_pattern}
use Rattle.mast_violate.proofs.MetLemmas.{vars_met, meets_vars, class_met, meets_class, at_met, meets_at}
use Rattle.mast_violate.proofs.PairLemmas.{three}

-- what holds of each of two lists holds of each of both
each_of_both : {X : Type 0} (Q : X → Type 0) (xs ys : List X) → AllByRecursion Q xs → AllByRecursion Q ys → AllByRecursion Q (xs ++ ys)
each_of_both Q [] ys a b = b
each_of_both Q (x ∷ xs) ys a b = (a.0, each_of_both Q xs ys a.1 b)

each_first : {X : Type 0} (Q : X → Type 0) (xs ys : List X) → AllByRecursion Q (xs ++ ys) → AllByRecursion Q xs
each_first Q [] ys a = tt
each_first Q (x ∷ xs) ys a = (a.0, each_first Q xs ys a.1)

each_second : {X : Type 0} (Q : X → Type 0) (xs ys : List X) → AllByRecursion Q (xs ++ ys) → AllByRecursion Q ys
each_second Q [] ys a = a
each_second Q (x ∷ xs) ys a = each_second Q xs ys a.1

-- where the last of these walks ends
to_end : (n new end : ℕ) → new_or_end n end (new_or_end n new end) ≡ end
to_end zero new end = refl
to_end (suc n) new end = refl

at_end : (n x e : ℕ) → 1 ≤ n → new_or_end n e x ≡ e
at_end zero x e l = absurd (omega (arith, l))
at_end (suc n) x e l = refl

-- the assignment with one variable changed; at it, and at others
pub put : {X : Type 0} → ℕ → X → (ℕ → X) → ℕ → X
put zero t s zero = t
put zero t s (suc m) = s (suc m)
put (suc n) t s zero = s zero
put (suc n) t s (suc m) = put n t (λ k. s (suc k)) m

-- what was put at a number stands there
pub put_here : {X : Type 0} (n : ℕ) (t : X) (s : ℕ → X) → put n t s n ≡ t
unfolding put
put_here zero t s = refl
put_here (suc n) t s = put_here n t (λ k. s (suc k))

-- and everything else is as it was
pub put_else : {X : Type 0} (n : ℕ) (t : X) (s : ℕ → X) (m : ℕ) → (n ≡ m → ⊥) → put n t s m ≡ s m
unfolding put
put_else zero t s zero d = absurd (d refl)
put_else zero t s (suc m) d = refl
put_else (suc n) t s zero d = refl
put_else (suc n) t s (suc m) d = put_else n t (λ k. s (suc k)) m (λ e. d (ap suc e))

-- the variable is none of those that a walk of this length makes between its first and its end
abbrev IsOutside : (v new n : ℕ) → Type 0
IsOutside v new n = (v < new) ⊎ (new + n ≤ suc v)

outside_last : (v new : ℕ) → IsOutside v new 1 → IsOutside v (suc new) 0
outside_last v new (inl l) = inl (omega (arith, l))
outside_last v new (inr l) = inr (omega (arith, l))

outside_later : (v new k : ℕ) → IsOutside v new (suc (suc k)) → IsOutside v (suc new) (suc k)
outside_later v new k (inl l) = inl (omega (arith, l))
outside_later v new k (inr l) = inr (omega (arith, l))

outside_other : (v new k : ℕ) → IsOutside v new (suc (suc k)) → new ≡ v → ⊥
outside_other v new k (inl l) e = omega (arith, l, e)
outside_other v new k (inr l) e = omega (arith, l, e)

module _ {X : Type 0} (constant : ℕ → X) (P : Fact X → Type 0) where
  abbrev AreMet : (ℕ → X) → List Atom → Type 0
  AreMet s atoms = AllByRecursion (MetBy constant P s) atoms

  pair_leads : (p : Prop) (s : ℕ → X) (from to : ℕ) (path : List Step) (end : X) → MetBy constant P s (pair p (Var from) (Var to)) → LeadsTo P path (s to) end
      → (v : X) × (P (pair_fact p (s from) v) × LeadsTo P path v end)
  pair_leads p s from to path end m h = (s to, (vars_met constant P s p from to m, h))

  -- a path leads where the walk of it does
  walk_met : (path : List Step) (from new end : ℕ) (s : ℕ → X) → AreMet s (walk from new end path)
      → LeadsTo P path (s from) (s (new_or_end (length (along path)) end from))
  walk_met [] from new end s m = refl
  walk_met (SRole r ∷ path) from new end s m =
      let n = length (along path) in
      let to = new_or_end n new end in
      pair_leads (PRole r) s from to path (s end) m.0 (subst (λ z. LeadsTo P path (s to) (s z)) (to_end n new end) (walk_met path to (suc new) end s m.1))
  walk_met (Test a ∷ path) from new end s m = (class_met constant P s a from m.0, walk_met path from new end s m.1)
  walk_met (SAttr u ∷ path) from new end s m =
      let n = length (along path) in
      let to = new_or_end n new end in
      pair_leads (PAttr u) s from to path (s end) m.0 (subst (λ z. LeadsTo P path (s to) (s z)) (to_end n new end) (walk_met path to (suc new) end s m.1))

  -- tests alone stay
  tests_stay : (path : List Step) (t u : X) → length (along path) ≡ 0 → LeadsTo P path t u → t ≡ u
  tests_stay [] t u e h = h
  tests_stay (SRole r ∷ path) t u e h = absurd (omega (arith, e))
  tests_stay (Test a ∷ path) t u e h = tests_stay path t u e h.1
  tests_stay (SAttr v ∷ path) t u e h = absurd (omega (arith, e))

  -- an assignment that differs from one in the variables between alone, and meets the atoms, as each does that agrees with it below the bound
  record IsWalked (s : ℕ → X) (new n bound : ℕ) (atoms : List Atom) : Type 0 where
    under : ℕ → X
    same : (v : ℕ) → IsOutside v new n → under v ≡ s v
    met : (t : ℕ → X) → ((v : ℕ) → v < bound → t v ≡ under v) → AreMet t atoms

  -- what the walk of a path is to be, from whatever variable to whatever end
  abbrev Walks : List Step → Type 0
  Walks path = (from new end bound : ℕ) (s : ℕ → X) → IsOutside from new (length (along path)) → IsOutside end new (length (along path))
      → from < bound → end < bound → new + length (along path) ≤ suc bound
      → LeadsTo P path (s from) (s (new_or_end (length (along path)) end from)) → IsWalked s new (length (along path)) bound (walk from new end path)

  -- a step by a property, before a path that goes so many times along properties
  module _ (p : Prop) (path : List Step) (walks : Walks path) (from new end bound : ℕ) (s : ℕ → X) (from_small : from < bound) (end_small : end < bound) where
    last_step : length (along path) ≡ 0 → IsOutside from new 1 → IsOutside end new 1 → new + 1 ≤ suc bound → (v : X) → P (pair_fact p (s from) v) → LeadsTo P path v (s end)
        → IsWalked s new 1 bound (pair p (Var from) (Var end) ∷ walk end (suc new) end path)
    last_step e from_out end_out small v h rest =
        let stays = tests_stay path v (s end) e rest in
        let out = subst (IsOutside end (suc new)) (sym e) (outside_last end new end_out) in
        let leads = subst (λ z. LeadsTo P path (s end) (s (new_or_end z end end))) (sym e) (subst (λ z. LeadsTo P path z (s end)) stays rest) in
        let w = walks end (suc new) end bound s out out end_small end_small (omega (arith, e, small)) leads in
        let same = λ (x : ℕ) (o : IsOutside x new 1). w.same x (subst (IsOutside x (suc new)) (sym e) (outside_last x new o)) in
        record {
          under = w.under;
          same = same;
          met = λ t agree. (
            meets_vars constant P t p from end
                (subst (λ z. P (pair_fact p z (t end))) (sym (agree from from_small ∙ same from from_out))
                (subst (λ z. P (pair_fact p (s from) z)) (stays ∙ sym (agree end end_small ∙ same end end_out)) h)),
            w.met t agree,
          );
        }

    further_step : (k : ℕ) → length (along path) ≡ suc k → IsOutside from new (suc (suc k)) → IsOutside end new (suc (suc k)) → new + suc (suc k) ≤ suc bound
        → (v : X) → P (pair_fact p (s from) v) → LeadsTo P path v (s end)
        → IsWalked s new (suc (suc k)) bound (pair p (Var from) (Var new) ∷ walk new (suc new) end path)
    further_step k e from_out end_out small v h rest =
        let s' = put new v s in
        let here = put_here new v s in
        let else = λ (x : ℕ) (o : IsOutside x new (suc (suc k))). put_else new v s x (outside_other x new k o) in
        let later = λ (x : ℕ) (o : IsOutside x new (suc (suc k))). subst (IsOutside x (suc new)) (sym e) (outside_later x new k o) in
        let leads = subst (λ z. LeadsTo P path (s' new) (s' (new_or_end z end new))) (sym e)
        (subst (λ z. LeadsTo P path z (s' end)) (sym here) (subst (LeadsTo P path v) (sym (else end end_out)) rest)) in
        let w = walks new (suc new) end bound s' (inl (omega arith)) (later end end_out) (omega (arith, small)) end_small (omega (arith, e, small)) leads in
        let same = λ (x : ℕ) (o : IsOutside x new (suc (suc k))). w.same x (later x o) ∙ else x o in
        let at_new = w.same new (inl (omega arith)) ∙ here in
        record {
          under = w.under;
          same = same;
          met = λ t agree. (
            meets_vars constant P t p from new
                (subst (λ z. P (pair_fact p z (t new))) (sym (agree from from_small ∙ same from from_out))
                (subst (λ z. P (pair_fact p (s from) z)) (sym (agree new (omega (arith, small)) ∙ at_new)) h)),
            w.met t agree,
          );
        }

    some_step : (n : ℕ) → length (along path) ≡ n → IsOutside from new (suc n) → IsOutside end new (suc n) → new + suc n ≤ suc bound
        → (v : X) → P (pair_fact p (s from) v) → LeadsTo P path v (s end)
        → IsWalked s new (suc n) bound (pair p (Var from) (Var (new_or_end n new end)) ∷ walk (new_or_end n new end) (suc new) end path)
    some_step zero e from_out end_out small v h rest = last_step e from_out end_out small v h rest
    some_step (suc k) e from_out end_out small v h rest = further_step k e from_out end_out small v h rest

  -- where a path leads, its walk is met
  meets_walk : (path : List Step) → Walks path
  meets_walk [] from new end bound s from_out end_out from_small end_small small h = record { under = s; same = λ v o. refl; met = λ t agree. tt }
  meets_walk (SRole r ∷ path) from new end bound s from_out end_out from_small end_small small (v, (h, rest)) =
      some_step (PRole r) path (meets_walk path) from new end bound s from_small end_small (length (along path)) refl from_out end_out small v h rest
  meets_walk (Test a ∷ path) from new end bound s from_out end_out from_small end_small small (h, rest) =
      let w = meets_walk path from new end bound s from_out end_out from_small end_small small rest in
      record {
        under = w.under;
        same = w.same;
        met = λ t agree. (
          meets_class constant P t a from (subst (λ z. P (InClass a z)) (sym (agree from from_small ∙ w.same from from_out)) h),
          w.met t agree,
        );
      }
  meets_walk (SAttr u ∷ path) from new end bound s from_out end_out from_small end_small small (v, (h, rest)) =
      some_step (PAttr u) path (meets_walk path) from new end bound s from_small end_small (length (along path)) refl from_out end_out small v h rest

  -- both walks of a path
  both_met : (path : List Step) (new : ℕ) (s : ℕ → X) → 1 ≤ length (along path) → AreMet s (both_walks new (length (along path)) path) → ShareEnd P (s 0) (s 1) path
  both_met path new s long m =
      let n = length (along path) in
      let e = end_of new n in
      let ends = λ (x : ℕ). at_end n x e long in (
        s e,
        (
          subst (λ z. LeadsTo P path (s 0) (s z)) (ends 0) (walk_met path 0 new e s (each_first (MetBy constant P s) (walk 0 new e path) (walk 1 (new + n) e path) m)),
          subst (λ z. LeadsTo P path (s 1) (s z)) (ends 1) (walk_met path 1 (new + n) e s (each_second (MetBy constant P s) (walk 0 new e path) (walk 1 (new + n) e path) m)),
        ),
      )

  -- an assignment that agrees with one below the first variable, and meets the atoms, as each does that agrees with it below the next one
  record AreWalked (s : ℕ → X) (new next : ℕ) (atoms : List Atom) : Type 0 where
    under : ℕ → X
    same : (v : ℕ) → v < new → under v ≡ s v
    met : (t : ℕ → X) → ((v : ℕ) → v < next → t v ≡ under v) → AreMet t atoms

  meets_both : (path : List Step) (new : ℕ) (s : ℕ → X) → 1 ≤ length (along path) → 2 ≤ new → ShareEnd P (s 0) (s 1) path
      → AreWalked s new (end_of (new + length (along path)) (length (along path))) (both_walks new (length (along path)) path)
  meets_both path new s long high (end, (from_first, from_second)) =
      let n = length (along path) in
      let e = end_of new n in
      let next = end_of (new + n) n in
      let s' = put e end s in
      let here = put_here e end s in
      let kept = λ (x : ℕ) (l : x < new). put_else e end s x (λ i. omega (arith, l, i, long)) in
      let is_long : new + n ≤ suc e = omega (arith, long) in
      let leads = subst (λ z. LeadsTo P path (s' 0) (s' z)) (sym (at_end n 0 e long))
      (subst (λ z. LeadsTo P path z (s' e)) (sym (kept 0 (omega (arith, high)))) (subst (LeadsTo P path (s 0)) (sym here) from_first)) in
      let a = meets_walk path 0 new e (new + n) s' (inl (omega (arith, high))) (inr is_long) (omega (arith, high)) (omega (arith, long)) (omega arith) leads in
      let kept_first = λ (x : ℕ) (l : x < new). a.same x (inl l) ∙ kept x l in
      let leads_too = subst (λ z. LeadsTo P path (a.under 1) (a.under z)) (sym (at_end n 1 e long))
      (subst (λ z. LeadsTo P path z (a.under e)) (sym (kept_first 1 (omega (arith, high)))) (subst (LeadsTo P path (s 1)) (sym (a.same e (inr is_long) ∙ here)) from_second)) in
      let b = meets_walk path 1 (new + n) e next a.under (inl (omega (arith, high))) (inl (omega (arith, long))) (omega (arith, high, long)) (omega (arith, long)) (omega (arith, long)) leads_too in
      record {
        under = b.under;
        same = λ v l. b.same v (inl (omega (arith, l))) ∙ kept_first v l;
        met = λ t agree. each_of_both (MetBy constant P t) (walk 0 new e path) (walk 1 (new + n) e path)
            (a.met t (λ v l. agree v (omega (arith, l, long)) ∙ b.same v (inl l))) (b.met t agree);
      }

  -- all walks of some paths
  all_met : (paths : List (List Step)) (new : ℕ) (s : ℕ → X) → AllByRecursion HasPathForm paths → AreMet s (all_walks new paths) → AllByRecursion (ShareEnd P (s 0) (s 1)) paths
  all_met [] new s formed m = tt
  all_met (path ∷ paths) new s formed m =
      let n = length (along path) in
      let next = end_of (new + n) n in (
        both_met path new s formed.0.long (each_first (MetBy constant P s) (both_walks new n path) (all_walks next paths) m),
        all_met paths next s formed.1 (each_second (MetBy constant P s) (both_walks new n path) (all_walks next paths) m),
      )

  -- an assignment that agrees with one below the first variable, and meets the atoms
  record IsMet (s : ℕ → X) (new : ℕ) (atoms : List Atom) : Type 0 where
    under : ℕ → X
    same : (v : ℕ) → v < new → under v ≡ s v
    met : AreMet under atoms

  meets_all : (paths : List (List Step)) (new : ℕ) (s : ℕ → X) → AllByRecursion HasPathForm paths → 2 ≤ new → AllByRecursion (ShareEnd P (s 0) (s 1)) paths → IsMet s new (all_walks new paths)
  meets_all [] new s formed high h = record { under = s; same = λ v l. refl; met = tt }
  meets_all (path ∷ paths) new s formed high h =
      let n = length (along path) in
      let next = end_of (new + n) n in
      let long = formed.0.long in
      let a = meets_both path new s long high h.0 in
      let rest = subst (λ z. AllByRecursion (ShareEnd P z (a.under 1)) paths) (sym (a.same 0 (omega (arith, high))))
      (subst (λ z. AllByRecursion (ShareEnd P (s 0) z) paths) (sym (a.same 1 (omega (arith, high)))) h.1) in
      let b = meets_all paths next a.under formed.1 (omega (arith, high, long)) rest in
      record {
        under = b.under;
        same = λ v l. b.same v (omega (arith, l, long)) ∙ a.same v l;
        met = each_of_both (MetBy constant P b.under) (both_walks new n path) (all_walks next paths) (a.met b.under b.same) b.met;
      }

  -- the pattern of an identification is met where two are in the concept and share ends
  abbrev pub AreIdentified : Basic → List (List Step) → X → X → Type 0
  AreIdentified concept paths t u = IsIn P concept t × (IsIn P concept u × AllByRecursion (ShareEnd P t u) paths)

  pub identified_met : (concept : Basic) (paths : List (List Step)) (s : ℕ → X) → AllByRecursion HasPathForm paths → AreMet s (identified_pattern concept paths)
      → AreIdentified concept paths (s 0) (s 1)
  identified_met concept paths s formed m = (at_met constant P s concept 0 m.0, (at_met constant P s concept 1 m.1.0, all_met paths 2 s formed m.1.1))

  -- and there alone
  pub meets_identified : (concept : Basic) (paths : List (List Step)) (t u : X) → AllByRecursion HasPathForm paths → AreIdentified concept paths t u
      → (s : ℕ → X) × ((t ≡ s 0) × ((u ≡ s 1) × AreMet s (identified_pattern concept paths)))
  meets_identified concept paths t u formed (one, (other, shares)) =
      let a = meets_all paths 2 (three constant P t u u) formed (omega arith) shares in
      let first = sym (a.same 0 (omega arith)) in
      let second = sym (a.same 1 (omega arith)) in (
        a.under,
        (
          first,
          (
            second,
            (
              meets_at constant P a.under concept 0 (subst (IsIn P concept) first one),
              (meets_at constant P a.under concept 1 (subst (IsIn P concept) second other), a.met),
            ),
          ),
        ),
      )
