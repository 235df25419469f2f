-- Rewriting is complete: each tuple that a query has over the facts that hold, some member of its closure has through Down.
use Rattle.std.proofs.Common.{◌≡◌, ℕ, zero, suc, ◌≤◌, List, [], ◌∷◌, map, length, sym, refl, subst, arith}
use Rattle.std.specs.List.{AllByRecursion}
use Rattle.mast_terms.specs.declared.term.Term.{Term}
use Rattle.mast_cq.specs.declared.query.Cq.{Cq}
use Rattle.mast_cq.specs.Meanings.{Fact, Gives, MetBy, HasTuple}
use Rattle.mast_cq.specs.NormalForms.{Occurs, Spread}
use Rattle.mast_cq.specs.Queries.{Takes, first, later}
use Rattle.mast_cq.specs.Sorts.{EachHasOneSort}
use Rattle.mast_cq.proofs.SettleLemmas.{normal_form_spread}
use Rattle.mast_cq.proofs.TakesLemmas.{each_takes}
use Rattle.mast_tbox.specs.declared.axiom.Inclusion.{Inclusion}
use Rattle.mast_tbox.specs.Laws.{HasNoEnd, NumbersDiffer}
use Rattle.mast_tbox.specs.Lists.{Reaches, itself, onward}
use Rattle.mast_canon.specs.CertainAnswers.{MetThrough, HasThrough}
use Rattle.mast_canon.specs.Derivations.{Holds}
use Rattle.mast_canon.specs.Elements.{Element, Named}
use Rattle.mast_canon.proofs.ThroughLemmas.{through_down}
use Rattle.mast_rewrite.specs.Closures.{ClosureStep}
use Rattle.mast_rewrite.proofs.DeeperLemmas.{deeper}
use Rattle.mast_rewrite.proofs.DepthLemmas.{depth, list_depth, list_bound}
use Rattle.mast_rewrite.proofs.FlatLemmas.{rooted, match_named, gives_terms}
use Rattle.mast_rewrite.proofs.MemberLemmas.{closure_step_fewer, closure_step_sorts}

-- what holds of each that can be taken out holds of all
each_taken : {X : Type 0} (P : X → Type 0) (xs : List X) → ((x : X) (rest : List X) → Takes xs x rest → P x) → AllByRecursion P xs
each_taken P [] k = tt
each_taken P (x ∷ xs) k = (k x xs first, each_taken P xs (λ y rest t. k y (x ∷ rest) (later t)))

module _ (tbox : List Inclusion) (F : Fact Term → Type 0) (constant : ℕ → Term) (none : HasNoEnd tbox) where
  abbrev by_name : ℕ → Element
  by_name c = Named (constant c)

  abbrev H : Fact Element → Type 0
  H f = Holds tbox F f

  -- where no variable stands for a successor, the query has the tuple through Down
  pub shallow : (s : ℕ → Element) (q : Cq) (tuple : List Term) → AllByRecursion (MetBy by_name H s) q.atoms → Gives by_name s q.answer (map Named tuple)
      → list_depth s q.atoms ≡ 0 → HasThrough tbox constant F q tuple
  shallow s q tuple each gives flat = record {
    under = rooted constant s;
    each = each_taken (MetThrough tbox constant F (rooted constant s)) q.atoms (λ g rest t.
        let w = (each_takes (MetBy by_name H s) t each).0 in
        let depths : (n : ℕ) → Occurs n g → depth (s n) ≡ 0 = λ n o. (let b = list_bound s n t o in omega arith) in
        (through_down constant (rooted constant s) tbox F none g).0 (record { fact = w.fact; matches = match_named constant s g w.fact depths w.matches; holds = w.holds }));
    answers = gives_terms constant s q.answer tuple gives;
  }

  -- some query that steps lead to has the tuple through Down
  pub record Found (q : Cq) (tuple : List Term) : Type 0 where
    pub member : Cq
    pub reached : Reaches (ClosureStep tbox) q member
    pub has : HasThrough tbox constant F member tuple

  module _ (differ : NumbersDiffer tbox) where
    by_depth : (q : Cq) (tuple : List Term) → Spread q → EachHasOneSort q.atoms → (h : HasTuple by_name H q (map Named tuple))
        → ((next : Cq) → ClosureStep tbox q next → Spread next → HasTuple by_name H next (map Named tuple) → Found next tuple)
        → (d : ℕ) → list_depth h.under q.atoms ≡ d → Found q tuple
    by_depth q tuple spread one h further zero e = record { member = q; reached = itself; has = shallow h.under q tuple h.each h.answers e }
    by_depth q tuple spread one h further (suc d) e =
        let w = deeper tbox F constant h.under none differ q tuple spread one h.each h.answers (omega arith) in
        let v = further w.next w.step (subst Spread (sym w.is_normal) (normal_form_spread w.before)) w.has in
        record { member = v.member; reached = onward w.step v.reached; has = v.has }

    -- by the number of atoms, which falls at each step
    by_length : (most : ℕ) (q : Cq) (tuple : List Term) → length q.atoms ≤ most → Spread q → EachHasOneSort q.atoms → HasTuple by_name H q (map Named tuple) → Found q tuple
    by_length zero q tuple few spread one h =
        by_depth q tuple spread one h (λ next step sp has. (let l = closure_step_fewer tbox q next step in absurd (omega arith))) (list_depth h.under q.atoms) refl
    by_length (suc most) q tuple few spread one h =
        by_depth q tuple spread one h
        (λ next step sp has. (let l = closure_step_fewer tbox q next step in by_length most next tuple (omega arith) sp (closure_step_sorts tbox q next step one) has))
        (list_depth h.under q.atoms) refl

    -- a query in normal form that has a tuple leads to one that has it through Down
    pub found : (q : Cq) (tuple : List Term) → Spread q → EachHasOneSort q.atoms → HasTuple by_name H q (map Named tuple) → Found q tuple
    found q tuple spread one h = by_length (length q.atoms) q tuple (omega arith) spread one h
