-- Terminals run through the parser: the queries that begin with them are those that may go on with what is left.
use Rattle.std.proofs.Common.{◌≡◌, inl, inr, ℕ, zero, suc, true, false, List, [], ◌∷◌, ◌++◌, refl, ap, sym, ◌∙◌, subst}
use Rattle.std.proofs.lemmas.List.{append-nil}
use Rattle.std.specs.Prelude.{Option, Some, None, is_some}
use Rattle.mast_source.specs.Grammar.{Begins}
use Rattle.mast_grammar.specs.declared.terminal.Terminal.{Terminal}
use Rattle.mast_grammar.specs.declared.rules.Rule.{Rule}
use Rattle.mast_grammar.specs.declared.rules.Part.{Part}
use Rattle.mast_grammar.specs.declared.rules.Part.TheVariants.{One, The, Maybe, Many}
use Rattle.mast_grammar.specs.Grammar.{IsQuery}
use Rattle.mast_grammar.specs.inside.Rules.{query_parts, Reads}
use Rattle.mast_grammar.specs.Breaches.{MayCome}
use Rattle.mast_grammar.specs.inside.Machine.{step, can_end}
use Rattle.mast_grammar.specs.inside.Predict.{fits, run, closes, some_of}
use Rattle.mast_grammar.proofs.PredictLemmas.{false_true, predicted, query_fits}
use Rattle.mast_grammar.proofs.DerivativeLemmas.{May, step_back, step_forth, never_empty, reads_append}
use Rattle.mast_grammar.proofs.WrittenLemmas.{query_back, query_forth}
use Rattle.mast_grammar.proofs.FitLemmas.{step_fits}

-- what may come where the parser stands; nothing where it has stopped
abbrev pub Goes : Option (List Part) → List Terminal → Type 0
Goes None ks = ⊥
Goes (Some ps) ks = May ps ks

-- parts that can be told apart by every terminal
abbrev pub AllFit : List Part → Type 0
AllFit ps = (k : Terminal) → fits ps k false ≡ true

-- from a step back
goes_back : (ps : List Part) (k : Terminal) (ks : List Terminal) (o : Option (List Part)) → step ps k ≡ o → Goes o ks → May ps (k ∷ ks)
goes_back ps k ks None e g = absurd g
goes_back ps k ks (Some qs) e g = step_back ps k qs ks e g

-- what may come behind terminals may come with them
pub run_back : (ks more : List Terminal) (s : Option (List Part)) → Goes (run s ks) more → Goes s (ks ++ more)
run_back [] more s g = g
run_back (k ∷ ks) more None g = g
run_back (k ∷ ks) more (Some ps) g = goes_back ps k (ks ++ more) (step ps k) refl (run_back ks more (step ps k) g)

-- and what may come with them may come behind them
pub run_forth : (ks more : List Terminal) (ps : List Part) → AllFit ps → May ps (ks ++ more) → Goes (run (Some ps) ks) more
run_forth [] more ps f m = m
run_forth (k ∷ ks) more ps f m =
    let t = step_forth m.0 ps k (ks ++ more) m.1 (f k) in
    subst (λ o. Goes (run o ks) more) (sym t.1) (run_forth ks more t.0 (λ j. step_fits ps k t.0 j t.1 (f j)) t.2)

-- terminals behind terminals
pub run_append : (xs ys : List Terminal) (s : Option (List Part)) → run s (xs ++ ys) ≡ run (run s xs) ys
run_append [] ys s = refl
run_append (k ∷ xs) ys None = none ys
  where
    none : (ys : List Terminal) → None ≡ run None ys
    none [] = refl
    none (k ∷ ys) = refl
run_append (k ∷ xs) ys (Some ps) = run_append xs ys (step ps k)

-- parts of which none must come
pub end_reads : (ps : List Part) → can_end ps ≡ true → May ps []
end_reads [] h = (0, refl)
end_reads (One wanted ∷ ps) h = absurd (false_true h)
end_reads (The r ∷ ps) h = absurd (false_true h)
end_reads (Maybe r ∷ ps) h = let t = end_reads ps h in (suc t.0, inl t.1)
end_reads (Many r ∷ ps) h = let t = end_reads ps h in (suc t.0, inl t.1)

-- of parts that stand for nothing none must come
pub reads_end : (n : ℕ) (ps : List Part) → Reads n ps [] → can_end ps ≡ true
reads_end n [] h = refl
reads_end zero (p ∷ ps) h = absurd h
reads_end (suc n) (One wanted ∷ ps) h = absurd (let e : [] ≡ (wanted ∷ h.0) = h.1 in cc)
reads_end (suc n) (The r ∷ ps) h = absurd (never_empty (suc n) r ps h)
reads_end (suc n) (Maybe r ∷ ps) (inl h) = reads_end n ps h
reads_end (suc n) (Maybe r ∷ ps) (inr h) = absurd (never_empty n r ps h)
reads_end (suc n) (Many r ∷ ps) (inl h) = reads_end n ps h
reads_end (suc n) (Many r ∷ ps) (inr h) = absurd (never_empty n r (Many r ∷ ps) h)

-- where nothing must come nothing may come
closed_goes : (o : Option (List Part)) → closes o ≡ true → Goes o []
closed_goes None h = absurd (false_true h)
closed_goes (Some ps) h = end_reads ps h

-- each rule stands for some terminals
rule_some : (r : Rule) → May (The r ∷ []) (some_of r)
rule_some r = subst (λ x. May (The r ∷ []) x) (append-nil (some_of r)) (run_back (some_of r) [] (Some (The r ∷ [])) (closed_goes (run (Some (The r ∷ [])) (some_of r)) (predicted r).stands))

-- parts have some rest
pub completes : (ps : List Part) → (ks : List Terminal) × May ps ks
completes [] = ([], (0, refl))
completes (One wanted ∷ ps) = let t = completes ps in (wanted ∷ t.0, (suc t.1.0, (t.0, refl, t.1.1)))
completes (The r ∷ ps) =
    let t = completes ps in
    let s = rule_some r in
    (some_of r ++ t.0, reads_append s.0 (The r ∷ []) ps (some_of r) t.0 s.1 t.1)
completes (Maybe r ∷ ps) = let t = completes ps in (t.0, (suc t.1.0, inl t.1.1))
completes (Many r ∷ ps) = let t = completes ps in (t.0, (suc t.1.0, inl t.1.1))

-- before any terminal
abbrev pub begun : Option (List Part)
begun = Some query_parts

-- some query begins with terminals that run somewhere
pub begins_at : (ks : List Terminal) (ps : List Part) → run begun ks ≡ Some ps → Begins IsQuery ks
begins_at ks ps e =
    let c = completes ps in
    let m : May query_parts (ks ++ c.0) = run_back ks c.0 begun (subst (λ o. Goes o c.0) (sym e) c.1) in
    let q = query_back (ks ++ c.0) m in
    (c.0, q.0, q.1)

-- no query begins with terminals that run nowhere
pub stuck_begins : (ks : List Terminal) → run begun ks ≡ None → Begins IsQuery ks → ⊥
stuck_begins ks e b = subst (λ o. Goes o b.0) e (run_forth ks b.0 query_parts query_fits (query_forth (ks ++ b.0) b.1 b.2))

-- where nothing must come the terminals are a query
pub query_at : (ks : List Terminal) (ps : List Part) → run begun ks ≡ Some ps → can_end ps ≡ true → (steps : ℕ) × IsQuery ks steps
query_at ks ps e h =
    query_back ks (subst (λ x. May query_parts x) (append-nil ks) (run_back ks [] begun (subst (λ o. Goes o []) (sym e) (end_reads ps h))))

-- and of a query nothing must come
pub at_query : (ks : List Terminal) (ps : List Part) (steps : ℕ) → run begun ks ≡ Some ps → IsQuery ks steps → can_end ps ≡ true
at_query ks ps steps e h =
    let m : May ps [] = subst (λ o. Goes o []) e (run_forth ks [] query_parts query_fits (subst (λ x. May query_parts x) (sym (append-nil ks)) (query_forth ks steps h))) in
    reads_end m.0 ps m.1

-- the step behind terminals
pub run_more : (ks : List Terminal) (k : Terminal) (ps : List Part) → run begun ks ≡ Some ps → run begun (ks ++ (k ∷ [])) ≡ step ps k
run_more ks k ps e = run_append ks (k ∷ []) begun ∙ ap (λ o. run o (k ∷ [])) e

-- a terminal that may come is stepped over
pub may_come : (ks : List Terminal) (k : Terminal) (ps : List Part) → run begun ks ≡ Some ps → is_some (step ps k) ≡ true → MayCome ks k
may_come ks k ps e h = on (step ps k) refl h
  where
    on : (o : Option (List Part)) → step ps k ≡ o → is_some o ≡ true → MayCome ks k
    on None s g = absurd (false_true g)
    on (Some qs) s g = begins_at (ks ++ (k ∷ [])) qs (run_more ks k ps e ∙ s)

-- and one that is stepped over may come
pub comes : (ks : List Terminal) (k : Terminal) (ps : List Part) → run begun ks ≡ Some ps → MayCome ks k → is_some (step ps k) ≡ true
comes ks k ps e b = on (step ps k) refl
  where
    on : (o : Option (List Part)) → step ps k ≡ o → is_some o ≡ true
    on None s = absurd (stuck_begins (ks ++ (k ∷ [])) (run_more ks k ps e ∙ s) b)
    on (Some qs) s = refl
