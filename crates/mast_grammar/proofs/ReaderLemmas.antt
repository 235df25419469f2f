-- The loop of the reader tells what is told of all terminals.
use Rattle.std.proofs.Common.{◌≡◌, ℕ, suc, ◌+◌, ◌<◌, ◌≤◌, true, false, List, length, drop, get_or, drop-cons, refl, ap, sym, ◌∙◌, subst, arith}
use Rattle.std.specs.Prelude.{Bool, Option, Some, None, if◌then◌else◌}
use Rattle.std.proofs.Math.ListN.{drop_of_length-le}
use Rattle.mast_grammar.specs.declared.terminal.Terminal.{Terminal}
use Rattle.mast_grammar.specs.declared.terminal.Terminal.TheVariants.{From, Sparqltable, Open, Close, OpenBrace, Comma, Dot, Semicolon}
use Rattle.mast_grammar.specs.declared.rules.Part.{Part}
use Rattle.mast_grammar.specs.declared.breach.GrammarKind.{GrammarKind}
use Rattle.mast_grammar.specs.declared.breach.GrammarKind.TheVariants.{Grammar}
use Rattle.mast_grammar.specs.declared.breach.GrammarBreach.{GrammarBreach}
use Rattle.mast_grammar.specs.declared.limits.Counts.{Counts}
use Rattle.mast_grammar.specs.inside.Rules.{query_parts}
use Rattle.mast_grammar.specs.Breaches.{opened, is_operator, operated, listed, braced, parted, Tells}
use Rattle.mast_grammar.specs.inside.Machine.{step, can_end, Steps}
use Rattle.mast_grammar.specs.inside.Reader.{nothing_counted, counting, limit, breach_at, on_end, on_limit, on_step, look, CountsBelow}
use Rattle.mast_grammar.proofs.PredictLemmas.{false_true}
use Rattle.mast_grammar.proofs.LookLemmas.{look_exact}

-- what is told of all terminals
abbrev pub told : List Terminal → Option GrammarBreach
told ks = look 0 nothing_counted query_parts ks

-- no number is above that of the terminals before
pub record CountsWithin (n : ℕ) (c : Counts) : Type 0 where
  pub depth : c.depth ≤ n
  pub operators : c.operators ≤ n
  pub entries : c.entries ≤ n
  pub braces : c.braces ≤ n
  pub separators : c.separators ≤ n

-- what the loop keeps: what is told of the terminals from number i on is what is told of all
pub record Keeps (ks : List Terminal) (ps : List Part) (c : Counts) (i : ℕ) : Type 0 where
  pub tells : look i c ps (drop i ks) ≡ told ks
  pub within : CountsWithin i c

opened_within : (n : ℕ) (k : Terminal) → opened n k ≤ n + 1
opened_within n Open = omega arith
opened_within n Close = omega arith
opened_within n _ = omega arith

listed_within : (n : ℕ) (k : Terminal) → listed n k ≤ n + 1
listed_within n From = omega arith
listed_within n Sparqltable = omega arith
listed_within n _ = omega arith

braced_within : (n : ℕ) (k : Terminal) → braced n k ≤ n + 1
braced_within n Sparqltable = omega arith
braced_within n OpenBrace = omega arith
braced_within n _ = omega arith

parted_within : (n : ℕ) (k : Terminal) → parted n k ≤ n + 1
parted_within n OpenBrace = omega arith
parted_within n Comma = omega arith
parted_within n Dot = omega arith
parted_within n Semicolon = omega arith
parted_within n _ = omega arith

operated_within : (n : ℕ) (k : Terminal) → operated n k ≤ n + 1
operated_within n k = on (is_operator k)
  where
    on : (b : Bool) → (if b then n + 1 else n) ≤ n + 1
    on true = omega arith
    on false = omega arith

within_more : (n : ℕ) (c : Counts) (k : Terminal) → CountsWithin n c → CountsWithin (n + 1) (counting c k)
within_more n c k h =
    record {
      depth = (let l = h.depth in let m : opened c.depth k ≤ c.depth + 1 = opened_within c.depth k in omega arith);
      operators = (let l = h.operators in let m : operated c.operators k ≤ c.operators + 1 = operated_within c.operators k in omega arith);
      entries = (let l = h.entries in let m : listed c.entries k ≤ c.entries + 1 = listed_within c.entries k in omega arith);
      braces = (let l = h.braces in let m : braced c.braces k ≤ c.braces + 1 = braced_within c.braces k in omega arith);
      separators = (let l = h.separators in let m : parted c.separators k ≤ c.separators + 1 = parted_within c.separators k in omega arith);
    }

-- the numbers fit their type
pub counts_below : (n : ℕ) (c : Counts) → n < 4294967295 → CountsWithin n c → CountsBelow 4294967295 c
counts_below n c l h =
    record {
      depth = (let m = h.depth in omega arith);
      operators = (let m = h.operators in omega arith);
      entries = (let m = h.entries in omega arith);
      braces = (let m = h.braces in omega arith);
      separators = (let m = h.separators in omega arith);
    }

-- before any terminal
pub keeps_first : (ks : List Terminal) (ps : List Part) (c : Counts) → ps ≡ query_parts → c ≡ nothing_counted → Keeps ks ps c 0
keeps_first ks ps c e f =
    subst (λ p. Keeps ks p c 0) (sym e) (subst (λ d. Keeps ks query_parts d 0) (sym f) (
    record {
      tells = refl;
      within = record { depth = omega arith; operators = omega arith; entries = omega arith; braces = omega arith; separators = omega arith };
    }
    ))

-- the terminal of number i first
look_here : (ks : List Terminal) (ps : List Part) (c : Counts) (i : ℕ) (d : Terminal) → i < length ks → look i c ps (drop i ks) ≡ on_limit (limit c ps (get_or ks i d)) i (on_step (step ps (get_or ks i d)) i (λ qs. look (i + 1) (counting c (get_or ks i d)) qs (drop (suc i) ks)))
look_here ks ps c i d l = ap (λ x. look i c ps x) (drop-cons ks i d l)

-- a limit is told
pub limit_told : (ks : List Terminal) (ps : List Part) (c : Counts) (i : ℕ) (d : Terminal) (limits : GrammarKind) → Keeps ks ps c i → i < length ks → limit c ps (get_or ks i d) ≡ Some limits → Tells ks (breach_at i limits)
limit_told ks ps c i d limits h l e =
    let k = get_or ks i d in
    let rest = on_step (step ps k) i (λ qs. look (i + 1) (counting c k) qs (drop (suc i) ks)) in
    let t : told ks ≡ breach_at i limits = sym h.tells ∙ (look_here ks ps c i d l ∙ ap (λ o. on_limit o i rest) e) in
    subst (λ x. Tells ks x) t (look_exact ks)

-- a terminal that may not come is told
pub stuck_told : (ks : List Terminal) (ps : List Part) (c : Counts) (i : ℕ) (d : Terminal) → Keeps ks ps c i → i < length ks → limit c ps (get_or ks i d) ≡ None → step ps (get_or ks i d) ≡ None → Tells ks (breach_at i Grammar)
stuck_told ks ps c i d h l e s =
    let k = get_or ks i d in
    let on = (λ (qs : List Part). look (i + 1) (counting c k) qs (drop (suc i) ks)) in
    let t : told ks ≡ breach_at i Grammar = sym h.tells ∙ (look_here ks ps c i d l ∙ (ap (λ o. on_limit o i (on_step (step ps k) i on)) e ∙ ap (λ o. on_step o i on) s)) in
    subst (λ x. Tells ks x) t (look_exact ks)

-- a terminal that may come is stepped over
pub step_keeps : (ks : List Terminal) (ps qs : List Part) (c : Counts) (i : ℕ) (d : Terminal) → Keeps ks ps c i → i < length ks → limit c ps (get_or ks i d) ≡ None → step ps (get_or ks i d) ≡ Some qs → Keeps ks qs (counting c (get_or ks i d)) (i + 1)
step_keeps ks ps qs c i d h l e s =
    let k = get_or ks i d in
    let on = (λ (qs : List Part). look (i + 1) (counting c k) qs (drop (suc i) ks)) in
    let next : suc i ≡ i + 1 = omega arith in
    let t : look i c ps (drop i ks) ≡ look (i + 1) (counting c k) qs (drop (suc i) ks) = look_here ks ps c i d l ∙ (ap (λ o. on_limit o i (on_step (step ps k) i on)) e ∙ ap (λ o. on_step o i on) s) in
    record {
      tells = subst (λ n. look (i + 1) (counting c k) qs (drop n ks) ≡ told ks) next (sym t ∙ h.tells);
      within = within_more i c k h.within;
    }

-- what a step leaves, by its answer
pub stepped : (o : Option (List Part)) (comes : Bool) (new : List Part) → Steps o comes new → comes ≡ true → o ≡ Some new
stepped None comes new h e = absurd (false_true (sym h ∙ e))
stepped (Some ps) comes new h e = ap Some (sym h.1)

-- what is left where it may not come
pub not_stepped : (o : Option (List Part)) (comes : Bool) (new : List Part) → Steps o comes new → comes ≡ false → o ≡ None
not_stepped None comes new h e = refl
not_stepped (Some ps) comes new h e = absurd (false_true (sym e ∙ h.0))

-- at the end
pub end_told : (ks : List Terminal) (ps : List Part) (c : Counts) (i : ℕ) (b : Bool) → Keeps ks ps c i → length ks ≤ i → can_end ps ≡ b → Tells ks (on_end b i)
end_told ks ps c i b h l e =
    let t : told ks ≡ on_end b i = sym h.tells ∙ (ap (λ x. look i c ps x) (drop_of_length-le ks l) ∙ ap (λ x. on_end x i) e) in
    subst (λ x. Tells ks x) t (look_exact ks)
