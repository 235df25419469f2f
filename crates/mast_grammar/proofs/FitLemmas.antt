-- What a step leaves can be told apart by one terminal, as the parts before it could.
use Rattle.std.proofs.Common.{◌≡◌, ℕ, zero, suc, true, false, List, [], ◌∷◌, ◌++◌, refl, ap, sym, subst}
use Rattle.std.specs.Prelude.{Bool, not, ◌&&◌, ◌||◌, Option, Some, None, is_some}
use Rattle.mast_grammar.specs.declared.terminal.Terminal.{Terminal}
use Rattle.mast_grammar.specs.declared.rules.Rule.{Rule}
use Rattle.mast_grammar.specs.declared.rules.Part.{Part}
use Rattle.mast_grammar.specs.declared.rules.Part.TheVariants.{One, The, Maybe, Many}
use Rattle.mast_grammar.specs.inside.Rules.{alternatives, In}
use Rattle.mast_grammar.specs.inside.Machine.{same, when, behind, through, entered, enter, on_enter, step}
use Rattle.mast_grammar.specs.inside.Predict.{all, all_terminals, ahead, follow, implies, fits}
use Rattle.mast_grammar.proofs.PredictLemmas.{none_some, false_true, both, all_in, among, predicted}
use Rattle.mast_grammar.proofs.DerivativeLemmas.{some_one, choose_some}

-- both tests hold together
pub together : (a b : Bool) → a ≡ true → b ≡ true → (a && b) ≡ true
together true b e f = f
together false b e f = absurd (false_true e)

-- a test that holds has what it implies
implied : (a b : Bool) → implies a b ≡ true → a ≡ true → b ≡ true
implied true b h e = h
implied false b h e = absurd (false_true e)

-- a weaker test implies no more
implies_less : (a b c : Bool) → (b ≡ true → a ≡ true) → implies a c ≡ true → implies b c ≡ true
implies_less a false c l h = refl
implies_less true true c l h = h
implies_less false true c l h = absurd (false_true (l refl))

-- nor does it hold with another where the stronger one does not
apart_less : (e a b : Bool) → (b ≡ true → a ≡ true) → not (e && a) ≡ true → not (e && b) ≡ true
apart_less false a b l h = refl
apart_less true a false l h = refl
apart_less true true true l h = h
apart_less true false true l h = absurd (false_true (l refl))

-- one test or the other
or_less : (e a b : Bool) → (b ≡ true → a ≡ true) → (e || b) ≡ true → (e || a) ≡ true
or_less true a b l h = refl
or_less false a b l h = l h

-- parts behind others
ahead_append : (a ps : List Part) (k : Terminal) (s : Bool) → ahead (a ++ ps) k s ≡ ahead a k (ahead ps k s)
ahead_append [] ps k s = refl
ahead_append (One wanted ∷ a) ps k s = refl
ahead_append (The r ∷ a) ps k s = refl
ahead_append (Maybe r ∷ a) ps k s = ap (λ b. is_some (enter r k) || b) (ahead_append a ps k s)
ahead_append (Many r ∷ a) ps k s = ap (λ b. is_some (enter r k) || b) (ahead_append a ps k s)

-- what is ahead where less may come behind
ahead_less : (ps : List Part) (k : Terminal) (s t : Bool) → (t ≡ true → s ≡ true) → ahead ps k t ≡ true → ahead ps k s ≡ true
ahead_less [] k s t l h = l h
ahead_less (One wanted ∷ ps) k s t l h = h
ahead_less (The r ∷ ps) k s t l h = h
ahead_less (Maybe r ∷ ps) k s t l h = or_less (is_some (enter r k)) (ahead ps k s) (ahead ps k t) (ahead_less ps k s t l) h
ahead_less (Many r ∷ ps) k s t l h = or_less (is_some (enter r k)) (ahead ps k s) (ahead ps k t) (ahead_less ps k s t l) h

-- parts fit where less may come behind
fits_less : (ps : List Part) (k : Terminal) (s t : Bool) → (t ≡ true → s ≡ true) → fits ps k s ≡ true → fits ps k t ≡ true
fits_less [] k s t l h = refl
fits_less (One wanted ∷ ps) k s t l h = fits_less ps k s t l h
fits_less (The r ∷ ps) k s t l h =
    let b = both (implies (ahead ps k s) (follow r k)) (fits ps k s) h in
    together (implies (ahead ps k t) (follow r k)) (fits ps k t)
    (implies_less (ahead ps k s) (ahead ps k t) (follow r k) (ahead_less ps k s t l) b.0) (fits_less ps k s t l b.1)
fits_less (Maybe r ∷ ps) k s t l h =
    let b = both (not (is_some (enter r k) && ahead ps k s) && implies (ahead ps k s) (follow r k)) (fits ps k s) h in
    let c = both (not (is_some (enter r k) && ahead ps k s)) (implies (ahead ps k s) (follow r k)) b.0 in
    together (not (is_some (enter r k) && ahead ps k t) && implies (ahead ps k t) (follow r k)) (fits ps k t)
    (together (not (is_some (enter r k) && ahead ps k t)) (implies (ahead ps k t) (follow r k))
    (apart_less (is_some (enter r k)) (ahead ps k s) (ahead ps k t) (ahead_less ps k s t l) c.0)
    (implies_less (ahead ps k s) (ahead ps k t) (follow r k) (ahead_less ps k s t l) c.1)) (fits_less ps k s t l b.1)
fits_less (Many r ∷ ps) k s t l h =
    let b = both (not (is_some (enter r k) && ahead ps k s) && implies (is_some (enter r k) || ahead ps k s) (follow r k)) (fits ps k s) h in
    let c = both (not (is_some (enter r k) && ahead ps k s)) (implies (is_some (enter r k) || ahead ps k s) (follow r k)) b.0 in
    together (not (is_some (enter r k) && ahead ps k t) && implies (is_some (enter r k) || ahead ps k t) (follow r k)) (fits ps k t)
    (together (not (is_some (enter r k) && ahead ps k t)) (implies (is_some (enter r k) || ahead ps k t) (follow r k))
    (apart_less (is_some (enter r k)) (ahead ps k s) (ahead ps k t) (ahead_less ps k s t l) c.0)
    (implies_less (is_some (enter r k) || ahead ps k s) (is_some (enter r k) || ahead ps k t) (follow r k) (or_less (is_some (enter r k)) (ahead ps k s) (ahead ps k t) (ahead_less ps k s t l)) c.1)) (fits_less ps k s t l b.1)

-- parts that fit before others that fit
fits_append : (a ps : List Part) (k : Terminal) (s : Bool) → fits a k (ahead ps k s) ≡ true → fits ps k s ≡ true → fits (a ++ ps) k s ≡ true
fits_append [] ps k s h g = g
fits_append (One wanted ∷ a) ps k s h g = fits_append a ps k s h g
fits_append (The r ∷ a) ps k s h g =
    let b = both (implies (ahead a k (ahead ps k s)) (follow r k)) (fits a k (ahead ps k s)) h in
    together (implies (ahead (a ++ ps) k s) (follow r k)) (fits (a ++ ps) k s)
    (subst (λ x. implies x (follow r k) ≡ true) (sym (ahead_append a ps k s)) b.0) (fits_append a ps k s b.1 g)
fits_append (Maybe r ∷ a) ps k s h g =
    let b = both (not (is_some (enter r k) && ahead a k (ahead ps k s)) && implies (ahead a k (ahead ps k s)) (follow r k)) (fits a k (ahead ps k s)) h in
    together (not (is_some (enter r k) && ahead (a ++ ps) k s) && implies (ahead (a ++ ps) k s) (follow r k)) (fits (a ++ ps) k s)
    (subst (λ x. (not (is_some (enter r k) && x) && implies x (follow r k)) ≡ true) (sym (ahead_append a ps k s)) b.0) (fits_append a ps k s b.1 g)
fits_append (Many r ∷ a) ps k s h g =
    let b = both (not (is_some (enter r k) && ahead a k (ahead ps k s)) && implies (is_some (enter r k) || ahead a k (ahead ps k s)) (follow r k)) (fits a k (ahead ps k s)) h in
    together (not (is_some (enter r k) && ahead (a ++ ps) k s) && implies (is_some (enter r k) || ahead (a ++ ps) k s) (follow r k)) (fits (a ++ ps) k s)
    (subst (λ x. (not (is_some (enter r k) && x) && implies (is_some (enter r k) || x) (follow r k)) ≡ true) (sym (ahead_append a ps k s)) b.0) (fits_append a ps k s b.1 g)

-- the alternatives of a rule fit where that may come which may follow the rule
alternative_fits : (r : Rule) (alternative : List Part) (k : Terminal) → In alternative (alternatives r) → fits alternative k (follow r k) ≡ true
alternative_fits r alternative k i =
    all_in (λ a. fits a k (follow r k)) (alternatives r) alternative
    (all_in (λ j. all (λ a. fits a j (follow r j)) (alternatives r)) all_terminals k (predicted r).fit (among k)) i

through_fits : (e : Rule → Terminal → Option (List Part)) (fit : (r : Rule) (j : Terminal) (a : List Part) (k : Terminal) → e r j ≡ Some a → fits a k (follow r k) ≡ true) (alternative : List Part) (j : Terminal) (a : List Part) (k : Terminal) (s : Bool) → through e alternative j ≡ Some a → fits alternative k s ≡ true → fits a k s ≡ true
through_fits e fit [] j a k s h g = absurd (none_some a h)
through_fits e fit (One wanted ∷ rest) j a k s h g = on (same wanted j) h
  where
    on : (b : Bool) → when b rest ≡ Some a → fits a k s ≡ true
    on true m = subst (λ x. fits x k s ≡ true) (some_one rest a m) g
    on false m = absurd (none_some a m)
through_fits e fit (The r ∷ rest) j a k s h g = on (e r j) refl h
  where
    on : (o : Option (List Part)) → e r j ≡ o → behind o rest ≡ Some a → fits a k s ≡ true
    on None q m = absurd (none_some a m)
    on (Some b) q m =
        let c = both (implies (ahead rest k s) (follow r k)) (fits rest k s) g in
        let f : fits b k (ahead rest k s) ≡ true = fits_less b k (follow r k) (ahead rest k s) (implied (ahead rest k s) (follow r k) c.0) (fit r j b k q) in
        subst (λ x. fits x k s ≡ true) (some_one (b ++ rest) a m) (fits_append b rest k s f c.1)
through_fits e fit (Maybe r ∷ rest) j a k s h g = absurd (none_some a h)
through_fits e fit (Many r ∷ rest) j a k s h g = absurd (none_some a h)

entered_fits : (n : ℕ) (r : Rule) (j : Terminal) (a : List Part) (k : Terminal) → entered n r j ≡ Some a → fits a k (follow r k) ≡ true
entered_fits zero r j a k h = absurd (none_some a h)
entered_fits (suc n) r j a k h =
    let t = choose_some (entered n) (alternatives r) j a h in
    through_fits (entered n) (λ q i b m g. entered_fits n q i b m g) t.0 j a k (follow r k) t.2 (alternative_fits r t.0 k t.1)

-- what is to come of a rule, before what may follow it
rule_fits : (r : Rule) (j : Terminal) (a ps : List Part) (k : Terminal) → enter r j ≡ Some a → implies (ahead ps k false) (follow r k) ≡ true → fits ps k false ≡ true → fits (a ++ ps) k false ≡ true
rule_fits r j a ps k h l g =
    fits_append a ps k false (fits_less a k (follow r k) (ahead ps k false) (implied (ahead ps k false) (follow r k) l) (entered_fits 6 r j a k h)) g

-- what a step leaves fits
pub step_fits : (ps : List Part) (j : Terminal) (qs : List Part) (k : Terminal) → step ps j ≡ Some qs → fits ps k false ≡ true → fits qs k false ≡ true
step_fits [] j qs k h g = absurd (none_some qs h)
step_fits (One wanted ∷ ps) j qs k h g = on (same wanted j) h
  where
    on : (b : Bool) → when b ps ≡ Some qs → fits qs k false ≡ true
    on true m = subst (λ x. fits x k false ≡ true) (some_one ps qs m) g
    on false m = absurd (none_some qs m)
step_fits (The r ∷ ps) j qs k h g = on (enter r j) refl h
  where
    on : (o : Option (List Part)) → enter r j ≡ o → behind o ps ≡ Some qs → fits qs k false ≡ true
    on None q m = absurd (none_some qs m)
    on (Some a) q m =
        let c = both (implies (ahead ps k false) (follow r k)) (fits ps k false) g in
        subst (λ x. fits x k false ≡ true) (some_one (a ++ ps) qs m) (rule_fits r j a ps k q c.0 c.1)
step_fits (Maybe r ∷ ps) j qs k h g =
    let b = both (not (is_some (enter r k) && ahead ps k false) && implies (ahead ps k false) (follow r k)) (fits ps k false) g in
    let c = both (not (is_some (enter r k) && ahead ps k false)) (implies (ahead ps k false) (follow r k)) b.0 in
    maybe_fits ps j qs k r (enter r j) refl h c.1 b.1 (λ m. step_fits ps j qs k m b.1)
  where
    maybe_fits : (ps : List Part) (j : Terminal) (qs : List Part) (k : Terminal) (r : Rule) (o : Option (List Part)) → enter r j ≡ o → on_enter o (step ps j) ps ≡ Some qs → implies (ahead ps k false) (follow r k) ≡ true → fits ps k false ≡ true
        → (step ps j ≡ Some qs → fits qs k false ≡ true) → fits qs k false ≡ true
    maybe_fits ps j qs k r None q m l g next = next m
    maybe_fits ps j qs k r (Some a) q m l g next = subst (λ x. fits x k false ≡ true) (some_one (a ++ ps) qs m) (rule_fits r j a ps k q l g)
step_fits (Many r ∷ ps) j qs k h g =
    let b = both (not (is_some (enter r k) && ahead ps k false) && implies (is_some (enter r k) || ahead ps k false) (follow r k)) (fits ps k false) g in
    let c = both (not (is_some (enter r k) && ahead ps k false)) (implies (is_some (enter r k) || ahead ps k false) (follow r k)) b.0 in
    many_fits ps j qs k r (enter r j) refl h c.1 g (λ m. step_fits ps j qs k m b.1)
  where
    many_fits : (ps : List Part) (j : Terminal) (qs : List Part) (k : Terminal) (r : Rule) (o : Option (List Part)) → enter r j ≡ o → on_enter o (step ps j) (Many r ∷ ps) ≡ Some qs → implies (is_some (enter r k) || ahead ps k false) (follow r k) ≡ true → fits (Many r ∷ ps) k false ≡ true
        → (step ps j ≡ Some qs → fits qs k false ≡ true) → fits qs k false ≡ true
    many_fits ps j qs k r None q m l g next = next m
    many_fits ps j qs k r (Some a) q m l g next = subst (λ x. fits x k false ≡ true) (some_one (a ++ (Many r ∷ ps)) qs m) (rule_fits r j a (Many r ∷ ps) k q l g)
