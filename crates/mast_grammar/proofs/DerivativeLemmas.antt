-- What a terminal leaves of the parts to come is what may come behind it, and the other way.
use Rattle.std.proofs.Common.{◌≡◌, inl, inr, ℕ, zero, suc, true, false, List, [], ◌∷◌, ◌++◌, refl, ap, sym, ◌∙◌, subst, append_assoc}
use Rattle.std.specs.Prelude.{Bool, not, ◌&&◌, ◌||◌, Option, Some, None, is_some}
use Rattle.mast_grammar.specs.declared.terminal.Terminal.{Terminal}
use Rattle.mast_grammar.specs.declared.rules.Rule.{Rule}
use Rattle.mast_grammar.specs.declared.rules.Part.{Part}
use Rattle.mast_grammar.specs.declared.rules.Part.TheVariants.{One, The, Maybe, Many}
use Rattle.mast_grammar.specs.inside.Rules.{alternatives, In, Reads}
use Rattle.mast_grammar.specs.inside.Machine.{same, when, behind, or_else, through, choose, entered, enter, on_enter, step}
use Rattle.mast_grammar.specs.inside.Predict.{all_terminals, is_front, apart_at, ahead, follow, implies, fits}
use Rattle.mast_grammar.proofs.PredictLemmas.{none_some, false_true, one_terminal, same_terminal, both, all_in, among, predicted}

-- the parts may stand for the terminals
abbrev pub May : List Part → List Terminal → Type 0
May ps ks = (n : ℕ) × Reads n ps ks

-- what is given is one
pub some_one : {A : Type 0} (x y : A) → ◌≡◌ {A = Option A} (Some x) (Some y) → x ≡ y
some_one x y e = cc

-- a terminal before what may come
one_back : (wanted k : Terminal) (rest a ps : List Part) (ks : List Terminal) → when (same wanted k) rest ≡ Some a → May (a ++ ps) ks → May (One wanted ∷ (rest ++ ps)) (k ∷ ks)
one_back wanted k rest a ps ks h m = on (same wanted k) refl h
  where
    on : (b : Bool) → same wanted k ≡ b → when b rest ≡ Some a → May (One wanted ∷ (rest ++ ps)) (k ∷ ks)
    on true s g =
        let e : rest ≡ a = some_one rest a g in
        (suc m.0, (ks, ap (λ x. x ∷ ks) (sym (one_terminal wanted k s)), subst (λ x. Reads m.0 (x ++ ps) ks) (sym e) m.1))
    on false s g = absurd (none_some a g)

-- what is to come of a rule may come behind its first terminal
abbrev Back : (Rule → Terminal → Option (List Part)) → Type 0
Back e = (r : Rule) (k : Terminal) (a ps : List Part) (ks : List Terminal) → e r k ≡ Some a → May (a ++ ps) ks → May (The r ∷ ps) (k ∷ ks)

through_back : (e : Rule → Terminal → Option (List Part)) (back : Back e) (alternative : List Part) (k : Terminal) (a ps : List Part) (ks : List Terminal) → through e alternative k ≡ Some a → May (a ++ ps) ks → May (alternative ++ ps) (k ∷ ks)
through_back e back [] k a ps ks h m = absurd (none_some a h)
through_back e back (One wanted ∷ rest) k a ps ks h m = one_back wanted k rest a ps ks h m
through_back e back (The r ∷ rest) k a ps ks h m = on (e r k) refl h
  where
    on : (o : Option (List Part)) → e r k ≡ o → behind o rest ≡ Some a → May (The r ∷ (rest ++ ps)) (k ∷ ks)
    on None s g = absurd (none_some a g)
    on (Some b) s g =
        let same_parts : b ++ rest ≡ a = some_one (b ++ rest) a g in
        let all_parts : (b ++ rest) ++ ps ≡ b ++ (rest ++ ps) = append_assoc b rest ps in
        back r k b (rest ++ ps) ks s (subst (λ x. May x ks) (ap (λ x. x ++ ps) (sym same_parts) ∙ all_parts) m)
through_back e back (Maybe r ∷ rest) k a ps ks h m = absurd (none_some a h)
through_back e back (Many r ∷ rest) k a ps ks h m = absurd (none_some a h)

-- one of the alternatives begins so
pub choose_some : (e : Rule → Terminal → Option (List Part)) (alternatives : List (List Part)) (k : Terminal) (a : List Part) → choose e alternatives k ≡ Some a → (alternative : List Part) × In alternative alternatives × (through e alternative k ≡ Some a)
choose_some e [] k a h = absurd (none_some a h)
choose_some e (x ∷ more) k a h = on (through e x k) (choose e more k) refl refl h (λ g. choose_some e more k a g)
  where
    on : (t o : Option (List Part)) → through e x k ≡ t → choose e more k ≡ o → or_else t o ≡ Some a
        → (choose e more k ≡ Some a → (alternative : List Part) × In alternative more × (through e alternative k ≡ Some a))
        → (alternative : List Part) × In alternative (x ∷ more) × (through e alternative k ≡ Some a)
    on t None s u g next = (x, inl refl, s ∙ g)
    on None (Some b) s u g next = let t = next (u ∙ g) in (t.0, inr t.1, t.2)
    on (Some b) (Some c) s u g next = (x, inl refl, s ∙ g)

entered_back : (n : ℕ) → Back (entered n)
entered_back zero r k a ps ks h m = absurd (none_some a h)
entered_back (suc n) r k a ps ks h m =
    let t = choose_some (entered n) (alternatives r) k a h in
    let u = through_back (entered n) (entered_back n) t.0 k a ps ks t.2 m in
    (suc u.0, (t.0, t.1, u.1))

-- what is to come of a rule may come behind its first terminal
pub enter_back : (r : Rule) (k : Terminal) (a ps : List Part) (ks : List Terminal) → enter r k ≡ Some a → May (a ++ ps) ks → May (The r ∷ ps) (k ∷ ks)
enter_back = entered_back 6

-- what a step leaves may come behind the terminal
pub step_back : (ps : List Part) (k : Terminal) (qs : List Part) (ks : List Terminal) → step ps k ≡ Some qs → May qs ks → May ps (k ∷ ks)
step_back [] k qs ks h m = absurd (none_some qs h)
step_back (One wanted ∷ ps) k qs ks h m = on (same wanted k) refl h
  where
    on : (b : Bool) → same wanted k ≡ b → when b ps ≡ Some qs → May (One wanted ∷ ps) (k ∷ ks)
    on true s g =
        let e : ps ≡ qs = some_one ps qs g in
        (suc m.0, (ks, ap (λ x. x ∷ ks) (sym (one_terminal wanted k s)), subst (λ x. Reads m.0 x ks) (sym e) m.1))
    on false s g = absurd (none_some qs g)
step_back (The r ∷ ps) k qs ks h m = on (enter r k) refl h
  where
    on : (o : Option (List Part)) → enter r k ≡ o → behind o ps ≡ Some qs → May (The r ∷ ps) (k ∷ ks)
    on None s g = absurd (none_some qs g)
    on (Some a) s g = enter_back r k a ps ks s (subst (λ x. May x ks) (sym (some_one (a ++ ps) qs g)) m)
step_back (Maybe r ∷ ps) k qs ks h m = on (enter r k) refl h (λ g. step_back ps k qs ks g m)
  where
    on : (o : Option (List Part)) → enter r k ≡ o → on_enter o (step ps k) ps ≡ Some qs → (step ps k ≡ Some qs → May ps (k ∷ ks)) → May (Maybe r ∷ ps) (k ∷ ks)
    on None s g next = let t = next g in (suc t.0, inl t.1)
    on (Some a) s g next = let t = enter_back r k a ps ks s (subst (λ x. May x ks) (sym (some_one (a ++ ps) qs g)) m) in (suc t.0, inr t.1)
step_back (Many r ∷ ps) k qs ks h m = on (enter r k) refl h (λ g. step_back ps k qs ks g m)
  where
    on : (o : Option (List Part)) → enter r k ≡ o → on_enter o (step ps k) (Many r ∷ ps) ≡ Some qs → (step ps k ≡ Some qs → May ps (k ∷ ks)) → May (Many r ∷ ps) (k ∷ ks)
    on None s g next = let t = next g in (suc t.0, inl t.1)
    on (Some a) s g next = let t = enter_back r k a (Many r ∷ ps) ks s (subst (λ x. May x ks) (sym (some_one (a ++ (Many r ∷ ps)) qs g)) m) in (suc t.0, inr t.1)

-- the terminals begin with one that begins the rule, and what is to come of it may come behind that
abbrev pub Entered : Rule → List Part → List Terminal → Type 0
Entered r ps ks = (k : Terminal) × (more : List Terminal) × (a : List Part) × (ks ≡ (k ∷ more)) × (enter r k ≡ Some a) × May (a ++ ps) more

-- the same of an alternative
abbrev Through : List Part → List Part → List Terminal → Type 0
Through alternative ps ks = (k : Terminal) × (more : List Terminal) × (a : List Part) × (ks ≡ (k ∷ more)) × (through enter alternative k ≡ Some a) × May (a ++ ps) more

-- the first of two alternatives
or_left : (t o : Option (List Part)) (a : List Part) → t ≡ Some a → or_else t o ≡ Some a
or_left t None a e = e
or_left None (Some b) a e = absurd (none_some a e)
or_left (Some c) (Some b) a e = e

-- the second, where the first does not begin so
or_right : (t o : Option (List Part)) (a : List Part) → o ≡ Some a → not (is_some t && is_some o) ≡ true → or_else t o ≡ Some a
or_right t None a e h = absurd (none_some a e)
or_right None (Some b) a e h = e
or_right (Some c) (Some b) a e h = absurd (false_true h)

-- the parser finds the alternative
picks : (alternatives : List (List Part)) (alternative : List Part) (k : Terminal) (a : List Part) → In alternative alternatives → through enter alternative k ≡ Some a → apart_at k alternatives ≡ true → choose enter alternatives k ≡ Some a
picks [] alternative k a i h g = absurd i
picks (x ∷ more) alternative k a (inl e) h g = or_left (through enter x k) (choose enter more k) a (subst (λ y. through enter y k ≡ Some a) e h)
picks (x ∷ more) alternative k a (inr i) h g =
    let t = both (not (is_some (through enter x k) && is_some (choose enter more k))) (apart_at k more) g in
    or_right (through enter x k) (choose enter more k) a (picks more alternative k a i h t.1) t.0

through_forth : (n : ℕ) (rec : (r : Rule) (ps : List Part) (ks : List Terminal) → Reads n (The r ∷ ps) ks → Entered r ps ks) (alternative ps : List Part) (ks : List Terminal) → is_front alternative ≡ true → Reads n (alternative ++ ps) ks → Through alternative ps ks
through_forth n rec [] ps ks f h = absurd (false_true f)
through_forth zero rec (One wanted ∷ rest) ps ks f h = absurd h
through_forth (suc n) rec (One wanted ∷ rest) ps ks f h = (wanted, h.0, rest, h.1, ap (λ b. when b rest) (same_terminal wanted wanted refl), (n, h.2))
through_forth n rec (The r ∷ rest) ps ks f h =
    let t = rec r (rest ++ ps) ks h in
    (t.0, t.1, t.2 ++ rest, t.3, ap (λ o. behind o rest) t.4, subst (λ x. May x t.1) (sym (append_assoc t.2 rest ps)) t.5)
through_forth n rec (Maybe r ∷ rest) ps ks f h = absurd (false_true f)
through_forth n rec (Many r ∷ rest) ps ks f h = absurd (false_true f)

-- what a rule stands for begins with a terminal that begins the rule
pub enter_forth : (n : ℕ) (r : Rule) (ps : List Part) (ks : List Terminal) → Reads n (The r ∷ ps) ks → Entered r ps ks
enter_forth zero r ps ks h = absurd h
enter_forth (suc n) r ps ks h =
    let p = predicted r in
    let t = through_forth n (λ s qs js g. enter_forth n s qs js g) h.0 ps ks (all_in is_front (alternatives r) h.0 p.fronts h.1) h.2 in
    let apart : apart_at t.0 (alternatives r) ≡ true = all_in (λ k. apart_at k (alternatives r)) all_terminals t.0 p.apart (among t.0) in
    (t.0, t.1, t.2, t.3, p.fixed t.0 ∙ picks (alternatives r) h.0 t.0 t.2 h.1 t.4 apart, t.5)

-- the head and the tail of one list
pub heads : (k j : Terminal) (ks js : List Terminal) → (k ∷ ks) ≡ (j ∷ js) → (k ≡ j) × (ks ≡ js)
heads k j ks js e = ((let h : k ≡ j = cc in h), (let t : ks ≡ js = cc in t))

-- no rule stands for nothing
pub never_empty : (n : ℕ) (r : Rule) (ps : List Part) → Reads n (The r ∷ ps) [] → ⊥
never_empty n r ps h = let t = enter_forth n r ps [] h in let e : [] ≡ (t.0 ∷ t.1) = t.3 in cc

or_first : (a b : Bool) → a ≡ true → (a || b) ≡ true
or_first true b e = refl
or_first false b e = absurd (false_true e)

or_second : (a b : Bool) → b ≡ true → (a || b) ≡ true
or_second true b e = refl
or_second false b e = e

-- a rule that the terminal begins
entered_some : (r : Rule) (k : Terminal) (a : List Part) → enter r k ≡ Some a → is_some (enter r k) ≡ true
entered_some r k a e = ap is_some e

-- a rule before whose terminals k stands first
rule_ahead : (n : ℕ) (r : Rule) (ps : List Part) (k : Terminal) (ks : List Terminal) → Reads n (The r ∷ ps) (k ∷ ks) → is_some (enter r k) ≡ true
rule_ahead n r ps k ks h =
    let t = enter_forth n r ps (k ∷ ks) h in
    let e = heads k t.0 ks t.1 t.3 in
    entered_some r k t.2 (ap (λ j. enter r j) e.0 ∙ t.4)

-- what may come is ahead
pub reads_ahead : (n : ℕ) (ps : List Part) (k : Terminal) (ks : List Terminal) → Reads n ps (k ∷ ks) → ahead ps k false ≡ true
reads_ahead n [] k ks h = absurd (let e : (k ∷ ks) ≡ [] = h in cc)
reads_ahead zero (p ∷ ps) k ks h = absurd h
reads_ahead (suc n) (One wanted ∷ ps) k ks h = same_terminal wanted k (sym (heads k wanted ks h.0 h.1).0)
reads_ahead (suc n) (The r ∷ ps) k ks h = rule_ahead (suc n) r ps k ks h
reads_ahead (suc n) (Maybe r ∷ ps) k ks (inl h) = or_second (is_some (enter r k)) (ahead ps k false) (reads_ahead n ps k ks h)
reads_ahead (suc n) (Maybe r ∷ ps) k ks (inr h) = or_first (is_some (enter r k)) (ahead ps k false) (rule_ahead n r ps k ks h)
reads_ahead (suc n) (Many r ∷ ps) k ks (inl h) = or_second (is_some (enter r k)) (ahead ps k false) (reads_ahead n ps k ks h)
reads_ahead (suc n) (Many r ∷ ps) k ks (inr h) = or_first (is_some (enter r k)) (ahead ps k false) (rule_ahead n r (Many r ∷ ps) k ks h)

-- the step that the parser makes, and what may come behind it
abbrev pub Stepped : List Part → Terminal → List Terminal → Type 0
Stepped ps k ks = (qs : List Part) × (step ps k ≡ Some qs) × May qs ks

-- a rule is entered
rule_forth : (n : ℕ) (r : Rule) (ps : List Part) (k : Terminal) (ks : List Terminal) → Reads n (The r ∷ ps) (k ∷ ks) → (a : List Part) × (enter r k ≡ Some a) × May (a ++ ps) ks
rule_forth n r ps k ks h =
    let t = enter_forth n r ps (k ∷ ks) h in
    let e = heads k t.0 ks t.1 t.3 in
    (t.2, ap (λ j. enter r j) e.0 ∙ t.4, subst (λ x. May (t.2 ++ ps) x) (sym e.1) t.5)

-- a part that may be left out is not entered, where what follows comes
skipped : (o : Option (List Part)) (b : Bool) → b ≡ true → not (is_some o && b) ≡ true → o ≡ None
skipped None b e h = refl
skipped (Some a) b e h = absurd (false_true (subst (λ x. not x ≡ true) e h))

-- what may come at parts that can be told apart, may come behind the step
pub step_forth : (n : ℕ) (ps : List Part) (k : Terminal) (ks : List Terminal) → Reads n ps (k ∷ ks) → fits ps k false ≡ true → Stepped ps k ks
step_forth n [] k ks h f = absurd (let e : (k ∷ ks) ≡ [] = h in cc)
step_forth zero (p ∷ ps) k ks h f = absurd h
step_forth (suc n) (One wanted ∷ ps) k ks h f =
    let e = heads k wanted ks h.0 h.1 in
    (ps, ap (λ b. when b ps) (same_terminal wanted k (sym e.0)), (n, subst (λ x. Reads n ps x) (sym e.1) h.2))
step_forth (suc n) (The r ∷ ps) k ks h f =
    let t = rule_forth (suc n) r ps k ks h in
    (t.0 ++ ps, ap (λ o. behind o ps) t.1, t.2)
step_forth (suc n) (Maybe r ∷ ps) k ks (inr h) f =
    let t = rule_forth n r ps k ks h in
    (t.0 ++ ps, ap (λ o. on_enter o (step ps k) ps) t.1, t.2)
step_forth (suc n) (Many r ∷ ps) k ks (inr h) f =
    let t = rule_forth n r (Many r ∷ ps) k ks h in
    (t.0 ++ (Many r ∷ ps), ap (λ o. on_enter o (step ps k) (Many r ∷ ps)) t.1, t.2)
step_forth (suc n) (Maybe r ∷ ps) k ks (inl h) f =
    let b = both (not (is_some (enter r k) && ahead ps k false) && implies (ahead ps k false) (follow r k)) (fits ps k false) f in
    let c = both (not (is_some (enter r k) && ahead ps k false)) (implies (ahead ps k false) (follow r k)) b.0 in
    let none : enter r k ≡ None = skipped (enter r k) (ahead ps k false) (reads_ahead n ps k ks h) c.0 in
    let t = step_forth n ps k ks h b.1 in
    (t.0, ap (λ o. on_enter o (step ps k) ps) none ∙ t.1, t.2)
step_forth (suc n) (Many r ∷ ps) k ks (inl h) f =
    let b = both (not (is_some (enter r k) && ahead ps k false) && implies (is_some (enter r k) || ahead ps k false) (follow r k)) (fits ps k false) f in
    let c = both (not (is_some (enter r k) && ahead ps k false)) (implies (is_some (enter r k) || ahead ps k false) (follow r k)) b.0 in
    let none : enter r k ≡ None = skipped (enter r k) (ahead ps k false) (reads_ahead n ps k ks h) c.0 in
    let t = step_forth n ps k ks h b.1 in
    (t.0, ap (λ o. on_enter o (step ps k) (Many r ∷ ps)) none ∙ t.1, t.2)

-- parts before parts
pub reads_append : (n : ℕ) (ps qs : List Part) (ks js : List Terminal) → Reads n ps ks → May qs js → May (ps ++ qs) (ks ++ js)
reads_append n [] qs ks js h m = subst (λ x. May qs (x ++ js)) (sym h) m
reads_append zero (p ∷ ps) qs ks js h m = absurd h
reads_append (suc n) (One wanted ∷ ps) qs ks js h m =
    let t = reads_append n ps qs h.0 js h.2 m in
    (suc t.0, (h.0 ++ js, ap (λ x. x ++ js) h.1, t.1))
reads_append (suc n) (The r ∷ ps) qs ks js h m =
    let t = reads_append n (h.0 ++ ps) qs ks js h.2 m in
    (suc t.0, (h.0, h.1, subst (λ x. Reads t.0 x (ks ++ js)) (append_assoc h.0 ps qs) t.1))
reads_append (suc n) (Maybe r ∷ ps) qs ks js (inl h) m = let t = reads_append n ps qs ks js h m in (suc t.0, inl t.1)
reads_append (suc n) (Maybe r ∷ ps) qs ks js (inr h) m = let t = reads_append n (The r ∷ ps) qs ks js h m in (suc t.0, inr t.1)
reads_append (suc n) (Many r ∷ ps) qs ks js (inl h) m = let t = reads_append n ps qs ks js h m in (suc t.0, inl t.1)
reads_append (suc n) (Many r ∷ ps) qs ks js (inr h) m = let t = reads_append n (The r ∷ (Many r ∷ ps)) qs ks js h m in (suc t.0, inr t.1)
