-- The stack of the code, whose next part is the last of its vector, steps as the parser does.
use Rattle.std.proofs.Common.{◌≡◌, true, false, List, [], ◌∷◌, ◌++◌, reverse, refl, ap, sym, ◌∙◌, subst}
use Rattle.std.specs.Prelude.{Bool, Option, Some, None, MatchOption, is_some}
use Rattle.std.proofs.lemmas.List.{reverse-append}
use Rattle.mast_grammar.specs.declared.terminal.Terminal.{Terminal}
use Rattle.mast_grammar.specs.declared.rules.Rule.{Rule}
use Rattle.mast_grammar.specs.declared.rules.Part.{Part}
use Rattle.mast_grammar.specs.declared.rules.Part.TheVariants.{One, The, Maybe, Many}
use Rattle.mast_grammar.specs.inside.Machine.{same, when, behind, enter, on_enter, step, can_end, Enters, Repeats, Steps, found, Tries}
use Rattle.mast_grammar.proofs.PredictLemmas.{false_true}

-- the same vector makes the same stack
pub same_stack : (xs ys : List Part) → xs ≡ ys → reverse xs ≡ reverse ys
same_stack xs ys e = ap reverse e

-- an empty vector makes an empty stack
pub empty_stack : (xs : List Part) → xs ≡ [] → reverse xs ≡ []
empty_stack xs e = ap reverse e

pub ruleset reversed = (same_stack, empty_stack)

-- a part at the end of the vector is the next one
pub pushed : (xs ys : List Part) (x : Part) → ys ≡ xs ++ (x ∷ []) → reverse ys ≡ x ∷ reverse xs
pushed xs ys x e = ap reverse e ∙ reverse-append xs (x ∷ [])

-- the last part is taken first
pub popped : (o : Option Part) (xs ys : List Part) → MatchOption o ((xs ≡ []) × (ys ≡ [])) (λ last. xs ≡ ys ++ (last ∷ [])) → MatchOption o (reverse xs ≡ []) (λ part. reverse xs ≡ part ∷ reverse ys)
popped None xs ys h = ap reverse h.0
popped (Some x) xs ys h = ap reverse h ∙ reverse-append ys (x ∷ [])

-- the rule begins before itself
pub repeats_on : (r : Rule) (o : Option (List Part)) (old mid new : List Part) (begun : Bool) → mid ≡ Many r ∷ old → Enters o mid begun new → begun ≡ true → Repeats r o old true new
repeats_on r None old mid new begun e h t = absurd (false_true (sym h.0 ∙ t))
repeats_on r (Some a) old mid new begun e h t = (refl, h.1 ∙ ap (λ x. a ++ x) e)

-- it does not begin, and is taken away
pub repeats_off : (r : Rule) (o : Option (List Part)) (old mid last new : List Part) (begun : Bool) (p : Option Part) → mid ≡ Many r ∷ old → Enters o mid begun last → begun ≡ false → MatchOption p (last ≡ []) (λ part. last ≡ part ∷ new) → Repeats r o old false new
repeats_off r None old mid last new begun None e h t m = absurd (let g : [] ≡ (Many r ∷ old) = sym m ∙ (h.1 ∙ e) in cc)
repeats_off r None old mid last new begun (Some p) e h t m = (refl, (let g : (p ∷ new) ≡ (Many r ∷ old) = sym m ∙ (h.1 ∙ e) in cc))
repeats_off r (Some a) old mid last new begun p e h t m = absurd (false_true (sym t ∙ h.0))

-- a terminal that is wanted
when_steps : (b : Bool) (ps : List Part) → Steps (when b ps) b ps
when_steps true ps = (refl, refl)
when_steps false ps = refl

pub tries_one : (wanted k : Terminal) (old new : List Part) (comes : Bool) → comes ≡ same wanted k → new ≡ old → Tries (One wanted) old k (Some comes) new
tries_one wanted k old new comes e f =
    subst (λ c. Steps (when (same wanted k) old) c new) (sym e) (subst (λ x. Steps (when (same wanted k) old) (same wanted k) x) (sym f) (when_steps (same wanted k) old))

the_steps : (o : Option (List Part)) (old new : List Part) (begun : Bool) → Enters o old begun new → Steps (behind o old) begun new
the_steps None old new begun h = h.0
the_steps (Some a) old new begun h = h

-- a rule that must come
pub tries_the : (r : Rule) (k : Terminal) (old new : List Part) (begun : Bool) → Enters (enter r k) old begun new → Tries (The r) old k (Some begun) new
tries_the r k old new begun h = the_steps (enter r k) old new begun h

maybe_tries : (o other : Option (List Part)) (old new : List Part) (begun : Bool) → Enters o old begun new → MatchOption (found begun) ((on_enter o other old ≡ other) × (new ≡ old)) (λ comes. Steps (on_enter o other old) comes new)
maybe_tries None other old new true h = absurd (false_true (sym h.0))
maybe_tries None other old new false h = (refl, h.1)
maybe_tries (Some a) other old new true h = h
maybe_tries (Some a) other old new false h = absurd (false_true h.0)

-- a rule that may be left out
pub tries_maybe : (r : Rule) (k : Terminal) (old new : List Part) (begun : Bool) (known : Option Bool) → known ≡ found begun → Enters (enter r k) old begun new → Tries (Maybe r) old k known new
tries_maybe r k old new begun known e h = subst (λ o. Tries (Maybe r) old k o new) (sym e) (maybe_tries (enter r k) (step old k) old new begun h)

many_tries : (r : Rule) (o other : Option (List Part)) (old new : List Part) (begun : Bool) → Repeats r o old begun new → MatchOption (found begun) ((on_enter o other (Many r ∷ old) ≡ other) × (new ≡ old)) (λ comes. Steps (on_enter o other (Many r ∷ old)) comes new)
many_tries r None other old new true h = absurd (false_true (sym h.0))
many_tries r None other old new false h = (refl, h.1)
many_tries r (Some a) other old new true h = h
many_tries r (Some a) other old new false h = absurd (false_true h.0)

-- a rule that may come any number of times
pub tries_many : (r : Rule) (k : Terminal) (old new : List Part) (begun : Bool) (known : Option Bool) → known ≡ found begun → Repeats r (enter r k) old begun new → Tries (Many r) old k known new
tries_many r k old new begun known e h = subst (λ o. Tries (Many r) old k o new) (sym e) (many_tries r (enter r k) (step old k) old new begun h)

pub ruleset tries = (tries_one, tries_the, tries_maybe, tries_many)

-- what follows decides
pub reads_on : (whole : Option (List Part)) (k : Terminal) (part : Part) (old mid new : List Part) (known : Option Bool) → step old k ≡ whole → old ≡ part ∷ mid → Tries part mid k known new → known ≡ None → step new k ≡ whole
reads_on whole k part old mid new known e f h n =
    let t : (step (part ∷ mid) k ≡ step mid k) × (new ≡ mid) = subst (λ o. Tries part mid k o new) n h in
    ap (λ x. step x k) t.1 ∙ (sym t.0 ∙ (ap (λ x. step x k) (sym f) ∙ e))

-- the part decides
pub reads_to : (whole : Option (List Part)) (k : Terminal) (part : Part) (old mid new : List Part) (known : Option Bool) (comes : Bool) → step old k ≡ whole → old ≡ part ∷ mid → Tries part mid k known new → known ≡ Some comes → Steps whole comes new
reads_to whole k part old mid new known comes e f h n =
    let t : Steps (step (part ∷ mid) k) comes new = subst (λ o. Tries part mid k o new) n h in
    subst (λ o. Steps o comes new) (ap (λ x. step x k) (sym f) ∙ e) t

-- no part decides
pub reads_none : (whole : Option (List Part)) (k : Terminal) (old new : List Part) → step old k ≡ whole → old ≡ [] → Steps whole false new
reads_none whole k old new e f = subst (λ o. Steps o false new) (ap (λ x. step x k) (sym f) ∙ e) refl

pub ruleset reads = (reads_on, reads_to, reads_none)

-- a terminal that may come
pub steps_some : (o : Option (List Part)) (comes : Bool) (new : List Part) → Steps o comes new → comes ≡ is_some o
steps_some None comes new h = h
steps_some (Some ps) comes new h = h.0

-- parts of which one must come
pub ends_one : (whole : Bool) (wanted : Terminal) (old mid : List Part) → can_end old ≡ whole → old ≡ One wanted ∷ mid → false ≡ whole
ends_one whole wanted old mid e f = ap can_end (sym f) ∙ e

pub ends_the : (whole : Bool) (r : Rule) (old mid : List Part) → can_end old ≡ whole → old ≡ The r ∷ mid → false ≡ whole
ends_the whole r old mid e f = ap can_end (sym f) ∙ e

-- parts that may be left out
pub ends_maybe : (whole : Bool) (r : Rule) (old mid : List Part) → can_end old ≡ whole → old ≡ Maybe r ∷ mid → can_end mid ≡ whole
ends_maybe whole r old mid e f = ap can_end (sym f) ∙ e

pub ends_many : (whole : Bool) (r : Rule) (old mid : List Part) → can_end old ≡ whole → old ≡ Many r ∷ mid → can_end mid ≡ whole
ends_many whole r old mid e f = ap can_end (sym f) ∙ e

-- no parts
pub ends_none : (whole : Bool) (old : List Part) → can_end old ≡ whole → old ≡ [] → true ≡ whole
ends_none whole old e f = ap can_end (sym f) ∙ e

pub ruleset ends = (ends_one, ends_the, ends_maybe, ends_many, ends_none)
