-- Parts of a run have one end each, and so have they one after the other.
use Rattle.std.proofs.Common.{◌≡◌, ◌⊎◌, inl, inr, List, ℕ, [], ◌∷◌, ◌++◌, Option, Some, None, subst, sym, ap, ◌∙◌, refl}
use Rattle.std.proofs.lemmas.Option.{none-some, same_Some}
use Rattle.std.specs.Prelude.{⊤, option_map}
use Rattle.std.specs.Option.{option_or}
use Rattle.mast_write.specs.declared.refusals.Refusal.{Refusal}
use Rattle.mast_cli.specs.FirstEvent.{Trail, first_event, IsJudgedIn, Reads, Weighs, fine, stopped, Then, Made, Weighed}

-- a part of a run has one end: its stages, with what it read or an event
pub record HasOneEnd {A : Type 0} (P : Trail → Option A → Type 0) : Type 0 where
  pub some : (stages : Trail) × (end : Option A) × P stages end
  pub one : (s t : Trail) (x y : Option A) → P s x → P t y → (s ≡ t) × (x ≡ y)
  pub quiet : (s : Trail) (x : A) → P s (Some x) → first_event s ≡ None
  pub loud : (s : Trail) → P s None → (event : Refusal) × (first_event s ≡ Some event)

-- stages one after the other

neither : (a b : Option Refusal) → option_or a b ≡ None → (a ≡ None) × (b ≡ None)
neither None b h = (refl, h)
neither (Some x) b h = absurd (cc)

later_event : (a b : Option Refusal) → a ≡ None → option_or a b ≡ b
later_event None b h = refl
later_event (Some x) b h = absurd (cc)

-- behind stages without an event the first event is that of the others
pub first-append : (a b : Trail) → first_event a ≡ None → first_event (a ++ b) ≡ first_event b
first-append [] b h = refl
first-append (stage ∷ a) b h =
    let both = neither stage.event (first_event a) h in
    later_event stage.event (first_event (a ++ b)) both.0 ∙ first-append a b both.1

-- a file that is judged is judged behind stages without an event
pub judged-later : (a b : Trail) (name : List ℕ) → first_event a ≡ None → IsJudgedIn b name → IsJudgedIn (a ++ b) name
judged-later [] b name quiet h = h
judged-later (stage ∷ a) b name quiet h =
    let both = neither stage.event (first_event a) quiet in
    inr (both.0, judged-later a b name both.1 h)

-- and before others
pub judged-before : (a b : Trail) (name : List ℕ) → IsJudgedIn a name → IsJudgedIn (a ++ b) name
judged-before [] b name h = absurd h
judged-before (stage ∷ a) b name (inl e) = inl e
judged-before (stage ∷ a) b name (inr h) = inr (h.0, judged-before a b name h.1)

-- one stage

module _ {A : Type 0} (name : List ℕ) (HasEvent : Refusal → Type 0) (Has : A → Type 0) where
  reads_some : ((x : A) × Has x) ⊎ ((event : Refusal) × HasEvent event) → (stages : Trail) × (end : Option A) × Reads name HasEvent Has stages end
  reads_some (inl h) = (record { file = Some name; event = None } ∷ [], Some h.0, (h.1, refl))
  reads_some (inr h) = (record { file = Some name; event = Some h.0 } ∷ [], None, (h.0, h.1, refl))

  abbrev at_event : Refusal → Trail
  at_event event = record { file = Some name; event = Some event } ∷ []

  reads_one : ((x : A) (event : Refusal) → Has x → HasEvent event → ⊥)
      → ((x y : A) → Has x → Has y → x ≡ y) → ((e f : Refusal) → HasEvent e → HasEvent f → e ≡ f)
      → (s t : Trail) (x y : Option A) → Reads name HasEvent Has s x → Reads name HasEvent Has t y → (s ≡ t) × (x ≡ y)
  reads_one not one_x one_e s t None None h g = (h.2 ∙ ap at_event (one_e h.0 g.0 h.1 g.1) ∙ sym g.2, refl)
  reads_one not one_x one_e s t None (Some y) h g = absurd (not y h.0 g.0 h.1)
  reads_one not one_x one_e s t (Some x) None h g = absurd (not x g.0 h.0 g.1)
  reads_one not one_x one_e s t (Some x) (Some y) h g = (h.1 ∙ sym g.1, ap (λ z. Some z) (one_x x y h.0 g.0))

  -- a stage that reads a file has one end, if its content has one event or is read as one thing
  pub one_reads : ((x : A) × Has x) ⊎ ((event : Refusal) × HasEvent event)
      → ((x : A) (event : Refusal) → Has x → HasEvent event → ⊥)
      → ((x y : A) → Has x → Has y → x ≡ y) → ((e f : Refusal) → HasEvent e → HasEvent f → e ≡ f)
      → HasOneEnd (Reads name HasEvent Has)
  one_reads either not one_x one_e = record {
    some = reads_some either;
    one = reads_one not one_x one_e;
    quiet = λ s x h. ap first_event h.1;
    loud = λ s h. (h.0, ap first_event h.2);
  }

-- a stage that weighs

module _ (HasEvent : Refusal → Type 0) (IsRight : Type 0) where
  weighs_some : IsRight ⊎ ((event : Refusal) × HasEvent event) → (stages : Trail) × (end : Option ⊤) × Weighs HasEvent IsRight stages end
  weighs_some (inl h) = (fine ∷ [], Some tt, (h, refl))
  weighs_some (inr h) = (stopped h.0 ∷ [], None, (h.0, h.1, refl))

  abbrev stopped_at : Refusal → Trail
  stopped_at event = stopped event ∷ []

  weighs_one : ((event : Refusal) → IsRight → HasEvent event → ⊥) → ((e f : Refusal) → HasEvent e → HasEvent f → e ≡ f)
      → (s t : Trail) (x y : Option ⊤) → Weighs HasEvent IsRight s x → Weighs HasEvent IsRight t y → (s ≡ t) × (x ≡ y)
  weighs_one not one_e s t None None h g = (h.2 ∙ ap stopped_at (one_e h.0 g.0 h.1 g.1) ∙ sym g.2, refl)
  weighs_one not one_e s t None (Some y) h g = absurd (not h.0 g.0 h.1)
  weighs_one not one_e s t (Some x) None h g = absurd (not g.0 h.0 g.1)
  weighs_one not one_e s t (Some x) (Some y) h g = (h.1 ∙ sym g.1, refl)

  -- a stage that weighs has one end, if it has one event or all is right
  pub one_weighs : IsRight ⊎ ((event : Refusal) × HasEvent event) → ((event : Refusal) → IsRight → HasEvent event → ⊥)
      → ((e f : Refusal) → HasEvent e → HasEvent f → e ≡ f) → HasOneEnd (Weighs HasEvent IsRight)
  one_weighs either not one_e = record {
    some = weighs_some either;
    one = weighs_one not one_e;
    quiet = λ s x h. ap first_event h.1;
    loud = λ s h. (h.0, ap first_event h.2);
  }

-- two parts

module _ {A B : Type 0} (First : Trail → Option A → Type 0) (Next : A → Trail → Option B → Type 0) (first : HasOneEnd First) (next : (s : Trail) (x : A) → First s (Some x) → HasOneEnd (Next x)) where
  next_some : (x : A) (s t : Trail) (end : Option B) → First s (Some x) → Next x t end → (stages : Trail) × (end : Option (A × B)) × Then First Next stages end
  next_some x s t None h g = (s ++ t, None, inr (x, s, t, h, g, refl))
  next_some x s t (Some y) h g = (s ++ t, Some (x, y), (s, t, h, g, refl))

  then_some : (s : Trail) (end : Option A) → First s end → (stages : Trail) × (end : Option (A × B)) × Then First Next stages end
  then_some s None h = (s, None, inl h)
  then_some s (Some x) h = let rest = (next s x h).some in next_some x s rest.0 rest.1 h rest.2

  parts_one : (b c s t : Trail) (x z : A) (e f : Option B) → First b (Some x) → First c (Some z) → Next x s e → Next z t f → (b ++ s ≡ c ++ t) × (x ≡ z) × (e ≡ f)
  parts_one b c s t x z e f h k g l =
      let front = first.one b c (Some x) (Some z) h k in
      let same : x ≡ z = same_Some x z front.1 in
      let rest = (next b x h).one s t e f g (subst (λ w. Next w t f) (sym same) l) in
      (ap (λ (w : Trail). w ++ s) front.0 ∙ ap (λ (w : Trail). c ++ w) rest.0, same, rest.1)

  then_one : (s t : Trail) (x y : Option (A × B)) → Then First Next s x → Then First Next t y → (s ≡ t) × (x ≡ y)
  then_one s t None None (inl h) (inl g) = let same = first.one s t None None h g in (same.0, refl)
  then_one s t None None (inl h) (inr g) = absurd (none-some g.0 ((first.one s g.1 None (Some g.0) h g.3).1))
  then_one s t None None (inr h) (inl g) = absurd (none-some h.0 ((first.one t h.1 None (Some h.0) g h.3).1))
  then_one s t None None (inr h) (inr g) =
      let same = parts_one h.1 g.1 h.2 g.2 h.0 g.0 None None h.3 g.3 h.4 g.4 in
      (h.5 ∙ same.0 ∙ sym g.5, refl)
  then_one s t None (Some y) (inl h) g = absurd (none-some y.0 ((first.one s g.0 None (Some y.0) h g.2).1))
  then_one s t None (Some y) (inr h) g = absurd (none-some y.1 ((parts_one h.1 g.0 h.2 g.1 h.0 y.0 None (Some y.1) h.3 g.2 h.4 g.3).2))
  then_one s t (Some x) None h (inl g) = absurd (none-some x.0 ((first.one t h.0 None (Some x.0) g h.2).1))
  then_one s t (Some x) None h (inr g) = absurd (none-some x.1 ((parts_one g.1 h.0 g.2 h.1 g.0 x.0 None (Some x.1) g.3 h.2 g.4 h.3).2))
  then_one s t (Some x) (Some y) h g =
      let same = parts_one h.0 g.0 h.1 g.1 x.0 y.0 (Some x.1) (Some y.1) h.2 g.2 h.3 g.3 in
      let second : x.1 ≡ y.1 = same_Some x.1 y.1 same.2 in
      (h.4 ∙ same.0 ∙ sym g.4, ap (λ z. Some (z, x.1)) same.1 ∙ ap (λ z. Some (y.0, z)) second)

  then_quiet : (s : Trail) (x : A × B) → Then First Next s (Some x) → first_event s ≡ None
  then_quiet s x h = ap first_event h.4 ∙ first-append h.0 h.1 (first.quiet h.0 x.0 h.2) ∙ (next h.0 x.0 h.2).quiet h.1 x.1 h.3

  then_loud : (s : Trail) → Then First Next s None → (event : Refusal) × (first_event s ≡ Some event)
  then_loud s (inl h) = first.loud s h
  then_loud s (inr h) =
      let rest = (next h.1 h.0 h.3).loud h.2 h.4 in
      (rest.0, ap first_event h.5 ∙ first-append h.1 h.2 (first.quiet h.1 h.0 h.3) ∙ rest.1)

  -- two parts one after the other have one end
  pub one_then : HasOneEnd (Then First Next)
  one_then = record {
    some = then_some first.some.0 first.some.1 first.some.2;
    one = then_one;
    quiet = then_quiet;
    loud = then_loud;
  }

-- what is made of that which was read

module _ {A B : Type 0} (P : Trail → Option A → Type 0) (f : A → B) (part : HasOneEnd P) where
  made_quiet : (s : Trail) (x : B) (end : Option A) → P s end → Some x ≡ option_map f end → first_event s ≡ None
  made_quiet s x None h e = absurd (cc)
  made_quiet s x (Some y) h e = part.quiet s y h

  made_loud : (s : Trail) (end : Option A) → P s end → None ≡ option_map f end → (event : Refusal) × (first_event s ≡ Some event)
  made_loud s None h e = part.loud s h
  made_loud s (Some y) h e = absurd (none-some (f y) e)

  made_one : (s t : Trail) (x y : Option B) (a b : Option A) → P s a → P t b → x ≡ option_map f a → y ≡ option_map f b → (s ≡ t) × (x ≡ y)
  made_one s t x y a b h g e k =
      let same = part.one s t a b h g in
      (same.0, e ∙ ap (option_map f) same.1 ∙ sym k)

  -- it has one end too
  pub one_made : HasOneEnd (Made f P)
  one_made = record {
    some = (part.some.0, option_map f part.some.1, (part.some.1, part.some.2, refl));
    one = λ s t x y h g. made_one s t x y h.0 g.0 h.1 g.1 h.2 g.2;
    quiet = λ s x h. made_quiet s x h.0 h.1 h.2;
    loud = λ s h. made_loud s h.0 h.1 h.2;
  }

-- a part and then a stage that weighs what it read

module _ {A : Type 0} (P : Trail → Option A → Type 0) (HasEvent : A → Refusal → Type 0) (IsRight : A → Type 0) (part : HasOneEnd P)
    (weighs : (s : Trail) (x : A) → P s (Some x) → HasOneEnd (Weighs (HasEvent x) (IsRight x))) where
  -- they have one end
  pub one_weighed : HasOneEnd (Weighed P HasEvent IsRight)
  one_weighed = one_made (Then P (λ x. Weighs (HasEvent x) (IsRight x))) (λ both. both.0) (one_then P (λ x. Weighs (HasEvent x) (IsRight x)) part weighs)
