-- Two parts of a run one after the other, where the contents are told or not.
use Rattle.std.proofs.Common.{◌≡◌, [], ◌∷◌, ◌++◌, Option, Some, None, IfSome, subst, sym, refl}
use Rattle.std.specs.Prelude.{⊤, option_map}
use Rattle.mast_files.specs.Outside.{Contents, Reading}
use Rattle.mast_write.specs.declared.refusals.Refusal.{Refusal}
use Rattle.mast_cli.specs.declared.judged.Judged.{Judged}
use Rattle.mast_cli.specs.declared.judged.Part.{Part}
use Rattle.mast_cli.specs.declared.judged.Part.TheVariants as part
use Rattle.mast_cli.specs.FirstEvent.{Trail, Made, Then, Weighs, fine, stopped}
use Rattle.mast_cli.specs.Outcome.{EndsIn}
use Rattle.mast_cli.specs.Limits.{status_of}
use Rattle.mast_cli.specs.Run.{IsAnswer}
use Rattle.mast_cli.specs.inside.Telling.{AtEvent, Ends, JudgesIn, TellsAs, TellsBytes, TellsPart}
use Rattle.mast_cli.proofs.FirstEventLemmas.{HasOneEnd}
use Rattle.mast_cli.proofs.TellingLemmas.{ends_event, ends_more, first_ended, next_ended}

-- what a part reads is itself
abbrev pub Itself : {T : Type 0} → T → T → Type 0
Itself read x = read ≡ x

-- a part that gives what it read
pub as_itself : {T : Type 0} (Stages : Trail → Option T → Type 0) (reading : Reading) (what : Part T) → TellsPart Stages reading what → TellsAs Itself Stages reading what
as_itself Stages reading (part.Read x) h = (x, refl, h.0, h.1)
as_itself Stages reading (part.Ended judged) h = h

module _ {A B T U : Type 0} (First : Contents → Trail → Option A → Type 0) (Next : Contents → A → Trail → Option B → Type 0)
    (first : (c : Contents) → HasOneEnd (First c)) (next : (c : Contents) (s : Trail) (x : A) → First c s (Some x) → HasOneEnd (Next c x))
    (Is : A → T → Type 0) (Gives : B → U → Type 0) where
  abbrev pub Both : Contents → Trail → Option (A × B) → Type 0
  Both c = Then (First c) (Next c)

  -- the run ends in both
  abbrev pub EndsBoth : Reading → Judged → Contents → Type 0
  EndsBoth reading judged c = Ends (EndsIn (Both c)) (JudgesIn (Both c)) reading judged

  -- the first part ends the run
  pub first_ends : (told : Option Contents) (reading : Reading) (what : Part T) (judged : Judged) → what ≡ part.Ended judged
      → IfSome told (λ c. TellsAs Is (First c) reading what) → IfSome told (EndsBoth reading judged)
  first_ends None reading what judged e h = tt
  first_ends (Some c) reading what judged e h =
      first_ended (First c) (Next c) (first c) (next c) reading judged (subst (TellsAs Is (First c) reading) e h)

  -- what the first part read
  abbrev ReadFirst : T → Contents → Type 0
  ReadFirst x c = (read : A) × Is read x × (stages : Trail) × First c stages (Some read)

  next_at : (c : Contents) (reading : Reading) (x : T) (more : Part U) (judged : Judged) → more ≡ part.Ended judged → ReadFirst x c
      → ((read : A) → Is read x → TellsAs Gives (Next c read) reading more) → EndsBoth reading judged c
  next_at c reading x more judged e h g =
      next_ended (First c) (Next c) (first c) (next c) h.0 h.2 h.3 reading judged (subst (TellsAs Gives (Next c h.0) reading) e (g h.0 h.1))

  -- the second part ends it
  pub next_ends : (told later : Option Contents) (before reading : Reading) (what : Part T) (x : T) (more : Part U) (judged : Judged) (Later : Contents → Type 0)
      → later ≡ told → what ≡ part.Read x → more ≡ part.Ended judged
      → ((c : Contents) (read : A) → Is read x → Later c → TellsAs Gives (Next c read) reading more)
      → IfSome told (λ c. TellsAs Is (First c) before what) → IfSome later Later → IfSome told (EndsBoth reading judged)
  next_ends None later before reading what x more judged Later kept e f moves h g = tt
  next_ends (Some c) later before reading what x more judged Later kept e f moves h g =
      next_at c reading x more judged f (subst (TellsAs Is (First c) before) e h) (λ read is. moves c read is (subst (λ o. IfSome o Later) kept g))

  -- what both parts read
  pub record ReadsBoth (x : T) (y : U) (c : Contents) : Type 0 where
    pub read : A
    pub more : B
    pub is : Is read x
    pub gives : Gives more y
    pub stages : Trail
    pub both : Both c stages (Some (read, more))

  both_at : (c : Contents) (reading : Reading) (x : T) (y : U) (more : Part U) → more ≡ part.Read y → ReadFirst x c
      → ((read : A) → Is read x → TellsAs Gives (Next c read) reading more) → ReadsBoth x y c
  both_at c reading x y more e h g =
      let rest = subst (TellsAs Gives (Next c h.0) reading) e (g h.0 h.1) in record {
        read = h.0;
        more = rest.0;
        is = h.1;
        gives = rest.1;
        stages = h.2 ++ rest.2;
        both = (h.2, rest.2, h.3, rest.3, refl);
      }

  -- nothing ends it
  pub both_read : (told later : Option Contents) (before reading : Reading) (what : Part T) (x : T) (more : Part U) (y : U) (Later : Contents → Type 0)
      → later ≡ told → what ≡ part.Read x → more ≡ part.Read y
      → ((c : Contents) (read : A) → Is read x → Later c → TellsAs Gives (Next c read) reading more)
      → IfSome told (λ c. TellsAs Is (First c) before what) → IfSome later Later → IfSome told (ReadsBoth x y)
  both_read None later before reading what x more y Later kept e f moves h g = tt
  both_read (Some c) later before reading what x more y Later kept e f moves h g =
      both_at c reading x y more f (subst (TellsAs Is (First c) before) e h) (λ read is. moves c read is (subst (λ o. IfSome o Later) kept g))

-- what is made of that which a part read

module _ {A B : Type 0} (make : A → B) (P : Trail → Option A → Type 0) where
  -- it ends the run where the part does
  pub made_ends : (reading : Reading) (judged : Judged) → Ends (EndsIn P) (JudgesIn P) reading judged → Ends (EndsIn (Made make P)) (JudgesIn (Made make P)) reading judged
  made_ends reading judged h =
      ends_more (EndsIn P) (EndsIn (Made make P)) (JudgesIn P) (JudgesIn (Made make P)) reading judged.status judged.text.items
      (λ status text k. (k.0, k.1, (None, k.2, refl), k.3, k.4))
      (λ name k. (k.0, option_map make k.1, (k.1, k.2, refl), k.3)) h

-- a stage that weighs

module _ (HasEvent : Refusal → Type 0) (IsRight : Type 0) (answers : (event : Refusal) → HasEvent event → IsAnswer (status_of event)) where
  -- its event ends the run
  pub weighs_ends : (reading : Reading) (judged : Judged) → AtEvent HasEvent judged.status judged.text.items
      → Ends (EndsIn (Weighs HasEvent IsRight)) (JudgesIn (Weighs HasEvent IsRight)) reading judged
  weighs_ends reading judged h =
      ends_event (EndsIn (Weighs HasEvent IsRight)) (JudgesIn (Weighs HasEvent IsRight)) reading judged.status judged.text.items
      (subst IsAnswer (sym h.2.0) (answers h.0 h.1))
      (stopped h.0 ∷ [], h.0, (h.0, h.1, refl), refl, h.2)

  -- what it tells of what was read
  pub weighs_told : (reading : Reading) (what : Part ⊤) → TellsBytes (λ nothing. IsRight) HasEvent what → TellsAs Itself (Weighs HasEvent IsRight) reading what
  weighs_told reading (part.Read x) h = (x, refl, fine ∷ [], (h, refl))
  weighs_told reading (part.Ended judged) h = weighs_ends reading judged h
