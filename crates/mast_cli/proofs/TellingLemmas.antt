-- How what the parts of a run tell becomes what the run tells.
use Rattle.std.proofs.Common.{◌≡◌, ◌∙◌, ◌+◌, ◌-◌, ◌≤◌, ℕ, List, [], ◌∷◌, ◌++◌, Option, Some, None, Result, Ok, Err, IfOk, IfSome, length, take, subst, sym, inl, inr, refl, arith}
use Rattle.std.proofs.lemmas.List.{length-append}
use Rattle.mast_terms.specs.Answers.{Answers}
use Rattle.mast_terms.specs.declared.memory.NoMemory.{NoMemory}
use Rattle.mast_terms.specs.declared.memory.Stop.{Stop}
use Rattle.mast_terms.specs.declared.memory.Stop.TheVariants as stop
use Rattle.mast_files.specs.Causes.{Rose}
use Rattle.mast_files.specs.Outside.{Contents, Reading, Writing, Tells, Gains}
use Rattle.mast_files.specs.States.{SoundFilesState, SoundSinkState, left_within}
use Rattle.mast_files.proofs.OutsideLemmas.{Tells-told}
use Rattle.mast_write.specs.declared.refusals.Refusal.{Refusal}
use Rattle.mast_cli.specs.declared.judged.Judged.{Judged}
use Rattle.mast_cli.specs.declared.judged.Part.{Part}
use Rattle.mast_cli.specs.declared.judged.Part.TheVariants as part
use Rattle.mast_cli.specs.declared.status.Status.{Status}
use Rattle.mast_cli.specs.declared.status.Status.TheVariants as st
use Rattle.mast_cli.specs.FirstEvent.{Trail, IsJudgedIn, Reads, Then}
use Rattle.mast_cli.specs.Limits.{status_of}
use Rattle.mast_cli.specs.Outcome.{EndsIn, Outcome, Judges}
use Rattle.mast_cli.specs.Run.{Words, IsAnswer, FailedFile, GivesOutcome, GivesFront, GivesPart, WritesSoundly, TellsText}
use Rattle.mast_cli.specs.inside.Causes.{HasCause, JudgedHasCause}
use Rattle.mast_cli.specs.inside.Telling.{AtEvent, EndsAs, Ends, JudgesIn, PartAt, TellsBytes, TellsPart, TellsRun}
use Rattle.mast_cli.proofs.FirstEventLemmas.{HasOneEnd, first-append, judged-later, judged-before}

-- an event ends a run as P
pub ends_event : (P : Status → List ℕ → Type 0) (Q : List ℕ → Type 0) (reading : Reading) (status : Status) (text : List ℕ) → IsAnswer status → P status text → EndsAs P Q reading status text
ends_event P Q reading st.Done text a h = h
ends_event P Q reading st.Usage text a h = h
ends_event P Q reading st.Refused text a h = h
ends_event P Q reading st.Conflict text a h = h
ends_event P Q reading st.Limit text a h = h
ends_event P Q reading st.ReadFault text a h = absurd a
ends_event P Q reading st.WriteFault text a h = absurd a
ends_event P Q reading st.NoMemory text a h = absurd a

-- a read fault of the current file ends a run
pub ends_fault : (P : Status → List ℕ → Type 0) (Q : List ℕ → Type 0) (reading : Reading) (status : Status) (text name : List ℕ) → status ≡ st.ReadFault → reading.current ≡ Some name → Q name → EndsAs P Q reading status text
ends_fault P Q reading status text name e current q = subst (λ s. EndsAs P Q reading s text) (sym e) (name, current, q)

-- how a run ends, where what it may end as is more
pub ends_more : (P P' : Status → List ℕ → Type 0) (Q Q' : List ℕ → Type 0) (reading : Reading) (status : Status) (text : List ℕ) → ((s : Status) (t : List ℕ) → P s t → P' s t) → ((name : List ℕ) → Q name → Q' name) → EndsAs P Q reading status text → EndsAs P' Q' reading status text
ends_more P P' Q Q' reading st.Done text p q h = p st.Done text h
ends_more P P' Q Q' reading st.Usage text p q h = p st.Usage text h
ends_more P P' Q Q' reading st.Refused text p q h = p st.Refused text h
ends_more P P' Q Q' reading st.Conflict text p q h = p st.Conflict text h
ends_more P P' Q Q' reading st.Limit text p q h = p st.Limit text h
ends_more P P' Q Q' reading st.ReadFault text p q h = (h.0, h.1, q h.0 h.2)
ends_more P P' Q Q' reading st.WriteFault text p q h = p st.WriteFault text h
ends_more P P' Q Q' reading st.NoMemory text p q h = p st.NoMemory text h

-- what ends at an event of bytes tells of them
pub ends_bytes : {T : Type 0} (P : T → Type 0) (Q : Refusal → Type 0) (event : Refusal) (r : Result (Part T) NoMemory) → Q event → IfOk r (PartAt event) → IfOk r (TellsBytes P Q)
ends_bytes P Q event (Err e) q h = tt
ends_bytes P Q event (Ok (part.Read x)) q h = absurd h
ends_bytes P Q event (Ok (part.Ended judged)) q h = (event, q, h)

-- the refusal of which an answer tells
pub refusal_of : {T E : Type 0} (P : T → Type 0) (Q : E → Type 0) (stopped : Stop E) (refusal : E) → stopped ≡ stop.Named refusal → Answers {T = T} (Err stopped) P Q → Q refusal
refusal_of {T} P Q stopped refusal is h = subst (λ s. Answers {T = T} (Err s) P Q) is h

-- a stage that reads a file

-- a stage that reads a file judges it
pub reads_judged : {A : Type 0} (name : List ℕ) (HasEvent : Refusal → Type 0) (Has : A → Type 0) (stages : Trail) (end : Option A) → Reads name HasEvent Has stages end → IsJudgedIn stages name
reads_judged name HasEvent Has stages None h = subst (λ s. IsJudgedIn s name) (sym h.2) (inl refl)
reads_judged name HasEvent Has stages (Some x) h = subst (λ s. IsJudgedIn s name) (sym h.1) (inl refl)

reads_ends : {A : Type 0} (name : List ℕ) (HasEvent : Refusal → Type 0) (Has : A → Type 0) (status : Status) (text : List ℕ) → AtEvent HasEvent status text → EndsIn (Reads name HasEvent Has) status text
reads_ends name HasEvent Has status text h = (record { file = Some name; event = Some h.0 } ∷ [], h.0, (h.0, h.1, refl), refl, h.2)

-- an end at an event of which more holds
pub at_more : (P Q : Refusal → Type 0) → ((event : Refusal) → P event → Q event) → (status : Status) (text : List ℕ) → AtEvent P status text → AtEvent Q status text
at_more P Q more status text h = (h.0, more h.0 h.1, h.2)

module _ {A : Type 0} (name : List ℕ) (HasEvent : Refusal → Type 0) (Has : A → Type 0) (some : (stages : Trail) × (end : Option A) × Reads name HasEvent Has stages end) where
  abbrev Stage : Trail → Option A → Type 0
  Stage stages end = Reads name HasEvent Has stages end

  pub reads_judges : (current : List ℕ) → current ≡ name → JudgesIn Stage current
  reads_judges current same =
      (some.0, some.1, some.2, subst (λ n. IsJudgedIn some.0 n) (sym same) (reads_judged name HasEvent Has some.0 some.1 some.2))

  -- the stage ends at an event that is found as the file is read, or at a fault of the file
  pub reads_ended : (P : Refusal → Type 0) (reading : Reading) (judged : Judged) → ((event : Refusal) → P event → HasEvent event)
      → Ends (AtEvent P) (λ current. current ≡ name) reading judged → Ends (EndsIn Stage) (JudgesIn Stage) reading judged
  reads_ended P reading judged more h =
      ends_more (AtEvent P) (EndsIn Stage) (λ current. current ≡ name) (JudgesIn Stage) reading judged.status judged.text.items
      (λ status text k. reads_ends name HasEvent Has status text (at_more P HasEvent more status text k))
      reads_judges h

  -- what the content tells is told of the stage
  pub reads_told : (P : A → Type 0) (Q : Refusal → Type 0) (reading : Reading) (what : Part A) → ((x : A) → P x → Has x) → ((event : Refusal) → Q event → HasEvent event)
      → ((event : Refusal) → Q event → IsAnswer (status_of event)) → TellsBytes P Q what → TellsPart Stage reading what
  reads_told P Q reading (part.Read x) has more answers h = (record { file = Some name; event = None } ∷ [], (has x h, refl))
  reads_told P Q reading (part.Ended judged) has more answers h =
      ends_event (EndsIn Stage) (JudgesIn Stage) reading judged.status judged.text.items
      (subst IsAnswer (sym h.2.0) (answers h.0 h.1))
      (reads_ends name HasEvent Has judged.status judged.text.items (h.0, more h.0 h.1, h.2))

-- two parts of a run

module _ {A B : Type 0} (First : Trail → Option A → Type 0) (Next : A → Trail → Option B → Type 0) (first : HasOneEnd First) (next : (s : Trail) (x : A) → First s (Some x) → HasOneEnd (Next x)) where
  abbrev Both : Trail → Option (A × B) → Type 0
  Both stages end = Then First Next stages end

  judges_front : (name : List ℕ) (x : A) (before after : Trail) (end : Option B) → First before (Some x) → Next x after end → IsJudgedIn before name → JudgesIn Both name
  judges_front name x before after None h g judged = (before ++ after, None, inr (x, before, after, h, g, refl), judged-before before after name judged)
  judges_front name x before after (Some y) h g judged = (before ++ after, Some (x, y), (before, after, h, g, refl), judged-before before after name judged)

  judges_first : (name : List ℕ) (stages : Trail) (end : Option A) → First stages end → IsJudgedIn stages name → JudgesIn Both name
  judges_first name stages None h judged = (stages, None, inl h, judged)
  judges_first name stages (Some x) h judged =
      let rest = (next stages x h).some in
      judges_front name x stages rest.0 rest.1 h rest.2 judged

  judges_next : (name : List ℕ) (x : A) (before after : Trail) (end : Option B) → First before (Some x) → Next x after end → IsJudgedIn after name → JudgesIn Both name
  judges_next name x before after None h g judged =
      (before ++ after, None, inr (x, before, after, h, g, refl), judged-later before after name (first.quiet before x h) judged)
  judges_next name x before after (Some y) h g judged =
      (before ++ after, Some (x, y), (before, after, h, g, refl), judged-later before after name (first.quiet before x h) judged)

  next_ends : (x : A) (before : Trail) → First before (Some x) → (status : Status) (text : List ℕ) → EndsIn (Next x) status text → EndsIn Both status text
  next_ends x before h status text g =
      (before ++ g.0, g.1, inr (x, before, g.0, h, g.2, refl), first-append before g.0 (first.quiet before x h) ∙ g.3, g.4)

  -- the first part ends the run
  pub first_ended : (reading : Reading) (judged : Judged) → Ends (EndsIn First) (JudgesIn First) reading judged → Ends (EndsIn Both) (JudgesIn Both) reading judged
  first_ended reading judged h =
      ends_more (EndsIn First) (EndsIn Both) (JudgesIn First) (JudgesIn Both) reading judged.status judged.text.items
      (λ status text k. (k.0, k.1, inl k.2, k.3, k.4))
      (λ name k. judges_first name k.0 k.1 k.2 k.3)
      h

  -- the second one does
  pub next_ended : (x : A) (before : Trail) → First before (Some x) → (reading : Reading) (judged : Judged)
      → Ends (EndsIn (Next x)) (JudgesIn (Next x)) reading judged → Ends (EndsIn Both) (JudgesIn Both) reading judged
  next_ended x before h reading judged g =
      ends_more (EndsIn (Next x)) (EndsIn Both) (JudgesIn (Next x)) (JudgesIn Both) reading judged.status judged.text.items
      (next_ends x before h)
      (λ name k. judges_next name x before k.0 k.1 h k.2 k.3)
      g

-- the run

-- what an answer tells is its outcome
ends_answer : (P : Status → List ℕ → Type 0) (Q : List ℕ → Type 0) (reading : Reading) (status : Status) (text : List ℕ) → IsAnswer status → EndsAs P Q reading status text → P status text
ends_answer P Q reading st.Done text a h = h
ends_answer P Q reading st.Usage text a h = h
ends_answer P Q reading st.Refused text a h = h
ends_answer P Q reading st.Conflict text a h = h
ends_answer P Q reading st.Limit text a h = h
ends_answer P Q reading st.ReadFault text a h = absurd a
ends_answer P Q reading st.WriteFault text a h = absurd a
ends_answer P Q reading st.NoMemory text a h = absurd a

-- the text of an answer that went out whole is that of the outcome
pub run_outcome : (told : Option Contents) (words : List (List ℕ)) (reading : Reading) (judged : Judged) (old new : Writing) (bytes : List ℕ)
    → bytes ≡ judged.text.items → Gains old new bytes → IfSome told (λ contents. TellsRun words reading contents judged) → IsAnswer judged.status
    → IfSome told (λ contents. GivesOutcome words contents judged.status old new)
run_outcome None words reading judged old new bytes same gains tells answer = tt
run_outcome (Some contents) words reading judged old new bytes same gains tells answer =
    (judged.text.items, ends_answer (Outcome words contents) (Judges words contents) reading judged.status judged.text.items answer tells, subst (λ b. Gains old new b) same gains)

told_room : (room : ℕ) (old new : Option (List ℕ)) (text : List ℕ) → Tells (Some (left_within room old)) old new text
    → IfSome old (λ before. length (before ++ text) ≤ room → new ≡ Some (before ++ text))
told_room room None new text h = tt
told_room room (Some before) new text h = λ within.
    let both : length before + length text ≤ room = rw (sym (length-append before text)) within in
    Tells-told (Some (room - length before)) before text new (λ lacks. omega (arith, lacks, both)) h

-- what a sink in memory was given it tells, if there is room for it
pub text_told : (words : Words) (files : SoundFilesState) (status : Status) (old new : SoundSinkState) → WritesSoundly words files status old new → TellsText words files status old new
text_told words files status old new writes answer =
    let given = writes answer in
    (given.0, given.1, told_room old.room old.written new.written given.0 given.2.0)

place_of : (words : List (List ℕ)) (contents : Contents) (before now : ℕ) (reading : Reading) (status : Status) (text : List ℕ)
    → status ≡ st.ReadFault → EndsAs (Outcome words contents) (Judges words contents) reading status text → HasCause before now reading status text → FailedFile reading (Judges words contents)
place_of words contents before now reading status text e tells cause =
    let at = subst (λ s. EndsAs (Outcome words contents) (Judges words contents) reading s text) e tells in
    let why = subst (λ s. HasCause before now reading s text) e cause in
    (at.0, at.1, why.2.2, at.2)

-- the file of a read fault is one that the run judges
pub run_place : (told : Option Contents) (words : List (List ℕ)) (before now : ℕ) (reading : Reading) (judged : Judged)
    → IfSome told (λ contents. TellsRun words reading contents judged) → JudgedHasCause before now reading judged → judged.status ≡ st.ReadFault
    → IfSome told (λ contents. FailedFile reading (Judges words contents))
run_place None words before now reading judged tells cause e = tt
run_place (Some contents) words before now reading judged tells cause e = place_of words contents before now reading judged.status judged.text.items e tells cause

one_name : (o : Option (List ℕ)) (a b : List ℕ) → o ≡ Some a → o ≡ Some b → b ≡ a
one_name o a b e f = let both : Some b ≡ Some a = sym f ∙ e in cc

part_of : (words : List (List ℕ)) (contents : Contents) (before now : ℕ) (reading : Reading) (old new : Writing) (status : Status) (text : List ℕ)
    → EndsAs (Outcome words contents) (Judges words contents) reading status text → HasCause before now reading status text → GivesFront old new text
    → GivesPart words contents reading (Rose before now) (GivesFront old new)
part_of words contents before now reading old new st.Done text h cause front = inl (st.Done, text, h, front)
part_of words contents before now reading old new st.Usage text h cause front = inl (st.Usage, text, h, front)
part_of words contents before now reading old new st.Refused text h cause front = inl (st.Refused, text, h, front)
part_of words contents before now reading old new st.Conflict text h cause front = inl (st.Conflict, text, h, front)
part_of words contents before now reading old new st.Limit text h cause front = inl (st.Limit, text, h, front)
part_of words contents before now reading old new st.ReadFault text h cause front =
    let file = cause.2 in
    let judges = subst (λ n. Judges words contents n) (one_name reading.current file.0 h.0 file.1 h.1) h.2 in
    inr (cause.1, (file.0, file.1, file.2, (judges, subst (λ t. GivesFront old new t) file.3 front)))
part_of words contents before now reading old new st.WriteFault text h cause front = absurd cause
part_of words contents before now reading old new st.NoMemory text h cause front = absurd cause

-- what went out before a write fault is a front of a text that was to be written
pub run_part : (told : Option Contents) (words : List (List ℕ)) (before now : ℕ) (reading : Reading) (judged : Judged) (old new : Writing) (bytes : List ℕ) (gone : ℕ)
    → bytes ≡ judged.text.items → Gains old new (take gone bytes)
    → IfSome told (λ contents. TellsRun words reading contents judged) → JudgedHasCause before now reading judged
    → IfSome told (λ contents. GivesPart words contents reading (Rose before now) (GivesFront old new))
run_part None words before now reading judged old new bytes gone same gains tells cause = tt
run_part (Some contents) words before now reading judged old new bytes gone same gains tells cause =
    part_of words contents before now reading old new judged.status judged.text.items tells cause (gone, subst (λ b. Gains old new (take gone b)) same gains)
