-- What the parts of a run tell, where the contents are known.
use Rattle.std.specs.Prelude.{◌≡◌, ◌<◌, ◌≤◌, ⊤, ℕ, List, Vec, length, Option, Some, Result, Ok, Err, IfSome}
use Rattle.std.specs.declared.alloc.Global.{Global}
use Rattle.mast_files.specs.Outside.{Contents, Reading}
use Rattle.mast_write.specs.declared.refusals.Refusal.{Refusal}
use Rattle.mast_write.specs.declared.refusals.Refusal.TheVariants as refusal
use Rattle.mast_terms.specs.declared.memory.Stop.{Stop}
use Rattle.mast_terms.specs.declared.memory.Stop.TheVariants as stop
use Rattle.mast_tree.specs.declared.document.DocName.{DocName}
use Rattle.mast_tree.specs.declared.shape.ShapeBreach.{ShapeBreach}
use Rattle.mast_cli.specs.declared.judged.Judged.{Judged}
use Rattle.mast_cli.specs.declared.judged.Part.{Part}
use Rattle.mast_cli.specs.declared.judged.Part.TheVariants as part
use Rattle.mast_cli.specs.declared.status.Status.{Status}
use Rattle.mast_cli.specs.declared.status.Status.TheVariants as st
use Rattle.mast_cli.specs.command.Check.{CheckStages}
use Rattle.mast_cli.specs.command.Facts.{FactsStages}
use Rattle.mast_cli.specs.FirstEvent.{Trail, IsJudgedIn}
use Rattle.mast_cli.specs.stage.Restrictions.{Files}
use Rattle.mast_cli.specs.Outcome.{CheckOutcome, EndsAt, EndsIn, FactsOutcome, Outcome, Judges}

-- what was judged is this event
abbrev pub JudgedAt : Refusal → Judged → Type 0
JudgedAt event judged = EndsAt event judged.status judged.text.items

-- a part of the run ends at this event
abbrev pub PartAt : {T : Type 0} → Refusal → Part T → Type 0
PartAt event (part.Read x) = ⊥
PartAt event (part.Ended judged) = JudgedAt event judged

-- P of the status and the text, or for a read fault Q of the current file's name
abbrev pub EndsAs : (Status → List ℕ → Type 0) → (List ℕ → Type 0) → Reading → Status → List ℕ → Type 0
EndsAs P Q reading st.ReadFault text = (name : List ℕ) × (reading.current ≡ Some name) × Q name
EndsAs P Q reading status text = P status text

-- the same of what was judged
abbrev pub Ends : (Status → List ℕ → Type 0) → (List ℕ → Type 0) → Reading → Judged → Type 0
Ends P Q reading judged = EndsAs P Q reading judged.status judged.text.items

-- an end at an event with P
abbrev pub AtEvent : (Refusal → Type 0) → Status → List ℕ → Type 0
AtEvent P status text = (event : Refusal) × P event × EndsAt event status text

-- a part that goes over bytes: what they have, or their event
abbrev pub TellsBytes : {T : Type 0} → (T → Type 0) → (Refusal → Type 0) → Part T → Type 0
TellsBytes Has HasEvent (part.Read x) = Has x
TellsBytes Has HasEvent (part.Ended judged) = AtEvent HasEvent judged.status judged.text.items

-- a part that reads a file: what it has, or its event, or a read fault of this file
abbrev pub TellsFile : {T : Type 0} → (T → Type 0) → (Refusal → Type 0) → List ℕ → Reading → Part T → Type 0
TellsFile Has HasEvent name reading (part.Read x) = Has x
TellsFile Has HasEvent name reading (part.Ended judged) = Ends (AtEvent HasEvent) (λ current. current ≡ name) reading judged

-- these bytes are a content of at most so many
abbrev pub HasContent : ℕ → List ℕ → Vec ℕ Global → Type 0
HasContent most content bytes = (length content ≤ most) × (bytes.items ≡ content)

-- the content has more bytes, and the event is this one
abbrev pub IsTooLong : ℕ → Refusal → List ℕ → Refusal → Type 0
IsTooLong most too_long content event = (most < length content) × (event ≡ too_long)

-- the content of a file, or the event that it has more bytes than so many, or a read fault of this file
abbrev pub TellsContent : ℕ → Refusal → List ℕ → Reading → Contents → Part (Vec ℕ Global) → Type 0
TellsContent most too_long name reading contents what =
    TellsFile (HasContent most (contents name)) (IsTooLong most too_long (contents name)) name reading what

-- stages of a run judge this file, and no event stands before
abbrev pub JudgesIn : {T : Type 0} → (Trail → Option T → Type 0) → List ℕ → Type 0
JudgesIn {T} Stages name = (stages : Trail) × (end : Option T) × Stages stages end × IsJudgedIn stages name

-- a part with these stages: they are gone through without an event, or the run ends at their first one, or at a read
-- fault in its place
abbrev pub TellsPart : {T : Type 0} → (Trail → Option T → Type 0) → Reading → Part T → Type 0
TellsPart Stages reading (part.Read x) = (stages : Trail) × Stages stages (Some x)
TellsPart Stages reading (part.Ended judged) = Ends (EndsIn Stages) (JudgesIn Stages) reading judged

-- the same of a part that gives something by which what the stages read is known
abbrev pub TellsAs : {A T : Type 0} → (A → T → Type 0) → (Trail → Option A → Type 0) → Reading → Part T → Type 0
TellsAs {A} Is Stages reading (part.Read x) = (read : A) × Is read x × (stages : Trail) × Stages stages (Some read)
TellsAs Is Stages reading (part.Ended judged) = Ends (EndsIn Stages) (JudgesIn Stages) reading judged

-- P of the contents and of x, where the contents are told
abbrev pub WhenTold : {T : Type 0} → Option Contents → (Contents → T → Type 0) → T → Type 0
WhenTold contents P x = IfSome contents (λ c. P c x)

-- P of what a part read
abbrev pub IfRead : {T : Type 0} → (T → Type 0) → Part T → Type 0
IfRead P (part.Read x) = P x
IfRead P (part.Ended judged) = ⊤

-- the run of `facts` on a file
abbrev pub TellsFacts : List ℕ → Reading → Contents → Judged → Type 0
TellsFacts file reading contents judged =
    Ends (FactsOutcome contents file) (JudgesIn (FactsStages contents file)) reading judged

-- the run of `check` on three files
abbrev pub TellsCheck : Files → Reading → Contents → Judged → Type 0
TellsCheck files reading contents judged =
    Ends (CheckOutcome contents files) (JudgesIn (CheckStages contents files)) reading judged

-- the run
abbrev pub TellsRun : List (List ℕ) → Reading → Contents → Judged → Type 0
TellsRun words reading contents judged = Ends (Outcome words contents) (Judges words contents) reading judged

-- what a reader of documents gave, or its breach of a document
abbrev pub IsValueOf : {T : Type 0} → DocName → Result T (Stop ShapeBreach) → Part T → Type 0
IsValueOf doc (Ok value) (part.Read read) = read ≡ value
IsValueOf doc (Ok value) (part.Ended judged) = ⊥
IsValueOf doc (Err (stop.Named breach)) what = PartAt (refusal.Shape doc breach) what
IsValueOf doc (Err stop.NoMemory) what = ⊥
