-- What a run answers, by its words and the contents of its files.
use Rattle.std.specs.Prelude.{◌≡◌, ◌⊎◌, ℕ, List, Option, Some, None}
use Rattle.mast_files.specs.Outside.{Contents}
use Rattle.mast_write.specs.declared.refusals.Refusal.{Refusal}
use Rattle.mast_write.specs.RefusalLines.{refusal_line}
use Rattle.mast_write.specs.Usage.{usage}
use Rattle.mast_cli.specs.declared.status.Status.{Status}
use Rattle.mast_cli.specs.declared.status.Status.TheVariants as st
use Rattle.mast_cli.specs.command.Check.{CheckStages, Loaded, PrintsChecked}
use Rattle.mast_cli.specs.command.Facts.{Read, FactsStages, PrintsFacts}
use Rattle.mast_cli.specs.FirstEvent.{Trail, first_event, IsJudgedIn}
use Rattle.mast_cli.specs.Limits.{status_of}
use Rattle.mast_cli.specs.stage.Restrictions.{Files, files_of}
use Rattle.mast_cli.specs.declared.words.Task.{Task}
use Rattle.mast_cli.specs.declared.words.Task.TheVariants as task
use Rattle.mast_cli.specs.Words.{task_of}

-- the status and the text are those of this event
abbrev pub EndsAt : Refusal → Status → List ℕ → Type 0
EndsAt event status text = (status ≡ status_of event) × (text ≡ refusal_line event)

-- what is answered where stages end a run: the first event's line
abbrev pub EndsIn : {A : Type 0} → (Trail → Option A → Type 0) → Status → List ℕ → Type 0
EndsIn Stages status text =
    (stages : Trail) × (event : Refusal)
    × Stages stages None × (first_event stages ≡ Some event) × EndsAt event status text

-- what is answered where no stage has an event: what is given of that which was read
abbrev pub Gives : {A : Type 0} → (Trail → Option A → Type 0) → (A → Status → List ℕ → Type 0)
    → Status → List ℕ → Type 0
Gives {A} Stages Answer status text =
    (stages : Trail) × (read : A) × Stages stages (Some read) × Answer read status text

-- the answer of `facts` on a file: the first event's line, or the text of all facts
abbrev pub FactsOutcome : Contents → List ℕ → Status → List ℕ → Type 0
FactsOutcome contents file status text =
    EndsIn (FactsStages contents file) status text ⊎ Gives (FactsStages contents file) PrintsFacts status text

-- the answer of `check` on three files: the first event's line, or the text of a conflict, or `consistent`
abbrev pub CheckOutcome : Contents → Files → Status → List ℕ → Type 0
CheckOutcome contents files status text =
    EndsIn (CheckStages contents files) status text ⊎ Gives (CheckStages contents files) PrintsChecked status text

-- the answer of a task; the number of workers changes nothing of it
abbrev pub TaskOutcome : Contents → Task → Status → List ℕ → Type 0
TaskOutcome contents (task.Facts mappings) = FactsOutcome contents mappings
TaskOutcome contents (task.Check ontology constraints mappings workers) =
    CheckOutcome contents (files_of ontology constraints mappings)

-- what a run may answer: the usage text where the words are no task, or the answer of the task
abbrev pub Outcome : List (List ℕ) → Contents → Status → List ℕ → Type 0
Outcome words contents status text =
    ((task_of words ≡ None) × (status ≡ st.Usage) × (text ≡ usage))
    ⊎ ((asked : Task) × (task_of words ≡ Some asked) × TaskOutcome contents asked status text)

-- the stages of a task, up to its first event
abbrev pub TaskTrail : Contents → Task → Trail → Type 0
TaskTrail contents (task.Facts mappings) stages = (end : Option Read) × FactsStages contents mappings stages end
TaskTrail contents (task.Check ontology constraints mappings workers) stages =
    (end : Option Loaded) × CheckStages contents (files_of ontology constraints mappings) stages end

-- the stages of a run on words and contents, up to its first event
abbrev pub HasTrail : List (List ℕ) → Contents → Trail → Type 0
HasTrail words contents stages = (asked : Task) × (task_of words ≡ Some asked) × TaskTrail contents asked stages

-- the run judges this file, and no event stands at an earlier place
abbrev pub Judges : List (List ℕ) → Contents → List ℕ → Type 0
Judges words contents name = (stages : Trail) × HasTrail words contents stages × IsJudgedIn stages name
