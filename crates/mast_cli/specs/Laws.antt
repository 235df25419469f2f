-- Laws of the definitions.
use Rattle.std.specs.Prelude.{◌≡◌, ◌⊎◌, ⊤, ℕ, List, Option, Some, None}
use Rattle.mast_cli.specs.declared.status.Status.{Status}
use Rattle.mast_cli.specs.declared.status.Status.TheVariants as st
use Rattle.mast_files.specs.Outside.{Contents}
use Rattle.mast_cli.specs.declared.words.Task.{Task}
use Rattle.mast_cli.specs.declared.words.Task.TheVariants as task
use Rattle.mast_cli.specs.command.Check.{CheckStages, Loaded, PrintsChecked}
use Rattle.mast_cli.specs.FirstEvent.{Trail}
use Rattle.mast_cli.specs.Outcome.{Outcome}
use Rattle.mast_cli.specs.stage.Restrictions.{files_of}
use Rattle.mast_cli.specs.Words.{task_of}

-- what the stages of a task read has an answer: that of `check` a conflict, or that there is a model
abbrev pub IsAnswerable : Contents → Option Task → Type 0
IsAnswerable contents None = ⊤
IsAnswerable contents (Some (task.Facts mappings)) = ⊤
IsAnswerable contents (Some (task.Check ontology constraints mappings workers)) =
    (stages : Trail) (read : Loaded) → CheckStages contents (files_of ontology constraints mappings) stages (Some read)
    → (status : Status) × (text : List ℕ) × PrintsChecked read status text

-- words and contents have an outcome
abbrev pub SomeOutcome : Type 0
SomeOutcome =
    (words : List (List ℕ)) (contents : Contents) → IsAnswerable contents (task_of words)
    → (status : Status) × (text : List ℕ) × Outcome words contents status text

-- words and contents have no two outcomes, but for which conflict is printed
abbrev pub OneOutcome : Type 0
OneOutcome =
    (words : List (List ℕ)) (contents : Contents) (status other : Status) (text next : List ℕ)
    → Outcome words contents status text → Outcome words contents other next
    → (status ≡ other) × ((status ≡ st.Conflict) ⊎ (text ≡ next))
