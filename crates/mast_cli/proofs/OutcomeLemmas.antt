-- Words and contents have one outcome, where documents have one meaning and tables one answer.
use Rattle.std.proofs.Common.{◌≡◌, ◌⊎◌, inl, inr, ℕ, List, Option, Some, None, subst, sym, ap, ◌∙◌, refl}
use Rattle.std.proofs.lemmas.Option.{none-some, same_Some}
use Rattle.mast_files.specs.Outside.{Contents}
use Rattle.mast_write.specs.declared.refusals.Refusal.{Refusal}
use Rattle.mast_write.specs.RefusalLines.{refusal_line}
use Rattle.mast_write.specs.Usage.{usage}
use Rattle.mast_write.proofs.TextLemmas.{one_text}
use Rattle.mast_cli.specs.declared.limits.TheConstants.{TABLE_BYTES, ROWS}
use Rattle.mast_cli.specs.declared.status.Status.{Status}
use Rattle.mast_cli.specs.declared.status.Status.TheVariants as st
use Rattle.mast_cli.specs.declared.words.Task.{Task}
use Rattle.mast_cli.specs.declared.words.Task.TheVariants as task
use Rattle.mast_cli.specs.command.Check.{CheckStages, Loaded, PrintsChecked}
use Rattle.mast_cli.specs.command.Facts.{Read, FactsStages, IsLineOfFact, PrintsFacts}
use Rattle.mast_cli.specs.FirstEvent.{Trail, first_event}
use Rattle.mast_cli.specs.Laws.{IsAnswerable, OneOutcome, SomeOutcome}
use Rattle.mast_cli.specs.Limits.{status_of}
use Rattle.mast_cli.specs.Outcome.{EndsAt, EndsIn, Gives, TaskOutcome, Outcome}
use Rattle.mast_cli.specs.stage.Document.{MappingsStage, nothing_named}
use Rattle.mast_cli.specs.stage.Restrictions.{files_of}
use Rattle.mast_cli.specs.stage.Tables.{TablesStages}
use Rattle.mast_cli.specs.Words.{task_of}
use Rattle.mast_cli.proofs.CheckLemmas.{one_check}
use Rattle.mast_cli.proofs.FactsTextLemmas.{some_facts_text}
use Rattle.mast_cli.proofs.FirstEventLemmas.{HasOneEnd, one_then}
use Rattle.mast_cli.proofs.MappingsLemmas.{nothing_is_lawful, one_mappings}
use Rattle.mast_cli.proofs.TablesLemmas.{FilesHaveAnswers, one_from}

-- one status, and one text but of a conflict
abbrev Same : Status → List ℕ → Status → List ℕ → Type 0
Same status text other next = (status ≡ other) × ((status ≡ st.Conflict) ⊎ (text ≡ next))

-- a status and a text of which P holds
abbrev Has : (Status → List ℕ → Type 0) → Type 0
Has P = (status : Status) × (text : List ℕ) × P status text

-- a command of one end, which has one answer of what it read

module _ {A : Type 0} (Stages : Trail → Option A → Type 0) (Answer : A → Status → List ℕ → Type 0) (end : HasOneEnd Stages) where
  same_event : (e f : Refusal) (status other : Status) (text next : List ℕ) → e ≡ f → EndsAt e status text → EndsAt f other next → Same status text other next
  same_event e f status other text next same h g = (h.0 ∙ ap status_of same ∙ sym g.0, inr (h.1 ∙ ap refusal_line same ∙ sym g.1))

  one_end : (status other : Status) (text next : List ℕ) → EndsIn Stages status text → EndsIn Stages other next → Same status text other next
  one_end status other text next h g =
      let stages = (end.one h.0 g.0 None None h.2 g.2).0 in
      let events : h.1 ≡ g.1 = same_Some h.1 g.1 (sym h.3 ∙ ap first_event stages ∙ g.3) in
      same_event h.1 g.1 status other text next events h.4 g.4

  end_or_read : (status other : Status) (text next : List ℕ) → EndsIn Stages status text → Gives Stages Answer other next → ⊥
  end_or_read status other text next h g = none-some g.1 ((end.one h.0 g.0 None (Some g.1) h.2 g.2).1)

  one_command : ((x : A) (status other : Status) (text next : List ℕ) → Answer x status text → Answer x other next → Same status text other next)
      → (status other : Status) (text next : List ℕ) → EndsIn Stages status text ⊎ Gives Stages Answer status text → EndsIn Stages other next ⊎ Gives Stages Answer other next
      → Same status text other next
  one_command one status other text next (inl h) (inl g) = one_end status other text next h g
  one_command one status other text next (inl h) (inr g) = absurd (end_or_read status other text next h g)
  one_command one status other text next (inr h) (inl g) = absurd (end_or_read other status next text g h)
  one_command one status other text next (inr h) (inr g) =
      let reads : h.1 ≡ g.1 = same_Some h.1 g.1 ((end.one h.0 g.0 (Some h.1) (Some g.1) h.2 g.2).1) in
      one h.1 status other text next h.3 (subst (λ x. Answer x other next) (sym reads) g.3)

  ended : (some : (stages : Trail) (x : A) → Stages stages (Some x) → Has (Answer x)) (stages : Trail) (last : Option A) → Stages stages last → Has (λ status text. EndsIn Stages status text ⊎ Gives Stages Answer status text)
  ended some stages None h =
      let event = end.loud stages h in
      (status_of event.0, refusal_line event.0, inl (stages, event.0, h, event.1, (refl, refl)))
  ended some stages (Some x) h = let answer = some stages x h in (answer.0, answer.1, inr (stages, x, h, answer.2))

  some_command : ((stages : Trail) (x : A) → Stages stages (Some x) → Has (Answer x)) → Has (λ status text. EndsIn Stages status text ⊎ Gives Stages Answer status text)
  some_command some = ended some end.some.0 end.some.1 end.some.2

prints_once : (read : Read) (status other : Status) (text next : List ℕ) → PrintsFacts read status text → PrintsFacts read other next → Same status text other next
prints_once read status other text next h g = (
  h.0 ∙ sym g.0,
  inr (one_text (IsLineOfFact read) (IsLineOfFact read) text next (record { to = λ line l. l; from = λ line l. l }) h.1 g.1),
)

checks_once : (read : Loaded) (status other : Status) (text next : List ℕ) → PrintsChecked read status text → PrintsChecked read other next → Same status text other next
checks_once read status other text next (inl h) (inl g) = (h.1.conflicts ∙ sym g.1.conflicts, inl h.1.conflicts)
checks_once read status other text next (inl h) (inr g) = absurd (g.0 h.0)
checks_once read status other text next (inr h) (inl g) = absurd (h.0 g.0)
checks_once read status other text next (inr h) (inr g) = (h.1 ∙ sym g.1, inr (h.2 ∙ sym g.2))

module _ (any : FilesHaveAnswers) where
  -- the stages of `facts` have one end
  one_facts : (contents : Contents) (file : List ℕ) → HasOneEnd (FactsStages contents file)
  one_facts contents file =
      one_then (MappingsStage nothing_named contents file) (λ mappings. TablesStages contents mappings.tables)
      (one_mappings nothing_named nothing_is_lawful contents file)
      (λ s mappings h. one_from any contents TABLE_BYTES ROWS mappings.tables)

  -- at most one

  one_task : (contents : Contents) (asked : Task) (status other : Status) (text next : List ℕ) → TaskOutcome contents asked status text → TaskOutcome contents asked other next → Same status text other next
  one_task contents (task.Facts mappings) status other text next h g =
      one_command (FactsStages contents mappings) PrintsFacts (one_facts contents mappings) prints_once status other text next h g
  one_task contents (task.Check ontology constraints mappings workers) status other text next h g =
      let files = files_of ontology constraints mappings in
      one_command (CheckStages contents files) PrintsChecked (one_check any files contents) checks_once status other text next h g

  -- words and contents have one outcome at most, but for which conflict is printed
  pub one_outcome : OneOutcome
  one_outcome words contents status other text next (inl h) (inl g) = (h.1 ∙ sym g.1, inr (h.2 ∙ sym g.2))
  one_outcome words contents status other text next (inl h) (inr g) = absurd (none-some g.0 (sym h.0 ∙ g.1))
  one_outcome words contents status other text next (inr h) (inl g) = absurd (none-some h.0 (sym g.0 ∙ h.1))
  one_outcome words contents status other text next (inr h) (inr g) =
      let tasks : g.0 ≡ h.0 = same_Some g.0 h.0 (sym g.1 ∙ h.1) in
      one_task contents h.0 status other text next h.2 (subst (λ t. TaskOutcome contents t other next) tasks g.2)

  -- at least one

  some_task : (contents : Contents) (asked : Task) → IsAnswerable contents (Some asked) → Has (TaskOutcome contents asked)
  some_task contents (task.Facts mappings) may =
      some_command (FactsStages contents mappings) PrintsFacts (one_facts contents mappings) (λ stages read h. let text = some_facts_text read in (st.Done, text.0, (refl, text.1)))
  some_task contents (task.Check ontology constraints mappings workers) may =
      let files = files_of ontology constraints mappings in
      some_command (CheckStages contents files) PrintsChecked (one_check any files contents) may

  ran : (words : List (List ℕ)) (contents : Contents) (asked : Option Task) → task_of words ≡ asked → IsAnswerable contents asked → Has (Outcome words contents)
  ran words contents None e may = (st.Usage, usage, inl (e, refl, refl))
  ran words contents (Some asked) e may =
      let end = some_task contents asked may in
      (end.0, end.1, inr (asked, e, end.2))

  -- words and contents have an outcome
  pub some_outcome : SomeOutcome
  some_outcome words contents may = ran words contents (task_of words) refl may
