-- What a task tells is told of the run.
use Rattle.std.proofs.Common.{◌≡◌, inr, ℕ, List, Option, Some, Result, Ok, Err, IfOk, IfSome, subst}
use Rattle.mast_files.specs.Outside.{Contents, Reading}
use Rattle.mast_terms.specs.declared.memory.NoMemory.{NoMemory}
use Rattle.mast_cli.specs.declared.judged.Judged.{Judged}
use Rattle.mast_cli.specs.declared.words.Task.TheVariants as task
use Rattle.mast_cli.specs.command.Check.{CheckStages}
use Rattle.mast_cli.specs.command.Facts.{FactsStages}
use Rattle.mast_cli.specs.Outcome.{CheckOutcome, FactsOutcome, Outcome, Judges}
use Rattle.mast_cli.specs.stage.Restrictions.{Files, files_of}
use Rattle.mast_cli.specs.Words.{task_of}
use Rattle.mast_cli.specs.inside.Telling.{JudgesIn, TellsCheck, TellsFacts, TellsRun}
use Rattle.mast_cli.proofs.SpecificationLemmas.{if_told}
use Rattle.mast_cli.proofs.TellingLemmas.{ends_more}

-- files of equal names are equal
pub same_files : (a b c d e f : List ℕ) → a ≡ d → b ≡ e → c ≡ f → files_of a b c ≡ files_of d e f
same_files a b c d e f p q r = λ i. record { ontology = p i; constraints = q i; mappings = r i }

module _ (words : List (List ℕ)) (reading : Reading) where
  facts_tells : (mappings : List ℕ) → task_of words ≡ Some (task.Facts mappings) → (contents : Contents) (judged : Judged) → TellsFacts mappings reading contents judged → TellsRun words reading contents judged
  facts_tells mappings asked contents judged h =
      ends_more (FactsOutcome contents mappings) (Outcome words contents) (JudgesIn (FactsStages contents mappings)) (Judges words contents) reading judged.status judged.text.items
      (λ status text k. inr (task.Facts mappings, asked, k))
      (λ name k. (k.0, (task.Facts mappings, asked, (k.1, k.2)), k.3)) h

  check_tells : (ontology constraints mappings : List ℕ) (workers : ℕ) → task_of words ≡ Some (task.Check ontology constraints mappings workers) → (contents : Contents) (judged : Judged)
      → TellsCheck (files_of ontology constraints mappings) reading contents judged → TellsRun words reading contents judged
  check_tells ontology constraints mappings workers asked contents judged h =
      let files = files_of ontology constraints mappings in
      let check = task.Check ontology constraints mappings workers in
      ends_more (CheckOutcome contents files) (Outcome words contents) (JudgesIn (CheckStages contents files)) (Judges words contents) reading judged.status judged.text.items
      (λ status text k. inr (check, asked, k))
      (λ name k. (k.0, (check, asked, (k.1, k.2)), k.3)) h

  -- what `facts` tells
  pub facts_run : (told : Option Contents) (mappings file : List ℕ) (r : Result Judged NoMemory) → file ≡ mappings → task_of words ≡ Some (task.Facts mappings)
      → IfOk r (λ judged. IfSome told (λ c. TellsFacts file reading c judged)) → IfOk r (λ judged. IfSome told (λ c. TellsRun words reading c judged))
  facts_run told mappings file (Err none) same asked h = tt
  facts_run told mappings file (Ok judged) same asked h = if_told told _ _ (λ c k. facts_tells mappings asked c judged (subst (λ f. TellsFacts f reading c judged) same k)) h

  -- what `check` tells
  pub check_run : (told : Option Contents) (ontology constraints mappings : List ℕ) (workers : ℕ) (files : Files) (r : Result Judged NoMemory) → files ≡ files_of ontology constraints mappings → task_of words ≡ Some (task.Check ontology constraints mappings workers)
      → IfOk r (λ judged. IfSome told (λ c. TellsCheck files reading c judged)) → IfOk r (λ judged. IfSome told (λ c. TellsRun words reading c judged))
  check_run told ontology constraints mappings workers files (Err none) same asked h = tt
  check_run told ontology constraints mappings workers files (Ok judged) same asked h =
      if_told told _ _ (λ c k. check_tells ontology constraints mappings workers asked c judged (subst (λ f. TellsCheck f reading c judged) same k)) h
