-- Arguments that are read word by word.
use Rattle.std.specs.Prelude.{◌≡◌, ℕ, List, ◌∷◌, ◌++◌, Option, Some, None, Result}
use Rattle.mast_terms.specs.declared.memory.Stop.{Stop}
use Rattle.mast_terms.specs.Answers.{Answers}
use Rattle.mast_cli.specs.declared.arguments.Arguments.{Arguments}
use Rattle.mast_cli.specs.declared.arguments.Next.{Next}
use Rattle.mast_cli.specs.declared.arguments.Next.TheVariants.{Any}
use Rattle.mast_cli.specs.declared.words.Task.{Task}
use Rattle.mast_cli.specs.declared.words.Usage.{Usage}
use Rattle.mast_cli.specs.Words.{given_from, with_workers}

-- at most one number of workers
abbrev pub one_of : Option ℕ → Option ℕ → List (List ℕ) → Option Arguments
one_of None later files = Some (record { workers = later; files = files })
one_of (Some workers) None files = Some (record { workers = Some workers; files = files })
one_of (Some workers) (Some other) files = None

-- what was given before what is given later
abbrev pub merged : Arguments → Option Arguments → Option Arguments
merged given None = None
merged given (Some later) = one_of given.workers later.workers (given.files ++ later.files)

-- a number of workers is taken, or it is none, or not the first
abbrev pub TakesWorkers : Option ℕ → Arguments → Arguments → Option Next → Type 0
TakesWorkers said old new None = (later : Option Arguments) → merged old (with_workers said later) ≡ None
TakesWorkers said old new (Some next) =
    (later : Option Arguments) → (merged old (with_workers said later) ≡ merged new later) × (next ≡ Any)

-- a word is taken, or with it the words are wrong
abbrev pub TakesWord : Next → List ℕ → Arguments → Arguments → Option Next → Type 0
TakesWord next word old new None = (words : List (List ℕ)) → merged old (given_from next (word ∷ words)) ≡ None
TakesWord next word old new (Some then) =
    (words : List (List ℕ)) → merged old (given_from next (word ∷ words)) ≡ merged new (given_from then words)

-- the answer is this task, or that there is none
abbrev pub TellsTask : Option Task → Result Task (Stop Usage) → Type 0
TellsTask asked result = Answers result (λ told. asked ≡ Some told) (λ usage. asked ≡ None)
