-- The tasks that words are. The first word is the command.
use Rattle.std.specs.Prelude.{◌≡◌, ◌≤◌, ⊤, ◌+◌, ◌-◌, ◌&&◌, ℕ, nat_eq, nat_le, ◌==◌, Bool, false, if◌then◌else◌, List, [], ◌∷◌, length, take, drop, Option, Some, None, Result, codes}
use Rattle.std.specs.Cmp.Lexicographic.{pointwise}
use Rattle.std.specs.Str.{byte}
use Rattle.mast_terms.specs.declared.memory.Stop.{Stop}
use Rattle.mast_terms.specs.Answers.{Answers}
use Rattle.mast_terms.specs.Bytes.{digit_zero, hyphen}
use Rattle.mast_cli.specs.declared.arguments.Arguments.{Arguments}
use Rattle.mast_cli.specs.declared.arguments.Next.{Next}
use Rattle.mast_cli.specs.declared.arguments.Next.TheVariants.{Any, Workers, File}
use Rattle.mast_cli.specs.declared.words.Task.{Task}
use Rattle.mast_cli.specs.declared.words.Task.TheVariants as task
use Rattle.mast_cli.specs.declared.words.Usage.{Usage}

-- whether a word is this text
abbrev pub is_word : List ℕ → List ℕ → Bool
is_word word text = pointwise nat_eq word text

-- a word that begins with `-` and is longer: before `--` it is an option and no file
abbrev pub is_option : List ℕ → Bool
is_option [] = false
is_option (b ∷ []) = false
is_option (b ∷ c ∷ more) = b == hyphen

-- the number of workers that a word is: 1 to 16, without sign or leading zero
abbrev pub workers_in : List ℕ → Option ℕ
workers_in [] = None
workers_in (d ∷ []) = if nat_le (byte "1") d && nat_le d (byte "9") then Some (d - digit_zero) else None
workers_in (t ∷ d ∷ []) =
    if (t == byte "1") && (nat_le (byte "0") d && nat_le d (byte "6")) then Some (10 + (d - digit_zero)) else None
workers_in (t ∷ d ∷ e ∷ more) = None

-- the front of a word that says the number of workers by itself
abbrev pub workers_equals : List ℕ
workers_equals = codes "--workers="

-- the number of workers that an option says by itself
abbrev pub workers_of : List ℕ → Option ℕ
workers_of word =
    if pointwise nat_eq (take (length workers_equals) word) workers_equals
    then workers_in (drop (length workers_equals) word)
    else None

-- no option and no file
abbrev pub nothing_given : Arguments
nothing_given = record { workers = None; files = [] }

-- one file before the others
abbrev pub with_file : List ℕ → Option Arguments → Option Arguments
with_file file None = None
with_file file (Some later) = Some (record { workers = later.workers; files = file ∷ later.files })

-- a number of workers, where no other is said
abbrev pub only_workers : ℕ → Option ℕ → List (List ℕ) → Option Arguments
only_workers workers None files = Some (record { workers = Some workers; files = files })
only_workers workers (Some other) files = None

-- a number of workers before the others, where it is one
abbrev pub with_workers : Option ℕ → Option Arguments → Option Arguments
with_workers None later = None
with_workers (Some workers) None = None
with_workers (Some workers) (Some later) = only_workers workers later.workers later.files

-- What words give, where next comes any word, the number of workers, or a file: before the first `--` options and
-- files, behind it files. None, where something else stands among the options, or the number of workers twice.
abbrev pub given_from : Next → List (List ℕ) → Option Arguments
given_from Any [] = Some nothing_given
given_from Workers [] = None
given_from File [] = Some nothing_given
given_from Any (word ∷ words) =
    if is_word word (codes "--") then given_from File words
    else if is_word word (codes "--workers") then given_from Workers words
    else if is_option word then with_workers (workers_of word) (given_from Any words)
    else with_file word (given_from Any words)
given_from Workers (word ∷ words) = with_workers (workers_in word) (given_from Any words)
given_from File (word ∷ words) = with_file word (given_from File words)

-- what words give behind a command
abbrev pub arguments_of : List (List ℕ) → Option Arguments
arguments_of words = given_from Any words

-- the number of workers, which is 1 where none is said
abbrev pub or_one : Option ℕ → ℕ
or_one None = 1
or_one (Some workers) = workers

-- `facts` has one file and no option
abbrev pub facts_task : Option ℕ → List (List ℕ) → Option Task
facts_task None [] = None
facts_task None (mappings ∷ []) = Some (task.Facts mappings)
facts_task None (mappings ∷ other ∷ more) = None
facts_task (Some workers) files = None

-- `check` has three files
abbrev pub check_task : Option ℕ → List (List ℕ) → Option Task
check_task workers [] = None
check_task workers (ontology ∷ []) = None
check_task workers (ontology ∷ constraints ∷ []) = None
check_task workers (ontology ∷ constraints ∷ mappings ∷ []) =
    Some (task.Check ontology constraints mappings (or_one workers))
check_task workers (ontology ∷ constraints ∷ mappings ∷ other ∷ more) = None

-- the task of a command with these arguments
abbrev pub task_named : List ℕ → Option Arguments → Option Task
task_named command None = None
task_named command (Some given) =
    if is_word command (codes "facts") then facts_task given.workers given.files
    else if is_word command (codes "check") then check_task given.workers given.files
    else None

-- the task of words
abbrev pub task_of : List (List ℕ) → Option Task
task_of [] = None
task_of (command ∷ words) = task_named command (arguments_of words)

-- the answer on words: their task, or that they are none; want of memory says nothing
abbrev pub TellsWords : List (List ℕ) → Result Task (Stop Usage) → Type 0
TellsWords words result = Answers result (λ told. task_of words ≡ Some told) (λ usage. task_of words ≡ None)

-- the number of workers of a task is from 1 to 16
abbrev pub HasWorkers : Task → Type 0
HasWorkers (task.Facts mappings) = ⊤
HasWorkers (task.Check ontology constraints mappings workers) = (1 ≤ workers) × (workers ≤ 16)
