-- Words that are wrong with one of them; the number of workers that words say.
use Rattle.std.proofs.Common.{◌≡◌, ◌<◌, ◌≤◌, ◌+◌, ◌-◌, ◌∙◌, ℕ, Bool, true, false, List, [], ◌∷◌, Option, Some, None, Result, Ok, Err, IfOk, length, take, drop, get_or, map, string_bytes, nat_eq, subst, sym, ap, refl, arith}
use Rattle.std.proofs.lemmas.Bool.{and_parts, leb-true}
use Rattle.std.specs.Cmp.Lexicographic.{pointwise}
use Rattle.std.specs.Str.{byte}
use Rattle.std.specs.Prelude.{String, ⊤, ◌&&◌, ◌==◌, nat_le, if◌then◌else◌, codes}
use Rattle.std.specs.declared.alloc.Global.{Global}
use Rattle.std.proofs.lemmas.List.{drop_more}
use Rattle.mast_cli.specs.declared.arguments.Arguments.{Arguments}
use Rattle.mast_cli.specs.declared.arguments.Next.{Next}
use Rattle.mast_terms.specs.declared.memory.Stop.{Stop}
use Rattle.mast_terms.specs.Bytes.{digit_zero}
use Rattle.mast_cli.specs.declared.arguments.Next.TheVariants.{Any, Workers, File}
use Rattle.mast_cli.specs.declared.words.Task.{Task}
use Rattle.mast_cli.specs.declared.words.Usage.{Usage}
use Rattle.mast_cli.specs.Words.{HasWorkers, TellsWords, arguments_of, check_task, facts_task, given_from, is_option, is_word, only_workers, or_one, task_named, task_of, with_file, with_workers, workers_equals, workers_in, workers_of}
use Rattle.mast_cli.specs.inside.Arguments.{TakesWord, merged}

-- where no word is next that is right, nothing is given
pub wrong_word : (next : Next) (old new : Arguments) (words : List (String Global)) (i : ℕ) (item : String Global) (word : List ℕ) (after : Option Next)
    → i < length words → item ≡ get_or words i item → word ≡ string_bytes item → after ≡ None → TakesWord next word old new after
    → merged old (given_from next (map string_bytes (drop i words))) ≡ arguments_of (map string_bytes words) → None ≡ arguments_of (map string_bytes words)
wrong_word next old new words i item word after less is same none takes left =
    let rest = drop (i + 1) words in
    let wrong = subst (TakesWord next word old new) none takes in
    let here : drop i words ≡ item ∷ rest = drop_more words i item less ∙ ap (λ (x : String Global). x ∷ rest) (sym is) in
    sym (wrong (map string_bytes rest))
    ∙ ap (λ (w : List ℕ). merged old (given_from next (w ∷ map string_bytes rest))) same
    ∙ ap (λ (ws : List (String Global)). merged old (given_from next (map string_bytes ws))) (sym here)
    ∙ left

-- the number of workers

-- a number, if there is one, is from 1 to 16
abbrev IsInRange : Option ℕ → Type 0
IsInRange None = ⊤
IsInRange (Some n) = (1 ≤ n) × (n ≤ 16)

one_digit : (b : Bool) (d : ℕ) → (nat_le (byte "1") d && nat_le d (byte "9")) ≡ b → IsInRange (if b then Some (d - digit_zero) else None)
one_digit false d e = tt
one_digit true d e =
    let both = and_parts (nat_le (byte "1") d) (nat_le d (byte "9")) e in
    let low : 49 ≤ d = leb-true 49 d both.0 in
    let high : d ≤ 57 = leb-true d 57 both.1 in
    (omega (low, arith), omega (high, arith))

two_digits : (b : Bool) (t d : ℕ) → ((t == byte "1") && (nat_le (byte "0") d && nat_le d (byte "6"))) ≡ b → IsInRange (if b then Some (10 + (d - digit_zero)) else None)
two_digits false t d e = tt
two_digits true t d e =
    let first = and_parts (t == byte "1") (nat_le (byte "0") d && nat_le d (byte "6")) e in
    let both = and_parts (nat_le (byte "0") d) (nat_le d (byte "6")) first.1 in
    let high : d ≤ 54 = leb-true d 54 both.1 in
    (omega arith, omega (high, arith))

in_range : (word : List ℕ) → IsInRange (workers_in word)
in_range [] = tt
in_range (d ∷ []) = one_digit _ d refl
in_range (t ∷ d ∷ []) = two_digits _ t d refl
in_range (t ∷ d ∷ e ∷ more) = tt

equals_case : (b : Bool) (word : List ℕ) → IsInRange (if b then workers_in word else None)
equals_case true word = in_range word
equals_case false word = tt

option_in_range : (word : List ℕ) → IsInRange (workers_of word)
option_in_range word = equals_case (pointwise nat_eq (take (length workers_equals) word) workers_equals) (drop (length workers_equals) word)

-- what is given says such a number, or none
abbrev SaysInRange : Option Arguments → Type 0
SaysInRange None = ⊤
SaysInRange (Some given) = IsInRange given.workers

file_in_range : (file : List ℕ) (later : Option Arguments) → SaysInRange later → SaysInRange (with_file file later)
file_in_range file None h = tt
file_in_range file (Some later) h = h

only_in_range : (n : ℕ) (later : Option ℕ) (files : List (List ℕ)) → IsInRange (Some n) → SaysInRange (only_workers n later files)
only_in_range n None files h = h
only_in_range n (Some other) files h = tt

workers_in_range : (said : Option ℕ) (later : Option Arguments) → IsInRange said → SaysInRange (with_workers said later)
workers_in_range None later h = tt
workers_in_range (Some n) None h = tt
workers_in_range (Some n) (Some later) h = only_in_range n later.workers later.files h

any_in_range : (a b c : Bool) (w x y z : Option Arguments) → SaysInRange w → SaysInRange x → SaysInRange y → SaysInRange z → SaysInRange (if a then w else if b then x else if c then y else z)
any_in_range true b c w x y z p q r s = p
any_in_range false true c w x y z p q r s = q
any_in_range false false true w x y z p q r s = r
any_in_range false false false w x y z p q r s = s

given_in_range : (next : Next) (words : List (List ℕ)) → SaysInRange (given_from next words)
given_in_range Any [] = tt
given_in_range Workers [] = tt
given_in_range File [] = tt
given_in_range Any (word ∷ words) =
    any_in_range (is_word word (codes "--")) (is_word word (codes "--workers")) (is_option word)
    (given_from File words) (given_from Workers words) (with_workers (workers_of word) (given_from Any words)) (with_file word (given_from Any words))
    (given_in_range File words) (given_in_range Workers words) (workers_in_range (workers_of word) (given_from Any words) (option_in_range word))
    (file_in_range word (given_from Any words) (given_in_range Any words))
given_in_range Workers (word ∷ words) = workers_in_range (workers_in word) (given_from Any words) (in_range word)
given_in_range File (word ∷ words) = file_in_range word (given_from File words) (given_in_range File words)

-- a task, if there is one, has such a number
abbrev AsksInRange : Option Task → Type 0
AsksInRange None = ⊤
AsksInRange (Some asked) = HasWorkers asked

or_one_in_range : (workers : Option ℕ) → IsInRange workers → IsInRange (Some (or_one workers))
or_one_in_range None h = (omega arith, omega arith)
or_one_in_range (Some n) h = h

facts_in_range : (workers : Option ℕ) (files : List (List ℕ)) → AsksInRange (facts_task workers files)
facts_in_range None [] = tt
facts_in_range None (m ∷ []) = tt
facts_in_range None (m ∷ other ∷ more) = tt
facts_in_range (Some n) files = tt

check_in_range : (workers : Option ℕ) (files : List (List ℕ)) → IsInRange workers → AsksInRange (check_task workers files)
check_in_range workers [] h = tt
check_in_range workers (o ∷ []) h = tt
check_in_range workers (o ∷ c ∷ []) h = tt
check_in_range workers (o ∷ c ∷ m ∷ []) h = or_one_in_range workers h
check_in_range workers (o ∷ c ∷ m ∷ other ∷ more) h = tt

two_in_range : (a b : Bool) (x y : Option Task) → AsksInRange x → AsksInRange y → AsksInRange (if a then x else if b then y else None)
two_in_range true b x y p q = p
two_in_range false true x y p q = q
two_in_range false false x y p q = tt

named_in_range : (command : List ℕ) (given : Option Arguments) → SaysInRange given → AsksInRange (task_named command given)
named_in_range command None h = tt
named_in_range command (Some given) h =
    two_in_range (is_word command (codes "facts")) (is_word command (codes "check")) (facts_task given.workers given.files) (check_task given.workers given.files)
    (facts_in_range given.workers given.files) (check_in_range given.workers given.files h)

asked_in_range : (words : List (List ℕ)) → AsksInRange (task_of words)
asked_in_range [] = tt
asked_in_range (command ∷ words) = named_in_range command (arguments_of words) (given_in_range Any words)

-- the number of workers of a task is from 1 to 16
pub has_workers : (words : List (List ℕ)) (r : Result Task (Stop Usage)) → TellsWords words r → IfOk r HasWorkers
has_workers words (Err stopped) h = tt
has_workers words (Ok asked) h = subst AsksInRange h (asked_in_range words)
