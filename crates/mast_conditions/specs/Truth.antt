-- When a condition is true of numbers.
use Rattle.std.specs.Prelude.{ℕ, ◌==◌, ◌&&◌, not, nat_eq, Bool, List, ◌++◌, length, map, take, get_or}
use Rattle.std.specs.List.{list_all, list_any}
use Rattle.std.specs.Cmp.Lexicographic.{pointwise}
use Rattle.mast_relations.specs.Lookups.{rows_in}
use Rattle.mast_relations.specs.Matches.{Rows, nothing}
use Rattle.mast_relations.specs.Plans.{picked}
use Rattle.mast_conditions.specs.declared.condition.Condition.{Condition}
use Rattle.mast_conditions.specs.declared.condition.Condition.TheFolds.{fold-Condition}
use Rattle.mast_conditions.specs.declared.condition.Condition.TheOpen.{Condition-F}
use Rattle.mast_conditions.specs.declared.condition.Entry.{Entry}

-- how many columns the relation of an entry has
abbrev pub width_of : List Rows → Entry → ℕ
width_of relations entry = (get_or relations entry.relation nothing).width

-- the row has a number for each column of its relation, and in the columns of the entry what stands at its places
abbrev pub is_found : List Rows → Entry → List ℕ → List ℕ → Bool
is_found relations entry numbers row =
    (length row == width_of relations entry) && pointwise nat_eq (picked row entry.columns) (picked numbers entry.places)

-- some row of the entry, put behind the numbers, makes the rest true
abbrev pub is_some_row_true : List Rows → Entry → (List ℕ → Bool) → List ℕ → Bool
is_some_row_true relations entry rest numbers =
    list_any (λ row. is_found relations entry numbers row && rest (numbers ++ row)) (rows_in relations entry.relation)

-- whether a level of a condition is true of numbers, by what its parts are true of
abbrev pub condition_step : List Rows → Condition-F (List ℕ → Bool) → List ℕ → Bool
condition_step relations (Condition-F.Equal left right) numbers = get_or numbers left 0 == get_or numbers right 0
condition_step relations (Condition-F.Not part) numbers = not (part numbers)
condition_step relations (Condition-F.All parts) numbers = list_all (λ part. part numbers) parts
condition_step relations (Condition-F.Any parts) numbers = list_any (λ part. part numbers) parts
condition_step relations (Condition-F.Row entry rest) numbers = is_some_row_true relations entry rest numbers
condition_step relations (Condition-F.Only count places rest) numbers = rest (take count numbers ++ picked numbers places)

-- whether a condition is true of numbers
abbrev pub truth : List Rows → Condition → List ℕ → Bool
truth relations = fold-Condition (List ℕ → Bool) (condition_step relations)

-- what each of the conditions is true of
abbrev pub truths : List Rows → List Condition → List (List ℕ → Bool)
truths relations conditions = map (truth relations) conditions
