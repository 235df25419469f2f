-- What a select gives.
use Rattle.std.specs.Prelude.{◌≡◌, ◌↔◌, ℕ, true, List, [], ◌∷◌, ◌++◌, length}
use Rattle.mast_relations.specs.Lookups.{rows_in}
use Rattle.mast_relations.specs.Matches.{In, Rows}
use Rattle.mast_relations.specs.Plans.{picked}
use Rattle.mast_conditions.specs.Truth.{truth, width_of}
use Rattle.mast_conditions.specs.declared.condition.Condition.{Condition}
use Rattle.mast_conditions.specs.declared.condition.Entry.{Entry}
use Rattle.mast_conditions.specs.declared.condition.Select.{Select}

-- the row is one of the entry's relation, and has in the columns of the entry what stands at its places
pub record IsFound (relations : List Rows) (entry : Entry) (numbers row : List ℕ) : Type 0 where
  pub there : In row (rows_in relations entry.relation)
  pub wide : length row ≡ width_of relations entry
  pub agrees : picked row entry.columns ≡ picked numbers entry.places

-- some rows of the entries, each put behind the numbers before it and found by them, lead to numbers of which it holds
abbrev pub Leads : List Rows → List Entry → List ℕ → (List ℕ → Type 0) → Type 0
Leads relations [] numbers P = P numbers
Leads relations (entry ∷ entries) numbers P =
    (row : List ℕ) × IsFound relations entry numbers row × Leads relations entries (numbers ++ row) P

-- the condition is true of what is chosen, and the tuple stands at the places of the items
abbrev pub GivesAt : List Rows → Condition → List ℕ → List ℕ → List ℕ → Type 0
GivesAt relations condition items tuple chosen = (truth relations condition chosen ≡ true) × (picked chosen items ≡ tuple)

-- over these entries the select gives this tuple
abbrev pub Gives : List Rows → Select → List Entry → List ℕ → List ℕ → Type 0
Gives relations select entries numbers tuple =
    Leads relations entries numbers (GivesAt relations select.condition select.items tuple)

-- over its own
abbrev pub SelectGives : List Rows → Select → List ℕ → List ℕ → Type 0
SelectGives relations select numbers tuple = Gives relations select select.entries numbers tuple

-- the entries lead to numbers of which one condition is true where others lead to some of which another is
abbrev pub AsksAs : List Entry → Condition → List Entry → Condition → Type 0
AsksAs entries condition others other = (relations : List Rows) → (numbers : List ℕ)
    → Leads relations entries numbers (λ chosen. truth relations condition chosen ≡ true)
    ↔ Leads relations others numbers (λ chosen. truth relations other chosen ≡ true)

-- the condition is true where the select has a row
abbrev pub AsksFor : Select → Condition → Type 0
AsksFor select condition = AsksAs select.entries select.condition [] condition
