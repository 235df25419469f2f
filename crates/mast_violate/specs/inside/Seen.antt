-- For each kind, the ranges of another kind that stand before: their attributes, and how many they are.
use Rattle.std.specs.Prelude.{ℕ, ◌<◌, List, [], ◌∷◌, length, Option, Some, None}
use Rattle.mast_terms.specs.declared.value.Kind.TheVariants as kind
use Rattle.mast_tbox.specs.declared.axiom.Inclusion.{Inclusion}
use Rattle.mast_violate.specs.declared.count.Tally.{Tally}
use Rattle.mast_violate.specs.declared.ranges.Ranges.{Ranges}
use Rattle.mast_violate.specs.ViolationLists.{clashes}

-- the attributes of the ranges among these inclusions, for each kind
abbrev pub clashed : List Inclusion → Ranges
clashed before = record {
  text = clashes kind.Text before;
  integer = clashes kind.Integer before;
  date = clashes kind.Date before;
}

-- how many they are
abbrev pub counted : List Inclusion → Tally
counted before = record {
  text = length (clashes kind.Text before);
  integer = length (clashes kind.Integer before);
  date = length (clashes kind.Date before);
}

-- there are few of them
abbrev pub IsSmall : Tally → Type 0
IsSmall tally = (tally.text < 1000000) × ((tally.integer < 1000000) × (tally.date < 1000000))

-- the list of what is there
abbrev pub as_list : {X : Type 0} → Option X → List X
as_list None = []
as_list (Some x) = x ∷ []
