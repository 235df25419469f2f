-- The facts of all rows of tables as a list, and the terms of a list of facts.
use Rattle.std.specs.Prelude.{ℕ, zero, suc, Bool, if◌then◌else◌, List, [], ◌∷◌, ◌++◌, map, length, flat_map}
use Rattle.std.specs.List.{list_all}
use Rattle.std.specs.Option.{option_to_list}
use Rattle.mast_terms.specs.declared.term.Term.{Term}
use Rattle.mast_cq.specs.Meanings.{Fact, InClass, InRole, InAttr}
use Rattle.mast_sql.specs.declared.query.Comparison.{Comparison}
use Rattle.mast_sql.specs.declared.query.FromEntry.{FromEntry}
use Rattle.mast_sql.specs.declared.query.SourceQuery.{SourceQuery}
use Rattle.mast_tables.specs.declared.declaration.TableDecl.{TableDecl}
use Rattle.mast_tables.specs.Rows.{Row}
use Rattle.mast_mapping.specs.declared.split_map.SplitMap.{SplitMap}
use Rattle.mast_canon.specs.Choices.{rows_of, chosen, compare, operand_value}
use Rattle.mast_canon.specs.Facts.{fact_of}

-- the numbers from n down to 1
abbrev pub up_to : ℕ → List ℕ
up_to zero = []
up_to (suc n) = suc n ∷ up_to n

-- whether the comparison is true of the chosen rows
abbrev pub is_true_of : List TableDecl → List FromEntry → List Row → Comparison → Bool
is_true_of decls entries rows c = compare c.op (operand_value decls entries rows c.left) (operand_value decls entries rows c.right)

module _ (decls : List TableDecl) (tables : List (List Row)) where
  -- all choices for these entries
  abbrev pub choices : List FromEntry → List (List ℕ)
  choices [] = [] ∷ []
  choices (entry ∷ entries) = flat_map (λ n. map (λ c. n ∷ c) (choices entries)) (up_to (length (rows_of decls tables entry)))

  -- whether each comparison of the query is true of the choice
  abbrev pub is_met : SourceQuery → List ℕ → Bool
  is_met query choice = list_all (is_true_of decls query.from (chosen decls tables query.from choice)) query.conditions

  -- the fact that a choice gives by a split mapping, if it gives one
  abbrev pub facts_by : SplitMap → List ℕ → List (Fact Term)
  facts_by m choice =
      if is_met m.query choice then option_to_list (fact_of decls m.query (chosen decls tables m.query.from choice) m.head) else []

  -- the facts of all choices
  abbrev pub all_facts : List SplitMap → List (Fact Term)
  all_facts maps = flat_map (λ m. flat_map (facts_by m) (choices m.query.from)) maps

-- the terms of a fact
abbrev pub terms_in : Fact Term → List Term
terms_in (InClass a t) = t ∷ []
terms_in (InRole p t u) = t ∷ u ∷ []
terms_in (InAttr v t u) = t ∷ u ∷ []

-- and of facts
abbrev pub terms_of : List (Fact Term) → List Term
terms_of [] = []
terms_of (f ∷ facts) = terms_in f ++ terms_of facts
