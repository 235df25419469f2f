-- Statements as they are added, up to the limit of items.
use Rattle.std.specs.Prelude.{◌≡◌, ℕ, ◌<◌, List, ◌++◌, length, Result}
use Rattle.mast_terms.specs.Answers.{Answers}
use Rattle.mast_terms.specs.declared.memory.Stop.{Stop}
use Rattle.mast_tree.specs.declared.shape.ShapeBreach.{ShapeBreach}
use Rattle.mast_tbox.specs.declared.axiom.Lined.{Lined}
use Rattle.mast_onto.specs.declared.statement.Statement.{Statement}
use Rattle.mast_onto.specs.declared.statements.TheConstants.{MOST_ITEMS}
use Rattle.mast_onto.specs.Ontologies.{items_at}

-- statements are added, or they pass the limit
abbrev pub Adds : {T : Type 0} → ℕ → List (Lined Statement) → List (Lined Statement) → List (Lined Statement) → Result T (Stop ShapeBreach) → Type 0
Adds line more old new result =
    Answers result (λ _. new ≡ old ++ more) (λ breach. (breach ≡ items_at line) × (MOST_ITEMS < length (old ++ more)))
