-- What is judged of a document, item by item in preorder, and the first breach of that.
use Rattle.std.specs.Prelude.{◌≡◌, ℕ, List, [], ◌∷◌, Option, Some, None, Result, Ok, Err}
use Rattle.mast_terms.specs.declared.memory.Stop.{Stop}
use Rattle.mast_terms.specs.declared.name.AddRefusal.{AddRefusal}
use Rattle.mast_terms.specs.declared.name.AddRefusal.TheVariants as refusal
use Rattle.mast_terms.specs.declared.name.NameKind.{NameKind}
use Rattle.mast_terms.specs.declared.value.Value.{Value}
use Rattle.mast_terms.specs.Answers.{Answers}
use Rattle.mast_terms.specs.Vocabularies.{Lists, refusal_of, value_refusal, with_iri, with_value}
use Rattle.mast_tree.specs.declared.shape.ShapeBreach.{ShapeBreach}
use Rattle.mast_tree.specs.declared.shape.ShapeKind.{ShapeKind}
use Rattle.mast_tree.specs.declared.shape.ShapeKind.TheVariants as shape

-- an IRI is used as a name of a kind, a constant is numbered, or something is wrong whatever the names; each at a line
pub data Judgement : Type 0 where
  uses : NameKind → List ℕ → ℕ → Judgement
  numbers : Value → ℕ → Judgement
  breaks : ShapeKind → ℕ → Judgement

-- what is judged of what may be wrong whatever the names
abbrev pub breach_judged : {T : Type 0} → Result T ShapeBreach → List Judgement
breach_judged (Ok given) = []
breach_judged (Err breach) = breaks breach.kind breach.line ∷ []

-- the names and constants once this is judged
abbrev pub after_one : Lists → Judgement → Lists
after_one lists (uses kind iri line) = with_iri lists kind iri
after_one lists (numbers value line) = with_value lists value
after_one lists (breaks kind line) = lists

-- the names and constants once all of these are judged
abbrev pub after : Lists → List Judgement → Lists
after lists [] = lists
after lists (j ∷ js) = after (after_one lists j) js

-- a name that is refused has two kinds, or is one too many
abbrev pub refused_kind : AddRefusal → ShapeKind
refused_kind refusal.TwoKinds = shape.TwoKinds
refused_kind refusal.Full = shape.Names

-- the breach of a refused name or constant
abbrev pub refused_at : ℕ → Option AddRefusal → Option ShapeBreach
refused_at line None = None
refused_at line (Some why) = Some (record { line = line; kind = refused_kind why })

-- what is wrong with one judgement, over the names and constants so far
abbrev pub breach_at : Lists → Judgement → Option ShapeBreach
breach_at lists (uses kind iri line) = refused_at line (refusal_of lists kind iri)
breach_at lists (numbers value line) = refused_at line (value_refusal value lists.constants)
breach_at lists (breaks kind line) = Some (record { line = line; kind = kind })

-- a breach, or else a later one
abbrev pub or_later : Option ShapeBreach → Option ShapeBreach → Option ShapeBreach
or_later (Some breach) later = Some breach
or_later None later = later

-- the first breach of what is judged
abbrev pub first_breach : Lists → List Judgement → Option ShapeBreach
first_breach lists [] = None
first_breach lists (j ∷ js) = or_later (breach_at lists j) (first_breach (after_one lists j) js)

-- what is judged has no breach, and the names and constants are then these
pub record AreRight (old : Lists) (judgements : List Judgement) (new : Lists) : Type 0 where
  pub none : first_breach old judgements ≡ None
  pub then : new ≡ after old judgements

-- a part of a document was read: nothing is wrong with it and P holds of what it gives, or this is its first breach
abbrev pub Judges : {T : Type 0} → Lists → List Judgement → Lists → (T → Type 0) → Result T (Stop ShapeBreach) → Type 0
Judges old judgements new P result =
    Answers result (λ given. AreRight old judgements new × P given) (λ breach. first_breach old judgements ≡ Some breach)
