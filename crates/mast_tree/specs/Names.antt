-- The names that a document uses: IRIs in the place of a class, a role or an attribute.
use Rattle.std.specs.Prelude.{◌≡◌, ◌<◌, ℕ, ◌||◌, Bool, nat_eq, if◌then◌else◌, List, [], ◌∷◌, length, Some, Result, Ok, Err, codes, slice_get}
use Rattle.std.specs.List.{starts_with}
use Rattle.mast_terms.specs.declared.memory.Stop.{Stop}
use Rattle.mast_terms.specs.declared.name.Name.{Name}
use Rattle.mast_terms.specs.declared.name.NameKind.{NameKind}
use Rattle.mast_terms.specs.Vocabularies.{Lists, iris}
use Rattle.mast_tree.specs.declared.item.Item.{Item}
use Rattle.mast_tree.specs.declared.shape.ShapeBreach.{ShapeBreach}
use Rattle.mast_tree.specs.declared.shape.ShapeKind.TheVariants as shape
use Rattle.mast_tree.specs.Judgements.{Judgement, uses, breaks, Judges}
use Rattle.mast_tree.specs.Prefixes.{iri_of}
use Rattle.mast_tree.specs.Said.{said, line}
use Rattle.mast_tree.specs.Seen.{Document}

-- an IRI in one of the four namespaces of the standards
abbrev pub is_standard : List ℕ → Bool
is_standard iri =
    starts_with nat_eq iri (codes "http://www.w3.org/2002/07/owl#")
    || (starts_with nat_eq iri (codes "http://www.w3.org/1999/02/22-rdf-syntax-ns#")
    || (starts_with nat_eq iri (codes "http://www.w3.org/2000/01/rdf-schema#")
    || starts_with nat_eq iri (codes "http://www.w3.org/2001/XMLSchema#")))

-- what is judged of an item that is to name an IRI: its form and prefix, then its namespace, then its use
abbrev pub iri_judged : NameKind → Result (List ℕ) ShapeBreach → ℕ → List Judgement
iri_judged kind (Err breach) at = breaks breach.kind breach.line ∷ []
iri_judged kind (Ok iri) at = if is_standard iri then breaks shape.NotDlLite at ∷ [] else uses kind iri at ∷ []

-- the IRI that an item of a document names, or its breach
abbrev pub iri_named : Document → List (List ℕ × List ℕ) → Item → Result (List ℕ) ShapeBreach
iri_named doc prefixes item = iri_of doc.source doc.tokens prefixes item

-- what is judged of an item in the place of a name
abbrev pub name_judged : NameKind → Document → List (List ℕ × List ℕ) → Item → List Judgement
name_judged kind doc prefixes item = iri_judged kind (iri_named doc prefixes item) (line (said doc item))

-- the number is that of an IRI among those of its kind
abbrev pub StandsIn : Lists → NameKind → ℕ → Type 0
StandsIn lists kind n = n < length (iris lists kind)

-- the name that the item says: the number that its IRI has among those of its kind
abbrev pub IsName : Lists → NameKind → Document → List (List ℕ × List ℕ) → Item → Name → Type 0
IsName lists kind doc prefixes item name = (iri : List ℕ) × (iri_named doc prefixes item ≡ Ok iri) × (slice_get (iris lists kind) name.0 ≡ Some iri)

-- an item is judged in the place of a name, and gives the name that it says
abbrev pub JudgesName : Lists → NameKind → Document → List (List ℕ × List ℕ) → Item → Lists → Result Name (Stop ShapeBreach) → Type 0
JudgesName old kind doc prefixes item new result = Judges old (name_judged kind doc prefixes item) new (IsName new kind doc prefixes item) result
