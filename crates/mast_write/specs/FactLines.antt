-- The lines of facts.
use Rattle.std.specs.Prelude.{◌≡◌, ◌<◌, ℕ, List, [], ◌∷◌, ◌++◌, length, map, slice_get, unwrap_or, codes, Contains}
use Rattle.mast_cq.specs.Meanings.{Fact as FactOfTerms, InClass, InRole, InAttr}
use Rattle.mast_terms.specs.declared.name.Name.{Name}
use Rattle.mast_terms.specs.declared.name.NameKind.{NameKind}
use Rattle.mast_terms.specs.declared.name.NameKind.TheVariants as kind
use Rattle.mast_terms.specs.declared.term.Term.{Term}
use Rattle.mast_terms.specs.Printed.{term_text}
use Rattle.mast_terms.specs.Vocabularies.{Lists, iris}
use Rattle.mast_write.specs.declared.fact_lines.Fact.{Fact}

-- how many terms a fact of a kind has
abbrev pub width : NameKind → ℕ
width kind.Class = 1
width kind.Role = 2
width kind.Attr = 2

-- a fact of a vocabulary: its name has a number there, and it has as many terms as its kind wants
pub record IsFactOf (vocab : Lists) (fact : Fact) : Type 0 where
  pub named : fact.name.0 < length (iris vocab fact.kind)
  pub wide : length fact.terms ≡ width fact.kind

-- the IRI of a name
abbrev pub iri_of : Lists → NameKind → Name → List ℕ
iri_of vocab kind name = unwrap_or (slice_get (iris vocab kind) name.0) []

-- terms, each after a comma
abbrev pub later_terms : List Term → List ℕ
later_terms [] = []
later_terms (term ∷ terms) = codes "," ++ (term_text term ++ later_terms terms)

-- terms with commas between them
abbrev pub terms_text : List Term → List ℕ
terms_text [] = []
terms_text (term ∷ terms) = term_text term ++ later_terms terms

-- the line of a fact: `<iri>(term)` or `<iri>(term,term)`
abbrev pub fact_line : Lists → Fact → List ℕ
fact_line vocab fact =
    codes "<" ++ (iri_of vocab fact.kind fact.name ++ (codes ">(" ++ (terms_text fact.terms ++ codes ")")))

-- a fact of the mappings as it is printed
abbrev pub printed : FactOfTerms Term → Fact
printed (InClass name t) = record { kind = kind.Class; name = name; terms = t ∷ [] }
printed (InRole name t u) = record { kind = kind.Role; name = name; terms = t ∷ u ∷ [] }
printed (InAttr name t v) = record { kind = kind.Attr; name = name; terms = t ∷ v ∷ [] }

-- the line of one of these facts
abbrev pub IsFactLine : Lists → List Fact → List ℕ → Type 0
IsFactLine vocab facts line = Contains (map (fact_line vocab) facts) line
