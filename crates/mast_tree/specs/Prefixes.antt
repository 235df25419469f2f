-- The prefixes of a document, and the IRIs that its items name.
use Rattle.std.specs.Prelude.{ℕ, ◌==◌, if◌then◌else◌, List, [], ◌∷◌, ◌++◌, Option, Some, None, Result, Ok, Err, codes}
use Rattle.std.specs.Str.{bytes_eq}
use Rattle.mast_source.specs.Bytes.{colon}
use Rattle.mast_tree.specs.declared.token.Token.{Token}
use Rattle.mast_tree.specs.declared.item.Item.{Item, out-Item}
use Rattle.mast_tree.specs.declared.item.Item.TheOpen.{Item-F}
use Rattle.mast_tree.specs.declared.shape.ShapeBreach.{ShapeBreach}
use Rattle.mast_tree.specs.declared.shape.ShapeKind.TheVariants.{Shape, UnknownPrefix}
use Rattle.mast_tree.specs.Words.{word_of, line_of}

-- with a byte before
abbrev pub after_byte : ℕ → Option (List ℕ × List ℕ) → Option (List ℕ × List ℕ)
after_byte b None = None
after_byte b (Some p) = Some (b ∷ p.0, p.1)

-- what stands before the first colon, and after it
abbrev pub colon_split : List ℕ → Option (List ℕ × List ℕ)
colon_split [] = None
colon_split (b ∷ bs) = if b == colon then Some ([], bs) else after_byte b (colon_split bs)

-- what a prefix stands for among those of a document, each without its colon
abbrev pub namespace_of : List ℕ → List (List ℕ × List ℕ) → Option (List ℕ)
namespace_of prefix [] = None
namespace_of prefix (e ∷ es) = if bytes_eq prefix e.0 then Some e.1 else namespace_of prefix es

-- the four that are known without a node
abbrev pub standard : List ℕ → Option (List ℕ)
standard prefix =
    if bytes_eq prefix (codes "owl") then Some (codes "http://www.w3.org/2002/07/owl#")
    else if bytes_eq prefix (codes "rdf") then Some (codes "http://www.w3.org/1999/02/22-rdf-syntax-ns#")
    else if bytes_eq prefix (codes "rdfs") then Some (codes "http://www.w3.org/2000/01/rdf-schema#")
    else if bytes_eq prefix (codes "xsd") then Some (codes "http://www.w3.org/2001/XMLSchema#")
    else None

-- what a node says, or else what is known without one
abbrev pub or_standard : Option (List ℕ) → List ℕ → Option (List ℕ)
or_standard (Some namespace) prefix = Some namespace
or_standard None prefix = standard prefix

-- what a prefix stands for
abbrev pub known : List ℕ → List (List ℕ × List ℕ) → Option (List ℕ)
known prefix table = or_standard (namespace_of prefix table) prefix

-- the number of the first token of a layer of items
abbrev pub first_in : Item-F Item → ℕ
first_in (Item-F.Leaf t) = t
first_in (Item-F.Iri t) = t
first_in (Item-F.Str t tag) = t
first_in (Item-F.Bind t iri) = t
first_in (Item-F.Node t items) = t

-- the number of the first token of an item
abbrev pub first_of : Item → ℕ
first_of item = first_in (out-Item item)

-- a breach of the form at a line
abbrev pub shape_at : ℕ → ShapeBreach
shape_at line = record { line = line; kind = Shape }

-- what a prefix stands for and what follows it
abbrev pub joined : Option (List ℕ) → List ℕ → ℕ → Result (List ℕ) ShapeBreach
joined None name line = Err (record { line = line; kind = UnknownPrefix })
joined (Some namespace) name line = Ok (namespace ++ name)

-- a name in two parts
abbrev pub named : List (List ℕ × List ℕ) → Option (List ℕ × List ℕ) → ℕ → Result (List ℕ) ShapeBreach
named table None line = Err (shape_at line)
named table (Some p) line = joined (known p.0 table) p.1 line

-- an IRI is itself, and a name is what its prefix stands for and what follows the first colon
abbrev pub iri_in : List ℕ → List Token → List (List ℕ × List ℕ) → Item-F Item → Result (List ℕ) ShapeBreach
iri_in source tokens table (Item-F.Iri t) = Ok (word_of source tokens t)
iri_in source tokens table (Item-F.Leaf t) = named table (colon_split (word_of source tokens t)) (line_of tokens t)
iri_in source tokens table layer = Err (shape_at (line_of tokens (first_in layer)))

-- the IRI that an item names, or its breach
abbrev pub iri_of : List ℕ → List Token → List (List ℕ × List ℕ) → Item → Result (List ℕ) ShapeBreach
iri_of source tokens table item = iri_in source tokens table (out-Item item)
