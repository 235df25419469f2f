-- What an item says. Readers of documents and their definitions speak of words and lines, and not of tokens.
use Rattle.std.specs.Prelude.{ℕ, List, Option, Some, None}
use Rattle.mast_tree.specs.declared.item.Item.{Item, out-Item}
use Rattle.mast_tree.specs.declared.item.Item.TheOpen.{Item-F}
use Rattle.mast_tree.specs.declared.token.Token.{Token}
use Rattle.mast_tree.specs.Words.{word_of, text_of, line_of}
use Rattle.mast_tree.specs.Seen.{Document}

-- a name alone, an IRI alone, a string without a type and a language, a string with one, a binding, or a node and the items inside it;
-- each with the line of its first token
pub data Said : Type 0 where
  name : List ℕ → ℕ → Said
  iri : List ℕ → ℕ → Said
  text : List ℕ → ℕ → Said
  tagged : ℕ → Said
  binding : ℕ → Said
  node : List ℕ → ℕ → List Item → Said

-- a string, with its type or language if it has one
abbrev pub string_said : List ℕ → ℕ → Option ℕ → Said
string_said chars line None = text chars line
string_said chars line (Some tag) = tagged line

-- what a layer of items says
abbrev pub said_in : List ℕ → List Token → Item-F Item → Said
said_in source tokens (Item-F.Leaf t) = name (word_of source tokens t) (line_of tokens t)
said_in source tokens (Item-F.Iri t) = iri (word_of source tokens t) (line_of tokens t)
said_in source tokens (Item-F.Str t tag) = string_said (text_of source tokens t) (line_of tokens t) tag
said_in source tokens (Item-F.Bind t value) = binding (line_of tokens t)
said_in source tokens (Item-F.Node t items) = node (word_of source tokens t) (line_of tokens t) items

-- what an item of a document says
abbrev pub said : Document → Item → Said
said doc item = said_in doc.source doc.tokens (out-Item item)

-- the line of what is said
abbrev pub line : Said → ℕ
line (name word at) = at
line (iri word at) = at
line (text chars at) = at
line (tagged at) = at
line (binding at) = at
line (node word at items) = at
