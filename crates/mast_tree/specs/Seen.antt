-- Documents as definitions see them: where their parts stand in memory makes no difference.
use Rattle.std.specs.Prelude.{ℕ, List}
use Rattle.mast_tree.specs.declared.document.Doc.{Doc}
use Rattle.mast_tree.specs.declared.item.Item.{Item}
use Rattle.mast_tree.specs.declared.token.Token.{Token}

-- a document: its source, its tokens and its items
pub record Document : Type 0 where
  pub source : List ℕ
  pub tokens : List Token
  pub items : List Item

-- the document of these
abbrev pub document_of : List ℕ → List Token → List Item → Document
document_of source tokens items = record { source = source; tokens = tokens; items = items }

-- the document that a `Doc` holds
abbrev pub seen : Doc → Document
seen doc = document_of doc.source.now doc.tokens.now doc.items
