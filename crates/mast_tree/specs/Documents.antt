-- What a document keeps.
use Rattle.std.specs.Prelude.{ℕ, List}
use Rattle.mast_tree.specs.declared.token.Token.{Token}
use Rattle.mast_tree.specs.declared.item.Item.{Item}
use Rattle.mast_tree.specs.Source.{AreTokens}
use Rattle.mast_tree.specs.Trees.{IsTree}

-- the tokens are those of the source, and the items stand for these tokens
pub record IsDoc (source : List ℕ) (tokens : List Token) (items : List Item) : Type 0 where
  pub are_tokens : AreTokens source tokens
  pub is_tree : IsTree tokens items
