-- Laws of the definitions.
use Rattle.std.specs.Prelude.{◌≡◌, ℕ, suc, ◌+◌, ◌<◌, ◌≤◌, true, List, length, take, Some, slice_get, ◌⊎◌}
use Rattle.mast_tree.specs.declared.token.LexBreach.{LexBreach}
use Rattle.mast_tree.specs.Source.{AreTokens, IsLexBreach}
use Rattle.mast_tree.specs.declared.token.Token.{Token}
use Rattle.mast_tree.specs.declared.item.Item.{Item}
use Rattle.mast_tree.specs.declared.item.TreeBreach.{TreeBreach}
use Rattle.mast_tree.specs.Tokens.{is_token, feeds}
use Rattle.mast_tree.specs.Words.{span}
use Rattle.mast_tree.specs.Trees.{IsTree, IsTreeBreach}
use Rattle.mast_tree.specs.declared.shape.ShapeBreach.{ShapeBreach}
use Rattle.mast_tree.specs.Prologue.{IsPrologue, IsPrologueBreach}

-- tokens have one tree, or one first breach, and not both
pub record HasOneTree (tokens : List Token) : Type 0 where
  pub either : ((items : List Item) × IsTree tokens items) ⊎ ((breach : TreeBreach) × IsTreeBreach tokens breach)
  pub not_both : (items : List Item) (breach : TreeBreach) → IsTree tokens items → IsTreeBreach tokens breach → ⊥
  pub one_tree : (a b : List Item) → IsTree tokens a → IsTree tokens b → a ≡ b
  pub one_breach : (a b : TreeBreach) → IsTreeBreach tokens a → IsTreeBreach tokens b → a ≡ b

-- so have all tokens
abbrev pub TreeLaw : Type 0
TreeLaw = (tokens : List Token) → HasOneTree tokens

-- a source has one token list, or one first lexical breach, and not both
pub record HasOneReading (source : List ℕ) : Type 0 where
  pub either : ((tokens : List Token) × AreTokens source tokens) ⊎ ((breach : LexBreach) × IsLexBreach source breach)
  pub not_both : (tokens : List Token) (breach : LexBreach) → AreTokens source tokens → IsLexBreach source breach → ⊥
  pub one_list : (a b : List Token) → AreTokens source a → AreTokens source b → a ≡ b
  pub one_breach : (a b : LexBreach) → IsLexBreach source a → IsLexBreach source b → a ≡ b

-- so has each source
abbrev pub TokenLaw : Type 0
TokenLaw = (source : List ℕ) → HasOneReading source

-- a token is a slice of the source, of its kind's form, and its line is 1 and the line feeds before it
pub record IsPlaced (source : List ℕ) (t : Token) : Type 0 where
  pub order : t.from < t.to
  pub within : t.to ≤ length source
  pub form : is_token t.kind (span source t) ≡ true
  pub line : t.line ≡ 1 + feeds (take t.from source)

-- each token of a source is placed so, and the tokens are in order
pub record ArePlaced (source : List ℕ) (tokens : List Token) : Type 0 where
  pub each : (i : ℕ) (t : Token) → slice_get tokens i ≡ Some t → IsPlaced source t
  pub in_order : (i : ℕ) (t u : Token) → slice_get tokens i ≡ Some t → slice_get tokens (suc i) ≡ Some u → t.to ≤ u.from

-- so are the tokens of each source
abbrev pub SpanLaw : Type 0
SpanLaw = (source : List ℕ) (tokens : List Token) → AreTokens source tokens → ArePlaced source tokens

-- the items of a document have one table of prefixes up to the main node, or one first breach, and not both
pub record HasOnePrologue (source : List ℕ) (tokens : List Token) (word : List ℕ) (items : List Item) : Type 0 where
  pub either :
      ((table : List (List ℕ × List ℕ)) × IsPrologue source tokens word items table)
      ⊎ ((breach : ShapeBreach) × IsPrologueBreach source tokens word items breach)
  pub not_both :
      (table : List (List ℕ × List ℕ)) (breach : ShapeBreach)
      → IsPrologue source tokens word items table → IsPrologueBreach source tokens word items breach → ⊥
  pub one_table : (a b : List (List ℕ × List ℕ)) → IsPrologue source tokens word items a → IsPrologue source tokens word items b → a ≡ b
  pub one_breach : (a b : ShapeBreach) → IsPrologueBreach source tokens word items a → IsPrologueBreach source tokens word items b → a ≡ b

-- so have all items
abbrev pub PrologueLaw : Type 0
PrologueLaw = (source : List ℕ) (tokens : List Token) (word : List ℕ) (items : List Item) → HasOnePrologue source tokens word items
