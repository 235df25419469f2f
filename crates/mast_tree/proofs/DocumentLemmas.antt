-- What a document keeps.
use Rattle.std.proofs.Common.{◌≡◌, inl, inr, ℕ, List, subst}
use Rattle.std.proofs.Math.Logic.{∥∥₁_elim}
use Rattle.std.specs.Coded.{codes}
use Rattle.mast_tree.specs.declared.token.Token.{Token}
use Rattle.mast_tree.specs.declared.item.Item.{Item}
use Rattle.mast_tree.specs.Documents.{IsDoc}
use Rattle.mast_tree.specs.Source.{AreTokens}
use Rattle.mast_tree.proofs.TokenLawLemmas.{has_one_reading}

-- token lists are equal in one way
tokens_set : (a b : List Token) → IsProp (a ≡ b)
tokens_set a b = hlevel codes

-- the tokens of a document are those of its source
pub doc_tokens : (source : List ℕ) (tokens : List Token) (items : List Item) → ∥ IsDoc source tokens items ∥₁ → AreTokens source tokens
doc_tokens source tokens items d = elim ((has_one_reading source).either) [
  | inl r ↦ subst (λ x. AreTokens source x) (∥∥₁_elim d (tokens_set r.0 tokens) (λ k. (has_one_reading source).one_list r.0 tokens r.1 k.are_tokens)) r.1
  | inr r ↦ absurd (∥∥₁_elim d (λ x y. absurd x) (λ k. (has_one_reading source).not_both tokens r.0 k.are_tokens r.1))
]
