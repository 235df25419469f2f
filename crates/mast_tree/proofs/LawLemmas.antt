-- Tokens have one tree or one breach.
use Rattle.std.proofs.Common.{◌≡◌, ◌⊎◌, inl, inr, ℕ, List, refl, ap, sym, ◌∙◌}
use Rattle.mast_tree.specs.declared.token.Token.{Token}
use Rattle.mast_tree.specs.declared.token.TokenKind.{TokenKind}
use Rattle.mast_tree.specs.declared.item.Item.{Item}
use Rattle.mast_tree.specs.declared.item.TreeBreach.{TreeBreach}
use Rattle.mast_tree.specs.declared.item.TreeKind.{TreeKind}
use Rattle.mast_tree.specs.declared.item.TreeKind.TheVariants.{Unexpected, Deep}
use Rattle.mast_tree.specs.declared.parser.ParseState.TheVariants as state
use Rattle.mast_tree.specs.Grammar.{Found, fine, unexpected, deep, Tells}
use Rattle.mast_tree.specs.inside.Parser.{look}
use Rattle.mast_tree.specs.Trees.{items_from, Stand, kinds, IsTree, IsTreeBreach, found_of}
use Rattle.mast_tree.specs.Laws.{HasOneTree}
use Rattle.mast_tree.proofs.LookLemmas.{look_exact, only_one}
use Rattle.mast_tree.proofs.OneTree.{one_document}

-- a tree is what is told where all is fine
fine_of : (tokens : List Token) (items : List Item) → IsTree tokens items → Tells (kinds tokens) fine
fine_of tokens items t = ((t.0.0, t.0.1), t.1)

of_fine : (tokens : List Token) → Tells (kinds tokens) fine → (items : List Item) × IsTree tokens items
of_fine tokens t = (items_from 0 t.0.0, ((t.0.0, t.0.1, refl), t.1))

either_found : (tokens : List Token) (f : Found) → Tells (kinds tokens) f → ((items : List Item) × IsTree tokens items) ⊎ ((breach : TreeBreach) × IsTreeBreach tokens breach)
either_found tokens fine t = inl (of_fine tokens t)
either_found tokens (unexpected i) t = inr (record { token = i; kind = Unexpected }, t)
either_found tokens (deep i) t = inr (record { token = i; kind = Deep }, t)

not_fine : (k : TreeKind) (i : ℕ) → fine ≡ found_of k i → ⊥
not_fine Unexpected i h = cc
not_fine Deep i h = cc

same_found : (j k : TreeKind) (m n : ℕ) → found_of j m ≡ found_of k n → (j ≡ k) × (m ≡ n)
same_found Unexpected Unexpected m n h = (refl, cc)
same_found Unexpected Deep m n h = absurd (cc)
same_found Deep Unexpected m n h = absurd (cc)
same_found Deep Deep m n h = (refl, cc)

same_tree : (ks : List TokenKind) (a b : List Item) → Stand ks a → Stand ks b → a ≡ b
same_tree ks a b s t = s.2 ∙ ap (λ x. items_from 0 x) (one_document s.0 t.0 (sym s.1 ∙ t.1)) ∙ sym t.2

same_breach : (a b : TreeBreach) → (a.kind ≡ b.kind) × (a.token ≡ b.token) → a ≡ b
same_breach a b h = λ i. record { token = h.1 i; kind = h.0 i }

-- tokens have one tree or one first breach
pub has_one_tree : (tokens : List Token) → HasOneTree tokens
has_one_tree tokens = record {
  either = either_found tokens (look state.Item 0 (kinds tokens)) (look_exact (kinds tokens));
  not_both = λ items b t u. not_fine b.kind b.token (only_one (kinds tokens) fine (found_of b.kind b.token) (fine_of tokens items t) u);
  one_tree = λ a b t u. same_tree (kinds tokens) a b t.0 u.0;
  one_breach = λ a b t u. same_breach a b (same_found a.kind b.kind a.token b.token (only_one (kinds tokens) (found_of a.kind a.token) (found_of b.kind b.token) t u));
}
