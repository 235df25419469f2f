-- The tree that was read.
use Rattle.std.proofs.Common.{◌≡◌, ℕ, ◌<◌, List, [], ◌∷◌, ◌++◌, length, subst, sym, refl, arith}
use Rattle.std.specs.List.{flat_map}
use Rattle.std.proofs.lemmas.List.{append-nil}
use Rattle.mast_sparsql.proofs.PassLemmas.{same_terminals}
use Rattle.mast_sql.specs.declared.token.SqlToken.{SqlToken}
use Rattle.mast_grammar.specs.declared.terminal.Terminal.{Terminal}
use Rattle.mast_grammar.specs.declared.terminal.Terminal.TheVariants as terminal
use Rattle.mast_sparsql.specs.declared.tree.Tree.{Tree as HeldTree}
use Rattle.mast_sparsql.specs.Trees.{AreShapes, IsTree, line_written, optional, part_written, tree_written}
use Rattle.mast_sparsql.specs.inside.Cursors.{Left, Goes, Reads}
use Rattle.mast_sparsql.specs.Held.{part_of, tree_of, IsRead}
use Rattle.mast_sparsql.specs.Passes.{AreQueryTokens}
use Rattle.mast_sparsql.specs.Terminals.{terminals}
use Rattle.mast_sparsql.specs.inside.Parts.{ReadsBody}
use Rattle.mast_sparsql.proofs.CursorLemmas.{reads_both}

is_empty : {X : Type 0} (xs : List X) → (0 < length xs → ⊥) → xs ≡ []
is_empty [] h = refl
is_empty (x ∷ xs) h = absurd (h (omega arith))

-- nothing is left behind the lines, the body and the semicolon
pub is_tree : (ks : List Terminal) (old one two new : Left) (held : HeldTree)
    → old ≡ record { at = 0; rest = ks } → Reads old one (flat_map line_written held.lines) → ReadsBody 2 one two held.body
    → Reads two new (optional held.semicolon terminal.Semicolon) → (0 < length new.rest → ⊥) → IsTree ks (tree_of held)
is_tree ks old one two new held start a b c none =
    let tail = part_written (part_of held.body) ++ optional held.semicolon terminal.Semicolon in
    let whole = reads_both old one new (flat_map line_written held.lines) tail a
    (reads_both one two new (part_written (part_of held.body)) (optional held.semicolon terminal.Semicolon) b.reads c) in
    let goes : Goes new [] = subst (λ rest. AreShapes new.at rest []) (sym (is_empty new.rest none)) tt in
    record {
      body = b.ranks;
      written = subst (λ left. Goes left (tree_written (tree_of held))) start
          (subst (λ ss. Goes old ss) (append-nil (tree_written (tree_of held))) (whole [] goes));
    }

-- what was read of terminals that a slice holds
pub is_read : (source : List ℕ) (tokens held : List SqlToken) (ks seen : List Terminal) (tree : HeldTree)
    → held ≡ tokens → AreQueryTokens source tokens → ks ≡ terminals source held → seen ≡ ks → IsTree seen (tree_of tree) → IsRead source tokens tree
is_read source tokens held ks seen tree h t k s is =
    record { early = t; written = subst (λ x. IsTree x (tree_of tree)) (same_terminals source tokens held ks seen h k s) is }
