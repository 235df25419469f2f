-- Terminals that are still to be read, and what was read of them.
use Rattle.std.specs.Prelude.{◌≡◌, ℕ, suc, Bool, true, false, List, [], ◌∷◌, ◌++◌}
use Rattle.std.specs.List.{flat_map, list_all}
use Rattle.mast_grammar.specs.declared.terminal.Terminal.{Terminal}
use Rattle.mast_sparsql.specs.Terminals.{same}
use Rattle.mast_sparsql.specs.Trees.{Shape, AreShapes, separated, some}

-- the number of the next token, and the terminals from it on
pub record Left : Type 0 where
  pub at : ℕ
  pub rest : List Terminal

-- the tokens that may be written from here on
abbrev pub Goes : Left → List Shape → Type 0
Goes left shapes = AreShapes left.at left.rest shapes

-- what was read is written so, whatever is written behind it
abbrev pub Reads : Left → Left → List Shape → Type 0
Reads old new shapes = (more : List Shape) → Goes new more → Goes old (shapes ++ more)

-- one token was read: its number and its terminal
pub record Steps (old new : Left) (n : ℕ) (k : Terminal) : Type 0 where
  pub rest : old.rest ≡ k ∷ new.rest
  pub number : n ≡ old.at
  pub next : new.at ≡ suc old.at

-- the next token has the terminal
abbrev pub starts : Terminal → List Terminal → Bool
starts wanted [] = false
starts wanted (k ∷ ks) = same wanted k

-- tokens were read, or nothing
abbrev pub Takes : Bool → Left → Left → List Shape → Type 0
Takes true old new shapes = Reads old new shapes
Takes false old new shapes = new ≡ old

-- a list with elements was read, with a word between them
pub record ReadsList {X : Type 0} (old new : Left) (k : Terminal) (f : X → List Shape) (xs : List X) : Type 0 where
  pub elements : some xs ≡ true
  pub reads : Reads old new (separated k f xs)

-- the same, and each element has the test
pub record ReadsEach {X : Type 0} (old new : Left) (k : Terminal) (f : X → List Shape) (test : X → Bool) (xs : List X) : Type 0 where
  pub list : ReadsList old new k f xs
  pub each : list_all test xs ≡ true

-- a list with elements was read, with nothing between them
pub record ReadsMany {X : Type 0} (old new : Left) (f : X → List Shape) (xs : List X) : Type 0 where
  pub elements : some xs ≡ true
  pub reads : Reads old new (flat_map f xs)
