-- The lines of a query, as the reader keeps them.
use Rattle.std.specs.Prelude.{◌≡◌, ℕ, Bool, List, Vec}
use Rattle.std.specs.declared.alloc.Global.{Global}
use Rattle.mast_grammar.specs.declared.terminal.Terminal.{Terminal}
use Rattle.mast_sparsql.specs.Terminals.{seen, lines_with}

-- the bytes of a prefix
abbrev pub items_of : Vec ℕ Global → List ℕ
items_of v = v.items

-- what the reader makes of a token
pub record Sees (behind : Bool) (old : List (List ℕ)) (k : Terminal) (bytes : List ℕ) (is : Terminal) (new : List (List ℕ)) : Type 0 where
  pub terminal : is ≡ seen behind old k bytes
  pub lines : new ≡ lines_with behind old k bytes
