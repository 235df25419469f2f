use Rattle.std.proofs.Common.{◌≡◌, ◌++◌, drop}
use Rattle.mast_mapping.specs.Split.{split_heads}
use Rattle.mast_mapping.proofs.split_map.put_heads.Given as goal

-- what is put and what the heads that are left give make the whole
abbrev pub invariant-loop-head : goal.invariant-loop-head
invariant-loop-head l = l.split ++ split_heads l.query (drop l.head-index l.heads) ≡ l.fn.split ++ split_heads l.query l.heads
