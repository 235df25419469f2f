use Rattle.std.proofs.Common.{◌≡◌, drop}
use Rattle.mast_tbox.specs.declared.expression.Basic.{Basic}
use Rattle.mast_tbox.specs.inside.Linking.{noted_for, with_root}
use Rattle.mast_tbox.proofs.name_links.note.Given as goal

abbrev pub invariant-loop-name : goal.invariant-loop-name
invariant-loop-name l = (n : Basic) → with_root l.root (drop l.name-index l.names) n (noted_for l.chiefs n) ≡ with_root l.root l.names n (noted_for l.fn.chiefs n)
