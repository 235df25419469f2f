-- No split mapping is left.
use Rattle.std.proofs.Common.{drop, length, ◌≤◌, subst}
use Rattle.std.proofs.lemmas.List.{drop_all}
use Rattle.mast_cli.proofs.MapLemmas.{written_lines}
use Rattle.mast_cli.proofs.command.facts.facts_lines.Goals as goal

pub returns : goal.returns
returns c =
    let maps = c.args.spec.now.maps in
    let i = c.loop-map.map-index in
    let none = drop_all i maps (subst (λ ms. length ms ≤ i) c.as_slice-map-items.ensures c.loop-map-test.false) in
    written_lines c.args.spec.now.vocab c.args.spec.now.tables c.args.tables.list (drop i maps) maps c.loop-map.lines.lines none c.loop-map.invariant.written
