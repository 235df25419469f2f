use Rattle.std.proofs.Common.{◌∷◌, ◌++◌, ◌+◌, drop, refl, sym, ap, ◌∙◌}
use Rattle.mast_terms.proofs.PlaceLemmas.{drop-next}
use Rattle.mast_violate.specs.Patterns.{all_walks}
use Rattle.mast_violate.proofs.PathLemmas.{path_added}
use Rattle.mast_violate.proofs.paths.add_paths.Goals as goal

pub loop-path-preserved : goal.loop-path-preserved
loop-path-preserved c =
    let l = c.loop-path in
    let rest = drop-next c.args.paths.now c.args.paths.now l.path-index c.path-item.result refl c.loop-path-test.true c.path-item.is in
    let w = path_added (drop l.path-index c.args.paths.now) c.as_slice.result.now (drop (l.path-index + 1) c.args.paths.now) l.atoms c.add_path.new.atoms (c.args.atoms.now ++ all_walks 2 c.args.paths.now) l.new c.in_ok-new.new
    (rest ∙ ap (λ z. z ∷ drop (l.path-index + 1) c.args.paths.now) (sym c.as_slice.ensures)) l.invariant.made l.invariant.formed l.invariant.small c.in_ok-new.ensures.walks c.in_ok-new.ensures.next in
    record { made = w.0; formed = w.1.0; small = w.1.1 }
