use Rattle.std.proofs.Common.{List, ℕ, [], ◌∷◌, ◌+◌, ◌<◌, ◌≤◌, length, drop, ap, sym, refl, ◌∙◌, arith}
use Rattle.mast_check.specs.inside.Judging.{passes_by}
use Rattle.mast_check.proofs.AllLemmas.{others_last, others_more}
use Rattle.mast_check.proofs.ClosureLemmas.{drop_at, drop_end}
use Rattle.mast_check.proofs.all.passing.Goals as goal

pub loop-number-preserved : goal.loop-number-preserved
loop-number-preserved c =
    let rows = c.args.rows.now.list in
    let n = c.loop-number.number in
    let row = c.row.result.now in
    let l : n < length rows = omega (arith, c.len-number-end.ensures.len) in
    let cut = drop_at rows n [] l ∙ ap (λ (r : List ℕ). r ∷ drop (n + 1) rows) (sym c.row.ensures.row) in
    others_more c.args.extensions.now c.args.width c.args.violation.now rows (drop n rows) (drop (n + 1) rows) row c.loop-number.list c.pass.new.list
    (passes_by c.args.extensions.now.numbered.terms c.args.violation.now.test row) cut refl c.in_ok-pass.ensures c.loop-number.invariant

pub returns : goal.returns
returns c =
    let rows = c.args.rows.now.list in
    let n = c.loop-number.number in
    let l : length rows ≤ n = omega (arith, c.len-number-end.ensures.len) in
    others_last c.args.extensions.now c.args.width c.args.violation.now rows (drop n rows) c.loop-number.list (drop_end rows n l) c.loop-number.invariant
