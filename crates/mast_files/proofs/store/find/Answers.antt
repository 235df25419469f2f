use Rattle.std.proofs.Common.{◌<◌, length, arith, refl, sym, ◌∙◌}
use Rattle.std.proofs.lemmas.Option.{slice_get_read}
use Rattle.mast_files.proofs.StoredLemmas.{content_of-drop}
use Rattle.mast_files.proofs.store.find.Goals as goal

pub returns-then-eq-clause-first : goal.returns-then-eq-clause-first
returns-then-eq-clause-first c =
    let files = c.args.files.now in
    let entry = c.index-files-place.result in
    let inside : c.loop-place.place < length files = omega (arith, c.loop-place-test.true) in
    let there = slice_get_read files (length files) c.loop-place.place entry refl inside c.index-files-place.is in
    sym (content_of-drop files c.loop-place.place entry c.args.name.now there (sym c.if-eq.ensures)) ∙ c.loop-place.invariant.content
