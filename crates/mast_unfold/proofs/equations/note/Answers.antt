use Rattle.std.proofs.Common.{ap, sym, ◌∙◌, map}
use Rattle.std.specs.Prelude.{Some, None, if◌then◌else◌}
use Rattle.std.specs.Option.{option_map, option_copied}
use Rattle.indexmap.proofs.CallerLemmas.{insert_entry-new}
use Rattle.mast_unfold.specs.inside.Equations.{same_place}
use Rattle.mast_unfold.specs.inside.Spreading.{entries, noted_by}
use Rattle.mast_unfold.proofs.NoteLemmas.{note_of, lookup_notes, last_note}
use Rattle.mast_unfold.proofs.equations.note.Goals as goal

pub returns-in-Some : goal.returns-in-Some
returns-in-Some c =
    let old = c.args.known.now in
    let found = sym c.get.ensures.value ∙ ap option_copied c.in-Some.is in
    ap (λ o. noted_by o (c.args.place, c.args.value.now) (entries old)) (lookup_notes (same_place c.args.place) old.entries ∙ ap (option_map (λ r. r.now)) found)
    ∙ ap (λ b. if b then Some (entries old) else None) (sym c.eq.ensures)

pub returns-in_ok-insert-in-None : goal.returns-in_ok-insert-in-None
returns-in_ok-insert-in-None c =
    let old = c.args.known.now in
    let none = sym c.get.ensures.value ∙ ap option_copied c.in-None.is in
    ap (λ o. noted_by o (c.args.place, c.args.value.now) (entries old)) (lookup_notes (same_place c.args.place) old.entries ∙ ap (option_map (λ r. r.now)) none)
    ∙ ap Some (sym (ap (λ es. map note_of es) (c.in_ok-insert-in-None.ensures.entries ∙ insert_entry-new same_place old c.args.place c.args.value none) ∙ last_note old.entries (c.args.place, c.args.value)))
