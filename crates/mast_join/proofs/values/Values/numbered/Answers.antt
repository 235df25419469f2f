use Rattle.std.proofs.Common.{◌≡◌, List, [], sym, ◌∙◌, ap}
use Rattle.std.specs.Prelude.{Some}
use Rattle.std.specs.Option.{option_copied}
use Rattle.mast_tables.specs.Rows.{Row, cell_at}
use Rattle.mast_join.specs.inside.Values as values
use Rattle.mast_join.proofs.ValueLemmas.{front_joined, lent_at, noted_front, noted_more, tells_noted}
use Rattle.mast_join.proofs.values.Values.numbered.Goals as goal

pub returns-in_err-note-in-Some-cell-clause-noted : goal.returns-in_err-note-in-Some-cell-clause-noted
returns-in_err-note-in-Some-cell-clause-noted c =
    noted_front c.args.tables.now.list c.args.terms.now.terms c.value.new.self.terms c.args.self.now c.note.new.self c.requires.noted
    (front_joined c.args.terms.now.terms c.value.new.self.terms _ c.in_ok-made-in-Some-cell.ensures.joined) c.in_err-note-in-Some-cell.ensures.err

pub returns-in-Some-clause-number : goal.returns-in-Some-clause-number
returns-in-Some-clause-number c =
    tells_noted c.args.tables.now.list c.args.cell c.args.number c.requires.number c.args.terms.now.terms c.args.self.now c.key_of-key.result c.in-Some.made c.ranges.number.fits c.requires.noted
    c.key_of-key.ensures (sym c.get.ensures ∙ c.in-Some.is)

pub returns-in_ok-note-in-Some-cell-clause-noted : goal.returns-in_ok-note-in-Some-cell-clause-noted
returns-in_ok-note-in-Some-cell-clause-noted c =
    let list = c.args.tables.now.list in
    let at = lent_at list c.as_slice.result.now c.args.cell.table c.index-as_slice-cell.result [] c.as_slice.ensures c.requires.cell.there c.index-as_slice-cell.is in
    let is : values.cell_value list c.args.cell ≡ Some c.in-Some-cell.value.now = ap (λ (rows : List Row). cell_at rows c.args.cell.row c.args.cell.column) at ∙ sym c.cell.ensures ∙ ap option_copied c.in-Some-cell.is in
    noted_more list c.args.cell c.args.number c.requires.number c.args.terms.now.terms c.value.new.self.terms c.args.self.now c.note.new.self c.key_of-key.result c.in_ok-made-in-Some-cell.made
    c.in-Some-cell.value.now c.ranges.number.fits c.requires.noted (front_joined c.args.terms.now.terms c.value.new.self.terms _ c.in_ok-made-in-Some-cell.ensures.joined) c.key_of-key.ensures is
    c.in_ok-made-in-Some-cell.ensures.place c.in_ok-note-in-Some-cell.ensures.ok
