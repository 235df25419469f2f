use Rattle.std.proofs.Common.{◌≡◌, ◌+◌, ◌*◌, ◌<◌, ◌≤◌, ℕ, List, length, get_or, map, refl, sym, ap, ◌∙◌, arith}
use Rattle.std.proofs.lemmas.List.{length-map, get_or_read}
use Rattle.mast_tables.specs.inside.Codes.{InRows, in_rows}
use Rattle.mast_tables.proofs.CodesLemmas.{code_within, code_there, column_at}
use Rattle.mast_tables.proofs.codes.Codes.get.Goals as goal

pub index-requires-2 : goal.index-requires-2
index-requires-2 c =
    let s = c.self.inside in
    let cols = map (λ v. v.items) s.columns.items in
    let wide : length cols ≡ c.args.self.now.width = length-map s.columns.items (λ v. v.items) ∙ ap (λ (x : InRows). x.width) c.self.view_is in
    let list : in_rows cols s.next ≡ c.args.self.now.list = ap (λ (x : InRows). x.list) c.self.view_is in
    let row : (c.args.row + 1) * length cols ≤ length (in_rows cols s.next) = rw (wide, list) c.requires.row in
    let column : c.args.column < length cols = rw wide c.requires.column in
    let lt : c.args.column < length s.columns.items = omega (arith, column, length-map s.columns.items (λ v. v.items)) in
    let within = code_within cols s.next c.args.row c.args.column c.self.invariant row column in
    omega (arith, within, ap length (column_at (λ v. v.items) s.columns.items c.args.column c.index.result.now lt c.index.ensures), c.index.result.now.ok)

pub returns : goal.returns
returns c =
    let s = c.self.inside in
    let cols = map (λ v. v.items) s.columns.items in
    let wide : length cols ≡ c.args.self.now.width = length-map s.columns.items (λ v. v.items) ∙ ap (λ (x : InRows). x.width) c.self.view_is in
    let list : in_rows cols s.next ≡ c.args.self.now.list = ap (λ (x : InRows). x.list) c.self.view_is in
    let row : (c.args.row + 1) * length cols ≤ length (in_rows cols s.next) = rw (wide, list) c.requires.row in
    let column : c.args.column < length cols = rw wide c.requires.column in
    let lt : c.args.column < length s.columns.items = omega (arith, column, length-map s.columns.items (λ v. v.items)) in
    let own = column_at (λ v. v.items) s.columns.items c.args.column c.index.result.now lt c.index.ensures in
    let within : c.args.row < length c.index.result.now.items = omega (arith, code_within cols s.next c.args.row c.args.column c.self.invariant row column, ap length own) in
    get_or_read c.index.result.now.items c.args.row c.index-2.result.now within c.index-2.ensures 0
    ∙ ap (λ (x : List ℕ). get_or x c.args.row 0) (sym own)
    ∙ code_there cols s.next c.args.row c.args.column c.self.invariant row column
    ∙ rw (wide, list) refl
