use Rattle.std.proofs.Common.{◌≡◌, ◌<◌, ◌++◌, ◌∷◌, [], length, map, ap, ◌∙◌, arith}
use Rattle.std.proofs.lemmas.List.{length-map}
use Rattle.mast_tables.specs.inside.Codes.{InRows}
use Rattle.mast_tables.proofs.CodesLemmas.{push_view, push_columns, end_view, end_columns, pushed_at, same_at}
use Rattle.mast_tables.proofs.codes.Codes.push.Goals as goal

pub invariant_of-self : goal.invariant_of-self
invariant_of-self c =
    let s = c.self.inside in
    let cols = map (λ v. v.items) s.columns.items in
    let long : length cols ≡ length s.columns.items = length-map s.columns.items (λ v. v.items) in
    let wide : length s.columns.items ≡ c.args.self.now.width = ap (λ (x : InRows). x.width) c.self.view_is in
    let turn : s.next < length cols = c.self.invariant.turn (omega (arith, long, wide, c.requires)) in
    let lt : s.next < length s.columns.items = omega (arith, turn, long) in
    rw (same_at (λ v. v.items) s.columns.items s.next c.index_mut.result.now lt c.index_mut.ensures.value c.push.new.self c.in_err-push.ensures.items) c.self.invariant

pub invariant_of-self-then-self-len : goal.invariant_of-self-then-self-len
invariant_of-self-then-self-len c =
    let s = c.self.inside in
    let cols = map (λ v. v.items) s.columns.items in
    let long : length cols ≡ length s.columns.items = length-map s.columns.items (λ v. v.items) in
    let wide : length s.columns.items ≡ c.args.self.now.width = ap (λ (x : InRows). x.width) c.self.view_is in
    let turn : s.next < length cols = c.self.invariant.turn (omega (arith, long, wide, c.requires)) in
    let lt : s.next < length s.columns.items = omega (arith, turn, long) in
    rw (pushed_at (λ v. v.items) s.columns.items s.next c.index_mut.result.now lt c.index_mut.ensures.value c.push.new.self c.args.code c.in_ok-push.ensures.items)
    (end_columns cols s.next c.args.code c.self.invariant turn (omega (arith, long, c.if-self-len.true, c.len.ensures, s.columns.ok)))

pub invariant_of-self-else-self-len : goal.invariant_of-self-else-self-len
invariant_of-self-else-self-len c =
    let s = c.self.inside in
    let cols = map (λ v. v.items) s.columns.items in
    let long : length cols ≡ length s.columns.items = length-map s.columns.items (λ v. v.items) in
    let wide : length s.columns.items ≡ c.args.self.now.width = ap (λ (x : InRows). x.width) c.self.view_is in
    let turn : s.next < length cols = c.self.invariant.turn (omega (arith, long, wide, c.requires)) in
    let lt : s.next < length s.columns.items = omega (arith, turn, long) in
    rw (pushed_at (λ v. v.items) s.columns.items s.next c.index_mut.result.now lt c.index_mut.ensures.value c.push.new.self c.args.code c.in_ok-push.ensures.items)
    (push_columns cols s.next c.args.code c.self.invariant turn (omega (arith, long, c.if-self-len.false, c.len.ensures, s.columns.ok)))

pub returns-then-self-len-clause-list : goal.returns-then-self-len-clause-list
returns-then-self-len-clause-list c =
    let s = c.self.inside in
    let cols = map (λ v. v.items) s.columns.items in
    let long : length cols ≡ length s.columns.items = length-map s.columns.items (λ v. v.items) in
    let wide : length s.columns.items ≡ c.args.self.now.width = ap (λ (x : InRows). x.width) c.self.view_is in
    let turn : s.next < length cols = c.self.invariant.turn (omega (arith, long, wide, c.requires)) in
    let lt : s.next < length s.columns.items = omega (arith, turn, long) in
    rw (pushed_at (λ v. v.items) s.columns.items s.next c.index_mut.result.now lt c.index_mut.ensures.value c.push.new.self c.args.code c.in_ok-push.ensures.items)
    (end_view cols s.next c.args.code c.self.invariant turn (omega (arith, long, c.if-self-len.true, c.len.ensures, s.columns.ok)))
    ∙ ap (λ (x : InRows). x.list ++ c.args.code ∷ []) c.self.view_is

pub returns-else-self-len-clause-list : goal.returns-else-self-len-clause-list
returns-else-self-len-clause-list c =
    let s = c.self.inside in
    let cols = map (λ v. v.items) s.columns.items in
    let long : length cols ≡ length s.columns.items = length-map s.columns.items (λ v. v.items) in
    let wide : length s.columns.items ≡ c.args.self.now.width = ap (λ (x : InRows). x.width) c.self.view_is in
    let turn : s.next < length cols = c.self.invariant.turn (omega (arith, long, wide, c.requires)) in
    let lt : s.next < length s.columns.items = omega (arith, turn, long) in
    rw (pushed_at (λ v. v.items) s.columns.items s.next c.index_mut.result.now lt c.index_mut.ensures.value c.push.new.self c.args.code c.in_ok-push.ensures.items)
    (push_view cols s.next c.args.code c.self.invariant turn (omega (arith, long, c.if-self-len.false, c.len.ensures, s.columns.ok)))
    ∙ ap (λ (x : InRows). x.list ++ c.args.code ∷ []) c.self.view_is
