use Rattle.std.proofs.Common.{◌≡◌, sym, subst, arith, map}
use Rattle.std.specs.Prelude.{Some, None}
use Rattle.mast_cq.proofs.ListLemmas.{map_length}
use Rattle.mast_unfold.specs.inside.Spreading.{entries, all_noted, next_in}
use Rattle.mast_unfold.proofs.NoteLemmas.{Lent, note_of, read_note, no_note}
use Rattle.mast_unfold.proofs.SpreadLemmas.{spread_first, spread_more, spread_clash, spread_done}
use Rattle.mast_unfold.proofs.equations.spread.Goals as goal

pub loop-done-init : goal.loop-done-init
loop-done-init c = spread_first c.place_laws.ensures (next_in c.args.links.now) (entries c.args.known.now)

pub returns-in-None : goal.returns-in-None
returns-in-None c =
    let n = c.loop-done.done in
    let es = c.loop-done.known.entries in
    spread_done c.place_laws.ensures (next_in c.args.links.now) (entries c.args.known.now) (entries c.loop-done.known) n
    (let le = no_note es n (sym c.in-None.ensures.entry) in omega (arith, le)) c.loop-done.invariant

pub returns : goal.returns
returns c =
    let n = c.loop-done.done in
    spread_done c.place_laws.ensures (next_in c.args.links.now) (entries c.args.known.now) (entries c.loop-done.known) n
    (omega (arith, c.len-count.ensures, map_length note_of c.loop-done.known.entries)) c.loop-done.invariant

pub loop-done-preserved : goal.loop-done-preserved
loop-done-preserved c =
    let es = c.loop-done.known.entries in
    let n = c.loop-done.done in
    let pair : Lent = (c.in-Some.place.now, c.in-Some.value.now) in
    let all : all_noted (map (λ p. (p, pair.1.now)) c.get.result.now) (entries c.loop-done.known) ≡ Some (entries c.note_all.new.known) = rw c.if-not-branch.false at c.in_ok-note_all.ensures in
    spread_more c.place_laws.ensures (next_in c.args.links.now) (entries c.args.known.now) (entries c.loop-done.known) (entries c.note_all.new.known) n (note_of pair) c.loop-done.invariant
    (read_note es n pair (sym c.in-Some.ensures.entry))
    (subst (λ ps. all_noted (map (λ p. (p, pair.1.now)) ps) (entries c.loop-done.known) ≡ Some (entries c.note_all.new.known)) c.get.ensures all)

pub returns-then-not-branch : goal.returns-then-not-branch
returns-then-not-branch c =
    let es = c.loop-done.known.entries in
    let n = c.loop-done.done in
    let pair : Lent = (c.in-Some.place.now, c.in-Some.value.now) in
    let none : all_noted (map (λ p. (p, pair.1.now)) c.get.result.now) (entries c.loop-done.known) ≡ None = rw c.if-not-branch.true at c.in_ok-note_all.ensures in
    spread_clash c.place_laws.ensures (next_in c.args.links.now) (entries c.args.known.now) (entries c.loop-done.known) n (note_of pair) c.loop-done.invariant
    (read_note es n pair (sym c.in-Some.ensures.entry))
    (subst (λ ps. all_noted (map (λ p. (p, pair.1.now)) ps) (entries c.loop-done.known) ≡ None) c.get.ensures none)
