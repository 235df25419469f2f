use Rattle.std.proofs.Common.{◌≡◌, ◌↔◌, ◌∙◌, [], sym, ap, subst, map, true}
use Rattle.std.specs.Prelude.{Some, None, MatchBool}
use Rattle.std.proofs.lemmas.Result.{IfOk-weaker}
use Rattle.mast_unfold.specs.inside.Equations.{both, all_seeds, HasSolution}
use Rattle.mast_unfold.specs.inside.Spreading.{entries, all_noted, IsSpread, CannotSpread}
use Rattle.mast_unfold.proofs.EquationLemmas.{not_may, seeds_clash, spread_solves}
use Rattle.mast_unfold.proofs.NoteLemmas.{note_of}
use Rattle.mast_unfold.proofs.equations.are_solvable.Goals as goal

pub returns-then-not-may_all_hold : goal.returns-then-not-may_all_hold
returns-then-not-may_all_hold c =
    let es = map both c.args.equations.now in
    (λ e. absurd (cc), λ s. absurd (not_may es (sym c.may_all_hold.ensures ∙ c.if-not-may_all_hold.true) s))

pub returns-then-not-branch : goal.returns-then-not-branch
returns-then-not-branch c =
    let es = map both c.args.equations.now in
    let start : entries c.new-known.result ≡ [] = ap (λ l. map note_of l) c.new-known.ensures.empty in
    let none : all_noted (all_seeds es) (entries c.new-known.result) ≡ None = rw c.if-not-branch.true at c.in_ok-note_seeds.ensures in
    (λ e. absurd (cc), λ s. absurd (seeds_clash c.place_laws.ensures es c.in_ok-links.links c.in_ok-links.ensures (subst (λ n. all_noted (all_seeds es) n ≡ None) start none) s))

pub returns : goal.returns
returns c =
    let es = map both c.args.equations.now in
    let start : entries c.new-known.result ≡ [] = ap (λ l. map note_of l) c.new-known.ensures.empty in
    let some : all_noted (all_seeds es) (entries c.new-known.result) ≡ Some (entries c.note_seeds.new.known) = rw c.if-not-branch.false at c.in_ok-note_seeds.ensures in
    IfOk-weaker c.spread.result (λ ok. MatchBool ok (IsSpread c.in_ok-links.links (entries c.note_seeds.new.known) (entries c.spread.new.known)) (CannotSpread c.in_ok-links.links (entries c.note_seeds.new.known))) (λ ok. (ok ≡ true) ↔ HasSolution es)
    (λ ok m. spread_solves c.place_laws.ensures es c.in_ok-links.links c.in_ok-links.ensures (sym c.may_all_hold.ensures ∙ c.if-not-may_all_hold.false) (entries c.note_seeds.new.known) (entries c.spread.new.known)
    (subst (λ n. all_noted (all_seeds es) n ≡ Some (entries c.note_seeds.new.known)) start some) ok m)
    c.spread.ensures
