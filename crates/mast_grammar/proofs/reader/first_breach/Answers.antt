use Rattle.std.proofs.Common.{◌+◌, sym, ◌∙◌, ap, subst, lt_trans, true, false}
use Rattle.mast_grammar.specs.declared.breach.GrammarKind.TheVariants.{Grammar}
use Rattle.mast_grammar.specs.Breaches.{Tells}
use Rattle.mast_grammar.specs.inside.Reader.{breach_at}
use Rattle.mast_grammar.proofs.ReaderLemmas.{Keeps, counts_below, limit_told, stuck_told, step_keeps, stepped, not_stepped, end_told}
use Rattle.mast_grammar.proofs.reader.first_breach.Goals as goal

pub returns-in-Some : goal.returns-in-Some
returns-in-Some c =
    let l = c.loop-terminal in
    let ks = c.args.terminals.now in
    subst (λ r. Tells ks r) (sym c.breach.ensures)
    (subst (λ n. Tells ks (breach_at n c.in-Some.kind)) (sym l.invariant.1)
    (limit_told ks l.stack l.counts l.terminal-index _ c.in-Some.kind l.invariant.0 c.loop-terminal-test.true (sym c.in_ok-kind.ensures ∙ c.in-Some.is)))

pub returns-then-not-branch : goal.returns-then-not-branch
returns-then-not-branch c =
    let l = c.loop-terminal in
    let ks = c.args.terminals.now in
    subst (λ r. Tells ks r) (sym c.breach-then-not-branch.ensures)
    (subst (λ n. Tells ks (breach_at n Grammar)) (sym l.invariant.1)
    (stuck_told ks l.stack l.counts l.terminal-index _ l.invariant.0 c.loop-terminal-test.true (sym c.in_ok-kind.ensures ∙ c.in-None.is) (not_stepped _ _ _ c.in_ok-read.ensures c.if-not-branch.true)))

pub counting-counts-requires : goal.counting-counts-requires
counting-counts-requires c =
    let l = c.loop-terminal in
    record { below = counts_below l.terminal-index l.counts (lt_trans c.loop-terminal-test.true c.requires.size) l.invariant.0.within }

pub loop-terminal-preserved : goal.loop-terminal-preserved
loop-terminal-preserved c =
    let l = c.loop-terminal in
    let ks = c.args.terminals.now in (
      subst (λ x. Keeps ks c.read.new.self x (l.terminal-index + 1)) (sym c.counting-counts.ensures)
          (step_keeps ks l.stack c.read.new.self l.counts l.terminal-index _ l.invariant.0 c.loop-terminal-test.true (sym c.in_ok-kind.ensures ∙ c.in-None.is) (stepped _ _ _ c.in_ok-read.ensures c.if-not-branch.false)),
      ap (λ n. n + 1) l.invariant.1,
    )

pub returns-then-may_end : goal.returns-then-may_end
returns-then-may_end c =
    let l = c.loop-terminal in
    end_told c.args.terminals.now l.stack l.counts l.terminal-index true l.invariant.0 c.loop-terminal-test.false (sym c.may_end.ensures ∙ c.if-may_end.true)

pub returns-else-may_end : goal.returns-else-may_end
returns-else-may_end c =
    let l = c.loop-terminal in
    let ks = c.args.terminals.now in
    subst (λ r. Tells ks r) (sym c.breach-else-may_end.ensures)
    (subst (λ n. Tells ks (breach_at n Grammar)) (sym l.invariant.1)
    (end_told ks l.stack l.counts l.terminal-index false l.invariant.0 c.loop-terminal-test.false (sym c.may_end.ensures ∙ c.if-may_end.false)))
