use Rattle.std.proofs.Common.{arith, [], ◌∷◌, ◌++◌, ◌∙◌, ap₂, if◌then◌else◌}
use Rattle.mast_cq.specs.Meetings.{replacement_of}
use Rattle.mast_cq.specs.Unification.{replace}
use Rattle.mast_rewrite.proofs.OutsideLemmas.{outside_next, outside_end}
use Rattle.mast_rewrite.proofs.growth.merged.Goals as goal

pub loop-at-preserved : goal.loop-at-preserved
loop-at-preserved c =
    outside_next (replace (replacement_of c.args.met.replacement)) c.args.first c.args.second c.loop-at.at _ c.args.atoms.now c.loop-at.merged.items c.push_unless.new.merged.items _ (omega arith)
    (c.in_ok-push_unless.ensures ∙ ap₂ (λ b a. if b then c.loop-at.merged.items else c.loop-at.merged.items ++ a ∷ []) c.is_either-passed.ensures c.atom.ensures) c.loop-at.invariant

pub returns : goal.returns
returns c = outside_end (replace (replacement_of c.args.met.replacement)) c.args.first c.args.second c.loop-at.at c.args.atoms.now c.loop-at.merged.items [] c.args.met.atom (omega arith) c.requires c.loop-at.invariant
