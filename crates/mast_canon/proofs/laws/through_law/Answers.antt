use Rattle.mast_tbox.proofs.NumberLemmas.{no_end}
use Rattle.mast_tbox.specs.Inclusions.{normal}
use Rattle.mast_canon.proofs.ThroughLemmas.{down_up, through_down}
use Rattle.mast_canon.proofs.ThroughTupleLemmas.{through_certain, named_through}
use Rattle.mast_canon.proofs.laws.through_law.Goals as goal

pub returns-clause-up : goal.returns-clause-up
returns-clause-up g c = λ facts tbox constant s h i. down_up tbox constant s (g.S.Truth.holds facts) h i

pub returns-clause-exact : goal.returns-clause-exact
returns-clause-exact g c = λ facts tbox constant s h. through_down constant s (normal tbox) (g.S.Truth.holds facts) (no_end tbox) h

pub returns-clause-sound : goal.returns-clause-sound
returns-clause-sound g c = λ facts theory q tuple is_stated range known has. through_certain theory (g.S.Truth.holds facts) is_stated range q tuple known has

pub returns-clause-back : goal.returns-clause-back
returns-clause-back g c = λ facts theory q tuple has. named_through theory (g.S.Truth.holds facts) q tuple has
