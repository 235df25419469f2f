use Rattle.std.proofs.Common.{[]}
use Rattle.mast_eql.specs.Evaluated.{IsListed}
use Rattle.mast_eql.specs.Formulas.{formula_of}
use Rattle.mast_eql.proofs.FormulaLemmas.{sat_same}
use Rattle.mast_eql.proofs.laws.lists_law.Goals as goal

pub returns : goal.returns
returns c = λ lists others body tuple same. sat_same (λ t. Unit {0}) (IsListed lists) (IsListed others) same (formula_of body) [] tuple
