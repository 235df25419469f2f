use Rattle.std.proofs.Common.{◌≡◌, ◌≤◌, drop}
use Rattle.mast_terms.specs.inside.Digits.{read_digits, read_all_digits}
use Rattle.mast_terms.proofs.integer_cell.scan_digits.Given as goal

-- what is left is read from here
abbrev pub invariant-loop-at : goal.invariant-loop-at
invariant-loop-at l = record {
  read : read_digits l.most l.at l.size (drop l.at l.digits) ≡ read_all_digits l.most l.digits;
  bound : l.size ≤ l.most;
}
