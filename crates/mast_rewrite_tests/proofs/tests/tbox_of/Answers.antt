-- The axioms are numbered, and few.
use Rattle.std.proofs.Common.{length, ap, sym, subst, ◌∙◌, arith}
use Rattle.mast_tbox.specs.Numbers.{IsNumbered}
use Rattle.mast_rewrite_tests.proofs.PushLemmas.{count_lines}
use Rattle.mast_rewrite_tests.proofs.tests.tbox_of.Goals as goal

pub invariant_of-result : goal.invariant_of-result
invariant_of-result c =
    let e = c.from_vec.ensures ∙ c.in_ok-lines.ensures in record {
      numbered = subst IsNumbered (sym e) c.requires.numbered;
      bounded = let a = ap length e in let b = ap length c.new.ensures in let d = ap length c.new-2.ensures in
          let n = count_lines c.args.inclusions.now in omega arith;
    }
