use Rattle.std.proofs.Common.{◌%◌, arith}
use Rattle.std.specs.Prelude.{Some}
use Rattle.std.proofs.lemmas.List.{length-set}
use Rattle.std.proofs.lemmas.List.Elements.{All-set}
use Rattle.mast_join.specs.inside.Lookups.{IsNoted}
use Rattle.mast_join.proofs.LookupLemmas.{noted}
use Rattle.mast_join.proofs.numbers.Numbers.look_up.Goals as goal

pub returns-clause-numbers : goal.returns-clause-numbers
returns-clause-numbers c =
    let n = c.args.self.now in
    let place = c.args.number % c.len.result in
    record {
      one = c.requires.numbers.one;
      some = omega (arith, c.requires.numbers.some, length-set n.known.items place (Some (record { number = c.args.number; other = c.found-other.result })));
      noted = All-set (IsNoted n.from.now n.column n.to.now) n.known.items place (Some (record { number = c.args.number; other = c.found-other.result }))
          (noted n.from.now n.column n.to.now c.args.row c.args.number c.found-other.result (c.numbers_tell_values.ensures.same n.from.now) c.requires.place c.requires.number c.found-other.ensures) c.requires.numbers.noted;
    }
