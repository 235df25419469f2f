-- What is gathered of a source, so that the relation of an atom can be filled: what its member asks of a fact's numbers, and the facts of its map.
use Rattle.std.specs.Prelude.{◌≡◌, ℕ, ◌<◌, List, [], length, get_or, slice_get, Some}
use Rattle.mast_terms.specs.declared.term.Term.{Term}
use Rattle.mast_cq.specs.declared.atom.Arg.{Arg}
use Rattle.mast_cq.specs.declared.atom.Arg.TheVariants.{Blank, Var, Constant}
use Rattle.mast_mapping.specs.declared.split_map.SplitMap.{SplitMap}
use Rattle.mast_unfold.specs.declared.source.Source.{Source}
use Rattle.mast_join.specs.declared.base.Base.{Base}
use Rattle.mast_join.specs.declared.facts.MadeFact.{MadeFact}
use Rattle.mast_join.specs.declared.facts.Pool.{Pool}
use Rattle.mast_join.specs.declared.fill.Gathered.{Gathered}
use Rattle.mast_join.specs.declared.shapes.Asked.{Asked}
use Rattle.mast_join.specs.declared.shapes.Asked.TheVariants.{Nothing, Column, Number}
use Rattle.mast_join.specs.Extensions.{constant_over}
use Rattle.mast_join.specs.inside.MadeFacts.{AreFactsOf, asked_over}
use Rattle.mast_join.specs.inside.Shapes.{arguments}

-- what an argument asks: nothing, a variable the column of its number, and a constant to be the number of its term
abbrev pub Asks : List Term → (ℕ → Term) → Arg → Asked → Type 0
Asks terms constant Blank asked = asked ≡ Nothing
Asks terms constant (Var x) asked = asked ≡ Column x
Asks terms constant (Constant c) asked = (number : ℕ) × (asked ≡ Number number) × (slice_get terms number ≡ Some (constant c))

-- what is gathered is that of the source: what the arguments of its member ask, and the place of the facts of its map
pub record IsGathered (base : Base) (pool : Pool) (facts : List (List MadeFact)) (source : Source) (gathered : Gathered) : Type 0 where
  pub first : Asks pool.terms.terms (constant_over (asked_over base)) (arguments source.member).0 gathered.first
  pub second : Asks pool.terms.terms (constant_over (asked_over base)) (arguments source.member).1 gathered.second
  pub there : gathered.place < length facts
  pub map : SplitMap
  pub stands : slice_get (asked_over base).sources.maps source.map ≡ Some map
  pub facts_of : AreFactsOf base pool map (get_or facts gathered.place [])
