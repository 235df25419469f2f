-- What is kept of extensions: facts of maps, relations of atoms, and how it grows.
use Rattle.std.specs.Prelude.{◌≡◌, ◌↔◌, Contains, ℕ, ◌<◌, Bool, nat_eq, List, [], length, get_or, slice_get, Some}
use Rattle.indexmap.specs.IndexMap.{get}
use Rattle.mast_cq.specs.declared.atom.Atom.{Atom}
use Rattle.mast_cq.specs.contracts.atom.AtomPartialEq.TheImpl as atom_eq
use Rattle.mast_cq.specs.UnifierMeanings.{IsBelow, KnownAtom}
use Rattle.mast_mapping.specs.declared.split_map.SplitMap.{SplitMap}
use Rattle.mast_relations.specs.Matches.{nothing}
use Rattle.mast_relations.specs.Stores.{Stored, contents}
use Rattle.mast_unfold.specs.Sources.{IsSource}
use Rattle.mast_unfold.specs.declared.source.Source.{Source}
use Rattle.mast_join.specs.declared.base.Base.{Base}
use Rattle.mast_join.specs.declared.facts.MadeFact.{MadeFact}
use Rattle.mast_join.specs.declared.facts.Pool.{Pool}
use Rattle.mast_join.specs.declared.store.Store.{Store}
use Rattle.mast_join.specs.Answers.{Extended}
use Rattle.mast_join.specs.inside.Filling.{AreRelationsMore}
use Rattle.mast_join.specs.inside.MadeFacts.{AreFactsOf, IsBase, IsPoolMore, IsPoolOf, asked_over}
use Rattle.mast_join.specs.inside.Relates.{TellsAtom, one_row}

-- what clauses see of it
abbrev pub extended : Base → Store → Extended
extended base store = record {
  over = asked_over base;
  wanted = base.wanted;
  numbered = store.pool.terms;
  sets = store.pool.sets.items;
  relations = store.relations;
}

-- whether two atoms are one
abbrev pub same_atom : Atom → Atom → Bool
same_atom = atom_eq.ghosts.eq

-- the facts of the map of a number stand at this place
pub record HasMapFacts (base : Base) (pool : Pool) (facts : List (List MadeFact)) (map place : ℕ) : Type 0 where
  pub split : SplitMap
  pub stands : slice_get base.spec.now.maps map ≡ Some split
  pub there : place < length facts
  pub are : AreFactsOf base pool split (get_or facts place [])

-- the relation of this number tells the extension of the atom
pub record IsExtensionAt (e : Extended) (g : Atom) (number : ℕ) : Type 0 where
  pub there : number < length (contents e.relations)
  pub tells : TellsAtom e g (get_or (contents e.relations) number nothing)

-- what is noted is right: the numbers of values, the places of the facts of maps, and the relations of atoms
pub record IsKept (base : Base) (store : Store) : Type 0 where
  pub based : IsBase base
  pub noted : IsPoolOf base store.pool
  pub facts : (map place : ℕ) → get nat_eq store.fact_places map ≡ Some place → HasMapFacts base store.pool store.facts.items map place
  pub made : (g : Atom) (number : ℕ) → get same_atom store.made g ≡ Some number → IsExtensionAt (extended base store) g number

-- what had a number has it still, and relations are as they were
pub record IsStoreMore (old new : Store) : Type 0 where
  pub pool : IsPoolMore old.pool new.pool
  pub relations : AreRelationsMore old.relations new.relations

-- the source is of a map that is there, and of a member whose constants stand in the vocabulary
pub record IsKnownSource (base : Base) (source : Source) : Type 0 where
  pub map : source.map < length base.spec.now.maps
  pub member : KnownAtom (IsBelow (length base.spec.now.vocab.constants)) source.member

-- these are the sources of the atom
abbrev pub AreSourcesOf : Base → Atom → List Source → Type 0
AreSourcesOf base g sources = (s : Source) → Contains sources s ↔ IsSource (asked_over base).sources g s

-- the relation of this number has one row alone
pub record IsOneRow (relations : List Stored) (row : List ℕ) (number : ℕ) : Type 0 where
  pub there : number < length (contents relations)
  pub is : get_or (contents relations) number nothing ≡ one_row row
