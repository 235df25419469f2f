-- The closure of a query under meetings that count.
use Rattle.std.specs.Prelude.{◌≡◌, List}
use Rattle.mast_cq.specs.declared.atom.Atom.{Atom}
use Rattle.mast_cq.specs.declared.query.Cq.{Cq}
use Rattle.mast_cq.specs.ListPlaces.{TwoPlaces}
use Rattle.mast_cq.specs.NormalForms.{normal_form}
use Rattle.mast_cq.specs.Steps.{stepped}
use Rattle.mast_cq.specs.Unification.{Meeting}
use Rattle.mast_tbox.specs.declared.axiom.Inclusion.{Inclusion}
use Rattle.mast_tbox.specs.Lists.{Reaches}
use Rattle.mast_rewrite.specs.CountingMeetings.{Counts}

-- a step takes two atoms of the query, at two of its places, and a meeting of them that counts: the meeting's atom takes the place of
-- both, the replacement is applied to all atoms and to the answer list, and the normal form is taken
pub record ClosureStep (tbox : List Inclusion) (q r : Cq) : Type 0 where
  pub g : Atom
  pub h : Atom
  pub others : List Atom
  pub two : TwoPlaces q.atoms g h others
  pub by : Meeting
  pub counts : Counts tbox q g h by
  pub gives : r ≡ stepped q by others

-- Closure(q): the least set of queries that has the normal form of q and is closed under the steps
abbrev pub Closure : List Inclusion → Cq → Cq → Type 0
Closure tbox q = Reaches (ClosureStep tbox) (normal_form q)
