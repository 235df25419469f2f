-- Meetings of two atoms of a query: which there are, which leads which, and which of them count.
use Rattle.std.specs.Prelude.{◌≡◌, ◌≢◌, ℕ, List, ◌++◌, Some}
use Rattle.std.specs.declared.cmp.Ordering.TheVariants.{Less}
use Rattle.mast_cq.specs.declared.atom.Arg.TheVariants.{Var}
use Rattle.mast_cq.specs.declared.atom.Atom.{Atom}
use Rattle.mast_cq.specs.declared.query.Cq.{Cq}
use Rattle.mast_cq.specs.Queries.{In, atom_order}
use Rattle.mast_cq.specs.Sorts.{all_arguments}
use Rattle.mast_cq.specs.Unification.{Meeting, meeting}
use Rattle.mast_tbox.specs.declared.axiom.Inclusion.{Inclusion}
use Rattle.mast_tbox.specs.Closure.{Down}

-- m is a meeting of the atoms g and h of the query q: of a member of Down of each, which have one name and are equal or unify
pub record IsMeeting (tbox : List Inclusion) (q : Cq) (g h : Atom) (m : Meeting) : Type 0 where
  pub left : Atom
  pub right : Atom
  pub left_below : Down tbox g left
  pub right_below : Down tbox h right
  pub meets : meeting q.answer left right ≡ Some m

-- the variable stands in the query: in its answer list or in an atom
abbrev pub StandsIn : Cq → ℕ → Type 0
StandsIn q n = In (Var n) (q.answer ++ all_arguments q.atoms)

-- the two replace each variable of the query alike
abbrev pub ReplaceAlike : Cq → Meeting → Meeting → Type 0
ReplaceAlike q m other = (n : ℕ) → StandsIn q n → m.replacement n ≡ other.replacement n

-- m leads the other: both give the same replacement, and the other's atom stands in Down of its atom
pub record Leads (tbox : List Inclusion) (q : Cq) (m other : Meeting) : Type 0 where
  pub alike : ReplaceAlike q m other
  pub below : Down tbox m.atom other.atom

-- m counts: it leads each meeting that leads it, and of those that it leads and that lead it none has an earlier atom
pub record Counts (tbox : List Inclusion) (q : Cq) (g h : Atom) (m : Meeting) : Type 0 where
  pub is_meeting : IsMeeting tbox q g h m
  pub leads_back : (other : Meeting) → IsMeeting tbox q g h other → Leads tbox q other m → Leads tbox q m other
  pub none_earlier : (other : Meeting) → IsMeeting tbox q g h other → Leads tbox q m other → Leads tbox q other m → atom_order other.atom m.atom ≢ Less
