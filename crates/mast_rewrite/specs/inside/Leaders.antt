-- Of meetings of two atoms with one replacement, those that lead the others and come first.
use Rattle.std.specs.Prelude.{◌≡◌, Bool, ◌≢◌, List, [], ◌∷◌, ◌++◌, ◌⊎◌, ◌↔◌, map, Contains}
use Rattle.std.specs.declared.cmp.Ordering.TheVariants.{Less}
use Rattle.indexmap.specs.IndexSet.{insert_key}
use Rattle.mast_cq.specs.declared.atom.Atom.{Atom}
use Rattle.mast_cq.specs.declared.unifier.Bindings.{Bindings}
use Rattle.mast_cq.specs.declared.unifier.Met.{Met}
use Rattle.mast_cq.specs.Meetings.{replacement_of}
use Rattle.mast_cq.specs.NormalForms.{Ordered}
use Rattle.mast_cq.specs.Queries.{atom_order}
use Rattle.mast_cq.specs.Unification.{Replacement, Meeting, replace}
use Rattle.mast_tbox.specs.declared.axiom.Inclusion.{Inclusion}
use Rattle.mast_tbox.specs.Closure.{Down}
use Rattle.mast_rewrite.specs.declared.pair.Pair.{Pair}
use Rattle.mast_rewrite.specs.CountingMeetings.{Counts}
use Rattle.mast_rewrite.specs.inside.Marks.{query_of}
use Rattle.mast_rewrite.specs.inside.MeetingLists.{met_value}

-- the list has exactly what is below the atom, in order
pub record IsDownList (tbox : List Inclusion) (g : Atom) (list : List Atom) : Type 0 where
  pub exact : (h : Atom) → Contains list h ↔ Down tbox g h
  pub ordered : Ordered list

-- some atom of the list has h in its Down
abbrev pub LedBy : List Inclusion → List Atom → Atom → Type 0
LedBy tbox gs h = (g : Atom) × Contains gs g × Down tbox g h

-- the set has what it had, and what is below the atom
abbrev pub IsWidened : List Inclusion → Atom → List Atom → List Atom → Type 0
IsWidened tbox g old new = (h : Atom) → Contains new h ↔ (Contains old h ⊎ Down tbox g h)

-- ys are, in their order, the atoms of xs that no atom before them, and none of done, has in its Down
abbrev pub Sweeps : List Inclusion → List Atom → List Atom → List Atom → Type 0
Sweeps tbox done [] ys = ys ≡ []
Sweeps tbox done (x ∷ xs) ys =
    (LedBy tbox done x × Sweeps tbox (done ++ x ∷ []) xs ys)
    ⊎ ((LedBy tbox done x → ⊥) × (more : List Atom) × (ys ≡ x ∷ more) × Sweeps tbox (done ++ x ∷ []) xs more)

-- the atom is one of P, has in its Down each of these that has it in its own, and none of them is earlier
pub record LeaderOf (tbox : List Inclusion) (P : Atom → Type 0) (g : Atom) : Type 0 where
  pub among : P g
  pub leads : (h : Atom) → P h → Down tbox h g → Down tbox g h × (atom_order h g ≢ Less)

-- the replacements make the same of both atoms
abbrev pub AreAlike : Atom → Atom → Replacement → Replacement → Type 0
AreAlike g h r s = (replace r g ≡ replace s g) × (replace r h ≡ replace s h)

-- the same of bindings
abbrev pub BindAlike : Atom → Atom → Bindings → Bindings → Type 0
BindAlike g h b c = AreAlike g h (replacement_of b) (replacement_of c)

-- some meeting of the list with this replacement has the atom
abbrev pub HasAtom : Atom → Atom → List Met → Bindings → Atom → Type 0
HasAtom g h all way a = (met : Met) × Contains all met × BindAlike g h met.replacement way × (met.atom ≡ a)

-- the meeting is written with this replacement, and its atom is a leader of those of the list with it
abbrev pub LeadsWay : List Inclusion → Atom → Atom → List Met → Bindings → Met → Type 0
LeadsWay tbox g h all way met = (met.replacement ≡ way) × LeaderOf tbox (HasAtom g h all way) met.atom

-- the list has exactly the leaders: of the atoms of each replacement
pub record AreLeaders (tbox : List Inclusion) (g h : Atom) (all list : List Met) : Type 0 where
  pub from : (met : Met) → Contains list met → (other : Met) × Contains all other × LeadsWay tbox g h all other.replacement met
  pub all_are : (other : Met) (a : Atom) → Contains all other → LeaderOf tbox (HasAtom g h all other.replacement) a
      → (met : Met) × Contains list met × BindAlike g h met.replacement other.replacement × (met.atom ≡ a)

-- the ways are replacements of meetings of the list, and each meeting has one of them
pub record AreWays (g h : Atom) (all : List Met) (ways : List Bindings) : Type 0 where
  pub from : (way : Bindings) → Contains ways way → (met : Met) × Contains all met × (met.replacement ≡ way)
  pub all_have : (met : Met) → Contains all met → (way : Bindings) × Contains ways way × BindAlike g h way met.replacement

-- the list has exactly the meetings of the two atoms that count
abbrev pub CountsExactly : List Inclusion → Pair → List Met → Type 0
CountsExactly tbox p list = (m : Meeting) → Contains (map met_value list) m ↔ Counts tbox (query_of p) p.left.atom p.right.atom m

-- the way was added, or one that makes the same of the atoms is there
abbrev pub IsWayAdded : Atom → Atom → Bindings → List Bindings → List Bindings → Type 0
IsWayAdded g h way old new = ((new ≡ old) × ((other : Bindings) × Contains old other × BindAlike g h other way)) ⊎ (new ≡ old ++ way ∷ [])

-- the meeting's atom was inserted where its replacement makes the same of the atoms as the way
abbrev pub IsAtomAdded : (Atom → Atom → Bool) → Atom → Atom → Bindings → Met → List Atom → List Atom → Type 0
IsAtomAdded eq g h way met old new = (BindAlike g h met.replacement way × (new ≡ insert_key eq old met.atom)) ⊎ ((BindAlike g h met.replacement way → ⊥) × (new ≡ old))

-- the atom stood in the set and nothing changed, or it was kept and what is below it was added to the set
abbrev pub IsSwept : List Inclusion → Atom → List Atom → List Atom → List Atom → List Atom → Type 0
IsSwept tbox g old new kept more = (Contains old g × ((new ≡ old) × (more ≡ kept))) ⊎ ((Contains old g → ⊥) × (IsWidened tbox g old new × (more ≡ kept ++ g ∷ [])))

-- the meeting is written with the way, and its atom is one of the list
abbrev pub WithWay : Bindings → List Atom → Met → Type 0
WithWay way atoms met = (met.replacement ≡ way) × Contains atoms met.atom
