-- What a key has, and what it has after an item was added.
use Rattle.std.specs.Prelude.{◌≡◌, List, [], Some, None, Bool, if◌then◌else◌}
use Rattle.indexmap.specs.IndexMap.{get}
use Rattle.indexmap.specs.IndexSet.{insert_key, insert_all}
use Rattle.mast_tbox.specs.declared.groups.Groups.{Groups}
use Rattle.mast_tbox.specs.Inclusions.{firsts}

module _ {T : Type 0} (eq : T → T → Bool) where
  -- the items of a key
  abbrev pub found : Groups T → T → List T
  found g k = elim (get eq g.map k) [ None ↦ [] | Some s ↦ s.keys ]

  -- the items of a key after one was added to those of another
  abbrev pub put : Groups T → T → T → T → List T
  put g key item k = if eq key k then insert_key eq (found g key) item else found g k

  -- the items of a key after those were added that pairs have for it
  abbrev pub grown : Groups T → List (T × T) → T → List T
  grown g ps k = insert_all eq (found g k) (firsts eq k ps)

  -- the items that pairs have for each key were added
  abbrev pub AreGrown : Groups T → List (T × T) → Groups T → Type 0
  AreGrown old ps new = (k : T) → found new k ≡ grown old ps k
