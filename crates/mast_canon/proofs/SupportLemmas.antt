-- Supports: what splitting keeps of them, and that they lie in the tables.
use Rattle.std.proofs.Common.{◌≡◌, inl, inr, ℕ, List, [], ◌∷◌, refl, ap, subst, sym}
use Rattle.std.specs.List.{AllByRecursion, AllZip}
use Rattle.mast_terms.specs.declared.term.Term.{Term}
use Rattle.mast_cq.specs.Meanings.{Fact}
use Rattle.mast_cq.specs.Queries.{In}
use Rattle.mast_cq.proofs.ListLemmas.{in_append, append_left, append_right, each_in, in_each}
use Rattle.mast_mapping.specs.declared.map.Head.{Head}
use Rattle.mast_mapping.specs.declared.map.Map.{Map}
use Rattle.mast_mapping.specs.declared.split_map.SplitMap.{SplitMap}
use Rattle.mast_mapping.specs.Split.{split_heads, split_maps}
use Rattle.mast_sql.specs.declared.query.FromEntry.{FromEntry}
use Rattle.mast_sql.specs.declared.query.SourceQuery.{SourceQuery}
use Rattle.mast_tables.specs.declared.declaration.TableDecl.{TableDecl}
use Rattle.mast_tables.specs.Rows.{Row}
use Rattle.mast_canon.specs.declared.rows.RowId.{RowId}
use Rattle.mast_canon.specs.Choices.{rows_of, IsRowNumber}
use Rattle.mast_canon.specs.Facts.{Gives, HaveSameRows, chosen_rows, IsSupport, IsSupportByMaps, IsFactOf, IsOfTables}
use Rattle.mast_canon.specs.Laws.{SplitKeepsSupports}

-- what holds of each and implies something holds of each
pub each_weaker : {X : Type 0} (P Q : X → Type 0) → ((x : X) → P x → Q x) → (xs : List X) → AllByRecursion P xs → AllByRecursion Q xs
each_weaker P Q k [] h = tt
each_weaker P Q k (x ∷ xs) h = (k x h.0, each_weaker P Q k xs h.1)

abbrev with_head : SourceQuery → Head → SplitMap
with_head query head = record { query = query; head = head }

in_split_heads : (query : SourceQuery) (head : Head) (heads : List Head) → In head heads → In (with_head query head) (split_heads query heads)
in_split_heads query head [] i = absurd i
in_split_heads query head (h ∷ heads) (inl e) = inl (ap (with_head query) e)
in_split_heads query head (h ∷ heads) (inr i) = inr (in_split_heads query head heads i)

-- a split mapping stands for each head of each map
pub in_split_maps : (m : Map) (head : Head) (maps : List Map) → In m maps → In head m.heads → In (with_head m.query head) (split_maps maps)
in_split_maps m head [] i among = absurd i
in_split_maps m head (n ∷ maps) (inl e) among =
    let at : In (with_head n.query head) (split_heads n.query n.heads) = in_split_heads n.query head n.heads (subst (λ (k : Map). In head k.heads) e among) in
    append_left (with_head m.query head) (split_heads n.query n.heads) (split_maps maps) (subst (λ (q : SourceQuery). In (with_head q head) (split_heads n.query n.heads)) (sym (ap (λ (k : Map). k.query) e)) at)
in_split_maps m head (n ∷ maps) (inr i) among = append_right (with_head m.query head) (split_heads n.query n.heads) (split_maps maps) (in_split_maps m head maps i among)

-- a split mapping stands for a head of a map
pub record IsOfMap (s : SplitMap) (maps : List Map) : Type 0 where
  pub map : Map
  pub stands : In map maps
  pub among : In s.head map.heads
  pub query : s.query ≡ map.query

out_split_heads : (query : SourceQuery) (s : SplitMap) (heads : List Head) → In s (split_heads query heads) → In s.head heads × (s.query ≡ query)
out_split_heads query s [] i = absurd i
out_split_heads query s (h ∷ heads) (inl e) = (inl (ap (λ (k : SplitMap). k.head) e), ap (λ (k : SplitMap). k.query) e)
out_split_heads query s (h ∷ heads) (inr i) = let r = out_split_heads query s heads i in (inr r.0, r.1)

-- each split mapping does
pub out_split_maps : (s : SplitMap) (maps : List Map) → In s (split_maps maps) → IsOfMap s maps
out_split_maps s [] i = absurd i
out_split_maps s (m ∷ maps) i = elim (in_append s (split_heads m.query m.heads) (split_maps maps) i) [
  | inl a ↦ (let r = out_split_heads m.query s m.heads a in record { map = m; stands = inl refl; among = r.0; query = r.1 })
  | inr b ↦ (let r = out_split_maps s maps b in record { map = r.map; stands = inr r.stands; among = r.among; query = r.query })
]

-- splitting keeps each fact with each support
pub split_keeps_supports : SplitKeepsSupports
split_keeps_supports decls tables maps fact rows = (
  λ (s : IsSupportByMaps decls tables maps fact rows). record {
    map = with_head s.map.query s.head;
    stands = in_split_maps s.map s.head maps s.stands s.among;
    choice = s.choice;
    gives = s.gives;
    are = s.are;
  },
  λ (s : IsSupport decls tables (split_maps maps) fact rows).
      let o = out_split_maps s.map maps s.stands in
      record {
        map = o.map;
        stands = o.stands;
        head = s.map.head;
        among = o.among;
        choice = s.choice;
        gives = subst (λ (q : SourceQuery). Gives decls tables q s.map.head s.choice fact) o.query s.gives;
        are = subst (λ (q : SourceQuery). HaveSameRows rows (chosen_rows decls q.from s.choice)) o.query s.are;
      },
)

module _ (decls : List TableDecl) (tables : List (List Row)) where
  -- the facts of a set of rows are facts of a larger one
  pub facts_grow : (maps : List SplitMap) (X Y : RowId → Type 0) (fact : Fact Term) → ((row : RowId) → X row → Y row) → IsFactOf decls tables maps X fact → IsFactOf decls tables maps Y fact
  facts_grow maps X Y fact more f = record { rows = f.rows; support = f.support; within = each_weaker X Y more f.rows f.within }

  -- the rows of a choice for these entries are rows of the tables
  pub chosen_lie : (entries : List FromEntry) (choice : List ℕ) → AllZip (λ entry number. IsRowNumber (rows_of decls tables entry) number) entries choice → AllByRecursion (IsOfTables tables) (chosen_rows decls entries choice)
  chosen_lie [] choice h = tt
  chosen_lie (entry ∷ entries) [] h = absurd h
  chosen_lie (entry ∷ entries) (number ∷ choice) h = (h.0, chosen_lie entries choice h.1)

  -- a support is a set of rows of the tables
  pub support_lies : (maps : List SplitMap) (fact : Fact Term) (rows : List RowId) → IsSupport decls tables maps fact rows → AllByRecursion (IsOfTables tables) rows
  support_lies maps fact rows s = in_each (IsOfTables tables) rows (λ row i.
      each_in (IsOfTables tables) row (chosen_rows decls s.map.query.from s.choice) (chosen_lie s.map.query.from s.choice s.gives.meets.is_choice) ((s.are row).0 i))

  -- a fact with a support is a fact of the tables
  pub supported : (maps : List SplitMap) (fact : Fact Term) (rows : List RowId) → IsSupport decls tables maps fact rows → IsFactOf decls tables maps (IsOfTables tables) fact
  supported maps fact rows s = record { rows = rows; support = s; within = support_lies maps fact rows s }
