-- Indices of relations by some columns.
use Rattle.std.proofs.Common.{◌≡◌, ℕ, suc, ◌+◌, ◌<◌, List, [], ◌∷◌, ◌++◌, length, get_or, take, map, refl, sym, ap, subst, ◌∙◌, arith}
use Rattle.std.specs.List.{AllByRecursion}
use Rattle.std.proofs.lemmas.List.{get_or-map, get_or_append_left, get_or_push, length-map, length_push, map-append, take_more}
use Rattle.mast_relations.specs.declared.relation.Index.{Index}
use Rattle.mast_relations.specs.Matches.{Rows}
use Rattle.mast_relations.specs.Plans.{picked}
use Rattle.mast_relations.specs.Stores.{Stored}
use Rattle.mast_relations.specs.inside.Hashing.{hash_of}
use Rattle.mast_relations.specs.inside.Indices.{Agrees, AgreesBy, CanAgree, IsGrown, IsIndexAt, IsIndexOf, hashes_by}
use Rattle.mast_relations.specs.inside.Lasts.{HasHash, IsLast}
use Rattle.mast_relations.proofs.ListLemmas.{each_at_place}

-- the hash of one more row
pub hashes_more : (columns : List ℕ) (rows : List (List ℕ)) (i : ℕ) → i < length rows → hashes_by columns (take i rows) ++ hash_of (picked (get_or rows i []) columns) ∷ [] ≡ hashes_by columns (take (i + 1) rows)
hashes_more columns rows i lt =
    sym (map-append (λ (row : List ℕ). hash_of (picked row columns)) (take i rows) (get_or rows i [] ∷ []))
    ∙ ap (map (λ (row : List ℕ). hash_of (picked row columns))) (sym (take_more rows i [] lt))

-- the hash at the place of a row
pub index_hash : (rows : Rows) (index : Index) (values places : List ℕ) (hash place : ℕ) → IsIndexOf rows index → CanAgree index.columns.items values places hash → place < length rows.list → AgreesBy rows index.columns.items values places place → HasHash index.hashes hash place
index_hash rows index values places hash place x c lt a =
    ap (λ (k : List ℕ). get_or k place 0) x.hashes ∙ get_or-map (λ (row : List ℕ). hash_of (picked row index.columns.items)) rows.list place [] 0 lt ∙ ap hash_of a ∙ sym c.hash_is

-- there are as many hashes as rows
pub index_count : (rows : Rows) (index : Index) → IsIndexOf rows index → length index.hashes ≡ length rows.list
index_count rows index x = ap length x.hashes ∙ length-map rows.list (λ (row : List ℕ). hash_of (picked row index.columns.items))

-- what is the same at each place is picked the same
pub picked_same : (a b columns places : List ℕ) → length columns ≡ length places → ((k : ℕ) → k < length columns → get_or a (get_or columns k 0) 0 ≡ get_or b (get_or places k 0) 0) → picked a columns ≡ picked b places
picked_same a b [] [] l f = refl
picked_same a b [] (p ∷ places) l f = absurd (omega (arith, l))
picked_same a b (c ∷ columns) [] l f = absurd (omega (arith, l))
picked_same a b (c ∷ columns) (p ∷ places) l f =
    ap (λ (k : ℕ). k ∷ picked a columns) (f 0 (omega arith)) ∙ ap (λ (k : List ℕ). get_or b p 0 ∷ k) (picked_same a b columns places (shorter l) (λ k lt. f (suc k) (omega (arith, lt))))
  where
    shorter : length (c ∷ columns) ≡ length (p ∷ places) → length columns ≡ length places
    shorter e = omega (arith, e)

-- and what is picked the same is the same at each place
pub picked_each : (a b columns places : List ℕ) (k : ℕ) → length columns ≡ length places → picked a columns ≡ picked b places → k < length columns → get_or a (get_or columns k 0) 0 ≡ get_or b (get_or places k 0) 0
picked_each a b columns places k l e lt =
    sym (get_or-map (λ (p : ℕ). get_or a p 0) columns k 0 0 lt) ∙ ap (λ (x : List ℕ). get_or x k 0) e ∙ get_or-map (λ (p : ℕ). get_or b p 0) places k 0 0 (omega (arith, lt, l))

-- the indices with one more
abbrev pub columns_in : List Index → List (List ℕ)
columns_in indices = map (λ (index : Index). index.columns.items) indices

-- each is as it was
pub index_kept : (rows : Rows) (indices : List Index) (index : Index) → IsGrown (record { rows = rows; indices = columns_in indices }) (record { rows = rows; indices = columns_in (indices ++ index ∷ []) })
index_kept rows indices index = record {
  rows = refl;
  kept = λ i lt. record {
    there = omega (arith, lt, length-map indices (λ (x : Index). x.columns.items), length-map (indices ++ index ∷ []) (λ (x : Index). x.columns.items), length_push indices index);
    is = ap (λ (k : List (List ℕ)). get_or k i []) (map-append (λ (x : Index). x.columns.items) indices (index ∷ [])) ∙ get_or_append_left (columns_in indices) (index.columns.items ∷ []) [] i lt;
  };
}

-- and the new one is the last
pub index_new : (rows : Rows) (indices : List Index) (index : Index) → IsIndexAt (record { rows = rows; indices = columns_in (indices ++ index ∷ []) }) index.columns.items (length indices)
index_new rows indices index = record {
  there = omega (arith, length-map (indices ++ index ∷ []) (λ (x : Index). x.columns.items), length_push indices index);
  is = ap (λ (k : List (List ℕ)). get_or k (length indices) []) (map-append (λ (x : Index). x.columns.items) indices (index ∷ []))
      ∙ get_or_push (columns_in indices) index.columns.items [] (length indices) (length-map indices (λ (x : Index). x.columns.items));
}

-- the columns of an index of a number
pub columns_at : (indices : List Index) (i : ℕ) (d : Index) → i < length indices → get_or (columns_in indices) i [] ≡ (get_or indices i d).columns.items
columns_at indices i d lt = get_or-map (λ (x : Index). x.columns.items) indices i d [] lt

-- an index that has these columns
pub index_at : (rows : Rows) (indices : List Index) (now : Stored) → record { rows = rows; indices = columns_in indices } ≡ now → (i : ℕ) (index : Index) (columns : List ℕ) → i < length indices → index ≡ get_or indices i index → index.columns.items ≡ columns
    → IsIndexAt now columns i
index_at rows indices now view i index columns lt is e =
    subst (λ (s : Stored). IsIndexAt s columns i) view (record {
      there = omega (arith, lt, length-map indices (λ (x : Index). x.columns.items));
      is = columns_at indices i index lt ∙ ap (λ (x : Index). x.columns.items) (sym is) ∙ e;
    })

-- what agrees by an index agrees by its number
pub agrees_seen : (rows : Rows) (indices : List Index) (now : Stored) → record { rows = rows; indices = columns_in indices } ≡ now → (i : ℕ) (index : Index) → i < length indices → index ≡ get_or indices i index → (values places : List ℕ) (count place : ℕ)
    → IsLast (AgreesBy rows index.columns.items values places) (AgreesBy rows index.columns.items values places) count place → IsLast (Agrees now i values places) (Agrees now i values places) count place
agrees_seen rows indices now view i index lt is values places count place last =
    let e : get_or (columns_in indices) i [] ≡ index.columns.items = columns_at indices i index lt ∙ ap (λ (x : Index). x.columns.items) (sym is) in
    subst (λ (s : Stored). IsLast (Agrees s i values places) (Agrees s i values places) count place) view
    (subst (λ (k : List ℕ). IsLast (AgreesBy rows k values places) (AgreesBy rows k values places) count place) (sym e) last)

-- the index of a number is one
pub index_is : (rows : Rows) (indices : List Index) (i : ℕ) (index : Index) → AllByRecursion (IsIndexOf rows) indices → i < length indices → index ≡ get_or indices i index → IsIndexOf rows index
index_is rows indices i index all lt is = subst (IsIndexOf rows) (sym is) (each_at_place (IsIndexOf rows) index indices i all lt)
