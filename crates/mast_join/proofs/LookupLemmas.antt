-- Rows that an index finds.
use Rattle.std.proofs.Common.{◌≡◌, ℕ, ◌+◌, ◌<◌, ◌≤◌, true, List, [], ◌∷◌, ◌++◌, length, get_or, map, inl, inr, refl, sym, ap, subst, ◌∙◌, arith}
use Rattle.std.specs.Prelude.{Option, Some, None, option_and_then}
use Rattle.std.specs.List.{All}
use Rattle.std.specs.Option.{IfSome}
use Rattle.std.proofs.lemmas.Bool.{eq-eqb}
use Rattle.std.proofs.lemmas.List.{get_or-map, length-set}
use Rattle.std.proofs.lemmas.List.Elements.{All-from_recursion}
use Rattle.std.proofs.lemmas.Option.{none-some, same_Some, slice_get-get_or}
use Rattle.mast_terms.specs.declared.value.Value.{Value}
use Rattle.mast_cq.specs.Queries.{In}
use Rattle.mast_cq.proofs.ListLemmas.{in_map, map_in, in_each, each_in}
use Rattle.mast_tables.specs.Laws.{MissingHaveNone, NumbersTell}
use Rattle.mast_tables.specs.Rows.{Row, IsPlace, cell_at, number_at, number_of}
use Rattle.mast_canon.specs.Choices.{IsRowNumber}
use Rattle.mast_join.specs.declared.index.Index.{Index}
use Rattle.mast_join.specs.inside.Chains.{IsIndexed, chain, has_key, heads_after, next_of}
use Rattle.mast_join.specs.inside.Lookups.{scattered, key_of, keys_of, keys, IsIndex, numbered, IsFound, IsNoted}
use Rattle.mast_join.specs.inside.Partial.{AreRows, Once}
use Rattle.mast_join.proofs.ChainLemmas.{indexed_more, chain_in, in_chain, chain_once}
use Rattle.mast_join.proofs.OnceLemmas.{each_once, in_get, stands_at}

once_places : (rows ps : List ℕ) → Once rows → Once ps → ((p : ℕ) → In p ps → p < length rows) → Once (map (λ place. get_or rows place 0) ps)
once_places rows [] o q within = tt
once_places rows (p ∷ ps) o q within = (
  λ i. let m = in_map (λ (place : ℕ). get_or rows place 0) (get_or rows p 0) ps i in
      let same : p ≡ m.from = each_once rows o p m.from (get_or rows p 0) (slice_get-get_or rows p 0 (within p (inl refl)))
      (slice_get-get_or rows m.from 0 (within m.from (inr m.among)) ∙ ap (λ (k : ℕ). Some k) (sym m.is)) in
      q.0 (subst (λ (k : ℕ). In k ps) (sym same) m.among),
  once_places rows ps o q.1 (λ k j. within k (inr j)),
)

module _ (i : Index) (x : IsIndex i) where
  found_once : (key : ℕ) → Once i.rows.now → Once (map (λ place. get_or i.rows.now place 0) (chain (keys i) key (length i.rows.now)))
  found_once key o = once_places i.rows.now (chain (keys i) key (length i.rows.now)) o (chain_once (keys i) key (length i.rows.now)) (λ p j. in_chain (keys i) key (length i.rows.now) p j)

  found_within : (key row : ℕ) → In row (map (λ place. get_or i.rows.now place 0) (chain (keys i) key (length i.rows.now))) → In row i.rows.now
  found_within key row j =
      let m = in_map (λ (place : ℕ). get_or i.rows.now place 0) row (chain (keys i) key (length i.rows.now)) j in
      subst (λ (k : ℕ). In k i.rows.now) (sym m.is) (in_get i.rows.now m.from 0 (in_chain (keys i) key (length i.rows.now) m.from m.among))

  found_all : (number row : ℕ) → In row i.rows.now → number_at i.table.now row i.column ≡ Some number → In row (numbered i number)
  found_all number row j e =
      let s = stands_at row i.rows.now j in
      let at : get_or (keys i) s.place None ≡ key_of (length i.heads.items) (number_at i.table.now (get_or i.rows.now s.place 0) i.column) = get_or-map (λ (r : ℕ). key_of (length i.heads.items) (number_at i.table.now r i.column)) i.rows.now s.place 0 None s.within in
      let its : get_or (keys i) s.place None ≡ Some (scattered (length i.heads.items) number) = at ∙ ap (λ (r : ℕ). key_of (length i.heads.items) (number_at i.table.now r i.column)) (s.is 0) ∙ ap (key_of (length i.heads.items)) e in
      let has : has_key (scattered (length i.heads.items) number) (get_or (keys i) s.place None) ≡ true = ap (has_key (scattered (length i.heads.items) number)) its ∙ eq-eqb (scattered (length i.heads.items) number) (scattered (length i.heads.items) number) refl in
      subst (λ (k : ℕ). In k (numbered i number)) (s.is 0)
      (map_in (λ (place : ℕ). get_or i.rows.now place 0) s.place (chain (keys i) (scattered (length i.heads.items) number) (length i.rows.now))
      (chain_in (keys i) (scattered (length i.heads.items) number) (length i.rows.now) s.place s.within has))

  -- the rows with the key of the other value's number
  pub found_some : (other : Option Value) (number : ℕ) → option_and_then (number_of i.table.now) other ≡ Some number → IsFound i other (numbered i number)
  found_some other number e = record {
    once = found_once (scattered (length i.heads.items) number);
    within = λ row j. found_within (scattered (length i.heads.items) number) row j;
    all = λ row value j own its. found_all number row j (ap (option_and_then (number_of i.table.now)) (own ∙ sym its) ∙ e);
  }

  -- none, where the other value has no number
  pub found_none : MissingHaveNone i.table.now → (other : Option Value) → option_and_then (number_of i.table.now) other ≡ None → IsFound i other []
  found_none law other e = record {
    once = λ o. tt;
    within = λ row j. absurd j;
    all = λ row value j own its.
        let s = stands_at row i.rows.now j in
        let place : IsPlace i.table.now row i.column = subst (λ (k : ℕ). IsPlace i.table.now k i.column) (s.is 0) (x.places s.place 0 s.within) in
        let missing : cell_at i.table.now row i.column ≡ None = (law row i.column place).0 (ap (option_and_then (number_of i.table.now)) (own ∙ sym its) ∙ e) in
        absurd (none-some value (sym missing ∙ own));
  }

-- what is found for a row is right for each row with its number
pub noted : (from : List Row) (column : ℕ) (to : List Row) (row number : ℕ) (other : Option ℕ) → NumbersTell from → IsPlace from row column → number_at from row column ≡ Some number → other ≡ option_and_then (number_of to) (cell_at from row column) → IsNoted from column to (Some (record { number = number; other = other }))
noted from column to row number other law place e is = λ next there h.
    ap (option_and_then (number_of to)) ((law next column row column there place).0 (h ∙ sym e)) ∙ sym is

some_within : (key : Option ℕ) (count : ℕ) → IfSome key (λ k. k < count) → (k : ℕ) → key ≡ Some k → k < count
some_within None count h k e = absurd (none-some k e)
some_within (Some key) count h k e = let same : key ≡ k = same_Some key k e in let lt : key < count = h in omega arith

after_long : (key : Option ℕ) (place : ℕ) (heads : List ℕ) → length (heads_after key place heads) ≡ length heads
after_long None place heads = refl
after_long (Some key) place heads = length-set heads key (place + 1)

-- one row more is found by its key
pub indexed_next : (table : List Row) (column count : ℕ) (rows : List ℕ) (i : ℕ) (key : Option ℕ) (heads nexts : List ℕ) → IsIndexed (keys_of table column count rows) i heads nexts → i < length rows → length heads ≡ count
    → key ≡ key_of count (number_at table (get_or rows i 0) column) → IfSome key (λ k. k < count) → IsIndexed (keys_of table column count rows) (i + 1) (heads_after key (length nexts) heads) (nexts ++ next_of key heads ∷ [])
indexed_next table column count rows i key heads nexts x lt size e within =
    subst (λ (k : ℕ). IsIndexed (keys_of table column count rows) (i + 1) (heads_after key k heads) (nexts ++ next_of key heads ∷ [])) (sym x.long)
    (indexed_more (keys_of table column count rows) i key heads nexts x
    (get_or-map (λ (r : ℕ). key_of count (number_at table r column)) rows i 0 None lt ∙ sym e)
    (λ k is. let below : k < count = some_within key count within k is in omega (arith, size)))

-- the same, as the code has it
pub indexed_step : (table : List Row) (column count : ℕ) (rows : List ℕ) (i : ℕ) (key : Option ℕ) (heads nexts heads' nexts' : List ℕ) → IsIndexed (keys_of table column count rows) i heads nexts → i < length rows → length heads ≡ count
    → key ≡ key_of count (number_at table (get_or rows i 0) column) → IfSome key (λ k. k < count) → heads' ≡ heads_after key (length nexts) heads → nexts' ≡ nexts ++ next_of key heads ∷ []
    → (length heads' ≡ count) × IsIndexed (keys_of table column count rows) (i + 1) heads' nexts'
indexed_step table column count rows i key heads nexts heads' nexts' x lt size e within h n = (
  ap length h ∙ after_long key (length nexts) heads ∙ size,
  subst (λ (k : List ℕ). IsIndexed (keys_of table column count rows) (i + 1) heads' k) (sym n)
      (subst (λ (k : List ℕ). IsIndexed (keys_of table column count rows) (i + 1) k (nexts ++ next_of key heads ∷ [])) (sym h) (indexed_next table column count rows i key heads nexts x lt size e within)),
)

-- what is found are rows of the entry
pub found_rows : (i : Index) (other : Option Value) (found : List ℕ) (all : List (List Row)) (entry : ℕ) → IsFound i other found → AreRows all entry i.rows.now → All (λ row. row ≤ length (get_or all entry [])) found
found_rows i other found all entry f a = All-from_recursion (λ (row : ℕ). row ≤ length (get_or all entry [])) found (in_each (λ (row : ℕ). row ≤ length (get_or all entry [])) found (λ row j.
    (each_in (IsRowNumber (get_or all entry [])) row i.rows.now a.each (f.within row j)).1))
