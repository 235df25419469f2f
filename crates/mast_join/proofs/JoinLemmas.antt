-- The cells of chosen rows, and the tables of entries.
use Rattle.std.proofs.Common.{◌≡◌, ℕ, ◌+◌, ◌-◌, ◌<◌, ◌≤◌, true, false, List, [], length, get_or, replicate, sym, ap, subst, ◌∙◌, arith}
use Rattle.std.specs.Prelude.{Option, None, nat_eq}
use Rattle.std.proofs.lemmas.Bool.{eqb-false}
use Rattle.std.specs.List.{All}
use Rattle.std.proofs.lemmas.List.{get_or-map, length-map, length-replicate}
use Rattle.std.proofs.lemmas.List.Elements.{All-from_recursion, All-replicate}
use Rattle.mast_tables.specs.Rows.{Row, IsPlace, cell_at}
use Rattle.mast_cq.proofs.ListLemmas.{in_each, each_in}
use Rattle.mast_canon.specs.Choices.{IsRowNumber}
use Rattle.mast_join.specs.declared.join.Join.{Join}
use Rattle.mast_join.specs.declared.numbers.Known.{Known}
use Rattle.mast_join.specs.declared.numbers.Numbers.{Numbers}
use Rattle.mast_join.specs.inside.Joins.{sources}
use Rattle.mast_join.specs.inside.Lookups.{AreNumbers, IsNoted}
use Rattle.mast_join.specs.inside.Partial.{AreRows, IsCellOver, IsPartly}

-- the cell of a column that counts from 0
pub cell_is : (rows : List Row) (row column : ℕ) → cell_at rows row (column + 1) ≡ get_or (get_or rows (row - 1) []) column None
cell_is rows row column = let e : column + 1 - 1 ≡ column = omega arith in ap (λ (k : ℕ). get_or (get_or rows (row - 1) []) k None) e

-- the cell of a chosen row is there
pub cell_place : (all : List (List Row)) (choice : List ℕ) (entry column : ℕ) → IsPartly all choice → IsCellOver all entry column → nat_eq (get_or choice entry 0) 0 ≡ false → IsPlace (get_or all entry []) (get_or choice entry 0) (column + 1)
cell_place all choice entry column p o e =
    let some : get_or choice entry 0 ≡ 0 → ⊥ = eqb-false (get_or choice entry 0) 0 e in
    let within : get_or choice entry 0 ≤ length (get_or all entry []) = p.within entry in
    let one : 1 ≤ get_or choice entry 0 = omega (arith, some) in
    let there : column < length (get_or (get_or all entry []) (get_or choice entry 0 - 1) []) = o.column_there (get_or choice entry 0 - 1) (omega arith) in
    record { row_from = one; row_to = within; column_from = omega arith; column_to = omega arith }

-- the table of an entry
pub source_at : (j : Join) (entry : ℕ) → entry < length j.places.items → get_or j.tables.now (get_or j.places.items entry 0) [] ≡ get_or (sources j) entry []
source_at j entry lt = sym (get_or-map (λ (place : ℕ). get_or j.tables.now place []) j.places.items entry 0 [] lt)

-- there are as many tables as entries
pub length-sources : (j : Join) → length (sources j) ≡ length j.places.items
length-sources j = length-map j.places.items (λ (place : ℕ). get_or j.tables.now place [])

-- two entries with one table
pub same_source : (j : Join) (a b : ℕ) → a < length j.places.items → b < length j.places.items → get_or j.places.items a 0 ≡ get_or j.places.items b 0 → get_or (sources j) a [] ≡ get_or (sources j) b []
same_source j a b la lb e = sym (source_at j a la) ∙ ap (λ (k : ℕ). get_or j.tables.now k []) e ∙ source_at j b lb

-- the cells of a column in rows of an entry
pub row_places : (all : List (List Row)) (entry column : ℕ) (rows : List ℕ) → AreRows all entry rows → IsCellOver all entry column → All (λ row. IsPlace (get_or all entry []) row (column + 1)) rows
row_places all entry column rows a o = All-from_recursion (λ (row : ℕ). IsPlace (get_or all entry []) row (column + 1)) rows (in_each (λ (row : ℕ). IsPlace (get_or all entry []) row (column + 1)) rows (λ row i.
    let r = each_in (IsRowNumber (get_or all entry [])) row rows a.each i in
    let one : 1 ≤ row = r.0 in
    let most : row ≤ length (get_or all entry []) = r.1 in
    let there : column < length (get_or (get_or all entry []) (row - 1) []) = o.column_there (row - 1) (omega arith) in
    record { row_from = one; row_to = most; column_from = omega arith; column_to = omega arith }))

-- numbers of which nothing is noted yet
pub numbers_new : (n : Numbers) (count : ℕ) → (n.same ≡ true → n.from.now ≡ n.to.now) → 0 < count → n.known.items ≡ replicate count None → AreNumbers n
numbers_new n count one some e = record {
  one = one;
  some = omega (arith, some, ap length e, length-replicate {A = Option Known} count None);
  noted = subst (λ (k : List (Option Known)). All (IsNoted n.from.now n.column n.to.now) k) (sym e) (All-replicate (IsNoted n.from.now n.column n.to.now) count None tt);
}
