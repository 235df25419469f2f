-- What a source query is made into can be joined, and what the join gives are its choices.
use Rattle.std.proofs.Common.{◌≡◌, ℕ, ◌<◌, true, false, List, [], length, sym, subst}
use Rattle.std.specs.Prelude.{Option}
use Rattle.std.specs.List.{AllByRecursion}
use Rattle.std.specs.Option.{option_copied}
use Rattle.std.proofs.lemmas.List.Elements.{All-from_recursion}
use Rattle.std.proofs.lemmas.Option.{none-some}
use Rattle.mast_sql.specs.declared.query.Comparison.{Comparison}
use Rattle.mast_sql.specs.declared.query.FromEntry.{FromEntry}
use Rattle.mast_sql.specs.declared.query.SourceQuery.{SourceQuery}
use Rattle.mast_tables.specs.declared.declaration.TableDecl.{TableDecl}
use Rattle.mast_tables.specs.Rows.{Row}
use Rattle.mast_canon.specs.declared.rows.RowId.{RowId}
use Rattle.mast_canon.specs.Fitting.{Fits}
use Rattle.mast_join.specs.Chosen.{AreChoices, AreFew, ChoiceList}
use Rattle.mast_join.specs.declared.join.Join.{Join}
use Rattle.mast_join.specs.inside.Grows.{AreWhole}
use Rattle.mast_join.specs.inside.Joins.{IsJoin, only, sources}
use Rattle.mast_join.specs.inside.Partial.{IsTestOver}
use Rattle.mast_join.specs.inside.Plans.{AreTests, are_below, sources_of}
use Rattle.mast_join.proofs.FitLemmas.{all_below, none_there, tests_over}
use Rattle.mast_join.proofs.PlanLemmas.{places_of}
use Rattle.mast_join.proofs.WholeLemmas.{whole_are}

-- the tables of the entries are there, and so are the cells of the comparisons
pub is_join : (j : Join) (decls : List TableDecl) (entries : List FromEntry) (conditions : List Comparison) → Fits decls j.tables.now → AreFew decls → j.places.items ≡ places_of decls entries → are_below (length j.tables.now) j.places.items ≡ true → AreTests decls entries conditions j.tests.items → IsJoin j
is_join j decls entries conditions fits few e below z = record {
  places = All-from_recursion (λ (place : ℕ). place < length j.tables.now) j.places.items (all_below (length j.tables.now) j.places.items below);
  tests = All-from_recursion (IsTestOver (sources j)) j.tests.items
      (subst (λ (k : List ℕ). AllByRecursion (IsTestOver (sources_of j.tables.now k)) j.tests.items) (sym e) (tests_over decls j.tables.now fits few entries conditions j.tests.items z));
}

-- the choices with a row for each entry are those of the query
pub whole_choices : (j : Join) (decls : List TableDecl) (query : SourceQuery) (found : ChoiceList) → AreTests decls query.from query.conditions j.tests.items → j.places.items ≡ places_of decls query.from → AreWhole j found → AreChoices decls j.tables.now query (option_copied j.only) found.list
whole_choices j decls query found are e w = whole_are decls j.tables.now query (only j) j.tests.items are w.bound w.none_open j.places.items found.list e w.partial

-- where a table is not there, there is no choice
pub no_choices : (decls : List TableDecl) (tables : List (List Row)) (query : SourceQuery) (given : Option (List RowId)) (list : List (List ℕ)) → are_below (length tables) (places_of decls query.from) ≡ false → list ≡ [] → AreChoices decls tables query given list
no_choices decls tables query given list e is = subst (λ (k : List (List ℕ)). AreChoices decls tables query given k) (sym is) (record {
  once = λ i j x a b. absurd (none-some x a);
  exact = λ choice. (λ i. absurd i, λ m. absurd (none_there decls tables query.from choice e m.meets.is_choice));
})
