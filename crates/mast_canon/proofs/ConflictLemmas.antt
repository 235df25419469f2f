-- Conflicts: no rows are none where each mapping reads a table, and each proper part of one has a model.
use Rattle.std.proofs.Common.{ℕ, ◌≤◌, inl, List, [], ◌∷◌, length, refl, subst, arith}
use Rattle.std.proofs.Math.Logic.{∥∥₁_elim}
use Rattle.std.specs.List.{AllByRecursion, AllZip}
use Rattle.mast_terms.specs.declared.name.Name.{Name}
use Rattle.mast_terms.specs.declared.term.Term.{Term}
use Rattle.mast_terms.specs.declared.value.Kind.{Kind}
use Rattle.mast_cq.specs.declared.atom.Atom.{Atom}
use Rattle.mast_cq.specs.Meanings.{Fact, MetBy}
use Rattle.mast_cq.specs.Queries.{In}
use Rattle.mast_cq.proofs.ListLemmas.{each_in}
use Rattle.mast_mapping.specs.declared.split_map.SplitMap.{SplitMap}
use Rattle.mast_sql.specs.declared.query.FromEntry.{FromEntry}
use Rattle.mast_tables.specs.declared.declaration.TableDecl.{TableDecl}
use Rattle.mast_tables.specs.Rows.{Row}
use Rattle.mast_tbox.specs.declared.axiom.Inclusion.{Inclusion}
use Rattle.mast_tbox.specs.declared.axiom.Negative.{Negative}
use Rattle.mast_tbox.specs.declared.axiom.Negative.TheVariants.{Concepts, Roles, Attrs, Irreflexive}
use Rattle.mast_tbox.specs.declared.constraint.Constraint.{Constraint}
use Rattle.mast_tbox.specs.declared.constraint.Constraint.TheVariants.{Functional, Identify, Deny}
use Rattle.mast_tbox.proofs.MemberLemmas.{map_in}
use Rattle.mast_canon.specs.declared.origin.Origin.{Origin}
use Rattle.mast_canon.specs.declared.rows.RowId.{RowId}
use Rattle.mast_canon.specs.declared.spec.Spec.{Spec}
use Rattle.mast_canon.specs.CertainAnswers.{HoldsBy}
use Rattle.mast_canon.specs.Choices.{IsRowNumber, rows_of}
use Rattle.mast_tbox.specs.ConstraintForms.{HasForm, HaveForm}
use Rattle.mast_canon.specs.ConflictLaws.{EachReads, HaveNoModel, IsAmong, IsConflict, IsProperPart}
use Rattle.mast_canon.specs.Conflicts.{Without}
use Rattle.mast_canon.specs.Derivations.{Holds, source, follows}
use Rattle.mast_canon.specs.Elements.{Element}
use Rattle.mast_canon.specs.Facts.{chosen_rows}
use Rattle.mast_canon.specs.NoModels.{BreaksNegative, BreaksRange, wrong, two, BreaksConstraint, Breaks, negative, range, functional, constraint}
use Rattle.mast_canon.specs.SpecFacts.{FactsOf}
use Rattle.mast_canon.specs.Theories.{Theory, stated, theory_of}
use Rattle.mast_canon.proofs.HoldsLemmas.{holds_grows, breaks_grow}
use Rattle.mast_canon.proofs.SpecLemmas.{each_contains}
use Rattle.mast_canon.proofs.SupportLemmas.{facts_grow}

no_holds : (tbox : List Inclusion) (F : Fact Term → Type 0) → ((f : Fact Term) → F f → ⊥) → (f : Fact Element) → Holds tbox F f → ⊥
no_holds tbox F none f (source s) = none s.fact s.given
no_holds tbox F none f (follows {f = g} h step) = no_holds tbox F none g h

-- no facts break nothing, since each denial has an atom
module _ (theory : Theory) (P : Fact Element → Type 0) (none : (f : Fact Element) → P f → ⊥) where
  no_negative : (n : Negative) → BreaksNegative P n → ⊥
  no_negative (Concepts left right) b = none _ b.1.0.1
  no_negative (Roles left right) b = none _ b.1.1.0
  no_negative (Attrs left right) b = none _ b.1.1.0
  no_negative (Irreflexive role) b = none _ b.1

  no_range : (earlier : List Inclusion) (u : Name) (kind : Kind) → BreaksRange P earlier u kind → ⊥
  no_range earlier u kind (wrong t v h d) = none _ h
  no_range earlier u kind (two other its t s v c d h g) = none _ h

  no_atoms : (constant s : ℕ → Element) (atoms : List Atom) → 1 ≤ length atoms → AllByRecursion (MetBy constant P s) atoms → ⊥
  no_atoms constant s [] some each = omega (arith, some)
  no_atoms constant s (g ∷ gs) some each = none each.0.fact each.0.holds

  no_constraint : (c : Constraint) → HasForm c → BreaksConstraint theory P c → ⊥
  no_constraint (Functional p) formed b = none _ b.first
  no_constraint (Identify concept paths) formed b = none _ b.first.1
  no_constraint (Deny atoms) formed b = no_atoms _ b.under atoms formed.some b.each

  none_breaks : HaveForm theory.constraints → (origin : Origin) → Breaks theory P origin → ⊥
  none_breaks formed origin (negative l c b e) = no_negative l.item b
  none_breaks formed origin (range before after l u kind e i b o) = no_range _ u kind b
  none_breaks formed origin (functional l c b e) = none _ b.first
  none_breaks formed origin (constraint l c b e) = no_constraint l.item (each_contains HasForm _ formed l.item (map_in (λ z. z.item) theory.constraints l c)) b

-- a choice of rows for some entries has a row
a_row : (decls : List TableDecl) (tables : List (List Row)) (entries : List FromEntry) (choice : List ℕ) → 1 ≤ length entries
    → AllZip (λ entry number. IsRowNumber (rows_of decls tables entry) number) entries choice → (row : RowId) × In row (chosen_rows decls entries choice)
a_row decls tables [] choice some zip = absurd (omega (arith, some))
a_row decls tables (entry ∷ entries) [] some zip = absurd zip
a_row decls tables (entry ∷ entries) (number ∷ choice) some zip = (_, inl refl)

module _ (spec : Spec) (tables : List (List Row)) where
  no_fact : EachReads spec → (f : Fact Term) → FactsOf spec tables (IsAmong []) f → ⊥
  no_fact reads f h =
      let s = h.support in
      let some = each_in (λ (m : SplitMap). 1 ≤ length m.query.from) s.map spec.maps reads s.stands in
      let row = a_row spec.tables tables s.map.query.from s.choice some s.gives.meets.is_choice in
      each_in (IsAmong []) row.0 h.rows h.within ((s.are row.0).1 row.1)

  -- no rows are no conflict
  pub no_empty_conflict : EachReads spec → IsConflict spec tables [] → ⊥
  no_empty_conflict reads conflict =
      let F = FactsOf spec tables (IsAmong []) in
      ∥∥₁_elim spec.formed (λ a b. absurd a) (λ formed.
      none_breaks (theory_of spec) (HoldsBy (theory_of spec) F) (no_holds (stated (theory_of spec)) F (no_fact reads)) formed conflict.no_model.0 conflict.no_model.1)

  -- a part of a conflict that misses a row has a model
  pub part_has_model : (part rows : List RowId) → IsConflict spec tables rows → IsProperPart part rows → HaveNoModel spec tables part → ⊥
  part_has_model part rows conflict proper broken =
      let less = Without (IsAmong rows) proper.missing in
      let F = FactsOf spec tables (IsAmong part) in
      let G = FactsOf spec tables less in
      let theory = theory_of spec in
      let within : (row : RowId) → IsAmong part row → less row = λ row i. (proper.within row i, λ e. proper.misses (subst (λ z. In z part) e i)) in
      let grow : (f : Fact Term) → F f → G f = λ f h. facts_grow spec.tables tables spec.maps (IsAmong part) less f within h in
      conflict.least proper.missing proper.stands (broken.0, breaks_grow (HoldsBy theory F) (HoldsBy theory G) (holds_grows F G grow (stated theory)) theory broken.0 broken.1)
