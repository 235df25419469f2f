-- The lines of split mappings, one after the other.
use Rattle.std.proofs.Common.{◌≡◌, ◌⊎◌, ◌+◌, ◌<◌, inl, inr, ℕ, List, [], ◌∷◌, ◌++◌, Option, length, drop, get_or, subst, sym, ap, ◌∙◌, refl, append_assoc, append-nil}
use Rattle.std.proofs.lemmas.List.{drop_more}
use Rattle.std.specs.Prelude.{◌↔◌, None}
use Rattle.std.specs.List.{AllByRecursion, filter_map}
use Rattle.mast_canon.specs.Choices.{IsChoice, Meets, chosen}
use Rattle.mast_cq.proofs.ListLemmas.{in_append, append_left, append_right, in_each}
use Rattle.mast_cq.specs.Queries.{In}
use Rattle.mast_join.specs.Chosen.{AreChoices}
use Rattle.mast_mapping.specs.declared.split_map.SplitMap.{SplitMap}
use Rattle.mast_tables.specs.declared.declaration.TableDecl.{TableDecl}
use Rattle.mast_tables.specs.Rows.{Row}
use Rattle.mast_terms.specs.Vocabularies.{Lists}
use Rattle.mast_write.specs.FactPlans.{Planned, line_of}
use Rattle.mast_write.specs.LineText.{AreSame, IsTextOf, StandsIn}
use Rattle.mast_write.proofs.TextLemmas.{text_of_same}
use Rattle.mast_cli.specs.inside.FactLines.{AddsLines, IsLineOf, IsMapLine, lines_of}
use Rattle.mast_cli.proofs.ChoiceLemmas.{are_met, met}
use Rattle.mast_cli.proofs.ListLemmas.{in_given, given_in, in_contains, contains_in}

module _ (vocab : Lists) (decls : List TableDecl) (tables : List (List Row)) where
  -- the lines so far are those of the split mappings that are gone
  pub record Written (left all : List SplitMap) (lines : List (List ℕ)) : Type 0 where
    pub gone : List SplitMap
    pub parts : gone ++ left ≡ all
    pub exact : (line : List ℕ) → In line lines ↔ IsLineOf vocab decls tables gone line

  none_of : (line : List ℕ) → IsLineOf vocab decls tables [] line → ⊥
  none_of line h = h.stands

  -- no line yet
  pub written_none : (all : List SplitMap) → Written all all []
  written_none all = record { gone = []; parts = refl; exact = λ line. ((λ h. absurd h), (λ h. absurd (none_of line h))) }

  earlier : (map : SplitMap) (gone : List SplitMap) (line : List ℕ) → IsLineOf vocab decls tables gone line → IsLineOf vocab decls tables (gone ++ map ∷ []) line
  earlier map gone line h = record { map = h.map; stands = append_left h.map gone (map ∷ []) h.stands; of = h.of }

  last : (map : SplitMap) (gone : List SplitMap) (line : List ℕ) → IsMapLine vocab decls tables map line → IsLineOf vocab decls tables (gone ++ map ∷ []) line
  last map gone line h = record { map = map; stands = append_right map gone (map ∷ []) (inl refl); of = h }

  one_of : (map : SplitMap) (gone : List SplitMap) (line : List ℕ) → IsLineOf vocab decls tables (gone ++ map ∷ []) line → IsLineOf vocab decls tables gone line ⊎ IsMapLine vocab decls tables map line
  one_of map gone line h = elim (in_append h.map gone (map ∷ []) h.stands) [
    | inl g ↦ inl (record { map = h.map; stands = g; of = h.of })
    | inr g ↦ elim g [ inl e ↦ inr (subst (λ m. IsMapLine vocab decls tables m line) e h.of) | inr none ↦ absurd none ]
  ]

  -- the lines of one more
  written_more : (left all : List SplitMap) (map : SplitMap) (old new : List (List ℕ)) → Written (map ∷ left) all old → AddsLines old new (IsMapLine vocab decls tables map) → Written left all new
  written_more left all map old new w added = record {
    gone = w.gone ++ map ∷ [];
    parts = append_assoc w.gone (map ∷ []) left ∙ w.parts;
    exact = λ line. (
      (λ h. elim (in_append line old added.more (subst (λ ls. In line ls) added.added h)) [
        | inl g ↦ earlier map w.gone line ((w.exact line).0 g)
        | inr g ↦ last map w.gone line ((added.exact line).0 g)
      ]),
      (λ h. subst (λ ls. In line ls) (sym added.added) (elim (one_of map w.gone line h) [
        | inl g ↦ append_left line old added.more ((w.exact line).1 g)
        | inr g ↦ append_right line old added.more ((added.exact line).1 g)
      ])),
    );
  }

  -- the same at a place of all
  pub written_next : (all : List SplitMap) (i : ℕ) (map d : SplitMap) (old new : List (List ℕ)) → i < length all → map ≡ get_or all i d → Written (drop i all) all old
      → AddsLines old new (IsMapLine vocab decls tables map) → Written (drop (i + 1) all) all new
  written_next all i map d old new less same w added =
      let split : drop i all ≡ map ∷ drop (i + 1) all = drop_more all i d less ∙ ap (λ m. m ∷ drop (i + 1) all) (sym same) in
      written_more (drop (i + 1) all) all map old new (subst (λ left. Written left all old) split w) added

  -- the lines are those of all split mappings, once none is left
  pub written_lines : (left all : List SplitMap) (lines : List (List ℕ)) → left ≡ [] → Written left all lines → AreSame (StandsIn lines) (IsLineOf vocab decls tables all)
  written_lines left all lines none w =
      let whole : w.gone ≡ all = sym (append-nil w.gone) ∙ ap (λ ms. w.gone ++ ms) (sym none) ∙ w.parts in
      record {
        to = λ line k. subst (λ ms. IsLineOf vocab decls tables ms line) whole ((w.exact line).0 (contains_in line lines k));
        from = λ line k. in_contains line lines ((w.exact line).1 (subst (λ ms. IsLineOf vocab decls tables ms line) (sym whole) k));
      }

  -- so their text is the text of these
  pub written_text : (left all : List SplitMap) (lines : List (List ℕ)) (text : List ℕ) → left ≡ [] → Written left all lines → IsTextOf (StandsIn lines) text → IsTextOf (IsLineOf vocab decls tables all) text
  written_text left all lines text none w h = text_of_same (StandsIn lines) (IsLineOf vocab decls tables all) text (written_lines left all lines none w) h

  module _ (map : SplitMap) where
    -- the line of a choice
    abbrev line_at : List ℕ → Option (List ℕ)
    line_at choice = line_of vocab decls map (chosen decls tables map.query.from choice)

    -- the lines of the choices that meet the source query are those of the split mapping
    map_lines : (give : List ℕ → Option (List ℕ)) (choices old new : List (List ℕ)) → ((choice : List ℕ) → In choice choices ↔ Meets decls tables map.query choice)
        → ((choice : List ℕ) → Meets decls tables map.query choice → give choice ≡ line_at choice) → new ≡ old ++ filter_map give choices
        → AddsLines old new (IsMapLine vocab decls tables map)
    map_lines give choices old new are gives e = record {
      more = filter_map give choices;
      added = e;
      exact = λ line. (
        (λ h.
            let given = in_given give line choices h in
            let meets = (are given.from).0 given.among in
            record { choice = given.from; meets = meets; is = sym (gives given.from meets) ∙ given.is }),
        (λ h. given_in give h.choice line choices (gives h.choice h.meets ∙ h.is) ((are h.choice).1 h.meets)),
      );
    }

    module _ (choices : List (List ℕ)) (are : AreChoices decls tables map.query None choices) where
      met_by : (choice : List ℕ) → In choice choices → Meets decls tables map.query choice
      met_by choice h = ((are.exact choice).0 h).meets

      -- where a plan of the split mapping prints the line of each of them
      pub choices_added : (planned : Planned) → planned ≡ record { vocab = vocab; tables = decls; mapping = map }
          → (rows : List (List Row)) → rows ≡ tables → (old new : List (List ℕ))
          → new ≡ old ++ lines_of planned rows choices → AddsLines old new (IsMapLine vocab decls tables map)
      choices_added planned of rows same old new e =
          map_lines line_at choices old new
          (λ choice. (met_by choice, (λ h. (are.exact choice).1 (record { meets = h; within = tt }))))
          (λ choice meets. refl)
          (e ∙ ap (λ (ts : List (List Row)). old ++ lines_of planned ts choices) same ∙ ap (λ (p : Planned). old ++ lines_of p tables choices) of)

      -- they are choices of a plan of the split mapping
      pub are_choices : AllByRecursion (IsChoice decls tables map.query) choices
      are_choices = in_each (IsChoice decls tables map.query) choices (λ choice h. (met_by choice h).is_choice)

  -- there is a list of the lines of all split mappings
  pub some_written : (left all : List SplitMap) (old : List (List ℕ)) → Written left all old → (lines : List (List ℕ)) × Written [] all lines
  some_written [] all old w = (old, w)
  some_written (map ∷ left) all old w =
      let new = old ++ filter_map (line_at map) (met decls tables map.query) in
      some_written left all new
      (written_more left all map old new w (map_lines map (line_at map) (met decls tables map.query) old new (are_met decls tables map.query) (λ choice meets. refl) refl))
