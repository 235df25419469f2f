-- A whole document.
use Rattle.std.proofs.Common.{◌≡◌, inl, inr, List, [], ◌++◌, Some}
use Rattle.mast_terms.specs.Vocabularies.{Lists}
use Rattle.mast_tree.specs.declared.item.Item.{Item}
use Rattle.mast_tree.specs.declared.shape.ShapeBreach.{ShapeBreach}
use Rattle.mast_tree.specs.Growing.{Begins}
use Rattle.mast_tree.specs.Judged.{after_judged}
use Rattle.mast_tree.specs.Judgements.{first_breach, AreRight}
use Rattle.mast_tree.specs.MainNode.{Prefixes, HasParts, IsFrontBreach}
use Rattle.mast_tree.specs.Seen.{Document}
use Rattle.mast_tree.proofs.GrowingLemmas.{right_begins}
use Rattle.mast_tree.proofs.JudgementLemmas.{right_parts, breach_first, breach_second}
use Rattle.mast_mapping.specs.declared.map.Mappings.{Mappings}
use Rattle.mast_mapping.specs.declared.reader.Contents.{Contents}
use Rattle.mast_mapping.specs.Documents.{inside_judged, main_word, SaysMappings, BreaksFirst}
use Rattle.mast_mapping.specs.InRange.{AreInRange}
use Rattle.mast_mapping.specs.OverTables.{AreOverTables}
use Rattle.mast_mapping.specs.Readings.{Texts}
use Rattle.mast_mapping.specs.inside.Progress.{rest_judged, IsInside}
use Rattle.mast_tree.specs.Pages.{page_of}
use Rattle.mast_mapping.proofs.KeptConstantsLemmas.{constants_kept}
use Rattle.mast_mapping.proofs.OverLemmas.{said_over_tables, said_in_range}

-- the mappings of what was read
abbrev pub mappings_of : Contents → Mappings
mappings_of now = record { vocab = now.vocab; tables = now.tables; maps = now.maps }

module _ (texts : Texts) (doc : Document) (old : Lists) where
  module _ (prefixes : Prefixes) (inside rest : List Item) (parts : HasParts doc main_word prefixes inside rest) where
    -- nothing is wrong with the inside and what follows
    pub whole_says : (now : Contents) → IsInside texts (page_of doc prefixes) old inside now → AreRight now.vocab (after_judged doc rest) now.vocab → SaysMappings texts doc old (mappings_of now)
    whole_says now is right = record {
      prefixes = prefixes;
      inside = inside;
      after = rest;
      parts = parts;
      right = right_parts old now.vocab now.vocab (inside_judged texts doc prefixes inside) (after_judged doc rest) is.right right;
      gives = is.says;
    }

    -- the inside is wrong
    pub inside_breaks : (b : ShapeBreach) → first_breach old (rest_judged texts (page_of doc prefixes) [] inside) ≡ Some b → BreaksFirst texts doc old b
    inside_breaks b e = inr (record {
      prefixes = prefixes;
      inside = inside;
      after = rest;
      parts = parts;
      first = breach_first old (inside_judged texts doc prefixes inside) (after_judged doc rest) b e;
    })

    -- what follows is wrong
    pub after_breaks : (now : Contents) (b : ShapeBreach) → IsInside texts (page_of doc prefixes) old inside now → first_breach now.vocab (after_judged doc rest) ≡ Some b → BreaksFirst texts doc old b
    after_breaks now b is e = inr (record {
      prefixes = prefixes;
      inside = inside;
      after = rest;
      parts = parts;
      first = breach_second old now.vocab (inside_judged texts doc prefixes inside) (after_judged doc rest) b is.right e;
    })

  -- the prologue is wrong
  pub front_breaks : (b : ShapeBreach) → IsFrontBreach doc main_word b → BreaksFirst texts doc old b
  front_breaks b is = inl is

  module _ (m : Mappings) (says : SaysMappings texts doc old m) where
    -- the vocabulary begins with that which was handed in
    pub says_begins : Begins m.vocab old
    says_begins = right_begins old m.vocab (inside_judged texts doc says.prefixes says.inside ++ after_judged doc says.after) says.right

    -- its constants are the same
    pub says_constants : m.vocab.constants ≡ old.constants
    says_constants = constants_kept texts doc says.prefixes old m.vocab says.inside says.after says.right

    -- the maps are over the tables
    pub says_over : AreOverTables m.tables m.maps
    says_over = said_over_tables m.vocab texts doc says.prefixes says.inside m.tables m.maps says.gives

    -- and their names in range
    pub says_names : AreInRange m.vocab m.maps
    says_names = said_in_range m.vocab texts doc says.prefixes says.inside m.tables m.maps says.gives
