-- The lines of facts are those of choices, and have a text.
use Rattle.std.proofs.Common.{◌≡◌, ℕ, List, [], Option, Some, None, sym, ap, ◌∙◌, refl}
use Rattle.std.proofs.lemmas.Option.{same_Some}
use Rattle.std.specs.Prelude.{option_map}
use Rattle.mast_canon.proofs.SupportLemmas.{supported}
use Rattle.mast_canon.specs.Choices.{chosen}
use Rattle.mast_canon.specs.Facts.{fact_of, chosen_rows}
use Rattle.mast_cq.specs.Meanings.{Fact}
use Rattle.mast_mapping.specs.Split.{split_maps}
use Rattle.mast_terms.specs.declared.term.Term.{Term}
use Rattle.mast_terms.specs.Vocabularies.{Lists}
use Rattle.mast_write.specs.FactLines.{fact_line, printed}
use Rattle.mast_write.specs.LineText.{IsTextOf}
use Rattle.mast_write.proofs.SetLemmas.{some_text}
use Rattle.mast_write.proofs.TextLemmas.{text_of_same}
use Rattle.mast_cli.specs.command.Facts.{Read, IsLineOfFact}
use Rattle.mast_cli.specs.inside.FactLines.{IsLineOf}
use Rattle.mast_cli.proofs.MapLemmas.{some_written, written_none, written_text}

-- a fact that is printed as this line
record IsPrinted (vocab : Lists) (o : Option (Fact Term)) (line : List ℕ) : Type 0 where
  fact : Fact Term
  there : o ≡ Some fact
  is : line ≡ fact_line vocab (printed fact)

printed_as : (vocab : Lists) (o : Option (Fact Term)) (line : List ℕ) → option_map (λ fact. fact_line vocab (printed fact)) o ≡ Some line → IsPrinted vocab o line
printed_as vocab None line h = absurd (cc)
printed_as vocab (Some fact) line h = record { fact = fact; there = refl; is = sym (same_Some (fact_line vocab (printed fact)) line h) }

-- the line of a choice is the line of a fact
fact_line_of : (read : Read) (line : List ℕ) → IsLineOf read.0.vocab read.0.tables read.1 (split_maps read.0.maps) line → IsLineOfFact read line
fact_line_of read line h =
    let rows = chosen read.0.tables read.1 h.map.query.from h.of.choice in
    let found = printed_as read.0.vocab (fact_of read.0.tables h.map.query rows h.map.head) line h.of.is in
    record {
      fact = found.fact;
      given = supported read.0.tables read.1 (split_maps read.0.maps) found.fact (chosen_rows read.0.tables h.map.query.from h.of.choice) (record {
        map = h.map;
        stands = h.stands;
        choice = h.of.choice;
        gives = record { meets = h.of.meets; gives = found.there };
        are = λ row. ((λ g. g), (λ g. g));
      });
      is = found.is;
    }

-- and the other way
line_of_fact : (read : Read) (line : List ℕ) → IsLineOfFact read line → IsLineOf read.0.vocab read.0.tables read.1 (split_maps read.0.maps) line
line_of_fact read line h =
    let s = h.given.support in
    record {
      map = s.map;
      stands = s.stands;
      of = record {
        choice = s.choice;
        meets = s.gives.meets;
        is = ap (option_map (λ fact. fact_line read.0.vocab (printed fact))) s.gives.gives ∙ ap (λ l. Some l) (sym h.is);
      };
    }

-- the text of the lines of choices is that of the facts
pub text_of_facts : (read : Read) (text : List ℕ) → IsTextOf (IsLineOf read.0.vocab read.0.tables read.1 (split_maps read.0.maps)) text → IsTextOf (IsLineOfFact read) text
text_of_facts read text h =
    text_of_same (IsLineOf read.0.vocab read.0.tables read.1 (split_maps read.0.maps)) (IsLineOfFact read) text
    (record { to = fact_line_of read; from = line_of_fact read }) h

-- the facts of mappings over tables have a text
pub some_facts_text : (read : Read) → (text : List ℕ) × IsTextOf (IsLineOfFact read) text
some_facts_text read =
    let maps = split_maps read.0.maps in
    let written = some_written read.0.vocab read.0.tables read.1 maps maps [] (written_none read.0.vocab read.0.tables read.1 maps) in
    let text = some_text written.0 in
    (text.0, text_of_facts read text.0 (written_text read.0.vocab read.0.tables read.1 [] maps written.0 text.0 refl written.1 text.1))
