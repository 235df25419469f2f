-- The parts of an answer are its text.
use Rattle.std.proofs.Common.{◌≡◌, ◌≤◌, ◌++◌, ◌∙◌, List, ℕ, [], ◌∷◌, map, drop, length, ap, sym, subst}
use Rattle.std.proofs.lemmas.List.{append_assoc}
use Rattle.mast_terms.specs.declared.term.Term.{Term}
use Rattle.mast_write.specs.AnswerLines.{IsAnswerText, IsTupleLine, header_line, summary, tabbed, tuple_line}
use Rattle.mast_write.specs.LineText.{IsCountedText, StandsIn}
use Rattle.mast_write.proofs.WrittenLemmas.{lines_whole}

-- the summary, the names, a line feed and a text, one behind the other
parts_are : (file : List ℕ) (names : List (List ℕ)) (count : ℕ) (front named ended rest body text : List ℕ) → front ≡ summary file count → named ≡ front ++ tabbed names
    → ended ≡ named ++ 10 ∷ [] → rest ≡ body → text ≡ ended ++ rest → text ≡ summary file count ++ (header_line names ++ body)
parts_are file names count front named ended rest body text f n g r e =
    let head = summary file count in
    let named_is : named ≡ summary file count ++ tabbed names = n ∙ ap (λ (l : List ℕ). l ++ tabbed names) f in
    let ended_is : ended ≡ (summary file count ++ tabbed names) ++ 10 ∷ [] = g ∙ ap (λ (l : List ℕ). l ++ 10 ∷ []) named_is in
    e
    ∙ ap (λ (l : List ℕ). l ++ rest) ended_is
    ∙ ap (λ (l : List ℕ). ((summary file count ++ tabbed names) ++ 10 ∷ []) ++ l) r
    ∙ append_assoc (summary file count ++ tabbed names) (10 ∷ []) body
    ∙ append_assoc head (tabbed names) ((10 ∷ []) ++ body)
    ∙ ap (λ (l : List ℕ). summary file count ++ l) (sym (append_assoc (tabbed names) (10 ∷ []) body))

-- the summary, the header, and the text of the lines of all rows
pub answer_is : (file : List ℕ) (names : List (List ℕ)) (rows : List (List Term)) (lines : List (List ℕ)) (i : ℕ) (front named ended rest body text : List ℕ) (count : ℕ)
    → length rows ≤ i → lines ++ map tuple_line (drop i rows) ≡ map tuple_line rows → IsCountedText (StandsIn lines) body count
    → front ≡ summary file count → named ≡ front ++ tabbed names → ended ≡ named ++ 10 ∷ [] → rest ≡ body → text ≡ ended ++ rest → IsAnswerText file names rows text
answer_is file names rows lines i front named ended rest body text count past so h f n g r e =
    let whole = lines_whole tuple_line rows lines i past so in
    let all : IsCountedText (IsTupleLine rows) body count = subst (λ (ls : List (List ℕ)). IsCountedText (StandsIn ls) body count) whole h in
    record {
      body = body;
      set = all.set;
      is = parts_are file names count front named ended rest body text f n g r e ∙ ap (λ (m : ℕ). summary file m ++ (header_line names ++ body)) all.members;
    }
