-- The text of an answer: its summary, the names of its columns, and its rows.
use Rattle.std.specs.Prelude.{◌≡◌, ℕ, List, [], ◌∷◌, ◌++◌, length, map, codes, Contains}
use Rattle.std.specs.Fmt.{decimal}
use Rattle.mast_terms.specs.declared.term.Term.{Term}
use Rattle.mast_terms.specs.Printed.{quoted, term_text}
use Rattle.mast_write.specs.LineText.{IsTextOf}

-- the summary: `query NAME rows N`, the file's name printed as a text, and the line feed
abbrev pub summary : List ℕ → ℕ → List ℕ
summary file count = codes "query " ++ (quoted file ++ (codes " rows " ++ (decimal count ++ codes "\n")))

-- pieces, each after a tab
abbrev pub after_tabs : List (List ℕ) → List ℕ
after_tabs [] = []
after_tabs (piece ∷ pieces) = codes "\t" ++ (piece ++ after_tabs pieces)

-- pieces with tabs between them
abbrev pub tabbed : List (List ℕ) → List ℕ
tabbed [] = []
tabbed (piece ∷ pieces) = piece ++ after_tabs pieces

-- the names of the columns, separated by tabs, and the line feed
abbrev pub header_line : List (List ℕ) → List ℕ
header_line names = tabbed names ++ codes "\n"

-- the line of a row: its terms, separated by tabs
abbrev pub tuple_line : List Term → List ℕ
tuple_line terms = tabbed (map term_text terms)

-- the line of one of these rows
abbrev pub IsTupleLine : List (List Term) → List ℕ → Type 0
IsTupleLine rows line = Contains (map tuple_line rows) line

-- the text of an answer: the summary with the number of the different lines, the header, and these lines, sorted
pub record IsAnswerText (file : List ℕ) (names : List (List ℕ)) (rows : List (List Term)) (text : List ℕ) : Type 0 where
  pub body : List ℕ
  pub set : IsTextOf (IsTupleLine rows) body
  pub is : text ≡ summary file (length set.lines) ++ (header_line names ++ body)
