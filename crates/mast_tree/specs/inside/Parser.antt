-- The parser: it reads token kinds one by one.
use Rattle.std.specs.Prelude.{ℕ, zero, suc, ◌+◌, ◌≤◌, ◌==◌, Bool, true, false, if◌then◌else◌, List, [], ◌∷◌, Option, Some, None}
use Rattle.mast_tree.specs.Grammar.{Found, fine, unexpected, deep}
use Rattle.mast_tree.specs.declared.item.TheConstants.{MOST_OPEN}
use Rattle.mast_tree.specs.declared.token.TokenKind.{TokenKind}
use Rattle.mast_tree.specs.declared.token.TokenKind.TheVariants.{Open, Close, Equals, Carets, Lang, Iri, Name, Str}
use Rattle.mast_tree.specs.declared.parser.ParseState.{ParseState}
use Rattle.mast_tree.specs.declared.parser.Move.{Move}
use Rattle.mast_tree.specs.declared.parser.Move.TheVariants.{Deeper, Stuck, To}
use Rattle.mast_tree.specs.declared.parser.ParseState.TheVariants.{Item, AfterName, AfterStr, AfterCarets, AfterEquals}

-- a state and how many parentheses are open, or no way on
pub data Configuration : Type 0 where
  stuck : Configuration
  at : ParseState → ℕ → Configuration

-- the first token of an item, or a closing parenthesis
abbrev pub item_step : ℕ → TokenKind → Configuration
item_step d Name = at AfterName d
item_step d Iri = at Item d
item_step d Str = at AfterStr d
item_step zero Close = stuck
item_step (suc d) Close = at Item d
item_step d Open = stuck
item_step d Equals = stuck
item_step d Carets = stuck
item_step d Lang = stuck

-- one token further
abbrev pub step : ParseState → ℕ → TokenKind → Configuration
step Item d k = item_step d k
step AfterName d Equals = at AfterEquals d
step AfterName d Open = at Item (suc d)
step AfterName d k = item_step d k
step AfterStr d Carets = at AfterCarets d
step AfterStr d Lang = at Item d
step AfterStr d k = item_step d k
step AfterCarets d Name = at Item d
step AfterCarets d Iri = at Item d
step AfterCarets d k = stuck
step AfterEquals d Iri = at Item d
step AfterEquals d k = stuck

-- all tokens further
abbrev pub run : Configuration → List TokenKind → Configuration
run s [] = s
run stuck (k ∷ ks) = stuck
run (at p d) (k ∷ ks) = run (step p d k) ks

-- where a document may end
abbrev pub ends : Configuration → Bool
ends (at Item zero) = true
ends (at AfterName zero) = true
ends (at AfterStr zero) = true
ends _ = false

-- one parenthesis too many
abbrev pub is_deep : ℕ → TokenKind → Bool
is_deep d Open = d == MOST_OPEN
is_deep d k = false

-- where the breach is if one token more stands before
abbrev pub one_on : Found → Found
one_on fine = fine
one_on (unexpected i) = unexpected (suc i)
one_on (deep i) = deep (suc i)

-- where it is if n more stand before
abbrev pub later : ℕ → Found → Found
later n fine = fine
later n (unexpected i) = unexpected (n + i)
later n (deep i) = deep (n + i)

-- what is told where there is no way on, and where there is
abbrev pub if_goes : Configuration → Found → (ParseState → ℕ → Found) → Found
if_goes stuck halt on = halt
if_goes (at p d) halt on = on p d

-- what a parser in a state tells of the tokens that are left
abbrev pub look : ParseState → ℕ → List TokenKind → Found
look p d [] = if ends (at p d) then fine else unexpected 0
look p d (k ∷ ks) = if is_deep d k then deep 0 else if_goes (step p d k) (unexpected 0) (λ q e. one_on (look q e ks))

-- where the code stands
abbrev pub state_of : Option (ParseState × ℕ) → Configuration
state_of None = stuck
state_of (Some p) = at p.0 p.1

-- where the code goes
abbrev pub of_state : Configuration → Move
of_state stuck = Stuck
of_state (at p d) = To p d

-- the move that a token makes
abbrev pub move_of : ParseState → ℕ → TokenKind → Move
move_of p d k = if is_deep d k then Deeper else of_state (step p d k)

-- what is told behind a move, where n tokens were read
abbrev pub on_move : Move → ℕ → List TokenKind → Found
on_move Deeper n ks = deep n
on_move Stuck n ks = unexpected n
on_move (To q e) n ks = later (n + 1) (look q e ks)

-- so many parentheses are open at most
abbrev pub MoveWithin : ℕ → Move → Type 0
MoveWithin most Deeper = Unit {0}
MoveWithin most Stuck = Unit {0}
MoveWithin most (To q e) = e ≤ most
