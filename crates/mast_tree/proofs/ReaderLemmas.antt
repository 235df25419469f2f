-- The reader's loop: what is left tells what the whole tells, and the trees stand for what was read.
use Rattle.std.proofs.Common.{◌≡◌, inl, inr, ℕ, suc, ◌+◌, ◌<◌, ◌≤◌, Bool, true, false, List, ◌∷◌, [], ◌++◌, length, take, drop, refl, ap, sym, ◌∙◌, subst, arith}
use Rattle.std.specs.Prelude.{if◌then◌else◌}
use Rattle.std.proofs.lemmas.Bool.{cases_Bool}
use Rattle.std.proofs.lemmas.List.{length-take-le}
use Rattle.std.proofs.Math.ListN.{get_or, drop_of_length-le}
use Rattle.std.proofs.Math.Seq.{drop-cons, take-suc}
use Rattle.mast_source.proofs.ListLemmas.{take_all}
use Rattle.mast_tree.specs.declared.token.Token.{Token}
use Rattle.mast_tree.specs.declared.token.TokenKind.{TokenKind}
use Rattle.mast_tree.specs.declared.parser.ParseState.{ParseState}
use Rattle.mast_tree.specs.declared.parser.ParseState.TheVariants.{Item}
use Rattle.mast_tree.specs.declared.parser.Move.{Move}
use Rattle.mast_tree.specs.declared.parser.Move.TheVariants.{Deeper, Stuck, To}
use Rattle.mast_tree.specs.declared.item.Item.{Item as AnItem}
use Rattle.mast_tree.specs.declared.trees.Trees.{Trees}
use Rattle.mast_tree.specs.Grammar.{done, Found, fine, unexpected, deep, Tells}
use Rattle.mast_tree.specs.inside.Parser.{Configuration, stuck, at, step, ends, is_deep, look, later, of_state, move_of, on_move, MoveWithin}
use Rattle.mast_tree.specs.Trees.{kinds, Stand, IsTree}
use Rattle.mast_tree.specs.inside.Growth.{Grown, GrownAt, GrowsTo}
use Rattle.mast_tree.proofs.LookLemmas.{look_exact, look_move, later_none}

pub kinds_length : (tokens : List Token) → length (kinds tokens) ≡ length tokens
kinds_length [] = refl
kinds_length (t ∷ ts) = ap suc (kinds_length ts)

pub kinds_append : (a b : List Token) → kinds (a ++ b) ≡ kinds a ++ kinds b
kinds_append [] b = refl
kinds_append (t ∷ a) b = ap (λ x. t.kind ∷ x) (kinds_append a b)

-- the kind that comes, and those that were read with it

kinds_next : (tokens : List Token) (i : ℕ) (d : Token) → i < length tokens → kinds (drop i tokens) ≡ (get_or tokens i d).kind ∷ kinds (drop (i + 1) tokens)
kinds_next tokens i d l = let e : suc i ≡ i + 1 = omega arith in ap kinds (drop-cons tokens i d l) ∙ ap (λ n. (get_or tokens i d).kind ∷ kinds (drop n tokens)) e

kinds_read : (tokens : List Token) (i : ℕ) (d : Token) → i < length tokens → kinds (take (i + 1) tokens) ≡ kinds (take i tokens) ++ (get_or tokens i d).kind ∷ []
kinds_read tokens i d l = let e : i + 1 ≡ suc i = omega arith in ap (λ n. kinds (take n tokens)) e ∙ ap kinds (take-suc tokens i d l) ∙ kinds_append (take i tokens) (get_or tokens i d ∷ [])

-- what is left tells what the whole tells
abbrev pub Left : List Token → ℕ → ℕ → ParseState → ℕ → Type 0
Left tokens i n p d = later n (look p d (kinds (drop i tokens))) ≡ look Item 0 (kinds tokens)

-- a token moves to what the whole tells
pub told : (tokens : List Token) (i n : ℕ) (p : ParseState) (d : ℕ) (z : Token) (m : Move) → Left tokens i n p d → i < length tokens → m ≡ move_of p d (get_or tokens i z).kind → on_move m n (kinds (drop (i + 1) tokens)) ≡ look Item 0 (kinds tokens)
told tokens i n p d z m left l e =
    let k = (get_or tokens i z).kind in
    let rest = kinds (drop (i + 1) tokens) in
    ap (λ x. on_move x n rest) e ∙ sym (look_move p d n k rest) ∙ ap (λ x. later n (look p d x)) (sym (kinds_next tokens i z l)) ∙ left

-- what the whole tells is right
exact : (ks : List TokenKind) (f : Found) → f ≡ look Item 0 ks → Tells ks f
exact ks f e = subst (λ x. Tells ks x) (sym e) (look_exact ks)

-- one parenthesis too many is what the whole tells
pub deeper_told : (tokens : List Token) (i n : ℕ) (p : ParseState) (d : ℕ) (z : Token) (m : Move) → Left tokens i n p d → i < length tokens → m ≡ move_of p d (get_or tokens i z).kind → m ≡ Deeper → Tells (kinds tokens) (deep n)
deeper_told tokens i n p d z m left l e is = exact (kinds tokens) (deep n) (ap (λ x. on_move x n (kinds (drop (i + 1) tokens))) (sym is) ∙ told tokens i n p d z m left l e)

-- no way on is what the whole tells
pub stuck_told : (tokens : List Token) (i n : ℕ) (p : ParseState) (d : ℕ) (z : Token) (m : Move) → Left tokens i n p d → i < length tokens → m ≡ move_of p d (get_or tokens i z).kind → m ≡ Stuck → Tells (kinds tokens) (unexpected n)
stuck_told tokens i n p d z m left l e is = exact (kinds tokens) (unexpected n) (ap (λ x. on_move x n (kinds (drop (i + 1) tokens))) (sym is) ∙ told tokens i n p d z m left l e)

step_of : (p : ParseState) (d : ℕ) (k : TokenKind) (q : ParseState) (e : ℕ) → move_of p d k ≡ To q e → step p d k ≡ at q e
step_of p d k q e h = elim (cases_Bool (is_deep d k)) [
  | inl deeper ↦ absurd (let g : ◌≡◌ {A = Move} Deeper (To q e) = rw deeper at h in cc)
  | inr not ↦ go (step p d k) (let g : of_state (step p d k) ≡ To q e = rw not at h in g)
]
  where
    go : (s : Configuration) → of_state s ≡ To q e → s ≡ at q e
    go stuck h = absurd (cc)
    go (at r f) h = cc

-- the loop's invariant, and its step

-- the loop: what is left, and the trees of what was read
pub record Reading (tokens : List Token) (trees : Trees) (p : ParseState) (d n i : ℕ) : Type 0 where
  pub left : Left tokens i n p d
  pub within : d ≤ 64
  pub index : n ≡ i
  pub grown : GrownAt p trees (kinds (take i tokens))
  pub open_ones : length trees.frames ≡ d

-- it holds at the start
pub begun : (tokens : List Token) (trees : Trees) → trees.frames ≡ [] → trees.items ≡ [] → Reading tokens trees Item 0 0 0
begun tokens trees f i = record {
  left = later_none (look Item 0 (kinds tokens));
  within = omega arith;
  index = refl;
  grown = record { whole = []; grown = subst (λ x. Grown 0 x trees.items []) (sym f) (empty trees.items i); read = refl; begins = tt };
  open_ones = ap length f;
}
  where
    empty : (items : List AnItem) → items ≡ [] → Grown 0 [] items []
    empty items e = (done, e, refl)

-- from trees that are the same, the same is grown
pub grows_same : (p : ParseState) (k : TokenKind) (old same new : Trees) (n : ℕ) → same ≡ old → ((ks : List TokenKind) → length ks ≡ n → GrownAt p same ks → GrowsTo (step p (length same.frames) k) new (ks ++ k ∷ [])) → (ks : List TokenKind) → length ks ≡ n → GrownAt p old ks → GrowsTo (step p (length old.frames) k) new (ks ++ k ∷ [])
grows_same p k old same new n e grows = subst (λ (trees : Trees). (ks : List TokenKind) → length ks ≡ n → GrownAt p trees ks → GrowsTo (step p (length trees.frames) k) new (ks ++ k ∷ [])) e grows

-- it holds behind a token
pub read_on : (tokens : List Token) (old new : Trees) (p q : ParseState) (d e n i : ℕ) (z : Token) (m : Move) → Reading tokens old p d n i → i < length tokens → m ≡ move_of p d (get_or tokens i z).kind → m ≡ To q e → MoveWithin 64 m → ((ks : List TokenKind) → length ks ≡ n → GrownAt p old ks → GrowsTo (step p (length old.frames) (get_or tokens i z).kind) new (ks ++ (get_or tokens i z).kind ∷ [])) → Reading tokens new q e (n + 1) (i + 1)
read_on tokens old new p q d e n i z m r l move is within grows =
    let k = (get_or tokens i z).kind in
    let ks = kinds (take i tokens) in
    let known : length ks ≡ n = kinds_length (take i tokens) ∙ length-take-le i tokens (omega arith) ∙ sym r.index in
    let goes : step p (length old.frames) k ≡ at q e = ap (λ x. step p x k) r.open_ones ∙ step_of p d k q e (sym move ∙ is) in
    let g : GrowsTo (at q e) new (ks ++ k ∷ []) = subst (λ x. GrowsTo x new (ks ++ k ∷ [])) goes (grows ks known r.grown) in
    record {
      left = ap (λ x. on_move x n (kinds (drop (i + 1) tokens))) (sym is) ∙ told tokens i n p d z m r.left l move;
      within = subst (λ x. MoveWithin 64 x) is within;
      index = ap (λ x. x + 1) r.index;
      grown = subst (λ x. GrownAt q new x) (sym (kinds_read tokens i z l)) g.0;
      open_ones = g.1;
    }

-- the end

left_end : (tokens : List Token) (i n : ℕ) (p : ParseState) (d : ℕ) → Left tokens i n p d → length tokens ≤ i → later n (look p d []) ≡ look Item 0 (kinds tokens)
left_end tokens i n p d left h = ap (λ x. later n (look p d (kinds x))) (sym (drop_of_length-le tokens h)) ∙ left

-- the trees at the end are those of the whole
pub whole_read : (tokens : List Token) (trees : Trees) (items : List AnItem) (p : ParseState) (d n i : ℕ) → Reading tokens trees p d n i → length tokens ≤ i → ends (at p d) ≡ true → ((ks : List TokenKind) → GrownAt p trees ks → ends (at p (length trees.frames)) ≡ true → Stand ks items) → IsTree tokens items
whole_read tokens trees items p d n i r h end stand =
    let told : Tells (kinds tokens) fine = exact (kinds tokens) fine (at_end (ends (at p d)) end ∙ left_end tokens i n p d r.left h) in
    (stand (kinds tokens) (subst (λ x. GrownAt p trees (kinds x)) (take_all tokens i h) r.grown) (ap (λ x. ends (at p x)) r.open_ones ∙ end), told.1)
  where
    at_end : (b : Bool) → b ≡ true → fine ≡ later n (if b then fine else unexpected 0)
    at_end true e = refl
    at_end false e = absurd (cc)

-- an end where none may be is what the whole tells
pub end_told : (tokens : List Token) (trees : Trees) (p : ParseState) (d n i : ℕ) → Reading tokens trees p d n i → length tokens ≤ i → ends (at p d) ≡ false → Tells (kinds tokens) (unexpected n)
end_told tokens trees p d n i r h end = exact (kinds tokens) (unexpected n) (at_end (ends (at p d)) end ∙ left_end tokens i n p d r.left h)
  where
    at_end : (b : Bool) → b ≡ false → unexpected n ≡ later n (if b then fine else unexpected 0)
    at_end true e = absurd (cc)
    at_end false e = ap unexpected (omega arith)
