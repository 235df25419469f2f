-- Trees while they grow.
use Rattle.std.specs.Prelude.{◌≡◌, ℕ, ◌+◌, true, List, [], ◌∷◌, ◌++◌, length}
use Rattle.mast_tree.specs.declared.token.TokenKind.{TokenKind}
use Rattle.mast_tree.specs.declared.token.TokenKind.TheVariants.{Open, Equals, Carets, Name, Str}
use Rattle.mast_tree.specs.declared.parser.ParseState.{ParseState}
use Rattle.mast_tree.specs.declared.parser.ParseState.TheVariants.{Item, AfterName, AfterStr, AfterCarets, AfterEquals}
use Rattle.mast_tree.specs.declared.item.Item.{Item as AnItem}
use Rattle.mast_tree.specs.declared.item.Item.TheVariants.{Node}
use Rattle.mast_tree.specs.declared.trees.Frame.{Frame}
use Rattle.mast_tree.specs.declared.trees.Trees.{Trees}
use Rattle.mast_tree.specs.Grammar.{Items, kinds_of}
use Rattle.mast_tree.specs.inside.Parser.{Configuration, stuck, at, item_step, step, ends}
use Rattle.mast_tree.specs.Trees.{items_from, Stand}

-- the items inside open nodes stand for these kinds, the first token of which has the number n
abbrev pub Grown : ℕ → List Frame → List AnItem → List TokenKind → Type 0
Grown n [] items ks = (tree : Items) × (items ≡ items_from n tree) × (ks ≡ kinds_of tree)
Grown n (f ∷ fs) items ks =
    (tree : Items) × (more : List TokenKind) × (f.items ≡ items_from n tree) × (f.token ≡ n + length (kinds_of tree))
    × (ks ≡ kinds_of tree ++ (Name ∷ (Open ∷ more))) × Grown (f.token + 2) fs items more

-- the tokens that were read of an item that is not whole
abbrev pub pending : ParseState → List TokenKind
pending Item = []
pending AfterName = Name ∷ []
pending AfterStr = Str ∷ []
pending AfterCarets = Str ∷ Carets ∷ []
pending AfterEquals = Name ∷ Equals ∷ []

-- where an item is begun, its first token has the number n
abbrev pub BeginsAt : ParseState → ℕ → ℕ → Type 0
BeginsAt Item first n = Unit {0}
BeginsAt _ first n = first ≡ n

-- the trees stand for what was read, but for what is pending, the first token of which is known
pub record GrownAt (state : ParseState) (trees : Trees) (ks : List TokenKind) : Type 0 where
  pub whole : List TokenKind
  pub grown : Grown 0 trees.frames trees.items whole
  pub read : ks ≡ whole ++ pending state
  pub begins : BeginsAt state trees.first (length whole)

-- the trees go on as the parser does
abbrev pub GrowsTo : Configuration → Trees → List TokenKind → Type 0
GrowsTo stuck trees ks = Unit {0}
GrowsTo (at state depth) trees ks = GrownAt state trees ks × (length trees.frames ≡ depth)

-- the open nodes with one more, whose name was begun
abbrev pub opened : Trees → List Frame
opened old = old.frames ++ record { items = old.items; token = old.first } ∷ []

-- the innermost node is closed
pub record Closes (before after : Trees) : Type 0 where
  pub frame : Frame
  pub frames : before.frames ≡ after.frames ++ frame ∷ []
  pub items : after.items ≡ frame.items ++ Node frame.token before.items ∷ []

-- with the first token of an item, or a parenthesis that closes, the trees go on
abbrev pub StartsOn : Trees → Trees → TokenKind → ℕ → Type 0
StartsOn old new kind number =
    (ks : List TokenKind) → length ks ≡ number → Grown 0 old.frames old.items ks → GrowsTo (item_step (length old.frames) kind) new (ks ++ kind ∷ [])

-- with a token in a state the trees go on
abbrev pub ReadsOn : ParseState → Trees → Trees → TokenKind → ℕ → Type 0
ReadsOn state old new kind number =
    (ks : List TokenKind) → length ks ≡ number → GrownAt state old ks → GrowsTo (step state (length old.frames) kind) new (ks ++ kind ∷ [])

-- the items are what the trees stand for, in a state where a document may end
abbrev pub EndsWith : ParseState → Trees → List AnItem → Type 0
EndsWith state trees items = (ks : List TokenKind) → GrownAt state trees ks → ends (at state (length trees.frames)) ≡ true → Stand ks items
