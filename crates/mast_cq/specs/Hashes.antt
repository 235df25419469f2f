-- What a hasher is fed of arguments, atoms and queries, and what their memory has, as the premise that it tells them.
use Rattle.std.specs.Prelude.{◌≡◌, ◌↔◌, ◌<◌, ◌^◌, ⊤}
use Rattle.std.specs.Hash.{HashWrites}
use Rattle.mast_terms.specs.Hashes.{FitsName, FitsList}
use Rattle.mast_cq.specs.declared.atom.Arg.{Arg}
use Rattle.mast_cq.specs.declared.atom.Arg.TheVariants.{Blank, Var, Constant}
use Rattle.mast_cq.specs.declared.atom.Atom.{Atom}
use Rattle.mast_cq.specs.declared.atom.Atom.TheVariants.{Class, Role, Attr}
use Rattle.mast_cq.specs.declared.query.Cq.{Cq}
use Rattle.mast_cq.specs.declared.query.CqRef.{CqRef}
use Rattle.mast_cq.specs.Queries.{viewed}

-- the number of a variable or constant is below 2^32
abbrev pub FitsArg : Arg → Type 0
FitsArg Blank = ⊤
FitsArg (Var n) = n < 2 ^ 32
FitsArg (Constant c) = c < 2 ^ 32

-- the numbers of the name and of the arguments are
abbrev pub FitsAtom : Atom → Type 0
FitsAtom (Class a x) = FitsName a × FitsArg x
FitsAtom (Role a x y) = FitsName a × FitsArg x × FitsArg y
FitsAtom (Attr a x y) = FitsName a × FitsArg x × FitsArg y

-- the numbers of the query's arguments and atoms are, and there are fewer than 2^64 of each
abbrev pub FitsQuery : Cq → Type 0
FitsQuery q = FitsList FitsArg q.answer × FitsList FitsAtom q.atoms

-- the same is fed of two views exactly where their contents are equal
abbrev pub TellsViews : (CqRef → HashWrites) → Type 0
TellsViews input = (q r : CqRef) → FitsQuery (viewed q) → FitsQuery (viewed r) → (input q ≡ input r) ↔ (viewed q ≡ viewed r)

-- of a view is fed what is fed of its contents
abbrev pub FeedsContents : (Cq → HashWrites) → (CqRef → HashWrites) → Type 0
FeedsContents contents input = (q : CqRef) → input q ≡ contents (viewed q)
