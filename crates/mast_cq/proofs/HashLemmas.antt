-- What a hasher is fed tells arguments, atoms and queries.
use Rattle.std.proofs.Common.{◌≡◌, ℕ, pos, ◌<◌, ◌^◌, List, [], ◌++◌, refl, ap, sym, ◌∙◌, arith}
use Rattle.std.specs.Hash as fed
use Rattle.std.specs.Hash.{HashWrites}
use Rattle.mast_terms.specs.Hashes.{fed_bytes, TellsApart, FitsName}
use Rattle.mast_terms.specs.declared.name.Name.{Name}
use Rattle.mast_terms.specs.contracts.name.NameHash.TheImpl as name_hash
use Rattle.mast_terms.proofs.HashLemmas.{told_first, told_then, told_tag, u32_tells, list_tells}
use Rattle.mast_terms.proofs.KeyLemmas.{name_tells}
use Rattle.mast_cq.specs.declared.atom.Arg.{Arg}
use Rattle.mast_cq.specs.declared.atom.Arg.TheVariants.{Blank, Var, Constant}
use Rattle.mast_cq.specs.declared.atom.Atom.TheVariants.{Class, Role, Attr}
use Rattle.mast_cq.specs.declared.query.CqRef.{CqRef}
use Rattle.mast_cq.specs.Hashes.{FitsArg, FitsAtom, FitsQuery, TellsViews, FeedsContents}
use Rattle.mast_cq.specs.Queries.{viewed}
use Rattle.mast_cq.specs.contracts.atom.ArgHash.TheImpl as arg_hash
use Rattle.mast_cq.specs.contracts.atom.AtomHash.TheImpl as atom_hash
use Rattle.mast_cq.specs.contracts.query.CqHash.TheImpl as query_hash

-- numbers of variants that differ are fed differently
other_tag : (m n : ℕ) → m < 2 ^ 64 → n < 2 ^ 64 → (m ≡ n → ⊥) → (us vs : HashWrites) (more others : List ℕ)
    → fed_bytes (fed.isize (pos m) ++ us) ++ more ≡ fed_bytes (fed.isize (pos n) ++ vs) ++ others → ⊥
other_tag m n p q apart us vs more others e = apart (told_tag m n p q us vs more others e).0

-- arguments
pub arg_tells : TellsApart FitsArg arg_hash.ghosts.hash_input
arg_tells Blank Blank p q more others e = let r = told_tag 0 0 (omega arith) (omega arith) [] [] more others e in (refl, r.1)
arg_tells Blank (Var n) p q more others e = absurd (other_tag 0 1 (omega arith) (omega arith) (λ k. omega (arith, k)) [] (fed.u32 n) more others e)
arg_tells Blank (Constant d) p q more others e = absurd (other_tag 0 2 (omega arith) (omega arith) (λ k. omega (arith, k)) [] (fed.u32 d) more others e)
arg_tells (Var m) Blank p q more others e = absurd (other_tag 1 0 (omega arith) (omega arith) (λ k. omega (arith, k)) (fed.u32 m) [] more others e)
arg_tells (Var m) (Var n) p q more others e =
    let r = told_tag 1 1 (omega arith) (omega arith) (fed.u32 m) (fed.u32 n) more others e in
    let s = u32_tells m n p q more others r.1 in
    (ap Var s.0, s.1)
arg_tells (Var m) (Constant d) p q more others e = absurd (other_tag 1 2 (omega arith) (omega arith) (λ k. omega (arith, k)) (fed.u32 m) (fed.u32 d) more others e)
arg_tells (Constant c) Blank p q more others e = absurd (other_tag 2 0 (omega arith) (omega arith) (λ k. omega (arith, k)) (fed.u32 c) [] more others e)
arg_tells (Constant c) (Var n) p q more others e = absurd (other_tag 2 1 (omega arith) (omega arith) (λ k. omega (arith, k)) (fed.u32 c) (fed.u32 n) more others e)
arg_tells (Constant c) (Constant d) p q more others e =
    let r = told_tag 2 2 (omega arith) (omega arith) (fed.u32 c) (fed.u32 d) more others e in
    let s = u32_tells c d p q more others r.1 in
    (ap Constant s.0, s.1)

-- a name and one argument, and a name and two
one_fed : Name → Arg → HashWrites
one_fed a x = name_hash.ghosts.hash_input a ++ arg_hash.ghosts.hash_input x

two_fed : Name → Arg → Arg → HashWrites
two_fed a x y = name_hash.ghosts.hash_input a ++ (arg_hash.ghosts.hash_input x ++ arg_hash.ghosts.hash_input y)

two_told : (a b : Name) (x y z w : Arg) → FitsName a × FitsArg x × FitsArg y → FitsName b × FitsArg z × FitsArg w → (more others : List ℕ) → fed_bytes (two_fed a x y) ++ more ≡ fed_bytes (two_fed b z w) ++ others
    → (a ≡ b) × (x ≡ z) × (y ≡ w) × (more ≡ others)
unfolding two_fed
two_told a b x y z w p q more others e =
    let r = told_first name_hash.ghosts.hash_input a b (name_tells a b p.0 q.0) (arg_hash.ghosts.hash_input x ++ arg_hash.ghosts.hash_input y) (arg_hash.ghosts.hash_input z ++ arg_hash.ghosts.hash_input w) more others e in
    let s = told_then arg_hash.ghosts.hash_input arg_hash.ghosts.hash_input x z y w (arg_tells x z p.1 q.1) (arg_tells y w p.2 q.2) more others r.1 in
    (r.0, s.0, s.1, s.2)

-- atoms
pub atom_tells : TellsApart FitsAtom atom_hash.ghosts.hash_input
unfolding one_fed two_fed
atom_tells (Class a x) (Class b z) p q more others e =
    let r = told_tag 0 0 (omega arith) (omega arith) (one_fed a x) (one_fed b z) more others e in
    let s = told_then name_hash.ghosts.hash_input arg_hash.ghosts.hash_input a b x z (name_tells a b p.0 q.0) (arg_tells x z p.1 q.1) more others r.1 in
    (λ i. Class (s.0 i) (s.1 i), s.2)
atom_tells (Class a x) (Role b z w) p q more others e = absurd (other_tag 0 1 (omega arith) (omega arith) (λ k. omega (arith, k)) (one_fed a x) (two_fed b z w) more others e)
atom_tells (Class a x) (Attr b z w) p q more others e = absurd (other_tag 0 2 (omega arith) (omega arith) (λ k. omega (arith, k)) (one_fed a x) (two_fed b z w) more others e)
atom_tells (Role a x y) (Class b z) p q more others e = absurd (other_tag 1 0 (omega arith) (omega arith) (λ k. omega (arith, k)) (two_fed a x y) (one_fed b z) more others e)
atom_tells (Role a x y) (Role b z w) p q more others e =
    let r = told_tag 1 1 (omega arith) (omega arith) (two_fed a x y) (two_fed b z w) more others e in
    let s = two_told a b x y z w p q more others r.1 in
    (λ i. Role (s.0 i) (s.1 i) (s.2 i), s.3)
atom_tells (Role a x y) (Attr b z w) p q more others e = absurd (other_tag 1 2 (omega arith) (omega arith) (λ k. omega (arith, k)) (two_fed a x y) (two_fed b z w) more others e)
atom_tells (Attr a x y) (Class b z) p q more others e = absurd (other_tag 2 0 (omega arith) (omega arith) (λ k. omega (arith, k)) (two_fed a x y) (one_fed b z) more others e)
atom_tells (Attr a x y) (Role b z w) p q more others e = absurd (other_tag 2 1 (omega arith) (omega arith) (λ k. omega (arith, k)) (two_fed a x y) (two_fed b z w) more others e)
atom_tells (Attr a x y) (Attr b z w) p q more others e =
    let r = told_tag 2 2 (omega arith) (omega arith) (two_fed a x y) (two_fed b z w) more others e in
    let s = two_told a b x y z w p q more others r.1 in
    (λ i. Attr (s.0 i) (s.1 i) (s.2 i), s.3)

-- queries
pub query_tells : TellsApart FitsQuery query_hash.ghosts.hash_input
query_tells q r p k more others e =
    let s = told_then (fed.slice arg_hash.ghosts.hash_input) (fed.slice atom_hash.ghosts.hash_input) q.answer r.answer q.atoms r.atoms
    (list_tells arg_hash.ghosts.hash_input FitsArg arg_tells q.answer r.answer p.0 k.0) (list_tells atom_hash.ghosts.hash_input FitsAtom atom_tells q.atoms r.atoms p.1 k.1) more others e in
    (λ i. record { answer = s.0 i; atoms = s.1 i }, s.2)

-- views that are fed as their contents are told exactly as these
pub views_told : (input : CqRef → HashWrites) → FeedsContents query_hash.ghosts.hash_input input → TellsViews input
views_told input is q r p k = (
  λ e. (query_tells (viewed q) (viewed r) p k [] [] (ap (λ w. fed_bytes w ++ []) (sym (is q) ∙ e ∙ is r))).0,
  λ e. is q ∙ ap query_hash.ghosts.hash_input e ∙ sym (is r),
)
