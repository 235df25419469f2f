-- What a hasher is fed tells role expressions, basic concepts and properties.
use Rattle.std.proofs.Common.{◌≡◌, ℕ, pos, ◌<◌, ◌^◌, List, ◌++◌, ap, arith}
use Rattle.std.specs.Hash as fed
use Rattle.std.specs.Hash.{HashWrites}
use Rattle.mast_terms.specs.Hashes.{fed_bytes, TellsApart}
use Rattle.mast_terms.specs.declared.name.Name.{Name}
use Rattle.mast_terms.specs.contracts.name.NameHash.TheImpl as name_hash
use Rattle.mast_terms.proofs.HashLemmas.{told_tag}
use Rattle.mast_terms.proofs.KeyLemmas.{name_tells}
use Rattle.mast_tbox.specs.Hashes.{FitsRole, FitsBasic, FitsProp}
use Rattle.mast_tbox.specs.declared.expression.RoleExpr.{RoleExpr}
use Rattle.mast_tbox.specs.declared.expression.RoleExpr.TheVariants.{Direct, Inverse}
use Rattle.mast_tbox.specs.declared.expression.Basic.TheVariants.{Class as BClass, Some as BSome, Subjects}
use Rattle.mast_tbox.specs.declared.expression.Prop.TheVariants.{Role as PRole, Attr as PAttr}
use Rattle.mast_tbox.specs.contracts.expression.RoleExprHash.TheImpl as role_hash
use Rattle.mast_tbox.specs.contracts.expression.BasicHash.TheImpl as basic_hash
use Rattle.mast_tbox.specs.contracts.expression.PropHash.TheImpl as prop_hash

-- numbers of variants that differ are fed differently
other_tag : (m n : ℕ) → m < 2 ^ 64 → n < 2 ^ 64 → (m ≡ n → ⊥) → (us vs : HashWrites) (more others : List ℕ)
    → fed_bytes (fed.isize (pos m) ++ us) ++ more ≡ fed_bytes (fed.isize (pos n) ++ vs) ++ others → ⊥
other_tag m n p q apart us vs more others e = apart (told_tag m n p q us vs more others e).0

abbrev of_name : Name → HashWrites
of_name = name_hash.ghosts.hash_input

abbrev of_role : RoleExpr → HashWrites
of_role = role_hash.ghosts.hash_input

-- one variant with a name
name_told : {A : Type 0} (form : Name → A) (n : ℕ) → n < 2 ^ 64 → (a b : Name) → a.0 < 2 ^ 32 → b.0 < 2 ^ 32 → (more others : List ℕ)
    → fed_bytes (fed.isize (pos n) ++ of_name a) ++ more ≡ fed_bytes (fed.isize (pos n) ++ of_name b) ++ others → (form a ≡ form b) × (more ≡ others)
name_told form n l a b p q more others e =
    let r = told_tag n n l l (of_name a) (of_name b) more others e in
    let s = name_tells a b p q more others r.1 in
    (ap form s.0, s.1)

-- role expressions
pub role_tells : TellsApart FitsRole role_hash.ghosts.hash_input
role_tells (Direct a) (Direct b) p q more others e = name_told Direct 0 (omega arith) a b p q more others e
role_tells (Direct a) (Inverse b) p q more others e = absurd (other_tag 0 1 (omega arith) (omega arith) (λ k. omega (arith, k)) (of_name a) (of_name b) more others e)
role_tells (Inverse a) (Direct b) p q more others e = absurd (other_tag 1 0 (omega arith) (omega arith) (λ k. omega (arith, k)) (of_name a) (of_name b) more others e)
role_tells (Inverse a) (Inverse b) p q more others e = name_told Inverse 1 (omega arith) a b p q more others e

-- one variant with a role expression
role_told : {A : Type 0} (form : RoleExpr → A) (n : ℕ) → n < 2 ^ 64 → (r s : RoleExpr) → FitsRole r → FitsRole s → (more others : List ℕ)
    → fed_bytes (fed.isize (pos n) ++ of_role r) ++ more ≡ fed_bytes (fed.isize (pos n) ++ of_role s) ++ others → (form r ≡ form s) × (more ≡ others)
role_told form n l r s p q more others e =
    let t = told_tag n n l l (of_role r) (of_role s) more others e in
    let u = role_tells r s p q more others t.1 in
    (ap form u.0, u.1)

-- properties
pub prop_tells : TellsApart FitsProp prop_hash.ghosts.hash_input
prop_tells (PRole r) (PRole s) p q more others e = role_told PRole 0 (omega arith) r s p q more others e
prop_tells (PRole r) (PAttr b) p q more others e = absurd (other_tag 0 1 (omega arith) (omega arith) (λ k. omega (arith, k)) (of_role r) (of_name b) more others e)
prop_tells (PAttr a) (PRole s) p q more others e = absurd (other_tag 1 0 (omega arith) (omega arith) (λ k. omega (arith, k)) (of_name a) (of_role s) more others e)
prop_tells (PAttr a) (PAttr b) p q more others e = name_told PAttr 1 (omega arith) a b p q more others e

-- basic concepts
pub basic_tells : TellsApart FitsBasic basic_hash.ghosts.hash_input
basic_tells (BClass a) (BClass b) p q more others e = name_told BClass 0 (omega arith) a b p q more others e
basic_tells (BClass a) (BSome s) p q more others e = absurd (other_tag 0 1 (omega arith) (omega arith) (λ k. omega (arith, k)) (of_name a) (of_role s) more others e)
basic_tells (BClass a) (Subjects b) p q more others e = absurd (other_tag 0 2 (omega arith) (omega arith) (λ k. omega (arith, k)) (of_name a) (of_name b) more others e)
basic_tells (BSome r) (BClass b) p q more others e = absurd (other_tag 1 0 (omega arith) (omega arith) (λ k. omega (arith, k)) (of_role r) (of_name b) more others e)
basic_tells (BSome r) (BSome s) p q more others e = role_told BSome 1 (omega arith) r s p q more others e
basic_tells (BSome r) (Subjects b) p q more others e = absurd (other_tag 1 2 (omega arith) (omega arith) (λ k. omega (arith, k)) (of_role r) (of_name b) more others e)
basic_tells (Subjects a) (BClass b) p q more others e = absurd (other_tag 2 0 (omega arith) (omega arith) (λ k. omega (arith, k)) (of_name a) (of_name b) more others e)
basic_tells (Subjects a) (BSome s) p q more others e = absurd (other_tag 2 1 (omega arith) (omega arith) (λ k. omega (arith, k)) (of_name a) (of_role s) more others e)
basic_tells (Subjects a) (Subjects b) p q more others e = name_told Subjects 2 (omega arith) a b p q more others e
