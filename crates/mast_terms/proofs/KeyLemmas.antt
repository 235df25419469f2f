-- What a hasher is fed tells names, kinds, dates, values, objects, terms and tuples.
use Rattle.std.proofs.Common.{◌≡◌, ℕ, ℤ, pos, ◌<◌, ◌^◌, List, ◌++◌, refl, ap, arith}
use Rattle.std.specs.Hash as fed
use Rattle.std.specs.Hash.{HashWrites}
use Rattle.mast_terms.specs.Hashes.{fed_bytes, TellsApart, FitsAlways, FitsName, FitsValue, FitsList, FitsObject, FitsTerm}
use Rattle.mast_terms.specs.Orders.{name_kind_place, kind_place}
use Rattle.mast_terms.specs.declared.date.Date.{Date}
use Rattle.mast_terms.specs.declared.name.NameKind.{NameKind}
use Rattle.mast_terms.specs.declared.name.NameKind.TheVariants as nk
use Rattle.mast_terms.specs.declared.term.Object.{Object}
use Rattle.mast_terms.specs.declared.term.Term.TheVariants as t
use Rattle.mast_terms.specs.declared.value.Kind.{Kind}
use Rattle.mast_terms.specs.declared.value.Kind.TheVariants as k
use Rattle.mast_terms.specs.declared.value.Value.{Value}
use Rattle.mast_terms.specs.declared.value.Value.TheVariants as v
use Rattle.mast_terms.specs.contracts.date.DateHash.TheImpl as date_hash
use Rattle.mast_terms.specs.contracts.name.NameHash.TheImpl as name_hash
use Rattle.mast_terms.specs.contracts.name.NameKindHash.TheImpl as name_kind_hash
use Rattle.mast_terms.specs.contracts.term.ObjectHash.TheImpl as object_hash
use Rattle.mast_terms.specs.contracts.term.TermHash.TheImpl as term_hash
use Rattle.mast_terms.specs.contracts.value.KindHash.TheImpl as kind_hash
use Rattle.mast_terms.specs.contracts.value.ValueHash.TheImpl as value_hash
use Rattle.mast_terms.proofs.HashLemmas.{told_first, told_then, told_tag, other_tag, variants_tell, u8_tells, u16_tells, u32_tells, i64_tells, str_tells, list_tells}
use Rattle.mast_terms.proofs.SameLemmas.{date_is}

-- names
pub name_tells : TellsApart FitsName name_hash.ghosts.hash_input
name_tells a b p q more others e =
    let r = u32_tells a.0 b.0 p q more others e in
    (λ i. record { 0 = r.0 i }, r.1)

-- kinds of names
name_kind_is : (a : NameKind) → name_kind_hash.ghosts.hash_input a ≡ fed.isize (pos (name_kind_place a))
name_kind_is nk.Class = refl
name_kind_is nk.Role = refl
name_kind_is nk.Attr = refl

name_kind_small : (a : NameKind) → name_kind_place a < 2 ^ 64
name_kind_small nk.Class = omega arith
name_kind_small nk.Role = omega arith
name_kind_small nk.Attr = omega arith

name_kind_one : (a b : NameKind) → name_kind_place a ≡ name_kind_place b → a ≡ b
name_kind_one nk.Class nk.Class h = refl
name_kind_one nk.Class nk.Role h = absurd (omega (arith, h))
name_kind_one nk.Class nk.Attr h = absurd (omega (arith, h))
name_kind_one nk.Role nk.Class h = absurd (omega (arith, h))
name_kind_one nk.Role nk.Role h = refl
name_kind_one nk.Role nk.Attr h = absurd (omega (arith, h))
name_kind_one nk.Attr nk.Class h = absurd (omega (arith, h))
name_kind_one nk.Attr nk.Role h = absurd (omega (arith, h))
name_kind_one nk.Attr nk.Attr h = refl

-- the kind of a name
pub name_kind_tells : TellsApart FitsAlways name_kind_hash.ghosts.hash_input
name_kind_tells = variants_tell name_kind_place name_kind_hash.ghosts.hash_input name_kind_is name_kind_small name_kind_one

-- kinds of values
kind_is : (a : Kind) → kind_hash.ghosts.hash_input a ≡ fed.isize (pos (kind_place a))
kind_is k.Text = refl
kind_is k.Integer = refl
kind_is k.Date = refl

kind_small : (a : Kind) → kind_place a < 2 ^ 64
kind_small k.Text = omega arith
kind_small k.Integer = omega arith
kind_small k.Date = omega arith

kind_one : (a b : Kind) → kind_place a ≡ kind_place b → a ≡ b
kind_one k.Text k.Text h = refl
kind_one k.Text k.Integer h = absurd (omega (arith, h))
kind_one k.Text k.Date h = absurd (omega (arith, h))
kind_one k.Integer k.Text h = absurd (omega (arith, h))
kind_one k.Integer k.Integer h = refl
kind_one k.Integer k.Date h = absurd (omega (arith, h))
kind_one k.Date k.Text h = absurd (omega (arith, h))
kind_one k.Date k.Integer h = absurd (omega (arith, h))
kind_one k.Date k.Date h = refl

-- the kind of a value
pub kind_tells : TellsApart FitsAlways kind_hash.ghosts.hash_input
kind_tells = variants_tell kind_place kind_hash.ghosts.hash_input kind_is kind_small kind_one

-- months and days are bytes
month_and_day : (a b : Date) (more others : List ℕ) → fed_bytes (fed.u8 a.month ++ fed.u8 a.day) ++ more ≡ fed_bytes (fed.u8 b.month ++ fed.u8 b.day) ++ others → (a.month ≡ b.month) × (a.day ≡ b.day) × (more ≡ others)
month_and_day a b = told_then fed.u8 fed.u8 a.month b.month a.day b.day (u8_tells a.month b.month tt tt) (u8_tells a.day b.day tt tt)

-- days of the calendar
pub date_tells : TellsApart FitsAlways date_hash.ghosts.hash_input
date_tells a b p q more others e =
    let from = a.valid.year_to in
    let to = b.valid.year_to in
    let rest : (x : Date) → HashWrites = λ x. fed.u8 x.month ++ fed.u8 x.day in
    let r = told_first fed.u16 a.year b.year (u16_tells a.year b.year (omega (arith, from)) (omega (arith, to))) (rest a) (rest b) more others e in
    let s = month_and_day a b more others r.1 in
    (date_is a b r.0 s.0 s.1, s.2)

-- values
pub value_tells : TellsApart FitsValue value_hash.ghosts.hash_input
value_tells (v.Int m) (v.Int n) p q more others e =
    let r = told_tag 0 0 (omega arith) (omega arith) (fed.i64 m) (fed.i64 n) more others e in
    let s = i64_tells m n p q more others r.1 in
    (ap (λ (k : ℤ). v.Int k) s.0, s.1)
value_tells (v.Int m) (v.Text t) p q more others e = absurd (other_tag 0 1 (omega arith) (omega arith) (λ k. omega (arith, k)) (fed.i64 m) (fed.str t) more others e)
value_tells (v.Int m) (v.Date d) p q more others e = absurd (other_tag 0 2 (omega arith) (omega arith) (λ k. omega (arith, k)) (fed.i64 m) (date_hash.ghosts.hash_input d) more others e)
value_tells (v.Text t) (v.Int m) p q more others e = absurd (other_tag 1 0 (omega arith) (omega arith) (λ k. omega (arith, k)) (fed.str t) (fed.i64 m) more others e)
value_tells (v.Text t) (v.Text u) p q more others e =
    let r = told_tag 1 1 (omega arith) (omega arith) (fed.str t) (fed.str u) more others e in
    let s = str_tells t u p q more others r.1 in
    (ap (λ (k : List ℕ). v.Text k) s.0, s.1)
value_tells (v.Text t) (v.Date d) p q more others e = absurd (other_tag 1 2 (omega arith) (omega arith) (λ k. omega (arith, k)) (fed.str t) (date_hash.ghosts.hash_input d) more others e)
value_tells (v.Date d) (v.Int m) p q more others e = absurd (other_tag 2 0 (omega arith) (omega arith) (λ k. omega (arith, k)) (date_hash.ghosts.hash_input d) (fed.i64 m) more others e)
value_tells (v.Date d) (v.Text t) p q more others e = absurd (other_tag 2 1 (omega arith) (omega arith) (λ k. omega (arith, k)) (date_hash.ghosts.hash_input d) (fed.str t) more others e)
value_tells (v.Date d) (v.Date c) p q more others e =
    let r = told_tag 2 2 (omega arith) (omega arith) (date_hash.ghosts.hash_input d) (date_hash.ghosts.hash_input c) more others e in
    let s = date_tells d c tt tt more others r.1 in
    (ap (λ (k : Date). v.Date k) s.0, s.1)

-- arguments
pub args_tells : TellsApart (FitsList FitsValue) (fed.slice value_hash.ghosts.hash_input)
args_tells = list_tells value_hash.ghosts.hash_input FitsValue value_tells

-- objects
pub object_tells : TellsApart FitsObject object_hash.ghosts.hash_input
object_tells a b p q more others e =
    let r = told_then fed.str (fed.slice value_hash.ghosts.hash_input) a.symbol b.symbol a.args b.args (str_tells a.symbol b.symbol p.0 q.0) (args_tells a.args b.args p.1 q.1) more others e in
    (λ i. record { symbol = r.0 i; args = r.1 i }, r.2)

-- terms
pub term_tells : TellsApart FitsTerm term_hash.ghosts.hash_input
term_tells (t.Value a) (t.Value b) p q more others e =
    let r = told_tag 0 0 (omega arith) (omega arith) (value_hash.ghosts.hash_input a) (value_hash.ghosts.hash_input b) more others e in
    let s = value_tells a b p q more others r.1 in
    (ap (λ (k : Value). t.Value k) s.0, s.1)
term_tells (t.Value a) (t.Object b) p q more others e = absurd (other_tag 0 1 (omega arith) (omega arith) (λ k. omega (arith, k)) (value_hash.ghosts.hash_input a) (object_hash.ghosts.hash_input b) more others e)
term_tells (t.Object a) (t.Value b) p q more others e = absurd (other_tag 1 0 (omega arith) (omega arith) (λ k. omega (arith, k)) (object_hash.ghosts.hash_input a) (value_hash.ghosts.hash_input b) more others e)
term_tells (t.Object a) (t.Object b) p q more others e =
    let r = told_tag 1 1 (omega arith) (omega arith) (object_hash.ghosts.hash_input a) (object_hash.ghosts.hash_input b) more others e in
    let s = object_tells a b p q more others r.1 in
    (ap (λ (k : Object). t.Object k) s.0, s.1)

-- tuples
pub tuple_tells : TellsApart (FitsList FitsTerm) (fed.slice term_hash.ghosts.hash_input)
tuple_tells = list_tells term_hash.ghosts.hash_input FitsTerm term_tells
