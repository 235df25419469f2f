-- The test of a violation on rows of numbers.
use Rattle.std.specs.Prelude.{ℕ, Bool, true, false, not, nat_eq, List, slice_get, Option, Some, None}
use Rattle.mast_terms.specs.declared.term.Term.{Term}
use Rattle.mast_terms.specs.declared.value.Kind.{Kind}
use Rattle.mast_terms.specs.contracts.value.KindPartialEq.TheImpl as kind_eq
use Rattle.mast_numbers.specs.Numbered.{term_kind}
use Rattle.mast_violate.specs.declared.violation.Test.{Test}
use Rattle.mast_violate.specs.declared.violation.Test.TheVariants.{Plain, Differ, KindNot}

-- whether two numbers are there and differ
abbrev pub differ : Option ℕ → Option ℕ → Bool
differ None right = false
differ (Some l) None = false
differ (Some l) (Some r) = not (nat_eq l r)

-- whether there is a kind, and it is another one
abbrev pub is_other : Kind → Option Kind → Bool
is_other kind None = false
is_other kind (Some found) = not (kind_eq.ghosts.eq found kind)

-- the kind of a term that is there
abbrev pub kind_there : Option Term → Option Kind
kind_there None = None
kind_there (Some t) = term_kind t

-- the term of a number that is there
abbrev pub term_there : List Term → Option ℕ → Option Term
term_there terms None = None
term_there terms (Some number) = slice_get terms number

-- whether a row of numbers of these terms passes the test
abbrev pub passes_by : List Term → Test → List ℕ → Bool
passes_by terms Plain row = true
passes_by terms (Differ left right) row = differ (slice_get row left) (slice_get row right)
passes_by terms (KindNot place kind) row = is_other kind (kind_there (term_there terms (slice_get row place)))
