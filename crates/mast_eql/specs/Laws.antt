-- What holds of the rows of every query.
use Rattle.std.specs.Prelude.{◌↔◌, List}
use Rattle.mast_terms.specs.declared.term.Term.{Term}
use Rattle.mast_sparsql.specs.declared.query.Body.{Body}
use Rattle.mast_eql.specs.Evaluated.{HaveSameRows, Satisfies, SatisfiesAnywhere}

-- the range of `some` does not matter: a formula of a body is independent of the domain
abbrev pub RangeLaw : Type 0
RangeLaw = (lists : List (List (List Term))) (body : Body) (tuple : List Term) →
    Satisfies lists body tuple ↔ SatisfiesAnywhere lists body tuple

-- only the sets of the lists' rows matter
abbrev pub ListsLaw : Type 0
ListsLaw = (lists others : List (List (List Term))) (body : Body) (tuple : List Term) → HaveSameRows lists others →
    SatisfiesAnywhere lists body tuple ↔ SatisfiesAnywhere others body tuple
