use Rattle.std.proofs.Common.{◌≡◌, ◌↔◌, sym, subst, Contains, length}
use Rattle.std.specs.List.{AllByRecursion}
use Rattle.std.proofs.lemmas.Result.{IfOk-weaker}
use Rattle.mast_cq.specs.declared.atom.Atom.{Atom}
use Rattle.mast_cq.specs.NormalForms.{Ordered}
use Rattle.mast_cq.specs.UnifierMeanings.{IsBelow, KnownAtom}
use Rattle.mast_cq.proofs.ListLemmas.{in_each}
use Rattle.mast_tbox.specs.Closure.{Down}
use Rattle.mast_unfold.specs.declared.source.Source.{Source}
use Rattle.mast_unfold.specs.Sources.{IsSource, InOrder, unfolding_of}
use Rattle.mast_unfold.specs.inside.Listing.{same_name, sources_of_members}
use Rattle.mast_unfold.specs.inside.Lookups.{found}
use Rattle.mast_unfold.proofs.ElementLemmas.{in_contains, contains_in}
use Rattle.mast_unfold.proofs.KnownLemmas.{down_known}
use Rattle.mast_unfold.proofs.ListingLemmas.{is_source, source_is, members_order}
use Rattle.mast_unfold.proofs.unfolder.Unfolder.sources.Goals as goal

pub sources_by-requires : goal.sources_by-requires
sources_by-requires c =
    let members = c.in_ok-members.members in
    let known = KnownAtom (IsBelow (length c.self.inside.vocab.now.constants)) in
    subst (λ ms. AllByRecursion known ms) (sym c.as_slice.ensures)
    (in_each known members (λ h i. down_known (IsBelow (length c.self.inside.vocab.now.constants)) c.self.inside.normal.now c.args.atom h (subst (λ u. KnownAtom (IsBelow (length u.vocab.constants)) c.args.atom) (sym c.self.view_is) c.requires) ((c.in_ok-members.ensures.exact h).0 (in_contains h members i))))

pub returns-clause-exact : goal.returns-clause-exact
returns-clause-exact c =
    let inside = c.self.inside in
    let members = c.in_ok-members.members in
    let of = found same_name inside.index in
    let list = sources_of_members inside.vocab.now.constants of c.as_slice.result.now in
    let down = subst (λ ms. (h : Atom) → Contains ms h ↔ Down inside.normal.now c.args.atom h) (sym c.as_slice.ensures) c.in_ok-members.ensures.exact in
    IfOk-weaker c.sources_by.result (λ l. l ≡ list) (λ l. (s : Source) → Contains l s ↔ IsSource c.args.self.now c.args.atom s)
    (λ l e s. subst (λ u. Contains l s ↔ IsSource u c.args.atom s) c.self.view_is (
      λ h. is_source (unfolding_of inside.normal.now inside.vocab.now inside.maps.now inside.tables.now) of c.self.invariant.0 c.self.invariant.1 c.args.atom c.as_slice.result.now down s (contains_in s list (subst (λ k. Contains k s) e h)),
      λ h. subst (λ k. Contains k s) (sym e) (in_contains s list (source_is (unfolding_of inside.normal.now inside.vocab.now inside.maps.now inside.tables.now) of c.self.invariant.0 c.self.invariant.1 c.args.atom c.as_slice.result.now down s h)),
    ))
    c.sources_by.ensures

pub returns-clause-order : goal.returns-clause-order
returns-clause-order c =
    let inside = c.self.inside in
    let of = found same_name inside.index in
    let list = sources_of_members inside.vocab.now.constants of c.as_slice.result.now in
    IfOk-weaker c.sources_by.result (λ l. l ≡ list) InOrder
    (λ l e. subst InOrder (sym e) (members_order inside.vocab.now.constants of c.self.invariant.1.ordered c.as_slice.result.now (subst (λ ms. Ordered ms) (sym c.as_slice.ensures) c.in_ok-members.ensures.order)))
    c.sources_by.ensures
