use Rattle.std.proofs.Common.{◌≡◌, ◌∙◌, sym, ap, List, ◌∷◌, ◌+◌, drop, map, Ok, refl}
use Rattle.std.proofs.lemmas.List.{at_drop_more, at_drop_all, append-nil}
use Rattle.ulam_names.proofs.Faults.{passed_on}
use Rattle.ulam_tree.specs.RawViews.{member_of, Shared, shared_member}
use Rattle.ulam_tree.specs.declared.raw.Member.{Member}
use Rattle.ulam_tree.specs.Found.{◌>>=◌}
use Rattle.ulam_names.specs.Classes as walk
use Rattle.ulam_names.specs.NamesView.{names_view}
use Rattle.ulam_names.specs.Scopes.{Names, no_names}
use Rattle.ulam_names.specs.Shown.{half_of, with_halves}
use Rattle.ulam_names.proofs.Members.{member_fails, members_on}
use Rattle.ulam_names.proofs.member.members.Goals as goal

pub returns-in_err-member : goal.returns-in_err-member
returns-in_err-member c =
    let xs : List Shared = c.args.raw.now in
    let rest : List Shared = drop (c.loop-one.one-index + 1) xs in
    let front : List walk.Half = map half_of c.loop-one.found.items in
    let d : Names = names_view c.loop-one.names in
    let e : walk.members c.args.known.now no_names (map shared_member xs) ≡ (with_halves front (walk.member c.args.known.now d (member_of c.deref.result.now)) >>= λ (x : Names × List walk.Half). with_halves x.1 (walk.members c.args.known.now x.0 (map shared_member rest))) =
    c.loop-one.invariant
    ∙ at_drop_more (λ (zs : List Shared). with_halves front (walk.members c.args.known.now d (map shared_member zs))) xs c.loop-one.one-index c.one-item.result c.loop-one-test.true
    ∙ ap (λ (x : Shared). with_halves front (walk.members c.args.known.now d (shared_member x ∷ map shared_member rest))) (sym c.one-item.is)
    ∙ ap (λ (x : Member). with_halves front (walk.members c.args.known.now d (member_of x ∷ map shared_member rest))) (sym c.deref.ensures)
    ∙ member_fails c.args.known.now d front (member_of c.deref.result.now) (map shared_member rest) in
    passed_on _ _ _ _ _ c.from_residual.ensures c.in_err-member.ensures (λ f h. e ∙ rw h refl)

pub loop-one-preserved : goal.loop-one-preserved
loop-one-preserved c =
    let xs : List Shared = c.args.raw.now in
    let rest : List Shared = drop (c.loop-one.one-index + 1) xs in
    let front : List walk.Half = map half_of c.loop-one.found.items in
    let d : Names = names_view c.loop-one.names in
    c.loop-one.invariant
    ∙ at_drop_more (λ (zs : List Shared). with_halves front (walk.members c.args.known.now d (map shared_member zs))) xs c.loop-one.one-index c.one-item.result c.loop-one-test.true
    ∙ ap (λ (x : Shared). with_halves front (walk.members c.args.known.now d (shared_member x ∷ map shared_member rest))) (sym c.one-item.is)
    ∙ ap (λ (x : Member). with_halves front (walk.members c.args.known.now d (member_of x ∷ map shared_member rest))) (sym c.deref.ensures)
    ∙ members_on c.args.known.now d (names_view c.member.new.names) front (map half_of c.member.new.found.items) (member_of c.deref.result.now) (map shared_member rest) c.in_ok-member.ensures

pub returns : goal.returns
returns c =
    let front : List walk.Half = map half_of c.loop-one.found.items in
    let d : Names = names_view c.loop-one.names in
    c.loop-one.invariant
    ∙ at_drop_all (λ (zs : List Shared). with_halves front (walk.members c.args.known.now d (map shared_member zs))) c.args.raw.now c.loop-one.one-index c.loop-one-test.false
    ∙ ap (λ (hs : List walk.Half). Ok (d, hs)) (append-nil front)
