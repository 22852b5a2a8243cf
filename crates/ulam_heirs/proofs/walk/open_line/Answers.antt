use Rattle.std.proofs.Common.{sym, subst, ℕ, List, [], ◌∷◌, ◌++◌, take}
use Rattle.ulam_heirs.specs.declared.heir.Heir.{Heir as CodeHeir}
use Rattle.ulam_heirs.specs.Lines.{Heir}
use Rattle.ulam_heirs.specs.Opened.{Table, Covers}
use Rattle.ulam_heirs.specs.OpenedViews.{state_of}
use Rattle.ulam_heirs.specs.Views.{heir_of, heirs_of}
use Rattle.ulam_heirs.proofs.OpenTables.{covers_on}
use Rattle.ulam_heirs.proofs.Turns.{taken_on}
use Rattle.ulam_heirs.proofs.walk.open_line.Goals as goal

pub loop-heir-preserved : goal.loop-heir-preserved
loop-heir-preserved c =
    let xs : List CodeHeir = c.args.line.now in
    let x : CodeHeir = c.heir-item.result in
    let i : ℕ = c.loop-heir.heir-index in
    subst (λ (l : List Heir). Covers l (state_of c.open_class.new.opened).table) (sym (taken_on xs i x c.loop-heir-test.true c.heir-item.is))
    (subst (λ (t : Table). Covers (heirs_of (take i xs) ++ (heir_of x ∷ [])) t) (sym c.in_ok-open_class.ensures.table)
    (covers_on (heirs_of (take i xs)) (state_of c.loop-heir.opened).table (heir_of x) c.loop-heir.invariant))
