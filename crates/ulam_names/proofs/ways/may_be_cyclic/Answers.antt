use Rattle.std.proofs.Common.{ℕ, List, Bool, false, ◌≡◌, ◌+◌, ◌<◌, map, length, ap, sym, ◌∙◌, arith}
use Rattle.std.specs.List.{list_any}
use Rattle.std.proofs.lemmas.List.{length-map}
use Rattle.ulam_names.specs.Rounds.{open_row, open_after, some_open}
use Rattle.ulam_names.specs.Scopes.{Head}
use Rattle.ulam_names.specs.Shown.{head_of, half_class}
use Rattle.ulam_names.specs.declared.half.HalfClass.{HalfClass}
use Rattle.ulam_names.proofs.Open.{open_first, open_next, closed_apart, none_later}
use Rattle.ulam_names.proofs.ways.may_be_cyclic.Goals as goal

pub loop-init : goal.loop-init
loop-init c = c.new-row.ensures.items ∙ open_first (map head_of c.args.classes.now)

pub loop-preserved : goal.loop-preserved
loop-preserved c =
    c.in_ok-row.ensures.row
    ∙ ap (λ (r : List Bool). open_row r (map head_of c.args.classes.now)) (c.as_slice.ensures.value ∙ c.loop.invariant)
    ∙ open_next c.loop.counter (map head_of c.args.classes.now)

closed : (classes : List HalfClass) (row last : List Bool) (m : ℕ) → row ≡ open_after m (map head_of classes) → last ≡ open_row row (map head_of classes) → list_any (λ b. b) last ≡ false → m < length classes → false ≡ some_open (map head_of classes)
closed classes row last m is next none lt =
    let heads : List Head = map head_of classes in
    let at : last ≡ open_after (m + 1) heads = next ∙ ap (λ (r : List Bool). open_row r heads) is ∙ open_next m heads in
    none_later m heads (omega (arith, lt, length-map classes head_of)) (sym (ap (λ (r : List Bool). list_any (λ b. b) r) at) ∙ none)

last_open : (classes : List HalfClass) (row : List Bool) (m : ℕ) → row ≡ open_after m (map head_of classes) → m ≡ length classes → list_any (λ b. b) row ≡ some_open (map head_of classes)
last_open classes row m is e =
    let heads : List Head = map head_of classes in
    let at : m ≡ length heads = e ∙ sym (length-map classes head_of) in
    ap (λ (r : List Bool). list_any (λ b. b) r) (is ∙ ap (λ n. open_after n heads) at)

pub returns-then-not-any_open-clause-open : goal.returns-then-not-any_open-clause-open
returns-then-not-any_open-clause-open c =
    closed c.args.classes.now c.as_slice.result.now c.as_slice-in-loop.result.now c.loop.counter (c.as_slice.ensures.value ∙ c.loop.invariant) (c.as_slice-in-loop.ensures.value ∙ c.in_ok-row.ensures.row) (sym c.any_open.ensures ∙ c.if-not-any_open.true) (omega (arith, c.loop-test.true, c.loop.auto.counter-end))

pub returns-then-not-any_open-clause-none : goal.returns-then-not-any_open-clause-none
returns-then-not-any_open-clause-none c =
    λ _. closed_apart (map head_of c.args.classes.now) (map half_class c.args.classes.now) (sym (returns-then-not-any_open-clause-open c))

pub returns-clause-none : goal.returns-clause-none
returns-clause-none c =
    let open_at = last_open c.args.classes.now c.as_slice-2.result.now c.loop.counter (c.as_slice-2.ensures.value ∙ c.loop.invariant) (omega (arith, c.loop-test.false, c.loop.auto.counter-end)) in
    λ e. closed_apart (map head_of c.args.classes.now) (map half_class c.args.classes.now) (sym open_at ∙ sym c.any_open-2.ensures ∙ e)
