use Rattle.std.proofs.Common.{rules, ℕ, ◌≡◌, ◌-◌, List, length, take, drop, length-drop, take_all, leb, ltb, sym, subst, ap, ◌∙◌, arith}
use Rattle.std.specs.Prelude.{filter}
use Rattle.std.specs.List.Sorted.{IsNonDecreasingBy}
use Rattle.std.proofs.lemmas.List.Sorted.{IsPartitionPoint-from_clause, IsPartitionedBy-leb, IsPartitionedBy-ltb, IsNonDecreasingBy-drop}
use Rattle.plane_acts.specs.declared.schedule.Once.{Once}
use Rattle.plane_acts.specs.Schedules.{ScheduleValue, is_of}
use Rattle.plane_acts.proofs.Found.{found_in}
use Rattle.plane_acts.proofs.schedule.Schedule.once_of.Goals as goal

pub returns : goal.returns
returns c =
    let xs = c.as_slice-once.result.now in
    let leg = c.args.leg in
    let key : Once → ℕ = λ o. o.leg in
    let i = c.partition_point-earlier.result in
    let n = c.partition_point-count.result in
    let rest = take (length xs - i) (drop i xs) in
    let P : List Once → Type 0 = λ l. IsNonDecreasingBy key l in
    let up = subst P (sym c.as_slice-once.ensures.value) c.self.invariant.ordered in
    let long = length-drop i xs in
    let same : rest ≡ drop i xs = take_all (length xs - i) (drop i xs) (omega (arith, long)) in
    let up_rest = subst P (sym same) (IsNonDecreasingBy-drop key i xs up) in
    let front = IsPartitionPoint-from_clause (λ o. ltb (key o) leg) xs i c.partition_point-earlier.ensures.partitioned (IsPartitionedBy-ltb key xs leg up) (λ a r q k. search rules) in
    let back = IsPartitionPoint-from_clause (λ o. leb (key o) leg) rest n c.partition_point-count.ensures.partitioned (IsPartitionedBy-leb key rest leg up_rest) (λ a r q k. search rules) in
    let kept : xs ≡ c.args.self.now.once = c.as_slice-once.ensures.value ∙ ap (λ (s : ScheduleValue). s.once) c.self.view_is in
    found_in key xs rest leg i n same c.partition_point-earlier.ensures.bound c.partition_point-count.ensures.bound front.0 front.1 back.0 back.1
    ∙ ap (filter (is_of leg)) kept
