use Rattle.std.proofs.Common.{rules, ◌≤◌, ◌∙◌, ap, ◌+◌, List, length, take, drop, arith}
use Rattle.ulam_heirs.specs.declared.heir.Heir.{Heir as CodeHeir}
use Rattle.ulam_heirs.specs.Flat.{flat}
use Rattle.ulam_heirs.specs.Views.{heirs_of}
use Rattle.ulam_heirs.specs.Within.{first_of}
use Rattle.ulam_heirs.proofs.Turns.{flat_on, flat_end, empty_within}
use Rattle.ulam_heirs.proofs.flat.flat.Goals as goal

pub loop-heir-init : goal.loop-heir-init
loop-heir-init c = record {
  flat = search rules;
  few = empty_within c.args.most c.new-found.result.items (search rules);
  index = search rules;
}

pub loop-heir-preserved : goal.loop-heir-preserved
loop-heir-preserved c =
    let xs : List CodeHeir = c.args.line.now in
    record {
      flat =
          c.loop-heir.invariant.flat
          ∙ flat_on c.args.most xs c.loop-heir.found.items c.add_members.new.found.items c.loop-heir.heir-index c.heir-item.result (take c.loop-heir.index xs) (drop (c.loop-heir.index + 1) xs) c.loop-heir-test.true c.heir-item.is
          (ap (λ n. take n xs) c.loop-heir.invariant.index)
          (ap (λ n. drop (n + 1) xs) c.loop-heir.invariant.index)
          c.in_ok-add_members.ensures.same;
      few = c.in_ok-add_members.ensures.few;
      index = omega arith;
    }

pub returns : goal.returns
returns c =
    let xs : List CodeHeir = c.args.line.now in
    let past : length xs ≤ c.loop-heir.heir-index = search rules in
    flat_end c.args.most xs c.loop-heir.found.items c.loop-heir.heir-index (first_of c.args.most (flat (heirs_of xs))) past c.loop-heir.invariant.few c.loop-heir.invariant.flat
