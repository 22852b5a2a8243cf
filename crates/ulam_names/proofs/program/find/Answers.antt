use Rattle.std.proofs.Common.{◌≡◌, ◌≤◌, ◌∙◌, refl, sym, ap, subst, List, length}
use Rattle.ulam_names.specs.declared.half.HalfClass.{HalfClass}
use Rattle.ulam_names.specs.Classes as w
use Rattle.ulam_names.specs.ClassWalk as walk
use Rattle.ulam_names.specs.Files.{all_items}
use Rattle.ulam_names.proofs.Faults.{passed_on}
use Rattle.ulam_names.proofs.Programs.{program_to, halves_few}
use Rattle.ulam_names.proofs.program.find.Goals as goal

pub whole-requires : goal.whole-requires
whole-requires c =
    subst (λ (hs : List HalfClass). length hs ≤ 256) (sym c.as_slice.ensures.value) (halves_few (all_items c.args.files.now) c.in_ok-known.known c.in_ok-halves.halves.items c.in_ok-known.ensures c.in_ok-halves.ensures)

pub returns-in_err-known : goal.returns-in_err-known
returns-in_err-known c = passed_on _ _ _ _ _ c.from_residual.ensures c.in_err-known.ensures (λ f h. rw h refl)

pub returns-in_err-halves : goal.returns-in_err-halves
returns-in_err-halves c = passed_on _ _ _ _ _ c.from_residual-in_err-halves.ensures c.in_err-halves.ensures (λ f h. rw (c.in_ok-known.ensures, h) refl)

pub returns : goal.returns
returns c =
    let to : w.program (all_items c.args.files.now) ≡ walk.whole_program c.in_ok-known.known c.as_slice.result.now =
    program_to (all_items c.args.files.now) c.in_ok-known.known c.in_ok-halves.halves.items c.in_ok-known.ensures c.in_ok-halves.ensures
    ∙ ap (walk.whole_program c.in_ok-known.known) (sym c.as_slice.ensures.value) in
    rw to c.whole.ensures
