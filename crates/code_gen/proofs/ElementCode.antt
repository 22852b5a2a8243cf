-- The code of an element of a program whose trees have the right kinds.
use Rattle.std.proofs.Common.{◌≡◌, ℕ, ◌*◌, length, None, ap, ◌∙◌}
use Rattle.window_sites.specs.Window.{WindowValue}
use Rattle.stack_code.specs.Machine.{Led, Goes, Fails, Ends, Lacks, State, iter, start, ending, runs}
use Rattle.stack_code.specs.Laws.{IsOver}
use Rattle.stack_code.proofs.Bound.{runs_well}
use Rattle.ulam_meaning.specs.Programs.{Program}
use Rattle.ulam_meaning.specs.Events.{behave_key}
use Rattle.code_gen.specs.Limits.{IsShort}
use Rattle.code_gen.specs.Scheme.{draft_of}
use Rattle.code_gen.specs.Endings.{over}
use Rattle.code_gen.specs.Kinded.{IsKinded}
use Rattle.code_gen.specs.Compiled.{element_code, IsCompiled}
use Rattle.code_gen.proofs.Events.{ready_right}
use Rattle.code_gen.proofs.EventsMeant.{events_mean}
use Rattle.code_gen.proofs.Drafted.{kinded_ready}

-- a run that is over has an ending
over_ends : (w : WindowValue) (l : Led State) → IsOver l → ending w l ≡ None → ⊥
over_ends w (Goes s) o e = o
over_ends w (Fails n) o e = cc
over_ends w (Ends w1) o e = cc
over_ends w Lacks o e = o

has_ending : (g : Program) (kind c : ℕ) (w : WindowValue) (seed : ℕ) → IsOver (iter (element_code g kind c) (1001 * length (element_code g kind c).instrs) (start (element_code g kind c) w seed)) → (runs (element_code g kind c) w seed).over ≡ None → ⊥
unfolding runs
has_ending g kind c w seed o e = over_ends w _ o e

pub kinded_compiled : (g : Program) (kind c : ℕ) → IsKinded g c → IsShort (draft_of g) (behave_key g c) → IsCompiled g kind c
kinded_compiled g kind c k short =
    let r = ready_right (draft_of g) kind (behave_key g c) (kinded_ready g c k) short in
    let ends = λ (w : WindowValue) (seed : ℕ). r.ending w seed ∙ events_mean g (record { acting = kind; seed = seed }) c w in
    record {
      is_valid = r.is_valid;
      ending = ends;
      means = λ w seed e. has_ending g kind c w seed (runs_well (element_code g kind c) r.is_valid w seed).over (ends w seed ∙ ap (over w) e);
    }
