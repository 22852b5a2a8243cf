use Rattle.std.proofs.Common.{◌≡◌, suc, List, Some, None, sym, ap, ◌∙◌, arith}
use Rattle.std.specs.Prelude.{slice_get}
use Rattle.std.proofs.lemmas.Option.{slice_get-get_or, slice_get_past}
use Rattle.bit_field.specs.Atom.{AtomValue}
use Rattle.window_sites.specs.Window.{atom_at}
use Rattle.stack_code.specs.Machine.{CodeValue}
use Rattle.event_machine.specs.Endings.{ending_number}
use Rattle.code_file.specs.ActingSet.{acting_codes}
use Rattle.code_file.proofs.Acts.{code_acts, no_code, no_kind}
use Rattle.code_file.proofs.actor.CodeActorBehave.act.Goals as goal

pub returns-in_default-clause-window : goal.returns-in_default-clause-window
returns-in_default-clause-window c =
    let w = c.args.window.now in
    let kind : c.kind.result ≡ (atom_at w 0).kind = c.kind.ensures ∙ ap (λ (a : AtomValue). a.kind) c.get.ensures in
    no_kind (acting_codes c.args.self.now) w c.args.seed (omega (arith, kind, c.in_default.ensures))

pub returns-in-Some-get-clause-window : goal.returns-in-Some-get-clause-window
returns-in-Some-get-clause-window c =
    let codes = acting_codes c.args.self.now in
    let w = c.args.window.now in
    let index = c.in-Some.index in
    let code = c.in-Some-get.code.now in
    let kind : c.kind.result ≡ (atom_at w 0).kind = c.kind.ensures ∙ ap (λ (a : AtomValue). a.kind) c.get.ensures in
    let at : (atom_at w 0).kind ≡ suc index = omega (arith, kind, c.in-Some.ensures) in
    let found = c.in-Some-get.ensures.lookup in
    let stands : slice_get codes index ≡ Some code = ap (λ (xs : List CodeValue). slice_get xs index) (sym c.codes.ensures) ∙ slice_get-get_or c.codes.result.now index code found.3.0 ∙ ap Some (sym found.1) in
    code_acts codes index code w c.act.new.window c.args.seed (ending_number c.act.result) at stands c.act.ensures.over

pub returns-in_default-get-clause-window : goal.returns-in_default-get-clause-window
returns-in_default-get-clause-window c =
    let codes = acting_codes c.args.self.now in
    let w = c.args.window.now in
    let index = c.in-Some.index in
    let kind : c.kind.result ≡ (atom_at w 0).kind = c.kind.ensures ∙ ap (λ (a : AtomValue). a.kind) c.get.ensures in
    let at : (atom_at w 0).kind ≡ suc index = omega (arith, kind, c.in-Some.ensures) in
    let none : slice_get codes index ≡ None = ap (λ (xs : List CodeValue). slice_get xs index) (sym c.codes.ensures) ∙ slice_get_past c.codes.result.now index c.in_default-get.ensures.lookup.3 in
    no_code codes index w c.args.seed at none
