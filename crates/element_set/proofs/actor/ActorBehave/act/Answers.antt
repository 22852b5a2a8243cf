use Rattle.std.proofs.Common.{◌≡◌, suc, List, Some, None, sym, ap, ◌∙◌, arith}
use Rattle.std.specs.Prelude.{slice_get}
use Rattle.std.proofs.lemmas.Option.{slice_get-get_or, slice_get_past}
use Rattle.std.proofs.Math.Logic.{∥∥₁_elim}
use Rattle.std.proofs.Props.{props}
use Rattle.bit_field.specs.Atom.{AtomValue}
use Rattle.window_sites.specs.Window.{atom_at}
use Rattle.stack_code.specs.Machine.{CodeValue}
use Rattle.event_machine.specs.Endings.{ending_number}
use Rattle.code_gen.specs.Compiling.{element_codes}
use Rattle.element_set.specs.Acting.{acting_set}
use Rattle.element_set.specs.Sets.{program_of}
use Rattle.element_set.proofs.Acting.{code_acts, no_code, no_kind}
use Rattle.element_set.proofs.actor.ActorBehave.act.Goals as goal

pub returns-in_default-clause-window : goal.returns-in_default-clause-window
returns-in_default-clause-window c =
    let g = program_of (acting_set c.args.self.now) in
    let w = c.args.window.now in
    let kind : c.kind.result ≡ (atom_at w 0).kind = c.kind.ensures ∙ ap (λ (a : AtomValue). a.kind) c.get.ensures in
    sym (no_kind g w c.args.seed (omega (arith, kind, c.in_default.ensures)))

pub returns-in-Some-get-clause-window : goal.returns-in-Some-get-clause-window
returns-in-Some-get-clause-window c =
    let g = program_of (acting_set c.args.self.now) in
    let w = c.args.window.now in
    let index = c.in-Some.index in
    let code = c.in-Some-get.code.now in
    let kind : c.kind.result ≡ (atom_at w 0).kind = c.kind.ensures ∙ ap (λ (a : AtomValue). a.kind) c.get.ensures in
    let at : (atom_at w 0).kind ≡ suc index = omega (arith, kind, c.in-Some.ensures) in
    let found = c.in-Some-get.ensures.lookup in
    let stands : slice_get (element_codes g) index ≡ Some code = ap (λ (xs : List CodeValue). slice_get xs index) (sym c.codes.ensures.codes) ∙ slice_get-get_or c.codes.result.now index code found.3.0 ∙ ap Some (sym found.1) in
    ∥∥₁_elim c.args.self.now.set.now.compiled (Prim.hlevel props) (λ h. code_acts g h.compilable h.short index code stands w c.args.seed at c.act.new.window (ending_number c.act.result) c.act.ensures.over)

pub returns-in_default-get-clause-window : goal.returns-in_default-get-clause-window
returns-in_default-get-clause-window c =
    let g = program_of (acting_set c.args.self.now) in
    let w = c.args.window.now in
    let index = c.in-Some.index in
    let kind : c.kind.result ≡ (atom_at w 0).kind = c.kind.ensures ∙ ap (λ (a : AtomValue). a.kind) c.get.ensures in
    let at : (atom_at w 0).kind ≡ suc index = omega (arith, kind, c.in-Some.ensures) in
    let none : slice_get (element_codes g) index ≡ None = ap (λ (xs : List CodeValue). slice_get xs index) (sym c.codes.ensures.codes) ∙ slice_get_past c.codes.result.now index c.in_default-get.ensures.lookup.3 in
    sym (no_code g index none w c.args.seed at)
