use Rattle.std.proofs.Common.{◌≡◌, sym, subst}
use Rattle.code_gen.specs.Compiling.{IsCompilable}
use Rattle.element_set.specs.Sets.{program_of}
use Rattle.accepted_laws.proofs.Meanings.{accepted_compiled}
use Rattle.accepted_laws.proofs.law.each_event_has_a_meaning.Goals as goal

pub returns : goal.returns
returns c = λ files set k accepts is e w.
    let a = accepted_compiled files set accepts in
    let g = program_of set in
    let needs = subst IsCompilable (sym a.is) (c.names_hold.ensures a.source) in
    let kinded = c.compiled.ensures.kinds g k needs.well needs.named needs.laid (needs.acts k is.class is.stands is.acts) in
    (c.compiled.ensures.compiled g e.acting k kinded (a.short k is.class is.stands is.acts)).means w e.seed
