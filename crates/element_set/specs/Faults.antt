-- The refusals that report the faults of the stages.
use Rattle.std.specs.Prelude.{ℕ}
use Rattle.feast_base.specs.declared.place.Place.{Place}
use Rattle.feast_base.specs.declared.place.Refusal.{Refusal}
use Rattle.feast_base.specs.Refusals.{IsCode}
use Rattle.ulam_lex.specs.declared.token.LexFault.{LexFault}
use Rattle.ulam_lex.specs.declared.token.LexFault.TheVariants as x
use Rattle.ulam_parse.specs.declared.fault.ParseFault.{ParseFault}
use Rattle.ulam_parse.specs.declared.fault.ParseFault.TheVariants as p
use Rattle.ulam_heirs.specs.declared.fault.HeirsFault.{HeirsFault}
use Rattle.ulam_heirs.specs.declared.fault.HeirsFault.TheVariants as h
use Rattle.ulam_names.specs.Faults.{declared_twice, unknown_name, cyclic_quark, no_behave, bad_constant, too_many, bad_width}
use Rattle.ulam_names.specs.Faults as n
use Rattle.ulam_names.specs.declared.fault.NameFault.{NameFault}
use Rattle.ulam_names.specs.declared.fault.NameFault.TheVariants as m
use Rattle.atom_layout.specs.declared.fault.LayoutFault.{LayoutFault}
use Rattle.atom_layout.specs.declared.fault.LayoutFault.TheVariants as l
use Rattle.type_rules.specs.Faults.{wrong_type, mixed_signs, not_assignable, wrong_count, bad_as, break_outside, missing_return}
use Rattle.type_rules.specs.Faults as t
use Rattle.ulam_types.specs.declared.fault.TypeFault.{TypeFault}
use Rattle.ulam_types.specs.declared.fault.TypeFault.TheVariants as u
use Rattle.code_gen.specs.declared.fault.GenFault.{GenFault}
use Rattle.code_gen.specs.declared.fault.GenFault.TheVariants as g
use Rattle.element_set.specs.declared.fault.BuildFault.{BuildFault}
use Rattle.element_set.specs.declared.fault.BuildFault.TheVariants.{Refused, NoMemory}

-- a code that has a text; a record, so that the list of all codes is not written out in each goal
pub record Coded (code : ℕ) : Type 0 where
  pub is_code : IsCode code

-- a refusal whose text shows a number
abbrev pub refusal_with_value : ℕ → Place → ℕ → Refusal
refusal_with_value code place value = record { code = code; place = place; value = value }

abbrev pub refusal : ℕ → Place → Refusal
refusal code place = refusal_with_value code place 0

-- The codes of each stage. Running out of memory is not a refusal.

abbrev pub lex_fault : LexFault → BuildFault
lex_fault (x.BadByte at) = Refused (refusal 10 at)
lex_fault (x.OpenComment at) = Refused (refusal 11 at)
lex_fault (x.NumberTooLarge at) = Refused (refusal 12 at)
lex_fault (x.TooManyTokens at) = Refused (refusal 13 at)
lex_fault x.NoMemory = NoMemory

abbrev pub parse_fault : ParseFault → BuildFault
parse_fault (p.Syntax at) = Refused (refusal 20 at)
parse_fault (p.TooDeep at) = Refused (refusal 21 at)
parse_fault p.NoMemory = NoMemory

abbrev pub heirs_fault : HeirsFault → BuildFault
heirs_fault (h.NotQuark at) = Refused (refusal 37 at)
heirs_fault (h.OwnBase at) = Refused (refusal 38 at)
heirs_fault (h.BadOverride at) = Refused (refusal 39 at)
heirs_fault h.NoMemory = NoMemory

abbrev pub name_refusal : n.Fault → Refusal
name_refusal (declared_twice at) = refusal 30 at
name_refusal (unknown_name at) = refusal 31 at
name_refusal (cyclic_quark at) = refusal 32 at
name_refusal (no_behave at) = refusal 33 at
name_refusal (bad_constant at) = refusal 34 at
name_refusal (too_many at) = refusal 35 at
name_refusal (bad_width at) = refusal 36 at

abbrev pub layout_fault : LayoutFault → BuildFault
layout_fault (l.QuarkTooWide at bits) = Refused (refusal_with_value 40 at bits)
layout_fault (l.ElementTooWide at bits) = Refused (refusal_with_value 41 at bits)
layout_fault l.NoMemory = NoMemory

abbrev pub type_refusal : t.Fault → Refusal
type_refusal (wrong_type at) = refusal 50 at
type_refusal (mixed_signs at) = refusal 51 at
type_refusal (not_assignable at) = refusal 52 at
type_refusal (wrong_count at) = refusal 53 at
type_refusal (bad_as at) = refusal 54 at
type_refusal (break_outside at) = refusal 55 at
type_refusal (missing_return at) = refusal 56 at

abbrev pub gen_fault : GenFault → BuildFault
gen_fault (g.CodeTooLong at) = Refused (refusal 60 at)
gen_fault g.NoMemory = NoMemory

-- the code's faults of names and of types

abbrev pub name_fault : NameFault → BuildFault
name_fault (m.DuplicateName at) = Refused (name_refusal (declared_twice at))
name_fault (m.UnknownName at) = Refused (name_refusal (unknown_name at))
name_fault (m.CyclicQuark at) = Refused (name_refusal (cyclic_quark at))
name_fault (m.NoBehave at) = Refused (name_refusal (no_behave at))
name_fault (m.BadConstant at) = Refused (name_refusal (bad_constant at))
name_fault (m.TooMany at) = Refused (name_refusal (too_many at))
name_fault (m.BadWidth at) = Refused (name_refusal (bad_width at))
name_fault m.NoMemory = NoMemory

abbrev pub type_fault : TypeFault → BuildFault
type_fault (u.WrongType at) = Refused (type_refusal (wrong_type at))
type_fault (u.MixedSigns at) = Refused (type_refusal (mixed_signs at))
type_fault (u.NotAssignable at) = Refused (type_refusal (not_assignable at))
type_fault (u.WrongCount at) = Refused (type_refusal (wrong_count at))
type_fault (u.BadAs at) = Refused (type_refusal (bad_as at))
type_fault (u.BreakOutside at) = Refused (type_refusal (break_outside at))
type_fault (u.MissingReturn at) = Refused (type_refusal (missing_return at))
type_fault u.NoMemory = NoMemory
