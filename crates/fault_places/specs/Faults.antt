-- What holds of the place of a fault.
use Rattle.ulam_lex.specs.declared.token.LexFault.{LexFault}
use Rattle.ulam_lex.specs.declared.token.LexFault.TheVariants as x
use Rattle.ulam_parse.specs.declared.fault.ParseFault.{ParseFault}
use Rattle.ulam_parse.specs.declared.fault.ParseFault.TheVariants as p
use Rattle.ulam_heirs.specs.declared.fault.HeirsFault.{HeirsFault}
use Rattle.ulam_heirs.specs.declared.fault.HeirsFault.TheVariants as h
use Rattle.ulam_names.specs.Faults.{declared_twice, unknown_name, cyclic_quark, no_behave, bad_constant, too_many, bad_width}
use Rattle.ulam_names.specs.Faults as n
use Rattle.atom_layout.specs.declared.fault.LayoutFault.{LayoutFault}
use Rattle.atom_layout.specs.declared.fault.LayoutFault.TheVariants as l
use Rattle.type_rules.specs.Faults.{wrong_type, mixed_signs, not_assignable, wrong_count, bad_as, break_outside, missing_return}
use Rattle.type_rules.specs.Faults as t
use Rattle.fault_places.specs.Common.{OfPlace}

-- Running out of memory has no place.

abbrev pub LexPlace : OfPlace → LexFault → Type 0
LexPlace P (x.BadByte at) = P at
LexPlace P (x.OpenComment at) = P at
LexPlace P (x.NumberTooLarge at) = P at
LexPlace P (x.TooManyTokens at) = P at
LexPlace P x.NoMemory = Unit {0}

abbrev pub ParsePlace : OfPlace → ParseFault → Type 0
ParsePlace P (p.Syntax at) = P at
ParsePlace P (p.TooDeep at) = P at
ParsePlace P p.NoMemory = Unit {0}

abbrev pub HeirsPlace : OfPlace → HeirsFault → Type 0
HeirsPlace P (h.NotQuark at) = P at
HeirsPlace P (h.OwnBase at) = P at
HeirsPlace P (h.BadOverride at) = P at
HeirsPlace P h.NoMemory = Unit {0}

abbrev pub NamesPlace : OfPlace → n.Fault → Type 0
NamesPlace P (declared_twice at) = P at
NamesPlace P (unknown_name at) = P at
NamesPlace P (cyclic_quark at) = P at
NamesPlace P (no_behave at) = P at
NamesPlace P (bad_constant at) = P at
NamesPlace P (too_many at) = P at
NamesPlace P (bad_width at) = P at

abbrev pub LayoutPlace : OfPlace → LayoutFault → Type 0
LayoutPlace P (l.QuarkTooWide at bits) = P at
LayoutPlace P (l.ElementTooWide at bits) = P at
LayoutPlace P l.NoMemory = Unit {0}

abbrev pub TypesPlace : OfPlace → t.Fault → Type 0
TypesPlace P (wrong_type at) = P at
TypesPlace P (mixed_signs at) = P at
TypesPlace P (not_assignable at) = P at
TypesPlace P (wrong_count at) = P at
TypesPlace P (bad_as at) = P at
TypesPlace P (break_outside at) = P at
TypesPlace P (missing_return at) = P at
