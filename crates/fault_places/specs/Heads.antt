-- What holds of each place of tokens, of what was taken out of them, and of classes with bases.
use Rattle.std.specs.Prelude.{List}
use Rattle.ulam_lex.specs.declared.token.Token.{Token}
use Rattle.ulam_parse.specs.Tokens.{Tok, place_at}
use Rattle.ulam_heirs.specs.Heads.{Base, Heads}
use Rattle.ulam_heirs.specs.Lines.{Heir}
use Rattle.fault_places.specs.Common.{OfPlace, IfAny, Each}
use Rattle.fault_places.specs.Raw.{WordPlace, ClassPlaces}

abbrev pub TokenPlace : OfPlace → Token → Type 0
TokenPlace P t = P t.place

abbrev pub TokenPlaces : OfPlace → List Token → Type 0
TokenPlaces P ts = Each (TokenPlace P) ts

-- the same of tokens as the grammar sees them
abbrev pub TokPlace : OfPlace → Tok → Type 0
TokPlace P t = P (place_at t)

abbrev pub TokPlaces : OfPlace → List Tok → Type 0
TokPlaces P ts = Each (TokPlace P) ts

abbrev pub BasePlaces : OfPlace → Base → Type 0
BasePlaces P b = P b.class × P b.base.place

abbrev pub HeadsPlaces : OfPlace → Heads → Type 0
HeadsPlaces P h = Each (BasePlaces P) h.bases × Each P h.virtuals

abbrev pub HeirPlaces : OfPlace → Heir → Type 0
HeirPlaces P h = ClassPlaces P h.class × IfAny (WordPlace P) h.base
