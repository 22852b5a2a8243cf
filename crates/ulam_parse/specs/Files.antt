-- Reading from the left: members, classes and files.
use Rattle.std.specs.Prelude.{ℕ, zero, suc, ◌+◌, List, [], ◌∷◌, length, Option, None, Bool, true, false, if◌then◌else◌, Ok, Err}
use Rattle.ulam_tree.specs.Raw.{Word, Width, TypeRef, Param, Const, const_number, const_truth, const_named, Member, typedef, constant, field, function, Class, Item, ulam, uses, class}
use Rattle.ulam_parse.specs.declared.symbol.Symbol.{Symbol}
use Rattle.ulam_parse.specs.declared.symbol.Symbol.TheVariants as s
use Rattle.ulam_parse.specs.Tokens.{Tok, value_of, unsigned_of}
use Rattle.ulam_parse.specs.Reading.{tired, Reader, ◌>>=◌, sees, expect, width_between, type_ref}
use Rattle.ulam_parse.specs.Statements.{whole_body}

unfoldable pub param : Reader Param
param us = do
  ty ← type_ref us
  w ← expect s.Name ty.1
  Ok (record { of = ty.0; word = w.0 }, w.1)

unfoldable pub more_params : ℕ → Reader (List Param)
more_params zero us = Err tired
more_params (suc k) us =
    if sees s.Comma us then (do
      a ← expect s.Comma us
      x ← param a.1
      xs ← more_params k x.1
      Ok (x.0 ∷ xs.0, xs.1))
    else (do
      a ← expect s.CloseParen us
      Ok ([], a.1))

-- further parameters and the closing bracket
abbrev pub later_params : Reader (List Param)
later_params us = more_params (length us + 1) us

unfoldable pub params : Reader (List Param)
params us =
    if sees s.CloseParen us then (do
      a ← expect s.CloseParen us
      Ok ([], a.1))
    else (do
      x ← param us
      xs ← later_params x.1
      Ok (x.0 ∷ xs.0, xs.1))

-- a number after its sign, if it has one
unfoldable pub const_in : Bool → Reader Const
const_in minus us = do
  n ← expect s.Number us
  Ok (const_number minus (value_of n.0.name) (unsigned_of n.0.name), n.1)

unfoldable pub truth_in : Symbol → Bool → Reader Const
truth_in k v us = do
  a ← expect k us
  Ok (const_truth v, a.1)

unfoldable pub const_value : Reader Const
const_value us =
    if sees s.Minus us then (expect s.Minus us >>= λ (a : Word × List Tok). const_in true a.1)
    else (if sees s.Number us then const_in false us
    else (if sees s.True us then truth_in s.True true us
    else (if sees s.False us then truth_in s.False false us
    else (do
      w ← expect s.Name us
      Ok (const_named w.0, w.1)))))

unfoldable pub typedef_in : Reader Member
typedef_in us = do
  a ← expect s.Typedef us
  ty ← type_ref a.1
  w ← expect s.TypeName ty.1
  b ← expect s.Semi w.1
  Ok (typedef ty.0 w.0, b.1)

unfoldable pub constant_in : Reader Member
constant_in us = do
  a ← expect s.Constant us
  ty ← type_ref a.1
  w ← expect s.Name ty.1
  b ← expect s.Set w.1
  v ← const_value b.1
  c ← expect s.Semi v.1
  Ok (constant ty.0 w.0 v.0, c.1)

unfoldable pub length_in : Reader (Option Width)
length_in us = if sees s.OpenBracket us then width_between s.OpenBracket s.CloseBracket us else Ok (None, us)

-- a function, after its name
unfoldable pub function_rest : TypeRef → Word → Reader Member
function_rest ty w us = do
  a ← expect s.OpenParen us
  ps ← params a.1
  b ← expect s.OpenBrace ps.1
  x ← whole_body b.1
  Ok (function ty w ps.0 x.0, x.1)

-- a data member, after its name
unfoldable pub field_rest : TypeRef → Word → Reader Member
field_rest ty w us = do
  l ← length_in us
  a ← expect s.Semi l.1
  Ok (field ty w l.0, a.1)

unfoldable pub named_member : Reader Member
named_member us = do
  ty ← type_ref us
  w ← expect s.Name ty.1
  if sees s.OpenParen w.1 then function_rest ty.0 w.0 w.1 else field_rest ty.0 w.0 w.1

unfoldable pub member : Reader Member
member us = if sees s.Typedef us then typedef_in us else (if sees s.Constant us then constant_in us else named_member us)

-- members and the closing brace; the number bounds the turns
unfoldable pub members : ℕ → Reader (List Member)
members zero us = Err tired
members (suc n) us =
    if sees s.CloseBrace us then (do
      a ← expect s.CloseBrace us
      Ok ([], a.1))
    else (do
      x ← member us
      xs ← members n x.1
      Ok (x.0 ∷ xs.0, xs.1))

-- all members of a class and the closing brace
abbrev pub all_members : Reader (List Member)
all_members us = members (length us + 1) us

-- a class that begins with a keyword
unfoldable pub class_in : Symbol → Bool → Reader Class
class_in k quark us = do
  a ← expect k us
  w ← expect s.TypeName a.1
  b ← expect s.OpenBrace w.1
  ms ← all_members b.1
  Ok (record { quark = quark; word = w.0; members = ms.0 }, ms.1)

unfoldable pub version_in : Reader Item
version_in us = do
  a ← expect s.Ulam us
  n ← expect s.Number a.1
  b ← expect s.Semi n.1
  Ok (ulam (value_of n.0.name), b.1)

unfoldable pub use_in : Reader Item
use_in us = do
  a ← expect s.Use us
  w ← expect s.TypeName a.1
  b ← expect s.Semi w.1
  Ok (uses w.0, b.1)

-- an element or a quark
abbrev pub any_class : Reader Class
any_class us = if sees s.Quark us then class_in s.Quark true us else class_in s.Element false us

unfoldable pub class_item : Reader Item
class_item us = do
  x ← any_class us
  Ok (class x.0, x.1)

unfoldable pub item : Reader Item
item us = if sees s.Ulam us then version_in us else (if sees s.Use us then use_in us else class_item us)

-- items, up to `End`; the number bounds the turns
unfoldable pub items : ℕ → Reader (List Item)
items zero us = Err tired
items (suc n) us =
    if sees s.End us then Ok ([], us) else (do
      x ← item us
      xs ← items n x.1
      Ok (x.0 ∷ xs.0, xs.1))

abbrev pub whole_file : Reader (List Item)
whole_file us = items (length us + 1) us
