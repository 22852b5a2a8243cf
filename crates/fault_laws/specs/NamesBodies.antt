-- The names in the body of a function, in the order of the text, each with what is in sight there.
use Rattle.std.specs.Prelude.{List, [], ◌∷◌, ◌++◌, map, flat_map, filter, find, reverse, Option, Some, None, option_map, Bool, true, false, not, if◌then◌else◌}
use Rattle.std.specs.Option.{option_and_then, option_map_or, option_or}
use Rattle.std.specs.Str.{bytes_eq}
use Rattle.feast_base.specs.declared.place.Place.{Place}
use Rattle.ulam_tree.specs.declared.resolved.Ty.{Ty}
use Rattle.ulam_tree.specs.declared.resolved.Ty.TheVariants as y
use Rattle.ulam_tree.specs.declared.resolved.Step.{Step}
use Rattle.ulam_tree.specs.Raw.{Word, TypeRef, Param, Path, Expr, Args, Cond, Left, Statement, Part, Body, number, truth, reads, calls, index, instance, group, cast, prefix, pair, is, no_args, arg, seen, test, block, empty, if_so, while_so, for_all, returns, breaks, continues, declares, assigns, counts, does, no_part, part, no_more, then_so}
use Rattle.ulam_names.specs.declared.basic.Basic.{Basic}
use Rattle.ulam_names.specs.Scopes.{Text, basic_named, Head, Context, is_element, inside_local, in_own_class, next_name}
use Rattle.ulam_names.specs.Walk.{bare}

-- Names that are used: of a type with its width, of a class, or of a path.
pub data Use : Type 0 where
  of_type : TypeRef → Use
  of_class : Word → Use
  of_path : Path → Use

abbrev mutual
  pub expr_uses : Expr → List Use
  expr_uses (number n u p) = []
  expr_uses (truth b p) = []
  expr_uses (reads x) = of_path x ∷ []
  expr_uses (calls x xs) = of_path x ∷ args_uses xs
  expr_uses (index x e) = of_path x ∷ expr_uses e
  expr_uses (instance w) = of_class w ∷ []
  expr_uses (group e p) = expr_uses e
  expr_uses (cast ty e p) = of_type ty ∷ expr_uses e
  expr_uses (prefix op e p) = expr_uses e
  expr_uses (pair op e f p) = expr_uses e ++ expr_uses f
  expr_uses (is e w p) = expr_uses e ++ of_class w ∷ []

  pub args_uses : Args → List Use
  args_uses no_args = []
  args_uses (arg e xs) = expr_uses e ++ args_uses xs

abbrev pub maybe_uses : Option Expr → List Use
maybe_uses None = []
maybe_uses (Some e) = expr_uses e

abbrev pub left_uses : Left → List Use
left_uses l = of_path l.path ∷ maybe_uses l.index

abbrev pub cond_uses : Cond → List Use
cond_uses (seen w d) = of_path (record { own = None; words = w ∷ [] }) ∷ of_class d ∷ []
cond_uses (test e) = expr_uses e

-- A parameter or local, or a name that `as` shows as an element; and what a name behind it and a dot is looked up in.
pub record Local : Type 0 where
  pub name : Text
  pub shown : Bool
  pub inside : Ty

-- What is in sight at a place, in the order of the text: what the scopes around declare or show, and what the innermost one has declared.
pub record Sight : Type 0 where
  pub around : List Local
  pub own : List Local

abbrev pub in_sight : Sight → List Local
in_sight s = s.around ++ s.own

-- the names of parameters and locals, without those that are only shown
abbrev pub local_names : List Local → List Text
local_names ls = map (λ (l : Local). l.name) (filter (λ (l : Local). not l.shown) ls)

-- a scope within
abbrev pub inner : Sight → Sight
inner s = record { around = s.around ++ s.own; own = [] }

-- the type that a name means, without its width
abbrev pub type_of_name : Context → Text → Ty
type_of_name c n = option_map_or (λ (b : Basic). bare b) (basic_named c.typedefs c.classes n) y.Nothing

-- a local of a type
abbrev pub local : Context → Text → Text → Local
local c name of = record { name = name; shown = false; inside = inside_local c.heads (type_of_name c of) }

-- what a condition shows in the branch behind it
abbrev pub shown_by : Context → Cond → List Local
shown_by c (seen w d) = if is_element c.heads (type_of_name c d.name) then record { name = w.name; shown = true; inside = type_of_name c d.name } ∷ [] else []
shown_by c (test e) = []

abbrev pub branch : Context → Sight → Cond → Sight
branch c s k = record { around = (s.around ++ s.own) ++ shown_by c k; own = [] }

-- behind a statement of the scope
abbrev pub behind : Context → Sight → Statement → Sight
behind c s (declares ty w e) = record { around = s.around; own = s.own ++ local c w.name ty.word.name ∷ [] }
behind c s _ = s

abbrev pub behind_part : Context → Sight → Part → Sight
behind_part c s no_part = s
behind_part c s (part x) = behind c s x

-- a name in a body, with what is in sight there: one that is used, or one that a local is declared with
pub data Mention : Type 0 where
  used : Sight → Use → Mention
  declared : Sight → Word → Mention

abbrev pub all_used : Sight → List Use → List Mention
all_used s us = map (λ (u : Use). used s u) us

abbrev mutual
  pub statement_names : Context → Sight → Statement → List Mention
  statement_names c s (block b) = body_names c (inner s) b
  statement_names c s empty = []
  statement_names c s (if_so k x z) = all_used s (cond_uses k) ++ statement_names c (branch c s k) x ++ part_names c (inner s) z
  statement_names c s (while_so k x) = all_used s (expr_uses k) ++ statement_names c (inner s) x
  statement_names c s (for_all f k g x) =
      part_names c (inner s) f
      ++ all_used (behind_part c (inner s) f) (maybe_uses k)
      ++ part_names c (behind_part c (inner s) f) g
      ++ statement_names c (inner (behind_part c (inner s) f)) x
  statement_names c s (returns p e) = all_used s (maybe_uses e)
  statement_names c s (breaks p) = []
  statement_names c s (continues p) = []
  statement_names c s (declares ty w e) = used s (of_type ty) ∷ declared s w ∷ all_used s (maybe_uses e)
  statement_names c s (assigns l op e) = all_used s (left_uses l ++ expr_uses e)
  statement_names c s (counts l up) = all_used s (left_uses l)
  statement_names c s (does x xs) = all_used s (of_path x ∷ args_uses xs)

  pub part_names : Context → Sight → Part → List Mention
  part_names c s no_part = []
  part_names c s (part x) = statement_names c s x

  pub body_names : Context → Sight → Body → List Mention
  body_names c s no_more = []
  body_names c s (then_so x b) = statement_names c s x ++ body_names c (behind c s x) b

-- the locals that are declared among these names
abbrev pub local_word : Mention → List Word
local_word (used s u) = []
local_word (declared s w) = w ∷ []

abbrev pub locals_in : List Mention → List Word
locals_in ms = flat_map local_word ms

-- Parameters are in sight from the beginning on, in one scope with the outermost locals.
abbrev pub first_sight : Context → List Param → Sight
first_sight c ps = record { around = []; own = map (λ (p : Param). local c p.word.name p.of.word.name) ps }

-- Where the names of a path lead: the type in which the next one is looked up. The last of a name in sight comes first, then what the class declares.
abbrev pub start_type : Context → List Local → Text → Option Ty
start_type c ls n =
    option_or (option_map (λ (l : Local). l.inside) (find (λ (l : Local). bytes_eq n l.name) (reverse ls)))
    (option_map (λ (x : Step × Ty). x.1) (in_own_class c n))

abbrev pub type_after : List Head → Ty → List Word → Option Ty
type_after heads ty [] = Some ty
type_after heads ty (w ∷ ws) = option_and_then (λ (x : Step × Ty). type_after heads x.1 ws) (next_name heads ty w.name)

abbrev pub leads_to : Context → List Local → Option Place → List Word → Option Ty
leads_to c ls (Some self) ws = type_after c.heads (y.Class c.own) ws
leads_to c ls None [] = None
leads_to c ls None (w ∷ ws) = option_and_then (λ (ty : Ty). type_after c.heads ty ws) (start_type c ls w.name)
