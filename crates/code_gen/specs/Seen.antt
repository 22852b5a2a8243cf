-- The code's program, and what it finds there, as plain data.
use Rattle.std.specs.Prelude.{map, Option, Some, None, ℕ}
use Rattle.ulam_tree.specs.ResolvedViews.{resolved_param, resolved_path}
use Rattle.ulam_tree.specs.TypedViews.{typed_body}
use Rattle.ulam_tree.specs.declared.resolved.Path.{Path}
use Rattle.ulam_meaning.specs.Programs.{Program, Field, Function, param_types}
use Rattle.ulam_meaning.specs.Paths.{Span, Spot, itself, local, member, part, window, constant, nothing, Callee, called, built_in, no_callee, Scene}
use Rattle.code_gen.specs.Scheme.{spot_at, callee_at}
use Rattle.code_gen.specs.Sized.{program_view}
use Rattle.code_gen.specs.Views.{key_of}
use Rattle.code_gen.specs.declared.classes.Classes.{Classes}
use Rattle.code_gen.specs.declared.classes.Field.{Field as CodeField}
use Rattle.code_gen.specs.declared.classes.Function.{Function as CodeFunction}
use Rattle.code_gen.specs.declared.classes.Scene.{Scene as CodeScene}
use Rattle.code_gen.specs.declared.classes.Span.{Span as CodeSpan}
use Rattle.code_gen.specs.declared.classes.Spot.{Spot as CodeSpot}
use Rattle.code_gen.specs.declared.classes.Spot.TheVariants as s
use Rattle.code_gen.specs.declared.classes.Callee.{Callee as CodeCallee}
use Rattle.code_gen.specs.declared.classes.Callee.TheVariants as c

abbrev pub program_of : Classes → Program
program_of p = program_view p.typed.now p.layout.now

abbrev pub field_of : CodeField → Field
field_of f = record { ty = f.ty; length = f.length }

abbrev pub function_of : CodeFunction → Function
function_of f = record { name = f.name.now; params = param_types (map resolved_param f.params.now); result = f.result; body = typed_body f.body.now }

abbrev pub scene_of : CodeScene → Scene
scene_of z = record { program = program_of z.classes.now; base = z.base; slots = z.slots.now; result = z.result }

abbrev pub span_of : CodeSpan → Span
span_of p = record { first = p.first; num = p.num; length = p.length }

abbrev pub spot_of : CodeSpot → Spot
spot_of s.Own = itself
spot_of (s.Local i) = local i
spot_of (s.Member p) = member (span_of p)
spot_of (s.Part i p) = part i (span_of p)
spot_of s.Window = window
spot_of (s.Constant v) = constant v
spot_of s.Nothing = nothing

abbrev pub callee_of : CodeCallee → Callee
callee_of (c.Called k) = called (key_of k)
callee_of (c.Built b) = built_in b
callee_of c.Nothing = no_callee

-- whose bits data members are: those of the atom in a slot, or else of the acting element
abbrev pub numbers_of : Option ℕ → Span → Spot
numbers_of None = member
numbers_of (Some i) = part i

-- what a path names in a scene, and what it calls
abbrev pub path_spot : CodeScene → Path → Spot
path_spot scene path = spot_at (scene_of scene) (resolved_path path)

abbrev pub path_callee : CodeScene → Path → Callee
path_callee scene path = callee_at (scene_of scene) (resolved_path path)
