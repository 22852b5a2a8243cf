-- Each function of a program that is well typed and named has a sound piece.
use Rattle.std.proofs.Common.{ℕ, zero, suc, ◌≡◌, ◌+◌, ◌<◌, ◌≤◌, ◌^◌, false, List, [], ◌∷◌, map, refl, arith}
use Rattle.std.specs.Prelude.{slice_get, slice_index_or}
use Rattle.std.specs.Option.{option_map_or}
use Rattle.ulam_meaning.proofs.EventLaws.{count_first}
use Rattle.ulam_tree.specs.declared.resolved.Ty.{Ty}
use Rattle.ulam_tree.specs.declared.resolved.Ty.TheVariants as y
use Rattle.ulam_tree.specs.Typed as t
use Rattle.type_rules.specs.Scopes as s
use Rattle.type_rules.specs.Programs.{class_sig, scope_of}
use Rattle.type_rules.specs.Well.{AreWellClasses, AreWellMembers, IsWellBody, IsWellProgram, IsWellStatement}
use Rattle.ulam_meaning.specs.Programs.{Function, Program, count_elements, function_at, functions, no_function, number_of, type_number}
use Rattle.ulam_meaning.specs.Paths.{Key, function_of, scene_of}
use Rattle.code_gen.specs.Drafts.{key_piece}
use Rattle.code_gen.specs.Named.{IsNamedProgram}
use Rattle.code_gen.specs.Scheme.{answer_of, draft_of}
use Rattle.pack_laws.proofs.SoundPieces.{Sound, end_sound}
use Rattle.pack_laws.proofs.SoundScheme.{body_sound}
use Rattle.pack_laws.proofs.TypedWords.{ClassesFormed, IsFormedKey}

-- Type numbers

-- no type has a greater number than there are elements
pub few_types : (g : Program) (ty : Ty) → type_number g ty ≤ count_elements g.classes
unfolding number_of
few_types g (y.Class c) = count_first (suc c) g.classes
few_types g ty = omega arith

-- Bodies

-- a body that is well typed in some scope of these classes
record WellBody (sigs : List s.ClassSig) (f : Function) : Type 0 where
  pub scope : s.Scope
  pub classes : scope.classes ≡ sigs
  pub body : IsWellBody scope f.body

no_body : (sigs : List s.ClassSig) → WellBody sigs no_function
unfolding IsWellStatement
no_body sigs = record { scope = record { classes = sigs; class = 0; slots = []; result = y.Nothing; looped = false }; classes = refl; body = tt }

member_well : (sigs : List s.ClassSig) (k : ℕ) (ms : List t.Member) (n : ℕ) → AreWellMembers sigs k ms → WellBody sigs (slice_index_or (functions ms) n no_function)
member_well sigs k [] n h = no_body sigs
member_well sigs k (t.field of w l ∷ ms) n h = member_well sigs k ms n h.1
member_well sigs k (t.function of w ps b ∷ ms) zero h = record { scope = scope_of sigs k of.ty ps b; classes = refl; body = h.0.2 }
member_well sigs k (t.function of w ps b ∷ ms) (suc n) h = member_well sigs k ms n h.1

class_well : (sigs : List s.ClassSig) (k : ℕ) (cs : List t.Class) (j n : ℕ) → AreWellClasses sigs k cs → WellBody sigs (slice_index_or (functions (option_map_or (λ (c : t.Class). c.members) (slice_get cs j) [])) n no_function)
class_well sigs k [] j n h = no_body sigs
class_well sigs k (c ∷ cs) zero n h = member_well sigs k c.members n h.0
class_well sigs k (c ∷ cs) (suc j) n h = class_well sigs (k + 1) cs j n h.1

function_well : (g : Program) → IsWellProgram g.classes → (f : Key) → WellBody (map class_sig g.classes) (function_of g f)
unfolding function_at
function_well g h f = class_well (map class_sig g.classes) 0 g.classes f.class f.function h

-- the whole piece of each function
pub key_sound : (g : Program) (most : ℕ) → count_elements g.classes ≤ most → most < 2 ^ 16 → IsWellProgram g.classes → IsNamedProgram g → ClassesFormed g.classes → (f : Key) → Sound most (IsFormedKey g) (key_piece (draft_of g) f)
key_sound g most enough few well named formed f =
    let numbers = λ (ty : Ty). (let h = few_types g ty in let k : type_number g ty ≤ most = omega (arith, h, enough) in k) in
    let body = function_well g well f in (
      body_sound most few (scene_of g f) f.class numbers formed body.scope body.classes (function_of g f).body body.body (named.bodies f),
      end_sound most (IsFormedKey g) (answer_of (function_of g f).result) (type_number g (function_of g f).result) (numbers (function_of g f).result),
    )
