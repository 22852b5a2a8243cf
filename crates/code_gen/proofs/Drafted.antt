-- The functions of a program whose trees have the right kinds are ready to be laid down.
use Rattle.std.proofs.Common.{◌≡◌, ℕ, ◌+◌, List, [], ◌∷◌, ◌++◌, length, refl, ap, subst, arith, true, map}
use Rattle.std.proofs.lemmas.Bool.{le-leb, leb-true}
use Rattle.std.proofs.lemmas.List.{length-map}
use Rattle.ulam_tree.specs.declared.resolved.Ty.{Ty}
use Rattle.ulam_tree.specs.Locals.{all_locals}
use Rattle.ulam_meaning.specs.Programs.{Program, slot_types}
use Rattle.ulam_meaning.specs.Paths.{Key, function_of, scene_of}
use Rattle.ulam_meaning.specs.Events.{behave_key}
use Rattle.ulam_meaning.specs.Laws.{bits_of}
use Rattle.stack_code.specs.Valid.{Kinds}
use Rattle.stack_code.specs.declared.instr.Operand.{Operand}
use Rattle.code_gen.specs.Drafts.{slots_of, has_room}
use Rattle.code_gen.specs.Kinds.{Setting}
use Rattle.code_gen.specs.Scheme.{operand_of, answer_of, body_piece, draft_of}
use Rattle.code_gen.specs.Kinded.{IsKinded}
use Rattle.code_gen.specs.Laws.{IsGood, IsReady}
use Rattle.code_gen.proofs.Fitted.{Leaves, body_leaves}

map_join : (f : Ty → Operand) (xs ys : List Ty) → map f (xs ++ ys) ≡ map f xs ++ map f ys
map_join f [] ys = refl
map_join f (x ∷ xs) ys = ap (λ l. f x ∷ l) (map_join f xs ys)

with_slots : Program → Key → Kinds → Setting
with_slots g f slots = record { drafts = draft_of g; slots = slots; answer = answer_of (function_of g f).result }

good : (g : Program) (c : ℕ) → IsKinded g c → (f : Key) → has_room (draft_of g) f ≡ true → IsGood (draft_of g) f
unfolding with_slots
good g c k f room =
    let fn = function_of g f in
    let z = scene_of g f in
    let q = body_piece z fn.body in
    let same : map operand_of (slot_types fn) ≡ slots_of (draft_of g f) = map_join operand_of fn.params (all_locals fn.body) in
    let x : Leaves (with_slots g f (map operand_of (slot_types fn))) q [] [] = body_leaves z f.class k.laid (leb-true (f.base + bits_of g f.class) 71 room) fn.body (k.bodies f) in
    let w = subst (λ l. Leaves (with_slots g f l) q [] []) same x in
    record { fits = w.0; stops = w.1; slots = omega (arith, k.slots f, ap length same, length-map (slot_types fn) operand_of) }

pub kinded_ready : (g : Program) (c : ℕ) → IsKinded g c → IsReady (draft_of g) (behave_key g c)
kinded_ready g c k = record {
  good = good g c k;
  room = le-leb (0 + bits_of g c) 71 (omega (arith, k.laid.most c));
  no_params = ap (map operand_of) k.no_params;
  no_answer = ap answer_of k.no_result;
}
