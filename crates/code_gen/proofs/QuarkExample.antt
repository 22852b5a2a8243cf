-- A program that meets what the law of the compile scheme asks, and its code.
--     quark Q { Unsigned(4) v; Void inc(Unsigned(2) k) { v += k; } }
--     element A { Bool b; Q q; Void behave() { q.inc(1); if (q.v > 2u) b = true; } }
use Rattle.std.proofs.Common.{◌≡◌, ◌≤◌, ℕ, zero, suc, [], ◌∷◌, length, refl, arith, true, false, Some, None, map}
use Rattle.std.specs.Prelude.{pos, codes}
use Rattle.ulam_tree.specs.declared.resolved.Step.TheVariants.{Local, Member, Function}
use Rattle.ulam_tree.specs.declared.op.PairOp.TheVariants.{Add, Gt}
use Rattle.ulam_tree.specs.Locals.{all_locals}
use Rattle.atom_layout.specs.Layouts.{class_at, member_bits}
use Rattle.ulam_meaning.specs.Programs.{Program, Field, fields, members_of, field_at, function_at, behave_of, number_of, slot_types}
use Rattle.ulam_meaning.specs.Paths.{scene_of}
use Rattle.ulam_meaning.specs.Events.{behave_key}
use Rattle.ulam_meaning.specs.Laws.{bits_of}
use Rattle.ulam_meaning.proofs.Shorthand.{unsigned, bool, void, class, typed, number_form, truth_form, reads_form, pair_form, arg, no_args, no_more, then_so, no_part, test, if_so, assign_to, does_call, field_member, function_member, element, quark}
use Rattle.sat_math.specs.declared.Kind.TheVariants as k
use Rattle.stack_code.specs.declared.instr.Instr.TheVariants.{PushNum, LoadLocal, LoadField, StoreField, AddU, Gt as GtInstr, Fit, JumpFalse, Call, ReturnVoid}
use Rattle.code_gen.specs.Drafts.{keys, reach, code_of}
use Rattle.code_gen.specs.Limits.{IsShort}
use Rattle.code_gen.specs.Scheme.{draft_of}
use Rattle.code_gen.specs.Kinded.{IsKinded, KindedBody}
use Rattle.code_gen.specs.Compiled.{element_code}
use Rattle.code_gen.specs.Means.{Means}
use Rattle.code_gen.proofs.ElementMeans.{element_means}

counter : Program
counter = record {
  classes =
      quark (field_member (unsigned 4) 0 ∷ function_member void (codes "inc") (unsigned 2 ∷ []) (then_so (assign_to (Member 0 0 ∷ []) None (Some Add) (typed (reads_form (Local 0 ∷ [])) (unsigned 2))) no_more) ∷ []) ∷
      element (field_member bool 0 ∷ field_member (class 0) 0 ∷ function_member void (codes "behave") [] (then_so (does_call (Member 1 1 ∷ Function 0 0 ∷ []) (arg (typed (number_form 1 false) (unsigned 32)) no_args)) (then_so (if_so (test (typed (pair_form Gt (typed (reads_form (Member 1 1 ∷ Member 0 0 ∷ [])) (unsigned 4)) (typed (number_form 2 true) (unsigned 32))) bool)) (assign_to (Member 1 0 ∷ []) None None (typed (truth_form true) bool)) no_part) no_more)) ∷ []) ∷
      [];
  layout = (4 ∷ []) ∷ (1 ∷ 4 ∷ []) ∷ [];
}

counter_code : (element_code counter 1 1).instrs ≡ PushNum (pos 1) ∷ Fit k.Unsigned 2 ∷ Call 1 ∷ LoadField 1 4 k.Unsigned ∷ PushNum (pos 2) ∷ GtInstr ∷ JumpFalse 9 ∷ PushNum (pos 1) ∷ StoreField 0 1 k.Bool ∷ ReturnVoid ∷ LoadField 1 4 k.Unsigned ∷ LoadLocal 0 ∷ AddU ∷ StoreField 1 4 k.Unsigned ∷ ReturnVoid ∷ []
unfolding counter field_at function_at behave_of number_of all_locals code_of keys reach
counter_code = refl

counter_widths : (c : ℕ) → class_at counter.layout c ≡ map (λ (f : Field). member_bits (bits_of counter) f.ty f.length) (fields (members_of counter c))
unfolding counter
counter_widths zero = refl
counter_widths (suc zero) = refl
counter_widths (suc (suc c)) = refl

counter_most : (c : ℕ) → bits_of counter c ≤ 71
unfolding counter
counter_most zero = omega arith
counter_most (suc zero) = omega arith
counter_most (suc (suc c)) = omega arith

counter_bodies : (c f base : ℕ) → KindedBody (scene_of counter (record { class = c; function = f; base = base })) c (function_at counter c f).body
unfolding counter field_at function_at all_locals
counter_bodies zero zero base = ((((refl, tt), tt), ((0, tt), refl), (refl, (refl, refl), (refl, refl), refl)), tt)
counter_bodies zero (suc f) base = tt
counter_bodies (suc zero) zero base = (((refl, (refl, tt)), ((refl, refl), refl, (refl, refl), tt)), ((((((refl, (refl, tt)), (refl, refl)), (refl, refl), refl, refl, refl, refl), refl), ((((refl, tt), tt), refl, (refl, refl))), tt), tt))
counter_bodies (suc zero) (suc f) base = tt
counter_bodies (suc (suc c)) f base = tt

counter_slots : (c f : ℕ) → length (slot_types (function_at counter c f)) ≤ 72
unfolding counter function_at all_locals
counter_slots zero zero = omega arith
counter_slots zero (suc f) = omega arith
counter_slots (suc zero) zero = omega arith
counter_slots (suc zero) (suc f) = omega arith
counter_slots (suc (suc c)) f = omega arith

counter_kinded : IsKinded counter 1
unfolding counter function_at behave_of
counter_kinded = record {
  laid = record { widths = counter_widths; most = counter_most };
  bodies = λ f. counter_bodies f.class f.function f.base;
  slots = λ f. counter_slots f.class f.function;
  no_params = refl;
  no_result = refl;
}

counter_short : IsShort (draft_of counter) (behave_key counter 1)
unfolding counter field_at function_at behave_of number_of all_locals keys reach
counter_short = record { few = omega arith; low = refl }

counter_mean : Means counter 1 (element_code counter (number_of counter 1) 1)
unfolding counter
counter_mean = element_means counter 1 _ refl refl counter_kinded counter_short
