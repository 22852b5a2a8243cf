-- Events that fail, each with its number: the window is the old one, with Empty at site 0.
use Rattle.std.proofs.Common.{◌≡◌, [], ◌∷◌, refl, true, false, Some, None}
use Rattle.std.specs.Prelude.{codes}
use Rattle.ulam_tree.specs.declared.resolved.Step.TheVariants.{Local, Member, Function, Built}
use Rattle.ulam_tree.specs.declared.resolved.Built.TheVariants.{Swap, Create}
use Rattle.ulam_tree.specs.declared.op.PrefixOp.TheVariants.{Minus}
use Rattle.ulam_tree.specs.declared.op.PairOp.TheVariants.{Add, Sub, Div, Lt, Gt}
use Rattle.ulam_tree.specs.Locals.{all_locals}
use Rattle.ulam_meaning.specs.Programs.{Program, field_at, function_at, behave_of, number_of, element_of}
use Rattle.ulam_meaning.specs.Events.{calls_at, behaves, after}
use Rattle.ulam_meaning.proofs.Shorthand.{int, unsigned, bool, atom, void, event_window, random, class, typed, number_form, truth_form, reads_form, index_form, prefix_form, pair_form, arg, no_args, no_more, then_so, no_part, part, test, block, if_so, while_so, for_all, declare_local, assign_to, count_at, does_call, field_member, function_member, element, quark, of_kind, window_of, ending}

-- A loop that never ends spends its turns.
--     element Spin { Void behave() { while (true) { } } }
spin : Program
spin = record {
  classes = element (function_member void (codes "behave") ([]) (then_so (while_so (typed (truth_form true) (bool)) (block no_more)) no_more) ∷ []) ∷
      [];
  layout = ([]) ∷ [];
}

spin_fails : ending spin (window_of ((0, of_kind 1 0) ∷ (4, of_kind 1 0) ∷ []) ([])) 0 ≡ (Some 1, window_of ((4, of_kind 1 0) ∷ []) ([]))
unfolding spin field_at function_at behave_of number_of element_of calls_at behaves after all_locals Rattle.draw_stream.specs.Words.event_step Rattle.draw_stream.specs.Words.event_state
spin_fails = refl

-- One turn more is not.
--     element Loop { Void behave() { for (Unsigned i = 0; i < 1001; i++) { } } }
thousand_and_one : Program
thousand_and_one = record {
  classes = element (function_member void (codes "behave") ([]) (then_so (for_all (part (declare_local (unsigned 32) 0 (Some (typed (number_form 0 false) (unsigned 32))))) (Some (typed (pair_form Lt (typed (reads_form (Local 0 ∷ [])) (unsigned 32)) (typed (number_form 1001 false) (unsigned 32))) (bool))) (part (count_at (Local 0 ∷ []) None true)) (block no_more)) no_more) ∷ []) ∷
      [];
  layout = ([]) ∷ [];
}

thousand_and_one_turns : ending thousand_and_one (window_of ((0, of_kind 1 0) ∷ []) ([])) 0 ≡ (Some 1, window_of ([]) ([]))
unfolding thousand_and_one field_at function_at behave_of number_of element_of calls_at behaves after all_locals Rattle.draw_stream.specs.Words.event_step Rattle.draw_stream.specs.Words.event_state
thousand_and_one_turns = refl

-- Sixteen calls nest, and the seventeenth fails.
--     element Deep { Unsigned(5) n; Void down(Unsigned(5) k) { if (k > 1) down(k - 1); } Void behave() { down(n); } }
deep : Program
deep = record {
  classes = element (field_member (unsigned 5) 0 ∷ function_member void (codes "down") ((unsigned 5) ∷ []) (then_so (if_so (test (typed (pair_form Gt (typed (reads_form (Local 0 ∷ [])) (unsigned 5)) (typed (number_form 1 false) (unsigned 32))) (bool))) (does_call (Function 0 0 ∷ []) (arg (typed (pair_form Sub (typed (reads_form (Local 0 ∷ [])) (unsigned 5)) (typed (number_form 1 false) (unsigned 32))) (unsigned 32)) no_args)) no_part) no_more) ∷ function_member void (codes "behave") ([]) (then_so (does_call (Function 0 0 ∷ []) (arg (typed (reads_form (Member 0 0 ∷ [])) (unsigned 5)) no_args)) no_more) ∷ []) ∷
      [];
  layout = (5 ∷ []) ∷ [];
}

sixteen_calls : ending deep (window_of ((0, of_kind 1 1180591620717411303424) ∷ []) ([])) 0 ≡ (None, window_of ((0, of_kind 1 1180591620717411303424) ∷ []) ([]))
unfolding deep field_at function_at behave_of number_of element_of calls_at behaves after all_locals Rattle.draw_stream.specs.Words.event_step Rattle.draw_stream.specs.Words.event_state
sixteen_calls = refl

seventeen_calls : ending deep (window_of ((0, of_kind 1 1254378597012249509888) ∷ []) ([])) 0 ≡ (Some 2, window_of ([]) ([]))
unfolding deep field_at function_at behave_of number_of element_of calls_at behaves after all_locals Rattle.draw_stream.specs.Words.event_step Rattle.draw_stream.specs.Words.event_state
seventeen_calls = refl

-- A division by zero fails: the centre becomes Empty, and all else stays.
--     element Fail { Void behave() { Int x = 0; x = 1 / x; } } element Stone { Unsigned(2) d; Void behave() { } }
by_zero : Program
by_zero = record {
  classes = element (function_member void (codes "behave") ([]) (then_so (declare_local (int 32) 0 (Some (typed (number_form 0 false) (int 32)))) (then_so (assign_to (Local 0 ∷ []) None None (typed (pair_form Div (typed (number_form 1 false) (int 32)) (typed (reads_form (Local 0 ∷ [])) (int 32))) (int 32))) no_more)) ∷ []) ∷
      element (field_member (unsigned 2) 0 ∷ function_member void (codes "behave") ([]) no_more ∷ []) ∷
      [];
  layout = ([]) ∷ (2 ∷ []) ∷ [];
}

by_zero_fails : ending by_zero (window_of ((0, of_kind 1 590295810358705651712) ∷ (1, of_kind 2 1180591620717411303424) ∷ (3, of_kind 1 0) ∷ []) ([])) 0 ≡ (Some 3, window_of ((1, of_kind 2 1180591620717411303424) ∷ (3, of_kind 1 0) ∷ []) ([]))
unfolding by_zero field_at function_at behave_of number_of element_of calls_at behaves after all_locals Rattle.draw_stream.specs.Words.event_step Rattle.draw_stream.specs.Words.event_state
by_zero_fails = refl

-- There is no site 41.
--     element Fail { EventWindow ew; Void behave() { Atom a = ew[41]; } } element Stone { Unsigned(2) d; Void behave() { } }
far_site : Program
far_site = record {
  classes = element (field_member event_window 0 ∷ function_member void (codes "behave") ([]) (then_so (declare_local atom 0 (Some (typed (index_form (Member 0 0 ∷ []) (typed (number_form 41 false) (int 32))) atom))) no_more) ∷ []) ∷
      element (field_member (unsigned 2) 0 ∷ function_member void (codes "behave") ([]) no_more ∷ []) ∷
      [];
  layout = (0 ∷ []) ∷ (2 ∷ []) ∷ [];
}

far_site_fails : ending far_site (window_of ((0, of_kind 1 590295810358705651712) ∷ (1, of_kind 2 1180591620717411303424) ∷ []) ([])) 0 ≡ (Some 4, window_of ((1, of_kind 2 1180591620717411303424) ∷ []) ([]))
unfolding far_site field_at function_at behave_of number_of element_of calls_at behaves after all_locals Rattle.draw_stream.specs.Words.event_step Rattle.draw_stream.specs.Words.event_state
far_site_fails = refl

-- A random number below 0 has no values.
--     element Fail { Random random; Void behave() { random.create(0); } } element Stone { Unsigned(2) d; Void behave() { } }
no_choice : Program
no_choice = record {
  classes = element (field_member random 0 ∷ function_member void (codes "behave") ([]) (then_so (does_call (Member 0 0 ∷ Built Create ∷ []) (arg (typed (number_form 0 false) (int 32)) no_args)) no_more) ∷ []) ∷
      element (field_member (unsigned 2) 0 ∷ function_member void (codes "behave") ([]) no_more ∷ []) ∷
      [];
  layout = (0 ∷ []) ∷ (2 ∷ []) ∷ [];
}

no_choice_fails : ending no_choice (window_of ((0, of_kind 1 590295810358705651712) ∷ []) ([])) 0 ≡ (Some 5, window_of ([]) ([]))
unfolding no_choice field_at function_at behave_of number_of element_of calls_at behaves after all_locals Rattle.draw_stream.specs.Words.event_step Rattle.draw_stream.specs.Words.event_state
no_choice_fails = refl

-- A member is written where the acting atom has left site 0: the swap is undone.
--     element Fail { EventWindow ew; Unsigned(2) d; Void behave() { ew.swap(0, 4); d = 1; } } element Stone { Unsigned(2) d; Void behave() { } }
swapped : Program
swapped = record {
  classes = element (field_member event_window 0 ∷ field_member (unsigned 2) 0 ∷ function_member void (codes "behave") ([]) (then_so (does_call (Member 0 0 ∷ Built Swap ∷ []) (arg (typed (number_form 0 false) (int 32)) (arg (typed (number_form 4 false) (int 32)) no_args))) (then_so (assign_to (Member 0 1 ∷ []) None None (typed (number_form 1 false) (unsigned 32))) no_more)) ∷ []) ∷
      element (field_member (unsigned 2) 0 ∷ function_member void (codes "behave") ([]) no_more ∷ []) ∷
      [];
  layout = (0 ∷ 2 ∷ []) ∷ (2 ∷ []) ∷ [];
}

swapped_fails : ending swapped (window_of ((0, of_kind 1 590295810358705651712) ∷ (1, of_kind 2 1180591620717411303424) ∷ (3, of_kind 1 0) ∷ []) ([])) 0 ≡ (Some 6, window_of ((1, of_kind 2 1180591620717411303424) ∷ (3, of_kind 1 0) ∷ []) ([]))
unfolding swapped field_at function_at behave_of number_of element_of calls_at behaves after all_locals Rattle.draw_stream.specs.Words.event_step Rattle.draw_stream.specs.Words.event_state
swapped_fails = refl

-- An element of an array is changed; an index past its end fails.
--     element Arr { Unsigned(3) a[4]; Unsigned(3) i; Void behave() { a[i] += 2; i = i + 1; } }
steps : Program
steps = record {
  classes = element (field_member (unsigned 3) 4 ∷ field_member (unsigned 3) 0 ∷ function_member void (codes "behave") ([]) (then_so (assign_to (Member 0 0 ∷ []) (Some (typed (reads_form (Member 0 1 ∷ [])) (unsigned 3))) (Some Add) (typed (number_form 2 false) (unsigned 32))) (then_so (assign_to (Member 0 1 ∷ []) None None (typed (pair_form Add (typed (reads_form (Member 0 1 ∷ [])) (unsigned 3)) (typed (number_form 1 false) (unsigned 32))) (unsigned 32))) no_more)) ∷ []) ∷
      [];
  layout = (12 ∷ 3 ∷ []) ∷ [];
}

steps_on : ending steps (window_of ((0, of_kind 1 0) ∷ []) ([])) 0 ≡ (None, window_of ((0, of_kind 1 590367867952743579648) ∷ []) ([]))
unfolding steps field_at function_at behave_of number_of element_of calls_at behaves after all_locals Rattle.draw_stream.specs.Words.event_step Rattle.draw_stream.specs.Words.event_state
steps_on = refl

steps_past : ending steps (window_of ((0, of_kind 1 288230376151711744) ∷ []) ([])) 0 ≡ (Some 7, window_of ([]) ([]))
unfolding steps field_at function_at behave_of number_of element_of calls_at behaves after all_locals Rattle.draw_stream.specs.Words.event_step Rattle.draw_stream.specs.Words.event_state
steps_past = refl

-- Site 0 is tested before the index.
--     element A { EventWindow ew; Unsigned(3) a[3]; Void behave() { ew.swap(0, 4); a[1] = 2; } } element Stone { Unsigned(4) d; Void behave() { } }
swapped_array : Program
swapped_array = record {
  classes = element (field_member event_window 0 ∷ field_member (unsigned 3) 3 ∷ function_member void (codes "behave") ([]) (then_so (does_call (Member 0 0 ∷ Built Swap ∷ []) (arg (typed (number_form 0 false) (int 32)) (arg (typed (number_form 4 false) (int 32)) no_args))) (then_so (assign_to (Member 0 1 ∷ []) (Some (typed (number_form 1 false) (int 32))) None (typed (number_form 2 false) (unsigned 32))) no_more)) ∷ []) ∷
      element (field_member (unsigned 4) 0 ∷ function_member void (codes "behave") ([]) no_more ∷ []) ∷
      [];
  layout = (0 ∷ 9 ∷ []) ∷ (4 ∷ []) ∷ [];
}

swapped_array_fails : ending swapped_array (window_of ((0, of_kind 1 0) ∷ (1, of_kind 1 0) ∷ []) ([])) 0 ≡ (Some 6, window_of ((1, of_kind 1 0) ∷ []) ([]))
unfolding swapped_array field_at function_at behave_of number_of element_of calls_at behaves after all_locals Rattle.draw_stream.specs.Words.event_step Rattle.draw_stream.specs.Words.event_state
swapped_array_fails = refl

-- The index of an array of a local is tested too.
--     quark Q { Bool b[3]; Bool c; } element A { Int(4) a[4]; Int(4) n; Q q; Void behave() { a[0] = 5; A x; x.a[-1] = 0; } }
local_index : Program
local_index = record {
  classes = quark (field_member (bool) 3 ∷ field_member (bool) 0 ∷ []) ∷
      element (field_member (int 4) 4 ∷ field_member (int 4) 0 ∷ field_member (class 0) 0 ∷ function_member void (codes "behave") ([]) (then_so (assign_to (Member 1 0 ∷ []) (Some (typed (number_form 0 false) (int 32))) None (typed (number_form 5 false) (int 32))) (then_so (declare_local (class 1) 0 None) (then_so (assign_to (Local 0 ∷ Member 1 0 ∷ []) (Some (typed (prefix_form Minus (typed (number_form 1 false) (int 32))) (int 32))) None (typed (number_form 0 false) (int 32))) no_more))) ∷ []) ∷
      [];
  layout = (3 ∷ 1 ∷ []) ∷ (16 ∷ 4 ∷ 4 ∷ []) ∷ [];
}

local_index_fails : ending local_index (window_of ((0, of_kind 1 0) ∷ []) ([])) 0 ≡ (Some 7, window_of ([]) ([]))
unfolding local_index field_at function_at behave_of number_of element_of calls_at behaves after all_locals Rattle.draw_stream.specs.Words.event_step Rattle.draw_stream.specs.Words.event_state
local_index_fails = refl
