-- Programs and their first faults, by computing.
use Rattle.std.specs.Prelude.{ℕ, ◌≡◌, List, [], ◌∷◌, Option, Some, None, true, false, Ok, Err, refl, codes}
use Rattle.feast_base.specs.declared.place.Place.{Place}
use Rattle.ulam_tree.specs.declared.op.PairOp.TheVariants as q
use Rattle.ulam_tree.specs.Raw as t
use Rattle.ulam_names.specs.Scopes.{built_in, of_window, of_random}
use Rattle.ulam_names.specs.Classes.{program}
use Rattle.ulam_tree.specs.Ways.{leads}
use Rattle.ulam_names.specs.Faults.{Fault, Found, declared_twice, unknown_name, bad_constant, too_many, bad_width, no_behave, cyclic_quark}

abbrev at : ℕ → ℕ → ℕ → Place
at f l c = record { file = f; line = l; column = c }

abbrev wd : List ℕ → ℕ → ℕ → ℕ → t.Word
wd n f l c = record { name = n; place = at f l c }

abbrev fault : {A : Type 0} → Found A → Option Fault
fault (Ok x) = None
fault (Err e) = Some e

row_array_length_72 : fault (program (t.class (record { quark = false; word = (wd (codes "A") 0 1 9); members = (t.field (record { word = (wd (codes "Bool") 0 1 13); width = None }) (wd (codes "a") 0 1 18) (Some (t.wide 72)) ∷ t.function (record { word = (wd (codes "Void") 0 1 25); width = None }) (wd (codes "behave") 0 1 30) ([]) t.no_more ∷ []) }) ∷ [])) ≡ Some (bad_width (at 0 1 18))
unfolding built_in of_window of_random leads
row_array_length_72 = refl

row_array_of_quarks : fault (program (t.class (record { quark = true; word = (wd (codes "Q") 0 1 7); members = (t.field (record { word = (wd (codes "Bool") 0 1 11); width = None }) (wd (codes "p") 0 1 16) None ∷ []) }) ∷ t.class (record { quark = false; word = (wd (codes "A") 0 1 29); members = (t.field (record { word = (wd (codes "Q") 0 1 33); width = None }) (wd (codes "a") 0 1 35) (Some (t.wide 2)) ∷ t.function (record { word = (wd (codes "Void") 0 1 41); width = None }) (wd (codes "behave") 0 1 46) ([]) t.no_more ∷ []) }) ∷ [])) ≡ Some (bad_width (at 0 1 33))
unfolding built_in of_window of_random leads
row_array_of_quarks = refl

row_limit_9_parameters : fault (program (t.class (record { quark = false; word = (wd (codes "A") 0 1 9); members = (t.function (record { word = (wd (codes "Void") 0 1 13); width = None }) (wd (codes "f") 0 1 18) (record { of = (record { word = (wd (codes "Int") 0 1 20); width = None }); word = (wd (codes "p0") 0 1 24) } ∷ record { of = (record { word = (wd (codes "Int") 0 1 28); width = None }); word = (wd (codes "p1") 0 1 32) } ∷ record { of = (record { word = (wd (codes "Int") 0 1 36); width = None }); word = (wd (codes "p2") 0 1 40) } ∷ record { of = (record { word = (wd (codes "Int") 0 1 44); width = None }); word = (wd (codes "p3") 0 1 48) } ∷ record { of = (record { word = (wd (codes "Int") 0 1 52); width = None }); word = (wd (codes "p4") 0 1 56) } ∷ record { of = (record { word = (wd (codes "Int") 0 1 60); width = None }); word = (wd (codes "p5") 0 1 64) } ∷ record { of = (record { word = (wd (codes "Int") 0 1 68); width = None }); word = (wd (codes "p6") 0 1 72) } ∷ record { of = (record { word = (wd (codes "Int") 0 1 76); width = None }); word = (wd (codes "p7") 0 1 80) } ∷ record { of = (record { word = (wd (codes "Int") 0 1 84); width = None }); word = (wd (codes "p8") 0 1 88) } ∷ []) t.no_more ∷ t.function (record { word = (wd (codes "Void") 0 1 96); width = None }) (wd (codes "behave") 0 1 101) ([]) t.no_more ∷ []) }) ∷ [])) ≡ Some (too_many (at 0 1 88))
unfolding built_in of_window of_random leads
row_limit_9_parameters = refl

row_names_bad_constant_10 : fault (program (t.class (record { quark = false; word = (wd (codes "A") 0 1 9); members = (t.constant (record { word = (wd (codes "Bits") 0 1 22); width = None }) (wd (codes "c") 0 1 27) (t.const_truth true) ∷ t.function (record { word = (wd (codes "Void") 0 1 37); width = None }) (wd (codes "behave") 0 1 42) ([]) t.no_more ∷ []) }) ∷ [])) ≡ Some (bad_constant (at 0 1 27))
unfolding built_in of_window of_random leads
row_names_bad_constant_10 = refl

row_names_bad_width_named : fault (program (t.class (record { quark = false; word = (wd (codes "A") 0 1 9); members = (t.constant (record { word = (wd (codes "Unsigned") 0 1 22); width = None }) (wd (codes "w") 0 1 31) (t.const_number false 70 false) ∷ t.field (record { word = (wd (codes "Int") 0 1 39); width = (Some (t.wide_as (wd (codes "w") 0 1 43))) }) (wd (codes "q") 0 1 46) None ∷ t.function (record { word = (wd (codes "Void") 0 1 49); width = None }) (wd (codes "behave") 0 1 54) ([]) t.no_more ∷ []) }) ∷ [])) ≡ Some (bad_width (at 0 1 39))
unfolding built_in of_window of_random leads
row_names_bad_width_named = refl

row_names_behave_twice : fault (program (t.class (record { quark = false; word = (wd (codes "A") 0 1 9); members = (t.function (record { word = (wd (codes "Void") 0 1 13); width = None }) (wd (codes "behave") 0 1 18) ([]) t.no_more ∷ t.function (record { word = (wd (codes "Void") 0 1 31); width = None }) (wd (codes "behave") 0 1 36) ([]) t.no_more ∷ []) }) ∷ [])) ≡ Some (declared_twice (at 0 1 36))
unfolding built_in of_window of_random leads
row_names_behave_twice = refl

row_names_class_twice_two_files : fault (program (t.class (record { quark = false; word = (wd (codes "A") 0 1 9); members = (t.function (record { word = (wd (codes "Void") 0 1 13); width = None }) (wd (codes "behave") 0 1 18) ([]) t.no_more ∷ []) }) ∷ t.ulam 5 ∷ t.class (record { quark = true; word = (wd (codes "A") 1 2 7); members = ([]) }) ∷ [])) ≡ Some (declared_twice (at 1 2 7))
unfolding built_in of_window of_random leads
row_names_class_twice_two_files = refl

row_names_constant_in_own_value : fault (program (t.class (record { quark = false; word = (wd (codes "A") 0 1 9); members = (t.constant (record { word = (wd (codes "Int") 0 1 22); width = None }) (wd (codes "c") 0 1 26) (t.const_named (wd (codes "c") 0 1 30)) ∷ t.function (record { word = (wd (codes "Void") 0 1 33); width = None }) (wd (codes "behave") 0 1 38) ([]) t.no_more ∷ []) }) ∷ [])) ≡ Some (unknown_name (at 0 1 30))
unfolding built_in of_window of_random leads
row_names_constant_in_own_value = refl

row_names_constants : fault (program (t.class (record { quark = false; word = (wd (codes "A") 0 1 9); members = (t.constant (record { word = (wd (codes "Int") 0 1 22); width = (Some (t.wide 4)) }) (wd (codes "a") 0 1 29) (t.const_number false 7 false) ∷ t.constant (record { word = (wd (codes "Int") 0 1 45); width = (Some (t.wide 4)) }) (wd (codes "b") 0 1 52) (t.const_number true 8 false) ∷ t.constant (record { word = (wd (codes "Unsigned") 0 1 69); width = (Some (t.wide 3)) }) (wd (codes "c") 0 1 81) (t.const_number false 7 false) ∷ t.constant (record { word = (wd (codes "Bits") 0 1 97); width = (Some (t.wide 3)) }) (wd (codes "d") 0 1 105) (t.const_number false 7 false) ∷ t.constant (record { word = (wd (codes "Unary") 0 1 121); width = (Some (t.wide 4)) }) (wd (codes "e") 0 1 130) (t.const_number false 4 false) ∷ t.constant (record { word = (wd (codes "Bool") 0 1 146); width = None }) (wd (codes "f") 0 1 151) (t.const_truth true) ∷ t.constant (record { word = (wd (codes "Bool") 0 1 170); width = None }) (wd (codes "g") 0 1 175) (t.const_truth false) ∷ t.constant (record { word = (wd (codes "Int") 0 1 195); width = None }) (wd (codes "h") 0 1 199) (t.const_number false 2147483647 false) ∷ t.constant (record { word = (wd (codes "Int") 0 1 224); width = None }) (wd (codes "i") 0 1 228) (t.const_number true 2147483648 false) ∷ t.constant (record { word = (wd (codes "Unsigned") 0 1 254); width = None }) (wd (codes "j") 0 1 263) (t.const_number false 4294967295 false) ∷ t.constant (record { word = (wd (codes "Int") 0 1 288); width = (Some (t.wide 4)) }) (wd (codes "k") 0 1 295) (t.const_named (wd (codes "a") 0 1 299)) ∷ t.constant (record { word = (wd (codes "Bool") 0 1 311); width = None }) (wd (codes "l") 0 1 316) (t.const_named (wd (codes "f") 0 1 320)) ∷ t.constant (record { word = (wd (codes "Int") 0 1 332); width = (Some (t.wide 20)) }) (wd (codes "m") 0 1 340) (t.const_named (wd (codes "b") 0 1 344)) ∷ t.constant (record { word = (wd (codes "Unary") 0 1 356); width = (Some (t.wide 32)) }) (wd (codes "n") 0 1 366) (t.const_number false 32 false) ∷ t.typedef (record { word = (wd (codes "Int") 0 1 382); width = (Some (t.wide 5)) }) (wd (codes "T") 0 1 389) ∷ t.constant (record { word = (wd (codes "T") 0 1 401); width = None }) (wd (codes "o") 0 1 403) (t.const_number true 16 false) ∷ t.constant (record { word = (wd (codes "Int") 0 1 421); width = None }) (wd (codes "p") 0 1 425) (t.const_number false 31 false) ∷ t.constant (record { word = (wd (codes "Int") 0 1 444); width = None }) (wd (codes "q") 0 1 448) (t.const_number true 0 false) ∷ t.function (record { word = (wd (codes "Void") 0 1 456); width = None }) (wd (codes "behave") 0 1 461) ([]) t.no_more ∷ []) }) ∷ [])) ≡ None
unfolding built_in of_window of_random leads
row_names_constants = refl

row_names_inner_scopes : fault (program (t.class (record { quark = false; word = (wd (codes "A") 0 1 9); members = (t.field (record { word = (wd (codes "Int") 0 1 13); width = (Some (t.wide 3)) }) (wd (codes "n") 0 1 20) None ∷ t.function (record { word = (wd (codes "Void") 0 1 23); width = None }) (wd (codes "behave") 0 1 28) ([]) (t.then_so (t.declares (record { word = (wd (codes "Int") 0 1 39); width = None }) (wd (codes "n") 0 1 43) None) (t.then_so (t.block (t.then_so (t.declares (record { word = (wd (codes "Int") 0 1 48); width = None }) (wd (codes "n") 0 1 52) None) (t.then_so (t.block (t.then_so (t.declares (record { word = (wd (codes "Int") 0 1 57); width = None }) (wd (codes "n") 0 1 61) None) t.no_more)) t.no_more))) (t.then_so (t.if_so (t.test (t.truth true (at 0 1 72))) (t.declares (record { word = (wd (codes "Int") 0 1 78); width = None }) (wd (codes "n") 0 1 82) None) (t.part (t.declares (record { word = (wd (codes "Int") 0 1 90); width = None }) (wd (codes "n") 0 1 94) None))) (t.then_so (t.while_so (t.truth false (at 0 1 104)) (t.declares (record { word = (wd (codes "Int") 0 1 111); width = None }) (wd (codes "n") 0 1 115) None)) (t.then_so (t.for_all (t.part (t.declares (record { word = (wd (codes "Int") 0 1 123); width = None }) (wd (codes "n") 0 1 127) (Some (t.number 0 false (at 0 1 131))))) (Some (t.pair q.Lt (t.reads (record { own = None; words = ((wd (codes "n") 0 1 134) ∷ []) })) (t.number 1 false (at 0 1 138)) (at 0 1 136))) (t.part (t.counts (record { path = (record { own = None; words = ((wd (codes "n") 0 1 141) ∷ []) }); index = None }) true)) (t.block (t.then_so (t.declares (record { word = (wd (codes "Int") 0 1 148); width = None }) (wd (codes "n") 0 1 152) None) t.no_more))) (t.then_so (t.for_all (t.part (t.declares (record { word = (wd (codes "Int") 0 1 162); width = None }) (wd (codes "n") 0 1 166) (Some (t.number 0 false (at 0 1 170))))) (Some (t.pair q.Lt (t.reads (record { own = None; words = ((wd (codes "n") 0 1 173) ∷ []) })) (t.number 1 false (at 0 1 177)) (at 0 1 175))) (t.part (t.counts (record { path = (record { own = None; words = ((wd (codes "n") 0 1 180) ∷ []) }); index = None }) true)) (t.declares (record { word = (wd (codes "Bool") 0 1 185); width = None }) (wd (codes "n") 0 1 190) None)) (t.then_so (t.block (t.then_so (t.declares (record { word = (wd (codes "Bool") 0 1 195); width = None }) (wd (codes "n") 0 1 200) None) t.no_more)) (t.then_so (t.assigns (record { path = (record { own = None; words = ((wd (codes "n") 0 1 205) ∷ []) }); index = None }) None (t.number 3 false (at 0 1 209))) t.no_more)))))))) ∷ []) }) ∷ [])) ≡ None
unfolding built_in of_window of_random leads
row_names_inner_scopes = refl

row_names_local_hides_constant : fault (program (t.class (record { quark = false; word = (wd (codes "A") 0 1 9); members = (t.constant (record { word = (wd (codes "Int") 0 1 22); width = None }) (wd (codes "c") 0 1 26) (t.const_number false 3 false) ∷ t.field (record { word = (wd (codes "Int") 0 1 33); width = (Some (t.wide 3)) }) (wd (codes "n") 0 1 40) None ∷ t.function (record { word = (wd (codes "Void") 0 1 43); width = None }) (wd (codes "behave") 0 1 48) ([]) (t.then_so (t.declares (record { word = (wd (codes "Int") 0 1 59); width = None }) (wd (codes "c") 0 1 63) (Some (t.reads (record { own = None; words = ((wd (codes "c") 0 1 67) ∷ []) })))) (t.then_so (t.assigns (record { path = (record { own = None; words = ((wd (codes "c") 0 1 70) ∷ []) }); index = None }) None (t.pair q.Add (t.reads (record { own = None; words = ((wd (codes "c") 0 1 74) ∷ []) })) (t.number 1 false (at 0 1 78)) (at 0 1 76))) (t.then_so (t.assigns (record { path = (record { own = None; words = ((wd (codes "n") 0 1 81) ∷ []) }); index = None }) None (t.reads (record { own = None; words = ((wd (codes "c") 0 1 85) ∷ []) }))) t.no_more))) ∷ []) }) ∷ [])) ≡ None
unfolding built_in of_window of_random leads
row_names_local_hides_constant = refl

row_names_local_in_own_value : fault (program (t.class (record { quark = false; word = (wd (codes "A") 0 1 9); members = (t.function (record { word = (wd (codes "Void") 0 1 13); width = None }) (wd (codes "behave") 0 1 18) ([]) (t.then_so (t.declares (record { word = (wd (codes "Int") 0 1 29); width = None }) (wd (codes "a") 0 1 33) (Some (t.reads (record { own = None; words = ((wd (codes "a") 0 1 37) ∷ []) })))) t.no_more) ∷ []) }) ∷ [])) ≡ Some (unknown_name (at 0 1 37))
unfolding built_in of_window of_random leads
row_names_local_in_own_value = refl

row_names_local_twice_for : fault (program (t.class (record { quark = false; word = (wd (codes "A") 0 1 9); members = (t.function (record { word = (wd (codes "Void") 0 1 13); width = None }) (wd (codes "behave") 0 1 18) ([]) (t.then_so (t.for_all (t.part (t.declares (record { word = (wd (codes "Int") 0 1 34); width = None }) (wd (codes "i") 0 1 38) (Some (t.number 0 false (at 0 1 42))))) (Some (t.pair q.Lt (t.reads (record { own = None; words = ((wd (codes "i") 0 1 45) ∷ []) })) (t.number 3 false (at 0 1 49)) (at 0 1 47))) (t.part (t.counts (record { path = (record { own = None; words = ((wd (codes "i") 0 1 52) ∷ []) }); index = None }) true)) (t.block t.no_more)) (t.then_so (t.declares (record { word = (wd (codes "Int") 0 1 61); width = None }) (wd (codes "i") 0 1 65) None) (t.then_so (t.declares (record { word = (wd (codes "Int") 0 1 68); width = None }) (wd (codes "i") 0 1 72) None) t.no_more))) ∷ []) }) ∷ [])) ≡ Some (declared_twice (at 0 1 72))
unfolding built_in of_window of_random leads
row_names_local_twice_for = refl

row_names_no_behave_param : fault (program (t.class (record { quark = false; word = (wd (codes "A") 0 1 9); members = (t.function (record { word = (wd (codes "Void") 0 1 13); width = None }) (wd (codes "behave") 0 1 18) (record { of = (record { word = (wd (codes "Int") 0 1 25); width = None }); word = (wd (codes "a") 0 1 29) } ∷ []) t.no_more ∷ []) }) ∷ [])) ≡ Some (no_behave (at 0 1 9))
unfolding built_in of_window of_random leads
row_names_no_behave_param = refl

row_names_no_member_of_window : fault (program (t.class (record { quark = false; word = (wd (codes "A") 0 1 9); members = (t.field (record { word = (wd (codes "EventWindow") 0 1 13); width = None }) (wd (codes "ew") 0 1 25) None ∷ t.function (record { word = (wd (codes "Void") 0 1 29); width = None }) (wd (codes "behave") 0 1 34) ([]) (t.then_so (t.does (record { own = None; words = ((wd (codes "ew") 0 1 45) ∷ (wd (codes "create") 0 1 48) ∷ []) }) (t.arg (t.number 1 false (at 0 1 55)) t.no_args)) t.no_more) ∷ []) }) ∷ [])) ≡ Some (unknown_name (at 0 1 48))
unfolding built_in of_window of_random leads
row_names_no_member_of_window = refl

row_names_no_member_seen : fault (program (t.class (record { quark = false; word = (wd (codes "A") 0 1 9); members = (t.field (record { word = (wd (codes "Int") 0 1 13); width = (Some (t.wide 3)) }) (wd (codes "n") 0 1 20) None ∷ t.function (record { word = (wd (codes "Void") 0 1 23); width = None }) (wd (codes "behave") 0 1 28) ([]) (t.then_so (t.declares (record { word = (wd (codes "Atom") 0 1 39); width = None }) (wd (codes "a") 0 1 44) None) (t.then_so (t.if_so (t.seen (wd (codes "a") 0 1 51) (wd (codes "A") 0 1 56)) (t.assigns (record { path = (record { own = None; words = ((wd (codes "a") 0 1 59) ∷ (wd (codes "m") 0 1 61) ∷ []) }); index = None }) None (t.number 1 false (at 0 1 65))) t.no_part) t.no_more)) ∷ []) }) ∷ [])) ≡ Some (unknown_name (at 0 1 61))
unfolding built_in of_window of_random leads
row_names_no_member_seen = refl

row_names_param_and_local : fault (program (t.class (record { quark = false; word = (wd (codes "A") 0 1 9); members = (t.function (record { word = (wd (codes "Void") 0 1 13); width = None }) (wd (codes "f") 0 1 18) (record { of = (record { word = (wd (codes "Int") 0 1 20); width = None }); word = (wd (codes "a") 0 1 24) } ∷ []) (t.then_so (t.declares (record { word = (wd (codes "Int") 0 1 29); width = None }) (wd (codes "a") 0 1 33) None) t.no_more) ∷ t.function (record { word = (wd (codes "Void") 0 1 38); width = None }) (wd (codes "behave") 0 1 43) ([]) t.no_more ∷ []) }) ∷ [])) ≡ Some (declared_twice (at 0 1 33))
unfolding built_in of_window of_random leads
row_names_param_and_local = refl

row_names_quark_in_a_ring : fault (program (t.class (record { quark = true; word = (wd (codes "P") 0 1 7); members = (t.field (record { word = (wd (codes "Q") 0 1 11); width = None }) (wd (codes "q") 0 1 13) None ∷ []) }) ∷ t.class (record { quark = true; word = (wd (codes "Q") 0 1 24); members = (t.field (record { word = (wd (codes "R") 0 1 28); width = None }) (wd (codes "r") 0 1 30) None ∷ []) }) ∷ t.class (record { quark = true; word = (wd (codes "R") 0 1 41); members = (t.field (record { word = (wd (codes "P") 0 1 45); width = None }) (wd (codes "p") 0 1 47) None ∷ []) }) ∷ [])) ≡ Some (cyclic_quark (at 0 1 7))
unfolding built_in of_window of_random leads
row_names_quark_in_a_ring = refl

row_names_quark_in_a_ring_later : fault (program (t.class (record { quark = true; word = (wd (codes "O") 0 1 7); members = (t.field (record { word = (wd (codes "Int") 0 1 11); width = (Some (t.wide 3)) }) (wd (codes "n") 0 1 18) None ∷ []) }) ∷ t.class (record { quark = true; word = (wd (codes "N") 0 1 29); members = (t.field (record { word = (wd (codes "O") 0 1 33); width = None }) (wd (codes "o") 0 1 35) None ∷ []) }) ∷ t.class (record { quark = true; word = (wd (codes "P") 0 1 46); members = (t.field (record { word = (wd (codes "Q") 0 1 50); width = None }) (wd (codes "q") 0 1 52) None ∷ []) }) ∷ t.class (record { quark = true; word = (wd (codes "Q") 0 1 63); members = (t.field (record { word = (wd (codes "P") 0 1 67); width = None }) (wd (codes "p") 0 1 69) None ∷ t.field (record { word = (wd (codes "N") 0 1 72); width = None }) (wd (codes "n") 0 1 74) None ∷ []) }) ∷ [])) ≡ Some (cyclic_quark (at 0 1 46))
unfolding built_in of_window of_random leads
row_names_quark_in_a_ring_later = refl

row_names_seen_after : fault (program (t.class (record { quark = false; word = (wd (codes "A") 0 1 9); members = (t.field (record { word = (wd (codes "Int") 0 1 13); width = (Some (t.wide 3)) }) (wd (codes "n") 0 1 20) None ∷ t.function (record { word = (wd (codes "Void") 0 1 23); width = None }) (wd (codes "behave") 0 1 28) ([]) (t.then_so (t.declares (record { word = (wd (codes "Atom") 0 1 39); width = None }) (wd (codes "a") 0 1 44) None) (t.then_so (t.if_so (t.seen (wd (codes "a") 0 1 51) (wd (codes "A") 0 1 56)) t.empty t.no_part) (t.then_so (t.assigns (record { path = (record { own = None; words = ((wd (codes "a") 0 1 61) ∷ (wd (codes "n") 0 1 63) ∷ []) }); index = None }) None (t.number 1 false (at 0 1 67))) t.no_more))) ∷ []) }) ∷ [])) ≡ Some (unknown_name (at 0 1 63))
unfolding built_in of_window of_random leads
row_names_seen_after = refl

row_names_self_in_quark : fault (program (t.class (record { quark = true; word = (wd (codes "Q") 0 1 7); members = (t.field (record { word = (wd (codes "Int") 0 1 11); width = (Some (t.wide 3)) }) (wd (codes "n") 0 1 18) None ∷ t.function (record { word = (wd (codes "Void") 0 1 21); width = None }) (wd (codes "f") 0 1 26) ([]) (t.then_so (t.assigns (record { path = (record { own = (Some (at 0 1 32)); words = ((wd (codes "n") 0 1 37) ∷ []) }); index = None }) None (t.number 1 false (at 0 1 41))) (t.then_so (t.does (record { own = (Some (at 0 1 44)); words = ((wd (codes "g") 0 1 49) ∷ []) }) t.no_args) t.no_more)) ∷ t.function (record { word = (wd (codes "Void") 0 1 56); width = None }) (wd (codes "g") 0 1 61) ([]) t.no_more ∷ []) }) ∷ t.class (record { quark = false; word = (wd (codes "A") 0 1 79); members = (t.field (record { word = (wd (codes "Q") 0 1 83); width = None }) (wd (codes "q") 0 1 85) None ∷ t.function (record { word = (wd (codes "Void") 0 1 88); width = None }) (wd (codes "behave") 0 1 93) ([]) (t.then_so (t.does (record { own = (Some (at 0 1 104)); words = ((wd (codes "q") 0 1 109) ∷ (wd (codes "f") 0 1 111) ∷ []) }) t.no_args) t.no_more) ∷ []) }) ∷ [])) ≡ None
unfolding built_in of_window of_random leads
row_names_self_in_quark = refl

row_names_typedef_of_another_class : fault (program (t.class (record { quark = true; word = (wd (codes "Q") 0 1 7); members = (t.typedef (record { word = (wd (codes "Int") 0 1 19); width = (Some (t.wide 3)) }) (wd (codes "T") 0 1 26) ∷ []) }) ∷ t.class (record { quark = false; word = (wd (codes "A") 0 2 9); members = (t.field (record { word = (wd (codes "T") 0 2 13); width = None }) (wd (codes "n") 0 2 15) None ∷ t.function (record { word = (wd (codes "Void") 0 2 18); width = None }) (wd (codes "behave") 0 2 23) ([]) t.no_more ∷ []) }) ∷ [])) ≡ Some (unknown_name (at 0 2 13))
unfolding built_in of_window of_random leads
row_names_typedef_of_another_class = refl

row_names_unknown_use_built_in : fault (program (t.uses (wd (codes "Int") 0 1 5) ∷ t.class (record { quark = false; word = (wd (codes "A") 0 1 18); members = (t.function (record { word = (wd (codes "Void") 0 1 22); width = None }) (wd (codes "behave") 0 1 27) ([]) t.no_more ∷ []) }) ∷ [])) ≡ Some (unknown_name (at 0 1 5))
unfolding built_in of_window of_random leads
row_names_unknown_use_built_in = refl
