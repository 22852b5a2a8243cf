-- Building the code of each element: what it wants, and what its answer says.
use Rattle.std.proofs.Common.{◌≡◌, ℕ, ◌<◌, ◌≤◌, List, map, length, get_or, Option, Some, None, Ok, sym, ap, ◌∙◌, subst, arith, false}
use Rattle.std.specs.Prelude.{slice_get}
use Rattle.std.specs.Option.{option_map_or}
use Rattle.std.proofs.lemmas.List.{length-map}
use Rattle.feast_base.specs.Places.{no_place}
use Rattle.ulam_tree.specs.Typed as t
use Rattle.ulam_tree.specs.TypedViews.{typed_class}
use Rattle.ulam_tree.specs.declared.typed.Class.{Class}
use Rattle.ulam_tree.specs.declared.typed.Typed.{Typed}
use Rattle.stack_code.specs.Machine.{CodeValue}
use Rattle.ulam_meaning.specs.Programs.{Program}
use Rattle.ulam_meaning.specs.Events.{behave_key}
use Rattle.code_gen.specs.Pieces.{Key}
use Rattle.code_gen.specs.Drafts.{Drafts, code_of}
use Rattle.code_gen.specs.Limits.{IsShort}
use Rattle.code_gen.specs.Laws.{IsReady}
use Rattle.code_gen.specs.Gathers.{Builds}
use Rattle.code_gen.specs.Scheme.{draft_of}
use Rattle.code_gen.specs.Compiling.{program_view, IsCompilable, long_place}
use Rattle.code_gen.proofs.TypedBodies.{program_kinded}
use Rattle.code_gen.proofs.Drafted.{kinded_ready}
use Rattle.code_gen.proofs.LayRounds.{get_seen}

module _ (typed : Typed) (layout : List (List ℕ)) (all : List Class) (c : ℕ) (same : all ≡ typed.classes.items) where
  -- a class of the code's list
  pub class_stands : (d : Class) → c < length all → slice_get (program_view typed layout).classes c ≡ Some (typed_class (get_or all c d))
  class_stands d lt = get_seen typed_class all (program_view typed layout).classes c d (ap (map typed_class) same) lt

  pub class_found : (x : Class) → c < length all → x ≡ get_or all c x → slice_get (program_view typed layout).classes c ≡ Some (typed_class x)
  class_found x lt is = class_stands x lt ∙ ap (λ y. Some (typed_class y)) (sym is)

  -- the place of its name
  pub place_is : (d : Class) → c < length all → (get_or all c d).word.place ≡ long_place (program_view typed layout).classes c
  place_is d lt = sym (ap (λ o. option_map_or (λ (k : t.Class). k.word.place) o no_place) (class_stands d lt))

  -- there are no more
  pub classes_over : length all ≤ c → length (program_view typed layout).classes ≤ c
  classes_over le = omega (arith, le, ap length same, length-map typed.classes.items typed_class)

-- the functions of an element are ready
pub element_ready : (g : Program) (c : ℕ) (k : t.Class) (f : Key) → IsCompilable g → slice_get g.classes c ≡ Some k → k.quark ≡ false → f ≡ behave_key g c → IsReady (draft_of g) f
element_ready g c k f ok stands acts e = subst (IsReady (draft_of g)) (sym e) (kinded_ready g c (program_kinded g c ok.well ok.named ok.laid (ok.acts c k stands acts)))

pub built_none : (g : Drafts) (kind : ℕ) (f h : Key) (o : Option CodeValue) → o ≡ None → Builds g kind f (Ok o) → f ≡ h → IsShort g h → ⊥
built_none g kind f h None e b same short = b (subst (IsShort g) (sym same) short)
built_none g kind f h (Some x) e b same short = cc

pub built_some : (g : Drafts) (kind : ℕ) (f h : Key) (o : Option CodeValue) (x : CodeValue) → o ≡ Some x → Builds g kind f (Ok o) → f ≡ h → (x ≡ code_of g kind h) × IsShort g h
built_some g kind f h None x e b same = absurd cc
built_some g kind f h (Some y) x e b same = let is : y ≡ x = cc in (sym is ∙ b.0 ∙ ap (code_of g kind) same, subst (IsShort g) same b.1)
