-- Going up from class to class, a step at a time.
use Rattle.std.proofs.Common.{◌≡◌, ℕ, zero, suc, ◌+◌, ◌-◌, ◌<◌, ◌≤◌, refl, sym, ap, ◌∙◌, List, [], ◌∷◌, length, map, true, false, ◌||◌, Option, Some, None, nat_eq, arith}
use Rattle.std.specs.Prelude.{reverse, slice_get}
use Rattle.std.specs.List.{list_any}
use Rattle.std.specs.Option.{option_map_or, option_and_then, option_to_list}
use Rattle.std.proofs.lemmas.Bool.{eq-eqb, ne_eqb}
use Rattle.std.proofs.lemmas.List.{length-map}
use Rattle.std.proofs.Math.Bool.{or-false}
use Rattle.ulam_tree.specs.Ways.{leads}
use Rattle.ulam_heirs.specs.Lines.{Heir, base_number, base_of, base_list, is_own_base, upward, line_numbers, line, bases}
use Rattle.ulam_heirs.specs.declared.heir.Heir.{Heir as CodeHeir}
use Rattle.ulam_heirs.specs.Views.{heirs_of, base_in, base_numbers, upward_from}

-- the numbers of bases are those of the classes
at_map : (g : Heir → Option ℕ) (xs : List Heir) (k : ℕ) → option_and_then (λ (b : Option ℕ). b) (slice_get (map g xs) k) ≡ option_and_then g (slice_get xs k)
at_map g [] zero = refl
at_map g [] (suc k) = refl
at_map g (x ∷ xs) zero = refl
at_map g (x ∷ xs) (suc k) = at_map g xs k

pub base_is : (hs : List Heir) (bs : List (Option ℕ)) → bs ≡ base_numbers hs → (k : ℕ) → base_in bs k ≡ base_of hs k
base_is hs bs e k = ap (λ xs. base_in xs k) e ∙ at_map (base_number hs) hs k

base_all : (hs : List Heir) (bs : List (Option ℕ)) → bs ≡ base_numbers hs → base_in bs ≡ base_of hs
base_all hs bs e = λ i k. base_is hs bs e k i

long_is : (hs : List Heir) (bs : List (Option ℕ)) → bs ≡ base_numbers hs → length bs ≡ length hs
long_is hs bs e = ap length e ∙ length-map hs (base_number hs)

abbrev pub above : List (Option ℕ) → ℕ → List ℕ
above bs k = option_to_list (base_in bs k)

pub own_is : (hs : List Heir) (bs : List (Option ℕ)) → bs ≡ base_numbers hs → (k : ℕ) → leads (above bs) (length bs) k k ≡ is_own_base hs k
own_is hs bs e k =
    ap (λ (base : ℕ → Option ℕ). leads (λ j. option_to_list (base j)) (length bs) k k) (base_all hs bs e)
    ∙ ap (λ n. leads (base_list hs) n k k) (long_is hs bs e)

pub numbers_are : (hs : List Heir) (bs : List (Option ℕ)) → bs ≡ base_numbers hs → (k : ℕ) → reverse (upward (length bs) (base_in bs) k) ≡ line_numbers hs k
numbers_are hs bs e k =
    ap (λ (base : ℕ → Option ℕ). reverse (upward (length bs) base k)) (base_all hs bs e)
    ∙ ap (λ n. reverse (upward n (base_of hs) k)) (long_is hs bs e)

pub bases_none : (hs : List Heir) (bs : List (Option ℕ)) → bs ≡ base_numbers hs → (k : ℕ) → None ≡ base_in bs k → bases hs k ≡ []
bases_none hs bs e k is = ap (λ o. option_map_or (line hs) o []) (sym (is ∙ base_is hs bs e k))

pub bases_some : (hs : List Heir) (bs : List (Option ℕ)) → bs ≡ base_numbers hs → (k j : ℕ) → Some j ≡ base_in bs k → bases hs k ≡ line hs j
bases_some hs bs e k j is = ap (λ o. option_map_or (line hs) o []) (sym (is ∙ base_is hs bs e k))

-- leading back

pub leads_zero : (bs : List (Option ℕ)) (k goal : ℕ) → leads (above bs) 0 k goal ≡ false
unfolding leads
leads_zero bs k goal = refl

pub leads_none : (bs : List (Option ℕ)) (m k goal : ℕ) → None ≡ base_in bs k → leads (above bs) (suc m) k goal ≡ false
unfolding leads
leads_none bs m k goal e = ap (λ o. list_any (λ i. nat_eq i goal || leads (above bs) m i goal) (option_to_list o)) (sym e)

pub leads_here : (bs : List (Option ℕ)) (m k j goal : ℕ) → Some j ≡ base_in bs k → j ≡ goal → leads (above bs) (suc m) k goal ≡ true
unfolding leads
leads_here bs m k j goal e same = ap (λ o. list_any (λ i. nat_eq i goal || leads (above bs) m i goal) (option_to_list o)) (sym e) ∙ rw (eq-eqb j goal same) refl

pub leads_on : (bs : List (Option ℕ)) (m k j goal : ℕ) → Some j ≡ base_in bs k → (j ≡ goal → ⊥) → leads (above bs) (suc m) k goal ≡ leads (above bs) m j goal
unfolding leads
leads_on bs m k j goal e other =
    ap (λ o. list_any (λ i. nat_eq i goal || leads (above bs) m i goal) (option_to_list o)) (sym e)
    ∙ or-false (nat_eq j goal || leads (above bs) m j goal)
    ∙ ap (λ b. b || leads (above bs) m j goal) (ne_eqb j goal other)

-- gathering

pub up_zero : (base : ℕ → Option ℕ) (o : Option ℕ) → upward_from 0 base o ≡ []
unfolding upward
up_zero base None = refl
up_zero base (Some k) = refl

from_is : (m : ℕ) (base : ℕ → Option ℕ) (o : Option ℕ) → option_map_or (upward m base) o [] ≡ upward_from m base o
from_is m base None = refl
from_is m base (Some k) = refl

pub up_next : (m k : ℕ) (base : ℕ → Option ℕ) (o : Option ℕ) → o ≡ base k → upward_from (suc m) base (Some k) ≡ k ∷ upward_from m base o
unfolding upward
up_next m k base o e = ap (λ xs. k ∷ xs) (from_is m base (base k) ∙ ap (upward_from m base) (sym e))

pub turn_more : (n at : ℕ) → at < n → n - at ≡ suc (n - (at + 1))
turn_more n at lt = omega arith

pub turn_none : (n at : ℕ) → n ≤ at → n - at ≡ 0
turn_none n at le = omega arith

-- the class of a number
pub class_at_lem : (hs : List CodeHeir) (k : ℕ) → option_to_list (slice_get (heirs_of hs) k) ≡ heirs_of (option_to_list (slice_get hs k))
class_at_lem [] zero = refl
class_at_lem [] (suc k) = refl
class_at_lem (h ∷ hs) zero = refl
class_at_lem (h ∷ hs) (suc k) = class_at_lem hs k
