-- Where paths lead in an atom's state: what a path names lies in the bits of the class that it begins in.
use Rattle.std.proofs.Common.{◌≡◌, refl, ℕ, zero, suc, ◌+◌, ◌*◌, ◌≤◌, List, [], ◌∷◌, Option, Some, ap, subst, arith, map, take}
use Rattle.std.specs.Prelude.{slice_index_or, sum}
use Rattle.ulam_tree.specs.declared.resolved.Ty.{Ty}
use Rattle.ulam_tree.specs.declared.resolved.Ty.TheVariants as y
use Rattle.ulam_tree.specs.declared.resolved.Step.{Step}
use Rattle.ulam_tree.specs.declared.resolved.Step.TheVariants.{Own, Local, Member, Function as AFunction, Constant, Built as ABuilt}
use Rattle.atom_layout.proofs.Told.{sum-cons}
use Rattle.atom_layout.specs.Layouts.{times, member_bits, first_bit}
use Rattle.ulam_meaning.specs.Programs.{Program, Field, no_field, fields, members_of, field_at}
use Rattle.ulam_meaning.specs.Paths.{Span, Spot, member, part, window, nothing, field_spot, bit_of, through, spot, Callee, called, built_in, no_callee, callee}
use Rattle.ulam_meaning.specs.Laws.{bits_of, IsLaidOut}
use Rattle.code_gen.specs.Kinded.{class_in, PathIn, HasPath}

-- a member behind those before it lies in the sum of all
sum_within : (h : Field → ℕ) → h no_field ≡ 0 → (fs : List Field) (m : ℕ) → sum (take m (map h fs)) + h (slice_index_or fs m no_field) ≤ sum (map h fs)
sum_within h z [] zero = omega (arith, z)
sum_within h z [] (suc m) = omega (arith, z)
sum_within h z (f ∷ fs) zero = omega (arith, sum-cons (h f) (map h fs))
sum_within h z (f ∷ fs) (suc m) = omega (arith, sum_within h z fs m, sum-cons (h f) (map h fs), sum-cons (h f) (take m (map h fs)))

-- the bits of a span
abbrev pub SpanIn : ℕ → Span → Type 0
SpanIn b p = p.first + p.num.width * times p.length ≤ b

abbrev pub SpotIn : ℕ → Spot → Type 0
SpotIn b (member p) = SpanIn b p
SpotIn b (part i p) = SpanIn 71 p
SpotIn b s = Unit {0}

abbrev pub CalleeIn : Program → ℕ → Callee → Type 0
CalleeIn g b (called f) = f.base + bits_of g f.class ≤ b
CalleeIn g b (built_in o) = Unit {0}
CalleeIn g b no_callee = Unit {0}

module _ (g : Program) (lo : IsLaidOut g) where
  bits : Field → ℕ
  bits f = member_bits (bits_of g) f.ty f.length

  within : (c m : ℕ) → first_bit g.layout c m + member_bits (bits_of g) (field_at g c m).ty (field_at g c m).length ≤ bits_of g c
  unfolding bits field_at
  within c m =
      let h = sum_within bits refl (fields (members_of g c)) m in
      let e = lo.widths c in
      omega (arith, h, ap (λ l. sum (take m l)) e, ap sum e)

  -- a member of a class that lies from bit x on
  member_within : (c m x b : ℕ) (o : Option ℕ) → o ≡ Some c → ((d : ℕ) → o ≡ Some d → x + bits_of g d ≤ b) → x + first_bit g.layout c m + member_bits (bits_of g) (field_at g c m).ty (field_at g c m).length ≤ b
  member_within c m x b o e room = omega (arith, room c e, within c m)

  class_within : (x b n : ℕ) (ty : Ty) → x + member_bits (bits_of g) ty n ≤ b → (d : ℕ) → class_in ty ≡ Some d → x + bits_of g d ≤ b
  class_within x b zero (y.Class c) e d h = let s : c ≡ d = cc in let w : x + bits_of g c ≤ b = omega (arith, e) in subst (λ d. x + bits_of g d ≤ b) s w
  class_within x b (suc n) (y.Class c) e d h = let s : c ≡ d = cc in let w : x + bits_of g c ≤ b = grind (arith, e) in subst (λ d. x + bits_of g d ≤ b) s w
  class_within x b n (y.Num num) e d h = cc
  class_within x b n ty e d h = absurd (cc)

  -- the same of a member and of a part
  module _ (numbers : Span → Spot) (b : ℕ) (In : Spot → Type 0) (yes : (p : Span) → SpanIn b p → In (numbers p)) (win : In window) (none : In nothing) where
    field_in : (x n : ℕ) (ty : Ty) → x + member_bits (bits_of g) ty n ≤ b → In (field_spot numbers x n ty)
    field_in x n (y.Num num) e = yes (record { first = x; num = num; length = n }) e
    field_in x n y.Window e = win
    field_in x n ty e = none

    through_in : (steps : List Step) (x : ℕ) (o : Option ℕ) → PathIn g o steps → ((d : ℕ) → o ≡ Some d → x + bits_of g d ≤ b) → In (through g numbers x steps)
    through_in (Member c m ∷ []) x o h room = field_in (bit_of g x c m) (field_at g c m).length (field_at g c m).ty (member_within c m x b o h.0 room)
    through_in (Member c m ∷ s ∷ steps) x o h room = through_in (s ∷ steps) (bit_of g x c m) (class_in (field_at g c m).ty) h.1 (λ d e. class_within (bit_of g x c m) b (field_at g c m).length (field_at g c m).ty (member_within c m x b o h.0 room) d e)
    through_in steps x o h room = none

  callee_within : (steps : List Step) (x b : ℕ) (o : Option ℕ) → PathIn g o steps → ((d : ℕ) → o ≡ Some d → x + bits_of g d ≤ b) → CalleeIn g b (callee g x steps)
  callee_within [] x b o h room = tt
  callee_within (Member c m ∷ rest) x b o h room = callee_within rest (bit_of g x c m) b (class_in (field_at g c m).ty) h.1 (λ d e. class_within (bit_of g x c m) b (field_at g c m).length (field_at g c m).ty (member_within c m x b o h.0 room) d e)
  callee_within (AFunction c f ∷ rest) x b o h room = room c h.0
  callee_within (Own ∷ rest) x b o h room = absurd h
  callee_within (Local i ∷ rest) x b o h room = absurd h
  callee_within (Constant num v ∷ rest) x b o h room = absurd h
  callee_within (ABuilt v ∷ rest) x b o h room = tt

  -- what a path of a function of class c names, from a first bit on, lies in a state
  module _ (c base : ℕ) (room : base + bits_of g c ≤ 71) where
    mine : (d : ℕ) → Some c ≡ Some d → base + bits_of g d ≤ 71
    mine d e = let s : c ≡ d = cc in subst (λ d. base + bits_of g d ≤ 71) s room

    members_in : (steps : List Step) → PathIn g (Some c) steps → SpotIn 71 (through g member base steps)
    members_in steps h = through_in member 71 (SpotIn 71) (λ p e. e) tt tt steps base (Some c) h mine

    parts_in : (i d : ℕ) (steps : List Step) → PathIn g (Some d) steps → SpotIn 71 (through g (part i) 0 steps)
    parts_in i d steps h = through_in (part i) 71 (SpotIn 71) (λ p e. e) tt tt steps 0 (Some d) h (λ a e. let m = lo.most a in omega (arith, m))

    pub spot_in : (steps : List Step) → HasPath g c steps → SpotIn 71 (spot g base steps)
    spot_in (Own ∷ []) h = tt
    spot_in (Own ∷ s ∷ steps) h = members_in (s ∷ steps) h
    spot_in (Local i ∷ []) h = tt
    spot_in (Local i ∷ s ∷ steps) h = parts_in i h.0 (s ∷ steps) h.1
    spot_in (Constant num v ∷ steps) h = tt
    spot_in [] h = tt
    spot_in (Member k m ∷ steps) h = members_in (Member k m ∷ steps) h
    spot_in (AFunction k f ∷ steps) h = members_in (AFunction k f ∷ steps) h
    spot_in (ABuilt b ∷ steps) h = members_in (ABuilt b ∷ steps) h

    pub callee_in : (steps : List Step) → HasPath g c steps → CalleeIn g 71 (callee g base steps)
    callee_in (Own ∷ steps) h = callee_within steps base 71 (Some c) h mine
    callee_in (Local i ∷ steps) h = tt
    callee_in [] h = tt
    callee_in (Constant num v ∷ steps) h = tt
    callee_in (Member k m ∷ steps) h = callee_within (Member k m ∷ steps) base 71 (Some c) h mine
    callee_in (AFunction k f ∷ steps) h = callee_within (AFunction k f ∷ steps) base 71 (Some c) h mine
    callee_in (ABuilt b ∷ steps) h = callee_within (ABuilt b ∷ steps) base 71 (Some c) h mine
