-- Numbers of bits that are told, and rows of them.
use Rattle.std.proofs.Common.{◌≡◌, ℕ, zero, suc, ◌+◌, ◌*◌, ◌≤◌, ◌<◌, ◌⊎◌, inl, inr, refl, sym, ap, ◌∙◌, List, [], ◌∷◌, ◌++◌, length, map, get_or, ◌^◌, Bool, true, false, arith, Some, None, Vec, Global, add-one, append_assoc, drop}
use Rattle.std.specs.Prelude.{sum, slice_get, Option, nat_lt, if◌then◌else◌}
use Rattle.std.proofs.Math.Nat.{le-mul_of_pos_right}
use Rattle.std.proofs.lemmas.Bool.{cases_lt, lt-ltb, le-ltb}
use Rattle.std.proofs.lemmas.List.{map-append, length-map, at_drop_more}
use Rattle.std.proofs.lemmas.List.Sums.{sum_by-cons}
use Rattle.std.specs.Option.{option_map_or}
use Rattle.feast_base.specs.declared.place.Place.{Place}
use Rattle.ulam_tree.specs.declared.resolved.Ty.{Ty}
use Rattle.ulam_tree.specs.declared.resolved.Ty.TheVariants as y
use Rattle.ulam_tree.specs.declared.resolved.Class.{Class as RawClass}
use Rattle.ulam_tree.specs.ResolvedViews.{resolved_class}
use Rattle.ulam_tree.specs.Resolved.{Class, Member, field, function}
use Rattle.atom_layout.specs.declared.fault.LayoutFault.{LayoutFault}
use Rattle.atom_layout.specs.declared.fault.LayoutFault.TheVariants as f
use Rattle.atom_layout.specs.Layouts.{capped_bits, times, member_bits, widths, bits_within, class_bits, total, fault_by, fault_in, first_of}
use Rattle.atom_layout.specs.Rows.{in_row, class_row, row_after, narrow, rows_of}

pub sum-cons : (x : ℕ) (xs : List ℕ) → sum (x ∷ xs) ≡ x + sum xs
sum-cons x xs = sum_by-cons (λ z. z) x xs

pub told_twice : (a : ℕ) → capped_bits (capped_bits a) ≡ capped_bits a
told_twice a = omega arith

pub told_sum : (a b c d : ℕ) → capped_bits a ≡ capped_bits c → capped_bits b ≡ capped_bits d → capped_bits (a + b) ≡ capped_bits (c + d)
told_sum a b c d h k = omega arith

pub told_times : (a k : ℕ) → 0 < k → capped_bits (capped_bits a * k) ≡ capped_bits (a * k)
told_times a k h = go (cases_lt a (2 ^ 64))
  where
    go : (a < 2 ^ 64) ⊎ (2 ^ 64 ≤ a) → capped_bits (capped_bits a * k) ≡ capped_bits (a * k)
    go (inl few) = let e : capped_bits a ≡ a = omega arith in ap (λ z. capped_bits (z * k)) e
    go (inr more) =
        let e : capped_bits a ≡ 18446744073709551615 = omega arith in
        let up : a ≤ a * k = le-mul_of_pos_right a h in
        ap (λ z. capped_bits (z * k)) e ∙ omega arith

times_some : (len : ℕ) → 0 < times len
times_some zero = omega arith
times_some (suc n) = omega arith

pub times_is : (len : ℕ) → 0 < len → times len ≡ len
times_is zero h = absurd (omega arith)
times_is (suc n) h = refl

-- Rows in which the bits of classes are told give the same bits told.
module _ (row quark : ℕ → ℕ) (same : (k : ℕ) → row k ≡ capped_bits (quark k)) where
  told_member : (ty : Ty) (len : ℕ) → capped_bits (member_bits row ty len) ≡ capped_bits (member_bits quark ty len)
  told_member (y.Num t) len = refl
  told_member y.Atom len = refl
  told_member y.Empty len = refl
  told_member y.Nothing len = refl
  told_member y.Window len = refl
  told_member y.Random len = refl
  told_member (y.Class k) len = ap (λ z. capped_bits (z * times len)) (same k) ∙ told_times (quark k) (times len) (times_some len)

  pub told_widths : (ms : List Member) → capped_bits (sum (widths row ms)) ≡ capped_bits (sum (widths quark ms))
  told_widths [] = refl
  told_widths (field n w len ∷ ms) =
      ap capped_bits (sum-cons (member_bits row n.ty len) (widths row ms))
      ∙ told_sum (member_bits row n.ty len) (sum (widths row ms)) (member_bits quark n.ty len) (sum (widths quark ms)) (told_member n.ty len) (told_widths ms)
      ∙ ap capped_bits (sym (sum-cons (member_bits quark n.ty len) (widths quark ms)))
  told_widths (function n w ps b ∷ ms) = told_widths ms

  pub narrow_widths : (ms : List Member) → map narrow (widths row ms) ≡ map narrow (widths quark ms)
  narrow_widths [] = refl
  narrow_widths (field n w len ∷ ms) =
      let e : capped_bits (member_bits row n.ty len) ≡ capped_bits (member_bits quark n.ty len) = told_member n.ty len in
      let one : narrow (member_bits row n.ty len) ≡ narrow (member_bits quark n.ty len) = omega arith in
      (λ i. one i ∷ narrow_widths ms i)
  narrow_widths (function n w ps b ∷ ms) = narrow_widths ms

pub narrow_all : (ws : List ℕ) → sum ws ≤ 71 → map narrow ws ≡ ws
narrow_all [] h = refl
narrow_all (x ∷ ws) h =
    let e : sum (x ∷ ws) ≡ x + sum ws = sum-cons x ws in
    let one : narrow x ≡ x = omega arith in
    (λ i. one i ∷ narrow_all ws (omega (arith, e, h)) i)

mapped : (h : Class → ℕ) (cs : List Class) (k : ℕ) → get_or (map h cs) k 0 ≡ option_map_or h (slice_get cs k) 0
mapped h [] zero = refl
mapped h [] (suc k) = refl
mapped h (c ∷ cs) zero = refl
mapped h (c ∷ cs) (suc k) = mapped h cs k

-- the rows have what the classes take within as many steps
pub row_is : (m : ℕ) (cs : List Class) (k : ℕ) → in_row (row_after m cs) k ≡ capped_bits (bits_within m cs k)
unfolding row_after bits_within
row_is zero cs k = mapped (λ c. zero) cs k ∙ none (slice_get cs k)
  where
    none : (x : Option Class) → option_map_or (λ (c : Class). zero) x zero ≡ zero
    none None = refl
    none (Some c) = refl
row_is (suc m) cs k = mapped (class_row (row_after m cs)) cs k ∙ by (row_is m cs) (slice_get cs k)
  where
    by : ((j : ℕ) → in_row (row_after m cs) j ≡ capped_bits (bits_within m cs j)) → (x : Option Class) → option_map_or (class_row (row_after m cs)) x 0 ≡ capped_bits (option_map_or (λ (c : Class). sum (widths (bits_within m cs) c.members)) x 0)
    by h None = refl
    by h (Some c) = told_widths (in_row (row_after m cs)) (bits_within m cs) h c.members

pub total_told : (cs : List Class) (c : Class) → class_row (row_after (length cs) cs) c ≡ capped_bits (total cs c)
total_told cs c = told_widths (in_row (row_after (length cs) cs)) (class_bits cs) (row_is (length cs) cs) c.members

wider : (m n : ℕ) → m < 100 → nat_lt m (capped_bits n) ≡ nat_lt m n
wider m n h = go (cases_lt m n)
  where
    go : (m < n) ⊎ (n ≤ m) → nat_lt m (capped_bits n) ≡ nat_lt m n
    go (inl lt) = lt-ltb m (capped_bits n) (omega arith) ∙ sym (lt-ltb m n lt)
    go (inr le) = le-ltb m (capped_bits n) (omega arith) ∙ sym (le-ltb m n le)

-- the fault of a class by the number that is told
pub fault_told : (n : ℕ) (c : Class) → fault_by (capped_bits n) c ≡ fault_by n c
fault_told n c = rw (wider 32 n (omega arith), wider 71 n (omega arith), told_twice n) refl

pub narrow_by : (n : ℕ) (c : Class) → fault_by n c ≡ None → n ≤ 71
narrow_by n c h = go (cases_lt 71 n)
  where
    wide : (q : Bool) (p : Place) → 71 < n → (if q then (if nat_lt 32 n then Some (f.QuarkTooWide p (capped_bits n)) else None) else (if nat_lt 71 n then Some (f.ElementTooWide p (capped_bits n)) else None)) ≡ None → ⊥
    wide true p lt h = let e : nat_lt 32 n ≡ true = lt-ltb 32 n (omega arith) in cc (rw e at h)
    wide false p lt h = let e : nat_lt 71 n ≡ true = lt-ltb 71 n lt in cc (rw e at h)

    go : (71 < n) ⊎ (n ≤ 71) → n ≤ 71
    go (inl lt) = absurd (wide c.quark c.word.place lt h)
    go (inr le) = le

pub row_next : (m : ℕ) (cs : List Class) → map (class_row (row_after m cs)) cs ≡ row_after (m + 1) cs
unfolding row_after
row_next m cs = rw (add-one m) refl

-- the last row of a list of the code's classes
pub row_here : (zs xs : List RawClass) (row : List ℕ) → zs ≡ xs → row ≡ row_after (length zs) (map resolved_class zs) → row ≡ row_after (length (map resolved_class xs)) (map resolved_class xs)
row_here zs xs row e h = h ∙ ap (λ (ys : List RawClass). row_after (length ys) (map resolved_class ys)) e ∙ ap (λ n. row_after n (map resolved_class xs)) (sym (length-map xs resolved_class))

pub fault_is : (row : List ℕ) (cs : List Class) (c : Class) → row ≡ row_after (length cs) cs → fault_by (class_row row c) c ≡ fault_in cs c
fault_is row cs c e = ap (λ r. fault_by (class_row r c) c) e ∙ ap (λ n. fault_by n c) (total_told cs c) ∙ fault_told (total cs c) c

-- what a class that is not too wide has
pub widths_here : (row : List ℕ) (cs : List Class) (c : Class) → row ≡ row_after (length cs) cs → fault_in cs c ≡ None → map narrow (widths (in_row row) c.members) ≡ widths (class_bits cs) c.members
widths_here row cs c e h =
    ap (λ r. map narrow (widths (in_row r) c.members)) e
    ∙ narrow_widths (in_row (row_after (length cs) cs)) (class_bits cs) (row_is (length cs) cs) c.members
    ∙ narrow_all (widths (class_bits cs) c.members) (narrow_by (total cs c) c h)

pub first_here : (fault : Class → Option LayoutFault) (c : Class) (cs : List Class) (e : LayoutFault) → fault c ≡ Some e → first_of fault (c ∷ cs) ≡ Some e
first_here fault c cs e h = rw h refl

pub first_later : (fault : Class → Option LayoutFault) (c : Class) (cs : List Class) → fault c ≡ None → first_of fault (c ∷ cs) ≡ first_of fault cs
first_later fault c cs h = rw h refl

-- one more row
pub rows_on : (rows more : List (Vec ℕ Global)) (r : Vec ℕ Global) (w : List ℕ) (rest : List (List ℕ)) → more ≡ rows ++ (r ∷ []) → r.items ≡ w → rows_of rows ++ (w ∷ rest) ≡ rows_of more ++ rest
rows_on rows more r w rest e h =
    ap (λ (x : List ℕ). rows_of rows ++ (x ∷ rest)) (sym h)
    ∙ sym (append_assoc (rows_of rows) (r.items ∷ []) rest)
    ∙ ap (λ (z : List (List ℕ)). z ++ rest) (sym (ap rows_of e ∙ map-append (λ (v : Vec ℕ Global). v.items) rows (r ∷ [])))

-- one more class in a row
pub row_on : (g : Class → ℕ) (xs : List RawClass) (i : ℕ) (x : RawClass) (done more : List ℕ) → i < length xs → x ≡ get_or xs i x → more ≡ done ++ (g (resolved_class x) ∷ []) →
    done ++ map g (map resolved_class (drop i xs)) ≡ more ++ map g (map resolved_class (drop (i + 1) xs))
row_on g xs i x done more lt is e =
    let rest : List ℕ = map g (map resolved_class (drop (i + 1) xs)) in
    at_drop_more (λ (zs : List RawClass). done ++ map g (map resolved_class zs)) xs i x lt
    ∙ ap (λ (z : RawClass). done ++ (g (resolved_class z) ∷ rest)) (sym is)
    ∙ sym (append_assoc done (g (resolved_class x) ∷ []) rest)
    ∙ ap (λ (zs : List ℕ). zs ++ rest) (sym e)
