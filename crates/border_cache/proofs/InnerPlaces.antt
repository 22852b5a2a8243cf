-- The places of a window that lies wholly inside a rectangle, and stamps that are given row by row.
use Rattle.std.proofs.Common.{◌≡◌, ◌≢◌, ℕ, ◌+◌, ◌-◌, ◌*◌, ◌<◌, ◌≤◌, ◌⊎◌, inl, inr, List, refl, ap, ◌∙◌, arith, ⊎_elim}
use Rattle.std.specs.Prelude.{ℤ, pos, negsuc, slice_index}
use Rattle.std.specs.Int.RustNames.{unsigned_abs}
use Rattle.std.proofs.lemmas.Bool.{cases_lt}
use Rattle.std.proofs.lemmas.Nat.{same_from_place}
use Rattle.list_laws.proofs.Numbers.{less_or_same}
use Rattle.tile_map.proofs.Spans.{times_more}
use Rattle.window_sites.specs.Sites.{offset_of, distance}
use Rattle.window_sites.specs.Inner.{from_low, inner_place}
use Rattle.window_sites.proofs.Offsets.{offset-near, offset-one, offset-found}
use Rattle.border_cache.specs.Rows.{StampsRun, AreStamped}

-- how many of the nine columns come before the window's run in a row, and after it
abbrev pub indent : ℕ → ℕ
indent r = (4 - r) + (r - 4)

-- row r has a site of the window in column c
pub record IsInRow (r c : ℕ) : Type 0 where
  pub row : r < 9
  pub from : indent r ≤ c
  pub to : c + indent r < 9

in_row : (dx dy : ℤ) → unsigned_abs dx + unsigned_abs dy ≤ 4 → IsInRow (from_low dy) (from_low dx)
in_row (pos d) (pos e) h = record { row = omega (arith, h); from = omega (arith, h); to = omega (arith, h) }
in_row (pos d) (negsuc e) h = record { row = omega (arith, h); from = omega (arith, h); to = omega (arith, h) }
in_row (negsuc d) (pos e) h = record { row = omega (arith, h); from = omega (arith, h); to = omega (arith, h) }
in_row (negsuc d) (negsuc e) h = record { row = omega (arith, h); from = omega (arith, h); to = omega (arith, h) }

-- the row and the column of site n
pub site_in_row : (n : ℕ) → n < 41 → IsInRow (from_low (offset_of n).1) (from_low (offset_of n).0)
site_in_row n lt = in_row (offset_of n).0 (offset_of n).1 (offset-near n (omega (arith, lt)))

pub inner_inside : (low width n count : ℕ) → n < 41 → low + 8 * width + 8 < count → inner_place low width n < count
inner_inside low width n count lt fits =
    let p = site_in_row n lt in
    let t = times_more (from_low (offset_of n).1) 8 width (omega (arith, p.row)) in
    omega (arith, t, fits, p.to)

-- the offset of a row or a column
record IsOffset (c : ℕ) : Type 0 where
  by : ℤ
  is : from_low by ≡ c
  far : unsigned_abs by ≡ indent c

offset_from : (c : ℕ) → c < 9 → IsOffset c
offset_from c lt = elim (cases_lt c 4) [
  | inl low ↦ record { by = negsuc (3 - c); is = omega (arith, low); far = omega (arith, low) }
  | inr high ↦ record { by = pos (c - 4); is = omega (arith, high); far = omega (arith, high) }
]

-- the number of the site in a row and a column
pub number_in_row : (low width r c : ℕ) → IsInRow r c → (n : ℕ) × (n < 41) × (inner_place low width n ≡ low + r * width + c)
number_in_row low width r c h =
    let x = offset_from c (omega (arith, h.to)) in
    let y = offset_from r h.row in
    let near : distance (x.by, y.by) ≤ 4 = omega (arith, x.far, y.far, h.from, h.to, h.row) in
    let n = offset-found (x.by, y.by) near in
    let at : inner_place low width n.0 ≡ low + from_low y.by * width + from_low x.by = λ i. low + from_low (n.2 i).1 * width + from_low (n.2 i).0 in
    let is : low + from_low y.by * width + from_low x.by ≡ low + r * width + c = λ i. low + y.is i * width + x.is i in
    (n.0, omega (arith, n.1), at ∙ is)

from_low-one : (d e : ℤ) → unsigned_abs d ≤ 4 → unsigned_abs e ≤ 4 → from_low d ≡ from_low e → d ≡ e
from_low-one (pos d) (pos e) h k same = ap pos (omega (arith, same))
from_low-one (pos d) (negsuc e) h k same = absurd (omega (arith, same))
from_low-one (negsuc d) (pos e) h k same = absurd (omega (arith, same))
from_low-one (negsuc d) (negsuc e) h k same = ap negsuc (omega (arith, same, h, k))

-- no two sites are at one place
pub inner_apart : (low width i j : ℕ) → 9 ≤ width → i < 41 → j < 41 → inner_place low width i ≡ inner_place low width j → i ≡ j
inner_apart low width i j wide lt less same =
    let p = site_in_row i lt in
    let q = site_in_row j less in
    let a = offset-near i (omega (arith, lt)) in
    let b = offset-near j (omega (arith, less)) in
    let e = same_from_place (from_low (offset_of i).1) (from_low (offset_of i).0) (from_low (offset_of j).1) (from_low (offset_of j).0) width (omega (arith, p.to, wide)) (omega (arith, q.to, wide)) (omega (arith, same)) in
    let dx = from_low-one (offset_of i).0 (offset_of j).0 (omega (arith, a)) (omega (arith, b)) e.1 in
    let dy = from_low-one (offset_of i).1 (offset_of j).1 (omega (arith, a)) (omega (arith, b)) e.0 in
    offset-one i j (omega (arith, lt)) (omega (arith, less)) (λ z. (dx z, dy z))

-- the sites in the first rows have the stamp, and all other places stay
pub record StampedTo (low width stamp rows : ℕ) (old new : List ℕ) : Type 0 where
  pub done : (r c : ℕ) → r < rows → IsInRow r c → slice_index new (low + r * width + c) ≡ stamp
  pub others : (k : ℕ) → ((r c : ℕ) → r < rows → IsInRow r c → low + r * width + c ≢ k) → slice_index new k ≡ slice_index old k

pub stamped_none : (low width stamp : ℕ) (old : List ℕ) → StampedTo low width stamp 0 old old
stamped_none low width stamp old = record { done = λ r c lt. absurd (omega (arith, lt)); others = λ k h. refl }

pub in_or_out : (first count k : ℕ) → ((first ≤ k) × (k < first + count)) ⊎ ((k < first) ⊎ (first + count ≤ k))
in_or_out first count k = elim (cases_lt k first) [
  | inl below ↦ inr (inl below)
  | inr from ↦ elim (cases_lt k (first + count)) [
    | inl to ↦ inl (from, to)
    | inr past ↦ inr (inr past)
  ]
]

-- one row more
pub stamped_more : (low width stamp r : ℕ) (old mid new : List ℕ) → r < 9 → StampsRun (low + r * width + indent r) (9 - 2 * indent r) stamp mid new → StampedTo low width stamp r old mid → StampedTo low width stamp (r + 1) old new
stamped_more low width stamp r old mid new small run s = record {
  done = λ q c lt h. ⊎_elim
      (λ p. run.done (low + q * width + c) p.0 p.1)
      (λ out. run.others (low + q * width + c) out ∙ ⊎_elim
      (λ (before : q < r). s.done q c before h)
      (λ (same : q ≡ r). let e = ap (λ z. z * width) same in absurd (⊎_elim (λ p. omega (arith, p, e, same, h.from)) (λ p. omega (arith, p, e, same, h.to, h.from)) out))
      (less_or_same q r lt))
      (in_or_out (low + r * width + indent r) (9 - 2 * indent r) (low + q * width + c));
  others = λ k none.
      run.others k (⊎_elim
      (λ p. absurd (none r (k - (low + r * width)) (omega arith) (record { row = small; from = omega (arith, p.0); to = omega (arith, p.0, p.1) }) (omega (arith, p.0))))
      (λ out. out)
      (in_or_out (low + r * width + indent r) (9 - 2 * indent r) k))
      ∙ s.others k (λ q c lt h. none q c (omega (arith, lt)) h);
}

-- after nine rows
pub stamped_all : (low width stamp : ℕ) (old new : List ℕ) → StampedTo low width stamp 9 old new → AreStamped low width stamp old new
stamped_all low width stamp old new s = record {
  done = λ n lt. let p = site_in_row n lt in s.done (from_low (offset_of n).1) (from_low (offset_of n).0) p.row p;
  others = λ k out. s.others k (λ r c lt h same. let n = number_in_row low width r c h in out n.0 n.1 (n.2 ∙ same));
}
