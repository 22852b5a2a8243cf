-- The marks of a window, gathered from its last site to its first.
use Rattle.std.proofs.Common.{ℕ, suc, ◌≡◌, ◌<◌, ◌≤◌, ◌+◌, ◌*◌, ◌^◌, ◌∙◌, Bool, List, ◌∷◌, drop, length, refl, ap, sym, arith, get_or}
use Rattle.std.specs.Prelude.{cond}
use Rattle.std.proofs.Math.Pow.{pow_mono}
use Rattle.std.proofs.Math.Seq.{drop-cons, drop-length}
use Rattle.event_film.specs.Marks.{marks_in}
use Rattle.event_film.proofs.Marking.{marks_more, marks_none, twice_small}

-- these are the bits of the marks from n on
pub record AreBitsFrom (marks : List Bool) (n bits : ℕ) : Type 0 where
  pub count : ℕ
  pub all : count + n ≡ 41
  pub small : bits < 2 ^ count
  pub marks_are : marks_in count bits ≡ drop n marks

module _ (marks : List Bool) (long : length marks ≡ 41) where
  pub bits_none : AreBitsFrom marks 41 0
  bits_none = record { count = 0; all = refl; small = omega arith; marks_are = marks_none 0 ∙ sym (ap (λ k. drop k marks) (sym long) ∙ drop-length marks) }

  pub bits_more : (n m bits bits' : ℕ) (b : Bool) → n ≡ m + 1 → AreBitsFrom marks n bits → b ≡ get_or marks m b → bits' ≡ 2 * bits + cond b 1 0 → AreBitsFrom marks m bits'
  bits_more n m bits bits' b next h is more =
      let up : suc m ≡ n = omega (arith, next) in
      let here : m < length marks = omega (arith, h.all, long, next) in
      record {
        count = suc h.count;
        all = omega (arith, h.all, next);
        small = rw more (twice_small h.count bits b h.small);
        marks_are = ap (marks_in (suc h.count)) more ∙ marks_more h.count bits b ∙ (λ i. is i ∷ h.marks_are i) ∙ sym (drop-cons marks m b here ∙ ap (λ k. get_or marks m b ∷ drop k marks) up);
      }

-- the next bits fit a word
pub bits_fit : (marks : List Bool) (n bits : ℕ) → AreBitsFrom marks n bits → bits < 2 ^ 63
bits_fit marks n bits h =
    let few : h.count ≤ 63 = omega (arith, h.all) in
    let most = pow_mono few in
    omega (arith, h.small, most)

-- the bits of all marks
pub bits_all : (marks : List Bool) (bits : ℕ) → AreBitsFrom marks 0 bits → (marks_in 41 bits ≡ marks) × (bits < 2 ^ 41)
bits_all marks bits h =
    let whole : 41 ≡ h.count = omega (arith, h.all) in
    (ap (λ k. marks_in k bits) whole ∙ h.marks_are, let most : bits < 2 ^ h.count = h.small in rw (sym whole) at most)
