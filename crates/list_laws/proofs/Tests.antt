-- Tests that hold together, or one of two.
use Rattle.std.proofs.Common.{◌≡◌, Bool, true, false, ◌&&◌, ◌||◌, refl, ap, ◌∙◌}

-- both of two tests that hold together
pub both : (a b : Bool) → (a && b) ≡ true → (a ≡ true) × (b ≡ true)
both true b h = (refl, h)
both false b h = cc

-- two tests that hold, together
pub together : (a b : Bool) → a ≡ true → b ≡ true → (a && b) ≡ true
together a b p q = ap (λ x. x && b) p ∙ q

-- the second of two tests, if the first fails
pub or_second : (a b : Bool) → (a || b) ≡ true → a ≡ false → b ≡ true
or_second false b h e = h
or_second true b h e = cc
