-- Places of a plane's sites in row order.
use Rattle.std.proofs.Common.{ℕ, ◌≡◌, ◌+◌, ◌*◌, ◌<◌, true, false, get_or, set, ap, sym, ◌∙◌, inl, inr}
use Rattle.std.proofs.Math.ListN.{length-set}
use Rattle.std.proofs.lemmas.Bool.Decides.{eqb_tells}
use Rattle.std.proofs.lemmas.List.{get_or-replicate, get_or-set_other}
use Rattle.std.proofs.lemmas.Nat.{mul-add-lt}
use Rattle.bit_field.specs.Atom.{AtomValue, empty_atom}
use Rattle.cell_grid.specs.Grid.{GridValue, IsGrid, IsLive, IsAllLive}

-- where all sites are live each site of the plane is
pub IsLive-all : (g : GridValue) (x y : ℕ) → IsAllLive g → x < g.width → y < g.height → IsLive g x y
IsLive-all g x y all a b =
    record { column = a; row = b; marked = ap (λ marks. get_or marks (y * g.width + x) false) all ∙ get_or-replicate (g.width * g.height) (y * g.width + x) true false (mul-add-lt y g.width x g.height b a) }

-- a grid stays one where a live place gets an atom
pub IsGrid-set : (g : GridValue) (i : ℕ) (a : AtomValue) → get_or g.live i false ≡ true → IsGrid g → IsGrid (record g { atoms = set g.atoms i a })
IsGrid-set g i a live h = record {
  wide = h.wide;
  not_wider = h.not_wider;
  high = h.high;
  not_higher = h.not_higher;
  whole = length-set g.atoms i a ∙ h.whole;
  marked = h.marked;
  hidden = λ j lt dark. elim (eqb_tells i j) [
    | inl same ↦ let clash : true ≡ false = sym live ∙ ap (λ k. get_or g.live k false) same.1 ∙ dark in absurd (cc clash)
    | inr other ↦ get_or-set_other g.atoms i j a empty_atom (λ e. other.1 (sym e)) ∙ h.hidden j lt dark
  ];
}
