-- How many operands there are behind a choice, behind a loop and behind pieces one after another, from the numbers behind their parts.
use Rattle.std.proofs.Common.{◌≡◌, ℕ, ◌+◌, ◌-◌, ◌<◌, Bool, true, false, Option, Some, None, List, length, drop, get_or, refl, ap, sym, ◌∙◌}
use Rattle.std.specs.Prelude.{nat_le, if◌then◌else◌}
use Rattle.std.proofs.lemmas.List.{drop_more}
use Rattle.code_gen.specs.Pieces.{Piece, seq, pick, loop, ever}
use Rattle.code_gen.specs.Drafts.{Drafts}
use Rattle.code_gen.specs.Depths.{depth, at_most, and_depth}
use Rattle.code_gen.specs.Views.{piece_of, pieces_of}
use Rattle.code_gen.specs.declared.piece.Piece.{Piece as CodePiece}

few_some : (b : Bool) (below n : ℕ) → Some below ≡ (if b then Some n else None) → (b ≡ true) × (below ≡ n)
few_some true below n e = (refl, cc)
few_some false below n e = absurd cc

module _ (g : Drafts) where
  pub pick_depth : (a b : Piece) (d below m : ℕ) (r : Option ℕ) → Some below ≡ at_most d (Some (d - 1)) → depth g a below ≡ Some m → nat_le m 512 ≡ true → r ≡ depth g b below → r ≡ depth g (pick a b) d
  pick_depth a b d below m r e f low k =
      let x = few_some (nat_le d 512) below (d - 1) e in
      let rest = depth g b (d - 1) in
      k
      ∙ ap (depth g b) x.1
      ∙ sym (ap (λ q. if q then rest else None) low)
      ∙ ap (λ o. and_depth o (λ m. at_most m rest)) (sym f ∙ ap (depth g a) x.1)
      ∙ sym (ap (λ q. if q then and_depth (depth g a (d - 1)) (λ m. at_most m rest) else None) x.0)

  pub loop_depth : (t a b : Piece) (d m n k : ℕ) → depth g t d ≡ Some m → nat_le m 512 ≡ true → Some n ≡ depth g a 0 → Some k ≡ depth g b 0 → Some 0 ≡ depth g (loop t a b) d
  loop_depth t a b d m n k e low f h =
      let last = and_depth (depth g b 0) (λ m. Some 0) in
      let rest = and_depth (depth g a 0) (λ m. last) in
      ap (λ o. and_depth o (λ m. Some 0)) h
      ∙ ap (λ o. and_depth o (λ m. last)) f
      ∙ sym (ap (λ q. if q then rest else None) low)
      ∙ sym (ap (λ o. and_depth o (λ m. at_most m rest)) e)

  pub ever_depth : (a b : Piece) (d m n : ℕ) → Some m ≡ depth g a d → Some n ≡ depth g b 0 → Some 0 ≡ depth g (ever a b) d
  ever_depth a b d m n e f =
      ap (λ o. and_depth o (λ m. Some 0)) f
      ∙ ap (λ o. and_depth o (λ m. and_depth (depth g b 0) (λ m. Some 0))) e

  pub next_depth : (xs : List CodePiece) (i : ℕ) (x : CodePiece) (d m : ℕ) (whole : Option ℕ) → i < length xs → x ≡ get_or xs i x → Some m ≡ depth g (piece_of x) d →
      depth g (pieces_of (drop i xs)) d ≡ whole → depth g (pieces_of (drop (i + 1) xs)) m ≡ whole
  next_depth xs i x d m whole h e f w =
      let rest = pieces_of (drop (i + 1) xs) in
      ap (λ o. and_depth o (depth g rest)) f
      ∙ ap (λ y. depth g (seq (piece_of y) rest) d) e
      ∙ sym (ap (λ l. depth g (pieces_of l) d) (drop_more xs i x h))
      ∙ w
