-- The verdict from its three tests.
use Rattle.std.proofs.Common.{◌≡◌, ℕ, zero, suc, List, [], ◌∷◌, length, Some, None, refl, sym, ap, ◌∙◌, arith, Bool, true, false, ◌≤◌}
use Rattle.std.specs.Prelude.{◌&&◌, is_some, slice_get, replicate, nat_le}
use Rattle.std.proofs.lemmas.Bool.{leb-true}
use Rattle.list_laws.proofs.Tests.{both}
use Rattle.stack_code.specs.Machine.{CodeValue}
use Rattle.stack_code.specs.Valid.{valid, first_fits, length_fits, no_notes, pass_all}
use Rattle.stack_code.specs.declared.kind_lists.Node.{Node}
use Rattle.stack_code.specs.KindLists.{notes_of, NotesFit}

pub no_length : (c : CodeValue) → length_fits (length c.instrs) ≡ false → valid c ≡ false
unfolding valid
no_length c e = ap (λ (b : Bool). b && first_fits c.functions && is_some (pass_all c c.functions 0 (no_notes c))) e

pub no_first : (c : CodeValue) → length_fits (length c.instrs) ≡ true → first_fits c.functions ≡ false → valid c ≡ false
unfolding valid
no_first c e f = ap (λ (b : Bool). b && first_fits c.functions && is_some (pass_all c c.functions 0 (no_notes c))) e ∙ ap (λ (b : Bool). b && is_some (pass_all c c.functions 0 (no_notes c))) f

blank_notes : (n : ℕ) → notes_of [] (replicate n 0) ≡ replicate n None
blank_notes zero = refl
blank_notes (suc n) = ap (λ l. None ∷ l) (blank_notes n)

pub by_pass : (c : CodeValue) (notes : List ℕ) → length_fits (length c.instrs) ≡ true → first_fits c.functions ≡ true → notes ≡ replicate (length c.instrs) 0 → valid c ≡ is_some (pass_all c c.functions 0 (notes_of [] notes))
unfolding valid
by_pass c notes e f h = ap (λ (b : Bool). b && first_fits c.functions && is_some (pass_all c c.functions 0 (no_notes c))) e ∙ ap (λ (b : Bool). b && is_some (pass_all c c.functions 0 (no_notes c))) f
    ∙ ap (λ n. is_some (pass_all c c.functions 0 n)) (sym (ap (notes_of []) h ∙ blank_notes (length c.instrs)))

zeros : (n p e : ℕ) → slice_get (replicate n 0) p ≡ Some e → e ≡ 0
zeros zero p e h = cc
zeros (suc n) zero e h = cc
zeros (suc n) (suc p) e h = zeros n p e h

pub blank_fits : (lists : List Node) (notes : List ℕ) (n : ℕ) → notes ≡ replicate n 0 → NotesFit lists notes
blank_fits lists notes n h = λ p e k. let z = zeros n p e (ap (λ l. slice_get l p) (sym h) ∙ k) in omega (arith, z)

-- the same with the lists and the notes of a pass that begins
pub begun : (c : CodeValue) (lists : List Node) (notes : List ℕ) (r : Bool) → length_fits (length c.instrs) ≡ true → first_fits c.functions ≡ true → lists ≡ [] → notes ≡ replicate (length c.instrs) 0 → r ≡ is_some (pass_all c c.functions 0 (notes_of lists notes)) → r ≡ valid c
begun c lists notes r e f l n h = h ∙ ap (λ z. is_some (pass_all c c.functions 0 (notes_of z notes))) l ∙ sym (by_pass c notes e f n)

-- code of an allowed length has few instructions
pub few_instrs : (n : ℕ) → length_fits n ≡ true → n ≤ 65536
few_instrs n e = leb-true n 65536 (both (nat_le 1 n) (nat_le n 65536) e).1
