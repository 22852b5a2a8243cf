use Rattle.std.proofs.Common.{◌≡◌, ◌≤◌, min, ◌+◌, [], ◌∷◌, ◌++◌, OnOk, map, length, ap, sym, ◌∙◌, subst, arith}
use Rattle.std.proofs.lemmas.Result.{on_ok_weaker}
use Rattle.std.specs.Box.{box_value}
use Rattle.stack_code.specs.declared.instr.Instr.TheVariants.{Turn, Jump}
use Rattle.code_gen.specs.Pieces.{pick, loop, ever, size, lay}
use Rattle.code_gen.specs.Laying.{code_and_piece, laid_if}
use Rattle.code_gen.specs.Views.{piece_of, pieces_of, key_of}
use Rattle.code_gen.proofs.Blocks.{block_at}
use Rattle.code_gen.proofs.Emitted.{pick_laid, loop_laid, ever_laid}
use Rattle.code_gen.proofs.emit.+emit.Goals as goal

pub emit-returns-in-Block-clause-long : goal.emit-returns-in-Block-clause-long
emit-returns-in-Block-clause-long t c =
    let here : pieces_of c.as_slice.result.now ≡ piece_of c.args.piece.now = ap pieces_of c.as_slice.ensures.value ∙ sym (block_at c.args.piece.now c.in-Block.list c.in-Block.is) in
    subst (λ q. OnOk c.emit_all.result (length c.emit_all.new.code.items ≡ length c.args.code.now.items + size q)) here c.emit_all.ensures.long

pub emit-returns-in-Block-clause-ok : goal.emit-returns-in-Block-clause-ok
emit-returns-in-Block-clause-ok t c =
    let here : pieces_of c.as_slice.result.now ≡ piece_of c.args.piece.now = ap pieces_of c.as_slice.ensures.value ∙ sym (block_at c.args.piece.now c.in-Block.list c.in-Block.is) in
    subst (λ q. OnOk c.emit_all.result (c.emit_all.new.code.items ≡ c.args.code.now.items ++ lay (map key_of c.args.keys.now) (length c.args.code.now.items) c.args.out c.args.next q)) here c.emit_all.ensures.ok

pub emit-returns-in_ok-put-in-Pick-clause-ok : goal.emit-returns-in_ok-put-in-Pick-clause-ok
emit-returns-in_ok-put-in-Pick-clause-ok t c =
    let old = c.args.code.now.items in
    let two = c.put-in-Pick.new.code.items in
    let keys = c.args.keys.now in
    let a = piece_of (box_value c.in-Pick.a) in
    let b = piece_of (box_value c.in-Pick.b) in
    let other = c.len-first.result + 1 + c.size_of.result + 1 in
    let at-1 : c.deref-in-Pick.result.now ≡ box_value c.in-Pick.a = c.deref-in-Pick.ensures in
    let at-2 : c.deref-in-Pick-2.result.now ≡ box_value c.in-Pick.a = c.deref-in-Pick-2.ensures in
    let at-3 : c.deref-in-Pick-3.result.now ≡ box_value c.in-Pick.b = c.deref-in-Pick-3.ensures in
    let at-4 : c.deref-in-Pick-4.result.now ≡ box_value c.in-Pick.b = c.deref-in-Pick-4.ensures in
    let whole : piece_of c.args.piece.now ≡ pick a b = ap piece_of c.in-Pick.is in
    let fits = subst (λ q. length old + size q ≤ 65536) whole c.requires.fits in
    let first : c.size_of.result ≡ min (size a) 65537 = c.size_of.ensures ∙ ap (λ p. min (size (piece_of p)) 65537) at-1 in
    let second : c.size_of-in-Pick.result ≡ min (size b) 65537 = c.size_of-in-Pick.ensures ∙ ap (λ p. min (size (piece_of p)) 65537) at-3 in
    let same = ap (λ p. size (piece_of p)) at-2 in
    rw whole (on_ok_weaker c.emit-in-Pick.result (λ (r : c.emit-in-Pick.new.code.items ≡ code_and_piece two keys c.args.out c.args.next (piece_of c.deref-in-Pick-4.result.now)).
    pick_laid old c.emit_if.new.code.items two c.emit-in-Pick.new.code.items keys c.args.out c.args.next other (other + c.size_of-in-Pick.result) a b
    (omega (arith, fits, first)) (omega (arith, fits, second)) (omega (arith, fits, first, same, c.in_ok-emit_if-in-Pick.ensures.long, c.in_ok-put-in-Pick.ensures.long))
    (c.in_ok-emit_if-in-Pick.ensures.ok ∙ ap (λ p. laid_if old keys c.args.out c.args.next other (piece_of p)) at-2) c.in_ok-put-in-Pick.ensures.ok
    (r ∙ ap (λ p. code_and_piece two keys c.args.out c.args.next (piece_of p)) at-4)) c.emit-in-Pick.ensures.ok)

pub emit-returns-in_ok-emit-in-Loop-2-clause-long :
    goal.emit-returns-in_ok-emit-in-Loop-2-clause-long
emit-returns-in_ok-emit-in-Loop-2-clause-long t c =
    let whole : piece_of c.args.piece.now ≡ loop (piece_of (box_value c.in-Loop.t)) (piece_of (box_value c.in-Loop.a)) (piece_of (box_value c.in-Loop.b)) = ap piece_of c.in-Loop.is in
    let same-1 = ap (λ p. size (piece_of p)) c.deref-in-Loop-4.ensures in
    let same-2 = ap (λ p. size (piece_of p)) c.deref-in-Loop-5.ensures in
    let same-3 = ap (λ p. size (piece_of p)) c.deref-in-Loop-6.ensures in
    rw whole (on_ok_weaker c.turn_back.result (λ (r : length c.turn_back.new.code.items ≡ length c.emit-in-Loop-2.new.code.items + 2).
    omega (arith, r, same-1, same-2, same-3, c.in_ok-emit-in-Loop.ensures.long, c.in_ok-emit_if-in-Loop.ensures.long, c.in_ok-emit-in-Loop-2.ensures.long)) c.turn_back.ensures.long)

pub emit-returns-in_ok-emit-in-Loop-2-clause-ok : goal.emit-returns-in_ok-emit-in-Loop-2-clause-ok
emit-returns-in_ok-emit-in-Loop-2-clause-ok t c =
    let old = c.args.code.now.items in
    let one = c.emit-in-Loop.new.code.items in
    let two = c.emit_if-in-Loop.new.code.items in
    let three = c.emit-in-Loop-2.new.code.items in
    let keys = c.args.keys.now in
    let q = piece_of (box_value c.in-Loop.t) in
    let a = piece_of (box_value c.in-Loop.a) in
    let b = piece_of (box_value c.in-Loop.b) in
    let start = c.len-first.result in
    let step = start + c.size_of-in-Loop.result + 1 + c.size_of-in-Loop-2.result in
    let past = step + c.size_of-in-Loop-3.result + 2 in
    let at-1 : c.deref-in-Loop-4.result.now ≡ box_value c.in-Loop.t = c.deref-in-Loop-4.ensures in
    let at-2 : c.deref-in-Loop-5.result.now ≡ box_value c.in-Loop.a = c.deref-in-Loop-5.ensures in
    let at-3 : c.deref-in-Loop-6.result.now ≡ box_value c.in-Loop.b = c.deref-in-Loop-6.ensures in
    let whole : piece_of c.args.piece.now ≡ loop q a b = ap piece_of c.in-Loop.is in
    let fits = subst (λ p. length old + size p ≤ 65536) whole c.requires.fits in
    let size-1 : c.size_of-in-Loop.result ≡ min (size q) 65537 = c.size_of-in-Loop.ensures ∙ ap (λ p. min (size (piece_of p)) 65537) c.deref-in-Loop.ensures in
    let size-2 : c.size_of-in-Loop-2.result ≡ min (size a) 65537 = c.size_of-in-Loop-2.ensures ∙ ap (λ p. min (size (piece_of p)) 65537) c.deref-in-Loop-2.ensures in
    let size-3 : c.size_of-in-Loop-3.result ≡ min (size b) 65537 = c.size_of-in-Loop-3.ensures ∙ ap (λ p. min (size (piece_of p)) 65537) c.deref-in-Loop-3.ensures in
    let same-1 = ap (λ p. size (piece_of p)) at-1 in
    let same-2 = ap (λ p. size (piece_of p)) at-2 in
    let is_start : start ≡ length old = omega (arith, c.len-first.ensures) in
    let is_step : step ≡ length old + size q + 1 + size a = omega (arith, is_start, fits, size-1, size-2) in
    let is_past : past ≡ step + size b + 2 = omega (arith, fits, size-3) in
    let long-1 : length one + 1 ≡ length old + size q + 1 = omega (arith, same-1, c.in_ok-emit-in-Loop.ensures.long) in
    let long-2 : length two ≡ step = omega (arith, is_step, long-1, same-2, c.in_ok-emit_if-in-Loop.ensures.long) in
    rw whole (on_ok_weaker c.turn_back.result (λ (r : c.turn_back.new.code.items ≡ three ++ Turn ∷ (Jump start ∷ [])).
    loop_laid old one two three c.turn_back.new.code.items keys c.args.out c.args.next start step past q a b is_start is_step is_past long-1 long-2
    (c.in_ok-emit-in-Loop.ensures.ok ∙ ap (λ p. code_and_piece old keys c.args.out c.args.next (piece_of p)) at-1)
    (c.in_ok-emit_if-in-Loop.ensures.ok ∙ ap (λ p. laid_if one keys past step past (piece_of p)) at-2)
    (c.in_ok-emit-in-Loop-2.ensures.ok ∙ ap (λ p. code_and_piece two keys c.args.out c.args.next (piece_of p)) at-3) r) c.turn_back.ensures.ok)

pub emit-returns-in_ok-emit-in-Ever-2-clause-long :
    goal.emit-returns-in_ok-emit-in-Ever-2-clause-long
emit-returns-in_ok-emit-in-Ever-2-clause-long t c =
    let whole : piece_of c.args.piece.now ≡ ever (piece_of (box_value c.in-Ever.a)) (piece_of (box_value c.in-Ever.b)) = ap piece_of c.in-Ever.is in
    let same-1 = ap (λ p. size (piece_of p)) c.deref-in-Ever-3.ensures in
    let same-2 = ap (λ p. size (piece_of p)) c.deref-in-Ever-4.ensures in
    rw whole (on_ok_weaker c.turn_back-in-Ever.result (λ (r : length c.turn_back-in-Ever.new.code.items ≡ length c.emit-in-Ever-2.new.code.items + 2).
    omega (arith, r, same-1, same-2, c.in_ok-emit-in-Ever.ensures.long, c.in_ok-emit-in-Ever-2.ensures.long)) c.turn_back-in-Ever.ensures.long)

pub emit-returns-in_ok-emit-in-Ever-2-clause-ok : goal.emit-returns-in_ok-emit-in-Ever-2-clause-ok
emit-returns-in_ok-emit-in-Ever-2-clause-ok t c =
    let old = c.args.code.now.items in
    let one = c.emit-in-Ever.new.code.items in
    let two = c.emit-in-Ever-2.new.code.items in
    let keys = c.args.keys.now in
    let a = piece_of (box_value c.in-Ever.a) in
    let b = piece_of (box_value c.in-Ever.b) in
    let start = c.len-first.result in
    let step = start + c.size_of-in-Ever.result in
    let past = step + c.size_of-in-Ever-2.result + 2 in
    let at-1 : c.deref-in-Ever-3.result.now ≡ box_value c.in-Ever.a = c.deref-in-Ever-3.ensures in
    let at-2 : c.deref-in-Ever-4.result.now ≡ box_value c.in-Ever.b = c.deref-in-Ever-4.ensures in
    let whole : piece_of c.args.piece.now ≡ ever a b = ap piece_of c.in-Ever.is in
    let fits = subst (λ p. length old + size p ≤ 65536) whole c.requires.fits in
    let size-1 : c.size_of-in-Ever.result ≡ min (size a) 65537 = c.size_of-in-Ever.ensures ∙ ap (λ p. min (size (piece_of p)) 65537) c.deref-in-Ever.ensures in
    let size-2 : c.size_of-in-Ever-2.result ≡ min (size b) 65537 = c.size_of-in-Ever-2.ensures ∙ ap (λ p. min (size (piece_of p)) 65537) c.deref-in-Ever-2.ensures in
    let same = ap (λ p. size (piece_of p)) at-1 in
    let is_start : start ≡ length old = omega (arith, c.len-first.ensures) in
    let is_step : step ≡ length old + size a = omega (arith, is_start, fits, size-1) in
    let is_past : past ≡ step + size b + 2 = omega (arith, fits, size-2) in
    let long : length one ≡ step = omega (arith, is_step, same, c.in_ok-emit-in-Ever.ensures.long) in
    rw whole (on_ok_weaker c.turn_back-in-Ever.result (λ (r : c.turn_back-in-Ever.new.code.items ≡ two ++ Turn ∷ (Jump start ∷ [])).
    ever_laid old one two c.turn_back-in-Ever.new.code.items keys c.args.out c.args.next start step past a b is_start is_step is_past long
    (c.in_ok-emit-in-Ever.ensures.ok ∙ ap (λ p. code_and_piece old keys past step (piece_of p)) at-1)
    (c.in_ok-emit-in-Ever-2.ensures.ok ∙ ap (λ p. code_and_piece one keys c.args.out c.args.next (piece_of p)) at-2) r) c.turn_back-in-Ever.ensures.ok)
