-- The notes of places.
use Rattle.std.proofs.Common.{◌≡◌, ℕ, zero, suc, ◌+◌, ◌-◌, ◌<◌, ◌≤◌, List, [], ◌∷◌, length, get_or, Option, Some, None, refl, sym, ap, ◌∙◌, arith, Bool, ◌⊎◌, inl, inr, ⊎_elim, drop, drop-cons}
use Rattle.std.specs.Prelude.{slice_get, slice_set, map, is_none}
use Rattle.stack_code.specs.Valid.{◌>>=◌, Kinds, Notes, note, Exits, arrive, Passing, passing, note_exit, take_exit, pass_place, Around, exits_of, pass}
use Rattle.stack_code.specs.declared.kind_lists.Node.{Node}
use Rattle.stack_code.specs.KindLists.{list_at, Grows, list_of_note, notes_of, NotesFit, maybe, exit_of, jump_of, passing_of, PassLeaves}
use Rattle.stack_code.specs.declared.instr.Instr.{Instr}
use Rattle.std.proofs.Math.ListN.{drop_of_length-le}
use Rattle.std.specs.Option.{option_map}
use Rattle.std.proofs.lemmas.Option.{slice_get-get_or, slice_get-map, slice_get_past}
use Rattle.stack_code.specs.declared.exits.Exit.{Exit}

set_map : {A B : Type 0} (f : A → B) (xs : List A) (i : ℕ) (x : A) → map f (slice_set xs i x) ≡ slice_set (map f xs) i (f x)
set_map f [] i x = refl
set_map f (y ∷ xs) zero x = refl
set_map f (y ∷ xs) (suc i) x = ap (λ l. f y ∷ l) (set_map f xs i x)

-- what is noted at a place that there is
noted_at : (lists : List Node) (notes : List ℕ) (p : ℕ) → p < length notes → slice_get (notes_of lists notes) p ≡ Some (list_of_note lists (get_or notes p 0))
noted_at lists notes p lt = slice_get-map (list_of_note lists) notes p ∙ ap (option_map (list_of_note lists)) (slice_get-get_or notes p 0 lt)

pub noted_past : (lists : List Node) (notes : List ℕ) (p : ℕ) → length notes ≤ p → slice_get (notes_of lists notes) p ≡ None
noted_past lists notes p le = slice_get-map (list_of_note lists) notes p ∙ ap (option_map (list_of_note lists)) (slice_get_past notes p le)

pub noted_none : (lists : List Node) (notes : List ℕ) (p : ℕ) → p < length notes → get_or notes p 0 ≡ 0 → slice_get (notes_of lists notes) p ≡ Some None
noted_none lists notes p lt h = noted_at lists notes p lt ∙ ap (λ e. Some (list_of_note lists e)) h

noted_some : (lists : List Node) (e : ℕ) → 0 < e → list_of_note lists e ≡ Some (list_at lists (e - 1))
noted_some lists zero h = absurd (omega arith)
noted_some lists (suc e) h = let s : suc e - 1 ≡ e = omega arith in ap (λ k. Some (list_at lists k)) (sym s)

pub noted_old : (lists : List Node) (notes : List ℕ) (p : ℕ) → p < length notes → 0 < get_or notes p 0 → slice_get (notes_of lists notes) p ≡ Some (Some (list_at lists (get_or notes p 0 - 1)))
noted_old lists notes p lt h = noted_at lists notes p lt ∙ ap Some (noted_some lists (get_or notes p 0) h)

pub noted_below : (lists : List Node) (notes : List ℕ) (p : ℕ) → NotesFit lists notes → p < length notes → 0 < get_or notes p 0 → get_or notes p 0 - 1 ≤ length lists
noted_below lists notes p fit lt h = let a = fit p (get_or notes p 0) (slice_get-get_or notes p 0 lt) in omega (arith, a, h)

-- a note written
pub notes_set : (lists : List Node) (notes : List ℕ) (p id : ℕ) → notes_of lists (slice_set notes p (id + 1)) ≡ slice_set (notes_of lists notes) p (Some (list_at lists id))
notes_set lists notes p id =
    let s : id + 1 ≡ suc id = omega arith in
    set_map (list_of_note lists) notes p (id + 1) ∙ ap (λ e. slice_set (notes_of lists notes) p (list_of_note lists e)) s

set_or_old : (xs : List ℕ) (p q x e : ℕ) → slice_get (slice_set xs p x) q ≡ Some e → (e ≡ x) ⊎ (slice_get xs q ≡ Some e)
set_or_old [] p q x e h = inr h
set_or_old (y ∷ xs) zero zero x e h = let s : x ≡ e = cc in inl (sym s)
set_or_old (y ∷ xs) zero (suc q) x e h = inr h
set_or_old (y ∷ xs) (suc p) zero x e h = inr h
set_or_old (y ∷ xs) (suc p) (suc q) x e h = set_or_old xs p q x e h

pub fits_set : (lists : List Node) (notes : List ℕ) (p id : ℕ) → NotesFit lists notes → id ≤ length lists → NotesFit lists (slice_set notes p (id + 1))
fits_set lists notes p id fit le = λ q e h. ⊎_elim (λ s. omega (arith, s, le)) (λ s. fit q e s) (set_or_old notes p q (id + 1) e h)

-- more lists change no notes
pub notes_grow : (old new : List Node) (notes : List ℕ) → Grows old new → NotesFit old notes → notes_of new notes ≡ notes_of old notes
notes_grow old new [] g fit = refl
notes_grow old new (e ∷ notes) g fit =
    let a = one old new e g (fit 0 e refl) in
    let b = notes_grow old new notes g (λ p x h. fit (suc p) x h) in
    cc
  where
    one : (old new : List Node) (e : ℕ) → Grows old new → e ≤ length old + 1 → list_of_note new e ≡ list_of_note old e
    one old new zero g le = refl
    one old new (suc e) g le = ap Some (g.by e (omega arith))

pub fits_grow : (old new : List Node) (notes : List ℕ) → Grows old new → NotesFit old notes → NotesFit new notes
fits_grow old new notes g fit = λ p e h. let a = fit p e h in let b = g.more in omega (arith, a, b)

-- the notes after a place was reached, with more lists
pub reached : (old new : List Node) (notes : List ℕ) (p id : ℕ) → Grows old new → NotesFit old notes → id ≤ length old → slice_set (notes_of old notes) p (Some (list_at old id)) ≡ notes_of new (slice_set notes p (id + 1))
reached old new notes p id g fit le = sym (notes_set old notes p id) ∙ sym (notes_grow old new (slice_set notes p (id + 1)) g (fits_set old notes p id fit le))

pub reached_fits : (old new : List Node) (notes : List ℕ) (p id : ℕ) → Grows old new → NotesFit old notes → id ≤ length old → NotesFit new (slice_set notes p (id + 1))
reached_fits old new notes p id g fit le = fits_grow old new (slice_set notes p (id + 1)) g (fits_set old notes p id fit le)

-- a place that is reached, and may not be left so
pub place_none : (ex : Kinds → Option Exits) (p : ℕ) (old : List Node) (notes : List ℕ) (here : Option Kinds) (id : ℕ) → Some (list_at old id) ≡ arrive here (notes_of old notes) p → ex (list_at old id) ≡ None → pass_place ex p here (notes_of old notes) ≡ None
place_none ex p old notes here id arrived leads =
    let n = notes_of old notes in
    ap (λ (o : Option Kinds). o >>= λ (ks : Kinds). ex ks >>= take_exit (slice_set n p (Some ks))) (sym arrived)
    ∙ ap (λ (o : Option Exits). o >>= take_exit (slice_set n p (Some (list_at old id)))) leads

-- a place that is reached, and leads somewhere
pub place_front : (ex : Kinds → Option Exits) (p : ℕ) (old new : List Node) (notes notes1 : List ℕ) (here : Option Kinds) (id : ℕ) (e : Exit) → Some (list_at old id) ≡ arrive here (notes_of old notes) p → notes1 ≡ slice_set notes p (id + 1) → ex (list_at old id) ≡ Some (exit_of new e) → Grows old new → NotesFit old notes → id ≤ length old → pass_place ex p here (notes_of old notes) ≡ take_exit (notes_of new notes1) (exit_of new e)
place_front ex p old new notes notes1 here id e arrived n1 leads g fit le =
    let n = notes_of old notes in
    let set = slice_set n p (Some (list_at old id)) in
    let b : set ≡ notes_of new notes1 = reached old new notes p id g fit le ∙ ap (notes_of new) (sym n1) in
    ap (λ (o : Option Kinds). o >>= λ (ks : Kinds). ex ks >>= take_exit (slice_set n p (Some ks))) (sym arrived)
    ∙ ap (λ (o : Option Exits). o >>= take_exit set) leads
    ∙ ap (λ (m : Notes). take_exit m (exit_of new e)) b

-- the exit of a place that has no jump, and that of one that has
pub place_falls : (new : List Node) (notes1 : List ℕ) (e : Exit) → e.jumps ≡ None → take_exit (notes_of new notes1) (exit_of new e) ≡ passing_of new notes1 (Some e.falls)
place_falls new notes1 e j = ap (λ (x : Option (ℕ × ℕ)). note_exit (notes_of new notes1) (jump_of new x) >>= λ (noted : Notes). Some (passing (maybe new e.falls) noted)) j

pub place_jumps : (new : List Node) (notes1 : List ℕ) (e : Exit) (q ks : ℕ) (r : Option Notes) → e.jumps ≡ Some (q, ks) → note (notes_of new notes1) q (list_at new ks) ≡ r → take_exit (notes_of new notes1) (exit_of new e) ≡ (r >>= λ (noted : Notes). Some (passing (maybe new e.falls) noted))
place_jumps new notes1 e q ks r j n =
    let next = λ (noted : Notes). Some (passing (maybe new e.falls) noted) in
    ap (λ (x : Option (ℕ × ℕ)). note_exit (notes_of new notes1) (jump_of new x) >>= next) j ∙ ap (λ (o : Option Notes). o >>= next) n

-- the pass from what comes to a place
abbrev pub pass_on : Around → List Instr → ℕ → Passing → Option Notes
pass_on a is p next = pass a is p next.here next.notes

-- the pass over a place and the places behind it
pub pass_one : (a : Around) (is : List Instr) (k p : ℕ) (d : Instr) (here : Option Kinds) (notes : Notes) → k < length is → pass a (drop k is) p here notes ≡ (pass_place (exits_of a (get_or is k d) p) p here notes >>= pass_on a (drop (k + 1) is) (p + 1))
unfolding pass
pass_one a is k p d here notes lt =
    let e : drop k is ≡ get_or is k d ∷ drop (suc k) is = drop-cons is k d lt in
    let s : k + 1 ≡ suc k = omega arith in
    ap (λ l. pass a l p here notes) e ∙ ap (λ j. pass_place (exits_of a (get_or is k d) p) p here notes >>= pass_on a (drop j is) (p + 1)) (sym s)

pub pass_end : (a : Around) (is : List Instr) (k p : ℕ) (lists : List Node) (here : Option ℕ) (notes : List ℕ) (r : Bool) → length is ≤ k → r ≡ is_none here → NotesFit lists notes → PassLeaves (pass a (drop k is) p (maybe lists here) (notes_of lists notes)) lists notes r
unfolding pass
pass_end a is k p lists None notes r le e fit = rw (e, drop_of_length-le is le) (refl, fit)
pass_end a is k p lists (Some id) notes r le e fit = rw (e, drop_of_length-le is le) refl

pub grows_same : (ns : List Node) → Grows ns ns
grows_same ns = record { more = omega arith; by = λ id le. refl }

pub grows_on : (a b c : List Node) → Grows a b → Grows b c → Grows a c
grows_on a b c x y = record { more = let p = x.more in let q = y.more in omega (arith, p, q); by = λ id le. let p = x.more in y.by id (omega (arith, p)) ∙ x.by id le }
