-- Each function of an element has room for its bits, so that all of them are as the code wants them.
use Rattle.std.proofs.Common.{◌≡◌, ℕ, zero, suc, List, [], ◌∷◌, ◌++◌, Option, Some, None, refl, sym, subst, Bool, true, false}
use Rattle.std.specs.Prelude.{slice_get, if◌then◌else◌}
use Rattle.stack_code.specs.Valid.{Kinds}
use Rattle.code_gen.specs.Pieces.{Key, Piece, none, seq, plain, asks, pick, only, loop, ever, out, next, gives, leaves, has_key, add_calls}
use Rattle.code_gen.specs.Drafts.{Drafts, end_piece, key_piece, on_key, reach, keys, has_room}
use Rattle.code_gen.specs.Kinds.{Setting, setting_of, ends, Fits}
use Rattle.code_gen.specs.Limits.{IsShort}
use Rattle.code_gen.specs.Laws.{IsReady}
use Rattle.code_gen.proofs.Handed.{top_fits}
use Rattle.code_gen.proofs.CallEnds.{end_fits}
use Rattle.code_gen.proofs.Laid.{Called}
use Rattle.code_gen.proofs.Passed.{FineKeys, FineCode}
use Rattle.code_gen.proofs.Closed.{keys_closed, keys_first, get_some}

module _ (g : Drafts) where
  -- all these functions work on bits of a state
  abbrev Room : List Key → Type 0
  Room ks = (j : ℕ) (f : Key) → slice_get ks j ≡ Some f → has_room g f ≡ true

  room_last : (ks : List Key) (f : Key) → Room ks → has_room g f ≡ true → Room (ks ++ (f ∷ []))
  room_last [] f r h zero o e = let s : f ≡ o = cc in subst (λ o. has_room g o ≡ true) s h
  room_last [] f r h (suc j) o e = cc
  room_last (k ∷ ks) f r h zero o e = r 0 o e
  room_last (k ∷ ks) f r h (suc j) o e = room_last ks f (λ j o e. r (suc j) o e) h j o e

  room_key : (b : Bool) (ks : List Key) (f : Key) → Room ks → has_room g f ≡ true → Room (if b then ks else ks ++ (f ∷ []))
  room_key true ks f r h = r
  room_key false ks f r h = room_last ks f r h

  room_calls : (n : Setting) → n.drafts ≡ g → (q : Piece) (ls : Kinds) (ks : List Key) → Fits n q ls → Room ks → Room (add_calls q ks)
  room_calls n same none ls ks f r = r
  room_calls n same (seq a b) ls ks f r = room_calls n same b (ends n a ls) (add_calls a ks) f.1 (room_calls n same a ls ks f.0 r)
  room_calls n same (plain i) ls ks f r = r
  room_calls n same (asks o) ls ks f r = room_key (has_key ks o) ks o r (subst (λ g. has_room g o ≡ true) same f.1)
  room_calls n same (pick a b) ls ks f r = let x = top_fits ls (λ ls. Fits n a ls × Fits n b ls × (ends n a ls ≡ ends n b ls)) f in room_calls n same b x.0 (add_calls a ks) x.1.1 (room_calls n same a x.0 ks x.1.0 r)
  room_calls n same (only a) ls ks f r = let x = top_fits ls (λ ls. Fits n a ls × (ends n a ls ≡ ls)) f in room_calls n same a x.0 ks x.1.0 r
  room_calls n same (loop t a b) ls ks f r = room_calls n same b [] (add_calls a (add_calls t ks)) f.5 (room_calls n same a [] (add_calls t ks) f.3 (room_calls n same t [] ks f.1 r))
  room_calls n same (ever a b) ls ks f r = room_calls n same b [] (add_calls a ks) f.3 (room_calls n same a [] ks f.1 r)
  room_calls n same out ls ks f r = r
  room_calls n same next ls ks f r = r
  room_calls n same gives ls ks f r = r
  room_calls n same leaves ls ks f r = r

  module _ (main : Key) (ready : IsReady g main) where
    key_room : (f : Key) (ks : List Key) → has_room g f ≡ true → Room ks → Room (add_calls (key_piece g f) ks)
    key_room f ks h r =
        let n = setting_of g f in
        let x = ready.good f h in
        room_calls n refl (key_piece g f) [] ks (x.fits, subst (Fits n (end_piece (g f))) (sym x.stops) (end_fits n (g f).answer (g f).blank refl)) r

    room_by : (o : Option Key) (ks : List Key) (go : Key → List Key) → Room ks → ((f : Key) → o ≡ Some f → Room (go f)) → Room (on_key o ks go)
    room_by None ks go r h = r
    room_by (Some f) ks go r h = h f refl

    reach_room : (n k : ℕ) (ks : List Key) → Room ks → Room (reach g n k ks)
    unfolding reach
    reach_room zero k ks r = r
    reach_room (suc n) k ks r = room_by (slice_get ks k) ks (λ f. reach g n (suc k) (add_calls (key_piece g f) ks)) r (λ f e. reach_room n (suc k) (add_calls (key_piece g f) ks) (key_room f ks (r k f e) r))

    main_room : Room (main ∷ [])
    main_room zero f e = let s : main ≡ f = cc in subst (λ f. has_room g f ≡ true) s ready.room
    main_room (suc j) f e = cc

    pub keys_room : Room (keys g main)
    unfolding keys
    keys_room = reach_room 65537 0 (main ∷ []) main_room

    fine_keys : (ks fs : List Key) → ((k : ℕ) (f : Key) → slice_get fs k ≡ Some f → (has_room g f ≡ true) × Called ks (key_piece g f)) → FineKeys g ks fs
    fine_keys ks [] h = tt
    fine_keys ks (f ∷ fs) h =
        let x = h 0 f refl in
        let y = ready.good f x.0 in
        (record { fits = y.fits; stops = y.stops; slots = y.slots; called = x.1 }, fine_keys ks fs (λ k o e. h (suc k) o e))

pub ready_fine : (g : Drafts) (main : Key) → IsReady g main → IsShort g main → FineCode g main
ready_fine g main ready short =
    let ks = keys g main in
    let closed = keys_closed g main short.few in
    let first = keys_first g main in
    record {
      each = fine_keys g main ready ks ks (λ k f e. (keys_room g main ready k f e, closed k f (get_some ks k f e) e));
      rest = first.0;
      first = first.1;
      no_params = ready.no_params;
      no_answer = ready.no_answer;
      short = short;
    }
