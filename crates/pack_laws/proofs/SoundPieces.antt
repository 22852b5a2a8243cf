-- Pieces whose instructions have types of the file and which call functions of one sort, and the code that is laid down of them.
use Rattle.std.proofs.Common.{ℕ, zero, suc, ◌+◌, ◌≤◌, Bool, true, false, List, [], ◌∷◌, ◌++◌, Option, Some, None}
use Rattle.std.specs.Prelude.{slice_get, if◌then◌else◌}
use Rattle.std.specs.List.{AllByRecursion}
use Rattle.stack_code.specs.declared.instr.Answer.{Answer}
use Rattle.stack_code.specs.declared.instr.Answer.TheVariants.{Nothing, Number as NumberBack, Atom as AtomBack}
use Rattle.stack_code.specs.declared.instr.Instr.{Instr}
use Rattle.stack_code.specs.declared.instr.Instr.TheVariants.{Jump, JumpFalse, Turn}
use Rattle.code_gen.specs.Pieces.{Key, Piece, none, seq, plain, asks, pick, only, loop, ever, out, next, gives, leaves, size, has_key, lay, add_calls}
use Rattle.code_gen.specs.Drafts.{Drafts, codes, end_by, key_piece, keys, on_key, reach, value_at, values}
use Rattle.code_file.specs.Ranged.{IsRanged, OfTypes}

pub all_append : {A : Type 0} (P : A → Type 0) (xs ys : List A) → AllByRecursion P xs → AllByRecursion P ys → AllByRecursion P (xs ++ ys)
all_append P [] ys a b = b
all_append P (x ∷ xs) ys a b = (a.0, all_append P xs ys a.1 b)

module _ (most : ℕ) (Good : Key → Type 0) where
  -- each instruction has types of a file of so many elements, and each function that is called is good
  abbrev pub Sound : Piece → Type 0
  Sound none = Unit {0}
  Sound (seq a b) = Sound a × Sound b
  Sound (plain i) = OfTypes most i
  Sound (asks f) = Good f
  Sound (pick a b) = Sound a × Sound b
  Sound (only a) = Sound a
  Sound (loop t a b) = Sound t × Sound a × Sound b
  Sound (ever a b) = Sound a × Sound b
  Sound out = Unit {0}
  Sound next = Unit {0}
  Sound gives = Unit {0}
  Sound leaves = Unit {0}

  -- what is laid down of a piece
  abbrev Typed : List Instr → Type 0
  Typed is = AllByRecursion (OfTypes most) is

  lay_sound : (ks : List Key) (q : Piece) (p e c : ℕ) → Sound q → Typed (lay ks p e c q)
  lay_sound ks none p e c h = tt
  lay_sound ks (seq a b) p e c h = all_append (OfTypes most) (lay ks p e c a) (lay ks (p + size a) e c b) (lay_sound ks a p e c h.0) (lay_sound ks b (p + size a) e c h.1)
  lay_sound ks (plain i) p e c h = (h, tt)
  lay_sound ks (asks f) p e c h = (tt, tt)
  lay_sound ks (pick a b) p e c h =
      let other = p + 1 + size a + 1 in
      (tt, all_append (OfTypes most) (lay ks (p + 1) e c a) (Jump (other + size b) ∷ lay ks other e c b) (lay_sound ks a (p + 1) e c h.0) (tt, lay_sound ks b other e c h.1))
  lay_sound ks (only a) p e c h = (tt, lay_sound ks a (p + 1) e c h)
  lay_sound ks (loop t a b) p e c h =
      let q = p + size t + 1 in
      let past = q + size a + size b + 2 in
      let step = q + size a in
      let round : List Instr = Turn ∷ (Jump p ∷ []) in
      let xa = lay ks q past step a in
      let xb = lay ks step e c b in
      all_append (OfTypes most) (lay ks p e c t) (JumpFalse past ∷ (xa ++ (xb ++ round))) (lay_sound ks t p e c h.0)
      (tt, all_append (OfTypes most) xa (xb ++ round) (lay_sound ks a q past step h.1) (all_append (OfTypes most) xb round (lay_sound ks b step e c h.2) (tt, (tt, tt))))
  lay_sound ks (ever a b) p e c h =
      let past = p + size a + size b + 2 in
      let step = p + size a in
      let round : List Instr = Turn ∷ (Jump p ∷ []) in
      let xa = lay ks p past step a in
      let xb = lay ks step e c b in
      all_append (OfTypes most) xa (xb ++ round) (lay_sound ks a p past step h.0) (all_append (OfTypes most) xb round (lay_sound ks b step e c h.1) (tt, (tt, tt)))
  lay_sound ks out p e c h = (tt, tt)
  lay_sound ks next p e c h = (tt, tt)
  lay_sound ks gives p e c h = (tt, tt)
  lay_sound ks leaves p e c h = (tt, tt)

  -- Functions that are called

  abbrev pub AllGood : List Key → Type 0
  AllGood ks = AllByRecursion Good ks

  key_good : (b : Bool) (ks : List Key) (f : Key) → AllGood ks → Good f → AllGood (if b then ks else ks ++ (f ∷ []))
  key_good true ks f all h = all
  key_good false ks f all h = all_append Good ks (f ∷ []) all (h, tt)

  calls_good : (q : Piece) (ks : List Key) → Sound q → AllGood ks → AllGood (add_calls q ks)
  calls_good none ks h all = all
  calls_good (seq a b) ks h all = calls_good b (add_calls a ks) h.1 (calls_good a ks h.0 all)
  calls_good (plain i) ks h all = all
  calls_good (asks f) ks h all = key_good (has_key ks f) ks f all h
  calls_good (pick a b) ks h all = calls_good b (add_calls a ks) h.1 (calls_good a ks h.0 all)
  calls_good (only a) ks h all = calls_good a ks h all
  calls_good (loop t a b) ks h all = calls_good b (add_calls a (add_calls t ks)) h.2 (calls_good a (add_calls t ks) h.1 (calls_good t ks h.0 all))
  calls_good (ever a b) ks h all = calls_good b (add_calls a ks) h.1 (calls_good a ks h.0 all)
  calls_good out ks h all = all
  calls_good next ks h all = all
  calls_good gives ks h all = all
  calls_good leaves ks h all = all

  module _ (g : Drafts) (sound : (f : Key) → Sound (key_piece g f)) where
    next_good : (o : Option Key) (ks : List Key) (go : Key → List Key) → AllGood ks → ((f : Key) → AllGood (go f)) → AllGood (on_key o ks go)
    next_good None ks go all h = all
    next_good (Some f) ks go all h = h f

    reach_good : (n k : ℕ) (ks : List Key) → AllGood ks → AllGood (reach g n k ks)
    unfolding reach
    reach_good zero k ks all = all
    reach_good (suc n) k ks all =
        next_good (slice_get ks k) ks (λ f. reach g n (suc k) (add_calls (key_piece g f) ks)) all
        (λ f. reach_good n (suc k) (add_calls (key_piece g f) ks) (calls_good (key_piece g f) ks (sound f) all))

    -- all functions of an element whose first one is good
    pub keys_good : (main : Key) → Good main → AllGood (keys g main)
    unfolding keys
    keys_good main h = reach_good 65537 0 (main ∷ []) (h, tt)

    pub codes_typed : (ks : List Key) (p : ℕ) (fs : List Key) → Typed (codes g ks p fs)
    codes_typed ks p [] = tt
    codes_typed ks p (f ∷ fs) =
        let end = p + size (g f).body in
        all_append (OfTypes most) (lay ks p end end (key_piece g f)) (codes g ks (p + size (key_piece g f)) fs) (lay_sound ks (key_piece g f) p end end (sound f)) (codes_typed ks (p + size (key_piece g f)) fs)

  -- the end of a function
  pub end_sound : (answer : Answer) (k : ℕ) → k ≤ most → Sound (end_by answer k)
  end_sound Nothing k h = tt
  end_sound NumberBack k h = (tt, tt)
  end_sound AtomBack k h = (h, tt)

-- heads of functions
pub values_ranged : (g : Drafts) (p : ℕ) (fs : List Key) → AllByRecursion (λ f. IsRanged (value_at g 0 f)) fs → AllByRecursion IsRanged (values g p fs)
values_ranged g p [] all = tt
values_ranged g p (f ∷ fs) all = (record { name = all.0.name; base = all.0.base; params = all.0.params }, values_ranged g (p + size (key_piece g f)) fs all.1)
