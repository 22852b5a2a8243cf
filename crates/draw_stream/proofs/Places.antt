-- One word more, and one attempt more, of a stream.
use Rattle.std.proofs.Common.{ℕ, zero, suc, ◌≡◌, ◌+◌, ◌*◌, ◌%◌, List, [], ◌∷◌, refl, ap, sym, ◌∙◌, arith, map, length, ◌-◌, ◌<◌}
use Rattle.std.specs.Prelude.{Some, None}
use Rattle.std.specs.List.{range_with_len}
use Rattle.draw_stream.specs.declared.attempt.Attempt.{Attempt}
use Rattle.draw_stream.specs.Words.{tile_step, tile_state, tile_word, event_step, event_state}
use Rattle.draw_stream.specs.Attempts.{attempt_at, next_attempt, state_after, next_attempts}
use Rattle.draw_stream.specs.Plans.{TakesNext}

pub tile_state-more : (seed i : ℕ) → tile_state seed (i + 1) ≡ (tile_step (tile_state seed i)).1
unfolding tile_state
tile_state-more seed i = let e : i + 1 ≡ suc i = omega arith in rw e refl

pub event_state-more : (seed k : ℕ) → event_state seed (k + 1) ≡ (event_step (event_state seed k)).1
unfolding event_state
event_state-more seed k = let e : k + 1 ≡ suc k = omega arith in rw e refl

pub next_attempt-at : (stream sites i : ℕ) → next_attempt (tile_state stream (2 * i)) sites ≡ attempt_at stream sites i
next_attempt-at stream sites i =
    let made : List ℕ → Attempt = λ s. record { centre = tile_word stream (2 * i) % sites; seed = (tile_step s).0 } in
    ap made (sym (tile_state-more stream (2 * i)))

pub state_after-at : (stream i : ℕ) → state_after (tile_state stream (2 * i)) ≡ tile_state stream (2 * (i + 1))
state_after-at stream i =
    let e : 2 * (i + 1) ≡ 2 * i + 1 + 1 = omega arith in
    let step : List ℕ → List ℕ = λ s. (tile_step s).1 in
    ap step (sym (tile_state-more stream (2 * i))) ∙ sym (tile_state-more stream (2 * i + 1)) ∙ ap (tile_state stream) (sym e)

-- the same at a state that is the stream's after 2i words
pub attempt_in_place : (state : List ℕ) (sites stream i : ℕ) → state ≡ tile_state stream (2 * i) → next_attempt state sites ≡ attempt_at stream sites i
attempt_in_place state sites stream i at = ap (λ s. next_attempt s sites) at ∙ next_attempt-at stream sites i

pub state_in_place : (state : List ℕ) (stream i : ℕ) → state ≡ tile_state stream (2 * i) → state_after state ≡ tile_state stream (2 * (i + 1))
state_in_place state stream i at = ap (λ s. state_after s) at ∙ state_after-at stream i

-- no attempts, and one and the others
pub next_attempts_none : (state : List ℕ) (sites : ℕ) → next_attempts state sites 0 ≡ []
unfolding next_attempts
next_attempts_none state sites = refl

pub next_attempts_some : (state : List ℕ) (sites left : ℕ) → 0 < left →
    next_attempts state sites left ≡ next_attempt state sites ∷ next_attempts (state_after state) sites (left - 1)
unfolding next_attempts
next_attempts_some state sites zero h = absurd (omega arith)
next_attempts_some state sites (suc k) h = let e : suc k - 1 ≡ k = omega arith in rw e refl

pub length_next_attempts : (state : List ℕ) (sites left : ℕ) → length (next_attempts state sites left) ≡ left
unfolding next_attempts
length_next_attempts state sites zero = refl
length_next_attempts state sites (suc k) = ap suc (length_next_attempts (state_after state) sites k)

-- nothing, or the first, is taken
pub takes_none : (l m : List Attempt) → l ≡ [] → m ≡ [] → TakesNext l None m
takes_none l m e f = rw e (refl, f)

pub takes_first : (l m : List Attempt) (a : Attempt) → l ≡ a ∷ m → TakesNext l (Some a) m
takes_first l m a e = rw e (refl, refl)

-- the next attempts of a generator are those by position
pub next_attempts-at : (stream sites i k : ℕ) → next_attempts (tile_state stream (2 * i)) sites k ≡ map (attempt_at stream sites) (range_with_len i k)
unfolding next_attempts
next_attempts-at stream sites i zero = refl
next_attempts-at stream sites i (suc k) =
    let first : Attempt → List Attempt = λ a. a ∷ next_attempts (state_after (tile_state stream (2 * i))) sites k in
    let rest : List Attempt → List Attempt = λ l. attempt_at stream sites i ∷ l in
    ap first (next_attempt-at stream sites i)
    ∙ ap rest (ap (λ s. next_attempts s sites k) (state_after-at stream i) ∙ next_attempts-at stream sites (i + 1) k)
