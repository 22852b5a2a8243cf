-- One act more of a list.
use Rattle.std.proofs.Common.{ℕ, ◌≡◌, ◌+◌, ◌<◌, Bool, true, false, List, [], ◌∷◌, ◌++◌, length, get_or, take, map, cond, refl, sym, subst, ap, ◌∙◌, append_assoc, append-nil}
use Rattle.std.specs.Prelude.{filter}
use Rattle.std.proofs.lemmas.List.{take_more, map-append}
use Rattle.std.proofs.lemmas.List.Elements.{filter_more}
use Rattle.cell_grid.specs.Grid.{GridValue}
use Rattle.draw_stream.specs.Words.{tile_state}
use Rattle.plane_acts.specs.Acts.{Act, after_act, words_drawn}
use Rattle.plane_acts.specs.Schedules.{after_acts}
use Rattle.plane_acts.specs.Steps.{AreDone}

pub done-none : (words : List ℕ) (grid : GridValue) → AreDone [] words grid words grid
done-none words grid = record { rest = λ seed n at. (n, at, λ more. refl) }

one : (seed n : ℕ) (act : Act) (more : List Act) (g : GridValue) → after_acts seed n (act ∷ more) g ≡ after_acts seed (n + words_drawn act) more (after_act seed n act g)
unfolding after_acts
one seed n act more g = refl

pub done-more : (acts : List Act) (act : Act) (w0 : List ℕ) (g0 : GridValue) (w1 : List ℕ) (g1 : GridValue) (w2 : List ℕ) (g2 : GridValue) → AreDone acts w0 g0 w1 g1 →
    ((seed n : ℕ) → w1 ≡ tile_state seed n → g2 ≡ after_act seed n act g1) → ((seed n : ℕ) → w1 ≡ tile_state seed n → w2 ≡ tile_state seed (n + words_drawn act)) → AreDone (acts ++ act ∷ []) w0 g0 w2 g2
done-more acts act w0 g0 w1 g1 w2 g2 h grid words = record {
  rest = λ seed n at.
      let r = h.rest seed n at in
      let m = r.0 in (
        m + words_drawn act,
        words seed m r.1,
        λ more.
            ap (λ l. after_acts seed n l g0) (append_assoc acts (act ∷ []) more)
            ∙ r.2 (act ∷ more)
            ∙ one seed m act more g1
            ∙ ap (after_acts seed (m + words_drawn act) more) (sym (grid seed m r.1)),
      );
}

none_left : (seed n : ℕ) (g : GridValue) → after_acts seed n [] g ≡ g
unfolding after_acts
none_left seed n g = refl

-- two lists of acts, the second after the first, from the first word of a stream on
pub done-both : (first second : List Act) (seed : ℕ) (w0 : List ℕ) (g0 : GridValue) (w1 : List ℕ) (g1 : GridValue) (w2 : List ℕ) (g2 : GridValue) → w0 ≡ tile_state seed 0 →
    AreDone first w0 g0 w1 g1 → AreDone second w1 g1 w2 g2 → g2 ≡ after_acts seed 0 (first ++ second) g0
done-both first second seed w0 g0 w1 g1 w2 g2 at p q =
    let r = p.rest seed 0 at in
    let t = q.rest seed r.0 r.1 in
    sym (r.2 second ∙ ap (λ l. after_acts seed r.0 l g1) (sym (append-nil second)) ∙ t.2 [] ∙ none_left seed t.0 g2)

-- the acts of one entry more of a list, and of one more of those that pass a test
pub map-next : {A : Type 0} (f : A → Act) (xs : List A) (k : ℕ) (x : A) → k < length xs → x ≡ get_or xs k x → map f (take (k + 1) xs) ≡ map f (take k xs) ++ f x ∷ []
map-next f xs k x lt is =
    ap (map f) (take_more xs k x lt)
    ∙ map-append f (take k xs) (get_or xs k x ∷ [])
    ∙ ap (λ y. map f (take k xs) ++ f y ∷ []) (sym is)

pub pass-next : {A : Type 0} (f : A → Act) (p : A → Bool) (xs : List A) (k : ℕ) (x : A) → k < length xs → x ≡ get_or xs k x → p x ≡ true →
    map f (filter p (take (k + 1) xs)) ≡ map f (filter p (take k xs)) ++ f x ∷ []
pass-next {A} f p xs k x lt is pass =
    let ys = filter p (take k xs) in
    let added : Bool → A → List A = λ b y. cond b (y ∷ []) [] in
    ap (map f) (filter_more p xs k x lt ∙ ap (λ y. ys ++ added (p y) y) (sym is) ∙ ap (λ b. ys ++ added b x) pass)
    ∙ map-append f ys (x ∷ [])

pub fail-next : {A : Type 0} (f : A → Act) (p : A → Bool) (xs : List A) (k : ℕ) (x : A) → k < length xs → x ≡ get_or xs k x → p x ≡ false →
    map f (filter p (take (k + 1) xs)) ≡ map f (filter p (take k xs))
fail-next {A} f p xs k x lt is fail =
    let ys = filter p (take k xs) in
    let added : Bool → A → List A = λ b y. cond b (y ∷ []) [] in
    ap (map f) (filter_more p xs k x lt ∙ ap (λ y. ys ++ added (p y) y) (sym is) ∙ ap (λ b. ys ++ added b x) fail ∙ append-nil ys)

pub done-next : (acts more : List Act) (act : Act) (w0 : List ℕ) (g0 : GridValue) (w1 : List ℕ) (g1 : GridValue) (w2 : List ℕ) (g2 : GridValue) → more ≡ acts ++ act ∷ [] → AreDone acts w0 g0 w1 g1 →
    ((seed n : ℕ) → w1 ≡ tile_state seed n → g2 ≡ after_act seed n act g1) → ((seed n : ℕ) → w1 ≡ tile_state seed n → w2 ≡ tile_state seed (n + words_drawn act)) → AreDone more w0 g0 w2 g2
done-next acts more act w0 g0 w1 g1 w2 g2 is h grid words =
    let P : List Act → Type 0 = λ l. AreDone l w0 g0 w2 g2 in
    subst P (sym is) (done-more acts act w0 g0 w1 g1 w2 g2 h grid words)

-- the same for the same acts, words and grid
pub done-same : (acts more : List Act) (w0 : List ℕ) (g0 : GridValue) (w1 : List ℕ) (g1 : GridValue) (w2 : List ℕ) (g2 : GridValue) → more ≡ acts → w2 ≡ w1 → g2 ≡ g1 → AreDone acts w0 g0 w1 g1 → AreDone more w0 g0 w2 g2
done-same acts more w0 g0 w1 g1 w2 g2 a w g h =
    let P : List Act → Type 0 = λ l. AreDone l w0 g0 w2 g2 in
    let Q : List ℕ → Type 0 = λ l. AreDone acts w0 g0 l g2 in
    let R : GridValue → Type 0 = λ q. AreDone acts w0 g0 w1 q in
    subst P (sym a) (subst Q (sym w) (subst R (sym g) h))
