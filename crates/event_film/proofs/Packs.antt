-- Words on the way of being stored, and taken off again, from the first site to the last.
use Rattle.std.proofs.Common.{ℕ, suc, zero, ◌≡◌, ◌<◌, ◌≤◌, ◌+◌, ◌-◌, ◌∙◌, Bool, true, false, List, [], ◌∷◌, ◌++◌, drop, take, length, map, refl, ap, sym, arith, get_or, set, drop-drop}
use Rattle.std.specs.Prelude.{replicate, Some, None}
use Rattle.std.proofs.Math.Seq.{append_snoc, take-add}
use Rattle.std.proofs.lemmas.List.{append_assoc, append-nil, take_more_set, take-append-drop, drop-set-lt, drop-replicate, get_or-drop, length-append, length-drop, length-set, length-replicate, take-replicate}
use Rattle.event_film.specs.Marks.{IsNextSite, SitesFrom, is_nonzero, marked, unpacked}
use Rattle.event_film.specs.Packed.{packed}
use Rattle.event_film.proofs.Marking.{marked_more, marked_same}

-- the words of some sites, of which the first k are 0 and the next isn't
record HasNextWord (k : ℕ) (words : List ℕ) (ms : List Bool) : Type 0 where
  here : k < length words
  first : packed words ≡ get_or words k 0 ∷ packed (drop (suc k) words)
  rest : ms ≡ map is_nonzero (drop (suc k) words)

abbrev tail_or : List Bool → List Bool
tail_or [] = []
tail_or (m ∷ ms) = ms

abbrev head_or : List Bool → Bool
head_or [] = false
head_or (m ∷ ms) = m

next_word : (k : ℕ) (words : List ℕ) (ms : List Bool) → map is_nonzero words ≡ replicate k false ++ true ∷ ms → HasNextWord k words ms
next_word zero [] ms e = absurd (cc e)
next_word (suc k) [] ms e = absurd (cc e)
next_word zero (w ∷ words) ms e =
    let set : is_nonzero w ≡ true = ap head_or e in
    record { here = omega arith; first = rw set refl; rest = sym (ap tail_or e) }
next_word (suc k) (w ∷ words) ms e =
    let clear : is_nonzero w ≡ false = ap head_or e in
    let next = next_word k words ms (ap tail_or e) in
    record { here = omega (arith, next.here); first = rw clear next.first; rest = next.rest }

none_packed : (k : ℕ) (words : List ℕ) → map is_nonzero words ≡ replicate k false → packed words ≡ []
none_packed k [] e = refl
none_packed zero (w ∷ words) e = absurd (cc e)
none_packed (suc k) (w ∷ words) e =
    let clear : is_nonzero w ≡ false = ap head_or e in
    rw clear (none_packed k words (ap tail_or e))

few_first : (w : ℕ) (ws : List ℕ) (b : Bool) → is_nonzero w ≡ b → length (packed ws) ≤ length ws → length (packed (w ∷ ws)) ≤ length (w ∷ ws)
few_first w ws true e h = rw e (omega (arith, h))
few_first w ws false e h = rw e (omega (arith, h))

pub few_packed : (words : List ℕ) → length (packed words) ≤ length words
few_packed [] = omega arith
few_packed (w ∷ ws) = few_first w ws (is_nonzero w) refl (few_packed ws)

marked_skip : (k : ℕ) (ms : List Bool) → marked (replicate k false ++ ms) ≡ marked ms
marked_skip zero ms = refl
marked_skip (suc k) ms = marked_same (replicate k false ++ ms) ∙ marked_skip k ms

marked_none : (k : ℕ) → marked (replicate k false) ≡ 0
marked_none zero = refl
marked_none (suc k) = marked_same (replicate k false) ∙ marked_none k

-- one mark less, once there is a next site; none if there isn't
pub one_less : (n : ℕ) (s s' : SitesFrom) → IsNextSite s (Some n) s' → marked s.marks ≡ suc (marked s'.marks)
one_less n s s' next = ap marked next.2 ∙ marked_skip (n - s.at) (true ∷ s'.marks) ∙ marked_more s'.marks

pub none_less : (s s' : SitesFrom) → IsNextSite s None s' → marked s.marks ≡ 0
none_less s s' end = ap marked end.0 ∙ marked_none (length s.marks)

-- the words of the sites before some are put on the old ones; these sites are marked
pub record ArePushed (words old : List ℕ) (s : SitesFrom) (now : List ℕ) : Type 0 where
  pub marks_are : s.marks ≡ map is_nonzero (drop s.at words)
  pub whole : now ++ packed (drop s.at words) ≡ old ++ packed words

pub push_begun : (words old : List ℕ) (s : SitesFrom) (marks : List Bool) → s ≡ record { at = 0; marks = marks } → marks ≡ map is_nonzero words → ArePushed words old s old
push_begun words old s marks e m = rw e (record { marks_are = m; whole = refl })

module _ (words old now : List ℕ) (s s' : SitesFrom) where
  pushed_next : (n : ℕ) → ArePushed words old s now → IsNextSite s (Some n) s' →
      (n < length words) × (packed (drop s.at words) ≡ get_or words n 0 ∷ packed (drop s'.at words)) × (s'.marks ≡ map is_nonzero (drop s'.at words))
  pushed_next n h next =
      let k = n - s.at in
      let site = next_word k (drop s.at words) s'.marks (sym h.marks_are ∙ next.2) in
      let there : s.at + k ≡ n = omega (arith, next.0) in
      let after : s.at + suc k ≡ s'.at = omega (arith, next.0, next.3) in
      let word : get_or (drop s.at words) k 0 ≡ get_or words n 0 = get_or-drop s.at words k 0 ∙ ap (λ i. get_or words i 0) there in
      let rest : drop (suc k) (drop s.at words) ≡ drop s'.at words = drop-drop (suc k) s.at words ∙ ap (λ i. drop i words) after in
      (omega (arith, site.here, there, length-drop s.at words), site.first ∙ (λ i. word i ∷ packed (rest i)), site.rest ∙ ap (map is_nonzero) rest)

  -- the word of the next site
  pub pushed_more : (n w : ℕ) → ArePushed words old s now → IsNextSite s (Some n) s' → w ≡ get_or words n 0 → ArePushed words old s' (now ++ w ∷ [])
  pushed_more n w h next is =
      let site = pushed_next n h next in
      record {
        marks_are = site.2;
        whole = append_snoc now w (packed (drop s'.at words)) ∙ (λ i. now ++ is i ∷ packed (drop s'.at words)) ∙ ap (λ xs. now ++ xs) (sym site.1) ∙ h.whole;
      }

  -- there is room for it
  pub push_fits : (n most : ℕ) → ArePushed words old s now → IsNextSite s (Some n) s' → length words ≡ 41 → length old + 41 ≤ most → length now < most
  push_fits n most h next long room =
      let site = pushed_next n h next in
      let all = ap length h.whole in
      let more = ap length site.1 in
      omega (arith, all, more, length-append now (packed (drop s.at words)), length-append old (packed words), few_packed words, long, room)

  -- no further site is marked
  pub pushed_all : ArePushed words old s now → IsNextSite s None s' → now ≡ old ++ packed words
  pushed_all h end =
      let none = none_packed (length s.marks) (drop s.at words) (sym h.marks_are ∙ end.0) in
      sym (append-nil now) ∙ ap (λ xs. now ++ xs) (sym none) ∙ h.whole

module _ {A : Type 0} (blank : A) where
  unpacked_skip : (k : ℕ) (ms : List Bool) (items : List A) → unpacked blank (replicate k false ++ ms) items ≡ replicate k blank ++ unpacked blank ms items
  unpacked_skip zero ms items = refl
  unpacked_skip (suc k) ms items = ap (λ xs. blank ∷ xs) (unpacked_skip k ms items)

  unpacked_none : (k : ℕ) (items : List A) → unpacked blank (replicate k false) items ≡ replicate k blank
  unpacked_none zero items = refl
  unpacked_none (suc k) items = ap (λ xs. blank ∷ xs) (unpacked_none k items)

  -- the items of the sites before some are taken, and the sites from there on are blank yet; these items are left
  pub record AreTaken (marks : List Bool) (items : List A) (s : SitesFrom) (row left : List A) : Type 0 where
    pub long : length row ≡ 41
    pub end : s.at + length s.marks ≡ 41
    pub row_is : take s.at row ++ unpacked blank s.marks left ≡ unpacked blank marks items
    pub empty : drop s.at row ≡ replicate (length s.marks) blank
    pub enough : marked s.marks ≡ length left

  pub take_begun : (marks : List Bool) (items row : List A) (s : SitesFrom) → s ≡ record { at = 0; marks = marks } → length marks ≡ 41 → row ≡ replicate 41 blank → marked marks ≡ length items → AreTaken marks items s row items
  take_begun marks items row s e long none enough = rw e (record {
    long = ap length none ∙ length-replicate 41 blank;
    end = omega (arith, long);
    row_is = refl;
    empty = none ∙ ap (λ k. replicate k blank) (sym long);
    enough = enough;
  })

  module _ (marks : List Bool) (items row : List A) (s s' : SitesFrom) where
    -- an item is left for the next site
    pub one_left : (n : ℕ) (left : List A) → AreTaken marks items s row left → IsNextSite s (Some n) s' → 0 < length left
    one_left n left h next =
        let count = one_less n s s' next in
        omega (arith, count, h.enough)

    -- the item of the next site
    pub taken_more : (n : ℕ) (x : A) (left : List A) → AreTaken marks items s row (x ∷ left) → IsNextSite s (Some n) s' → AreTaken marks items s' (set row n x) left
    taken_more n x left h next =
        let k = n - s.at in
        let m = length s.marks in
        let there : s.at + k ≡ n = omega (arith, next.0) in
        let size = ap length next.2 ∙ length-append (replicate k false) (true ∷ s'.marks) in
        let skipped = length-replicate k false in
        let count = one_less n s s' next in
        let here : n < length row = omega (arith, next.1, h.long) in
        let before : take n row ≡ take s.at row ++ replicate k blank =
        ap (λ i. take i row) (sym there) ∙ take-add s.at k row ∙ ap (λ xs. take s.at row ++ take k xs) h.empty ∙ ap (λ xs. take s.at row ++ xs) (take-replicate k m blank (omega (arith, size, skipped))) in
        let after : drop s'.at row ≡ replicate (length s'.marks) blank =
        let far : s.at + (k + 1) ≡ s'.at = omega (arith, next.0, next.3) in
        let rest : m - (k + 1) ≡ length s'.marks = omega (arith, size, skipped) in
        ap (λ i. drop i row) (sym far) ∙ sym (drop-drop (k + 1) s.at row) ∙ ap (drop (k + 1)) h.empty ∙ drop-replicate (k + 1) m blank ∙ ap (λ i. replicate i blank) rest in
        record {
          long = length-set row n x ∙ h.long;
          end = omega (arith, h.end, size, skipped, next.0, next.3);
          row_is = ap (λ i. take i (set row n x) ++ unpacked blank s'.marks left) next.3 ∙ ap (λ xs. xs ++ unpacked blank s'.marks left) (take_more_set row n x here) ∙ append_snoc (take n row) x (unpacked blank s'.marks left)
              ∙ ap (λ xs. xs ++ x ∷ unpacked blank s'.marks left) before ∙ append_assoc (take s.at row) (replicate k blank) (x ∷ unpacked blank s'.marks left)
              ∙ ap (λ xs. take s.at row ++ xs) (sym (unpacked_skip k (true ∷ s'.marks) (x ∷ left))) ∙ ap (λ ms. take s.at row ++ unpacked blank ms (x ∷ left)) (sym next.2) ∙ h.row_is;
          empty = drop-set-lt s'.at row n x (omega (arith, next.3)) ∙ after;
          enough = omega (arith, count, h.enough);
        }

    -- no further site is marked
    pub taken_all : (left : List A) → AreTaken marks items s row left → IsNextSite s None s' → row ≡ unpacked blank marks items
    taken_all left h end =
        sym (take-append-drop s.at row) ∙ ap (λ xs. take s.at row ++ xs) (h.empty ∙ sym (unpacked_none (length s.marks) left))
        ∙ ap (λ ms. take s.at row ++ unpacked blank ms left) (sym end.0) ∙ h.row_is
