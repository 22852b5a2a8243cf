-- Frames after frames, and the words of their windows.
use Rattle.std.proofs.Common.{ℕ, Bool, ◌≡◌, ◌<◌, ◌≤◌, ◌+◌, ◌*◌, ◌-◌, ◌%◌, ◌/◌, ◌^◌, ◌∙◌, List, [], ◌∷◌, ◌++◌, All, get_or, length, map, drop, take, ap, sym, subst, arith}
use Rattle.std.proofs.lemmas.List.{drop-append-le, length-append, length-drop, length-map, length-take-le, length_push, nil_from_length, take-append-drop, take_all}
use Rattle.std.proofs.lemmas.List.Sums.{count_by-le-length}
use Rattle.std.proofs.lemmas.List.Elements.{All-append, All-cons, All-head, All-nil, All-tail}
use Rattle.bit_field.specs.Atom.{AtomValue, bits_of, empty_atom}
use Rattle.bit_field.specs.declared.TheConstants.{STATE_BITS}
use Rattle.window_sites.specs.Window.{IsWindow, WindowValue}
use Rattle.event_film.specs.Marks.{is_nonzero, marked, unpacked}
use Rattle.event_film.specs.Packed.{ArePacked, EndWith, HasMarksOf, HasRoom, IsFew, WordsValue, event_in, events_in, frame_of, high_words, highs_in, joined, last_window, low_words, lows_in, packed, window_in, without_last}
use Rattle.event_film.specs.declared.frame.Frame.{Frame}
use Rattle.event_film.specs.declared.kept.Kept.{Kept}
use Rattle.event_film.proofs.Sites.{count_packed, joined_words, unpacked_more, unpacked_packed}

-- the event of a frame that is packed
pub event_packed : (x y : ℕ) (w : WindowValue) → ((n : ℕ) → (get_or w.atoms n empty_atom).state < 2 ^ STATE_BITS) → event_in (frame_of x y w) (packed (low_words w)) (packed (high_words w)) ≡ record { x = x; y = y; window = w }
event_packed x y w states =
    let lows = unpacked_packed (low_words w) in
    let highs = unpacked_packed (high_words w) in
    (λ i. record { x = x; y = y; window = record { atoms = joined (lows i) (highs i); live = w.live } })
    ∙ (λ i. record { x = x; y = y; window = record { atoms = joined_words w.atoms states i; live = w.live } })

lows_push : (fs : List Frame) (f : Frame) → lows_in (fs ++ f ∷ []) ≡ lows_in fs + marked f.lows
lows_push [] f = omega arith
lows_push (g ∷ fs) f = omega (arith, lows_push fs f)

highs_push : (fs : List Frame) (f : Frame) → highs_in (fs ++ f ∷ []) ≡ highs_in fs + marked f.highs
highs_push [] f = omega arith
highs_push (g ∷ fs) f = omega (arith, highs_push fs f)

-- the events are those of the first words, and one more of the others
events_push : (fs : List Frame) (f : Frame) (ls hs nl nh : List ℕ) → lows_in fs ≡ length ls → highs_in fs ≡ length hs → events_in (fs ++ f ∷ []) (ls ++ nl) (hs ++ nh) ≡ events_in fs ls hs ++ event_in f nl nh ∷ []
events_push [] f ls hs nl nh l h =
    let no_lows = nil_from_length ls (sym l) in
    let no_highs = nil_from_length hs (sym h) in
    λ i. event_in f (no_lows i ++ nl) (no_highs i ++ nh) ∷ []
events_push (g ∷ fs) f ls hs nl nh l h =
    let few_lows : marked g.lows ≤ length ls = omega (arith, l) in
    let few_highs : marked g.highs ≤ length hs = omega (arith, h) in
    let rest = events_push fs f (drop (marked g.lows) ls) (drop (marked g.highs) hs) nl nh (omega (arith, l, length-drop (marked g.lows) ls)) (omega (arith, h, length-drop (marked g.highs) hs)) in
    (λ i. record { x = g.x; y = g.y; window = record { atoms = joined (unpacked_more g.lows ls nl few_lows i) (unpacked_more g.highs hs nh few_highs i); live = g.live } }
    ∷ events_in (fs ++ f ∷ []) (drop-append-le (marked g.lows) ls nl few_lows i) (drop-append-le (marked g.highs) hs nh few_highs i))
    ∙ ap (λ ks. event_in g ls hs ∷ ks) rest

few_marked : (words : List ℕ) → length words ≡ 41 → marked (map is_nonzero words) ≤ 41
few_marked words long = let few = count_by-le-length (λ (m : Bool). m) (map is_nonzero words) in omega (arith, few, length-map words is_nonzero, long)

module _ (x y : ℕ) (w : WindowValue) (fs : List Frame) (ls hs : List ℕ) (states : (n : ℕ) → (get_or w.atoms n empty_atom).state < 2 ^ STATE_BITS) where
  -- the events are those before and that one
  pub events_more : ArePacked fs ls hs → events_in (fs ++ frame_of x y w ∷ []) (ls ++ packed (low_words w)) (hs ++ packed (high_words w)) ≡ events_in fs ls hs ++ record { x = x; y = y; window = w } ∷ []
  events_more h =
      events_push fs (frame_of x y w) ls hs (packed (low_words w)) (packed (high_words w)) h.lows_whole h.highs_whole
      ∙ ap (λ k. events_in fs ls hs ++ k ∷ []) (event_packed x y w states)

  pub packed_upon : IsWindow w → ArePacked fs ls hs → ArePacked (fs ++ frame_of x y w ∷ []) (ls ++ packed (low_words w)) (hs ++ packed (high_words w))
  packed_upon is h =
      let f = frame_of x y w in
      let k : Kept = record { x = x; y = y; window = w } in
      let few : IsFew f = (few_marked (low_words w) (length-map w.atoms (λ (a : AtomValue). bits_of a % 2 ^ 64) ∙ is.atoms), few_marked (high_words w) (length-map w.atoms (λ (a : AtomValue). bits_of a / 2 ^ 64) ∙ is.atoms)) in
      record {
        lows_whole = omega (arith, lows_push fs f, h.lows_whole, count_packed (low_words w), length-append ls (packed (low_words w)));
        highs_whole = omega (arith, highs_push fs f, h.highs_whole, count_packed (high_words w), length-append hs (packed (high_words w)));
        few = All-append IsFew fs (f ∷ []) h.few (All-cons IsFew f [] few (All-nil IsFew));
        windows = subst (All (λ (e : Kept). IsWindow e.window)) (sym (events_more h)) (All-append (λ (e : Kept). IsWindow e.window) (events_in fs ls hs) (k ∷ []) h.windows (All-cons (λ (e : Kept). IsWindow e.window) k [] is (All-nil (λ (e : Kept). IsWindow e.window))));
      }

words_few : (fs : List Frame) → All IsFew fs → (lows_in fs ≤ 41 * length fs) × (highs_in fs ≤ 41 * length fs)
words_few [] few = (omega arith, omega arith)
words_few (f ∷ fs) few =
    let first = All-head IsFew f fs few in
    let rest = words_few fs (All-tail IsFew f fs few) in
    (omega (arith, first.0, rest.0), omega (arith, first.1, rest.1))

-- there is room for the words of one more window
pub words_fit : (most_frames spare : ℕ) (fs : List Frame) (words : WordsValue) → 0 < spare → HasRoom most_frames spare fs words → (length words.lows + 41 ≤ words.most) × (length words.highs + 41 ≤ words.most)
words_fit most_frames spare fs words some h =
    let few = words_few fs h.are_packed.few in
    (omega (arith, some, h.words_fit, h.are_packed.lows_whole, few.0), omega (arith, some, h.words_fit, h.are_packed.highs_whole, few.1))

-- room for one event less, once a window is packed
pub room_less : (most spare x y : ℕ) (w : WindowValue) (fs : List Frame) (words new : WordsValue) → 0 < spare → IsWindow w → ((n : ℕ) → (get_or w.atoms n empty_atom).state < 2 ^ STATE_BITS) → HasRoom most spare fs words →
    new ≡ record { lows = words.lows ++ packed (low_words w); highs = words.highs ++ packed (high_words w); most = words.most } → HasRoom most (spare - 1) (fs ++ frame_of x y w ∷ []) new
room_less most spare x y w fs words new some is states h e = rw e (record {
  frames_fit = omega (arith, some, h.frames_fit, length_push fs (frame_of x y w));
  words_fit = omega (arith, some, h.words_fit, length_push fs (frame_of x y w));
  are_packed = packed_upon x y w fs words.lows words.highs states is h.are_packed;
})

All-first : {A : Type 0} (P : A → Type 0) (xs ys : List A) → All P (xs ++ ys) → All P xs
All-first P [] ys h = All-nil P
All-first P (x ∷ xs) ys h = All-cons P x xs (All-head P x (xs ++ ys) h) (All-first P xs ys (All-tail P x (xs ++ ys) h))

All-last : {A : Type 0} (P : A → Type 0) (xs : List A) (y : A) → All P (xs ++ y ∷ []) → P y
All-last P [] y h = All-head P y [] h
All-last P (x ∷ xs) y h = All-last P xs y (All-tail P x (xs ++ y ∷ []) h)

-- the last frame, its words, and those before them
module _ (f : Frame) (fs : List Frame) (ls hs : List ℕ) (h : ArePacked (fs ++ f ∷ []) ls hs) where
  lows_before : lows_in fs ≡ length (take (length ls - marked f.lows) ls)
  lows_before = omega (arith, h.lows_whole, lows_push fs f, length-take-le (length ls - marked f.lows) ls (omega arith))

  highs_before : highs_in fs ≡ length (take (length hs - marked f.highs) hs)
  highs_before = omega (arith, h.highs_whole, highs_push fs f, length-take-le (length hs - marked f.highs) hs (omega arith))

  -- the events are those of the words before, and the last
  pub events_less : events_in (fs ++ f ∷ []) ls hs ≡
      events_in fs (take (length ls - marked f.lows) ls) (take (length hs - marked f.highs) hs) ++ event_in f (drop (length ls - marked f.lows) ls) (drop (length hs - marked f.highs) hs) ∷ []
  events_less =
      let l = length ls - marked f.lows in
      let k = length hs - marked f.highs in
      (λ i. events_in (fs ++ f ∷ []) (sym (take-append-drop l ls) i) (sym (take-append-drop k hs) i))
      ∙ events_push fs f (take l ls) (take k hs) (drop l ls) (drop k hs) lows_before highs_before

  windows_less : All (λ (e : Kept). IsWindow e.window) (events_in fs (take (length ls - marked f.lows) ls) (take (length hs - marked f.highs) hs) ++ event_in f (drop (length ls - marked f.lows) ls) (drop (length hs - marked f.highs) hs) ∷ [])
  windows_less = subst (All (λ (e : Kept). IsWindow e.window)) events_less h.windows

  pub window_last : IsWindow (event_in f (drop (length ls - marked f.lows) ls) (drop (length hs - marked f.highs) hs)).window
  window_last = All-last (λ (e : Kept). IsWindow e.window) _ _ windows_less

  pub packed_before : ArePacked fs (take (length ls - marked f.lows) ls) (take (length hs - marked f.highs) hs)
  packed_before = record {
    lows_whole = lows_before;
    highs_whole = highs_before;
    few = All-first IsFew fs (f ∷ []) h.few;
    windows = All-first (λ (e : Kept). IsWindow e.window) _ _ windows_less;
  }

-- as above, of words
module _ (f : Frame) (fs : List Frame) (words : WordsValue) (h : ArePacked (fs ++ f ∷ []) words.lows words.highs) where
  pub end_with : EndWith f words
  end_with = record {
    lows = omega (arith, h.lows_whole, lows_push fs f);
    highs = omega (arith, h.highs_whole, highs_push fs f);
    window = window_last f fs words.lows words.highs h;
  }

  pub events_last : events_in (fs ++ f ∷ []) words.lows words.highs ≡ events_in fs (without_last f words).lows (without_last f words).highs ++ record { x = f.x; y = f.y; window = last_window f words } ∷ []
  events_last = events_less f fs words.lows words.highs h

-- room for one event more, once the last frame is unpacked
pub room_more : (most spare : ℕ) (f : Frame) (fs : List Frame) (words new : WordsValue) → HasRoom most spare (fs ++ f ∷ []) words → new ≡ without_last f words → HasRoom most (spare + 1) fs new
room_more most spare f fs words new h e = rw e (record {
  frames_fit = omega (arith, h.frames_fit, length_push fs f);
  words_fit = omega (arith, h.words_fit, length_push fs f);
  are_packed = packed_before f fs words.lows words.highs h.are_packed;
})

-- a window whose words are the last is that of the frame with its marks
pub same_window : (f g : Frame) (w : WindowValue) (words : WordsValue) → ((n : ℕ) → (get_or w.atoms n empty_atom).state < 2 ^ STATE_BITS) → g ≡ frame_of f.x f.y w → HasMarksOf g f →
    drop (length words.lows - marked f.lows) words.lows ≡ packed (low_words w) → drop (length words.highs - marked f.highs) words.highs ≡ packed (high_words w) → w ≡ last_window f words
same_window f g w words states is marks ls hs =
    let lows = sym marks.1 ∙ ap (λ (e : Frame). e.lows) is in
    let highs = sym marks.2 ∙ ap (λ (e : Frame). e.highs) is in
    let live = sym marks.0 ∙ ap (λ (e : Frame). e.live) is in
    let window : last_window f words ≡ window_in (frame_of f.x f.y w) (packed (low_words w)) (packed (high_words w)) =
    (λ i. record { atoms = joined (unpacked 0 (lows i) (ls i)) (unpacked 0 (highs i) (hs i)); live = live i }) in
    sym (window ∙ ap (λ (k : Kept). k.window) (event_packed f.x f.y w states))

-- the words from a place on are the last
pub last_words : (words now ys : List ℕ) (start m : ℕ) → now ≡ words → start ≡ length words - m → take (length now - start) (drop start now) ≡ ys → drop (length words - m) words ≡ ys
last_words words now ys start m same is h = (λ i. drop (sym is i) (sym same i)) ∙ sym (take_all (length now - start) (drop start now) (omega (arith, length-drop start now))) ∙ h
