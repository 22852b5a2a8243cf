-- Events whose windows are kept as the words of their atoms, without those that are 0.
use Rattle.std.specs.Prelude.{ℕ, ◌≡◌, ◌≤◌, ◌+◌, ◌-◌, ◌*◌, ◌/◌, ◌%◌, ◌^◌, List, [], ◌∷◌, All, drop, length, map, filter, take}
use Rattle.bit_field.specs.Atom.{AtomValue, bits_of}
use Rattle.bit_field.specs.Words.{atom_of}
use Rattle.window_sites.specs.Window.{IsWindow, WindowValue}
use Rattle.event_film.specs.Marks.{is_nonzero, marked, unpacked}
use Rattle.event_film.specs.declared.frame.Frame.{Frame}
use Rattle.event_film.specs.declared.kept.Kept.{Kept}

-- the low and the high words that are stored, those of the first event first, and how many of each there is room for
pub record WordsValue : Type 0 where
  pub lows : List ℕ
  pub highs : List ℕ
  pub most : ℕ

-- the low and the high words of the atoms of a window
abbrev pub low_words : WindowValue → List ℕ
low_words w = map (λ a. bits_of a % 2 ^ 64) w.atoms

abbrev pub high_words : WindowValue → List ℕ
high_words w = map (λ a. bits_of a / 2 ^ 64) w.atoms

-- the frame of an event: it marks the words that are stored, which aren't 0
abbrev pub frame_of : ℕ → ℕ → WindowValue → Frame
frame_of x y w = record { x = x; y = y; live = w.live; lows = map is_nonzero (low_words w); highs = map is_nonzero (high_words w) }

-- two frames have the same marks
abbrev pub HasMarksOf : Frame → Frame → Type 0
HasMarksOf f g = (f.live ≡ g.live) × (f.lows ≡ g.lows) × (f.highs ≡ g.highs)

-- the words that are stored of some
abbrev pub packed : List ℕ → List ℕ
packed words = filter is_nonzero words

-- the atoms of these low and high words
abbrev pub joined : List ℕ → List ℕ → List AtomValue
joined [] hs = []
joined (l ∷ ls) [] = []
joined (l ∷ ls) (h ∷ hs) = atom_of l h ∷ joined ls hs

-- the window of a frame, and its event, if the first of these low and high words are stored with it
abbrev pub window_in : Frame → List ℕ → List ℕ → WindowValue
window_in f ls hs = record { atoms = joined (unpacked 0 f.lows ls) (unpacked 0 f.highs hs); live = f.live }

abbrev pub event_in : Frame → List ℕ → List ℕ → Kept
event_in f ls hs = record { x = f.x; y = f.y; window = window_in f ls hs }

-- the window with whose words these words end, if they are stored with a frame; and the words without those
abbrev pub last_window : Frame → WordsValue → WindowValue
last_window f words = window_in f (drop (length words.lows - marked f.lows) words.lows) (drop (length words.highs - marked f.highs) words.highs)

abbrev pub without_last : Frame → WordsValue → WordsValue
without_last f words = record words { lows = take (length words.lows - marked f.lows) words.lows; highs = take (length words.highs - marked f.highs) words.highs }

-- words that end with those of a window, which are stored with a frame
pub record EndWith (f : Frame) (words : WordsValue) : Type 0 where
  pub lows : marked f.lows ≤ length words.lows
  pub highs : marked f.highs ≤ length words.highs
  pub window : IsWindow (last_window f words)

-- the events of some frames, with which these words are stored, frame after frame
abbrev pub events_in : List Frame → List ℕ → List ℕ → List Kept
events_in [] ls hs = []
events_in (f ∷ fs) ls hs = event_in f ls hs ∷ events_in fs (drop (marked f.lows) ls) (drop (marked f.highs) hs)

-- how many low words are stored with some frames, and how many high ones
abbrev pub lows_in : List Frame → ℕ
lows_in [] = 0
lows_in (f ∷ fs) = marked f.lows + lows_in fs

abbrev pub highs_in : List Frame → ℕ
highs_in [] = 0
highs_in (f ∷ fs) = marked f.highs + highs_in fs

-- a frame marks the sites of a window
abbrev pub IsFew : Frame → Type 0
IsFew f = (marked f.lows ≤ 41) × (marked f.highs ≤ 41)

-- there is a word for each mark of these frames, and they keep windows
pub record ArePacked (frames : List Frame) (ls hs : List ℕ) : Type 0 where
  pub lows_whole : lows_in frames ≡ length ls
  pub highs_whole : highs_in frames ≡ length hs
  pub few : All IsFew frames
  pub windows : All (λ (k : Kept). IsWindow k.window) (events_in frames ls hs)

-- these frames and words are packed, and there is room for so many events more
pub record HasRoom (most_frames spare : ℕ) (frames : List Frame) (words : WordsValue) : Type 0 where
  pub frames_fit : length frames + spare ≤ most_frames
  pub words_fit : 41 * (length frames + spare) ≤ words.most
  pub are_packed : ArePacked frames words.lows words.highs
