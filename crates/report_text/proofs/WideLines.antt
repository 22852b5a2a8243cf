-- The whole report that a short one stands for, line by line.
use Rattle.std.proofs.Common.{ℕ, suc, ◌≡◌, ◌≢◌, ◌<◌, ◌+◌, ◌==◌, true, false, List, [], ◌∷◌, ◌++◌, append-nil, codes, flat_map, get_or, length, take, take-suc, refl, ap, sym, ◌∙◌, arith, Option, Some, None}
use Rattle.std.proofs.lemmas.List.{map-append}
use Rattle.std.specs.declared.alloc.Global.{Global}
use Rattle.std.specs.Prelude.{Vec}
use Rattle.draw_stream.specs.Plans.{TakesNext}
use Rattle.draw_stream.specs.declared.attempt.Attempt.{Attempt}
use Rattle.report_text.proofs.Exact.{joined_after}
use Rattle.report_text.specs.Tables.{lists_of}
use Rattle.report_text.specs.Widened.{widened_line, widened_text}
use Rattle.text_lines.proofs.Cuts.{ended_none, ended_open}
use Rattle.text_lines.specs.Fields.{Lacks, fields}
use Rattle.text_lines.specs.Lines.{ended_line, ended_lines}
use Rattle.tile_map.specs.Plane.{MapValue}

-- a line of the fields of a text is the text and its LF
pub line_itself : (text : List ℕ) → ended_line (fields text) ≡ text ++ 10 ∷ []
line_itself text = ap (λ z. z ++ 10 ∷ []) (joined_after [] text)

-- one line more
pub widened_next : (m : MapValue) (lists : List (List Attempt)) (left text rest : List ℕ) → ended_lines left ≡ Some text ∷ ended_lines rest
    → widened_text m lists left ≡ widened_line m lists (Some text) ++ widened_text m lists rest
unfolding widened_text
widened_next m lists left text rest is = ap (flat_map (widened_line m lists)) is

-- nothing stands for nothing
pub widened_none : (m : MapValue) (lists : List (List Attempt)) → widened_text m lists [] ≡ []
unfolding widened_text
widened_none m lists = ap (flat_map (widened_line m lists)) ended_none

-- and `?` for a line that lacks its LF
pub widened_open : (m : MapValue) (lists : List (List Attempt)) (left : List ℕ) → left ≢ [] → Lacks left 10 → widened_text m lists left ≡ codes "?"
unfolding widened_text
widened_open m lists left some lacks = ap (flat_map (widened_line m lists)) (ended_open left some lacks)

-- appended to a text
pub last_none : (m : MapValue) (lists : List (List Attempt)) (left out : List ℕ) → (length left == 0) ≡ true → out ≡ out ++ widened_text m lists left
last_none m lists [] out none = sym (append-nil out) ∙ ap (λ z. out ++ z) (sym (widened_none m lists))
last_none m lists (b ∷ bs) out none = absurd (never (length bs) none)
  where
    never : (k : ℕ) → (suc k == 0) ≡ true → ⊥
    never k e = grind arith

pub last_open : (m : MapValue) (lists : List (List Attempt)) (left : List ℕ) → (length left == 0) ≡ false → Lacks left 10 → codes "?" ≡ widened_text m lists left
last_open m lists left some lacks = sym (widened_open m lists left (λ e. never (ap length e) some) lacks)
  where
    never : length left ≡ 0 → (length left == 0) ≡ false → ⊥
    never e h = grind (arith, e, h)

-- Attempts in a table

pub taken_first : (old : List Attempt) (taken : Option Attempt) (a : Attempt) (new : List Attempt) → TakesNext old taken new → taken ≡ Some a → old ≡ a ∷ new
taken_first [] taken a new t is = let no : None ≡ Some a = sym t.0 ∙ is in cc no
taken_first (b ∷ bs) taken a new t is =
    let head : b ≡ a = let s : Some b ≡ Some a = sym t.0 ∙ is in cc s in
    λ i. head i ∷ sym t.1 i

pub taken_none : (old : List Attempt) (taken : Option Attempt) (new : List Attempt) → TakesNext old taken new → taken ≡ None → old ≡ []
taken_none [] taken new t is = refl
taken_none (b ∷ bs) taken new t is = let no : Some b ≡ None = sym t.0 ∙ is in cc no

-- one list more
pub list_more : (lists : List (List Attempt)) (table new : List (Vec Attempt Global)) (v : Vec Attempt Global) (t : ℕ) → t < length lists → lists_of table ≡ take t lists → new ≡ table ++ v ∷ [] → v.items ≡ get_or lists t []
    → lists_of new ≡ take (t + 1) lists
list_more lists table new v t lt done is one =
    let at : suc t ≡ t + 1 = omega arith in
    ap lists_of is ∙ map-append (λ (list : Vec Attempt Global). list.items) table (v ∷ []) ∙ (λ i. done i ++ one i ∷ []) ∙ sym (take-suc lists t [] lt) ∙ ap (λ j. take j lists) at
