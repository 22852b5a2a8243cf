-- Reading a chain line by line.
use Rattle.std.proofs.Common.{ℕ, ◌≡◌, ◌+◌, List, [], ◌∷◌, ap, sym, refl, Option, Some, None, Result, Ok, Err, option_map, subst}
use Rattle.text_lines.specs.Lines.{lines}
use Rattle.chain_text.specs.Drafts.{ChainDraft, nothing_said, missing}
use Rattle.chain_text.specs.Reading.{read_text, read_lines, line_step, go_on, over, Reads}
use Rattle.world_text.specs.Reading.{IsFault, fault_of}
use Rattle.std.specs.Result.{IsErrAnd}
use Rattle.world_text.specs.declared.fault.WorldFault.{WorldFault}

pub walk_start : (bytes : List ℕ) → read_text bytes ≡ read_lines 1 nothing_said (lines bytes)
unfolding read_text
walk_start bytes = refl

pub walk_line : (n : ℕ) (d e : ChainDraft) (t : List ℕ) (ts : List (List ℕ)) → line_step n d t ≡ Ok e → read_lines n d (t ∷ ts) ≡ read_lines (n + 1) e ts
unfolding read_lines
walk_line n d e t ts h = rw h refl

-- the fault of a line is that of the text
pub walk_fault : (n : ℕ) (d : ChainDraft) (t : List ℕ) (ts : List (List ℕ)) (fault : Option (ℕ × ℕ)) → IsFault (go_on n (line_step n d t) (λ e. Ok e)) fault → IsFault (read_lines n d (t ∷ ts)) fault
unfolding read_lines
walk_fault n d t ts None h = tt {0}
walk_fault n d t ts (Some f) h = on (line_step n d t) h
  where
    on : (r : Result ChainDraft ℕ) → go_on n r (λ e. Ok e) ≡ Err f → go_on n r (λ e. read_lines (n + 1) e ts) ≡ Err f
    on (Ok e) is = cc
    on (Err code) is = is

-- the fault of a text that ends too early
pub walk_missing : (n : ℕ) (d : ChainDraft) (fault : Option (ℕ × ℕ)) → option_map (λ code. (code, n)) (missing d.stage d.world.last) ≡ fault → IsFault (read_lines n d []) fault
unfolding read_lines
walk_missing n d None h = tt {0}
walk_missing n d (Some f) h = on (missing d.stage d.world.last) h
  where
    on : (o : Option ℕ) → option_map (λ code. (code, n)) o ≡ Some f → over n d o ≡ Err f
    on None is = cc
    on (Some code) is = let same : (code, n) ≡ f = cc in ap (λ z. Err z) same

pub walk_whole : (n : ℕ) (d : ChainDraft) → missing d.stage d.world.last ≡ None → read_lines n d [] ≡ Ok d
unfolding read_lines
walk_whole n d h = rw h refl

-- an answer by a fault
pub read_stops : (bytes : List ℕ) (r : Result ChainDraft WorldFault) (fault : WorldFault) → IsErrAnd r (λ e. e ≡ fault) → IsFault (read_text bytes) (fault_of fault) → Reads bytes r
read_stops bytes (Ok d) fault is h = absurd is
read_stops bytes (Err e) fault is h = subst (λ f. IsFault (read_text bytes) (fault_of f)) (sym is) h
