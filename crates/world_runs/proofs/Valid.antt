-- A world that has names has what a run needs.
use Rattle.std.proofs.Common.{ℕ, ◌≡◌, ◌+◌, ◌*◌, ◌<◌, ◌≤◌, Bool, true, false, not, List, [], ◌∷◌, All, Option, Some, None, Result, Ok, Err, length, get_or, refl, sym, ap, subst, ◌∙◌, arith, inl, inr, lt-ltb}
use Rattle.std.specs.Prelude.{if◌then◌else◌, nat_lt}
use Rattle.std.proofs.Math.Nat.{mod-lt}
use Rattle.std.proofs.lemmas.Bool.{cases_lt}
use Rattle.std.proofs.lemmas.List.{get_or_default}
use Rattle.std.proofs.Math.ListN.{get_or-eq_default}
use Rattle.std.proofs.lemmas.List.Elements.{All-map, All-nil}
use Rattle.list_laws.proofs.Tests.{together}
use Rattle.draw_stream.specs.declared.attempt.Attempt.{Attempt}
use Rattle.draw_stream.specs.Attempts.{seeded_attempts}
use Rattle.draw_stream.specs.Plans.{attempts, count_of, seeded}
use Rattle.draw_stream.proofs.Plans.{length_seeded_attempts, length_seeded_lists, seeded_attempts_at, seeded_lists_at}
use Rattle.tile_map.specs.Plane.{MapValue, IsMap, tiles_of}
use Rattle.text_lines.specs.Lines.{lines}
use Rattle.world_text.specs.Drafts.{DraftValue, IsDraft, missing, nothing_said}
use Rattle.world_text.specs.Named.{ReadsWorld, WorldValue, name_fault, placed_atom, plan_by, unless, world_of}
use Rattle.world_text.specs.Printed.{IsNamed}
use Rattle.world_text.specs.Reading.{go_on, line_step, over, read_lines, read_text}
use Rattle.world_text.proofs.Kept.{line_step_kept, start_is}
use Rattle.world_text.proofs.Prints.{named_prints}
use Rattle.world_runs.specs.Known.{ArePlacedKnown}
use Rattle.world_runs.specs.Worlds.{IsAttempt, IsPlaced, IsWorld}

positive : (m : MapValue) → IsMap m → 0 < m.w * m.h
positive m k = go m.w m.h k.sizes.w_low k.sizes.h_low
  where
    go : (a b : ℕ) → 8 ≤ a → 8 ≤ b → 0 < a * b
    go a b p q = grind arith

-- drawn attempts
drawn_are : (m : MapValue) → IsMap m → (seed count t : ℕ) → t < tiles_of m → (b : Bool) → get_or m.off t true ≡ b → All (IsAttempt m t) (seeded_attempts seed (count_of count m.off t) (m.w * m.h) t)
drawn_are m k seed count t inside true is = λ i d lt.
    let none = length_seeded_attempts seed (count_of count m.off t) (m.w * m.h) t ∙ ap (λ b. if b then 0 else count) is in
    absurd (omega (arith, lt, none))
drawn_are m k seed count t inside false is = λ i d lt.
    let small : i < count_of count m.off t = omega (arith, lt, length_seeded_attempts seed (count_of count m.off t) (m.w * m.h) t) in
    let here = seeded_attempts_at seed (count_of count m.off t) (m.w * m.h) t i d small in
    let mark : get_or m.off t false ≡ false = get_or_default m.off t false true (omega (arith, inside, k.marks)) ∙ is in
    let on = together (nat_lt t (tiles_of m)) (not (get_or m.off t false)) (lt-ltb _ _ inside) (ap not mark) in
    let centre = ap (λ (a : Attempt). a.centre) here in
    record { on = on; centre = subst (λ n. n < m.w * m.h) (sym centre) (mod-lt _ (positive m k)) }

pub seeded_are : (m : MapValue) → IsMap m → (seed count t : ℕ) → All (IsAttempt m t) (attempts (seeded seed count m.off (m.w * m.h)) t)
seeded_are m k seed count t = elim (cases_lt t (length m.off)) [
  | inl inside ↦ subst (All (IsAttempt m t)) (sym (seeded_lists_at seed count m.off (m.w * m.h) t inside)) (drawn_are m k seed count t (omega (arith, inside, k.marks)) (get_or m.off t true) refl)
  | inr past ↦ subst (All (IsAttempt m t)) (sym (get_or-eq_default (seeded seed count m.off (m.w * m.h)).lists [] {n = t} (omega (arith, past, length_seeded_lists seed count m.off (m.w * m.h))))) (All-nil (IsAttempt m t))
]

plan_are : (d : DraftValue) → IsDraft d → (o : Option (ℕ × ℕ)) (t : ℕ) → All (IsAttempt d.plane t) (attempts (plan_by d.plane.off (d.plane.w * d.plane.h) d.tries o) t)
plan_are d k None t = λ i e lt. let a = k.tries t i e lt in record { on = a.on; centre = a.centre }
plan_are d k (Some o) t = seeded_are d.plane k.map o.0 o.1 t

plan_long : (d : DraftValue) → IsDraft d → (o : Option (ℕ × ℕ)) → length (plan_by d.plane.off (d.plane.w * d.plane.h) d.tries o).lists ≡ tiles_of d.plane
plan_long d k None = k.lists
plan_long d k (Some o) = length_seeded_lists o.0 o.1 d.plane.off (d.plane.w * d.plane.h) ∙ k.map.marks

pub world_valid : (names : List (List ℕ)) (w : WorldValue) → IsNamed names w → IsWorld w
world_valid names w h = on (name_fault names (h.0.plane.tx * h.0.plane.w) [] h.0.atoms) h.2
  where
    on : (o : Option (ℕ × ℕ)) → unless (world_of names h.0) o ≡ Ok w → IsWorld w
    on (Some fault) e = cc
    on None e =
        let same : world_of names h.0 ≡ w = cc in
        subst IsWorld same (record {
          map = h.1.map;
          lists = plan_long h.0 h.1 h.0.origin;
          attempts = plan_are h.0 h.1 h.0.origin;
          atoms = All-map (IsPlaced h.0.plane) (placed_atom names) h.0.atoms (λ k d lt. (h.1.atoms k d lt).live);
        })

pub world_known : (names : List (List ℕ)) (w : WorldValue) → IsNamed names w → ArePlacedKnown (length names) w.atoms
world_known names w h = (named_prints names h.0 w h.1 h.2).atoms

-- what a text says of a world is a draft
lines_valid : (n : ℕ) (d e : DraftValue) (ts : List (List ℕ)) → read_lines n d ts ≡ Ok e → IsDraft d → IsDraft e
unfolding read_lines
lines_valid n d e [] h k = on (missing d.last) h
  where
    on : (o : Option ℕ) → over n d o ≡ Ok e → IsDraft e
    on None g = let same : d ≡ e = cc in subst IsDraft same k
    on (Some code) g = cc
lines_valid n d e (t ∷ ts) h k = on (line_step n d t) refl h (λ x is g. lines_valid (n + 1) x e ts g (line_step_kept n d x t k is))
  where
    on : (r : Result DraftValue ℕ) → line_step n d t ≡ r → go_on n r (λ x. read_lines (n + 1) x ts) ≡ Ok e → ((x : DraftValue) → line_step n d t ≡ Ok x → read_lines (n + 1) x ts ≡ Ok e → IsDraft e) → IsDraft e
    on (Err code) is g rest = cc
    on (Ok x) is g rest = rest x is g

pub read_draft : (bytes : List ℕ) (d : DraftValue) → read_text bytes ≡ Ok d → IsDraft d
unfolding read_text
read_draft bytes d h = lines_valid 1 nothing_said d (lines bytes) h start_is

pub reads_valid : (bytes : List ℕ) (names : List (List ℕ)) (w : WorldValue) → ReadsWorld bytes names w → IsWorld w
reads_valid bytes names w h = world_valid names w (h.0, read_draft bytes h.0 h.1, h.2)
