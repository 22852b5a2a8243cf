-- What follows from each way in which the parser ends.
use Rattle.std.proofs.Common.{ℕ, zero, suc, ◌+◌, ◌<◌, ◌≡◌, ◌⊎◌, inl, inr, List, [], ◌∷◌, ◌++◌, length, map, take, drop, Some, None, Ok, Err, refl, ap, sym, ◌∙◌, subst, arith, append-nil, length-append}
use Rattle.std.proofs.lemmas.List.{map-append, drop-map, take-append-drop}
use Rattle.feast_base.specs.declared.place.Place.{Place}
use Rattle.ulam_tree.specs.Raw.{Item}
use Rattle.ulam_parse.specs.declared.mark.Mark.{Mark}
use Rattle.ulam_parse.specs.declared.tape.Tape.{Tape}
use Rattle.ulam_parse.specs.Tokens.{Tok}
use Rattle.ulam_parse.specs.Grammar.{Begins}
use Rattle.ulam_parse.specs.Nesting.{outside}
use Rattle.ulam_parse.specs.Reading.{stops, tired, Read, with_front}
use Rattle.ulam_parse.specs.Files.{whole_file}
use Rattle.ulam_parse.specs.Marks.{tok_at}
use Rattle.ulam_parse.specs.Views.{from, Fails}
use Rattle.ulam_parse.specs.declared.halt.Halt.{Halt as CodeHalt}
use Rattle.ulam_parse.specs.declared.halt.Halt.TheVariants.{Left, OutOfSteps}
use Rattle.ulam_parse.specs.declared.fault.ParseFault.{ParseFault}
use Rattle.ulam_parse.specs.declared.fault.ParseFault.TheVariants.{NoMemory}
use Rattle.ulam_parse.specs.Sentences.{place_at, EndsOnce, IsSentence, IsSyntaxFault, IsDepthFault, IsFaultOf, deep_from}
use Rattle.ulam_parse.specs.Told.{ReadsTo, LeftAt}
use Rattle.ulam_parse.proofs.Verdicts.{file_begins}
use Rattle.ulam_parse.proofs.Depths.{deep_is, shallow_is}
use Rattle.ulam_parse.proofs.Judging.{read_is, ended_begins, never_ended, shallow_all, syntax_is, depth_before, depth_fault}

pub front_none : {A : Type 0} (r : Read (List A)) → with_front [] r ≡ r
front_none (Ok x) = refl
front_none (Err e) = refl

pub whole_reads : (us : List Tok) (xs : List Item) (rest : List Tok) → with_front [] (whole_file us) ≡ Ok (xs, rest) → ReadsTo us xs
whole_reads us xs rest e = (rest, sym (front_none (whole_file us)) ∙ e)

pub from_drop : (t : Tape) (i : ℕ) → drop i (from t 0) ≡ from t i
from_drop t i = drop-map (tok_at t.bytes.now) i t.marks.now

pub parts : (f : Mark → Tok) (k : ℕ) (ms : List Mark) → map f ms ≡ map f (take k ms) ++ map f (drop k ms)
parts f k ms = ap (map f) (sym (take-append-drop k ms)) ∙ map-append f (take k ms) (drop k ms)

pub sentence_law : (ts : List Tok) (xs : List Item) → EndsOnce ts → deep_from 0 outside ts ≡ None → ReadsTo ts xs → IsSentence xs ts
sentence_law ts xs z d h = (read_is ts ts [] xs h.0 z (sym (append-nil ts)) h.1, shallow_is ts d)

pub some_left : (ts : List Tok) (n : ℕ) → EndsOnce ts → whole_file ts ≡ Err (stops n) → 0 < n
some_left ts zero z r = absurd (never_ended ts z r)
some_left ts (suc n) z r = omega arith

pub syntax_law : (ts : List Tok) (n : ℕ) (p : Place) → deep_from 0 outside ts ≡ None → whole_file ts ≡ Err (stops n) → LeftAt ts n p → IsSyntaxFault ts p
syntax_law ts n p d r l =
    let F : Place → Type 0 = λ q. IsSyntaxFault ts q in
    subst F (sym l.placed) (syntax_is ts ts [] n l.index l.at l.rest (sym (append-nil ts)) r l.counts l.stands (shallow_all ts (shallow_is ts d)))

pub front_syntax_law : (ts us behind : List Tok) (n k : ℕ) (p : Place) → deep_from 0 outside ts ≡ Some k → ts ≡ us ++ behind → length us ≡ k + 1 → whole_file us ≡ Err (stops n) → LeftAt us n p → IsSyntaxFault ts p
front_syntax_law ts us behind n k p d e m r l =
    let F : Place → Type 0 = λ q. IsSyntaxFault ts q in
    subst F (sym l.placed) (syntax_is ts us behind n l.index l.at l.rest e r l.counts l.stands (depth_before ts us behind k (deep_is ts k d) e m))

depth_law : (ts us behind : List Tok) (k : ℕ) (t : Tok) (rest : List Tok) → deep_from 0 outside ts ≡ Some k → ts ≡ us ++ behind → length us ≡ k + 1 → drop k ts ≡ t ∷ rest → Begins us → IsDepthFault ts (place_at t)
depth_law ts us behind k t rest d e m f b = depth_fault ts us behind k t rest (deep_is ts k d) e m f b

pub depth_read_law : (ts us behind : List Tok) (k : ℕ) (t : Tok) (rest : List Tok) (xs : List Item) → EndsOnce ts → deep_from 0 outside ts ≡ Some k → ts ≡ us ++ behind → length us ≡ k + 1 → drop k ts ≡ t ∷ rest → ReadsTo us xs →
    IsDepthFault ts (place_at t)
depth_read_law ts us behind k t rest xs z d e m f h = depth_law ts us behind k t rest d e m f (file_begins xs us (read_is ts us behind xs h.0 z e h.1))

pub depth_ended_law : (ts us behind : List Tok) (n k : ℕ) (t : Tok) (rest : List Tok) → n ≡ 0 → deep_from 0 outside ts ≡ Some k → ts ≡ us ++ behind → length us ≡ k + 1 → drop k ts ≡ t ∷ rest → whole_file us ≡ Err (stops n) →
    IsDepthFault ts (place_at t)
depth_ended_law ts us behind n k t rest q d e m f r = depth_law ts us behind k t rest d e m f (ended_begins us (r ∙ ap (λ x. Err (stops x)) q))

pub deep_within : (ts : List Tok) (k : ℕ) → deep_from 0 outside ts ≡ Some k → k < length ts
deep_within ts k d = let a = deep_is ts k d in omega (arith, a.long, ap length a.split, length-append a.front (a.at ∷ a.back))

-- why nothing was read

pub fails_left : (f : CodeHalt) (n : ℕ) (read : Read (List Item)) → f ≡ Left n → Fails f read → read ≡ Err (stops n)
fails_left f n read e h = let F : CodeHalt → Type 0 = λ x. Fails x read in subst F e h

pub fails_tired : (f : CodeHalt) (read : Read (List Item)) → f ≡ OutOfSteps → Fails f read → read ≡ Err tired
fails_tired f read e h = let F : CodeHalt → Type 0 = λ x. Fails x read in subst F e h

pub told_fault : (ts : List Tok) (r e : ParseFault) → r ≡ e → IsFaultOf ts e → (r ≡ NoMemory) ⊎ IsFaultOf ts r
told_fault ts r e q h = let F : ParseFault → Type 0 = λ x. IsFaultOf ts x in inr (subst F (sym q) h)

pub told_memory : (ts : List Tok) (r : ParseFault) → r ≡ NoMemory → (r ≡ NoMemory) ⊎ IsFaultOf ts r
told_memory ts r q = inl q

pub gone : (ts : List Tok) (k : ℕ) → k < length ts → drop k ts ≡ [] → ⊥
gone [] k h e = omega (arith, h)
gone (t ∷ ts) zero h e = absurd cc
gone (t ∷ ts) (suc k) h e = gone ts k (omega (arith, h)) e

pub ends_moved : (us vs : List Tok) → us ≡ vs → EndsOnce vs → EndsOnce us
ends_moved us vs e z = let F : List Tok → Type 0 = EndsOnce in subst F (sym e) z
