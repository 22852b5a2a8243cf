-- A line that may come keeps what holds of drafts.
use Rattle.std.proofs.Common.{ℕ, Bool, true, false, not, ◌≡◌, ◌+◌, ◌-◌, ◌^◌, ◌<◌, ◌≤◌, arith, nat_le, nat_lt, List, [], ◌∷◌, All, length, ap, sym, refl, if◌then◌else◌, subst, Option, Some, None, Result, Ok, Err}
use Rattle.std.proofs.lemmas.List.Sorted.{IsNonDecreasingBy-push, IsNonDecreasingBy-short}
use Rattle.std.proofs.lemmas.List.Elements.{All-append, All-cons, All-nil}
use Rattle.list_laws.proofs.Tests.{both}
use Rattle.text_lines.specs.Lines.{is_skipped, lines}
use Rattle.draw_stream.specs.Plans.{tiles_on}
use Rattle.tile_map.specs.Plane.{MapValue}
use Rattle.tile_map.proofs.Spans.{test_le}
use Rattle.world_text.proofs.Kept.{between_is, step_kept as world_step_kept, start_is as world_start_is}
use Rattle.world_text.proofs.Drafts.{few_at}
use Rattle.world_text.specs.Drafts.{DraftValue, IsDraft, between, misplaced_code, step as world_step, too_many as world_too_many, missing as world_missing, put as world_put, in_range as world_in_range, may_follow, kind_of}
use Rattle.world_text.specs.Line.{Line, header as world_header, attempts as world_attempts, tiles, size, off, seed, try, atom, order_seed, order, IsFormed as IsWorldFormed}
use Rattle.world_text.specs.declared.kind.Kind.{Kind}
use Rattle.world_text.specs.declared.kind.Kind.TheVariants.{Attempts as AttemptsLine}
use Rattle.chain_text.specs.Drafts.{ChainDraft, IsChainDraft, IsJournal, IsLasting, IsNumberedAct, IsRawAct, IsAreaIn, after_act, after_atom, after_counted, after_every, after_first, after_legs, act_in_range, area_in_range, asks_too_many, in_range, is_attempts, is_plane, may_come, missing, nothing_said, numbered, only_world, plain_may_come, plain_stage, put_line, raw_act, rectangle_of, step, step_line, step_own, too_many, with_world}
use Rattle.chain_text.specs.Line.{Area, ActLine, ChainLine, IsFormed, IsFormedAct, IsFormedJournal, IsRepeated, header, plain, legs, first, journal, print, every, act, clear, put, erase, flip, attempts}
use Rattle.chain_text.specs.Forms.{line_of}
use Rattle.chain_text.specs.Reading.{go_on, line_step, over, read_lines, read_text}
use Rattle.chain_text.specs.declared.chain.Journal.{Journal}
use Rattle.chain_text.specs.declared.chain.Journal.TheVariants.{Whole, Short, Counts}
use Rattle.chain_text.specs.declared.raw_act.NumberedAct.{NumberedAct}
use Rattle.chain_text.specs.declared.stage.Stage.{Stage}
use Rattle.chain_text.specs.declared.stage.Stage.TheVariants.{Plane, Legs, First, Recorded, Counted, Print, Every, Once, Atom}
use Rattle.chain_text.proofs.Formed.{line_formed}
use Rattle.chain_text.proofs.Small.{area_is}

-- nothing but what a world says
only_kept : (w : DraftValue) → IsDraft w → IsChainDraft (only_world w)
only_kept w k = record {
  world = k;
  whole = λ h. cc;
  early = λ h. refl;
  some = (omega arith, omega arith);
  first = (omega arith, omega arith);
  journal = tt {0};
  leg = (omega arith, omega arith);
  every = All-nil _;
  lasting = All-nil _;
  once = All-nil _;
  ordered = IsNonDecreasingBy-short (λ (a : NumberedAct). a.number) [] (omega arith);
  before = All-nil _;
}

pub start_is : IsChainDraft nothing_said
start_is = only_kept _ world_start_is

early_kept : (d : ChainDraft) (w : DraftValue) → IsChainDraft d → is_plane d.stage ≡ true → IsDraft w → IsChainDraft (record d { stage = Plane; world = w })
early_kept d w k p kw = subst (λ (x : ChainDraft). IsChainDraft (record x { stage = Plane; world = w })) (sym (k.early p)) (only_kept w kw)

-- a stage after that of the plane
late : (f : Stage → Bool) (s : Stage) → f Plane ≡ false → f s ≡ true → is_plane s ≡ false
late f Plane none h = cc
late f Legs none h = refl
late f First none h = refl
late f Recorded none h = refl
late f Counted none h = refl
late f Print none h = refl
late f Every none h = refl
late f Once none h = refl
late f Atom none h = refl

-- a world's step with an atom
atom_added : (n x y s : ℕ) (name : List ℕ) (d w : DraftValue) → world_step n d (Some (atom x y name s)) ≡ Ok w → (d.plane ≡ w.plane) × (world_missing w.last ≡ None)
unfolding world_step world_put world_missing
atom_added n x y s name d w h = by (may_follow d.second d.last (kind_of (atom x y name s))) (world_in_range d.plane (atom x y name s)) (world_too_many d (atom x y name s)) h
  where
    by : (a b c : Bool) →
        (if not a then Err (misplaced_code d.last) else (if not b then Err 72 else (if c then Err 75 else Ok (world_put n d (atom x y name s))))) ≡ Ok w → (d.plane ≡ w.plane) × (world_missing w.last ≡ None)
    by false b c e = cc
    by true false c e = cc
    by true true true e = cc
    by true true false e = let same : world_put n d (atom x y name s) ≡ w = cc in (ap (λ (v : DraftValue). v.plane) same, subst (λ (v : DraftValue). world_missing v.last ≡ None) same refl)

atom_kept : (d : ChainDraft) (w : DraftValue) → IsChainDraft d → is_plane d.stage ≡ false → IsDraft w → d.world.plane ≡ w.plane → world_missing w.last ≡ None → IsChainDraft (record d { stage = Atom; world = w })
atom_kept d w k p kw plane whole = record {
  world = kw;
  whole = λ h. whole;
  early = λ h. absurd (cc h);
  some = k.some;
  first = k.first;
  journal = k.journal;
  leg = k.leg;
  every = subst (λ (m : MapValue). All (IsNumberedAct m) d.every) plane k.every;
  lasting = k.lasting;
  once = subst (λ (m : MapValue). All (IsNumberedAct m) d.once) plane k.once;
  ordered = k.ordered;
  before = k.before;
}

-- what comes of a world's step
world_kept : (n : ℕ) (d e : ChainDraft) (s : Stage) (l : Line) → IsChainDraft d → IsWorldFormed l → ((w : DraftValue) → world_step n d.world (Some l) ≡ Ok w → IsDraft w → IsChainDraft (record d { stage = s; world = w })) →
    with_world d s (world_step n d.world (Some l)) ≡ Ok e → IsChainDraft e
world_kept n d e s l k f so h = on (world_step n d.world (Some l)) refl h
  where
    on : (r : Result DraftValue ℕ) → world_step n d.world (Some l) ≡ r → with_world d s r ≡ Ok e → IsChainDraft e
    on (Err code) is g = cc
    on (Ok w) is g =
        let same : record d { stage = s; world = w } ≡ e = cc in
        subst IsChainDraft same (so w is (world_step_kept n d.world w (Some l) (λ m j. let one : l ≡ m = cc in subst IsWorldFormed one f) k.world is))

plain_kept : (n : ℕ) (d e : ChainDraft) (l : Line) → IsChainDraft d → IsWorldFormed l → plain_may_come d.stage l ≡ true → with_world d (plain_stage l) (world_step n d.world (Some l)) ≡ Ok e → IsChainDraft e
plain_kept n d e (atom x y name s) k f m h =
    world_kept n d e Atom (atom x y name s) k f (λ w is kw. let p = atom_added n x y s name d.world w is in atom_kept d w k (late after_atom d.stage refl m) kw p.0 p.1) h
plain_kept n d e (world_header v) k f m h = world_kept n d e Plane (world_header v) k f (λ w is kw. early_kept d w k m kw) h
plain_kept n d e (tiles a b) k f m h = world_kept n d e Plane (tiles a b) k f (λ w is kw. early_kept d w k m kw) h
plain_kept n d e (size a b) k f m h = world_kept n d e Plane (size a b) k f (λ w is kw. early_kept d w k m kw) h
plain_kept n d e (off t) k f m h = world_kept n d e Plane (off t) k f (λ w is kw. early_kept d w k m kw) h
plain_kept n d e (seed s) k f m h = world_kept n d e Plane (seed s) k f (λ w is kw. early_kept d w k m kw) h
plain_kept n d e (world_attempts c) k f m h = world_kept n d e Plane (world_attempts c) k f (λ w is kw. early_kept d w k m kw) h
plain_kept n d e (try t x y s) k f m h = world_kept n d e Plane (try t x y s) k f (λ w is kw. early_kept d w k m kw) h
plain_kept n d e (order_seed s) k f m h = world_kept n d e Plane (order_seed s) k f (λ w is kw. early_kept d w k m kw) h
plain_kept n d e (order ts) k f m h = world_kept n d e Plane (order ts) k f (λ w is kw. early_kept d w k m kw) h

lt_is : (a b : ℕ) → nat_lt a b ≡ true → a < b
lt_is a b h = grind arith

attempts_whole : (k : Kind) → is_attempts k ≡ true → world_missing k ≡ None
unfolding world_missing
attempts_whole AttemptsLine h = refl
attempts_whole k h = cc

legs_kept : (n c : ℕ) (d : ChainDraft) → IsChainDraft d → is_plane d.stage ≡ true → is_attempts d.world.last ≡ true → in_range d (legs c) ≡ true → IsChainDraft (put_line n d (legs c))
unfolding put_line in_range
legs_kept n c d k p a h =
    let range = between_is 1 1000000 c h in
    let one : d.first ≡ 1 = ap (λ (x : ChainDraft). x.first) (k.early p) in record {
      world = k.world;
      whole = λ g. attempts_whole d.world.last a;
      early = λ g. absurd (cc g);
      some = range;
      first = (omega (arith, one), omega (arith, one, range.1));
      journal = k.journal;
      leg = k.leg;
      every = k.every;
      lasting = k.lasting;
      once = k.once;
      ordered = k.ordered;
      before = k.before;
    }

first_kept : (n f : ℕ) (d : ChainDraft) → IsChainDraft d → after_legs d.stage ≡ true → in_range d (first f) ≡ true → IsChainDraft (put_line n d (first f))
unfolding put_line in_range
first_kept n f d k m h =
    let p = both (nat_le 1 f) (nat_le (f + d.legs) 4294967296) h in record {
      world = k.world;
      whole = λ g. k.whole (late after_legs d.stage refl m);
      early = λ g. absurd (cc g);
      some = k.some;
      first = (test_le 1 f p.0, test_le (f + d.legs) 4294967296 p.1);
      journal = k.journal;
      leg = k.leg;
      every = k.every;
      lasting = k.lasting;
      once = k.once;
      ordered = k.ordered;
      before = k.before;
    }

-- another stage, and other reports
reports_kept : (d : ChainDraft) (s : Stage) (j : Journal) → IsChainDraft d → is_plane d.stage ≡ false → is_plane s ≡ false → IsJournal j → IsChainDraft (record d { stage = s; journal = j })
reports_kept d s j k m p r = record {
  world = k.world;
  whole = λ g. k.whole m;
  early = λ g. absurd (cc g);
  some = k.some;
  first = k.first;
  journal = r;
  leg = k.leg;
  every = k.every;
  lasting = k.lasting;
  once = k.once;
  ordered = k.ordered;
  before = k.before;
}

journal_kept : (n : ℕ) (j : Journal) (d : ChainDraft) → IsChainDraft d → IsFormedJournal j → after_first d.stage ≡ true → IsChainDraft (put_line n d (journal j))
unfolding put_line
journal_kept n Whole d k f m = reports_kept d Recorded Whole k (late after_first d.stage refl m) refl (tt {0})
journal_kept n Short d k f m = reports_kept d Recorded Short k (late after_first d.stage refl m) refl (tt {0})
journal_kept n (Counts p) d k f m = reports_kept d Counted (Counts p) k (late after_first d.stage refl m) refl (omega (arith, f), omega (arith, f))

print_kept : (n p : ℕ) (d : ChainDraft) → IsChainDraft d → after_counted d.stage ≡ true → in_range d (print p) ≡ true → IsChainDraft (put_line n d (print p))
unfolding put_line in_range
print_kept n p d k m h = reports_kept d Print (Counts p) k (late after_counted d.stage refl m) refl (between_is 1 1000000 p h)

-- an area in its range, as a rectangle
area_kept : (m : MapValue) (a : Area) → area_in_range m a ≡ true → IsAreaIn m (rectangle_of a)
area_kept m a h = let p = area_is m a h in record { columns = (omega (arith, p.0), p.2); rows = (omega (arith, p.1), p.3) }

-- an act in its ranges
act_kept : (w : DraftValue) (a : ActLine) → IsFormedAct a → act_in_range w.plane a ≡ true → too_many w a ≡ false → IsRawAct w.plane (raw_act a)
unfolding world_too_many
act_kept w (clear a) g h f = (area_kept w.plane a h, tt {0}, tt {0}, tt {0})
act_kept w (put a name s) g h f = let p = both (area_in_range w.plane a) (nat_lt s (2 ^ 71)) h in (area_kept w.plane a p.0, g, lt_is s (2 ^ 71) p.1)
act_kept w (erase p a) g h f = (area_kept w.plane a h, tt {0}, tt {0}, g)
act_kept w (flip p a) g h f = (area_kept w.plane a h, tt {0}, tt {0}, g)
act_kept w (attempts c) g h f = (tt {0}, few_at c (tiles_on w.plane.off) f, tt {0}, tt {0})

every_few : (w : DraftValue) (a : ActLine) → IsRepeated a → too_many w a ≡ false
every_few w (clear a) r = refl
every_few w (put a name s) r = refl
every_few w (erase p a) r = refl
every_few w (flip p a) r = refl
every_few w (attempts c) r = absurd r

every_lasts : (a : ActLine) → IsRepeated a → IsLasting (raw_act a)
every_lasts (clear a) r = tt {0}
every_lasts (put a name s) r = tt {0}
every_lasts (erase p a) r = tt {0}
every_lasts (flip p a) r = tt {0}
every_lasts (attempts c) r = absurd r

every_kept : (n c : ℕ) (a : ActLine) (d : ChainDraft) → IsChainDraft d → IsFormedAct a → IsRepeated a → after_every d.stage ≡ true → in_range d (every c a) ≡ true → IsChainDraft (put_line n d (every c a))
unfolding put_line in_range
every_kept n c a d k g r m h =
    let p = both (between 1 4294967295 c) (act_in_range d.world.plane a) h in
    let range = between_is 1 4294967295 c p.0 in
    let one : IsNumberedAct d.world.plane (numbered n c a) = record { low = range.0; high = range.1; act = act_kept d.world a g p.1 (every_few d.world a r) } in record {
      world = k.world;
      whole = λ g. k.whole (late after_every d.stage refl m);
      early = λ g. absurd (cc g);
      some = k.some;
      first = k.first;
      journal = k.journal;
      leg = k.leg;
      every = All-append (IsNumberedAct d.world.plane) d.every (numbered n c a ∷ []) k.every (All-cons (IsNumberedAct d.world.plane) (numbered n c a) [] one (All-nil _));
      lasting = All-append (λ (x : NumberedAct). IsLasting x.act) d.every (numbered n c a ∷ []) k.lasting (All-cons (λ (x : NumberedAct). IsLasting x.act) (numbered n c a) [] (every_lasts a r) (All-nil _));
      once = k.once;
      ordered = k.ordered;
      before = k.before;
    }

once_kept : (n c : ℕ) (a : ActLine) (d : ChainDraft) → IsChainDraft d → IsFormedAct a → after_act d.stage ≡ true → in_range d (act c a) ≡ true → asks_too_many d (act c a) ≡ false → IsChainDraft (put_line n d (act c a))
unfolding put_line in_range
once_kept n c a d k g m h f =
    let p = both (between d.leg 4294967295 c) (act_in_range d.world.plane a) h in
    let range = between_is d.leg 4294967295 c p.0 in
    let low : 1 ≤ c = omega (arith, range.0, k.leg.0) in
    let one : IsNumberedAct d.world.plane (numbered n c a) = record { low = low; high = range.1; act = act_kept d.world a g p.1 f } in
    let before : All (λ (x : NumberedAct). x.number ≤ c) d.once = λ i x lt. let was = k.before i x lt in omega (arith, was, range.0) in record {
      world = k.world;
      whole = λ g. k.whole (late after_act d.stage refl m);
      early = λ g. absurd (cc g);
      some = k.some;
      first = k.first;
      journal = k.journal;
      leg = (low, range.1);
      every = k.every;
      lasting = k.lasting;
      once = All-append (IsNumberedAct d.world.plane) d.once (numbered n c a ∷ []) k.once (All-cons (IsNumberedAct d.world.plane) (numbered n c a) [] one (All-nil _));
      ordered = IsNonDecreasingBy-push (λ (x : NumberedAct). x.number) d.once (numbered n c a) k.ordered (λ x some. before (length d.once - 1) x (omega (arith, some)));
      before = All-append (λ (x : NumberedAct). x.number ≤ c) d.once (numbered n c a ∷ []) before (All-cons (λ (x : NumberedAct). x.number ≤ c) (numbered n c a) [] (omega arith) (All-nil _));
    }

-- a line of the chain's own that is in its ranges
own_kept : (n : ℕ) (d e : ChainDraft) (l : ChainLine) → (in_range d l ≡ true → asks_too_many d l ≡ false → IsChainDraft (put_line n d l)) → step_own n d l ≡ Ok e → IsChainDraft e
own_kept n d e l so h = on (in_range d l) (asks_too_many d l) refl refl h
  where
    on : (a b : Bool) → in_range d l ≡ a → asks_too_many d l ≡ b → if◌then◌else◌ {A = Result ChainDraft ℕ} (not a) (Err 72) (if b then Err 75 else Ok (put_line n d l)) ≡ Ok e → IsChainDraft e
    on false b r f g = cc
    on true true r f g = cc
    on true false r f g = let same : put_line n d l ≡ e = cc in subst IsChainDraft same (so r f)

line_kept : (n : ℕ) (d e : ChainDraft) (l : ChainLine) → IsChainDraft d → IsFormed l → may_come d.stage d.world.last l ≡ true → step_line n d l ≡ Ok e → IsChainDraft e
unfolding step_line
line_kept n d e header k f m h = plain_kept n d e (world_header true) k (tt {0}) m h
line_kept n d e (plain l) k f m h = plain_kept n d e l k f m h
line_kept n d e (legs c) k f m h = let p = both (is_plane d.stage) (is_attempts d.world.last) m in own_kept n d e (legs c) (λ r g. legs_kept n c d k p.0 p.1 r) h
line_kept n d e (first c) k f m h = own_kept n d e (first c) (λ r g. first_kept n c d k m r) h
line_kept n d e (journal j) k f m h = own_kept n d e (journal j) (λ r g. journal_kept n j d k f m) h
line_kept n d e (print p) k f m h = own_kept n d e (print p) (λ r g. print_kept n p d k m r) h
line_kept n d e (every c a) k f m h = own_kept n d e (every c a) (λ r g. every_kept n c a d k f.0 f.1 m r) h
line_kept n d e (act c a) k f m h = own_kept n d e (act c a) (λ r g. once_kept n c a d k f m r g) h

-- a step keeps it
pub step_kept : (n : ℕ) (d e : ChainDraft) (o : Option ChainLine) → ((l : ChainLine) → o ≡ Some l → IsFormed l) → IsChainDraft d → step n d o ≡ Ok e → IsChainDraft e
unfolding step
step_kept n d e None formed k s = cc
step_kept n d e (Some l) formed k s = by (may_come d.stage d.world.last l) refl s
  where
    by : (a : Bool) → may_come d.stage d.world.last l ≡ a → (if not a then Err (misplaced_code d.world.last) else step_line n d l) ≡ Ok e → IsChainDraft e
    by false m h = cc
    by true m h = line_kept n d e l k (formed l refl) m h

pub line_step_kept : (n : ℕ) (d e : ChainDraft) (text : List ℕ) → IsChainDraft d → line_step n d text ≡ Ok e → IsChainDraft e
unfolding line_step
line_step_kept n d e text k s = skipping (is_skipped text) s
  where
    skipping : (b : Bool) → (if b then Ok d else step n d (line_of text)) ≡ Ok e → IsChainDraft e
    skipping true h = let t : d ≡ e = cc in subst IsChainDraft t k
    skipping false h = step_kept n d e (line_of text) (line_formed text) k h

-- all lines do
lines_kept : (n : ℕ) (d e : ChainDraft) (ts : List (List ℕ)) → IsChainDraft d → read_lines n d ts ≡ Ok e → IsChainDraft e
unfolding read_lines
lines_kept n d e [] k h = on (missing d.stage d.world.last) h
  where
    on : (o : Option ℕ) → over n d o ≡ Ok e → IsChainDraft e
    on None g = let same : d ≡ e = cc in subst IsChainDraft same k
    on (Some code) g = cc
lines_kept n d e (t ∷ ts) k h = on (line_step n d t) refl h (λ f is g. lines_kept (n + 1) f e ts (line_step_kept n d f t k is) g)
  where
    on : (r : Result ChainDraft ℕ) → line_step n d t ≡ r → go_on n r (λ f. read_lines (n + 1) f ts) ≡ Ok e → ((f : ChainDraft) → line_step n d t ≡ Ok f → read_lines (n + 1) f ts ≡ Ok e → IsChainDraft e) → IsChainDraft e
    on (Ok f) is g rest = rest f is g
    on (Err code) is g rest = cc

-- it holds of what a text says
pub read_kept : (bytes : List ℕ) (d : ChainDraft) → read_text bytes ≡ Ok d → IsChainDraft d
unfolding read_text
read_kept bytes d h = lines_kept 1 nothing_said d (lines bytes) start_is h
