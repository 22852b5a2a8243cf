-- Lines that are taken one after another.
use Rattle.std.proofs.Common.{ℕ, ◌≡◌, ◌+◌, Bool, true, false, List, [], ◌∷◌, ◌++◌, All, append_assoc, refl, ap, ◌∙◌, arith}
use Rattle.std.proofs.lemmas.List.Elements.{All-append, All-cons, All-nil}
use Rattle.world_text.specs.Line.{Line}
use Rattle.world_text.specs.Drafts.{DraftValue, after_atoms, after_size, in_range, kind_of, may_follow, put, step, too_many}
use Rattle.world_text.specs.Saying.{IsPrinted, draft_after_lines}
use Rattle.world_text.specs.declared.kind.Kind.{Kind}
use Rattle.world_text.specs.declared.kind.Kind.TheVariants.{Off, Seed, Try, Atom, OrderSeed, Order}

-- behind a draft these lines are taken, of which the first has number n: whatever comes behind them comes behind draft e,
-- from number k on
pub record Takes (n : ℕ) (d : DraftValue) (ls : List Line) (k : ℕ) (e : DraftValue) : Type 0 where
  pub printed : All IsPrinted ls
  pub next : (rest : List Line) → draft_after_lines n d (ls ++ rest) ≡ draft_after_lines k e rest

pub takes_none : (n : ℕ) (d : DraftValue) → Takes n d [] n d
takes_none n d = record { printed = All-nil _; next = λ rest. refl }

pub takes_then : (n : ℕ) (d : DraftValue) (ls : List Line) (k : ℕ) (e : DraftValue) (ms : List Line) (j : ℕ) (f : DraftValue) → Takes n d ls k e → Takes k e ms j f → Takes n d (ls ++ ms) j f
takes_then n d ls k e ms j f p q = record {
  printed = All-append IsPrinted ls ms p.printed q.printed;
  next = λ rest. ap (draft_after_lines n d) (append_assoc ls ms rest) ∙ p.next (ms ++ rest) ∙ q.next rest;
}

-- a line that may stand is taken
pub takes_one : (n : ℕ) (d : DraftValue) (l : Line) → IsPrinted l → may_follow d.second d.last (kind_of l) ≡ true → in_range d.plane l ≡ true → too_many d l ≡ false → Takes n d (l ∷ []) (n + 1) (put n d l)
unfolding draft_after_lines step
takes_one n d l printed may range few = record { printed = All-cons IsPrinted l [] printed (All-nil _); next = λ rest. rw (may, range, few) refl }

-- the kinds after which `try` lines come
abbrev pub before_try : Kind → Bool
before_try Try = true
before_try k = after_size k

pub off_may : (s : Bool) (k : Kind) → s ≡ true → after_size k ≡ true → may_follow s k Off ≡ true
off_may s k e h = grind (arith, e, h)

pub seed_may : (s : Bool) (k : Kind) → after_size k ≡ true → may_follow s k Seed ≡ true
seed_may s k h = grind (arith, h)

pub try_may : (s : Bool) (k : Kind) → before_try k ≡ true → may_follow s k Try ≡ true
try_may s k h = grind (arith, h)

pub atom_may : (s : Bool) (k : Kind) → after_atoms k ≡ true → may_follow s k Atom ≡ true
atom_may s k h = grind (arith, h)

pub order_may : (s : Bool) (k : Kind) → after_atoms k ≡ true → may_follow s k Order ≡ true
order_may s k h = grind (arith, h)

pub order_seed_may : (s : Bool) (k : Kind) → after_atoms k ≡ true → may_follow s k OrderSeed ≡ true
order_seed_may s k h = grind (arith, h)

pub size_before_try : (k : Kind) → after_size k ≡ true → before_try k ≡ true
size_before_try k h = grind (arith, h)

pub try_before_atoms : (k : Kind) → before_try k ≡ true → after_atoms k ≡ true
try_before_atoms k h = grind (arith, h)
