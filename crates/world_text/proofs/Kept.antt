-- A line that may stand keeps what holds of drafts.
use Rattle.std.proofs.Common.{ℕ, zero, suc, nat_lt, nat_le, true, false, Bool, not, ◌&&◌, ◌≡◌, ◌+◌, ◌*◌, ◌%◌, ◌^◌, ◌<◌, ◌≤◌, ◌==◌, arith, List, [], ◌∷◌, ◌++◌, All, map, drop, length, get_or, ap, sym, ◌∙◌, refl, replicate, sum_by, if◌then◌else◌, cond, subst, Option, Some, None, IfSome, option_map, Ok, Err, inl, inr}
use Rattle.std.specs.List.{list_all, list_any}
use Rattle.std.proofs.Math.ListN.{set}
use Rattle.std.proofs.lemmas.List.{length-set, length-replicate, length-append, get_or-set_same, get_or-set_other}
use Rattle.std.proofs.lemmas.List.Sums.{sum_by-set, length-filter}
use Rattle.std.proofs.lemmas.List.Folds.{sum_by-replicate}
use Rattle.std.proofs.lemmas.List.Elements.{All-append, All-cons, All-nil}
use Rattle.std.proofs.lemmas.Bool.Decides.{eqb_tells}
use Rattle.list_laws.proofs.Tests.{both}
use Rattle.draw_stream.specs.declared.attempt.Attempt.{Attempt}
use Rattle.draw_stream.specs.Plans.{tiles_on}
use Rattle.tile_map.specs.Plane.{MapValue, IsMap, plane_of, whole_plane, site, tiles_of, is_on, is_live, owner_of, in_plane}
use Rattle.world_text.specs.Line.{Line, IsFormed, header, tiles, size, off, seed, attempts, try, atom, order_seed, order}
use Rattle.world_text.specs.Forms.{line_of}
use Rattle.text_lines.specs.Lines.{is_skipped}
use Rattle.world_text.specs.Reading.{line_step}
use Rattle.world_text.specs.declared.kind.Kind.{Kind}
use Rattle.world_text.specs.declared.kind.Kind.TheVariants.{Start, Header, Tiles, Size, Off, Seed, Attempts, Try, Atom}
use Rattle.world_text.specs.Drafts.{DraftValue, IsDraft, IsTry, IsRawAtom, in_range, too_many, put, between, nothing_said, only_plane, with_off, attempt_of, raw_atom, step, may_follow, misplaced_code, kind_of, is_early}
use Rattle.world_text.proofs.Formed.{line_formed}

pub between_is : (low high n : ℕ) → between low high n ≡ true → (low ≤ n) × (n ≤ high)
between_is low high n h = grind arith

pub no_tries : (n t : ℕ) → get_or {A = List Attempt} (replicate n []) t [] ≡ []
no_tries zero t = refl
no_tries (suc n) zero = refl
no_tries (suc n) (suc t) = no_tries n t

no_sum : (n : ℕ) → sum_by length (replicate {A = List Attempt} n []) ≡ 0
no_sum n = sum_by-replicate length n [] ∙ (omega arith)

-- a plane alone is a draft
pub only_is : (k : Kind) (second : Bool) (m : MapValue) → IsMap m → 1 ≤ tiles_on m.off → IsDraft (only_plane k second m)
only_is k second m map on = record {
  map = map;
  on = on;
  early = λ e. refl;
  drawn = tt {0};
  lists = length-replicate (tiles_of m) [];
  made = no_sum (tiles_of m);
  few = omega arith;
  tries = λ t. subst (All (IsTry m t)) (sym (no_tries (tiles_of m) t)) (All-nil _);
  atoms = All-nil _;
  order_seed = tt {0};
  order = All-nil _;
}

one_small : (x : Bool) → cond (not x) 1 0 ≤ 1
one_small true = omega arith
one_small false = omega arith

pub all_on : (n : ℕ) → tiles_on (replicate n false) ≡ n
all_on zero = refl
all_on (suc n) = ap suc (all_on n)

-- one more mark takes at most one away, and adds none
pub one_off : (xs : List Bool) (t : ℕ) → t < length xs → (tiles_on xs ≤ tiles_on (set xs t true) + 1) × (tiles_on (set xs t true) ≤ tiles_on xs)
one_off xs t lt =
    let e = sum_by-set (λ (x : Bool). cond (not x) 1 0) xs t true false lt in
    let s = one_small (get_or xs t false) in
    let a = length-filter not xs in
    let b = length-filter not (set xs t true) in
    (omega (arith, e, s, a, b), omega (arith, e, s, a, b))

-- the early lines leave a plane alone
early_kept : (d e : DraftValue) → e ≡ only_plane e.last e.second e.plane → IsMap e.plane → 1 ≤ tiles_on e.plane.off → IsDraft e
early_kept d e is map on = subst IsDraft (sym is) (only_is e.last e.second e.plane map on)

tiles_map : (a b w h : ℕ) → (1 ≤ a) × (a ≤ 8) → (1 ≤ b) × (b ≤ 8) → (8 ≤ w) × (w ≤ 64) → (8 ≤ h) × (h ≤ 64) → IsMap (whole_plane a b w h)
tiles_map a b w h x y u v = record {
  sizes = record { tx_low = x.0; tx_high = x.1; ty_low = y.0; ty_high = y.1; w_low = u.0; w_high = u.1; h_low = v.0; h_high = v.1 };
  marks = length-replicate (a * b) false;
}

-- at an early kind nothing but the plane is said
plain : (d : DraftValue) → IsDraft d → (k : Kind) → d.last ≡ k → is_early k ≡ true → d ≡ only_plane d.last d.second d.plane
plain d is k e early = is.early (ap is_early e ∙ early)

header_kept : (n : ℕ) (v : Bool) (d : DraftValue) → IsDraft d → d ≡ only_plane d.last d.second d.plane → IsDraft (put n d (header v))
unfolding put
header_kept n v d k is = subst (λ (e : DraftValue). IsDraft (record e { last = Header; second = v })) (sym is) (only_is Header v d.plane k.map k.on)

tiles_kept : (n a b : ℕ) (d : DraftValue) → IsDraft d → d ≡ only_plane d.last d.second d.plane → in_range d.plane (tiles a b) ≡ true → IsDraft (put n d (tiles a b))
unfolding put in_range
tiles_kept n a b d k is h =
    let p = both (between 1 8 a) (between 1 8 b) h in
    let x = between_is 1 8 a p.0 in
    let y = between_is 1 8 b p.1 in
    let s = k.map.sizes in
    let some : 1 ≤ a * b = grind arith in
    subst (λ (e : DraftValue). IsDraft (record e { last = Tiles; plane = whole_plane a b e.plane.w e.plane.h; tries = replicate (a * b) [] })) (sym is)
    (only_is Tiles d.second (whole_plane a b d.plane.w d.plane.h) (tiles_map a b d.plane.w d.plane.h x y (s.w_low, s.w_high) (s.h_low, s.h_high)) (rw (all_on (a * b)) some))

size_kept : (n a b : ℕ) (d : DraftValue) → IsDraft d → d ≡ only_plane d.last d.second d.plane → in_range d.plane (size a b) ≡ true → IsDraft (put n d (size a b))
unfolding put in_range
size_kept n a b d k is h =
    let p = both (between 8 64 a) (between 8 64 b) h in
    let x = between_is 8 64 a p.0 in
    let y = between_is 8 64 b p.1 in
    let s = k.map.sizes in
    let map : IsMap (plane_of d.plane.tx d.plane.ty a b d.plane.off) = record {
      sizes = record { tx_low = s.tx_low; tx_high = s.tx_high; ty_low = s.ty_low; ty_high = s.ty_high; w_low = x.0; w_high = x.1; h_low = y.0; h_high = y.1 };
      marks = k.map.marks;
    } in
    subst (λ (e : DraftValue). IsDraft (record e { last = Size; plane = plane_of e.plane.tx e.plane.ty a b e.plane.off })) (sym is)
    (only_is Size d.second (plane_of d.plane.tx d.plane.ty a b d.plane.off) map k.on)

off_kept : (n t : ℕ) (d : DraftValue) → IsDraft d → d ≡ only_plane d.last d.second d.plane → in_range d.plane (off t) ≡ true → IsDraft (put n d (off t))
unfolding put in_range
off_kept n t d k is h =
    let p = both (nat_lt t (tiles_of d.plane)) (not (list_any (λ o. o) (drop t d.plane.off)) && nat_lt 1 (tiles_on d.plane.off)) h in
    let q = both (not (list_any (λ o. o) (drop t d.plane.off))) (nat_lt 1 (tiles_on d.plane.off)) p.1 in
    let two : 1 < tiles_on d.plane.off = lt_is 1 (tiles_on d.plane.off) q.1 in
    let lt : t < length d.plane.off = let m = k.map.marks in let l = lt_is t (tiles_of d.plane) p.0 in omega (arith, m, l) in
    let one = one_off d.plane.off t lt in
    let map : IsMap (with_off d.plane t) = record { sizes = k.map.sizes; marks = length-set d.plane.off t true ∙ k.map.marks } in
    subst (λ (e : DraftValue). IsDraft (record e { last = Off; plane = with_off e.plane t })) (sym is)
    (only_is Off d.second (with_off d.plane t) map (omega (arith, one.0, two)))
  where
    lt_is : (a b : ℕ) → nat_lt a b ≡ true → a < b
    lt_is a b h = grind arith

seed_kept : (n s : ℕ) (d : DraftValue) → IsDraft d → in_range d.plane (seed s) ≡ true → IsDraft (put n d (seed s))
unfolding put in_range
seed_kept n s d k h = record {
  map = k.map;
  on = k.on;
  early = λ e. absurd (cc e);
  drawn = (lt_is s (2 ^ 64) h, omega arith);
  lists = k.lists;
  made = k.made;
  few = k.few;
  tries = k.tries;
  atoms = k.atoms;
  order_seed = k.order_seed;
  order = k.order;
}
  where
    lt_is : (a b : ℕ) → nat_lt a b ≡ true → a < b
    lt_is a b h = grind arith

attempts_kept : (n c : ℕ) (d : DraftValue) → IsDraft d → too_many d (attempts c) ≡ false → IsDraft (put n d (attempts c))
unfolding put too_many
attempts_kept n c d k h = record {
  map = k.map;
  on = k.on;
  early = λ e. absurd (cc e);
  drawn = on d.origin k.drawn;
  lists = k.lists;
  made = k.made;
  few = k.few;
  tries = k.tries;
  atoms = k.atoms;
  order_seed = k.order_seed;
  order = k.order;
}
  where
    few : c * tiles_on d.plane.off ≤ 1000000
    few = le_of (c * tiles_on d.plane.off) h
      where
        le_of : (x : ℕ) → nat_lt 1000000 x ≡ false → x ≤ 1000000
        le_of x h = grind arith

    on : (o : Option (ℕ × ℕ)) → IfSome o (λ (o : ℕ × ℕ). (o.0 < 2 ^ 64) × (o.1 * tiles_on d.plane.off ≤ 1000000)) →
        IfSome (option_map (λ (o : ℕ × ℕ). (o.0, c)) o) (λ (o : ℕ × ℕ). (o.0 < 2 ^ 64) × (o.1 * tiles_on d.plane.off ≤ 1000000))
    on None p = tt {0}
    on (Some o) p = (p.0, few)

order_seed_kept : (n s : ℕ) (d : DraftValue) → IsDraft d → in_range d.plane (order_seed s) ≡ true → IsDraft (put n d (order_seed s))
unfolding put in_range
order_seed_kept n s d k h = record {
  map = k.map;
  on = k.on;
  early = λ e. absurd (cc e);
  drawn = k.drawn;
  lists = k.lists;
  made = k.made;
  few = k.few;
  tries = k.tries;
  atoms = k.atoms;
  order_seed = lt_is s (2 ^ 64) h;
  order = k.order;
}
  where
    lt_is : (a b : ℕ) → nat_lt a b ≡ true → a < b
    lt_is a b h = grind arith

all_is : (p : ℕ → Bool) (xs : List ℕ) → list_all p xs ≡ true → All (λ x. p x ≡ true) xs
all_is p [] h = All-nil _
all_is p (x ∷ xs) h = let q = both (p x) (list_all p xs) h in All-cons (λ x. p x ≡ true) x xs q.0 (all_is p xs q.1)

order_kept : (n : ℕ) (ts : List ℕ) (d : DraftValue) → IsDraft d → in_range d.plane (order ts) ≡ true → IsDraft (put n d (order ts))
unfolding put in_range
order_kept n ts d k h = record {
  map = k.map;
  on = k.on;
  early = λ e. absurd (cc e);
  drawn = k.drawn;
  lists = k.lists;
  made = k.made;
  few = k.few;
  tries = k.tries;
  atoms = k.atoms;
  order_seed = k.order_seed;
  order = All-append (λ t. is_on d.plane t ≡ true) d.order ts k.order (all_is (is_on d.plane) ts h);
}

atom_kept : (n x y s : ℕ) (name : List ℕ) (d : DraftValue) → IsDraft d → IsFormed (atom x y name s) → in_range d.plane (atom x y name s) ≡ true → IsDraft (put n d (atom x y name s))
unfolding put in_range
atom_kept n x y s name d k formed h =
    let p = both (is_live d.plane (site x y)) (nat_lt s (2 ^ 71)) h in record {
      map = k.map;
      on = k.on;
      early = λ e. absurd (cc e);
      drawn = k.drawn;
      lists = k.lists;
      made = k.made;
      few = k.few;
      tries = k.tries;
      atoms = All-append (IsRawAtom d.plane) d.atoms (raw_atom n x y name s ∷ []) k.atoms
          (All-cons (IsRawAtom d.plane) (raw_atom n x y name s) [] (record { live = p.0; name = formed; state = lt_is s (2 ^ 71) p.1 }) (All-nil _));
      order_seed = k.order_seed;
      order = k.order;
    }
  where
    lt_is : (a b : ℕ) → nat_lt a b ≡ true → a < b
    lt_is a b h = grind arith

-- the position of a site in its tile
pub centre_fits : (m : MapValue) → IsMap m → (x y : ℕ) → y % m.h * m.w + x % m.w < m.w * m.h
centre_fits m map x y =
    let s = map.sizes in
    fits m.w m.h (x % m.w) (y % m.h) (let w = s.w_low in omega (arith, w)) (let h = s.h_low in omega (arith, h))
  where
    fits : (w h a b : ℕ) → a < w → b < h → b * w + a < w * h
    fits w h a b p q = grind arith

try_kept : (n t x y s : ℕ) (d : DraftValue) → IsDraft d → in_range d.plane (try t x y s) ≡ true → too_many d (try t x y s) ≡ false → IsDraft (put n d (try t x y s))
unfolding put in_range too_many
try_kept n t x y s d k r f =
    let m = d.plane in
    let few : d.made < 1000000 = lt_of d.made f in
    let p = both (is_live m (site x y)) (owner_of m (site x y) == t && nat_lt s (2 ^ 64)) r in
    let q = both (owner_of m (site x y) == t) (nat_lt s (2 ^ 64)) p.1 in
    let o = both (in_plane m (site x y)) (is_on m (owner_of m (site x y))) p.0 in
    let tile : owner_of m (site x y) ≡ t = eq_of (owner_of m (site x y)) t q.0 in
    let on : is_on m t ≡ true = subst (λ u. is_on m u ≡ true) tile o.1 in
    let low : t < tiles_of m = lt_is t (tiles_of m) (both (nat_lt t (tiles_of m)) (not (get_or m.off t false)) on).0 in
    let lt : t < length d.tries = let l = k.lists in omega (arith, l, low) in
    let a : Attempt = attempt_of m x y s in
    let old = get_or d.tries t [] in
    let fits : IsTry m t a = record { on = on; centre = centre_fits m k.map x y; seed = lt_is s (2 ^ 64) q.1 } in
    let new = All-append (IsTry m t) old (a ∷ []) (k.tries t) (All-cons (IsTry m t) a [] fits (All-nil _)) in
    let count = sum_by-set length d.tries t (old ++ a ∷ []) [] lt in
    let size = length-append old (a ∷ []) in
    let was = k.made in
    record {
      map = k.map;
      on = k.on;
      early = λ e. absurd (cc e);
      drawn = k.drawn;
      lists = length-set d.tries t _ ∙ k.lists;
      made = omega (arith, count, size, was);
      few = omega (arith, few);
      tries = λ u. elim (eqb_tells u t) [
        | inl same ↦ subst (λ v. All (IsTry m v) (get_or (set d.tries t (old ++ a ∷ [])) v [])) (sym same.1) (subst (All (IsTry m t)) (sym (get_or-set_same d.tries t (old ++ a ∷ []) [] lt)) new)
        | inr other ↦ subst (All (IsTry m u)) (sym (get_or-set_other d.tries t u (old ++ a ∷ []) [] other.1)) (k.tries u)
      ];
      atoms = k.atoms;
      order_seed = k.order_seed;
      order = k.order;
    }
  where
    lt_of : (x : ℕ) → nat_le 1000000 x ≡ false → x < 1000000
    lt_of x h = grind arith

    lt_is : (a b : ℕ) → nat_lt a b ≡ true → a < b
    lt_is a b h = grind arith

    eq_of : (a b : ℕ) → (a == b) ≡ true → a ≡ b
    eq_of a b h = grind arith

-- the kinds after which the lines of the plane come
pub early_before : (second : Bool) (last next : Kind) → may_follow second last next ≡ true → is_early next ≡ true → is_early last ≡ true
early_before second Start next h e = refl
early_before second Header next h e = refl
early_before second Tiles next h e = refl
early_before second Size next h e = refl
early_before second Off next h e = refl
early_before second Seed Header h e = cc
early_before second Seed Tiles h e = cc
early_before second Seed Size h e = cc
early_before true Seed Off h e = cc
early_before false Seed Off h e = cc
early_before second Attempts Header h e = cc
early_before second Attempts Tiles h e = cc
early_before second Attempts Size h e = cc
early_before true Attempts Off h e = cc
early_before false Attempts Off h e = cc
early_before second Try Header h e = cc
early_before second Try Tiles h e = cc
early_before second Try Size h e = cc
early_before true Try Off h e = cc
early_before false Try Off h e = cc
early_before second Atom Header h e = cc
early_before second Atom Tiles h e = cc
early_before second Atom Size h e = cc
early_before true Atom Off h e = cc
early_before false Atom Off h e = cc
early_before second last next h e = grind (arith, h, e)

pub kept_by : (n : ℕ) (d : DraftValue) (l : Line) → IsDraft d → IsFormed l → may_follow d.second d.last (kind_of l) ≡ true → in_range d.plane l ≡ true → too_many d l ≡ false → IsDraft (put n d l)
kept_by n d (header v) k g m r f = header_kept n v d k (k.early (early_before d.second d.last Header m refl))
kept_by n d (tiles a b) k g m r f = tiles_kept n a b d k (k.early (early_before d.second d.last Tiles m refl)) r
kept_by n d (size a b) k g m r f = size_kept n a b d k (k.early (early_before d.second d.last Size m refl)) r
kept_by n d (off t) k g m r f = off_kept n t d k (k.early (early_before d.second d.last Off m refl)) r
kept_by n d (seed s) k g m r f = seed_kept n s d k r
kept_by n d (attempts c) k g m r f = attempts_kept n c d k f
kept_by n d (try t x y s) k g m r f = try_kept n t x y s d k r f
kept_by n d (atom x y name s) k g m r f = atom_kept n x y s name d k g r
kept_by n d (order_seed s) k g m r f = order_seed_kept n s d k r
kept_by n d (order ts) k g m r f = order_kept n ts d k r

pub start_is : IsDraft nothing_said
start_is = only_is Start false (whole_plane 1 1 8 8) (tiles_map 1 1 8 8 (omega arith, omega arith) (omega arith, omega arith) (omega arith, omega arith) (omega arith, omega arith)) (omega arith)

-- a step keeps it
pub step_kept : (n : ℕ) (d e : DraftValue) (o : Option Line) → ((l : Line) → o ≡ Some l → IsFormed l) → IsDraft d → step n d o ≡ Ok e → IsDraft e
unfolding step
step_kept n d e None formed k s = cc
step_kept n d e (Some l) formed k s = by (may_follow d.second d.last (kind_of l)) (in_range d.plane l) (too_many d l) refl refl refl s
  where
    by : (a b c : Bool) → may_follow d.second d.last (kind_of l) ≡ a → in_range d.plane l ≡ b → too_many d l ≡ c →
        (if not a then Err (misplaced_code d.last) else (if not b then Err 72 else (if c then Err 75 else Ok (put n d l)))) ≡ Ok e → IsDraft e
    by false b c m r f h = cc
    by true false c m r f h = cc
    by true true true m r f h = cc
    by true true false m r f h = let same : put n d l ≡ e = cc in subst IsDraft same (kept_by n d l k (formed l refl) m r f)

pub line_step_kept : (n : ℕ) (d e : DraftValue) (text : List ℕ) → IsDraft d → line_step n d text ≡ Ok e → IsDraft e
unfolding line_step
line_step_kept n d e text k s = skipping (is_skipped text) s
  where
    skipping : (b : Bool) → (if b then Ok d else step n d (line_of text)) ≡ Ok e → IsDraft e
    skipping true h = let t : d ≡ e = cc in subst IsDraft t k
    skipping false h = step_kept n d e (line_of text) (line_formed text) k h
