-- The lines of a plane are taken.
use Rattle.std.proofs.Common.{ℕ, zero, suc, ◌≡◌, ◌+◌, ◌^◌, ◌<◌, ◌≤◌, Bool, true, false, not, ◌&&◌, List, [], ◌∷◌, ◌++◌, append_assoc, length, filter, replicate, nat_lt, refl, ap, sym, ◌∙◌, subst, arith, drop}
use Rattle.std.specs.List.{list_any}
use Rattle.std.proofs.Math.ListN.{set}
use Rattle.std.proofs.lemmas.List.{length-append, drop_at}
use Rattle.std.proofs.lemmas.List.Elements.{filter-append}
use Rattle.list_laws.proofs.Filters.{filter_short}
use Rattle.list_laws.proofs.Tests.{together}
use Rattle.draw_stream.specs.Plans.{tiles_on}
use Rattle.tile_map.specs.Plane.{MapValue, IsMap, plane_of, tiles_of, whole_plane}
use Rattle.world_text.specs.Line.{header, tiles, size, off}
use Rattle.world_text.specs.Drafts.{after_size, between, in_range, may_follow, nothing_said, only_plane, put, too_many}
use Rattle.world_text.specs.Printed.{off_lines}
use Rattle.world_text.specs.declared.kind.Kind.{Kind}
use Rattle.world_text.specs.declared.kind.Kind.TheVariants.{Header, Off, Size, Tiles}
use Rattle.world_text.proofs.Kept.{all_on}
use Rattle.world_text.proofs.Taken.{Takes, off_may, takes_none, takes_one, takes_then}

pub between_true : (low high n : ℕ) → low ≤ n → n ≤ high → between low high n ≡ true
between_true low high n a b = grind arith

-- the header, how many tiles there are, and their size
pub plane_taken : (s : Bool) (m : MapValue) → IsMap m → Takes 1 nothing_said (header s ∷ tiles m.tx m.ty ∷ size m.w m.h ∷ []) 4 (only_plane Size s (whole_plane m.tx m.ty m.w m.h))
unfolding put in_range too_many
plane_taken s m map =
    let z = map.sizes in
    let counts : between 1 8 m.tx && between 1 8 m.ty ≡ true = together _ _ (between_true 1 8 m.tx z.tx_low z.tx_high) (between_true 1 8 m.ty z.ty_low z.ty_high) in
    let sides : between 8 64 m.w && between 8 64 m.h ≡ true = together _ _ (between_true 8 64 m.w z.w_low z.w_high) (between_true 8 64 m.h z.h_low z.h_high) in
    let a = takes_one 1 nothing_said (header s) (tt {0}) refl refl refl in
    let b = takes_one 2 (only_plane Header s (whole_plane 1 1 8 8)) (tiles m.tx m.ty) (omega (arith, z.tx_high), omega (arith, z.ty_high)) refl counts refl in
    let c = takes_one 3 (only_plane Tiles s (whole_plane m.tx m.ty 8 8)) (size m.w m.h) (omega (arith, z.w_high), omega (arith, z.h_high)) refl sides refl in
    takes_then 1 nothing_said (header s ∷ []) 2 (only_plane Header s (whole_plane 1 1 8 8)) (tiles m.tx m.ty ∷ size m.w m.h ∷ []) 4 (only_plane Size s (whole_plane m.tx m.ty m.w m.h)) a
    (takes_then 2 (only_plane Header s (whole_plane 1 1 8 8)) (tiles m.tx m.ty ∷ []) 3 (only_plane Tiles s (whole_plane m.tx m.ty 8 8)) (size m.w m.h ∷ []) 4 (only_plane Size s (whole_plane m.tx m.ty m.w m.h)) b c)

-- a plane with these marks
abbrev pub marked : MapValue → List Bool → MapValue
marked m marks = plane_of m.tx m.ty m.w m.h marks

-- a write behind the first elements
pub set_at : {A : Type 0} (xs ys : List A) (x y : A) → set (xs ++ x ∷ ys) (length xs) y ≡ xs ++ y ∷ ys
set_at [] ys x y = refl
set_at (z ∷ xs) ys x y = ap (λ zs. z ∷ zs) (set_at xs ys x y)

none_marked : (n : ℕ) → list_any (λ (o : Bool). o) (replicate n false) ≡ false
none_marked zero = refl
none_marked (suc n) = none_marked n

on_joined : (xs ys : List Bool) → tiles_on (xs ++ ys) ≡ tiles_on xs + tiles_on ys
on_joined xs ys = ap length (filter-append not xs ys) ∙ length-append (filter not xs) (filter not ys)

-- one tile more may be switched off: it stands behind those that are off, and another one stays on
off_fits : (done marks old : List Bool) (t : ℕ) (m : MapValue) → t ≡ length done → old ≡ done ++ replicate (suc (length marks)) false → length (done ++ true ∷ marks) ≡ tiles_of m → 1 ≤ tiles_on (done ++ true ∷ marks) →
    in_range (marked m old) (off t) ≡ true
unfolding in_range
off_fits done marks old t m at is many on =
    let long = length-append done (true ∷ marks) in
    let low : t < tiles_of m = omega (arith, at, many, long) in
    let behind : drop t old ≡ replicate (suc (length marks)) false = ap (drop t) is ∙ drop_at done (replicate (suc (length marks)) false) t (sym at) in
    let none : list_any (λ (o : Bool). o) (drop t old) ≡ false = ap (list_any (λ (o : Bool). o)) behind ∙ none_marked (suc (length marks)) in
    let here : tiles_on old ≡ tiles_on done + suc (length marks) = ap tiles_on is ∙ on_joined done (replicate (suc (length marks)) false) ∙ ap (λ k. tiles_on done + k) (all_on (suc (length marks))) in
    let after = on_joined done (true ∷ marks) in
    let few = filter_short not marks in
    together _ _ (lt_true t (tiles_of m) low) (together _ _ (ap not none) (lt_true 1 (tiles_on old) (omega (arith, here, after, few, on))))
  where
    lt_true : (a b : ℕ) → a < b → nat_lt a b ≡ true
    lt_true a b h = grind arith

switched : (n : ℕ) (k : Kind) (s : Bool) (m : MapValue) (old : List Bool) (t : ℕ) → t < 2 ^ 64 → may_follow s k Off ≡ true → in_range (marked m old) (off t) ≡ true →
    Takes n (only_plane k s (marked m old)) (off t ∷ []) (n + 1) (only_plane Off s (marked m (set old t true)))
unfolding put too_many
switched n k s m old t small may fits = takes_one n (only_plane k s (marked m old)) (off t) small may fits refl

-- the tiles that are off, behind those before them
pub off_taken : (marks done old new : List Bool) (t n : ℕ) (k : Kind) (s : Bool) (m : MapValue) → t ≡ length done → old ≡ done ++ replicate (length marks) false → new ≡ done ++ marks →
    length new ≡ tiles_of m → tiles_of m ≤ 64 → 1 ≤ tiles_on new → after_size k ≡ true → (list_any (λ (o : Bool). o) marks ≡ true → s ≡ true) →
    (i : ℕ) × (j : Kind) × (after_size j ≡ true) × Takes n (only_plane k s (marked m old)) (off_lines t marks) i (only_plane j s (marked m new))
unfolding off_lines
off_taken [] done old new t n k s m at was is many most on after version =
    (n, k, after, subst (λ z. Takes n (only_plane k s (marked m old)) [] n (only_plane k s (marked m z))) (was ∙ sym is) (takes_none n _))
off_taken (false ∷ marks) done old new t n k s m at was is many most on after version =
    let next : t + 1 ≡ length (done ++ false ∷ []) = omega (arith, at, length-append done (false ∷ [])) in
    off_taken marks (done ++ false ∷ []) old new (t + 1) n k s m next (was ∙ sym (append_assoc done (false ∷ []) (replicate (length marks) false))) (is ∙ sym (append_assoc done (false ∷ []) marks))
    many most on after version
off_taken (true ∷ marks) done old new t n k s m at was is many most on after version =
    let next : t + 1 ≡ length (done ++ true ∷ []) = omega (arith, at, length-append done (true ∷ [])) in
    let here : set old t true ≡ done ++ true ∷ replicate (length marks) false = ap (λ z. set z t true) was ∙ ap (λ i. set (done ++ false ∷ replicate (length marks) false) i true) at ∙ set_at done (replicate (length marks) false) false true in
    let fits = off_fits done marks old t m at was (sym (ap length is) ∙ many) (subst (λ z. 1 ≤ tiles_on z) is on) in
    let long = length-append done (true ∷ marks) in
    let small : t < 2 ^ 64 = omega (arith, at, ap length is, many, most, long) in
    let first = switched n k s m old t small (off_may s k (version refl) after) fits in
    let rest = off_taken marks (done ++ true ∷ []) (set old t true) new (t + 1) (n + 1) Off s m next (here ∙ sym (append_assoc done (true ∷ []) (replicate (length marks) false))) (is ∙ sym (append_assoc done (true ∷ []) marks))
    many most on refl (λ h. version refl) in (
      rest.0,
      rest.1,
      rest.2,
      takes_then n (only_plane k s (marked m old)) (off t ∷ []) (n + 1) (only_plane Off s (marked m (set old t true))) (off_lines (t + 1) marks) rest.0 (only_plane rest.1 s (marked m new)) first rest.3,
    )
