-- Atoms that are drawn, two sites at a time.
use Rattle.std.proofs.Common.{◌≡◌, ℕ, zero, suc, ◌+◌, ◌*◌, ◌/◌, ◌%◌, ◌<◌, ◌≤◌, ◌++◌, [], ◌∷◌, All, true, refl, sym, ap, subst, ◌∙◌, arith, add-one}
use Rattle.std.specs.Prelude.{flat_map}
use Rattle.std.specs.List.{range_with_len}
use Rattle.std.proofs.lemmas.Bool.{agree_below_at}
use Rattle.std.proofs.lemmas.Grind.{flat_map-append}
use Rattle.std.proofs.lemmas.List.{append-nil, append_assoc}
use Rattle.std.proofs.lemmas.List.Elements.{All-append, All-cons, All-nil}
use Rattle.list_laws.proofs.Ranges.{range_cut}
use Rattle.draw_stream.specs.Words.{tile_word}
use Rattle.tile_map.specs.Plane.{is_live, site}
use Rattle.world_runs.specs.Worlds.{IsPlaced}
use Rattle.generated_world.specs.Generated.{drawn_atoms, plane, placed_at, put_by}

pub drawn_none : (seed : ℕ) → drawn_atoms seed (2 * 0) ≡ []
unfolding drawn_atoms
drawn_none seed = refl

drawn_more : (seed n : ℕ) → drawn_atoms seed (n + 1) ≡ drawn_atoms seed n ++ put_by n (tile_word seed n % 8)
unfolding drawn_atoms
drawn_more seed n =
    let put = λ (place : ℕ). put_by place (tile_word seed place % 8) in
    let one : n ≡ 0 + n = omega arith in
    ap (flat_map put) (range_cut 0 n (n + 1) n 1 refl one) ∙ flat_map-append put (range_with_len 0 n) (n ∷ []) ∙ ap (λ xs. flat_map put (range_with_len 0 n) ++ xs) (append-nil (put n))

pub drawn_two : (seed i a b : ℕ) → a ≡ tile_word seed (2 * i) % 8 → b ≡ tile_word seed (2 * i + 1) % 8 → drawn_atoms seed (2 * (i + 1)) ≡ drawn_atoms seed (2 * i) ++ (put_by (2 * i) a ++ put_by (2 * i + 1) b)
drawn_two seed i a b one other =
    let count : 2 * (i + 1) ≡ 2 * i + 1 + 1 = omega arith in
    let both = drawn_more seed (2 * i + 1) ∙ ap (λ xs. xs ++ put_by (2 * i + 1) (tile_word seed (2 * i + 1) % 8)) (drawn_more seed (2 * i)) in
    let joined = append_assoc (drawn_atoms seed (2 * i)) (put_by (2 * i) (tile_word seed (2 * i) % 8)) (put_by (2 * i + 1) (tile_word seed (2 * i + 1) % 8)) in
    ap (drawn_atoms seed) count ∙ both ∙ joined ∙ (λ j. drawn_atoms seed (2 * i) ++ (put_by (2 * i) (sym one j) ++ put_by (2 * i + 1) (sym other j)))

-- each site of the plane is live
all_live : (place : ℕ) → place < 4096 → is_live plane (site (place % 64) (place / 64)) ≡ true
all_live place within = agree_below_at (λ i. is_live plane (site (i % 64) (i / 64))) (λ i. true) 4096 place refl within

put_live : (place kind : ℕ) → place < 4096 → All (IsPlaced plane) (put_by place kind)
put_live place zero within = All-cons (IsPlaced plane) (placed_at place 1) [] (all_live place within) (All-nil (IsPlaced plane))
put_live place (suc zero) within = All-cons (IsPlaced plane) (placed_at place 2) [] (all_live place within) (All-nil (IsPlaced plane))
put_live place (suc (suc rest)) within = All-nil (IsPlaced plane)

pub drawn_live : (seed n : ℕ) → n ≤ 4096 → All (IsPlaced plane) (drawn_atoms seed n)
drawn_live seed zero most = subst (All (IsPlaced plane)) (sym (drawn_none seed)) (All-nil (IsPlaced plane))
drawn_live seed (suc n) most =
    let within : n < 4096 = omega arith in
    let more : drawn_atoms seed (suc n) ≡ drawn_atoms seed n ++ put_by n (tile_word seed n % 8) = ap (drawn_atoms seed) (sym (add-one n)) ∙ drawn_more seed n in
    subst (All (IsPlaced plane)) (sym more) (All-append (IsPlaced plane) (drawn_atoms seed n) (put_by n (tile_word seed n % 8)) (drawn_live seed n (omega arith)) (put_live n (tile_word seed n % 8) within))
