-- The declarations of a base in its heirs.
use Rattle.std.proofs.Common.{◌≡◌, ℕ, zero, suc, ◌+◌, ◌≤◌, refl, sym, ap, ◌∙◌, List, [], ◌∷◌, ◌++◌, length, Bool, true, false, cond, arith}
use Rattle.std.specs.Prelude.{filter, not, flat_map, slice_get}
use Rattle.std.specs.Option.{option_to_list}
use Rattle.std.proofs.lemmas.List.Elements.{filter-append}
use Rattle.std.proofs.lemmas.Grind.{flat_map-append}
use Rattle.ulam_tree.specs.Raw.{Member, typedef, constant, field, function}
use Rattle.ulam_tree.specs.Ways.{leads}
use Rattle.ulam_heirs.specs.Lines.{Heir, base_list, NoneIsOwnBase, line_numbers, classes_at, line}
use Rattle.ulam_heirs.specs.Flat.{is_function, is_left_out, own_members, flat_behind, flat_members}
use Rattle.ulam_heirs.specs.Laws.{declarations, bits_before, first_bit}
use Rattle.ulam_heirs.proofs.Chains.{line_front}

-- no declaration but a function is left out
kept_declarations : (bases : List Heir) (h : Heir) (later : List Heir) (ms : List Member) → declarations (filter (λ (m : Member). not (is_left_out bases h later m)) ms) ≡ declarations ms
kept_declarations bases h later [] = refl
kept_declarations bases h later (typedef ty w ∷ ms) = ap (λ xs. typedef ty w ∷ xs) (kept_declarations bases h later ms)
kept_declarations bases h later (constant ty w v ∷ ms) = ap (λ xs. constant ty w v ∷ xs) (kept_declarations bases h later ms)
kept_declarations bases h later (field ty w l ∷ ms) = ap (λ xs. field ty w l ∷ xs) (kept_declarations bases h later ms)
kept_declarations bases h later (function ty w ps b ∷ ms) = go (not (is_left_out bases h later (function ty w ps b))) (kept_declarations bases h later ms)
  where
    go : (stays : Bool) → declarations (filter (λ (m : Member). not (is_left_out bases h later m)) ms) ≡ declarations ms → declarations (cond stays (function ty w ps b ∷ filter (λ (m : Member). not (is_left_out bases h later m)) ms) (filter (λ (m : Member). not (is_left_out bases h later m)) ms)) ≡ declarations ms
    go true e = e
    go false e = e

abbrev own_declarations : Heir → List Member
own_declarations h = declarations h.class.members

flat_declarations : (before hs : List Heir) → declarations (flat_behind before hs) ≡ flat_map own_declarations hs
flat_declarations before [] = refl
flat_declarations before (h ∷ later) =
    filter-append (λ (m : Member). not (is_function m)) (own_members before h later) (flat_behind (before ++ (h ∷ [])) later)
    ∙ ap (λ xs. xs ++ declarations (flat_behind (before ++ (h ∷ [])) later)) (kept_declarations before h later h.class.members)
    ∙ ap (λ xs. own_declarations h ++ xs) (flat_declarations (before ++ (h ∷ [])) later)

pub front_is : (hs : List Heir) → NoneIsOwnBase hs → (m k j : ℕ) → leads (base_list hs) m k j ≡ true → (rest : List Member) × (declarations (flat_members hs k) ≡ declarations (flat_members hs j) ++ rest)
front_is hs apart m k j e =
    let front = line_front hs apart m k j e in
    let own : List ℕ → List Member = λ (ks : List ℕ). flat_map own_declarations (classes_at hs ks) in (
      own front.0,
      flat_declarations [] (line hs k)
          ∙ ap own front.1
          ∙ ap (flat_map own_declarations) (flat_map-append (λ i. option_to_list (slice_get hs i)) (line_numbers hs j) front.0)
          ∙ flat_map-append own_declarations (classes_at hs (line_numbers hs j)) (classes_at hs front.0)
          ∙ ap (λ xs. xs ++ own front.0) (sym (flat_declarations [] (line hs j))),
    )

bits_front : (bits : List Member → Member → ℕ) (before ms rest : List Member) (n : ℕ) → n ≤ length ms → bits_before bits before (ms ++ rest) n ≡ bits_before bits before ms n
bits_front bits before [] [] zero le = refl
bits_front bits before [] (r ∷ rest) zero le = refl
bits_front bits before [] rest (suc n) le = absurd (omega (arith, le))
bits_front bits before (m ∷ ms) rest zero le = refl
bits_front bits before (m ∷ ms) rest (suc n) le = ap (λ x. bits before m + x) (bits_front bits (before ++ (m ∷ [])) ms rest n (omega (arith, le)))

pub bits_same : (hs : List Heir) → NoneIsOwnBase hs → (m k j : ℕ) → leads (base_list hs) m k j ≡ true → (bits : List Member → Member → ℕ) (n : ℕ) → n ≤ length (declarations (flat_members hs j)) →
    first_bit bits (flat_members hs k) n ≡ first_bit bits (flat_members hs j) n
bits_same hs apart m k j e bits n le =
    let front = front_is hs apart m k j e in
    ap (λ xs. bits_before bits [] xs n) front.1 ∙ bits_front bits [] (declarations (flat_members hs j)) front.0 n le
