-- The rounds of the worklist: what is known after k of them.
use Rattle.std.proofs.Common.{◌≡◌, ℕ, zero, suc, ◌+◌, ◌-◌, ◌<◌, ◌≤◌, List, [], ◌∷◌, ◌++◌, length, Some, None, refl, sym, ap, ◌∙◌, subst, arith, take, Bool, true, false, add-one}
use Rattle.std.specs.Prelude.{slice_get, map, get_or, nat_le, is_some, if◌then◌else◌}
use Rattle.std.proofs.lemmas.Bool.{le-leb, leb-true}
use Rattle.list_laws.proofs.Tests.{both, together}
use Rattle.stack_code.specs.declared.instr.Answer.{Answer}
use Rattle.stack_code.specs.declared.instr.Answer.TheVariants.{Nothing, Number as NumberBack, Atom as AtomBack}
use Rattle.code_gen.specs.Pieces.{Key, Piece, size, add_calls}
use Rattle.code_gen.specs.Drafts.{Drafts, end_by, key_piece, reach, keys, total}
use Rattle.code_gen.specs.Depths.{depth}
use Rattle.code_gen.specs.Limits.{all_low, IsShort}
use Rattle.code_gen.specs.Laws.{IsGood, IsReady}
use Rattle.code_gen.specs.Gathers.{body_at, longer}
use Rattle.code_gen.proofs.Closed.{reach_grown, get_front, get_some}
use Rattle.code_gen.proofs.Room.{keys_room}
use Rattle.code_gen.proofs.Worklist.{reach_done, reach_step, take_past, next_taken, next_total, reach_total, taken_some, calls_long}

-- an entry of the code's list, as the definitions see it
pub get_mapped : {A B : Type 0} (f : A → B) (xs : List A) (k : ℕ) (x : A) → k < length xs → x ≡ get_or xs k x → slice_get (map f xs) k ≡ Some (f x)
get_mapped f [] k x lt e = absurd (omega arith)
get_mapped f (y ∷ xs) zero x lt e = ap (λ x. Some (f x)) (sym e)
get_mapped f (y ∷ xs) (suc k) x lt e = get_mapped f xs k x (omega arith) e

pub map_one : {A B : Type 0} (f : A → B) (xs : List A) (x : A) → map f (xs ++ (x ∷ [])) ≡ map f xs ++ (f x ∷ [])
map_one f [] x = refl
map_one f (y ∷ xs) x = ap (λ l. f y ∷ l) (map_one f xs x)

-- what is known after k rounds: how many instructions there are, the functions, of which the first k were looked at, and their bodies
pub record Round (g : Drafts) (main : Key) (k sum : ℕ) (ks : List Key) (bodies : List Piece) : Type 0 where
  pub rest : reach g (65537 - k) k ks ≡ keys g main
  pub built : bodies ≡ map (body_at g) (take k ks)
  pub count : sum ≡ total g (take k ks)
  pub most : sum ≤ 65536
  pub low : all_low g (take k ks) ≡ true
  pub within : k ≤ length ks

pub first_round : (g : Drafts) (main : Key) → Round g main 0 0 (main ∷ []) []
unfolding keys
first_round g main = record { rest = refl; built = refl; count = refl; most = omega arith; low = refl; within = omega arith }

low_join : (g : Drafts) (a b : List Key) → all_low g a ≡ true → all_low g b ≡ true → all_low g (a ++ b) ≡ true
low_join g [] b x y = y
low_join g (f ∷ a) b x y =
    let z = both (is_some (depth g (key_piece g f) 0)) (all_low g a) x in
    together (is_some (depth g (key_piece g f) 0)) (all_low g (a ++ b)) z.0 (low_join g a b z.1 y)

low_take : (g : Drafts) (k : ℕ) (ks : List Key) → all_low g ks ≡ true → all_low g (take k ks) ≡ true
low_take g zero ks x = refl
low_take g (suc k) [] x = refl
low_take g (suc k) (f ∷ ks) x =
    let z = both (is_some (depth g (key_piece g f) 0)) (all_low g ks) x in
    together (is_some (depth g (key_piece g f) 0)) (all_low g (take k ks)) z.0 (low_take g k ks z.1)

low_front : (g : Drafts) (a b : List Key) → all_low g (a ++ b) ≡ true → all_low g a ≡ true
low_front g [] b x = refl
low_front g (f ∷ a) b x =
    let z = both (is_some (depth g (key_piece g f) 0)) (all_low g (a ++ b)) x in
    together (is_some (depth g (key_piece g f) 0)) (all_low g a) z.0 (low_front g a b z.1)

low_get : (g : Drafts) (ks : List Key) (k : ℕ) (f : Key) → slice_get ks k ≡ Some f → all_low g ks ≡ true → is_some (depth g (key_piece g f) 0) ≡ true
low_get g [] k f e x = cc
low_get g (h ∷ ks) zero f e x = let s : h ≡ f = cc in subst (λ f. is_some (depth g (key_piece g f) 0) ≡ true) s (both (is_some (depth g (key_piece g h) 0)) (all_low g ks) x).0
low_get g (h ∷ ks) (suc k) f e x = low_get g ks k f e (both (is_some (depth g (key_piece g h) 0)) (all_low g ks) x).1

-- the end of a function calls nothing
end_calls : (r : Answer) (m : ℕ) (ks : List Key) → add_calls (end_by r m) ks ≡ ks
end_calls Nothing m ks = refl
end_calls NumberBack m ks = refl
end_calls AtomBack m ks = refl

two_gives : (a b : Bool) (x : ℕ) (more : ℕ) → (if a then (if b then Some x else None) else None) ≡ Some more → (a ≡ true) × (b ≡ true) × (x ≡ more)
two_gives true true x more e = (refl, refl, cc)
two_gives true false x more e = cc
two_gives false b x more e = cc

two_none : (a b : Bool) (x : ℕ) → a ≡ true → b ≡ true → (if a then (if b then Some x else None) else None) ≡ None → ⊥
two_none true true x e f n = cc
two_none true false x e f n = cc
two_none false b x e f n = cc

-- one function more
pub next_round : (g : Drafts) (main : Key) (k sum more : ℕ) (ks : List Key) (bodies : List Piece) (f : Key) → Round g main k sum ks bodies → k < 65537 → slice_get ks k ≡ Some f → longer g f sum ≡ Some more → Round g main (k + 1) more (add_calls (body_at g f) ks) (bodies ++ (body_at g f ∷ []))
unfolding longer
next_round g main k sum more ks bodies f r lt at e =
    let x = two_gives (is_some (depth g (key_piece g f) 0)) (nat_le (sum + size (key_piece g f)) 65536) (sum + size (key_piece g f)) more e in
    let ls = add_calls (key_piece g f) ks in
    let s : ls ≡ add_calls (body_at g f) ks = end_calls (g f).answer (g f).blank (add_calls (body_at g f) ks) in
    let n : 65537 - k ≡ suc (65537 - (k + 1)) = omega (arith, lt) in
    let k1 : suc k ≡ k + 1 = sym (add-one k) in
    let taken : take (k + 1) ls ≡ take k ks ++ (f ∷ []) = ap (λ m. take m ls) (sym k1) ∙ next_taken g k ks f at in
    let done : Round g main (k + 1) more ls (bodies ++ (body_at g f ∷ [])) = record {
      rest = ap (λ m. reach g (65537 - (k + 1)) m ls) (sym k1) ∙ sym (reach_step g (65537 - (k + 1)) k ks f at) ∙ ap (λ n. reach g n k ks) (sym n) ∙ r.rest;
      built = ap (λ l. l ++ (body_at g f ∷ [])) r.built ∙ sym (map_one (body_at g) (take k ks) f) ∙ ap (map (body_at g)) (sym taken);
      count = (let t = next_total g k ks f at in let u : more ≡ total g (take (suc k) ls) = omega (arith, t, x.2, r.count) in u ∙ ap (λ m. total g (take m ls)) k1);
      most = omega (arith, x.2, leb-true (sum + size (key_piece g f)) 65536 x.1);
      low = ap (all_low g) taken ∙ low_join g (take k ks) (f ∷ []) r.low (together (is_some (depth g (key_piece g f) 0)) true x.0 refl);
      within = omega (arith, get_some ks k f at, calls_long g f ks);
    } in
    subst (λ l. Round g main (k + 1) more l (bodies ++ (body_at g f ∷ []))) s done

-- all functions were looked at
pub done_round : (g : Drafts) (main : Key) (k sum : ℕ) (ks : List Key) (bodies : List Piece) → Round g main k sum ks bodies → length ks ≤ k → (ks ≡ keys g main) × (bodies ≡ map (body_at g) (keys g main)) × IsShort g main
done_round g main k sum ks bodies r le =
    let e : ks ≡ keys g main = sym (reach_done g (65537 - k) k ks le) ∙ r.rest in
    let t : take k ks ≡ keys g main = take_past ks k le ∙ e in
    (e, r.built ∙ ap (map (body_at g)) t, record { few = subst (λ l. total g l ≤ 65536) t (omega (arith, r.count, r.most)); low = ap (all_low g) (sym t) ∙ r.low })

-- one of them passes the limits
pub long_round : (g : Drafts) (main : Key) (k sum : ℕ) (ks : List Key) (bodies : List Piece) (f : Key) → Round g main k sum ks bodies → k < 65537 → slice_get ks k ≡ Some f → longer g f sum ≡ None → IsShort g main → ⊥
unfolding longer
long_round g main k sum ks bodies f r lt at e short =
    let ls = add_calls (key_piece g f) ks in
    let n : 65537 - k ≡ suc (65536 - k) = omega (arith, lt) in
    let st : reach g (65536 - k) (suc k) ls ≡ keys g main = sym (reach_step g (65536 - k) k ks f at) ∙ ap (λ n. reach g n k ks) (sym n) ∙ r.rest in
    let h = reach_total g (65536 - k) (suc k) (suc k) ls in
    let t = next_total g k ks f at in
    let few : total g (reach g (65536 - k) (suc k) ls) ≤ 65536 = subst (λ l. total g l ≤ 65536) (sym st) short.few in
    let gr = reach_grown g (65537 - k) k ks in
    let there : slice_get (keys g main) k ≡ Some f = ap (λ l. slice_get l k) (sym r.rest ∙ gr.1) ∙ get_front ks gr.0 k (get_some ks k f at) ∙ at in
    let low = low_get g (keys g main) k f there short.low in
    two_none (is_some (depth g (key_piece g f) 0)) (nat_le (sum + size (key_piece g f)) 65536) (sum + size (key_piece g f)) low (le-leb (sum + size (key_piece g f)) 65536 (omega (arith, h, t, few, r.count))) e

-- there are never so many
pub full_round : (g : Drafts) (main : Key) (sum : ℕ) (ks : List Key) (bodies : List Piece) → Round g main 65537 sum ks bodies → ⊥
full_round g main sum ks bodies r = let h = taken_some g 65537 ks r.within in omega (arith, h, r.count, r.most)

-- the next function is good
pub round_good : (g : Drafts) (main : Key) (k sum : ℕ) (ks : List Key) (bodies : List Piece) (f : Key) → IsReady g main → Round g main k sum ks bodies → slice_get ks k ≡ Some f → IsGood g f
round_good g main k sum ks bodies f ready r at =
    let grown = reach_grown g (65537 - k) k ks in
    let there : slice_get (keys g main) k ≡ Some f = ap (λ l. slice_get l k) (sym r.rest ∙ grown.1) ∙ get_front ks grown.0 k (get_some ks k f at) ∙ at in
    ready.good f (keys_room g main ready k f there)
