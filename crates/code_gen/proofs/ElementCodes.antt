-- The codes of a program's elements: where each stands, and which is the first that is too long.
use Rattle.std.proofs.Common.{◌≡◌, ◌⊎◌, inl, inr, ⊎_elim, ℕ, zero, suc, ◌+◌, ◌<◌, ◌≤◌, List, [], ◌∷◌, map, length, take, Option, Some, None, refl, sym, ap, ◌∙◌, subst, arith, Bool, true, false}
use Rattle.std.specs.Prelude.{slice_get, nat_le, if◌then◌else◌}
use Rattle.std.proofs.lemmas.Bool.{cases_lt, cases_order, le-leb, leb-true}
use Rattle.std.proofs.lemmas.Option.{slice_get_within}
use Rattle.ulam_tree.specs.Typed as t
use Rattle.ulam_meaning.specs.Programs.{Program, element_classes, count_elements, number_of, element_of}
use Rattle.ulam_meaning.specs.Events.{behave_key}
use Rattle.code_gen.specs.Drafts.{keys, total}
use Rattle.code_gen.specs.Limits.{all_low}
use Rattle.code_gen.specs.Scheme.{draft_of}
use Rattle.code_gen.specs.Compiled.{element_code}
use Rattle.code_gen.specs.Compiling.{class_code, element_codes, HasShort, AreShort, IsFirstLong}

pub get_map : {A B : Type 0} (f : A → B) (xs : List A) (k : ℕ) (x : A) → slice_get xs k ≡ Some x → slice_get (map f xs) k ≡ Some (f x)
get_map f [] k x h = cc
get_map f (y ∷ xs) zero x h = let same : y ≡ x = cc in ap (λ z. Some (f z)) same
get_map f (y ∷ xs) (suc k) x h = get_map f xs k x h

get_map_none : {A B : Type 0} (f : A → B) (xs : List A) (k : ℕ) → slice_get xs k ≡ None → slice_get (map f xs) k ≡ None
get_map_none f [] k h = refl
get_map_none f (y ∷ xs) zero h = cc
get_map_none f (y ∷ xs) (suc k) h = get_map_none f xs k h

-- an element has the number that it stands at
class_numbered : (d : ℕ) (ks : List t.Class) (k c : ℕ) → slice_get (element_classes d ks) k ≡ Some c → (i : ℕ) × (c ≡ d + i) × (count_elements (take (suc i) ks) ≡ suc k)
class_numbered d [] k c h = absurd cc
class_numbered d (x ∷ ks) k c h = by x.quark k h (λ k h. class_numbered (suc d) ks k c h)
  where
    by : (b : Bool) (k : ℕ) → slice_get (if b then element_classes (suc d) ks else d ∷ element_classes (suc d) ks) k ≡ Some c → ((k : ℕ) → slice_get (element_classes (suc d) ks) k ≡ Some c → (i : ℕ) × (c ≡ suc d + i) × (count_elements (take (suc i) ks) ≡ suc k)) → (i : ℕ) × (c ≡ d + i) × ((if b then count_elements (take i ks) else suc (count_elements (take i ks))) ≡ suc k)
    by true k h rec = let r = rec k h in (suc r.0, omega (arith, r.1), r.2)
    by false zero h rec = let same : d ≡ c = cc in (0, omega (arith, same), refl)
    by false (suc k) h rec = let r = rec k h in (suc r.0, omega (arith, r.1), ap suc r.2)

pub number_is : (g : Program) (k c : ℕ) → slice_get (element_classes 0 g.classes) k ≡ Some c → number_of g c ≡ suc k
unfolding number_of
number_is g k c h =
    let r = class_numbered 0 g.classes k c h in
    let same : c ≡ r.0 = omega (arith, r.1) in
    ap (λ i. count_elements (take (suc i) g.classes)) same ∙ r.2

pub code_stands : (g : Program) (k c : ℕ) → element_of g (suc k) ≡ Some c → slice_get (element_codes g) k ≡ Some (element_code g (suc k) c)
unfolding element_of
code_stands g k c h = get_map (class_code g) (element_classes 0 g.classes) k c h ∙ ap (λ n. Some (element_code g n c)) (number_is g k c h)

pub no_code_stands : (g : Program) (k : ℕ) → element_of g (suc k) ≡ None → slice_get (element_codes g) k ≡ None
unfolding element_of
no_code_stands g k h = get_map_none (class_code g) (element_classes 0 g.classes) k h

-- the limits let a code through or don't
short_or_long : (g : Program) (c : ℕ) → HasShort g c ⊎ (HasShort g c → ⊥)
short_or_long g c = by (nat_le (total (draft_of g) (keys (draft_of g) (behave_key g c))) 65536) (all_low (draft_of g) (keys (draft_of g) (behave_key g c))) refl refl
  where
    by : (a b : Bool) → nat_le (total (draft_of g) (keys (draft_of g) (behave_key g c))) 65536 ≡ a → all_low (draft_of g) (keys (draft_of g) (behave_key g c)) ≡ b → HasShort g c ⊎ (HasShort g c → ⊥)
    by true true x y = inl (record { few = leb-true _ _ x; low = y })
    by true false x y = inr (λ s. let e : true ≡ false = sym s.low ∙ y in absurd cc)
    by false b x y = inr (λ s. let e : true ≡ false = sym (le-leb _ _ s.few) ∙ x in absurd cc)

-- the limits let each element before class n through
abbrev pub Below : Program → ℕ → Type 0
Below g n = (d : ℕ) (e : t.Class) → d < n → slice_get g.classes d ≡ Some e → e.quark ≡ false → HasShort g d

pub below_more : (g : Program) (n : ℕ) → Below g n → ((e : t.Class) → slice_get g.classes n ≡ Some e → e.quark ≡ false → HasShort g n) → Below g (suc n)
below_more g n b here d e lt h f = ⊎_elim (λ l. b d e l h f) (λ l. at l) (cases_lt d n)
  where
    at : n ≤ d → HasShort g d
    at l =
        let same : n ≡ d = omega arith in
        subst (HasShort g) same (here e (ap (slice_get g.classes) same ∙ h) f)

one_further : (g : Program) (n : ℕ) → Below g n → (o : Option t.Class) → slice_get g.classes n ≡ o → Below g (suc n) ⊎ ((c : ℕ) × IsFirstLong g c)
one_further g n b None h = inl (below_more g n b (λ e i f. let x : Some e ≡ None = sym i ∙ h in absurd cc))
one_further g n b (Some k) h = by k.quark refl (short_or_long g n)
  where
    by : (q : Bool) → k.quark ≡ q → HasShort g n ⊎ (HasShort g n → ⊥) → Below g (suc n) ⊎ ((c : ℕ) × IsFirstLong g c)
    by true q s = inl (below_more g n b (λ e i f.
        let x : Some k ≡ Some e = sym h ∙ i in
        let same : k ≡ e = cc in
        let y : true ≡ false = sym q ∙ ap (λ (u : t.Class). u.quark) same ∙ f in
        absurd cc))
    by false q (inl s) = inl (below_more g n b (λ e i f. s))
    by false q (inr l) = inr (n, record { element = k; stands = h; acts = q; long = l; before = b })

short_below : (g : Program) (n : ℕ) → Below g n ⊎ ((c : ℕ) × IsFirstLong g c)
short_below g zero = inl (λ d e lt h f. absurd (omega arith))
short_below g (suc n) = ⊎_elim (λ b. one_further g n b (slice_get g.classes n) refl) (λ x. inr x) (short_below g n)

pub all_or_first : (g : Program) → AreShort g ⊎ ((c : ℕ) × IsFirstLong g c)
all_or_first g = ⊎_elim (λ b. inl (λ c e h f. b c e (slice_get_within g.classes c e h) h f)) (λ x. inr x) (short_below g (length g.classes))

pub all_nor_first : (g : Program) (c : ℕ) → AreShort g → IsFirstLong g c → ⊥
all_nor_first g c s x = x.long (s c x.element x.stands x.acts)

pub first_is_one : (g : Program) (a b : ℕ) → IsFirstLong g a → IsFirstLong g b → a ≡ b
first_is_one g a b x y =
    ⊎_elim (λ e. e)
    (⊎_elim (λ l. absurd (x.long (y.before a x.element l x.stands x.acts))) (λ l. absurd (y.long (x.before b y.element l y.stands y.acts))))
    (cases_order a b)
