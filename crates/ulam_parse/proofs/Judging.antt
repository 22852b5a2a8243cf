-- What reading the tokens up to one of them says of all.
use Rattle.std.proofs.Common.{ℕ, zero, suc, ◌+◌, ◌≤◌, ◌≡◌, inl, inr, List, [], ◌∷◌, ◌++◌, length, drop, Bool, true, false, cond, Ok, Err, refl, ap, sym, ◌∙◌, subst, arith, append_assoc, length-append, append-nil}
use Rattle.std.proofs.Math.Bool.{or-true}
use Rattle.feast_base.specs.Places.{no_place}
use Rattle.feast_base.specs.declared.place.Place.{Place}
use Rattle.ulam_tree.specs.Raw.{Item}
use Rattle.ulam_parse.specs.declared.symbol.Symbol.TheVariants as s
use Rattle.ulam_parse.specs.Tokens.{Text, Tok, tok}
use Rattle.ulam_parse.specs.Grammar.{AreItems, IsFile, Begins}
use Rattle.ulam_parse.specs.Nesting.{outside, IsShallow}
use Rattle.ulam_parse.specs.Reading.{stops, tired, Read, ◌>>=◌, sees}
use Rattle.ulam_parse.specs.Files.{item, items, whole_file}
use Rattle.ulam_parse.specs.Sentences.{is_end, has_end, place_at, EndsOnce, IsSyntaxFault, IsDepthFault}
use Rattle.ulam_parse.proofs.Tells.{same_self, first, tail, Tells}
use Rattle.ulam_parse.proofs.Rules.{Free}
use Rattle.ulam_parse.proofs.CondRules.{seen_at}
use Rattle.ulam_parse.proofs.FileRules.{AtEnd, file_law}
use Rattle.ulam_parse.proofs.Depths.{DeepAt}
use Rattle.ulam_parse.proofs.Verdicts.{two_splits}

-- `End` comes after all items

abbrev Resting : Read (List Item) → Type 0
Resting (Ok x) = sees s.End x.1 ≡ true
Resting (Err e) = Unit {0}

resting_then : {A : Type 0} (r : Read A) (f : A × List Tok → Read (List Item)) → ((x : A × List Tok) → Resting (f x)) → Resting (r >>= f)
resting_then (Ok x) f h = h x
resting_then (Err e) f h = tt

resting_map : (r : Read (List Item)) (g : List Item → List Item) → Resting r → Resting (r >>= λ (x : List Item × List Tok). Ok (g x.0, x.1))
resting_map (Ok x) g h = h
resting_map (Err e) g h = tt

resting_if : (b : Bool) (x y : Read (List Item)) → (b ≡ true → Resting x) → Resting y → Resting (cond b x y)
resting_if true x y f h = f refl
resting_if false x y f h = h

rests : (t : ℕ) (us : List Tok) → Resting (items t us)
unfolding items
rests zero us = tt
rests (suc t) us = resting_if (sees s.End us) (Ok ([], us)) _ (λ e. e) (resting_then (item us) _ (λ x. resting_map (items t x.1) (λ xs. x.0 ∷ xs) (rests t x.1)))

rests_at_end : (us : List Tok) (xs : List Item) (rest : List Tok) → whole_file us ≡ Ok (xs, rest) → sees s.End rest ≡ true
rests_at_end us xs rest e = let F : Read (List Item) → Type 0 = Resting in subst F e (rests (length us + 1) us)

told : (us : List Tok) (r : Read (List Item)) → whole_file us ≡ r → Tells AreItems AtEnd Free us r
told us r e = let F : Read (List Item) → Type 0 = λ x. Tells AreItems AtEnd Free us x in subst F e (file_law us)

at_end : (mid : List Tok) (w : Text) (p : Place) (rest : List Tok) → mid ≡ tok s.End w p ∷ rest → sees s.End mid ≡ true
at_end mid w p rest e = ap (sees s.End) e ∙ same_self s.End

abbrev tok_first : Tok → List Tok → Tok
tok_first d [] = d
tok_first d (t ∷ ts) = t

-- `End` occurs once

end_among : (front : List Tok) (w : Text) (p : Place) (back : List Tok) → has_end (front ++ (tok s.End w p ∷ back)) ≡ true
end_among [] w p back = refl
end_among (tok k v q ∷ ts) w p back = let e = end_among ts w p back in rw e (or-true (is_end k))

last_end : (front init : List Tok) (w v : Text) (p q : Place) (back : List Tok) → front ++ (tok s.End w p ∷ back) ≡ init ++ (tok s.End v q ∷ []) → has_end init ≡ false → back ≡ []
last_end front init w v p q back e n = elim (two_splits front init (tok s.End w p) (tok s.End v q) back [] e) as (λ z. back ≡ []) [
  | inl k ↦ k.2
  | inr k ↦ elim k as (λ z. back ≡ []) [
    | inl m ↦ let x : true ≡ false = sym (end_among front w p m.0) ∙ sym (ap has_end m.1) ∙ n in absurd cc
    | inr m ↦
        let a = ap length e in
        let b = length-append front (tok s.End w p ∷ back) in
        let c = length-append init (tok s.End v q ∷ []) in
        let d = ap length m.1 in
        let f = length-append init (tok s.End v q ∷ m.0) in
        absurd (omega (arith, a, b, c, d, f))
  ]
]

front_empty : (a b : List Tok) → a ++ b ≡ [] → a ≡ []
front_empty [] b e = refl
front_empty (t ∷ ts) b e = absurd cc

-- tokens that were all read are a file
pub read_is : (ts us behind : List Tok) (xs : List Item) (rest : List Tok) → EndsOnce ts → ts ≡ us ++ behind → whole_file us ≡ Ok (xs, rest) → IsFile xs us
read_is ts us behind xs rest z e r =
    let h = told us (Ok (xs, rest)) r in
    let x = seen_at s.End rest (rests_at_end us xs rest r) in
    let a : us ≡ h.front ++ (tok s.End x.0 x.1 ∷ x.2) = h.is ∙ ap (λ v. h.front ++ v) x.3 in
    let b : h.front ++ (tok s.End x.0 x.1 ∷ (x.2 ++ behind)) ≡ z.init ++ (tok s.End z.text z.place ∷ []) =
    sym (append_assoc h.front (tok s.End x.0 x.1 ∷ x.2) behind) ∙ sym (ap (λ v. v ++ behind) a) ∙ sym e ∙ z.split in
    let c : x.2 ≡ [] = front_empty x.2 behind (last_end h.front z.init x.0 z.text x.1 z.place (x.2 ++ behind) b z.no_end) in
    let F : List Tok → Type 0 = λ v. AreItems xs v rest in
    (rest, subst F (sym h.is) (h.again rest), (record { name = x.0; place = x.1 }, x.3 ∙ ap (λ v. tok s.End x.0 x.1 ∷ v) c))

-- tokens that ended before a file did begin one
empty_list : (us : List Tok) → 0 ≡ length us → us ≡ []
empty_list [] e = refl
empty_list (t ∷ ts) e = absurd (omega (arith, e))

pub ended_begins : (us : List Tok) → whole_file us ≡ Err (stops 0) → Begins us
ended_begins us r =
    let h = told us (Err (stops 0)) r in
    let a : us ≡ h.front = h.is ∙ ap (λ v. h.front ++ v) (empty_list h.left h.long) ∙ append-nil h.front in
    let end : List Tok = tok s.End [] no_place ∷ [] in
    let F : List Tok → Type 0 = λ v. IsFile h.tree (v ++ h.fill end) in
    (h.tree, h.fill end, subst F (sym a) (end, h.goes end, (record { name = []; place = no_place }, refl)))

-- the tokens of a text do not end so, since they have `End`
pub never_ended : (ts : List Tok) → EndsOnce ts → whole_file ts ≡ Err (stops 0) → ⊥
never_ended ts z r =
    let h = told ts (Err (stops 0)) r in
    let a : ts ≡ h.front = h.is ∙ ap (λ v. h.front ++ v) (empty_list h.left h.long) ∙ append-nil h.front in
    let x : true ≡ false = sym (end_among z.init z.text z.place []) ∙ sym (ap has_end z.split) ∙ ap has_end a ∙ h.no_end in
    absurd cc

pub never_tired : (us : List Tok) → whole_file us ≡ Err tired → ⊥
never_tired us r = told us (Err tired) r

pub left_few : (us : List Tok) (n : ℕ) → whole_file us ≡ Err (stops n) → n ≤ length us
left_few us n r = let h = told us (Err (stops n)) r in omega (arith, h.long, ap length h.is, length-append h.front h.left)

-- no prefix but the whole nests too deep
abbrev pub ShallowBefore : List Tok → Type 0
ShallowBefore us = (front : List Tok) (at : Tok) (back : List Tok) → us ≡ front ++ (at ∷ back) → IsShallow front

shallow_front : (a b : List Tok) → IsShallow (a ++ b) → IsShallow a
shallow_front a b h front back e = h front (back ++ b) (ap (λ v. v ++ b) e ∙ append_assoc front back b)

pub shallow_all : (ts : List Tok) → IsShallow ts → ShallowBefore ts
shallow_all ts h front at back e = let F : List Tok → Type 0 = IsShallow in shallow_front front (at ∷ back) (subst F e h)

too_long : (init front : List Tok) (t at : Tok) (m back : List Tok) → front ≡ init ++ (t ∷ m) → init ++ (t ∷ []) ≡ front ++ (at ∷ back) → ⊥
too_long init front t at m back f e =
    let a = ap length e in
    let b = length-append init (t ∷ []) in
    let c = length-append front (at ∷ back) in
    let d = ap length f in
    let g = length-append init (t ∷ m) in
    omega (arith, a, b, c, d, g)

-- the last token of some, and a split of them
pub shallow_one : (init : List Tok) (t : Tok) → IsShallow init → ShallowBefore (init ++ (t ∷ []))
shallow_one init t h front at back e = elim (two_splits init front t at [] back e) as (λ z. IsShallow front) [
  | inl k ↦ let F : List Tok → Type 0 = IsShallow in subst F k.0 h
  | inr k ↦ elim k as (λ z. IsShallow front) [
    | inl m ↦ absurd (too_long init front t at m.0 back m.1 e)
    | inr m ↦ let F : List Tok → Type 0 = IsShallow in shallow_front front (at ∷ m.0) (subst F m.1 h)
  ]
]

dropped : (front left : List Tok) → drop (length front) (front ++ left) ≡ left
dropped [] left = refl
dropped (t ∷ front) left = dropped front left

-- the tokens after a front
pub behind_front : (front left : List Tok) (i : ℕ) → i ≡ length front → drop i (front ++ left) ≡ left
behind_front front left i e = rw e (dropped front left)

-- the place of a fault
pub syntax_is : (ts us behind : List Tok) (n i : ℕ) (t : Tok) (rest : List Tok) → ts ≡ us ++ behind → whole_file us ≡ Err (stops n) → i + n ≡ length us → drop i us ≡ t ∷ rest → ShallowBefore us → IsSyntaxFault ts (place_at t)
syntax_is ts us behind n i t rest e r l d w =
    let h = told us (Err (stops n)) r in
    let a : i ≡ length h.front = omega (arith, l, h.long, ap length h.is, length-append h.front h.left) in
    let b : h.left ≡ t ∷ rest = sym (behind_front h.front h.left i a) ∙ sym (ap (drop i) h.is) ∙ d in
    let c : us ≡ h.front ++ (t ∷ rest) = h.is ∙ ap (λ v. h.front ++ v) b in
    let end : List Tok = tok s.End [] no_place ∷ [] in
    record {
      front = h.front;
      at = t;
      back = rest ++ behind;
      split = e ∙ ap (λ v. v ++ behind) c ∙ append_assoc h.front (t ∷ rest) behind;
      placed = refl;
      begins = (h.tree, h.fill end, (end, h.goes end, (record { name = []; place = no_place }, refl)));
      none = λ k.
          let F : List Tok → Type 0 = λ v. AreItems k.0 v k.2.0 in
          let g = subst F (append_assoc h.front (t ∷ []) k.1) k.2.1 in
          let x : first (t ∷ k.1) ≡ first h.left = sym (ap first b) in
          h.none (t ∷ k.1) k.0 k.2.0 x g (at_end k.2.0 _ _ [] k.2.2.1);
      shallow = w h.front t rest c;
    }

-- a split by its length
same_length : (us behind front back : List Tok) (at : Tok) → us ++ behind ≡ front ++ (at ∷ back) → length us ≡ length front + 1 → us ≡ front ++ (at ∷ [])
same_length [] behind front back at e l = absurd (omega (arith, l))
same_length (t ∷ us) behind [] back at e l =
    let a : us ≡ [] = empty_list us (omega (arith, l)) in
    ap (λ z. z ∷ us) (ap (tok_first t) e) ∙ ap (λ v. at ∷ v) a
same_length (t ∷ us) behind (u ∷ front) back at e l = ap (λ z. z ∷ us) (ap (tok_first t) e) ∙ ap (λ v. u ∷ v) (same_length us behind front back at (ap tail e) (omega (arith, l)))

pub depth_before : (ts us behind : List Tok) (k : ℕ) → DeepAt 0 outside ts k → ts ≡ us ++ behind → length us ≡ k + 1 → ShallowBefore us
depth_before ts us behind k d e l =
    let a = same_length us behind d.front d.back d.at (sym e ∙ d.split) (omega (arith, l, d.long)) in
    let F : List Tok → Type 0 = ShallowBefore in
    subst F (sym a) (shallow_one d.front d.at d.shallow)

pub depth_fault : (ts us behind : List Tok) (k : ℕ) (t : Tok) (rest : List Tok) → DeepAt 0 outside ts k → ts ≡ us ++ behind → length us ≡ k + 1 → drop k ts ≡ t ∷ rest → Begins us → IsDepthFault ts (place_at t)
depth_fault ts us behind k t rest d e l f b =
    let a = same_length us behind d.front d.back d.at (sym e ∙ d.split) (omega (arith, l, d.long)) in
    let c : d.at ∷ d.back ≡ t ∷ rest = sym (behind_front d.front (d.at ∷ d.back) k (omega (arith, d.long))) ∙ sym (ap (drop k) d.split) ∙ f in
    let F : List Tok → Type 0 = Begins in
    record { front = d.front; at = d.at; back = d.back; split = d.split; placed = sym (ap place_at (ap (tok_first t) c)); begins = subst F a b; shallow = d.shallow; deep = d.deep }
