-- Members of a class, one after another.
use Rattle.std.proofs.Common.{◌≡◌, refl, sym, ap, ◌∙◌, List, [], ◌∷◌, ◌++◌, length, Bool, true, false, ◌||◌, Ok, Err, Some, is_some, append_assoc, cond, nat_lt}
use Rattle.std.specs.Prelude.{find, option_map}
use Rattle.std.specs.Str.{bytes_eq}
use Rattle.ulam_tree.specs.Raw as t
use Rattle.ulam_tree.specs.Resolved as r
use Rattle.ulam_tree.specs.declared.resolved.Named.{Named}
use Rattle.ulam_tree.specs.Found.{◌>>=◌, with_front}
use Rattle.ulam_names.specs.Faults.{Found, too_many, declared_twice}
use Rattle.ulam_names.specs.Scopes.{Text, Names, is_among, names_of, beside, declares_name}
use Rattle.ulam_names.specs.Classes as w
use Rattle.ulam_names.specs.Shown.{with_halves}
use Rattle.ulam_names.proofs.BodyFits.{answer_or}
use Rattle.ulam_tree.proofs.Means.{front_on}

-- A name that a class has not declared is in none of its four lists.
apart4 : (a b c d : Bool) → (a || b || c || d) ≡ false → (a ≡ false) × (b ≡ false) × (c ≡ false) × (d ≡ false)
apart4 true b c d h = cc
apart4 false true c d h = cc
apart4 false false true d h = cc
apart4 false false false true h = cc
apart4 false false false false h = (refl, refl, refl, refl)

pub new_typedef : (d : Names) (n : Text) → declares_name d n ≡ false → is_among n (names_of d.typedefs) ≡ false
new_typedef d n h = (apart4 (is_among n (names_of d.typedefs)) (is_among n (names_of d.constants)) (is_among n (names_of d.fields)) (is_among n d.functions) h).0

pub new_constant : (d : Names) (n : Text) → declares_name d n ≡ false → is_among n (names_of d.constants) ≡ false
new_constant d n h = (apart4 (is_among n (names_of d.typedefs)) (is_among n (names_of d.constants)) (is_among n (names_of d.fields)) (is_among n d.functions) h).1

pub new_field : (d : Names) (n : Text) → declares_name d n ≡ false → is_among n (names_of d.fields) ≡ false
new_field d n h = (apart4 (is_among n (names_of d.typedefs)) (is_among n (names_of d.constants)) (is_among n (names_of d.fields)) (is_among n d.functions) h).2

pub new_function : (d : Names) (n : Text) → declares_name d n ≡ false → is_among n d.functions ≡ false
new_function d n h = (apart4 (is_among n (names_of d.typedefs)) (is_among n (names_of d.constants)) (is_among n (names_of d.fields)) (is_among n d.functions) h).3

halves_twice : (front a : List w.Half) (y : Found (Names × List w.Half)) → with_halves front (y >>= λ (z : Names × List w.Half). Ok (z.0, a ++ z.1)) ≡ with_halves (front ++ a) y
halves_twice front a (Ok z) = ap (λ (zs : List w.Half). Ok (z.0, zs)) (sym (append_assoc front a z.1))
halves_twice front a (Err f) = refl

-- one member, and then the rest
pub members_on : (known : w.Known) (d d' : Names) (front front' : List w.Half) (m : t.Member) (ms : List t.Member) →
    with_halves front (w.member known d m) ≡ Ok (d', front') → with_halves front (w.members known d (m ∷ ms)) ≡ with_halves front' (w.members known d' ms)
members_on known d d' front front' m ms h = go (w.member known d m) h
  where
    go : (x : Found (Names × List w.Half)) → with_halves front x ≡ Ok (d', front') →
        with_halves front (x >>= λ (a : Names × List w.Half). w.members known a.0 ms >>= λ (z : Names × List w.Half). Ok (z.0, a.1 ++ z.1)) ≡ with_halves front' (w.members known d' ms)
    go (Ok x) e =
        let same : (x.0, front ++ x.1) ≡ (d', front') = ap (answer_or (x.0, front ++ x.1)) e in
        halves_twice front x.1 (w.members known x.0 ms) ∙ (λ i. with_halves (same i).1 (w.members known (same i).0 ms))
    go (Err f) e = cc

pub halves_none : (x : Found (Names × List w.Half)) → x ≡ with_halves [] x
halves_none (Ok z) = refl
halves_none (Err f) = refl

-- A name has something beside it exactly if it is among the names.
pub among_is : {A : Type 0} (n : Text) (pairs : List (Text × A)) → is_some (beside n pairs) ≡ is_among n (names_of pairs)
among_is n [] = refl
among_is n (p ∷ pairs) = go (bytes_eq n p.0) (among_is n pairs)
  where
    go : (b : Bool) → is_some (beside n pairs) ≡ is_among n (names_of pairs) → is_some (option_map (λ q. q.1) (cond b (Some p) (find (λ q. bytes_eq n q.0) pairs))) ≡ (b || is_among n (names_of pairs))
    go true h = refl
    go false h = h

-- the walk over one member, and then over the rest
pub member_fails : (known : w.Known) (d : Names) (front : List w.Half) (m : t.Member) (ms : List t.Member) →
    with_halves front (w.members known d (m ∷ ms)) ≡ (with_halves front (w.member known d m) >>= λ (x : Names × List w.Half). with_halves x.1 (w.members known x.0 ms))
member_fails known d front m ms = go (w.member known d m)
  where
    go : (y : Found (Names × List w.Half)) →
        with_halves front (y >>= λ (a : Names × List w.Half). w.members known a.0 ms >>= λ (z : Names × List w.Half). Ok (z.0, a.1 ++ z.1)) ≡ (with_halves front y >>= λ (x : Names × List w.Half). with_halves x.1 (w.members known x.0 ms))
    go (Ok x) = halves_twice front x.1 (w.members known x.0 ms)
    go (Err f) = refl

-- One parameter, and then the rest. Its type is known, there is room for it, and its name is new.
module _ (known : w.Known) (d : Names) (done : List Text) (front : List r.Param) (p : t.Param) (ps : List t.Param) (n : Named) (of : w.member_type known d p.of ≡ Ok n) where
  pub param_many : nat_lt (length done) 8 ≡ false → with_front front (w.params_of known d done (p ∷ ps)) ≡ Err (too_many p.word.place)
  param_many h = rw (of, h) refl

  pub param_twice : nat_lt (length done) 8 ≡ true → is_among p.word.name done ≡ true → with_front front (w.params_of known d done (p ∷ ps)) ≡ Err (declared_twice p.word.place)
  param_twice h k = rw (of, h, k) refl

  pub params_on : (front' : List r.Param) (done' : List Text) → nat_lt (length done) 8 ≡ true → is_among p.word.name done ≡ false →
      front' ≡ front ++ (record { of = n; word = p.word } ∷ []) → done' ≡ done ++ (p.word.name ∷ []) →
      with_front front (w.params_of known d done (p ∷ ps)) ≡ with_front front' (w.params_of known d done' ps)
  params_on front' done' h k e q =
      rw (of, h, k) (front_on front (record { of = n; word = p.word }) (w.params_of known d (done ++ (p.word.name ∷ [])) ps))
      ∙ (λ i. with_front (sym e i) (w.params_of known d (sym q i) ps))
