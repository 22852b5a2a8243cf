-- What members mean that are walked over without a fault.
use Rattle.std.proofs.Common.{◌≡◌, refl, sym, ap, ◌∙◌, subst, List, [], ◌∷◌, ◌++◌, Ok, Err, false, append_assoc, append-nil}
use Rattle.ulam_tree.specs.Found.{◌>>=◌}
use Rattle.ulam_tree.specs.Raw.{Member, class, Word}
use Rattle.ulam_tree.proofs.Means.{means_at}
use Rattle.ulam_names.specs.Faults.{Found}
use Rattle.ulam_names.specs.Scopes.{Names, no_names}
use Rattle.ulam_names.specs.Classes as w
use Rattle.ulam_names.specs.Classes.{Known, Half, HalfClass}
use Rattle.ulam_names.specs.ClassRelation.{AreMembers, AreItems}
use Rattle.ulam_names.proofs.ClassMeans.{items_mean}

-- the members that a step found, behind others
abbrev behind : List Half → Names × List Half → Found (Names × List Half)
behind front z = Ok (z.0, front ++ z.1)

-- one more member
module _ (known : Known) (e : Names) (m : Member) (x : Names × List Half) (one : w.member known e m ≡ Ok x) where
  pub walked_end : (d : Names) (ms : List Member) (hs : List Half) → w.members known d ms ≡ Ok (e, hs) → w.members known d (ms ++ m ∷ []) ≡ Ok (x.0, hs ++ x.1)
  walked_end d [] hs h =
      let same : (d, []) ≡ (e, hs) = cc in
      let start : d ≡ e = ap (λ (z : Names × List Half). z.0) same in
      let none : [] ≡ hs = ap (λ (z : Names × List Half). z.1) same in
      let first : w.member known d m ≡ Ok x = ap (λ (z : Names). w.member known z m) start ∙ one in
      rw first (λ i. Ok (x.0, (append-nil x.1 ∙ ap (λ (zs : List Half). zs ++ x.1) none) i))
  walked_end d (u ∷ ms) hs h = go (w.member known d u) refl h (λ a. walked_end a ms)
    where
      last : (a : Names × List Half) → w.member known d u ≡ Ok a → (y : Found (Names × List Half)) → w.members known a.0 ms ≡ y → (y >>= behind a.1) ≡ Ok (e, hs) →
          ((gs : List Half) → w.members known a.0 ms ≡ Ok (e, gs) → w.members known a.0 (ms ++ m ∷ []) ≡ Ok (x.0, gs ++ x.1)) → w.members known d (u ∷ (ms ++ m ∷ [])) ≡ Ok (x.0, hs ++ x.1)
      last a is (Err f) at h rest = absurd cc
      last a is (Ok z) at h rest =
          let same : (z.0, a.1 ++ z.1) ≡ (e, hs) = cc in
          let names : z.0 ≡ e = ap (λ (y : Names × List Half). y.0) same in
          let list : a.1 ++ z.1 ≡ hs = ap (λ (y : Names × List Half). y.1) same in
          let more = rest z.1 (at ∙ (λ i. Ok (names i, z.1))) in
          rw (is, more) (λ i. Ok (x.0, (sym (append_assoc a.1 z.1 x.1) ∙ ap (λ (zs : List Half). zs ++ x.1) list) i))

      go : (y : Found (Names × List Half)) → w.member known d u ≡ y → (y >>= λ (a : Names × List Half). w.members known a.0 ms >>= behind a.1) ≡ Ok (e, hs) →
          ((a : Names) (gs : List Half) → w.members known a ms ≡ Ok (e, gs) → w.members known a (ms ++ m ∷ []) ≡ Ok (x.0, gs ++ x.1)) → w.members known d (u ∷ (ms ++ m ∷ [])) ≡ Ok (x.0, hs ++ x.1)
      go (Err f) is h rest = absurd cc
      go (Ok a) is h rest = last a is (w.members known a.0 ms) refl h (rest a.0)

-- what they mean, as the members of a class
pub walked_means : (known : Known) (v : Word) (ms : List Member) (d : Names) (hs : List Half) → w.members known no_names ms ≡ Ok (d, hs) → AreMembers known no_names ms (d, hs)
walked_means known v ms d hs h =
    let whole : w.items known (class (record { quark = false; word = v; members = ms }) ∷ []) ≡ Ok (record { quark = false; word = v; names = d; members = hs } ∷ []) = rw h refl in
    let is = means_at (AreItems known (class (record { quark = false; word = v; members = ms }) ∷ [])) _ _ (items_mean known (class (record { quark = false; word = v; members = ms }) ∷ [])) whole in
    let names : is.0.0 ≡ d = ap (names_or d) (sym is.4) in
    let list : is.0.1 ≡ hs = ap (halves_or hs) (sym is.4) in
    subst (AreMembers known no_names ms) (λ i. (names i, list i)) is.2
  where
    names_or : Names → List HalfClass → Names
    names_or z [] = z
    names_or z (x ∷ xs) = x.names

    halves_or : List Half → List HalfClass → List Half
    halves_or z [] = z
    halves_or z (x ∷ xs) = x.members
