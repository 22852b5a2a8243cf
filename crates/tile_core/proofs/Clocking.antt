-- One clock more.
use Rattle.std.proofs.Common.{◌≡◌, ℕ, ◌+◌, ◌<◌, eqb, Bool, true, false, cond, true≢false, List, [], ◌∷◌, ◌++◌, length, get_or, take, refl, sym, ap, ◌∙◌, arith}
use Rattle.std.specs.Prelude.{if◌then◌else◌, ◌==◌, max}
use Rattle.std.proofs.lemmas.List.{take_more}
use Rattle.edge_lock.specs.declared.history.Access.TheVariants.{Read, Write}
use Rattle.edge_lock.specs.EndLists.{EndLists}
use Rattle.border_cache.specs.Accesses.{Adds}
use Rattle.border_cache.specs.Windows.{has}
use Rattle.border_cache.proofs.Needs.{Rises, put_on, split_has, fresh, adds_all_begins, adds_all_more}
use Rattle.tile_core.specs.Turns.{clock_in, greatest}
use Rattle.tile_core.specs.Clocks.{ReadsClocks, WritesClocks}

pub greatest_push : (n : ℕ) (f : ℕ → ℕ) (es : List ℕ) (e : ℕ) → greatest n f (es ++ e ∷ []) ≡ max (greatest n f es) (f e)
greatest_push n f [] e = refl
greatest_push n f (d ∷ ds) e = greatest_push (max n (f d)) f ds e

-- only the edges in the list matter
pub greatest_same : (n : ℕ) (f g : ℕ → ℕ) (es : List ℕ) → ((e : ℕ) → has e es ≡ true → f e ≡ g e) → greatest n f es ≡ greatest n g es
greatest_same n f g [] s = refl
greatest_same n f g (d ∷ ds) s =
    let here : f d ≡ g d = s d (let q : (d == d) ≡ true = grind arith in ap (λ b. if b then true else has d ds) q) in
    ap (λ x. greatest (max n x) f ds) here ∙ greatest_same (max n (g d)) f g ds (λ e h. s e (go (e == d) (has e ds) h))
  where
    go : (b c : Bool) → c ≡ true → (if b then true else c) ≡ true
    go true c h = refl
    go false c h = h

module _ (needs : List ℕ) (i e : ℕ) (lt : i < length needs) (rise : Rises needs) (at : e ≡ get_or needs i 0) where
  was : (f : ℕ) → has f (take i needs) ≡ true → eqb f e ≡ false
  was f h = go (eqb f e) refl
    where
      go : (b : Bool) → eqb f e ≡ b → eqb f e ≡ false
      go true is = let q : f ≡ e = grind (arith, is) in absurd (true≢false (sym h ∙ (ap (λ x. has x (take i needs)) q ∙ fresh needs i e lt rise at)))
      go false is = is

  at_e : eqb e e ≡ true
  at_e = grind arith

  pub clocks_more : (least top v : ℕ) (a b c : ℕ → EndLists) → ReadsClocks (take i needs) least top a b → Adds b c e (Read 0 v ∷ []) → ReadsClocks (take (i + 1) needs) least (max top v) a c
  clocks_more least top v a b c r s = record {
    more = put_on e (Read 0 v ∷ []) r.more;
    clock = λ d. cond (d == e) v (r.clock d);
    adds = adds_all_more needs i e lt rise at a b c r.more (Read 0 v ∷ []) r.adds s;
    is = λ f h. go f (eqb f e) refl (sym (split_has needs i e lt rise at f) ∙ h);
    top = (λ j. max (r.top j) v) ∙ sym whole;
  }
    where
      go : (f : ℕ) (x : Bool) → eqb f e ≡ x → (if x then true else has f (take i needs)) ≡ true → cond x (Read 0 v ∷ []) (r.more f) ≡ Read 0 (cond x v (r.clock f)) ∷ []
      go f true is h = refl
      go f false is h = r.is f h

      new : ℕ → ℕ
      new = λ d. clock_in (put_on e (Read 0 v ∷ []) r.more d)

      whole : greatest least (λ d. clock_in (put_on e (Read 0 v ∷ []) r.more d)) (take (i + 1) needs) ≡ max (greatest least (λ d. clock_in (r.more d)) (take i needs)) v
      whole =
          ap (greatest least (λ d. clock_in (put_on e (Read 0 v ∷ []) r.more d))) (take_more needs i 0 lt ∙ ap (λ x. take i needs ++ x ∷ []) (sym at))
          ∙ (greatest_push least (λ d. clock_in (put_on e (Read 0 v ∷ []) r.more d)) (take i needs) e
          ∙ (λ j. max (greatest_same least (λ d. clock_in (put_on e (Read 0 v ∷ []) r.more d)) (λ d. clock_in (r.more d)) (take i needs) (λ f h. ap (λ b. clock_in (cond b (Read 0 v ∷ []) (r.more f))) (was f h)) j)
          (clock_in (cond (at_e j) (Read 0 v ∷ []) (r.more e)))))

  pub stamps_more : (stamp : ℕ) (a b c : ℕ → EndLists) → WritesClocks (take i needs) stamp a b → Adds b c e (Write 0 stamp ∷ []) → WritesClocks (take (i + 1) needs) stamp a c
  stamps_more stamp a b c r s = record {
    more = put_on e (Write 0 stamp ∷ []) r.more;
    adds = adds_all_more needs i e lt rise at a b c r.more (Write 0 stamp ∷ []) r.adds s;
    is = λ f h. go f (eqb f e) refl (sym (split_has needs i e lt rise at f) ∙ h);
  }
    where
      go : (f : ℕ) (x : Bool) → eqb f e ≡ x → (if x then true else has f (take i needs)) ≡ true → cond x (Write 0 stamp ∷ []) (r.more f) ≡ Write 0 stamp ∷ []
      go f true is h = refl
      go f false is h = r.is f h

pub clocks_begin : (least : ℕ) (a : ℕ → EndLists) → ReadsClocks [] least least a a
clocks_begin least a = record { more = λ e. []; clock = λ e. 0; adds = adds_all_begins a; is = λ e h. absurd (true≢false (sym h)); top = refl }

pub stamps_begin : (stamp : ℕ) (a : ℕ → EndLists) → WritesClocks [] stamp a a
stamps_begin stamp a = record { more = λ e. []; adds = adds_all_begins a; is = λ e h. absurd (true≢false (sym h)) }
