-- The history of an edge, the newest hold first.
use Rattle.std.proofs.Common.{ℕ, zero, suc, ◌≡◌, ◌≢◌, ◌<◌, ◌+◌, ◌-◌, ◌*◌, List, [], ◌∷◌, ◌++◌, refl, sym, ap, subst, arith, ◌⊎◌, inl, inr, ⊎_elim, Bool, true, false, Option, Some, None, ◌∙◌, ◌==◌, append_assoc}
use Rattle.std.specs.Prelude.{if◌then◌else◌}
use Rattle.std.specs.List.{All}
use Rattle.std.proofs.lemmas.Bool.Decides.{nat_tests}
use Rattle.std.proofs.lemmas.List.{append-nil}
use Rattle.std.proofs.lemmas.List.Elements.{All-contains, filter-append}
use Rattle.tile_core.proofs.Events.{silent_write}
use Rattle.list_laws.proofs.Options.{value_or}
use Rattle.edge_lock.specs.declared.history.Access.{Access}
use Rattle.edge_lock.specs.declared.history.Access.TheVariants.{Read, Write}
use Rattle.edge_lock.specs.declared.history.Hold.{Hold}
use Rattle.edge_lock.specs.declared.history.Refusal.{Refusal}
use Rattle.edge_lock.specs.History as edge
use Rattle.edge_lock.specs.History.{last_value, found_value, register_value, trace, own, key, keys, attempts_of, IsRising, IsEnd, IsEdgeHistory}
use Rattle.edge_lock.specs.EndLists.{writes_nothing}
use Rattle.edge_lock.proofs.HistoryLaws.{finds, trace-append}
use Rattle.edge_lock.proofs.LastHolds.{written-append}
use Rattle.border_cache.specs.Accesses.{last_write}
use Rattle.border_cache.specs.Cells.{CellValue, cell_of}
use Rattle.list_laws.proofs.Members.{In, in_right, in_contains}
use Rattle.serial_order.proofs.Lists.{back, back_append, back_snoc, Snoc, empty, snoc, snocs, in_back}

-- what a hold leaves in a register, where it writes to it
abbrev pub left_in : List Access → ℕ → Option ℕ
left_in accesses register = last_write accesses register None

-- the registers after these holds
abbrev pub values : List Hold → ℕ → ℕ
values [] k = 0
values (h ∷ hs) k = last_value h.accesses k (values hs k)

-- the cell of the shared site k in these registers
abbrev pub cell_at : (ℕ → ℕ) → ℕ → CellValue
cell_at v k = cell_of (v (1 + 2 * k)) (v (2 + 2 * k))

-- nothing was written
abbrev pub IsQuiet : Hold → Type 0
IsQuiet h = (k : ℕ) → left_in h.accesses k ≡ None

-- a hold finds the registers as the holds before left them, and is a later attempt than those of its end
pub record MayFollow (h : Hold) (hs : List Hold) : Type 0 where
  pub finds : (k x : ℕ) → found_value h.accesses k ≡ Some x → x ≡ values hs k
  pub rising : (g : Hold) → In g hs → g.end ≡ h.end → g.attempt < h.attempt

abbrev pub IsHistory : List Hold → Type 0
IsHistory [] = Unit {0}
IsHistory (h ∷ hs) = MayFollow h hs × IsHistory hs

-- where a refusal of an end belongs: the hold that it names, between that end's own
pub record IsPlaced (hs : List Hold) (end attempt holder_attempt : ℕ) : Type 0 where
  pub newer : List Hold
  pub hold : Hold
  pub older : List Hold
  pub whole : hs ≡ newer ++ (hold ∷ older)
  pub other : hold.end ≢ end
  pub names : hold.attempt ≡ holder_attempt
  pub after : (g : Hold) → In g older → g.end ≡ end → g.attempt < attempt
  pub before : (g : Hold) → In g newer → g.end ≡ end → attempt < g.attempt

put_from : (xs : List Access) (k v : ℕ) (o : Option ℕ) → last_value xs k (value_or v o) ≡ value_or v (last_write xs k o)
put_from [] k v o = refl
put_from (Read q x ∷ xs) k v o = put_from xs k v o
put_from (Write q x ∷ xs) k v o = go (k == q) (put_from xs k v o) (put_from xs k v (Some x))
  where
    go : (b : Bool) → last_value xs k (value_or v o) ≡ value_or v (last_write xs k o) → last_value xs k x ≡ value_or v (last_write xs k (Some x)) → last_value xs k (if b then x else value_or v o) ≡ value_or v (last_write xs k (if b then Some x else o))
    go true e f = f
    go false e f = e

-- a register after a hold: what it left there, or what was there before
pub put_is : (xs : List Access) (k v : ℕ) → last_value xs k v ≡ value_or v (left_in xs k)
put_is xs k v = put_from xs k v None

pub quiet : (h : Hold) → writes_nothing h.accesses ≡ true → IsQuiet h
quiet h e k = silent_write h.accesses k None e

-- the registers, either way round
pub values_back : (hs : List Hold) → Snoc hs → (r : ℕ) → values (back hs) r ≡ register_value hs r
values_back hs empty r = refl
values_back _ (snoc gs h t) r =
    ap (λ q. values q r) (back_snoc gs h)
    ∙ ap (last_value h.accesses r) (values_back gs t r)
    ∙ sym (ap (λ q. last_value q r 0) (trace-append gs (h ∷ []) ∙ ap (λ q. trace gs ++ q) (append-nil h.accesses)) ∙ written-append (trace gs) h.accesses r 0)

in_keys : (hs : List Hold) (h : Hold) → In h hs → In (key h) (keys hs)
in_keys [] h i = absurd i
in_keys (g ∷ hs) h i = ⊎_elim (λ e. inl (ap key e)) (λ j. inr (in_keys hs h j)) i

all_in : {X : Type 0} (P : X → Type 0) (xs : List X) (x : X) → All P xs → In x xs → P x
all_in P xs x a i = All-contains P xs x a (in_contains xs x i)

pub end_two : (n : ℕ) → n < 2 → (n ≡ 0) ⊎ (n ≡ 1)
end_two zero lt = inl refl
end_two (suc zero) lt = inr refl
end_two (suc (suc n)) lt = absurd (omega (arith, lt))

-- each hold is of one of the two ends
pub ends_back : {n : ℕ} (hs : List Hold) → edge.IsHistory n hs → (h : Hold) → In h (back hs) → (h.end ≡ 0) ⊎ (h.end ≡ 1)
ends_back {n} hs good h i = end_two h.end (all_in IsEnd (keys hs) (key h) good.ends (in_keys hs h (in_back hs h i)))

-- an attempt of one end that stands before a later hold of that end
last_in : (gs : List Hold) (h : Hold) (b : ℕ) (after : List Hold) → h.end ≡ b → In h.attempt (attempts_of b (keys (gs ++ h ∷ after)))
last_in [] h b after e = let t : (h.end == b) ≡ true = grind (arith, nat_tests, e) in rw t (inl refl)
last_in (x ∷ gs) h b after e = pick (x.end == b) (last_in gs h b after e)
  where
    pick : (t : Bool) → In h.attempt (attempts_of b (keys (gs ++ h ∷ after))) → In h.attempt (if t then x.attempt ∷ attempts_of b (keys (gs ++ h ∷ after)) else attempts_of b (keys (gs ++ h ∷ after)))
    pick true j = inr j
    pick false j = j

rises_in : (gs : List Hold) (h : Hold) (b : ℕ) (after : List Hold) → IsRising (attempts_of b (keys (gs ++ h ∷ after))) → h.end ≡ b → (g : Hold) → In g gs → g.end ≡ b → g.attempt < h.attempt
rises_in [] h b after r e g i f = absurd i
rises_in (k ∷ gs) h b after r e g i f = go (k.end == b) refl r (λ q j. rises_in gs h b after q e g j f)
  where
    go : (t : Bool) → (k.end == b) ≡ t → IsRising (if t then k.attempt ∷ attempts_of b (keys (gs ++ h ∷ after)) else attempts_of b (keys (gs ++ h ∷ after))) → (IsRising (attempts_of b (keys (gs ++ h ∷ after))) → In g gs → g.attempt < h.attempt) → g.attempt < h.attempt
    go true is q rec = ⊎_elim {C = g.attempt < h.attempt} (λ s. let lt : k.attempt < h.attempt = all_in (λ n. k.attempt < n) (attempts_of b (keys (gs ++ h ∷ after))) h.attempt q.0 (last_in gs h b after e) in omega (arith, lt, ap (λ (x : Hold). x.attempt) s)) (λ j. rec q.1 j) i
    go false is q rec = ⊎_elim {C = g.attempt < h.attempt} (λ s. absurd (grind (arith, nat_tests, is, f, ap (λ (x : Hold). x.end) s))) (λ j. rec q j) i

-- a first part of a history, turned round
history_from : {n : ℕ} (gs : List Hold) → Snoc gs → (after : List Hold) → edge.IsHistory n (gs ++ after) → ((b : ℕ) → (b ≡ 0) ⊎ (b ≡ 1) → IsRising (attempts_of b (keys (gs ++ after)))) → IsHistory (back gs)
history_from gs empty after good rise = tt
history_from {n} _ (snoc gs h s) after good rise =
    let whole : (gs ++ h ∷ []) ++ after ≡ gs ++ h ∷ after = append_assoc gs (h ∷ []) after in
    let good' : edge.IsHistory n (gs ++ h ∷ after) = subst (edge.IsHistory n) whole good in
    let rise' : (b : ℕ) → (b ≡ 0) ⊎ (b ≡ 1) → IsRising (attempts_of b (keys (gs ++ h ∷ after))) = λ b i. subst (λ hs. IsRising (attempts_of b (keys hs))) whole (rise b i) in
    let small : (h.end ≡ 0) ⊎ (h.end ≡ 1) = end_two h.end (all_in IsEnd (keys (gs ++ h ∷ after)) (key h) good'.ends (in_keys (gs ++ h ∷ after) h (in_right gs (h ∷ after) h (inl refl)))) in
    subst IsHistory (sym (back_snoc gs h)) (
      record {
        finds = λ k x f. finds gs h after k x good' f ∙ sym (values_back gs s k);
        rising = λ g i same. rises_in gs h h.end after (rise' h.end small) refl g (in_back gs g i) same;
      },
      history_from gs s (h ∷ after) good' rise',
    )

-- a history of an edge, turned round
pub history_back : {n : ℕ} (hs : List Hold) (low high : List Refusal) → IsEdgeHistory n hs low high → IsHistory (back hs)
history_back {n} hs low high k =
    history_from hs (snocs hs) [] (subst (edge.IsHistory n) (sym (append-nil hs)) k.holds)
    (λ b i. subst (λ gs. IsRising (attempts_of b (keys gs))) (sym (append-nil hs))
    (⊎_elim {C = IsRising (attempts_of b (keys hs))} (λ e. subst (λ c. IsRising (attempts_of c (keys hs))) (sym e) k.lower.rise) (λ e. subst (λ c. IsRising (attempts_of c (keys hs))) (sym e) k.higher.rise) i))

-- one end's holds, either way round
pub own_back : (b : ℕ) (hs : List Hold) → own b (back hs) ≡ back (own b hs)
own_back b [] = refl
own_back b (h ∷ hs) = filter-append (λ (g : Hold). g.end == b) (back hs) (h ∷ []) ∙ go (h.end == b) (own_back b hs)
  where
    go : (t : Bool) → own b (back hs) ≡ back (own b hs) → own b (back hs) ++ (if t then h ∷ [] else []) ≡ back (if t then h ∷ own b hs else own b hs)
    go true e = ap (λ r. r ++ h ∷ []) e
    go false e = append-nil (own b (back hs)) ∙ e

-- where a refusal stands among the holds
keys_split : (hs : List Hold) (before : List (ℕ × ℕ)) (k : ℕ × ℕ) (after : List (ℕ × ℕ)) → keys hs ≡ before ++ k ∷ after → (xs : List Hold) × (h : Hold) × (ys : List Hold) × (hs ≡ xs ++ h ∷ ys) × (keys xs ≡ before) × (key h ≡ k) × (keys ys ≡ after)
keys_split [] [] k after e = absurd (cc (e))
keys_split [] (b ∷ before) k after e = absurd (cc (e))
keys_split (h ∷ hs) [] k after e = ([], h, hs, refl, refl, cc (e), cc (e))
keys_split (h ∷ hs) (b ∷ before) k after e =
    let t : keys hs ≡ before ++ k ∷ after = cc (e) in
    let b' : key h ≡ b = cc (e) in
    let r = keys_split hs before k after t in
    (h ∷ r.0, r.1, r.2, ap (λ q. h ∷ q) r.3, (λ i. b' i ∷ r.4 i), r.5, r.6)

not_other : (b : ℕ) → (b ≡ 0) ⊎ (b ≡ 1) → 1 - b ≢ b
not_other b (inl z) e = absurd (omega (arith, z, e))
not_other b (inr z) e = absurd (omega (arith, z, e))

pub placed_back : (hs : List Hold) (b : ℕ) (r : Refusal) → (b ≡ 0) ⊎ (b ≡ 1) → edge.NamesHold (keys hs) b r → IsPlaced (back hs) b r.attempt r.holder
placed_back hs b r small p =
    let q = keys_split hs p.before (1 - b, r.holder) p.after p.splits in
    record {
      newer = back q.2;
      hold = q.1;
      older = back q.0;
      whole = ap back q.3 ∙ (back_append q.0 (q.1 ∷ q.2) ∙ append_assoc (back q.2) (q.1 ∷ []) (back q.0));
      other = λ e. not_other b small (ap (λ (k : ℕ × ℕ). k.0) (sym q.5) ∙ e);
      names = ap (λ (k : ℕ × ℕ). k.1) q.5;
      after = λ g i same. all_in (λ (k : ℕ × ℕ). k.0 ≡ b → k.1 < r.attempt) p.before (key g) p.earlier (subst (In (key g)) q.4 (in_keys q.0 g (in_back q.0 g i))) same;
      before = λ g i same. all_in (λ (k : ℕ × ℕ). k.0 ≡ b → r.attempt < k.1) p.after (key g) p.later (subst (In (key g)) q.6 (in_keys q.2 g (in_back q.2 g i))) same;
    }
