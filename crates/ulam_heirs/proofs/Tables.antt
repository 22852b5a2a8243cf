-- Maps as tables, and changes that are taken back.
use Rattle.std.proofs.Common.{◌≡◌, ℕ, zero, suc, ◌+◌, ◌-◌, ◌<◌, ◌≤◌, ◌⊎◌, inl, inr, refl, sym, ap, ◌∙◌, List, [], ◌∷◌, ◌++◌, length, take, drop, Bool, true, false, cond, Option, Some, None, Bor, option_map, append_assoc, arith}
use Rattle.std.specs.Prelude.{bytes_eq}
use Rattle.std.specs.Map.{lookup}
use Rattle.std.specs.Option.{option_and_then}
use Rattle.std.proofs.lemmas.Bool.{true≢false, false≢true}
use Rattle.indexmap.specs.IndexMap.{insert_entry}
use Rattle.std.proofs.lemmas.List.{take_all, drop_all, append-nil, length-take-le}
use Rattle.ulam_tree.specs.Raw.{Member}
use Rattle.ulam_heirs.specs.declared.opened.Latest.{Latest as CodeLatest}
use Rattle.ulam_heirs.specs.Opened.{Latest, Table, Change, State, name_of, put, next, with_member, undo_all, back, LeadsTo}
use Rattle.ulam_heirs.specs.OpenedViews.{latest_of, table}
use Rattle.ulam_heirs.proofs.Firsts.{same_text, same_turned}

abbrev pub Entries : Type 0
Entries = List (Bor (List ℕ) × Option CodeLatest)

abbrev pub same_key : Bor (List ℕ) → Bor (List ℕ) → Bool
same_key a b = bytes_eq a.now b.now

abbrev pub found : {V : Type 0} → List ℕ → List (Bor (List ℕ) × V) → Option V
found name es = lookup (λ (j : Bor (List ℕ)). bytes_eq name j.now) es

found_here : {V : Type 0} (b c : Bool) (v : V) (o : Option V) (x : V) → b ≡ c → cond b (Some v) o ≡ cond c (Some v) (cond b (Some x) o)
found_here true true v o x e = refl
found_here true false v o x e = absurd (true≢false e)
found_here false true v o x e = absurd (false≢true e)
found_here false false v o x e = refl

found_there : {V : Type 0} (b c : Bool) (v : V) (o : Option V) (x : V) → (b ≡ true → c ≡ true → ⊥) → cond b (Some x) (cond c (Some v) o) ≡ cond c (Some v) (cond b (Some x) o)
found_there true true v o x h = absurd (h refl refl)
found_there true false v o x h = refl
found_there false true v o x h = refl
found_there false false v o x h = refl

-- a map in which a name has something else
pub found_put : {V : Type 0} (es : List (Bor (List ℕ) × V)) (k : Bor (List ℕ)) (v : V) (name : List ℕ) → found name (insert_entry same_key es k v) ≡ cond (bytes_eq k.now name) (Some v) (found name es)
found_put [] k v name = ap (λ b. cond b (Some v) None) (same_turned name k.now)
found_put (e ∷ es) k v name = go (bytes_eq k.now e.0.now) refl (found_put es k v name)
  where
    go : (b : Bool) → bytes_eq k.now e.0.now ≡ b → found name (insert_entry same_key es k v) ≡ cond (bytes_eq k.now name) (Some v) (found name es) →
        found name (cond b ((e.0, v) ∷ es) (e ∷ insert_entry same_key es k v)) ≡ cond (bytes_eq k.now name) (Some v) (cond (bytes_eq name e.0.now) (Some e.1) (found name es))
    go true same h = found_here (bytes_eq name e.0.now) (bytes_eq k.now name) v (found name es) e.1 (ap (bytes_eq name) (sym (same_text k.now e.0.now same)) ∙ same_turned name k.now)
    go false other h =
        ap (λ o. cond (bytes_eq name e.0.now) (Some e.1) o) h
        ∙ found_there (bytes_eq name e.0.now) (bytes_eq k.now name) v (found name es) e.1 (λ p q. true≢false (sym (ap (λ n. bytes_eq n e.0.now) (same_text k.now name q) ∙ p) ∙ other))

put_by : (b : Bool) (v : Option CodeLatest) (o : Option (Option CodeLatest)) → option_map latest_of (option_and_then (λ (x : Option CodeLatest). x) (cond b (Some v) o)) ≡ cond b (option_map latest_of v) (option_map latest_of (option_and_then (λ (x : Option CodeLatest). x) o))
put_by true v o = refl
put_by false v o = refl

pub put_is : (old new : Entries) (k : Bor (List ℕ)) (v : Option CodeLatest) → new ≡ insert_entry same_key old k v → table new ≡ put (table old) k.now (option_map latest_of v)
put_is old new k v e = ap table e ∙ (λ i name. (ap (λ o. option_map latest_of (option_and_then (λ (x : Option CodeLatest). x) o)) (found_put old k v name) ∙ put_by (bytes_eq k.now name) v (found name old)) i)

pub undone_two : (t : Table) (xs ys : List Change) → undo_all t (xs ++ ys) ≡ undo_all (undo_all t ys) xs
undone_two t [] ys = refl
undone_two t (x ∷ xs) ys = ap (λ (u : Table). put u x.name x.before) (undone_two t xs ys)

drop_two : {A : Type 0} (m n : ℕ) (xs : List A) → m ≤ n → drop m (take n xs) ++ drop n xs ≡ drop m xs
drop_two zero zero xs le = refl
drop_two zero (suc n) [] le = refl
drop_two zero (suc n) (x ∷ xs) le = ap (λ ys. x ∷ ys) (drop_two zero n xs (omega arith))
drop_two (suc m) zero xs le = absurd (omega (arith, le))
drop_two (suc m) (suc n) [] le = refl
drop_two (suc m) (suc n) (x ∷ xs) le = drop_two m n xs (omega (arith, le))

take_two : {A : Type 0} (m n : ℕ) (xs : List A) → m ≤ n → take m (take n xs) ≡ take m xs
take_two zero n xs le = refl
take_two (suc m) zero xs le = absurd (omega (arith, le))
take_two (suc m) (suc n) [] le = refl
take_two (suc m) (suc n) (x ∷ xs) le = ap (λ ys. x ∷ ys) (take_two m n xs (omega (arith, le)))

-- back, and then further
pub back_two : (s : State) (m n : ℕ) → m ≤ n → back (back s n) m ≡ back s m
back_two s m n le = λ i. record {
  table = (sym (undone_two s.table (drop m (take n s.changes)) (drop n s.changes)) ∙ ap (undo_all s.table) (drop_two m n s.changes le)) i;
  changes = take_two m n s.changes le i;
}

-- no change is taken back
pub back_none : (s : State) (n : ℕ) → length s.changes ≤ n → back s n ≡ s
back_none s n le = λ i. record { table = ap (undo_all s.table) (drop_all n s.changes le) i; changes = take_all n s.changes le i }

-- a name gets back what it had
put_back : (t : Table) (name : List ℕ) (l : Option Latest) → put (put t name l) name (t name) ≡ t
put_back t name l = λ i other. go other (bytes_eq name other) refl i
  where
    go : (other : List ℕ) (b : Bool) → bytes_eq name other ≡ b → cond b (t name) (cond b l (t other)) ≡ t other
    go other true e = ap t (same_text name other e)
    go other false e = refl

pub leads_none : (s t : State) → t ≡ s → LeadsTo s t
leads_none s t e = ([], ap (λ (u : State). u.changes) e ∙ sym (append-nil s.changes), ap (λ (u : State). u.table) e)

pub leads_on : (s t u : State) → LeadsTo s t → LeadsTo t u → LeadsTo s u
leads_on s t u a b = (a.0 ++ b.0, b.1 ∙ ap (λ cs. cs ++ b.0) a.1 ∙ append_assoc s.changes a.0 b.0, undone_two u.table a.0 b.0 ∙ ap (λ (t : Table). undo_all t a.0) b.2 ∙ a.2)

-- one change leads on
pub leads_one : (s t : State) (name : List ℕ) (l : Option Latest) → t.table ≡ put s.table name l → t.changes ≡ s.changes ++ record { name = name; before = s.table name } ∷ [] → LeadsTo s t
leads_one s t name l e f = (record { name = name; before = s.table name } ∷ [], f, ap (λ (u : Table). put u name (s.table name)) e ∙ put_back s.table name l)

drop_front : {A : Type 0} (ys : List A) (y : A) → drop (length ys) (ys ++ y ∷ []) ≡ y ∷ []
drop_front [] y = refl
drop_front (x ∷ ys) y = drop_front ys y

take_front : {A : Type 0} (ys : List A) (y : A) → take (length ys) (ys ++ y ∷ []) ≡ ys
take_front [] y = refl
take_front (x ∷ ys) y = ap (λ zs. x ∷ zs) (take_front ys y)

-- the last change is taken back
pub back_one : (s t : State) (ys : List Change) (c : Change) (n : ℕ) → s.changes ≡ ys ++ c ∷ [] → n ≡ length ys → t.changes ≡ ys → t.table ≡ put s.table c.name c.before → t ≡ back s n
back_one s t ys c n e long f g = λ i. record {
  table = (g ∙ sym (ap (undo_all s.table) (ap (λ m. drop m s.changes) long ∙ ap (drop (length ys)) e ∙ drop_front ys c))) i;
  changes = (f ∙ sym (ap (λ m. take m s.changes) long ∙ ap (take (length ys)) e ∙ take_front ys c)) i;
}

-- one turn more
pub back_step : (s t u : State) (len turn end n : ℕ) → length s.changes ≡ len → t ≡ back s (len - (turn - end)) → n ≡ length t.changes → u ≡ back t (n - 1) → end ≤ turn → turn < len → u ≡ back s (len - (turn + 1 - end))
back_step s t u len turn end n long is count on le lt =
    let k : ℕ = len - (turn - end) in
    let few : k ≤ length s.changes = omega (arith, long) in
    let left : n ≡ k = count ∙ ap (λ (x : State). length x.changes) is ∙ length-take-le k s.changes few in
    let next : k - 1 ≡ len - (turn + 1 - end) = omega (arith, le, lt) in
    on ∙ ap (λ m. back t (m - 1)) left ∙ ap (λ (x : State). back x (k - 1)) is ∙ back_two s (k - 1) k (omega arith) ∙ ap (back s) next

pub back_end : (s t : State) (len turn end : ℕ) → length s.changes ≡ len → t ≡ back s (len - (turn - end)) → len ≤ turn → (turn ≤ len) ⊎ (turn ≡ end) → end ≤ turn → t ≡ back s end
back_end s t len turn end long is past (inl le) low = let same : len - (turn - end) ≡ end = omega (arith, past, le, low) in is ∙ ap (back s) same
back_end s t len turn end long is past (inr e) low =
    let all : len - (turn - end) ≡ len = omega (arith, e) in
    is ∙ ap (back s) all ∙ back_none s len (omega (arith, long)) ∙ sym (back_none s end (omega (arith, long, past, e)))

pub add_is : (t u : Table) (name : List ℕ) (m : Member) (before : Option Latest) (l : Latest) → u ≡ put t name (Some l) → name ≡ name_of m → l ≡ next before m → before ≡ t name → u ≡ with_member t m
add_is t u name m before l e h f g = e ∙ ap (λ (x : Latest). put t name (Some x)) (f ∙ ap (λ (b : Option Latest). next b m) g) ∙ ap (λ n. put t n (Some (next (t n) m))) h
