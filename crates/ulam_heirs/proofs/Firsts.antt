-- One more name in an index of the names of classes.
use Rattle.std.proofs.Common.{◌≡◌, ℕ, suc, ◌+◌, refl, sym, ap, ◌∙◌, List, [], ◌∷◌, ◌++◌, length, take, Bool, true, false, cond, Option, Some, None, is_some, Bor, arith}
use Rattle.std.specs.Prelude.{bytes_eq}
use Rattle.std.specs.Option.{option_or}
use Rattle.std.proofs.lemmas.Bool.{true≢false, false≢true}
use Rattle.std.proofs.lemmas.Slice.Eq.{bytes_eq-Decides}
use Rattle.indexmap.specs.IndexMap.{IndexMap, insert_entry}
use Rattle.indexmap.proofs.CallerLemmas.{insert_entry-new}
use Rattle.ulam_heirs.specs.declared.heir.Heir.{Heir as CodeHeir}
use Rattle.ulam_heirs.specs.Lines.{Heir, class_named}
use Rattle.ulam_heirs.specs.Firsts.{AreFirst, number_by}
use Rattle.ulam_heirs.specs.Views.{heir_of, heirs_of}

pub same_text : (a b : List ℕ) → bytes_eq a b ≡ true → a ≡ b
same_text a b e = (bytes_eq-Decides a b).0 e

pub same_turned : (a b : List ℕ) → bytes_eq a b ≡ bytes_eq b a
same_turned a b = by (bytes_eq a b) refl (bytes_eq b a) refl
  where
    by : (c : Bool) → bytes_eq a b ≡ c → (d : Bool) → bytes_eq b a ≡ d → c ≡ d
    by true p true q = refl
    by true p false q = sym (sym q ∙ (bytes_eq-Decides b a).1 (sym (same_text a b p)))
    by false p true q = sym p ∙ (bytes_eq-Decides a b).1 (sym (same_text b a q))
    by false p false q = refl

named_end : (k : ℕ) (name : List ℕ) (hs : List Heir) (h : Heir) → class_named k name (hs ++ h ∷ []) ≡ option_or (class_named k name hs) (cond (bytes_eq h.class.word.name name) (Some (k + length hs)) None)
named_end k name [] h = let same : k ≡ k + 0 = omega arith in ap (λ n. cond (bytes_eq h.class.word.name name) (Some n) None) same
named_end k name (x ∷ hs) h = go (bytes_eq x.class.word.name name) (named_end (k + 1) name hs h)
  where
    after : k + 1 + length hs ≡ k + suc (length hs)
    after = omega arith

    go : (b : Bool) → class_named (k + 1) name (hs ++ h ∷ []) ≡ option_or (class_named (k + 1) name hs) (cond (bytes_eq h.class.word.name name) (Some (k + 1 + length hs)) None) →
        cond b (Some k) (class_named (k + 1) name (hs ++ h ∷ [])) ≡ option_or (cond b (Some k) (class_named (k + 1) name hs)) (cond (bytes_eq h.class.word.name name) (Some (k + suc (length hs))) None)
    go true e = refl
    go false e = e ∙ ap (λ n. option_or (class_named (k + 1) name hs) (cond (bytes_eq h.class.word.name name) (Some n) None)) after

number_end : (name : List ℕ) (es : List (Bor (List ℕ) × ℕ)) (k : Bor (List ℕ)) (v : ℕ) → number_by name (es ++ (k, v) ∷ []) ≡ option_or (number_by name es) (cond (bytes_eq name k.now) (Some v) None)
number_end name [] k v = refl
number_end name (e ∷ es) k v = go (bytes_eq name e.0.now) (number_end name es k v)
  where
    go : (b : Bool) → number_by name (es ++ (k, v) ∷ []) ≡ option_or (number_by name es) (cond (bytes_eq name k.now) (Some v) None) →
        cond b (Some e.1) (number_by name (es ++ (k, v) ∷ [])) ≡ option_or (cond b (Some e.1) (number_by name es)) (cond (bytes_eq name k.now) (Some v) None)
    go true h = refl
    go false h = h

none_is : (o : Option ℕ) → is_some o ≡ false → o ≡ None
none_is None e = refl
none_is (Some x) e = absurd (true≢false e)

abbrev same_key : Bor (List ℕ) → Bor (List ℕ) → Bool
same_key a b = bytes_eq a.now b.now

-- a new name comes last
pub name_added : {S : Type 0} (m : IndexMap (Bor (List ℕ)) ℕ S) (k : Bor (List ℕ)) (v : ℕ) (es : List (Bor (List ℕ) × ℕ)) → is_some (number_by k.now m.entries) ≡ false → es ≡ insert_entry same_key m.entries k v → (name : List ℕ) →
    number_by name es ≡ option_or (number_by name m.entries) (cond (bytes_eq k.now name) (Some v) None)
name_added m k v es new e name =
    ap (number_by name) (e ∙ insert_entry-new same_key m k v (none_is _ new))
    ∙ number_end name m.entries k v
    ∙ ap (λ b. option_or (number_by name m.entries) (cond b (Some v) None)) (same_turned name k.now)

-- a name that is there keeps its number
pub name_there : (es : List (Bor (List ℕ) × ℕ)) (k name : List ℕ) (v : ℕ) → is_some (number_by k es) ≡ true → number_by name es ≡ option_or (number_by name es) (cond (bytes_eq k name) (Some v) None)
name_there es k name v there = go (bytes_eq k name) refl
  where
    first : (o : Option ℕ) → is_some o ≡ true → o ≡ option_or o (Some v)
    first None e = absurd (false≢true e)
    first (Some x) e = refl

    last : (o : Option ℕ) → o ≡ option_or o None
    last None = refl
    last (Some x) = refl

    go : (b : Bool) → bytes_eq k name ≡ b → number_by name es ≡ option_or (number_by name es) (cond b (Some v) None)
    go true e = first (number_by name es) (ap (λ n. is_some (number_by n es)) (sym (same_text k name e)) ∙ there)
    go false e = last (number_by name es)

pub first_on : (xs : List CodeHeir) (i : ℕ) (x : CodeHeir) (es more : List (Bor (List ℕ) × ℕ)) → heirs_of (take (i + 1) xs) ≡ heirs_of (take i xs) ++ (heir_of x ∷ []) → length (heirs_of (take i xs)) ≡ i →
    ((name : List ℕ) → number_by name more ≡ option_or (number_by name es) (cond (bytes_eq (heir_of x).class.word.name name) (Some i) None)) → AreFirst es (heirs_of (take i xs)) → AreFirst more (heirs_of (take (i + 1) xs))
first_on xs i x es more on long step are name =
    let from : 0 + length (heirs_of (take i xs)) ≡ i = omega (arith, long) in
    step name
    ∙ ap (λ o. option_or o (cond (bytes_eq (heir_of x).class.word.name name) (Some i) None)) (are name)
    ∙ ap (λ n. option_or (class_named 0 name (heirs_of (take i xs))) (cond (bytes_eq (heir_of x).class.word.name name) (Some n) None)) (sym from)
    ∙ sym (named_end 0 name (heirs_of (take i xs)) (heir_of x))
    ∙ sym (ap (class_named 0 name) on)
