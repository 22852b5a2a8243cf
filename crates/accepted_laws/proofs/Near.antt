-- In a flat class that has each name once, a virtual name stands for the nearest declaration.
use Rattle.std.proofs.Common.{◌≡◌, inl, inr, ⊎_elim, ℕ, List, [], ◌∷◌, ◌++◌, Bool, true, false, ◌&&◌, ◌||◌, cond, Option, Some, None, refl, sym, ap, ◌∙◌, subst}
use Rattle.std.specs.Prelude.{not}
use Rattle.std.specs.List.{filter, list_any}
use Rattle.std.specs.Option.{option_or}
use Rattle.std.proofs.lemmas.Bool.{false≢true, and_parts}
use Rattle.std.proofs.lemmas.Slice.Eq.{bytes_eq-Decides}
use Rattle.list_laws.proofs.Members.{In, in_filter, in_left, in_right}
use Rattle.ulam_tree.specs.Raw.{Member}
use Rattle.ulam_heirs.specs.Lines.{Heir}
use Rattle.ulam_heirs.specs.Flat.{member_word, is_function, is_named, declares, says_virtual, is_virtual_name, is_virtual, is_left_out, own_members, flat_behind, flat, first_named, nearest}
use Rattle.ulam_heirs.proofs.Spanning.{says_declares}
use Rattle.accepted_laws.proofs.Once.{AtMostOnce}

any_in : (p : Member → Bool) (ms : List Member) → list_any p ms ≡ true → (m : Member) × In m ms × (p m ≡ true)
any_in p [] e = absurd (false≢true e)
any_in p (u ∷ ms) e = go (p u) refl e (any_in p ms)
  where
    go : (b : Bool) → p u ≡ b → (b || list_any p ms) ≡ true → (list_any p ms ≡ true → (m : Member) × In m ms × (p m ≡ true)) → (m : Member) × In m (u ∷ ms) × (p m ≡ true)
    go true is h rest = (u, inl refl, is)
    go false is h rest = let r = rest h in (r.0, inr r.1, r.2)

-- What stays

-- a member of a name that no later class of the line declares as a function stays
stays : (name : List ℕ) (before : List Heir) (h : Heir) (later : List Heir) (m : Member) → In m h.class.members → is_named name m ≡ true → list_any (declares name) later ≡ false → In m (own_members before h later)
stays name before h later m i named none = in_filter (λ (n : Member). not (is_left_out before h later n)) h.class.members m i (ap not out)
  where
    and_no : (a b : Bool) → b ≡ false → (a && b) ≡ false
    and_no true b e = e
    and_no false b e = refl

    out : is_left_out before h later m ≡ false
    out = and_no (is_virtual before h m) _ (ap (λ n. list_any (declares n) later) ((bytes_eq-Decides (member_word m).name name).0 named) ∙ none)

-- a function of a name in a line, and one in the flat class
abbrev HasFunction : List ℕ → List Heir → List Heir → Type 0
HasFunction name before hs = (m : Member) × In m (flat_behind before hs) × ((is_function m && is_named name m) ≡ true)

function_stays : (name : List ℕ) (before hs : List Heir) → list_any (declares name) hs ≡ true → HasFunction name before hs
function_stays name before [] e = absurd (false≢true e)
function_stays name before (h ∷ later) e = go (list_any (declares name) later) refl (declares name h) refl e (function_stays name (before ++ h ∷ []) later)
  where
    go : (l : Bool) → list_any (declares name) later ≡ l → (d : Bool) → declares name h ≡ d → (d || l) ≡ true → (list_any (declares name) later ≡ true → HasFunction name (before ++ h ∷ []) later) → HasFunction name before (h ∷ later)
    go true is d own f rest = let r = rest is in (r.0, in_right (own_members before h later) (flat_behind (before ++ h ∷ []) later) r.0 r.1, r.2)
    go false is false own f rest = absurd (false≢true f)
    go false is true own f rest =
        let r = any_in (λ (m : Member). is_function m && is_named name m) h.class.members own in
        let named = (and_parts (is_function r.0) (is_named name r.0) r.2).1 in
        (r.0, in_left (own_members before h later) (flat_behind (before ++ h ∷ []) later) r.0 (stays name before h later r.0 r.1 named is), r.2)

first_in : (name : List ℕ) (ms : List Member) (m : Member) → first_named name ms ≡ Some m → In m ms × (is_named name m ≡ true)
first_in name [] m e = cc
first_in name (n ∷ ms) m e = go (is_named name n) refl e (first_in name ms m)
  where
    go : (b : Bool) → is_named name n ≡ b → cond b (Some n) (first_named name ms) ≡ Some m → (first_named name ms ≡ Some m → In m ms × (is_named name m ≡ true)) → In m (n ∷ ms) × (is_named name m ≡ true)
    go true is h rest = let same : n ≡ m = cc in (inl (sym same), subst (λ (x : Member). is_named name x ≡ true) same is)
    go false is h rest = let r = rest h in (inr r.0, r.1)

first_none : (name : List ℕ) (ms : List Member) → first_named name ms ≡ None → list_any (λ (m : Member). is_function m && is_named name m) ms ≡ false
first_none name [] e = refl
first_none name (n ∷ ms) e = go (is_named name n) refl (is_function n) refl e (first_none name ms)
  where
    go : (b : Bool) → is_named name n ≡ b → (f : Bool) → is_function n ≡ f → cond b (Some n) (first_named name ms) ≡ None → (first_named name ms ≡ None → list_any (λ (m : Member). is_function m && is_named name m) ms ≡ false) →
        ((f && b) || list_any (λ (m : Member). is_function m && is_named name m) ms) ≡ false
    go true is f own h rest = cc
    go false is true own h rest = rest h
    go false is false own h rest = rest h

either_none : (a b : Option Member) → option_or a b ≡ None → (a ≡ None) × (b ≡ None)
either_none None b e = (refl, e)
either_none (Some m) b e = cc

none_declares : (name : List ℕ) (hs : List Heir) → nearest hs name ≡ None → list_any (declares name) hs ≡ false
none_declares name [] e = refl
none_declares name (h ∷ later) e =
    let parts = either_none (nearest later name) (first_named name h.class.members) e in
    ap (λ b. b || list_any (declares name) later) (first_none name h.class.members parts.1) ∙ none_declares name later parts.0

-- the nearest declaration stays
nearest_in : (name : List ℕ) (before hs : List Heir) (m : Member) → nearest hs name ≡ Some m → In m (flat_behind before hs) × (is_named name m ≡ true)
nearest_in name before [] m e = cc
nearest_in name before (h ∷ later) m e = go (nearest later name) refl e (nearest_in name (before ++ h ∷ []) later m)
  where
    go : (o : Option Member) → nearest later name ≡ o → option_or o (first_named name h.class.members) ≡ Some m → (nearest later name ≡ Some m → In m (flat_behind (before ++ h ∷ []) later) × (is_named name m ≡ true)) →
        In m (flat_behind before (h ∷ later)) × (is_named name m ≡ true)
    go (Some n) is f rest = let r = rest (is ∙ f) in (in_right (own_members before h later) (flat_behind (before ++ h ∷ []) later) m r.0, r.1)
    go None is f rest =
        let r = first_in name h.class.members m f in
        (in_left (own_members before h later) (flat_behind (before ++ h ∷ []) later) m (stays name before h later m r.0 r.1 (none_declares name later is)), r.1)

-- Virtual names

not_virtual : (name : List ℕ) (hs : List Heir) → list_any (declares name) hs ≡ false → is_virtual_name hs name ≡ false
not_virtual name [] e = e
not_virtual name (h ∷ hs) e = go (says_virtual name h) refl (declares name h) refl e (not_virtual name hs)
  where
    go : (v : Bool) → says_virtual name h ≡ v → (d : Bool) → declares name h ≡ d → (d || list_any (declares name) hs) ≡ false → (list_any (declares name) hs ≡ false → is_virtual_name hs name ≡ false) → (v || is_virtual_name hs name) ≡ false
    go v is true own f rest = absurd (false≢true (sym f))
    go true is false own f rest = absurd (false≢true (sym own ∙ says_declares name h h.class.members is))
    go false is false own f rest = rest f

-- Together

-- what stands in a list that has one of a name
only_one : (name : List ℕ) (ms : List Member) (a b : Member) → AtMostOnce name ms → In a ms → is_named name a ≡ true → In b ms → is_named name b ≡ true → (a ≡ b) × (filter (is_named name) ms ≡ a ∷ [])
only_one name ms a b once i named j also = elim once [ inl none ↦ absurd (subst (In a) none (in_filter (is_named name) ms a i named)) | inr one ↦ by one.0 one.1 ]
  where
    alone : (x y : Member) → In x (y ∷ []) → x ≡ y
    alone x y k = ⊎_elim (λ e. e) (λ f. absurd f) k

    by : (m : Member) → filter (is_named name) ms ≡ m ∷ [] → (a ≡ b) × (filter (is_named name) ms ≡ a ∷ [])
    by m e =
        let p = alone a m (subst (In a) e (in_filter (is_named name) ms a i named)) in
        let q = alone b m (subst (In b) e (in_filter (is_named name) ms b j also)) in
        (p ∙ sym q, e ∙ ap (λ n. n ∷ []) (sym p))

pub record NearStands (line : List Heir) (name : List ℕ) : Type 0 where
  pub declaration : Member
  pub near : nearest line name ≡ Some declaration
  pub callable : is_function declaration ≡ true
  pub once : filter (is_named name) (flat line) ≡ declaration ∷ []

-- a virtual name is declared as a function
is_declared : (line : List Heir) (name : List ℕ) → is_virtual_name line name ≡ true → (b : Bool) → list_any (declares name) line ≡ b → b ≡ true
is_declared line name virtual true e = refl
is_declared line name virtual false e = absurd (false≢true (sym (not_virtual name line e) ∙ virtual))

pub near_stands : (line : List Heir) (name : List ℕ) → AtMostOnce name (flat line) → is_virtual_name line name ≡ true → NearStands line name
near_stands line name once virtual = go (nearest line name) refl (is_declared line name virtual (list_any (declares name) line) refl)
  where
    go : (o : Option Member) → nearest line name ≡ o → list_any (declares name) line ≡ true → NearStands line name
    go None is declared = absurd (false≢true (sym (none_declares name line is) ∙ declared))
    go (Some m) is declared =
        let here = nearest_in name [] line m is in
        let some = function_stays name [] line declared in
        let parts = and_parts (is_function some.0) (is_named name some.0) some.2 in
        let only = only_one name (flat line) m some.0 once here.0 here.1 some.1 parts.1 in
        record { declaration = m; near = is; callable = ap is_function only.0 ∙ parts.0; once = only.1 }
