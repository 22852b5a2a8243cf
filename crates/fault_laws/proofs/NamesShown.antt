-- What is in sight, by the walk's entries and by the text.
use Rattle.std.proofs.Common.{◌≡◌, inl, inr, ⊎_elim, ℕ, refl, sym, ap, ◌∙◌, subst, List, [], ◌∷◌, ◌++◌, length, map, reverse, drop, Option, Some, None, is_some, Bool, true, false, not, ◌&&◌, cond, append_assoc, append-nil}
use Rattle.std.specs.Prelude.{Contains, find, option_map, bytes_eq, filter}
use Rattle.std.specs.List.{list_any}
use Rattle.std.specs.Option.{option_and_then, option_map_or, option_or}
use Rattle.std.proofs.lemmas.Bool.{false≢true}
use Rattle.std.proofs.lemmas.List.{reverse-append}
use Rattle.list_laws.proofs.Tests.{both, together}
use Rattle.list_laws.proofs.Members.{In, in_map, map_in, in_filter, filter_in, contains_in, in_contains}
use Rattle.ulam_tree.specs.declared.resolved.Ty.{Ty}
use Rattle.ulam_tree.specs.declared.resolved.Ty.TheVariants as y
use Rattle.ulam_tree.specs.declared.resolved.Step.{Step}
use Rattle.ulam_tree.specs.declared.resolved.Step.TheVariants as s
use Rattle.ulam_names.specs.Scopes.{Text, Head, Context, Entry, Scope, is_named, is_local, last_named, slot_named, first_step, first_name, in_own_class, next_name, inner_scope, with_entry}
use Rattle.fault_laws.specs.NamesText.{Lacks}
use Rattle.fault_laws.specs.NamesBodies.{Local, Sight, in_sight, local_names, inner, start_type}
use Rattle.fault_laws.proofs.BasesLines.{any_in}
use Rattle.fault_laws.proofs.NamesLists.{found_in, none_found, in_reverse, reverse_in, same_text, own_text}

-- the same names behind a dot
abbrev pub SameInside : List Head → Ty → Ty → Type 0
SameInside heads a b = (n : Text) → next_name heads a n ≡ next_name heads b n

module _ (c : Context) where
  abbrev pub IsSame : Entry → Local → Type 0
  IsSame e l = (e.name ≡ l.name) × (is_some e.slot ≡ not l.shown) × SameInside c.heads e.inside l.inside

  abbrev pub AreSame : List Entry → List Local → Type 0
  AreSame [] [] = Unit {0}
  AreSame [] (l ∷ ls) = ⊥
  AreSame (e ∷ es) [] = ⊥
  AreSame (e ∷ es) (l ∷ ls) = IsSame e l × AreSame es ls

  pub same_both : (es fs : List Entry) (ls ks : List Local) → AreSame es ls → AreSame fs ks → AreSame (es ++ fs) (ls ++ ks)
  same_both [] fs [] ks h k = k
  same_both [] fs (l ∷ ls) ks h k = absurd h
  same_both (e ∷ es) fs [] ks h k = absurd h
  same_both (e ∷ es) fs (l ∷ ls) ks h k = (h.0, same_both es fs ls ks h.1 k)

  same_reverse : (es : List Entry) (ls : List Local) → AreSame es ls → AreSame (reverse es) (reverse ls)
  same_reverse [] [] h = h
  same_reverse [] (l ∷ ls) h = absurd h
  same_reverse (e ∷ es) [] h = absurd h
  same_reverse (e ∷ es) (l ∷ ls) h =
      subst (λ (fs : List Entry). AreSame fs (reverse (l ∷ ls))) (sym (reverse-append (e ∷ []) es))
      (subst (λ (ks : List Local). AreSame (reverse es ++ reverse (e ∷ [])) ks) (sym (reverse-append (l ∷ []) ls))
      (same_both (reverse es) (e ∷ []) (reverse ls) (l ∷ []) (same_reverse es ls h.1) (h.0, tt)))

  -- an entry for each local, and a local for each entry
  of_local : (es : List Entry) (ls : List Local) (l : Local) → AreSame es ls → In l ls → (e : Entry) × In e es × IsSame e l
  of_local [] [] l h i = absurd i
  of_local [] (k ∷ ls) l h i = absurd h
  of_local (e ∷ es) [] l h i = absurd h
  of_local (e ∷ es) (k ∷ ls) l h i =
      ⊎_elim {C = (f : Entry) × In f (e ∷ es) × IsSame f l} (λ (same : l ≡ k). (e, inl refl, subst (IsSame e) (sym same) h.0))
      (λ j. let r = of_local es ls l h.1 j in (r.0, inr r.1, r.2)) i

  of_entry : (es : List Entry) (ls : List Local) (e : Entry) → AreSame es ls → In e es → (l : Local) × In l ls × IsSame e l
  of_entry [] [] e h i = absurd i
  of_entry [] (k ∷ ls) e h i = absurd h
  of_entry (f ∷ es) [] e h i = absurd h
  of_entry (f ∷ es) (k ∷ ls) e h i =
      ⊎_elim {C = (l : Local) × In l (k ∷ ls) × IsSame e l} (λ (same : e ≡ f). (k, inl refl, subst (λ (g : Entry). IsSame g k) (sym same) h.0))
      (λ j. let r = of_entry es ls e h.1 j in (r.0, inr r.1, r.2)) i

  -- the last of a name

  abbrev IsFound : Option Entry → Option Local → Type 0
  IsFound None None = Unit {0}
  IsFound None (Some l) = ⊥
  IsFound (Some e) None = ⊥
  IsFound (Some e) (Some l) = IsSame e l

  found_same : (n : Text) (es : List Entry) (ls : List Local) → AreSame es ls → IsFound (find (is_named n) es) (find (λ (l : Local). bytes_eq n l.name) ls)
  found_same n [] [] h = tt
  found_same n [] (l ∷ ls) h = absurd h
  found_same n (e ∷ es) [] h = absurd h
  found_same n (e ∷ es) (l ∷ ls) h = go (bytes_eq n e.name) (bytes_eq n l.name) (ap (bytes_eq n) h.0.0) (found_same n es ls h.1)
    where
      go : (a b : Bool) → a ≡ b → IsFound (find (is_named n) es) (find (λ (l : Local). bytes_eq n l.name) ls) →
          IsFound (cond a (Some e) (find (is_named n) es)) (cond b (Some l) (find (λ (l : Local). bytes_eq n l.name) ls))
      go true true p rest = h.0
      go false false p rest = rest
      go true false p rest = absurd (false≢true (sym p))
      go false true p rest = absurd (false≢true p)

  pub last_same : (n : Text) (es : List Entry) (ls : List Local) → AreSame es ls → IsFound (last_named n es) (find (λ (l : Local). bytes_eq n l.name) (reverse ls))
  last_same n es ls h = found_same n (reverse es) (reverse ls) (same_reverse es ls h)

  -- Names of locals

  slot_none : (n : Text) (o : Option Entry) → ((e : Entry) → o ≡ Some e → is_some e.slot ≡ true) → option_and_then (λ (e : Entry). e.slot) o ≡ None → o ≡ None
  slot_none n None some h = refl
  slot_none n (Some e) some h = absurd (false≢true (sym (ap is_some h) ∙ some e refl))

  local_passes : (n : Text) (e : Entry) → is_local n e ≡ true → (n ≡ e.name) × (is_some e.slot ≡ true)
  local_passes n e h = let r = both (bytes_eq n e.name) (is_some e.slot) h in (same_text n e.name r.0, r.1)

  pub no_local : (n : Text) (es : List Entry) (ls : List Local) → AreSame es ls → slot_named n es ≡ None → Lacks (local_names ls) n
  no_local n es ls h none there =
      let r = map_in (λ (l : Local). l.name) (filter (λ (l : Local). not l.shown) ls) n (contains_in (local_names ls) n there) in
      let i = filter_in (λ (l : Local). not l.shown) ls r.0 r.1 in
      let e = of_local es ls r.0 h i.0 in
      let nothing = slot_none n (find (is_local n) (reverse es)) (λ f at. (local_passes n f (found_in (is_local n) (reverse es) f at).1).1) none in
      let named : bytes_eq n e.0.name ≡ true = ap (λ (m : Text). bytes_eq m e.0.name) (r.2 ∙ sym e.2.0) ∙ own_text e.0.name in
      let passes : is_local n e.0 ≡ true = together (bytes_eq n e.0.name) (is_some e.0.slot) named (e.2.1 ∙ i.1) in
      false≢true (sym (none_found (is_local n) (reverse es) e.0 nothing (in_reverse es e.0 e.1)) ∙ passes)

  pub some_local : (n : Text) (es : List Entry) (ls : List Local) → AreSame es ls → is_some (slot_named n es) ≡ true → Contains (local_names ls) n
  some_local n es ls h some = go (find (is_local n) (reverse es)) refl some
    where
      go : (o : Option Entry) → find (is_local n) (reverse es) ≡ o → is_some (option_and_then (λ (e : Entry). e.slot) o) ≡ true → Contains (local_names ls) n
      go None is e = absurd (false≢true e)
      go (Some f) is e =
          let i = found_in (is_local n) (reverse es) f is in
          let at = local_passes n f i.1 in
          let l = of_entry es ls f h (reverse_in es f i.0) in
          let kept = in_filter (λ (l : Local). not l.shown) ls l.0 l.1 (sym l.2.1 ∙ at.1) in
          in_contains (local_names ls) n (subst (λ (m : Text). In m (local_names ls)) (sym (at.0 ∙ l.2.0)) (in_map (λ (l : Local). l.name) (filter (λ (l : Local). not l.shown) ls) l.0 kept))

  pub some_own : (n : Text) (es : List Entry) (ls : List Local) → AreSame es ls → list_any (is_named n) es ≡ true → Contains (map (λ (l : Local). l.name) ls) n
  some_own n es ls h e =
      let r = any_in (is_named n) es e in
      let l = of_entry es ls r.0 h (contains_in es r.0 r.1) in
      in_contains (map (λ (l : Local). l.name) ls) n (subst (λ (m : Text). In m (map (λ (l : Local). l.name) ls)) (sym (same_text n r.0.name r.2 ∙ l.2.0)) (in_map (λ (l : Local). l.name) ls l.0 l.1))

  -- The first name of a path

  first_none : (a : Option ℕ) (b : Option (Step × Ty)) (g : Step × Ty → Step × Ty) → option_map g (option_or (option_map (λ (k : ℕ). (s.Local k, y.Nothing)) a) b) ≡ None → (a ≡ None) × (b ≡ None)
  first_none None None g h = (refl, refl)
  first_none None (Some x) g h = absurd cc
  first_none (Some k) b g h = absurd cc

  pub start_none : (n : Text) (es : List Entry) → first_name c es n ≡ None → (slot_named n es ≡ None) × (in_own_class c n ≡ None)
  start_none n es h = first_none (slot_named n es) (in_own_class c n) _ h

  not_last : (n : Text) (es : List Entry) → find (is_named n) es ≡ None → find (is_local n) es ≡ None
  not_last n [] h = refl
  not_last n (e ∷ es) h = go (bytes_eq n e.name) h (not_last n es)
    where
      go : (b : Bool) → cond b (Some e) (find (is_named n) es) ≡ None → (find (is_named n) es ≡ None → find (is_local n) es ≡ None) → cond (b && is_some e.slot) (Some e) (find (is_local n) es) ≡ None
      go true h rest = absurd cc
      go false h rest = rest h

  -- where a first name leads, and the same by the text
  abbrev pub LeadsOn : List Local → Text → Ty → Type 0
  LeadsOn ls n inside = (ty : Ty) × (start_type c ls n ≡ Some ty) × SameInside c.heads inside ty

  pub start_some : (n : Text) (es : List Entry) (ls : List Local) (x : Step × Ty) → AreSame es ls → first_name c es n ≡ Some x → LeadsOn ls n x.1
  start_some n es ls x h e = go (last_named n es) refl (find (λ (l : Local). bytes_eq n l.name) (reverse ls)) refl (last_same n es ls h) e
    where
      by_own : (o : Option (Step × Ty)) → in_own_class c n ≡ o → find (λ (l : Local). bytes_eq n l.name) (reverse ls) ≡ None →
          option_map (λ (z : Step × Ty). (z.0, z.1)) o ≡ Some x → LeadsOn ls n x.1
      by_own None is none e = absurd cc
      by_own (Some z) is none e =
          let same : z.1 ≡ x.1 = cc in
          (x.1, rw (none, is) (ap Some same), λ m. refl)

      by_last : (f : Entry) (l : Local) (o : Option (Step × Ty)) → IsSame f l → find (λ (l : Local). bytes_eq n l.name) (reverse ls) ≡ Some l →
          option_map (λ (z : Step × Ty). (z.0, f.inside)) o ≡ Some x → LeadsOn ls n x.1
      by_last f l None same is e = absurd cc
      by_last f l (Some z) same is e =
          let inside : f.inside ≡ x.1 = cc in
          (l.inside, rw is refl, λ m. ap (λ (t : Ty). next_name c.heads t m) (sym inside) ∙ same.2 m)

      go : (o : Option Entry) → last_named n es ≡ o → (q : Option Local) → find (λ (l : Local). bytes_eq n l.name) (reverse ls) ≡ q → IsFound o q →
          option_map (λ (z : Step × Ty). (z.0, option_map_or (λ (f : Entry). f.inside) o z.1)) (first_step c es n) ≡ Some x → LeadsOn ls n x.1
      go None is None at found e =
          let none : slot_named n es ≡ None = ap (option_and_then (λ (f : Entry). f.slot)) (not_last n (reverse es) is) in
          by_own (in_own_class c n) refl at (rw none at e)
      go None is (Some l) at found e = absurd found
      go (Some f) is None at found e = absurd found
      go (Some f) is (Some l) at found e = by_last f l (first_step c es n) found at e

  -- Scopes

  pub record Shows (s : Scope) (v : Sight) : Type 0 where
    pub front : List Entry
    pub back : List Entry
    pub entries : s.entries ≡ front ++ back
    pub from : s.from ≡ length front
    pub around : AreSame front v.around
    pub own : AreSame back v.own

  pub shows_all : (s : Scope) (v : Sight) → Shows s v → AreSame s.entries (in_sight v)
  shows_all s v h = subst (λ (es : List Entry). AreSame es (in_sight v)) (sym h.entries) (same_both h.front h.back v.around v.own h.around h.own)

  drop_front : (xs ys : List Entry) → drop (length xs) (xs ++ ys) ≡ ys
  drop_front [] ys = refl
  drop_front (x ∷ xs) ys = drop_front xs ys

  pub shows_own : (s : Scope) (v : Sight) → Shows s v → AreSame (drop s.from s.entries) v.own
  shows_own s v h =
      let same : drop s.from s.entries ≡ h.back = (λ i. drop (h.from i) (h.entries i)) ∙ drop_front h.front h.back in
      subst (λ (es : List Entry). AreSame es v.own) (sym same) h.own

  pub shows_inner : (s : Scope) (v : Sight) → Shows s v → Shows (inner_scope s) (inner v)
  shows_inner s v h = record { front = s.entries; back = []; entries = sym (append-nil s.entries); from = refl; around = shows_all s v h; own = tt }

  pub shows_added : (s : Scope) (v : Sight) (e : Entry) (l : Local) → Shows s v → IsSame e l → Shows (with_entry e s) (record { around = v.around; own = v.own ++ l ∷ [] })
  shows_added s v e l h same = record {
    front = h.front;
    back = h.back ++ e ∷ [];
    entries = ap (λ (es : List Entry). es ++ e ∷ []) h.entries ∙ append_assoc h.front h.back (e ∷ []);
    from = h.from;
    around = h.around;
    own = same_both h.back (e ∷ []) v.own (l ∷ []) h.own (same, tt);
  }
