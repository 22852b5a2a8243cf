-- What the first fault of bases says of its place.
use Rattle.std.proofs.Common.{◌≡◌, ◌≢◌, ℕ, zero, suc, ◌+◌, ◌<◌, ◌⊎◌, inl, inr, refl, sym, ap, ◌∙◌, subst, List, [], ◌∷◌, ◌++◌, append_assoc, append-nil, length, reverse, flat_map, Bool, true, false, not, ◌&&◌, ◌||◌, cond, Option, Some, None, ◌==◌, arith, Contains, slice_get, bytes_eq}
use Rattle.std.specs.List.{list_any}
use Rattle.std.specs.Option.{option_map_or, option_or, option_and_then, option_to_list}
use Rattle.std.proofs.lemmas.Bool.{false≢true, true≢false, eqb-true, eq-eqb, and_parts, or_cases}
use Rattle.std.proofs.lemmas.Option.{same_Some, none-some}
use Rattle.std.proofs.lemmas.List.{reverse-append, reverse-reverse}
use Rattle.std.proofs.lemmas.List.Elements.{Contains-append_right}
use Rattle.std.proofs.lemmas.List.Concat.{flat_map-append}
use Rattle.std.proofs.lemmas.List.Sorted.{Contains-permutation, IsPermutation-reverse}
use Rattle.std.proofs.lemmas.Slice.Eq.{bytes_eq-Decides}
use Rattle.list_laws.proofs.Tests.{together}
use Rattle.feast_base.specs.declared.place.Place.{Place}
use Rattle.ulam_tree.specs.Raw.{Word, Width, wide, wide_as, TypeRef, Param, Member, typedef, constant, field, function}
use Rattle.ulam_tree.specs.Ways.{leads}
use Rattle.ulam_heirs.specs.declared.fault.HeirsFault.{HeirsFault}
use Rattle.ulam_heirs.specs.declared.fault.HeirsFault.TheVariants.{NotQuark, OwnBase, BadOverride}
use Rattle.ulam_heirs.specs.Lines.{Heir, same_place, class_named, base_of, base_list, is_own_base, upward, line_numbers, class_at, classes_at, line, bases}
use Rattle.ulam_heirs.specs.Flat.{member_word, member_type, is_field, is_function, is_named, has_word, says_virtual, is_virtual_name, is_virtual}
use Rattle.ulam_heirs.specs.Faults.{is_quark, not_quark, own_base, same_width, same_size, same_type, same_params, differs, is_clash, clashes_with, clashes_behind, is_bad, bad_member, first_bad, bad_override, first_by, first_fault}
use Rattle.fault_laws.specs.Bases.{Means, IsBase, LeadsTo, straight, through, IsNoQuark, IsOwnBase, HasWord, SaysVirtual, IsVirtual, SameWidth, SameSize, SameType, SameParams, Differ, OverridesOther, DoesNotMatch, HoldsAt}
use Rattle.fault_laws.proofs.BasesLines.{in_first, in_more, in_none, in_cons, any_in, means_named, base_is, leads_to, upward_to, upward_behind}

-- Which class or member a fault is of

abbrev AtClass : (ℕ → Heir → Option HeirsFault) → ℕ → List Heir → HeirsFault → Type 0
AtClass fault n xs f = (i : ℕ) × (h : Heir) × (slice_get xs i ≡ Some h) × (fault (n + i) h ≡ Some f)

at_class : (fault : ℕ → Heir → Option HeirsFault) (n : ℕ) (xs : List Heir) (f : HeirsFault) → first_by fault n xs ≡ Some f → AtClass fault n xs f
at_class fault n [] f e = absurd (none-some f e)
at_class fault n (x ∷ xs) f e = go (fault n x) refl e (at_class fault (n + 1) xs f)
  where
    here : n ≡ n + 0
    here = omega arith

    on : AtClass fault (n + 1) xs f → AtClass fault n (x ∷ xs) f
    on a = let same : n + 1 + a.0 ≡ n + suc a.0 = omega arith in (suc a.0, a.1, a.2, ap (λ k. fault k a.1) (sym same) ∙ a.3)

    go : (o : Option HeirsFault) → fault n x ≡ o → option_or o (first_by fault (n + 1) xs) ≡ Some f → (first_by fault (n + 1) xs ≡ Some f → AtClass fault (n + 1) xs f) → AtClass fault n (x ∷ xs) f
    go (Some g) is h rest = (0, x, refl, ap (λ k. fault k x) (sym here) ∙ is ∙ h)
    go None is h rest = on (rest h)

at_member : (bs : List Heir) (h : Heir) (ms : List Member) (f : HeirsFault) → first_bad bs h ms ≡ Some f → (m : Member) × Contains ms m × (bad_member bs h m ≡ Some f)
at_member bs h [] f e = absurd (none-some f e)
at_member bs h (m ∷ ms) f e = go (bad_member bs h m) refl e (at_member bs h ms f)
  where
    go : (o : Option HeirsFault) → bad_member bs h m ≡ o → option_or o (first_bad bs h ms) ≡ Some f → (first_bad bs h ms ≡ Some f → (n : Member) × Contains ms n × (bad_member bs h n ≡ Some f)) →
        (n : Member) × Contains (m ∷ ms) n × (bad_member bs h n ≡ Some f)
    go (Some g) is e rest = (m, in_first m ms, is ∙ e)
    go None is e rest = let r = rest e in (r.0, in_more m ms r.0 r.1, r.2)

of_number : (hs : List Heir) (i : ℕ) (h : Heir) → slice_get hs i ≡ Some h → Contains hs h
of_number [] i h e = absurd (none-some h e)
of_number (x ∷ hs) zero h e = subst (Contains (x ∷ hs)) (same_Some x h e) (in_first x hs)
of_number (x ∷ hs) (suc i) h e = in_more x hs h (of_number hs i h e)

-- Base is not a quark

no_quark : (hs : List Heir) (k : ℕ) (h : Heir) (f : HeirsFault) → Contains hs h → not_quark hs k h ≡ Some f → HoldsAt hs f
no_quark hs k h f stands e = by h.base refl e
  where
    on : (w : Word) → h.base ≡ Some w → (b : Bool) → is_quark hs (class_named 0 w.name hs) ≡ b → cond b None (Some (NotQuark w.place)) ≡ Some f → HoldsAt hs f
    on w says true is e = absurd (none-some f e)
    on w says false is e = subst (HoldsAt hs) (same_Some (NotQuark w.place) f e) (record { heir = h; base = w; stands = stands; says = says; at = refl; none = none })
      where
        none : (j : ℕ) (m : Means hs w.name j) → m.heir.class.quark ≡ false
        none j m =
            let number : class_named 0 w.name hs ≡ Some (0 + j) = means_named 0 w.name hs j m in
            let same : 0 + j ≡ j = omega arith in
            sym (ap (λ o. option_map_or (λ (x : Heir). x.class.quark) o false) m.is) ∙ ap (λ i. is_quark hs (Some i)) (sym same) ∙ ap (is_quark hs) (sym number) ∙ is

    by : (o : Option Word) → h.base ≡ o → option_and_then (λ (w : Word). cond (is_quark hs (class_named 0 w.name hs)) None (Some (NotQuark w.place))) o ≡ Some f → HoldsAt hs f
    by None says e = absurd (none-some f e)
    by (Some w) says e = on w says (is_quark hs (class_named 0 w.name hs)) refl e

-- Class is its own base

its_own : (hs : List Heir) (k : ℕ) (h : Heir) (f : HeirsFault) → slice_get hs k ≡ Some h → own_base hs k h ≡ Some f → HoldsAt hs f
its_own hs k h f stands e = go (is_own_base hs k) refl e
  where
    go : (b : Bool) → is_own_base hs k ≡ b → cond b (Some (OwnBase h.class.word.place)) None ≡ Some f → HoldsAt hs f
    go true is e = subst (HoldsAt hs) (same_Some (OwnBase h.class.word.place) f e) (record { number = k; heir = h; is = stands; at = refl; back = leads_to hs _ k k is })
    go false is e = absurd (none-some f e)

-- Override does not match

abbrev spot : ℕ → ℕ → ℕ → Place
spot file line column = record { file = file; line = line; column = column }

same_places : (p q : Place) → same_place p q ≡ true → p ≡ q
same_places p q e =
    let all = and_parts (p.file == q.file && p.line == q.line) (p.column == q.column) e in
    let front = and_parts (p.file == q.file) (p.line == q.line) all.0 in
    let file : p.file ≡ q.file = eqb-true p.file q.file front.0 in
    let line : p.line ≡ q.line = eqb-true p.line q.line front.1 in
    let column : p.column ≡ q.column = eqb-true p.column q.column all.1 in
    ap (λ x. spot x p.line p.column) file ∙ ap (λ x. spot q.file x p.column) line ∙ ap (λ x. spot q.file q.line x) column

word_before : (h : Heir) (m : Member) → has_word h m ≡ true → HasWord h m
word_before h m e =
    let found = any_in (same_place (member_type m).word.place) h.virtuals e in
    subst (Contains h.virtuals) (sym (same_places _ found.0 found.2)) found.1

widths_alike : (a b : Width) → SameWidth a b → same_width a b ≡ true
widths_alike (wide m) (wide n) h = eq-eqb m n h
widths_alike (wide m) (wide_as w) h = absurd h
widths_alike (wide_as v) (wide n) h = absurd h
widths_alike (wide_as v) (wide_as w) h = (bytes_eq-Decides v.name w.name).1 h

sizes_alike : (a b : Option Width) → SameSize a b → same_size a b ≡ true
sizes_alike None None h = refl
sizes_alike None (Some b) h = absurd h
sizes_alike (Some a) None h = absurd h
sizes_alike (Some a) (Some b) h = widths_alike a b h

types_alike : (a b : TypeRef) → SameType a b → same_type a b ≡ true
types_alike a b h = together (bytes_eq a.word.name b.word.name) (same_size a.width b.width) ((bytes_eq-Decides a.word.name b.word.name).1 h.0) (sizes_alike a.width b.width h.1)

params_alike : (ps qs : List Param) → SameParams ps qs → same_params ps qs ≡ true
params_alike [] [] h = refl
params_alike [] (q ∷ qs) h = absurd h
params_alike (p ∷ ps) [] h = absurd h
params_alike (p ∷ ps) (q ∷ qs) h = together (same_type p.of q.of) (same_params ps qs) (types_alike p.of q.of h.0) (params_alike ps qs h.1)

not_both : (a b : Bool) → not (a && b) ≡ true → a ≡ true → b ≡ true → ⊥
not_both true true e f g = false≢true e
not_both true false e f g = false≢true g
not_both false b e f g = false≢true f

they_differ : (m n : Member) → differs m n ≡ true → Differ m n
they_differ (function ty w ps b) (function uy v qs c) e = λ t p. not_both (same_type ty uy) (same_params ps qs) e (types_alike ty uy t) (params_alike ps qs p)
they_differ (function ty w ps b) (typedef uy v) e = absurd (false≢true e)
they_differ (function ty w ps b) (constant uy v c) e = absurd (false≢true e)
they_differ (function ty w ps b) (field uy v c) e = absurd (false≢true e)
they_differ (typedef ty w) n e = absurd (false≢true e)
they_differ (constant ty w c) n e = absurd (false≢true e)
they_differ (field ty w c) n e = absurd (false≢true e)

-- one of these classes that passes a test, by its number
any_at : (hs : List Heir) (p : Heir → Bool) (ks : List ℕ) → list_any p (classes_at hs ks) ≡ true → (k : ℕ) × (h : Heir) × Contains ks k × (slice_get hs k ≡ Some h) × (p h ≡ true)
any_at hs p [] e = absurd (false≢true e)
any_at hs p (k ∷ ks) e = by (slice_get hs k) refl e (any_at hs p ks)
  where
    on : (h : Heir) → slice_get hs k ≡ Some h → (b : Bool) → p h ≡ b → (b || list_any p (classes_at hs ks)) ≡ true → (list_any p (classes_at hs ks) ≡ true → (j : ℕ) × (g : Heir) × Contains ks j × (slice_get hs j ≡ Some g) × (p g ≡ true)) →
        (j : ℕ) × (g : Heir) × Contains (k ∷ ks) j × (slice_get hs j ≡ Some g) × (p g ≡ true)
    on h at true is e rest = (k, h, in_first k ks, at, is)
    on h at false is e rest = let r = rest e in (r.0, r.1, in_more k ks r.0 r.2, r.3, r.4)

    by : (o : Option Heir) → slice_get hs k ≡ o → list_any p (option_to_list o ++ classes_at hs ks) ≡ true → (list_any p (classes_at hs ks) ≡ true → (j : ℕ) × (g : Heir) × Contains ks j × (slice_get hs j ≡ Some g) × (p g ≡ true)) →
        (j : ℕ) × (g : Heir) × Contains (k ∷ ks) j × (slice_get hs j ≡ Some g) × (p g ≡ true)
    by None at e rest = let r = rest e in (r.0, r.1, in_more k ks r.0 r.2, r.3, r.4)
    by (Some h) at e rest = on h at (p h) refl e rest

-- the class of a line that has a clash: its number i, and the numbers before and behind it
record ClashAt (hs : List Heir) (done ks : List ℕ) (m : Member) : Type 0 where
  front : List ℕ
  number : ℕ
  back : List ℕ
  heir : Heir
  split : ks ≡ front ++ (number ∷ back)
  is : slice_get hs number ≡ Some heir
  clashes : clashes_with (classes_at hs (done ++ front)) heir m ≡ true

abbrev ClashesThen : List Heir → List ℕ → List ℕ → Member → Type 0
ClashesThen hs done ks m = clashes_behind (classes_at hs done) (classes_at hs ks) m ≡ true → ClashAt hs done ks m

clash_at : (hs : List Heir) (done ks : List ℕ) (m : Member) → clashes_behind (classes_at hs done) (classes_at hs ks) m ≡ true → ClashAt hs done ks m
clash_at hs done [] m e = absurd (false≢true e)
clash_at hs done (k ∷ ks) m e = by (slice_get hs k) refl e (clash_at hs (done ++ (k ∷ [])) ks m)
  where
    one : (o : Option Heir) → slice_get hs k ≡ o → classes_at hs (done ++ (k ∷ [])) ≡ classes_at hs done ++ option_to_list o
    one o at = flat_map-append (class_at hs) done (k ∷ []) ∙ ap (λ xs. classes_at hs done ++ xs) (append-nil (class_at hs k) ∙ ap option_to_list at)

    next : ClashAt hs (done ++ (k ∷ [])) ks m → ClashAt hs done (k ∷ ks) m
    next c = record {
      front = k ∷ c.front;
      number = c.number;
      back = c.back;
      heir = c.heir;
      split = ap (λ xs. k ∷ xs) c.split;
      is = c.is;
      clashes = ap (λ xs. clashes_with (classes_at hs xs) c.heir m) (sym (append_assoc done (k ∷ []) c.front)) ∙ c.clashes;
    }

    on : (h : Heir) → slice_get hs k ≡ Some h → (b : Bool) → clashes_with (classes_at hs done) h m ≡ b → (b || clashes_behind (classes_at hs done ++ (h ∷ [])) (classes_at hs ks) m) ≡ true → ClashesThen hs (done ++ (k ∷ [])) ks m → ClashAt hs done (k ∷ ks) m
    on h at true is e later = record {
      front = [];
      number = k;
      back = ks;
      heir = h;
      split = refl;
      is = at;
      clashes = ap (λ xs. clashes_with (classes_at hs xs) h m) (append-nil done) ∙ is;
    }
    on h at false is e later = next (later (ap (λ xs. clashes_behind xs (classes_at hs ks) m) (one (Some h) at) ∙ e))

    by : (o : Option Heir) → slice_get hs k ≡ o → clashes_behind (classes_at hs done) (option_to_list o ++ classes_at hs ks) m ≡ true → ClashesThen hs (done ++ (k ∷ [])) ks m → ClashAt hs done (k ∷ ks) m
    by None at e later = next (later (ap (λ xs. clashes_behind xs (classes_at hs ks) m) (one None at ∙ append-nil (classes_at hs done)) ∙ e))
    by (Some h) at e later = on h at (clashes_with (classes_at hs done) h m) refl e later

-- a class that says that a name is virtual
says : (hs : List Heir) (k : ℕ) (h : Heir) (name : List ℕ) → slice_get hs k ≡ Some h → says_virtual name h ≡ true → SaysVirtual hs k name
says hs k h name at e =
    let found = any_in (λ (m : Member). is_function m && is_named name m && has_word h m) h.class.members e in
    let m = found.0 in
    let all = and_parts (is_function m && is_named name m) (has_word h m) found.2 in
    let front = and_parts (is_function m) (is_named name m) all.0 in
    record {
      heir = h;
      own = m;
      is = at;
      declares = found.1;
      callable = front.0;
      named = (bytes_eq-Decides (member_word m).name name).0 front.1;
      word = word_before h m all.1;
    }

-- a virtual function of a class, where the numbers before it in the line are of its bases
virtual_is : (hs : List Heir) (k : ℕ) (h : Heir) (ks : List ℕ) (m : Member) → ((j : ℕ) → Contains ks j → LeadsTo hs k j) → is_virtual (classes_at hs ks) h m ≡ true → IsVirtual hs k h m
virtual_is hs k h ks m above e = go (or_cases (has_word h m) (is_virtual_name (classes_at hs ks) (member_word m).name) (and_parts (is_function m) (has_word h m || is_virtual_name (classes_at hs ks) (member_word m).name) e).1)
  where
    go : (has_word h m ≡ true) ⊎ (is_virtual_name (classes_at hs ks) (member_word m).name ≡ true) → IsVirtual hs k h m
    go (inl word) = inl (word_before h m word)
    go (inr name) =
        let found = any_at hs (says_virtual (member_word m).name) ks name in
        inr (found.0, above found.0 found.2, says hs found.0 found.1 (member_word m).name found.3 found.4)

-- a class with a clash, by its number in the line of the base b of class k
overrides : (hs : List Heir) (k b : ℕ) (m : Member) → IsBase hs k b → ClashAt hs [] (line_numbers hs b) m → OverridesOther hs k m
overrides hs k b m is c =
    let found = any_in (is_clash (classes_at hs c.front) c.heir m) c.heir.class.members c.clashes in
    let n = found.0 in
    let all = and_parts (is_named (member_word m).name n && is_virtual (classes_at hs c.front) c.heir n) (differs n m) found.2 in
    let front = and_parts (is_named (member_word m).name n) (is_virtual (classes_at hs c.front) c.heir n) all.0 in
    record {
      base = c.number;
      heir = c.heir;
      own = n;
      leads = leads;
      is = c.is;
      declares = found.1;
      named = (bytes_eq-Decides (member_word n).name (member_word m).name).0 front.0;
      virtual = virtual_is hs c.number c.heir c.front n above front.1;
      differ = they_differ n m all.1;
    }
  where
    turned : upward (length hs) (base_of hs) b ≡ reverse c.back ++ (c.number ∷ reverse c.front)
    turned =
        sym (reverse-reverse (upward (length hs) (base_of hs) b))
        ∙ ap reverse c.split
        ∙ reverse-append c.front (c.number ∷ c.back)
        ∙ ap (λ xs. xs ++ reverse c.front) (reverse-append (c.number ∷ []) c.back)
        ∙ append_assoc (reverse c.back) (c.number ∷ []) (reverse c.front)

    above : (j : ℕ) → Contains c.front j → LeadsTo hs c.number j
    above j h = upward_behind hs (length hs) b (reverse c.back) c.number (reverse c.front) j turned (Contains-permutation c.front (reverse c.front) j (IsPermutation-reverse c.front) h)

    inside : Contains (upward (length hs) (base_of hs) b) c.number
    inside = subst (λ xs. Contains xs c.number) (sym turned) (Contains-append_right (reverse c.back) (c.number ∷ reverse c.front) c.number (in_first c.number (reverse c.front)))

    go : (b ≡ c.number) ⊎ LeadsTo hs b c.number → LeadsTo hs k c.number
    go (inl same) = subst (LeadsTo hs k) same (straight k b is)
    go (inr more) = through k b c.number is more

    leads : LeadsTo hs k c.number
    leads = go (upward_to hs (length hs) b c.number inside)

clash_is : (hs : List Heir) (k : ℕ) (m : Member) → clashes_behind [] (bases hs k) m ≡ true → OverridesOther hs k m
clash_is hs k m e = by (base_of hs k) refl e
  where
    by : (o : Option ℕ) → base_of hs k ≡ o → clashes_behind [] (option_map_or (line hs) o []) m ≡ true → OverridesOther hs k m
    by None is e = absurd (false≢true e)
    by (Some b) is e = overrides hs k b m (base_is hs k b is) (clash_at hs [] (line_numbers hs b) m e)

no_match_of : (hs : List Heir) (k : ℕ) (h : Heir) (m : Member) (f : HeirsFault) → slice_get hs k ≡ Some h → Contains h.class.members m → bad_member (bases hs k) h m ≡ Some f → HoldsAt hs f
no_match_of hs k h m f stands declares e = go (is_bad (bases hs k) h m) refl e
  where
    wrong : ((is_field m && has_word h m) ≡ true) ⊎ (clashes_behind [] (bases hs k) m ≡ true) → ((is_field m ≡ true) × HasWord h m) ⊎ OverridesOther hs k m
    wrong (inl data_member) = let parts = and_parts (is_field m) (has_word h m) data_member in inl (parts.0, word_before h m parts.1)
    wrong (inr clash) = inr (clash_is hs k m clash)

    go : (b : Bool) → is_bad (bases hs k) h m ≡ b → cond b (Some (BadOverride (member_word m).place)) None ≡ Some f → HoldsAt hs f
    go true is e =
        subst (HoldsAt hs) (same_Some (BadOverride (member_word m).place) f e)
        (record { number = k; heir = h; member = m; is = stands; declares = declares; at = refl; wrong = wrong (or_cases (is_field m && has_word h m) (clashes_behind [] (bases hs k) m) is) })
    go false is e = absurd (none-some f e)

no_match : (hs : List Heir) (k : ℕ) (h : Heir) (f : HeirsFault) → slice_get hs k ≡ Some h → bad_override hs k h ≡ Some f → HoldsAt hs f
no_match hs k h f stands e = let found = at_member (bases hs k) h h.class.members f e in no_match_of hs k h found.0 f stands found.1 found.2

-- Which rule the first fault is of

either_or : (a b : Option HeirsFault) (f : HeirsFault) → option_or a b ≡ Some f → (a ≡ Some f) ⊎ ((a ≡ None) × (b ≡ Some f))
either_or None b f e = inr (refl, e)
either_or (Some x) b f e = inl e

pub base_fault : (hs : List Heir) (f : HeirsFault) → first_fault hs ≡ Some f → HoldsAt hs f
base_fault hs f e = first (either_or _ _ f e)
  where
    same : (i : ℕ) → 0 + i ≡ i
    same i = omega arith

    quarks : AtClass (not_quark hs) 0 hs f → HoldsAt hs f
    quarks a = no_quark hs (0 + a.0) a.1 f (of_number hs a.0 a.1 a.2) a.3

    own : AtClass (own_base hs) 0 hs f → HoldsAt hs f
    own a = its_own hs a.0 a.1 f a.2 (ap (λ i. own_base hs i a.1) (sym (same a.0)) ∙ a.3)

    override : AtClass (bad_override hs) 0 hs f → HoldsAt hs f
    override a = no_match hs a.0 a.1 f a.2 (ap (λ i. bad_override hs i a.1) (sym (same a.0)) ∙ a.3)

    second : (first_by (own_base hs) 0 hs ≡ Some f) ⊎ ((first_by (own_base hs) 0 hs ≡ None) × (first_by (bad_override hs) 0 hs ≡ Some f)) → HoldsAt hs f
    second (inl h) = own (at_class (own_base hs) 0 hs f h)
    second (inr h) = override (at_class (bad_override hs) 0 hs f h.1)

    first : (first_by (not_quark hs) 0 hs ≡ Some f) ⊎ ((first_by (not_quark hs) 0 hs ≡ None) × (option_or (first_by (own_base hs) 0 hs) (first_by (bad_override hs) 0 hs) ≡ Some f)) → HoldsAt hs f
    first (inl h) = quarks (at_class (not_quark hs) 0 hs f h)
    first (inr h) = second (either_or _ _ f h.1)
