-- What holds of a fault of the names of classes, of `use`, and of members.
use Rattle.std.proofs.lemmas.Bool.{ltb-false, not-false}
use Rattle.std.proofs.Common.{◌≡◌, ◌≤◌, ℕ, refl, sym, ap, ◌∙◌, subst, List, [], ◌∷◌, ◌++◌, length, Some, Ok, Bool, true, false, not, ◌||◌, nat_lt, codes, arith, append-nil}
use Rattle.std.specs.Prelude.{Contains, slice_get, bytes_eq}
use Rattle.std.proofs.lemmas.List.{length-map, map-append}
use Rattle.list_laws.proofs.Members.{In, in_contains}
use Rattle.ulam_tree.specs.Found.{Found, ◌>>=◌, must}
use Rattle.ulam_tree.specs.Raw.{Member, Class, Item, ulam, uses, class}
use Rattle.ulam_names.specs.Faults.{Fault, unknown_name, declared_twice, too_many}
use Rattle.ulam_names.specs.Scopes.{Text, Names, no_names, names_of, is_among, built_in}
use Rattle.ulam_names.specs.declared.limits.TheConstants.{MOST_CLASSES}
use Rattle.ulam_names.specs.Classes as w
use Rattle.ulam_names.specs.Classes.{Known, Half}
use Rattle.ulam_names.specs.ClassRelation.{AreKnown}
use Rattle.fault_laws.specs.NamesText.{EntryOf, Lacks, MemberOf, classes_of, class_names}
use Rattle.fault_laws.specs.NamesFaults as f
use Rattle.fault_laws.specs.NamesFaults.{Meaning, HoldsAt}
use Rattle.fault_laws.proofs.Fails.{Fails, fails_then, fails_last, fails_must, fails_must_then}
use Rattle.fault_laws.proofs.NamesLists.{among_in, not_among, in_middle, one_more, slice_behind, contains_left, contains_right}
use Rattle.fault_laws.proofs.NamesAdded.{as_known, known_names, classes_append}
use Rattle.fault_laws.proofs.NamesMembers.{member_fails}
use Rattle.fault_laws.proofs.NamesWalked.{walked_end, walked_means}

must_on : {F A : Type 0} (b : Bool) (e : F) (g : Unit {0} → Found F A) (a : A) → (must b e >>= g) ≡ Ok a → g tt ≡ Ok a
must_on true e g a h = h
must_on false e g a h = absurd cc

new_class_is : (done : Known) (c : Class) (more : Known) → w.new_class done c ≡ Ok more → more ≡ done ++ as_known c ∷ []
new_class_is done c more h =
    let first = must_on (nat_lt (length done) MOST_CLASSES) _ _ more h in
    let second : Ok (done ++ as_known c ∷ []) ≡ Ok more = must_on (not (is_among c.word.name (names_of done) || w.is_built_in c.word.name)) _ _ more first in
    cc

three : (a b c : Bool) → (a || b || c) ≡ false → (a || (b || c)) ≡ false
three true b c h = h
three false b c h = h

module _ (items : List Item) where
  abbrev Q : Fault → Type 0
  Q = HoldsAt items

  -- a class, behind some items
  module _ (gone : List Item) (c : Class) (xs : List Item) (is : items ≡ gone ++ class c ∷ xs) where
    abbrev at : EntryOf Class (classes_of items)
    at = record { before = classes_of gone; here = c; behind = classes_of xs; is = ap classes_of is ∙ classes_append gone (class c ∷ xs) }

    pub stands_at : slice_get (classes_of items) (length (classes_of gone)) ≡ Some c
    stands_at = ap (λ (cs : List Class). slice_get cs (length (classes_of gone))) at.is ∙ slice_behind (classes_of gone) c (classes_of xs)

    new_class_fails : (done : Known) → names_of done ≡ class_names (classes_of gone) → Fails Q (w.new_class done c)
    new_class_fails done same =
        fails_must_then Q (nat_lt (length done) MOST_CLASSES) (too_many c.word.place) _ (λ over. f.classes at refl (many (ltb-false (length done) 256 over))) (λ _.
        fails_must_then Q (not (is_among c.word.name (names_of done) || w.is_built_in c.word.name)) (declared_twice c.word.place) _
        (λ old. f.class_again at refl (go (is_among c.word.name (names_of done)) refl (not-false _ old))) (λ _. tt))
      where
        many : 256 ≤ length done → 256 ≤ length (classes_of gone)
        many le =
            let long = ap length same in
            let a = length-map done (λ (p : Text × Bool). p.0) in
            let b = length-map (classes_of gone) (λ (d : Class). d.word.name) in
            omega (arith, le, long, a, b)

        go : (b : Bool) → is_among c.word.name (names_of done) ≡ b → (b || w.is_built_in c.word.name) ≡ true → Contains (class_names (classes_of gone) ++ names_of built_in) c.word.name
        go true p e = contains_left (class_names (classes_of gone)) (names_of built_in) c.word.name (among_in c.word.name (class_names (classes_of gone)) (ap (is_among c.word.name) (sym same) ∙ p))
        go false p e = contains_right (class_names (classes_of gone)) (names_of built_in) c.word.name (among_in c.word.name (names_of built_in) e)

  -- the names of classes behind some items
  passed : (gone : List Item) (x : Item) → classes_of (x ∷ []) ≡ [] → classes_of (gone ++ x ∷ []) ≡ classes_of gone
  passed gone x none = classes_append gone (x ∷ []) ∙ ap (λ (cs : List Class). classes_of gone ++ cs) none ∙ append-nil (classes_of gone)

  pub names_fail : (gone : List Item) (done : Known) (xs : List Item) → items ≡ gone ++ xs → names_of done ≡ class_names (classes_of gone) → Fails Q (w.class_names done xs)
  names_fail gone done [] is same = tt
  names_fail gone done (ulam n ∷ xs) is same = names_fail (gone ++ ulam n ∷ []) done xs (is ∙ one_more gone (ulam n) xs) (same ∙ ap class_names (sym (passed gone (ulam n) refl)))
  names_fail gone done (uses v ∷ xs) is same = names_fail (gone ++ uses v ∷ []) done xs (is ∙ one_more gone (uses v) xs) (same ∙ ap class_names (sym (passed gone (uses v) refl)))
  names_fail gone done (class c ∷ xs) is same =
      fails_then Q (w.new_class done c) _ (new_class_fails gone c xs is done same) (λ more hm.
      names_fail (gone ++ class c ∷ []) more xs (is ∙ one_more gone (class c) xs)
      (ap names_of (new_class_is done c more hm)
      ∙ map-append (λ (p : Text × Bool). p.0) done (as_known c ∷ [])
      ∙ ap (λ (ns : List Text). ns ++ c.word.name ∷ []) same
      ∙ sym (map-append (λ (d : Class). d.word.name) (classes_of gone) (c ∷ []))
      ∙ ap class_names (sym (classes_append gone (class c ∷ [])))))

  module _ (known : Known) (named : AreKnown [] items known) where
    members_fail : (number : ℕ) (home : Class) → slice_get (classes_of items) number ≡ Some home → (gone : List Member) (d : Names) (hs : List Half) → w.members known no_names gone ≡ Ok (d, hs) →
        (ms : List Member) → home.members ≡ gone ++ ms → Fails Q (w.members known d ms)
    members_fail number home stands gone d hs walked [] is = tt
    members_fail number home stands gone d hs walked (m ∷ ms) is =
        let at : EntryOf Member home.members = record { before = gone; here = m; behind = ms; is = is } in
        let spot : MemberOf items = record { number = number; home = home; stands = stands; at = at } in
        let means : Meaning items gone = record { known = known; names = d; halves = hs; classes = named; declared = walked_means known home.word gone d hs walked } in
        fails_then Q (w.member known d m) _ (member_fails items spot means) (λ x hx.
        fails_last Q (w.members known x.0 ms) _
        (members_fail number home stands (gone ++ m ∷ []) x.0 (hs ++ x.1) (walked_end known d m x hx no_names gone hs walked) ms (is ∙ one_more gone m ms)))

    lacks_use : (n : Text) → w.may_use known n ≡ false → Lacks (codes "EventWindow" ∷ codes "Random" ∷ class_names (classes_of items)) n
    lacks_use n e =
        subst (λ (ns : List Text). Lacks (codes "EventWindow" ∷ codes "Random" ∷ ns) n) (known_names items known named)
        (not_among n (codes "EventWindow" ∷ codes "Random" ∷ names_of known) (three (bytes_eq n (codes "EventWindow")) (bytes_eq n (codes "Random")) (is_among n (names_of known)) e))

    pub items_fail : (gone xs : List Item) → items ≡ gone ++ xs → Fails Q (w.items known xs)
    items_fail gone [] is = tt
    items_fail gone (ulam n ∷ xs) is = fails_last Q (w.items known xs) _ (items_fail (gone ++ ulam n ∷ []) xs (is ∙ one_more gone (ulam n) xs))
    items_fail gone (uses v ∷ xs) is =
        let there : Contains items (uses v) = in_contains items (uses v) (subst (In (uses v)) (sym is) (in_middle gone (uses v) xs)) in
        fails_then Q (w.item known (uses v)) _
        (fails_last Q (must (w.may_use known v.name) (unknown_name v.place)) _ (fails_must Q (w.may_use known v.name) (unknown_name v.place) (λ off. f.no_class v there refl (lacks_use v.name off)))) (λ hs _.
        fails_last Q (w.items known xs) _ (items_fail (gone ++ uses v ∷ []) xs (is ∙ one_more gone (uses v) xs)))
    items_fail gone (class c ∷ xs) is =
        fails_then Q (w.item known (class c)) _
        (fails_last Q (w.half_class known c) _ (fails_last Q (w.members known no_names c.members) _ (members_fail (length (classes_of gone)) c (stands_at gone c xs is) [] no_names [] refl c.members refl))) (λ hs _.
        fails_last Q (w.items known xs) _ (items_fail (gone ++ class c ∷ []) xs (is ∙ one_more gone (class c) xs)))
