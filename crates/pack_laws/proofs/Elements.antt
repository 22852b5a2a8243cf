-- Each element of a set, with its code, is one of a code file, and the file says that each has its own name and valid code.
use Rattle.std.proofs.Common.{ℕ, zero, suc, ◌≡◌, ◌+◌, ◌<◌, ◌≤◌, ◌^◌, Bool, true, false, List, [], ◌∷◌, ◌++◌, All, length, map, take, Some, refl, sym, ap, subst, ◌∙◌, arith, append_assoc, append-nil}
use Rattle.std.specs.Prelude.{slice_get, bytes_eq, ◌||◌}
use Rattle.std.specs.List.{AllByRecursion}
use Rattle.std.proofs.lemmas.Bool.{leb-true}
use Rattle.std.proofs.lemmas.List.{length-map}
use Rattle.std.proofs.lemmas.List.Elements.{All-head, All-tail}
use Rattle.list_laws.proofs.Entries.{all_from_get}
use Rattle.feast_base.specs.TypeNames.{is_type_name}
use Rattle.stack_code.specs.Machine.{CodeValue}
use Rattle.stack_code.specs.Valid.{valid}
use Rattle.ulam_heirs.proofs.Firsts.{same_turned}
use Rattle.ulam_names.specs.Scopes as scopes
use Rattle.ulam_meaning.specs.Programs.{Program, count_elements, element_classes, number_of}
use Rattle.ulam_meaning.specs.Laws.{bits_of}
use Rattle.ulam_meaning.specs.Paths.{Key, function_of}
use Rattle.ulam_meaning.specs.Events.{behave_key}
use Rattle.code_gen.specs.Compiling.{AreShort, IsCompilable, IsElementClass, class_code, element_codes}
use Rattle.code_gen.specs.Drafts.{code_of, has_room, keys, value_at}
use Rattle.code_gen.specs.Scheme.{draft_of, operand_of}
use Rattle.code_gen.proofs.Drafted.{kinded_ready}
use Rattle.code_gen.proofs.ElementCode.{kinded_compiled}
use Rattle.code_gen.proofs.ElementCodes.{number_is}
use Rattle.code_gen.proofs.Room.{keys_room}
use Rattle.code_gen.proofs.TypedBodies.{program_kinded}
use Rattle.code_file.specs.Form.{AreElements, CodesValue, ElementValue, IsElement, elements, names_of}
use Rattle.code_file.specs.Judging.{is_among}
use Rattle.code_file.specs.Ranged.{IsRanged, OfTypes}
use Rattle.code_file.specs.Right.{AreRight}
use Rattle.code_file.proofs.Ranges.{valid_ranged}
use Rattle.element_set.specs.Names.{AreNew}
use Rattle.element_set.proofs.Acting.{element_at as class_at}
use Rattle.pack_laws.proofs.SoundPieces.{codes_typed, keys_good, values_ranged}
use Rattle.pack_laws.proofs.SoundPrograms.{key_sound}
use Rattle.pack_laws.proofs.TypedWords.{ClassesFormed, IsFormedKey, behave_formed}

-- Lists

get_mapped : {A B : Type 0} (f : A → B) (xs : List A) (k : ℕ) (y : B) → slice_get (map f xs) k ≡ Some y → (x : A) × (slice_get xs k ≡ Some x) × (f x ≡ y)
get_mapped f [] k y e = absurd cc
get_mapped f (x ∷ xs) zero y e = let same : f x ≡ y = cc in (x, refl, same)
get_mapped f (x ∷ xs) (suc k) y e = get_mapped f xs k y e

pub all_at : {A : Type 0} (P : A → Type 0) (xs : List A) (k : ℕ) (x : A) → All P xs → slice_get xs k ≡ Some x → P x
all_at P [] k x all e = absurd cc
all_at P (y ∷ xs) zero x all e = let same : y ≡ x = cc in subst P same (All-head P y xs all)
all_at P (y ∷ xs) (suc k) x all e = all_at P xs k x (All-tail P y xs all) e

each_at : {A : Type 0} (P : A → Type 0) (xs : List A) (k : ℕ) (x : A) → AllByRecursion P xs → slice_get xs k ≡ Some x → P x
each_at P [] k x all e = absurd cc
each_at P (y ∷ xs) zero x all e = let same : y ≡ x = cc in subst P same all.0
each_at P (y ∷ xs) (suc k) x all e = each_at P xs k x all.1 e

-- Elements of a program

-- what is known of a code by its place: whose it is
pub record IsOf (g : Program) (k : ℕ) (code : CodeValue) : Type 0 where
  pub number : ℕ
  pub numbered : number_of g number ≡ suc k
  pub element : IsElementClass g.classes number
  pub is : class_code g number ≡ code

pub code_is_of : (g : Program) (k : ℕ) (code : CodeValue) → slice_get (element_codes g) k ≡ Some code → IsOf g k code
code_is_of g k code e =
    let m = get_mapped (class_code g) (element_classes 0 g.classes) k code e in
    let r = class_at 0 g.classes k m.0 m.1 in
    let same : r.0 ≡ m.0 = omega (arith, r.1) in
    record { number = m.0; numbered = number_is g k m.0 m.1; element = subst (IsElementClass g.classes) same r.2; is = m.2 }

-- Codes

module _ (g : Program) (compilable : IsCompilable g) (short : AreShort g) (formed : ClassesFormed g.classes) where
  pub code_valid : (k : ℕ) (code : CodeValue) → slice_get (element_codes g) k ≡ Some code → valid code ≡ true
  code_valid k code e =
      let of = code_is_of g k code e in
      let kinded = program_kinded g of.number compilable.well compilable.named compilable.laid (compilable.acts of.number of.element.class of.element.stands of.element.acts) in
      ap valid (sym of.is) ∙ (kinded_compiled g (number_of g of.number) of.number kinded (short of.number of.element.class of.element.stands of.element.acts)).is_valid

  -- the functions of the code of an element
  head_ranged : (f : Key) → has_room (draft_of g) f ≡ true → IsFormedKey g f → IsRanged (value_at (draft_of g) 0 f)
  head_ranged f room h =
      let low = leb-true (f.base + bits_of g f.class) 71 room in
      let long = length-map (function_of g f).params operand_of in
      record { name = h.0; base = omega (arith, low); params = omega (arith, h.1, long) }

  code_ranged : (most c : ℕ) → count_elements g.classes ≤ most → most < 2 ^ 16 → IsElementClass g.classes c → AllByRecursion IsRanged (class_code g c).functions × AllByRecursion (OfTypes most) (class_code g c).instrs
  unfolding code_of
  code_ranged most c enough few element =
      let d = draft_of g in
      let main = behave_key g c in
      let ks = keys d main in
      let sound = key_sound g most enough few compilable.well compilable.named formed in
      let kinded = program_kinded g c compilable.well compilable.named compilable.laid (compilable.acts c element.class element.stands element.acts) in
      let room = keys_room d main (kinded_ready g c kinded) in
      let good = keys_good most (IsFormedKey g) d sound main (behave_formed g c element.class formed element.stands element.acts) in (
        values_ranged d 0 ks (all_from_get (λ (f : Key). IsRanged (value_at d 0 f)) ks (λ k f e. head_ranged f (room k f e) (each_at (IsFormedKey g) ks k f good e))),
        codes_typed most (IsFormedKey g) d sound ks 0 ks,
      )

  kind_is : (c : ℕ) → (class_code g c).kind ≡ number_of g c
  unfolding code_of
  kind_is c = refl

  -- an element with its code is one of a code file
  pub is_element : (most k : ℕ) (e : ElementValue) → count_elements g.classes ≤ most → most < 2 ^ 16 → is_type_name e.name ≡ true → slice_get (element_codes g) k ≡ Some e.code → IsElement most (1 + k) e
  is_element most k e enough few name at =
      let of = code_is_of g k e.code at in
      let ranged = code_ranged most of.number enough few of.element in
      let kind : e.code.kind ≡ 1 + k = ap (λ (x : CodeValue). x.kind) (sym of.is) ∙ kind_is of.number ∙ of.numbered ∙ omega arith in
      valid_ranged most (1 + k) e
      (record {
        name = name;
        kind_is = kind;
        functions = subst (λ (x : CodeValue). AllByRecursion IsRanged x.functions) of.is ranged.0;
        types = subst (λ (x : CodeValue). AllByRecursion (OfTypes most) x.instrs) of.is ranged.1;
      })
      (code_valid k e.code at)

-- Names with codes beside them

pub element_at : (ns : List (List ℕ)) (cs : List CodeValue) (k : ℕ) (e : ElementValue) → slice_get (elements ns cs) k ≡ Some e → (slice_get ns k ≡ Some e.name) × (slice_get cs k ≡ Some e.code)
element_at [] cs k e h = absurd cc
element_at (n ∷ ns) [] k e h = absurd cc
element_at (n ∷ ns) (c ∷ cs) zero e h =
    let same : record { name = n; code = c } ≡ e = cc in
    (ap (λ (x : ElementValue). Some x.name) same, ap (λ (x : ElementValue). Some x.code) same)
element_at (n ∷ ns) (c ∷ cs) (suc k) e h = element_at ns cs k e h

pub are_elements : (most kind : ℕ) (es : CodesValue) → ((k : ℕ) (e : ElementValue) → slice_get es k ≡ Some e → IsElement most (kind + k) e) → AreElements most kind es
are_elements most kind [] h = tt
are_elements most kind (e ∷ es) h =
    let here : kind + 0 ≡ kind = omega arith in (
      subst (λ n. IsElement most n e) here (h 0 e refl),
      are_elements most (kind + 1) es (λ k x at. let next : kind + suc k ≡ kind + 1 + k = omega arith in subst (λ n. IsElement most n x) next (h (suc k) x at)),
    )

names_before : (ns : List (List ℕ)) (cs : List CodeValue) (k : ℕ) → length ns ≡ length cs → names_of (take k (elements ns cs)) ≡ take k ns
names_before ns cs zero h = refl
names_before [] cs (suc k) h = refl
names_before (n ∷ ns) [] (suc k) h = absurd (omega (arith, h))
names_before (n ∷ ns) (c ∷ cs) (suc k) h = ap (λ l. n ∷ l) (names_before ns cs k (omega (arith, h)))

-- whether a name is among others, asked from either side
among_same : (n : List ℕ) (ns : List (List ℕ)) → is_among n ns ≡ scopes.is_among n ns
unfolding is_among
among_same n [] = refl
among_same n (x ∷ ns) = ap (λ b. b || is_among n ns) (same_turned x n) ∙ ap (λ b. bytes_eq n x || b) (among_same n ns)

new_at : (done ns : List (List ℕ)) (k : ℕ) (n : List ℕ) → AreNew done ns → slice_get ns k ≡ Some n → scopes.is_among n (done ++ take k ns) ≡ false
new_at done [] k n h e = absurd cc
new_at done (x ∷ ns) zero n h e =
    let same : x ≡ n = cc in
    ap (scopes.is_among n) (append-nil done) ∙ ap (λ m. scopes.is_among m done) (sym same) ∙ h.0
new_at done (x ∷ ns) (suc k) n h e = ap (scopes.is_among n) (sym (append_assoc done (x ∷ []) (take k ns))) ∙ new_at (done ++ x ∷ []) ns k n h.1 e

-- no element has the name of an earlier one, and each code is valid
pub are_right : (ns : List (List ℕ)) (cs : List CodeValue) → length ns ≡ length cs → AreNew [] ns → ((k : ℕ) (code : CodeValue) → slice_get cs k ≡ Some code → valid code ≡ true) → AreRight (elements ns cs)
are_right ns cs same new fine k e at =
    let parts = element_at ns cs k e at in
    (among_same e.name _ ∙ ap (scopes.is_among e.name) (names_before ns cs k same) ∙ new_at [] ns k e.name new parts.0, fine k e.code parts.1)
