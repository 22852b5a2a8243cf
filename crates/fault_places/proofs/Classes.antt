-- What is found for the items of all files, and their first fault, stand at places of the items.
use Rattle.std.proofs.Common.{ℕ, ◌+◌, ◌≡◌, List, [], ◌∷◌, length, map, Some, not, ◌||◌, nat_lt}
use Rattle.ulam_tree.specs.Raw as t
use Rattle.ulam_tree.specs.Resolved as r
use Rattle.ulam_names.specs.Faults.{Fault}
use Rattle.ulam_names.specs.Scopes.{Names, Head, is_among, names_of}
use Rattle.ulam_names.specs.declared.limits.TheConstants.{MOST_CLASSES}
use Rattle.ulam_names.specs.Classes as w
use Rattle.ulam_names.specs.Classes.{Known, Half, HalfClass, half_field, half_function}
use Rattle.ulam_names.specs.ClassRelation.{IsResolved}
use Rattle.ulam_names.specs.Walk.{body}
use Rattle.ulam_names.proofs.ClassFits.{program_fits}
use Rattle.fault_places.specs.Common.{OfPlace, Each}
use Rattle.fault_places.specs.Faults.{NamesPlace}
use Rattle.fault_places.specs.Raw as raw
use Rattle.fault_places.specs.Resolved as res
use Rattle.fault_places.proofs.Ends.{Any, ends_then, ends_must, ends_fault, ends_value}
use Rattle.fault_places.proofs.Bodies.{Finds, body_finds}
use Rattle.fault_places.proofs.Halves.{HalfPlaces, HalfClassPlaces, items_find}

-- Class names

new_class_finds : (P : OfPlace) (done : Known) (c : t.Class) → P c.word.place → Finds P Any (w.new_class done c)
new_class_finds P done c h =
    ends_must (NamesPlace P) Any (nat_lt (length done) MOST_CLASSES) _ _ h
    (ends_must (NamesPlace P) Any (not (is_among c.word.name (names_of done) || w.is_built_in c.word.name)) _ _ h tt)

names_find : (P : OfPlace) (done : Known) (xs : List t.Item) → raw.FilePlaces P xs → Finds P Any (w.class_names done xs)
names_find P done [] h = tt
names_find P done (t.ulam n ∷ xs) h = names_find P done xs h.1
names_find P done (t.uses x ∷ xs) h = names_find P done xs h.1
names_find P done (t.class c ∷ xs) h = ends_then (NamesPlace P) Any Any (w.new_class done c) _ (new_class_finds P done c h.0.0) (λ more hm. names_find P more xs h.1)

-- Rules of whole classes

behave_finds : (P : OfPlace) (hs : List HalfClass) → Each (HalfClassPlaces P) hs → Finds P Any (w.all_behave hs)
behave_finds P [] h = tt
behave_finds P (x ∷ hs) h = ends_must (NamesPlace P) Any (w.behaves x) _ _ h.0.0 (behave_finds P hs h.1)

apart_finds : (P : OfPlace) (heads : List Head) (k : ℕ) (hs : List HalfClass) → Each (HalfClassPlaces P) hs → Finds P Any (w.none_cyclic heads k hs)
apart_finds P heads k [] h = tt
apart_finds P heads k (x ∷ hs) h = ends_must (NamesPlace P) Any (not (w.holds_itself heads k)) _ _ h.0.0 (apart_finds P heads (k + 1) hs h.1)

-- Bodies

whole_finds : (P : OfPlace) (known : Known) (heads : List Head) (k : ℕ) (d : Names) (m : Half) → HalfPlaces P m → Finds P (res.MemberPlaces P) (w.whole_member known heads k d m)
whole_finds P known heads k d (half_field n x len) h = h
whole_finds P known heads k d (half_function f) h =
    let c = w.context_of known heads k d f in
    ends_then (NamesPlace P) _ (res.MemberPlaces P) (body c (w.scope_of heads f) (length f.params) f.body) _ (body_finds P c (w.scope_of heads f) (length f.params) f.body h.3)
    (λ b hb. (h.0, h.1, h.2, hb))

wholes_find : (P : OfPlace) (known : Known) (heads : List Head) (k : ℕ) (d : Names) (ms : List Half) → Each (HalfPlaces P) ms → Finds P (Each (res.MemberPlaces P)) (w.whole_members known heads k d ms)
wholes_find P known heads k d [] h = tt
wholes_find P known heads k d (m ∷ ms) h =
    ends_then (NamesPlace P) _ (Each (res.MemberPlaces P)) (w.whole_member known heads k d m) _ (whole_finds P known heads k d m h.0) (λ x hx.
    ends_then (NamesPlace P) _ (Each (res.MemberPlaces P)) (w.whole_members known heads k d ms) _ (wholes_find P known heads k d ms h.1) (λ xs hs. (hx, hs)))

whole_class_finds : (P : OfPlace) (known : Known) (heads : List Head) (k : ℕ) (x : HalfClass) → HalfClassPlaces P x → Finds P (res.ClassPlaces P) (w.whole_class known heads k x)
whole_class_finds P known heads k x h =
    ends_then (NamesPlace P) _ (res.ClassPlaces P) (w.whole_members known heads k x.names x.members) _ (wholes_find P known heads k x.names x.members h.1) (λ xs hs. (h.0, hs))

classes_find : (P : OfPlace) (known : Known) (heads : List Head) (k : ℕ) (hs : List HalfClass) → Each (HalfClassPlaces P) hs → Finds P (res.ProgramPlaces P) (w.whole_classes known heads k hs)
classes_find P known heads k [] h = tt
classes_find P known heads k (x ∷ hs) h =
    ends_then (NamesPlace P) _ (res.ProgramPlaces P) (w.whole_class known heads k x) _ (whole_class_finds P known heads k x h.0) (λ c hc.
    ends_then (NamesPlace P) _ (res.ProgramPlaces P) (w.whole_classes known heads (k + 1) hs) _ (classes_find P known heads (k + 1) hs h.1) (λ cs hcs. (hc, hcs)))

-- All files

program_finds : (P : OfPlace) (xs : List t.Item) → raw.FilePlaces P xs → Finds P (res.ProgramPlaces P) (w.program xs)
program_finds P xs h =
    ends_then (NamesPlace P) Any (res.ProgramPlaces P) (w.class_names [] xs) _ (names_find P [] xs h) (λ known hk.
    ends_then (NamesPlace P) _ (res.ProgramPlaces P) (w.items known xs) _ (items_find P known xs h) (λ hs hh.
    ends_then (NamesPlace P) Any (res.ProgramPlaces P) (w.all_behave hs) _ (behave_finds P hs hh) (λ u hu.
    ends_then (NamesPlace P) Any (res.ProgramPlaces P) (w.none_cyclic (map w.head_of hs) 0 hs) _ (apart_finds P (map w.head_of hs) 0 hs hh) (λ v hv.
    classes_find P known (map w.head_of hs) 0 hs hh))))

pub names_fault_placed : (P : OfPlace) (xs : List t.Item) (fault : Fault) → raw.FilePlaces P xs → w.first_fault xs ≡ Some fault → NamesPlace P fault
names_fault_placed P xs fault h is = ends_fault (NamesPlace P) (res.ProgramPlaces P) (w.program xs) fault (program_finds P xs h) is

pub resolved_placed : (P : OfPlace) (xs : List t.Item) (cs : List r.Class) → raw.FilePlaces P xs → IsResolved xs cs → res.ProgramPlaces P cs
resolved_placed P xs cs h is = ends_value (NamesPlace P) (res.ProgramPlaces P) (w.program xs) cs (program_finds P xs h) (program_fits xs cs is)
