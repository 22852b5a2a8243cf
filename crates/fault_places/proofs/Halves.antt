-- What is found for the members of a class, and their first fault, stand at places of the class.
use Rattle.std.proofs.Common.{ℕ, List, [], ◌∷◌, ◌++◌, length, Option, Some, None, Bool, true, not, ◌&&◌, pos, nat_lt, int_le, is_some}
use Rattle.feast_base.specs.declared.place.Place.{Place}
use Rattle.ulam_tree.specs.Raw as t
use Rattle.ulam_tree.specs.Resolved as r
use Rattle.ulam_names.specs.Scopes.{Text, Names, no_names, declares_name, small_names, is_among, as_number}
use Rattle.feast_base.specs.declared.limits.TheConstants.{MOST_PARAMS}
use Rattle.ulam_names.specs.declared.limits.TheConstants.{MOST_MEMBERS}
use Rattle.ulam_names.specs.Classes as w
use Rattle.ulam_names.specs.Classes.{Known, Half, HalfClass, half_field, half_function}
use Rattle.ulam_names.specs.Walk.{width_value}
use Rattle.fault_places.specs.Common.{OfPlace, IfAny, Each}
use Rattle.fault_places.specs.Faults.{NamesPlace}
use Rattle.fault_places.specs.Raw as raw
use Rattle.fault_places.specs.Resolved as res
use Rattle.fault_places.proofs.Ends.{Any, ends_then, ends_found, ends_must, found_ends, must_ends}
use Rattle.fault_places.proofs.Lists.{each_append}
use Rattle.fault_places.proofs.Bodies.{Finds, width_finds, type_finds}

-- P holds of each place of a member whose body is not resolved yet
abbrev pub HalfPlaces : OfPlace → Half → Type 0
HalfPlaces P (half_field n x len) = P n.place × P x.place
HalfPlaces P (half_function f) = P f.of.place × P f.word.place × Each (res.ParamPlaces P) f.params × raw.BodyPlaces P f.body

abbrev pub HalfClassPlaces : OfPlace → HalfClass → Type 0
HalfClassPlaces P h = P h.word.place × Each (HalfPlaces P) h.members

-- what a class declares after some members, and these members
abbrev HalvesPlaces : OfPlace → Names × List Half → Type 0
HalvesPlaces P x = Each (HalfPlaces P) x.1

new_finds : (P : OfPlace) (d : Names) (n : ℕ) (free : Bool) (x : t.Word) → P x.place → Finds P Any (w.new_name d n free x)
new_finds P d n free x h = ends_must (NamesPlace P) Any (nat_lt n MOST_MEMBERS) _ _ h (must_ends (NamesPlace P) (free && not (declares_name d x.name)) _ h)

value_finds : (P : OfPlace) (d : Names) (k : t.Const) → raw.ConstPlaces P k → Finds P Any (w.const_value d k)
value_finds P d (t.const_number minus n u) h = tt
value_finds P d (t.const_truth b) h = tt
value_finds P d (t.const_named x) h = found_ends (NamesPlace P) _ _ h

length_finds : (P : OfPlace) (d : Names) (p : Place) (x : Option t.Width) → P p → IfAny (raw.WidthPlaces P) x → Finds P Any (w.length_of d p x)
length_finds P d p None hp h = tt
length_finds P d p (Some x) hp h =
    ends_then (NamesPlace P) Any Any (width_value (w.values d) x) _ (width_finds P (w.values d) x h) (λ v hv.
    ends_must (NamesPlace P) Any (int_le (pos 1) v && int_le v (pos 71)) _ _ hp tt)

params_find : (P : OfPlace) (known : Known) (d : Names) (done : List Text) (ps : List t.Param) → Each (raw.ParamPlaces P) ps → Finds P (Each (res.ParamPlaces P)) (w.params_of known d done ps)
params_find P known d done [] h = tt
params_find P known d done (p ∷ ps) h =
    let Q : List r.Param → Type 0 = Each (res.ParamPlaces P) in
    ends_then (NamesPlace P) _ Q (w.member_type known d p.of) _ (type_finds P (w.basics known d) (w.values d) p.of h.0.0) (λ n hn.
    ends_must (NamesPlace P) Q (nat_lt (length done) MOST_PARAMS) _ _ h.0.1
    (ends_must (NamesPlace P) Q (not (is_among p.word.name done)) _ _ h.0.1
    (ends_then (NamesPlace P) _ Q (w.params_of known d (done ++ (p.word.name ∷ [])) ps) _ (params_find P known d (done ++ (p.word.name ∷ [])) ps h.1) (λ more hm.
    ((hn, h.0.1), hm)))))

member_finds : (P : OfPlace) (known : Known) (d : Names) (m : t.Member) → raw.MemberPlaces P m → Finds P (HalvesPlaces P) (w.member known d m)
member_finds P known d (t.typedef ty x) h =
    let Q : Names × List Half → Type 0 = HalvesPlaces P in
    ends_then (NamesPlace P) _ Q (w.member_type known d ty) _ (type_finds P (w.basics known d) (w.values d) ty h.0) (λ n hn.
    ends_found (NamesPlace P) Q (as_number n.ty) _ _ hn (λ num.
    ends_then (NamesPlace P) Any Q (w.new_name d (small_names d) (not (w.is_built_in x.name)) x) _ (new_finds P d (small_names d) (not (w.is_built_in x.name)) x h.1) (λ u hu. tt)))
member_finds P known d (t.constant ty x k) h =
    let Q : Names × List Half → Type 0 = HalvesPlaces P in
    ends_then (NamesPlace P) _ Q (w.member_type known d ty) _ (type_finds P (w.basics known d) (w.values d) ty h.0) (λ n hn.
    ends_found (NamesPlace P) Q (as_number n.ty) _ _ hn (λ num.
    ends_then (NamesPlace P) Any Q (w.new_name d (small_names d) true x) _ (new_finds P d (small_names d) true x h.1) (λ u hu.
    ends_then (NamesPlace P) Any Q (w.const_value d k) _ (value_finds P d k h.2) (λ v hv.
    ends_must (NamesPlace P) Q (w.takes_value num v) _ _ h.1 tt))))
member_finds P known d (t.field ty x k) h =
    let Q : Names × List Half → Type 0 = HalvesPlaces P in
    ends_then (NamesPlace P) _ Q (w.member_type known d ty) _ (type_finds P (w.basics known d) (w.values d) ty h.0) (λ n hn.
    ends_must (NamesPlace P) Q (w.may_be_member known n.ty (is_some k)) _ _ hn
    (ends_then (NamesPlace P) Any Q (w.new_name d (length d.fields) true x) _ (new_finds P d (length d.fields) true x h.1) (λ u hu.
    ends_then (NamesPlace P) Any Q (w.length_of d x.place k) _ (length_finds P d x.place k h.1 h.2) (λ len hl. ((hn, h.1), tt)))))
member_finds P known d (t.function ty x ps b) h =
    let Q : Names × List Half → Type 0 = HalvesPlaces P in
    ends_then (NamesPlace P) _ Q (w.member_type known d ty) _ (type_finds P (w.basics known d) (w.values d) ty h.0) (λ n hn.
    ends_then (NamesPlace P) Any Q (w.new_name d (length d.functions) true x) _ (new_finds P d (length d.functions) true x h.1) (λ u hu.
    ends_then (NamesPlace P) _ Q (w.params_of known d [] ps) _ (params_find P known d [] ps h.2) (λ qs hq. ((hn, h.1, hq, h.3), tt))))

members_find : (P : OfPlace) (known : Known) (d : Names) (ms : List t.Member) → Each (raw.MemberPlaces P) ms → Finds P (HalvesPlaces P) (w.members known d ms)
members_find P known d [] h = tt
members_find P known d (m ∷ ms) h =
    ends_then (NamesPlace P) _ (HalvesPlaces P) (w.member known d m) _ (member_finds P known d m h.0) (λ a ha.
    ends_then (NamesPlace P) _ (HalvesPlaces P) (w.members known a.0 ms) _ (members_find P known a.0 ms h.1) (λ b hb. each_append (HalfPlaces P) a.1 b.1 ha hb))

half_finds : (P : OfPlace) (known : Known) (c : t.Class) → raw.ClassPlaces P c → Finds P (HalfClassPlaces P) (w.half_class known c)
half_finds P known c h = ends_then (NamesPlace P) _ (HalfClassPlaces P) (w.members known no_names c.members) _ (members_find P known no_names c.members h.1) (λ x hx. (h.0, hx))

item_finds : (P : OfPlace) (known : Known) (x : t.Item) → raw.ItemPlaces P x → Finds P (Each (HalfClassPlaces P)) (w.item known x)
item_finds P known (t.ulam n) h = tt
item_finds P known (t.uses x) h = ends_must (NamesPlace P) (Each (HalfClassPlaces P)) (w.may_use known x.name) _ _ h tt
item_finds P known (t.class c) h = ends_then (NamesPlace P) _ (Each (HalfClassPlaces P)) (w.half_class known c) _ (half_finds P known c h) (λ a ha. (ha, tt))

pub items_find : (P : OfPlace) (known : Known) (xs : List t.Item) → raw.FilePlaces P xs → Finds P (Each (HalfClassPlaces P)) (w.items known xs)
items_find P known [] h = tt
items_find P known (x ∷ xs) h =
    ends_then (NamesPlace P) _ (Each (HalfClassPlaces P)) (w.item known x) _ (item_finds P known x h.0) (λ hs hh.
    ends_then (NamesPlace P) _ (Each (HalfClassPlaces P)) (w.items known xs) _ (items_find P known xs h.1) (λ more hm. each_append (HalfClassPlaces P) hs more hh hm))
