-- Classes with the members of their bases stand at places of the classes as they are written.
use Rattle.std.proofs.Common.{ℕ, ◌+◌, Bool, true, false, not, cond, List, [], ◌∷◌, ◌++◌, Some}
use Rattle.std.specs.Prelude.{slice_get}
use Rattle.std.specs.List.{flat_map}
use Rattle.feast_base.specs.declared.place.Place.{Place}
use Rattle.ulam_tree.specs.Raw.{Member, Item, ulam, uses, class}
use Rattle.ulam_heirs.specs.Heads.{Base, Heads}
use Rattle.ulam_heirs.specs.Lines.{Heir, same_place, class_at, line_numbers, line}
use Rattle.ulam_heirs.specs.Flat.{is_left_out, own_members, flat_behind, flat_members}
use Rattle.ulam_heirs.specs.Files.{base_at, heirs_in, all_heirs, class_count, flat_items, flat_files_from, flat_files}
use Rattle.fault_places.specs.Common.{OfPlace, IfAny, Each}
use Rattle.fault_places.specs.Heads.{BasePlaces, HeadsPlaces, HeirPlaces}
use Rattle.fault_places.specs.Raw.{WordPlace, MemberPlaces, ItemPlaces, FilePlaces}
use Rattle.fault_places.proofs.Lists.{each_append, each_flat, each_row, each_filter, each_get, any_list}

base_placed : (P : OfPlace) (p : Place) (bs : List Base) → Each (BasePlaces P) bs → IfAny (WordPlace P) (base_at p bs)
base_placed P p [] h = tt
base_placed P p (b ∷ bs) h = go (same_place b.class p) (base_placed P p bs h.1)
  where
    go : (c : Bool) → IfAny (WordPlace P) (base_at p bs) → IfAny (WordPlace P) (cond c (Some b.base) (base_at p bs))
    go true rest = h.0.1
    go false rest = rest

heirs_in_placed : (P : OfPlace) (h : Heads) (xs : List Item) → HeadsPlaces P h → FilePlaces P xs → Each (HeirPlaces P) (heirs_in h xs)
heirs_in_placed P h [] hh hx = tt
heirs_in_placed P h (ulam n ∷ xs) hh hx = heirs_in_placed P h xs hh hx.1
heirs_in_placed P h (uses w ∷ xs) hh hx = heirs_in_placed P h xs hh hx.1
heirs_in_placed P h (class c ∷ xs) hh hx = ((hx.0, base_placed P c.word.place h.bases hh.0), heirs_in_placed P h xs hh hx.1)

pub heirs_placed : (P : OfPlace) (fs : List (List Item)) (hs : List Heads) → Each (FilePlaces P) fs → Each (HeadsPlaces P) hs → Each (HeirPlaces P) (all_heirs fs hs)
heirs_placed P [] hs hf hh = tt
heirs_placed P (f ∷ fs) [] hf hh = tt
heirs_placed P (f ∷ fs) (h ∷ hs) hf hh = each_append (HeirPlaces P) (heirs_in h f) (all_heirs fs hs) (heirs_in_placed P h f hh.0 hf.0) (heirs_placed P fs hs hf.1 hh.1)

line_placed : (P : OfPlace) (hs : List Heir) (k : ℕ) → Each (HeirPlaces P) hs → Each (HeirPlaces P) (line hs k)
line_placed P hs k h = each_flat (HeirPlaces P) (λ (j : ℕ). class_at hs j) (line_numbers hs k) (λ j. any_list (HeirPlaces P) (slice_get hs j) (each_get (HeirPlaces P) hs j h))

flat_behind_placed : (P : OfPlace) (before hs : List Heir) → Each (HeirPlaces P) hs → Each (MemberPlaces P) (flat_behind before hs)
flat_behind_placed P before [] h = tt
flat_behind_placed P before (x ∷ later) h =
    each_append (MemberPlaces P) (own_members before x later) (flat_behind (before ++ (x ∷ [])) later)
    (each_filter (MemberPlaces P) (λ (m : Member). not (is_left_out before x later m)) x.class.members h.0.0.1)
    (flat_behind_placed P (before ++ (x ∷ [])) later h.1)

members_placed : (P : OfPlace) (hs : List Heir) (k : ℕ) → Each (HeirPlaces P) hs → Each (MemberPlaces P) (flat_members hs k)
members_placed P hs k h = flat_behind_placed P [] (line hs k) (line_placed P hs k h)

items_placed : (P : OfPlace) (hs : List Heir) (k : ℕ) (xs : List Item) → Each (HeirPlaces P) hs → FilePlaces P xs → FilePlaces P (flat_items hs k xs)
items_placed P hs k [] h hx = tt
items_placed P hs k (ulam n ∷ xs) h hx = (tt, items_placed P hs k xs h hx.1)
items_placed P hs k (uses w ∷ xs) h hx = (hx.0, items_placed P hs k xs h hx.1)
items_placed P hs k (class c ∷ xs) h hx = ((hx.0.0, members_placed P hs k h), items_placed P hs (k + 1) xs h hx.1)

files_placed : (P : OfPlace) (hs : List Heir) (k : ℕ) (fs : List (List Item)) → Each (HeirPlaces P) hs → Each (FilePlaces P) fs → Each (FilePlaces P) (flat_files_from hs k fs)
files_placed P hs k [] h hf = tt
files_placed P hs k (f ∷ fs) h hf = (items_placed P hs k f h hf.0, files_placed P hs (k + class_count f) fs h hf.1)

-- the items of all files, in which each class has the members of its bases
pub flat_placed : (P : OfPlace) (fs : List (List Item)) (hs : List Heads) → Each (FilePlaces P) fs → Each (HeadsPlaces P) hs → FilePlaces P (flat_map (λ (f : List Item). f) (flat_files fs hs))
flat_placed P fs hs hf hh = each_row (ItemPlaces P) (flat_files fs hs) (files_placed P (all_heirs fs hs) 0 fs (heirs_placed P fs hs hf hh) hf)
