-- The first fault of bases stands at a place of the classes as they are written.
use Rattle.std.proofs.Common.{ℕ, ◌+◌, ◌≡◌, Bool, true, false, cond, List, [], ◌∷◌, Option, Some, None}
use Rattle.std.specs.Option.{option_and_then}
use Rattle.ulam_tree.specs.Raw.{Word, Member, typedef, constant, field, function}
use Rattle.ulam_heirs.specs.declared.fault.HeirsFault.{HeirsFault}
use Rattle.ulam_heirs.specs.declared.fault.HeirsFault.TheVariants as f
use Rattle.ulam_heirs.specs.Lines.{Heir, class_named, is_own_base, bases}
use Rattle.ulam_heirs.specs.Flat.{member_word}
use Rattle.ulam_heirs.specs.Faults.{is_quark, not_quark, own_base, is_bad, bad_member, first_bad, bad_override, first_by, first_fault}
use Rattle.fault_places.specs.Common.{OfPlace, IfAny, Each}
use Rattle.fault_places.specs.Faults.{HeirsPlace}
use Rattle.fault_places.specs.Heads.{HeirPlaces}
use Rattle.fault_places.specs.Raw.{WordPlace, MemberPlaces}
use Rattle.fault_places.proofs.Ends.{any_at}
use Rattle.fault_places.proofs.Lists.{any_or}

-- the place of the name that a member declares
word_placed : (P : OfPlace) (m : Member) → MemberPlaces P m → P (member_word m).place
word_placed P (typedef ty w) h = h.1
word_placed P (constant ty w v) h = h.1
word_placed P (field ty w l) h = h.1
word_placed P (function ty w ps b) h = h.1

not_quark_placed : (P : OfPlace) (hs : List Heir) (k : ℕ) (x : Heir) → HeirPlaces P x → IfAny (HeirsPlace P) (not_quark hs k x)
not_quark_placed P hs k x h = go x.base h.1
  where
    one : (w : Word) (b : Bool) → P w.place → IfAny (HeirsPlace P) (cond b None (Some (f.NotQuark w.place)))
    one w true hw = tt
    one w false hw = hw

    go : (o : Option Word) → IfAny (WordPlace P) o → IfAny (HeirsPlace P) (option_and_then (λ (w : Word). cond (is_quark hs (class_named 0 w.name hs)) None (Some (f.NotQuark w.place))) o)
    go None ho = tt
    go (Some w) ho = one w (is_quark hs (class_named 0 w.name hs)) ho

own_base_placed : (P : OfPlace) (hs : List Heir) (k : ℕ) (x : Heir) → HeirPlaces P x → IfAny (HeirsPlace P) (own_base hs k x)
own_base_placed P hs k x h = go (is_own_base hs k)
  where
    go : (b : Bool) → IfAny (HeirsPlace P) (cond b (Some (f.OwnBase x.class.word.place)) None)
    go true = h.0.0
    go false = tt

bad_member_placed : (P : OfPlace) (before : List Heir) (x : Heir) (m : Member) → MemberPlaces P m → IfAny (HeirsPlace P) (bad_member before x m)
bad_member_placed P before x m h = go (is_bad before x m)
  where
    go : (b : Bool) → IfAny (HeirsPlace P) (cond b (Some (f.BadOverride (member_word m).place)) None)
    go true = word_placed P m h
    go false = tt

first_bad_placed : (P : OfPlace) (before : List Heir) (x : Heir) (ms : List Member) → Each (MemberPlaces P) ms → IfAny (HeirsPlace P) (first_bad before x ms)
first_bad_placed P before x [] h = tt
first_bad_placed P before x (m ∷ ms) h = any_or (HeirsPlace P) (bad_member before x m) (first_bad before x ms) (bad_member_placed P before x m h.0) (first_bad_placed P before x ms h.1)

override_placed : (P : OfPlace) (hs : List Heir) (k : ℕ) (x : Heir) → HeirPlaces P x → IfAny (HeirsPlace P) (bad_override hs k x)
override_placed P hs k x h = first_bad_placed P (bases hs k) x x.class.members h.0.1

by_placed : (P : OfPlace) (fault : ℕ → Heir → Option HeirsFault) → ((k : ℕ) (x : Heir) → HeirPlaces P x → IfAny (HeirsPlace P) (fault k x)) →
    (k : ℕ) (hs : List Heir) → Each (HeirPlaces P) hs → IfAny (HeirsPlace P) (first_by fault k hs)
by_placed P fault one k [] h = tt
by_placed P fault one k (x ∷ hs) h = any_or (HeirsPlace P) (fault k x) (first_by fault (k + 1) hs) (one k x h.0) (by_placed P fault one (k + 1) hs h.1)

first_placed : (P : OfPlace) (hs : List Heir) → Each (HeirPlaces P) hs → IfAny (HeirsPlace P) (first_fault hs)
first_placed P hs h =
    any_or (HeirsPlace P) _ _ (by_placed P (not_quark hs) (not_quark_placed P hs) 0 hs h)
    (any_or (HeirsPlace P) _ _ (by_placed P (own_base hs) (own_base_placed P hs) 0 hs h) (by_placed P (bad_override hs) (override_placed P hs) 0 hs h))

pub heirs_fault_placed : (P : OfPlace) (hs : List Heir) (fault : HeirsFault) → Each (HeirPlaces P) hs → first_fault hs ≡ Some fault → HeirsPlace P fault
heirs_fault_placed P hs fault h is = any_at (HeirsPlace P) (first_fault hs) fault (first_placed P hs h) is
