-- What the walk finds for files and their classes, from the values of the code.
use Rattle.ulam_tree.specs.Found.{◌>>=◌}
use Rattle.std.specs.Prelude.{ℕ, ℤ, List, [], length, map, option_map, Option, Bool, Vec}
use Rattle.std.specs.Global.{Global}
use Rattle.feast_base.specs.declared.place.Place.{Place}
use Rattle.ulam_tree.specs.declared.type_ref.Width.{Width}
use Rattle.ulam_tree.specs.declared.type_ref.TypeRef.{TypeRef}
use Rattle.ulam_tree.specs.declared.raw.Word.{Word}
use Rattle.ulam_tree.specs.declared.raw.Const.{Const}
use Rattle.ulam_tree.specs.declared.raw.Param.{Param}
use Rattle.ulam_tree.specs.declared.raw.Member.{Member}
use Rattle.ulam_tree.specs.declared.raw.Class.{Class}
use Rattle.ulam_tree.specs.declared.raw.Item.{Item}
use Rattle.ulam_tree.specs.declared.raw.File.{File}
use Rattle.ulam_tree.specs.declared.resolved.Named.{Named}
use Rattle.ulam_tree.specs.Raw as t
use Rattle.ulam_tree.specs.Resolved as r
use Rattle.ulam_tree.specs.RawViews.{word_of, width_of, type_of, const_of, param_of, member_of, Shared, shared_member, class_of, item_of, body_list}
use Rattle.ulam_names.specs.declared.half.HalfClass.{HalfClass}
use Rattle.ulam_names.specs.declared.half.HalfParam.{HalfParam}
use Rattle.ulam_names.specs.declared.half.Half.{Half}
use Rattle.ulam_names.specs.declared.half.Pending.{Pending}
use Rattle.ulam_names.specs.declared.member.Written.{Written}
use Rattle.ulam_names.specs.declared.names.Names.{Names}
use Rattle.ulam_names.specs.declared.scope.Context.{Context}
use Rattle.ulam_names.specs.Faults.{Found}
use Rattle.ulam_names.specs.Scopes as s
use Rattle.ulam_names.specs.Scopes.{no_names}
use Rattle.ulam_names.specs.Classes as w
use Rattle.ulam_names.specs.Walk.{body}
use Rattle.ulam_names.specs.Classes.{Known}
use Rattle.ulam_names.specs.Files.{all_items}
use Rattle.ulam_names.specs.NamesView.{names_view}
use Rattle.ulam_names.specs.Shown.{head_of, context_of, param_of as half_param_of, pending_of, half_of, half_class as half_class_of, with_halves, each}

-- Class names

abbrev pub new_class : Known → Class → Found Known
new_class known c = w.new_class known (class_of c)

-- of one file
abbrev pub file_names : Known → List Item → Found Known
file_names known xs = w.class_names known (map item_of xs)

-- of all files
abbrev pub class_names : List File → Found Known
class_names files = w.class_names [] (all_items files)

-- Members of a class that has declared these names, where these classes are known

abbrev pub const_value : Names → Const → Found (Bool × ℤ)
const_value names value = w.const_value (names_view names) (const_of value)

abbrev pub new_name : Names → ℕ → Bool → Word → Found (Unit {0})
new_name names count free word = w.new_name (names_view names) count free (word_of word)

abbrev pub length_of : Names → Place → Option Width → Found ℕ
length_of names place x = w.length_of (names_view names) place (option_map width_of x)

abbrev pub member_type : Known → Names → TypeRef → Found Named
member_type known names x = w.member_type known (names_view names) (type_of x)

abbrev pub params_of : Known → Names → List Param → Found (List r.Param)
params_of known names ps = w.params_of known (names_view names) [] (map param_of ps)

abbrev pub member : Known → Names → Member → Found (s.Names × List w.Half)
member known names x = w.member known (names_view names) (member_of x)

-- a function as it is written
abbrev pub function : Known → Names → Written → Found (s.Names × List w.Half)
function known names f = w.member known (names_view names) (t.function (type_of f.of.now) (word_of f.word.now) (map param_of f.params.now) (body_list f.body.now))

-- one more member, behind those that were found
abbrev pub one_more : Known → Names → Vec Half Global → Member → Found (s.Names × List w.Half)
one_more known names halves x = with_halves (each half_of halves) (member known names x)

abbrev pub members : Known → List Shared → Found (s.Names × List w.Half)
members known xs = w.members known no_names (map shared_member xs)

-- Items

abbrev pub half_class : Known → Class → Found w.HalfClass
half_class known c = w.half_class known (class_of c)

abbrev pub item : Known → Item → Found (List w.HalfClass)
item known x = w.item known (item_of x)

-- of one file
abbrev pub file_items : Known → List Item → Found (List w.HalfClass)
file_items known xs = w.items known (map item_of xs)

-- of all files
abbrev pub items : Known → List File → Found (List w.HalfClass)
items known files = w.items known (all_items files)

-- Rules of whole classes

abbrev pub all_behave : List HalfClass → Found (Unit {0})
all_behave classes = w.all_behave (map half_class_of classes)

abbrev pub holds_itself : List HalfClass → ℕ → Bool
holds_itself classes class = w.holds_itself (map head_of classes) class

abbrev pub none_cyclic : List HalfClass → Found (Unit {0})
none_cyclic classes = w.none_cyclic (map head_of classes) 0 (map half_class_of classes)

-- Bodies

-- the body of a function, in its context
abbrev pub body_in : s.Context → w.Pending → Found r.Body
body_in c f = body c (w.scope_of c.heads f) (length f.params) f.body

abbrev pub whole_body : Context → Pending → Found r.Body
whole_body context f = body_in (context_of context) (pending_of f)

abbrev pub param_entries : List HalfClass → List HalfParam → List s.Entry
param_entries heads params = w.param_entries (map head_of heads) 0 (map half_param_of params)

module _ (known : Known) (heads : List HalfClass) where
  -- what the names in the body of a function are looked up in
  abbrev pub whole_context : ℕ → Names → Pending → s.Context
  whole_context own names f = w.context_of known (map head_of heads) own (names_view names) (pending_of f)

  abbrev pub whole_function : ℕ → Names → Pending → Found r.Member
  whole_function own names f = w.whole_member known (map head_of heads) own (names_view names) (w.half_function (pending_of f))

  abbrev pub whole_member : ℕ → Names → Half → Found r.Member
  whole_member own names half = w.whole_member known (map head_of heads) own (names_view names) (half_of half)

  abbrev pub whole_members : ℕ → HalfClass → Found (List r.Member)
  whole_members own class = w.whole_members known (map head_of heads) own (names_view class.names) (each half_of class.members)

  abbrev pub whole_class : ℕ → HalfClass → Found r.Class
  whole_class own class = w.whole_class known (map head_of heads) own (half_class_of class)

  abbrev pub whole_classes : Found (List r.Class)
  whole_classes = w.whole_classes known (map head_of heads) 0 (map half_class_of heads)

-- classes whose members are known, by the rules of whole classes and with their bodies
abbrev pub whole_program : Known → List HalfClass → Found (List r.Class)
whole_program known classes =
    all_behave classes >>= λ (_ : Unit {0}).
    none_cyclic classes >>= λ (_ : Unit {0}).
    whole_classes known classes
