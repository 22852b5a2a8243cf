-- Short words for trees that are written by hand: no places, and no words but the names of functions.
use Rattle.std.proofs.Common.{ℕ, Bool, true, false, List, [], ◌∷◌, Option, Some, None}
use Rattle.std.specs.Prelude.{map, replicate, slice_set}
use Rattle.bit_field.specs.Atom.{AtomValue, empty_atom}
use Rattle.window_sites.specs.Window.{WindowValue, atom_at}
use Rattle.feast_base.specs.declared.place.Place.{Place}
use Rattle.sat_math.specs.declared.Kind.TheVariants as k
use Rattle.sat_math.specs.declared.NumType.{NumType}
use Rattle.ulam_tree.specs.declared.resolved.Ty.{Ty}
use Rattle.ulam_tree.specs.declared.resolved.Ty.TheVariants as y
use Rattle.ulam_tree.specs.declared.resolved.Step.{Step}
use Rattle.ulam_tree.specs.declared.resolved.Step.TheVariants.{Local}
use Rattle.ulam_tree.specs.declared.resolved.Named.{Named}
use Rattle.ulam_tree.specs.declared.op.PrefixOp.{PrefixOp}
use Rattle.ulam_tree.specs.declared.op.PairOp.{PairOp}
use Rattle.ulam_tree.specs.Raw.{Word}
use Rattle.ulam_tree.specs.Typed as t
use Rattle.ulam_meaning.specs.Programs.{Program, element_of}
use Rattle.ulam_meaning.specs.Events.{behaves, failure, event_of, after}

abbrev pub here : Place
here = record { file = 0; line = 1; column = 1 }

abbrev pub word : List ℕ → Word
word name = record { name = name; place = here }

abbrev pub named : Ty → Named
named ty = record { ty = ty; place = here }

abbrev pub path : List Step → t.Path
path steps = record { place = here; steps = steps }

-- types

abbrev pub int_num : ℕ → NumType
int_num w = record { kind = k.Int; width = w }

abbrev pub unsigned_num : ℕ → NumType
unsigned_num w = record { kind = k.Unsigned; width = w }

abbrev pub bits_num : ℕ → NumType
bits_num w = record { kind = k.Bits; width = w }

abbrev pub unary_num : ℕ → NumType
unary_num w = record { kind = k.Unary; width = w }

abbrev pub bool_num : NumType
bool_num = record { kind = k.Bool; width = 1 }

abbrev pub int : ℕ → Ty
int w = y.Num (int_num w)

abbrev pub unsigned : ℕ → Ty
unsigned w = y.Num (unsigned_num w)

abbrev pub bits : ℕ → Ty
bits w = y.Num (bits_num w)

abbrev pub unary : ℕ → Ty
unary w = y.Num (unary_num w)

abbrev pub bool : Ty
bool = y.Num bool_num

abbrev pub atom : Ty
atom = y.Atom

abbrev pub empty : Ty
empty = y.Empty

abbrev pub void : Ty
void = y.Nothing

abbrev pub event_window : Ty
event_window = y.Window

abbrev pub random : Ty
random = y.Random

abbrev pub class : ℕ → Ty
class c = y.Class c

-- expressions

abbrev pub typed : t.Form → Ty → t.Expr
typed f ty = t.typed f ty

abbrev pub number_form : ℕ → Bool → t.Form
number_form v u = t.number v u here

abbrev pub truth_form : Bool → t.Form
truth_form b = t.truth b here

abbrev pub reads_form : List Step → t.Form
reads_form steps = t.reads (path steps)

abbrev pub calls_form : List Step → t.Args → t.Form
calls_form steps es = t.calls (path steps) es

abbrev pub index_form : List Step → t.Expr → t.Form
index_form steps i = t.index (path steps) i

abbrev pub instance_form : Ty → t.Form
instance_form ty = t.instance (named ty)

abbrev pub group_form : t.Expr → t.Form
group_form e = t.group e here

abbrev pub cast_form : Ty → t.Expr → t.Form
cast_form ty e = t.cast (named ty) e here

abbrev pub prefix_form : PrefixOp → t.Expr → t.Form
prefix_form o e = t.prefix o e here

abbrev pub pair_form : PairOp → t.Expr → t.Expr → t.Form
pair_form o a b = t.pair o a b here

abbrev pub is_form : t.Expr → Ty → t.Form
is_form e ty = t.is e (named ty) here

abbrev pub arg : t.Expr → t.Args → t.Args
arg e es = t.arg e es

abbrev pub no_args : t.Args
no_args = t.no_args

-- statements

abbrev pub no_more : t.Body
no_more = t.no_more

abbrev pub then_so : t.Statement → t.Body → t.Body
then_so x b = t.then_so x b

abbrev pub no_part : t.Part
no_part = t.no_part

abbrev pub part : t.Statement → t.Part
part x = t.part x

abbrev pub seen_as : ℕ → Ty → t.Cond
seen_as i ty = t.seen (path (Local i ∷ [])) (named ty)

abbrev pub test : t.Expr → t.Cond
test e = t.test e

abbrev pub block : t.Body → t.Statement
block b = t.block b

abbrev pub empty_statement : t.Statement
empty_statement = t.empty

abbrev pub if_so : t.Cond → t.Statement → t.Part → t.Statement
if_so c x y = t.if_so c x y

abbrev pub while_so : t.Expr → t.Statement → t.Statement
while_so e x = t.while_so e x

abbrev pub for_all : t.Part → Option t.Expr → t.Part → t.Statement → t.Statement
for_all first e step x = t.for_all first e step x

abbrev pub return_of : Option t.Expr → t.Statement
return_of e = t.returns here e

abbrev pub break_here : t.Statement
break_here = t.breaks here

abbrev pub continue_here : t.Statement
continue_here = t.continues here

abbrev pub declare_local : Ty → ℕ → Option t.Expr → t.Statement
declare_local ty i e = t.declares (named ty) i here e

abbrev pub assign_to : List Step → Option t.Expr → Option PairOp → t.Expr → t.Statement
assign_to steps i o e = t.assigns (record { path = path steps; index = i }) o e

abbrev pub count_at : List Step → Option t.Expr → Bool → t.Statement
count_at steps i up = t.counts (record { path = path steps; index = i }) up

abbrev pub does_call : List Step → t.Args → t.Statement
does_call steps es = t.does (path steps) es

-- classes

abbrev pub field_member : Ty → ℕ → t.Member
field_member ty n = t.field (named ty) (word []) n

abbrev pub param_of : Ty → t.Param
param_of ty = record { of = named ty; word = word [] }

abbrev pub function_member : Ty → List ℕ → List Ty → t.Body → t.Member
function_member ty name tys b = t.function (named ty) (word name) (map param_of tys) b

abbrev pub element : List t.Member → t.Class
element ms = record { quark = false; word = word []; members = ms }

abbrev pub quark : List t.Member → t.Class
quark ms = record { quark = true; word = word []; members = ms }

-- windows

abbrev pub of_kind : ℕ → ℕ → AtomValue
of_kind n state = record { kind = n; state = state }

abbrev pub atoms_at : List (ℕ × AtomValue) → List AtomValue
atoms_at [] = replicate 41 empty_atom
atoms_at (a ∷ rest) = slice_set (atoms_at rest) a.0 a.1

abbrev pub all_but : List ℕ → List Bool
all_but [] = replicate 41 true
all_but (n ∷ rest) = slice_set (all_but rest) n false

-- a window that is Empty but for these atoms, and live but for these sites
abbrev pub window_of : List (ℕ × AtomValue) → List ℕ → WindowValue
window_of atoms dead = record { atoms = atoms_at atoms; live = all_but dead }

abbrev pub ending_by : Program → WindowValue → ℕ → Option ℕ → Option ℕ × WindowValue
ending_by g w seed None = (None, after g w seed)
ending_by g w seed (Some c) = (failure (behaves (event_of w seed) g c w), after g w seed)

-- an event: the number of its failure, and the window that it leaves
abbrev pub ending : Program → WindowValue → ℕ → Option ℕ × WindowValue
ending g w seed = ending_by g w seed (element_of g (atom_at w 0).kind)
