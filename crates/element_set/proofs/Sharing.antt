-- A set may be shared with another thread: each of its fields may.
use denote.Param.Send.{IsSync, sendable, struct_sync, recorded_sync}
use denote.Struct.Declared.{shape}
use Rattle.std.proofs.Crossing.{crosses}
use Rattle.std.proofs.option.Option.TheSendSync as Option
use Rattle.feast_base.proofs.place.Place.TheSendSync as Place
use Rattle.feast_base.proofs.name.Name.TheSendSync as Name
use Rattle.ulam_tree.proofs.op.PairOp.TheSendSync as PairOp
use Rattle.ulam_tree.proofs.op.PrefixOp.TheSendSync as PrefixOp
use Rattle.ulam_tree.proofs.raw.Word.TheSendSync as Word
use Rattle.ulam_tree.proofs.resolved.Named.TheSendSync as Named
use Rattle.ulam_tree.proofs.resolved.Param.TheSendSync as Param
use Rattle.ulam_tree.proofs.resolved.Path.TheSendSync as Path
use Rattle.ulam_tree.proofs.resolved.Ty.TheSendSync as Ty
use Rattle.ulam_tree.proofs.typed.Form.TheLaws.TheKnot as forms
use Rattle.ulam_tree.proofs.typed.Statement.TheLaws.TheKnot as statements
use Rattle.ulam_tree.specs.contracts.typed.Typed as Typed
use Rattle.atom_layout.proofs.table.Layout.TheSendSync as Layout
use Rattle.stack_code.proofs.code.Code.TheSendSync as Code
use Rattle.element_set.specs.contracts.set.ElementSet as ElementSet
use Rattle.element_set.proofs.numbers.Numbers.TheSendSync as Numbers

typed_sync : IsSync (Typed.the_field).row
typed_sync = search (sendable, crosses, forms.crosses, forms.crosses_both, statements.crosses, statements.crosses_both, Option.the_field_sync, Named.the_field_sync, Param.the_field_sync, Path.the_field_sync, Ty.the_field_sync, PairOp.the_field_sync, PrefixOp.the_field_sync, Word.the_field_sync, Place.the_field_sync) depth 40 fits 6000

pub set_sync : IsSync ElementSet.the_row
set_sync = recorded_sync (ElementSet.the_field).row _ _ (ElementSet.the_type).to_one (struct_sync (shape (ElementSet.the_type)) (typed_sync, (search (sendable, crosses, Layout.the_sync) depth 6, (search (sendable, crosses, Name.the_sync) depth 6, (search (sendable, crosses, Numbers.the_sync) depth 6, (search (sendable, crosses, Code.the_sync) depth 6, tt))))))
