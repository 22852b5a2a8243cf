-- Pieces whose numbers are cut off if an instruction or a key has no room for them. A piece that
-- fits is left as it is.
use Rattle.std.specs.Prelude.{ℕ, ◌-◌, ◌^◌, min, pos}
use Rattle.stack_code.specs.declared.instr.Instr.{Instr}
use Rattle.stack_code.specs.declared.instr.Instr.TheVariants.{PushNum, NotB, LoadLocal, StoreLocal, LoadField, StoreField, LoadPart, StorePart, LoadFieldAt, StoreFieldAt, LoadPartAt, StorePartAt}
use Rattle.ulam_tree.specs.declared.resolved.Ty.{Ty}
use Rattle.ulam_tree.specs.declared.op.PairOp.{PairOp}
use Rattle.ulam_tree.specs.declared.op.PairOp.TheVariants as op
use Rattle.ulam_tree.specs.Typed as t
use Rattle.ulam_meaning.specs.Paths.{Span, Spot, member, part, Callee, called, Scene}
use Rattle.ulam_meaning.specs.Values.{width_of, arith_of}
use Rattle.code_gen.specs.Scheme.{pair_instr, statement_piece}
use Rattle.code_gen.specs.Pieces.{Key, Piece, none, seq, plain, asks, pick, only, loop, ever, out, next, gives, leaves}

abbrev pub byte : ℕ → ℕ
byte n = min n 255

abbrev pub word : ℕ → ℕ
word n = min n (2 ^ 32 - 1)

abbrev pub clip_key : Key → Key
clip_key f = record { class = f.class; function = f.function; base = word f.base }

-- slots, first bits and lengths of arrays
abbrev pub clip_instr : Instr → Instr
clip_instr (LoadLocal i) = LoadLocal (byte i)
clip_instr (StoreLocal i) = StoreLocal (byte i)
clip_instr (LoadField f w k) = LoadField (byte f) w k
clip_instr (StoreField f w k) = StoreField (byte f) w k
clip_instr (LoadPart i f w k) = LoadPart (byte i) (byte f) w k
clip_instr (StorePart i f w k) = StorePart (byte i) (byte f) w k
clip_instr (LoadFieldAt f w k n) = LoadFieldAt (byte f) w k (byte n)
clip_instr (StoreFieldAt f w k n) = StoreFieldAt (byte f) w k (byte n)
clip_instr (LoadPartAt i f w k n) = LoadPartAt (byte i) (byte f) w k (byte n)
clip_instr (StorePartAt i f w k n) = StorePartAt (byte i) (byte f) w k (byte n)
clip_instr i = i

abbrev pub clip : Piece → Piece
clip none = none
clip (seq a b) = seq (clip a) (clip b)
clip (plain i) = plain (clip_instr i)
clip (asks f) = asks (clip_key f)
clip (pick a b) = pick (clip a) (clip b)
clip (only a) = only (clip a)
clip (loop t a b) = loop (clip t) (clip a) (clip b)
clip (ever a b) = ever (clip a) (clip b)
clip out = out
clip next = next
clip gives = gives
clip leaves = leaves

-- the same of what paths name and call: a first bit is a sum, which is cut off at the end of a word
abbrev pub clip_span : Span → Span
clip_span p = record { first = word p.first; num = p.num; length = p.length }

abbrev pub clip_spot : Spot → Spot
clip_spot (member p) = member (clip_span p)
clip_spot (part i p) = part i (clip_span p)
clip_spot s = s

abbrev pub clip_callee : Callee → Callee
clip_callee (called f) = called (clip_key f)
clip_callee c = c

-- Parts of the scheme

-- an operator between the pieces of both sides
abbrev pub pair_of : PairOp → Ty → Piece → Piece → Piece
pair_of op.Both ty a b = seq a (pick b (plain (PushNum (pos 0))))
pair_of op.Either ty a b = seq a (seq (plain NotB) (pick b (plain (PushNum (pos 1)))))
pair_of o ty a b = seq a (seq b (plain (pair_instr o (arith_of ty) (width_of ty))))

-- the parts of an `if` after its condition, given the piece of the first one
abbrev pub choice_of : Scene → Piece → t.Part → Piece
choice_of z a t.no_part = only a
choice_of z a (t.part y) = pick a (clip (statement_piece z y))
