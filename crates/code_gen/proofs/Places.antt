-- A piece at its place, among the places of a list.
use Rattle.std.specs.Prelude.{◌≡◌, ℕ, ◌+◌, ◌≤◌, List, [], length, Some, slice_get}
use Rattle.stack_code.specs.Valid.{Kinds}
use Rattle.stack_code.specs.declared.instr.Instr.{Instr}
use Rattle.stack_code.specs.declared.instr.Instr.TheVariants.{Jump, JumpFalse, Turn, Call, Return, ReturnVoid}
use Rattle.code_gen.specs.Pieces.{Key, Piece, none, seq, plain, asks, pick, only, loop, ever, out, next, gives, leaves, size, key_number}
use Rattle.code_gen.specs.Kinds.{Setting, below, ends}

-- the instruction stands at this place
abbrev pub At : List Instr → ℕ → Instr → Type 0
At is p i = slice_get is p ≡ Some i

-- the piece stands at place p; `out` leads to e, `next` to c
abbrev pub HasPiece : List Instr → List Key → ℕ → ℕ → ℕ → Piece → Type 0
HasPiece is ks p e c none = Unit {0}
HasPiece is ks p e c (seq a b) = HasPiece is ks p e c a × HasPiece is ks (p + size a) e c b
HasPiece is ks p e c (plain i) = At is p i
HasPiece is ks p e c (asks f) = At is p (Call (key_number ks f)) × (slice_get ks (key_number ks f) ≡ Some f)
HasPiece is ks p e c (pick a b) = At is p (JumpFalse (p + 1 + size a + 1)) × HasPiece is ks (p + 1) e c a × At is (p + 1 + size a) (Jump (p + 1 + size a + 1 + size b)) × HasPiece is ks (p + 1 + size a + 1) e c b
HasPiece is ks p e c (only a) = At is p (JumpFalse (p + 1 + size a)) × HasPiece is ks (p + 1) e c a
HasPiece is ks p e c (loop t a b) =
    HasPiece is ks p e c t × At is (p + size t) (JumpFalse (p + size t + 1 + size a + size b + 2)) × HasPiece is ks (p + size t + 1) (p + size t + 1 + size a + size b + 2) (p + size t + 1 + size a) a × HasPiece is ks (p + size t + 1 + size a) e c b × At is (p + size t + 1 + size a + size b) Turn × At is (p + size t + 1 + size a + size b + 1) (Jump p)
HasPiece is ks p e c (ever a b) = HasPiece is ks p (p + size a + size b + 2) (p + size a) a × HasPiece is ks (p + size a) e c b × At is (p + size a + size b) Turn × At is (p + size a + size b + 1) (Jump p)
HasPiece is ks p e c out = At is p (Jump e)
HasPiece is ks p e c next = At is p (Jump c)
HasPiece is ks p e c gives = At is p Return
HasPiece is ks p e c leaves = At is p ReturnVoid

-- a place has these kinds, which are not too many
abbrev pub Here : (ℕ → Kinds) → ℕ → Kinds → Type 0
Here shape p ls = (shape p ≡ ls) × (length ls ≤ 512)

-- the kinds of a piece stand at this place
abbrev pub HasKinds : Setting → (ℕ → Kinds) → ℕ → Piece → Kinds → Type 0
HasKinds n shape p none ls = Unit {0}
HasKinds n shape p (seq a b) ls = HasKinds n shape p a ls × HasKinds n shape (p + size a) b (ends n a ls)
HasKinds n shape p (plain i) ls = Here shape p ls
HasKinds n shape p (asks f) ls = Here shape p ls
HasKinds n shape p (pick a b) ls = Here shape p ls × HasKinds n shape (p + 1) a (below ls) × Here shape (p + 1 + size a) (ends n a (below ls)) × HasKinds n shape (p + 1 + size a + 1) b (below ls)
HasKinds n shape p (only a) ls = Here shape p ls × HasKinds n shape (p + 1) a (below ls)
HasKinds n shape p (loop t a b) ls =
    HasKinds n shape p t ls × Here shape (p + size t) (ends n t ls) × HasKinds n shape (p + size t + 1) a [] × HasKinds n shape (p + size t + 1 + size a) b [] × Here shape (p + size t + 1 + size a + size b) [] × Here shape (p + size t + 1 + size a + size b + 1) []
HasKinds n shape p (ever a b) ls = HasKinds n shape p a ls × HasKinds n shape (p + size a) b [] × Here shape (p + size a + size b) [] × Here shape (p + size a + size b + 1) []
HasKinds n shape p out ls = Here shape p ls
HasKinds n shape p next ls = Here shape p ls
HasKinds n shape p gives ls = Here shape p ls
HasKinds n shape p leaves ls = Here shape p ls
