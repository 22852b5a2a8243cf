-- What is known of a chain that is printed, and of lines that are printed one after another.
use Rattle.std.proofs.Common.{ℕ, ◌≡◌, ◌+◌, ◌*◌, ◌<◌, drop, get_or, List, [], ◌∷◌, ◌++◌, All, Result, ap, sym, ◌∙◌, refl, subst, map, length, append_assoc, arith}
use Rattle.std.proofs.lemmas.List.{drop_more, map-id}
use Rattle.plane_acts.specs.Acts.{IsActOn}
use Rattle.plane_acts.specs.declared.act.Act.{Act}
use Rattle.plane_acts.specs.declared.act.Act.TheVariants.{Clear, Put, Erase, Flip, Attempts}
use Rattle.plane_acts.specs.declared.schedule.Every.{Every}
use Rattle.plane_acts.specs.declared.schedule.Once.{Once}
use Rattle.feast_base.specs.Appending.{Appends}
use Rattle.feast_base.proofs.Appending.{Appends-then, piece_done}
use Rattle.text_lines.specs.Lines.{ended_line}
use Rattle.tile_map.specs.Plane.{MapValue}
use Rattle.world_text.specs.Line.{Line}
use Rattle.world_text.specs.Printed.{line_fields as world_fields, lines_text as world_text_of}
use Rattle.chain_text.specs.Chain.{ChainValue, IsChain, IsChainAct}
use Rattle.chain_text.specs.Line.{ChainLine, plain}
use Rattle.chain_text.specs.Printed.{IsPrintable, lines_text, text_of_line}

-- an act of a chain can be printed
act_prints : (n : ℕ) (m : MapValue) (a : Act) → IsActOn (m.tx * m.w) (m.ty * m.h) a → IsChainAct n m a → IsPrintable n a
act_prints n m (Clear r) on is = (omega (arith, on.columns.0), omega (arith, on.rows.0))
act_prints n m (Put r a) on is = ((omega (arith, on.columns.0), omega (arith, on.rows.0)), is.0.0, is.0.1)
act_prints n m (Erase p r) on is = (omega (arith, on.columns.0), omega (arith, on.rows.0))
act_prints n m (Flip p r) on is = (omega (arith, on.columns.0), omega (arith, on.rows.0))
act_prints n m (Attempts k) on is = tt {0}

pub every_prints : (names : List (List ℕ)) (c : ChainValue) → IsChain names c → All (λ (e : Every). IsPrintable (length names) e.act) c.schedule.every
every_prints names c is = λ i x lt. act_prints (length names) c.plane (get_or c.schedule.every i x).act (is.areas.0 i x lt) (is.every i x lt)

pub once_prints : (names : List (List ℕ)) (c : ChainValue) → IsChain names c → All (λ (o : Once). IsPrintable (length names) o.act) c.schedule.once
once_prints names c is = λ i x lt. act_prints (length names) c.plane (get_or c.schedule.once i x).act (is.areas.1 i x lt) (is.once i x lt)

lines_joined : (xs ys : List ChainLine) → lines_text (xs ++ ys) ≡ lines_text xs ++ lines_text ys
lines_joined [] ys = refl
lines_joined (x ∷ xs) ys = ap (λ z. text_of_line x ++ z) (lines_joined xs ys) ∙ sym (append_assoc (text_of_line x) (lines_text xs) (lines_text ys))

-- lines were appended, and then others
pub lines_then : {T E : Type 0} (old mid new : List ℕ) (a b : List ChainLine) (r : Result T E) → mid ≡ old ++ lines_text a → Appends mid new r (lines_text b) → Appends old new r (lines_text (a ++ b))
lines_then old mid new a b r e h = subst (Appends old new r) (sym (lines_joined a b)) (Appends-then old mid new (lines_text a) (lines_text b) r e h)

-- one more line of a list
pub lines_more : {X : Type 0} (f : X → ChainLine) (i : ℕ) (xs : List X) (out new whole : List ℕ) (x : X)
    → i < length xs → x ≡ get_or xs i x
    → new ≡ out ++ text_of_line (f x) → out ++ lines_text (map f (drop i xs)) ≡ whole
    → new ++ lines_text (map f (drop (i + 1) xs)) ≡ whole
lines_more f i xs out new whole x lt is e so_far =
    let next : drop i xs ≡ x ∷ drop (i + 1) xs = drop_more xs i x lt
    ∙ ap (λ y. y ∷ drop (i + 1) xs) (sym is) in
    piece_done out new (text_of_line (f x)) (lines_text (map f (drop (i + 1) xs))) whole e
    (ap (λ l. out ++ lines_text (map f l)) (sym next) ∙ so_far)

-- lines of a world have the same text in a chain
pub plain_texts : {X : Type 0} (f : X → Line) (xs : List X) → world_text_of (map f xs) ≡ lines_text (map (λ x. plain (f x)) xs)
plain_texts f [] = refl
plain_texts f (x ∷ xs) = ap (λ z. ended_line (world_fields (f x)) ++ z) (plain_texts f xs)

pub plain_text : (ls : List Line) → world_text_of ls ≡ lines_text (map plain ls)
plain_text ls = ap world_text_of (sym (map-id ls)) ∙ plain_texts (λ l. l) ls
