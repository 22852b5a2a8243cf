-- The text of a chain says this chain again.
use Rattle.std.proofs.Common.{ℕ, ◌≡◌, ◌+◌, ◌*◌, ◌^◌, ◌<◌, ◌≤◌, Bool, true, false, List, [], ◌∷◌, ◌++◌, All, append_assoc, length, map, replicate, refl, ap, sym, ◌∙◌, subst, arith, Some, None, Result, Ok}
use Rattle.std.proofs.lemmas.List.{append-nil, map-append}
use Rattle.std.proofs.lemmas.List.Elements.{All-append, All-cons, All-head, All-map, All-nil, All-tail}
use Rattle.draw_stream.specs.Plans.{tiles_on}
use Rattle.tile_map.specs.Plane.{MapValue, IsMap, tiles_of, whole_plane}
use Rattle.world_text.specs.Atoms.{RawAtom}
use Rattle.world_text.specs.Drafts.{DraftValue, only_plane, missing as world_missing, nothing_said as no_world_said}
use Rattle.world_text.specs.Line.{Line, header as world_header, tiles, size, off, seed, attempts as world_attempts}
use Rattle.world_text.specs.Named.{placed_atom}
use Rattle.world_text.specs.Printed.{atom_line, off_lines}
use Rattle.world_text.specs.Reading.{over as world_over}
use Rattle.world_text.specs.Saying.{IsPrinted as IsWorldPrinted, draft_after_lines as world_after_lines}
use Rattle.world_text.specs.declared.kind.Kind.TheVariants.{Attempts, Size}
use Rattle.world_text.specs.declared.world.Placed.{Placed}
use Rattle.world_text.proofs.Planes.{off_taken, plane_taken}
use Rattle.world_text.proofs.Prints.{all_known}
use Rattle.world_text.proofs.Round.{AtomsTaken, atoms_taken, whole_after}
use Rattle.world_text.proofs.Taken.{Takes as WorldTakes, takes_then as world_then}
use Rattle.world_text.proofs.Tried.{drawn_taken}
use Rattle.chain_text.specs.Chain.{ChainValue}
use Rattle.chain_text.specs.Drafts.{ChainDraft, IsChainDraft, after_act, after_atom, after_every, after_journal, is_plane, nothing_said, only_world}
use Rattle.chain_text.specs.Line.{ChainLine, header, plain, legs}
use Rattle.chain_text.specs.Named.{ReadsChain, acts_fault, chain_of, chain_with_names, every_of, name_fault, once_of, origin_of}
use Rattle.chain_text.specs.Printed.{IsNamed, act_lines, chain_lines, chain_text, every_line, first_lines, journal_lines, line_fields, once_line, placed_line}
use Rattle.chain_text.specs.Reading.{begins_chain, is_chain}
use Rattle.chain_text.specs.declared.stage.Stage.{Stage}
use Rattle.chain_text.specs.declared.stage.Stage.TheVariants.{Legs}
use Rattle.chain_text.proofs.Again.{IsPrinted, draft_after_lines, lines_are, text_again}
use Rattle.chain_text.proofs.Joined.{texts_again}
use Rattle.chain_text.proofs.Lifted.{IsOfPlane, atoms_lifted, header_lifted}
use Rattle.chain_text.proofs.Said.{relined, relined_every, relined_fine, relined_once}
use Rattle.chain_text.proofs.Taken.{Takes, every_taken, first_taken, journal_taken, legs_taken, once_taken, takes_then}
use Rattle.chain_text.proofs.Valid.{all_named, chain_is, none_first, origin_seed}

-- the lines about the plane, the seed and the attempts, as a world has them behind its header
abbrev world_part : MapValue → ℕ × ℕ → List Line
world_part m o = tiles m.tx m.ty ∷ size m.w m.h ∷ (off_lines 0 m.off ++ (seed o.0 ∷ world_attempts o.1 ∷ []))

-- the draft of a world that they make
abbrev planned : MapValue → ℕ × ℕ → DraftValue
planned m o = record (only_plane Attempts true m) { origin = Some o }

world_taken : (m : MapValue) (o : ℕ × ℕ) → IsMap m → 1 ≤ tiles_on m.off → o.0 < 2 ^ 64 → o.1 * tiles_on m.off ≤ 1000000 → (k : ℕ) × WorldTakes 1 no_world_said (world_header true ∷ world_part m o) k (planned m o)
world_taken m o shape on small few =
    let z = shape.sizes in
    let most : tiles_of m ≤ 64 = grind (arith, z.tx_high, z.ty_high) in
    let bare : replicate (m.tx * m.ty) false ≡ replicate (length m.off) false = ap (λ k. replicate k false) (sym shape.marks) in
    let first = plane_taken true m shape in
    let marks = off_taken m.off [] (replicate (m.tx * m.ty) false) m.off 0 4 Size true m refl bare refl shape.marks most on refl (λ h. refl) in
    let plan = drawn_taken marks.0 marks.1 true m o marks.2 on small few in (
      marks.0 + 1 + 1,
      world_then 1 no_world_said _ 4 (only_plane Size true (whole_plane m.tx m.ty m.w m.h)) _ (marks.0 + 1 + 1) (planned m o) first
          (world_then 4 (only_plane Size true (whole_plane m.tx m.ty m.w m.h)) (off_lines 0 m.off) marks.0 (only_plane marks.1 true m) _ (marks.0 + 1 + 1) (planned m o) marks.3 plan),
    )

off_of_plane : (t : ℕ) (marks : List Bool) (ls : List Line) → All IsOfPlane ls → All IsOfPlane (off_lines t marks ++ ls)
unfolding off_lines
off_of_plane t [] ls all = all
off_of_plane t (false ∷ marks) ls all = off_of_plane (t + 1) marks ls all
off_of_plane t (true ∷ marks) ls all = All-cons IsOfPlane (off t) (off_lines (t + 1) marks ++ ls) (refl, refl) (off_of_plane (t + 1) marks ls all)

part_of_plane : (m : MapValue) (o : ℕ × ℕ) → All IsOfPlane (world_part m o)
part_of_plane m o =
    let plan : List Line = seed o.0 ∷ world_attempts o.1 ∷ [] in
    let marks = off_lines 0 m.off ++ plan in
    let all = All-cons IsOfPlane (seed o.0) (world_attempts o.1 ∷ []) (refl, refl) (All-cons IsOfPlane (world_attempts o.1) [] (refl, refl) (All-nil IsOfPlane)) in
    All-cons IsOfPlane (tiles m.tx m.ty) (size m.w m.h ∷ marks) (refl, refl) (All-cons IsOfPlane (size m.w m.h) marks (refl, refl) (off_of_plane 0 m.off plan all))

-- the lines about the plane, the seed and the attempts are taken
part_taken : (m : MapValue) (o : ℕ × ℕ) → IsMap m → 1 ≤ tiles_on m.off → o.0 < 2 ^ 64 → o.1 * tiles_on m.off ≤ 1000000 →
    Takes 1 nothing_said (header ∷ map plain (world_part m o)) (2 + length (world_part m o)) (only_world (planned m o))
unfolding world_after_lines world_missing
part_taken m o shape on small few =
    let ls = world_part m o in
    let all = world_taken m o shape on small few in
    let said : world_after_lines 1 no_world_said (world_header true ∷ ls) ≡ Ok (planned m o) = ap (world_after_lines 1 no_world_said) (sym (append-nil (world_header true ∷ ls))) ∙ all.1.next [] in
    let of = part_of_plane m o in
    let printed = All-tail IsWorldPrinted (world_header true) ls all.1.printed in record {
      printed = All-cons IsPrinted header (map plain ls) (tt {0}) (All-map IsPrinted plain ls (λ i x lt. (printed i x lt, (of i x lt).1)));
      next = λ rest. header_lifted ls (planned m o) rest of said;
    }

-- a draft that says a world, and the numbers of another draft
abbrev counted : DraftValue → Stage → ChainDraft → ChainDraft
counted w s d = record (only_world w) { stage = s; legs = d.legs; first = d.first; journal = d.journal }

numbers_taken : (n : ℕ) (m : MapValue) (o : ℕ × ℕ) (d : ChainDraft) → IsChainDraft d →
    (i : ℕ) × (s : Stage) × (after_journal s ≡ true) × Takes n (only_world (planned m o)) (legs d.legs ∷ (first_lines d.first ++ journal_lines d.journal)) i (counted (planned m o) s d)
numbers_taken n m o d k =
    let w = planned m o in
    let one : ChainDraft = record (only_world w) { stage = Legs; legs = d.legs } in
    let a = legs_taken n d.legs w refl k.some.0 k.some.1 in
    let b = first_taken (n + 1) d.first one refl refl k.first.0 k.first.1 in
    let two : ChainDraft = record one { stage = b.1; first = d.first } in
    let c = journal_taken b.0 d.journal two b.2 refl k.journal in (
      c.0,
      c.1,
      c.2,
      takes_then n (only_world w) (legs d.legs ∷ []) (n + 1) one _ c.0 (counted w c.1 d) a (takes_then (n + 1) one (first_lines d.first) b.0 two (journal_lines d.journal) c.0 (counted w c.1 d) b.3 c.3),
    )

-- with the acts of this draft too, on other lines
abbrev acted : DraftValue → Stage → ChainDraft → ℕ → ℕ → ℕ → ChainDraft
acted w s d j p q = record (counted w s d) { leg = j; every = relined p d.every; once = relined q d.once }

-- the acts of both kinds are taken
record ActsTaken (names : List (List ℕ)) (n : ℕ) (w : DraftValue) (s : Stage) (d : ChainDraft) : Type 0 where
  number : ℕ
  stage : Stage
  after : after_act stage ≡ true
  leg : ℕ
  second : ℕ
  takes : Takes n (counted w s d) (map (every_line names) (map (every_of names) d.every) ++ map (once_line names) (map (once_of names) d.once)) number (acted w stage d leg n second)

acts_taken : (names : List (List ℕ)) (n : ℕ) (o : ℕ × ℕ) (s : Stage) (d : ChainDraft) → IsChainDraft d → after_journal s ≡ true → acts_fault names d.every ≡ None → acts_fault names d.once ≡ None →
    ActsTaken names n (planned d.world.plane o) s d
acts_taken names n o s d k may e f =
    let m = d.world.plane in
    let w = planned m o in
    let a = every_taken names d.every n (counted w s d) k.world.map k.world.on (every_after s may) k.every k.lasting (all_named names d.every e) in
    let mid : ChainDraft = record (counted w s d) { stage = a.1; every = relined n d.every } in
    let b = once_taken names d.once a.0 mid k.world.map k.world.on (act_after a.1 a.2) k.once (all_named names d.once f) (λ i x lt. (k.once i x lt).low) k.ordered in record {
      number = b.0;
      stage = b.1;
      after = b.2;
      leg = b.3;
      second = a.0;
      takes = takes_then n (counted w s d) (map (every_line names) (map (every_of names) d.every)) a.0 mid (map (once_line names) (map (once_of names) d.once)) b.0 (acted w b.1 d b.3 n a.0) a.3 b.4;
    }
  where
    every_after : (s : Stage) → after_journal s ≡ true → after_every s ≡ true
    every_after s h = grind (arith, h)

    act_after : (s : Stage) → after_every s ≡ true → after_act s ≡ true
    act_after s h = grind (arith, h)

atoms_printed : (names : List (List ℕ)) (ps : List Placed) → All IsWorldPrinted (map (atom_line names) ps) → All IsPrinted (map (placed_line names) ps)
atoms_printed names [] all = All-nil _
atoms_printed names (p ∷ ps) all =
    All-cons IsPrinted (placed_line names p) (map (placed_line names) ps) (All-head IsWorldPrinted (atom_line names p) (map (atom_line names) ps) all, refl) (atoms_printed names ps (All-tail IsWorldPrinted (atom_line names p) (map (atom_line names) ps) all))

-- atoms at the end are taken, and end the lines
record Ended (names : List (List ℕ)) (n : ℕ) (d : ChainDraft) (w : DraftValue) (ps : List Placed) : Type 0 where
  stage : Stage
  printed : All IsPrinted (map (placed_line names) ps)
  said : draft_after_lines n d (map (placed_line names) ps) ≡ Ok (record d { stage = stage; world = w })

atoms_ended : (names : List (List ℕ)) (more : List RawAtom) (n : ℕ) (d : ChainDraft) → after_act d.stage ≡ true → (t : AtomsTaken names more n d.world) →
    Ended names n d (record d.world { last = t.last; atoms = d.world.atoms ++ t.again }) (map (placed_atom names) more)
unfolding world_after_lines
atoms_ended names more n d may t =
    let ps = map (placed_atom names) more in
    let ls = map (atom_line names) ps in
    let w : DraftValue = record d.world { last = t.last; atoms = d.world.atoms ++ t.again } in
    let said : world_after_lines n d.world ls ≡ Ok w = ap (world_after_lines n d.world) (sym (append-nil ls)) ∙ t.takes.next [] ∙ ap (world_over t.number w) (whole_after t.last t.after) in
    let lifted = atoms_lifted names ps n d w (late_act d.stage may) (atom_after d.stage may) said in
    record { stage = lifted.0; printed = atoms_printed names ps t.takes.printed; said = lifted.1 }
  where
    late_act : (s : Stage) → after_act s ≡ true → is_plane s ≡ false
    late_act s h = grind (arith, h)

    atom_after : (s : Stage) → after_act s ≡ true → after_atom s ≡ true
    atom_after s h = grind (arith, h)

-- the lines of a chain are taken, and a draft is there that these names give this chain
record ChainTaken (names : List (List ℕ)) (c : ChainValue) : Type 0 where
  draft : ChainDraft
  printed : All IsPrinted (chain_lines names c)
  said : draft_after_lines 1 nothing_said (chain_lines names c) ≡ Ok draft
  same : chain_with_names names draft ≡ Ok c

-- the lines of the seed and the attempts stand behind those about the plane
parts_same : (marks : List Line) (a b : Line) (rest : List ChainLine) → map plain marks ++ (plain a ∷ plain b ∷ rest) ≡ map plain (marks ++ (a ∷ b ∷ [])) ++ rest
parts_same marks a b rest = sym (append_assoc (map plain marks) (plain a ∷ plain b ∷ []) rest) ∙ ap (λ z. z ++ rest) (sym (map-append plain marks (a ∷ b ∷ [])))

-- lines that are taken one after another, and others that end them
said_then : (n k i j : ℕ) (d e f g : ChainDraft) (a b c t all : List ChainLine) (r : Result ChainDraft (ℕ × ℕ)) → all ≡ a ++ (b ++ (c ++ t)) → Takes n d a k e → Takes k e b i f → Takes i f c j g → draft_after_lines j g t ≡ r →
    draft_after_lines n d all ≡ r
said_then n k i j d e f g a b c t all r same p q s h = ap (draft_after_lines n d) same ∙ p.next (b ++ (c ++ t)) ∙ q.next (c ++ t) ∙ s.next t ∙ h

printed_then : (a b c t : List ChainLine) → All IsPrinted a → All IsPrinted b → All IsPrinted c → All IsPrinted t → All IsPrinted (a ++ (b ++ (c ++ t)))
printed_then a b c t p q s h = All-append IsPrinted a (b ++ (c ++ t)) p (All-append IsPrinted b (c ++ t) q (All-append IsPrinted c t s h))

chain_taken : (names : List (List ℕ)) (d : ChainDraft) → IsChainDraft d → name_fault names d ≡ None → ChainTaken names (chain_of names d)
chain_taken names d k fine =
    let m = d.world.plane in
    let o = origin_of d.world.origin in
    let f = none_first (acts_fault names d.every) _ fine in
    let g = none_first (acts_fault names d.once) _ f.1 in
    let range = origin_seed m.off d.world.origin k.world.drawn in
    let w = planned m o in
    let part = part_taken m o k.world.map k.world.on range.0 range.1 in
    let n = 2 + length (world_part m o) in
    let numbers = numbers_taken n m o d k in
    let acts = acts_taken names numbers.0 o numbers.1 d k numbers.2 f.0 g.0 in
    let before = acted w acts.stage d acts.leg numbers.0 acts.second in
    let t = atoms_taken names d.world.atoms acts.number w k.world.map refl k.world.atoms (all_known names (m.tx * m.w) [] d.world.atoms g.1) in
    let end = atoms_ended names d.world.atoms acts.number before acts.after t in
    let atoms = map (placed_line names) (map (placed_atom names) d.world.atoms) in
    let c = chain_of names d in
    let middle : List ChainLine = legs d.legs ∷ (first_lines d.first ++ journal_lines d.journal) in
    let front : List ChainLine = header ∷ map plain (world_part m o) in
    let done = act_lines names c.schedule in
    let same : chain_lines names c ≡ front ++ (middle ++ (done ++ atoms)) = ap (λ z. header ∷ plain (tiles m.tx m.ty) ∷ plain (size m.w m.h) ∷ z)
    (parts_same (off_lines 0 m.off) (seed o.0) (world_attempts o.1) (middle ++ (done ++ atoms))) in
    let e : ChainDraft = record before { stage = end.stage; world = record w { last = t.last; atoms = t.again } } in
    record {
      draft = e;
      printed = subst (All IsPrinted) (sym same) (printed_then front middle done atoms part.printed numbers.3.printed acts.takes.printed end.printed);
      said = said_then 1 n numbers.0 acts.number nothing_said (only_world w) (counted w numbers.1 d) before front middle done atoms (chain_lines names c) (Ok e) same part numbers.3 acts.takes end.said;
      same = rw (relined_fine names numbers.0 d.every f.0, relined_fine names acts.second d.once g.0, t.fine (m.tx * m.w) [] g.1, relined_every names numbers.0 d.every, relined_once names acts.second d.once, t.same) refl;
    }

-- the text of a chain begins as that of a chain
pub begins_again : (names : List (List ℕ)) (c : ChainValue) → IsNamed names c → is_chain (chain_text names c) ≡ true
unfolding begins_chain
begins_again names c h =
    let p = chain_is names h.0 c h.2 in
    let t = subst (ChainTaken names) p.1 (chain_taken names h.0 h.1 p.0) in
    let ls = chain_lines names c in
    ap begins_chain (texts_again (map line_fields ls) (lines_are ls t.printed)) ∙ refl

-- the text of a chain says this chain with the same names
pub reads_again : (names : List (List ℕ)) (c : ChainValue) → IsNamed names c → ReadsChain (chain_text names c) names c
reads_again names c h =
    let p = chain_is names h.0 c h.2 in
    let t = subst (ChainTaken names) p.1 (chain_taken names h.0 h.1 p.0) in
    (t.draft, text_again (chain_lines names c) t.printed ∙ t.said, t.same)
