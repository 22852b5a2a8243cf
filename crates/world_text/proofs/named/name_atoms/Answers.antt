use Rattle.std.proofs.Common.{ℕ, ◌≡◌, ◌+◌, ◌*◌, ◌^◌, ◌≤◌, ◌<◌, ◌==◌, ◌∙◌, Bool, List, ap, sym, length, map, replicate, take, drop, get_or, arith, true, false, not, refl, Some, is_some, subst, ◌++◌, ◌∷◌, []}
use Rattle.std.specs.List.{list_any}
use Rattle.std.proofs.lemmas.List.{length-map, length-replicate, length-set, take_all}
use Rattle.world_text.specs.Atoms.{RawAtom, named_atom, raw_atoms}
use Rattle.world_text.proofs.Marks.{unmarked, one_unknown, one_taken, one_fine, places_more, next_atom, no_atoms, marked_more, found_more}
use Rattle.world_text.proofs.Numbered.{item_at, item_in, item_named, item_numbered, item_type}
use Rattle.world_text.specs.Named.{name_fault, atom_place, placed_atom, type_of, AreMarked}
use Rattle.world_text.specs.declared.atoms.NumberedAtom.{NumberedAtom}
use Rattle.world_text.proofs.named.name_atoms.Goals as goal

-- what stands for an atom behind the last
abbrev no_atom : NumberedAtom
no_atom = record { line = 0; x = 0; y = 0; name = 0; state = 0 }

taken_is : (marked free : Bool) → free ≡ not marked → free ≡ false → marked ≡ true
taken_is true free e f = refl
taken_is false free e f = cc

free_is : (marked free : Bool) → free ≡ not marked → free ≡ true → marked ≡ false
free_is true free e f = cc
free_is false free e f = refl

pub loop-raw-init : goal.loop-raw-init
loop-raw-init c =
    let sites = c.args.width * c.args.height in
    let none : c.in_ok-marks.marks.items ≡ replicate sites false = c.in_ok-marks.ensures.items_if_clones_equal (λ y h. h) in
    record {
      rest = refl;
      found = c.new-found.ensures.items;
      marked = subst (λ (q : List Bool). AreMarked q []) (sym none) (unmarked sites);
      size = ap length none ∙ length-replicate sites false;
    }

pub index-requires : goal.index-requires
index-requires c =
    let names = c.args.names.now in
    let v = c.args.atoms.now in
    let atoms = raw_atoms v in
    let i = c.loop-raw.raw-index in
    let e = get_or c.atoms-raw-items.result.now i no_atom in
    let a = named_atom v.names e in
    let at = item_at v c.atoms-raw-items.result.now i no_atom e c.atoms-raw-items.ensures.atoms c.loop-raw-test.true refl in
    let types = c.in_ok-types.ensures names c.in_ok-kinds.ensures ∙ ap (map (type_of names)) c.names.ensures in
    let numbered = item_numbered v i e c.atoms-raw-items.ensures.numbered at.0 at.1 in
    let size = ap length types ∙ length-map v.names (type_of names) in
    omega (arith, numbered, size, c.in_ok-types.types.ok.0)

pub place_of-place-requires-clause-inside : goal.place_of-place-requires-clause-inside
place_of-place-requires-clause-inside c =
    let names = c.args.names.now in
    let v = c.args.atoms.now in
    let atoms = raw_atoms v in
    let i = c.loop-raw.raw-index in
    let e = get_or c.atoms-raw-items.result.now i no_atom in
    let a = named_atom v.names e in
    let at = item_at v c.atoms-raw-items.result.now i no_atom e c.atoms-raw-items.ensures.atoms c.loop-raw-test.true refl in
    let lt = item_in v i at.0 in
    let is = item_named v i e at.0 at.1 in
    let within = subst (λ (b : RawAtom). (b.x < c.args.width) × (b.y < c.args.height) × (b.state < 2 ^ 71)) is (c.requires.inside i a lt) in
    (within.0, within.1)

pub new-requires : goal.new-requires
new-requires c =
    let names = c.args.names.now in
    let v = c.args.atoms.now in
    let atoms = raw_atoms v in
    let i = c.loop-raw.raw-index in
    let e = get_or c.atoms-raw-items.result.now i no_atom in
    let a = named_atom v.names e in
    let at = item_at v c.atoms-raw-items.result.now i no_atom e c.atoms-raw-items.ensures.atoms c.loop-raw-test.true refl in
    let lt = item_in v i at.0 in
    let is = item_named v i e at.0 at.1 in
    let within = subst (λ (b : RawAtom). (b.x < c.args.width) × (b.y < c.args.height) × (b.state < 2 ^ 71)) is (c.requires.inside i a lt) in
    within.2

pub returns-in_default : goal.returns-in_default
returns-in_default c =
    let names = c.args.names.now in
    let v = c.args.atoms.now in
    let atoms = raw_atoms v in
    let i = c.loop-raw.raw-index in
    let e = get_or c.atoms-raw-items.result.now i no_atom in
    let a = named_atom v.names e in
    let at = item_at v c.atoms-raw-items.result.now i no_atom e c.atoms-raw-items.ensures.atoms c.loop-raw-test.true refl in
    let lt = item_in v i at.0 in
    let is = item_named v i e at.0 at.1 in
    let types = c.in_ok-types.ensures names c.in_ok-kinds.ensures ∙ ap (map (type_of names)) c.names.ensures in
    let numbered = item_numbered v i e c.atoms-raw-items.ensures.numbered at.0 at.1 in
    let kind : c.index.result.now ≡ type_of names a.name = item_type names v.names c.in_ok-types.types.items e.name c.index.result.now _ types numbered c.index.ensures in
    let before = map (atom_place c.args.width) (take i atoms) in
    let rest = name_fault names c.args.width (map (atom_place c.args.width) (take (i + 1) atoms)) (drop (i + 1) atoms) in
    let known : is_some (type_of names a.name) ≡ false = ap is_some (sym kind) ∙ ap is_some c.in_default.is in
    sym c.loop-raw.invariant.rest ∙ next_atom names c.args.width atoms i a lt is ∙ one_unknown names c.args.width before a rest known

pub returns-then-not-take_site : goal.returns-then-not-take_site
returns-then-not-take_site c =
    let names = c.args.names.now in
    let v = c.args.atoms.now in
    let atoms = raw_atoms v in
    let i = c.loop-raw.raw-index in
    let e = get_or c.atoms-raw-items.result.now i no_atom in
    let a = named_atom v.names e in
    let at = item_at v c.atoms-raw-items.result.now i no_atom e c.atoms-raw-items.ensures.atoms c.loop-raw-test.true refl in
    let lt = item_in v i at.0 in
    let is = item_named v i e at.0 at.1 in
    let types = c.in_ok-types.ensures names c.in_ok-kinds.ensures ∙ ap (map (type_of names)) c.names.ensures in
    let numbered = item_numbered v i e c.atoms-raw-items.ensures.numbered at.0 at.1 in
    let kind : c.index.result.now ≡ type_of names a.name = item_type names v.names c.in_ok-types.types.items e.name c.index.result.now _ types numbered c.index.ensures in
    let before = map (atom_place c.args.width) (take i atoms) in
    let rest = name_fault names c.args.width (map (atom_place c.args.width) (take (i + 1) atoms)) (drop (i + 1) atoms) in
    let known : is_some (type_of names a.name) ≡ true = ap is_some (sym kind ∙ c.in-Some.is) in
    let size = c.loop-raw.invariant.size in
    let inside : c.place_of-place.result < length c.loop-raw.marks.items = omega (arith, size, c.place_of-place.ensures.below) in
    let mark : list_any (λ p. p == atom_place c.args.width a) before ≡ true =
    ap (λ (k : ℕ). list_any (λ p. p == k) before) (sym c.place_of-place.ensures.value) ∙ sym (c.loop-raw.invariant.marked c.place_of-place.result inside)
    ∙ taken_is _ _ c.take_site.ensures.free c.if-not-take_site.true in
    sym c.loop-raw.invariant.rest ∙ next_atom names c.args.width atoms i a lt is ∙ one_taken names c.args.width before a rest known mark

pub loop-raw-preserved : goal.loop-raw-preserved
loop-raw-preserved c =
    let names = c.args.names.now in
    let v = c.args.atoms.now in
    let atoms = raw_atoms v in
    let i = c.loop-raw.raw-index in
    let e = get_or c.atoms-raw-items.result.now i no_atom in
    let a = named_atom v.names e in
    let at = item_at v c.atoms-raw-items.result.now i no_atom e c.atoms-raw-items.ensures.atoms c.loop-raw-test.true refl in
    let lt = item_in v i at.0 in
    let is = item_named v i e at.0 at.1 in
    let types = c.in_ok-types.ensures names c.in_ok-kinds.ensures ∙ ap (map (type_of names)) c.names.ensures in
    let numbered = item_numbered v i e c.atoms-raw-items.ensures.numbered at.0 at.1 in
    let kind : c.index.result.now ≡ type_of names a.name = item_type names v.names c.in_ok-types.types.items e.name c.index.result.now _ types numbered c.index.ensures in
    let before = map (atom_place c.args.width) (take i atoms) in
    let rest = name_fault names c.args.width (map (atom_place c.args.width) (take (i + 1) atoms)) (drop (i + 1) atoms) in
    let type : type_of names a.name ≡ Some c.in-Some.kind = sym kind ∙ c.in-Some.is in
    let known : is_some (type_of names a.name) ≡ true = ap is_some type in
    let size = c.loop-raw.invariant.size in
    let inside : c.place_of-place.result < length c.loop-raw.marks.items = omega (arith, size, c.place_of-place.ensures.below) in
    let mark : list_any (λ p. p == atom_place c.args.width a) before ≡ false =
    ap (λ (k : ℕ). list_any (λ p. p == k) before) (sym c.place_of-place.ensures.value) ∙ sym (c.loop-raw.invariant.marked c.place_of-place.result inside)
    ∙ free_is _ _ c.take_site.ensures.free c.if-not-take_site.false in
    let more = places_more c.args.width atoms i a lt is in
    let marks = marked_more c.loop-raw.marks.items before c.place_of-place.result c.loop-raw.invariant.marked inside in
    record {
      rest = sym (sym c.loop-raw.invariant.rest ∙ next_atom names c.args.width atoms i a lt is ∙ one_fine names c.args.width before a rest known mark);
      found = found_more names atoms i c.in-Some.kind a c.new.result c.loop-raw.found.items c.push.new.self.items lt is type c.new.ensures c.loop-raw.invariant.found c.in_ok-push.ensures.items;
      marked = subst (λ (q : List Bool). AreMarked q (map (atom_place c.args.width) (take (i + 1) atoms))) (sym c.take_site.ensures.taken)
          (subst (AreMarked _) (ap (λ k. before ++ k ∷ []) c.place_of-place.ensures.value ∙ sym more) marks);
      size = ap length c.take_site.ensures.taken ∙ length-set c.loop-raw.marks.items c.place_of-place.result true ∙ size;
    }

pub returns : goal.returns
returns c =
    let names = c.args.names.now in
    let v = c.args.atoms.now in
    let atoms = raw_atoms v in
    let i = c.loop-raw.raw-index in
    let named = length-map v.atoms (named_atom v.names) in
    let given = ap length c.atoms-raw-items.ensures.atoms in
    let over : length atoms ≤ i = omega (arith, c.loop-raw-test.false, named, given) in (
      sym c.loop-raw.invariant.rest ∙ no_atoms names c.args.width (map (atom_place c.args.width) (take i atoms)) atoms i over,
      c.loop-raw.invariant.found ∙ ap (map (placed_atom names)) (take_all i atoms over),
    )
