use Rattle.std.proofs.Common.{Some, None, ◌∙◌, sym, subst}
use Rattle.stack_code.specs.Valid.{exits_of}
use Rattle.stack_code.specs.KindLists.{maybe, notes_of, NotesFit, around_of}
use Rattle.stack_code.proofs.KindNotes.{place_none, place_front, place_falls, place_jumps, reached_fits}
use Rattle.stack_code.proofs.exits.Around.place.Goals as goal

pub returns-in-None-jumps-clause-place : goal.returns-in-None-jumps-clause-place
returns-in-None-jumps-clause-place c =
    let a = rw c.as_slice.ensures.value at c.in-Some.ensures.list in
    let d = rw c.in-Some-exits.is at c.exits.ensures.exit in
    let fr = place_front (exits_of (around_of c.args.self.now) c.args.i c.args.p) c.args.p c.args.lists.now.nodes c.exits.new.lists.nodes c.args.notes.now.items c.put_note.new.notes.items (maybe c.args.lists.now.nodes c.args.here) c.in-Some.id c.in-Some-exits.exit a c.put_note.ensures.items d.0 d.2 c.requires.notes c.in-Some.ensures.fits in
    let n = subst (NotesFit c.exits.new.lists.nodes) (sym c.put_note.ensures.items) (reached_fits c.args.lists.now.nodes c.exits.new.lists.nodes c.args.notes.now.items c.args.p c.in-Some.id d.2 c.requires.notes c.in-Some.ensures.fits) in
    (fr ∙ place_falls c.exits.new.lists.nodes c.put_note.new.notes.items c.in-Some-exits.exit c.in-None-jumps.is, d.1.0, n)

pub returns-then-note-clause-place : goal.returns-then-note-clause-place
returns-then-note-clause-place c =
    let a = rw c.as_slice.ensures.value at c.in-Some.ensures.list in
    let d = rw c.in-Some-exits.is at c.exits.ensures.exit in
    let fr = place_front (exits_of (around_of c.args.self.now) c.args.i c.args.p) c.args.p c.args.lists.now.nodes c.exits.new.lists.nodes c.args.notes.now.items c.put_note.new.notes.items (maybe c.args.lists.now.nodes c.args.here) c.in-Some.id c.in-Some-exits.exit a c.put_note.ensures.items d.0 d.2 c.requires.notes c.in-Some.ensures.fits in
    (fr ∙ place_jumps c.exits.new.lists.nodes c.put_note.new.notes.items c.in-Some-exits.exit c.in-Some-jumps.q c.in-Some-jumps.ks (Some (notes_of c.exits.new.lists.nodes c.note.new.notes.items)) c.in-Some-jumps.is c.if-note.ensures.noted, d.1.0, c.if-note.ensures.fits)

pub returns-else-note-clause-place : goal.returns-else-note-clause-place
returns-else-note-clause-place c =
    let a = rw c.as_slice.ensures.value at c.in-Some.ensures.list in
    let d = rw c.in-Some-exits.is at c.exits.ensures.exit in
    let fr = place_front (exits_of (around_of c.args.self.now) c.args.i c.args.p) c.args.p c.args.lists.now.nodes c.exits.new.lists.nodes c.args.notes.now.items c.put_note.new.notes.items (maybe c.args.lists.now.nodes c.args.here) c.in-Some.id c.in-Some-exits.exit a c.put_note.ensures.items d.0 d.2 c.requires.notes c.in-Some.ensures.fits in
    (fr ∙ place_jumps c.exits.new.lists.nodes c.put_note.new.notes.items c.in-Some-exits.exit c.in-Some-jumps.q c.in-Some-jumps.ks None c.in-Some-jumps.is c.if-note.ensures.noted, tt, c.if-note.ensures.fits)

pub note-requires-clause-notes : goal.note-requires-clause-notes
note-requires-clause-notes c =
    let d = rw c.in-Some-exits.is at c.exits.ensures.exit in
    subst (NotesFit c.exits.new.lists.nodes) (sym c.put_note.ensures.items) (reached_fits c.args.lists.now.nodes c.exits.new.lists.nodes c.args.notes.now.items c.args.p c.in-Some.id d.2 c.requires.notes c.in-Some.ensures.fits)

pub returns-in-None-exits-clause-place : goal.returns-in-None-exits-clause-place
returns-in-None-exits-clause-place c =
    let a = rw c.as_slice.ensures.value at c.in-Some.ensures.list in
    let d = rw c.in-None-exits.is at c.exits.ensures.exit in
    let n = subst (NotesFit c.exits.new.lists.nodes) (sym c.put_note.ensures.items) (reached_fits c.args.lists.now.nodes c.exits.new.lists.nodes c.args.notes.now.items c.args.p c.in-Some.id d.2 c.requires.notes c.in-Some.ensures.fits) in
    (place_none (exits_of (around_of c.args.self.now) c.args.i c.args.p) c.args.p c.args.lists.now.nodes c.args.notes.now.items (maybe c.args.lists.now.nodes c.args.here) c.in-Some.id a d.0, tt, n)
