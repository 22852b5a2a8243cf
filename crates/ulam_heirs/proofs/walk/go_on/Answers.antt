use Rattle.std.proofs.Common.{◌∙◌, ap, set, Some, arith}
use Rattle.std.proofs.lemmas.List.{length-map}
use Rattle.ulam_heirs.specs.OpenedViews.{change_of, state_of}
use Rattle.ulam_heirs.specs.Views.{heir_of}
use Rattle.ulam_heirs.proofs.Walking.{goes_on}
use Rattle.ulam_heirs.proofs.walk.go_on.Goals as goal

pub returns : goal.returns
returns c = λ hs at apart covers w.
    let both = goes_on hs (state_of c.args.walk.now.opened) (state_of c.open_class.new.opened) c.args.walk.now.line.items c.push.new.self.items c.args.walk.now.found.items c.note.new.found.items c.args.class c.len-end.result (heir_of c.args.heir.now)
    at apart covers w.line w.found c.in_ok-open_class.ensures.table c.in_ok-open_class.ensures.leads c.in_ok-push.ensures.items
    (omega (arith, c.len-end.ensures, length-map c.open_class.new.opened.changes.items change_of))
    (c.note.ensures ∙ ap (λ f. set c.args.walk.now.found.items c.args.class (Some f)) c.first_bad.ensures) in
    record { line = both.0; found = both.1 }
