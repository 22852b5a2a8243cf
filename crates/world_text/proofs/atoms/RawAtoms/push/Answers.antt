use Rattle.std.proofs.Common.{◌∷◌, ◌++◌, ◌∙◌, [], ap}
use Rattle.world_text.specs.Atoms.{AtomsValue, raw_atoms}
use Rattle.world_text.specs.Drafts.{raw_atom}
use Rattle.world_text.proofs.Numbered.{atoms_more}
use Rattle.world_text.proofs.atoms.RawAtoms.push.Goals as goal

pub returns : goal.returns
returns c =
    let f = c.self.inside in
    let a = c.args in
    atoms_more f.names.items c.number_of.new.names.items f.atoms.items c.push.new.self.items (record { line = a.line; x = a.site.0; y = a.site.1; name = c.in_ok-name.name; state = a.state }) a.name.now
    c.number_of.ensures.kept c.self.invariant c.in_ok-push.ensures.items c.in_ok-name.ensures.number.1
    ∙ ap (λ (v : AtomsValue). raw_atoms v ++ raw_atom a.line a.site.0 a.site.1 a.name.now a.state ∷ []) c.self.view_is
