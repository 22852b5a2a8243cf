use Rattle.std.proofs.Common.{◌∙◌, sym, ap, ◌+◌, List, ◌∷◌, drop, Bor}
use Rattle.std.proofs.lemmas.List.{at_drop_more}
use Rattle.ulam_tree.specs.Raw as t
use Rattle.ulam_tree.specs.RawViews.{member_of}
use Rattle.ulam_tree.specs.declared.raw.Member.{Member}
use Rattle.ulam_heirs.specs.Opened.{Table, with_members}
use Rattle.ulam_heirs.specs.OpenedViews.{pointed_members, state_of}
use Rattle.ulam_heirs.proofs.Tables.{leads_on}
use Rattle.ulam_heirs.proofs.opened.add_all.Goals as goal

pub loop-member-preserved : goal.loop-member-preserved
loop-member-preserved c =
    let ms : List (Bor Member) = c.args.members.now in
    let now : Table = (state_of c.loop-member.opened).table in
    let rest : List t.Member = pointed_members (drop (c.loop-member.member-index + 1) ms) in
    record {
      table =
          c.loop-member.invariant.table
          ∙ at_drop_more (λ (zs : List (Bor Member)). with_members now (pointed_members zs)) ms c.loop-member.member-index c.member-item.result c.loop-member-test.true
          ∙ ap (λ (x : Bor Member). with_members now (member_of x.now ∷ rest)) (sym c.member-item.is)
          ∙ ap (λ (u : Table). with_members u rest) (sym c.in_ok-add.ensures.table);
      leads = leads_on (state_of c.args.opened.now) (state_of c.loop-member.opened) (state_of c.add.new.opened) c.loop-member.invariant.leads c.in_ok-add.ensures.leads;
    }
