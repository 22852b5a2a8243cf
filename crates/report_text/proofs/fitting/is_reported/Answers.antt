use Rattle.std.proofs.Common.{All, ap, arith, length, subst}
use Rattle.std.proofs.lemmas.List.Sorted.{All-permutation}
use Rattle.std.specs.List.{flat_map}
use Rattle.bit_field.specs.Atom.{IsAtom}
use Rattle.event_journal.specs.Logs.{records_in, records_of}
use Rattle.report_text.specs.OneReport.{AreRecordWords}
use Rattle.report_text.proofs.Reported.{all_entries}
use Rattle.report_text.proofs.fitting.is_reported.Goals as goal

pub returns : goal.returns
returns c =
    let entries = all_entries c.args.journal.now c.logs_fit.ensures in
    let wide = c.width-width.ensures in
    let count = c.sites-sites.ensures in
    let size = ap length c.atoms-atoms.ensures in
    let r = c.len-records.ensures in
    let a = c.abandoned_len-abandoned.ensures in record {
      wide = omega (arith, wide.value, wide.wide);
      sites = omega (arith, count, size, c.sites-sites.type_inv);
      named = c.requires;
      states = subst (All IsAtom) c.atoms-atoms.ensures c.atoms_fit.ensures;
      records = All-permutation AreRecordWords (flat_map records_of c.args.journal.now) (records_in c.args.journal.now) c.laws.ensures.records entries.0;
      abandoned = entries.1;
      many_records = omega (arith, r.value, r.bound);
      many_abandoned = omega (arith, a.value, a.bound);
    }
