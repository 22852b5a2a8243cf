use Rattle.std.proofs.Common.{ℕ, ◌+◌, ◌-◌, List, Ok, Err, ap, arith, length, length-append, subst, sym, ◌∙◌}
use Rattle.chain_text.specs.Legs.{leg_plan}
use Rattle.chain_text.specs.Values.{chain_value}
use Rattle.report_text.proofs.Firsts.{first_and_later}
use Rattle.report_text.specs.First.{first_report, later_reports}
use Rattle.report_text.specs.Reading.{IsFault, fault_of}
use Rattle.chain_run.proofs.Numbered.{first_few}
use Rattle.chain_run.proofs.Readers.{before_low, empty_of, next_fails, read_none, read_over, some_of, stops, taken, taken_on}
use Rattle.chain_run.specs.Reader.{ReaderValue, ReadsLeg, next_leg, said_by}
use Rattle.chain_run.proofs.reports.LegReports.next.Goals as goal

pub returns-then-is_empty : goal.returns-then-is_empty
returns-then-is_empty c =
    let r = c.self.inside in
    let v : ReaderValue = record { chain = chain_value r.chain.now; bytes = r.bytes.now; before = r.before; left = r.left } in
    let none = c.if-self-eq0.true in
    sym (ap said_by c.self.view_is) ∙ read_none v.chain.journal v.chain.plane (leg_plan v.chain) (next_leg v) v.before v.left v.bytes (omega (arith, none)) (empty_of v.bytes c.if-is_empty.ensures)

pub returns-then-self-eq0 : goal.returns-then-self-eq0
returns-then-self-eq0 c =
    let r = c.self.inside in
    let v : ReaderValue = record { chain = chain_value r.chain.now; bytes = r.bytes.now; before = r.before; left = r.left } in
    let none = c.if-self-eq0.true in
    sym (ap said_by c.self.view_is) ∙ read_over v.chain.journal v.chain.plane (leg_plan v.chain) (next_leg v) v.before v.left v.bytes (omega (arith, none)) (some_of v.bytes c.if-is_empty.ensures)

pub returns-in_err-read : goal.returns-in_err-read
returns-in_err-read c =
    let r = c.self.inside in
    let v : ReaderValue = record { chain = chain_value r.chain.now; bytes = r.bytes.now; before = r.before; left = r.left } in
    let some = c.if-self-eq0.false in
    let fault = c.in_err-read.field-0.0 in
    let read = subst (λ (b : List ℕ). ReadsLeg v.chain (next_leg v) v.before b (Err fault)) c.first_report-lines.ensures.report c.in_err-read.ensures in
    stops c.args.self.now c.args.self.now c.from_residual.result fault c.from_residual.ensures.1
    (subst (λ (x : ReaderValue). IsFault (said_by x) (fault_of fault)) c.self.view_is (next_fails v (r.left - 1) fault (omega (arith, some)) read))

pub returns : goal.returns
returns c =
    let r = c.self.inside in
    let v : ReaderValue = record { chain = chain_value r.chain.now; bytes = r.bytes.now; before = r.before; left = r.left } in
    let some = c.if-self-eq0.false in
    let l = c.in_ok-read.read in
    let read = subst (λ (b : List ℕ). ReadsLeg v.chain (next_leg v) v.before b (Ok l)) c.first_report-lines.ensures.report c.in_ok-read.ensures in
    let before = ap (λ n. v.before + n) c.first_report-lines.ensures.lines in
    taken_on _ v _ l c.self.view_is
    (taken v _ (r.left - 1) l (omega (arith, some)) c.self.invariant.most (λ i. record { chain = v.chain; bytes = c.first_report-lines.ensures.later i; before = before i; left = r.left - 1 }) read)

pub overflow_add-self : goal.overflow_add-self
overflow_add-self c =
    let r = c.self.inside in
    let low = before_low (record { chain = chain_value r.chain.now; bytes = r.bytes.now; before = r.before; left = r.left }) c.self.invariant in
    let few = first_few r.bytes.now in
    let lines = c.first_report-lines.ensures.lines in
    omega (arith, low, few, lines)

pub invariant_of-self : goal.invariant_of-self
invariant_of-self c =
    let r = c.self.inside in
    let some = c.if-self-eq0.false in
    let low = c.self.invariant.low in
    let few = first_few r.bytes.now in
    let lines = c.first_report-lines.ensures.lines in
    let most = c.self.invariant.most in
    let short = c.self.invariant.short in
    let all = ap (λ (b : List ℕ). length b) (first_and_later r.bytes.now) in
    let parts = length-append (first_report r.bytes.now) (later_reports r.bytes.now) in
    record {
      some = c.self.invariant.some;
      most = omega (arith, most);
      short = omega (arith, all, parts, short, ap (λ (b : List ℕ). length b) c.first_report-lines.ensures.later);
      low = omega (arith, some, low, few, lines);
    }
