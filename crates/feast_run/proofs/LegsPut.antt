-- The legs of a chain that are run and put one after another.
use Rattle.std.proofs.Common.{ℕ, suc, ◌≡◌, ◌+◌, ◌-◌, ◌≤◌, ◌<◌, Bool, true, false, List, [], ◌∷◌, ◌++◌, append_assoc, length, length-append, Result, Ok, Err, refl, sym, ap, subst, ◌∙◌, arith}
use Rattle.std.specs.Result.{IsErrAnd}
use Rattle.cell_grid.specs.Grid.{GridValue}
use Rattle.chain_run.proofs.Behind.{counts_behind_leg, grid_behind_leg, legs_behind, stepped_behind, text_behind}
use Rattle.chain_run.specs.Chains.{AreLegsOf, first_grid, making}
use Rattle.chain_run.specs.Legs.{AreLegs, Leg, grid_after, leg_course}
use Rattle.chain_run.specs.Reports.{CountsValue, counts_after, counts_behind, leg_text, legs_text, no_counts}
use Rattle.chain_run.specs.Runs.{leg_of, stepped_leg, stepped_legs_from}
use Rattle.event_journal.specs.Logs.{abandoned_in, records_in}
use Rattle.event_journal.specs.Serial.{IsSerial}
use Rattle.feast_base.specs.Loading.{IsCut, IsPut}
use Rattle.feast_base.specs.Outside.{Grows, SinkState}
use Rattle.feast_run.specs.Chains.{first_text}
use Rattle.feast_run.specs.Changes.{Change}
use Rattle.feast_run.specs.Ending.{StopsBehind, StopsWithin}
use Rattle.feast_run.specs.Legs.{AreMade, IsLegMade, PutsLegs}
use Rattle.feast_run.specs.Outputs.{LegsLeave}
use Rattle.feast_run.specs.Stages.{ReadyChainValue}
use Rattle.report_text.proofs.Putting.{cut_then, grows_then, put_none, put_then}
use Rattle.report_text.specs.Writing.{Writes}
use Rattle.report_text.specs.declared.write_fault.WriteFault.{WriteFault}
use Rattle.report_text.specs.declared.write_fault.WriteFault.TheVariants.{Sink, NoMemory}
use Rattle.serial_order.specs.declared.outcome.Outcome.{Outcome}

-- the legs of a chain that were made so far, the grid that the last one left, and the counts behind it
pub record AreUnderway (stepped : Bool) (c : ReadyChainValue) (grid : GridValue) (counts : CountsValue) (legs : List Leg) : Type 0 where
  pub follow : AreLegs (making c.chain c.meaning) c.chain.first (first_grid c.chain) legs
  pub made : AreMade stepped c legs
  pub left : grid ≡ grid_after (first_grid c.chain) legs
  pub counted : counts ≡ counts_after c.chain c.chain.first no_counts legs

-- so many legs were made, and their reports put
pub record ArePut (stepped : Bool) (c : ReadyChainValue) (count : ℕ) (grid : GridValue) (counts : CountsValue) (sink : Change SinkState) : Type 0 where
  pub legs : List Leg
  pub many : length legs ≡ count
  pub underway : AreUnderway stepped c grid counts legs
  pub put : IsPut sink.old sink.new (first_text c legs)

none_made : (stepped : Bool) (c : ReadyChainValue) → AreMade stepped c []
unfolding stepped_legs_from
none_made true c = refl
none_made false c = tt

none_follow : (c : ReadyChainValue) → AreLegs (making c.chain c.meaning) c.chain.first (first_grid c.chain) []
unfolding AreLegs
none_follow c = tt

none_underway : (stepped : Bool) (c : ReadyChainValue) (grid : GridValue) (counts : CountsValue) → grid ≡ first_grid c.chain → counts ≡ no_counts → AreUnderway stepped c grid counts []
unfolding grid_after counts_after
none_underway stepped c grid counts is none = record { follow = none_follow c; made = none_made stepped c; left = is; counted = none }

-- before the first leg
none_text : (c : ReadyChainValue) → [] ≡ first_text c []
unfolding legs_text
none_text c = refl

pub none_put : (stepped : Bool) (c : ReadyChainValue) (grid : GridValue) (counts : CountsValue) (s : SinkState) → grid ≡ first_grid c.chain → counts ≡ no_counts → ArePut stepped c 0 grid counts (record { old = s; new = s })
none_put stepped c grid counts s is none = record {
  legs = [];
  many = refl;
  underway = none_underway stepped c grid counts is none;
  put = subst (IsPut s s) (none_text c) (put_none s);
}

-- the leg that a run or a stepped run left
serial_made : (stepped : Bool) (c : ReadyChainValue) (k : ℕ) (g : GridValue) (o : Outcome) → IsLegMade stepped c k g o → IsSerial (leg_course (making c.chain c.meaning) k g) o.grid (records_in o.journal) (abandoned_in o.journal)
serial_made true c k g o h = h.in_order.serial
serial_made false c k g o h = h.serial

stepped_is : (c : ReadyChainValue) (k : ℕ) (g : GridValue) (o : Outcome) → IsLegMade true c k g o → leg_of o ≡ stepped_leg c.chain c.meaning k g
stepped_is c k g o h = (λ i. record { grid = h.grid i; records = records_in (h.journal i); abandoned = abandoned_in (h.journal i) })

made_more : (stepped : Bool) (c : ReadyChainValue) (legs : List Leg) (o : Outcome) → AreMade stepped c legs → IsLegMade stepped c (c.chain.first + length legs) (grid_after (first_grid c.chain) legs) o → AreMade stepped c (legs ++ leg_of o ∷ [])
made_more true c legs o h made =
    let g = first_grid c.chain in
    let n = length legs in
    let k = c.chain.first in
    let long : suc n ≡ length (legs ++ leg_of o ∷ []) = let e = length-append legs (leg_of o ∷ []) in let one : length (leg_of o ∷ []) ≡ 1 = refl in omega (arith, e, one) in
    ap (λ l. legs ++ l ∷ []) (stepped_is c (k + n) (grid_after g legs) o made)
    ∙ ap (λ ls. ls ++ stepped_leg c.chain c.meaning (k + n) (grid_after g ls) ∷ []) h
    ∙ sym (stepped_behind c.chain c.meaning k g n)
    ∙ ap (stepped_legs_from c.chain c.meaning k g) long
made_more false c legs o h made = tt

-- a leg of this number, made from this grid, is the next one
next_made : (stepped : Bool) (c : ReadyChainValue) (count : ℕ) (grid : GridValue) (counts : CountsValue) (sink : Change SinkState) (o : Outcome) (p : ArePut stepped c count grid counts sink) → IsLegMade stepped c (c.chain.first + count) grid o →
    IsLegMade stepped c (c.chain.first + length p.legs) (grid_after (first_grid c.chain) p.legs) o
next_made stepped c count grid counts sink o p made =
    subst (λ (v : GridValue). IsLegMade stepped c (c.chain.first + length p.legs) v o) p.underway.left (subst (λ n. IsLegMade stepped c (c.chain.first + n) grid o) (sym p.many) made)

one_underway : (stepped : Bool) (c : ReadyChainValue) (grid : GridValue) (counts : CountsValue) (legs : List Leg) (o : Outcome) → AreUnderway stepped c grid counts legs → IsLegMade stepped c (c.chain.first + length legs) (grid_after (first_grid c.chain) legs) o →
    AreUnderway stepped c o.grid (counts_behind c.chain (c.chain.first + length legs) counts (leg_of o)) (legs ++ leg_of o ∷ [])
one_underway stepped c grid counts legs o u here =
    let g = first_grid c.chain in
    let k = c.chain.first in
    record {
      follow = legs_behind (making c.chain c.meaning) k g legs (leg_of o) u.follow (serial_made stepped c (k + length legs) (grid_after g legs) o here);
      made = made_more stepped c legs o u.made here;
      left = sym (grid_behind_leg g legs (leg_of o));
      counted = ap (λ (n : CountsValue). counts_behind c.chain (k + length legs) n (leg_of o)) u.counted ∙ sym (counts_behind_leg c.chain k no_counts legs (leg_of o));
    }

-- one leg more
one_longer : (legs : List Leg) (l : Leg) (count : ℕ) → length legs ≡ count → length (legs ++ l ∷ []) ≡ count + 1
one_longer legs l count many = let e = length-append legs (l ∷ []) in let one : length (l ∷ []) ≡ 1 = refl in omega (arith, e, one, many)

-- the text of one leg more
one_text : (stepped : Bool) (c : ReadyChainValue) (count : ℕ) (grid : GridValue) (counts : CountsValue) (sink : Change SinkState) (o : Outcome) (p : ArePut stepped c count grid counts sink) →
    first_text c p.legs ++ leg_text c.chain c.names (c.chain.first + count) counts (leg_of o) ≡ first_text c (p.legs ++ leg_of o ∷ [])
one_text stepped c count grid counts sink o p =
    ap (λ n. first_text c p.legs ++ leg_text c.chain c.names (c.chain.first + n) counts (leg_of o)) (sym p.many)
    ∙ ap (λ (n : CountsValue). first_text c p.legs ++ leg_text c.chain c.names (c.chain.first + length p.legs) n (leg_of o)) p.underway.counted
    ∙ sym (text_behind c.chain c.names c.chain.first no_counts p.legs (leg_of o))

-- one report more was put
pub one_put : (stepped : Bool) (c : ReadyChainValue) (count : ℕ) (grid : GridValue) (counts counts' : CountsValue) (o : Outcome) (old now new : SinkState) → ArePut stepped c count grid counts (record { old = old; new = now }) →
    IsLegMade stepped c (c.chain.first + count) grid o → counts' ≡ counts_behind c.chain (c.chain.first + count) counts (leg_of o) → IsPut now new (leg_text c.chain c.names (c.chain.first + count) counts (leg_of o)) →
    ArePut stepped c (count + 1) o.grid counts' (record { old = old; new = new })
one_put stepped c count grid counts counts' o old now new p made behind put =
    let sink : Change SinkState = record { old = old; new = now } in
    let here = next_made stepped c count grid counts sink o p made in
    let counted : counts_behind c.chain (c.chain.first + length p.legs) counts (leg_of o) ≡ counts' = ap (λ n. counts_behind c.chain (c.chain.first + n) counts (leg_of o)) p.many ∙ sym behind in
    record {
      legs = p.legs ++ leg_of o ∷ [];
      many = one_longer p.legs (leg_of o) count p.many;
      underway = subst (λ (n : CountsValue). AreUnderway stepped c o.grid n (p.legs ++ leg_of o ∷ [])) counted (one_underway stepped c grid counts p.legs o p.underway here);
      put = subst (IsPut old new) (one_text stepped c count grid counts sink o p) (put_then old now new (first_text c p.legs) (leg_text c.chain c.names (c.chain.first + count) counts (leg_of o)) p.put put);
    }

-- all legs
all_leave : (stepped : Bool) (c : ReadyChainValue) (grid : GridValue) (counts : CountsValue) (legs : List Leg) → length legs ≡ c.chain.legs → AreUnderway stepped c grid counts legs → LegsLeave stepped c (first_text c legs)
all_leave true c grid counts legs many u =
    let all : legs ≡ stepped_legs_from c.chain c.meaning c.chain.first (first_grid c.chain) c.chain.legs = u.made ∙ ap (stepped_legs_from c.chain c.meaning c.chain.first (first_grid c.chain)) many in
    (subst (AreLegsOf c.chain c.meaning) all (record { count = many; follow = u.follow }), ap (first_text c) all)
all_leave false c grid counts legs many u = record { legs = legs; are = record { count = many; follow = u.follow }; shown = refl }

pub all_put : (stepped : Bool) (c : ReadyChainValue) (grid : GridValue) (counts : CountsValue) (old new : SinkState) → ArePut stepped c c.chain.legs grid counts (record { old = old; new = new }) →
    (text : List ℕ) × LegsLeave stepped c text × IsPut old new text
all_put stepped c grid counts old new p = (first_text c p.legs, all_leave stepped c grid counts p.legs p.many p.underway, p.put)

-- a run that stops behind some legs, whose reports were put
behind_by : (stepped : Bool) (c : ReadyChainValue) (count : ℕ) (grid : GridValue) (counts : CountsValue) (old now new : SinkState) → ArePut stepped c count grid counts (record { old = old; new = now }) → count < c.chain.legs →
    new.written ≡ now.written → new.faults ≡ now.faults → StopsBehind c (record { old = old; new = new })
behind_by stepped c count grid counts old now new p fewer written faults = record {
  legs = p.legs;
  are = record { few = let m = p.many in omega (arith, m, fewer); follow = p.underway.follow };
  fewer = let m = p.many in omega (arith, m, fewer);
  grows = subst (λ w. Grows old.written w (first_text c p.legs)) (sym written) p.put.grows;
  same = faults ∙ p.put.same;
}

-- memory ran out for the next one
pub stops_behind : {T : Type 0} (stepped : Bool) (c : ReadyChainValue) (count : ℕ) (grid : GridValue) (counts : CountsValue) (old now : SinkState) (r : Result T WriteFault) → ArePut stepped c count grid counts (record { old = old; new = now }) →
    count < c.chain.legs → IsErrAnd r (λ e. e ≡ NoMemory) → PutsLegs stepped c (record { old = old; new = now }) r
stops_behind stepped c count grid counts old now (Ok x) p fewer is = absurd is
stops_behind {T = T} stepped c count grid counts old now (Err e) p fewer is =
    subst (λ (v : WriteFault). PutsLegs {T = T} stepped c (record { old = old; new = now }) (Err v)) (sym is) (behind_by stepped c count grid counts old now now p fewer refl refl)

-- before the first leg
pub stops_before : {T : Type 0} (stepped : Bool) (c : ReadyChainValue) (s : SinkState) (r : Result T WriteFault) → 1 ≤ c.chain.legs → IsErrAnd r (λ e. e ≡ NoMemory) → PutsLegs stepped c (record { old = s; new = s }) r
stops_before stepped c s r some is = stops_behind stepped c 0 (first_grid c.chain) no_counts s s r (none_put stepped c (first_grid c.chain) no_counts s refl refl) (omega (arith, some)) is

-- in the report of the next one
within_by : (stepped : Bool) (c : ReadyChainValue) (count : ℕ) (grid : GridValue) (counts : CountsValue) (o : Outcome) (old now new : SinkState) → ArePut stepped c count grid counts (record { old = old; new = now }) → count < c.chain.legs →
    IsLegMade stepped c (c.chain.first + count) grid o → IsCut now new (leg_text c.chain c.names (c.chain.first + count) counts (leg_of o)) → StopsWithin c (record { old = old; new = new })
within_by stepped c count grid counts o old now new p fewer made cut =
    let sink : Change SinkState = record { old = old; new = now } in
    let here = next_made stepped c count grid counts sink o p made in
    let more = one_underway stepped c grid counts p.legs o p.underway here in
    let front = first_text c p.legs in
    let text = leg_text c.chain c.names (c.chain.first + count) counts (leg_of o) in
    let is : first_text c (p.legs ++ leg_of o ∷ []) ≡ front ++ text = sym (one_text stepped c count grid counts sink o p) in
    let whole = cut_then old now new front text (first_text c (p.legs ++ leg_of o ∷ [])) is p.put cut in
    record {
      legs = p.legs;
      leg = leg_of o;
      are = record { few = let m = one_longer p.legs (leg_of o) count p.many in omega (arith, m, fewer); follow = more.follow };
      cut = record {
        front = front ++ cut.front;
        rest = cut.rest;
        split = is ∙ ap (λ t. front ++ t) cut.split ∙ sym (append_assoc front cut.front cut.rest);
        grows = grows_then old.written now.written new.written front cut.front p.put.grows cut.grows;
        more = whole.more;
        cause = whole.cause;
      };
      part = cut.front;
      behind = refl;
    }

-- the report of the next one could not be put
pub stops_put : {T : Type 0} (U : Type 0) (stepped : Bool) (c : ReadyChainValue) (count : ℕ) (grid : GridValue) (counts : CountsValue) (o : Outcome) (old now new : SinkState) (fault : WriteFault) (r : Result T WriteFault) →
    ArePut stepped c count grid counts (record { old = old; new = now }) → count < c.chain.legs → IsLegMade stepped c (c.chain.first + count) grid o → Writes {T = U} now new (leg_text c.chain c.names (c.chain.first + count) counts (leg_of o)) (Err fault) →
    IsErrAnd r (λ e. e ≡ fault) → PutsLegs stepped c (record { old = old; new = new }) r
stops_put U stepped c count grid counts o old now new fault (Ok x) p fewer made writes is = absurd is
stops_put {T = T} U stepped c count grid counts o old now new fault (Err e) p fewer made writes is =
    subst (λ (v : WriteFault). PutsLegs {T = T} stepped c (record { old = old; new = new }) (Err v)) (sym is) (by fault writes)
  where
    by : (f : WriteFault) → Writes {T = U} now new (leg_text c.chain c.names (c.chain.first + count) counts (leg_of o)) (Err f) → PutsLegs {T = T} stepped c (record { old = old; new = new }) (Err f)
    by Sink w = within_by stepped c count grid counts o old now new p fewer made w
    by NoMemory w = behind_by stepped c count grid counts old now new p fewer w.0 w.1
