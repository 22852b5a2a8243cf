-- What the reader of a report takes, step by step.
use Rattle.std.proofs.Common.{ℕ, ◌≡◌, ◌+◌, ◌<◌, ◌≤◌, Bool, true, false, not, List, [], ◌∷◌, ◌++◌, codes, get_or, length, refl, ap, sym, subst, ◌∙◌, arith, Option, Some, None, Result, Ok, Err, inl, inr, leb-true, ltb-true}
use Rattle.std.specs.Prelude.{nat_lt, if◌then◌else◌}
use Rattle.std.proofs.Math.ListN.{set}
use Rattle.std.proofs.lemmas.Bool.Decides.{eqb_tells, nat_tests}
use Rattle.std.proofs.lemmas.List.{get_or-set_other, get_or-set_same}
use Rattle.cell_grid.specs.declared.record.Record.{Record}
use Rattle.draw_stream.specs.declared.attempt.Attempt.{Attempt}
use Rattle.event_journal.proofs.WalkSteps.{before_order}
use Rattle.event_journal.specs.Logs.{is_before}
use Rattle.event_journal.specs.declared.abandoned.Abandoned.{Abandoned}
use Rattle.report_text.proofs.Ahead.{IsAhead}
use Rattle.report_text.specs.Forms.{abandoned_form, count_form, is_atom, is_header, record_form}
use Rattle.report_text.specs.Reading.{Said, Wants, abandoned, abandoned_count, atom_count, atoms, count_line, earlier, fields_step, go_on, header, is_behind, is_over, line_step, not_later, nothing, put_abandoned, put_record, put_sites, read_lines, record_count, record_fault, record_step, records, unless, want_abandoned, want_atoms, want_records}
use Rattle.report_text.specs.declared.journal_fault.LineFault.{LineFault}
use Rattle.report_text.specs.declared.journal_fault.LineFault.TheVariants.{BadForm}
use Rattle.text_lines.specs.Fields.{fields}
use Rattle.tile_map.specs.Plane.{MapValue}

-- Steps that were made

if_ok : (b : Bool) (x y : Said) → if◌then◌else◌ {A = Result Said LineFault} b (Ok x) (Err BadForm) ≡ Ok y → (b ≡ true) × (x ≡ y)
if_ok true x y h = (refl, cc)
if_ok false x y h = cc

was_counted : (d x : Said) (next : ℕ → Wants) (o : Option ℕ) → count_line d next o ≡ Ok x → (k : ℕ) × (o ≡ Some k) × (record d { wants = next k } ≡ x)
was_counted d x next None h = cc
was_counted d x next (Some k) h = (k, refl, cc)

sites_counted : (d x : Said) (o : Option ℕ) → put_sites d o ≡ Ok x → (k : ℕ) × (o ≡ Some k) × (record d { wants = want_atoms k; sites = k } ≡ x)
sites_counted d x None h = cc
sites_counted d x (Some k) h = (k, refl, cc)

was_given_up : (d x : Said) (next : Wants) (o : Option Abandoned) → put_abandoned d next o ≡ Ok x → (g : Abandoned) × (o ≡ Some g) × (record d { wants = next; gone = d.gone ++ g ∷ [] } ≡ x)
was_given_up d x next None h = cc
was_given_up d x next (Some g) h = (g, refl, cc)

unless_ok : (o : Option LineFault) (x y : Said) → unless o x ≡ Ok y → (o ≡ None) × (x ≡ y)
unless_ok None x y h = (refl, cc)
unless_ok (Some fault) x y h = cc

-- where a record has no fault
pub by_fault : (a : Bool) (o : Option ℕ) (b c : Bool) (x y z : LineFault) → (if not a then Some x else earlier o (if not b then Some y else (if not c then Some z else None))) ≡ None → (a ≡ true) × (o ≡ None) × (b ≡ true) × (c ≡ true)
by_fault false o b c x y z h = cc
by_fault true (Some l) b c x y z h = cc
by_fault true None false c x y z h = cc
by_fault true None true false x y z h = cc
by_fault true None true true x y z h = (refl, refl, refl, refl)

-- a record before has a stamp
abbrev pub IsStarted : Option Record → Type 0
IsStarted before = (p : Record) → before ≡ Some p → 1 ≤ p.stamp

pub stamp_low : (before : Option Record) (r : Record) → IsStarted before → is_behind before r ≡ true → 1 ≤ r.stamp
stamp_low None r started h = leb-true 1 r.stamp h
stamp_low (Some p) r started h = later p r (started p refl) h
  where
    later : (p r : Record) → 1 ≤ p.stamp → is_before p r ≡ true → 1 ≤ r.stamp
    later p r some h = grind (arith, nat_tests, some, h)

-- the last record of a tile has a smaller attempt
none_less : (o : Option (ℕ × ℕ)) (attempt : ℕ) → not_later o attempt ≡ None → (q : ℕ × ℕ) → o ≡ Some q → q.1 < attempt
none_less None attempt h q e = cc
none_less (Some p) attempt h q e = on (nat_lt p.1 attempt) refl h
  where
    on : (b : Bool) → nat_lt p.1 attempt ≡ b → (if◌then◌else◌ {A = Option ℕ} b None (Some p.0)) ≡ None → q.1 < attempt
    on true is g = let same : p ≡ q = cc in subst (λ (z : ℕ × ℕ). z.1 < attempt) same (ltb-true p.1 attempt is)
    on false is g = cc

-- where the reader stands before a record that it takes, by where it stands behind it
pub ahead_of : (n : ℕ) (before : Option Record) (lasts : List (Option (ℕ × ℕ))) (r : Record) (rs : List Record) → is_behind before r ≡ true → not_later (get_or lasts r.tile None) r.attempt ≡ None → r.tile < length lasts →
    IsAhead (Some r) (set lasts r.tile (Some (n, r.attempt))) rs → IsAhead before lasts (r ∷ rs)
ahead_of n before lasts r rs behind later inside is = record {
  behind = λ p e s i. elim i [
    | inl same ↦ subst (λ (z : Record). is_before p z ≡ true) (sym same) (first p e)
    | inr there ↦ before_order.trans p r s (first p e) (is.behind r refl s there)
  ];
  later = λ t q e s i tile. elim i [
    | inl same ↦
        let at : r.tile ≡ t = ap (λ (z : Record). z.tile) (sym same) ∙ tile in
        subst (λ (z : Record). q.1 < z.attempt) (sym same) (none_less (get_or lasts r.tile None) r.attempt later q (ap (λ k. get_or lasts k None) at ∙ e))
    | inr there ↦ elim (eqb_tells t r.tile) [
      | inl at ↦
          let here = none_less (get_or lasts r.tile None) r.attempt later q (ap (λ k. get_or lasts k None) (sym at.1) ∙ e) in
          let less = is.later r.tile (n, r.attempt) (get_or-set_same lasts r.tile (Some (n, r.attempt)) None inside) s there (tile ∙ at.1) in
          omega (arith, here, less)
      | inr off ↦ is.later t q (get_or-set_other lasts r.tile t (Some (n, r.attempt)) None off.1 ∙ e) s there tile
    ]
  ];
}
  where
    first : (p : Record) → before ≡ Some p → is_before p r ≡ true
    first p e = subst (λ (o : Option Record). is_behind o r ≡ true) e behind

module _ (m : MapValue) (lists : List (List Attempt)) where
  -- a line where this is wanted
  pub record Stepped (n : ℕ) (d e : Said) (w : Wants) (ts : List (Option (List ℕ))) : Type 0 where
    pub text : List ℕ
    pub rest : List (Option (List ℕ))
    pub next : Said
    pub is : ts ≡ Some text ∷ rest
    pub step : fields_step m lists n d w (fields text) ≡ Ok next
    pub reads : read_lines m lists (n + 1) next rest ≡ Ok e

  pub stepped : (n : ℕ) (d e : Said) (w : Wants) (ts : List (Option (List ℕ))) → d.wants ≡ w → is_over w ≡ false → read_lines m lists n d ts ≡ Ok e → Stepped n d e w ts
  unfolding read_lines line_step
  stepped n d e w [] is more h = let over : is_over d.wants ≡ false = ap is_over is ∙ more in let g = rw over at h in cc
  stepped n d e w (None ∷ ts) is more h = cc
  stepped n d e w (Some t ∷ ts) is more h = on (fields_step m lists n d d.wants (fields t)) refl h
    where
      on : (r : Result Said LineFault) → fields_step m lists n d d.wants (fields t) ≡ r → go_on n r (λ x. read_lines m lists (n + 1) x ts) ≡ Ok e → Stepped n d e w (Some t ∷ ts)
      on (Err fault) at g = cc
      on (Ok x) at g = record { text = t; rest = ts; next = x; is = refl; step = ap (λ v. fields_step m lists n d v (fields t)) (sym is) ∙ at; reads = g }

  -- no line where nothing more is wanted
  pub over_said : (n : ℕ) (d e : Said) (ts : List (Option (List ℕ))) → d.wants ≡ nothing → read_lines m lists n d ts ≡ Ok e → (ts ≡ []) × (d ≡ e)
  unfolding read_lines line_step fields_step
  over_said n d e [] is h = let over : is_over d.wants ≡ true = ap is_over is in let g = rw over at h in (refl, cc)
  over_said n d e (None ∷ ts) is h = cc
  over_said n d e (Some t ∷ ts) is h = let g = rw is at h in cc

  pub header_said : (n : ℕ) (d x : Said) (fs : List (List ℕ)) → fields_step m lists n d header fs ≡ Ok x → (is_header fs ≡ true) × (record d { wants = atom_count } ≡ x)
  unfolding fields_step
  header_said n d x fs h = if_ok (is_header fs) (record d { wants = atom_count }) x h

  pub site_said : (n k : ℕ) (d x : Said) (fs : List (List ℕ)) → fields_step m lists n d (atoms k) fs ≡ Ok x → (is_atom fs ≡ true) × (record d { wants = want_atoms k } ≡ x)
  unfolding fields_step
  site_said n k d x fs h = if_ok (is_atom fs) (record d { wants = want_atoms k }) x h

  pub atoms_said : (n : ℕ) (d x : Said) (fs : List (List ℕ)) → fields_step m lists n d atom_count fs ≡ Ok x → (k : ℕ) × (count_form (codes "atoms") fs ≡ Some k) × (record d { wants = want_atoms k; sites = k } ≡ x)
  unfolding fields_step
  atoms_said n d x fs h = sites_counted d x (count_form (codes "atoms") fs) h

  pub records_said : (n : ℕ) (d x : Said) (fs : List (List ℕ)) → fields_step m lists n d record_count fs ≡ Ok x → (k : ℕ) × (count_form (codes "journal") fs ≡ Some k) × (record d { wants = want_records k } ≡ x)
  unfolding fields_step
  records_said n d x fs h = was_counted d x want_records (count_form (codes "journal") fs) h

  pub gone_said : (n : ℕ) (d x : Said) (fs : List (List ℕ)) → fields_step m lists n d abandoned_count fs ≡ Ok x → (k : ℕ) × (count_form (codes "abandoned") fs ≡ Some k) × (record d { wants = want_abandoned k } ≡ x)
  unfolding fields_step
  gone_said n d x fs h = was_counted d x want_abandoned (count_form (codes "abandoned") fs) h

  pub given_up_said : (n k : ℕ) (d x : Said) (fs : List (List ℕ)) → fields_step m lists n d (abandoned k) fs ≡ Ok x → (g : Abandoned) × (abandoned_form fs ≡ Some g) × (record d { wants = want_abandoned k; gone = d.gone ++ g ∷ [] } ≡ x)
  unfolding fields_step
  given_up_said n k d x fs h = was_given_up d x (want_abandoned k) (abandoned_form fs) h

  pub record_said : (n k : ℕ) (d x : Said) (fs : List (List ℕ)) → fields_step m lists n d (records k) fs ≡ Ok x →
      (r : Record) × (record_form fs ≡ Some r) × (record_fault m n d.before (get_or d.lasts r.tile None) (get_or lists r.tile []) r ≡ None) × (put_record n d (want_records k) r ≡ x)
  unfolding fields_step record_step
  record_said n k d x fs h = on (record_form fs) refl h
    where
      on : (o : Option Record) → record_form fs ≡ o → record_step m lists n d (want_records k) o ≡ Ok x →
          (r : Record) × (record_form fs ≡ Some r) × (record_fault m n d.before (get_or d.lasts r.tile None) (get_or lists r.tile []) r ≡ None) × (put_record n d (want_records k) r ≡ x)
      on None is g = cc
      on (Some r) is g =
          let u = unless_ok (record_fault m n d.before (get_or d.lasts r.tile None) (get_or lists r.tile []) r) (put_record n d (want_records k) r) x g in
          (r, is, u.0, u.1)
