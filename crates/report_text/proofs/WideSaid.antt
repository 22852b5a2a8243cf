-- What a line stands for says its fields.
use Rattle.std.proofs.Common.{ℕ, zero, suc, ◌≡◌, ◌+◌, ◌/◌, ◌%◌, ◌≤◌, ◌==◌, Bool, true, false, List, [], ◌∷◌, decimal, length, refl, ap, sym, subst, ◌∙◌, arith}
use Rattle.std.specs.Fmt.{digit_glyph, digits, digits_onto}
use Rattle.std.specs.List.{list_all}
use Rattle.std.specs.Prelude.{nat_le, nat_lt, if◌then◌else◌}
use Rattle.std.proofs.lemmas.List.Elements.{All-nil}
use Rattle.cell_grid.specs.declared.record.Record.{Record}
use Rattle.draw_stream.specs.declared.attempt.Attempt.{Attempt}
use Rattle.event_journal.specs.declared.abandoned.Abandoned.{Abandoned}
use Rattle.report_text.proofs.Exact.{fields_joined}
use Rattle.report_text.proofs.InARow.{line_lacks}
use Rattle.report_text.proofs.WideKinds.{by_kind}
use Rattle.report_text.specs.JournalText.{abandoned_fields, record_fields}
use Rattle.report_text.specs.Widened.{widened, widened_abandoned, widened_record}
use Rattle.text_lines.proofs.Joined.{fields_again}
use Rattle.text_lines.proofs.Printed.{hex_high}
use Rattle.text_lines.specs.Fields.{Lacks, fields, fields_after}
use Rattle.text_lines.specs.Lines.{line_text}
use Rattle.text_lines.specs.Printed.{IsLine, is_high}
use Rattle.tile_map.specs.Plane.{MapValue}

-- Entries whatever their numbers: the site for which a line stands is any, if the plan is not one of the map

digit_high : (d : ℕ) → is_high (digit_glyph false d) ≡ true
digit_high d = on (nat_lt d 10)
  where
    on : (b : Bool) → nat_le 48 (if◌then◌else◌ {A = ℕ} b (48 + d) (87 + d)) ≡ true
    on true = grind arith
    on false = grind arith

spelled_high : (k n : ℕ) (acc : List ℕ) → list_all is_high acc ≡ true → list_all is_high (digits_onto k 10 false n acc) ≡ true
spelled_high zero n acc high = high
spelled_high (suc k) n acc high =
    let more : list_all is_high (digit_glyph false (n % 10) ∷ acc) ≡ true = rw (digit_high (n % 10), high) refl in
    on (n / 10 == 0) (digit_glyph false (n % 10) ∷ acc) (digits_onto k 10 false (n / 10) (digit_glyph false (n % 10) ∷ acc)) more (spelled_high k (n / 10) (digit_glyph false (n % 10) ∷ acc) more)
  where
    on : (b : Bool) (xs ys : List ℕ) → list_all is_high xs ≡ true → list_all is_high ys ≡ true → list_all is_high (if◌then◌else◌ {A = List ℕ} b xs ys) ≡ true
    on true xs ys p q = p
    on false xs ys p q = q

number_high : (n : ℕ) → list_all is_high (decimal n) ≡ true
unfolding digits
number_high n = spelled_high 64 n [] refl

event_line : (r : Record) → IsLine (record_fields r)
event_line r = record { some = omega arith; high = rw (number_high r.stamp, number_high r.tile, number_high r.attempt, number_high r.x, number_high r.y, hex_high 16 r.seed) refl }

gone_line : (g : Abandoned) → IsLine (abandoned_fields g)
gone_line g = record {
  some = omega arith;
  high = rw (number_high g.tile, number_high g.attempt, number_high g.x, number_high g.y, number_high g.edge, number_high g.holder, number_high g.holder_attempt) refl;
}

-- fields that their line says, unless there is none
pub record IsSaid (w : List (List ℕ)) : Type 0 where
  pub lacks : Lacks (line_text w) 10
  pub again : (l : List (List ℕ)) → 2 ≤ length l → fields (line_text w) ≡ l → w ≡ l

line_said : (w : List (List ℕ)) → IsLine w → IsSaid w
line_said w line = record { lacks = line_lacks w line; again = λ l many e. sym (fields_again w line) ∙ e }

none_said : IsSaid []
unfolding fields_after
none_said = record { lacks = All-nil _; again = λ l many e. let one : 1 ≡ length l = ap length e in absurd (omega (arith, many, one)) }

text_said : (x : List ℕ) → Lacks x 10 → IsSaid (fields x)
text_said x lacks = record {
  lacks = subst (λ z. Lacks z 10) (sym (fields_joined x)) lacks;
  again = λ l many e. ap fields (sym (fields_joined x)) ∙ e;
}

pub widened_said : (m : MapValue) (lists : List (List Attempt)) (x : List ℕ) → Lacks x 10 → IsSaid (widened m lists (fields x))
widened_said m lists x lacks =
    by_kind m lists (fields x) IsSaid (record {
      event = λ r h. line_said _ (event_line (widened_record m lists r));
      gone = λ g h. line_said _ (gone_line (widened_abandoned m lists g));
      head = λ h. line_said _ (record { some = omega arith; high = refl });
      empty = none_said;
      same = λ h. text_said x lacks;
    })
