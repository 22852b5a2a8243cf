-- The kinds of lines of a short report, and what each stands for.
use Rattle.std.proofs.Common.{ℕ, ◌≡◌, Bool, true, false, List, [], ◌∷◌, codes, refl, Option, Some, None}
use Rattle.std.specs.Prelude.{if◌then◌else◌}
use Rattle.draw_stream.specs.declared.attempt.Attempt.{Attempt}
use Rattle.report_text.specs.JournalText.{abandoned_fields, record_fields}
use Rattle.report_text.specs.Widened.{is_long, is_short_header, or_abandoned, or_record, short_abandoned_form, short_record_form, widened, widened_abandoned, widened_record}
use Rattle.report_text.specs.declared.short_forms.ShortAbandoned.{ShortAbandoned}
use Rattle.report_text.specs.declared.short_forms.ShortRecord.{ShortRecord}
use Rattle.tile_map.specs.Plane.{MapValue}

-- each kind of line stands for fields of which this holds
pub record EachHas (m : MapValue) (lists : List (List Attempt)) (fs : List (List ℕ)) (P : List (List ℕ) → Type 0) : Type 0 where
  pub event : (r : ShortRecord) → short_record_form fs ≡ Some r → P (record_fields (widened_record m lists r))
  pub gone : (g : ShortAbandoned) → short_abandoned_form fs ≡ Some g → P (abandoned_fields (widened_abandoned m lists g))
  pub head : is_short_header fs ≡ true → P (codes "feast" ∷ codes "1" ∷ [])
  pub empty : P []
  pub same : is_long fs ≡ false → P fs

module _ (m : MapValue) (lists : List (List Attempt)) (fs : List (List ℕ)) (P : List (List ℕ) → Type 0) (each : EachHas m lists fs P) where
  by_long : (b : Bool) → is_long fs ≡ b → P (if◌then◌else◌ {A = List (List ℕ)} b [] fs)
  by_long true is = each.empty
  by_long false is = each.same is

  by_head : (b : Bool) → is_short_header fs ≡ b → P (if◌then◌else◌ {A = List (List ℕ)} b (codes "feast" ∷ codes "1" ∷ []) (if◌then◌else◌ {A = List (List ℕ)} (is_long fs) [] fs))
  by_head true is = each.head is
  by_head false is = by_long (is_long fs) refl

  by_gone : (o : Option ShortAbandoned) → short_abandoned_form fs ≡ o → P (or_abandoned m lists fs o)
  by_gone (Some g) is = each.gone g is
  by_gone None is = by_head (is_short_header fs) refl

  by_event : (o : Option ShortRecord) → short_record_form fs ≡ o → P (or_record m lists fs o)
  by_event (Some r) is = each.event r is
  by_event None is = by_gone (short_abandoned_form fs) refl

  -- so it holds of the fields for which the line stands
  pub by_kind : P (widened m lists fs)
  by_kind = by_event (short_record_form fs) refl
