-- A line with a form of a short report is the one spelling of what it says.
use Rattle.std.proofs.Common.{ℕ, ◌≡◌, ◌^◌, ◌<◌, true, List, [], ◌∷◌, bytes_eq, codes, decimal, ap, subst, ◌∙◌, arith, Option, Some, None}
use Rattle.std.proofs.lemmas.Slice.Eq.{bytes_eq-Decides}
use Rattle.list_laws.proofs.Tests.{both}
use Rattle.report_text.proofs.Exact.{below_exact, last_exact, map_some, one_exact, with_some}
use Rattle.report_text.specs.Forms.{take_attempt, take_small}
use Rattle.report_text.specs.Short.{short_header}
use Rattle.report_text.specs.Widened.{is_short_header, is_two, last_attempt, short_abandoned_form, short_record_form}
use Rattle.report_text.specs.declared.short_forms.ShortAbandoned.{ShortAbandoned}
use Rattle.report_text.specs.declared.short_forms.ShortRecord.{ShortRecord}
use Rattle.text_lines.specs.Forms.{one_field}

-- the numbers of a short event, and the fields that spell it
pub record IsShortRecord (fs : List (List ℕ)) (r : ShortRecord) : Type 0 where
  pub line : fs ≡ decimal r.stamp ∷ decimal r.tile ∷ decimal r.attempt ∷ []
  pub stamp : r.stamp < 2 ^ 32
  pub tile : r.tile < 2 ^ 32
  pub attempt : r.attempt < 2 ^ 64

pub short_record_exact : (fs : List (List ℕ)) (r : ShortRecord) → short_record_form fs ≡ Some r → IsShortRecord fs r
unfolding short_record_form
short_record_exact fs r h =
    let a = with_some (take_small fs) _ r h in
    let b = with_some (take_small a.0.1) _ r a.2 in
    let c = map_some _ (last_attempt b.0.1) r b.2 in
    let stamp = below_exact (2 ^ 32) fs a.0 (omega arith) a.1 in
    let tile = below_exact (2 ^ 32) a.0.1 b.0 (omega arith) b.1 in
    let last = last_exact (2 ^ 64) b.0.1 c.0 (omega arith) c.1 in
    subst (IsShortRecord fs) c.2 (record {
      line = stamp.0 ∙ ap (λ z. decimal a.0.0 ∷ z) (tile.0 ∙ ap (λ z. decimal b.0.0 ∷ z) last.0);
      stamp = stamp.1;
      tile = tile.1;
      attempt = last.1;
    })

-- those of a short abandoned attempt
pub record IsShortAbandoned (fs : List (List ℕ)) (g : ShortAbandoned) : Type 0 where
  pub line : fs ≡ decimal g.tile ∷ decimal g.attempt ∷ decimal g.edge ∷ decimal g.holder ∷ decimal g.holder_attempt ∷ []
  pub tile : g.tile < 2 ^ 32
  pub attempt : g.attempt < 2 ^ 64
  pub edge : g.edge < 2 ^ 32
  pub holder : g.holder < 2 ^ 32
  pub holder_attempt : g.holder_attempt < 2 ^ 64

pub short_abandoned_exact : (fs : List (List ℕ)) (g : ShortAbandoned) → short_abandoned_form fs ≡ Some g → IsShortAbandoned fs g
unfolding short_abandoned_form
short_abandoned_exact fs g h =
    let a = with_some (take_small fs) _ g h in
    let b = with_some (take_attempt a.0.1) _ g a.2 in
    let c = with_some (take_small b.0.1) _ g b.2 in
    let d = with_some (take_small c.0.1) _ g c.2 in
    let l = map_some _ (last_attempt d.0.1) g d.2 in
    let tile = below_exact (2 ^ 32) fs a.0 (omega arith) a.1 in
    let attempt = below_exact (2 ^ 64) a.0.1 b.0 (omega arith) b.1 in
    let edge = below_exact (2 ^ 32) b.0.1 c.0 (omega arith) c.1 in
    let holder = below_exact (2 ^ 32) c.0.1 d.0 (omega arith) d.1 in
    let last = last_exact (2 ^ 64) d.0.1 l.0 (omega arith) l.1 in
    subst (IsShortAbandoned fs) l.2 (record {
      line = tile.0 ∙ ap (λ z. decimal a.0.0 ∷ z) (attempt.0 ∙ ap (λ z. decimal b.0.0 ∷ z) (edge.0 ∙ ap (λ z. decimal c.0.0 ∷ z) (holder.0 ∙ ap (λ z. decimal d.0.0 ∷ z) last.0)));
      tile = tile.1;
      attempt = attempt.1;
      edge = edge.1;
      holder = holder.1;
      holder_attempt = last.1;
    })

two_is : (o : Option (List ℕ)) → is_two o ≡ true → o ≡ Some (codes "2")
two_is None h = cc
two_is (Some f) h = ap (λ z. Some z) ((bytes_eq-Decides f (codes "2")).0 h)

pub short_header_exact : (fs : List (List ℕ)) → is_short_header fs ≡ true → fs ≡ short_header
unfolding is_short_header
short_header_exact [] h = cc
short_header_exact (f ∷ fs) h =
    let p = both (bytes_eq f (codes "feast")) (is_two (one_field fs)) h in
    λ i. (bytes_eq-Decides f (codes "feast")).0 p.0 i ∷ one_exact fs (codes "2") (two_is (one_field fs) p.1) i
