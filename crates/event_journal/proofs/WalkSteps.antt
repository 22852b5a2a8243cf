-- The order of the journal is an order.
use Rattle.std.proofs.Common.{◌≡◌, refl, arith, Bool, true, false}
use Rattle.std.specs.Prelude.{◌⊎◌}
use Rattle.std.proofs.Common.{inl, inr}
use Rattle.std.proofs.lemmas.Bool.Decides.{nat_tests}
use Rattle.event_journal.proofs.Merging.{IsOrder}
use Rattle.cell_grid.specs.declared.record.Record.{Record}
use Rattle.event_journal.specs.Logs.{is_before}

pub before_order : IsOrder is_before
before_order = record {
  irrefl = λ x. grind (arith, nat_tests);
  trans = λ x y z a b. grind (arith, nat_tests, a, b);
  cotrans = λ x y z a. go x y z (is_before x y) (is_before y z) refl refl a;
}
  where
    go : (x y z : Record) (b c : Bool) → is_before x y ≡ b → is_before y z ≡ c → is_before x z ≡ true → (is_before x y ≡ true) ⊎ (is_before y z ≡ true)
    go x y z true c p q a = inl p
    go x y z false true p q a = inr q
    go x y z false false p q a = absurd (grind (arith, nat_tests, p, q, a))
