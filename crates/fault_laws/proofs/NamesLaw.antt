-- What holds of the first fault of names.
use Rattle.std.proofs.Common.{◌≡◌, refl, List, [], Some, map}
use Rattle.ulam_tree.specs.Raw.{Item}
use Rattle.ulam_tree.proofs.Means.{means_at}
use Rattle.ulam_names.specs.Faults.{Fault}
use Rattle.ulam_names.specs.Classes as w
use Rattle.ulam_names.specs.ClassRelation.{AreKnown, AreItems}
use Rattle.ulam_names.proofs.ClassMeans.{known_means, items_mean}
use Rattle.fault_laws.specs.NamesFaults.{HoldsAt}
use Rattle.fault_laws.proofs.Fails.{Fails, fails_then, fails_at}
use Rattle.fault_laws.proofs.NamesClasses.{names_fail, items_fail}
use Rattle.fault_laws.proofs.NamesBehave.{behave_fails}
use Rattle.fault_laws.proofs.NamesCycles.{cycles_fail}
use Rattle.fault_laws.proofs.NamesFunctions.{classes_fail}

program_fails : (items : List Item) → Fails (HoldsAt items) (w.program items)
program_fails items =
    let Q : Fault → Type 0 = HoldsAt items in
    fails_then Q (w.class_names [] items) _ (names_fail items [] [] items refl refl) (λ known hk.
    let classes = means_at (AreKnown [] items) (w.class_names [] items) known (known_means [] items) hk in
    fails_then Q (w.items known items) _ (items_fail items known classes [] items refl) (λ hs hh.
    let members = means_at (AreItems known items) (w.items known items) hs (items_mean known items) hh in
    fails_then Q (w.all_behave hs) _ (behave_fails items known [] items hs refl members) (λ _ _.
    fails_then Q (w.none_cyclic (map w.head_of hs) 0 hs) _ (cycles_fail items known classes hs members [] hs refl 0 refl) (λ _ _.
    classes_fail items known classes hs members [] hs refl 0 refl))))

pub first_holds : (items : List Item) (e : Fault) → w.first_fault items ≡ Some e → HoldsAt items e
first_holds items e is = fails_at (HoldsAt items) (w.program items) e (program_fails items) is
