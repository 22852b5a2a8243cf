-- The tree of the source.
use Rattle.std.proofs.Common.{ℕ, List, [], ◌∷◌, Some, None, false, codes}
use Rattle.feast_base.specs.declared.place.Place.{Place}
use Rattle.ulam_tree.specs.declared.op.PairOp.TheVariants.{Add}
use Rattle.ulam_tree.specs.Raw.{Word, TypeRef, Path, number, reads, calls, pair, arg, no_args, test, if_so, declares, does, no_part, then_so, no_more, field, function, Item, class}

abbrev at : ℕ → ℕ → Place
at line column = record { file = 0; line = line; column = column }

abbrev word : List ℕ → ℕ → ℕ → Word
word name line column = record { name = name; place = at line column }

abbrev named : List ℕ → ℕ → ℕ → TypeRef
named name line column = record { word = word name line column; width = None }

abbrev path : List Word → Path
path words = record { own = None; words = words }

abbrev wander : Item
wander = class (record {
  quark = false;
  word = word (codes "Wander") 1 9;
  members =
      field (named (codes "EventWindow") 1 18) (word (codes "ew") 1 30) None
      ∷ field (named (codes "Random") 1 34) (word (codes "random") 1 41) None
      ∷ function (named (codes "Void") 1 49) (word (codes "behave") 1 54) []
      (then_so
      (declares (named (codes "Unsigned") 2 3) (word (codes "i") 2 12)
      (Some (pair Add (calls (path (word (codes "random") 2 16 ∷ word (codes "create") 2 23 ∷ [])) (arg (number 4 false (at 2 30)) no_args)) (number 1 false (at 2 35)) (at 2 33))))
      (then_so
      (if_so
      (test (calls (path (word (codes "ew") 2 42 ∷ word (codes "isEmpty") 2 45 ∷ [])) (arg (reads (path (word (codes "i") 2 53 ∷ []))) no_args)))
      (does (path (word (codes "ew") 2 57 ∷ word (codes "swap") 2 60 ∷ [])) (arg (number 0 false (at 2 65)) (arg (reads (path (word (codes "i") 2 68 ∷ []))) no_args)))
      no_part)
      no_more))
      ∷ [];
})

abbrev stone : Item
stone = class (record {
  quark = false;
  word = word (codes "Stone") 3 9;
  members = function (named (codes "Void") 3 17) (word (codes "behave") 3 22) [] no_more ∷ [];
})

unfoldable pub tree : List Item
tree = wander ∷ stone ∷ []
