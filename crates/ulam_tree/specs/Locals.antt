-- The locals of a body: the same before and after types are known.
use Rattle.std.specs.Prelude.{List, [], ◌∷◌, ◌++◌}
use Rattle.ulam_tree.specs.declared.resolved.Ty.{Ty}
use Rattle.ulam_tree.specs.Statements.{Statement, Part, Body, block, if_so, while_so, for_all, declares, no_part, part, no_more, then_so}

-- the types of the locals that are declared, in the order of their slots
unfoldable mutual
  pub locals : {E A : Type 0} → Statement E A → List Ty
  locals (block b) = all_locals b
  locals (if_so c x y) = locals x ++ part_locals y
  locals (while_so e x) = locals x
  locals (for_all x e y z) = part_locals x ++ (part_locals y ++ locals z)
  locals (declares of n p e) = of.ty ∷ []
  locals x = []

  pub part_locals : {E A : Type 0} → Part E A → List Ty
  part_locals no_part = []
  part_locals (part x) = locals x

  pub all_locals : {E A : Type 0} → Body E A → List Ty
  all_locals no_more = []
  all_locals (then_so x b) = locals x ++ all_locals b
