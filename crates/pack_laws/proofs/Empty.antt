-- An element file in which nothing stands has no elements, and what `pack` writes of it.
use Rattle.std.proofs.Common.{◌≡◌, List, [], ◌∷◌, ◌++◌, Ok, refl, sym, inr, arith}
use Rattle.code_file.specs.Numbers.{be}
use Rattle.element_set.specs.Sets.{SetValue, AcceptsFiles}
use Rattle.element_set.specs.Stages.{Tree, tree_of}
use Rattle.feast_run.specs.Packed.{pack_text}
use Rattle.feast_run.specs.Told.{IsSet}
use Rattle.pack_laws.specs.Example.{empty_word, example_files, no_elements, packed_word}
use Rattle.pack_laws.specs.PackedFile.{IsPacked}

-- the fronts of a list of one
fronts : {A : Type 0} (P : List A → Type 0) (x : A) → P [] → P (x ∷ []) → (front back : List A) → x ∷ [] ≡ front ++ back → P front
fronts P x none one [] back e = none
fronts P x none one (y ∷ []) back e = let same : x ≡ y = cc in rw (sym same) one
fronts P x none one (y ∷ z ∷ front) back e = absurd cc

abbrev no_tree : Tree
no_tree = record { items = []; heads = record { bases = []; virtuals = [] } }

read : tree_of 0 [] (Ok no_tree)
read = inr (record {
  value = _;
  passed = (([], refl, tt, refl), omega arith);
  rest = (((_, refl, (record { name = _; place = _ }, refl)), fronts _ _ (omega arith) (omega arith)), refl);
})

abbrev pub no_set : SetValue
no_set = record { classes = []; layout = [] }

accepted : AcceptsFiles ((empty_word, []) ∷ []) no_set
accepted = inr (record {
  value = record { files = [] ∷ []; heads = no_tree.heads ∷ [] };
  passed = inr (record { value = no_tree; passed = read; rest = refl });
  rest = inr (record {
    value = [];
    passed = (refl, refl);
    rest = inr (record {
      value = [];
      passed = record { known = []; halves = []; named = refl; declared = refl; behave = tt; apart = tt; whole = refl };
      rest = inr (record { value = []; passed = (refl, refl); rest = inr (record { value = []; passed = refl; rest = ((λ c e at. absurd cc), refl) }) });
    });
  });
})

text_of : no_elements ≡ pack_text no_set
unfolding be
text_of = refl

pub is_set : IsSet example_files (empty_word ∷ []) no_set
is_set = record { sources = (empty_word, []) ∷ []; are_files = (refl, refl, omega arith, tt); accepted = accepted }

pub is_packed : IsPacked example_files (empty_word ∷ []) packed_word
is_packed = record {
  text = no_elements;
  packed = record { set = no_set; is_set = is_set; shown = text_of };
  stands = refl;
  within = omega arith;
}
