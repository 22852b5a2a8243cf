-- Places in files, and their numbers.
use Rattle.std.proofs.Common.{ℕ, ◌≡◌, List, [], ◌∷◌, ◌++◌, length, Some, refl, sym, ap, ◌∙◌, arith}
use Rattle.std.specs.Prelude.{slice_get}
use Rattle.std.proofs.lemmas.Option.{slice_get_within}
use Rattle.feast_base.specs.Outside.{File, file_bytes}
use Rattle.feast_base.specs.declared.place.Place.{Place}
use Rattle.fault_places.specs.Standing.{HoldsIn, StandsIn, IsNumbered}

get_after : (front : List File) (f : File) (fs : List File) → slice_get (front ++ (f ∷ fs)) (length front) ≡ Some f
get_after [] f fs = refl
get_after (x ∷ front) f fs = get_after front f fs

-- each place in a file stands in the files
pub stands_in : (files front : List File) (f : File) (fs : List File) (k : ℕ) → files ≡ front ++ (f ∷ fs) → length front ≡ k → HoldsIn (StandsIn files) k (file_bytes f)
stands_in files front f fs k split at = λ before rest cut. record {
  file = f;
  before = before;
  rest = rest;
  is_file = ap (slice_get files) (sym at) ∙ ap (λ (all : List File). slice_get all (length front)) split ∙ get_after front f fs;
  split = cut;
  is_place = refl;
}

pub stands_numbered : (files : List File) (p : Place) → StandsIn files p → IsNumbered files p
stands_numbered files p s = record {
  file = slice_get_within files p.file s.file s.is_file;
  line = let is = ap (λ (q : Place). q.line) s.is_place in omega (arith, is);
  column = let is = ap (λ (q : Place). q.column) s.is_place in omega (arith, is);
}
